-- What a unit on a link comes to at a controller, said once: what is heard of it, and what is then done. It serves the
-- laws of all steps.
use Rattle.std.proofs.Common.{◌≡◌, ◌≢◌, ◌==◌, ◌&&◌, ◌<◌, ◌^◌, ℕ, Bool, true, false, List, [], ◌∷◌, ◌++◌, nat_le, Option, Some, None, Result, Ok, Err, refl, sym, ap, subst, ◌∙◌, arith}
use Rattle.std.proofs.lemmas.Bool.Decides.{Decides-eqb}
use Rattle.std.specs.Prelude.{not}
use Rattle.wire_base.specs.Maps.{lookup}
use Rattle.wire_base.specs.Names.{same_name}
use Rattle.outside.specs.declared.action.Action.TheVariants as action
use Rattle.outside.specs.declared.action.CloseCause.{CloseCause}
use Rattle.outside.specs.declared.action.StepRefused.TheVariants as refused
use Rattle.rpc_units.specs.declared.refused.JoinRefused.{JoinRefused}
use Rattle.rpc_units.specs.declared.refused.UnitRefused.{UnitRefused}
use Rattle.rpc_units.specs.declared.unit.Syntax.{Syntax}
use Rattle.rpc_units.specs.declared.unit.Unit.{Unit as RpcUnit}
use Rattle.rpc_units.specs.declared.unit.Body.{Body}
use Rattle.rpc_units.specs.declared.unit.Body.TheVariants.{Bind, BindAck, BindNak, Auth3, Request, Response, Fault}
use Rattle.rpc_units.specs.declared.unit.Trailer.{Trailer}
use Rattle.rpc_units.specs.Joining.{stub_of, with_stub, context_of, opnum_of, key_of, same_key, same_call, in_place, grown, joined_by, joined_of, stub_len, answer_by, answer_of, open_after}
use Rattle.rpc_units.specs.Layout.{kind_by, type_by}
use Rattle.rpc_units.specs.Numbers.{nca_op_rng_error, nca_proto_error, rpc_x_bad_stub_data}
use Rattle.rpc_units.specs.Reading.{unit_of}
use Rattle.rpc_units.specs.Writing.{written}
use Rattle.logon_stubs.specs.declared.calls.Call.{Call}
use Rattle.logon_stubs.specs.declared.calls.Call.TheVariants as netlogon
use Rattle.logon_stubs.specs.declared.calls.AuthCall.{AuthCall}
use Rattle.logon_stubs.specs.declared.calls.ChallengeCall.{ChallengeCall}
use Rattle.logon_stubs.specs.declared.refused.StubRefused.{StubRefused}
use Rattle.logon_stubs.specs.declared.refused.StubRefused.TheVariants as stub_refused
use Rattle.logon_stubs.specs.Calls.{call_of}
use Rattle.logon_stubs.specs.Interface.{netlogon_syntax}
use Rattle.interactive_logon.specs.declared.calls.InteractiveCall.{InteractiveCall}
use Rattle.interactive_logon.specs.Calls.{interactive_of, is_logon}
use Rattle.secret_change.specs.declared.calls.SetCall.{SetCall}
use Rattle.secret_change.specs.declared.refused.SetRefused.{SetRefused}
use Rattle.secret_change.specs.Calls.{set_call_of, set_opnum}
use Rattle.account_table.specs.LookUps.{knows_in}
use Rattle.end_links.specs.Agreed.{Agreed, accepts}
use Rattle.end_links.specs.Binding.{ack_of, nak_of, binding_of}
use Rattle.end_links.specs.Sending.{fault_of}
use Rattle.end_links.specs.Serving.{ServedPart}
use Rattle.controller_calls.specs.Desk.{Desk, desk, put_pair, send_reply, take_pair, tell}
use Rattle.controller_calls.specs.Opening.{account_for, channel_for, deny_channel, open_channel}
use Rattle.controller_calls.specs.declared.calls.ControllerCall.{ControllerCall}
use Rattle.controller_calls.specs.declared.calls.ControllerCall.TheVariants as call
use Rattle.controller_calls.specs.declared.calls.JudgedCall.{JudgedCall}
use Rattle.controller_calls.specs.declared.calls.JudgedCall.TheVariants as judged_call
use Rattle.controller_calls.specs.declared.line.Line.{Line}
use Rattle.controller_calls.proofs.OutcomeLaws.{JudgedComes, OpensAt, challenge_comes, challenge_reply, judged_comes, opening_comes, pair_for}
use Rattle.domain_controller.specs.Hearing.{bound_talk, hear, hear_arm, hear_bound, hear_context, hear_fault, hear_fresh, hear_interactive, hear_joined, hear_netlogon, hear_number, hear_on, hear_opnum, hear_read, hear_refused, hear_set, hear_stub, hear_whole, interactive_by, is_served, served_call}
use Rattle.domain_controller.specs.Machine.{by_call, by_heard, draw_challenge, goes_on}
use Rattle.domain_controller.specs.declared.hearing.Heard.{Heard}
use Rattle.domain_controller.specs.declared.hearing.Heard.TheVariants as heard
use Rattle.domain_controller.specs.declared.state.Talk.{Talk}

-- ---- what is heard

-- the call that is read of a stub
pub data CallRead (opnum : ℕ) (stub : List ℕ) (c : ControllerCall) : Type 0 where
  OfNetlogon : (read : Call) → (opnum == set_opnum) ≡ false → call_of opnum stub ≡ Ok read → c ≡ served_call read → CallRead opnum stub c
  OfInteractive : (read : InteractiveCall) (arm : ℕ) → (opnum == set_opnum) ≡ false → call_of opnum stub ≡ Err (stub_refused.BadArm arm) → (arm == 1) ≡ true →
      interactive_of opnum stub ≡ Ok read → c ≡ call.Judged (interactive_by (is_logon opnum) read) → CallRead opnum stub c
  OfSet : (read : SetCall) → (opnum == set_opnum) ≡ true → set_call_of stub ≡ Ok read → c ≡ call.Judged (judged_call.Set read) → CallRead opnum stub c

-- a request is whole with the unit, on a bound link; its answer goes on that line, and that is said then
pub record IsWholeCall (link : ℕ) (unit : RpcUnit) (talk : Talk) (line : Line) (later : Talk) : Type 0 where
  pub agreed : Agreed
  pub bound : talk.binding ≡ Some agreed
  pub whole : RpcUnit
  pub joined : answer_of talk.joiner unit ≡ Ok (Some whole)
  pub hint : ℕ
  pub context : ℕ
  pub opnum : ℕ
  pub stub : List ℕ
  pub body : whole.body ≡ Request hint context opnum stub
  pub line_is : line ≡ record { link = link; call = whole.call; context = context; limit = agreed.limit }
  pub number : line.call ≡ unit.call
  pub in_context : line.context ≡ context_of unit.body
  pub said : later ≡ bound_talk (open_after talk.joiner unit) agreed

-- a unit that is answered at once
pub data AnswerComes (link : ℕ) (unit : RpcUnit) (talk : Talk) (bytes : List ℕ) (later : Talk) : Type 0 where
  Acks : (send receive group : ℕ) (contexts : List (ℕ × Syntax × List Syntax)) → talk.binding ≡ None → unit.body ≡ Bind send receive group contexts →
      bytes ≡ written (ack_of netlogon_syntax unit.call receive contexts) → later ≡ bound_talk talk.joiner (binding_of netlogon_syntax receive contexts) → AnswerComes link unit talk bytes later
  Naks : talk.binding ≡ None → bytes ≡ written (nak_of unit.call) → later ≡ record { joiner = talk.joiner; binding = None } → AnswerComes link unit talk bytes later
  Unbound : talk.binding ≡ None → bytes ≡ written (fault_of unit.call (context_of unit.body) nca_proto_error) → later ≡ record { joiner = talk.joiner; binding = None } →
      AnswerComes link unit talk bytes later
  Faults : (status : ℕ) (line : Line) → status < 2 ^ 32 → IsWholeCall link unit talk line later → bytes ≡ written (fault_of line.call line.context status) → AnswerComes link unit talk bytes later

abbrev pub IsHeardAs : ℕ → RpcUnit → Talk → Heard → Type 0
IsHeardAs link unit talk (heard.Close cause) = Unit {0}
IsHeardAs link unit talk (heard.Answer bytes later) = AnswerComes link unit talk bytes later
IsHeardAs link unit talk (heard.Waits later) =
    (agreed : Agreed) × (talk.binding ≡ Some agreed) × (later ≡ bound_talk (open_after talk.joiner unit) agreed)
    × ((whole : Option RpcUnit) × (answer_of talk.joiner unit ≡ Ok whole))
IsHeardAs link unit talk (heard.Asked line c later) = (at : IsWholeCall link unit talk line later) × CallRead at.opnum at.stub c

-- ---- a whole call is of its last fragment's number and context

and_first : (one other : Bool) → (one && other) ≡ true → one ≡ true
and_first true other is = refl
and_first false other is = absurd cc

and_second : (one other : Bool) → (one && other) ≡ true → other ≡ true
and_second true other is = is
and_second false other is = absurd cc

same_context : (body : Body) (stub : List ℕ) → context_of (with_stub body stub) ≡ context_of body
same_context (Bind send receive group contexts) stub = refl
same_context (BindAck send receive group results) stub = refl
same_context (BindNak reason) stub = refl
same_context Auth3 stub = refl
same_context (Request hint context opnum own) stub = refl
same_context (Response hint context own) stub = refl
same_context (Fault hint context status) stub = refl

abbrev pub IsOf : RpcUnit → RpcUnit → Type 0
IsOf whole unit = (whole.call ≡ unit.call) × (context_of whole.body ≡ context_of unit.body)

grown_of : (joiner : Option RpcUnit) (unit : RpcUnit) → in_place joiner unit ≡ true → IsOf (grown joiner unit) unit
grown_of None unit place = (refl, refl)
grown_of (Some so_far) unit place =
    let call : same_call so_far unit ≡ true = and_second (not unit.first) (same_call so_far unit) place in
    let key = and_second (so_far.call == unit.call) (same_key (key_of so_far.body) (key_of unit.body)) call in
    let front = and_first (type_by (kind_by so_far.body) == type_by (kind_by unit.body) && context_of so_far.body == context_of unit.body) (opnum_of so_far.body == opnum_of unit.body) key in (
      (Decides-eqb so_far.call unit.call).0 (and_first (so_far.call == unit.call) (same_key (key_of so_far.body) (key_of unit.body)) call),
      same_context so_far.body (stub_of so_far.body ++ stub_of unit.body)
          ∙ (Decides-eqb (context_of so_far.body) (context_of unit.body)).0 (and_second (type_by (kind_by so_far.body) == type_by (kind_by unit.body)) (context_of so_far.body == context_of unit.body) front),
    )

joined_is : (placed fits last : Bool) (grown_unit whole : RpcUnit) → answer_by (joined_by placed fits grown_unit) last ≡ Ok (Some whole) → (placed ≡ true) × (whole ≡ grown_unit)
joined_is true true true grown_unit whole is = let same : grown_unit ≡ whole = cc in (refl, sym same)
joined_is true true false grown_unit whole is = absurd cc
joined_is true false last grown_unit whole is = absurd cc
joined_is false fits last grown_unit whole is = absurd cc

whole_of : (joiner : Option RpcUnit) (unit whole : RpcUnit) → answer_of joiner unit ≡ Ok (Some whole) → IsOf whole unit
unfolding joined_of
whole_of joiner unit whole is =
    let parts = joined_is (in_place joiner unit) (nat_le (stub_len joiner unit) 65536) unit.last (grown joiner unit) whole is in
    subst (λ w. IsOf w unit) (sym parts.1) (grown_of joiner unit parts.0)

-- ---- the unit

module _ (link : ℕ) (unit : RpcUnit) (talk : Talk) where
  abbrev Comes : Heard → Type 0
  Comes h = IsHeardAs link unit talk h

  fresh_heard : (body : Body) (trailer : Option Trailer) → talk.binding ≡ None → unit.body ≡ body → Comes (hear_fresh body trailer unit.call talk.joiner)
  fresh_heard (Bind send receive group contexts) None free is = Acks send receive group contexts free is refl refl
  fresh_heard (Bind send receive group contexts) (Some trailer) free is = Naks free refl refl
  fresh_heard (Request hint context opnum stub) trailer free is =
      let same : context_of unit.body ≡ context = ap context_of is in
      Unbound free (ap (λ n. written (fault_of unit.call n nca_proto_error)) (sym same)) refl
  fresh_heard (BindAck send receive group results) trailer free is = tt
  fresh_heard (BindNak reason) trailer free is = tt
  fresh_heard Auth3 trailer free is = tt
  fresh_heard (Response hint context stub) trailer free is = tt
  fresh_heard (Fault hint context status) trailer free is = tt

  module _ (line : Line) (later : Talk) (at : IsWholeCall link unit talk line later) where
    fault_heard : (status : ℕ) → status < 2 ^ 32 → Comes (hear_fault line status later)
    fault_heard status small = Faults status line small at refl

    netlogon_heard : (c : Call) → (at.opnum == set_opnum) ≡ false → call_of at.opnum at.stub ≡ Ok c → Comes (hear_netlogon c line later)
    netlogon_heard (netlogon.Challenge c) other is = (at, OfNetlogon (netlogon.Challenge c) other is refl)
    netlogon_heard (netlogon.Authenticate c) other is = (at, OfNetlogon (netlogon.Authenticate c) other is refl)
    netlogon_heard (netlogon.Logon c) other is = (at, OfNetlogon (netlogon.Logon c) other is refl)
    netlogon_heard (netlogon.Logoff c) other is = (at, OfNetlogon (netlogon.Logoff c) other is refl)

    interactive_heard : (read : Result InteractiveCall StubRefused) (arm : ℕ) → (at.opnum == set_opnum) ≡ false → call_of at.opnum at.stub ≡ Err (stub_refused.BadArm arm) → (arm == 1) ≡ true →
        interactive_of at.opnum at.stub ≡ read → Comes (hear_interactive read (is_logon at.opnum) line later)
    interactive_heard (Err why) arm other refuses one is = fault_heard rpc_x_bad_stub_data (omega arith)
    interactive_heard (Ok c) arm other refuses one is = (at, OfInteractive c arm other refuses one is refl)

    arm_heard : (is_interactive : Bool) (arm : ℕ) → (at.opnum == set_opnum) ≡ false → call_of at.opnum at.stub ≡ Err (stub_refused.BadArm arm) → (arm == 1) ≡ is_interactive →
        Comes (hear_arm is_interactive at.opnum at.stub line later)
    arm_heard false arm other refuses is = fault_heard rpc_x_bad_stub_data (omega arith)
    arm_heard true arm other refuses is = interactive_heard (interactive_of at.opnum at.stub) arm other refuses is refl

    refused_heard : (why : StubRefused) → (at.opnum == set_opnum) ≡ false → call_of at.opnum at.stub ≡ Err why → Comes (hear_refused why at.opnum at.stub line later)
    refused_heard (stub_refused.BadArm arm) other is = arm_heard (arm == 1) arm other is refl
    refused_heard (stub_refused.NoSuchCall more) other is = fault_heard rpc_x_bad_stub_data (omega arith)
    refused_heard (stub_refused.BadStub place) other is = fault_heard rpc_x_bad_stub_data (omega arith)
    refused_heard stub_refused.Memory other is = fault_heard rpc_x_bad_stub_data (omega arith)

    stub_heard : (read : Result Call StubRefused) → (at.opnum == set_opnum) ≡ false → call_of at.opnum at.stub ≡ read → Comes (hear_stub read at.opnum at.stub line later)
    stub_heard (Err why) other is = refused_heard why other is
    stub_heard (Ok c) other is = netlogon_heard c other is

    set_heard : (read : Result SetCall SetRefused) → (at.opnum == set_opnum) ≡ true → set_call_of at.stub ≡ read → Comes (hear_set read line later)
    set_heard (Err why) same is = fault_heard rpc_x_bad_stub_data (omega arith)
    set_heard (Ok c) same is = (at, OfSet c same is refl)

    number_heard : (is_set : Bool) → (at.opnum == set_opnum) ≡ is_set → Comes (hear_number is_set at.opnum at.stub line later)
    number_heard false is = stub_heard (call_of at.opnum at.stub) is refl
    number_heard true is = set_heard (set_call_of at.stub) is refl

    opnum_heard : (served : Bool) → Comes (hear_opnum served at.opnum at.stub line later)
    opnum_heard false = fault_heard nca_op_rng_error (omega arith)
    opnum_heard true = number_heard (at.opnum == set_opnum) refl

    context_heard : (accepted : Bool) → Comes (hear_context accepted at.opnum at.stub line later)
    context_heard false = fault_heard nca_proto_error (omega arith)
    context_heard true = opnum_heard (is_served at.opnum)

  module _ (agreed : Agreed) (bound : talk.binding ≡ Some agreed) where
    abbrev after : Talk
    after = bound_talk (open_after talk.joiner unit) agreed

    whole_heard : (body : Body) (whole : RpcUnit) → answer_of talk.joiner unit ≡ Ok (Some whole) → whole.body ≡ body → Comes (hear_whole body whole.call link agreed after)
    whole_heard (Request hint context opnum stub) whole joined is =
        let of : IsOf whole unit = whole_of talk.joiner unit whole joined in
        context_heard (record { link = link; call = whole.call; context = context; limit = agreed.limit }) after (record {
          agreed = agreed;
          bound = bound;
          whole = whole;
          joined = joined;
          hint = hint;
          context = context;
          opnum = opnum;
          stub = stub;
          body = is;
          line_is = refl;
          number = of.0;
          in_context = sym (ap context_of is) ∙ of.1;
          said = refl;
        }) (accepts agreed context)
    whole_heard (Bind send receive group contexts) whole joined is = (agreed, bound, refl, (Some whole, joined))
    whole_heard (BindAck send receive group results) whole joined is = (agreed, bound, refl, (Some whole, joined))
    whole_heard (BindNak reason) whole joined is = (agreed, bound, refl, (Some whole, joined))
    whole_heard Auth3 whole joined is = (agreed, bound, refl, (Some whole, joined))
    whole_heard (Response hint context stub) whole joined is = (agreed, bound, refl, (Some whole, joined))
    whole_heard (Fault hint context status) whole joined is = (agreed, bound, refl, (Some whole, joined))

    joined_heard : (answer : Result (Option RpcUnit) JoinRefused) → answer_of talk.joiner unit ≡ answer → Comes (hear_joined answer (open_after talk.joiner unit) link agreed)
    joined_heard (Err why) is = tt
    joined_heard (Ok None) is = (agreed, bound, refl, (None, is))
    joined_heard (Ok (Some whole)) is = whole_heard whole.body whole is refl

    bound_heard : (body : Body) (trailer : Option Trailer) → Comes (hear_bound body trailer unit link talk.joiner agreed)
    bound_heard (Request hint context opnum stub) (Some trailer) = tt
    bound_heard (Request hint context opnum stub) None = joined_heard (answer_of talk.joiner unit) refl
    bound_heard (Bind send receive group contexts) trailer = tt
    bound_heard (BindAck send receive group results) trailer = tt
    bound_heard (BindNak reason) trailer = tt
    bound_heard Auth3 trailer = tt
    bound_heard (Response hint context stub) trailer = tt
    bound_heard (Fault hint context status) trailer = tt

  unit_heard_on : (binding : Option Agreed) → talk.binding ≡ binding → Comes (hear_on binding unit link talk.joiner)
  unit_heard_on None free = fresh_heard unit.body unit.trailer free refl
  unit_heard_on (Some agreed) bound = bound_heard agreed bound unit.body unit.trailer

  pub unit_heard : Comes (hear_on talk.binding unit link talk.joiner)
  unit_heard = unit_heard_on talk.binding refl

-- of its bytes: what isn't a unit closes the link
module _ (Fits : Heard → Type 0) (link : ℕ) (bytes : List ℕ) (talk : Talk) (closes : (cause : CloseCause) → Fits (heard.Close cause))
    (fits : (unit : RpcUnit) (h : Heard) → unit_of bytes ≡ Ok unit → IsHeardAs link unit talk h → Fits h) where
  read_comes : (read : Result RpcUnit UnitRefused) → unit_of bytes ≡ read → Fits (hear_read read link talk)
  read_comes (Err why) is = closes _
  read_comes (Ok unit) is = fits unit (hear_on talk.binding unit link talk.joiner) is (unit_heard link unit talk)

  pub bytes_heard : Fits (hear link bytes talk)
  bytes_heard = read_comes (unit_of bytes) refl

-- ---- what is done then

-- what is heard, and what it comes to at that desk, with the challenges that are left
abbrev pub UnitFact : Type 1
UnitFact = Heard → ServedPart Desk Talk → Type 0

pub record UnitCases (Comes : UnitFact) (link : ℕ) (name : List ℕ) (now : ℕ) (d : Desk) (left : List (List ℕ)) : Type 0 where
  pub close : (cause : CloseCause) →
      Comes (heard.Close cause) (Ok (record { value = (desk d.table (tell d.work (action.Close link cause)), None); left = left }))
  pub answer : (bytes : List ℕ) (talk : Talk) → Comes (heard.Answer bytes talk) (goes_on (desk d.table (tell d.work (action.Send link bytes))) talk left)
  pub waits : (talk : Talk) → Comes (heard.Waits talk) (goes_on d talk left)
  -- NetrServerReqChallenge: no challenge is left, or one is drawn, and waits where the computer is known
  pub spent : (line : Line) (c : ChallengeCall) (talk : Talk) → left ≡ [] → Comes (heard.Asked line (call.Challenge c) talk) (Err refused.Spent)
  pub unknown : (line : Line) (c : ChallengeCall) (talk : Talk) (server : List ℕ) (rest : List (List ℕ)) → left ≡ server ∷ rest → knows_in d.table.accounts c.computer ≡ false →
      Comes (heard.Asked line (call.Challenge c) talk) (goes_on (desk d.table (send_reply d.work line (challenge_reply server))) talk rest)
  pub known : (line : Line) (c : ChallengeCall) (talk : Talk) (server : List ℕ) (rest : List (List ℕ)) → left ≡ server ∷ rest → knows_in d.table.accounts c.computer ≡ true →
      Comes (heard.Asked line (call.Challenge c) talk)
      (goes_on (desk d.table (send_reply (put_pair c.computer (pair_for c server) d.work) line (challenge_reply server))) talk rest)
  -- NetrServerAuthenticate2
  pub denied : (line : Line) (c : AuthCall) (talk : Talk) (status : ℕ) → status ≢ 0 → (OpensAt d c → ⊥) →
      Comes (heard.Asked line (call.Authenticate c) talk) (goes_on (desk d.table (deny_channel (take_pair c.computer d.work) line c.flags status)) talk left)
  pub accepted : (line : Line) (c : AuthCall) (talk : Talk) (opens : OpensAt d c) →
      Comes (heard.Asked line (call.Authenticate c) talk)
      (goes_on (desk d.table (open_channel true (channel_for opens.account opens.pair c) line c (take_pair c.computer d.work))) talk left)
  -- a call on a secure channel
  pub judged : (line : Line) (c : JudgedCall) (talk : Talk) (after : Desk) → JudgedComes c name now line d after →
      Comes (heard.Asked line (call.Judged c) talk) (goes_on after talk left)

module _ (Comes : UnitFact) (link : ℕ) (name : List ℕ) (now : ℕ) (d : Desk) (left : List (List ℕ)) (cases : UnitCases Comes link name now d left) where
  draw_comes : (some : List (List ℕ)) (line : Line) (c : ChallengeCall) (talk : Talk) → left ≡ some → Comes (heard.Asked line (call.Challenge c) talk) (draw_challenge some line c talk d)
  draw_comes [] line c talk is = cases.spent line c talk is
  draw_comes (server ∷ rest) line c talk is =
      challenge_comes (λ after. Comes (heard.Asked line (call.Challenge c) talk) (goes_on after talk rest)) line c server d (record {
        unknown = λ none. cases.unknown line c talk server rest is none;
        known = λ known. cases.known line c talk server rest is known;
      })

  call_comes : (c : ControllerCall) (line : Line) (talk : Talk) → Comes (heard.Asked line c talk) (by_call c line talk name now d left)
  call_comes (call.Challenge c) line talk = draw_comes left line c talk refl
  call_comes (call.Authenticate c) line talk =
      opening_comes (λ after. Comes (heard.Asked line (call.Authenticate c) talk) (goes_on (desk d.table after) talk left))
      (account_for d.table c) (lookup same_name c.computer d.work.computers.pending) line c (take_pair c.computer d.work) (record {
        denied = λ status fails none. cases.denied line c talk status fails none;
        accepted = λ opens. cases.accepted line c talk opens;
      })
  call_comes (call.Judged c) line talk = cases.judged line c talk _ (judged_comes c name now line d)

  pub heard_comes : (h : Heard) → Comes h (by_heard h link name now d left)
  heard_comes (heard.Close cause) = cases.close cause
  heard_comes (heard.Answer bytes talk) = cases.answer bytes talk
  heard_comes (heard.Waits talk) = cases.waits talk
  heard_comes (heard.Asked line c talk) = call_comes c line talk
