-- The law `what_is_sent_is_whole`: the frame of a step, at a desk at which each send so far is whole.
use Rattle.std.proofs.Common.{◌≡◌, ◌<◌, ◌^◌, ◌==◌, replicate, ℕ, Bool, List, [], ◌∷◌, ◌++◌, length, Option, Some, None, Ok, Err, subst, arith, sym}
use Rattle.std.specs.List.{AllByRecursion}
use Rattle.wire_base.specs.Maps.{lookup, same_number}
use Rattle.wire_base.specs.Names.{IsName}
use Rattle.authenticators.specs.Sequences.{next_seed, return_of}
use Rattle.authenticators.specs.SecureChannels.{SecureChannelState, key_of_channel}
use Rattle.authenticators.proofs.BlockLaws.{cred_block, zeros_block}
use Rattle.outside.specs.declared.action.Action.{Action}
use Rattle.outside.specs.declared.action.Action.TheVariants as action
use Rattle.outside.specs.declared.event.Event.{Event}
use Rattle.outside.specs.Machine.{Stepped}
use Rattle.rpc_units.specs.declared.unit.Unit.{Unit as RpcUnit}
use Rattle.rpc_units.specs.declared.unit.Body.{Body}
use Rattle.rpc_units.specs.Joining.{context_of}
use Rattle.rpc_units.specs.Writing.{ContextsFit}
use Rattle.rpc_units.proofs.FitLaws.{contexts_fit}
use Rattle.rpc_units.proofs.GrammarLaws.{IsUnit-unit_of}
use Rattle.rpc_units.specs.Calls.{bytes_of_call}
use Rattle.ndr_codec.specs.Parts.{IfThere}
use Rattle.controller_calls.specs.declared.calls.ControllerCall.{ControllerCall}
use Rattle.logon_stubs.specs.declared.calls.Reply.{Reply}
use Rattle.logon_stubs.specs.Ranges.{IsBlock}
use Rattle.logon_stubs.specs.Writing.{written_reply}
use Rattle.account_table.specs.AccountTable.{AccountTable}
use Rattle.account_table.specs.LookUps.{machine_in}
use Rattle.end_links.specs.Agreed.{Agreed}
use Rattle.end_links.specs.Links.{LinkState}
use Rattle.end_links.specs.Serving.{ServedPart}
use Rattle.end_loop.specs.Runs.{actions_of}
use Rattle.controller_calls.specs.Desk.{IsLine, Desk, desk, tell, send_reply, send_stub, take_pair, put_channel, put_pair}
use Rattle.domain_controller.specs.Hearing.{bound_talk, hear}
use Rattle.controller_calls.specs.Opening.{channel_for}
use Rattle.controller_calls.specs.Logons.{judge_info}
use Rattle.logon_stubs.specs.declared.info.Verdict.{Verdict}
use Rattle.interactive_logon.specs.Sessions.{session_limit}
use Rattle.interactive_logon.specs.declared.sessions.Session.{Session}
use Rattle.controller_calls.specs.Logons.{IsServedLevel}
use Rattle.controller_calls.specs.Interactive.{admitted, judge_interactive}
use Rattle.controller_calls.specs.Calls.{asked_of, computer_named}
use Rattle.controller_calls.specs.declared.calls.Asked.{Asked}
use Rattle.controller_calls.specs.declared.calls.Asked.TheVariants as asked
use Rattle.secret_change.specs.Calls.{written_set_reply}
use Rattle.secret_change.specs.Hiding.{show_of}
use Rattle.secret_change.proofs.SetLaws.{reply_stub}
use Rattle.domain_controller.specs.State.{State}
use Rattle.domain_controller.specs.Step.{LinkMap, step_of}
use Rattle.controller_calls.specs.declared.line.Line.{Line}
use Rattle.domain_controller.specs.declared.state.Running.{Running}
use Rattle.domain_controller.specs.declared.state.Talk.{Talk}
use Rattle.controller_calls.specs.declared.state.Work.{Work}
use Rattle.controller_calls.specs.Doing.{Done, computer_or_none, done_asked, done_by, kept_asked, refused_stub, returned_with, set_so, stub_asked}
use Rattle.controller_calls.specs.declared.calls.JudgedCall.{JudgedCall}
use Rattle.controller_calls.specs.declared.calls.JudgedCall.TheVariants.{Interactive, Logoff, Network, NetworkLogoff, Set}
use Rattle.controller_calls.proofs.OutcomeLaws.{JudgedComes, Passes, Refused, challenge_reply, pair_for, texts_kept, texts_have}
use Rattle.domain_controller.specs.declared.hearing.Heard.{Heard}
use Rattle.domain_controller.specs.declared.hearing.Heard.TheVariants as heard
use Rattle.end_links.specs.Whole.{IsWholeIfSent, IsWholeSend}
use Rattle.domain_controller.specs.Whole.{AreChallenges, HasLimit, InRangeDesk, InRangeLinks, InRangePart, InRangeRunning, InRangeState, InRangeTable, InRangeTalk, SendsAreWhole}
use Rattle.end_links.proofs.WholeLaws.{limit_bounds}
use Rattle.end_links.specs.Sending.{response_of}
use Rattle.logon_stubs.specs.Interface.{netlogon_syntax}
use Rattle.domain_controller.proofs.WholeParts.{Fits, IsRoomy, ack_whole, admitted_has, bare_few, challenge_few, fault_whole, hash_table, interactive_fit, interactive_served, interactive_table, logoff_few, judged_fits, judged_served, judged_table, nak_whole, opened_few, passed_few, reply_whole}
use Rattle.domain_controller.specs.Laws.{talk_after}
use Rattle.domain_controller.proofs.UnitLaws.{Acks, AnswerComes, Faults, IsHeardAs, IsWholeCall, Naks, Unbound, bytes_heard}
use Rattle.domain_controller.proofs.WalkLaws.{Trail, UnitLeads, Walks, found_said, step_leads, unit_leads}

-- ---- what is heard of a unit

abbrev pub HeardFits : ℕ → Heard → Type 0
HeardFits link (heard.Close cause) = Unit {0}
HeardFits link (heard.Answer bytes talk) = IsWholeSend bytes × InRangeTalk talk
HeardFits link (heard.Waits talk) = InRangeTalk talk
HeardFits link (heard.Asked line c talk) = IsLine line × InRangeTalk talk

-- what was agreed on stays so
bound_limit : (talk later : Talk) (agreed : Agreed) (joiner : Option RpcUnit) → InRangeTalk talk → talk.binding ≡ Some agreed → later ≡ bound_talk joiner agreed → InRangeTalk later
bound_limit talk later agreed joiner limit bound is =
    subst (λ (said : Talk). InRangeTalk said) (sym is) (subst (λ (binding : Option Agreed). HasLimit binding) bound limit)

answer_fits : (link : ℕ) (unit : RpcUnit) (talk : Talk) (bytes : List ℕ) (later : Talk) → ContextsFit unit.body → InRangeTalk talk → AnswerComes link unit talk bytes later →
    IsWholeSend bytes × InRangeTalk later
answer_fits link unit talk bytes later few limit (Acks send receive group contexts free is same said) = (
  subst (λ (sent : List ℕ). IsWholeSend sent) (sym same) (ack_whole netlogon_syntax unit.call receive contexts (subst (λ (body : Body). ContextsFit body) is few)),
  subst (λ (t : Talk). InRangeTalk t) (sym said) (limit_bounds receive),
)
answer_fits link unit talk bytes later few limit (Naks free same said) =
    (subst (λ (sent : List ℕ). IsWholeSend sent) (sym same) (nak_whole unit.call), subst (λ (t : Talk). InRangeTalk t) (sym said) tt)
answer_fits link unit talk bytes later few limit (Unbound free same said) =
    (subst (λ (sent : List ℕ). IsWholeSend sent) (sym same) (fault_whole unit.call (context_of unit.body) _ (omega arith)), subst (λ (t : Talk). InRangeTalk t) (sym said) tt)
answer_fits link unit talk bytes later few limit (Faults status line small at same) =
    (subst (λ (sent : List ℕ). IsWholeSend sent) (sym same) (fault_whole line.call line.context status small), bound_limit talk later at.agreed _ limit at.bound at.said)

line_of : (link : ℕ) (unit : RpcUnit) (talk : Talk) (line : Line) (later : Talk) → InRangeTalk talk → IsWholeCall link unit talk line later → IsLine line
line_of link unit talk line later limit at =
    let bounds : HasLimit (Some at.agreed) = subst (λ (binding : Option Agreed). HasLimit binding) at.bound limit in
    subst (λ (l : Line). IsLine l) (sym at.line_is) (record { least = bounds.0; most = bounds.1 })

unit_fits : (link : ℕ) (unit : RpcUnit) (talk : Talk) → ContextsFit unit.body → InRangeTalk talk → (h : Heard) → IsHeardAs link unit talk h → HeardFits link h
unit_fits link unit talk few limit (heard.Close cause) known = tt
unit_fits link unit talk few limit (heard.Answer bytes later) known = answer_fits link unit talk bytes later few limit known
unit_fits link unit talk few limit (heard.Waits later) known = bound_limit talk later known.0 _ limit known.1 known.2
unit_fits link unit talk few limit (heard.Asked line c later) known =
    (line_of link unit talk line later limit known.0, bound_limit talk later known.0.agreed _ limit known.0.bound known.0.said)

pub heard_fits : (link : ℕ) (bytes : List ℕ) (talk : Talk) → InRangeTalk talk → HeardFits link (hear link bytes talk)
heard_fits link bytes talk limit =
    bytes_heard (HeardFits link) link bytes talk (λ cause. tt)
    (λ unit h is known. unit_fits link unit talk (contexts_fit bytes unit (IsUnit-unit_of bytes unit is)) limit h known)

line_fits : (link : ℕ) (bytes : List ℕ) (talk later : Talk) (line : Line) (c : ControllerCall) → InRangeTalk talk → hear link bytes talk ≡ heard.Asked line c later → IsLine line
line_fits link bytes talk later line c limit is = (subst (HeardFits link) is (heard_fits link bytes talk limit)).0

pub says : (h : Heard) (link : ℕ) → HeardFits link h → IfThere InRangeTalk (talk_after h)
says (heard.Close cause) link fits = tt
says (heard.Answer bytes talk) link fits = fits.1
says (heard.Waits talk) link fits = fits
says (heard.Asked line c talk) link fits = fits.1

-- ---- a desk at which each send so far is whole

abbrev pub AreWhole : List Action → Type 0
AreWhole actions = AllByRecursion IsWholeIfSent actions

with_one : (actions : List Action) (what : Action) → AreWhole actions → IsWholeIfSent what → AreWhole (actions ++ what ∷ [])
with_one [] what whole is = (is, tt)
with_one (first ∷ actions) what whole is = (whole.0, with_one actions what whole.1 is)

told : (table : AccountTable) (work : Work) (what : Action) → InRangeDesk (desk table work) → IsWholeIfSent what → InRangeDesk (desk table (tell work what))
told table work what fits is = record { sends = with_one work.actions what fits.sends is; table = fits.table }

stub_sent : (table : AccountTable) (work : Work) (line : Line) (stub : List ℕ) → IsLine line → InRangeDesk (desk table work) → IsRoomy stub →
    InRangeDesk (desk table (send_stub work line stub))
stub_sent table work line stub range fits roomy =
    told table work _ fits (reply_whole line.call line.context line.limit stub range.least range.most roomy.few roomy.are)

replied : (table : AccountTable) (work : Work) (line : Line) (answer : Reply) → IsLine line → InRangeDesk (desk table work) → IsRoomy (written_reply answer) →
    InRangeDesk (desk table (send_reply work line answer))
replied table work line answer range fits roomy = stub_sent table work line (written_reply answer) range fits roomy

-- ---- a call on a channel, whatever it asks

set_roomy : (credential : List ℕ) (status : ℕ) → IsBlock 8 credential → status < 2 ^ 32 → IsRoomy (written_set_reply (record { returned = returned_with credential; status = status }))
set_roomy credential status block small =
    let stub = reply_stub (record { returned = returned_with credential; status = status }) (record { returned = record { credential = block; timestamp = omega arith }; status = small }) in
    record { few = omega (arith, stub.short); are = stub.are_bytes }

refused_roomy : (what : Asked) → IsRoomy (refused_stub what)
refused_roomy (asked.Network info validation) = bare_few None validation _ tt
refused_roomy (asked.Interactive info validation) = bare_few None validation _ tt
refused_roomy (asked.Logoff info) = logoff_few None _ tt
refused_roomy asked.NetworkLogoff = logoff_few None _ tt
refused_roomy (asked.Set account kind hidden) = set_roomy (replicate 8 0) _ zeros_block (omega arith)

set_status : (place : Option ℕ) (hash : List ℕ) (table : AccountTable) (sessions : List Session) → (set_so place hash table sessions).status < 2 ^ 32
set_status None hash table sessions = omega arith
set_status (Some place) hash table sessions = omega arith

set_in_range : (place : Option ℕ) (hash : List ℕ) (table : AccountTable) (sessions : List Session) → InRangeTable table → InRangeTable (set_so place hash table sessions).table
set_in_range None hash table sessions fits = fits
set_in_range (Some place) hash table sessions fits = hash_table place hash table fits

pub both_whole : (one two : List Action) → AreWhole one → AreWhole two → AreWhole (one ++ two)
both_whole [] two first second = second
both_whole (what ∷ one) two first second = (first.0, both_whole one two first.1 second)

pub stub_whole : (line : Line) (stub : List ℕ) → IsLine line → IsRoomy stub → IsWholeSend (bytes_of_call (response_of line.call line.context stub) line.limit)
stub_whole line stub range roomy = reply_whole line.call line.context line.limit stub range.least range.most roomy.few roomy.are

module _ (name : List ℕ) (now : ℕ) (is_name : IsName name) (moment : now < 2 ^ 64) where
  done_table : (c : JudgedCall) (computer key : List ℕ) (table : AccountTable) (sessions : List Session) → InRangeTable table →
      InRangeTable (done_asked (asked_of c) computer key name table now sessions).table
  done_table (Network c) computer key table sessions fits = judged_table table name now c.info c.validation fits
  done_table (Interactive c) computer key table sessions fits = interactive_table table name now c.info c.validation key fits
  done_table (Logoff c) computer key table sessions fits = fits
  done_table (NetworkLogoff c) computer key table sessions fits = fits
  done_table (Set c) computer key table sessions fits = set_in_range (machine_in table.accounts c.account c.channel computer) (show_of key c.hidden) table sessions fits

  done_roomy : (c : JudgedCall) (computer key credential : List ℕ) (table : AccountTable) (sessions : List Session) → InRangeTable table → IsBlock 8 credential →
      IsRoomy (stub_asked (asked_of c) key credential (done_asked (asked_of c) computer key name table now sessions))
  done_roomy (Network c) computer key credential table sessions fits block =
      passed_few (judge_info table name now c.info c.validation).verdict c.validation key credential block (judged_fits table name now fits is_name moment c.info c.validation)
      (judged_served table name now c.info c.validation)
  done_roomy (Interactive c) computer key credential table sessions fits block =
      let full : Bool = length sessions == session_limit in
      let verdict : Verdict = (judge_interactive table name now c.info c.validation key).verdict in
      passed_few (admitted full verdict) c.validation key credential block (admitted_has full verdict Fits (interactive_fit table name now fits is_name moment c.info c.validation key))
      (admitted_has full verdict (λ granted. IsServedLevel c.validation) (interactive_served table name now c.info c.validation key))
  done_roomy (Logoff c) computer key credential table sessions fits block = logoff_few (Some _) _ block
  done_roomy (NetworkLogoff c) computer key credential table sessions fits block = logoff_few (Some _) _ block
  done_roomy (Set c) computer key credential table sessions fits block =
      set_roomy credential _ block (set_status (machine_in table.accounts c.account c.channel computer) (show_of key c.hidden) table sessions)

  pub judged_in_range : (line : Line) (c : JudgedCall) (d after : Desk) → IsLine line → InRangeDesk d → JudgedComes c name now line d after → InRangeDesk after
  judged_in_range line c d after range fits (Refused how away) = record {
    sends = subst (λ (actions : List Action). AreWhole actions) (sym away.actions)
        (both_whole d.work.actions _ fits.sends (tt, (stub_whole line (refused_stub (asked_of c)) range (refused_roomy (asked_of c)), tt)));
    table = subst (λ (table : AccountTable). InRangeTable table) (sym away.table) fits.table;
  }
  judged_in_range line c d after range fits (Passes next is) =
      let key : List ℕ = key_of_channel next.channel in
      let done : Done = done_by c next.channel name d.table now d.work.computers.sessions in
      let credential : List ℕ = return_of key next.channel.seed next.given.timestamp in
      let roomy : IsRoomy (stub_asked (asked_of c) key credential done) =
      done_roomy c (computer_or_none (computer_named c)) key credential d.table d.work.computers.sessions fits.table (cred_block key (next_seed next.channel.seed next.given.timestamp)) in
      record {
        sends = subst (λ (actions : List Action). AreWhole actions) (sym is.actions)
            (both_whole d.work.actions _ fits.sends
            (both_whole (kept_asked (asked_of c) done) _ (texts_have IsWholeIfSent (λ text. tt) (kept_asked (asked_of c) done) (texts_kept (asked_of c) done)) (tt, (stub_whole line _ range roomy, tt))));
        table = subst (λ (table : AccountTable). InRangeTable table) (sym is.table)
            (done_table c (computer_or_none (computer_named c)) key d.table d.work.computers.sessions fits.table);
      }

  -- ---- all units, and a step

  abbrev pub InRange : Trail
  InRange calls before left after rest = InRangeDesk before × AreChallenges left → InRangeDesk after × AreChallenges rest

  pub range_walks : Walks name now InRangeTalk HeardFits InRange
  range_walks = record {
    hears = heard_fits;
    says = λ link h fits. says h link fits;
    first = tt;
    same = λ d left fits. fits;
    join = λ one two a b c left rest less first second fits. second (first fits);
    close = λ link cause d left fits. (told d.table d.work (action.Close link cause) fits.0 tt, fits.1);
    answer = λ link bytes talk d left is fits. (told d.table d.work (action.Send link bytes) fits.0 is.0, fits.1);
    unknown = λ link line c talk server d rest is none fits. (replied d.table d.work line (challenge_reply server) is.0 fits.0 (challenge_few server 0 fits.1.0), fits.1.1);
    known = λ link line c talk server d rest is known fits.
        (replied d.table (put_pair c.computer (pair_for c server) d.work) line (challenge_reply server) is.0 (record { sends = fits.0.sends; table = fits.0.table }) (challenge_few server 0 fits.1.0), fits.1.1);
    denied = λ link line c talk status d left is fails none fits.
        (replied d.table (take_pair c.computer d.work) line _ is.0 (record { sends = fits.0.sends; table = fits.0.table }) (opened_few _ zeros_block), fits.1);
    accepted = λ link line c talk d left is opens fits.
        let channel : SecureChannelState = channel_for opens.account opens.pair c in (
          replied d.table (put_channel c.computer channel (take_pair c.computer d.work)) line _ is.0 (record { sends = fits.0.sends; table = fits.0.table })
              (opened_few _ (cred_block (key_of_channel channel) channel.server)),
          fits.1,
        );
    judged = λ link line c talk d left after is comes fits. (judged_in_range line c d after is.0 fits.0 comes, fits.1);
  }

  unit_in_range : (part : ServedPart Desk Talk) (link : ℕ) (h : Heard) (d : Desk) (left : List (List ℕ)) → UnitLeads HeardFits InRange link d left h part → HeardFits link h → InRangeDesk d →
      AreChallenges left → InRangePart part
  unit_in_range (Err why) link h d left leads is fits eight = tt
  unit_in_range (Ok part) link h d left leads is fits eight =
      let one = leads is in
      let range = one.0 (fits, eight) in
      (range.0, subst (λ (said : Option Talk). IfThere InRangeTalk said) (sym one.1) (says h link is), range.1)

-- the link of a number
pub found_link : (number : ℕ) (links : LinkMap) → InRangeLinks links → IfThere (λ (link : LinkState Talk). InRangeTalk link.talk) (lookup same_number number links)
found_link number links range = found_said InRangeTalk number links range

abbrev StepInRange : Stepped State → Type 0
StepInRange stepped = AreWhole (actions_of stepped) × InRangeState stepped.state

step_in_range : (s : State) (what : Event) (now : ℕ) (left : List (List ℕ)) → InRangeState s → now < 2 ^ 64 → AreChallenges left → StepInRange (step_of s what now left)
step_in_range s what now left is moment eight =
    step_leads StepInRange InRangeTalk HeardFits (InRange s.name now is.name moment) s what now left (range_walks s.name now is.name moment) (record {
      stopped = λ none. (tt, is);
      spent = λ running so. (tt, record { name = is.name; table = is.table; running = tt });
      taken = λ running after links rest so said leads.
          let fits = (leads (record { sends = tt; table = is.table }, eight)).0 in
          (fits.sends, record { name = is.name; table = fits.table; running = said });
    }) (λ running so. subst (λ (found : Option Running). InRangeRunning found) so is.running)

pub sends_are_whole : SendsAreWhole
sends_are_whole = record {
  sends = λ s what now left is moment eight. (step_in_range s what now left is moment eight).0;
  keeps = λ s what now left is moment eight. (step_in_range s what now left is moment eight).1;
  first = λ table name range is_name. record { name = is_name; table = range; running = tt };
  unit = λ name now link bytes d talk left is_name moment fits limit eight.
      unit_in_range name now is_name moment _ link (hear link bytes talk) d left
      (unit_leads name now InRangeTalk HeardFits (InRange name now is_name moment) (range_walks name now is_name moment) link d left (hear link bytes talk)) (heard_fits link bytes talk limit) fits eight;
  line = line_fits;
}
