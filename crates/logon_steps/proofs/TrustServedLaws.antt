-- The units of a turn on an accepted link of a controller that trusts other domains, and on the link of its own turn;
-- and those who ask at it, of whom one asks for a logon.
-- Of `trusts_stay_beside`, `logons_are_handed_on` and `handed_turns_step`.
use Rattle.std.proofs.Common.{◌≡◌, ℕ, zero, suc, ◌<◌, ◌^◌, Bool, true, false, List, [], ◌∷◌, Option, Some, None, Result, Ok, slice_get, slice_set, refl, sym, ap, ap₂, ◌∙◌, arith, if◌then◌else◌}
use Rattle.std.specs.Option.{option_map}
use Rattle.outside.specs.declared.action.Action.TheVariants as action
use Rattle.rpc_units.specs.declared.unit.Unit.{Unit as RpcUnit}
use Rattle.rpc_units.specs.declared.refused.UnitRefused.{UnitRefused}
use Rattle.rpc_units.specs.declared.refused.JoinRefused.{JoinRefused}
use Rattle.rpc_units.specs.Calls.{bytes_of_call}
use Rattle.rpc_units.specs.Joining.{answer_of, open_after}
use Rattle.rpc_units.specs.Reading.{unit_of}
use Rattle.rpc_units.specs.Stream.{cut_stream}
use Rattle.rpc_units.specs.Writing.{IsSendable, written}
use Rattle.end_links.specs.Binding.{bind_of}
use Rattle.end_links.specs.Sending.{request_of}
use Rattle.end_links.specs.Serving.{IsFragmentOf, JoinsCall, ServedPart, served_cut}
use Rattle.end_links.proofs.ServingLaws.{units_served}
use Rattle.logon_stubs.specs.Interface.{netlogon_syntax}
use Rattle.logon_stubs.specs.Calls.{opnum_of_call}
use Rattle.logon_stubs.specs.Writing.{written_call}
use Rattle.logon_stubs.specs.declared.calls.Call.{Call}
use Rattle.logon_stubs.specs.declared.refused.StubRefused.{StubRefused}
use Rattle.logon_stubs.proofs.WrittenLaws.{call_of-written_call, written_call-content}
use Rattle.secret_change.specs.Calls.{set_opnum, written_set_call}
use Rattle.secret_change.specs.declared.calls.SetCall.{SetCall}
use Rattle.secret_change.specs.declared.refused.SetRefused.{SetRefused}
use Rattle.channel_client.specs.Machine.{can_start}
use Rattle.channel_client.specs.State.{Requester}
use Rattle.channel_client.specs.declared.state.Pending.{Pending}
use Rattle.channel_client.specs.declared.state.Waiting.{Waiting}
use Rattle.controller_calls.specs.declared.calls.ControllerCall.TheVariants as controller_call
use Rattle.controller_calls.specs.declared.calls.JudgedCall.TheVariants as judged_call
use Rattle.controller_calls.specs.declared.line.Line.{Line}
use Rattle.domain_controller.specs.Forwarding.{TrustDesk, beside, by_trust_call, by_trust_heard, trust_server}
use Rattle.domain_controller.specs.Hearing.{bound_talk, first_talk, hear_joined, hear_number, hear_opnum, hear_read, hear_set, hear_stub, hear_whole, served_call}
use Rattle.domain_controller.specs.Machine.{desk, goes_on, tell}
use Rattle.domain_controller.specs.TrustOrder.{NobodyWaits}
use Rattle.domain_controller.specs.TrustStep.{first_waiting, starts}
use Rattle.domain_controller.specs.declared.hearing.Heard.{Heard}
use Rattle.domain_controller.specs.declared.state.Talk.{Talk}
use Rattle.domain_controller.proofs.TrustPlaceLaws.{set_all}
use Rattle.logon_steps.specs.SetTurns.{IsSetTurn, set_request}
use Rattle.logon_steps.specs.Turning.{IsTurnCall, turn_ack, turn_agreed, turn_request}
use Rattle.logon_steps.proofs.SetTurnLaws.{call_read, set_sends}
use Rattle.logon_steps.proofs.StreamLaws.{none_open, read_again, served_one}
use Rattle.logon_steps.proofs.TurningLaws.{netlogon_heard, other_number, request_sends, turn_bind_sends}

-- ---- an accepted link

-- the line of a call of that number on an accepted link
abbrev pub line_at : (link number : ℕ) → Line
line_at link number = record { link = link; call = number; context = 0; limit = 5840 }

pub bind_beside : (name : List ℕ) (now link number : ℕ) (d : TrustDesk) (left : List (List ℕ)) → number < 2 ^ 32 →
    served_cut (trust_server name now link) (cut_stream (written (bind_of netlogon_syntax number))) d first_talk left
    ≡ beside d.work.queues (goes_on (desk d.table (tell d.work.work (action.Send link (written (turn_ack number))))) (bound_talk None turn_agreed) left)
bind_beside name now link number d left below =
    let sends : IsSendable (bind_of netlogon_syntax number) = turn_bind_sends number below in
    served_one (trust_server name now link) (bind_of netlogon_syntax number) d first_talk left sends
    ∙ ap (λ (unit : Result RpcUnit UnitRefused). by_trust_heard (hear_read unit link first_talk) link name now d left) (read_again (bind_of netlogon_syntax number) sends)

-- fragments of a call are joined
abbrev hears_whole : List ℕ → ℕ → ℕ → RpcUnit → TrustDesk → List (List ℕ) → ServedPart TrustDesk Talk
hears_whole name now link call d left = by_trust_heard (hear_whole call.body call.call link turn_agreed (bound_talk None turn_agreed)) link name now d left

fragment_beside : (name : List ℕ) (now link number opnum : ℕ) (stub : List ℕ) (bytes : List ℕ) (unit : RpcUnit) (so_far : Option RpcUnit) (d : TrustDesk) (left : List (List ℕ)) →
    unit_of bytes ≡ Ok unit → IsFragmentOf (request_of number 0 opnum stub) unit →
    (trust_server name now link).unit bytes d (bound_talk so_far turn_agreed) left
    ≡ by_trust_heard (hear_joined (answer_of so_far unit) (open_after so_far unit) link turn_agreed) link name now d left
fragment_beside name now link number opnum stub bytes unit so_far d left read of =
    ap (λ (u : Result RpcUnit UnitRefused). by_trust_heard (hear_read u link (bound_talk so_far turn_agreed)) link name now d left) (read ∙ ap (λ (u : RpcUnit). Ok u) of.is)
    ∙ ap (λ (u : RpcUnit). by_trust_heard (hear_joined (answer_of so_far u) (open_after so_far u) link turn_agreed) link name now d left) (sym of.is)

joins_beside : (name : List ℕ) (now link number opnum : ℕ) (stub : List ℕ) →
    JoinsCall (trust_server name now link) (request_of number 0 opnum stub) (λ (so_far : Option RpcUnit). bound_talk so_far turn_agreed)
    (hears_whole name now link (request_of number 0 opnum stub))
joins_beside name now link number opnum stub = record {
  before = λ bytes unit so_far d left read of answer.
      fragment_beside name now link number opnum stub bytes unit so_far d left read of
      ∙ ap (λ (a : Result (Option RpcUnit) JoinRefused). by_trust_heard (hear_joined a (open_after so_far unit) link turn_agreed) link name now d left) answer;
  last = λ bytes unit so_far d left read of answer.
      fragment_beside name now link number opnum stub bytes unit so_far d left read of
      ∙ ap₂ (λ (a : Result (Option RpcUnit) JoinRefused) (after : Option RpcUnit). by_trust_heard (hear_joined a after link turn_agreed) link name now d left) answer
      (none_open so_far unit (request_of number 0 opnum stub) answer);
}

pub call_beside : (name : List ℕ) (now link number : ℕ) (c : Call) (d : TrustDesk) (left : List (List ℕ)) → number < 2 ^ 32 → IsTurnCall c →
    served_cut (trust_server name now link) (cut_stream (bytes_of_call (turn_request number c) 5840)) d (bound_talk None turn_agreed) left
    ≡ by_trust_call (served_call c) (line_at link number) (bound_talk None turn_agreed) name now d left
call_beside name now link number c d left below is =
    let line : Line = line_at link number in
    let talk : Talk = bound_talk None turn_agreed in
    units_served.call (trust_server name now link) (turn_request number c) 5840 (λ (so_far : Option RpcUnit). bound_talk so_far turn_agreed)
    (hears_whole name now link (turn_request number c)) d left (request_sends number c below is)
    (omega (arith, written_call-content c is.writes is.range, is.short)) (joins_beside name now link number (opnum_of_call c) (written_call c))
    ∙ ap (λ (served : Bool). by_trust_heard (hear_opnum served (opnum_of_call c) (written_call c) line talk) link name now d left) is.served
    ∙ ap (λ (sets : Bool). by_trust_heard (hear_number sets (opnum_of_call c) (written_call c) line talk) link name now d left) (other_number c)
    ∙ ap (λ (read : Result Call StubRefused). by_trust_heard (hear_stub read (opnum_of_call c) (written_call c) line talk) link name now d left) (call_of-written_call c is.writes is.range)
    ∙ ap (λ (what : Heard). by_trust_heard what link name now d left) (netlogon_heard c line talk)

pub set_beside : (name : List ℕ) (now link number : ℕ) (c : SetCall) (d : TrustDesk) (left : List (List ℕ)) → number < 2 ^ 32 → IsSetTurn c →
    served_cut (trust_server name now link) (cut_stream (bytes_of_call (set_request number c) 5840)) d (bound_talk None turn_agreed) left
    ≡ by_trust_call (controller_call.Judged (judged_call.Set c)) (line_at link number) (bound_talk None turn_agreed) name now d left
set_beside name now link number c d left below is =
    let line : Line = line_at link number in
    let talk : Talk = bound_talk None turn_agreed in
    units_served.call (trust_server name now link) (set_request number c) 5840 (λ (so_far : Option RpcUnit). bound_talk so_far turn_agreed)
    (hears_whole name now link (set_request number c)) d left (set_sends number c below is) (omega (arith, is.short))
    (joins_beside name now link number set_opnum (written_set_call c))
    ∙ ap (λ (read : Result SetCall SetRefused). by_trust_heard (hear_set read line talk) link name now d left) (call_read c is)

-- ---- those who ask

pub set_twice : {A : Type 0} (items : List A) (at : ℕ) (one other : A) → slice_set (slice_set items at one) at other ≡ slice_set items at other
set_twice [] at one other = refl
set_twice (first ∷ items) zero one other = refl
set_twice (first ∷ items) (suc at) one other = ap (λ rest. first ∷ rest) (set_twice items at one other)

-- a requester at which nobody waits can't start
never_starts : (turn : Option Pending) (waiting : List Waiting) → waiting ≡ [] → can_start turn waiting ≡ false
never_starts None [] none = refl
never_starts None (logon ∷ logons) none = absurd (let x = none in cc)
never_starts (Some pending) waiting none = refl

abbrev first_by : Bool → Option ℕ → Option ℕ
first_by hit later = if hit then Some 0 else option_map suc later

pub nobody_starts : (requesters : List Requester) → NobodyWaits requesters → first_waiting requesters ≡ None
nobody_starts [] none = refl
nobody_starts (s ∷ requesters) none =
    ap (λ (hit : Bool). first_by hit (first_waiting requesters)) (never_starts s.turn s.waiting none.0)
    ∙ ap (λ (later : Option ℕ). first_by false later) (nobody_starts requesters none.1)

-- where nobody waits at any requester, the one that is put in is the first that can start, if it can
pub one_starts : (requesters : List Requester) (at : ℕ) (old new : Requester) → NobodyWaits requesters → slice_get requesters at ≡ Some old → starts new ≡ true →
    first_waiting (slice_set requesters at new) ≡ Some at
one_starts [] at old new none is can = absurd (let x = is in cc)
one_starts (s ∷ requesters) zero old new none is can = ap (λ (hit : Bool). first_by hit (first_waiting requesters)) can
one_starts (s ∷ requesters) (suc at) old new none is can =
    ap (λ (hit : Bool). first_by hit (first_waiting (slice_set requesters at new))) (never_starts s.turn s.waiting none.0)
    ∙ ap (λ (later : Option ℕ). first_by false later) (one_starts requesters at old new none.1 is can)

-- where nobody waits at any requester, nor at the one that is put in, none can start
pub none_starts : (requesters : List Requester) (at : ℕ) (new : Requester) → NobodyWaits requesters → new.waiting ≡ [] →
    first_waiting (slice_set requesters at new) ≡ None
none_starts requesters at new none is =
    nobody_starts (slice_set requesters at new) (set_all (λ (s : Requester). s.waiting ≡ []) requesters at new none is)
