-- What a call and an event come to at a controller that trusts other domains. It serves the calls of `answering` and
-- `links`.
use Rattle.std.proofs.Common.{◌≡◌, ◌+◌, ◌≤◌, ℕ, Bool, true, false, List, length, Option, Some, None, Result, Ok, Err, sym, ap, subst, ◌∙◌, arith}
use Rattle.wire_base.specs.Maps.{lookup, same_number, take_out}
use Rattle.account_table.specs.AccountTable.{AccountTable}
use Rattle.outside.specs.declared.action.StepRefused.{StepRefused}
use Rattle.outside.specs.declared.action.StepRefused.TheVariants.{Memory}
use Rattle.outside.specs.Drawing.{Drawing, DrawsSome}
use Rattle.outside.specs.Machine.{AnswersBy}
use Rattle.outside.proofs.DrawLaws.{DrawsSome-none, IsRest-refl}
use Rattle.channel_turns.specs.Turning.{is_on, is_waiting, link_answers, link_closes, link_hears, no_dial}
use Rattle.controller_calls.specs.Desk.{desk}
use Rattle.controller_calls.specs.Handing.{Handing, judge_call}
use Rattle.controller_calls.specs.declared.calls.JudgedCall.{JudgedCall}
use Rattle.controller_calls.specs.declared.handing.HandOn.{HandOn}
use Rattle.controller_calls.specs.declared.line.Line.{Line}
use Rattle.controller_calls.specs.declared.state.Work.{Work}
use Rattle.domain_controller.specs.Forwarding.{after_handing, answer_trust_call, fits_on, forward_if, trust_desk}
use Rattle.domain_controller.specs.TrustStep.{TrustPart, answer_dial, at_parts, close_by, close_number, fail_dial, on_turn, serve_bytes, serve_on, without_link}
use Rattle.domain_controller.specs.declared.trusting.Parts.{Parts}
use Rattle.domain_controller.specs.declared.trusting.TrustWork.{TrustWork}

-- ---- a call on a secure channel

judged_so : (c : JudgedCall) (name : List ℕ) (now trusts : ℕ) (line : Line) (old new : AccountTable) (w : TrustWork) (judged : Work) (handed : Option HandOn) →
    ◌≡◌ {A = Handing} (desk new judged, handed) (judge_call c (record { name = name; now = now; line = line; trusts = trusts }) (desk old w.work)) →
    trusts ≡ length w.queues.requesters →
    answer_trust_call c name now line (trust_desk old w) ≡ after_handing (desk new judged, handed) line w.queues
judged_so c name now trusts line old new w judged handed is count =
    ap (λ n. after_handing (judge_call c (record { name = name; now = now; line = line; trusts = n }) (desk old w.work)) line w.queues) (sym count)
    ∙ ap (λ (h : Handing). after_handing h line w.queues) (sym is)

-- a call whose logon is handed on
pub handed_on : (c : JudgedCall) (name : List ℕ) (now trusts : ℕ) (line : Line) (old new : AccountTable) (w after : TrustWork) (judged : Work) (found : Option HandOn) (handed : HandOn) →
    ◌≡◌ {A = Handing} (desk new judged, found) (judge_call c (record { name = name; now = now; line = line; trusts = trusts }) (desk old w.work)) →
    trusts ≡ length w.queues.requesters → found ≡ Some handed →
    after ≡ forward_if (fits_on handed.info) handed line (record { work = judged; queues = w.queues }) →
    trust_desk new after ≡ answer_trust_call c name now line (trust_desk old w)
handed_on c name now trusts line old new w after judged found handed is count hands forwards =
    ap (λ (a : TrustWork). trust_desk new a) forwards
    ∙ sym (judged_so c name now trusts line old new w judged found is count ∙ ap (λ (h : Option HandOn). after_handing (desk new judged, h) line w.queues) hands)

-- a call that is answered here
pub answered_here : (c : JudgedCall) (name : List ℕ) (now trusts : ℕ) (line : Line) (old new : AccountTable) (w : TrustWork) (judged : Work) (found : Option HandOn) →
    ◌≡◌ {A = Handing} (desk new judged, found) (judge_call c (record { name = name; now = now; line = line; trusts = trusts }) (desk old w.work)) →
    trusts ≡ length w.queues.requesters → found ≡ None →
    trust_desk new (record { work = judged; queues = w.queues }) ≡ answer_trust_call c name now line (trust_desk old w)
answered_here c name now trusts line old new w judged found is count none =
    sym (judged_so c name now trusts line old new w judged found is count ∙ ap (λ (h : Option HandOn). after_handing (desk new judged, h) line w.queues) none)

pub ruleset handing = (handed_on, answered_here)

-- ---- links that close, and dials

-- the link is the turn's
pub turn_closed : (link : ℕ) (parts after : Parts) → is_on link parts.dialling ≡ true →
    after ≡ on_turn (λ turning. link_closes link turning) parts → after ≡ close_number link parts
turn_closed link parts after on is = is ∙ sym (ap (λ (on : Bool). close_by on link parts) on)

pub dial_answered : (link : ℕ) (parts dropped after : Parts) → is_waiting parts.dialling ≡ true → dropped ≡ without_link link parts →
    after ≡ on_turn (λ turning. (link_answers link turning, None)) dropped → after ≡ answer_dial (is_waiting parts.dialling) link parts
dial_answered link parts dropped after waits drops is =
    is ∙ ap (λ (p : Parts). on_turn (λ turning. (link_answers link turning, None)) p) drops
    ∙ sym (ap (λ (w : Bool). answer_dial w link parts) waits)

pub dial_failed : (parts after : Parts) → is_waiting parts.dialling ≡ true → after ≡ on_turn (λ turning. no_dial turning) parts →
    after ≡ fail_dial (is_waiting parts.dialling) parts
dial_failed parts after waits is = is ∙ sym (ap (λ (w : Bool). fail_dial w parts) waits)

pub ruleset turning = (turn_closed, dial_answered, dial_failed)

-- ---- bytes

abbrev whole_part : AccountTable → Parts → List (List ℕ) → TrustPart
whole_part table parts left = Ok (record { value = record { table = table; parts = parts }; left = left })

-- bytes that come on the link of the turn
pub turn_hears : (name : List ℕ) (now number : ℕ) (piece : List ℕ) (table : AccountTable) (parts after : Parts) (before later : Drawing) →
    is_on number parts.dialling ≡ true → after ≡ on_turn (λ turning. link_hears number piece turning) parts → later ≡ before →
    serve_bytes (is_on number parts.dialling) number piece name now table parts before.left ≡ whole_part table after later.left
turn_hears name now number piece table parts after before later on is still =
    ap (λ (on : Bool). serve_bytes on number piece name now table parts before.left) on
    ∙ ap (λ (p : Parts). whole_part table p before.left) (sym is)
    ∙ ap (λ (d : Drawing). whole_part table after d.left) (sym still)

pub turn_unheard : (name : List ℕ) (now number : ℕ) (piece : List ℕ) (table : AccountTable) (parts : Parts) (before later : Drawing) →
    is_on number parts.dialling ≡ true → later ≡ before →
    AnswersBy (Err Memory) (serve_bytes (is_on number parts.dialling) number piece name now table parts before.left) later.left
turn_unheard name now number piece table parts before later on still =
    subst (λ (is : Bool). AnswersBy (Err Memory) (serve_bytes is number piece name now table parts before.left) later.left) (sym on)
    (subst (λ (d : Drawing). AnswersBy (Err Memory) (serve_bytes true number piece name now table parts before.left) d.left) (sym still) (IsRest-refl before.left))

pub drew_none : (before later : Drawing) → later ≡ before → DrawsSome before later
drew_none before later still = subst (λ (d : Drawing). DrawsSome before d) (sym still) (DrawsSome-none before)

pub drew_few : (before later : Drawing) (most : ℕ) → later ≡ before → length before.left ≤ length later.left + most
drew_few before later most still =
    subst (λ (d : Drawing). length before.left ≤ length d.left + most) (sym still) (omega arith)

-- bytes that come on an accepted link
pub link_hears_them : (result : Result Parts StepRefused) (name : List ℕ) (now number : ℕ) (piece : List ℕ) (old new : AccountTable) (parts : Parts) (before later : List (List ℕ)) →
    is_on number parts.dialling ≡ false →
    AnswersBy (at_parts new result) (serve_on (lookup same_number number parts.links) number piece name now (take_out same_number number parts.links) old parts before) later →
    AnswersBy (at_parts new result) (serve_bytes (is_on number parts.dialling) number piece name now old parts before) later
link_hears_them result name now number piece old new parts before later off answer =
    subst (λ (on : Bool). AnswersBy (at_parts new result) (serve_bytes on number piece name now old parts before) later) (sym off) answer

pub ruleset hearing = (turn_hears, turn_unheard, drew_none, drew_few, link_hears_them)
