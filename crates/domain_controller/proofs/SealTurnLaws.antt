-- The turn that is out, and links that close, at a controller that can seal. It serves the calls of `seal_turning` and
-- `seal_links`.
use Rattle.std.proofs.Common.{◌≡◌, ◌≤◌, ◌<◌, ℕ, Bool, true, false, nat_lt, List, length, Option, Some, None, Result, Ok, Err, IfOk, slice_get, refl, sym, ap, subst, ◌∙◌, arith}
use Rattle.std.proofs.lemmas.Bool.Decides.{nat_tests}
use Rattle.std.proofs.lemmas.Option.{slice_get_past}
use Rattle.wire_base.specs.Maps.{lookup, same_number, take_out}
use Rattle.wire_base.specs.declared.memory.NoMemory.{NoMemory}
use Rattle.account_table.specs.AccountTable.{AccountTable}
use Rattle.outside.specs.declared.action.StepRefused.{StepRefused}
use Rattle.outside.specs.declared.action.StepRefused.TheVariants.{Memory}
use Rattle.outside.specs.Drawing.{Drawing}
use Rattle.outside.specs.Machine.{AnswersBy}
use Rattle.outside.proofs.DrawLaws.{IsRest-refl}
use Rattle.channel_client.specs.State.{Requester}
use Rattle.channel_turns.specs.Turning.{Turned, is_on, is_waiting, link_answers, link_closes, link_hears, no_dial}
use Rattle.channel_turns.specs.declared.state.Turning.{Turning}
use Rattle.domain_controller.specs.SealStep.{answer_turned, at_seal_parts, seal_answer_dial, seal_close_by, seal_close_number, seal_fail_dial, seal_on_turn, seal_part, seal_serve_bytes, seal_serve_on, seal_turn_at, seal_turned}
use Rattle.domain_controller.specs.Sealing.{unseal_link}
use Rattle.domain_controller.specs.TrustStep.{on_turn, turn_at, turning_of, without_link}
use Rattle.domain_controller.specs.TurnApart.{beside_of, put_back}
use Rattle.domain_controller.specs.declared.sealed.Sealing.{Sealing}
use Rattle.domain_controller.specs.declared.trusting.Parts.{Parts}
use Rattle.domain_controller.specs.declared.turning.Beside.{Beside}
use Rattle.domain_controller.proofs.ForwardLaws.{put_in_place, some_inside}
use Rattle.domain_controller.proofs.TrustEventLaws.{drew_few, drew_none}

-- ---- a requester that is taken out for its turn

turned : (happens : Turning → Turned) (parts : Parts) (s : Sealing) (after : Parts × Sealing) (turning : Turning) (done : Turned) (beside : Beside) →
    parts.turn_of < length parts.work.queues.requesters → slice_get parts.work.queues.requesters parts.turn_of ≡ Some turning.channel →
    turning ≡ turning_of turning.channel parts → beside ≡ beside_of parts.turn_of parts → done ≡ happens turning →
    after ≡ answer_turned done.1 parts.turn_of (put_back parts.turn_of done beside) s → after ≡ seal_on_turn happens parts s
turned happens parts s after turning done beside lt at is rest happened put =
    put ∙ ap (λ (b : Beside). answer_turned done.1 parts.turn_of (put_back parts.turn_of done b) s) rest
    ∙ ap (λ (p : Parts). answer_turned done.1 parts.turn_of p s) (put_in_place parts.turn_of done parts lt)
    ∙ ap (λ (d : Turned). seal_turned parts.turn_of d parts s) (happened ∙ ap (λ (t : Turning). happens t) is)
    ∙ sym (ap (λ found. seal_turn_at found happens parts s) at)

pub turned_if : (result : Result (Parts × Sealing) NoMemory) (happens : Turning → Turned) (parts : Parts) (s : Sealing) (turning : Turning) (done : Turned) (beside : Beside) →
    slice_get parts.work.queues.requesters parts.turn_of ≡ Some turning.channel → turning ≡ turning_of turning.channel parts →
    beside ≡ beside_of parts.turn_of parts → done ≡ happens turning →
    IfOk result (λ after. after ≡ answer_turned done.1 parts.turn_of (put_back parts.turn_of done beside) s) →
    IfOk result (λ after. after ≡ seal_on_turn happens parts s)
turned_if (Ok after) happens parts s turning done beside at is rest happened put =
    turned happens parts s after turning done beside (some_inside parts.work.queues.requesters parts.turn_of turning.channel at) at is rest happened put
turned_if (Err why) happens parts s turning done beside at is rest happened put = tt

pub unturned : (happens : Turning → Turned) (parts : Parts) (s : Sealing) → nat_lt parts.turn_of (length parts.work.queues.requesters) ≡ false →
    (parts, s) ≡ seal_on_turn happens parts s
unturned happens parts s past =
    let le : length parts.work.queues.requesters ≤ parts.turn_of = grind (arith, nat_tests) in
    sym (ap (λ found. seal_turn_at found happens parts s) (slice_get_past parts.work.queues.requesters parts.turn_of le))

-- a turn that doesn't end seals nothing
goes_by : (found : Option Requester) (goes : Turning → Turning) (parts : Parts) (s : Sealing) →
    seal_turn_at found (λ turning. (goes turning, None)) parts s ≡ (turn_at found (λ turning. (goes turning, None)) parts, s)
goes_by None goes parts s = refl
goes_by (Some channel) goes parts s = refl

goes_on : (goes : Turning → Turning) (parts : Parts) (s : Sealing) →
    seal_on_turn (λ turning. (goes turning, None)) parts s ≡ (on_turn (λ turning. (goes turning, None)) parts, s)
goes_on goes parts s = goes_by (slice_get parts.work.queues.requesters parts.turn_of) goes parts s

-- ---- links that close, and dials

pub turn_closed : (link : ℕ) (parts : Parts) (s : Sealing) (after : Parts × Sealing) → is_on link parts.dialling ≡ true →
    after ≡ seal_on_turn (λ turning. link_closes link turning) parts s → after ≡ seal_close_number link parts s
turn_closed link parts s after on is = is ∙ sym (ap (λ (on : Bool). seal_close_by on link parts s) on)

pub link_dropped : (link : ℕ) (parts : Parts) (s : Sealing) (after : Parts × Sealing) → is_on link parts.dialling ≡ false →
    after ≡ (without_link link parts, unseal_link link s) → after ≡ seal_close_number link parts s
link_dropped link parts s after off is = is ∙ sym (ap (λ (on : Bool). seal_close_by on link parts s) off)

pub dial_answered : (link : ℕ) (parts bound : Parts) (s : Sealing) (dropped : Parts × Sealing) → is_waiting parts.dialling ≡ true →
    dropped ≡ (without_link link parts, unseal_link link s) → bound ≡ on_turn (λ turning. (link_answers link turning, None)) dropped.0 →
    (bound, dropped.1) ≡ seal_answer_dial (is_waiting parts.dialling) link parts s
dial_answered link parts bound s dropped waits drops is =
    ap (λ (p : Parts). (p, dropped.1)) is
    ∙ ap (λ (d : Parts × Sealing). (on_turn (λ turning. (link_answers link turning, None)) d.0, d.1)) drops
    ∙ sym (goes_on (λ turning. link_answers link turning) (without_link link parts) (unseal_link link s))
    ∙ sym (ap (λ (w : Bool). seal_answer_dial w link parts s) waits)

pub dial_failed : (parts : Parts) (s : Sealing) (after : Parts × Sealing) → is_waiting parts.dialling ≡ true →
    after ≡ seal_on_turn (λ turning. no_dial turning) parts s → after ≡ seal_fail_dial (is_waiting parts.dialling) parts s
dial_failed parts s after waits is = is ∙ sym (ap (λ (w : Bool). seal_fail_dial w parts s) waits)

pub ruleset turning = (turn_closed, link_dropped, dial_answered, dial_failed)

-- ---- bytes

-- bytes that come on the link of the turn
pub turn_hears : (name : List ℕ) (now number : ℕ) (piece : List ℕ) (table : AccountTable) (parts : Parts) (s : Sealing) (after : Parts × Sealing) (before later : Drawing) →
    is_on number parts.dialling ≡ true → after ≡ seal_on_turn (λ turning. link_hears number piece turning) parts s → later ≡ before →
    seal_serve_bytes (is_on number parts.dialling) number piece name now table parts s before.left ≡ seal_part table after later.left
turn_hears name now number piece table parts s after before later on is still =
    ap (λ (on : Bool). seal_serve_bytes on number piece name now table parts s before.left) on
    ∙ ap (λ (p : Parts × Sealing). seal_part table p before.left) (sym is)
    ∙ ap (λ (d : Drawing). seal_part table after d.left) (sym still)

pub turn_unheard : (name : List ℕ) (now number : ℕ) (piece : List ℕ) (table : AccountTable) (parts : Parts) (s : Sealing) (before later : Drawing) →
    is_on number parts.dialling ≡ true → later ≡ before →
    AnswersBy (Err Memory) (seal_serve_bytes (is_on number parts.dialling) number piece name now table parts s before.left) later.left
turn_unheard name now number piece table parts s before later on still =
    subst (λ (is : Bool). AnswersBy (Err Memory) (seal_serve_bytes is number piece name now table parts s before.left) later.left) (sym on)
    (subst (λ (d : Drawing). AnswersBy (Err Memory) (seal_serve_bytes true number piece name now table parts s before.left) d.left) (sym still) (IsRest-refl before.left))

-- bytes that come on an accepted link
pub link_hears_them : (result : Result (Parts × Sealing) StepRefused) (name : List ℕ) (now number : ℕ) (piece : List ℕ) (old new : AccountTable) (parts : Parts) (s : Sealing) (before later : List (List ℕ)) →
    is_on number parts.dialling ≡ false →
    AnswersBy (at_seal_parts new result) (seal_serve_on (lookup same_number number parts.links) number piece name now (take_out same_number number parts.links) old parts s before) later →
    AnswersBy (at_seal_parts new result) (seal_serve_bytes (is_on number parts.dialling) number piece name now old parts s before) later
link_hears_them result name now number piece old new parts s before later off answer =
    subst (λ (on : Bool). AnswersBy (at_seal_parts new result) (seal_serve_bytes on number piece name now old parts s before) later) (sym off) answer

pub ruleset hearing = (turn_hears, turn_unheard, drew_none, drew_few, link_hears_them)
