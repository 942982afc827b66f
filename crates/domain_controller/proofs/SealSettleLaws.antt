-- Where a link was closed or a dial answered, a step of a controller that can seal leaves no more events to make than
-- before. It serves that the steps of `Controller::step` settle.
use Rattle.std.proofs.Common.{◌≡◌, ℕ, ◌+◌, ◌≤◌, Bool, true, false, List, [], ◌∷◌, length, Option, Some, None, Result, Ok, Err, refl, ap, arith, slice_get}
use Rattle.wire_base.specs.Maps.{lookup}
use Rattle.logon_stubs.specs.declared.info.Verdict.{Verdict}
use Rattle.account_table.specs.AccountTable.{AccountTable}
use Rattle.account_table.specs.declared.account.Trust.{Trust}
use Rattle.outside.specs.declared.action.Action.TheVariants as action
use Rattle.outside.specs.declared.action.CloseCause.TheVariants as close
use Rattle.outside.specs.declared.action.StepRefused.{StepRefused}
use Rattle.outside.specs.declared.event.Event.{Event}
use Rattle.outside.specs.declared.event.Event.TheVariants as event
use Rattle.outside.specs.Machine.{Part, then_part}
use Rattle.end_loop.specs.Acts.{is_made, most_made_by}
use Rattle.channel_client.specs.Machine.{can_start, needs_challenge}
use Rattle.channel_client.specs.State.{Requester}
use Rattle.channel_turns.specs.Dials.{NextTurn, next_by}
use Rattle.channel_turns.specs.Turning.{Turned, dial_for, dial_part, is_on, is_waiting, link_answers, link_closes, no_dial}
use Rattle.channel_turns.specs.declared.state.Turning.{Turning}
use Rattle.controller_calls.specs.Seals.{seal_reply, stands}
use Rattle.controller_calls.specs.Handing.{forwarded_reply}
use Rattle.controller_calls.specs.declared.line.Line.{Line}
use Rattle.logon_stubs.specs.Writing.{written_reply}
use Rattle.domain_controller.specs.SealServing.{answer_asked, answer_on_line, answer_sealed, answer_standing, answered_by}
use Rattle.domain_controller.specs.SealStep.{SealStepPart, after_answered, answer_ended, asked_in, close_answered, end_verdict, seal_answer_dial, seal_close_by, seal_close_number, seal_event_and_turn, seal_fail_dial, seal_turn_at}
use Rattle.domain_controller.specs.Sealing.{asked_without, unseal_link, with_seals, without_asked}
use Rattle.domain_controller.specs.TrustStep.{after_turned, answer_dial, close_by, fail_dial, first_waiting, is_idle, next_if, next_part, next_turn, parts_of, start_at, start_on, trusting_after, trusting_weight, turn_at, turning_of, with_work, without_link}
use Rattle.domain_controller.specs.Trusting.{same_place}
use Rattle.domain_controller.specs.declared.sealed.SealedCall.{SealedCall}
use Rattle.domain_controller.specs.declared.sealed.Sealing.{Sealing}
use Rattle.domain_controller.specs.declared.state.Running.{Running}
use Rattle.domain_controller.specs.declared.trusting.Parts.{Parts}
use Rattle.domain_controller.specs.declared.trusting.Queues.{Queues}
use Rattle.domain_controller.specs.declared.trusting.TrustWork.{TrustWork}
use Rattle.domain_controller.specs.declared.trusting.Trusting.{Trusting}
use Rattle.domain_controller.proofs.TrustSettleLaws.{FitsPart, answered, closed_on, failed, made_more, next_fits, same_count, taken_count, weight_of}

-- ---- logons from sealed links that were asked

asked_same : (number : ℕ) (asked : List ((ℕ × ℕ) × SealedCall)) → length (asked_without number asked) ≡ length asked
asked_same number [] = refl
asked_same number (entry ∷ asked) = omega (arith, asked_same number asked)

-- what comes of one that is answered: no more is to be made than before, and who waits stays
record Answers (w : TrustWork) (s : Sealing) (spare : ℕ) (done : (TrustWork × Sealing) × Option ℕ) : Type 0 where
  made : most_made_by done.0.0.work.actions + length done.0.1.asked ≤ most_made_by w.work.actions + length s.asked + spare
  queues : done.0.0.queues ≡ w.queues

bytes_answer : (bytes : Option (List ℕ)) (line : Line) (w : TrustWork) (s : Sealing) → Answers w s 1 (answered_by bytes line w s)
bytes_answer None line w s =
    record { made = omega (arith, made_more w.work.actions (action.Close line.link close.BadAuthentication ∷ [])); queues = refl }
bytes_answer (Some bytes) line w s = record { made = omega (arith, made_more w.work.actions (action.Send line.link bytes ∷ [])); queues = refl }

standing_answers : (has : Bool) (c : SealedCall) (line : Line) (verdict : Verdict) (w : TrustWork) (s : Sealing) → Answers w s 1 (answer_standing has c line verdict w s)
standing_answers false c line verdict w s = record { made = omega arith; queues = refl }
standing_answers true c line verdict w s =
    let sealed = seal_reply c.reply line (written_reply (forwarded_reply c.call verdict)) s.seals in
    let one = bytes_answer sealed.bytes line w (with_seals sealed.seals s) in
    record { made = one.made; queues = one.queues }

line_answers : (line : Option Line) (c : SealedCall) (verdict : Verdict) (w : TrustWork) (s : Sealing) → Answers w s 1 (answer_on_line line c verdict w s)
line_answers None c verdict w s = record { made = omega arith; queues = refl }
line_answers (Some line) c verdict w s = standing_answers (stands c.reply.link s.seals) c line verdict w s

found_answers : (found : Option SealedCall) (place : ℕ × ℕ) (verdict : Verdict) (w : TrustWork) (s : Sealing) → lookup same_place place s.asked ≡ found →
    Answers w s 0 (answer_sealed found place verdict w s)
found_answers None place verdict w s is = record { made = omega arith; queues = refl }
found_answers (Some c) place verdict w s is =
    let one = line_answers c.call.line c verdict w (without_asked place s) in
    record { made = omega (arith, one.made, taken_count place s.asked c is); queues = one.queues }

asked_answers : (place : ℕ × ℕ) (verdict : Verdict) (w : TrustWork) (s : Sealing) → Answers w s 0 (answer_asked place verdict w s)
asked_answers place verdict w s = found_answers (lookup same_place place s.asked) place verdict w s refl

-- ---- what is to be made at most

abbrev total : Parts × Sealing → ℕ
total done = most_made_by done.0.work.work.actions + weight_of done.0 + length done.1.asked

closes_same : (closed : Option ℕ) (p : Parts) (s : Sealing) → total (close_answered closed p s) ≡ total (p, s)
closes_same None p s = refl
closes_same (Some number) p s = omega (arith, same_count number p.work.queues.forwarded, asked_same number s.asked)

with_queues_weight : (p : Parts) (w : TrustWork) → w.queues ≡ p.work.queues → weight_of (with_work p w) ≡ weight_of p
with_queues_weight p w same = ap (λ (q : Queues). trusting_weight (record { queues = q; turn_of = p.turn_of; dialling = p.dialling; sealing = None })) same

ended_total : (verdict : Option (ℕ × Verdict)) (trust : ℕ) (p : Parts) (s : Sealing) → total (after_answered (answer_ended verdict trust p.work s) p) ≤ total (p, s)
ended_total None trust p s = omega arith
ended_total (Some answer) trust p s =
    let done = answer_asked (trust, answer.0) answer.1 p.work s in
    let one = asked_answers (trust, answer.0) answer.1 p.work s in
    omega (arith, closes_same done.1 (with_work p done.0.0) done.0.1, one.made, with_queues_weight p done.0.0 one.queues)

turn_total : (found : Option Requester) (happens : Turning → Turned) (p : Parts) (s : Sealing) → total (seal_turn_at found happens p s) ≤ total (turn_at found happens p, s)
turn_total None happens p s = omega arith
turn_total (Some channel) happens p s =
    let turned = happens (turning_of channel p) in
    ended_total (end_verdict turned.1) p.turn_of (after_turned p.turn_of turned p) s

close_total : (hit : Bool) (number : ℕ) (p : Parts) (s : Sealing) → total (seal_close_by hit number p s) ≤ total (close_by hit number p, s)
close_total false number p s = omega (arith, asked_same number s.asked)
close_total true number p s = turn_total (slice_get p.work.queues.requesters p.turn_of) (λ turning. link_closes number turning) p s

dial_total : (waits : Bool) (number : ℕ) (p : Parts) (s : Sealing) → total (seal_answer_dial waits number p s) ≤ total (answer_dial waits number p, s)
dial_total false number p s = omega arith
dial_total true number p s =
    let dropped = without_link number p in
    omega (arith, turn_total (slice_get dropped.work.queues.requesters dropped.turn_of) (λ turning. (link_answers number turning, None)) dropped (unseal_link number s), asked_same number s.asked)

fail_total : (waits : Bool) (p : Parts) (s : Sealing) → total (seal_fail_dial waits p s) ≤ total (fail_dial waits p, s)
fail_total false p s = omega arith
fail_total true p s = turn_total (slice_get p.work.queues.requesters p.turn_of) (λ turning. no_dial turning) p s

-- ---- the next turn, whatever was done before

abbrev bare : Parts → Parts
bare p = record p { work = record p.work { work = record p.work.work { actions = [] } } }

abbrev Within : ℕ → Result (Part Parts) StepRefused → Type 0
Within most (Err why) = Unit {0}
Within most (Ok part) = most_made_by part.value.work.work.actions + weight_of part.value ≤ most

fits_within : (most : ℕ) (part : Result (Part Parts) StepRefused) → FitsPart most part → Within most part
fits_within most (Err why) fits = tt
fits_within most (Ok part) fits = fits.within

start_goes : (start : Option (Unit {0} × List (List ℕ))) (peer : List ℕ) (trust : ℕ) (channel : Requester) (p : Parts) (left : List (List ℕ)) (most : ℕ) →
    Within most (next_part (after_turned trust (dial_for start peer (turning_of channel (bare p)), None) (bare p)) left) →
    Within (most_made_by p.work.work.actions + most) (next_part (after_turned trust (dial_for start peer (turning_of channel p), None) p) left)
start_goes None peer trust channel p left most within = omega (arith, within)
start_goes (Some start) peer trust channel p left most within = omega (arith, within, made_more p.work.work.actions (action.Dial peer ∷ []))

abbrev dialled : Result (Part NextTurn) StepRefused → List ℕ → ℕ → Requester → Parts → Result (Part Parts) StepRefused
dialled part peer trust s p = then_part (then_part part (dial_part peer (turning_of s p))) (λ turning rest. next_part (after_turned trust (turning, None) p) rest)

part_goes : (part : Result (Part NextTurn) StepRefused) (peer : List ℕ) (trust : ℕ) (s : Requester) (p : Parts) (most : ℕ) → Within most (dialled part peer trust s (bare p)) →
    Within (most_made_by p.work.work.actions + most) (dialled part peer trust s p)
part_goes (Err why) peer trust s p most within = tt
part_goes (Ok part) peer trust s p most within = start_goes part.value.1 peer trust part.value.0 p part.left most within

on_goes : (found : Option Requester) (entry : Option Trust) (trust now : ℕ) (p : Parts) (left : List (List ℕ)) (most : ℕ) → Within most (start_on found entry trust now (bare p) left) →
    Within (most_made_by p.work.work.actions + most) (start_on found entry trust now p left)
on_goes None entry trust now p left most within = omega (arith, within)
on_goes (Some s) None trust now p left most within = omega (arith, within)
on_goes (Some s) (Some entry) trust now p left most within =
    part_goes (next_by (can_start s.turn s.waiting) (needs_challenge s.standing) now s left) entry.address trust s p most within

at_goes : (first : Option ℕ) (trusts : List Trust) (now : ℕ) (p : Parts) (left : List (List ℕ)) (most : ℕ) → Within most (start_at first trusts now (bare p) left) →
    Within (most_made_by p.work.work.actions + most) (start_at first trusts now p left)
at_goes None trusts now p left most within = omega (arith, within)
at_goes (Some trust) trusts now p left most within = on_goes (slice_get p.work.queues.requesters trust) (slice_get trusts trust) trust now p left most within

if_goes : (idle : Bool) (trusts : List Trust) (now : ℕ) (p : Parts) (left : List (List ℕ)) (most : ℕ) → Within most (next_if idle trusts now (bare p) left) →
    Within (most_made_by p.work.work.actions + most) (next_if idle trusts now p left)
if_goes false trusts now p left most within = omega (arith, within)
if_goes true trusts now p left most within = at_goes (first_waiting p.work.queues.requesters) trusts now p left most within

next_within : (trusts : List Trust) (now : ℕ) (p : Parts) (left : List (List ℕ)) → Within (most_made_by p.work.work.actions + weight_of p) (next_turn trusts now p left)
next_within trusts now p left =
    if_goes (is_idle p.dialling) trusts now p left (weight_of p)
    (fits_within (weight_of p) (next_turn trusts now (bare p) left) (next_fits trusts (weight_of p) now (bare p) left (record { quiet = tt; within = omega arith })))

-- ---- the step

abbrev pub SealWithin : SealStepPart → ℕ → Type 0
SealWithin (Err why) most = Unit {0}
SealWithin (Ok part) most =
    most_made_by part.value.rest.parts.work.work.actions + trusting_weight (trusting_after part.value.rest.parts) + asked_in part.value.sealing ≤ most

with_rest : (part : Result (Part Parts) StepRefused) (table : AccountTable) (s : Sealing) (most : ℕ) → Within most part →
    SealWithin (then_part part (λ later last. Ok (record { value = record { rest = record { table = table; parts = later }; sealing = Some s }; left = last }))) (most + length s.asked)
with_rest (Err why) table s most within = tt
with_rest (Ok part) table s most within = omega (arith, within)

more : (part : SealStepPart) (one other : ℕ) → one ≤ other → SealWithin part one → SealWithin part other
more (Err why) one other le within = tt
more (Ok part) one other le within = omega (arith, le, within)

-- what an event comes to, and then the next turn
then_turn : (trusts : List Trust) (now : ℕ) (table : AccountTable) (done : Parts × Sealing) (left : List (List ℕ)) (most : ℕ) → total done ≤ most →
    SealWithin (then_part (next_turn trusts now done.0 left) (λ later last. Ok (record { value = record { rest = record { table = table; parts = later }; sealing = Some done.1 }; left = last }))) most
then_turn trusts now table done left most fits =
    more _ (most_made_by done.0.work.work.actions + weight_of done.0 + length done.1.asked) most fits
    (with_rest (next_turn trusts now done.0 left) table done.1 (most_made_by done.0.work.work.actions + weight_of done.0) (next_within trusts now done.0 left))

pub settles : (trusts : List Trust) (what : Event) (name : List ℕ) (now : ℕ) (table : AccountTable) (running : Running) (trusting : Trusting) (s : Sealing) (left : List (List ℕ)) → is_made what ≡ true →
    SealWithin (seal_event_and_turn trusts what name now table (parts_of running trusting) s left) (trusting_weight trusting + length s.asked)
settles trusts (event.Closed number) name now table running trusting s left is =
    let p : Parts = parts_of running trusting in
    let fits = closed_on p.dialling (is_on number p.dialling) (trusting_weight trusting) number p refl refl (record { quiet = tt; within = omega arith }) in
    then_turn trusts now table (seal_close_number number p s) left (trusting_weight trusting + length s.asked)
    (omega (arith, close_total (is_on number p.dialling) number p s, fits.within))
settles trusts (event.Dialled number) name now table running trusting s left is =
    let p : Parts = parts_of running trusting in
    let fits = answered p.dialling (trusting_weight trusting) number p refl (record { quiet = tt; within = omega arith }) in
    then_turn trusts now table (seal_answer_dial (is_waiting p.dialling) number p s) left (trusting_weight trusting + length s.asked)
    (omega (arith, dial_total (is_waiting p.dialling) number p s, fits.within))
settles trusts event.DialFailed name now table running trusting s left is =
    let p : Parts = parts_of running trusting in
    let fits = failed p.dialling (trusting_weight trusting) p refl (record { quiet = tt; within = omega arith }) in
    then_turn trusts now table (seal_fail_dial (is_waiting p.dialling) p s) left (trusting_weight trusting + length s.asked)
    (omega (arith, fail_total (is_waiting p.dialling) p s, fits.within))
settles trusts (event.Opened number) name now table running trusting s left is = absurd (let x = is in cc)
settles trusts (event.Bytes number bytes) name now table running trusting s left is = absurd (let x = is in cc)
settles trusts event.Stop name now table running trusting s left is = absurd (let x = is in cc)
