-- What a step of a controller that trusts other domains makes where a link was closed or a dial was answered: it closes
-- nothing, and leaves no more events to be made than before. It serves `what_is_closed_closes_none`, and that the steps
-- of `Controller::step` settle.
use Rattle.std.proofs.Common.{◌≡◌, ℕ, zero, suc, ◌+◌, ◌*◌, ◌≤◌, ◌++◌, Bool, true, false, List, [], ◌∷◌, length, replicate, Option, Some, None, Result, Ok, Err, refl, sym, ap, subst, ◌∙◌, arith, slice_get, slice_set, if◌then◌else◌}
use Rattle.std.specs.List.{AllByRecursion}
use Rattle.authenticators.specs.Timestamps.{timestamp_of}
use Rattle.wire_base.specs.Maps.{has_key, lookup, take_out}
use Rattle.logon_stubs.specs.declared.calls.Reply.{Reply}
use Rattle.logon_stubs.specs.declared.info.Verdict.{Verdict}
use Rattle.logon_stubs.specs.declared.info.Verdict.TheVariants.{Status}
use Rattle.logon_stubs.specs.Status.{no_logon_servers}
use Rattle.logon_stubs.specs.Writing.{written_reply}
use Rattle.rpc_units.specs.Calls.{bytes_of_call}
use Rattle.end_links.specs.Sending.{joined_frames, response_of}
use Rattle.account_table.specs.declared.account.Trust.{Trust}
use Rattle.outside.specs.Machine.{step_by, then_part}
use Rattle.outside.specs.declared.action.Action.{Action}
use Rattle.outside.specs.declared.action.Action.TheVariants as action
use Rattle.outside.specs.declared.action.Judged.TheVariants as judged
use Rattle.outside.specs.declared.action.DropCause.{DropCause}
use Rattle.outside.specs.declared.action.DropCause.TheVariants as drop_cause
use Rattle.outside.specs.declared.action.StepRefused.{StepRefused}
use Rattle.outside.specs.declared.event.Event.{Event}
use Rattle.outside.specs.declared.event.Event.TheVariants as event
use Rattle.outside.specs.Machine.{Part}
use Rattle.end_links.specs.Links.{LinkState}
use Rattle.end_loop.specs.Acts.{is_made, most_made_by}
use Rattle.end_loop.specs.Runs.{actions_of}
use Rattle.channel_client.specs.Machine.{Starting, can_start, later_logons, lose_of, needs_challenge, start_by as start_turn_by}
use Rattle.channel_client.specs.State.{Requester}
use Rattle.channel_client.specs.declared.state.Pending.{Pending}
use Rattle.channel_client.specs.declared.state.Waiting.{Waiting}
use Rattle.channel_turns.specs.Dials.{next_by}
use Rattle.channel_turns.specs.Turning.{close_if, dial_for, dial_part, drop_turn, is_on, is_waiting, link_answers, link_closes, no_dial}
use Rattle.channel_turns.specs.declared.state.Dialling.{Dialling}
use Rattle.channel_turns.specs.declared.state.Dialling.TheVariants as dialling
use Rattle.channel_turns.specs.declared.state.Turning.{Turning}
use Rattle.controller_calls.specs.Forwarded.{ForwardedState}
use Rattle.controller_calls.specs.Handing.{forwarded_reply, reply_if}
use Rattle.controller_calls.specs.Desk.{tell}
use Rattle.controller_calls.specs.Logons.{status_of}
use Rattle.controller_calls.specs.declared.line.Line.{Line}
use Rattle.controller_calls.specs.declared.state.Work.{Work}
use Rattle.domain_controller.specs.Forwarding.{answer_found, answer_place, calls_without}
use Rattle.domain_controller.specs.State.{State}
use Rattle.domain_controller.specs.TrustLaws.{ClosesNone, ClosesNoLink, IsWithin, Settles}
use Rattle.domain_controller.specs.TrustStep.{TrustPart, TrustParts, after_turned, answer_dial, close_by, close_number, dial_weight, event_and_turn, fail_dial, first_waiting, idle_by, is_idle, next_if, next_part, next_turn, parts_of, start_at, start_on, trust_halted, trust_part, trust_state_after, trust_step_on, trusting_after, trusting_weight, turn_at, turn_weight, turned_work, turning_of, waiting_weight, without_link}
use Rattle.domain_controller.specs.Trusting.{ForwardedCalls, same_place}
use Rattle.domain_controller.specs.declared.state.Running.{Running}
use Rattle.domain_controller.specs.declared.trusting.Parts.{Parts}
use Rattle.domain_controller.specs.declared.trusting.TrustWork.{TrustWork}

-- ---- actions

pub made_more : (actions more : List Action) → most_made_by (actions ++ more) ≡ most_made_by actions + most_made_by more
made_more [] more = omega arith
made_more (b ∷ actions) more = omega (arith, made_more actions more)

quiet_more : (actions more : List Action) → AllByRecursion ClosesNoLink actions → AllByRecursion ClosesNoLink more → AllByRecursion ClosesNoLink (actions ++ more)
quiet_more [] more all also = also
quiet_more (b ∷ actions) more all also = (all.0, quiet_more actions more all.1 also)

-- ---- what waits

set_weight : (requesters : List Requester) (at : ℕ) (old new : Requester) → slice_get requesters at ≡ Some old →
    waiting_weight (slice_set requesters at new) + 2 * length old.waiting ≡ waiting_weight requesters + 2 * length new.waiting
set_weight [] at old new there = absurd cc
set_weight (s ∷ requesters) zero old new there =
    let is : s ≡ old = (let x = there in cc) in
    let same : length s.waiting ≡ length old.waiting = ap (λ (r : Requester). length r.waiting) is in
    omega (arith, same)
set_weight (s ∷ requesters) (suc at) old new there = omega (arith, set_weight requesters at old new there)

got_same : (requesters : List Requester) (at : ℕ) (old new : Requester) → slice_get requesters at ≡ Some old → slice_get (slice_set requesters at new) at ≡ Some new
got_same [] at old new there = absurd cc
got_same (s ∷ requesters) zero old new there = refl
got_same (s ∷ requesters) (suc at) old new there = got_same requesters at old new there

-- ---- logons that were asked

pub same_count : (number : ℕ) (calls : ForwardedCalls) → length (calls_without number calls) ≡ length calls
same_count number [] = refl
same_count number (entry ∷ calls) = omega (arith, same_count number calls)

out_by : {V : Type 0} (b : Bool) (entry : (ℕ × ℕ) × V) (calls taken : List ((ℕ × ℕ) × V)) (found : Option V) (f : V) →
    (found ≡ Some f → length taken + 1 ≡ length calls) → (if b then Some entry.1 else found) ≡ Some f →
    length (if b then calls else entry ∷ taken) + 1 ≡ length (entry ∷ calls)
out_by true entry calls taken found f ih is = omega arith
out_by false entry calls taken found f ih is = omega (arith, ih is)

pub taken_count : {V : Type 0} (key : ℕ × ℕ) (calls : List ((ℕ × ℕ) × V)) (f : V) → lookup same_place key calls ≡ Some f →
    length (take_out same_place key calls) + 1 ≡ length calls
taken_count key [] f is = absurd (let x = is in cc)
taken_count key (entry ∷ calls) f is =
    out_by (has_key same_place key entry) entry calls (take_out same_place key calls) (lookup same_place key calls) f (taken_count key calls f) is

-- ---- a place that ended

-- nothing is closed, no more is to be made than before, and who waits stays
record Ends (before after : TrustWork) : Type 0 where
  quiet : AllByRecursion ClosesNoLink before.work.actions → AllByRecursion ClosesNoLink after.work.actions
  less : most_made_by after.work.actions + length after.queues.forwarded ≤ most_made_by before.work.actions + length before.queues.forwarded
  requesters : after.queues.requesters ≡ before.queues.requesters

abbrev sent : Line → Reply → List Action
sent line answer = action.Send line.link (bytes_of_call (response_of line.call line.context (written_reply answer)) line.limit) ∷ []

reply_quiet : (line : Option Line) (answer : Reply) (work : Work) → AllByRecursion ClosesNoLink work.actions → AllByRecursion ClosesNoLink (reply_if line answer work).actions
reply_quiet None answer work all = all
reply_quiet (Some line) answer work all = quiet_more work.actions (sent line answer) all (tt, tt)

reply_made : (line : Option Line) (answer : Reply) (work : Work) → most_made_by (reply_if line answer work).actions ≤ most_made_by work.actions + 1
reply_made None answer work = omega arith
reply_made (Some line) answer work = omega (arith, made_more work.actions (sent line answer))

abbrev told_of : Verdict → Work → Work
told_of verdict work = tell work (action.Judged (judged.Answered (status_of verdict)))

told_made : (verdict : Verdict) (work : Work) → most_made_by (told_of verdict work).actions ≡ most_made_by work.actions
told_made verdict work = omega (arith, made_more work.actions (action.Judged (judged.Answered (status_of verdict)) ∷ []))

found_ends : (found : Option ForwardedState) (place : ℕ × ℕ) (verdict : Verdict) (w : TrustWork) → lookup same_place place w.queues.forwarded ≡ found →
    Ends w (answer_found found place verdict w)
found_ends None place verdict w is = record { quiet = λ all. all; less = omega arith; requesters = refl }
found_ends (Some f) place verdict w is =
    let told : Work = told_of verdict w.work in
    record {
      quiet = λ all. reply_quiet f.line (forwarded_reply f verdict) told (quiet_more w.work.actions (action.Judged (judged.Answered (status_of verdict)) ∷ []) all (tt, tt));
      less = omega (arith, reply_made f.line (forwarded_reply f verdict) told, told_made verdict w.work, taken_count place w.queues.forwarded f is);
      requesters = refl;
    }

place_ends : (place : ℕ × ℕ) (verdict : Verdict) (w : TrustWork) → Ends w (answer_place place verdict w)
place_ends place verdict w = found_ends (lookup same_place place w.queues.forwarded) place verdict w refl

-- ---- within a step

abbrev pub weight_of : Parts → ℕ
weight_of p = trusting_weight (trusting_after p)

-- nothing was closed, and at most `most` events are to be made
pub record Fits (most : ℕ) (p : Parts) : Type 0 where
  pub quiet : AllByRecursion ClosesNoLink p.work.work.actions
  pub within : most_made_by p.work.work.actions + weight_of p ≤ most

abbrev pub FitsPart : ℕ → Result (Part Parts) StepRefused → Type 0
FitsPart most (Err why) = Unit {0}
FitsPart most (Ok part) = Fits most part.value

abbrev made_in : Parts → ℕ
made_in p = most_made_by p.work.work.actions + length p.work.queues.forwarded + waiting_weight p.work.queues.requesters

-- ---- a turn that is lost

waiting_less : (waiting : List Waiting) → 2 * length (later_logons waiting) + 2 ≤ 2 * length waiting + idle_by waiting
waiting_less [] = omega arith
waiting_less (logon ∷ logons) = omega arith

idle_first : (first : Option ℕ) (whose : Option Requester) → turn_weight dialling.Nothing first whose ≤ 2
idle_first None whose = omega arith
idle_first (Some trust) whose = omega arith

lost_fits : (most : ℕ) (cause : DropCause) (s : Requester) (p : Parts) → slice_get p.work.queues.requesters p.turn_of ≡ Some s →
    AllByRecursion ClosesNoLink p.work.work.actions → made_in p + idle_by s.waiting ≤ most →
    Fits most (after_turned p.turn_of (drop_turn cause s p.work.work.actions) p)
lost_fits most cause s p is quiet out =
    let mid : TrustWork = turned_work p.turn_of (drop_turn cause s p.work.work.actions).0 p.work in
    let after : TrustWork = (after_turned p.turn_of (drop_turn cause s p.work.work.actions) p).work in
    let ends : Ends mid after = place_ends _ (Status no_logon_servers) mid in
    let weight = ap (λ (requesters : List Requester). waiting_weight requesters) ends.requesters in
    record {
      quiet = ends.quiet quiet;
      within = omega (
        arith,
        out,
        ends.less,
        weight,
        set_weight p.work.queues.requesters p.turn_of s (lose_of s).state is,
        waiting_less s.waiting,
        idle_first (first_waiting after.queues.requesters) (slice_get after.queues.requesters p.turn_of),
      );
    }

-- with a turn out, whose requester is there
out_on : (most number : ℕ) (said : LinkState _) (s : Requester) (p : Parts) → slice_get p.work.queues.requesters p.turn_of ≡ Some s → p.dialling ≡ dialling.On number said →
    most_made_by p.work.work.actions + weight_of p ≤ most → made_in p + idle_by s.waiting ≤ most
out_on most number said s p is on within =
    let turn : turn_weight p.dialling (first_waiting p.work.queues.requesters) (slice_get p.work.queues.requesters p.turn_of) ≡ idle_by s.waiting
    = ap (λ (how : Dialling). turn_weight how (first_waiting p.work.queues.requesters) (slice_get p.work.queues.requesters p.turn_of)) on
    ∙ ap (λ (whose : Option Requester). turn_weight (dialling.On number said) (first_waiting p.work.queues.requesters) whose) is in
    omega (arith, within, turn)

out_waits : (most : ℕ) (turn : Unit {0}) (frames : List (List ℕ)) (s : Requester) (p : Parts) → slice_get p.work.queues.requesters p.turn_of ≡ Some s →
    p.dialling ≡ dialling.Waits turn frames → most_made_by p.work.work.actions + weight_of p ≤ most → made_in p + idle_by s.waiting ≤ most
out_waits most turn frames s p is on within =
    let weight : turn_weight p.dialling (first_waiting p.work.queues.requesters) (slice_get p.work.queues.requesters p.turn_of) ≡ idle_by s.waiting
    = ap (λ (how : Dialling). turn_weight how (first_waiting p.work.queues.requesters) (slice_get p.work.queues.requesters p.turn_of)) on
    ∙ ap (λ (whose : Option Requester). turn_weight (dialling.Waits turn frames) (first_waiting p.work.queues.requesters) whose) is in
    omega (arith, within, weight)

-- ---- links that close, and dials

without_fits : (most number : ℕ) (p : Parts) → Fits most p → Fits most (without_link number p)
without_fits most number p fits = record { quiet = fits.quiet; within = omega (arith, fits.within, same_count number p.work.queues.forwarded) }

closed_at : (found : Option Requester) (most number other : ℕ) (said : LinkState _) (p : Parts) → slice_get p.work.queues.requesters p.turn_of ≡ found →
    p.dialling ≡ dialling.On other said → is_on number p.dialling ≡ true → Fits most p → Fits most (turn_at found (λ turning. link_closes number turning) p)
closed_at None most number other said p is on hits fits = fits
closed_at (Some s) most number other said p is on hits fits =
    subst (λ (b : Bool). Fits most (after_turned p.turn_of (close_if b (turning_of s p)) p)) (sym hits)
    (lost_fits most drop_cause.LinkClosed s p is fits.quiet (out_on most other said s p is on fits.within))

pub closed_on : (how : Dialling) (hit : Bool) (most number : ℕ) (p : Parts) → p.dialling ≡ how → is_on number how ≡ hit → Fits most p → Fits most (close_by hit number p)
closed_on how false most number p on is fits = without_fits most number p fits
closed_on dialling.Nothing true most number p on is fits = absurd (let x = is in cc)
closed_on (dialling.Waits turn frames) true most number p on is fits = absurd (let x = is in cc)
closed_on (dialling.On other said) true most number p on is fits =
    closed_at (slice_get p.work.queues.requesters p.turn_of) most number other said p refl on (ap (λ (how : Dialling). is_on number how) on ∙ is) fits

failed_at : (found : Option Requester) (most : ℕ) (turn : Unit {0}) (frames : List (List ℕ)) (p : Parts) → slice_get p.work.queues.requesters p.turn_of ≡ found →
    p.dialling ≡ dialling.Waits turn frames → Fits most p → Fits most (turn_at found (λ turning. no_dial turning) p)
failed_at None most turn frames p is on fits = fits
failed_at (Some s) most turn frames p is on fits =
    subst (λ (turned : _). Fits most (after_turned p.turn_of turned p)) (sym (ap (λ (how : Dialling). no_dial (record (turning_of s p) { dialling = how })) on))
    (lost_fits most drop_cause.DialFailed s p is fits.quiet (out_waits most turn frames s p is on fits.within))

pub failed : (how : Dialling) (most : ℕ) (p : Parts) → p.dialling ≡ how → Fits most p → Fits most (fail_dial (is_waiting how) p)
failed dialling.Nothing most p on fits = fits
failed (dialling.On other said) most p on fits = fits
failed (dialling.Waits turn frames) most p on fits = failed_at (slice_get p.work.queues.requesters p.turn_of) most turn frames p refl on fits

same_set : (requesters : List Requester) (at : ℕ) (s : Requester) → slice_get requesters at ≡ Some s → slice_set requesters at s ≡ requesters
same_set [] at s there = absurd cc
same_set (r ∷ requesters) zero s there =
    let is : r ≡ s = (let x = there in cc) in ap (λ (one : Requester). one ∷ requesters) (sym is)
same_set (r ∷ requesters) (suc at) s there = ap (λ (rest : List Requester). r ∷ rest) (same_set requesters at s there)

bound_at : (found : Option Requester) (most number : ℕ) (turn : Unit {0}) (frames : List (List ℕ)) (p : Parts) → slice_get p.work.queues.requesters p.turn_of ≡ found →
    p.dialling ≡ dialling.Waits turn frames → Fits most p → Fits most (turn_at found (λ turning. (link_answers number turning, None)) p)
bound_at None most number turn frames p is on fits = fits
bound_at (Some s) most number turn frames p is on fits =
    let requesters = p.work.queues.requesters in
    let whose = slice_get requesters p.turn_of in
    let bind : List Action = action.Send number (joined_frames frames) ∷ [] in
    let answered : Turning = link_answers number (record (turning_of s p) { dialling = dialling.Waits turn frames }) in
    let weight : turn_weight p.dialling (first_waiting requesters) whose + dial_weight p.dialling ≡ turn_weight (dialling.Waits turn frames) (first_waiting requesters) whose + 1
    = ap (λ (how : Dialling). turn_weight how (first_waiting requesters) whose + dial_weight how) on in
    let kept : turn_weight answered.dialling (first_waiting (slice_set requesters p.turn_of s)) (slice_get (slice_set requesters p.turn_of s) p.turn_of) ≡ turn_weight (dialling.Waits turn frames) (first_waiting requesters) whose
    = ap (λ (all : List Requester). turn_weight answered.dialling (first_waiting all) (slice_get all p.turn_of)) (same_set requesters p.turn_of s is) in
    subst (λ (turned : _). Fits most (after_turned p.turn_of (turned, None) p)) (sym (ap (λ (how : Dialling). link_answers number (record (turning_of s p) { dialling = how })) on))
    (record {
      quiet = quiet_more p.work.work.actions bind fits.quiet (tt, tt);
      within = omega (arith, fits.within, made_more p.work.work.actions bind, weight, kept, ap (λ (all : List Requester). waiting_weight all) (same_set requesters p.turn_of s is));
    })

pub answered : (how : Dialling) (most number : ℕ) (p : Parts) → p.dialling ≡ how → Fits most p → Fits most (answer_dial (is_waiting how) number p)
answered dialling.Nothing most number p on fits = fits
answered (dialling.On other said) most number p on fits = fits
answered (dialling.Waits turn frames) most number p on fits =
    bound_at (slice_get p.work.queues.requesters p.turn_of) most number turn frames (without_link number p) refl on (without_fits most number p fits)

-- ---- the next turn

started : (turn : Option Pending) (waiting : List Waiting) (most t : ℕ) (challenge peer : List ℕ) (trust : ℕ) (s : Requester) (p : Parts) →
    slice_get p.work.queues.requesters trust ≡ Some s → turn ≡ s.turn → waiting ≡ s.waiting → p.dialling ≡ dialling.Nothing → AllByRecursion ClosesNoLink p.work.work.actions →
    made_in p + 2 ≤ most →
    Fits most (after_turned trust (dial_for (start_turn_by turn waiting s t challenge).answer peer (record (turning_of s p) { channel = (start_turn_by turn waiting s t challenge).state }), None) p)
started (Some pending) waiting most t challenge peer trust s p is goes same nothing quiet out =
    let after : List Requester = slice_set p.work.queues.requesters trust s in
    let turn = ap (λ (how : Dialling). turn_weight how (first_waiting after) (slice_get after trust) + dial_weight how) nothing in
    record { quiet = quiet; within = omega (arith, out, set_weight p.work.queues.requesters trust s s is, turn, idle_first (first_waiting after) (slice_get after trust)) }
started None [] most t challenge peer trust s p is goes same nothing quiet out =
    let after : List Requester = slice_set p.work.queues.requesters trust s in
    let turn = ap (λ (how : Dialling). turn_weight how (first_waiting after) (slice_get after trust) + dial_weight how) nothing in
    record { quiet = quiet; within = omega (arith, out, set_weight p.work.queues.requesters trust s s is, turn, idle_first (first_waiting after) (slice_get after trust)) }
started None (logon ∷ logons) most t challenge peer trust s p is goes same nothing quiet out =
    let start : Starting = start_turn_by None (logon ∷ logons) s t challenge in
    let after : List Requester = slice_set p.work.queues.requesters trust start.state in
    let dial : List Action = action.Dial peer ∷ [] in
    let idle : idle_by start.state.waiting ≡ 0 = ap idle_by (sym same) in
    let there : turn_weight (dialling.Waits tt []) (first_waiting after) (slice_get after trust) ≡ 0
    = ap (λ (whose : Option Requester). turn_weight (dialling.Waits tt []) (first_waiting after) whose) (got_same p.work.queues.requesters trust s start.state is) ∙ idle in
    record {
      quiet = quiet_more p.work.work.actions dial quiet (tt, tt);
      within = omega (arith, out, set_weight p.work.queues.requesters trust s start.state is, made_more p.work.work.actions dial, there);
    }

abbrev dialled : ℕ → ℕ → List ℕ → Requester → Parts → Result (Part Turning) StepRefused → Result (Part Parts) StepRefused
dialled trust now peer s p part = then_part part (λ turning rest. next_part (after_turned trust (turning, None) p) rest)

begun_by : (can needs : Bool) (most now : ℕ) (peer : List ℕ) (trust : ℕ) (s : Requester) (p : Parts) (left : List (List ℕ)) →
    slice_get p.work.queues.requesters trust ≡ Some s → p.dialling ≡ dialling.Nothing → AllByRecursion ClosesNoLink p.work.work.actions → made_in p + 2 ≤ most →
    FitsPart most (dialled trust now peer s p (then_part (next_by can needs now s left) (dial_part peer (turning_of s p))))
begun_by false needs most now peer trust s p left is nothing quiet out =
    let after : List Requester = slice_set p.work.queues.requesters trust s in
    let turn = ap (λ (how : Dialling). turn_weight how (first_waiting after) (slice_get after trust) + dial_weight how) nothing in
    record { quiet = quiet; within = omega (arith, out, set_weight p.work.queues.requesters trust s s is, turn, idle_first (first_waiting after) (slice_get after trust)) }
begun_by true false most now peer trust s p left is nothing quiet out = started s.turn s.waiting most (timestamp_of now) (replicate 8 0) peer trust s p is refl refl nothing quiet out
begun_by true true most now peer trust s p [] is nothing quiet out = tt
begun_by true true most now peer trust s p (challenge ∷ left) is nothing quiet out = started s.turn s.waiting most (timestamp_of now) challenge peer trust s p is refl refl nothing quiet out

begun_on : (found : Option Requester) (entry : Option Trust) (most now trust : ℕ) (p : Parts) (left : List (List ℕ)) → slice_get p.work.queues.requesters trust ≡ found →
    p.dialling ≡ dialling.Nothing → Fits most p → made_in p + 2 ≤ most → FitsPart most (start_on found entry trust now p left)
begun_on None entry most now trust p left is nothing fits out = fits
begun_on (Some s) None most now trust p left is nothing fits out = fits
begun_on (Some s) (Some entry) most now trust p left is nothing fits out =
    begun_by (can_start s.turn s.waiting) (needs_challenge s.standing) most now entry.address trust s p left is nothing fits.quiet out

begun_at : (first : Option ℕ) (trusts : List Trust) (most now : ℕ) (p : Parts) (left : List (List ℕ)) → first_waiting p.work.queues.requesters ≡ first → p.dialling ≡ dialling.Nothing → Fits most p →
    FitsPart most (start_at first trusts now p left)
begun_at None trusts most now p left is nothing fits = fits
begun_at (Some trust) trusts most now p left is nothing fits =
    let turn = ap (λ (how : Dialling). turn_weight how (first_waiting p.work.queues.requesters) (slice_get p.work.queues.requesters p.turn_of) + dial_weight how) nothing in
    let two = ap (λ (first : Option ℕ). turn_weight dialling.Nothing first (slice_get p.work.queues.requesters p.turn_of)) is in
    begun_on (slice_get p.work.queues.requesters trust) (slice_get trusts trust) most now trust p left refl nothing fits (omega (arith, fits.within, turn, two))

next_how : (how : Dialling) (trusts : List Trust) (most now : ℕ) (p : Parts) (left : List (List ℕ)) → p.dialling ≡ how → Fits most p → FitsPart most (next_if (is_idle how) trusts now p left)
next_how dialling.Nothing trusts most now p left on fits = begun_at (first_waiting p.work.queues.requesters) trusts most now p left refl on fits
next_how (dialling.Waits turn frames) trusts most now p left on fits = fits
next_how (dialling.On number said) trusts most now p left on fits = fits

pub next_fits : (trusts : List Trust) (most now : ℕ) (p : Parts) (left : List (List ℕ)) → Fits most p → FitsPart most (next_turn trusts now p left)
next_fits trusts most now p left fits = next_how p.dialling trusts most now p left refl fits

-- ---- the step

-- what holds of a step's part
abbrev Stays : ℕ → TrustPart → Type 0
Stays most (Err why) = Unit {0}
Stays most (Ok part) = Fits most part.value.parts

with_table : (part : Result (Part Parts) StepRefused) (table : _) (most : ℕ) → FitsPart most part → Stays most (then_part part (λ later last. trust_part table later last))
with_table (Err why) table most fits = tt
with_table (Ok part) table most fits = fits

first_fits : (s : State) (running : Running) → Fits (trusting_weight s.trusting) (parts_of running s.trusting)
first_fits s running = record { quiet = tt; within = omega arith }

event_fits : (s : State) (running : Running) (what : Event) (now : ℕ) (left : List (List ℕ)) → is_made what ≡ true →
    Stays (trusting_weight s.trusting) (event_and_turn s.table.trusts what s.name now s.table (parts_of running s.trusting) left)
event_fits s running (event.Closed number) now left is =
    let p : Parts = parts_of running s.trusting in
    with_table (next_turn s.table.trusts now (close_number number p) left) s.table (trusting_weight s.trusting)
    (next_fits s.table.trusts (trusting_weight s.trusting) now (close_number number p) left
    (closed_on p.dialling (is_on number p.dialling) (trusting_weight s.trusting) number p refl refl (first_fits s running)))
event_fits s running (event.Dialled number) now left is =
    let p : Parts = parts_of running s.trusting in
    with_table (next_turn s.table.trusts now (answer_dial (is_waiting p.dialling) number p) left) s.table (trusting_weight s.trusting)
    (next_fits s.table.trusts (trusting_weight s.trusting) now (answer_dial (is_waiting p.dialling) number p) left
    (answered p.dialling (trusting_weight s.trusting) number p refl (first_fits s running)))
event_fits s running event.DialFailed now left is =
    let p : Parts = parts_of running s.trusting in
    with_table (next_turn s.table.trusts now (fail_dial (is_waiting p.dialling) p) left) s.table (trusting_weight s.trusting)
    (next_fits s.table.trusts (trusting_weight s.trusting) now (fail_dial (is_waiting p.dialling) p) left
    (failed p.dialling (trusting_weight s.trusting) p refl (first_fits s running)))
event_fits s running (event.Opened number) now left is = absurd (let x = is in cc)
event_fits s running (event.Bytes number bytes) now left is = absurd (let x = is in cc)
event_fits s running event.Stop now left is = absurd (let x = is in cc)

part_within : (part : TrustPart) (most : ℕ) → Stays most part → IsWithin part most
part_within (Err why) most fits = tt
part_within (Ok part) most fits = fits.within

pub settles : Settles
settles s running what now left is =
    part_within (event_and_turn s.table.trusts what s.name now s.table (parts_of running s.trusting) left) (trusting_weight s.trusting) (event_fits s running what now left is)

-- ---- nothing is closed

part_quiet : (part : TrustPart) (most : ℕ) (s : State) (left : List (List ℕ)) → Stays most part →
    AllByRecursion ClosesNoLink (actions_of (step_by (λ (p : TrustParts). p.parts.work.work.actions) (λ p. trust_state_after s p) (trust_halted s) left part))
part_quiet (Err why) most s left fits = tt
part_quiet (Ok part) most s left fits = fits.quiet

quiet_on : (running : Option Running) (s : State) (what : Event) (now : ℕ) (left : List (List ℕ)) → is_made what ≡ true →
    AllByRecursion ClosesNoLink (actions_of (trust_step_on running s what now left))
quiet_on None s what now left is = tt
quiet_on (Some running) s what now left is =
    part_quiet (event_and_turn s.table.trusts what s.name now s.table (parts_of running s.trusting) left) (trusting_weight s.trusting) s left (event_fits s running what now left is)

pub closes_none : ClosesNone
closes_none = record { made = λ s what now left is. quiet_on s.running s what now left is }
