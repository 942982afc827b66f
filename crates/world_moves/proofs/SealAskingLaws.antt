-- What a member tells at a step, whether its channel seals or not: an outcome of each logon that it keeps, at most, and
-- one on each link whose challenge hasn't served. It serves `State::put_answered`, `State::shut_link`, `World::new` and
-- 3 more.
use Rattle.std.proofs.Common.{◌≡◌, ℕ, ◌+◌, ◌≤◌, Bool, true, false, List, [], ◌∷◌, ◌++◌, length, replicate, Option, Some, None, Result, Ok, Err, refl, ap, ◌∙◌, arith}
use Rattle.outside.specs.Machine.{Part, step_by, then_part}
use Rattle.outside.specs.declared.action.Action.{Action}
use Rattle.outside.specs.declared.action.Action.TheVariants as action
use Rattle.outside.specs.declared.action.CloseCause.{CloseCause}
use Rattle.outside.specs.declared.action.StepRefused.{StepRefused}
use Rattle.outside.specs.declared.event.Event.{Event}
use Rattle.outside.specs.declared.event.Event.TheVariants as event
use Rattle.authenticators.specs.Timestamps.{timestamp_of}
use Rattle.rpc_units.specs.declared.unit.Unit.{Unit as RpcUnit}
use Rattle.rpc_units.specs.Reading.{unit_of}
use Rattle.rpc_units.specs.Stream.{Cut, cut_stream}
use Rattle.end_links.specs.Links.{LinkState}
use Rattle.end_links.specs.Sending.{joined_frames}
use Rattle.end_links.specs.Serving.{ServedPart, served_cut}
use Rattle.end_links.proofs.KeepLaws.{StaysServing, served_stays}
use Rattle.netlogon_seal.specs.declared.refusal.NlRefused.{NlRefused}
use Rattle.channel_sealing.specs.declared.parts.SealedPart.{SealedPart}
use Rattle.channel_sealing.specs.declared.parts.SealedPart.TheVariants as part
use Rattle.channel_client.specs.Machine.{Taking, can_start}
use Rattle.channel_client.specs.Sealed.{Unsealing, channel_start, channel_take, draws_challenge, unseal_of}
use Rattle.channel_client.specs.State.{Requester}
use Rattle.channel_client.specs.declared.answers.Taken.{Taken}
use Rattle.channel_client.specs.declared.answers.Taken.TheVariants as taken
use Rattle.channel_turns.specs.Hearing.{heard_of}
use Rattle.channel_turns.specs.SealedTurns.{SealedTurned, after_sealed_units, do_sealed_heard, do_sealed_taken, needs_seal, next_sealed_by, opened_unit, reply_part_of, sealed_hear_by, sealed_hear_if, sealed_hear_on, sealed_turn_server, sealed_unit, sealed_work, unit_by_part, with_sealed_channel}
use Rattle.channel_turns.specs.Turning.{Turned, dial_for, dial_part, is_on}
use Rattle.channel_turns.specs.declared.hearing.Heard.{Heard}
use Rattle.channel_turns.specs.declared.hearing.Heard.TheVariants as heard
use Rattle.channel_turns.specs.declared.sealed_turns.SealedWork.{SealedWork}
use Rattle.channel_turns.specs.declared.state.Dialling.{Dialling}
use Rattle.channel_turns.specs.declared.state.Dialling.TheVariants as dialling
use Rattle.channel_turns.specs.declared.state.TurnEnd.{TurnEnd}
use Rattle.channel_turns.specs.declared.state.TurnEnd.TheVariants as turn_end
use Rattle.channel_turns.specs.declared.state.TurnEnded.{TurnEnded}
use Rattle.channel_turns.specs.declared.state.TurnTalk.{TurnTalk}
use Rattle.channel_turns.specs.declared.state.Turning.{Turning}
use Rattle.member_server.specs.declared.outcomes.Ending.TheVariants as ending
use Rattle.member_server.specs.declared.state.Running.{Running}
use Rattle.member_server.specs.declared.state.TurnSealing.{TurnSealing}
use Rattle.member_server.specs.declared.state.Work.{Work}
use Rattle.member_server.specs.Machine.{by_event, halted_state, work_of}
use Rattle.member_server.specs.SealStep.{SealWork, actions_of_sealed, after_dial, after_sealed, any_step_of, any_step_on, as_before, beside, by_sealed_event, hear_sealed, next_sealed, ready_turning, sealed_bytes_by, sealed_part, state_of_sealed, step_with}
use Rattle.member_server.specs.State.{State as MemberState}
use Rattle.member_server.specs.Turns.{DialWork, after_ended, after_turned, close_ended, end_turn, ending_of, keep_ended, ready_channel, turning_of, with_channel}
use Rattle.member_server.proofs.StepFrame.{PartHolds}
use Rattle.world_moves.specs.Ends.{actions_by}
use Rattle.world_moves.specs.Telling.{asks_on, opens_at, outcomes_left, told_by}
use Rattle.world_moves.proofs.AskingLaws.{Due, due_in, end_due, event_due, member_tells as plain_tells, tells_due, text_due}
use Rattle.world_moves.proofs.TellingLaws.{told_more}

-- ---- units on the link of a turn whose channel seals tell nothing

abbrev told_on : SealedWork → ℕ
told_on at = told_by at.work.actions

taken_tells : (what : Taken) (joiner : Option RpcUnit) (at : SealedWork) → told_on (do_sealed_taken what joiner at).0 ≡ told_on at
taken_tells (taken.Skip turn) joiner at = refl
taken_tells (taken.Next turn frames) joiner at = omega (arith, told_more at.work.actions (action.Send at.work.link (joined_frames frames)))
taken_tells taken.Half joiner at = refl
taken_tells taken.Opened joiner at = refl
taken_tells (taken.Answer place verdict) joiner at = refl
taken_tells (taken.Dropped place cause) joiner at = refl
taken_tells taken.Set joiner at = refl

heard_tells : (what : Heard) (at : SealedWork) → told_on (do_sealed_heard what at).0 ≡ told_on at
heard_tells (heard.Waits joiner) at = refl
heard_tells (heard.Whole unit joiner) at =
    let taking : Taking = channel_take at.work.channel unit in taken_tells taking.taken joiner (with_sealed_channel taking.state at)
heard_tells (heard.Broken cause) at = refl

opened_tells : (answer : Result Unit NlRefused) (bytes : List ℕ) (joiner : Option RpcUnit) (at : SealedWork) → told_on (opened_unit answer bytes joiner at).0 ≡ told_on at
opened_tells (Err why) bytes joiner at = refl
opened_tells (Ok done) bytes joiner at = heard_tells (heard_of (unit_of bytes) joiner) at

part_tells : (found : SealedPart) (bytes : List ℕ) (joiner : Option RpcUnit) (at : SealedWork) → told_on (unit_by_part found bytes joiner at).0 ≡ told_on at
part_tells part.Nothing bytes joiner at = heard_tells (heard_of (unit_of bytes) joiner) at
part_tells (part.Range from to) bytes joiner at =
    let u : Unsealing = unseal_of at.work.channel bytes from to in opened_tells u.answer u.unit joiner (with_sealed_channel u.state at)
part_tells part.Missing bytes joiner at = refl

abbrev ServedTells : ℕ → ServedPart SealedWork TurnTalk → Type 0
ServedTells told (Err why) = Unit {0}
ServedTells told (Ok part) = told_on part.value.0 ≡ told

units_tell : (told : ℕ) → StaysServing sealed_turn_server (ServedTells told)
units_tell told = record {
  spent = λ why. tt;
  unit = λ bytes at talk left is. part_tells (reply_part_of (needs_seal at) bytes) bytes talk.joiner at ∙ is;
  refusal = λ why at talk left is. is;
}

-- ---- a turn that ended

turn_end_due : (most : ℕ) (how : TurnEnd) (w : Work) → due_in w ≤ most → due_in (end_turn how w) ≤ most
turn_end_due most turn_end.Half w few = few
turn_end_due most turn_end.Opened w few = few
turn_end_due most (turn_end.Answer place verdict) w few = end_due most place (ending_of verdict) w few
turn_end_due most (turn_end.Dropped place cause) w few = end_due most place (ending.NoController cause) w few
turn_end_due most turn_end.Set w few = few

closes_due : (most : ℕ) (closes : Option (ℕ × CloseCause)) (w : Work) → due_in w ≤ most → due_in (close_ended closes w) ≤ most
closes_due most None w few = few
closes_due most (Some closes) w few = tells_due most w (action.Close closes.0 closes.1) refl few

ended_due : (most : ℕ) (ended : Option TurnEnded) (w : Work) → due_in w ≤ most → due_in (after_ended ended w) ≤ most
ended_due most None w few = few
ended_due most (Some ended) w few =
    turn_end_due most ended.how (close_ended ended.closes (keep_ended ended.how w))
    (closes_due most ended.closes (keep_ended ended.how w) (text_due most ended.how w few))

turned_due : (most : ℕ) (turned : Turned) (w : Work) → told_by turned.0.actions ≡ told_by w.actions → due_in w ≤ most → due_in (after_turned turned w).0 ≤ most
turned_due most turned w same few = ended_due most turned.1 (with_channel turned.0.channel turned.0.actions w) (omega (arith, same, few))

-- ---- a member at work whose channel seals

abbrev SealDue : ℕ → Result (Part SealWork) StepRefused → Type 0
SealDue most (Err why) = Unit {0}
SealDue most (Ok part) = due_in part.value.0.0 ≤ most

abbrev TurnedTells : ℕ → Result (Part SealedTurned) StepRefused → Type 0
TurnedTells told (Err why) = Unit {0}
TurnedTells told (Ok part) = told_by part.value.0.0.actions ≡ told

served_turned : (told link : ℕ) (rest : List ℕ) (part : ServedPart SealedWork TurnTalk) → ServedTells told part → TurnedTells told (then_part part (after_sealed_units link rest))
served_turned told link rest (Err why) same = tt
served_turned told link rest (Ok part) same = same

hears_if : (own : Bool) (link : ℕ) (said : LinkState TurnTalk) (piece : List ℕ) (sealed : Bool) (turning : Turning) (left : List (List ℕ)) →
    TurnedTells (told_by turning.actions) (sealed_hear_if own link said piece sealed turning left)
hears_if false link said piece sealed turning left = refl
hears_if true link said piece sealed turning left =
    let cut : Cut = cut_stream (said.rest ++ piece) in
    let work : SealedWork = sealed_work link sealed turning in
    served_turned (told_by turning.actions) link cut.rest (served_cut sealed_turn_server cut work said.talk left)
    (served_stays sealed_turn_server (ServedTells (told_by turning.actions)) (units_tell (told_by turning.actions)) cut work said.talk left refl)

hears_by : (how : Dialling) (link : ℕ) (piece : List ℕ) (sealed : Bool) (turning : Turning) (left : List (List ℕ)) →
    TurnedTells (told_by turning.actions) (sealed_hear_by how link piece sealed turning left)
hears_by dialling.Nothing link piece sealed turning left = refl
hears_by (dialling.Waits turn frames) link piece sealed turning left = refl
hears_by (dialling.On number said) link piece sealed turning left = hears_if _ number said piece sealed turning left

after_due : (most : ℕ) (work : Work) (part : Result (Part SealedTurned) StepRefused) → TurnedTells (told_by work.actions) part → due_in work ≤ most →
    SealDue most (then_part part (after_sealed work))
after_due most work (Err why) same few = tt
after_due most work (Ok part) same few = turned_due most part.value.0 work same few

before_due : (most : ℕ) (sealed : Bool) (part : Result (Part DialWork) StepRefused) → PartHolds (Due most) part → SealDue most (then_part part (beside sealed))
before_due most sealed (Err why) few = tt
before_due most sealed (Ok part) few = few

sealed_due : (most : ℕ) (part : Result (Part SealWork) StepRefused) → SealDue most part → SealDue (most + 0) part
sealed_due most (Err why) few = tt
sealed_due most (Ok part) few = omega (arith, few)

piece_due : (most : ℕ) (own : Bool) (link : ℕ) (piece : List ℕ) (how : Dialling) (work : Work) (sealed : Bool) (left : List (List ℕ)) → due_in work ≤ most →
    SealDue (most + 0) (sealed_bytes_by own link piece how work sealed left)
piece_due most true link piece how work sealed left few =
    sealed_due most (hear_sealed link piece how work sealed left)
    (after_due most work (sealed_hear_by how link piece sealed (turning_of work how) left) (hears_by how link piece sealed (turning_of work how) left) few)
piece_due most false link piece how work sealed left few =
    before_due (most + 0) sealed (by_event (event.Bytes link piece) how work left) (event_due most (event.Bytes link piece) how work left few)

sealed_event_due : (most : ℕ) (what : Event) (how : Dialling) (work : Work) (sealed : Bool) (left : List (List ℕ)) → due_in work ≤ most →
    SealDue (most + opens_at what) (by_sealed_event what how work sealed left)
sealed_event_due most (event.Bytes link piece) how work sealed left few = piece_due most (is_on link how) link piece how work sealed left few
sealed_event_due most (event.Opened link) how work sealed left few =
    before_due (most + 1) sealed (by_event (event.Opened link) how work left) (event_due most (event.Opened link) how work left few)
sealed_event_due most (event.Closed link) how work sealed left few =
    before_due (most + 0) sealed (by_event (event.Closed link) how work left) (event_due most (event.Closed link) how work left few)
sealed_event_due most (event.Dialled link) how work sealed left few =
    before_due (most + 0) sealed (by_event (event.Dialled link) how work left) (event_due most (event.Dialled link) how work left few)
sealed_event_due most event.DialFailed how work sealed left few =
    before_due (most + 0) sealed (by_event event.DialFailed how work left) (event_due most event.DialFailed how work left few)
sealed_event_due most event.Stop how work sealed left few = before_due (most + 0) sealed (by_event event.Stop how work left) (event_due most event.Stop how work left few)

-- ---- the next turn

module _ (most : ℕ) (work : Work) (how : Dialling) (sealed : Bool) (few : due_in work ≤ most) where
  abbrev peer : List ℕ
  peer = work.logons.plan.controller

  abbrev turning : Turning
  turning = ready_turning (work, how)

  dial_due : (start : Option (Unit {0} × List (List ℕ))) (c : Requester) (left : List (List ℕ)) → SealDue most (after_dial work sealed (dial_for start peer (record turning { channel = c })) left)
  dial_due None c left = omega (arith, few)
  dial_due (Some start) c left = omega (arith, few, told_more work.actions (action.Dial peer))

  next_by : (starts draws : Bool) (now : ℕ) (c : Requester) (left : List (List ℕ)) →
      SealDue most (then_part (then_part (next_sealed_by starts draws now c left) (dial_part peer turning)) (after_dial work sealed))
  next_by false draws now c left = omega (arith, few)
  next_by true false now c left = dial_due (channel_start c (timestamp_of now) (replicate 8 0)).answer (channel_start c (timestamp_of now) (replicate 8 0)).state left
  next_by true true now c [] = tt
  next_by true true now c (challenge ∷ left) = dial_due (channel_start c (timestamp_of now) challenge).answer (channel_start c (timestamp_of now) challenge).state left

  next_due : (now : ℕ) (left : List (List ℕ)) → SealDue most (next_sealed now ((work, how), sealed) left)
  next_due now left =
      let c : Requester = ready_channel work in next_by (can_start c.turn c.waiting) (draws_challenge c.sealing c.standing) now c left

then_due : (most now : ℕ) (part : Result (Part SealWork) StepRefused) → SealDue most part → SealDue most (then_part part (next_sealed now))
then_due most now (Err why) few = tt
then_due most now (Ok part) few = next_due most part.value.0.0 part.value.0.1 part.value.1 few now part.left

-- ---- a step

part_step : (most : ℕ) (left : List (List ℕ)) (part : Result (Part SealWork) StepRefused) → SealDue most part →
    let stepped = step_by actions_of_sealed state_of_sealed halted_state left part in told_by (actions_by stepped.answer) + outcomes_left stepped.state.running ≤ most
part_step most left (Err why) few = omega arith
part_step most left (Ok part) few = omega (arith, few)

-- whatever is kept to seal
with_tells : (sealing : Option TurnSealing) (running : Running) (m : MemberState) (what : Event) (now : ℕ) (left : List (List ℕ)) → m.running ≡ Some running → running.sealing ≡ sealing →
    told_by (actions_by (step_with sealing running m what now left).answer) + outcomes_left (step_with sealing running m what now left).state.running ≤ outcomes_left (Some running) + opens_at what
with_tells None running m what now left runs seals = plain_tells (record { running = Some running }) what now left
with_tells (Some sealing) running m what now left runs seals =
    let most : ℕ = outcomes_left (Some running) in
    part_step (most + opens_at what) left (sealed_part running sealing.is_link_sealed what now left)
    (then_due (most + opens_at what) now (by_sealed_event what running.dialling (work_of running) sealing.is_link_sealed left)
    (sealed_event_due most what running.dialling (work_of running) sealing.is_link_sealed left (omega arith)))

running_tells : (running : Option Running) (m : MemberState) (what : Event) (now : ℕ) (left : List (List ℕ)) → m.running ≡ running →
    told_by (actions_by (any_step_on running m what now left).answer) + outcomes_left (any_step_on running m what now left).state.running ≤ outcomes_left running + opens_at what
running_tells None m what now left runs = omega (arith, ap outcomes_left runs)
running_tells (Some running) m what now left runs = with_tells running.sealing running m what now left runs refl

-- what a member tells at a step comes of the logons that it keeps, of its links, and of the link that opens
pub member_tells : (m : MemberState) (what : Event) (now : ℕ) (left : List (List ℕ)) →
    told_by (actions_by (any_step_of m what now left).answer) + outcomes_left (any_step_of m what now left).state.running ≤ outcomes_left m.running + opens_at what
member_tells m what now left = running_tells m.running m what now left refl
