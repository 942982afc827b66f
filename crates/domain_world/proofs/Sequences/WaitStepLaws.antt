-- Where the dial of a turn waits after a step in which no turn started, it waited before, and the turn is the same.
-- It serves `Proved.sequences`.
use Rattle.std.proofs.Common.{◌≡◌, ℕ, Bool, true, false, List, ◌++◌, Result, Ok, subst, arith}
use Rattle.outside.specs.Machine.{Part}
use Rattle.outside.specs.declared.action.StepRefused.{StepRefused}
use Rattle.outside.specs.declared.event.Event.{Event}
use Rattle.outside.specs.declared.event.Event.TheVariants as event
use Rattle.rpc_units.specs.Stream.{cut_stream}
use Rattle.channel_client.specs.Machine.{can_start}
use Rattle.member_server.specs.Dials.{IsDialledBy, IsNoAnswer, IsWaiting, StaysOut, StaysOutIfTaken, TurnSteps, dials_in}
use Rattle.member_server.specs.Laws.{IsInOrder, is_dialled}
use Rattle.member_server.specs.Machine.{by_event, event_part, work_of}
use Rattle.member_server.specs.Outcomes.{without_link}
use Rattle.member_server.specs.Turns.{DialWork}
use Rattle.channel_turns.specs.declared.state.Dialling.{Dialling}
use Rattle.channel_turns.specs.declared.state.Dialling.TheVariants as dialling
use Rattle.member_server.specs.declared.state.Running.{Running}
use Rattle.member_server.specs.declared.state.Work.{Work}
use Rattle.member_server.proofs.StepFrame.{KeepsEvent, PartHolds, WorkFact, dial_stays, dial_turns, event_keeps}
use Rattle.member_server.proofs.DialLaws.{turns_dialled}
use Rattle.step_notes.specs.MemberNotes.{turn_of}
use Rattle.step_notes.specs.Records.{RequesterId}
use Rattle.domain_world.proofs.Sequences.Own.OwnTurnLaws.{turn_same, waits_dialled}

-- ---- the dial after an event

-- no dial waits
abbrev Never : WorkFact
Never how w left = IsWaiting how → ⊥

-- one that didn't wait doesn't after the event
never_waits : (what : Event) → KeepsEvent what Never Never
never_waits what = record {
  still = λ how w left never. never;
  closes = λ link how w left never. never;
  loses = λ cause how w left lost none never. λ waits. waits;
  full = λ link how w left is never. never;
  opens = λ link how w left is never. never;
  answers = λ link turn frames w left is never. λ waits. waits;
  link = λ number piece link how w left is there never.
      dial_stays (λ how. IsWaiting how → ⊥) (cut_stream (link.rest ++ piece)) number link.talk how (without_link number w) left never;
  turn = λ number piece said w left is never.
      dial_turns (λ how. IsWaiting how → ⊥) (cut_stream (said.rest ++ piece)) number said.talk w left (λ rest later. λ waits. waits) (λ waits. waits);
}

-- no turn waits behind an event that answers its dial
answer_not : (what : Event) (how : Dialling) (w : Work) (left : List (List ℕ)) → (IsNoAnswer what → ⊥) → PartHolds Never (by_event what how w left)
answer_not (event.Opened link) how w left none = absurd (none tt)
answer_not (event.Bytes link piece) how w left none = absurd (none tt)
answer_not (event.Closed link) how w left none = absurd (none tt)
answer_not event.Stop how w left none = absurd (none tt)
answer_not (event.Dialled link) dialling.Nothing w left none = λ waits. waits
answer_not (event.Dialled link) (dialling.Waits turn frames) w left none = λ waits. waits
answer_not (event.Dialled link) (dialling.On on said) w left none = λ waits. waits
answer_not event.DialFailed dialling.Nothing w left none = λ waits. waits
answer_not event.DialFailed (dialling.Waits turn frames) w left none = λ waits. waits
answer_not event.DialFailed (dialling.On on said) w left none = λ waits. waits

never_after : (first : Result (Part DialWork) StepRefused) (part : Part DialWork) → first ≡ Ok part → PartHolds Never first → IsWaiting part.value.1 → ⊥
never_after first part is none = subst (PartHolds Never) is none

-- ---- a step

-- no turn started, so the dial is as the event left it
as_left : (starts : Bool) (how : Dialling) (dial_work : DialWork) → IsDialledBy starts how dial_work → dials_in dial_work.0.actions ≡ 0 → dial_work.1 ≡ how
as_left false how dial_work dials none = dials.1
as_left true how dial_work dials none = absurd (omega (arith, dials.0, none))

same_by : (controller : ℕ) (who : RequesterId) (running : Running) (part : Result (Part DialWork) StepRefused) (after : Part DialWork) → part ≡ Ok after → StaysOutIfTaken running.logons.channel running.dialling part →
    turn_of controller who after.value.0.logons.channel ≡ turn_of controller who running.logons.channel
same_by controller who running part after is stays =
    let out : StaysOut running.logons.channel running.dialling after.value = subst (λ (p : Result (Part DialWork) StepRefused). StaysOutIfTaken running.logons.channel running.dialling p) is stays in
    turn_same controller who running.logons.channel after.value.0.logons.channel out.caller out.standing out.turn

waits_or : (how : Dialling) (P : Type 0) → (IsWaiting how → P) → ((IsWaiting how → ⊥) → P) → P
waits_or dialling.Nothing P first later = later (λ waits. waits)
waits_or (dialling.Waits turn frames) P first later = first tt
waits_or (dialling.On on said) P first later = later (λ waits. waits)

answer_or : (what : Event) (P : Type 0) → (IsNoAnswer what → P) → ((IsNoAnswer what → ⊥) → P) → P
answer_or (event.Opened link) P first later = first tt
answer_or (event.Bytes link piece) P first later = first tt
answer_or (event.Closed link) P first later = first tt
answer_or (event.Dialled link) P first later = later (λ none. none)
answer_or event.DialFailed P first later = later (λ none. none)
answer_or event.Stop P first later = first tt

pub same_turn : (controller : ℕ) (who : RequesterId) (running : Running) (what : Event) (now : ℕ) (left : List (List ℕ)) (after : Part DialWork) → event_part running what now left ≡ Ok after →
    TurnSteps running.logons.channel (by_event what running.dialling (work_of running) left) now after → IsInOrder (is_dialled running.dialling) running.logons → dials_in after.value.0.actions ≡ 0 →
    IsWaiting after.value.1 → IsWaiting running.dialling × (turn_of controller who after.value.0.logons.channel ≡ turn_of controller who running.logons.channel)
same_turn controller who running what now left after is steps order none waits =
    let first : Result (Part DialWork) StepRefused = by_event what running.dialling (work_of running) left in
    let mid = steps.part.value.0.logons.channel in
    let left_so : IsWaiting steps.part.value.1 = subst IsWaiting (as_left (can_start mid.turn mid.waiting) steps.part.value.1 after.value steps.dials none) waits in
    waits_or running.dialling (IsWaiting running.dialling × (turn_of controller who after.value.0.logons.channel ≡ turn_of controller who running.logons.channel))
    (λ was. answer_or what (IsWaiting running.dialling × (turn_of controller who after.value.0.logons.channel ≡ turn_of controller who running.logons.channel))
    (λ quiet. (
      was,
      same_by controller who running (event_part running what now left) after is
          (turns_dialled.waits running what now left was quiet (subst (λ (b : Bool). IsInOrder b running.logons) (waits_dialled running.dialling was) order)),
    ))
    (λ answers. absurd (never_after first steps.part steps.is (answer_not what running.dialling (work_of running) left answers) left_so)))
    (λ never. absurd (never_after first steps.part steps.is (event_keeps Never Never what (never_waits what) running.dialling (work_of running) left never) left_so))
