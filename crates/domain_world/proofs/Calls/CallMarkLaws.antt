-- The unit that goes out as the call of a message is marked as a call on a channel with the controller of whose units
-- the member takes note. It serves `Proved.call_marks`.
use Rattle.std.proofs.Common.{◌≡◌, ℕ, Bool, true, false, List, [], ◌∷◌, ◌++◌, map, Option, Some, None, refl, subst}
use Rattle.wire_base.specs.Maps.{lookup, same_number}
use Rattle.authenticators.specs.Channels.{ChannelIdentity}
use Rattle.authenticators.specs.SecureChannels.{channel_of}
use Rattle.end_links.specs.Serving.{ServedUnit}
use Rattle.channel_client.specs.declared.state.SetStep.TheVariants as set_step
use Rattle.channel_client.specs.Effects.{step_in}
use Rattle.channel_client.specs.Machine.{Taking}
use Rattle.channel_client.specs.State.{Requester}
use Rattle.channel_client.specs.declared.answers.Taken.{Taken}
use Rattle.channel_client.specs.declared.answers.Taken.TheVariants as taken
use Rattle.channel_client.specs.declared.state.Question.TheVariants as question
use Rattle.channel_client.specs.declared.state.Standing.{Standing}
use Rattle.channel_client.specs.declared.state.Standing.TheVariants as standing
use Rattle.channel_client.specs.declared.state.Step.{Step}
use Rattle.channel_client.specs.declared.state.Step.TheVariants as step
use Rattle.member_server.specs.Turns.{AtTurn}
use Rattle.member_server.specs.declared.state.Logon.{Logon}
use Rattle.member_server.specs.declared.state.Logons.{Logons}
use Rattle.channel_turns.specs.declared.state.TurnTalk.{TurnTalk}
use Rattle.channel_events.specs.Marks.{Calling, Mark}
use Rattle.step_notes.specs.Marking.{mark_if, turn_marks}
use Rattle.step_notes.specs.MemberNotes.{TurnNote, asked_note, link_of_logon, taken_note, taking_at, taking_note, timestamp_bound, turn_note}
use Rattle.domain_world.specs.Past.{first_of, later_of}
use Rattle.wire_base.proofs.ListLaws.{no_some, some_is}
use Rattle.step_notes.proofs.Members.KeptLogonLaws.{OfEach, each_found}
use Rattle.domain_world.proofs.Moves.MarkNumberLaws.{AtNumbers, at_later}
use Rattle.domain_world.proofs.Calls.CalledUnitLaws.{GoodTurn, GoodTurns}
use Rattle.domain_world.proofs.Messages.CallMessageLaws.{AllHold, EachFits}

-- ---- what a unit of the turn is noted as

-- the mark is that of a call on a channel with that controller
pub record IsCallMark (controller : ℕ) (mark : Mark) : Type 0 where
  pub channel : ChannelIdentity
  pub number : ℕ
  pub timestamp : ℕ
  pub is : mark ≡ Calling channel number timestamp
  pub named : channel.controller ≡ controller

-- where a place's call goes out, a unit goes out that is marked as a call on a channel with that controller
abbrev CallsSo : ℕ → TurnNote → Type 0
CallsSo controller note = (place : ℕ) → note.called ≡ Some place → (note.sends ≡ true) × IsCallMark controller note.mark

asked_so : (st : Option Step) (how : Standing) (controller : ℕ) (before after : Requester) → CallsSo controller (asked_note st how controller before after)
asked_so None how controller before after place is = absurd (no_some place is)
asked_so (Some (step.Bind c)) how controller before after place is = absurd (no_some place is)
asked_so (Some (step.Reply (question.Challenge client))) how controller before after place is = absurd (no_some place is)
asked_so (Some (step.Reply question.Authenticate)) standing.Nothing controller before after place is = absurd (no_some place is)
asked_so (Some (step.Reply question.Authenticate)) (standing.Half client server) controller before after place is = absurd (no_some place is)
asked_so (Some (step.Reply question.Authenticate)) (standing.Open o) controller before after place is = absurd (no_some place is)
asked_so (Some (step.Set (set_step.Bind c))) how controller before after place is = absurd (no_some place is)
asked_so (Some (step.Set set_step.Reply)) standing.Nothing controller before after place is = absurd (no_some place is)
asked_so (Some (step.Set set_step.Reply)) (standing.Half client server) controller before after place is = absurd (no_some place is)
asked_so (Some (step.Set set_step.Reply)) (standing.Open o) controller before after place is = absurd (no_some place is)
asked_so (Some (step.Reply question.Logon)) standing.Nothing controller before after place is = absurd (no_some place is)
asked_so (Some (step.Reply question.Logon)) (standing.Half client server) controller before after place is = absurd (no_some place is)
asked_so (Some (step.Reply question.Logon)) (standing.Open o) controller before after place is = (
  refl,
  record {
    channel = channel_of controller after.caller.computer o;
    number = before.next_call;
    timestamp = timestamp_bound (step_in before.turn);
    is = refl;
    named = refl;
  },
)

taken_so : (what : Taken) (controller : ℕ) (before after : Requester) → CallsSo controller (taken_note what controller before after)
taken_so (taken.Skip right) controller before after place is = absurd (no_some place is)
taken_so (taken.Next right frames) controller before after place is = asked_so (step_in after.turn) after.standing controller before after place is
taken_so taken.Half controller before after place is = absurd (no_some place is)
taken_so taken.Opened controller before after place is = absurd (no_some place is)
taken_so (taken.Answer other verdict) controller before after place is = absurd (no_some place is)
taken_so (taken.Dropped other cause) controller before after place is = absurd (no_some place is)
taken_so taken.Set controller before after place is = absurd (no_some place is)

taking_so : (taking : Option Taking) (controller : ℕ) (before : Requester) → CallsSo controller (taking_note taking controller before)
taking_so None controller before place is = absurd (no_some place is)
taking_so (Some taking) controller before place is = taken_so taking.taken controller before taking.state place is

turn_so : (controller : ℕ) (served : ServedUnit AtTurn TurnTalk) → CallsSo controller (turn_note controller served)
turn_so controller served = taking_so (taking_at served) controller served.work.work.logons.channel

-- ---- in the order in which units go out

module _ (At : ℕ → Mark → Type 0) (Own : ℕ → Type 0) (Good : ℕ → ℕ → Type 0) (controller : ℕ)
    (so : (link n : ℕ) (mark : Mark) → Own link → At n mark → IsCallMark controller mark → Good link n) where
  link_own : (place link : ℕ) (asked : List (ℕ × Logon)) (found : Option Logon) → lookup same_number place asked ≡ found → link_of_logon found ≡ Some link →
      OfEach (λ (at : ℕ) (logon : Logon). Own logon.link) asked → Own link
  link_own place link asked None is there each = absurd (no_some link there)
  link_own place link asked (Some logon) is there each =
      subst Own (some_is logon.link link there) (each_found (λ (at : ℕ) (one : Logon). Own one.link) place asked logon is each)

  turn_marked : (sends : Bool) (mark : Mark) (called : Option ℕ) (logons : Logons) (numbers : List ℕ) (more : List Mark) →
      ((place : ℕ) → called ≡ Some place → (sends ≡ true) × IsCallMark controller mark) → OfEach (λ (at : ℕ) (logon : Logon). Own logon.link) logons.asked →
      AtNumbers At (mark_if sends mark ++ more) numbers → GoodTurn Good called logons (first_of numbers)
  turn_marked sends mark None logons numbers more calls each at link n there number = absurd (no_some link there)
  turn_marked false mark (Some place) logons numbers more calls each at link n there number = absurd (let never : false ≡ true = (calls place refl).0 in cc)
  turn_marked true mark (Some place) logons [] more calls each at link n there number = absurd (no_some n number)
  turn_marked true mark (Some place) logons (first ∷ numbers) more calls each at link n there number =
      subst (Good link) (some_is first n number)
      (so link first mark (link_own place link logons.asked (lookup same_number place logons.asked) refl there each) at.0 (calls place refl).1)

  -- where `Own` holds of the link of each logon that is kept, each call of these units has its mark
  pub turns_marked : (units : List (ServedUnit AtTurn TurnTalk)) (numbers : List ℕ) → AllHold (EachFits (λ (at : ℕ) (logon : Logon). Own logon.link)) units →
      AtNumbers At (turn_marks (map (turn_note controller) units)) numbers → GoodTurns Good controller units numbers
  turns_marked [] numbers fits at = tt
  turns_marked (served ∷ units) numbers fits at =
      let note : TurnNote = turn_note controller served in
      let more : List Mark = turn_marks (map (turn_note controller) units) in (
        turn_marked note.sends note.mark note.called served.work.work.logons numbers more (turn_so controller served) fits.0 at,
        turns_marked units (later_of note.sends numbers) fits.1 (at_later At note.sends note.mark more numbers at),
      )
