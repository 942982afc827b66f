-- A member takes a unit of its turn: no credential clashes, where the unit was made for the channel that it stands on.
-- It serves `Proved.one_by_one`.
use Rattle.std.proofs.Common.{◌≡◌, ℕ, Bool, false, List, Option, Some, None, refl, ap, subst, ◌∙◌}
use Rattle.authenticators.specs.Channels.{ChannelIdentity}
use Rattle.authenticators.specs.SecureChannels.{channel_of}
use Rattle.outside.specs.declared.action.DropCause.{DropCause}
use Rattle.logon_stubs.specs.declared.calls.Reply.{Reply}
use Rattle.channel_client.specs.declared.state.SetStep.TheVariants as set_step
use Rattle.channel_client.specs.Machine.{Taking, judge, settle, take_of}
use Rattle.channel_client.specs.State.{Requester}
use Rattle.step_notes.specs.ChannelNames.{place_answered, channel_marked}
use Rattle.step_notes.specs.Marking.{clashes}
use Rattle.step_notes.specs.MemberNotes.{half_channel, taking_note, asked_note, taken_note}
use Rattle.step_notes.specs.Records.{Sent}
use Rattle.step_notes.proofs.Channels.ChannelNameLaws.{channels_are_named_alike}
use Rattle.logon_steps.specs.Turning.{turn_at, turn_response, IsTurnReply}
use Rattle.logon_steps.proofs.TurningLaws.{turns_go_through}
use Rattle.channel_client.specs.declared.state.Question.{Question}
use Rattle.rpc_units.specs.declared.unit.Unit.{Unit as RpcUnit}
use Rattle.channel_client.specs.declared.state.Standing.{Standing}
use Rattle.channel_client.specs.declared.state.Step.{Step}
use Rattle.channel_client.specs.declared.answers.Taken.{Taken}
use Rattle.channel_client.specs.declared.judging.Judgement.{Judgement}
use Rattle.channel_client.specs.declared.judging.Judgement.TheVariants as judgement
use Rattle.channel_client.specs.Effects.{stands_in, step_in}
use Rattle.channel_client.specs.declared.state.Question.TheVariants as question
use Rattle.channel_client.specs.declared.state.Step.TheVariants as step
use Rattle.channel_client.specs.declared.state.Standing.TheVariants as standing
use Rattle.channel_client.specs.declared.answers.Taken.TheVariants as taken

-- the unit was made for the channel that is half open, or that is open
abbrev pub IsMadeFor : ℕ → Requester → Standing → Option ℕ → List Sent → Type 0
IsMadeFor controller channel standing.Nothing unit sent = Unit {0}
IsMadeFor controller channel (standing.Half client server) unit sent = channel_marked unit sent ≡ Some (half_channel controller channel client server)
IsMadeFor controller channel (standing.Open o) unit sent = channel_marked unit sent ≡ Some (channel_of controller channel.caller.computer o)

made_open : (controller : ℕ) (channel : Requester) (how : Standing) (unit : Option ℕ) (sent : List Sent) (named : ChannelIdentity) → stands_in controller channel.caller.computer how ≡ Some named →
    IsMadeFor controller channel how unit sent → channel_marked unit sent ≡ Some named
made_open controller channel standing.Nothing unit sent named stands made = absurd cc
made_open controller channel (standing.Half client server) unit sent named stands made = absurd cc
made_open controller channel (standing.Open o) unit sent named stands made = made ∙ stands

-- what is asked checks no credential
asks_unchecked : (what : Option Step) (how : Standing) (controller : ℕ) (before after : Requester) → (asked_note what how controller before after).checked ≡ None
asks_unchecked None how controller before after = refl
asks_unchecked (Some (step.Bind call)) how controller before after = refl
asks_unchecked (Some (step.Reply (question.Challenge client))) how controller before after = refl
asks_unchecked (Some (step.Reply question.Authenticate)) standing.Nothing controller before after = refl
asks_unchecked (Some (step.Reply question.Authenticate)) (standing.Half client server) controller before after = refl
asks_unchecked (Some (step.Reply question.Authenticate)) (standing.Open o) controller before after = refl
asks_unchecked (Some (step.Reply question.Logon)) standing.Nothing controller before after = refl
asks_unchecked (Some (step.Reply question.Logon)) (standing.Half client server) controller before after = refl
asks_unchecked (Some (step.Reply question.Logon)) (standing.Open o) controller before after = refl
asks_unchecked (Some (step.Set (set_step.Bind c))) how controller before after = refl
asks_unchecked (Some (step.Set set_step.Reply)) standing.Nothing controller before after = refl
asks_unchecked (Some (step.Set set_step.Reply)) (standing.Half client server) controller before after = refl
asks_unchecked (Some (step.Set set_step.Reply)) (standing.Open o) controller before after = refl

module _ (controller : ℕ) (channel : Requester) (unit : RpcUnit) (number : Option ℕ) (sent : List Sent) (made : IsMadeFor controller channel channel.standing number sent) where
  abbrev IsOwnTaking : Type 0
  IsOwnTaking = clashes (taking_note (Some (take_of channel unit)) controller channel).checked number sent ≡ false

  abbrev checked_by : Taken → Bool
  checked_by found = clashes (taken_note found controller channel (take_of channel unit).state).checked number sent

  taking_own : (found : Taken) → (take_of channel unit).taken ≡ found → IsOwnTaking
  taking_own (taken.Skip right) is = ap checked_by is
  taking_own (taken.Next right frames) is =
      ap checked_by is
      ∙ ap (λ (checked : Option ChannelIdentity). clashes checked number sent)
      (asks_unchecked (step_in (take_of channel unit).state.turn) (take_of channel unit).state.standing controller channel (take_of channel unit).state)
  taking_own taken.Half is = ap checked_by is
  taking_own taken.Opened is =
      let at = channels_are_named_alike.standings.opens controller channel unit is in
      channels_are_named_alike.exchanges.opened controller channel unit at.0 at.1 number sent at.2 is (subst (λ (how : Standing). IsMadeFor controller channel how number sent) at.2 made)
  taking_own (taken.Answer place verdict) is =
      let answered : place_answered (take_of channel unit).taken ≡ Some place = ap place_answered is in
      let at = channels_are_named_alike.calls.takes controller channel unit place answered in
      channels_are_named_alike.exchanges.answered controller channel unit place at.0 number sent at.1 answered (made_open controller channel channel.standing number sent at.0 at.1 made)
  taking_own (taken.Dropped place cause) is = ap checked_by is
  taking_own taken.Set is =
      let at = channels_are_named_alike.calls.sets controller channel unit is in
      channels_are_named_alike.exchanges.set controller channel unit at.0 number sent at.1 is (made_open controller channel channel.standing number sent at.0 at.1 made)

  pub takes_own : IsOwnTaking
  takes_own = taking_own (take_of channel unit).taken refl

-- a reply that is dropped clashes with no mark
pub drops_own : (controller : ℕ) (channel : Requester) (number place : ℕ) (q : Question) (r : Reply) (cause : DropCause) (unit : Option ℕ) (sent : List Sent) → IsTurnReply q r →
    judge q r channel.standing channel.caller.secret ≡ judgement.Drop cause →
    clashes (taking_note (Some (take_of (turn_at number place (step.Reply q) channel) (turn_response number r))) controller (turn_at number place (step.Reply q) channel)).checked unit sent ≡ false
drops_own controller channel number place q r cause unit sent is judged =
    ap (λ (taking : Taking). clashes (taking_note (Some taking) controller (turn_at number place (step.Reply q) channel)).checked unit sent)
    (turns_go_through.takes.reply channel number place q r is ∙ ap (λ (j : Judgement). settle j (turn_at number place (step.Reply q) channel)) judged)
