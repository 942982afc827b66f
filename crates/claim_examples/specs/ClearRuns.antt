-- Runs that a world made itself, in which a logon is granted: their moves are a schedule, they are clear, and somebody
-- is let in, so that the claims on such runs speak of them (this project's own choice).
use Rattle.std.specs.Prelude.{ℕ, ◌≡◌, ◌≢◌, ◌==◌, true, length, Some, AllPairs}
use Rattle.std.specs.List.{AllByRecursion}
use Rattle.authenticators.specs.Channels.{ChannelIdentity, SameChannel}
use Rattle.authenticators.specs.SecureChannels.{SecureChannelState, channel_of}
use Rattle.wire_base.specs.Lists.{OneOf}
use Rattle.step_notes.specs.Records.{OutcomeTold, RequesterId}
use Rattle.world_moves.specs.declared.plan.Plan.{Plan}
use Rattle.world_moves.specs.Choosing.{chosen_place}
use Rattle.world_moves.specs.Counting.{is_in}
use Rattle.world_moves.specs.Forms.{HasForms, IsSchedule}
use Rattle.world_moves.specs.Plain.{IsPlainPlan}
use Rattle.world_moves.specs.World.{IsPlan, first_world, starters_of}
use Rattle.logon_runs.specs.FirstLogon.ExampleLogon.{ann_moves, ann_plan}
use Rattle.logon_runs.specs.FirstLogon.FirstWorlds.{CanComeIn, FirstKeyArrives, logon_moves}
use Rattle.domain_world.specs.Accepting.Sequences.{RepliesAnswerCalls, TurnsAreCalled}
use Rattle.domain_world.specs.Claims.{AcceptsAllGranted, AcceptsOnlyGranted, IsAccepted, IsClear, KeysAgree}
use Rattle.domain_world.specs.Claims.Completeness.{IsPlainMove, OneAtATime, started_in}
use Rattle.domain_world.specs.Claims.Counts.{EachCallRaisesOnce}
use Rattle.domain_world.specs.Claims.LetIn.{IsLetInBy}
use Rattle.domain_world.specs.Claims.NeverApart.{BeginsAlike, MembersAreNeverApart}
use Rattle.domain_world.specs.Claims.SharedSequences.{ChannelIsKept, SequencesAreShared, ChannelStands}
use Rattle.domain_world.specs.Headline.{Proved}
use Rattle.domain_world.specs.Past.{Past, past}

-- a member told of a link that somebody is let in, and took his message on that link, and a unit as the answer to it
pub record IsLetIn (run : Past) (told : OutcomeTold) : Type 0 where
  pub is : is_in told.outcome ≡ true
  pub message : OneOf (IsLetInBy told) run.book.messages

-- The run is clear, and somebody is let in. So where that a member accepts only what is granted holds of it, a message
-- of the run is accepted: of it the claim that a member accepts all that is granted says something too.
pub record LetsInClearly (run : Past) : Type 0 where
  pub clear : IsClear run.book
  pub told : OneOf (IsLetIn run) run.book.told
  pub accepted : AcceptsOnlyGranted run → OneOf (IsAccepted run) run.book.messages

-- A channel stands at a requester of the run, the controller that it asks keeps it, and both have one seed. That no
-- call from outside passed on it isn't said.
pub record HasSharedChannel (run : Past) : Type 0 where
  pub who : RequesterId
  pub channel : ChannelIdentity
  pub o : SecureChannelState
  pub c : SecureChannelState
  pub stands : ChannelStands run.world.state who channel o
  pub keeps : ChannelIsKept run.world.state channel.controller channel.computer c
  pub same : SameChannel (channel_of channel.controller channel.computer c) channel
  pub seed : c.seed ≡ o.seed

-- what is claimed of schedules that are clear, or have no clash
pub record MeetsClearClaims (run : Past) : Type 0 where
  pub only : AcceptsOnlyGranted run
  pub all : AcceptsAllGranted run
  pub keys : KeysAgree run
  pub counts : EachCallRaisesOnce run
  pub sequences : SequencesAreShared run
  pub called : TurnsAreCalled run
  pub answered : RepliesAnswerCalls run
  pub never_apart : MembersAreNeverApart run

-- The first logon of any plain plan runs clear where it comes in and its key arrives. So does the
-- example: a schedule whose one client is started where nothing is under way, and at whose end nothing is. A channel
-- stands at both ends then. What is proved of clear schedules holds of the example with no premise left.
pub record FirstLogonsAreClear : Type 0 where
  pub first : (plan : Plan) (client member controller number : ℕ) → IsPlan plan → HasForms plan → IsPlainPlan plan → chosen_place number (starters_of plan) ≡ Some client →
      (can : CanComeIn plan client member controller) → FirstKeyArrives plan client member controller can → LetsInClearly (past plan (logon_moves number (can.task.echo == 0)))
  pub stands : (plan : Plan) (client member controller number : ℕ) → IsPlan plan → HasForms plan → chosen_place number (starters_of plan) ≡ Some client →
      (can : CanComeIn plan client member controller) → FirstKeyArrives plan client member controller can → HasSharedChannel (past plan (logon_moves number (can.task.echo == 0)))
  pub schedule : IsSchedule ann_plan ann_moves
  pub ann : LetsInClearly (past ann_plan ann_moves)
  pub ann_stands : HasSharedChannel (past ann_plan ann_moves)
  pub claimed : Proved ann_plan ann_moves → MeetsClearClaims (past ann_plan ann_moves)
  -- FILE1 begins with the hash of its account
  pub begins : BeginsAlike ann_plan 0
  pub plain : AllByRecursion IsPlainMove ann_moves
  pub once : AllPairs (λ (one other : ℕ). one ≢ other) (started_in ann_moves (length ann_plan.clients))
  pub quiet : OneAtATime ann_moves (first_world ann_plan)
