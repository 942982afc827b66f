-- Where a logon leads that a member was answered as granted, with whatever information and whatever key, once nothing
-- waits (this project's own choice).
use Rattle.std.specs.List.{AllByRecursion}
use Rattle.std.specs.Prelude.{ℕ, ◌≡◌, ◌≤◌, ◌<◌, ◌^◌, List, [], ◌∷◌, length}
use Rattle.wire_base.specs.Units.{AreUnits}
use Rattle.authenticators.specs.SecureChannels.{SecureChannelState, after_call}
use Rattle.logon_stubs.specs.declared.calls.Reply.{Reply}
use Rattle.logon_stubs.specs.declared.info.SamInfo.{SamInfo}
use Rattle.logon_stubs.specs.declared.info.Verdict.TheVariants as verdict
use Rattle.account_table.specs.AccountTable.{AccountTable}
use Rattle.channel_client.specs.declared.judging.Judgement.TheVariants as judgement
use Rattle.channel_client.specs.declared.state.Question.TheVariants as question
use Rattle.channel_client.specs.declared.state.Standing.TheVariants as standing
use Rattle.channel_client.specs.declared.state.Step.TheVariants as step
use Rattle.channel_client.specs.Machine.{after as next_number, judge}
use Rattle.logon_client.specs.Plans.{CanLogOn}
use Rattle.logon_client.specs.declared.outcome.ClientOutcome.{ClientOutcome}
use Rattle.member_server.specs.Outcomes.{name_in}
use Rattle.world_moves.specs.declared.moves.Move.{Move}
use Rattle.world_moves.specs.declared.state.State.{State}
use Rattle.world_moves.specs.Moving.{onward}
use Rattle.logon_steps.specs.Answers.{AreDraws, HasUnits}
use Rattle.logon_steps.specs.ClientSteps.{client_ended}
use Rattle.logon_steps.specs.ControllerTurns.{reply_bytes, turn_link}
use Rattle.logon_steps.specs.Meeting.{HasShortNames}
use Rattle.logon_steps.specs.Turning.{IsTurnReply}
use Rattle.logon_runs.specs.Scenes.LinkScenes.{rest_scene}
use Rattle.logon_runs.specs.Scenes.Others.{IsStepOn, OthersStay}
use Rattle.logon_runs.specs.Phases.{Arrival, HasJoined, Third, TurnAt, WhoAsked, turn_on}
use Rattle.logon_runs.specs.Rests.{moved_by, three_in}
use Rattle.logon_runs.specs.Runs.{ClientAnswer}
use Rattle.logon_runs.specs.Scenes.Scene.{Scene, Shows}
use Rattle.logon_runs.specs.Failing.TurnedAway.{Settled, settled_in}
use Rattle.logon_runs.specs.Scenes.TurnScenes.{TurnScene, turn_scene, unit_back, with_accounts}
use Rattle.logon_runs.specs.Scenes.WaitingUnits.{waiting}

-- the turn of the logon's own call, whose controller has these accounts by then; the channel's state at the controller
-- isn't used
abbrev pub judged_turn : (p : Arrival) (a : ClientAnswer) → WhoAsked p a → TurnAt → SecureChannelState → SecureChannelState → ℕ → AccountTable → TurnScene
judged_turn p a who v o c timestamp accounts = with_accounts accounts (turn_on p a who.later (who.sent ∷ []) v (Third o c timestamp))

-- the reply to it waits, whichever it is
abbrev pub judged_scene : (p : Arrival) (a : ClientAnswer) → WhoAsked p a → TurnAt → SecureChannelState → SecureChannelState → ℕ → AccountTable → Reply → List (List ℕ) → ℕ → Scene
judged_scene p a who v o c timestamp accounts r left moment =
    turn_scene (judged_turn p a who v o c timestamp accounts) (next_number v.next) v.next (step.Reply question.Logon) v.computers (turn_link (length v.links))
    (unit_back (judged_turn p a who v o c timestamp accounts) (reply_bytes v.next r) ∷ []) left moment

-- what is left of a logon once it was judged: the member's channel has that state
abbrev pub judged_rest : (p : Arrival) (a : ClientAnswer) → WhoAsked p a → TurnAt → SecureChannelState → SecureChannelState → ℕ → AccountTable → SecureChannelState → Settled
judged_rest p a who v o c timestamp accounts o_then = record {
  secrets = v.secrets;
  how = standing.Open o_then;
  number = next_number v.next;
  links = (judged_turn p a who v o c timestamp accounts).links;
  table = accounts;
  computers = v.computers;
}

-- the client and its member can go on
pub record CanGoOn (p : Arrival) (a : ClientAnswer) (v : TurnAt) : Type 0 where
  pub can : CanLogOn p.meeting.task
  pub units : HasUnits p.meeting.task
  pub names : HasShortNames p.meeting.plan
  pub draws : AreDraws a.one a.two a.three
  pub joined_so : HasJoined p v.links
  pub next_below : v.next < 2 ^ 32

-- the name that is told of it fits
pub record HasShortName (sam : SamInfo) : Type 0 where
  pub short : length (name_in sam) ≤ 129
  pub units : AreUnits (name_in sam)

-- the client has an outcome, no link is open, nothing waits, the others are as they were, and no challenge was drawn
pub record HasSettled (p : Arrival) (s : State) (e : Settled) (after : State) : Type 0 where
  pub outcome : ClientOutcome
  pub left : List (List ℕ)
  pub moment : ℕ
  pub shows : Shows after (rest_scene (settled_in p e) (client_ended p.meeting.task outcome) e.links left moment [])
  pub others : OthersStay (three_in p) s after
  pub draws : after.chances.left ≡ s.chances.left

pub record GrantsRest : Type 0 where
  -- the reply comes, and the member lets the client in by it, with whatever key
  pub rests : (p : Arrival) (s : State) (a : ClientAnswer) (who : WhoAsked p a) (v : TurnAt) (o c : SecureChannelState) (timestamp : ℕ) (accounts : AccountTable) (r : Reply)
      (o_then : SecureChannelState) (sam : SamInfo) (left : List (List ℕ)) (moment : ℕ) → CanGoOn p a v → IsTurnReply question.Logon r → HasShortName sam →
      judge question.Logon r (standing.Open (after_call o timestamp)) p.meeting.caller.secret ≡ judgement.Answer o_then (verdict.Granted sam) →
      Shows s (judged_scene p a who v o c timestamp accounts r left moment) →
      (moves : List Move) → AllByRecursion IsStepOn moves →
      let after : State = moved_by moves (onward s).state in
      after.dials ≡ [] → waiting after.bag ≡ [] → HasSettled p s (judged_rest p a who v o c timestamp accounts o_then) after
