-- The phases of a logon at any member, whatever its controller answers. Each move leads from one to another, to the
-- end, or to where the member lets the client in (MS-NLMP 3.2.5.1.2; MS-NRPC 3.1.4.1 to 3.1.4.5; the order of moves is
-- any).
use Rattle.std.specs.Prelude.{ℕ, ◌≡◌, ◌<◌, ◌^◌, ◌⊎◌, true, false, List, [], ◌∷◌, length, None, Some, slice_get}
use Rattle.wire_base.specs.Maps.{lookup}
use Rattle.wire_base.specs.Names.{IsName, same_name}
use Rattle.authenticators.specs.SecureChannels.{SecureChannelState, after_call, after_return, fresh_channel}
use Rattle.logon_stubs.specs.Ranges.{IsBlock}
use Rattle.logon_stubs.specs.declared.calls.Reply.{Reply}
use Rattle.logon_stubs.specs.declared.calls.Reply.TheVariants as reply
use Rattle.logon_stubs.specs.declared.info.SamInfo.{SamInfo}
use Rattle.logon_stubs.specs.declared.info.Verdict.TheVariants as verdict
use Rattle.secret_change.specs.Ranges.{InRangeSetReply}
use Rattle.secret_change.specs.Secrets.{IsNextSecret}
use Rattle.secret_change.specs.declared.calls.SetReply.{SetReply}
use Rattle.account_table.specs.AccountTable.{AccountTable}
use Rattle.account_table.specs.Changes.{DifferInCounts}
use Rattle.account_table.specs.LookUps.{knows_in}
use Rattle.account_table.specs.declared.account.Account.{Account}
use Rattle.channel_client.specs.declared.judging.Judgement.TheVariants as judgement
use Rattle.channel_client.specs.declared.state.Question.TheVariants as question
use Rattle.channel_client.specs.declared.state.Standing.{Standing}
use Rattle.channel_client.specs.declared.state.Standing.TheVariants as standing
use Rattle.channel_client.specs.declared.state.SetStep.TheVariants as set_step
use Rattle.channel_client.specs.declared.state.Step.TheVariants as step
use Rattle.channel_client.specs.Machine.{after, judge, offered_flags, server_credential}
use Rattle.domain_controller.specs.Machine.{account_for}
use Rattle.domain_controller.specs.Whole.{InRangeTable}
use Rattle.controller_calls.specs.declared.state.Computers.{Computers}
use Rattle.logon_client.specs.Plans.{CanLogOn}
use Rattle.member_server.specs.declared.plan.MemberPlan.{MemberPlan}
use Rattle.logon_client.specs.declared.outcome.ClientOutcome.{ClientOutcome}
use Rattle.world_moves.specs.declared.links.EndId.TheVariants.{Controller, Member}
use Rattle.world_moves.specs.declared.moves.Move.{Move}
use Rattle.world_moves.specs.declared.moves.Move.TheVariants as move
use Rattle.world_moves.specs.declared.plan.Plan.{Plan}
use Rattle.world_moves.specs.declared.state.State.{State}
use Rattle.world_moves.specs.Moving.{act, end_of_peer, route_to}
use Rattle.world_moves.specs.World.{first_ends}
use Rattle.logon_steps.specs.Answering.{IsInStep, auth_value, pair_of}
use Rattle.logon_steps.specs.Answers.{HasUnits}
use Rattle.logon_steps.specs.BesideTrusts.{at_no_trusts}
use Rattle.logon_steps.specs.Calling.{HasShortCaller}
use Rattle.logon_steps.specs.ClientSteps.{client_ended}
use Rattle.logon_steps.specs.ControllerTurns.{reply_bytes, turn_link}
use Rattle.logon_steps.specs.Meeting.{HasShortNames}
use Rattle.logon_steps.specs.SetTurns.{set_reply_bytes, set_taken}
use Rattle.logon_steps.specs.Turning.{IsTurnReply}
use Rattle.logon_runs.specs.Scenes.LinkScenes.{FitsGiven, rest_scene}
use Rattle.logon_runs.specs.Scenes.Others.{IsStepOn}
use Rattle.logon_runs.specs.Phases.{Acked, Aim, Answers, Binds, BindsBefore, BindsHeld, Calls, Challenged, Arrival, Dials, DialsBefore, DialsHeld, DrawsFew, Echoed, Echoes, First, FitsStill, Fourth, Granted, Halved, HasJoined, HasThree, IsAnswering, IsPlanned, IsSetAt, IsToSet, LogonPhase, Named, NotYet, Progress, Proved, Second, Sets, Third, TurnAt, WasJudged, WasOpened, WasSet, WhoAsked, account_of_caller, progress_of, progress_onward, scene_of, turn_on}
use Rattle.logon_runs.specs.Rests.{HasOwnName}
use Rattle.logon_runs.specs.Runs.{ClientAnswer}
use Rattle.logon_runs.specs.Scenes.Scene.{Scene, Shows}
use Rattle.logon_runs.specs.Failing.TurnedAway.{AwayPhase, Faulted, Refused, Settled, Unheard, away_scene, settled_in}
use Rattle.logon_runs.specs.Scenes.TurnScenes.{turn_scene, unit_back, with_accounts}
use Rattle.logon_runs.specs.Scenes.WaitingUnits.{waiting}
use Rattle.logon_runs.specs.AnyAnswer.ControllerAnswers.{TellsShort}
use Rattle.logon_runs.specs.OtherKeys.GrantRests.{judged_scene}

-- ---- what is known of the member

-- the account by which the controller opens the member's channel, where it has one, has its secret
abbrev pub FitsSecret : Arrival → Type 0
FitsSecret p =
    (client server : List ℕ) (machine : Account) → account_for p.table (auth_value p.meeting.caller client server) ≡ Some machine → machine.hash ≡ p.meeting.caller.secret

-- the controller knows the computer, and has an account for its channel
pub record KnowsComputer (p : Arrival) : Type 0 where
  pub machine : Account
  pub knows : knows_in p.table.accounts p.meeting.caller.computer ≡ true
  pub found : (client server : List ℕ) → account_for p.table (auth_value p.meeting.caller client server) ≡ Some machine

-- the controller keeps the caller's channel in step with the member's
pub record KeepsInStep (p : Arrival) (computers : Computers) (o : SecureChannelState) : Type 0 where
  pub channel : SecureChannelState
  pub keeps : lookup same_name p.meeting.caller.computer computers.channels ≡ Some channel
  pub in_step : IsInStep o channel

-- by the plan of its number: it has its own name and its secret, and its dial reaches the controller
pub record IsOwn (plan : Plan) (p : Arrival) : Type 0 where
  pub member : MemberPlan
  pub planned : slice_get plan.members p.meeting.at_member ≡ Some member
  pub named : HasOwnName plan p.meeting.at_member member p.meeting.at_controller

abbrev pub IsThere : Plan → Arrival → Type 0
IsThere plan p = end_of_peer p.meeting.plan.controller (first_ends plan) ≡ Some (Controller p.meeting.at_controller)

-- no channel is half open; one that is open is kept in step, where the name is the member's own
abbrev pub MayStand : Plan → Arrival → Computers → Standing → Type 0
MayStand plan p computers standing.Nothing = Unit {0}
MayStand plan p computers (standing.Half client server) = ⊥
MayStand plan p computers (standing.Open o) = IsOwn plan p → KeepsInStep p computers o

-- the channels of other computers are as they were; of all, where the dial reaches no controller
abbrev pub KeepsApart : Plan → Arrival → Computers → Type 0
KeepsApart plan p computers =
    (other : List ℕ) → (IsThere plan p → same_name p.meeting.caller.computer other ≡ false) → lookup same_name other computers.channels ≡ lookup same_name other p.computers.channels

-- the client and its member can go on, and the controller's accounts are in their ranges
pub record IsAble (plan : Plan) (p : Arrival) : Type 0 where
  pub can : CanLogOn p.meeting.task
  pub units : HasUnits p.meeting.task
  pub names : HasShortNames p.meeting.plan
  pub caller : HasShortCaller p.meeting.caller
  pub given : FitsGiven p.meeting
  pub next : IsNextSecret p.meeting.plan.secrets.next
  pub place_below : p.meeting.place < 2 ^ 32
  pub number_below : p.meeting.number < 2 ^ 32
  pub ranged : InRangeTable p.table
  pub named : IsName p.name
  pub stands : MayStand plan p p.computers p.meeting.how
  pub knows : (client server : List ℕ) (machine : Account) → account_for p.table (auth_value p.meeting.caller client server) ≡ Some machine →
      knows_in p.table.accounts p.meeting.caller.computer ≡ true
  pub own_secret : p.meeting.how ≡ standing.Nothing → IsOwn plan p → FitsSecret p
  -- its controller asks no other for a logon
  pub alone : p.meeting.trusts ≡ at_no_trusts

-- the client's dial reaches its member, and the member's a controller or nobody
pub record IsHeard (plan : Plan) (p : Arrival) (s : State) : Type 0 where
  pub member : end_of_peer p.meeting.task.server s.ends ≡ Some (Member p.meeting.at_member)
  pub controller : (IsThere plan p × (end_of_peer p.meeting.plan.controller s.ends ≡ Some (Controller p.meeting.at_controller)))
      ⊎ (route_to (Member p.meeting.at_member) (end_of_peer p.meeting.plan.controller s.ends) ≡ None)

-- ---- the phases

-- The phases before the member has the reply to its second call, to the one that sets a secret, or to its third; these
-- replies, whatever they are; and the phases of a logon that is turned away.
pub data AnyPhase (p : Arrival) : Type 0 where
  On : (phase : LogonPhase p) → AnyPhase p
  Told : (a : ClientAnswer) (who : WhoAsked p a) (v : TurnAt) (client server credential : List ℕ) (status : ℕ) → AnyPhase p
  Setting : (a : ClientAnswer) (who : WhoAsked p a) (v : TurnAt) (o c : SecureChannelState) (timestamp : ℕ) (new : List ℕ) (accounts : AccountTable) (answer : SetReply) → AnyPhase p
  Judged : (a : ClientAnswer) (who : WhoAsked p a) (v : TurnAt) (o c : SecureChannelState) (timestamp : ℕ) (accounts : AccountTable) (answer : Reply) → AnyPhase p
  Away : (phase : AwayPhase p) → AnyPhase p

-- the reply to the second call
abbrev pub proof_reply : List ℕ → ℕ → Reply
proof_reply credential status = reply.Authenticate (record { credential = credential; flags = offered_flags; status = status })

abbrev pub any_scene : (p : Arrival) → AnyPhase p → List (List ℕ) → ℕ → Scene
any_scene p (On phase) left moment = scene_of p phase left moment
any_scene p (Told a who v client server credential status) left moment =
    turn_scene (turn_on p a who.later (who.sent ∷ []) v (Second client server)) (after v.next) v.next (step.Reply question.Authenticate) v.computers
    (turn_link (length v.links))
    (unit_back (turn_on p a who.later (who.sent ∷ []) v (Second client server)) (reply_bytes v.next (proof_reply credential status)) ∷ []) left moment
any_scene p (Setting a who v o c timestamp new accounts answer) left moment =
    turn_scene (with_accounts accounts (turn_on p a who.later (who.sent ∷ []) v (Fourth o c timestamp new))) (after v.next) v.next (step.Set set_step.Reply) v.computers
    (turn_link (length v.links))
    (unit_back (with_accounts accounts (turn_on p a who.later (who.sent ∷ []) v (Fourth o c timestamp new))) (set_reply_bytes v.next answer) ∷ []) left moment
any_scene p (Judged a who v o c timestamp accounts answer) left moment = judged_scene p a who v o c timestamp accounts answer left moment
any_scene p (Away phase) left moment = away_scene p phase left moment

-- how far it is in each, by what waits between the member and its controller, and once the next unit came
abbrev pub progress_in : {p : Arrival} → AnyPhase p → Progress
progress_in (On phase) = progress_of phase
progress_in (Told a who v client server credential status) = WasOpened client server
progress_in (Setting a who v o c timestamp new accounts answer) = WasSet o
progress_in (Judged a who v o c timestamp accounts answer) = WasJudged a o
progress_in (Away phase) = NotYet

abbrev pub progress_next : {p : Arrival} → AnyPhase p → Progress
progress_next (On phase) = progress_onward phase
progress_next (Told a who v client server credential status) = NotYet
progress_next (Setting a who v o c timestamp new accounts answer) = NotYet
progress_next (Judged a who v o c timestamp accounts answer) = NotYet
progress_next (Away phase) = NotYet

abbrev pub progress_by : {p : Arrival} → Move → AnyPhase p → Progress
progress_by move.Onward phase = progress_next phase
progress_by _ phase = progress_in phase

-- ---- what holds in each

-- the controller's accounts are those with which the logon began, or the member reaches it and its own has another hash
abbrev pub MaySet : Plan → Arrival → AccountTable → Type 0
MaySet plan p table = (table ≡ p.table) ⊎ (IsThere plan p × IsSetAt p.meeting.caller p.table table)

pub record IsTurningBy (plan : Plan) (p : Arrival) (a : ClientAnswer) (v : TurnAt) : Type 0 where
  pub answering : IsAnswering p a
  pub joined_so : HasJoined p v.links
  pub number_below : v.number < 2 ^ 32
  pub next_below : v.next < 2 ^ 32
  pub others : KeepsApart plan p v.computers
  pub ranged : InRangeTable v.table
  pub set : MaySet plan p v.table
  pub next : IsNextSecret v.secrets.next
  pub fits : IsOwn plan p → FitsStill p v.table v.secrets

-- the controller has an account by which the channel of who asks is opened
pub record HasMachine (p : Arrival) : Type 0 where
  pub machine : Account
  pub found : account_of_caller p.table p.meeting.caller ≡ Some machine

-- The call can be made. The controller keeps what it needs of the computer, where it knows it, or its name is the
-- member's own. The calls that open a channel are made where there was none, and the one that sets a secret once it
-- opened; the logon's own where none is next.
abbrev pub MayAim : Plan → Arrival → TurnAt → Aim → Type 0
MayAim plan p v (First client) = IsBlock 8 client × (p.meeting.how ≡ standing.Nothing) × IsPlanned p v
MayAim plan p v (Second client server) =
    (knows_in p.table.accounts p.meeting.caller.computer ≡ true → lookup same_name p.meeting.caller.computer v.computers.pending ≡ Some (pair_of client server))
    × (p.meeting.how ≡ standing.Nothing) × IsPlanned p v
MayAim plan p v (Third o c timestamp) = (timestamp < 2 ^ 32) × (IsOwn plan p → KeepsInStep p v.computers o) × (v.secrets.next ≡ None)
MayAim plan p v (Fourth o c timestamp new) =
    (timestamp < 2 ^ 32) × (IsOwn plan p → KeepsInStep p v.computers o) × IsPlanned p v × IsToSet p new × HasMachine p

-- The call that opens the channel was granted: by an account that the controller has for it, and by which the channel
-- is in step, where the name is the member's own.
pub record IsGranted (plan : Plan) (p : Arrival) (v : TurnAt) (client server : List ℕ) : Type 0 where
  pub machine : Account
  pub found : account_for p.table (auth_value p.meeting.caller client server) ≡ Some machine
  pub in_step : IsOwn plan p → KeepsInStep p v.computers (fresh_channel p.meeting.caller.secret client server offered_flags)

-- what is left when a logon is over, whatever it came to
pub record IsLeft (plan : Plan) (p : Arrival) (e : Settled) : Type 0 where
  pub joined_so : HasJoined p e.links
  pub number_below : e.number < 2 ^ 32
  pub next : IsNextSecret e.secrets.next
  pub one : (o : SecureChannelState) → e.how ≡ standing.Open o → e.secrets.next ≡ None
  pub before : AccountTable
  pub set : MaySet plan p before
  pub differs : DifferInCounts before e.table
  pub ranged : InRangeTable e.table
  pub fits : IsOwn plan p → FitsStill p e.table e.secrets
  pub others : KeepsApart plan p e.computers
  pub stands : MayStand plan p e.computers e.how

-- once the dial was answered, the controller is there
abbrev pub MayFitOn : (plan : Plan) (p : Arrival) → LogonPhase p → Type 0
MayFitOn plan p Dials = Unit {0}
MayFitOn plan p Binds = Unit {0}
MayFitOn plan p (Challenged challenge) = IsBlock 8 challenge
MayFitOn plan p (Answers a who) = IsAnswering p a
MayFitOn plan p (DialsBefore a who v aim) = IsTurningBy plan p a v × MayAim plan p v aim
MayFitOn plan p (DialsHeld a who v aim) = IsTurningBy plan p a v × MayAim plan p v aim
MayFitOn plan p (BindsBefore a who v aim) = IsTurningBy plan p a v × MayAim plan p v aim × IsThere plan p
MayFitOn plan p (BindsHeld a who v aim) = IsTurningBy plan p a v × MayAim plan p v aim × IsThere plan p
MayFitOn plan p (Acked a who v aim) = IsTurningBy plan p a v × MayAim plan p v aim × IsThere plan p
MayFitOn plan p (Calls a who v aim) = IsTurningBy plan p a v × MayAim plan p v aim × IsThere plan p
MayFitOn plan p (Halved a who v client server) = IsTurningBy plan p a v × IsBlock 8 server × MayAim plan p v (Second client server) × IsThere plan p
MayFitOn plan p (Proved a who v client server) = ⊥
MayFitOn plan p (Granted a who v o c timestamp judged_at accounts) = ⊥
MayFitOn plan p (Sets a who v o c timestamp new accounts) = ⊥
MayFitOn plan p (Named a e on one other back) = ⊥
MayFitOn plan p (Echoes a e on one asks) = ⊥
MayFitOn plan p (Echoed a e talk one other back) = ⊥

abbrev pub MayFitAway : (plan : Plan) (p : Arrival) → AwayPhase p → Type 0
MayFitAway plan p (Refused a who v o c timestamp accounts status) = ⊥
MayFitAway plan p (Unheard a who e) = IsLeft plan p e
MayFitAway plan p (Faulted a later e status) = IsLeft plan p e × (status < 2 ^ 32)

-- where the controller has the caller's account, the proof of a member with its own name is taken
abbrev pub IsProofOwn : Arrival → (client server credential : List ℕ) → ℕ → Type 0
IsProofOwn p client server credential status =
    (machine : Account) → account_of_caller p.table p.meeting.caller ≡ Some machine → (status ≡ 0) × (credential ≡ server_credential p.meeting.caller.secret client server)

-- the secret is set, and both ends are in step
pub record IsSetRightly (p : Arrival) (v : TurnAt) (o : SecureChannelState) (timestamp : ℕ) (new : List ℕ) (accounts : AccountTable) (answer : SetReply) : Type 0 where
  pub stands : KeepsInStep p v.computers (after_return true (after_call o timestamp))
  pub set : IsSetAt p.meeting.caller v.table accounts
  pub hash : set.hash ≡ new
  pub is : answer ≡ set_taken o timestamp

-- the reply to the call that sets a secret: it is set, or not, and where the name is the member's own it is
pub record IsSetBy (plan : Plan) (p : Arrival) (a : ClientAnswer) (v : TurnAt) (o : SecureChannelState) (timestamp : ℕ) (new : List ℕ) (accounts : AccountTable) (answer : SetReply) : Type 0 where
  pub turning : IsTurningBy plan p a v
  pub there : IsThere plan p
  pub planned : IsPlanned p v
  pub to_set : IsToSet p new
  pub goes : InRangeSetReply answer
  pub set : (accounts ≡ v.table) ⊎ IsSetAt p.meeting.caller v.table accounts
  pub ranged : InRangeTable accounts
  pub own : IsOwn plan p → IsSetRightly p v o timestamp new accounts answer

-- the reply to the third call, and what the member's channel comes to by it
pub record IsJudgedBy (plan : Plan) (p : Arrival) (a : ClientAnswer) (v : TurnAt) (o : SecureChannelState) (timestamp : ℕ) (accounts : AccountTable) (answer : Reply) : Type 0 where
  pub turning : IsTurningBy plan p a v
  pub there : IsThere plan p
  pub one : v.secrets.next ≡ None
  pub goes : IsTurnReply question.Logon answer
  pub names : TellsShort answer
  pub differs : DifferInCounts v.table accounts
  pub ranged : InRangeTable accounts
  pub stands : IsOwn plan p → KeepsInStep p v.computers (after_return true (after_call o timestamp))

abbrev pub MayFit : (plan : Plan) (p : Arrival) → AnyPhase p → Type 0
MayFit plan p (On phase) = MayFitOn plan p phase
MayFit plan p (Told a who v client server credential status) =
    IsTurningBy plan p a v × IsTurnReply question.Authenticate (proof_reply credential status)
    × (status ≡ 0 → IsGranted plan p v client server) × IsThere plan p × IsPlanned p v × (IsOwn plan p → IsProofOwn p client server credential status)
MayFit plan p (Setting a who v o c timestamp new accounts answer) = IsSetBy plan p a v o timestamp new accounts answer
MayFit plan p (Judged a who v o c timestamp accounts answer) = IsJudgedBy plan p a v o timestamp accounts answer
MayFit plan p (Away phase) = MayFitAway plan p phase

-- the state is in a phase
pub record IsAnywhere (plan : Plan) (p : Arrival) (s : State) : Type 0 where
  pub phase : AnyPhase p
  pub left : List (List ℕ)
  pub moment : ℕ
  pub fits : MayFit plan p phase
  pub shows : Shows s (any_scene p phase left moment)

-- a logon is over: the client has its outcome, no link is open, and nothing waits
pub record IsDone (plan : Plan) (p : Arrival) (s : State) : Type 0 where
  pub outcome : ClientOutcome
  pub settled : Settled
  pub left : List (List ℕ)
  pub moment : ℕ
  pub fits : IsLeft plan p settled
  pub shows : Shows s (rest_scene (settled_in p settled) (client_ended p.meeting.task outcome) settled.links left moment [])

-- the member lets the client in at the next unit, with that information
pub record IsLetIn (plan : Plan) (p : Arrival) (s : State) : Type 0 where
  pub a : ClientAnswer
  pub who : WhoAsked p a
  pub v : TurnAt
  pub o : SecureChannelState
  pub c : SecureChannelState
  pub timestamp : ℕ
  pub accounts : AccountTable
  pub answer : Reply
  pub sam : SamInfo
  pub left : List (List ℕ)
  pub moment : ℕ
  pub fits : IsJudgedBy plan p a v o timestamp accounts answer
  pub judged : judge question.Logon answer (standing.Open (after_call o timestamp)) p.meeting.caller.secret
      ≡ judgement.Answer (after_return true (after_call o timestamp)) (verdict.Granted sam)
  pub shows : Shows s (judged_scene p a who v o c timestamp accounts answer left moment)

-- what a move leads to
pub record IsOnward (plan : Plan) (p : Arrival) (s after : State) : Type 0 where
  pub few : DrawsFew s.chances.left after.chances.left
  pub at : IsAnywhere plan p after ⊎ IsDone plan p after

-- a step leads to the end, or to a phase in which the logon is so far
pub record IsSoFar (plan : Plan) (p : Arrival) (far : Progress) (after : State) : Type 0 where
  pub at : IsAnywhere plan p after
  pub is : progress_in at.phase ≡ far

pub record GoesTo (plan : Plan) (p : Arrival) (far : Progress) (s after : State) : Type 0 where
  pub few : DrawsFew s.chances.left after.chances.left
  pub at : IsSoFar plan p far after ⊎ IsDone plan p after

-- what the moves need of the state
pub record IsReadyBy (plan : Plan) (p : Arrival) (s : State) : Type 0 where
  pub heard : IsHeard plan p s
  pub draws : HasThree s.chances.left
  pub below : s.moment < 2 ^ 64

pub record AnyPhasesGoOn : Type 0 where
  -- each move leads on, but for that at which the client is let in
  pub goes_on : (plan : Plan) (p : Arrival) (s : State) (what : Move) → IsAble plan p → IsReadyBy plan p s → IsStepOn what → (at : IsAnywhere plan p s) →
      GoesTo plan p (progress_by what at.phase) s (act s what).state ⊎ (IsLetIn plan p s × (what ≡ move.Onward))
  -- something waits in each phase
  pub waits : (plan : Plan) (p : Arrival) (s : State) → IsAnywhere plan p s → s.dials ≡ [] → waiting s.bag ≡ [] → ⊥
  -- once a logon is over, moves change nothing of it, and draw no challenge
  pub rests : (plan : Plan) (p : Arrival) (s : State) (what : Move) → IsStepOn what → IsDone plan p s → IsDone plan p (act s what).state
  pub rests_draws : (plan : Plan) (p : Arrival) (s : State) (what : Move) → IsStepOn what → IsDone plan p s → (act s what).state.chances.left ≡ s.chances.left
