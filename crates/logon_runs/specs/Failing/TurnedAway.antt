-- The phases of a logon that is refused by a controller which knows the computer, or whose member reaches no
-- controller: from there to the client's outcome (MS-NRPC 3.5.4.5.3; the order of moves is any).
use Rattle.std.specs.Prelude.{ℕ, ◌≡◌, ◌<◌, ◌^◌, ◌==◌, ◌⊎◌, false, List, [], ◌∷◌, length, Option, None, Some}
use Rattle.wire_base.specs.Maps.{lookup}
use Rattle.wire_base.specs.Names.{same_name}
use Rattle.ntlm_seal.specs.Sessions.{SessionState}
use Rattle.authenticators.specs.Sequences.{return_of}
use Rattle.authenticators.specs.SecureChannels.{SecureChannelState, key_of_channel}
use Rattle.rpc_units.specs.Numbers.{rpc_s_server_unavailable}
use Rattle.logon_stubs.specs.Status.{access_denied}
use Rattle.logon_stubs.specs.declared.calls.Reply.{Reply}
use Rattle.logon_stubs.specs.declared.info.Verdict.TheVariants as verdict
use Rattle.secret_change.specs.Secrets.{IsNextSecret, SecretsState}
use Rattle.account_table.specs.AccountTable.{AccountTable}
use Rattle.account_table.specs.Changes.{DifferInCounts}
use Rattle.sam_logon.specs.Verdict.{verdict_of}
use Rattle.channel_client.specs.declared.state.Question.TheVariants as question
use Rattle.channel_client.specs.declared.state.Standing.{Standing}
use Rattle.channel_client.specs.declared.state.Standing.TheVariants as standing
use Rattle.channel_client.specs.declared.state.Step.TheVariants as step
use Rattle.channel_client.specs.Machine.{after}
use Rattle.domain_controller.specs.Whole.{InRangeTable}
use Rattle.controller_calls.specs.declared.state.Computers.{Computers}
use Rattle.logon_client.specs.declared.outcome.ClientOutcome.{ClientOutcome}
use Rattle.world_moves.specs.declared.links.EndId.TheVariants.{Member}
use Rattle.world_moves.specs.declared.links.Route.{Route}
use Rattle.world_moves.specs.declared.moves.Move.{Move}
use Rattle.world_moves.specs.declared.state.State.{State}
use Rattle.world_moves.specs.Moving.{act, connect, end_of_peer, onward, route_to}
use Rattle.logon_steps.specs.Answering.{IsInStep, moved}
use Rattle.logon_steps.specs.ClientSteps.{client_ended}
use Rattle.logon_steps.specs.ControllerTurns.{passed_reply, reply_bytes, turn_link}
use Rattle.logon_runs.specs.Failing.FailingSteps.{out_talk, who_fault}
use Rattle.logon_runs.specs.Failing.Failings.{settled_at}
use Rattle.logon_runs.specs.Scenes.LinkScenes.{Meeting, meeting_scene, rest_scene, unit_down, unit_up}
use Rattle.logon_runs.specs.Scenes.Others.{IsStepOn}
use Rattle.logon_runs.specs.Phases.{Aim, Calls, Arrival, DialsBefore, DialsHeld, Fits, FitsStill, HasJoined, IsKnown, IsOver, IsSetOrNot, IsTurning, KeepsOthers, Third, TurnAt, WhoAsked, own, own_keeping, scene_of, turn_on, waits_for}
use Rattle.logon_runs.specs.Runs.{ClientAnswer, StandsInStep, info_asked}
use Rattle.logon_runs.specs.Scenes.Scene.{Scene, Shows}
use Rattle.logon_runs.specs.Scenes.TurnScenes.{turn_scene, unit_back, with_accounts}
use Rattle.logon_runs.specs.Scenes.WaitingUnits.{waiting}

-- what is left when a logon is over: the member's secrets and its channel, its next number, all links, and what the
-- controller keeps
pub record Settled : Type 0 where
  pub secrets : SecretsState
  pub how : Standing
  pub number : ℕ
  pub links : List Route
  pub table : AccountTable
  pub computers : Computers

abbrev pub settled_in : Arrival → Settled → Meeting
settled_in p e = settled_at (own_keeping p e.secrets) e.table p.name e.computers e.how e.number e.links

-- the reply that refuses
abbrev pub refusing : SecureChannelState → ℕ → ℕ → Reply
refusing o timestamp status = passed_reply (key_of_channel o) (return_of (key_of_channel o) o.seed timestamp) (verdict.Status status)

-- the phases: the reply that refuses waits; WhoAmI does, where nobody is let in; the fault does
pub data AwayPhase (p : Arrival) : Type 0 where
  Refused : (a : ClientAnswer) (who : WhoAsked p a) (v : TurnAt) (o c : SecureChannelState) (timestamp : ℕ) (accounts : AccountTable) (status : ℕ) → AwayPhase p
  Unheard : (a : ClientAnswer) (who : WhoAsked p a) (e : Settled) → AwayPhase p
  Faulted : (a : ClientAnswer) (later : Option SessionState) (e : Settled) (status : ℕ) → AwayPhase p

abbrev pub away_scene : (p : Arrival) → AwayPhase p → List (List ℕ) → ℕ → Scene
away_scene p (Refused a who v o c timestamp accounts status) left moment =
    turn_scene (with_accounts accounts (turn_on p a who.later (who.sent ∷ []) v (Third o c timestamp))) (after v.next) v.next (step.Reply question.Logon) v.computers
    (turn_link (length v.links))
    (unit_back (with_accounts accounts (turn_on p a who.later (who.sent ∷ []) v (Third o c timestamp))) (reply_bytes v.next (refusing o timestamp status)) ∷ []) left moment
away_scene p (Unheard a who e) left moment =
    meeting_scene (settled_in p e) (waits_for p a who.later) (out_talk p.meeting.task rpc_s_server_unavailable) (unit_up (own p) who.sent ∷ []) left moment
away_scene p (Faulted a later e status) left moment =
    meeting_scene (settled_in p e) (waits_for p a later) (out_talk p.meeting.task status) (unit_down (own p) (who_fault status) ∷ []) left moment

-- The channel is none, or both ends are in step and no secret is next. The accounts differ from those of the turn in
-- counts of bad passwords alone.
pub record IsSettled (p : Arrival) (e : Settled) : Type 0 where
  pub joined_so : HasJoined p e.links
  pub number_below : e.number < 2 ^ 32
  pub next : IsNextSecret e.secrets.next
  pub one : (o : SecureChannelState) → e.how ≡ standing.Open o → e.secrets.next ≡ None
  pub before : AccountTable
  pub set : IsSetOrNot p before
  pub differs : DifferInCounts before e.table
  pub ranged : InRangeTable e.table
  pub fits : FitsStill p e.table e.secrets
  pub others : KeepsOthers p e.computers
  pub stands : (e.how ≡ standing.Nothing) ⊎ StandsInStep (settled_in p e) e.computers

-- a status that refuses a logon, and leaves its channel
pub record IsRefusal (status : ℕ) : Type 0 where
  pub small : status < 2 ^ 32
  pub not_zero : (status == 0) ≡ false
  pub not_denied : (status == access_denied) ≡ false

abbrev pub FitsAway : (p : Arrival) → AwayPhase p → Type 0
FitsAway p (Refused a who v o c timestamp accounts status) =
    IsTurning p a v × IsRefusal status × DifferInCounts v.table accounts × InRangeTable accounts
    × (lookup same_name p.meeting.caller.computer v.computers.channels ≡ Some (moved c timestamp)) × IsInStep o c × (v.secrets.next ≡ None)
FitsAway p (Unheard a who e) = IsSettled p e
FitsAway p (Faulted a later e status) = IsSettled p e × (status < 2 ^ 32)

pub record IsAway (p : Arrival) (s : State) : Type 0 where
  pub phase : AwayPhase p
  pub left : List (List ℕ)
  pub moment : ℕ
  pub fits : FitsAway p phase
  pub shows : Shows s (away_scene p phase left moment)

-- a logon is over: the client has its outcome, no link is open, and nothing waits
pub record HasEnded (p : Arrival) (s : State) : Type 0 where
  pub outcome : ClientOutcome
  pub settled : Settled
  pub left : List (List ℕ)
  pub moment : ℕ
  pub fits : IsSettled p settled
  pub shows : Shows s (rest_scene (settled_in p settled) (client_ended p.meeting.task outcome) settled.links left moment [])

pub record LogonsAreTurnedAway : Type 0 where
  -- each status of a verdict is one with which a member refuses
  pub refusals : (p : Arrival) (a : ClientAnswer) (moment status : ℕ) → verdict_of p.table p.name (info_asked (own p) a) moment ≡ verdict.Status status → IsRefusal status
  -- the controller refuses the logon; its table then has other counts of bad passwords
  pub refuses : (p : Arrival) (s : State) (a : ClientAnswer) (who : WhoAsked p a) (v : TurnAt) (o c : SecureChannelState) (timestamp : ℕ) (left : List (List ℕ)) (moment status : ℕ) → IsKnown p →
      Fits p (Calls a who v (Third o c timestamp)) → verdict_of v.table p.name (info_asked (own p) a) moment ≡ verdict.Status status →
      Shows s (scene_of p (Calls a who v (Third o c timestamp)) left moment) → IsAway p (onward s).state
  -- the member reaches no controller, before WhoAmI is held or once it is
  pub unreached : (p : Arrival) (s : State) (a : ClientAnswer) (who : WhoAsked p a) (v : TurnAt) (aim : Aim) (left : List (List ℕ)) (moment : ℕ) → InRangeTable p.table → IsTurning p a v →
      route_to (Member p.meeting.at_member) (end_of_peer p.meeting.plan.controller s.ends) ≡ None →
      Shows s (scene_of p (DialsBefore a who v aim) left moment) → IsAway p (connect s).state
  pub unreached_held : (p : Arrival) (s : State) (a : ClientAnswer) (who : WhoAsked p a) (v : TurnAt) (aim : Aim) (left : List (List ℕ)) (moment : ℕ) → InRangeTable p.table → IsTurning p a v →
      route_to (Member p.meeting.at_member) (end_of_peer p.meeting.plan.controller s.ends) ≡ None →
      Shows s (scene_of p (DialsHeld a who v aim) left moment) → IsAway p (connect s).state
  -- a logon that is over has ended so, also where the client is in
  pub over : (p : Arrival) (s : State) → IsOver p s → HasEnded p s
  -- each move leads on, or to the end
  pub goes_on : (p : Arrival) (s : State) (what : Move) → IsStepOn what → IsAway p s → IsAway p (act s what).state ⊎ HasEnded p (act s what).state
  -- a logon draws no challenge, from the judgement on
  pub judged_draws : (p : Arrival) (s : State) (a : ClientAnswer) (who : WhoAsked p a) (v : TurnAt) (o c : SecureChannelState) (timestamp : ℕ) (left : List (List ℕ)) (moment status : ℕ) →
      (known : IsKnown p) (fits : Fits p (Calls a who v (Third o c timestamp))) → (is : verdict_of v.table p.name (info_asked (own p) a) moment ≡ verdict.Status status) →
      Shows s (scene_of p (Calls a who v (Third o c timestamp)) left moment) → (onward s).state.chances.left ≡ s.chances.left
  pub draws : (p : Arrival) (s : State) (what : Move) → IsStepOn what → IsAway p s → (act s what).state.chances.left ≡ s.chances.left
  pub over_draws : (p : Arrival) (s : State) (what : Move) → IsStepOn what → HasEnded p s → (act s what).state.chances.left ≡ s.chances.left
  -- something waits
  pub waits : (p : Arrival) (s : State) → IsAway p s → s.dials ≡ [] → waiting s.bag ≡ [] → ⊥
  -- once a logon is over, moves change nothing of it
  pub rests : (p : Arrival) (s : State) (what : Move) → IsStepOn what → HasEnded p s → HasEnded p (act s what).state
