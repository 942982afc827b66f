-- A logon that its member was answered as granted, with whatever key, as it is seen of a scene: from the reply that the
-- member takes so to the client's outcome, in whichever order the moves come (MS-NLMP 3.2.5.1.2; the memo interface is
-- this project's own).
use Rattle.std.specs.Prelude.{ℕ, ◌≡◌, ◌≤◌, ◌<◌, ◌^◌, ◌⊎◌, List, [], ◌∷◌, length, None, Some, slice_get}
use Rattle.wire_base.specs.Maps.{same_number, take_out}
use Rattle.wire_base.specs.Units.{AreUnits}
use Rattle.authenticators.specs.SecureChannels.{SecureChannelState}
use Rattle.ntlm_messages.specs.declared.messages.Authenticate.{Authenticate}
use Rattle.logon_stubs.specs.declared.calls.Reply.{Reply}
use Rattle.logon_stubs.specs.declared.info.NetworkInfo.{NetworkInfo}
use Rattle.logon_stubs.specs.declared.info.SamInfo.{SamInfo}
use Rattle.logon_stubs.specs.declared.info.Verdict.TheVariants as verdict
use Rattle.account_table.specs.AccountTable.{AccountTable}
use Rattle.channel_client.specs.declared.judging.Judgement.TheVariants as judgement
use Rattle.channel_client.specs.declared.state.Question.{Question as Asking}
use Rattle.channel_client.specs.declared.state.Standing.{Standing}
use Rattle.channel_client.specs.declared.state.Standing.TheVariants as standing
use Rattle.channel_client.specs.declared.state.Step.TheVariants as step
use Rattle.channel_client.specs.Machine.{judge}
use Rattle.controller_calls.specs.declared.state.Computers.{Computers}
use Rattle.logon_client.specs.declared.outcome.ClientOutcome.{ClientOutcome}
use Rattle.logon_client.specs.declared.state.Phase.TheVariants as client_phase
use Rattle.logon_client.specs.declared.state.Question.{Question}
use Rattle.logon_client.specs.declared.state.Question.TheVariants as client_question
use Rattle.logon_client.specs.declared.state.Terms.{Terms}
use Rattle.logon_client.specs.Machine as client
use Rattle.logon_client.specs.Plans.{CanLogOn}
use Rattle.member_server.specs.declared.state.LoggedOn.{LoggedOn}
use Rattle.member_server.specs.Outcomes.{name_in}
use Rattle.member_server.specs.Requests.{talk_in}
use Rattle.world_moves.specs.declared.links.Route.{Route}
use Rattle.world_moves.specs.declared.links.Route.TheVariants.{ToMember}
use Rattle.world_moves.specs.declared.moves.Move.{Move}
use Rattle.world_moves.specs.declared.state.State.{State}
use Rattle.world_moves.specs.Links.{OpenMap}
use Rattle.world_moves.specs.Moving.{act, onward}
use Rattle.logon_steps.specs.ClientSteps.{client_ended}
use Rattle.logon_steps.specs.ControllerTurns.{reply_bytes, turn_link}
use Rattle.logon_steps.specs.Turning.{IsTurnReply}
use Rattle.logon_runs.specs.Failing.Failings.{failing_turn, settled_at}
use Rattle.logon_runs.specs.OtherKeys.Differing.{AreTerms, IsLetIn, IsSingle, IsRequest}
use Rattle.logon_runs.specs.Scenes.LinkScenes.{IsJoined, Meeting, its_link, meeting_scene, rest_scene, unit_down, unit_up}
use Rattle.logon_runs.specs.Scenes.Others.{AreAmong, IsStepOn}
use Rattle.logon_runs.specs.Phases.{Arrival, WhoAsked, terms_at}
use Rattle.logon_runs.specs.Rests.{three_of}
use Rattle.logon_runs.specs.Runs.{ClientAnswer}
use Rattle.logon_runs.specs.Scenes.Scene.{Scene, Shows}
use Rattle.logon_runs.specs.Scenes.TurnScenes.{IsBetween, TurnScene, turn_scene, unit_back}
use Rattle.logon_runs.specs.Scenes.WaitingUnits.{waiting}

-- the phases once somebody is let in on the client's link: its request waits, or the member's reply does
pub data LetInPhase : Type 0 where
  Asks : (terms : Terms) (question : Question) (on : LoggedOn) (bytes : List ℕ) → LetInPhase
  Hears : (terms : Terms) (question : Question) (on : LoggedOn) (bytes : List ℕ) → LetInPhase

abbrev pub let_in_scene : Meeting → LetInPhase → List (List ℕ) → ℕ → Scene
let_in_scene g (Asks terms question on bytes) left moment =
    meeting_scene g (client_phase.Asked terms question) (talk_in None on) (unit_up g bytes ∷ []) left moment
let_in_scene g (Hears terms question on bytes) left moment =
    meeting_scene g (client_phase.Asked terms question) (talk_in None on) (unit_down g bytes ∷ []) left moment

-- the operation of a question, the units that the client has sent by then, and the replies before its answer
abbrev pub opnum_of : Question → ℕ
opnum_of client_question.Who = client.who_opnum
opnum_of (client_question.Echo name) = client.echo_opnum

abbrev pub asked_by : Question → ℕ
asked_by client_question.Who = 1
asked_by (client_question.Echo name) = 2

abbrev pub answered_by : Question → ℕ
answered_by client_question.Who = 0
answered_by (client_question.Echo name) = 1

-- no session has to be the other's
abbrev pub FitsLetIn : Meeting → LetInPhase → Type 0
FitsLetIn g (Asks terms question on bytes) =
    IsRequest (client.awaited (client_phase.Asked terms question)) (opnum_of question) bytes
    × AreTerms (asked_by question) terms × IsLetIn g.task (answered_by question) on
FitsLetIn g (Hears terms question on bytes) =
    IsSingle bytes × AreTerms (asked_by question) terms × IsLetIn g.task (asked_by question) on

-- the state is in a phase in which the client is let in and asks, with these challenges left
pub record IsOnLink (g : Meeting) (left : List (List ℕ)) (s : State) : Type 0 where
  pub can : CanLogOn g.task
  pub joined : IsJoined g
  pub phase : LetInPhase
  pub moment : ℕ
  pub fits : FitsLetIn g phase
  pub shows : Shows s (let_in_scene g phase left moment)

-- the client has its outcome, no link is open, nothing waits, and the member's channel rests
pub record HasEndedAt (g : Meeting) (left : List (List ℕ)) (s : State) : Type 0 where
  pub outcome : ClientOutcome
  pub moment : ℕ
  pub shows : Shows s (rest_scene g (client_ended g.task outcome) g.links left moment [])

abbrev pub GoesOn : Meeting → List (List ℕ) → State → Type 0
GoesOn g left s = IsOnLink g left s ⊎ HasEndedAt g left s

pub record GrantsGoOn : Type 0 where
  -- what a client sent and its terms since
  pub asked : (p : Arrival) (a : ClientAnswer) (who : WhoAsked p a) →
      IsRequest client.who_number client.who_opnum who.sent × AreTerms 1 (record (terms_at p a) { session = who.later })
  -- the turn's reply comes, and the member takes it as one that grants the logon, with whatever key
  pub granted : (s : State) (g : Meeting) (terms : Terms) (info : NetworkInfo) (challenge : List ℕ) (message : Authenticate) (bytes : List ℕ) (table : AccountTable) (name : List ℕ)
      (how : Standing) (o : SecureChannelState) (links : List Route) (opened : OpenMap) (link next number : ℕ) (q : Asking) (r : Reply) (sam : SamInfo) (computers : Computers)
      (left : List (List ℕ)) (moment : ℕ) →
      let t : TurnScene = failing_turn g (client_phase.Asked terms client_question.Who) info challenge message (bytes ∷ []) table name how links opened link in
      CanLogOn g.task → IsRequest client.who_number client.who_opnum bytes → AreTerms 1 terms → length (name_in sam) ≤ 129 → AreUnits (name_in sam) →
      number < 2 ^ 32 → IsBetween t → IsTurnReply q r → judge q r how g.caller.secret ≡ judgement.Answer o (verdict.Granted sam) →
      slice_get links g.link ≡ Some (ToMember g.at_client g.at_member) → take_out same_number link opened ≡ its_link g →
      Shows s (turn_scene t next number (step.Reply q) computers (turn_link link) (unit_back t (reply_bytes number r) ∷ []) left moment) →
      GoesOn (settled_at g table name computers (standing.Open o) next links) left (onward s).state
  -- each move leads on, or to the end; no challenge is drawn
  pub goes_on : (g : Meeting) (left : List (List ℕ)) (s : State) (what : Move) → IsStepOn what → IsOnLink g left s → GoesOn g left (act s what).state
  -- something waits, and the one link that is open is the client's
  pub waits : (g : Meeting) (left : List (List ℕ)) (s : State) → IsOnLink g left s → waiting s.bag ≡ [] → ⊥
  pub alone : (g : Meeting) (left : List (List ℕ)) (s : State) → IsOnLink g left s →
      AreAmong (three_of g.at_client g.at_member g.at_controller) s.open_links × (s.dials ≡ [])
  -- once a logon is over, moves change nothing of it
  pub rests : (g : Meeting) (left : List (List ℕ)) (s : State) (what : Move) → IsStepOn what → HasEndedAt g left s → HasEndedAt g left (act s what).state
