-- A whole first logon, by a channel that is opened for it, from a client's start where no link is
-- open to its end where none is (MS-NLMP 3.2.5.1.2, MS-NRPC 3.5.4.5.3), as it is seen of a scene
-- where the moment stays and WhoAmI comes before the member's dial is answered.
use Rattle.std.specs.Prelude.{ℕ, ◌≡◌, ◌≤◌, ◌==◌, true, false, List, [], ◌∷◌, length, Some, slice_get}
use Rattle.wire_base.specs.Units.{AreUnits}
use Rattle.authenticators.specs.SecureChannels.{SecureChannelState}
use Rattle.logon_stubs.specs.declared.info.SamInfo.{SamInfo}
use Rattle.account_table.specs.AccountTable.{AccountTable}
use Rattle.account_table.specs.declared.account.Account.{Account}
use Rattle.controller_calls.specs.declared.state.Computers.{Computers}
use Rattle.logon_client.specs.State.{State as ClientState}
use Rattle.logon_client.specs.declared.outcome.ClientOutcome.TheVariants.{In}
use Rattle.member_server.specs.Outcomes.{name_in}
use Rattle.member_server.specs.Turns.{timestamp_of}
use Rattle.world_moves.specs.declared.links.EndId.TheVariants.{Controller, Member}
use Rattle.world_moves.specs.declared.links.Route.{Route}
use Rattle.world_moves.specs.declared.state.State.{State}
use Rattle.world_moves.specs.Choosing.{chosen_place}
use Rattle.world_moves.specs.Ends.{starters_in}
use Rattle.world_moves.specs.Moving.{end_of_peer}
use Rattle.logon_steps.specs.Answers.{answer_for, drawn_of}
use Rattle.logon_steps.specs.ClientSteps.{client_ended}
use Rattle.logon_steps.specs.Granting.{cleared}
use Rattle.logon_steps.specs.MemberAnswers.{sam_shown}
use Rattle.logon_runs.specs.Scenes.AskScenes.{with_controller}
use Rattle.logon_runs.specs.Grants.{KeyArrives}
use Rattle.logon_runs.specs.Scenes.LinkScenes.{Meeting, joined, rest_scene}
use Rattle.logon_runs.specs.Runs.{ClientAnswer, asked_at, goes, hidden, meets, sam_for, with_moved}
use Rattle.logon_runs.specs.FirstLogon.FirstRuns.{IsToBeOpened, channel_as, opened_at, opens_as, rested_first, go_through_turn}
use Rattle.logon_runs.specs.Scenes.Scene.{Shows}

-- after the three turns that follow
abbrev pub first_turns : ℕ → State → State
first_turns number s = go_through_turn (go_through_turn (go_through_turn (goes (goes (meets number s)))))

-- which client starts, whom it reaches, and that its logon is granted on the next link
pub record ComesInFirst (s : State) (g : Meeting) (number : ℕ) (links : List Route) (a : ClientAnswer) (client server : List ℕ) (table : AccountTable) (name : List ℕ) (account machine : Account)
    (moment : ℕ) : Type 0 where
  pub chosen : chosen_place number (starters_in s.ends) ≡ Some g.at_client
  pub planned : slice_get s.client_plans g.at_client ≡ Some g.task
  pub member : end_of_peer g.task.server s.ends ≡ Some (Member g.at_member)
  pub controller : end_of_peer g.plan.controller s.ends ≡ Some (Controller g.at_controller)
  pub eight : length a.challenge ≡ 8
  pub opened : IsToBeOpened (joined g links) a client server table name account machine moment
  pub key : KeyArrives (joined g links) a (opens_as g client server)
  pub short : length (name_in (sam_shown (opens_as g client server) (hidden (opens_as g client server) (sam_for (joined g links) a table name account moment)))) ≤ 129
  pub units : AreUnits (name_in (sam_shown (opens_as g client server) (hidden (opens_as g client server) (sam_for (joined g links) a table name account moment))))

-- the member's channel, and the controller's, once it is granted
abbrev pub after_first : Meeting → List Route → Account → List ℕ → List ℕ → AccountTable → List ℕ → Computers → ℕ → Meeting
after_first g links machine client server table name computers moment =
    with_controller (rested_first (joined g links) (opens_as g client server) (timestamp_of moment)) (cleared table g.task.user) name
    (with_moved (joined g links) (channel_as g machine client server) (timestamp_of moment) (opened_at (joined g links) machine client server computers))

pub record FirstLogonsRun : Type 0 where
  -- the client is in, with its own key, the name that the member found, and what it echoed
  pub named : (s : State) (g : Meeting) (number : ℕ) (before : ClientState) (links : List Route) (challenge one two three client server : List ℕ)
      (table : AccountTable) (name : List ℕ) (account machine : Account) (computers : Computers) (left : List (List ℕ)) (moment : ℕ) →
      let a : ClientAnswer = asked_at challenge one two three moment in
      let sam : SamInfo = sam_for (joined g links) a table name account moment in
      let o : SecureChannelState = opens_as g client server in
      let end : Meeting = after_first g links machine client server table name computers moment in
      ComesInFirst s g number links a client server table name account machine moment → (g.task.echo == 0) ≡ true →
      Shows s (rest_scene (with_controller g table name computers) before links (challenge ∷ one ∷ two ∷ three ∷ client ∷ server ∷ left) moment []) →
      Shows (goes (first_turns number s))
      (rest_scene end (client_ended g.task (In (name_in (sam_shown o (hidden o sam))) (answer_for g.plan g.task challenge moment (drawn_of one two three)).key 0)) end.links left moment [])
  pub echoed : (s : State) (g : Meeting) (number : ℕ) (before : ClientState) (links : List Route) (challenge one two three client server : List ℕ)
      (table : AccountTable) (name : List ℕ) (account machine : Account) (computers : Computers) (left : List (List ℕ)) (moment : ℕ) →
      let a : ClientAnswer = asked_at challenge one two three moment in
      let sam : SamInfo = sam_for (joined g links) a table name account moment in
      let o : SecureChannelState = opens_as g client server in
      let end : Meeting = after_first g links machine client server table name computers moment in
      ComesInFirst s g number links a client server table name account machine moment → (g.task.echo == 0) ≡ false →
      Shows s (rest_scene (with_controller g table name computers) before links (challenge ∷ one ∷ two ∷ three ∷ client ∷ server ∷ left) moment []) →
      Shows (goes (goes (goes (first_turns number s))))
      (rest_scene end (client_ended g.task (In (name_in (sam_shown o (hidden o sam))) (answer_for g.plan g.task challenge moment (drawn_of one two three)).key g.task.echo)) end.links
      left moment [])
