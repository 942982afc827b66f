-- What is seen at each move of a first logon, up to the answer of WhoAmI (MS-NLMP 3.1.5.1, 3.2.5.1; MS-NRPC 3.1.4.1,
-- 3.5.4.4.1, 3.5.4.4.3, 3.5.4.5.3), where the moment stays and WhoAmI comes before the member's dial is answered.
use Rattle.std.specs.Prelude.{ℕ, ◌≡◌, List, [], ◌∷◌, Option, Some, None}
use Rattle.authenticators.specs.SecureChannels.{after_call}
use Rattle.ntlm_seal.specs.Sessions.{SessionState}
use Rattle.rpc_units.specs.Calls.{bytes_of_call}
use Rattle.rpc_units.specs.Writing.{written}
use Rattle.end_links.specs.Binding.{bind_of}
use Rattle.logon_stubs.specs.declared.calls.Call.{Call}
use Rattle.logon_stubs.specs.declared.calls.Reply.{Reply}
use Rattle.logon_stubs.specs.declared.calls.Reply.TheVariants as reply
use Rattle.logon_stubs.specs.Interface.{netlogon_syntax}
use Rattle.memo_stubs.specs.Memo.{written_who_reply}
use Rattle.account_table.specs.AccountTable.{AccountTable}
use Rattle.account_table.specs.declared.account.Account.{Account}
use Rattle.channel_client.specs.Machine.{after, auth_call, challenge_call, logon_call, offered_flags, question_of, server_credential}
use Rattle.channel_client.specs.declared.state.Standing.TheVariants as standing
use Rattle.channel_client.specs.declared.state.Step.TheVariants as step
use Rattle.domain_controller.specs.Hearing.{first_talk}
use Rattle.controller_calls.specs.declared.state.Computers.{Computers}
use Rattle.logon_client.specs.Answering.{bind_for}
use Rattle.logon_client.specs.State.{State as ClientState}
use Rattle.logon_client.specs.declared.state.Phase.{Phase as ClientPhase}
use Rattle.logon_client.specs.declared.state.Phase.TheVariants as client_phase
use Rattle.logon_client.specs.declared.state.Question.TheVariants as client_question
use Rattle.logon_client.specs.declared.state.ClientLink.TheVariants as client_standing
use Rattle.logon_client.specs.declared.state.Terms.{Terms}
use Rattle.member_server.specs.Messages.{info_of}
use Rattle.member_server.specs.Outcomes.{name_in}
use Rattle.member_server.specs.Requests.{talk_in}
use Rattle.member_server.specs.Turns.{timestamp_of}
use Rattle.world_moves.specs.declared.links.EndId.TheVariants.{Client, Controller}
use Rattle.world_moves.specs.declared.links.Route.{Route}
use Rattle.world_moves.specs.declared.state.State.{State}
use Rattle.world_moves.specs.Moving.{end_of_peer}
use Rattle.logon_steps.specs.Answers.{auth3_for, drawn_of, logon_for, terms_for}
use Rattle.logon_steps.specs.ClientSteps.{client_at}
use Rattle.logon_steps.specs.ControllerTurns.{one_link, reply_bytes, turn_link}
use Rattle.logon_steps.specs.Granting.{cleared}
use Rattle.logon_steps.specs.Meeting.{ack_for, bound_for, challenged_talk, flags_agreed, fresh_talk}
use Rattle.logon_steps.specs.MemberAnswers.{granting, sam_shown}
use Rattle.logon_steps.specs.MemberLinks.{asked_talk}
use Rattle.logon_steps.specs.MemoCalls.{ReplyGoes, RequestGoes, logged_on, with_session}
use Rattle.logon_steps.specs.Turning.{turn_ack, turn_request}
use Rattle.logon_runs.specs.Scenes.AskScenes.{turn_of, with_controller}
use Rattle.logon_runs.specs.FirstLogon.FirstLogonRuns.{ComesInFirst, after_first, first_turns}
use Rattle.logon_runs.specs.FirstLogon.FirstRuns.{IsToBeOpened, channel_as, opened_at, opens_as, go_through_turn, with_pair}
use Rattle.logon_runs.specs.Scenes.LinkScenes.{Meeting, its_link, joined, meeting_scene, rest_scene, unit_down, unit_up}
use Rattle.logon_runs.specs.Runs.{ClientAnswer, asked_at, connects, goes, hidden, info_asked, meets, message_for, on_for, sam_for, starts, with_moved}
use Rattle.logon_runs.specs.Scenes.Scene.{Shows}
use Rattle.logon_runs.specs.Scenes.TurnScenes.{TurnScene, dial_scene, next_turn, turn_scene, unit_back, unit_there, with_accounts}

-- ---- a turn

-- A turn: its bind, the answer, its call and the reply, by a move each. With the reply the controller keeps `kept` of
-- computers, and has the accounts of the later turn.
pub record TurnSeen (s : State) (t later : TurnScene) (next number : ℕ) (c : Call) (r : Reply) (computers kept : Computers) (left rest : List (List ℕ)) (moment : ℕ) : Type 0 where
  pub bind : Shows (connects s)
      (turn_scene t next number (step.Bind c) computers (one_link t.link first_talk) (unit_there t (written (bind_of netlogon_syntax number)) ∷ []) left moment)
  pub ack : Shows (goes (connects s))
      (turn_scene t next number (step.Bind c) computers (turn_link t.link) (unit_back t (written (turn_ack number)) ∷ []) left moment)
  pub call : Shows (goes (goes (connects s)))
      (turn_scene t (after next) next (step.Reply (question_of c)) computers (turn_link t.link) (unit_there t (bytes_of_call (turn_request next c) 5840) ∷ []) left moment)
  pub reply : Shows (goes (goes (goes (connects s))))
      (turn_scene later (after next) next (step.Reply (question_of c)) kept (turn_link t.link) (unit_back t (reply_bytes next r) ∷ []) rest moment)

-- ---- the three turns

-- the logon is asked, and these requests are held
abbrev pub asked_turn : Meeting → ClientAnswer → ClientPhase → List (List ℕ) → AccountTable → List ℕ → TurnScene
asked_turn g a waits held table name =
    turn_of g waits (info_of (message_for g a) (flags_agreed g.task) a.challenge) (logon_for g.link g.task a.challenge (message_for g a))
    (asked_talk (bound_for g.task) g.place held) table name

abbrev pub turn_first : Meeting → ClientAnswer → ClientPhase → List ℕ → AccountTable → List ℕ → TurnScene
turn_first g a waits sent table name = next_turn (asked_turn g a waits (sent ∷ []) table name) (its_link g) standing.Nothing

abbrev pub turn_second : Meeting → ClientAnswer → ClientPhase → List ℕ → List ℕ → List ℕ → AccountTable → List ℕ → TurnScene
turn_second g a waits client server sent table name = next_turn (turn_first g a waits sent table name) (its_link g) (standing.Half client server)

abbrev pub turn_third : Meeting → ClientAnswer → ClientPhase → List ℕ → List ℕ → List ℕ → AccountTable → List ℕ → ℕ → TurnScene
turn_third g a waits client server sent table name timestamp =
    next_turn (turn_second g a waits client server sent table name) (its_link g) (standing.Open (after_call (opens_as g client server) timestamp))

-- from the AUTHENTICATE on, where those are the bytes of WhoAmI
pub record FirstTurnsSeen (s : State) (g : Meeting) (a : ClientAnswer) (client server : List ℕ) (table : AccountTable) (name : List ℕ) (account machine : Account) (computers : Computers)
    (waits : ClientPhase) (sent : List ℕ) (left : List (List ℕ)) (moment : ℕ) : Type 0 where
  -- the logon is asked, and WhoAmI is held
  pub asked : Shows (goes s)
      (dial_scene (asked_turn g a waits [] table name) (its_link g) standing.Nothing (after g.number) g.number (challenge_call g.caller client) computers (unit_up g sent ∷ []) (server ∷ left) moment)
  pub held : Shows (goes (goes s))
      (dial_scene (asked_turn g a waits (sent ∷ []) table name) (its_link g) standing.Nothing (after g.number) g.number (challenge_call g.caller client) computers [] (server ∷ left) moment)
  -- NetrServerReqChallenge, and the next turn is dialled
  pub challenge : TurnSeen (goes (goes s)) (turn_first g a waits sent table name) (turn_first g a waits sent table name) (after g.number) g.number (challenge_call g.caller client)
      (reply.Challenge (record { challenge = server; status = 0 })) computers (with_pair g client server computers) (server ∷ left) left moment
  pub half : Shows (go_through_turn (goes (goes s)))
      (dial_scene (turn_first g a waits sent table name) (its_link g) (standing.Half client server) (after (after (after g.number))) (after (after g.number)) (auth_call g.caller client server)
      (with_pair g client server computers) [] left moment)
  -- NetrServerAuthenticate2, and the next turn is dialled
  pub proof : TurnSeen (go_through_turn (goes (goes s))) (turn_second g a waits client server sent table name) (turn_second g a waits client server sent table name) (after (after (after g.number)))
      (after (after g.number)) (auth_call g.caller client server)
      (reply.Authenticate (record { credential = server_credential g.caller.secret client server; flags = offered_flags; status = 0 }))
      (with_pair g client server computers) (opened_at g machine client server computers) left left moment
  pub opened : Shows (go_through_turn (go_through_turn (goes (goes s))))
      (dial_scene (turn_second g a waits client server sent table name) (its_link g) (standing.Open (after_call (opens_as g client server) (timestamp_of moment)))
      (after (after (after (after (after g.number))))) (after (after (after (after g.number)))) (logon_call g.caller (opens_as g client server) (timestamp_of moment) (info_asked g a))
      (opened_at g machine client server computers) [] left moment)
  -- NetrLogonSamLogon
  pub logon : TurnSeen (go_through_turn (go_through_turn (goes (goes s)))) (turn_third g a waits client server sent table name (timestamp_of moment))
      (with_accounts (cleared table g.task.user) (turn_third g a waits client server sent table name (timestamp_of moment)))
      (after (after (after (after (after g.number))))) (after (after (after (after g.number)))) (logon_call g.caller (opens_as g client server) (timestamp_of moment) (info_asked g a))
      (granting (opens_as g client server) (timestamp_of moment) 0 1 (hidden (opens_as g client server) (sam_for g a table name account moment)))
      (opened_at g machine client server computers)
      (with_moved g (channel_as g machine client server) (timestamp_of moment) (opened_at g machine client server computers)) left left moment

pub record FirstTurnsAreSeen : Type 0 where
  pub turns : (s : State) (g : Meeting) (a : ClientAnswer) (client server : List ℕ) (table : AccountTable) (name : List ℕ) (account machine : Account) (computers : Computers)
      (waits : ClientPhase) (one other : Option SessionState) (left : List (List ℕ)) (moment : ℕ) → IsToBeOpened g a client server table name account machine moment →
      end_of_peer g.plan.controller s.ends ≡ Some (Controller g.at_controller) → (who : RequestGoes 1 g.task.level 2 0 [] one other) →
      Shows s (meeting_scene (with_controller g table name computers) waits (challenged_talk g.task a.challenge)
      (unit_up g (written (auth3_for g.task (message_for g a))) ∷ unit_up g who.sent ∷ []) (client ∷ server ∷ left) moment) →
      FirstTurnsSeen s g a client server table name account machine computers waits who.sent left moment

-- ---- a whole logon

-- the client's terms once WhoAmI is out
abbrev pub waits_for_name : Terms → Option SessionState → ClientPhase
waits_for_name terms session = client_phase.Asked (with_session terms session) client_question.Who

-- From the start on: WhoAmI and its answer, and what is seen at each move.
pub record FirstLogonSeen (s : State) (g : Meeting) (number : ℕ) (links : List Route) (a : ClientAnswer) (client server : List ℕ) (table : AccountTable) (name : List ℕ)
    (account machine : Account) (computers : Computers) (left : List (List ℕ)) (moment : ℕ) : Type 0 where
  pub who : RequestGoes 1 g.task.level 2 0 [] (terms_for g.plan g.task a.challenge a.then_now (drawn_of a.one a.two a.three)).session
      (on_for (joined g links) a (opens_as g client server) (sam_for (joined g links) a table name account moment)).session
  pub back : ReplyGoes 2 g.task.level 2
      (written_who_reply (name_in (sam_shown (opens_as g client server) (hidden (opens_as g client server) (sam_for (joined g links) a table name account moment))))) who.next who.later
  -- the dial of the client, its bind, the CHALLENGE, and the AUTHENTICATE with WhoAmI behind it
  pub begun : Shows (starts number s)
      (rest_scene (with_controller g table name computers) (client_at g.task client_standing.Dialling) links
      (a.challenge ∷ a.one ∷ a.two ∷ a.three ∷ client ∷ server ∷ left) moment (record { end = Client g.at_client; peer = g.task.server } ∷ []))
  pub bind : Shows (connects (starts number s))
      (meeting_scene (with_controller (joined g links) table name computers) client_phase.Bound fresh_talk
      (unit_up (joined g links) (written (bind_for g.task.level g.task.auth)) ∷ []) (a.challenge ∷ a.one ∷ a.two ∷ a.three ∷ client ∷ server ∷ left) moment)
  pub ack : Shows (goes (connects (starts number s)))
      (meeting_scene (with_controller (joined g links) table name computers) client_phase.Bound (challenged_talk g.task a.challenge)
      (unit_down (joined g links) (written (ack_for g.plan g.task a.challenge)) ∷ []) (a.one ∷ a.two ∷ a.three ∷ client ∷ server ∷ left) moment)
  pub answered : Shows (meets number s)
      (meeting_scene (with_controller (joined g links) table name computers)
      (waits_for_name (terms_for g.plan g.task a.challenge a.then_now (drawn_of a.one a.two a.three)) who.later) (challenged_talk g.task a.challenge)
      (unit_up (joined g links) (written (auth3_for g.task (message_for (joined g links) a))) ∷ unit_up (joined g links) who.sent ∷ []) (client ∷ server ∷ left) moment)
  pub turns : FirstTurnsSeen (meets number s) (joined g links) a client server table name account machine computers
      (waits_for_name (terms_for g.plan g.task a.challenge a.then_now (drawn_of a.one a.two a.three)) who.later) who.sent left moment
  -- the answer of WhoAmI
  pub granted : Shows (first_turns number s)
      (meeting_scene (after_first g links machine client server table name computers moment)
      (waits_for_name (terms_for g.plan g.task a.challenge a.then_now (drawn_of a.one a.two a.three)) who.later)
      (talk_in None (logged_on (on_for (joined g links) a (opens_as g client server) (sam_for (joined g links) a table name account moment)) back.later))
      (unit_down (joined g links) back.sent ∷ []) left moment)

pub record FirstLogonsAreSeen : Type 0 where
  pub logon : (s : State) (g : Meeting) (number : ℕ) (before : ClientState) (links : List Route) (challenge one two three client server : List ℕ)
      (table : AccountTable) (name : List ℕ) (account machine : Account) (computers : Computers) (left : List (List ℕ)) (moment : ℕ) →
      ComesInFirst s g number links (asked_at challenge one two three moment) client server table name account machine moment →
      Shows s (rest_scene (with_controller g table name computers) before links (challenge ∷ one ∷ two ∷ three ∷ client ∷ server ∷ left) moment []) →
      FirstLogonSeen s g number links (asked_at challenge one two three moment) client server table name account machine computers left moment
