-- The phases of one logon that is granted, as they are seen of a scene: in whichever order the moves come, and whenever
-- time passes (MS-NLMP 3.1.5.1, 3.2.5.1; MS-NRPC 3.1.4.1 to 3.1.4.5; the memo interface is this project's own).
use Rattle.std.specs.Prelude.{ℕ, ◌≡◌, ◌≤◌, ◌<◌, ◌^◌, ◌⊎◌, ◌++◌, true, false, IsSomeAnd, List, [], ◌∷◌, length, Option, Some, None, slice_get, Bool}
use Rattle.std.specs.Option.{option_and_then}
use Rattle.wire_base.specs.Maps.{lookup}
use Rattle.wire_base.specs.Names.{IsName, same_name}
use Rattle.authenticators.specs.SecureChannels.{SecureChannelState, after_call, after_return, fresh_channel}
use Rattle.ntlm_seal.specs.Sessions.{SessionState}
use Rattle.rpc_units.specs.Calls.{bytes_of_call}
use Rattle.rpc_units.specs.Writing.{written}
use Rattle.end_links.specs.Binding.{bind_of}
use Rattle.logon_stubs.specs.Ranges.{IsBlock}
use Rattle.logon_stubs.specs.declared.calls.Reply.TheVariants as reply
use Rattle.logon_stubs.specs.Interface.{netlogon_syntax}
use Rattle.secret_change.specs.Secrets.{IsNextSecret, SecretsState, tried_of}
use Rattle.memo_stubs.specs.Memo.{written_echo_reply, written_echo_request, written_who_reply}
use Rattle.account_table.specs.AccountTable.{AccountTable}
use Rattle.account_table.specs.Changes.{DifferInCounts, with_hash}
use Rattle.account_table.specs.LookUps.{account_in, knows_in, machine_in}
use Rattle.account_table.specs.Ranges.{InRangeAccount}
use Rattle.account_table.specs.declared.account.Account.{Account}
use Rattle.sam_logon.specs.MayLogOn.{MayLogOn}
use Rattle.channel_client.specs.declared.caller.Caller.{Caller}
use Rattle.channel_client.specs.declared.state.Question.TheVariants as question
use Rattle.channel_client.specs.declared.state.Standing.{Standing}
use Rattle.channel_client.specs.declared.state.Standing.TheVariants as standing
use Rattle.channel_client.specs.declared.state.SetStep.TheVariants as set_step
use Rattle.channel_client.specs.declared.state.Step.{Step}
use Rattle.channel_client.specs.declared.state.Step.TheVariants as step
use Rattle.channel_client.specs.Machine.{after, auth_call, challenge_call, change_call, logon_call, offered_flags, server_credential}
use Rattle.domain_controller.specs.Hearing.{first_talk}
use Rattle.domain_controller.specs.Machine.{account_for}
use Rattle.domain_controller.specs.State.{State as ControllerState}
use Rattle.domain_controller.specs.Whole.{InRangeTable}
use Rattle.controller_calls.specs.declared.state.Computers.{Computers}
use Rattle.logon_client.specs.declared.outcome.ClientOutcome.TheVariants.{In}
use Rattle.logon_client.specs.declared.state.Phase.{Phase as ClientPhase}
use Rattle.logon_client.specs.declared.state.Phase.TheVariants as client_phase
use Rattle.logon_client.specs.declared.state.Question.TheVariants as client_question
use Rattle.logon_client.specs.declared.state.ClientLink.TheVariants as client_standing
use Rattle.logon_client.specs.declared.state.Terms.{Terms}
use Rattle.logon_client.specs.Answering.{bind_for}
use Rattle.logon_client.specs.Machine as client
use Rattle.logon_client.specs.Plans.{CanLogOn}
use Rattle.logon_client.specs.State.{State as ClientState}
use Rattle.member_server.specs.declared.state.LoggedOn.{LoggedOn}
use Rattle.member_server.specs.declared.state.Talk.{Talk}
use Rattle.member_server.specs.Messages.{info_of}
use Rattle.member_server.specs.Outcomes.{session_in}
use Rattle.member_server.specs.Requests.{talk_in}
use Rattle.world_moves.specs.declared.links.EndId.TheVariants.{Client, Controller, Member}
use Rattle.world_moves.specs.declared.links.Route.{Route}
use Rattle.world_moves.specs.declared.links.Route.TheVariants.{ToMember}
use Rattle.world_moves.specs.declared.state.State.{State}
use Rattle.world_moves.specs.Choosing.{chosen_place}
use Rattle.world_moves.specs.Ends.{starters_in}
use Rattle.world_moves.specs.Moving.{act, end_of_peer, start}
use Rattle.world_moves.specs.declared.moves.Move.{Move}
use Rattle.logon_steps.specs.Answering.{IsInStep, auth_value, moved, pair_of}
use Rattle.logon_steps.specs.Answers.{AreDraws, HasUnits, answer_for, auth3_for, drawn_of, logon_for, terms_for}
use Rattle.logon_steps.specs.BesideTrusts.{at_no_trusts}
use Rattle.logon_steps.specs.Calling.{HasShortCaller, HasShortInfo}
use Rattle.logon_steps.specs.ClientSteps.{client_at, client_ended}
use Rattle.logon_steps.specs.ControllerTurns.{one_link, reply_bytes, turn_link}
use Rattle.logon_steps.specs.Granting.{info_told}
use Rattle.logon_steps.specs.Meeting.{HasShortNames, ack_for, bound_for, challenged_talk, flags_agreed, fresh_talk}
use Rattle.logon_steps.specs.MemberAnswers.{granting}
use Rattle.logon_steps.specs.MemberLinks.{asked_talk}
use Rattle.logon_steps.specs.MemoCalls.{ReplyGoes, RequestGoes, logged_on, with_session}
use Rattle.logon_steps.specs.SetTurns.{set_reply_bytes, set_request, set_taken}
use Rattle.logon_steps.specs.Turning.{turn_ack, turn_request}
use Rattle.logon_runs.specs.Scenes.AskScenes.{turn_within, with_controller}
use Rattle.logon_runs.specs.Grants.{KeyArrives}
use Rattle.logon_runs.specs.Failing.Failings.{settled_with}
use Rattle.logon_runs.specs.Scenes.LinkScenes.{FitsGiven, given_after, its_link, joined, Meeting, meeting_scene, rest_scene, unit_down, unit_up}
use Rattle.logon_runs.specs.Scenes.Others.{IfSo, IsStepOn, is_onward}
use Rattle.logon_runs.specs.Runs.{ClientAnswer, StandsInStep, hidden, info_asked, message_for, sam_for}
use Rattle.logon_runs.specs.Scenes.Scene.{Scene, Shows}
use Rattle.logon_runs.specs.Scenes.WaitingUnits.{waiting}
use Rattle.logon_runs.specs.Scenes.TurnScenes.{TurnScene, next_turn, waiting_scene, turn_scene, unit_back, unit_there, with_accounts}

-- ---- what stays

-- a client that starts, its member and that member's controller, with all links of before; the controller's accounts,
-- name and computers; the user's account and the computer's
pub record Arrival : Type 0 where
  pub meeting : Meeting
  pub table : AccountTable
  pub name : List ℕ
  pub computers : Computers
  pub account : Account
  pub machine : Account

-- on the next link
abbrev pub own : Arrival → Meeting
own p = joined p.meeting p.meeting.links

abbrev pub with_its_controller : Arrival → Meeting → Meeting
with_its_controller p g = with_controller g p.table p.name p.computers

-- the terms of the client's calls, its key, and WhoAmI
abbrev pub terms_at : Arrival → ClientAnswer → Terms
terms_at p a = terms_for p.meeting.plan p.meeting.task a.challenge a.then_now (drawn_of a.one a.two a.three)

abbrev pub key_at : Arrival → ClientAnswer → List ℕ
key_at p a = (answer_for p.meeting.plan p.meeting.task a.challenge a.then_now (drawn_of a.one a.two a.three)).key

abbrev pub WhoAsked : Arrival → ClientAnswer → Type 0
WhoAsked p a = RequestGoes 1 p.meeting.task.level 2 0 [] (terms_at p a).session (session_in (key_at p a) (flags_agreed p.meeting.task))

-- the client waits for its answer, with that session
abbrev pub waits_for : Arrival → ClientAnswer → Option SessionState → ClientPhase
waits_for p a later = client_phase.Asked (with_session (terms_at p a) later) client_question.Who

-- the name that it is told: the domain's, a backslash and the account's
abbrev pub told_of : Arrival → List ℕ
told_of p = p.table.domain ++ 0x5C ∷ p.account.name

-- ---- a turn

-- what the controller keeps of computers, the number of the turn's bind and the next one, all links before the turn's
-- own, the secrets that the member keeps, and the controller's accounts
pub record TurnAt : Type 0 where
  pub computers : Computers
  pub number : ℕ
  pub next : ℕ
  pub links : List Route
  pub secrets : SecretsState
  pub table : AccountTable

-- on the client's link, where the member keeps these secrets
abbrev pub own_keeping : Arrival → SecretsState → Meeting
own_keeping p secrets = settled_with secrets (own p)

-- what it is for: the two calls that open the channel, the logon's own, with the timestamp of its authenticator, or the
-- one that sets the member's next secret before that
pub data Aim : Type 0 where
  First : (client : List ℕ) → Aim
  Second : (client server : List ℕ) → Aim
  Third : (o c : SecureChannelState) (timestamp : ℕ) → Aim
  Fourth : (o c : SecureChannelState) (timestamp : ℕ) (new : List ℕ) → Aim

abbrev pub standing_for : Aim → Standing
standing_for (First client) = standing.Nothing
standing_for (Second client server) = standing.Half client server
standing_for (Third o c timestamp) = standing.Open (after_call o timestamp)
standing_for (Fourth o c timestamp new) = standing.Open (after_call o timestamp)

-- the step that its bind is for, the bytes of its call, and the step that waits for the reply
abbrev pub step_for : Arrival → ClientAnswer → Aim → Step
step_for p a (First client) = step.Bind (challenge_call p.meeting.caller client)
step_for p a (Second client server) = step.Bind (auth_call p.meeting.caller client server)
step_for p a (Third o c timestamp) = step.Bind (logon_call p.meeting.caller o timestamp (info_asked (own p) a))
step_for p a (Fourth o c timestamp new) = step.Set (set_step.Bind (change_call p.meeting.caller o timestamp new))

abbrev pub bytes_for : Arrival → ClientAnswer → ℕ → Aim → List ℕ
bytes_for p a number (First client) = bytes_of_call (turn_request number (challenge_call p.meeting.caller client)) 5840
bytes_for p a number (Second client server) = bytes_of_call (turn_request number (auth_call p.meeting.caller client server)) 5840
bytes_for p a number (Third o c timestamp) =
    bytes_of_call (turn_request number (logon_call p.meeting.caller o timestamp (info_asked (own p) a))) 5840
bytes_for p a number (Fourth o c timestamp new) = bytes_of_call (set_request number (change_call p.meeting.caller o timestamp new)) 5840

abbrev pub reply_for : Aim → Step
reply_for (First client) = step.Reply (question.Challenge client)
reply_for (Second client server) = step.Reply question.Authenticate
reply_for (Third o c timestamp) = step.Reply question.Logon
reply_for (Fourth o c timestamp new) = step.Set set_step.Reply

-- the turn before its link is made, and on it: the client's session, and the requests that the member holds
abbrev pub turn_before : Arrival → ClientAnswer → Option SessionState → List (List ℕ) → TurnAt → TurnScene
turn_before p a later held v =
    turn_within (own_keeping p v.secrets) (waits_for p a later) (info_of (message_for (own p) a) (flags_agreed p.meeting.task) a.challenge)
    (logon_for (own p).link p.meeting.task a.challenge (message_for (own p) a)) (asked_talk (bound_for p.meeting.task) p.meeting.place held) v.table p.name
    standing.Nothing v.links (its_link (own p)) (own p).link

abbrev pub turn_on : Arrival → ClientAnswer → Option SessionState → List (List ℕ) → TurnAt → Aim → TurnScene
turn_on p a later held v aim = next_turn (turn_before p a later held v) (its_link (own p)) (standing_for aim)

-- ---- what the logon comes to

-- the secrets that the member keeps, its channel's state, the next number, all links, and what the controller keeps
pub record Ending : Type 0 where
  pub secrets : SecretsState
  pub member : SecureChannelState
  pub number : ℕ
  pub links : List Route
  pub table : AccountTable
  pub computers : Computers

abbrev pub meeting_at : Arrival → Ending → Meeting
meeting_at p e = record (with_controller (own_keeping p e.secrets) e.table p.name e.computers) {
  given = given_after (own_keeping p e.secrets);
  how = standing.Open e.member;
  place = after p.meeting.place;
  number = e.number;
  links = e.links;
}

-- ---- the phases

pub data LogonPhase (p : Arrival) : Type 0 where
  -- the client's dial waits, its bind, and the CHALLENGE
  Dials : LogonPhase p
  Binds : LogonPhase p
  Challenged : (challenge : List ℕ) → LogonPhase p
  -- the AUTHENTICATE waits, and WhoAmI behind it
  Answers : (a : ClientAnswer) (who : WhoAsked p a) → LogonPhase p
  -- a turn's dial waits, before WhoAmI is held and once it is; then its bind, the answer, and its call
  DialsBefore : (a : ClientAnswer) (who : WhoAsked p a) (v : TurnAt) (aim : Aim) → LogonPhase p
  DialsHeld : (a : ClientAnswer) (who : WhoAsked p a) (v : TurnAt) (aim : Aim) → LogonPhase p
  BindsBefore : (a : ClientAnswer) (who : WhoAsked p a) (v : TurnAt) (aim : Aim) → LogonPhase p
  BindsHeld : (a : ClientAnswer) (who : WhoAsked p a) (v : TurnAt) (aim : Aim) → LogonPhase p
  Acked : (a : ClientAnswer) (who : WhoAsked p a) (v : TurnAt) (aim : Aim) → LogonPhase p
  Calls : (a : ClientAnswer) (who : WhoAsked p a) (v : TurnAt) (aim : Aim) → LogonPhase p
  -- the reply waits, to each of the three calls: the last was judged at that moment, and left these accounts
  Halved : (a : ClientAnswer) (who : WhoAsked p a) (v : TurnAt) (client server : List ℕ) → LogonPhase p
  Proved : (a : ClientAnswer) (who : WhoAsked p a) (v : TurnAt) (client server : List ℕ) → LogonPhase p
  Granted : (a : ClientAnswer) (who : WhoAsked p a) (v : TurnAt) (o c : SecureChannelState) (timestamp judged_at : ℕ) (accounts : AccountTable) → LogonPhase p
  -- the reply waits that takes the secret; these accounts have it
  Sets : (a : ClientAnswer) (who : WhoAsked p a) (v : TurnAt) (o c : SecureChannelState) (timestamp : ℕ) (new : List ℕ) (accounts : AccountTable) → LogonPhase p
  -- the answer of WhoAmI waits, Echo, and its answer
  Named : (a : ClientAnswer) (e : Ending) (on : LoggedOn) (one other : Option SessionState)
      (back : ReplyGoes 2 p.meeting.task.level 2 (written_who_reply (told_of p)) other one) → LogonPhase p
  Echoes : (a : ClientAnswer) (e : Ending) (on : LoggedOn) (one : Option SessionState)
      (asks : RequestGoes 3 p.meeting.task.level 3 1 (written_echo_request (client.echo_bytes p.meeting.task.echo)) one on.session) → LogonPhase p
  Echoed : (a : ClientAnswer) (e : Ending) (talk : Talk) (one other : Option SessionState)
      (back : ReplyGoes 4 p.meeting.task.level 3 (written_echo_reply (client.echo_bytes p.meeting.task.echo)) other one) → LogonPhase p

-- what is seen in each, with the challenges that are left and the moment
abbrev pub scene_of : (p : Arrival) → LogonPhase p → List (List ℕ) → ℕ → Scene
scene_of p Dials left moment =
    rest_scene (with_its_controller p p.meeting) (client_at p.meeting.task client_standing.Dialling) p.meeting.links left moment
    (record { end = Client p.meeting.at_client; peer = p.meeting.task.server } ∷ [])
scene_of p Binds left moment =
    meeting_scene (with_its_controller p (own p)) client_phase.Bound fresh_talk
    (unit_up (own p) (written (bind_for p.meeting.task.level p.meeting.task.auth)) ∷ []) left moment
scene_of p (Challenged challenge) left moment =
    meeting_scene (with_its_controller p (own p)) client_phase.Bound (challenged_talk p.meeting.task challenge)
    (unit_down (own p) (written (ack_for p.meeting.plan p.meeting.task challenge)) ∷ []) left moment
scene_of p (Answers a who) left moment =
    meeting_scene (with_its_controller p (own p)) (waits_for p a who.later) (challenged_talk p.meeting.task a.challenge)
    (unit_up (own p) (written (auth3_for p.meeting.task (message_for (own p) a))) ∷ unit_up (own p) who.sent ∷ []) left moment
scene_of p (DialsBefore a who v aim) left moment =
    waiting_scene (turn_before p a who.later [] v) (its_link (own p)) (standing_for aim) v.next v.number (step_for p a aim) v.computers
    (unit_up (own p) who.sent ∷ []) left moment
scene_of p (DialsHeld a who v aim) left moment =
    waiting_scene (turn_before p a who.later (who.sent ∷ []) v) (its_link (own p)) (standing_for aim) v.next v.number (step_for p a aim) v.computers [] left moment
scene_of p (BindsBefore a who v aim) left moment =
    turn_scene (turn_on p a who.later [] v aim) v.next v.number (step_for p a aim) v.computers (one_link (length v.links) first_talk)
    (unit_up (own p) who.sent ∷ unit_there (turn_on p a who.later [] v aim) (written (bind_of netlogon_syntax v.number)) ∷ []) left moment
scene_of p (BindsHeld a who v aim) left moment =
    turn_scene (turn_on p a who.later (who.sent ∷ []) v aim) v.next v.number (step_for p a aim) v.computers (one_link (length v.links) first_talk)
    (unit_there (turn_on p a who.later (who.sent ∷ []) v aim) (written (bind_of netlogon_syntax v.number)) ∷ []) left moment
scene_of p (Acked a who v aim) left moment =
    turn_scene (turn_on p a who.later (who.sent ∷ []) v aim) v.next v.number (step_for p a aim) v.computers (turn_link (length v.links))
    (unit_back (turn_on p a who.later (who.sent ∷ []) v aim) (written (turn_ack v.number)) ∷ []) left moment
scene_of p (Calls a who v aim) left moment =
    turn_scene (turn_on p a who.later (who.sent ∷ []) v aim) (after v.next) v.next (reply_for aim) v.computers
    (turn_link (length v.links)) (unit_there (turn_on p a who.later (who.sent ∷ []) v aim) (bytes_for p a v.next aim) ∷ []) left moment
scene_of p (Halved a who v client server) left moment =
    turn_scene (turn_on p a who.later (who.sent ∷ []) v (First client)) (after v.next) v.next (step.Reply (question.Challenge client)) v.computers
    (turn_link (length v.links))
    (unit_back (turn_on p a who.later (who.sent ∷ []) v (First client)) (reply_bytes v.next (reply.Challenge (record { challenge = server; status = 0 }))) ∷ []) left moment
scene_of p (Proved a who v client server) left moment =
    turn_scene (turn_on p a who.later (who.sent ∷ []) v (Second client server)) (after v.next) v.next (step.Reply question.Authenticate) v.computers
    (turn_link (length v.links))
    (unit_back (turn_on p a who.later (who.sent ∷ []) v (Second client server))
    (reply_bytes v.next (reply.Authenticate (record { credential = server_credential p.meeting.caller.secret client server; flags = offered_flags; status = 0 }))) ∷ []) left moment
scene_of p (Granted a who v o c timestamp judged_at accounts) left moment =
    turn_scene (with_accounts accounts (turn_on p a who.later (who.sent ∷ []) v (Third o c timestamp))) (after v.next) v.next (step.Reply question.Logon) v.computers
    (turn_link (length v.links))
    (unit_back (with_accounts accounts (turn_on p a who.later (who.sent ∷ []) v (Third o c timestamp)))
    (reply_bytes v.next (granting o timestamp 0 1 (hidden o (sam_for (own p) a v.table p.name p.account judged_at)))) ∷ []) left moment
scene_of p (Sets a who v o c timestamp new accounts) left moment =
    turn_scene (with_accounts accounts (turn_on p a who.later (who.sent ∷ []) v (Fourth o c timestamp new))) (after v.next) v.next (step.Set set_step.Reply) v.computers
    (turn_link (length v.links))
    (unit_back (with_accounts accounts (turn_on p a who.later (who.sent ∷ []) v (Fourth o c timestamp new))) (set_reply_bytes v.next (set_taken o timestamp)) ∷ []) left moment
scene_of p (Named a e on one other back) left moment =
    meeting_scene (meeting_at p e) (client_phase.Asked (with_session (terms_at p a) one) client_question.Who) (talk_in None (logged_on on back.later))
    (unit_down (own p) back.sent ∷ []) left moment
scene_of p (Echoes a e on one asks) left moment =
    meeting_scene (meeting_at p e) (client_phase.Asked (with_session (terms_at p a) asks.later) (client_question.Echo (told_of p))) (talk_in None on)
    (unit_up (own p) asks.sent ∷ []) left moment
scene_of p (Echoed a e talk one other back) left moment =
    meeting_scene (meeting_at p e) (client_phase.Asked (with_session (terms_at p a) one) (client_question.Echo (told_of p))) talk
    (unit_down (own p) back.sent ∷ []) left moment

-- ---- what holds in each

-- other computers' channels are as they were
abbrev pub KeepsOthers : Arrival → Computers → Type 0
KeepsOthers p computers =
    (other : List ℕ) → same_name p.meeting.caller.computer other ≡ false → lookup same_name other computers.channels ≡ lookup same_name other p.computers.channels

-- the client's link is among all
abbrev pub HasJoined : Arrival → List Route → Type 0
HasJoined p links = slice_get links (own p).link ≡ Some (ToMember p.meeting.at_client p.meeting.at_member)

-- what was drawn for the client's answer, and what is asked of it
pub record IsAnswering (p : Arrival) (a : ClientAnswer) : Type 0 where
  pub draws : AreDraws a.one a.two a.three
  pub info : HasShortInfo (info_asked (own p) a)

-- the member keeps the secrets with which the logon began, and its controller the accounts
abbrev pub IsPlanned : Arrival → TurnAt → Type 0
IsPlanned p v = (v.secrets ≡ p.meeting.plan.secrets) × (v.table ≡ p.table)

-- the account of that channel has another hash
pub record IsSetAt (caller : Caller) (table accounts : AccountTable) : Type 0 where
  pub place : ℕ
  pub hash : List ℕ
  pub found : machine_in table.accounts caller.account caller.kind caller.computer ≡ Some place
  pub is : accounts ≡ with_hash place hash table

-- the controller's accounts are those with which the logon began, or the member's own has another hash
abbrev pub IsSetOrNot : Arrival → AccountTable → Type 0
IsSetOrNot p table = (table ≡ p.table) ⊎ IsSetAt p.meeting.caller p.table table

-- the member is to set that secret first
abbrev pub IsToSet : Arrival → List ℕ → Type 0
IsToSet p new = p.meeting.plan.secrets.next ≡ Some (record { secret = new; is_tried = false })

-- the account by which a caller's channel is opened, where there is one
abbrev pub account_of_caller : AccountTable → Caller → Option Account
account_of_caller table caller = option_and_then (slice_get table.accounts) (machine_in table.accounts caller.account caller.kind caller.computer)

-- the hash of the account by which a caller's channel is opened is the secret that is tried
abbrev pub FitsCaller : AccountTable → Caller → SecretsState → Type 0
FitsCaller table caller secrets = (machine : Account) → account_of_caller table caller ≡ Some machine → machine.hash ≡ tried_of secrets

-- Where the account of the member's channel had the secret that the member tried as the logon began, it has it of these
-- accounts and secrets.
abbrev pub FitsStill : Arrival → AccountTable → SecretsState → Type 0
FitsStill p table secrets = FitsCaller p.table p.meeting.caller p.meeting.plan.secrets → FitsCaller table p.meeting.caller secrets

-- what holds in each turn of the logon
pub record IsTurning (p : Arrival) (a : ClientAnswer) (v : TurnAt) : Type 0 where
  pub answering : IsAnswering p a
  pub joined_so : HasJoined p v.links
  pub number_below : v.number < 2 ^ 32
  pub next_below : v.next < 2 ^ 32
  pub others : KeepsOthers p v.computers
  pub ranged : InRangeTable v.table
  pub set : IsSetOrNot p v.table
  pub next : IsNextSecret v.secrets.next
  pub fits : FitsStill p v.table v.secrets

-- The controller keeps what the call needs of it. The calls that open a channel are made where there was none, and the
-- logon's own where none is next.
abbrev pub IsAimed : Arrival → TurnAt → Aim → Type 0
IsAimed p v (First client) = IsBlock 8 client × (p.meeting.how ≡ standing.Nothing) × IsPlanned p v
IsAimed p v (Second client server) =
    (lookup same_name p.meeting.caller.computer v.computers.pending ≡ Some (pair_of client server)) × (p.meeting.how ≡ standing.Nothing) × IsPlanned p v
IsAimed p v (Third o c timestamp) =
    (timestamp < 2 ^ 32) × (lookup same_name p.meeting.caller.computer v.computers.channels ≡ Some c) × IsInStep o c × (v.secrets.next ≡ None)
IsAimed p v (Fourth o c timestamp new) =
    (timestamp < 2 ^ 32) × (lookup same_name p.meeting.caller.computer v.computers.channels ≡ Some c) × IsInStep o c × IsPlanned p v × IsToSet p new

-- the accounts differ from those of the logon's own turn in counts of bad passwords alone, and both ends of the channel
-- are in step
pub record IsEnding (p : Arrival) (e : Ending) : Type 0 where
  pub joined_so : HasJoined p e.links
  pub number_below : e.number < 2 ^ 32
  pub one : e.secrets.next ≡ None
  pub before : AccountTable
  pub set : IsSetOrNot p before
  pub differs : DifferInCounts before e.table
  pub ranged : InRangeTable e.table
  pub fits : FitsStill p e.table e.secrets
  pub stands : StandsInStep (meeting_at p e) e.computers
  pub others : KeepsOthers p e.computers

abbrev pub Fits : (p : Arrival) → LogonPhase p → Type 0
Fits p Dials = Unit {0}
Fits p Binds = Unit {0}
Fits p (Challenged challenge) = IsBlock 8 challenge
Fits p (Answers a who) = IsAnswering p a
Fits p (DialsBefore a who v aim) = IsTurning p a v × IsAimed p v aim
Fits p (DialsHeld a who v aim) = IsTurning p a v × IsAimed p v aim
Fits p (BindsBefore a who v aim) = IsTurning p a v × IsAimed p v aim
Fits p (BindsHeld a who v aim) = IsTurning p a v × IsAimed p v aim
Fits p (Acked a who v aim) = IsTurning p a v × IsAimed p v aim
Fits p (Calls a who v aim) = IsTurning p a v × IsAimed p v aim
Fits p (Halved a who v client server) =
    IsTurning p a v × IsBlock 8 server × IsAimed p v (Second client server)
Fits p (Proved a who v client server) =
    IsTurning p a v × IsPlanned p v
    × ((c : SecureChannelState) × (lookup same_name p.meeting.caller.computer v.computers.channels ≡ Some c)
    × IsInStep (fresh_channel p.meeting.caller.secret client server offered_flags) c)
Fits p (Granted a who v o c timestamp judged_at accounts) =
    IsTurning p a v × (judged_at < 2 ^ 64) × DifferInCounts v.table accounts × KeyArrives (own p) a o
    × (lookup same_name p.meeting.caller.computer v.computers.channels ≡ Some (moved c timestamp)) × IsInStep o c × InRangeTable accounts × (v.secrets.next ≡ None)
Fits p (Sets a who v o c timestamp new accounts) =
    IsTurning p a v × (lookup same_name p.meeting.caller.computer v.computers.channels ≡ Some (moved c timestamp))
    × IsInStep (after_return true (after_call o timestamp)) (moved c timestamp) × IsPlanned p v × IsToSet p new
    × ((set : IsSetAt p.meeting.caller v.table accounts) × (set.hash ≡ new)) × InRangeTable accounts
Fits p (Named a e on one other back) = IsEnding p e × (on.bound ≡ bound_for p.meeting.task)
Fits p (Echoes a e on one asks) = IsEnding p e × (on.bound ≡ bound_for p.meeting.task)
Fits p (Echoed a e talk one other back) = IsEnding p e

-- the state is in a phase of that logon
pub record IsUnderWay (p : Arrival) (s : State) : Type 0 where
  pub phase : LogonPhase p
  pub left : List (List ℕ)
  pub moment : ℕ
  pub fits : Fits p phase
  pub shows : Shows s (scene_of p phase left moment)

-- a logon is over: the client is in, with its key, the name and its whole echo; no link is open, and nothing waits
pub record IsOver (p : Arrival) (s : State) : Type 0 where
  pub asked : ClientAnswer
  pub ending : Ending
  pub left : List (List ℕ)
  pub moment : ℕ
  pub fits : IsEnding p ending
  pub shows : Shows s (rest_scene (meeting_at p ending) (client_ended p.meeting.task (In (told_of p) (key_at p asked) p.meeting.task.echo)) ending.links left moment [])

-- ---- of what it is granted

-- The client and its member can go on. The controller knows the computer, has the secret by which its channel is to be
-- opened, and keeps the channel in step where there is one.
pub record IsKnown (p : Arrival) : Type 0 where
  pub can : CanLogOn p.meeting.task
  pub units : HasUnits p.meeting.task
  pub names : HasShortNames p.meeting.plan
  pub caller : HasShortCaller p.meeting.caller
  pub given : FitsGiven p.meeting
  pub next : IsNextSecret p.meeting.plan.secrets.next
  pub place_below : p.meeting.place < 2 ^ 32
  pub number_below : p.meeting.number < 2 ^ 32
  pub stands : (p.meeting.how ≡ standing.Nothing) ⊎ StandsInStep p.meeting p.computers
  pub knows : knows_in p.table.accounts p.meeting.caller.computer ≡ true
  pub machine_found : (client server : List ℕ) → account_for p.table (auth_value p.meeting.caller client server) ≡ Some p.machine
  pub secret : p.meeting.how ≡ standing.Nothing → p.machine.hash ≡ p.meeting.caller.secret
  pub ranged : InRangeTable p.table
  pub named : IsName p.name
  pub account_so : InRangeAccount p.account
  -- its controller asks no other for a logon
  pub alone : p.meeting.trusts ≡ at_no_trusts

-- the controller has the user's hash among those accounts, or those with which the logon began
pub record HasUserIn (p : Arrival) (table : AccountTable) : Type 0 where
  pub found : account_in table.accounts p.meeting.task.user ≡ Some p.account
  pub hash : p.account.hash ≡ p.meeting.task.hash

abbrev pub HasUser : Arrival → Type 0
HasUser p = HasUserIn p p.table

-- the addresses are those of the member and its controller
pub record IsReached (p : Arrival) (s : State) : Type 0 where
  pub member : end_of_peer p.meeting.task.server s.ends ≡ Some (Member p.meeting.at_member)
  pub controller : end_of_peer p.meeting.plan.controller s.ends ≡ Some (Controller p.meeting.at_controller)

-- at least three challenges of 8 bytes are left
pub record HasThree (left : List (List ℕ)) : Type 0 where
  pub one : List ℕ
  pub two : List ℕ
  pub three : List ℕ
  pub more : List (List ℕ)
  pub are : left ≡ one ∷ two ∷ three ∷ more
  pub first : IsBlock 8 one
  pub second : IsBlock 8 two
  pub third : IsBlock 8 three

-- the user may log on by the accounts as they stand, and at that moment
abbrev pub MayLogOnAt : Arrival → State → Type 0
MayLogOnAt p s = IsSomeAnd (slice_get s.ends.controllers p.meeting.at_controller) (λ (c : ControllerState). MayLogOn c.table (info_told p.meeting.task) s.moment)

-- where the logon is judged at the move, the session base key doesn't travel as zeros, unless units aren't signed
abbrev pub ArrivesAt : (p : Arrival) → LogonPhase p → Move → Type 0
ArrivesAt p (Calls a who v (Third o c timestamp)) what = IfSo (is_onward what) (KeyArrives (own p) a o)
ArrivesAt p phase what = Unit {0}

-- at the move with which the Logon call comes the user's hash is there, and he may log on; at no other is it asked for
abbrev pub HasUserAt : (p : Arrival) → State → LogonPhase p → Move → Type 0
HasUserAt p s (Calls a who v (Third o c timestamp)) what = IfSo (is_onward what) (HasUserIn p v.table × MayLogOnAt p s)
HasUserAt p s phase what = Unit {0}

-- what the moves need of the state
pub record IsReady (p : Arrival) (s : State) : Type 0 where
  pub reached : IsReached p s
  pub draws : HasThree s.chances.left
  pub below : s.moment < 2 ^ 64

-- what a state comes to at a move
abbrev pub ComesTo : Arrival → State → Type 0
ComesTo p s = IsUnderWay p s ⊎ IsOver p s

-- How far a logon is: not judged. Then the call that opens the channel is out, with these challenges, or its reply is;
-- or the logon's own call is, on the channel that stood so. Or it was judged, of what the client answered and on that
-- channel, or told by the member. Between the two the call that sets a secret is out on the channel that stood so, or
-- its reply.
pub data Progress : Type 0 where
  NotYet : Progress
  IsOpening : (client server : List ℕ) → Progress
  WasOpened : (client server : List ℕ) → Progress
  IsSetting : (o : SecureChannelState) → Progress
  WasSet : (o : SecureChannelState) → Progress
  IsAsking : (o : SecureChannelState) → Progress
  WasJudged : (a : ClientAnswer) (o : SecureChannelState) → Progress
  WasTold : (a : ClientAnswer) → Progress

-- once a turn's call is out, and once its reply is
abbrev pub progress_called : Aim → Progress
progress_called (First client) = NotYet
progress_called (Second client server) = IsOpening client server
progress_called (Third o c timestamp) = IsAsking o
progress_called (Fourth o c timestamp new) = IsSetting o

abbrev pub progress_answered : ClientAnswer → Aim → Progress
progress_answered a (First client) = NotYet
progress_answered a (Second client server) = WasOpened client server
progress_answered a (Third o c timestamp) = WasJudged a o
progress_answered a (Fourth o c timestamp new) = WasSet o

abbrev pub progress_of : {p : Arrival} → LogonPhase p → Progress
progress_of (Calls a who v aim) = progress_called aim
progress_of (Proved a who v client server) = WasOpened client server
progress_of (Granted a who v o c timestamp judged_at accounts) = WasJudged a o
progress_of (Sets a who v o c timestamp new accounts) = WasSet o
progress_of (Named a e on one other back) = WasTold a
progress_of (Echoes a e on one asks) = WasTold a
progress_of (Echoed a e talk one other back) = WasTold a
progress_of _ = NotYet

-- once a unit came, and after any move
abbrev pub progress_onward : {p : Arrival} → LogonPhase p → Progress
progress_onward (Acked a who v aim) = progress_called aim
progress_onward (Calls a who v aim) = progress_answered a aim
progress_onward (Proved a who v client server) = NotYet
progress_onward (Granted a who v o c timestamp judged_at accounts) = WasTold a
progress_onward (Sets a who v o c timestamp new accounts) = NotYet
progress_onward phase = progress_of phase

abbrev pub progress_if : {p : Arrival} → (comes : Bool) → LogonPhase p → Progress
progress_if false phase = progress_of phase
progress_if true phase = progress_onward phase

abbrev pub progress_after : {p : Arrival} → Move → LogonPhase p → Progress
progress_after what phase = progress_if (is_onward what) phase

-- what a state comes to, where the logon has come as far as `far`
abbrev pub ComesSoFar : Arrival → (far : Progress) → State → Type 0
ComesSoFar p far s = ((at : IsUnderWay p s) × (progress_of at.phase ≡ far)) ⊎ ((over : IsOver p s) × (WasTold over.asked ≡ far))

-- at most three challenges were drawn, the first ones
pub record DrawsFew (before after : List (List ℕ)) : Type 0 where
  pub front : List (List ℕ)
  pub few : length front ≤ 3
  pub are : before ≡ front ++ after

pub record PhasesGoOn : Type 0 where
  -- a client starts where nothing is open and nothing waits
  pub begins : (p : Arrival) (s : State) (number : ℕ) (before : ClientState) (left : List (List ℕ)) (moment : ℕ) →
      chosen_place number (starters_in s.ends) ≡ Some p.meeting.at_client → slice_get s.client_plans p.meeting.at_client ≡ Some p.meeting.task →
      Shows s (rest_scene (with_its_controller p p.meeting) before p.meeting.links left moment []) → IsUnderWay p (start number s).state
  -- each move leads to a phase, or to the end, where the client is in
  pub goes_on : (p : Arrival) (s : State) (what : Move) → IsKnown p → IsReady p s → IsStepOn what → (at : IsUnderWay p s) → HasUserAt p s at.phase what →
      ArrivesAt p at.phase what → ComesTo p (act s what).state
  -- each move leads to a phase as far as `progress_after` says, or to the end
  pub goes_so_far : (p : Arrival) (s : State) (what : Move) → IsKnown p → IsReady p s → IsStepOn what → (at : IsUnderWay p s) → HasUserAt p s at.phase what →
      ArrivesAt p at.phase what → ComesSoFar p (progress_after what at.phase) (act s what).state
  -- each move draws few challenges
  pub draws : (p : Arrival) (s : State) (what : Move) → IsKnown p → IsReady p s → IsStepOn what → (at : IsUnderWay p s) → HasUserAt p s at.phase what →
      ArrivesAt p at.phase what → DrawsFew s.chances.left (act s what).state.chances.left
  -- the user's hash is there where it was as the logon began, since he is no machine
  pub has_user : (p : Arrival) (s : State) (at : IsUnderWay p s) (what : Move) → HasUser p → MayLogOnAt p s → HasUserAt p s at.phase what
  -- something waits in each phase
  pub waits : (p : Arrival) (s : State) → IsUnderWay p s → s.dials ≡ [] → waiting s.bag ≡ [] → ⊥
  -- once a logon is over, moves change nothing of it
  pub rests : (p : Arrival) (s : State) (what : Move) → IsStepOn what → IsOver p s → IsOver p (act s what).state
  pub rests_same : (p : Arrival) (s : State) (what : Move) → IsStepOn what → (over : IsOver p s) → (later : IsOver p (act s what).state) × (later.asked ≡ over.asked)
