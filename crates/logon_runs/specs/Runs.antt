-- A whole turn of a member whose channel stands, from the AUTHENTICATE of its client to the answer
-- of WhoAmI (MS-NLMP 3.2.5.1.2, MS-NRPC 3.5.4.5.3), as it is seen of a scene where the moment stays.
use Rattle.std.specs.Prelude.{ℕ, ◌≡◌, true, ◌≤◌, ◌<◌, ◌^◌, List, [], ◌∷◌, ◌++◌, length, Some, None}
use Rattle.wire_base.specs.Maps.{lookup, put, take_out}
use Rattle.wire_base.specs.Names.{same_name}
use Rattle.channel_keys.specs.Hidden.{crypt_key}
use Rattle.authenticators.specs.SecureChannels.{SecureChannelState, after_call, after_return, key_of_channel}
use Rattle.ntlm_messages.specs.declared.messages.Authenticate.{Authenticate}
use Rattle.rpc_units.specs.Writing.{written}
use Rattle.logon_stubs.specs.declared.info.NetworkInfo.{NetworkInfo}
use Rattle.logon_stubs.specs.declared.info.SamInfo.{SamInfo}
use Rattle.memo_stubs.specs.Memo.{written_who_reply}
use Rattle.account_table.specs.AccountTable.{AccountTable}
use Rattle.account_table.specs.LookUps.{account_in}
use Rattle.account_table.specs.declared.account.Account.{Account}
use Rattle.sam_logon.specs.Granting.{sam_info_of}
use Rattle.sam_logon.specs.MayLogOn.{MayLogOn}
use Rattle.channel_client.specs.declared.state.Question.TheVariants as question
use Rattle.channel_client.specs.declared.state.Standing.TheVariants as standing
use Rattle.channel_client.specs.Machine.{after}
use Rattle.controller_calls.specs.declared.state.Computers.{Computers}
use Rattle.logon_client.specs.Plans.{CanLogOn}
use Rattle.logon_client.specs.declared.state.Phase.{Phase as ClientPhase}
use Rattle.member_server.specs.declared.state.LoggedOn.{LoggedOn}
use Rattle.member_server.specs.Messages.{info_of}
use Rattle.member_server.specs.Outcomes.{name_in}
use Rattle.member_server.specs.Requests.{talk_in}
use Rattle.member_server.specs.Turns.{timestamp_of}
use Rattle.world_moves.specs.declared.links.EndId.TheVariants.{Controller}
use Rattle.world_moves.specs.declared.links.Route.TheVariants.{ToController}
use Rattle.world_moves.specs.declared.state.State.{State}
use Rattle.world_moves.specs.Moving.{connect, end_of_peer, onward, start}
use Rattle.logon_steps.specs.Answering.{IsInStep, moved}
use Rattle.logon_steps.specs.Answers.{AreDraws, HasUnits, answer_for, auth3_for, drawn_of, logon_for, terms_for}
use Rattle.logon_steps.specs.Asking.{info_at}
use Rattle.logon_steps.specs.BesideTrusts.{at_no_trusts}
use Rattle.logon_steps.specs.Calling.{HasShortCaller, HasShortInfo}
use Rattle.logon_steps.specs.Granting.{base_key, cleared, info_told}
use Rattle.logon_steps.specs.Meeting.{HasShortNames, challenged_talk, flags_agreed}
use Rattle.logon_steps.specs.MemberAnswers.{granting, let_in, sam_shown}
use Rattle.logon_steps.specs.MemoCalls.{ReplyGoes, RequestGoes, logged_on}
use Rattle.logon_steps.specs.Turning.{IsTurnReply}
use Rattle.logon_runs.specs.Scenes.AskScenes.{with_controller}
use Rattle.logon_runs.specs.Scenes.LinkScenes.{FitsGiven, given_after, IsJoined, Meeting, meeting_scene, unit_down, unit_up}
use Rattle.logon_runs.specs.Scenes.Scene.{Shows}

-- what a client answers to its member, where it is asked so
pub record ClientAnswer : Type 0 where
  pub challenge : List ℕ
  pub one : List ℕ
  pub two : List ℕ
  pub three : List ℕ
  pub then_now : ℕ

-- what it answers where these are drawn
abbrev pub asked_at : List ℕ → List ℕ → List ℕ → List ℕ → ℕ → ClientAnswer
asked_at challenge one two three now = record { challenge = challenge; one = one; two = two; three = three; then_now = now }

-- the AUTHENTICATE
abbrev pub message_for : Meeting → ClientAnswer → Authenticate
message_for g a = (answer_for g.plan g.task a.challenge a.then_now (drawn_of a.one a.two a.three)).message

-- what the member's Logon call tells of it
abbrev pub info_asked : Meeting → ClientAnswer → NetworkInfo
info_asked g a = info_at g.place (info_of (message_for g a) (flags_agreed g.task) a.challenge)

-- what is granted, and as it travels
abbrev pub sam_for : Meeting → ClientAnswer → AccountTable → List ℕ → Account → ℕ → SamInfo
sam_for g a table name account now = sam_info_of table name account (base_key g.task (message_for g a)) now

-- the key is hidden under the channel's
abbrev pub hidden : SecureChannelState → SamInfo → SamInfo
hidden o sam = record sam { key = crypt_key (key_of_channel o) sam.key }

-- who is in then, at the member
abbrev pub on_for : Meeting → ClientAnswer → SecureChannelState → SamInfo → LoggedOn
on_for g a o sam = let_in g.task (sam_shown o (hidden o sam)) (logon_for g.link g.task a.challenge (message_for g a))

-- the member's channel stands and is in step, and the controller grants the logon
pub record IsToBeGranted (g : Meeting) (a : ClientAnswer) (o c : SecureChannelState) (table : AccountTable) (name : List ℕ) (account : Account) (computers : Computers) (moment : ℕ) : Type 0 where
  pub joined : IsJoined g
  pub can : CanLogOn g.task
  pub units : HasUnits g.task
  pub names : HasShortNames g.plan
  pub draws : AreDraws a.one a.two a.three
  pub caller : HasShortCaller g.caller
  pub info : HasShortInfo (info_asked g a)
  pub stands : g.how ≡ standing.Open o
  pub fits : FitsGiven g
  pub channel : lookup same_name g.caller.computer computers.channels ≡ Some c
  pub in_step : IsInStep o c
  pub found : account_in table.accounts g.task.user ≡ Some account
  pub hash : account.hash ≡ g.task.hash
  pub may : MayLogOn table (info_told g.task) moment
  pub reply : IsTurnReply question.Logon (granting o (timestamp_of moment) 0 1 (hidden o (sam_for g a table name account moment)))
  pub short : length (name_in (sam_shown o (hidden o (sam_for g a table name account moment)))) ≤ 32767
  pub number : g.number < 2 ^ 32
  pub next : after g.number < 2 ^ 32
  -- its controller asks no other for a logon
  pub alone : g.trusts ≡ at_no_trusts

-- the state after the oldest unit came
abbrev pub goes : State → State
goes s = (onward s).state

-- the state after the oldest dial was answered
abbrev pub connects : State → State
connects s = (connect s).state

-- after the client's start
abbrev pub starts : ℕ → State → State
starts number s = (start number s).state

-- after the client's dial is answered, and the CHALLENGE is
abbrev pub meets : ℕ → State → State
meets number s = goes (goes (connects (starts number s)))

-- the controller's channel has moved
abbrev pub with_moved : Meeting → SecureChannelState → ℕ → Computers → Computers
with_moved g c timestamp computers = record computers {
  channels = put same_name g.caller.computer (moved c timestamp) (take_out same_name g.caller.computer computers.channels);
}

-- the member's channel rests again
abbrev pub rest_channel : Meeting → SecureChannelState → ℕ → Meeting
rest_channel g o timestamp = record g {
  given = given_after g;
  how = standing.Open (after_return true (after_call o timestamp));
  place = after g.place;
  number = after (after g.number);
  links = g.links ++ ToController g.at_member g.at_controller ∷ [];
}

-- the member's channel stands, and the controller keeps it in step
pub record StandsInStep (g : Meeting) (computers : Computers) : Type 0 where
  pub member : SecureChannelState
  pub stands : g.how ≡ standing.Open member
  pub controller : SecureChannelState
  pub channel : lookup same_name g.caller.computer computers.channels ≡ Some controller
  pub in_step : IsInStep member controller

pub record TurnsRun : Type 0 where
  pub granted : (s : State) (g : Meeting) (a : ClientAnswer) (o c : SecureChannelState) (table : AccountTable) (name : List ℕ) (account : Account) (computers : Computers)
      (waits : ClientPhase) (left : List (List ℕ)) (moment : ℕ) → IsToBeGranted g a o c table name account computers moment →
      end_of_peer g.plan.controller s.ends ≡ Some (Controller g.at_controller) →
      let sam : SamInfo = sam_for g a table name account moment in
      let on : LoggedOn = on_for g a o sam in
      (who : RequestGoes 1 g.task.level 2 0 [] (terms_for g.plan g.task a.challenge a.then_now (drawn_of a.one a.two a.three)).session on.session)
      (back : ReplyGoes 2 g.task.level 2 (written_who_reply (name_in (sam_shown o (hidden o sam)))) who.next who.later) →
      Shows s (meeting_scene (with_controller g table name computers) waits (challenged_talk g.task a.challenge)
      (unit_up g (written (auth3_for g.task (message_for g a))) ∷ unit_up g who.sent ∷ []) left moment) →
      Shows (goes (goes (goes (goes (connects (goes (goes s)))))))
      (meeting_scene (with_controller (rest_channel g o (timestamp_of moment)) (cleared table g.task.user) name (with_moved g c (timestamp_of moment) computers)) waits
      (talk_in None (logged_on on back.later)) (unit_down g back.sent ∷ []) left moment)
  -- the channel is ready for the next logon
  pub stays : (g : Meeting) (o c : SecureChannelState) (computers : Computers) (timestamp : ℕ) → IsInStep o c →
      StandsInStep (rest_channel g o timestamp) (with_moved g c timestamp computers)
