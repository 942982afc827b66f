-- The three turns of a member that has no channel yet, from the AUTHENTICATE of its client to the
-- answer of WhoAmI (MS-NRPC 3.1.4.1, 3.5.4.4.1, 3.5.4.4.3, 3.5.4.5.3), as it is seen of a scene where
-- the moment stays.
use Rattle.std.specs.Prelude.{ℕ, ◌≡◌, true, ◌≤◌, ◌<◌, ◌^◌, List, [], ◌∷◌, ◌++◌, length, Some, None}
use Rattle.wire_base.specs.Maps.{put, take_out}
use Rattle.wire_base.specs.Names.{same_name}
use Rattle.authenticators.specs.SecureChannels.{SecureChannelState, after_call, after_return, fresh_channel}
use Rattle.rpc_units.specs.Writing.{written}
use Rattle.logon_stubs.specs.Ranges.{IsBlock}
use Rattle.logon_stubs.specs.declared.info.SamInfo.{SamInfo}
use Rattle.memo_stubs.specs.Memo.{written_who_reply}
use Rattle.account_table.specs.AccountTable.{AccountTable}
use Rattle.account_table.specs.LookUps.{account_in, knows_in}
use Rattle.account_table.specs.declared.account.Account.{Account}
use Rattle.sam_logon.specs.MayLogOn.{MayLogOn}
use Rattle.channel_client.specs.declared.state.Question.TheVariants as question
use Rattle.channel_client.specs.declared.state.Standing.TheVariants as standing
use Rattle.channel_client.specs.Machine.{after, offered_flags}
use Rattle.domain_controller.specs.Machine.{account_for, channel_for}
use Rattle.controller_calls.specs.declared.state.Computers.{Computers}
use Rattle.logon_client.specs.Plans.{CanLogOn}
use Rattle.logon_client.specs.declared.state.Phase.{Phase as ClientPhase}
use Rattle.member_server.specs.declared.state.LoggedOn.{LoggedOn}
use Rattle.member_server.specs.Outcomes.{name_in}
use Rattle.member_server.specs.Requests.{talk_in}
use Rattle.member_server.specs.Turns.{timestamp_of}
use Rattle.world_moves.specs.declared.links.EndId.TheVariants.{Controller}
use Rattle.world_moves.specs.declared.links.Route.{Route}
use Rattle.world_moves.specs.declared.links.Route.TheVariants.{ToController}
use Rattle.world_moves.specs.declared.state.State.{State}
use Rattle.world_moves.specs.Moving.{end_of_peer}
use Rattle.logon_steps.specs.Answering.{auth_value, pair_of}
use Rattle.logon_steps.specs.Answers.{AreDraws, HasUnits, auth3_for, drawn_of, terms_for}
use Rattle.logon_steps.specs.BesideTrusts.{at_no_trusts}
use Rattle.logon_steps.specs.Calling.{HasShortCaller, HasShortInfo}
use Rattle.logon_steps.specs.Granting.{cleared, info_told}
use Rattle.logon_steps.specs.Meeting.{HasShortNames, challenged_talk}
use Rattle.logon_steps.specs.MemberAnswers.{granting, sam_shown}
use Rattle.logon_steps.specs.MemoCalls.{ReplyGoes, RequestGoes, logged_on}
use Rattle.logon_steps.specs.Turning.{IsTurnReply}
use Rattle.logon_runs.specs.Scenes.AskScenes.{with_controller}
use Rattle.logon_runs.specs.Scenes.LinkScenes.{FitsGiven, given_after, IsJoined, Meeting, meeting_scene, unit_down, unit_up}
use Rattle.logon_runs.specs.Runs.{ClientAnswer, StandsInStep, connects, goes, hidden, info_asked, message_for, on_for, sam_for, with_moved}
use Rattle.logon_runs.specs.Scenes.Scene.{Shows}

-- the channel as it opens, at the member and at the controller
abbrev pub opens_as : Meeting → List ℕ → List ℕ → SecureChannelState
opens_as g client server = fresh_channel g.caller.secret client server offered_flags

abbrev pub channel_as : Meeting → Account → List ℕ → List ℕ → SecureChannelState
channel_as g machine client server = channel_for machine (pair_of client server) (auth_value g.caller client server)

-- the member has no channel, the controller knows the computer and its secret, and grants the logon
pub record IsToBeOpened (g : Meeting) (a : ClientAnswer) (client server : List ℕ) (table : AccountTable) (name : List ℕ) (account machine : Account) (moment : ℕ) : Type 0 where
  pub joined : IsJoined g
  pub can : CanLogOn g.task
  pub units : HasUnits g.task
  pub names : HasShortNames g.plan
  pub draws : AreDraws a.one a.two a.three
  pub caller : HasShortCaller g.caller
  pub info : HasShortInfo (info_asked g a)
  pub stands : g.how ≡ standing.Nothing
  pub fits : FitsGiven g
  pub one : g.plan.secrets.next ≡ None
  pub block : IsBlock 8 client
  pub knows : knows_in table.accounts g.caller.computer ≡ true
  pub machine_found : account_for table (auth_value g.caller client server) ≡ Some machine
  pub secret : machine.hash ≡ g.caller.secret
  pub found : account_in table.accounts g.task.user ≡ Some account
  pub hash : account.hash ≡ g.task.hash
  pub may : MayLogOn table (info_told g.task) moment
  pub server_block : IsBlock 8 server
  pub logon_reply : IsTurnReply question.Logon
      (granting (opens_as g client server) (timestamp_of moment) 0 1 (hidden (opens_as g client server) (sam_for g a table name account moment)))
  pub short : length (name_in (sam_shown (opens_as g client server) (hidden (opens_as g client server) (sam_for g a table name account moment)))) ≤ 32767
  pub number : g.number < 2 ^ 32
  -- its controller asks no other for a logon
  pub alone : g.trusts ≡ at_no_trusts

-- a turn: its dial, its bind and the answer, its call and the reply
abbrev pub go_through_turn : State → State
go_through_turn s = goes (goes (goes (goes (connects s))))

-- the controller keeps both challenges, and then the channel
abbrev pub with_pair : Meeting → List ℕ → List ℕ → Computers → Computers
with_pair g client server computers = record computers { pending = put same_name g.caller.computer (pair_of client server) computers.pending }

abbrev pub with_channel : Meeting → Account → List ℕ → List ℕ → Computers → Computers
with_channel g machine client server computers = record {
  pending = take_out same_name g.caller.computer computers.pending;
  channels = put same_name g.caller.computer (channel_as g machine client server) computers.channels;
  sessions = computers.sessions;
}

-- the controller's computers once the channel stands there
abbrev pub opened_at : Meeting → Account → List ℕ → List ℕ → Computers → Computers
opened_at g machine client server computers = with_channel g machine client server (with_pair g client server computers)

-- all links, and that of one more turn
abbrev pub one_more : Meeting → List Route → List Route
one_more g links = links ++ ToController g.at_member g.at_controller ∷ []

-- the member's channel rests, after three turns
abbrev pub rested_first : Meeting → SecureChannelState → ℕ → Meeting
rested_first g o timestamp = record g {
  given = given_after g;
  how = standing.Open (after_return true (after_call o timestamp));
  place = after g.place;
  number = after (after (after (after (after (after g.number)))));
  links = one_more g (one_more g (one_more g g.links));
}

pub record FirstTurnsRun : Type 0 where
  pub granted : (s : State) (g : Meeting) (a : ClientAnswer) (client server : List ℕ) (table : AccountTable) (name : List ℕ) (account machine : Account) (computers : Computers)
      (waits : ClientPhase) (left : List (List ℕ)) (moment : ℕ) → IsToBeOpened g a client server table name account machine moment →
      end_of_peer g.plan.controller s.ends ≡ Some (Controller g.at_controller) →
      let o : SecureChannelState = opens_as g client server in
      let sam : SamInfo = sam_for g a table name account moment in
      let on : LoggedOn = on_for g a o sam in
      (who : RequestGoes 1 g.task.level 2 0 [] (terms_for g.plan g.task a.challenge a.then_now (drawn_of a.one a.two a.three)).session on.session)
      (back : ReplyGoes 2 g.task.level 2 (written_who_reply (name_in (sam_shown o (hidden o sam)))) who.next who.later) →
      Shows s (meeting_scene (with_controller g table name computers) waits (challenged_talk g.task a.challenge)
      (unit_up g (written (auth3_for g.task (message_for g a))) ∷ unit_up g who.sent ∷ []) (client ∷ server ∷ left) moment) →
      Shows (go_through_turn (go_through_turn (go_through_turn (goes (goes s)))))
      (meeting_scene (with_controller (rested_first g o (timestamp_of moment)) (cleared table g.task.user) name
      (with_moved g (channel_as g machine client server) (timestamp_of moment) (opened_at g machine client server computers))) waits
      (talk_in None (logged_on on back.later)) (unit_down g back.sent ∷ []) left moment)
  -- the channel is ready for the next logon
  pub stays : (g : Meeting) (client server : List ℕ) (machine : Account) (computers : Computers) (timestamp : ℕ) → machine.hash ≡ g.caller.secret →
      StandsInStep (rested_first g (opens_as g client server) timestamp)
      (with_moved g (channel_as g machine client server) timestamp (opened_at g machine client server computers))
