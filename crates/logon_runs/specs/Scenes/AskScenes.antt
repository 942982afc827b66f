-- How a logon that a client asked for at its member goes over into the member's turns, and out of
-- them, as it is seen of a scene (MS-NLMP 3.2.5.1.2).
use Rattle.std.specs.Prelude.{ℕ, ◌≡◌, ◌≢◌, ◌+◌, ◌≤◌, ◌<◌, ◌^◌, true, List, [], ◌∷◌, length, Option, Some, None, slice_get}
use Rattle.wire_base.specs.Maps.{lookup, same_number, take_out}
use Rattle.authenticators.specs.SecureChannels.{SecureChannelState, after_call, after_return}
use Rattle.ntlm_messages.specs.declared.messages.Authenticate.{Authenticate}
use Rattle.ntlm_seal.specs.Sessions.{SessionState}
use Rattle.rpc_units.specs.Writing.{written}
use Rattle.logon_stubs.specs.declared.info.NetworkInfo.{NetworkInfo}
use Rattle.logon_stubs.specs.declared.info.SamInfo.{SamInfo}
use Rattle.memo_stubs.specs.Memo.{written_who_reply}
use Rattle.account_table.specs.AccountTable.{AccountTable}
use Rattle.channel_client.specs.declared.state.Question.TheVariants as question
use Rattle.channel_client.specs.declared.state.Standing.{Standing}
use Rattle.channel_client.specs.declared.state.Standing.TheVariants as standing
use Rattle.channel_client.specs.declared.state.Step.{Step}
use Rattle.channel_client.specs.declared.state.Step.TheVariants as step
use Rattle.channel_client.specs.Machine.{after, challenge_call, logon_call}
use Rattle.domain_controller.specs.Step.{LinkMap}
use Rattle.controller_calls.specs.declared.state.Computers.{Computers}
use Rattle.logon_client.specs.declared.state.Phase.{Phase as ClientPhase}
use Rattle.logon_client.specs.Plans.{CanLogOn}
use Rattle.member_server.specs.declared.state.LoggedOn.{LoggedOn}
use Rattle.member_server.specs.declared.state.Logon.{Logon}
use Rattle.member_server.specs.declared.state.Talk.{Talk}
use Rattle.member_server.specs.Messages.{info_of}
use Rattle.member_server.specs.Outcomes.{name_in}
use Rattle.member_server.specs.Requests.{talk_in}
use Rattle.member_server.specs.Turns.{timestamp_of}
use Rattle.world_moves.specs.declared.bag.BagUnit.{BagUnit}
use Rattle.world_moves.specs.declared.links.Route.{Route}
use Rattle.world_moves.specs.declared.links.Route.TheVariants.{ToMember}
use Rattle.world_moves.specs.declared.state.State.{State}
use Rattle.world_moves.specs.Links.{OpenMap}
use Rattle.world_moves.specs.Moving.{onward}
use Rattle.logon_steps.specs.Answers.{AreDraws, answer_for, auth3_for, drawn_of, logon_for}
use Rattle.logon_steps.specs.Asking.{info_at}
use Rattle.logon_steps.specs.ClientSteps.{client_at, on_link}
use Rattle.logon_steps.specs.BesideTrusts.{Keeping, keeping_at, keeping_of}
use Rattle.logon_steps.specs.ControllerTurns.{reply_bytes, turn_link}
use Rattle.logon_steps.specs.Meeting.{HasShortNames, bound_for, challenged_talk, flags_agreed}
use Rattle.logon_steps.specs.MemberAnswers.{granting, let_in, sam_shown}
use Rattle.logon_steps.specs.MemberLinks.{asked_talk, one_link}
use Rattle.logon_steps.specs.MemoCalls.{ReplyGoes, RequestGoes, logged_on}
use Rattle.logon_steps.specs.Turning.{IsTurnReply}
use Rattle.logon_runs.specs.Scenes.LinkScenes.{FitsGiven, given_after, IsJoined, its_link, Meeting, meeting_scene, unit_down, unit_up}
use Rattle.logon_runs.specs.Scenes.Scene.{Shows}
use Rattle.logon_runs.specs.Scenes.TurnScenes.{IsBetween, TurnScene, dial_scene, turn_scene, unit_back, waiting_scene}

-- what a controller keeps beside those who ask for it at trusted domains
abbrev pub kept_by : Meeting → AccountTable → List ℕ → Computers → Keeping
kept_by g table name computers = keeping_of table name computers g.trusts

-- the controller is at rest, with these accounts and that name, and keeps this of computers
abbrev pub with_controller : Meeting → AccountTable → List ℕ → Computers → Meeting
with_controller g table name computers = record g { controller = keeping_at (kept_by g table name computers) [] }

-- the member's turn for that logon, while the client waits so far on its link
abbrev pub turn_of : Meeting → ClientPhase → NetworkInfo → Logon → Talk → AccountTable → List ℕ → TurnScene
turn_of g waits info logon talk table name = record {
  at_client = g.at_client;
  at_member = g.at_member;
  at_controller = g.at_controller;
  client = client_at g.task (on_link g.link waits);
  plan = g.plan;
  caller = g.caller;
  how = g.how;
  info = info;
  place = g.place;
  asked = (g.place, logon) ∷ [];
  accepted = one_link g.link talk;
  table = table;
  name = name;
  trusts = g.trusts;
  links = g.links;
  opened = its_link g;
  link = g.link;
}

-- the turn of a meeting, with that standing of the channel, on a link that is open already
abbrev pub turn_within : Meeting → ClientPhase → NetworkInfo → Logon → Talk → AccountTable → List ℕ → Standing → List Route → OpenMap → ℕ → TurnScene
turn_within g waits info logon talk table name how links opened link = record {
  at_client = g.at_client;
  at_member = g.at_member;
  at_controller = g.at_controller;
  client = client_at g.task (on_link g.link waits);
  plan = g.plan;
  caller = g.caller;
  how = how;
  info = info;
  place = g.place;
  asked = (g.place, logon) ∷ [];
  accepted = one_link g.link talk;
  table = table;
  name = name;
  trusts = g.trusts;
  links = links;
  opened = opened;
  link = link;
}

-- the scene of a turn with another talk on the member's link
abbrev pub with_talk : ℕ → Talk → TurnScene → TurnScene
with_talk link talk t = record t { accepted = one_link link talk }

-- the client's link is among those that are open
abbrev pub HasOwnLink : Meeting → OpenMap → Type 0
HasOwnLink g opened =
    lookup same_number g.link opened ≡ Some (record { route = ToMember g.at_client g.at_member; dialler = true; acceptor = true })

pub record LogonsAreSeen : Type 0 where
  -- the logon is asked, and its first turn is dialled: the one that opens the channel, or its own
  pub asks_first : (s : State) (g : Meeting) (waits : ClientPhase) (challenge one two three other sent : List ℕ) (then_now : ℕ) (table : AccountTable) (name : List ℕ)
      (computers : Computers) (left : List (List ℕ)) (moment : ℕ) → g.how ≡ standing.Nothing → FitsGiven g → CanLogOn g.task → HasShortNames g.plan → AreDraws one two three →
      let message : Authenticate = (answer_for g.plan g.task challenge then_now (drawn_of one two three)).message in
      let info : NetworkInfo = info_of message (flags_agreed g.task) challenge in
      Shows s (meeting_scene (with_controller g table name computers) waits (challenged_talk g.task challenge)
      (unit_up g (written (auth3_for g.task message)) ∷ unit_up g sent ∷ []) (other ∷ left) moment) →
      Shows (onward s).state
      (dial_scene (turn_of g waits info (logon_for g.link g.task challenge message) (asked_talk (bound_for g.task) g.place []) table name) (its_link g) standing.Nothing
      (after g.number) g.number (challenge_call g.caller other) computers (unit_up g sent ∷ []) left moment)
  pub asks_again : (s : State) (g : Meeting) (o : SecureChannelState) (waits : ClientPhase) (challenge one two three sent : List ℕ) (then_now : ℕ) (table : AccountTable) (name : List ℕ)
      (computers : Computers) (left : List (List ℕ)) (moment : ℕ) → g.how ≡ standing.Open o → FitsGiven g → CanLogOn g.task → HasShortNames g.plan → AreDraws one two three →
      let message : Authenticate = (answer_for g.plan g.task challenge then_now (drawn_of one two three)).message in
      let info : NetworkInfo = info_of message (flags_agreed g.task) challenge in
      Shows s (meeting_scene (with_controller g table name computers) waits (challenged_talk g.task challenge)
      (unit_up g (written (auth3_for g.task message)) ∷ unit_up g sent ∷ []) left moment) →
      Shows (onward s).state
      (dial_scene (turn_of g waits info (logon_for g.link g.task challenge message) (asked_talk (bound_for g.task) g.place []) table name) (its_link g)
      (standing.Open (after_call o (timestamp_of moment))) (after g.number) g.number (logon_call g.caller o (timestamp_of moment) (info_at g.place info)) computers
      (unit_up g sent ∷ []) left moment)
  -- WhoAmI is held, while the turn's dial waits or once it is answered
  pub held_before : (s : State) (g : Meeting) (t : TurnScene) (opened : OpenMap) (how : Standing) (next number most call opnum : ℕ) (what : Step) (computers : Computers) (stub : List ℕ)
      (one other : Option SessionState) (goes : RequestGoes most g.task.level call opnum stub one other) (later : List BagUnit) (left : List (List ℕ)) (moment : ℕ) →
      t.at_member ≡ g.at_member → HasOwnLink g opened →
      Shows s (waiting_scene (with_talk g.link (asked_talk (bound_for g.task) t.place []) t) opened how next number what computers (unit_up g goes.sent ∷ later) left moment) →
      Shows (onward s).state (waiting_scene (with_talk g.link (asked_talk (bound_for g.task) t.place (goes.sent ∷ [])) t) opened how next number what computers later left moment)
  pub held_within : (s : State) (g : Meeting) (t : TurnScene) (next number most call opnum : ℕ) (what : Step) (computers : Computers) (there : LinkMap) (stub : List ℕ)
      (one other : Option SessionState) (goes : RequestGoes most g.task.level call opnum stub one other) (later : List BagUnit) (left : List (List ℕ)) (moment : ℕ) →
      t.at_member ≡ g.at_member → HasOwnLink g t.opened → t.link ≢ g.link →
      Shows s (turn_scene (with_talk g.link (asked_talk (bound_for g.task) t.place []) t) next number what computers there (unit_up g goes.sent ∷ later) left moment) →
      Shows (onward s).state (turn_scene (with_talk g.link (asked_talk (bound_for g.task) t.place (goes.sent ∷ [])) t) next number what computers there later left moment)
  -- the logon is granted, and WhoAmI is answered
  pub granted : (s : State) (g : Meeting) (t : TurnScene) (o : SecureChannelState) (waits : ClientPhase) (challenge : List ℕ) (message : Authenticate) (sam : SamInfo)
      (next number timestamp stamp authoritative most : ℕ) (computers : Computers) (one : Option SessionState) (left : List (List ℕ)) (moment : ℕ) → number < 2 ^ 32 → IsBetween t → IsJoined g →
      let shown : SamInfo = sam_shown o sam in
      let logon : Logon = logon_for g.link g.task challenge message in
      let on : LoggedOn = let_in g.task shown logon in
      IsTurnReply question.Logon (granting o timestamp stamp authoritative sam) → length (name_in shown) ≤ 32767 →
      (who : RequestGoes most g.task.level 2 0 [] one on.session) (back : ReplyGoes (most + 1) g.task.level 2 (written_who_reply (name_in shown)) who.next who.later) →
      t ≡ turn_within g waits t.info logon (asked_talk (bound_for g.task) g.place (who.sent ∷ [])) t.table t.name (standing.Open (after_call o timestamp)) t.links t.opened t.link →
      slice_get t.links g.link ≡ Some (ToMember g.at_client g.at_member) → take_out same_number t.link t.opened ≡ its_link g →
      Shows s (turn_scene t next number (step.Reply question.Logon) computers (turn_link t.link) (unit_back t (reply_bytes number (granting o timestamp stamp authoritative sam)) ∷ []) left moment) →
      Shows (onward s).state
      (meeting_scene (record (with_controller g t.table t.name computers) {
        given = given_after g;
        how = standing.Open (after_return true (after_call o timestamp));
        place = after g.place;
        number = next;
        links = t.links;
      }) waits (talk_in None (logged_on on back.later)) (unit_down g back.sent ∷ []) left moment)
