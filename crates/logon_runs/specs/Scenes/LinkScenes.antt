-- A client and its member on their link, as it is seen of a scene: from the dial to the logon that
-- is asked, and from the one that is granted to the link's end (MS-NLMP 3.1.5.1, 3.2.5.1; C706
-- 12.6.3, 12.6.4).
use Rattle.std.specs.Prelude.{ℕ, ◌≡◌, ◌+◌, ◌≤◌, ◌==◌, true, false, List, [], ◌∷◌, ◌++◌, length, Option, Some, None, slice_get}
use Rattle.wire_base.specs.Units.{AreUnits}
use Rattle.wire_base.specs.Numbers.{AreBytes}
use Rattle.ntlm_messages.specs.declared.messages.Authenticate.{Authenticate}
use Rattle.ntlm_seal.specs.Sessions.{SessionState}
use Rattle.rpc_units.specs.Writing.{written}
use Rattle.end_links.specs.Sending.{request_of}
use Rattle.memo_stubs.specs.Memo.{written_echo_reply, written_echo_request, written_who_reply}
use Rattle.channel_client.specs.declared.caller.Caller.{Caller}
use Rattle.channel_client.specs.declared.state.Standing.{Standing}
use Rattle.channel_client.specs.declared.state.Standing.TheVariants as standing
use Rattle.domain_controller.specs.State.{State as ControllerState}
use Rattle.secret_change.specs.Secrets.{next_of, tried_of}
use Rattle.member_server.specs.declared.state.Logons.{Logons}
use Rattle.authenticators.specs.SecureChannels.{SecureChannelState}
use Rattle.logon_client.specs.declared.answering.Drawn.{Drawn}
use Rattle.logon_client.specs.declared.outcome.ClientOutcome.TheVariants.{In}
use Rattle.logon_client.specs.declared.plan.ClientPlan.{ClientPlan}
use Rattle.logon_client.specs.declared.securing.Sending.{Sending}
use Rattle.logon_client.specs.declared.state.Phase.{Phase as ClientPhase}
use Rattle.logon_client.specs.declared.state.Phase.TheVariants as client_phase
use Rattle.logon_client.specs.declared.state.Question.TheVariants as client_question
use Rattle.logon_client.specs.declared.state.ClientLink.TheVariants as client_standing
use Rattle.logon_client.specs.declared.state.Terms.{Terms}
use Rattle.logon_client.specs.Answering.{bind_for}
use Rattle.logon_client.specs.Machine as client
use Rattle.logon_client.specs.Plans.{CanLogOn}
use Rattle.logon_client.specs.Securing.{send_call}
use Rattle.logon_client.specs.State.{State as ClientState}
use Rattle.member_server.specs.declared.plan.MemberPlan.{MemberPlan}
use Rattle.channel_turns.specs.declared.state.Dialling.TheVariants as dialling
use Rattle.member_server.specs.declared.state.LoggedOn.{LoggedOn}
use Rattle.member_server.specs.declared.state.Talk.{Talk}
use Rattle.member_server.specs.Requests.{talk_in}
use Rattle.world_moves.specs.declared.bag.BagUnit.{BagUnit}
use Rattle.world_moves.specs.declared.links.EndId.TheVariants.{Client, Member}
use Rattle.world_moves.specs.declared.links.LinkKind.TheVariants as kind
use Rattle.world_moves.specs.declared.links.Route.{Route}
use Rattle.world_moves.specs.declared.links.Route.TheVariants.{ToMember}
use Rattle.world_moves.specs.declared.state.State.{State}
use Rattle.world_moves.specs.declared.state.WaitingDial.{WaitingDial}
use Rattle.world_moves.specs.Links.{OpenMap}
use Rattle.world_moves.specs.Moving.{connect, end_of_peer, onward}
use Rattle.logon_steps.specs.Answers.{AreDraws, answer_for, auth3_for, drawn_of, terms_for}
use Rattle.logon_steps.specs.BesideTrusts.{AtTrusts}
use Rattle.logon_steps.specs.ClientSteps.{client_at, client_ended, on_link}
use Rattle.logon_steps.specs.Meeting.{HasShortNames, ack_for, bound_for, challenged_talk, fresh_talk}
use Rattle.logon_steps.specs.MemberLinks.{logons_resting, one_link}
use Rattle.logon_steps.specs.MemberTurns.{member_at}
use Rattle.logon_steps.specs.MemoCalls.{ReplyGoes, RequestGoes, logged_on, with_session}
use Rattle.logon_runs.specs.Scenes.Scene.{Scene, Shows}

-- what a turn gave the channel last: the secret of who asks, and the next one
pub record Given : Type 0 where
  pub secret : List ℕ
  pub next : Option (List ℕ)

-- What stays while the member's channel rests. Its plan has the secrets that it keeps, and who asks has the one by
-- which it asks in its next turns.
pub record Meeting : Type 0 where
  pub at_client : ℕ
  pub at_member : ℕ
  pub at_controller : ℕ
  pub task : ClientPlan
  pub plan : MemberPlan
  pub caller : Caller
  pub given : Given
  pub how : Standing
  pub place : ℕ
  pub number : ℕ
  -- the controller, and those who ask for it at trusted domains
  pub controller : ControllerState
  pub trusts : AtTrusts
  pub links : List Route
  pub link : ℕ

-- the link is between both
abbrev pub IsJoined : Meeting → Type 0
IsJoined g = slice_get g.links g.link ≡ Some (ToMember g.at_client g.at_member)

-- the client's link alone is open, at both sides
abbrev pub its_link : Meeting → OpenMap
its_link g = (g.link, record { route = ToMember g.at_client g.at_member; dialler = true; acceptor = true }) ∷ []

-- a unit on it, to the member and back
abbrev pub unit_up : Meeting → List ℕ → BagUnit
unit_up g bytes = record { bytes = bytes; link = g.link; kind = kind.ToMember; back = false; is_settled = false }

abbrev pub unit_down : Meeting → List ℕ → BagUnit
unit_down g bytes = record { bytes = bytes; link = g.link; kind = kind.ToMember; back = true; is_settled = false }

-- who asks, as long as no other turn starts
abbrev pub given_caller : Meeting → Caller
given_caller g = record g.caller { secret = g.given.secret }

-- the member's logons while its channel rests
abbrev pub resting : Meeting → Logons
resting g = logons_resting g.plan (given_caller g) g.given.next g.how g.place g.number

-- what a turn has given the channel
abbrev pub given_after : Meeting → Given
given_after g = record { secret = g.caller.secret; next = next_of g.plan.secrets }

-- Who asks has the secret that is tried, where it is to open a channel. Where one is open, it goes on as it did, and
-- the member keeps one secret.
pub record FitsGiven (g : Meeting) : Type 0 where
  pub tried : g.how ≡ standing.Nothing → tried_of g.plan.secrets ≡ g.caller.secret
  pub kept : (o : SecureChannelState) → g.how ≡ standing.Open o → g.given.secret ≡ g.caller.secret
  pub one : (o : SecureChannelState) → g.how ≡ standing.Open o → g.plan.secrets.next ≡ None

-- a client and its member so far on a link
abbrev pub meeting_scene : Meeting → ClientPhase → Talk → List BagUnit → List (List ℕ) → ℕ → Scene
meeting_scene g how talk units left moment = record {
  at_client = g.at_client;
  at_member = g.at_member;
  at_controller = g.at_controller;
  client = client_at g.task (on_link g.link how);
  member = member_at (resting g) (one_link g.link talk) dialling.Nothing;
  controller = g.controller;
  links = g.links;
  opened = its_link g;
  units = units;
  dials = [];
  left = left;
  moment = moment;
}

-- no link is open; the client's state and the dials
abbrev pub rest_scene : Meeting → ClientState → List Route → List (List ℕ) → ℕ → List WaitingDial → Scene
rest_scene g state links left moment dials = record {
  at_client = g.at_client;
  at_member = g.at_member;
  at_controller = g.at_controller;
  client = state;
  member = member_at (resting g) [] dialling.Nothing;
  controller = g.controller;
  links = links;
  opened = [];
  units = [];
  dials = dials;
  left = left;
  moment = moment;
}

-- the client's link is the next one
abbrev pub joined : Meeting → List Route → Meeting
joined g links = record g { links = links ++ ToMember g.at_client g.at_member ∷ []; link = length links }

pub record MeetingsAreSeen : Type 0 where
  -- the dial is answered, and the bind goes out
  pub dialled : (s : State) (g : Meeting) (links : List Route) (left : List (List ℕ)) (moment : ℕ) → IsJoined (joined g links) →
      end_of_peer g.task.server s.ends ≡ Some (Member g.at_member) →
      Shows s (rest_scene g (client_at g.task client_standing.Dialling) links left moment (record { end = Client g.at_client; peer = g.task.server } ∷ [])) →
      Shows (connect s).state
      (meeting_scene (joined g links) client_phase.Bound fresh_talk (unit_up (joined g links) (written (bind_for g.task.level g.task.auth)) ∷ []) left moment)
  -- the member answers it with a CHALLENGE
  pub challenged : (s : State) (g : Meeting) (challenge : List ℕ) (left : List (List ℕ)) (moment : ℕ) → IsJoined g → CanLogOn g.task → HasShortNames g.plan → length challenge ≡ 8 →
      Shows s (meeting_scene g client_phase.Bound fresh_talk (unit_up g (written (bind_for g.task.level g.task.auth)) ∷ []) (challenge ∷ left) moment) →
      Shows (onward s).state
      (meeting_scene g client_phase.Bound (challenged_talk g.task challenge) (unit_down g (written (ack_for g.plan g.task challenge)) ∷ []) left moment)
  -- the client answers that, and WhoAmI goes out behind it
  pub answered : (s : State) (g : Meeting) (challenge one two three : List ℕ) (sending : Sending) (left : List (List ℕ)) (moment : ℕ) → IsJoined g → CanLogOn g.task →
      HasShortNames g.plan → length challenge ≡ 8 → AreDraws one two three →
      let drawn : Drawn = drawn_of one two three in
      let terms : Terms = terms_for g.plan g.task challenge moment drawn in
      let message : Authenticate = (answer_for g.plan g.task challenge moment drawn).message in
      send_call terms.session g.task.level (request_of client.who_number 0 client.who_opnum []) 5840 ≡ Some sending →
      Shows s (meeting_scene g client_phase.Bound (challenged_talk g.task challenge) (unit_down g (written (ack_for g.plan g.task challenge)) ∷ []) (one ∷ two ∷ three ∷ left) moment) →
      Shows (onward s).state
      (meeting_scene g (client_phase.Asked (record terms { session = sending.session }) client_question.Who) (challenged_talk g.task challenge)
      (unit_up g (written (auth3_for g.task message)) ∷ unit_up g sending.bytes ∷ []) left moment)
  -- the name comes, and Echo goes out
  pub named : (s : State) (g : Meeting) (terms : Terms) (name : List ℕ) (most : ℕ) (other : Option SessionState) (sending : Sending) (on : LoggedOn) (left : List (List ℕ)) (moment : ℕ) → IsJoined g →
      (back : ReplyGoes most g.task.level 2 (written_who_reply name) other terms.session) → length name ≤ 32767 → AreUnits name → (g.task.echo == 0) ≡ false → terms.receive ≡ 5840 →
      send_call back.next g.task.level (request_of client.echo_number 0 client.echo_opnum (written_echo_request (client.echo_bytes g.task.echo))) 5840 ≡ Some sending →
      Shows s (meeting_scene g (client_phase.Asked terms client_question.Who) (talk_in None on) (unit_down g back.sent ∷ []) left moment) →
      Shows (onward s).state
      (meeting_scene g (client_phase.Asked (with_session terms sending.session) (client_question.Echo name)) (talk_in None on) (unit_up g sending.bytes ∷ []) left moment)
  -- the bytes of Echo go back
  pub echoes : (s : State) (g : Meeting) (how : ClientPhase) (most : ℕ) (on : LoggedOn) (bytes : List ℕ) (one : Option SessionState) (left : List (List ℕ)) (moment : ℕ) → IsJoined g →
      on.bound ≡ bound_for g.task → length bytes ≤ 4096 → AreBytes bytes → (asks : RequestGoes most g.task.level 3 1 (written_echo_request bytes) one on.session)
      (back : ReplyGoes (most + 1) g.task.level 3 (written_echo_reply bytes) asks.next asks.later) →
      Shows s (meeting_scene g how (talk_in None on) (unit_up g asks.sent ∷ []) left moment) →
      Shows (onward s).state (meeting_scene g how (talk_in None (logged_on on back.later)) (unit_down g back.sent ∷ []) left moment)
  -- the client is in, and closes the link: after the name where nothing is echoed, or once the same bytes came back
  pub ends_named : (s : State) (g : Meeting) (terms : Terms) (name : List ℕ) (most : ℕ) (other : Option SessionState) (talk : Talk) (left : List (List ℕ)) (moment : ℕ) → IsJoined g →
      (back : ReplyGoes most g.task.level 2 (written_who_reply name) other terms.session) → length name ≤ 32767 → AreUnits name → (g.task.echo == 0) ≡ true →
      Shows s (meeting_scene g (client_phase.Asked terms client_question.Who) talk (unit_down g back.sent ∷ []) left moment) →
      Shows (onward s).state (rest_scene g (client_ended g.task (In name terms.key 0)) g.links left moment [])
  pub ends_echoed : (s : State) (g : Meeting) (terms : Terms) (name : List ℕ) (most : ℕ) (other : Option SessionState) (talk : Talk) (left : List (List ℕ)) (moment : ℕ) → IsJoined g → CanLogOn g.task →
      (back : ReplyGoes most g.task.level 3 (written_echo_reply (client.echo_bytes g.task.echo)) other terms.session) →
      Shows s (meeting_scene g (client_phase.Asked terms (client_question.Echo name)) talk (unit_down g back.sent ∷ []) left moment) →
      Shows (onward s).state (rest_scene g (client_ended g.task (In name terms.key g.task.echo)) g.links left moment [])
