-- One turn of a member with its controller, as it is seen of a scene: its bind, the answer, its
-- call and the reply, whichever call it is (MS-NRPC 3.5.4; C706 12.6.3, 12.6.4). What the turn was
-- dialled for, and the reply, are others' subject.
use Rattle.std.specs.Prelude.{ℕ, ◌≡◌, ◌<◌, ◌^◌, ◌&&◌, true, false, List, [], ◌∷◌, ◌++◌, length, Some, None, slice_get}
use Rattle.wire_base.specs.Maps.{lookup, put, same_number, take_out}
use Rattle.ntlm_flags.specs.Flags.{has_flag}
use Rattle.channel_keys.specs.Flags.{rc4_flag}
use Rattle.authenticators.specs.SecureChannels.{SecureChannelState, after_call, fresh_channel}
use Rattle.outside.specs.declared.action.Action.TheVariants as action
use Rattle.outside.specs.declared.action.Judged.{Judged}
use Rattle.outside.specs.declared.event.Event.TheVariants as event
use Rattle.outside.specs.Machine.{whole_step}
use Rattle.rpc_units.specs.Calls.{bytes_of_call}
use Rattle.rpc_units.specs.Writing.{written}
use Rattle.end_links.specs.Binding.{bind_of}
use Rattle.end_links.specs.Links.{LinkState}
use Rattle.logon_stubs.specs.declared.calls.Call.{Call}
use Rattle.logon_stubs.specs.declared.calls.Reply.{Reply}
use Rattle.logon_stubs.specs.declared.calls.Reply.TheVariants as reply
use Rattle.logon_stubs.specs.declared.info.NetworkInfo.{NetworkInfo}
use Rattle.logon_stubs.specs.Interface.{netlogon_syntax}
use Rattle.account_table.specs.AccountTable.{AccountTable}
use Rattle.channel_client.specs.declared.caller.Caller.{Caller}
use Rattle.channel_client.specs.declared.state.Question.TheVariants as question
use Rattle.channel_client.specs.declared.state.Standing.TheVariants as standing
use Rattle.channel_client.specs.declared.state.Standing.{Standing}
use Rattle.channel_client.specs.declared.state.Step.{Step}
use Rattle.channel_client.specs.declared.state.Step.TheVariants as step
use Rattle.channel_client.specs.Machine.{after, auth_call, logon_call, offered_flags, question_of, server_credential}
use Rattle.domain_controller.specs.Hearing.{first_talk}
use Rattle.domain_controller.specs.Step.{LinkMap}
use Rattle.domain_controller.specs.TrustStep.{trust_step_of as controller_step_of}
use Rattle.controller_calls.specs.declared.state.Computers.{Computers}
use Rattle.logon_client.specs.State.{State as ClientState}
use Rattle.member_server.specs.declared.plan.MemberPlan.{MemberPlan}
use Rattle.member_server.specs.declared.state.Logon.{Logon}
use Rattle.member_server.specs.declared.state.Talk.{Talk}
use Rattle.member_server.specs.Turns.{timestamp_of}
use Rattle.world_moves.specs.declared.bag.BagUnit.{BagUnit}
use Rattle.world_moves.specs.declared.links.EndId.TheVariants.{Controller, Member}
use Rattle.world_moves.specs.declared.links.LinkKind.TheVariants as kind
use Rattle.world_moves.specs.declared.links.Route.{Route}
use Rattle.world_moves.specs.declared.links.Route.TheVariants.{ToController}
use Rattle.world_moves.specs.declared.state.State.{State}
use Rattle.world_moves.specs.Links.{OpenMap, accepted, answered}
use Rattle.world_moves.specs.Moving.{connect, end_of_peer, onward}
use Rattle.logon_steps.specs.BesideTrusts.{AtTrusts, Keeping, keeping_at, keeping_of}
use Rattle.logon_steps.specs.ControllerTurns.{one_link, reply_bytes, turn_link}
use Rattle.secret_change.specs.Secrets.{SecretsState}
use Rattle.logon_steps.specs.MemberTurns.{IsNew, bind_waits, logons_keeping, member_at, on_turn, plan_with}
use Rattle.logon_steps.specs.Turning.{IsTurnCall, IsTurnReply, turn_ack, turn_request}
use Rattle.logon_runs.specs.Scenes.Scene.{Scene, Shows}

-- what stays during a turn
pub record TurnScene : Type 0 where
  pub at_client : ℕ
  pub at_member : ℕ
  pub at_controller : ℕ
  pub client : ClientState
  -- the member: its plan with the secrets that it keeps, its channel, the logon that waits, and its accepted links
  pub plan : MemberPlan
  pub caller : Caller
  pub how : Standing
  pub info : NetworkInfo
  pub place : ℕ
  pub asked : List (ℕ × Logon)
  pub accepted : List (ℕ × LinkState Talk)
  -- the controller's accounts and name, and those who ask for it at trusted domains
  pub table : AccountTable
  pub name : List ℕ
  pub trusts : AtTrusts
  -- all links, those that are open, and the turn's own
  pub links : List Route
  pub opened : OpenMap
  pub link : ℕ

-- what the controller keeps, with that of computers
abbrev pub kept_in : TurnScene → Computers → Keeping
kept_in t computers = keeping_of t.table t.name computers t.trusts

-- the link of the turn is open between both
pub record IsBetween (t : TurnScene) : Type 0 where
  pub route : slice_get t.links t.link ≡ Some (ToController t.at_member t.at_controller)
  pub opened : lookup same_number t.link t.opened
      ≡ Some (record { route = ToController t.at_member t.at_controller; dialler = true; acceptor = true })

-- a unit on it, towards the controller and back
abbrev pub unit_there : TurnScene → List ℕ → BagUnit
unit_there t bytes = record { bytes = bytes; link = t.link; kind = kind.ToController; back = false; is_settled = false }

abbrev pub unit_back : TurnScene → List ℕ → BagUnit
unit_back t bytes = record { bytes = bytes; link = t.link; kind = kind.ToController; back = true; is_settled = false }

-- the turn waits for the answer to its bind or call of that number, and this is on its link
abbrev pub turn_scene : TurnScene → ℕ → ℕ → Step → Computers → LinkMap → List BagUnit → List (List ℕ) → ℕ → Scene
turn_scene t next number what computers there units left moment = record {
  at_client = t.at_client;
  at_member = t.at_member;
  at_controller = t.at_controller;
  client = t.client;
  member = member_at (logons_keeping t.plan t.caller t.how t.info t.place next number what t.asked) t.accepted (on_turn t.link);
  controller = keeping_at (kept_in t computers) there;
  links = t.links;
  opened = t.opened;
  units = units;
  dials = [];
  left = left;
  moment = moment;
}

-- the turn's dial waits, behind no other; the links that are open, and the channel's standing
abbrev pub waiting_scene : TurnScene → OpenMap → Standing → ℕ → ℕ → Step → Computers → List BagUnit → List (List ℕ) → ℕ → Scene
waiting_scene t opened how next number what computers units left moment = record {
  at_client = t.at_client;
  at_member = t.at_member;
  at_controller = t.at_controller;
  client = t.client;
  member = member_at (logons_keeping t.plan t.caller how t.info t.place next number what t.asked) t.accepted (bind_waits number);
  controller = keeping_at (kept_in t computers) [];
  links = t.links;
  opened = opened;
  units = units;
  dials = record { end = Member t.at_member; peer = t.plan.controller } ∷ [];
  left = left;
  moment = moment;
}

-- the scene in which a dial waits for a call of a logon
abbrev pub dial_scene : TurnScene → OpenMap → Standing → ℕ → ℕ → Call → Computers → List BagUnit → List (List ℕ) → ℕ → Scene
dial_scene t opened how next number c computers units left moment = waiting_scene t opened how next number (step.Bind c) computers units left moment

-- the turn on the next link
abbrev pub next_turn : TurnScene → OpenMap → Standing → TurnScene
next_turn t opened how = record t {
  how = how;
  links = t.links ++ ToController t.at_member t.at_controller ∷ [];
  opened = put same_number (length t.links) (answered (accepted (ToController t.at_member t.at_controller)))
      (opened ++ (length t.links, accepted (ToController t.at_member t.at_controller)) ∷ []);
  link = length t.links;
}

-- the member keeps other secrets
abbrev pub with_secrets : SecretsState → TurnScene → TurnScene
with_secrets secrets t = record t { plan = plan_with secrets t.plan }

-- the controller's accounts are others
abbrev pub with_accounts : AccountTable → TurnScene → TurnScene
with_accounts accounts t = record t { table = accounts }

pub record TurnsAreSeen : Type 0 where
  -- a dial is answered on the next link, and the bind goes out behind what waits, whichever call the turn is for
  pub dialled : (s : State) (t : TurnScene) (opened : OpenMap) (how : Standing) (next number : ℕ) (what : Step) (computers : Computers) (units : List BagUnit) (left : List (List ℕ)) (moment : ℕ) →
      end_of_peer t.plan.controller s.ends ≡ Some (Controller t.at_controller) →
      lookup same_number (length t.links) (opened ++ (length t.links, accepted (ToController t.at_member t.at_controller)) ∷ [])
      ≡ Some (accepted (ToController t.at_member t.at_controller)) →
      IsNew (length t.links) t.accepted → IsBetween (next_turn t opened how) →
      Shows s (waiting_scene t opened how next number what computers units left moment) →
      Shows (connect s).state
      (turn_scene (next_turn t opened how) next number what computers (one_link (length t.links) first_talk)
      (units ++ unit_there (next_turn t opened how) (written (bind_of netlogon_syntax number)) ∷ []) left moment)
  -- after the first call that opens the channel, and at a member with one secret after the second, the link is closed,
  -- and the next turn is dialled
  pub half : (s : State) (t : TurnScene) (next number : ℕ) (client server : List ℕ) (computers : Computers) (left : List (List ℕ)) (moment : ℕ) → IsBetween t → number < 2 ^ 32 →
      t.how ≡ standing.Nothing →
      let r : Reply = reply.Challenge (record { challenge = server; status = 0 }) in
      IsTurnReply (question.Challenge client) r →
      Shows s (turn_scene t next number (step.Reply (question.Challenge client)) computers (turn_link t.link) (unit_back t (reply_bytes number r) ∷ []) left moment) →
      Shows (onward s).state
      (dial_scene t (take_out same_number t.link t.opened) (standing.Half client server) (after next) next (auth_call t.caller client server) computers [] left moment)
  pub opened : (s : State) (t : TurnScene) (next number flags : ℕ) (client server : List ℕ) (computers : Computers) (left : List (List ℕ)) (moment : ℕ) → IsBetween t → number < 2 ^ 32 →
      t.how ≡ standing.Half client server → t.plan.secrets.next ≡ None → (has_flag offered_flags flags && has_flag flags rc4_flag) ≡ true →
      let r : Reply = reply.Authenticate (record { credential = server_credential t.caller.secret client server; flags = flags; status = 0 }) in
      let o : SecureChannelState = fresh_channel t.caller.secret client server offered_flags in
      IsTurnReply question.Authenticate r →
      Shows s (turn_scene t next number (step.Reply question.Authenticate) computers (turn_link t.link) (unit_back t (reply_bytes number r) ∷ []) left moment) →
      Shows (onward s).state
      (dial_scene t (take_out same_number t.link t.opened) (standing.Open (after_call o (timestamp_of moment))) (after next) next
      (logon_call t.caller o (timestamp_of moment) (record t.info { logon_id = t.place })) computers [] left moment)
  -- the controller answers the bind, whichever call the turn is for
  pub bound : (s : State) (t : TurnScene) (next number : ℕ) (what : Step) (computers : Computers) (left : List (List ℕ)) (moment : ℕ) → IsBetween t → number < 2 ^ 32 →
      Shows s (turn_scene t next number what computers (one_link t.link first_talk) (unit_there t (written (bind_of netlogon_syntax number)) ∷ []) left moment) →
      Shows (onward s).state (turn_scene t next number what computers (turn_link t.link) (unit_back t (written (turn_ack number)) ∷ []) left moment)
  -- the member's call goes out
  pub asks : (s : State) (t : TurnScene) (next number : ℕ) (c : Call) (computers : Computers) (left : List (List ℕ)) (moment : ℕ) → IsBetween t → number < 2 ^ 32 →
      Shows s (turn_scene t next number (step.Bind c) computers (turn_link t.link) (unit_back t (written (turn_ack number)) ∷ []) left moment) →
      Shows (onward s).state
      (turn_scene t (after next) next (step.Reply (question_of c)) computers (turn_link t.link) (unit_there t (bytes_of_call (turn_request next c) 5840) ∷ []) left moment)
  -- the controller answers it, telling nothing or how it judged, and keeps its accounts or others then
  pub answers : (s : State) (t : TurnScene) (next number : ℕ) (what : Step) (c : Call) (r : Reply) (computers later : Computers) (left rest : List (List ℕ)) (moment : ℕ) →
      IsBetween t → IsTurnCall c →
      controller_step_of (keeping_at (kept_in t computers) (turn_link t.link)) (event.Bytes t.link (bytes_of_call (turn_request number c) 5840)) moment left
      ≡ whole_step left rest (action.Send t.link (reply_bytes number r) ∷ []) (keeping_at (kept_in t later) (turn_link t.link)) →
      Shows s (turn_scene t next number what computers (turn_link t.link) (unit_there t (bytes_of_call (turn_request number c) 5840) ∷ []) left moment) →
      Shows (onward s).state (turn_scene t next number what later (turn_link t.link) (unit_back t (reply_bytes number r) ∷ []) rest moment)
  pub judges : (s : State) (t : TurnScene) (next number : ℕ) (what : Step) (c : Call) (r : Reply) (how : Judged) (computers later : Computers) (accounts : AccountTable) (left rest : List (List ℕ))
      (moment : ℕ) → IsBetween t → IsTurnCall c →
      controller_step_of (keeping_at (kept_in t computers) (turn_link t.link)) (event.Bytes t.link (bytes_of_call (turn_request number c) 5840)) moment left
      ≡ whole_step left rest (action.Judged how ∷ action.Send t.link (reply_bytes number r) ∷ []) (keeping_at (kept_in (with_accounts accounts t) later) (turn_link t.link)) →
      Shows s (turn_scene t next number what computers (turn_link t.link) (unit_there t (bytes_of_call (turn_request number c) 5840) ∷ []) left moment) →
      Shows (onward s).state (turn_scene (with_accounts accounts t) next number what later (turn_link t.link) (unit_back t (reply_bytes number r) ∷ []) rest moment)
