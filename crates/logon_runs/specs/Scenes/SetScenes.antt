-- A turn that sets a member's next secret, as it is seen of a scene, from the reply that opens the channel to the dial
-- of the logon's own turn (MS-NRPC 3.5.4.4.6; C706 12.6.3, 12.6.4).
use Rattle.std.specs.Prelude.{ℕ, ◌≡◌, ◌<◌, ◌^◌, ◌&&◌, true, false, List, [], ◌∷◌, Some, Ok}
use Rattle.std.specs.List.{AllByRecursion}
use Rattle.ntlm_flags.specs.Flags.{has_flag}
use Rattle.channel_keys.specs.Flags.{rc4_flag}
use Rattle.wire_base.specs.Maps.{same_number, take_out}
use Rattle.authenticators.specs.SecureChannels.{SecureChannelState, after_call, fresh_channel}
use Rattle.outside.specs.declared.action.Action.{Action}
use Rattle.outside.specs.declared.action.Action.TheVariants as action
use Rattle.outside.specs.declared.action.CloseCause.{CloseCause}
use Rattle.outside.specs.declared.action.Judged.{Judged}
use Rattle.outside.specs.declared.event.Event.TheVariants as event
use Rattle.outside.specs.Machine.{whole_step}
use Rattle.rpc_units.specs.Calls.{bytes_of_call}
use Rattle.rpc_units.specs.Writing.{written}
use Rattle.logon_stubs.specs.declared.calls.Reply.{Reply}
use Rattle.logon_stubs.specs.declared.calls.Reply.TheVariants as reply
use Rattle.secret_change.specs.Ranges.{InRangeSetReply}
use Rattle.secret_change.specs.Secrets.{alone}
use Rattle.secret_change.specs.declared.calls.SetCall.{SetCall}
use Rattle.secret_change.specs.declared.calls.SetReply.{SetReply}
use Rattle.account_table.specs.AccountTable.{AccountTable}
use Rattle.channel_client.specs.declared.state.Question.TheVariants as question
use Rattle.channel_client.specs.declared.state.SetStep.TheVariants as set_step
use Rattle.channel_client.specs.declared.state.Standing.TheVariants as standing
use Rattle.channel_client.specs.declared.state.Step.{Step}
use Rattle.channel_client.specs.declared.state.Step.TheVariants as step
use Rattle.channel_client.specs.Machine.{after, change_call, judge_set, logon_call, offered_flags, server_credential}
use Rattle.controller_calls.specs.declared.state.Computers.{Computers}
use Rattle.domain_controller.specs.State.{State as ControllerState}
use Rattle.domain_controller.specs.TrustStep.{trust_step_of as controller_step_of}
use Rattle.member_server.specs.State.{State as MemberState}
use Rattle.member_server.specs.Machine.{step_of as member_step_of}
use Rattle.member_server.specs.Turns.{timestamp_of}
use Rattle.world_moves.specs.declared.bag.BagUnit.{BagUnit}
use Rattle.world_moves.specs.declared.links.EndId.TheVariants.{Controller, Member}
use Rattle.world_moves.specs.declared.state.State.{State}
use Rattle.world_moves.specs.Moving.{onward}
use Rattle.logon_steps.specs.Asking.{info_at}
use Rattle.logon_steps.specs.BesideTrusts.{keeping_at}
use Rattle.logon_steps.specs.ControllerTurns.{reply_bytes, turn_link}
use Rattle.logon_steps.specs.SetTurns.{IsSetTurn, set_reply_bytes, set_request}
use Rattle.logon_steps.specs.Turning.{IsTurnReply, turn_ack}
use Rattle.logon_runs.specs.Scenes.Scene.{HasFirst, IsNoClose, Scene, Shows, with_actions}
use Rattle.logon_runs.specs.Scenes.Turnings.{ClosesTo, shut_in}
use Rattle.logon_runs.specs.Scenes.TurnScenes.{IsBetween, TurnScene, dial_scene, kept_in, turn_scene, unit_back, unit_there, waiting_scene, with_accounts, with_secrets}

pub record SetsAreSeen : Type 0 where
  -- a member keeps a text, closes the link of its turn, and then does other things
  pub member_keeps : (s : State) (v : Scene) (unit : BagUnit) (later : List BagUnit) (after : MemberState) (controller : ControllerState) (left : List (List ℕ)) (link : ℕ)
      (cause : CloseCause) (text : List ℕ) (actions : List Action) → Shows s v → HasFirst v unit later (Member v.at_member) →
      ClosesTo v (Member v.at_member) (Controller v.at_controller) link → AllByRecursion IsNoClose actions →
      member_step_of v.member (event.Bytes unit.link unit.bytes) v.moment v.left ≡ whole_step v.left left (action.Keep text ∷ action.Close link cause ∷ actions) after →
      controller_step_of v.controller (event.Closed link) v.moment left ≡ whole_step left left [] controller →
      Shows (onward s).state (with_actions (Member v.at_member) actions left (shut_in link (record v { member = after; controller = controller; units = later })))
  -- the channel opens under the current secret, and the turn that sets the next one is dialled
  pub opened : (s : State) (t : TurnScene) (next number flags : ℕ) (client server current new : List ℕ) (computers : Computers) (left : List (List ℕ)) (moment : ℕ) → IsBetween t → number < 2 ^ 32 →
      t.how ≡ standing.Half client server → t.plan.secrets ≡ record { current = current; next = Some (record { secret = new; is_tried = false }) } →
      (has_flag offered_flags flags && has_flag flags rc4_flag) ≡ true →
      let r : Reply = reply.Authenticate (record { credential = server_credential t.caller.secret client server; flags = flags; status = 0 }) in
      let o : SecureChannelState = fresh_channel t.caller.secret client server offered_flags in
      IsTurnReply question.Authenticate r →
      Shows s (turn_scene t next number (step.Reply question.Authenticate) computers (turn_link t.link) (unit_back t (reply_bytes number r) ∷ []) left moment) →
      Shows (onward s).state
      (waiting_scene t (take_out same_number t.link t.opened) (standing.Open (after_call o (timestamp_of moment))) (after next) next
      (step.Set (set_step.Bind (change_call t.caller o (timestamp_of moment) new))) computers [] left moment)
  -- the channel opens under the next secret, which is the one secret then
  pub opened_next : (s : State) (t : TurnScene) (next number flags : ℕ) (client server current new : List ℕ) (computers : Computers) (left : List (List ℕ)) (moment : ℕ) → IsBetween t → number < 2 ^ 32 →
      t.how ≡ standing.Half client server → t.plan.secrets ≡ record { current = current; next = Some (record { secret = new; is_tried = true }) } →
      (has_flag offered_flags flags && has_flag flags rc4_flag) ≡ true →
      let r : Reply = reply.Authenticate (record { credential = server_credential t.caller.secret client server; flags = flags; status = 0 }) in
      let o : SecureChannelState = fresh_channel t.caller.secret client server offered_flags in
      IsTurnReply question.Authenticate r →
      Shows s (turn_scene t next number (step.Reply question.Authenticate) computers (turn_link t.link) (unit_back t (reply_bytes number r) ∷ []) left moment) →
      Shows (onward s).state
      (dial_scene (with_secrets (alone new) t) (take_out same_number t.link t.opened) (standing.Open (after_call o (timestamp_of moment))) (after next) next
      (logon_call t.caller o (timestamp_of moment) (info_at t.place t.info)) computers [] left moment)
  -- the bind is answered, and the member's call goes out
  pub asks : (s : State) (t : TurnScene) (next number : ℕ) (c : SetCall) (computers : Computers) (left : List (List ℕ)) (moment : ℕ) → IsBetween t → number < 2 ^ 32 →
      Shows s (turn_scene t next number (step.Set (set_step.Bind c)) computers (turn_link t.link) (unit_back t (written (turn_ack number)) ∷ []) left moment) →
      Shows (onward s).state
      (turn_scene t (after next) next (step.Set set_step.Reply) computers (turn_link t.link) (unit_there t (bytes_of_call (set_request next c) 5840) ∷ []) left moment)
  -- the controller answers it: it tells how it judged, behind the text where the secret is set, and has its accounts or
  -- others then
  pub sets : (s : State) (t : TurnScene) (next number : ℕ) (what : Step) (c : SetCall) (r : SetReply) (how : Judged) (text : List ℕ) (computers later : Computers) (accounts : AccountTable)
      (left rest : List (List ℕ)) (moment : ℕ) → IsBetween t → IsSetTurn c →
      controller_step_of (keeping_at (kept_in t computers) (turn_link t.link)) (event.Bytes t.link (bytes_of_call (set_request number c) 5840)) moment left
      ≡ whole_step left rest (action.Keep text ∷ action.Judged how ∷ action.Send t.link (set_reply_bytes number r) ∷ []) (keeping_at (kept_in (with_accounts accounts t) later) (turn_link t.link)) →
      Shows s (turn_scene t next number what computers (turn_link t.link) (unit_there t (bytes_of_call (set_request number c) 5840) ∷ []) left moment) →
      Shows (onward s).state (turn_scene (with_accounts accounts t) next number what later (turn_link t.link) (unit_back t (set_reply_bytes number r) ∷ []) rest moment)
  pub refuses : (s : State) (t : TurnScene) (next number : ℕ) (what : Step) (c : SetCall) (r : SetReply) (how : Judged) (computers later : Computers) (accounts : AccountTable)
      (left rest : List (List ℕ)) (moment : ℕ) → IsBetween t → IsSetTurn c →
      controller_step_of (keeping_at (kept_in t computers) (turn_link t.link)) (event.Bytes t.link (bytes_of_call (set_request number c) 5840)) moment left
      ≡ whole_step left rest (action.Judged how ∷ action.Send t.link (set_reply_bytes number r) ∷ []) (keeping_at (kept_in (with_accounts accounts t) later) (turn_link t.link)) →
      Shows s (turn_scene t next number what computers (turn_link t.link) (unit_there t (bytes_of_call (set_request number c) 5840) ∷ []) left moment) →
      Shows (onward s).state (turn_scene (with_accounts accounts t) next number what later (turn_link t.link) (unit_back t (set_reply_bytes number r) ∷ []) rest moment)
  -- the reply takes it: the next secret is the one secret then, and the logon's own turn is dialled
  pub set : (s : State) (t : TurnScene) (o later : SecureChannelState) (r : SetReply) (next number : ℕ) (current new : List ℕ) (computers : Computers) (left : List (List ℕ)) (moment : ℕ) → IsBetween t →
      number < 2 ^ 32 → InRangeSetReply r → t.how ≡ standing.Open o → judge_set r (standing.Open o) ≡ Ok later →
      t.plan.secrets ≡ record { current = current; next = Some (record { secret = new; is_tried = false }) } →
      Shows s (turn_scene t next number (step.Set set_step.Reply) computers (turn_link t.link) (unit_back t (set_reply_bytes number r) ∷ []) left moment) →
      Shows (onward s).state
      (dial_scene (with_secrets (alone new) t) (take_out same_number t.link t.opened) (standing.Open (after_call later (timestamp_of moment))) (after next) next
      (logon_call t.caller later (timestamp_of moment) (info_at t.place t.info)) computers [] left moment)
