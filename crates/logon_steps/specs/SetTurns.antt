-- A turn that sets the next secret of a member's account, unit by unit, at both ends (MS-NRPC 3.5.4.4.6; C706 12.6.3,
-- 12.6.4). It comes behind the turns that open a channel, before the logon's own. A secret has 16 bytes.
use Rattle.std.specs.Prelude.{ℕ, ◌≡◌, ◌≤◌, ◌<◌, ◌^◌, ◌&&◌, true, false, List, [], ◌∷◌, length, Option, Some, None, Ok}
use Rattle.ntlm_flags.specs.Flags.{has_flag}
use Rattle.channel_keys.specs.Flags.{rc4_flag}
use Rattle.wire_base.specs.Maps.{lookup, put, take_out}
use Rattle.wire_base.specs.Names.{same_name}
use Rattle.authenticators.specs.Sequences.{return_of}
use Rattle.authenticators.specs.SecureChannels.{SecureChannelState, after_call, after_return, fresh_channel, key_of_channel}
use Rattle.outside.specs.declared.action.Action.TheVariants as action
use Rattle.outside.specs.declared.action.CloseCause.TheVariants as close
use Rattle.outside.specs.declared.action.Judged.TheVariants as judged
use Rattle.outside.specs.declared.event.Event.TheVariants as event
use Rattle.outside.specs.Machine.{whole_step}
use Rattle.rpc_units.specs.declared.unit.Unit.{Unit as RpcUnit}
use Rattle.rpc_units.specs.Calls.{bytes_of_call}
use Rattle.rpc_units.specs.Stream.{cut_stream}
use Rattle.rpc_units.specs.Writing.{written}
use Rattle.end_links.specs.Binding.{bind_of}
use Rattle.end_links.specs.Links.{LinkState}
use Rattle.end_links.specs.Sending.{frames_of, joined_frames, request_of, response_of}
use Rattle.end_links.specs.Serving.{served_cut}
use Rattle.end_links.specs.Whole.{content_limit}
use Rattle.logon_stubs.specs.Interface.{netlogon_syntax}
use Rattle.logon_stubs.specs.declared.calls.Reply.{Reply}
use Rattle.logon_stubs.specs.declared.calls.Reply.TheVariants as reply
use Rattle.logon_stubs.specs.declared.info.NetworkInfo.{NetworkInfo}
use Rattle.secret_change.specs.Calls.{set_opnum, written_set_call, written_set_reply}
use Rattle.secret_change.specs.Ranges.{InRangeSetReply}
use Rattle.secret_change.specs.Secrets.{IsSecret, SecretsState, alone, written_secrets}
use Rattle.secret_change.specs.declared.calls.SetCall.{SetCall}
use Rattle.secret_change.specs.declared.calls.SetReply.{SetReply}
use Rattle.account_table.specs.AccountTable.{AccountTable}
use Rattle.account_table.specs.Changes.{with_hash}
use Rattle.account_table.specs.LookUps.{machine_in}
use Rattle.account_table.specs.Secrets.{secrets_of}
use Rattle.channel_client.specs.declared.answers.Taken.TheVariants as taken
use Rattle.channel_client.specs.declared.caller.Caller.{Caller}
use Rattle.channel_client.specs.declared.state.Question.TheVariants as question
use Rattle.channel_client.specs.declared.state.SetStep.TheVariants as set_step
use Rattle.channel_client.specs.declared.state.Standing.{Standing}
use Rattle.channel_client.specs.declared.state.Standing.TheVariants as standing
use Rattle.channel_client.specs.declared.state.Step.TheVariants as step
use Rattle.channel_client.specs.Machine.{CanSendSet, after, change_call, judge_set, logon_call, offered_flags, server_credential, settle_set, start_of, take_of, wait_for}
use Rattle.channel_client.specs.State.{Requester}
use Rattle.controller_calls.specs.declared.calls.JudgedCall.TheVariants as judged_call
use Rattle.controller_calls.specs.declared.calls.ControllerCall.TheVariants as controller_call
use Rattle.controller_calls.specs.declared.state.Computers.{Computers}
use Rattle.domain_controller.specs.Hearing.{bound_talk}
use Rattle.domain_controller.specs.Machine.{Desk, by_call, controller_server}
use Rattle.domain_controller.specs.Step.{step_of as controller_step_of}
use Rattle.member_server.specs.declared.plan.MemberPlan.{MemberPlan}
use Rattle.member_server.specs.declared.state.Logon.{Logon}
use Rattle.member_server.specs.declared.state.Talk.{Talk}
use Rattle.member_server.specs.Machine.{step_of as member_step_of}
use Rattle.member_server.specs.Turns.{AtTurn, take_by, timestamp_of, turn_server, turn_talk}
use Rattle.logon_steps.specs.Answering.{IsInStep, moved}
use Rattle.logon_steps.specs.Asking.{asking, asking_keeping, info_at}
use Rattle.logon_steps.specs.Calling.{HasShortCaller}
use Rattle.logon_steps.specs.ControllerTurns.{controller_at, turn_link}
use Rattle.logon_steps.specs.MemberTurns.{bind_waits, logons_keeping, member_at, on_turn, plan_with}
use Rattle.logon_steps.specs.Turning.{IsTurnReply, turn_ack, turn_agreed, turn_at, turn_response}

-- ---- the units

-- the request, and the reply to it
abbrev pub set_request : ℕ → SetCall → RpcUnit
set_request number c = request_of number 0 set_opnum (written_set_call c)

abbrev pub set_response : ℕ → SetReply → RpcUnit
set_response number r = response_of number 0 (written_set_reply r)

-- what is sent in reply to the call of that number
abbrev pub set_reply_bytes : ℕ → SetReply → List ℕ
set_reply_bytes number r = bytes_of_call (set_response number r) 5840

-- a call that can be written and read, and that is short
pub record IsSetTurn (c : SetCall) : Type 0 where
  pub sends : CanSendSet c
  pub short : length (written_set_call c) ≤ content_limit

pub record SetUnitsGo : Type 0 where
  -- the call of a channel whose names fit
  pub call : (caller : Caller) (o : SecureChannelState) (timestamp : ℕ) (next : List ℕ) → HasShortCaller caller → timestamp < 2 ^ 32 →
      IsSetTurn (change_call caller o timestamp next)
  -- the call is heard once at the controller, whatever its fragments
  pub heard : (name : List ℕ) (now link number : ℕ) (c : SetCall) (d : Desk) (left : List (List ℕ)) → number < 2 ^ 32 → IsSetTurn c →
      served_cut (controller_server name now link) (cut_stream (bytes_of_call (set_request number c) 5840)) d (bound_talk None turn_agreed) left
      ≡ by_call (controller_call.Judged (judged_call.Set c)) (record { link = link; call = number; context = 0; limit = 5840 }) (bound_talk None turn_agreed) name now d left
  -- at the member the call goes out behind the answer to the bind
  pub ack : (s : Requester) (number place : ℕ) (c : SetCall) →
      take_of (turn_at number place (step.Set (set_step.Bind c)) s) (turn_ack number)
      ≡ record {
        taken = taken.Next tt (frames_of (set_request s.next_call c) 5840);
        state = wait_for (turn_at number place (step.Set (set_step.Bind c)) s) place (step.Set set_step.Reply);
      }
  -- the reply is judged
  pub reply : (s : Requester) (number place : ℕ) (r : SetReply) → InRangeSetReply r →
      take_of (turn_at number place (step.Set set_step.Reply) s) (set_response number r)
      ≡ settle_set (judge_set r s.standing) (turn_at number place (step.Set set_step.Reply) s)
  -- on the link of the turn it is taken once, whatever its fragments
  pub reply_heard : (at : AtTurn) (number : ℕ) (r : SetReply) (left : List (List ℕ)) → number < 2 ^ 32 → InRangeSetReply r →
      served_cut turn_server (cut_stream (set_reply_bytes number r)) at (turn_talk None) left
      ≡ Ok (record { value = take_by (take_of at.work.logons.channel (set_response number r)) None at; left = left })
  -- the frames of a call that are sent are its bytes
  pub frames : (number : ℕ) (c : SetCall) → joined_frames (frames_of (set_request number c) 5840) ≡ bytes_of_call (set_request number c) 5840

-- ---- the end that asks

-- the reply that takes the secret
abbrev pub set_taken : SecureChannelState → ℕ → SetReply
set_taken o timestamp = record { returned = record { credential = return_of (key_of_channel o) o.seed timestamp; timestamp = 0 }; status = 0 }

pub record SecretsAreSet : Type 0 where
  -- on an open channel the next secret is set first
  pub starts : (caller : Caller) (o : SecureChannelState) (info : NetworkInfo) (place number timestamp : ℕ) (next challenge : List ℕ) →
      start_of (asking_keeping caller (standing.Open o) info place number None (Some next)) timestamp challenge ≡ record {
        answer = Some (tt, written (bind_of netlogon_syntax number) ∷ []);
        state = asking_keeping caller (standing.Open (after_call o timestamp)) info place (after number)
            (Some (record { number = number; place = place; step = step.Set (set_step.Bind (change_call caller o timestamp next)) })) (Some next);
      }
  -- the reply is taken: none is next, and the logon waits on
  pub taken : (caller : Caller) (o : SecureChannelState) (info : NetworkInfo) (place number other timestamp : ℕ) (next : Option (List ℕ)) →
      settle_set (judge_set (set_taken o timestamp) (standing.Open (after_call o timestamp)))
      (asking_keeping caller (standing.Open (after_call o timestamp)) info place number (Some (record { number = other; place = place; step = step.Set set_step.Reply })) next)
      ≡ record { taken = taken.Set; state = asking caller (standing.Open (after_return true (after_call o timestamp))) info place number None }

-- ---- a member, whatever secrets it keeps

pub record SetTurnsStep : Type 0 where
  -- the channel opens under the current secret: the turn that sets the next one is dialled
  pub opened : (plan : MemberPlan) (caller : Caller) (info : NetworkInfo) (place next number link now flags : ℕ) (client server current new : List ℕ) (asked : List (ℕ × Logon))
      (links : List (ℕ × LinkState Talk)) (left : List (List ℕ)) → number < 2 ^ 32 → (has_flag offered_flags flags && has_flag flags rc4_flag) ≡ true →
      let secrets : SecretsState = record { current = current; next = Some (record { secret = new; is_tried = false }) } in
      let r : Reply = reply.Authenticate (record { credential = server_credential caller.secret client server; flags = flags; status = 0 }) in
      let o : SecureChannelState = fresh_channel caller.secret client server offered_flags in
      IsTurnReply question.Authenticate r →
      member_step_of (member_at (logons_keeping (plan_with secrets plan) caller (standing.Half client server) info place next number (step.Reply question.Authenticate) asked) links (on_turn link))
      (event.Bytes link (bytes_of_call (turn_response number r) 5840)) now left
      ≡ whole_step left left (action.Close link close.CallDone ∷ action.Dial plan.controller ∷ [])
      (member_at (logons_keeping (plan_with secrets plan) caller (standing.Open (after_call o (timestamp_of now))) info place (after next) next
      (step.Set (set_step.Bind (change_call caller o (timestamp_of now) new))) asked) links (bind_waits next))
  -- the channel opens under the next secret, which has become the current one, and its text is kept
  pub opened_next : (plan : MemberPlan) (caller : Caller) (info : NetworkInfo) (place next number link now flags : ℕ) (client server current new : List ℕ) (asked : List (ℕ × Logon))
      (links : List (ℕ × LinkState Talk)) (left : List (List ℕ)) → number < 2 ^ 32 → (has_flag offered_flags flags && has_flag flags rc4_flag) ≡ true →
      let secrets : SecretsState = record { current = current; next = Some (record { secret = new; is_tried = true }) } in
      let r : Reply = reply.Authenticate (record { credential = server_credential caller.secret client server; flags = flags; status = 0 }) in
      let o : SecureChannelState = fresh_channel caller.secret client server offered_flags in
      IsTurnReply question.Authenticate r →
      member_step_of (member_at (logons_keeping (plan_with secrets plan) caller (standing.Half client server) info place next number (step.Reply question.Authenticate) asked) links (on_turn link))
      (event.Bytes link (bytes_of_call (turn_response number r) 5840)) now left
      ≡ whole_step left left (action.Keep (written_secrets (alone new)) ∷ action.Close link close.CallDone ∷ action.Dial plan.controller ∷ [])
      (member_at (logons_keeping (plan_with (alone new) plan) caller (standing.Open (after_call o (timestamp_of now))) info place (after next) next
      (step.Bind (logon_call caller o (timestamp_of now) (info_at place info))) asked) links (bind_waits next))
  -- the bind of a turn that sets a secret is answered, and the call goes out
  pub bound : (plan : MemberPlan) (caller : Caller) (how : Standing) (info : NetworkInfo) (place next number link now : ℕ) (c : SetCall) (asked : List (ℕ × Logon))
      (links : List (ℕ × LinkState Talk)) (left : List (List ℕ)) → number < 2 ^ 32 →
      member_step_of (member_at (logons_keeping plan caller how info place next number (step.Set (set_step.Bind c)) asked) links (on_turn link)) (event.Bytes link (written (turn_ack number))) now left
      ≡ whole_step left left (action.Send link (bytes_of_call (set_request next c) 5840) ∷ [])
      (member_at (logons_keeping plan caller how info place (after next) next (step.Set set_step.Reply) asked) links (on_turn link))
  -- the secret is set: it is the one secret then, its text is kept, and the logon's own turn is dialled
  pub set : (plan : MemberPlan) (caller : Caller) (o : SecureChannelState) (info : NetworkInfo) (place next number link now timestamp : ℕ) (current new : List ℕ) (asked : List (ℕ × Logon))
      (links : List (ℕ × LinkState Talk)) (left : List (List ℕ)) → number < 2 ^ 32 →
      let secrets : SecretsState = record { current = current; next = Some (record { secret = new; is_tried = false }) } in
      let later : SecureChannelState = after_return true (after_call o timestamp) in
      member_step_of (member_at (logons_keeping (plan_with secrets plan) caller (standing.Open (after_call o timestamp)) info place next number (step.Set set_step.Reply) asked) links (on_turn link))
      (event.Bytes link (set_reply_bytes number (set_taken o timestamp))) now left
      ≡ whole_step left left (action.Keep (written_secrets (alone new)) ∷ action.Close link close.CallDone ∷ action.Dial plan.controller ∷ [])
      (member_at (logons_keeping (plan_with (alone new) plan) caller (standing.Open (after_call later (timestamp_of now))) info place (after next) next
      (step.Bind (logon_call caller later (timestamp_of now) (info_at place info))) asked) links (bind_waits next))

-- ---- the controller

pub record ControllersSet : Type 0 where
  -- The account of the channel is there, and both ends are in step: it has the secret then. The text of all that were
  -- changed is kept.
  pub set : (table : AccountTable) (name : List ℕ) (computers : Computers) (link now number timestamp place : ℕ) (caller : Caller) (o c : SecureChannelState) (new : List ℕ) (left : List (List ℕ)) →
      number < 2 ^ 32 → IsSetTurn (change_call caller o timestamp new) → IsSecret new → lookup same_name caller.computer computers.channels ≡ Some c → IsInStep o c →
      machine_in table.accounts caller.account caller.kind caller.computer ≡ Some place →
      let later : AccountTable = with_hash place new table in
      controller_step_of (controller_at table name computers (turn_link link)) (event.Bytes link (bytes_of_call (set_request number (change_call caller o timestamp new)) 5840)) now left
      ≡ whole_step left left
      (action.Keep (secrets_of later.accounts) ∷ action.Judged (judged.Passed 0) ∷ action.Send link (set_reply_bytes number (set_taken o timestamp)) ∷ [])
      (controller_at later name (record computers {
        channels = put same_name caller.computer (moved c timestamp) (take_out same_name caller.computer computers.channels);
      }) (turn_link link))
