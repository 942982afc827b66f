-- The steps of a member and a client where a logon fails: its dial or its turn fails, or the controller refuses it, and
-- WhoAmI is answered with a fault (MS-NRPC 3.1.4; C706 12.6.4.7; the statuses are this project's own choice).
use Rattle.std.specs.Prelude.{ℕ, ◌≡◌, ◌<◌, ◌^◌, ◌==◌, List, [], ◌∷◌, Option, None, Err}
use Rattle.authenticators.specs.SecureChannels.{SecureChannelState}
use Rattle.ntlm_seal.specs.Sessions.{SessionState}
use Rattle.outside.specs.declared.action.Action.TheVariants as action
use Rattle.outside.specs.declared.action.CloseCause.TheVariants as close
use Rattle.outside.specs.declared.action.DropCause.{DropCause}
use Rattle.outside.specs.declared.action.DropCause.TheVariants as drop_cause
use Rattle.outside.specs.declared.action.Outcome.TheVariants as outcome
use Rattle.outside.specs.declared.event.Event.TheVariants as event
use Rattle.outside.specs.Machine.{whole_step}
use Rattle.rpc_units.specs.Calls.{bytes_of_call}
use Rattle.rpc_units.specs.Numbers.{error_access_denied, rpc_s_server_unavailable}
use Rattle.rpc_units.specs.Writing.{written}
use Rattle.end_links.specs.Sending.{fault_of}
use Rattle.logon_stubs.specs.declared.calls.Reply.{Reply}
use Rattle.logon_stubs.specs.declared.info.NetworkInfo.{NetworkInfo}
use Rattle.logon_stubs.specs.declared.info.Verdict.TheVariants as verdict
use Rattle.secret_change.specs.Ranges.{InRangeSetReply}
use Rattle.secret_change.specs.Secrets.{next_of}
use Rattle.secret_change.specs.declared.calls.SetReply.{SetReply}
use Rattle.channel_client.specs.declared.caller.Caller.{Caller}
use Rattle.channel_client.specs.declared.judging.Judgement.TheVariants as judgement
use Rattle.channel_client.specs.declared.state.Question.{Question}
use Rattle.channel_client.specs.declared.state.Standing.{Standing}
use Rattle.channel_client.specs.declared.state.Standing.TheVariants as standing
use Rattle.channel_client.specs.declared.state.Step.{Step}
use Rattle.channel_client.specs.declared.state.Step.TheVariants as step
use Rattle.channel_client.specs.declared.state.SetStep.TheVariants as set_step
use Rattle.channel_client.specs.Machine.{after, judge, judge_set}
use Rattle.logon_client.specs.declared.plan.ClientPlan.{ClientPlan}
use Rattle.logon_client.specs.declared.state.Phase.TheVariants as client_phase
use Rattle.logon_client.specs.declared.state.Question.TheVariants as client_question
use Rattle.logon_client.specs.declared.state.Terms.{Terms}
use Rattle.logon_client.specs.Machine.{fault_outcome, step_of as client_step_of}
use Rattle.member_server.specs.declared.plan.MemberPlan.{MemberPlan}
use Rattle.channel_turns.specs.declared.state.Dialling.TheVariants as dialling
use Rattle.member_server.specs.declared.state.Logon.{Logon}
use Rattle.member_server.specs.declared.state.Phase.TheVariants as phase
use Rattle.member_server.specs.declared.state.Talk.{Talk}
use Rattle.member_server.specs.Machine.{step_of as member_step_of}
use Rattle.member_server.specs.Secrets.{is_denied, secrets_dropped}
use Rattle.logon_steps.specs.ClientSteps.{client_at, client_ended, on_link}
use Rattle.logon_steps.specs.Meeting.{bound_for}
use Rattle.logon_steps.specs.MemberLinks.{asked_talk, logons_resting, one_link}
use Rattle.logon_steps.specs.MemberTurns.{bind_waits, logons_keeping, member_at, on_turn, plan_with}
use Rattle.logon_steps.specs.MemoCalls.{RequestGoes}
use Rattle.logon_steps.specs.SetTurns.{set_reply_bytes}
use Rattle.logon_steps.specs.Turning.{IsTurnReply, turn_response}

-- nobody is let in on the link, and each request is answered with that status
abbrev pub out_talk : ClientPlan → ℕ → Talk
out_talk task status = record { joiner = None; phase = phase.Out (bound_for task) status }

-- the fault that answers WhoAmI
abbrev pub who_fault : ℕ → List ℕ
who_fault status = written (fault_of 2 0 status)

pub record FailingsStep : Type 0 where
  -- The turn's reply is dropped, and the channel with it: no controller answers the logon. Where it was denied, the
  -- member tries its other secret next, if it keeps two.
  pub drops : (plan : MemberPlan) (caller : Caller) (how : Standing) (info : NetworkInfo) (place next number turn now most : ℕ) (q : Question) (r : Reply) (cause : DropCause) (logon : Logon)
      (task : ClientPlan) (one other : Option SessionState) (left : List (List ℕ)) → number < 2 ^ 32 → IsTurnReply q r → judge q r how caller.secret ≡ judgement.Drop cause →
      (who : RequestGoes most task.level 2 0 [] one other) →
      member_step_of (member_at (logons_keeping plan caller how info place next number (step.Reply q) ((place, logon) ∷ [])) (one_link logon.link (asked_talk (bound_for task) place (who.sent ∷ [])))
      (on_turn turn)) (event.Bytes turn (bytes_of_call (turn_response number r) 5840)) now left
      ≡ whole_step left left
      (action.Close turn close.CallDone ∷ action.Told logon.link (outcome.NoController cause) ∷ action.Send logon.link (who_fault rpc_s_server_unavailable) ∷ [])
      (member_at (logons_resting (plan_with (secrets_dropped (is_denied cause) plan.secrets) plan) caller (next_of plan.secrets) standing.Nothing (after place) next)
      (one_link logon.link (out_talk task rpc_s_server_unavailable)) dialling.Nothing)
  -- the turn that sets the next secret is dropped so
  pub set_drops : (plan : MemberPlan) (caller : Caller) (how : Standing) (info : NetworkInfo) (place next number turn now most : ℕ) (r : SetReply) (cause : DropCause) (logon : Logon)
      (task : ClientPlan) (one other : Option SessionState) (left : List (List ℕ)) → number < 2 ^ 32 → InRangeSetReply r → judge_set r how ≡ Err cause →
      (who : RequestGoes most task.level 2 0 [] one other) →
      member_step_of (member_at (logons_keeping plan caller how info place next number (step.Set set_step.Reply) ((place, logon) ∷ [])) (one_link logon.link (asked_talk (bound_for task) place (who.sent ∷ [])))
      (on_turn turn)) (event.Bytes turn (set_reply_bytes number r)) now left
      ≡ whole_step left left
      (action.Close turn close.CallDone ∷ action.Told logon.link (outcome.NoController cause) ∷ action.Send logon.link (who_fault rpc_s_server_unavailable) ∷ [])
      (member_at (logons_resting (plan_with (secrets_dropped (is_denied cause) plan.secrets) plan) caller (next_of plan.secrets) standing.Nothing (after place) next)
      (one_link logon.link (out_talk task rpc_s_server_unavailable)) dialling.Nothing)
  -- the controller refuses it with a status, and the channel stands on
  pub refuses : (plan : MemberPlan) (caller : Caller) (how : Standing) (o : SecureChannelState) (info : NetworkInfo) (place next number turn now most status : ℕ) (q : Question) (r : Reply) (logon : Logon)
      (task : ClientPlan) (one other : Option SessionState) (left : List (List ℕ)) → number < 2 ^ 32 → IsTurnReply q r →
      judge q r how caller.secret ≡ judgement.Answer o (verdict.Status status) → (who : RequestGoes most task.level 2 0 [] one other) →
      member_step_of (member_at (logons_keeping plan caller how info place next number (step.Reply q) ((place, logon) ∷ [])) (one_link logon.link (asked_talk (bound_for task) place (who.sent ∷ [])))
      (on_turn turn)) (event.Bytes turn (bytes_of_call (turn_response number r) 5840)) now left
      ≡ whole_step left left
      (action.Close turn close.CallDone ∷ action.Told logon.link (outcome.Out status) ∷ action.Send logon.link (who_fault error_access_denied) ∷ [])
      (member_at (logons_resting plan caller (next_of plan.secrets) (standing.Open o) (after place) next) (one_link logon.link (out_talk task error_access_denied)) dialling.Nothing)
  -- the turn's dial fails, before WhoAmI is held or once it is
  pub dial_fails : (plan : MemberPlan) (caller : Caller) (how : Standing) (info : NetworkInfo) (place next number now : ℕ) (what : Step) (logon : Logon) (task : ClientPlan) (left : List (List ℕ)) →
      member_step_of (member_at (logons_keeping plan caller how info place next number what ((place, logon) ∷ [])) (one_link logon.link (asked_talk (bound_for task) place []))
      (bind_waits number)) event.DialFailed now left
      ≡ whole_step left left (action.Told logon.link (outcome.NoController drop_cause.DialFailed) ∷ [])
      (member_at (logons_resting plan caller (next_of plan.secrets) standing.Nothing (after place) next) (one_link logon.link (out_talk task rpc_s_server_unavailable)) dialling.Nothing)
  pub dial_fails_held : (plan : MemberPlan) (caller : Caller) (how : Standing) (info : NetworkInfo) (place next number now most : ℕ) (what : Step) (logon : Logon) (task : ClientPlan)
      (one other : Option SessionState) (left : List (List ℕ)) → (who : RequestGoes most task.level 2 0 [] one other) →
      member_step_of (member_at (logons_keeping plan caller how info place next number what ((place, logon) ∷ [])) (one_link logon.link (asked_talk (bound_for task) place (who.sent ∷ [])))
      (bind_waits number)) event.DialFailed now left
      ≡ whole_step left left
      (action.Told logon.link (outcome.NoController drop_cause.DialFailed) ∷ action.Send logon.link (who_fault rpc_s_server_unavailable) ∷ [])
      (member_at (logons_resting plan caller (next_of plan.secrets) standing.Nothing (after place) next) (one_link logon.link (out_talk task rpc_s_server_unavailable)) dialling.Nothing)
  -- WhoAmI comes where nobody is let in
  pub faults : (plan : MemberPlan) (caller : Caller) (kept : Option (List ℕ)) (how : Standing) (place number link now most status : ℕ) (task : ClientPlan) (one other : Option SessionState) (left : List (List ℕ)) →
      (who : RequestGoes most task.level 2 0 [] one other) →
      member_step_of (member_at (logons_resting plan caller kept how place number) (one_link link (out_talk task status)) dialling.Nothing) (event.Bytes link who.sent) now left
      ≡ whole_step left left (action.Send link (who_fault status) ∷ [])
      (member_at (logons_resting plan caller kept how place number) (one_link link (out_talk task status)) dialling.Nothing)
  -- the client hears the fault: it has its outcome, and closes the link
  pub faulted : (task : ClientPlan) (terms : Terms) (link now status : ℕ) (left : List (List ℕ)) → status < 2 ^ 32 →
      client_step_of (client_at task (on_link link (client_phase.Asked terms client_question.Who))) (event.Bytes link (who_fault status)) now left
      ≡ whole_step left left (action.Close link close.CallDone ∷ []) (client_ended task (fault_outcome (status == rpc_s_server_unavailable) status))
