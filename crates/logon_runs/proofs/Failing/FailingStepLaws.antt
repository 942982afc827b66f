-- The steps of a member and a client where a logon fails.
-- Of `failings_step`.
use Rattle.std.proofs.Common.{◌≡◌, ℕ, ◌<◌, ◌^◌, Bool, List, [], ◌∷◌, ◌++◌, Option, Some, None, Result, refl, sym, ap, subst, ◌∙◌, arith, if◌then◌else◌, true, false}
use Rattle.std.specs.Option.{option_map}
use Rattle.ntlm_seal.specs.Sessions.{SessionState}
use Rattle.outside.specs.declared.action.Action.{Action}
use Rattle.outside.specs.declared.action.Action.TheVariants as action
use Rattle.outside.specs.declared.action.CloseCause.TheVariants as close
use Rattle.outside.specs.declared.action.DropCause.TheVariants as drop_cause
use Rattle.outside.specs.Machine.{step_by}
use Rattle.rpc_units.specs.declared.unit.Body.{Body}
use Rattle.rpc_units.specs.declared.unit.Unit.{Unit as RpcUnit}
use Rattle.rpc_units.specs.declared.refused.UnitRefused.{UnitRefused}
use Rattle.rpc_units.specs.Numbers.{error_access_denied, rpc_s_server_unavailable}
use Rattle.rpc_units.specs.Reading.{unit_of}
use Rattle.rpc_units.specs.Writing.{IsSendable}
use Rattle.rpc_units.proofs.ShortLaws.{written_short}
use Rattle.end_links.specs.Links.{LinkState}
use Rattle.end_links.specs.Sending.{fault_of}
use Rattle.channel_client.specs.declared.judging.Judgement.{Judgement}
use Rattle.channel_client.specs.declared.state.Standing.TheVariants as standing
use Rattle.channel_client.specs.declared.state.Step.TheVariants as step
use Rattle.channel_client.specs.declared.state.SetStep.TheVariants as set_step
use Rattle.channel_client.specs.Machine.{SetOutcome, after, settle, settle_set}
use Rattle.channel_client.specs.State.{Requester}
use Rattle.secret_change.specs.declared.secrets.Next.{Next}
use Rattle.logon_client.specs.declared.plan.ClientPlan.{ClientPlan}
use Rattle.logon_client.specs.declared.state.Phase.TheVariants as client_phase
use Rattle.logon_client.specs.declared.state.Question.TheVariants as client_question
use Rattle.logon_client.specs.Machine as client
use Rattle.member_server.specs.declared.plan.MemberPlan.{MemberPlan}
use Rattle.member_server.specs.declared.outcomes.Ending.{Ending}
use Rattle.member_server.specs.declared.outcomes.Ending.TheVariants as ending
use Rattle.member_server.specs.declared.state.AtLink.{AtLink}
use Rattle.channel_turns.specs.declared.state.Dialling.TheVariants as dialling
use Rattle.member_server.specs.declared.state.Logon.{Logon}
use Rattle.member_server.specs.declared.state.Logons.{Logons}
use Rattle.member_server.specs.declared.state.Phase.{Phase}
use Rattle.member_server.specs.declared.state.Phase.TheVariants as phase
use Rattle.member_server.specs.declared.state.Talk.{Talk}
use Rattle.member_server.specs.declared.state.Work.{Work}
use Rattle.member_server.specs.Machine.{actions_in, at_turn, halted_state, keep_turn, state_in}
use Rattle.member_server.specs.Outcomes.{after_served, at_link, end_found, end_logon, outcome_of, phase_after, reach_link, reach_in_map, reach_waiting, waiting_if}
use Rattle.member_server.specs.Requests.{body_out, unit_out}
use Rattle.member_server.specs.Secrets.{SecretsState, is_denied, secrets_dropped}
use Rattle.secret_change.specs.Secrets.{IsNextSecret, denied_by, next_of}
use Rattle.member_server.specs.Turns.{AtTurn, next_turn, take_by}
use Rattle.member_server.specs.Units.{serve_held, then_held}
use Rattle.member_server.specs.Work.{Served, drawless, send_unit, stay}
use Rattle.logon_steps.specs.Asking.{asking_keeping, at_rest_keeping}
use Rattle.logon_steps.specs.Meeting.{bound_for}
use Rattle.logon_steps.specs.MemberLinks.{asked_talk, logons_resting, one_link}
use Rattle.logon_steps.specs.MemberTurns.{logons_keeping, plan_with}
use Rattle.logon_steps.specs.MemoCalls.{RequestGoes}
use Rattle.logon_steps.proofs.ClientStepLaws.{link_hears}
use Rattle.logon_steps.proofs.MemberLinkLaws.{link_serves}
use Rattle.logon_steps.proofs.MemberTurnLaws.{replied_by}
use Rattle.logon_steps.proofs.SetTurnLaws.{set_replied}
use Rattle.logon_steps.proofs.StreamLaws.{read_again, same}
use Rattle.logon_steps.specs.Turning.{turn_at}
use Rattle.logon_runs.specs.Failing.FailingSteps.{FailingsStep, out_talk, who_fault}

-- ---- WhoAmI is answered with a fault

who_faulted : (task : ClientPlan) (at : AtLink) (most status : ℕ) (one other : Option SessionState) (who : RequestGoes most task.level 2 0 [] one other) →
    unit_out (unit_of who.sent) (bound_for task) status None at ≡ stay (send_unit at (fault_of 2 0 status)) (out_talk task status)
who_faulted task at most status one other who =
    ap (λ (unit : Result RpcUnit UnitRefused). unit_out unit (bound_for task) status None at) who.read
    ∙ ap (λ (body : Body). body_out body who.unit.call (bound_for task) status None at) (sym who.body)
    ∙ ap (λ (call : ℕ). stay (send_unit at (fault_of call 0 status)) (out_talk task status)) who.call

-- ---- the logon of the one link that waits ends

abbrev pub waiting_work : MemberPlan → Requester → List (ℕ × Logon) → List (ℕ × LinkState Talk) → List Action → Work
waiting_work plan channel asked links actions = record { logons = record { plan = plan; channel = channel; asked = asked }; links = links; actions = actions }

-- the work once the outcome is told, where that is how far the link then is, and what is held is answered
pub ended_work : (plan : MemberPlan) (channel : Requester) (task : ClientPlan) (how : Ending) (logon : Logon) (place : ℕ) (far : Phase) (held : List (List ℕ)) (first : List Action) →
    phase_after how logon (bound_for task) ≡ far →
    end_logon place how (waiting_work plan channel ((place, logon) ∷ []) (one_link logon.link (asked_talk (bound_for task) place held)) first)
    ≡ after_served (serve_held held (at_link logon.link (waiting_work plan channel [] [] (first ++ action.Told logon.link (outcome_of how logon) ∷ []))) (record { joiner = None; phase = far }))
    [] logon.link (waiting_work plan channel [] [] (first ++ action.Told logon.link (outcome_of how logon) ∷ []))
ended_work plan channel task how logon place far held first is =
    let links : List (ℕ × LinkState Talk) = one_link logon.link (asked_talk (bound_for task) place held) in
    let here : LinkState Talk = record { rest = []; talk = asked_talk (bound_for task) place held } in
    let told : List Action = first ++ action.Told logon.link (outcome_of how logon) ∷ [] in
    let alone : Work = waiting_work plan channel [] [] told in
    ap (λ (f : Bool). end_found (if f then Some logon else None) place how (waiting_work plan channel (if f then [] else (place, logon) ∷ []) links first)) (same place)
    ∙ ap (λ (f : Bool). reach_link (if f then Some here else None) place how logon (waiting_work plan channel [] links told)) (same logon.link)
    ∙ ap (λ (f : Bool). reach_in_map (waiting_if f (bound_for task) held) here how logon (waiting_work plan channel [] links told)) (same place)
    ∙ ap (λ (f : Bool). reach_waiting (bound_for task, held) here how logon (waiting_work plan channel [] (if f then [] else links) told)) (same logon.link)
    ∙ ap (λ (p : Phase). after_served (serve_held held (at_link logon.link alone) (record { joiner = None; phase = p })) [] logon.link alone) is

held_work : (plan : MemberPlan) (channel : Requester) (task : ClientPlan) (how : Ending) (logon : Logon) (place status most : ℕ) (one other : Option SessionState) (first : List Action) →
    (who : RequestGoes most task.level 2 0 [] one other) → phase_after how logon (bound_for task) ≡ phase.Out (bound_for task) status →
    end_logon place how (waiting_work plan channel ((place, logon) ∷ []) (one_link logon.link (asked_talk (bound_for task) place (who.sent ∷ []))) first)
    ≡ waiting_work plan channel [] (one_link logon.link (out_talk task status))
    ((first ++ action.Told logon.link (outcome_of how logon) ∷ []) ++ action.Send logon.link (who_fault status) ∷ [])
held_work plan channel task how logon place status most one other first who out =
    let alone : Work = waiting_work plan channel [] [] (first ++ action.Told logon.link (outcome_of how logon) ∷ []) in
    ended_work plan channel task how logon place (phase.Out (bound_for task) status) (who.sent ∷ []) first out
    ∙ ap (λ (served : Served). after_served (then_held served (λ next said. serve_held [] next said)) [] logon.link alone)
    (who_faulted task (at_link logon.link alone) most status one other who)

-- a member with one secret keeps it, whyever its turn is dropped
pub dropped_one : (denied : Bool) (secrets : SecretsState) → secrets.next ≡ None → secrets_dropped denied secrets ≡ secrets
dropped_one false secrets one = refl
dropped_one true secrets one = ap (λ (next : Option Next). denied_by next secrets) one

-- a denied opening leaves the next secret
next_denied : (next : Option Next) (secrets : SecretsState) → secrets.next ≡ next → next_of secrets ≡ next_of (denied_by next secrets)
next_denied None secrets is = refl
next_denied (Some n) secrets is = ap (option_map (λ (one : Next). one.secret)) is

pub next_dropped : (denied : Bool) (secrets : SecretsState) → next_of secrets ≡ next_of (secrets_dropped denied secrets)
next_dropped false secrets = refl
next_dropped true secrets = next_denied secrets.next secrets refl

form_denied : (next : Option Next) (secrets : SecretsState) → secrets.next ≡ next → IsNextSecret secrets.next → IsNextSecret (denied_by next secrets).next
form_denied None secrets is form = form
form_denied (Some n) secrets is form = subst IsNextSecret is form

pub form_dropped : (denied : Bool) (secrets : SecretsState) → IsNextSecret secrets.next → IsNextSecret (secrets_dropped denied secrets).next
form_dropped false secrets form = form
form_dropped true secrets form = form_denied secrets.next secrets refl form

-- ---- a fault can be sent

pub fault_sends : (call status : ℕ) → call < 2 ^ 32 → status < 2 ^ 32 → IsSendable (fault_of call 0 status)
fault_sends call status below known = record {
  writable = record { pieces = (refl, refl); counts = tt; value = tt };
  range = record { call = below; body = (omega arith, omega arith, known); trailer = tt };
  short = written_short (fault_of call 0 status) refl tt;
}

pub failings_step : FailingsStep
failings_step = record {
  drops = λ plan caller how info place next number turn now most q r cause logon task one other left below is dropped who.
      let logons : Logons = logons_keeping plan caller how info place next number (step.Reply q) ((place, logon) ∷ []) in
      let links : List (ℕ × LinkState Talk) = one_link logon.link (asked_talk (bound_for task) place (who.sent ∷ [])) in
      let at : AtTurn = at_turn turn (record { logons = logons; links = links; actions = [] }) in
      replied_by plan (asking_keeping caller how info place next None (next_of plan.secrets)) ((place, logon) ∷ []) number place turn now q r links left below is
      ∙ ap (λ (j : Judgement). step_by actions_in state_in halted_state left
      (next_turn now ((take_by (settle j logons.channel) None at).0.work, keep_turn (take_by (settle j logons.channel) None at).1 [] turn) left)) dropped
      ∙ ap (λ (work : Work). step_by actions_in state_in halted_state left (next_turn now (work, dialling.Nothing) left))
      (held_work (plan_with (secrets_dropped (is_denied cause) plan.secrets) plan) (at_rest_keeping caller standing.Nothing (after place) next (next_of plan.secrets)) task (ending.NoController cause) logon
      place rpc_s_server_unavailable most one other (action.Close turn close.CallDone ∷ []) who refl);
  set_drops = λ plan caller how info place next number turn now most r cause logon task one other left below is dropped who.
      let kept : Option (List ℕ) = next_of plan.secrets in
      let s : Requester = asking_keeping caller how info place next None kept in
      let channel : Requester = turn_at number place (step.Set set_step.Reply) s in
      let links : List (ℕ × LinkState Talk) = one_link logon.link (asked_talk (bound_for task) place (who.sent ∷ [])) in
      let at : AtTurn = at_turn turn (record { logons = record { plan = plan; channel = channel; asked = (place, logon) ∷ [] }; links = links; actions = [] }) in
      set_replied plan s ((place, logon) ∷ []) number place turn now r links left below is
      ∙ ap (λ (j : SetOutcome). step_by actions_in state_in halted_state left
      (next_turn now ((take_by (settle_set j channel) None at).0.work, keep_turn (take_by (settle_set j channel) None at).1 [] turn) left)) dropped
      ∙ ap (λ (work : Work). step_by actions_in state_in halted_state left (next_turn now (work, dialling.Nothing) left))
      (held_work (plan_with (secrets_dropped (is_denied cause) plan.secrets) plan) (at_rest_keeping caller standing.Nothing (after place) next kept) task (ending.NoController cause) logon place
      rpc_s_server_unavailable most one other (action.Close turn close.CallDone ∷ []) who refl);
  refuses = λ plan caller how o info place next number turn now most status q r logon task one other left below is answered who.
      let logons : Logons = logons_keeping plan caller how info place next number (step.Reply q) ((place, logon) ∷ []) in
      let links : List (ℕ × LinkState Talk) = one_link logon.link (asked_talk (bound_for task) place (who.sent ∷ [])) in
      let at : AtTurn = at_turn turn (record { logons = logons; links = links; actions = [] }) in
      replied_by plan (asking_keeping caller how info place next None (next_of plan.secrets)) ((place, logon) ∷ []) number place turn now q r links left below is
      ∙ ap (λ (j : Judgement). step_by actions_in state_in halted_state left
      (next_turn now ((take_by (settle j logons.channel) None at).0.work, keep_turn (take_by (settle j logons.channel) None at).1 [] turn) left)) answered
      ∙ ap (λ (work : Work). step_by actions_in state_in halted_state left (next_turn now (work, dialling.Nothing) left))
      (held_work plan (at_rest_keeping caller (standing.Open o) (after place) next (next_of plan.secrets)) task (ending.Refused status) logon place error_access_denied most one other
      (action.Close turn close.CallDone ∷ []) who refl);
  dial_fails = λ plan caller how info place next number now what logon task left.
      ap (λ (work : Work). step_by actions_in state_in halted_state left (next_turn now (work, dialling.Nothing) left))
      (ended_work plan (at_rest_keeping caller standing.Nothing (after place) next (next_of plan.secrets)) task (ending.NoController drop_cause.DialFailed) logon place
      (phase.Out (bound_for task) rpc_s_server_unavailable) [] [] refl);
  dial_fails_held = λ plan caller how info place next number now most what logon task one other left who.
      ap (λ (work : Work). step_by actions_in state_in halted_state left (next_turn now (work, dialling.Nothing) left))
      (held_work plan (at_rest_keeping caller standing.Nothing (after place) next (next_of plan.secrets)) task (ending.NoController drop_cause.DialFailed) logon place rpc_s_server_unavailable most one other [] who refl);
  faults = λ plan caller kept how place number link now most status task one other left who.
      let logons : Logons = logons_resting plan caller kept how place number in
      let at : AtLink = record { link = link; logons = logons; actions = [] } in
      link_serves logons dialling.Nothing link now (out_talk task status) who.sent who.unit left
      (drawless (stay (send_unit at (fault_of 2 0 status)) (out_talk task status)) left) tt who.read
      (ap (λ (s : Served). drawless s left) (who_faulted task at most status one other who));
  faulted = λ task terms link now status left known.
      link_hears task link now (client_phase.Asked terms client_question.Who) (who_fault status) (fault_of 2 0 status) left _ (read_again (fault_of 2 0 status) (fault_sends 2 status (omega arith) known))
      (ap (λ (unit : Result RpcUnit UnitRefused). client.serve_heard (client.hear_unit unit (who_fault status) (client.talk_on link None (client_phase.Asked terms client_question.Who)) (client.work_of task now)) left)
      (read_again (fault_of 2 0 status) (fault_sends 2 status (omega arith) known)));
}
