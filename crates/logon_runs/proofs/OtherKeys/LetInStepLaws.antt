-- The steps of a member that lets a client in, with whatever key, and of one on whose link somebody is let in.
-- Of `grants_go_on`.
use Rattle.std.proofs.Common.{◌≡◌, ℕ, ◌<◌, ◌^◌, List, [], ◌∷◌, None, refl, ap, ◌∙◌, Option}
use Rattle.authenticators.specs.SecureChannels.{SecureChannelState}
use Rattle.outside.specs.declared.action.Action.{Action}
use Rattle.outside.specs.declared.action.Action.TheVariants as action
use Rattle.outside.specs.declared.action.CloseCause.TheVariants as close
use Rattle.outside.specs.declared.event.Event.TheVariants as event
use Rattle.outside.specs.Machine.{step_by, whole_step}
use Rattle.rpc_units.specs.Calls.{bytes_of_call}
use Rattle.end_links.specs.Links.{LinkState}
use Rattle.secret_change.specs.Secrets.{next_of}
use Rattle.logon_stubs.specs.declared.calls.Reply.{Reply}
use Rattle.logon_stubs.specs.declared.info.NetworkInfo.{NetworkInfo}
use Rattle.logon_stubs.specs.declared.info.SamInfo.{SamInfo}
use Rattle.logon_stubs.specs.declared.info.Verdict.TheVariants as verdict
use Rattle.channel_client.specs.declared.caller.Caller.{Caller}
use Rattle.channel_client.specs.declared.judging.Judgement.{Judgement}
use Rattle.channel_client.specs.declared.judging.Judgement.TheVariants as judgement
use Rattle.channel_client.specs.declared.state.Question.{Question}
use Rattle.channel_client.specs.declared.state.Standing.{Standing}
use Rattle.channel_client.specs.declared.state.Standing.TheVariants as standing
use Rattle.channel_client.specs.declared.state.Step.TheVariants as step
use Rattle.channel_client.specs.Machine.{after, judge, settle}
use Rattle.channel_client.specs.State.{Requester}
use Rattle.logon_client.specs.declared.plan.ClientPlan.{ClientPlan}
use Rattle.member_server.specs.declared.outcomes.Ending.TheVariants as ending
use Rattle.member_server.specs.declared.plan.MemberPlan.{MemberPlan}
use Rattle.member_server.specs.declared.state.AtLink.{AtLink}
use Rattle.channel_turns.specs.declared.state.Dialling.TheVariants as dialling
use Rattle.member_server.specs.declared.state.LoggedOn.{LoggedOn}
use Rattle.member_server.specs.declared.state.Logon.{Logon}
use Rattle.member_server.specs.declared.state.Logons.{Logons}
use Rattle.member_server.specs.declared.state.Phase.TheVariants as phase
use Rattle.member_server.specs.declared.state.Talk.{Talk}
use Rattle.member_server.specs.declared.state.Work.{Work}
use Rattle.unit_security.specs.Levels.{is_plain}
use Rattle.member_server.specs.Machine.{actions_in, at_turn, halted_state, keep_turn, state_in, step_of}
use Rattle.member_server.specs.Outcomes.{after_served, at_link, outcome_of}
use Rattle.member_server.specs.Requests.{talk_in, unit_in}
use Rattle.member_server.specs.Turns.{AtTurn, next_turn, take_by}
use Rattle.member_server.specs.Units.{serve_held, then_held}
use Rattle.member_server.specs.Work.{Served, drawless, send, shut, stay}
use Rattle.logon_steps.specs.Asking.{asking_keeping, at_rest_keeping}
use Rattle.logon_steps.specs.Meeting.{bound_for}
use Rattle.logon_steps.specs.MemberAnswers.{let_in}
use Rattle.logon_steps.specs.MemberLinks.{asked_talk, logons_resting, one_link}
use Rattle.logon_steps.specs.MemberTurns.{logons_keeping, member_at, on_turn}
use Rattle.logon_steps.specs.Turning.{IsTurnReply, turn_response}
use Rattle.logon_steps.proofs.MemberLinkLaws.{link_serves}
use Rattle.logon_steps.proofs.MemberTurnLaws.{replied_by}
use Rattle.logon_runs.specs.OtherKeys.Differing.{IsReplied, IsRequest, IsShut, single_unit}
use Rattle.logon_runs.proofs.Failing.FailingStepLaws.{ended_work, waiting_work}
use Rattle.rpc_units.specs.declared.unit.Body.TheVariants.{Request}

-- ---- the turn's reply

-- by what the held request comes to
granted_served : (plan : MemberPlan) (caller : Caller) (how : Standing) (o : SecureChannelState) (info : NetworkInfo) (place next number turn now : ℕ) (q : Question) (r : Reply) (sam : SamInfo) (logon : Logon)
    (task : ClientPlan) (bytes : List ℕ) (served : Served) (left : List (List ℕ)) → number < 2 ^ 32 → IsTurnReply q r → judge q r how caller.secret ≡ judgement.Answer o (verdict.Granted sam) →
    let told : List Action = action.Close turn close.CallDone ∷ action.Told logon.link (outcome_of (ending.Granted sam) logon) ∷ [] in
    let alone : Work = waiting_work plan (at_rest_keeping caller (standing.Open o) (after place) next (next_of plan.secrets)) [] [] told in
    let on : LoggedOn = let_in task sam logon in
    unit_in (is_plain on.bound.level) bytes on None (at_link logon.link alone) ≡ served →
    step_of (member_at (logons_keeping plan caller how info place next number (step.Reply q) ((place, logon) ∷ [])) (one_link logon.link (asked_talk (bound_for task) place (bytes ∷ [])))
    (on_turn turn)) (event.Bytes turn (bytes_of_call (turn_response number r) 5840)) now left
    ≡ step_by actions_in state_in halted_state left
    (next_turn now (after_served (then_held served (λ at said. serve_held [] at said)) [] logon.link alone, dialling.Nothing) left)
granted_served plan caller how o info place next number turn now q r sam logon task bytes served left below is granted comes =
    let links : List (ℕ × LinkState Talk) = one_link logon.link (asked_talk (bound_for task) place (bytes ∷ [])) in
    let logons : Logons = logons_keeping plan caller how info place next number (step.Reply q) ((place, logon) ∷ []) in
    let at : AtTurn = at_turn turn (record { logons = logons; links = links; actions = [] }) in
    let rest : Requester = at_rest_keeping caller (standing.Open o) (after place) next (next_of plan.secrets) in
    let alone : Work = waiting_work plan rest [] [] (action.Close turn close.CallDone ∷ action.Told logon.link (outcome_of (ending.Granted sam) logon) ∷ []) in
    replied_by plan (asking_keeping caller how info place next None (next_of plan.secrets)) ((place, logon) ∷ []) number place turn now q r links left below is
    ∙ ap (λ (j : Judgement). step_by actions_in state_in halted_state left
    (next_turn now ((take_by (settle j logons.channel) None at).0.work, keep_turn (take_by (settle j logons.channel) None at).1 [] turn) left)) granted
    ∙ ap (λ (work : Work). step_by actions_in state_in halted_state left (next_turn now (work, dialling.Nothing) left))
    (ended_work plan rest task (ending.Granted sam) logon place (phase.In (let_in task sam logon)) (bytes ∷ []) (action.Close turn close.CallDone ∷ []) refl)
    ∙ ap (λ (what : Served). step_by actions_in state_in halted_state left
    (next_turn now (after_served (then_held what (λ next_at said. serve_held [] next_at said)) [] logon.link alone, dialling.Nothing) left)) comes

-- the member tells that he is in, and answers what is held
pub granted_replies : (plan : MemberPlan) (caller : Caller) (how : Standing) (o : SecureChannelState) (info : NetworkInfo) (place next number turn now : ℕ) (q : Question) (r : Reply) (sam : SamInfo) (logon : Logon)
    (task : ClientPlan) (sent : ℕ) (bytes : List ℕ) (left : List (List ℕ)) → number < 2 ^ 32 → IsTurnReply q r → judge q r how caller.secret ≡ judgement.Answer o (verdict.Granted sam) →
    (is : IsReplied task sent (let_in task sam logon) bytes) →
    step_of (member_at (logons_keeping plan caller how info place next number (step.Reply q) ((place, logon) ∷ [])) (one_link logon.link (asked_talk (bound_for task) place (bytes ∷ [])))
    (on_turn turn)) (event.Bytes turn (bytes_of_call (turn_response number r) 5840)) now left
    ≡ whole_step left left (action.Close turn close.CallDone ∷ action.Told logon.link (outcome_of (ending.Granted sam) logon) ∷ action.Send logon.link is.reply ∷ [])
    (member_at (logons_resting plan caller (next_of plan.secrets) (standing.Open o) (after place) next) (one_link logon.link (talk_in None is.later)) dialling.Nothing)
granted_replies plan caller how o info place next number turn now q r sam logon task sent bytes left below reply_is granted is =
    granted_served plan caller how o info place next number turn now q r sam logon task bytes _ left below reply_is granted (is.replies _)

-- the member tells that he is in, and closes the link
pub granted_shuts : (plan : MemberPlan) (caller : Caller) (how : Standing) (o : SecureChannelState) (info : NetworkInfo) (place next number turn now : ℕ) (q : Question) (r : Reply) (sam : SamInfo) (logon : Logon)
    (task : ClientPlan) (bytes : List ℕ) (left : List (List ℕ)) → number < 2 ^ 32 → IsTurnReply q r → judge q r how caller.secret ≡ judgement.Answer o (verdict.Granted sam) →
    (is : IsShut (let_in task sam logon) bytes) →
    step_of (member_at (logons_keeping plan caller how info place next number (step.Reply q) ((place, logon) ∷ [])) (one_link logon.link (asked_talk (bound_for task) place (bytes ∷ [])))
    (on_turn turn)) (event.Bytes turn (bytes_of_call (turn_response number r) 5840)) now left
    ≡ whole_step left left (action.Close turn close.CallDone ∷ action.Told logon.link (outcome_of (ending.Granted sam) logon) ∷ action.Close logon.link is.cause ∷ [])
    (member_at (logons_resting plan caller (next_of plan.secrets) (standing.Open o) (after place) next) [] dialling.Nothing)
granted_shuts plan caller how o info place next number turn now q r sam logon task bytes left below reply_is granted is =
    granted_served plan caller how o info place next number turn now q r sam logon task bytes _ left below reply_is granted (is.shuts _)

-- ---- a request comes where somebody is let in

pub let_in_replies : (plan : MemberPlan) (caller : Caller) (kept : Option (List ℕ)) (how : Standing) (place number link now call opnum : ℕ) (task : ClientPlan) (sent : ℕ) (on : LoggedOn) (bytes : List ℕ) (left : List (List ℕ)) →
    IsRequest call opnum bytes → (is : IsReplied task sent on bytes) →
    step_of (member_at (logons_resting plan caller kept how place number) (one_link link (talk_in None on)) dialling.Nothing) (event.Bytes link bytes) now left
    ≡ whole_step left left (action.Send link is.reply ∷ [])
    (member_at (logons_resting plan caller kept how place number) (one_link link (talk_in None is.later)) dialling.Nothing)
let_in_replies plan caller kept how place number link now call opnum task sent on bytes left request is =
    let logons : Logons = logons_resting plan caller kept how place number in
    let at : AtLink = record { link = link; logons = logons; actions = [] } in
    link_serves logons dialling.Nothing link now (talk_in None on) bytes (single_unit call (Request request.hint 0 opnum request.stub) request.trailer) left
    (drawless (stay (send at is.reply) (talk_in None is.later)) left) tt request.read (ap (λ (s : Served). drawless s left) (is.replies at))

pub let_in_shuts : (plan : MemberPlan) (caller : Caller) (kept : Option (List ℕ)) (how : Standing) (place number link now call opnum : ℕ) (on : LoggedOn) (bytes : List ℕ) (left : List (List ℕ)) →
    IsRequest call opnum bytes → (is : IsShut on bytes) →
    step_of (member_at (logons_resting plan caller kept how place number) (one_link link (talk_in None on)) dialling.Nothing) (event.Bytes link bytes) now left
    ≡ whole_step left left (action.Close link is.cause ∷ []) (member_at (logons_resting plan caller kept how place number) [] dialling.Nothing)
let_in_shuts plan caller kept how place number link now call opnum on bytes left request is =
    let logons : Logons = logons_resting plan caller kept how place number in
    let at : AtLink = record { link = link; logons = logons; actions = [] } in
    link_serves logons dialling.Nothing link now (talk_in None on) bytes (single_unit call (Request request.hint 0 opnum request.stub) request.trailer) left
    (drawless (shut is.cause at) left) tt request.read (ap (λ (s : Served). drawless s left) (is.shuts at))
