-- A logon that is granted at a member server, and the calls under it.
-- Of `logons_end`.
use Rattle.std.proofs.Common.{◌≡◌, ℕ, ◌≤◌, ◌+◌, Bool, true, List, [], ◌∷◌, length, Option, Some, None, Result, Ok, refl, ap, ◌∙◌, if◌then◌else◌}
use Rattle.std.proofs.lemmas.Bool.{le-leb}
use Rattle.wire_base.specs.Numbers.{AreBytes}
use Rattle.authenticators.specs.SecureChannels.{after_call, after_return}
use Rattle.memo_stubs.specs.declared.refused.MemoRefused.{MemoRefused}
use Rattle.memo_stubs.specs.Memo.{echo_request, echo_request_of, written_echo_reply, written_echo_request, written_who_reply}
use Rattle.memo_stubs.proofs.MemoLaws.{request_stub, stub_again}
use Rattle.ntlm_seal.specs.Sessions.{SessionState}
use Rattle.outside.specs.declared.action.Action.{Action}
use Rattle.outside.specs.declared.action.Action.TheVariants as action
use Rattle.outside.specs.declared.action.CloseCause.TheVariants as close
use Rattle.outside.specs.declared.action.Outcome.TheVariants as outcome
use Rattle.outside.specs.Machine.{step_by}
use Rattle.logon_stubs.specs.declared.info.SamInfo.{SamInfo}
use Rattle.end_links.specs.Agreed.{accepts}
use Rattle.end_links.specs.Links.{LinkState}
use Rattle.channel_client.specs.declared.state.Question.TheVariants as question
use Rattle.channel_client.specs.declared.state.Standing.{Standing}
use Rattle.channel_client.specs.declared.state.Standing.TheVariants as standing
use Rattle.channel_client.specs.declared.state.Step.TheVariants as step
use Rattle.channel_client.specs.Machine.{Taking, after}
use Rattle.channel_client.specs.State.{Requester}
use Rattle.logon_client.specs.declared.plan.ClientPlan.{ClientPlan}
use Rattle.member_server.specs.declared.plan.MemberPlan.{MemberPlan}
use Rattle.member_server.specs.declared.outcomes.Ending.TheVariants as ending
use Rattle.member_server.specs.declared.state.AtLink.{AtLink}
use Rattle.member_server.specs.declared.state.Bound.{Bound}
use Rattle.channel_turns.specs.declared.state.Dialling.TheVariants as dialling
use Rattle.member_server.specs.declared.state.LoggedOn.{LoggedOn}
use Rattle.member_server.specs.declared.state.Logon.{Logon}
use Rattle.member_server.specs.declared.state.Logons.{Logons}
use Rattle.member_server.specs.declared.state.Talk.{Talk}
use Rattle.member_server.specs.declared.state.Work.{Work}
use Rattle.member_server.specs.Machine.{actions_in, at_turn, halted_state, keep_turn, state_in}
use Rattle.unit_security.specs.Levels.{is_plain}
use Rattle.member_server.specs.Memo.{call_answer, echo_answer, who_answer}
use Rattle.member_server.specs.Outcomes.{after_served, at_link, end_found, end_logon, reach_in_map, key_in, name_in, reach_link, reach_waiting, waiting_if}
use Rattle.member_server.specs.Requests.{reply, send_reply, talk_in, unit_in}
use Rattle.member_server.specs.Turns.{AtTurn, next_turn, take_by}
use Rattle.member_server.specs.Units.{serve_held, then_held}
use Rattle.member_server.specs.Work.{Served, drawless, send, stay}
use Rattle.secret_change.specs.Secrets.{next_of}
use Rattle.logon_steps.specs.Asking.{asking_keeping, at_rest_keeping}
use Rattle.logon_steps.specs.Meeting.{bound_for}
use Rattle.logon_steps.specs.MemberAnswers.{LogonsEnd, granting, let_in, sam_shown}
use Rattle.logon_steps.specs.MemberLinks.{asked_talk, logons_resting, one_link}
use Rattle.logon_steps.specs.MemberTurns.{logons_keeping}
use Rattle.logon_steps.specs.MemoCalls.{ReplyGoes, RequestGoes, logged_on}
use Rattle.logon_steps.proofs.AskingLaws.{logons_are_asked}
use Rattle.logon_steps.proofs.MemberLinkLaws.{link_serves}
use Rattle.logon_steps.proofs.MemberTurnLaws.{replied_by}
use Rattle.logon_steps.proofs.StreamLaws.{same}

-- ---- WhoAmI is answered

abbrev limit_of : Bound → ℕ
limit_of bound = bound.binding.limit

who_answered : (task : ClientPlan) (on : LoggedOn) (at : AtLink) (most : ℕ) (one : Option SessionState) → on.bound ≡ bound_for task → length on.name ≤ 32767 →
    (who : RequestGoes most task.level 2 0 [] one on.session) (back : ReplyGoes (most + 1) task.level 2 (written_who_reply on.name) who.next who.later) →
    unit_in (is_plain on.bound.level) who.sent on None at ≡ stay (send at back.sent) (talk_in None (logged_on on back.later))
who_answered task on at most one bound short who back =
    ap (λ (level : ℕ). unit_in (is_plain level) who.sent on None at) (ap Bound.level bound)
    ∙ who.heard on at (ap Bound.level bound) refl
    ∙ ap (λ (b : Bound). reply (call_answer (accepts b.binding 0) 0 on.name []) 2 0 (logged_on on who.next) None at) bound
    ∙ ap (λ (fits : Bool). reply (who_answer fits on.name) 2 0 (logged_on on who.next) None at) (le-leb (length on.name) 32767 short)
    ∙ ap (λ (level : ℕ). send_reply (is_plain level) 2 0 (written_who_reply on.name) (logged_on on who.next) None at) (ap Bound.level bound)
    ∙ back.goes (logged_on on who.next) at (ap Bound.level bound) (ap Bound.context bound) (ap limit_of bound) refl

echo_read : (bytes : List ℕ) → length bytes ≤ 4096 → AreBytes bytes → echo_request_of (written_echo_request bytes) ≡ Ok bytes
unfolding echo_request_of
echo_read bytes short are = stub_again echo_request bytes (7 + length bytes) (written_echo_request bytes) (request_stub bytes short are)

echo_answered : (task : ClientPlan) (on : LoggedOn) (at : AtLink) (bytes : List ℕ) (most : ℕ) (one : Option SessionState) → on.bound ≡ bound_for task → length bytes ≤ 4096 → AreBytes bytes →
    (asks : RequestGoes most task.level 3 1 (written_echo_request bytes) one on.session) (back : ReplyGoes (most + 1) task.level 3 (written_echo_reply bytes) asks.next asks.later) →
    unit_in (is_plain on.bound.level) asks.sent on None at ≡ stay (send at back.sent) (talk_in None (logged_on on back.later))
echo_answered task on at bytes most one bound short are asks back =
    ap (λ (level : ℕ). unit_in (is_plain level) asks.sent on None at) (ap Bound.level bound)
    ∙ asks.heard on at (ap Bound.level bound) refl
    ∙ ap (λ (b : Bound). reply (call_answer (accepts b.binding 0) 1 on.name (written_echo_request bytes)) 3 0 (logged_on on asks.next) None at) bound
    ∙ ap (λ (read : Result (List ℕ) MemoRefused). reply (echo_answer read) 3 0 (logged_on on asks.next) None at) (echo_read bytes short are)
    ∙ ap (λ (level : ℕ). send_reply (is_plain level) 3 0 (written_echo_reply bytes) (logged_on on asks.next) None at) (ap Bound.level bound)
    ∙ back.goes (logged_on on asks.next) at (ap Bound.level bound) (ap Bound.context bound) (ap limit_of bound) refl

-- ---- the logon of the one link that waits ends

abbrev waiting_work : MemberPlan → Requester → List (ℕ × Logon) → List (ℕ × LinkState Talk) → List Action → Work
waiting_work plan channel asked links actions = record { logons = record { plan = plan; channel = channel; asked = asked }; links = links; actions = actions }

-- the work once the outcome is told, and the held request is answered
granted_work : (plan : MemberPlan) (channel : Requester) (task : ClientPlan) (sam : SamInfo) (logon : Logon) (place turn : ℕ) (most : ℕ) (one : Option SessionState) →
    length (name_in sam) ≤ 32767 →
    (who : RequestGoes most task.level 2 0 [] one (let_in task sam logon).session) (back : ReplyGoes (most + 1) task.level 2 (written_who_reply (name_in sam)) who.next who.later) →
    end_logon place (ending.Granted sam) (waiting_work plan channel ((place, logon) ∷ []) (one_link logon.link (asked_talk (bound_for task) place (who.sent ∷ []))) (action.Close turn close.CallDone ∷ []))
    ≡ waiting_work plan channel [] (one_link logon.link (talk_in None (logged_on (let_in task sam logon) back.later)))
    (action.Close turn close.CallDone ∷ action.Told logon.link (outcome.In sam.domain sam.effective_name (key_in sam logon)) ∷ action.Send logon.link back.sent ∷ [])
granted_work plan channel task sam logon place turn most one short who back =
    let on : LoggedOn = let_in task sam logon in
    let held : List (List ℕ) = who.sent ∷ [] in
    let links : List (ℕ × LinkState Talk) = one_link logon.link (asked_talk (bound_for task) place held) in
    let here : LinkState Talk = record { rest = []; talk = asked_talk (bound_for task) place held } in
    let closed : List Action = action.Close turn close.CallDone ∷ [] in
    let told : List Action = action.Close turn close.CallDone ∷ action.Told logon.link (outcome.In sam.domain sam.effective_name (key_in sam logon)) ∷ [] in
    let alone : Work = waiting_work plan channel [] [] told in
    ap (λ (f : Bool). end_found (if f then Some logon else None) place (ending.Granted sam) (waiting_work plan channel (if f then [] else (place, logon) ∷ []) links closed)) (same place)
    ∙ ap (λ (f : Bool). reach_link (if f then Some here else None) place (ending.Granted sam) logon (waiting_work plan channel [] links told)) (same logon.link)
    ∙ ap (λ (f : Bool). reach_in_map (waiting_if f (bound_for task) held) here (ending.Granted sam) logon (waiting_work plan channel [] links told)) (same place)
    ∙ ap (λ (f : Bool). reach_waiting (bound_for task, held) here (ending.Granted sam) logon (waiting_work plan channel [] (if f then [] else links) told)) (same logon.link)
    ∙ ap (λ (served : Served). after_served (then_held served (λ next said. serve_held [] next said)) [] logon.link alone)
    (who_answered task on (at_link logon.link alone) most one refl short who back)

pub logons_end : LogonsEnd
logons_end = record {
  granted = λ plan caller o info sam logon task place next number turn now timestamp moment authoritative most one left below is short who back.
      let how : Standing = standing.Open (after_call o timestamp) in
      let kept : Option (List ℕ) = next_of plan.secrets in
      let logons : Logons = logons_keeping plan caller how info place next number (step.Reply question.Logon) ((place, logon) ∷ []) in
      let rest : Requester = at_rest_keeping caller (standing.Open (after_return true (after_call o timestamp))) (after place) next kept in
      let links : List (ℕ × LinkState Talk) = one_link logon.link (asked_talk (bound_for task) place (who.sent ∷ [])) in
      let at : AtTurn = at_turn turn (record { logons = logons; links = links; actions = [] }) in
      replied_by plan (asking_keeping caller how info place next None kept) ((place, logon) ∷ []) number place turn now question.Logon (granting o timestamp moment authoritative sam) links left below is
      ∙ ap (λ (taking : Taking). step_by actions_in state_in halted_state left (next_turn now ((take_by taking None at).0.work, keep_turn (take_by taking None at).1 [] turn) left))
      (logons_are_asked.granted caller o info sam place next number timestamp moment authoritative kept)
      ∙ ap (λ (work : Work). step_by actions_in state_in halted_state left (next_turn now (work, dialling.Nothing) left))
      (granted_work plan rest task (sam_shown o sam) logon place turn most one short who back);
  echoed = λ plan caller kept how place next link now most task on bytes one left bound short are asks back.
      let logons : Logons = logons_resting plan caller kept how place next in
      let at : AtLink = record { link = link; logons = logons; actions = [] } in
      link_serves logons dialling.Nothing link now (talk_in None on) asks.sent asks.unit left
      (drawless (stay (send at back.sent) (talk_in None (logged_on on back.later))) left) tt asks.read
      (ap (λ (s : Served). drawless s left) (echo_answered task on at bytes most one bound short are asks back));
}
