-- A client of a logon, step by step, from its start to its end (MS-NLMP 3.1.5.1; the memo interface
-- is this project's own).
use Rattle.std.specs.Prelude.{ℕ, ◌≡◌, ◌≤◌, ◌==◌, true, false, List, [], ◌∷◌, length, Option, Some, None}
use Rattle.ntlm_messages.specs.declared.messages.Authenticate.{Authenticate}
use Rattle.ntlm_seal.specs.Sessions.{SessionState}
use Rattle.memo_stubs.specs.Memo.{written_echo_reply, written_echo_request, written_who_reply}
use Rattle.outside.specs.declared.action.Action.TheVariants as action
use Rattle.outside.specs.declared.action.CloseCause.TheVariants as close
use Rattle.outside.specs.declared.event.Event.TheVariants as event
use Rattle.outside.specs.Machine.{whole_step}
use Rattle.rpc_units.specs.Writing.{written}
use Rattle.wire_base.specs.Units.{AreUnits}
use Rattle.end_links.specs.Sending.{request_of}
use Rattle.logon_client.specs.declared.answering.Drawn.{Drawn}
use Rattle.logon_client.specs.declared.outcome.ClientOutcome.{ClientOutcome}
use Rattle.logon_client.specs.declared.outcome.ClientOutcome.TheVariants.{In, NoAnswer}
use Rattle.logon_client.specs.declared.outcome.NoAnswerCause.TheVariants as no_answer
use Rattle.logon_client.specs.declared.plan.ClientPlan.{ClientPlan}
use Rattle.logon_client.specs.declared.securing.Sending.{Sending}
use Rattle.logon_client.specs.declared.state.Phase.{Phase}
use Rattle.logon_client.specs.declared.state.Phase.TheVariants as client_phase
use Rattle.logon_client.specs.declared.state.Question.TheVariants as client_question
use Rattle.logon_client.specs.declared.state.ClientLink.{ClientLink}
use Rattle.logon_client.specs.declared.state.ClientLink.TheVariants as client_standing
use Rattle.logon_client.specs.declared.state.Terms.{Terms}
use Rattle.logon_client.specs.Answering.{bind_for}
use Rattle.logon_client.specs.Machine as client
use Rattle.logon_client.specs.Plans.{CanLogOn}
use Rattle.logon_client.specs.Securing.{send_call}
use Rattle.logon_client.specs.State.{State}
use Rattle.member_server.specs.declared.plan.MemberPlan.{MemberPlan}
use Rattle.logon_steps.specs.Answers.{AreDraws, answer_for, auth3_for, drawn_of, terms_for}
use Rattle.logon_steps.specs.Meeting.{HasShortNames, ack_for}
use Rattle.logon_steps.specs.MemoCalls.{ReplyGoes, with_session}

abbrev pub client_at : ClientPlan → ClientLink → State
client_at task how = record { running = Some (record { task = task; standing = how }); outcome = None }

-- on its link, where nothing is left of what came
abbrev pub on_link : ℕ → Phase → ClientLink
on_link link how = client_standing.On (record { rest = []; talk = client.talk_on link None how })

abbrev pub client_ended : ClientPlan → ClientOutcome → State
client_ended task outcome = record { running = Some (record { task = task; standing = client_standing.Idle }); outcome = Some outcome }

pub record ClientsStep : Type 0 where
  pub begins : (task : ClientPlan) →
      client.begin_of (client.fresh_client task)
      ≡ record { actions = action.Dial task.server ∷ []; state = client_at task client_standing.Dialling }
  pub dialled : (task : ClientPlan) (link now : ℕ) (left : List (List ℕ)) →
      client.step_of (client_at task client_standing.Dialling) (event.Dialled link) now left
      ≡ whole_step left left (action.Send link (written (bind_for task.level task.auth)) ∷ []) (client_at task (on_link link client_phase.Bound))
  -- a client's dial fails, or its link is closed
  pub failed : (task : ClientPlan) (now : ℕ) (left : List (List ℕ)) →
      client.step_of (client_at task client_standing.Dialling) event.DialFailed now left
      ≡ whole_step left left [] (client_ended task (NoAnswer no_answer.DialFailed))
  pub closed : (task : ClientPlan) (link now : ℕ) (how : Phase) (left : List (List ℕ)) →
      client.step_of (client_at task (on_link link how)) (event.Closed link) now left
      ≡ whole_step left left [] (client_ended task (NoAnswer no_answer.LinkClosed))
  -- the CHALLENGE is answered, and WhoAmI goes out behind it
  pub challenged : (plan : MemberPlan) (task : ClientPlan) (challenge one two three : List ℕ) (link now : ℕ) (sending : Sending) (left : List (List ℕ)) → CanLogOn task →
      HasShortNames plan → length challenge ≡ 8 → AreDraws one two three →
      let drawn : Drawn = drawn_of one two three in
      let terms : Terms = terms_for plan task challenge now drawn in
      let message : Authenticate = (answer_for plan task challenge now drawn).message in
      send_call terms.session task.level (request_of client.who_number 0 client.who_opnum []) 5840 ≡ Some sending →
      client.step_of (client_at task (on_link link client_phase.Bound)) (event.Bytes link (written (ack_for plan task challenge))) now (one ∷ two ∷ three ∷ left)
      ≡ whole_step (one ∷ two ∷ three ∷ left) left
      (action.Send link (written (auth3_for task message)) ∷ action.Send link sending.bytes ∷ [])
      (client_at task (on_link link (client_phase.Asked (record terms { session = sending.session }) client_question.Who)))
  -- the name comes, and nothing is echoed
  pub named : (task : ClientPlan) (terms : Terms) (name : List ℕ) (link now most : ℕ) (other : Option SessionState) (left : List (List ℕ)) →
      (back : ReplyGoes most task.level 2 (written_who_reply name) other terms.session) → length name ≤ 32767 → AreUnits name → (task.echo == 0) ≡ true →
      client.step_of (client_at task (on_link link (client_phase.Asked terms client_question.Who))) (event.Bytes link back.sent) now left
      ≡ whole_step left left (action.Close link close.CallDone ∷ []) (client_ended task (In name terms.key 0))
  -- the name comes, and Echo goes out
  pub asks_echo : (task : ClientPlan) (terms : Terms) (name : List ℕ) (link now most : ℕ) (other : Option SessionState) (sending : Sending) (left : List (List ℕ)) →
      (back : ReplyGoes most task.level 2 (written_who_reply name) other terms.session) → length name ≤ 32767 → AreUnits name → (task.echo == 0) ≡ false → terms.receive ≡ 5840 →
      send_call back.next task.level (request_of client.echo_number 0 client.echo_opnum (written_echo_request (client.echo_bytes task.echo))) 5840 ≡ Some sending →
      client.step_of (client_at task (on_link link (client_phase.Asked terms client_question.Who))) (event.Bytes link back.sent) now left
      ≡ whole_step left left (action.Send link sending.bytes ∷ [])
      (client_at task (on_link link (client_phase.Asked (with_session terms sending.session) (client_question.Echo name))))
  -- the bytes of Echo come back
  pub echoed : (task : ClientPlan) (terms : Terms) (name : List ℕ) (link now most : ℕ) (other : Option SessionState) (left : List (List ℕ)) →
      (back : ReplyGoes most task.level 3 (written_echo_reply (client.echo_bytes task.echo)) other terms.session) → CanLogOn task →
      client.step_of (client_at task (on_link link (client_phase.Asked terms (client_question.Echo name)))) (event.Bytes link back.sent) now left
      ≡ whole_step left left (action.Close link close.CallDone ∷ []) (client_ended task (In name terms.key task.echo))
