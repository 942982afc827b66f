-- A turn that sets the next secret of a member's account, unit by unit, at both ends.
-- Of `secrets_are_set`, `set_units_go`, `set_turns_step` and `controllers_set`.
use Rattle.std.proofs.Common.{◌≡◌, ℕ, ◌<◌, ◌^◌, Bool, true, false, List, [], ◌∷◌, Option, Some, None, Result, Ok, refl, ap, ap₂, ◌∙◌, arith}
use Rattle.wire_base.specs.Maps.{lookup}
use Rattle.wire_base.specs.Names.{same_name}
use Rattle.authenticators.specs.Sequences.{authenticator_of, return_of}
use Rattle.authenticators.specs.SecureChannels.{SecureChannelState, after_call, channel_by, key_of_channel, return_by}
use Rattle.authenticators.proofs.BlockLaws.{cred_block}
use Rattle.wire_base.specs.declared.authenticator.Authenticator.{Authenticator}
use Rattle.outside.specs.declared.action.Action.TheVariants as action
use Rattle.outside.specs.declared.event.Event.TheVariants as event
use Rattle.outside.specs.Machine.{Stepped, step_by, whole_step}
use Rattle.rpc_units.specs.Calls.{CanBeSent, bytes_of_call}
use Rattle.rpc_units.specs.Stream.{Cut, cut_stream}
use Rattle.rpc_units.specs.Writing.{written}
use Rattle.rpc_units.specs.declared.unit.Unit.{Unit as RpcUnit}
use Rattle.rpc_units.proofs.CuttingLaws.{call_heard, call_short}
use Rattle.end_links.specs.Links.{LinkState}
use Rattle.end_links.specs.Serving.{served_cut}
use Rattle.end_links.proofs.ServingLaws.{units_served}
use Rattle.logon_stubs.specs.declared.info.NetworkInfo.{NetworkInfo}
use Rattle.secret_change.specs.Calls.{set_call, set_call_of, set_opnum, set_reply, set_reply_of, written_set_call, written_set_reply}
use Rattle.secret_change.specs.Hiding.{hide_of}
use Rattle.secret_change.specs.Ranges.{InRangeSetReply}
use Rattle.secret_change.specs.Secrets.{IsSecret, SecretsState}
use Rattle.secret_change.specs.declared.calls.SetCall.{SetCall}
use Rattle.secret_change.specs.declared.calls.SetReply.{SetReply}
use Rattle.secret_change.specs.declared.refused.SetRefused.{SetRefused}
use Rattle.secret_change.proofs.HideLaws.{hidden_is_shown}
use Rattle.secret_change.proofs.SetLaws.{call_stub, reply_stub, stub_again}
use Rattle.account_table.specs.AccountTable.{AccountTable}
use Rattle.account_table.specs.LookUps.{machine_in}
use Rattle.channel_client.specs.declared.caller.Caller.{Caller}
use Rattle.channel_client.specs.declared.state.SetStep.TheVariants as set_step
use Rattle.channel_client.specs.declared.state.Standing.{Standing}
use Rattle.channel_client.specs.declared.state.Standing.TheVariants as standing
use Rattle.channel_client.specs.declared.state.Step.TheVariants as step
use Rattle.channel_client.specs.Machine.{Taking, act, after, change_call, hear_by, hear_set_reply, judge_set, judge_set_awaited, settle_set, take_of}
use Rattle.channel_client.specs.State.{Requester}
use Rattle.channel_client.proofs.StubLaws.{change_sends}
use Rattle.controller_calls.specs.declared.calls.ControllerCall.TheVariants as controller_call
use Rattle.controller_calls.specs.declared.calls.JudgedCall.TheVariants as judged_call
use Rattle.controller_calls.specs.declared.line.Line.{Line}
use Rattle.controller_calls.specs.declared.state.Computers.{Computers}
use Rattle.controller_calls.specs.Asking.{answers_to}
use Rattle.controller_calls.specs.Judging.{CallAnswers, answer_on, answer_return}
use Rattle.controller_calls.specs.declared.calls.Asked.TheVariants as asked
use Rattle.controller_calls.specs.Setting.{set_at, set_hash}
use Rattle.domain_controller.specs.declared.state.Talk.{Talk}
use Rattle.domain_controller.specs.Hearing.{bound_talk, hear_set}
use Rattle.domain_controller.specs.Machine.{Desk, by_call, by_heard, controller_server, desk, goes_on, put_channel, take_channel}
use Rattle.domain_controller.specs.State.{State as ControllerState}
use Rattle.domain_controller.specs.Step.{after_units, first_desk, step_of as controller_step_of}
use Rattle.member_server.specs.declared.plan.MemberPlan.{MemberPlan}
use Rattle.member_server.specs.declared.state.Logon.{Logon}
use Rattle.member_server.specs.declared.state.Logons.{Logons}
use Rattle.member_server.specs.declared.state.Talk.{Talk as MemberTalk}
use Rattle.member_server.specs.Machine.{actions_in, at_turn, halted_state, keep_turn, state_in, step_of}
use Rattle.member_server.specs.Turns.{AtTurn, next_turn, take_by, turn_server, turn_talk}
use Rattle.logon_steps.specs.Answering.{IsInStep, moved}
use Rattle.logon_steps.specs.ControllerTurns.{controller_at, turn_link}
use Rattle.logon_steps.specs.Asking.{asking_keeping}
use Rattle.logon_steps.specs.MemberTurns.{logons_keeping, member_at, on_turn, plan_with}
use Rattle.logon_steps.specs.SetTurns.{ControllersSet, IsSetTurn, SecretsAreSet, SetTurnsStep, SetUnitsGo, set_reply_bytes, set_request, set_response, set_taken}
use Rattle.logon_steps.specs.Turning.{turn_ack, turn_agreed, turn_at}
use Rattle.logon_steps.proofs.AnsweringLaws.{passes_step}
use Rattle.logon_steps.proofs.AskingLaws.{same_bytes}
use Rattle.logon_steps.proofs.ControllerTurnLaws.{on_link, running, stepped}
use Rattle.logon_steps.proofs.MemberTurnLaws.{opened_steps, turn_served}
use Rattle.logon_steps.proofs.StreamLaws.{one_unit, same}
use Rattle.logon_steps.proofs.TurningLaws.{ComesAtOnce, call_some, frames_sent, hears_whole, joins, turn_ack_sends, turn_joins, turns_go_through}

-- ---- the units can be sent

pub set_sends : (number : ℕ) (c : SetCall) → number < 2 ^ 32 → IsSetTurn c → CanBeSent (set_request number c) 5840
set_sends number c below is = record {
  whole = record { stub = tt; first = refl; last = refl };
  range = record { call = below; body = (omega (arith, is.short), omega arith, omega arith); trailer = tt };
  value = tt;
  least = omega arith;
  room = omega arith;
}

pub set_reply_sends : (number : ℕ) (r : SetReply) → number < 2 ^ 32 → InRangeSetReply r → CanBeSent (set_response number r) 5840
set_reply_sends number r below is = record {
  whole = record { stub = tt; first = refl; last = refl };
  range = record { call = below; body = (let short = (reply_stub r is).short in omega (arith, short), omega arith); trailer = tt };
  value = tt;
  least = omega arith;
  room = omega arith;
}

-- ---- the units of a turn come in one piece each

pub set_comes : (number : ℕ) (c : SetCall) → IsSetTurn c → ComesAtOnce (bytes_of_call (set_request number c) 5840)
set_comes number c is = record {
  some = call_some (set_request number c) 5840;
  short = omega (arith, call_short (set_request number c) 5840 tt (omega arith) (omega arith), is.short);
}

pub set_reply_comes : (number : ℕ) (r : SetReply) → InRangeSetReply r → ComesAtOnce (set_reply_bytes number r)
set_reply_comes number r is = record {
  some = call_some (set_response number r) 5840;
  short = omega (arith, call_short (set_response number r) 5840 tt (omega arith) (omega arith), (reply_stub r is).short);
}

-- ---- at the controller

pub call_read : (c : SetCall) → IsSetTurn c → set_call_of (written_set_call c) ≡ Ok c
unfolding set_call_of
call_read c is = stub_again set_call c _ (written_set_call c) (call_stub c is.sends.writes is.sends.range)

set_heard : (name : List ℕ) (now link number : ℕ) (c : SetCall) (d : Desk) (left : List (List ℕ)) → number < 2 ^ 32 → IsSetTurn c →
    served_cut (controller_server name now link) (cut_stream (bytes_of_call (set_request number c) 5840)) d (bound_talk None turn_agreed) left
    ≡ by_call (controller_call.Judged (judged_call.Set c)) (record { link = link; call = number; context = 0; limit = 5840 }) (bound_talk None turn_agreed) name now d left
set_heard name now link number c d left below is =
    let line : Line = record { link = link; call = number; context = 0; limit = 5840 } in
    let talk : Talk = bound_talk None turn_agreed in
    units_served.call (controller_server name now link) (set_request number c) 5840 (λ (so_far : Option RpcUnit). bound_talk so_far turn_agreed)
    (hears_whole name now link (set_request number c)) d left (set_sends number c below is) (omega (arith, is.short)) (joins name now link number set_opnum (written_set_call c))
    ∙ ap (λ (read : Result SetCall SetRefused). by_heard (hear_set read line talk) link name now d left) (call_read c is)

-- ---- at the channel of a member

reply_read : (r : SetReply) → InRangeSetReply r → set_reply_of (written_set_reply r) ≡ Ok r
unfolding set_reply_of
reply_read r is = stub_again set_reply r 25 (written_set_reply r) (reply_stub r is)

ack_taken : (s : Requester) (number place : ℕ) (c : SetCall) →
    take_of (turn_at number place (step.Set (set_step.Bind c)) s) (turn_ack number)
    ≡ act (hear_by true (record { number = number; place = place; step = step.Set (set_step.Bind c) }) (turn_ack number) s.next_call) (turn_at number place (step.Set (set_step.Bind c)) s)
ack_taken s number place c =
    ap (λ (due : Bool). act (hear_by due (record { number = number; place = place; step = step.Set (set_step.Bind c) }) (turn_ack number) s.next_call) (turn_at number place (step.Set (set_step.Bind c)) s))
    (same number)

reply_taken : (s : Requester) (number place : ℕ) (r : SetReply) → InRangeSetReply r →
    take_of (turn_at number place (step.Set set_step.Reply) s) (set_response number r)
    ≡ settle_set (judge_set r s.standing) (turn_at number place (step.Set set_step.Reply) s)
reply_taken s number place r is =
    ap (λ (due : Bool). act (hear_by due (record { number = number; place = place; step = step.Set set_step.Reply }) (set_response number r) s.next_call) (turn_at number place (step.Set set_step.Reply) s))
    (same number)
    ∙ ap (λ (read : Result SetReply SetRefused). act (hear_set_reply read) (turn_at number place (step.Set set_step.Reply) s)) (reply_read r is)

pub set_units_go : SetUnitsGo
set_units_go = record {
  call = λ caller o timestamp next has below.
      let c : SetCall = change_call caller o timestamp next in
      let sends = change_sends caller o timestamp next c refl has.account_units has.computer_units has.kind below (omega (arith, has.computer)) (omega (arith, has.account)) in
      record { sends = sends; short = omega (arith, (call_stub c sends.writes sends.range).short, has.computer, has.account) };
  heard = set_heard;
  ack = ack_taken;
  reply = reply_taken;
  reply_heard = λ at number r left below is.
      units_served.call turn_server (set_response number r) 5840 turn_talk
      (λ (at : AtTurn) (left : List (List ℕ)). Ok (record { value = take_by (take_of at.work.logons.channel (set_response number r)) None at; left = left }))
      at left (set_reply_sends number r below is) (omega (arith, (reply_stub r is).short)) (turn_joins (set_response number r));
  frames = λ number c. frames_sent (set_request number c) 5840;
}

pub secrets_are_set : SecretsAreSet
secrets_are_set = record {
  starts = λ caller o info place number timestamp next challenge. refl;
  taken = λ caller o info place number other timestamp next.
      let s : Requester = asking_keeping caller (standing.Open (after_call o timestamp)) info place number (Some (record { number = other; place = place; step = step.Set set_step.Reply })) next in
      ap (λ (is_same : Bool). settle_set (judge_set_awaited is_same (after_call o timestamp)) s) (same_bytes (return_of (key_of_channel o) o.seed timestamp));
}

-- ---- a member

pub taken_in_range : (o : SecureChannelState) (timestamp : ℕ) → InRangeSetReply (set_taken o timestamp)
taken_in_range o timestamp = record { returned = record { credential = cred_block _ _; timestamp = omega arith }; status = omega arith }

set_bound : (plan : MemberPlan) (caller : Caller) (how : Standing) (info : NetworkInfo) (place next number link now : ℕ) (c : SetCall) (asked : List (ℕ × Logon))
    (links : List (ℕ × LinkState MemberTalk)) (left : List (List ℕ)) → number < 2 ^ 32 →
    step_of (member_at (logons_keeping plan caller how info place next number (step.Set (set_step.Bind c)) asked) links (on_turn link)) (event.Bytes link (written (turn_ack number))) now left
    ≡ whole_step left left (action.Send link (bytes_of_call (set_request next c) 5840) ∷ [])
    (member_at (logons_keeping plan caller how info place (after next) next (step.Set set_step.Reply) asked) links (on_turn link))
set_bound plan caller how info place next number link now c asked links left below =
    let logons : Logons = logons_keeping plan caller how info place next number (step.Set (set_step.Bind c)) asked in
    let at : AtTurn = at_turn link (record { logons = logons; links = links; actions = [] }) in
    turn_served logons links link now (written (turn_ack number)) left (take_by (take_of logons.channel (turn_ack number)) None at)
    (turns_go_through.takes.ack_heard at number left below) (ap Cut.rest (one_unit (turn_ack number) (turn_ack_sends number below)))
    ∙ ap (λ (taking : Taking). step_by actions_in state_in halted_state left (next_turn now ((take_by taking None at).0.work, keep_turn (take_by taking None at).1 [] link) left))
    (set_units_go.ack logons.channel number place c)
    ∙ ap (λ (bytes : List ℕ). whole_step left left (action.Send link bytes ∷ [])
    (member_at (logons_keeping plan caller how info place (after next) next (step.Set set_step.Reply) asked) links (on_turn link))) (set_units_go.frames next c)

-- the reply comes, and is judged
pub set_replied : (plan : MemberPlan) (s : Requester) (asked : List (ℕ × Logon)) (number place link now : ℕ) (r : SetReply) (links : List (ℕ × LinkState MemberTalk)) (left : List (List ℕ)) →
    number < 2 ^ 32 → InRangeSetReply r →
    let logons : Logons = record { plan = plan; channel = turn_at number place (step.Set set_step.Reply) s; asked = asked } in
    let at : AtTurn = at_turn link (record { logons = logons; links = links; actions = [] }) in
    let taking : Taking = settle_set (judge_set r s.standing) logons.channel in
    step_of (member_at logons links (on_turn link)) (event.Bytes link (set_reply_bytes number r)) now left
    ≡ step_by actions_in state_in halted_state left (next_turn now ((take_by taking None at).0.work, keep_turn (take_by taking None at).1 [] link) left)
set_replied plan s asked number place link now r links left below is =
    let logons : Logons = record { plan = plan; channel = turn_at number place (step.Set set_step.Reply) s; asked = asked } in
    let at : AtTurn = at_turn link (record { logons = logons; links = links; actions = [] }) in
    turn_served logons links link now (set_reply_bytes number r) left (take_by (take_of logons.channel (set_response number r)) None at)
    (set_units_go.reply_heard at number r left below is)
    (ap Cut.rest (call_heard (set_response number r) 5840 (set_reply_sends number r below is) (omega (arith, (reply_stub r is).short))).stream)
    ∙ ap (λ (taking : Taking). step_by actions_in state_in halted_state left (next_turn now ((take_by taking None at).0.work, keep_turn (take_by taking None at).1 [] link) left))
    (set_units_go.reply s number place r is)

pub set_turns_step : SetTurnsStep
set_turns_step = record {
  opened = λ plan caller info place next number link now flags client server current new asked links left below fits is.
      opened_steps (plan_with (record { current = current; next = Some (record { secret = new; is_tried = false }) }) plan) caller info place next number link now flags client server asked links left below fits is;
  opened_next = λ plan caller info place next number link now flags client server current new asked links left below fits is.
      opened_steps (plan_with (record { current = current; next = Some (record { secret = new; is_tried = true }) }) plan) caller info place next number link now flags client server asked links left below fits is;
  bound = set_bound;
  set = λ plan caller o info place next number link now timestamp current new asked links left below.
      let secrets : SecretsState = record { current = current; next = Some (record { secret = new; is_tried = false }) } in
      let kept : MemberPlan = plan_with secrets plan in
      let s : Requester = asking_keeping caller (standing.Open (after_call o timestamp)) info place next (Some (record { number = number; place = place; step = step.Set set_step.Reply })) (Some new) in
      let at : AtTurn = at_turn link (record { logons = record { plan = kept; channel = s; asked = asked }; links = links; actions = [] }) in
      set_replied kept s asked number place link now (set_taken o timestamp) links left below (taken_in_range o timestamp)
      ∙ ap (λ (taking : Taking). step_by actions_in state_in halted_state left (next_turn now ((take_by taking None at).0.work, keep_turn (take_by taking None at).1 [] link) left))
      (secrets_are_set.taken caller o info place next number timestamp (Some new));
}

-- ---- the controller

-- a call comes on the link, and is answered
pub set_asked : (table : AccountTable) (name : List ℕ) (computers : Computers) (link now number : ℕ) (c : SetCall) (left : List (List ℕ)) → number < 2 ^ 32 → IsSetTurn c →
    controller_step_of (controller_at table name computers (turn_link link)) (event.Bytes link (bytes_of_call (set_request number c) 5840)) now left
    ≡ stepped table name computers (turn_link link) left
    (after_units (by_call (controller_call.Judged (judged_call.Set c)) (record { link = link; call = number; context = 0; limit = 5840 }) (bound_talk None turn_agreed) name now (first_desk table (running computers (turn_link link))) left) [] link [])
set_asked table name computers link now number c left below is =
    on_link table name computers link now (bound_talk None turn_agreed) (bytes_of_call (set_request number c) 5840) left
    (by_call (controller_call.Judged (judged_call.Set c)) (record { link = link; call = number; context = 0; limit = 5840 }) (bound_talk None turn_agreed) name now (first_desk table (running computers (turn_link link))) left)
    (set_units_go.heard name now link number c (first_desk table (running computers (turn_link link))) left below is)
    (ap Cut.rest (call_heard (set_request number c) 5840 (set_sends number c below is) (omega (arith, is.short))).stream)

module _ (table : AccountTable) (name : List ℕ) (computers : Computers) (link now number timestamp place : ℕ) (caller : Caller) (o c : SecureChannelState) (new : List ℕ) (left : List (List ℕ)) where
  abbrev given : Authenticator
  given = authenticator_of (key_of_channel o) o.seed timestamp

  abbrev hidden : List ℕ
  hidden = hide_of (key_of_channel o) new

  abbrev line : Line
  line = record { link = link; call = number; context = 0; limit = 5840 }

  -- what the controller comes to, by the desk behind the call
  abbrev comes : Desk → Stepped ControllerState
  comes d = stepped table name computers (turn_link link) left (after_units (goes_on d (bound_talk None turn_agreed) left) [] link [])

  abbrev at_first : Desk
  at_first = first_desk table (running computers (turn_link link))

  abbrev out : Desk
  out = desk table (take_channel caller.computer at_first.work)

  abbrev moved_on : Desk
  moved_on = desk table (put_channel caller.computer (moved c timestamp) out.work)

  abbrev answers : CallAnswers
  answers = answers_to (asked.Set caller.account caller.kind hidden) name now line

  pub sets_at : number < 2 ^ 32 → IsSetTurn (change_call caller o timestamp new) → IsSecret new → lookup same_name caller.computer computers.channels ≡ Some c → IsInStep o c →
      machine_in table.accounts caller.account caller.kind caller.computer ≡ Some place →
      controller_step_of (controller_at table name computers (turn_link link)) (event.Bytes link (bytes_of_call (set_request number (change_call caller o timestamp new)) 5840)) now left
      ≡ comes (set_at (Some place) new line (return_of (key_of_channel o) o.seed timestamp) moved_on)
  sets_at below is secret found step there =
      set_asked table name computers link now number (change_call caller o timestamp new) left below is
      ∙ ap (λ (f : Option SecureChannelState). comes (answer_on f caller.computer given answers out)) found
      ∙ ap (λ (p : Bool). comes (answer_return (return_by p c given) answers.refused (answers.passed caller.computer c) (desk table (put_channel caller.computer (channel_by p c given) out.work))))
      (passes_step o c timestamp step)
      ∙ ap₂ (λ (key seed : List ℕ). comes (set_hash caller.account caller.kind hidden line caller.computer key (return_of key seed timestamp) moved_on)) step.key step.seed
      ∙ ap₂ (λ (at : Option ℕ) (hash : List ℕ). comes (set_at at hash line (return_of (key_of_channel o) o.seed timestamp) moved_on)) there (hidden_is_shown (key_of_channel o) new secret)

pub controllers_set : ControllersSet
controllers_set = record {
  set = λ table name computers link now number timestamp place caller o c new left below is secret found step there.
      sets_at table name computers link now number timestamp place caller o c new left below is secret found step there;
}
