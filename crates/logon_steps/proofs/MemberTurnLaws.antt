-- One turn of a member server, step by step.
-- Of `turns_step`.
use Rattle.std.proofs.Common.{◌≡◌, ◌&&◌, ℕ, ◌<◌, ◌^◌, Bool, true, List, [], ◌∷◌, Option, None, Ok, ap, ap₂, ◌∙◌, append-nil, arith}
use Rattle.ntlm_flags.specs.Flags.{has_flag}
use Rattle.channel_keys.specs.Flags.{rc4_flag}
use Rattle.authenticators.specs.SecureChannels.{fresh_channel}
use Rattle.secret_change.specs.Secrets.{alone, next_of}
use Rattle.outside.specs.declared.action.Action.TheVariants as action
use Rattle.outside.specs.declared.event.Event.TheVariants as event
use Rattle.outside.specs.Machine.{whole_step, step_by, then_part}
use Rattle.rpc_units.specs.Calls.{bytes_of_call}
use Rattle.rpc_units.specs.Stream.{Cut, cut_stream}
use Rattle.rpc_units.specs.Writing.{written}
use Rattle.rpc_units.proofs.CuttingLaws.{call_heard}
use Rattle.logon_stubs.specs.declared.calls.Call.{Call}
use Rattle.logon_stubs.specs.declared.calls.Reply.{Reply}
use Rattle.logon_stubs.specs.declared.calls.Reply.TheVariants as reply
use Rattle.logon_stubs.specs.declared.info.NetworkInfo.{NetworkInfo}
use Rattle.end_links.specs.Binding.{bind_of}
use Rattle.end_links.specs.Links.{LinkState}
use Rattle.end_links.specs.Serving.{ServedPart, served_cut}
use Rattle.logon_stubs.specs.Interface.{netlogon_syntax}
use Rattle.channel_client.specs.declared.caller.Caller.{Caller}
use Rattle.channel_client.specs.declared.state.Question.{Question}
use Rattle.channel_client.specs.declared.state.Question.TheVariants as question
use Rattle.channel_client.specs.declared.state.Standing.{Standing}
use Rattle.channel_client.specs.declared.state.Standing.TheVariants as standing
use Rattle.channel_client.specs.declared.state.Step.TheVariants as step
use Rattle.channel_client.specs.declared.judging.Judgement.TheVariants as judgement
use Rattle.channel_client.specs.Machine.{Taking, after, judge, offered_flags, question_of, server_credential, settle, take_of}
use Rattle.channel_client.specs.State.{Requester}
use Rattle.member_server.specs.declared.plan.MemberPlan.{MemberPlan}
use Rattle.member_server.specs.declared.state.Logon.{Logon}
use Rattle.member_server.specs.declared.state.Logons.{Logons}
use Rattle.member_server.specs.declared.state.Talk.{Talk}
use Rattle.channel_turns.specs.declared.state.TurnTalk.{TurnTalk}
use Rattle.member_server.specs.Machine.{actions_in, after_turn, at_turn, bytes_by, halted_state, keep_turn, state_in, step_of}
use Rattle.member_server.specs.Turns.{AtTurn, next_turn, take_by, turn_server, turn_talk}
use Rattle.logon_steps.specs.Asking.{asking_keeping}
use Rattle.logon_steps.specs.MemberTurns.{TurnsStep, logons_in_turn, logons_keeping, member_at, on_turn, plan_of, plan_with}
use Rattle.logon_steps.specs.Turning.{IsTurnReply, turn_ack, turn_at, turn_request, turn_response}
use Rattle.logon_steps.proofs.AskingLaws.{logons_are_asked}
use Rattle.logon_steps.proofs.StreamLaws.{one_unit, same}
use Rattle.logon_steps.proofs.TurningLaws.{response_sends, turn_ack_sends, turns_go_through}

-- ---- bytes on the link of the turn, where all that came before is served

-- the event's part, by the units and the rest of the piece
turn_piece : (logons : Logons) (links : List (ℕ × LinkState Talk)) (link now : ℕ) (piece : List ℕ) (left : List (List ℕ)) →
    step_of (member_at logons links (on_turn link)) (event.Bytes link piece) now left
    ≡ step_by actions_in state_in halted_state left
    (then_part (after_turn (served_cut turn_server (cut_stream piece) (at_turn link (record { logons = logons; links = links; actions = [] })) (turn_talk None) left) (cut_stream piece).rest link) (next_turn now))
turn_piece logons links link now piece left =
    ap (λ (own : Bool). step_by actions_in state_in halted_state left
    (then_part (bytes_by own (record { rest = []; talk = turn_talk None }) link piece (on_turn link) (record { logons = logons; links = links; actions = [] }) left) (next_turn now))) (same link)

-- a turn's units are served where they come to that, and no rest is left
pub turn_served : (logons : Logons) (links : List (ℕ × LinkState Talk)) (link now : ℕ) (piece : List ℕ) (left : List (List ℕ)) (value : AtTurn × Option TurnTalk) →
    served_cut turn_server (cut_stream piece) (at_turn link (record { logons = logons; links = links; actions = [] })) (turn_talk None) left
    ≡ Ok (record { value = value; left = left }) → (cut_stream piece).rest ≡ [] →
    step_of (member_at logons links (on_turn link)) (event.Bytes link piece) now left
    ≡ step_by actions_in state_in halted_state left (next_turn now (value.0.work, keep_turn value.1 [] link) left)
turn_served logons links link now piece left value served rest =
    turn_piece logons links link now piece left
    ∙ ap₂ (λ (part : ServedPart AtTurn TurnTalk) (r : List ℕ). step_by actions_in state_in halted_state left (then_part (after_turn part r link) (next_turn now))) served rest

-- ---- the steps

bound_steps : (plan : MemberPlan) (caller : Caller) (how : Standing) (info : NetworkInfo) (place next number link now : ℕ) (c : Call) (asked : List (ℕ × Logon))
    (links : List (ℕ × LinkState Talk)) (left : List (List ℕ)) → number < 2 ^ 32 →
    step_of (member_at (logons_keeping plan caller how info place next number (step.Bind c) asked) links (on_turn link)) (event.Bytes link (written (turn_ack number))) now left
    ≡ whole_step left left (action.Send link (bytes_of_call (turn_request next c) 5840) ∷ [])
    (member_at (logons_keeping plan caller how info place (after next) next (step.Reply (question_of c)) asked) links (on_turn link))
bound_steps plan caller how info place next number link now c asked links left below =
    let logons : Logons = logons_keeping plan caller how info place next number (step.Bind c) asked in
    let at : AtTurn = at_turn link (record { logons = logons; links = links; actions = [] }) in
    turn_served logons links link now (written (turn_ack number)) left (take_by (take_of logons.channel (turn_ack number)) None at)
    (turns_go_through.takes.ack_heard at number left below) (ap Cut.rest (one_unit (turn_ack number) (turn_ack_sends number below)))
    ∙ ap (λ (taking : Taking). step_by actions_in state_in halted_state left (next_turn now ((take_by taking None at).0.work, keep_turn (take_by taking None at).1 [] link) left))
    (turns_go_through.takes.ack logons.channel number place c)
    ∙ ap (λ (bytes : List ℕ). whole_step left left (action.Send link bytes ∷ [])
    (member_at (logons_keeping plan caller how info place (after next) next (step.Reply (question_of c)) asked) links (on_turn link))) (turns_go_through.takes.frames next c)

-- the reply comes to the turn of any channel
pub replied_by : (plan : MemberPlan) (s : Requester) (asked : List (ℕ × Logon)) (number place link now : ℕ) (q : Question) (r : Reply) (links : List (ℕ × LinkState Talk)) (left : List (List ℕ)) →
    number < 2 ^ 32 → IsTurnReply q r →
    let logons : Logons = record { plan = plan; channel = turn_at number place (step.Reply q) s; asked = asked } in
    let at : AtTurn = at_turn link (record { logons = logons; links = links; actions = [] }) in
    let taking : Taking = settle (judge q r s.standing s.caller.secret) logons.channel in
    step_of (member_at logons links (on_turn link)) (event.Bytes link (bytes_of_call (turn_response number r) 5840)) now left
    ≡ step_by actions_in state_in halted_state left (next_turn now ((take_by taking None at).0.work, keep_turn (take_by taking None at).1 [] link) left)
replied_by plan s asked number place link now q r links left below is =
    let logons : Logons = record { plan = plan; channel = turn_at number place (step.Reply q) s; asked = asked } in
    let at : AtTurn = at_turn link (record { logons = logons; links = links; actions = [] }) in
    turn_served logons links link now (bytes_of_call (turn_response number r) 5840) left (take_by (take_of logons.channel (turn_response number r)) None at)
    (turns_go_through.takes.reply_heard at number q r left below is)
    (ap Cut.rest (call_heard (turn_response number r) 5840 (response_sends number q r below is) (omega (arith, is.short))).stream)
    ∙ ap (λ (taking : Taking). step_by actions_in state_in halted_state left (next_turn now ((take_by taking None at).0.work, keep_turn (take_by taking None at).1 [] link) left))
    (turns_go_through.takes.reply s number place q r is)

pub replied_steps : (plan : MemberPlan) (caller : Caller) (how : Standing) (info : NetworkInfo) (place next number link now : ℕ) (q : Question) (r : Reply) (asked : List (ℕ × Logon))
    (links : List (ℕ × LinkState Talk)) (left : List (List ℕ)) → number < 2 ^ 32 → IsTurnReply q r →
    let logons : Logons = logons_in_turn plan caller how info place next number (step.Reply q) asked in
    let at : AtTurn = at_turn link (record { logons = logons; links = links; actions = [] }) in
    let taking : Taking = settle (judge q r how caller.secret) logons.channel in
    step_of (member_at logons links (on_turn link)) (event.Bytes link (bytes_of_call (turn_response number r) 5840)) now left
    ≡ step_by actions_in state_in halted_state left (next_turn now ((take_by taking None at).0.work, keep_turn (take_by taking None at).1 [] link) left)
replied_steps plan caller how info place next number link now q r asked links left below is =
    replied_by (plan_of plan caller) (asking_keeping caller how info place next None None) asked number place link now q r links left below is

-- the reply opens the channel: what follows is by the secrets
pub opened_steps : (plan : MemberPlan) (caller : Caller) (info : NetworkInfo) (place next number link now flags : ℕ) (client server : List ℕ) (asked : List (ℕ × Logon))
    (links : List (ℕ × LinkState Talk)) (left : List (List ℕ)) → number < 2 ^ 32 → (has_flag offered_flags flags && has_flag flags rc4_flag) ≡ true →
    let r : Reply = reply.Authenticate (record { credential = server_credential caller.secret client server; flags = flags; status = 0 }) in
    let logons : Logons = logons_keeping plan caller (standing.Half client server) info place next number (step.Reply question.Authenticate) asked in
    let at : AtTurn = at_turn link (record { logons = logons; links = links; actions = [] }) in
    let taking : Taking = settle (judgement.Opened (fresh_channel caller.secret client server offered_flags)) logons.channel in
    IsTurnReply question.Authenticate r →
    step_of (member_at logons links (on_turn link)) (event.Bytes link (bytes_of_call (turn_response number r) 5840)) now left
    ≡ step_by actions_in state_in halted_state left (next_turn now ((take_by taking None at).0.work, keep_turn (take_by taking None at).1 [] link) left)
opened_steps plan caller info place next number link now flags client server asked links left below fits is =
    let r : Reply = reply.Authenticate (record { credential = server_credential caller.secret client server; flags = flags; status = 0 }) in
    let logons : Logons = logons_keeping plan caller (standing.Half client server) info place next number (step.Reply question.Authenticate) asked in
    let at : AtTurn = at_turn link (record { logons = logons; links = links; actions = [] }) in
    replied_by plan (asking_keeping caller (standing.Half client server) info place next None (next_of plan.secrets)) asked number place link now question.Authenticate r links left below is
    ∙ ap (λ (taking : Taking). step_by actions_in state_in halted_state left (next_turn now ((take_by taking None at).0.work, keep_turn (take_by taking None at).1 [] link) left))
    (logons_are_asked.opened caller info place next number flags client server (next_of plan.secrets) fits)

pub turns_step : TurnsStep
turns_step = record {
  dialled = λ plan caller how info place next number link now what asked links left new.
      let logons : Logons = logons_keeping plan caller how info place next number what asked in
      ap₂ (λ (l : List (ℕ × LinkState Talk)) (bytes : List ℕ). whole_step left left (action.Send link bytes ∷ []) (member_at logons l (on_turn link))) new
      (append-nil (written (bind_of netlogon_syntax number)));
  bound = bound_steps;
  half = λ plan caller info place next number link now client server asked links left below is.
      replied_by plan (asking_keeping caller standing.Nothing info place next None (next_of plan.secrets)) asked number place link now (question.Challenge client)
      (reply.Challenge (record { challenge = server; status = 0 })) links left below is;
  opened = λ plan caller info place next number link now flags client server secret asked links left below fits is.
      opened_steps (plan_with (alone secret) plan) caller info place next number link now flags client server asked links left below fits is;
  replied = λ plan caller how info place next number link now q r asked links left below is ends.
      let logons : Logons = logons_keeping plan caller how info place next number (step.Reply q) asked in
      let at : AtTurn = at_turn link (record { logons = logons; links = links; actions = [] }) in
      let taking : Taking = settle (judge q r how caller.secret) logons.channel in
      replied_by plan (asking_keeping caller how info place next None (next_of plan.secrets)) asked number place link now q r links left below is
      ∙ ap (λ (talk : Option TurnTalk). step_by actions_in state_in halted_state left (next_turn now ((take_by taking None at).0.work, keep_turn talk [] link) left)) ends;
}
