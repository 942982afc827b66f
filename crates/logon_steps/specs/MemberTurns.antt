-- One turn of a member server, step by step, while one logon waits at it (MS-NRPC 3.1.4, 3.5.4;
-- C706 12.6.3).
use Rattle.std.specs.Prelude.{ℕ, ◌≡◌, ◌<◌, ◌^◌, ◌&&◌, true, List, [], ◌∷◌, Some, None}
use Rattle.wire_base.specs.Maps.{same_number, take_out}
use Rattle.ntlm_flags.specs.Flags.{has_flag}
use Rattle.channel_keys.specs.Flags.{rc4_flag}
use Rattle.authenticators.specs.SecureChannels.{after_call, fresh_channel}
use Rattle.outside.specs.declared.action.Action.TheVariants as action
use Rattle.outside.specs.declared.action.CloseCause.TheVariants as close
use Rattle.outside.specs.declared.event.Event.TheVariants as event
use Rattle.outside.specs.Machine.{whole_step, step_by}
use Rattle.rpc_units.specs.Calls.{bytes_of_call}
use Rattle.rpc_units.specs.Writing.{written}
use Rattle.logon_stubs.specs.declared.calls.Call.{Call}
use Rattle.logon_stubs.specs.declared.calls.Reply.{Reply}
use Rattle.logon_stubs.specs.declared.calls.Reply.TheVariants as reply
use Rattle.logon_stubs.specs.declared.info.NetworkInfo.{NetworkInfo}
use Rattle.end_links.specs.Binding.{bind_of}
use Rattle.end_links.specs.Links.{LinkState}
use Rattle.logon_stubs.specs.Interface.{netlogon_syntax}
use Rattle.channel_client.specs.declared.caller.Caller.{Caller}
use Rattle.channel_client.specs.declared.state.Question.{Question}
use Rattle.channel_client.specs.declared.state.Question.TheVariants as question
use Rattle.channel_client.specs.declared.state.Standing.{Standing}
use Rattle.channel_client.specs.declared.state.Standing.TheVariants as standing
use Rattle.channel_client.specs.declared.state.Step.{Step}
use Rattle.channel_client.specs.declared.state.Step.TheVariants as step
use Rattle.channel_client.specs.Machine.{Taking, after, auth_call, judge, logon_call, offered_flags, question_of, server_credential, settle}
use Rattle.member_server.specs.declared.plan.MemberPlan.{MemberPlan}
use Rattle.channel_turns.specs.declared.state.Dialling.{Dialling}
use Rattle.channel_turns.specs.declared.state.Dialling.TheVariants as dialling
use Rattle.member_server.specs.declared.state.Logon.{Logon}
use Rattle.member_server.specs.declared.state.Logons.{Logons}
use Rattle.member_server.specs.declared.state.Talk.{Talk}
use Rattle.member_server.specs.declared.state.Work.{Work}
use Rattle.member_server.specs.Machine.{actions_in, at_turn, halted_state, state_in, step_of}
use Rattle.member_server.specs.State.{State}
use Rattle.secret_change.specs.Secrets.{SecretsState, alone, next_of}
use Rattle.member_server.specs.Turns.{TurnServed, do_taken, next_turn, timestamp_of, turn_talk, with_requester, with_work}
use Rattle.logon_steps.specs.Asking.{asking_keeping}
use Rattle.logon_steps.specs.Turning.{IsTurnReply, turn_ack, turn_request, turn_response}

-- ---- a member, which seals nothing

abbrev pub member_at : Logons → List (ℕ × LinkState Talk) → Dialling → State
member_at logons links how =
    record { running = Some (record { logons = logons; links = links; dialling = how; sealing = None }) }

-- the plan of a member with one secret, which who asks has
abbrev pub plan_of : MemberPlan → Caller → MemberPlan
plan_of plan caller = record plan { secrets = alone caller.secret }

-- the member's plan, with these secrets
abbrev pub plan_with : SecretsState → MemberPlan → MemberPlan
plan_with secrets plan = record plan { secrets = secrets }

-- One logon waits, whose turn waits for the answer to its bind or call of that number. Whatever secrets the member
-- keeps, the channel has the next one.
abbrev pub logons_keeping : MemberPlan → Caller → Standing → NetworkInfo → ℕ → ℕ → ℕ → Step → List (ℕ × Logon) → Logons
logons_keeping plan caller how info place next number what asked = record {
  plan = plan;
  channel = asking_keeping caller how info place next (Some (record { number = number; place = place; step = what })) (next_of plan.secrets);
  asked = asked;
}

-- the logons of a member with one secret, while a turn is out
abbrev pub logons_in_turn : MemberPlan → Caller → Standing → NetworkInfo → ℕ → ℕ → ℕ → Step → List (ℕ × Logon) → Logons
logons_in_turn plan caller how info place next number what asked = logons_keeping (plan_of plan caller) caller how info place next number what asked

-- the link of the turn, on which all that came is served
abbrev pub on_turn : ℕ → Dialling
on_turn link = dialling.On link (record { rest = []; talk = turn_talk None })

-- the bind that waits for a link
abbrev pub bind_waits : ℕ → Dialling
bind_waits number = dialling.Waits tt (written (bind_of netlogon_syntax number) ∷ [])

-- the link isn't among those that were accepted
abbrev pub IsNew : ℕ → List (ℕ × LinkState Talk) → Type 0
IsNew link links = take_out same_number link links ≡ links

-- ---- the steps of the member

pub record TurnsStep : Type 0 where
  -- a turn's dial is answered, whichever call the turn is for
  pub dialled : (plan : MemberPlan) (caller : Caller) (how : Standing) (info : NetworkInfo) (place next number link now : ℕ) (what : Step) (asked : List (ℕ × Logon))
      (links : List (ℕ × LinkState Talk)) (left : List (List ℕ)) → IsNew link links →
      step_of (member_at (logons_keeping plan caller how info place next number what asked) links (bind_waits number)) (event.Dialled link) now left
      ≡ whole_step left left (action.Send link (written (bind_of netlogon_syntax number)) ∷ [])
      (member_at (logons_keeping plan caller how info place next number what asked) links (on_turn link))
  -- a turn's bind is answered, and its call goes out
  pub bound : (plan : MemberPlan) (caller : Caller) (how : Standing) (info : NetworkInfo) (place next number link now : ℕ) (c : Call) (asked : List (ℕ × Logon))
      (links : List (ℕ × LinkState Talk)) (left : List (List ℕ)) → number < 2 ^ 32 →
      step_of (member_at (logons_keeping plan caller how info place next number (step.Bind c) asked) links (on_turn link)) (event.Bytes link (written (turn_ack number))) now left
      ≡ whole_step left left (action.Send link (bytes_of_call (turn_request next c) 5840) ∷ [])
      (member_at (logons_keeping plan caller how info place (after next) next (step.Reply (question_of c)) asked) links (on_turn link))
  -- both challenges are known: the link is closed, and the turn that proves the secret is dialled
  pub half : (plan : MemberPlan) (caller : Caller) (info : NetworkInfo) (place next number link now : ℕ) (client server : List ℕ) (asked : List (ℕ × Logon))
      (links : List (ℕ × LinkState Talk)) (left : List (List ℕ)) → number < 2 ^ 32 →
      IsTurnReply (question.Challenge client) (reply.Challenge (record { challenge = server; status = 0 })) →
      step_of (member_at (logons_keeping plan caller standing.Nothing info place next number (step.Reply (question.Challenge client)) asked) links (on_turn link))
      (event.Bytes link (bytes_of_call (turn_response number (reply.Challenge (record { challenge = server; status = 0 }))) 5840)) now left
      ≡ whole_step left left (action.Close link close.CallDone ∷ action.Dial plan.controller ∷ [])
      (member_at (logons_keeping plan caller (standing.Half client server) info place (after next) next (step.Bind (auth_call caller client server)) asked) links (bind_waits next))
  -- the channel stands, at a member with one secret: the link is closed, and the logon's own turn is dialled
  pub opened : (plan : MemberPlan) (caller : Caller) (info : NetworkInfo) (place next number link now flags : ℕ) (client server secret : List ℕ) (asked : List (ℕ × Logon))
      (links : List (ℕ × LinkState Talk)) (left : List (List ℕ)) → number < 2 ^ 32 → (has_flag offered_flags flags && has_flag flags rc4_flag) ≡ true →
      let r : Reply = reply.Authenticate (record { credential = server_credential caller.secret client server; flags = flags; status = 0 }) in
      IsTurnReply question.Authenticate r →
      step_of (member_at (logons_keeping (plan_with (alone secret) plan) caller (standing.Half client server) info place next number (step.Reply question.Authenticate) asked) links (on_turn link))
      (event.Bytes link (bytes_of_call (turn_response number r) 5840)) now left
      ≡ whole_step left left (action.Close link close.CallDone ∷ action.Dial plan.controller ∷ [])
      (member_at (logons_keeping (plan_with (alone secret) plan) caller (standing.Open (after_call (fresh_channel caller.secret client server offered_flags) (timestamp_of now))) info place (after next) next
      (step.Bind (logon_call caller (fresh_channel caller.secret client server offered_flags) (timestamp_of now) (record info { logon_id = place }))) asked) links (bind_waits next))
  -- any other reply, by what the channel makes of it
  pub replied : (plan : MemberPlan) (caller : Caller) (how : Standing) (info : NetworkInfo) (place next number link now : ℕ) (q : Question) (r : Reply) (asked : List (ℕ × Logon))
      (links : List (ℕ × LinkState Talk)) (left : List (List ℕ)) → number < 2 ^ 32 → IsTurnReply q r →
      let logons : Logons = logons_keeping plan caller how info place next number (step.Reply q) asked in
      let taking : Taking = settle (judge q r how caller.secret) logons.channel in
      let work : Work = record { logons = logons; links = links; actions = [] } in
      let after_unit : TurnServed = do_taken taking.taken None (with_work (at_turn link work) (with_requester work taking.state)) in
      after_unit.1 ≡ None →
      step_of (member_at logons links (on_turn link)) (event.Bytes link (bytes_of_call (turn_response number r) 5840)) now left
      ≡ step_by actions_in state_in halted_state left (next_turn now (after_unit.0.work, dialling.Nothing) left)
