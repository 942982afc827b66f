-- A turn goes through, whichever call it makes.
-- Of `turns_go_through`.
use Rattle.std.proofs.Common.{◌≡◌, ◌==◌, ℕ, zero, suc, ◌≤◌, ◌<◌, ◌^◌, take, drop, nat_le, inl, inr, Bool, true, false, List, [], ◌∷◌, ◌++◌, length, map, Option, Some, None, Result, Ok, refl, sym, ap, ap₂, ◌∙◌, arith}
use Rattle.std.specs.List.{flat_map}
use Rattle.outside.specs.declared.action.Action.TheVariants as action
use Rattle.rpc_units.specs.declared.unit.Unit.{Unit as RpcUnit}
use Rattle.rpc_units.specs.declared.refused.UnitRefused.{UnitRefused}
use Rattle.rpc_units.specs.declared.refused.JoinRefused.{JoinRefused}
use Rattle.rpc_units.specs.Calls.{bytes_of_call, CanBeSent}
use Rattle.rpc_units.specs.Joining.{answer_of, fragment, fragments_of, joined_of, stub_size, open_after, cut_of, stub_of}
use Rattle.rpc_units.specs.Reading.{unit_of}
use Rattle.rpc_units.specs.Stream.{cut_stream}
use Rattle.rpc_units.specs.Writing.{written, IsSendable}
use Rattle.rpc_units.proofs.CuttingLaws.{call_short}
use Rattle.rpc_units.proofs.ShortLaws.{written_short}
use Rattle.rpc_units.proofs.WritingLaws.{length_written}
use Rattle.std.proofs.lemmas.Bool.{cases_Bool}
use Rattle.std.proofs.lemmas.List.{length-append}
use Rattle.logon_stubs.specs.declared.calls.Call.{Call}
use Rattle.logon_stubs.specs.declared.calls.Call.TheVariants as call
use Rattle.logon_stubs.specs.declared.calls.Reply.{Reply}
use Rattle.logon_stubs.specs.declared.refused.StubRefused.{StubRefused}
use Rattle.logon_stubs.specs.Calls.{reply_of}
use Rattle.logon_stubs.specs.Writing.{written_call, written_reply}
use Rattle.logon_stubs.specs.Calls.{opnum_of_call}
use Rattle.logon_stubs.proofs.WrittenLaws.{call_of-written_call, reply_of-written_reply, written_call-content, written_call-lt, written_reply-lt}
use Rattle.end_links.specs.Binding.{bind_of}
use Rattle.end_links.specs.Sending.{frames_of, joined_frames, request_of}
use Rattle.end_links.specs.Serving.{JoinsCall, IsFragmentOf, ServedPart, served_cut}
use Rattle.end_links.proofs.BindingLaws.{bind_short, bind_writable}
use Rattle.end_links.proofs.ServingLaws.{units_served}
use Rattle.logon_stubs.specs.Interface.{netlogon_syntax}
use Rattle.channel_client.specs.declared.state.Question.{Question}
use Rattle.channel_client.specs.declared.state.Step.TheVariants as step
use Rattle.channel_client.specs.declared.answers.Taken.TheVariants as taken
use Rattle.channel_client.specs.Machine.{act, judge, hear_by, hear_reply, question_of, settle, take_of, wait_for}
use Rattle.channel_client.specs.State.{Requester}
use Rattle.domain_controller.specs.declared.state.Talk.{Talk}
use Rattle.domain_controller.specs.declared.hearing.Heard.{Heard}
use Rattle.domain_controller.specs.declared.hearing.Heard.TheVariants as heard
use Rattle.controller_calls.specs.declared.line.Line.{Line}
use Rattle.domain_controller.specs.Hearing.{bound_talk, first_talk, hear_joined, hear_netlogon, hear_number, hear_opnum, hear_read, hear_stub, hear_whole, served_call}
use Rattle.secret_change.specs.Calls.{set_opnum}
use Rattle.domain_controller.specs.Machine.{Desk, by_call, by_heard, controller_server, desk, goes_on, tell}
use Rattle.member_server.specs.Turns.{AtTurn, take_by, turn_by_join, turn_server, turn_talk, turn_unit}
use Rattle.logon_steps.specs.Turning.{IsTurnCall, IsTurnReply, TurnsGoThrough, turn_ack, turn_agreed, turn_at, turn_request, turn_response}
use Rattle.logon_steps.proofs.StreamLaws.{none_open, read_again, same, served_one}

-- ---- the units can be sent

pub turn_bind_sends : (number : ℕ) → number < 2 ^ 32 → IsSendable (bind_of netlogon_syntax number)
turn_bind_sends number below = record {
  writable = bind_writable netlogon_syntax number;
  range = record { call = below; body = (omega arith, omega arith, omega arith, ((omega arith, (refl, omega arith), ((refl, omega arith), tt)), tt)); trailer = tt };
  short = bind_short netlogon_syntax number refl;
}

pub turn_ack_sends : (number : ℕ) → number < 2 ^ 32 → IsSendable (turn_ack number)
turn_ack_sends number below = record {
  writable = record { pieces = (refl, refl); counts = tt; value = tt };
  range = record { call = below; body = (omega arith, omega arith, omega arith, ((omega arith, omega arith, (refl, omega arith)), tt)); trailer = tt };
  short = written_short (turn_ack number) refl (omega arith, (refl, tt));
}

opnum_below : (c : Call) → opnum_of_call c < 2 ^ 16
opnum_below (call.Logon value) = omega arith
opnum_below (call.Logoff value) = omega arith
opnum_below (call.Challenge value) = omega arith
opnum_below (call.Authenticate value) = omega arith

pub request_sends : (number : ℕ) (c : Call) → number < 2 ^ 32 → IsTurnCall c → CanBeSent (turn_request number c) 5840
request_sends number c below is = record {
  whole = record { stub = tt; first = refl; last = refl };
  range = record { call = below; body = (let short = written_call-lt c is.writes is.range in omega arith, omega arith, opnum_below c); trailer = tt };
  value = tt;
  least = omega arith;
  room = omega arith;
}

pub request_joins : (number : ℕ) (c : Call) → IsTurnCall c → length (stub_of (turn_request number c).body) ≤ 65536
request_joins number c is = omega (arith, written_call-content c is.writes is.range, is.short)

pub response_sends : (number : ℕ) (q : Question) (r : Reply) → number < 2 ^ 32 → IsTurnReply q r → CanBeSent (turn_response number r) 5840
response_sends number q r below is = record {
  whole = record { stub = tt; first = refl; last = refl };
  range = record { call = below; body = (let short = written_reply-lt r is.writes is.range in omega arith, omega arith); trailer = tt };
  value = tt;
  least = omega arith;
  room = omega arith;
}

-- ---- the units of a turn come in one piece each

some_first : (most : ℕ) (unit : RpcUnit) (size : ℕ) (first : Bool) (stub : List ℕ) →
    (one : RpcUnit) × (others : List RpcUnit) × (fragments_of most unit size first stub ≡ one ∷ others)
some_first zero unit size first stub = (fragment unit first true stub, [], refl)
some_first (suc most) unit size first stub =
    elim (cases_Bool (nat_le (length stub) size)) [
      | inl fits ↦ (fragment unit first true stub, [], rw fits refl)
      | inr longer ↦ (fragment unit first false (take size stub), fragments_of most unit size false (drop size stub), rw longer refl)
    ]

pub call_some : (call : RpcUnit) (limit : ℕ) → 0 < length (bytes_of_call call limit)
unfolding cut_of
call_some call limit =
    let found = some_first (length (stub_of call.body)) call (stub_size limit) true (stub_of call.body) in
    let is : length (bytes_of_call call limit) ≡ length (written found.0 ++ flat_map written found.1) =
    ap (λ (units : List RpcUnit). length (flat_map written units)) found.2 in
    omega (arith, is, length-append (written found.0) (flat_map written found.1), length_written found.0)

pub record ComesAtOnce (bytes : List ℕ) : Type 0 where
  pub some : 0 < length bytes
  pub short : length bytes ≤ 65536

pub request_comes : (number : ℕ) (c : Call) → IsTurnCall c → ComesAtOnce (bytes_of_call (turn_request number c) 5840)
request_comes number c is = record {
  some = call_some (turn_request number c) 5840;
  short = omega (arith, call_short (turn_request number c) 5840 tt (omega arith) (omega arith), written_call-content c is.writes is.range, is.short);
}

pub response_comes : (number : ℕ) (q : Question) (r : Reply) → IsTurnReply q r → ComesAtOnce (bytes_of_call (turn_response number r) 5840)
response_comes number q r is = record {
  some = call_some (turn_response number r) 5840;
  short = omega (arith, call_short (turn_response number r) 5840 tt (omega arith) (omega arith), is.short);
}

pub unit_comes : (unit : RpcUnit) → IsSendable unit → ComesAtOnce (written unit)
unit_comes unit sends = record { some = omega (arith, length_written unit); short = omega (arith, sends.short) }

-- ---- a controller

bind_heard : (name : List ℕ) (now link number : ℕ) (d : Desk) (left : List (List ℕ)) → number < 2 ^ 32 →
    served_cut (controller_server name now link) (cut_stream (written (bind_of netlogon_syntax number))) d first_talk left
    ≡ goes_on (desk d.table (tell d.work (action.Send link (written (turn_ack number))))) (bound_talk None turn_agreed) left
bind_heard name now link number d left below =
    let sends : IsSendable (bind_of netlogon_syntax number) = turn_bind_sends number below in
    served_one (controller_server name now link) (bind_of netlogon_syntax number) d first_talk left sends
    ∙ ap (λ (unit : Result RpcUnit UnitRefused). by_heard (hear_read unit link first_talk) link name now d left) (read_again (bind_of netlogon_syntax number) sends)

-- fragments of the call are joined
abbrev pub hears_whole : List ℕ → ℕ → ℕ → RpcUnit → Desk → List (List ℕ) → ServedPart Desk Talk
hears_whole name now link call d left = by_heard (hear_whole call.body call.call link turn_agreed (bound_talk None turn_agreed)) link name now d left

fragment_heard : (name : List ℕ) (now link number opnum : ℕ) (stub : List ℕ) (bytes : List ℕ) (unit : RpcUnit) (so_far : Option RpcUnit) (d : Desk) (left : List (List ℕ)) →
    unit_of bytes ≡ Ok unit → IsFragmentOf (request_of number 0 opnum stub) unit →
    (controller_server name now link).unit bytes d (bound_talk so_far turn_agreed) left
    ≡ by_heard (hear_joined (answer_of so_far unit) (open_after so_far unit) link turn_agreed) link name now d left
fragment_heard name now link number opnum stub bytes unit so_far d left read of =
    ap (λ (u : Result RpcUnit UnitRefused). by_heard (hear_read u link (bound_talk so_far turn_agreed)) link name now d left) (read ∙ ap (λ (u : RpcUnit). Ok u) of.is)
    ∙ ap (λ (u : RpcUnit). by_heard (hear_joined (answer_of so_far u) (open_after so_far u) link turn_agreed) link name now d left) (sym of.is)

pub joins : (name : List ℕ) (now link number opnum : ℕ) (stub : List ℕ) →
    JoinsCall (controller_server name now link) (request_of number 0 opnum stub) (λ (so_far : Option RpcUnit). bound_talk so_far turn_agreed)
    (hears_whole name now link (request_of number 0 opnum stub))
joins name now link number opnum stub = record {
  before = λ bytes unit so_far d left read of answer.
      fragment_heard name now link number opnum stub bytes unit so_far d left read of
      ∙ ap (λ (a : Result (Option RpcUnit) JoinRefused). by_heard (hear_joined a (open_after so_far unit) link turn_agreed) link name now d left) answer;
  last = λ bytes unit so_far d left read of answer.
      fragment_heard name now link number opnum stub bytes unit so_far d left read of
      ∙ ap₂ (λ (a : Result (Option RpcUnit) JoinRefused) (after : Option RpcUnit). by_heard (hear_joined a after link turn_agreed) link name now d left) answer
      (none_open so_far unit (request_of number 0 opnum stub) answer);
}

-- no call of Netlogon has the number of NetrServerPasswordSet
pub other_number : (c : Call) → (opnum_of_call c == set_opnum) ≡ false
other_number (call.Logon value) = refl
other_number (call.Logoff value) = refl
other_number (call.Challenge value) = refl
other_number (call.Authenticate value) = refl

pub netlogon_heard : (c : Call) (line : Line) (talk : Talk) → hear_netlogon c line talk ≡ heard.Asked line (served_call c) talk
netlogon_heard (call.Logon value) line talk = refl
netlogon_heard (call.Logoff value) line talk = refl
netlogon_heard (call.Challenge value) line talk = refl
netlogon_heard (call.Authenticate value) line talk = refl

call_served : (c : Call) (line : Line) (talk : Talk) (name : List ℕ) (now link : ℕ) (d : Desk) (left : List (List ℕ)) →
    by_heard (hear_netlogon c line talk) link name now d left ≡ by_call (served_call c) line talk name now d left
call_served c line talk name now link d left = ap (λ (what : Heard). by_heard what link name now d left) (netlogon_heard c line talk)

call_heard : (name : List ℕ) (now link number : ℕ) (c : Call) (d : Desk) (left : List (List ℕ)) → number < 2 ^ 32 → IsTurnCall c →
    served_cut (controller_server name now link) (cut_stream (bytes_of_call (turn_request number c) 5840)) d (bound_talk None turn_agreed) left
    ≡ by_call (served_call c) (record { link = link; call = number; context = 0; limit = 5840 }) (bound_talk None turn_agreed) name now d left
call_heard name now link number c d left below is =
    let line : Line = record { link = link; call = number; context = 0; limit = 5840 } in
    let talk : Talk = bound_talk None turn_agreed in
    units_served.call (controller_server name now link) (turn_request number c) 5840 (λ (so_far : Option RpcUnit). bound_talk so_far turn_agreed)
    (hears_whole name now link (turn_request number c)) d left (request_sends number c below is)
    (omega (arith, written_call-content c is.writes is.range, is.short)) (joins name now link number (opnum_of_call c) (written_call c))
    ∙ ap (λ (served : Bool). by_heard (hear_opnum served (opnum_of_call c) (written_call c) line talk) link name now d left) is.served
    ∙ ap (λ (sets : Bool). by_heard (hear_number sets (opnum_of_call c) (written_call c) line talk) link name now d left) (other_number c)
    ∙ ap (λ (read : Result Call StubRefused). by_heard (hear_stub read (opnum_of_call c) (written_call c) line talk) link name now d left) (call_of-written_call c is.writes is.range)
    ∙ call_served c line talk name now link d left

-- ---- a member's channel

ack_taken : (s : Requester) (number place : ℕ) (c : Call) →
    take_of (turn_at number place (step.Bind c) s) (turn_ack number)
    ≡ record { taken = taken.Next tt (frames_of (turn_request s.next_call c) 5840); state = wait_for (turn_at number place (step.Bind c) s) place (step.Reply (question_of c)) }
ack_taken s number place c =
    ap (λ (due : Bool). act (hear_by due (record { number = number; place = place; step = step.Bind c }) (turn_ack number) s.next_call) (turn_at number place (step.Bind c) s)) (same number)

reply_taken : (s : Requester) (number place : ℕ) (q : Question) (r : Reply) → IsTurnReply q r →
    take_of (turn_at number place (step.Reply q) s) (turn_response number r)
    ≡ settle (judge q r s.standing s.caller.secret) (turn_at number place (step.Reply q) s)
reply_taken s number place q r is =
    ap (λ (due : Bool). act (hear_by due (record { number = number; place = place; step = step.Reply q }) (turn_response number r) s.next_call) (turn_at number place (step.Reply q) s)) (same number)
    ∙ ap (λ (opnum : ℕ). act (hear_reply q (reply_of opnum (written_reply r))) (turn_at number place (step.Reply q) s)) (sym is.opnum)
    ∙ ap (λ (read : Result Reply StubRefused). act (hear_reply q read) (turn_at number place (step.Reply q) s)) (reply_of-written_reply r is.writes is.range)

-- it is whole
pub ack_whole : (number : ℕ) → answer_of None (turn_ack number) ≡ Ok (Some (turn_ack number))
unfolding joined_of
ack_whole number = refl

ack_heard : (at : AtTurn) (number : ℕ) (left : List (List ℕ)) → number < 2 ^ 32 →
    served_cut turn_server (cut_stream (written (turn_ack number))) at (turn_talk None) left
    ≡ Ok (record { value = take_by (take_of at.work.logons.channel (turn_ack number)) None at; left = left })
ack_heard at number left below =
    let sends : IsSendable (turn_ack number) = turn_ack_sends number below in
    served_one turn_server (turn_ack number) at (turn_talk None) left sends
    ∙ ap (λ (unit : Result RpcUnit UnitRefused). Ok (record { value = turn_unit unit None at; left = left })) (read_again (turn_ack number) sends)
    ∙ ap (λ (a : Result (Option RpcUnit) JoinRefused). Ok (record { value = turn_by_join a None at; left = left })) (ack_whole number)

pub turn_joins : (call : RpcUnit) →
    JoinsCall turn_server call turn_talk (λ (at : AtTurn) (left : List (List ℕ)). Ok (record { value = take_by (take_of at.work.logons.channel call) None at; left = left }))
turn_joins call = record {
  before = λ bytes unit so_far at left read of answer.
      ap (λ (u : Result RpcUnit UnitRefused). Ok (record { value = turn_unit u so_far at; left = left })) read
      ∙ ap (λ (a : Result (Option RpcUnit) JoinRefused). Ok (record { value = turn_by_join a (open_after so_far unit) at; left = left })) answer;
  last = λ bytes unit so_far at left read of answer.
      ap (λ (u : Result RpcUnit UnitRefused). Ok (record { value = turn_unit u so_far at; left = left })) read
      ∙ ap₂ (λ (a : Result (Option RpcUnit) JoinRefused) (after : Option RpcUnit). Ok (record { value = turn_by_join a after at; left = left })) answer (none_open so_far unit call answer);
}

reply_heard : (at : AtTurn) (number : ℕ) (q : Question) (r : Reply) (left : List (List ℕ)) → number < 2 ^ 32 → IsTurnReply q r →
    served_cut turn_server (cut_stream (bytes_of_call (turn_response number r) 5840)) at (turn_talk None) left
    ≡ Ok (record { value = take_by (take_of at.work.logons.channel (turn_response number r)) None at; left = left })
reply_heard at number q r left below is =
    units_served.call turn_server (turn_response number r) 5840 turn_talk
    (λ (at : AtTurn) (left : List (List ℕ)). Ok (record { value = take_by (take_of at.work.logons.channel (turn_response number r)) None at; left = left }))
    at left (response_sends number q r below is) (omega (arith, is.short)) (turn_joins (turn_response number r))

frames_map : (units : List RpcUnit) → joined_frames (map written units) ≡ flat_map written units
frames_map [] = refl
frames_map (unit ∷ units) = ap (λ (more : List ℕ). written unit ++ more) (frames_map units)

pub frames_sent : (unit : RpcUnit) (limit : ℕ) → joined_frames (frames_of unit limit) ≡ bytes_of_call unit limit
unfolding frames_of
frames_sent unit limit = frames_map (cut_of unit limit)

pub turns_go_through : TurnsGoThrough
turns_go_through = record {
  hears = record { bind = bind_heard; call = call_heard };
  takes = record {
    ack = ack_taken;
    reply = reply_taken;
    ack_heard = ack_heard;
    reply_heard = reply_heard;
    frames = λ number c. frames_sent (turn_request number c) 5840;
  };
}
