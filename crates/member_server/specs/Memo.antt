-- The operations that a member serves to those who are logged on, those of the memo interface (this project's own
-- interface).
use Rattle.std.specs.Prelude.{ℕ, ◌≤◌, ◌==◌, ◌+◌, ◌*◌, Bool, true, false, nat_le, List, length, Result, Ok, Err}
use Rattle.memo_stubs.specs.declared.refused.MemoRefused.{MemoRefused}
use Rattle.memo_stubs.specs.Memo.{echo_request_of, written_who_reply, written_echo_reply}
use Rattle.rpc_units.specs.Numbers.{nca_op_rng_error, nca_proto_error, rpc_x_bad_stub_data}
use Rattle.member_server.specs.declared.memo.Answer.{Answer}
use Rattle.member_server.specs.declared.memo.Answer.TheVariants as answer

-- ---- the operations: WhoAmI 0, Echo 1

-- the answer to WhoAmI, where the name fits a string; one that a controller gives does
abbrev pub who_answer : (fits : Bool) (name : List ℕ) → Answer
who_answer false name = answer.Fault rpc_x_bad_stub_data
who_answer true name = answer.Stub (written_who_reply name)

abbrev pub echo_answer : Result (List ℕ) MemoRefused → Answer
echo_answer (Err why) = answer.Fault rpc_x_bad_stub_data
echo_answer (Ok bytes) = answer.Stub (written_echo_reply bytes)

-- the answer to a request of the memo interface
abbrev pub memo_answer : (is_who is_echo : Bool) (name stub : List ℕ) → Answer
memo_answer true echo name stub = who_answer (nat_le (length name) 32767) name
memo_answer false true name stub = echo_answer (echo_request_of stub)
memo_answer false false name stub = answer.Fault nca_op_rng_error

-- the answer to a request in a context of the bind
abbrev pub call_answer : (is_accepted : Bool) (opnum : ℕ) (name stub : List ℕ) → Answer
call_answer false opnum name stub = answer.Fault nca_proto_error
call_answer true opnum name stub = memo_answer (opnum == 0) (opnum == 1) name stub

-- The most bytes of a reply's stub: a name of 32,767 units, and 24 bytes around them. It is short enough for the hint
-- of a reply, and for one send.
abbrev pub stub_limit : ℕ
stub_limit = 2 * 32767 + 24

abbrev pub IsShortAnswer : Answer → Type 0
IsShortAnswer (answer.Stub stub) = length stub ≤ stub_limit
IsShortAnswer (answer.Fault status) = Unit {0}
