-- The stubs of the memo interface (this project's own interface; C706 14): the reply of WhoAmI, operation 0, whose
-- request's stub is passed over, and the request and the reply of Echo, operation 1.
use Rattle.std.specs.Prelude.{ℕ, ◌+◌, ◌≤◌, ◌==◌, List, length, Result, nat_le}
use Rattle.ndr_codec.specs.declared.refused.NdrRefused.{NdrRefused}
use Rattle.ndr_codec.specs.Layout.{start_of, long, raw, text}
use Rattle.ndr_codec.specs.Parts.{Putting, ◌>>◌}
use Rattle.ndr_codec.specs.Stub.{LayoutOf, item, done, only, placed, ◌>>=◌, parsed_by, told_by_place}
use Rattle.ndr_codec.specs.Writing.{nothing, put}
use Rattle.memo_stubs.specs.declared.refused.MemoRefused.{MemoRefused}
use Rattle.memo_stubs.specs.declared.refused.MemoRefused.TheVariants.{BadStub, Memory}

-- each item that isn't of its layout is told by its place alone
abbrev pub memo_refused : NdrRefused → MemoRefused
memo_refused = told_by_place (λ place. BadStub place) Memory

abbrev pub Layout : Type 0 → Type 1
Layout T = LayoutOf MemoRefused T

-- ---- layouts

-- a status, which is 0; another is refused where it begins
unfoldable pub status_zero : Layout (Unit {0})
status_zero = placed (λ place. do
  status ← item long
  only (status == 0) (BadStub (start_of 4 place)) (done tt))

-- a `string`, the domain, a backslash and the name of who is logged on, and then the status
unfoldable pub who_reply : Layout (List ℕ)
who_reply = do
  name ← item text
  ended ← status_zero
  done name

-- at most 4,096 bytes, behind their count, which is refused where it begins
unfoldable pub echo_request : Layout (List ℕ)
echo_request = placed (λ place. do
  count ← item long
  only (nat_le count 4096) (BadStub (start_of 4 place)) (item (raw count)))

-- at most 4,096 bytes behind their count, and then the status, which is aligned to 4
unfoldable pub echo_reply : Layout (List ℕ)
echo_reply = do
  bytes ← echo_request
  ended ← status_zero
  done bytes

-- ---- what is read of a stub: the value, or the first item that isn't of its layout; what follows the last item is
-- passed over

unfoldable pub who_of : List ℕ → Result (List ℕ) MemoRefused
who_of stub = parsed_by memo_refused (λ name. name) who_reply stub

unfoldable pub echo_request_of : List ℕ → Result (List ℕ) MemoRefused
echo_request_of stub = parsed_by memo_refused (λ bytes. bytes) echo_request stub

unfoldable pub echo_reply_of : List ℕ → Result (List ℕ) MemoRefused
echo_reply_of stub = parsed_by memo_refused (λ bytes. bytes) echo_reply stub

-- ---- the written forms: the bytes of the whole stub

abbrev pub FitsEcho : List ℕ → Type 0
FitsEcho bytes = length bytes ≤ 4096

-- A request's stub has at most its count, of 4 bytes behind 3 that align it, and 4,096 bytes.
abbrev pub echo_request_limit : ℕ
echo_request_limit = 3 + 4 + 4096

-- A reply's stub has at most the same, and its status, of 4 bytes behind 3 that align it.
abbrev pub echo_reply_limit : ℕ
echo_reply_limit = echo_request_limit + 3 + 4

unfoldable pub put_who_reply : List ℕ → Putting
put_who_reply name = put text name >> put long 0

unfoldable pub put_echo_request : List ℕ → Putting
put_echo_request bytes = put long (length bytes) >> put (raw (length bytes)) bytes

unfoldable pub put_echo_reply : List ℕ → Putting
put_echo_reply bytes = put_echo_request bytes >> put long 0

unfoldable pub written_who_reply : List ℕ → List ℕ
written_who_reply name = (put_who_reply name nothing).bytes

unfoldable pub written_echo_request : List ℕ → List ℕ
written_echo_request bytes = (put_echo_request bytes nothing).bytes

unfoldable pub written_echo_reply : List ℕ → List ℕ
written_echo_reply bytes = (put_echo_reply bytes nothing).bytes
