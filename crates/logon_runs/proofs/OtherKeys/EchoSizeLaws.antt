-- What is echoed has at most 4,096 bytes, whatever stub it was read from, and its reply has a few more.
-- Of `keys_may_differ`.
use Rattle.std.proofs.Common.{◌≡◌, ℕ, ◌≤◌, ◌+◌, Bool, true, false, List, ◌++◌, take, drop, length, Some, None, Result, Ok, Err, refl, ap, arith, if◌then◌else◌}
use Rattle.std.specs.Int.{to_le_bytes, w32}
use Rattle.std.specs.Prelude.{nat_le, replicate}
use Rattle.std.proofs.lemmas.Bool.{leb-true}
use Rattle.std.proofs.lemmas.List.{length-append, length-replicate, length-take}
use Rattle.wire_base.proofs.NumberLaws.{length-to_le_bytes}
use Rattle.ndr_codec.specs.Cursor.{Cursor}
use Rattle.ndr_codec.specs.Layout.{long, padding, raw, start_of}
use Rattle.ndr_codec.specs.Reading.{guarded, item_by, lifted, read, read_on, read_raw, refused_as}
use Rattle.ndr_codec.specs.Stub.{made_of}
use Rattle.ndr_codec.specs.Writing.{aligned}
use Rattle.memo_stubs.specs.declared.refused.MemoRefused.{MemoRefused}
use Rattle.memo_stubs.specs.declared.refused.MemoRefused.TheVariants.{BadStub}
use Rattle.memo_stubs.specs.Memo.{echo_request, echo_request_of, memo_refused, put_echo_reply, put_echo_request, written_echo_reply}

-- ---- what is read

abbrev bytes_of : Result (List ℕ × Cursor) MemoRefused → Result (List ℕ) MemoRefused
bytes_of found = made_of (λ (bytes : List ℕ). bytes) found

value_is : (one other : List ℕ) → ◌≡◌ {A = Result (List ℕ) MemoRefused} (Ok one) (Ok other) → one ≡ other
value_is one other is = cc

-- what is read of a count has no more bytes than the count
raw_fits : (there : Bool) (rest : List ℕ) (count start end : ℕ) (cursor : Cursor) (bytes : List ℕ) →
    bytes_of (refused_as memo_refused (item_by (if there then Some (take count rest) else None) start end cursor)) ≡ Ok bytes → length bytes ≤ count
raw_fits true rest count start end cursor bytes is = omega (arith, ap length (value_is (take count rest) bytes is), length-take count rest)
raw_fits false rest count start end cursor bytes is = absurd cc

-- a count of more than 4,096 is refused
counted_fits : (few : Bool) (count : ℕ) (why : MemoRefused) (cursor : Cursor) (bytes : List ℕ) → nat_le count 4096 ≡ few →
    bytes_of (guarded few why (lifted memo_refused (read (raw count))) cursor) ≡ Ok bytes → length bytes ≤ 4096
unfolding read_raw
counted_fits false count why cursor bytes few is = absurd cc
counted_fits true count why cursor bytes few is =
    omega (
      arith,
      raw_fits (nat_le (cursor.place + count) (length cursor.stub)) (drop cursor.place cursor.stub) count cursor.place (cursor.place + count) cursor bytes is,
      leb-true count 4096 few,
    )

after_count : (count : Result (ℕ × Cursor) MemoRefused) (why : MemoRefused) (bytes : List ℕ) →
    bytes_of (read_on count (λ (n : ℕ). guarded (nat_le n 4096) why (lifted memo_refused (read (raw n))))) ≡ Ok bytes → length bytes ≤ 4096
after_count (Err other) why bytes is = absurd cc
after_count (Ok step) why bytes is = counted_fits (nat_le step.0 4096) step.0 why step.1 bytes refl is

pub echo_fits : (stub bytes : List ℕ) → echo_request_of stub ≡ Ok bytes → length bytes ≤ 4096
unfolding echo_request_of echo_request
echo_fits stub bytes is = after_count (lifted memo_refused (read long) (record { stub = stub; place = 0 })) (BadStub (start_of 4 0)) bytes is

-- ---- what is written

aligned_size : (item : List ℕ) (place : ℕ) → length (aligned 4 item place) ≤ length item + 3
unfolding aligned padding
aligned_size item place = omega (arith, length-append (replicate (padding 4 place) 0) item, length-replicate {A = ℕ} (padding 4 place) 0)

pub echo_reply_size : (bytes : List ℕ) → length (written_echo_reply bytes) ≤ length bytes + 14
unfolding written_echo_reply put_echo_reply put_echo_request
echo_reply_size bytes =
    let count : List ℕ = to_le_bytes w32 (length bytes) in
    let front : List ℕ = aligned 4 count 0 ++ bytes in
    omega (
      arith,
      length-append front (aligned 4 (to_le_bytes w32 0) (length front)),
      length-append (aligned 4 count 0) bytes,
      aligned_size count 0,
      aligned_size (to_le_bytes w32 0) (length front),
      length-to_le_bytes w32 (length bytes),
      length-to_le_bytes w32 0,
    )
