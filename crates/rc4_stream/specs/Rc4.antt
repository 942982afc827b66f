-- RC4 (MS-NLMP 6; RFC 6229 has values of it), for which there is no description but its steps. A table is a list of the
-- numbers 0 to 255 in some order, a key a list of 1 to 256 bytes, and sums are taken modulo 256.
use Rattle.std.specs.Prelude.{ℕ, zero, suc, ◌+◌, ◌%◌, List, [], ◌∷◌, length, slice_index, swap, bit_xor}
use Rattle.std.specs.List.{range_with_len}

-- what a contract sees of a stream: its key, and how many of its bytes have been used
pub record Stream : Type 0 where
  pub key : List ℕ
  pub used : ℕ

-- the table and the place j while the key is scheduled
pub record Shuffle : Type 0 where
  pub table : List ℕ
  pub j : ℕ

-- step i of the schedule: j moves on by entry i and a byte of the key, and entries i and j are exchanged
abbrev pub shuffle : List ℕ → ℕ → Shuffle → Shuffle
shuffle key i s =
    let j = (s.j + slice_index s.table i + slice_index key (i % length key)) % 256 in
    record { table = swap s.table i j; j = j }

-- the first n steps of the schedule, from the table in order
unfoldable pub shuffled : List ℕ → ℕ → Shuffle
shuffled key zero = record { table = range_with_len 0 256; j = 0 }
shuffled key (suc n) = shuffle key n (shuffled key n)

-- the table and the places i and j while bytes are made
pub record State : Type 0 where
  pub table : List ℕ
  pub i : ℕ
  pub j : ℕ

-- i moves on by one and j by entry i, and entries i and j are exchanged
abbrev pub next_state : State → State
next_state s =
    let i = (s.i + 1) % 256 in
    let j = (s.j + slice_index s.table i) % 256 in
    record { table = swap s.table i j; i = i; j = j }

-- the key byte of a state: the entry at the sum of entries i and j
abbrev pub byte_of : State → ℕ
byte_of s = slice_index s.table ((slice_index s.table s.i + slice_index s.table s.j) % 256)

-- the state after n bytes of a key
unfoldable pub state_after : List ℕ → ℕ → State
state_after key zero = record { table = (shuffled key 256).table; i = 0; j = 0 }
state_after key (suc n) = next_state (state_after key n)

-- byte n of the key stream, counted from 0
unfoldable pub key_byte : List ℕ → ℕ → ℕ
key_byte key n = byte_of (state_after key (n + 1))

-- bytes combined by exclusive or with the bytes of the key stream from number `used` on
unfoldable pub applied : List ℕ → ℕ → List ℕ → List ℕ
applied key used [] = []
applied key used (b ∷ bs) = bit_xor b (key_byte key used) ∷ applied key (used + 1) bs
