-- What the code's loop does from a state that it is given; proofs lead from here to the words of Rc4.
use Rattle.std.specs.Prelude.{ℕ, zero, suc, List, [], ◌∷◌, bit_xor}
use Rattle.rc4_stream.specs.Rc4.{State, next_state, byte_of}

-- the state of a table and two places
abbrev pub state_at : List ℕ → ℕ → ℕ → State
state_at table i j = record { table = table; i = i; j = j }

-- bytes combined with the key bytes that follow a state
unfoldable pub combined_from : State → List ℕ → List ℕ
combined_from s [] = []
combined_from s (b ∷ bs) = bit_xor b (byte_of (next_state s)) ∷ combined_from (next_state s) bs

-- the state n bytes further on
unfoldable pub advanced : ℕ → State → State
advanced zero s = s
advanced (suc n) s = advanced n (next_state s)
