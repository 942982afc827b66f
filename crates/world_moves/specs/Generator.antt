-- The moves that a number makes (this project's own choice). The number goes on by a linear congruence modulo 2^64, and
-- what is drawn are its upper 31 bits.
use Rattle.std.specs.Prelude.{ℕ, zero, suc, ◌+◌, ◌*◌, ◌/◌, ◌%◌, ◌^◌, nat_le, List, [], ◌∷◌, if◌then◌else◌}
use Rattle.world_moves.specs.declared.moves.Move.{Move}
use Rattle.world_moves.specs.declared.moves.Move.TheVariants.{Start, Connect, FailDial, Onward, Lose, Deliver, Shut, Restart, Tick}

-- the number after a draw, and what the draw gives
unfoldable pub next_seed : ℕ → ℕ
next_seed seed = (seed * 6364136223846793005 + 1442695040888963407) % 2 ^ 64

unfoldable pub value_of : ℕ → ℕ
value_of seed = seed / 2 ^ 33

-- a move, and the number after it
pub record Making : Type 0 where
  pub what : Move
  pub after : ℕ

abbrev pub making : Move → ℕ → Making
making what after = record { what = what; after = after }

-- the seldom moves, by a remainder of 16: 0, 1 to 5, 6 to 10, 11 to 15
abbrev pub rare_by : ℕ → ℕ → Making
rare_by kind seed =
    if nat_le kind 0 then making (Restart (value_of (next_seed seed))) (next_seed seed)
    else if nat_le kind 5 then making (Shut (value_of (next_seed seed))) (next_seed seed)
    else if nat_le kind 10 then making FailDial seed
    else making Lose seed

-- a move that draws its own remainder
abbrev pub rare_from : ℕ → Making
rare_from seed = rare_by (value_of (next_seed seed) % 16) (next_seed seed)

-- the moves by a remainder of 16: 0 and 1, 2 to 4, 5 to 12, 13, 14, 15
abbrev pub move_by : ℕ → ℕ → Making
move_by kind seed =
    if nat_le kind 1 then making (Start (value_of (next_seed seed))) (next_seed seed)
    else if nat_le kind 4 then making Connect seed
    else if nat_le kind 12 then making Onward seed
    else if nat_le kind 13 then
    making (Deliver (value_of (next_seed seed)) (value_of (next_seed (next_seed seed)))) (next_seed (next_seed seed))
    else if nat_le kind 14 then making (Tick (value_of (next_seed seed))) (next_seed seed)
    else rare_from seed

-- a move begins with the draw of its remainder
abbrev pub made : ℕ → Making
made seed = move_by (value_of (next_seed seed) % 16) (next_seed seed)

-- as many moves, made from a seed
abbrev pub moves_of : ℕ → ℕ → List Move
moves_of zero seed = []
moves_of (suc count) seed = (made seed).what ∷ moves_of count (made seed).after
