-- What bounds a world: its moves, its links, the challenges that its moves draw, and what its ends tell (this project's
-- own choice).
use Rattle.std.specs.Prelude.{ℕ, ◌≡◌, ◌≤◌, ◌+◌, ◌*◌, Bool, false, length}
use Rattle.outside.specs.Counter.{most_draws}
use Rattle.outside.specs.declared.event.Event.{Event}
use Rattle.end_links.specs.Bounds.{units_at, units_in_piece}
use Rattle.world_moves.specs.declared.state.State.{State}
use Rattle.world_moves.specs.Bag.{piece_limit}
use Rattle.world_moves.specs.Telling.{IsWithin}
use Rattle.world_moves.specs.World.{move_limit}

-- the most challenges that a step draws at that event: one for each unit, and three more
abbrev pub draws_at : Event → ℕ
draws_at what = units_at what + 3

-- The most challenges that a piece draws: one for each unit that it can end, and three besides.
abbrev pub piece_draws : ℕ
piece_draws = units_in_piece piece_limit + 3

-- The most that a unit of the bag draws, which comes in nine pieces at most.
abbrev pub unit_draws : ℕ
unit_draws = 9 * piece_draws

-- The most that a move draws, beside three for each link that it closes: what a unit of the bag draws, and 2,782 more.
-- In 100,000 moves that is fewer than 2^32.
abbrev pub draw_limit : ℕ
draw_limit = unit_draws + 2782

-- At most `most` challenges were drawn from the one state to the other, and three more for each link that isn't open
-- any more: where an end closes it, the end at its other side hears of it, and may draw three.
abbrev pub DrawsWithin : (most : ℕ) → State → State → Type 0
DrawsWithin most old new =
    length old.chances.left + 3 * length new.open_links ≤ length new.chances.left + 3 * length old.open_links + most

-- Challenges are left for `moves` moves, whichever they are: what each draws at most, and three for each link that is
-- open now and may be closed in one of them.
abbrev pub HasChallengesFor : (moves : ℕ) → State → Type 0
HasChallengesFor moves s = draw_limit * moves + 3 * length s.open_links ≤ length s.chances.left

-- At most 100,000 moves are made. A move makes one link at most, draws so many of the challenges at most, and tells no
-- more than it may.
pub record IsBounded (s : State) (moves : ℕ) (stopped : Bool) : Type 0 where
  pub few : moves ≤ move_limit
  pub links : stopped ≡ false → length s.links ≤ moves
  pub draws : stopped ≡ false → most_draws + 3 * length s.open_links ≤ length s.chances.left + draw_limit * moves
  pub told : stopped ≡ false → IsWithin s moves
