-- The bag of a world: all units that ends sent each other, in order (this project's own choice).
use Rattle.std.specs.Prelude.{ℕ, zero, suc, ◌≡◌, ◌≤◌, ◌<◌, Bool, true, false, not, List, [], ◌∷◌, take, drop, length, get_or, All, Option, Some, None, slice_get, slice_set}
use Rattle.std.specs.List.{AllByRecursion}
use Rattle.wire_base.specs.Maps.{place_of}
use Rattle.wire_base.specs.Numbers.{AreBytes}
use Rattle.end_links.specs.Bounds.{send_limit}
use Rattle.world_moves.specs.declared.bag.BagUnit.{BagUnit}

-- a unit that was neither delivered nor lost
abbrev pub is_waiting : BagUnit → Bool
is_waiting unit = not unit.is_settled

-- the number of the oldest unit that is
abbrev pub first_waiting : List BagUnit → Option ℕ
first_waiting bag = place_of is_waiting bag

abbrev pub settled : BagUnit → BagUnit
settled unit = record unit { is_settled = true }

abbrev pub settle_by : Option BagUnit → ℕ → List BagUnit → List BagUnit
settle_by None number bag = bag
settle_by (Some unit) number bag = slice_set bag number (settled unit)

-- that unit is delivered or lost
abbrev pub settle_at : ℕ → List BagUnit → List BagUnit
settle_at number bag = settle_by (slice_get bag number) number bag

-- all before that place were delivered or lost
pub record AreSettled (count : ℕ) (bag : List BagUnit) : Type 0 where
  pub inside : count ≤ length bag
  pub none : (earlier : ℕ) (d : BagUnit) → earlier < count → is_waiting (get_or bag earlier d) ≡ false

-- each unit has no more bytes than an end sends at once
abbrev pub AreShortUnits : List BagUnit → Type 0
AreShortUnits bag = All (λ unit. length unit.bytes ≤ send_limit) bag

-- each unit has bytes
abbrev pub HaveBytes : List BagUnit → Type 0
HaveBytes bag = All (λ unit. AreBytes unit.bytes) bag

-- ---- how bytes come

-- the most bytes of one event
abbrev pub piece_limit : ℕ
piece_limit = 65536

-- each piece has no more bytes than one event
abbrev pub AreShortPieces : List (List ℕ) → Type 0
AreShortPieces pieces = AllByRecursion (λ (piece : List ℕ). length piece ≤ piece_limit) pieces

-- the pieces of that length, of which the last has what is left; at most so many
abbrev pub pieces_in : ℕ → List ℕ → List (List ℕ)
pieces_in most [] = []
pieces_in zero (byte ∷ bytes) = []
pieces_in (suc most) (byte ∷ bytes) = take piece_limit (byte ∷ bytes) ∷ pieces_in most (drop piece_limit (byte ∷ bytes))

-- there are no more pieces than bytes
unfoldable pub pieces_of : List ℕ → List (List ℕ)
pieces_of bytes = pieces_in (length bytes) bytes
