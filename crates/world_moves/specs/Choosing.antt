-- What the number of a move chooses: it is taken modulo the count of what there is to choose from (this project's own
-- choice).
use Rattle.std.specs.Prelude.{ℕ, ◌+◌, ◌%◌, ◌==◌, Bool, true, false, List, [], ◌∷◌, ◌++◌, length, Option, Some, None, slice_get, if◌then◌else◌}

abbrev pub place_by : (is_empty : Bool) → ℕ → ℕ → Option ℕ
place_by true number count = None
place_by false number count = Some (number % count)

-- a place among so many, counted from 0
abbrev pub chosen_place : ℕ → ℕ → Option ℕ
chosen_place number count = place_by (count == 0) number count

-- an item of a list; there is none where the list is empty
abbrev pub chosen_in : {T : Type 0} → ℕ → List T → Option T
chosen_in number items = slice_get items (number % length items)

-- the places of the items that pass, in order, where the first item has that place
abbrev pub places_from : {T : Type 0} → (T → Bool) → ℕ → List T → List ℕ
places_from test at [] = []
places_from test at (item ∷ items) = if test item then at ∷ places_from test (at + 1) items else places_from test (at + 1) items

-- the places of the items that pass, counted from 0
abbrev pub places : {T : Type 0} → (T → Bool) → List T → List ℕ
places test items = places_from test 0 items

-- the number behind the others, if it is wanted
abbrev pub pushed_if : Bool → ℕ → List ℕ → List ℕ
pushed_if false number numbers = numbers
pushed_if true number numbers = numbers ++ number ∷ []
