-- Maps as lists of entries, a key and a value each (this project's own choice). `same` tells whether two keys are the
-- same, as `same_name` does of names; the first entry of a key counts.
use Rattle.std.specs.Prelude.{ℕ, suc, ◌≡◌, ◌==◌, Bool, true, false, List, [], ◌∷◌, ◌++◌, Option, Some, None, slice_set, if◌then◌else◌}
use Rattle.std.specs.Option.{option_map}
use Rattle.std.specs.List.{AllPairs}

-- the place of the first item that passes, counted from 0
abbrev pub place_of : {T : Type 0} → (T → Bool) → List T → Option ℕ
place_of test [] = None
place_of test (item ∷ items) = if test item then Some 0 else option_map suc (place_of test items)

-- an entry has this key
abbrev pub has_key : {A K V : Type 0} → (A → K → Bool) → A → K × V → Bool
has_key same key entry = same key entry.0

-- the value of a key
abbrev pub lookup : {A K V : Type 0} → (A → K → Bool) → A → List (K × V) → Option V
lookup same key [] = None
lookup same key (entry ∷ entries) = if has_key same key entry then Some entry.1 else lookup same key entries

-- the entry put in place of the first of its key, or at the end
abbrev pub put : {K V : Type 0} → (K → K → Bool) → K → V → List (K × V) → List (K × V)
put same key value [] = (key, value) ∷ []
put same key value (entry ∷ entries) = if has_key same key entry then (key, value) ∷ entries else entry ∷ put same key value entries

-- the entries without the first of a key
abbrev pub take_out : {A K V : Type 0} → (A → K → Bool) → A → List (K × V) → List (K × V)
take_out same key [] = []
take_out same key (entry ∷ entries) = if has_key same key entry then entries else entry ∷ take_out same key entries

-- the items with this one at the place, or at the end
abbrev pub put_item : {T : Type 0} → Option ℕ → T → List T → List T
put_item None item items = items ++ item ∷ []
put_item (Some place) item items = slice_set items place item

-- no key has two entries
abbrev pub IsMap : {K V : Type 0} → (K → K → Bool) → List (K × V) → Type 0
IsMap same entries = AllPairs (λ one other. same one.0 other.0 ≡ false) entries

-- ---- sameness of keys

-- an equivalence
pub record IsSameness {K : Type 0} (same : K → K → Bool) : Type 0 where
  pub reflexive : (key : K) → same key key ≡ true
  pub symmetric : (one other : K) → same one other ≡ true → same other one ≡ true
  pub transitive : (one other third : K) → same one other ≡ true → same other third ≡ true → same one third ≡ true

-- numbers are the same where they are equal
abbrev pub same_number : ℕ → ℕ → Bool
same_number one other = one == other
