-- Laws of lists of TOML values, item by item.
use Rattle.std.proofs.Common.{◌≡◌, ℕ, ◌<◌, ◌≤◌, true, false, List, [], ◌∷◌, ◌++◌, length, Option, Some, None, is_some, refl, ap, arith}
use Rattle.std.specs.List.{cons_option}
use Rattle.std.proofs.lemmas.Bool.{le-leb, lt-leb}
use Rattle.std.proofs.lemmas.List.{append_assoc, append-nil}
use Rattle.toml.specs.Data.{Data, Members, as_table}
use Rattle.toml.specs.View.{view, items_view}
use Rattle.toml.specs.declared.value.Value.{Value}
use Rattle.account_table.specs.Forms.{each, with_front, only_if, at_most, some_but_few}
use Rattle.account_table.specs.Listing.{entries_of}

-- the values so far, and those of the rest
abbrev pub prefixed : {T : Type 0} → List T → Option (List T) → Option (List T)
prefixed front None = None
prefixed front (Some rest) = Some (front ++ rest)

pub prefixed_more : {T : Type 0} (front : List T) (o : Option T) (x : T) (rest : Option (List T)) → o ≡ Some x → prefixed (front ++ x ∷ []) rest ≡ prefixed front (with_front o rest)
prefixed_more front o x None e = rw e refl
prefixed_more front o x (Some rest) e = rw e (ap (λ (xs : List _). Some xs) (append_assoc front (x ∷ []) rest))

pub prefixed_bad : {T : Type 0} (front : List T) (o : Option T) (rest : Option (List T)) → o ≡ None → prefixed front (with_front o rest) ≡ None
prefixed_bad front o rest e = rw e refl

pub prefixed_end : {T : Type 0} (front : List T) → prefixed front (Some []) ≡ Some front
prefixed_end front = ap (λ (xs : List _). Some xs) (append-nil front)

pub prefixed-nil : {T : Type 0} (o : Option (List T)) → prefixed [] o ≡ o
prefixed-nil None = refl
prefixed-nil (Some xs) = refl

-- ---- how many items there are

with_front-Some : {T : Type 0} (o : Option T) (rest : Option (List T)) (xs : List T) → with_front o rest ≡ Some xs → (x : T) × ((more : List T) × ((rest ≡ Some more) × (xs ≡ x ∷ more)))
with_front-Some None rest xs e = absurd cc
with_front-Some (Some x) None xs e = absurd cc
with_front-Some (Some x) (Some more) xs e = (x, (more, (refl, cc)))

pub length-each : {T : Type 0} (form : Data → Option T) (values : List Value) (xs : List T) → each form (items_view values) ≡ Some xs → length xs ≡ length values
length-each form [] xs e = let nil : xs ≡ [] = cc in rw nil refl
length-each form (value ∷ values) xs e =
    let parts = with_front-Some (form (view value)) (each form (items_view values)) xs e in
    let more = length-each form values parts.1.0 parts.1.1.0 in
    rw parts.1.1.1 (omega (arith, more))

few_by : {T : Type 0} (limit : ℕ) (o : Option (List T)) (count : ℕ) → ((xs : List T) → o ≡ Some xs → length xs ≡ count) → count ≤ limit → only_if (at_most limit) o ≡ o
few_by limit None count same few = refl
few_by limit (Some xs) count same few =
    let here = same xs refl in
    let lt : length xs ≤ limit = omega arith in
    rw (le-leb _ _ lt) refl

many_by : {T : Type 0} (limit : ℕ) (o : Option (List T)) (count : ℕ) → ((xs : List T) → o ≡ Some xs → length xs ≡ count) → limit < count → only_if (at_most limit) o ≡ None
many_by limit None count same many = refl
many_by limit (Some xs) count same many =
    let here = same xs refl in
    let gt : limit < length xs = omega arith in
    rw (lt-leb _ _ gt) refl

-- a list that is short enough is judged by its items
pub only_if-each_few : {T : Type 0} (limit : ℕ) (form : Data → Option T) (values : List Value) → length values ≤ limit → only_if (at_most limit) (each form (items_view values)) ≡ each form (items_view values)
only_if-each_few limit form values few = few_by limit (each form (items_view values)) (length values) (length-each form values) few

-- a list of more items than the limit is refused
pub only_if-each_many : {T : Type 0} (limit : ℕ) (form : Data → Option T) (values : List Value) → limit < length values → only_if (at_most limit) (each form (items_view values)) ≡ None
only_if-each_many limit form values many = many_by limit (each form (items_view values)) (length values) (length-each form values) many

-- ---- lists that have an item, and not too many

some_by : {T : Type 0} (limit : ℕ) (o : Option (List T)) (count : ℕ) → ((xs : List T) → o ≡ Some xs → length xs ≡ count) → 1 ≤ count → count ≤ limit → only_if (some_but_few limit) o ≡ o
some_by limit None count same one few = refl
some_by limit (Some xs) count same one few =
    let here = same xs refl in
    let least : 1 ≤ length xs = omega arith in
    let most : length xs ≤ limit = omega arith in
    rw (le-leb _ _ least, le-leb _ _ most) refl

no_one_by : {T : Type 0} (limit : ℕ) (o : Option (List T)) (count : ℕ) → ((xs : List T) → o ≡ Some xs → length xs ≡ count) → count < 1 → only_if (some_but_few limit) o ≡ None
no_one_by limit None count same none = refl
no_one_by limit (Some xs) count same none =
    let here = same xs refl in
    let lt : length xs < 1 = omega arith in
    rw (lt-leb _ _ lt) refl

too_many_by : {T : Type 0} (limit : ℕ) (o : Option (List T)) (count : ℕ) → ((xs : List T) → o ≡ Some xs → length xs ≡ count) → 1 ≤ count → limit < count → only_if (some_but_few limit) o ≡ None
too_many_by limit None count same one many = refl
too_many_by limit (Some xs) count same one many =
    let here = same xs refl in
    let least : 1 ≤ length xs = omega arith in
    let gt : limit < length xs = omega arith in
    rw (le-leb _ _ least, lt-leb _ _ gt) refl

pub only_if-each_some : {T : Type 0} (limit : ℕ) (form : Data → Option T) (values : List Value) → 1 ≤ length values → length values ≤ limit → only_if (some_but_few limit) (each form (items_view values)) ≡ each form (items_view values)
only_if-each_some limit form values one few = some_by limit (each form (items_view values)) (length values) (length-each form values) one few

pub only_if-each_none : {T : Type 0} (limit : ℕ) (form : Data → Option T) (values : List Value) → length values < 1 → only_if (some_but_few limit) (each form (items_view values)) ≡ None
only_if-each_none limit form values none = no_one_by limit (each form (items_view values)) (length values) (length-each form values) none

pub only_if-each_more : {T : Type 0} (limit : ℕ) (form : Data → Option T) (values : List Value) → 1 ≤ length values → limit < length values → only_if (some_but_few limit) (each form (items_view values)) ≡ None
only_if-each_more limit form values one many = too_many_by limit (each form (items_view values)) (length values) (length-each form values) one many

-- ---- tables

pub is_some-with_front : {T : Type 0} (o : Option T) (rest : Option (List T)) → is_some o ≡ true → is_some (with_front o rest) ≡ is_some rest
is_some-with_front None rest e = absurd cc
is_some-with_front (Some x) None e = refl
is_some-with_front (Some x) (Some rest) e = refl

pub is_some-with_front_bad : {T : Type 0} (o : Option T) (rest : Option (List T)) → is_some o ≡ false → is_some (with_front o rest) ≡ false
is_some-with_front_bad None rest e = refl
is_some-with_front_bad (Some x) rest e = absurd cc

entry_by : (o : Option Members) (rest : Option (List Members)) (more : List Members) → is_some (with_front o rest) ≡ true → (is_some rest ≡ true → rest ≡ Some more) → with_front o rest ≡ Some (cons_option o more)
entry_by None rest more e h = absurd cc
entry_by (Some x) None more e h = absurd cc
entry_by (Some x) (Some ys) more e h = let here = h refl in cc

-- where each value is a table, these are the tables
pub each-entries_of : (values : List Value) → is_some (each as_table (items_view values)) ≡ true → each as_table (items_view values) ≡ Some (entries_of values)
each-entries_of [] e = refl
each-entries_of (value ∷ values) e = entry_by (as_table (view value)) (each as_table (items_view values)) (entries_of values) e (each-entries_of values)

pub length-entries_of : (values : List Value) → is_some (each as_table (items_view values)) ≡ true → length (entries_of values) ≡ length values
length-entries_of values e = length-each as_table values (entries_of values) (each-entries_of values e)

none_from_is_some : {T : Type 0} (o : Option T) → is_some o ≡ false → o ≡ None
none_from_is_some None e = refl
none_from_is_some (Some x) e = absurd cc

-- where one isn't, there are none
pub each-not_tables : (values : List Value) → is_some (each as_table (items_view values)) ≡ false → each as_table (items_view values) ≡ None
each-not_tables values e = none_from_is_some _ e

-- for `grind`: the steps of the loops over values
pub ruleset listing = (prefixed_more, prefixed_bad, prefixed_end, prefixed-nil, only_if-each_few, only_if-each_many, only_if-each_some, only_if-each_none, only_if-each_more, is_some-with_front, is_some-with_front_bad, each-entries_of, length-entries_of, each-not_tables)
