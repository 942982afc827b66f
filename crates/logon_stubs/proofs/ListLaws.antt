-- Entries of an array, put and read one after the other.
use Rattle.std.proofs.Common.{◌≡◌, ℕ, zero, suc, ◌+◌, ◌^◌, ◌<◌, ◌≤◌, true, List, [], ◌∷◌, ◌++◌, length, take, drop, get_or, Result, Ok, Err, refl, sym, ap, subst, ◌∙◌, add-one, arith, append_assoc}
use Rattle.std.specs.List.{AllByRecursion}
use Rattle.std.proofs.lemmas.List.{at_drop_more, at_drop_all, append-nil}
use Rattle.ndr_codec.specs.declared.refused.NdrRefused.{NdrRefused}
use Rattle.ndr_codec.specs.Cursor.{Cursor}
use Rattle.ndr_codec.specs.Layout.{long, sid, pointer}
use Rattle.ndr_codec.specs.Parts.{Putting}
use Rattle.ndr_codec.specs.Reading.{read_on}
use Rattle.ndr_codec.specs.Stub.{LayoutOf, reading_by, each, put_all, behind}
use Rattle.ndr_codec.specs.Writing.{Written, put}
use Rattle.ndr_codec.proofs.PartLaws.{both_of_all}
use Rattle.wire_base.specs.Sid.{SidParts}
use Rattle.logon_stubs.specs.Ranges.{InRangeGroup, InRangeSid, InRangeExtra}
use Rattle.logon_stubs.specs.Writing.{put_groups, put_extra_entry, put_extra_entries, put_extra_sid, put_extra_sids}

-- ---- putting

-- one fewer is left
all_step : {T : Type 0} (putting : T → Putting) (list : List T) (i : ℕ) (item : T) (written : Written) → i < length list → item ≡ get_or list i item → put_all putting (drop (i + 1) list) (putting item written) ≡ put_all putting (drop i list) written
all_step {T = T} putting list i item written lt is =
    ap (λ (x : T). put_all putting (drop (i + 1) list) (putting x written)) is
    ∙ sym (at_drop_more (λ (rest : List T). put_all putting rest written) list i item lt)

-- one group fewer is left
pub put_groups_step : (list : List (ℕ × ℕ)) (i : ℕ) (written : Written) → i < length list → put_groups (drop (i + 1) list) (put long (get_or list i (0, 0)).1 (put long (get_or list i (0, 0)).0 written)) ≡ put_groups (drop i list) written
put_groups_step list i written lt = sym (at_drop_more (λ (rest : List (ℕ × ℕ)). put_groups rest written) list i (0, 0) lt)

-- one extra identifier fewer is left
pub put_extra_entries_step : (list : List (SidParts × ℕ)) (i : ℕ) (item : SidParts × ℕ) (written : Written) → i < length list → item ≡ get_or list i item → put_extra_entries (drop (i + 1) list) (put long item.1 (put pointer true written)) ≡ put_extra_entries (drop i list) written
put_extra_entries_step list i item written lt is = all_step put_extra_entry list i item written lt is

pub put_extra_sids_step : (list : List (SidParts × ℕ)) (i : ℕ) (item : SidParts × ℕ) (written : Written) → i < length list → item ≡ get_or list i item → put_extra_sids (drop (i + 1) list) (put sid item.0 written) ≡ put_extra_sids (drop i list) written
put_extra_sids_step list i item written lt is = all_step put_extra_sid list i item written lt is

-- ---- ranges

-- one more is such

such_suc : {T : Type 0} (Is : T → Type 0) (list : List T) (i : ℕ) (none : T) → AllByRecursion Is (take i list) → Is (get_or list i none) → AllByRecursion Is (take (suc i) list)
such_suc Is [] i none all one = tt
such_suc Is (first ∷ more) zero none all one = (one, tt)
such_suc Is (first ∷ more) (suc i) none all one = (all.0, such_suc Is more i none all.1 one)

pub such_more : {T : Type 0} (Is : T → Type 0) (list : List T) (i : ℕ) (none : T) → AllByRecursion Is (take i list) → Is (get_or list i none) → AllByRecursion Is (take (i + 1) list)
such_more {T = T} Is list i none all one = subst (λ (n : ℕ). AllByRecursion Is (take n list)) (sym (add-one i)) (such_suc Is list i none all one)

-- all are at the end
such_end : {T : Type 0} (Is : T → Type 0) (list : List T) (i : ℕ) → length list ≤ i → AllByRecursion Is (take i list) → AllByRecursion Is list
such_end Is [] i le all = tt
such_end Is (first ∷ more) zero le all = absurd (omega (arith, le))
such_end Is (first ∷ more) (suc i) le all = (all.0, such_end Is more i (omega (arith, le)) all.1)

pub attributes_more : (list : List (SidParts × ℕ)) (i : ℕ) (item : SidParts × ℕ) → item ≡ get_or list i item → AllByRecursion (λ extra. extra.1 < 2 ^ 32) (take i list) → item.1 < 2 ^ 32 → AllByRecursion (λ extra. extra.1 < 2 ^ 32) (take (i + 1) list)
attributes_more list i item is all one = such_more (λ extra. extra.1 < 2 ^ 32) list i item all (subst (λ (extra : SidParts × ℕ). extra.1 < 2 ^ 32) is one)

pub sids_more : (list : List (SidParts × ℕ)) (i : ℕ) (item : SidParts × ℕ) → item ≡ get_or list i item → AllByRecursion (λ extra. InRangeSid extra.0) (take i list) → InRangeSid item.0 → AllByRecursion (λ extra. InRangeSid extra.0) (take (i + 1) list)
sids_more list i item is all one = such_more (λ extra. InRangeSid extra.0) list i item all (subst (λ (extra : SidParts × ℕ). InRangeSid extra.0) is one)

pub ranges_more : (list : List (ℕ × ℕ)) (i : ℕ) → AllByRecursion InRangeGroup (take i list) → InRangeGroup (get_or list i (0, 0)) → AllByRecursion InRangeGroup (take (i + 1) list)
ranges_more list i all one = such_more InRangeGroup list i (0, 0) all one

pub ranges_end : (list : List (ℕ × ℕ)) (i : ℕ) → length list ≤ i → AllByRecursion InRangeGroup (take i list) → AllByRecursion InRangeGroup list
ranges_end list i le all = such_end InRangeGroup list i le all

pub attributes_end : (list : List (SidParts × ℕ)) (i : ℕ) → length list ≤ i → AllByRecursion (λ extra. extra.1 < 2 ^ 32) (take i list) → AllByRecursion (λ extra. extra.1 < 2 ^ 32) list
attributes_end list i le all = such_end (λ extra. extra.1 < 2 ^ 32) list i le all

pub sids_end : (list : List (SidParts × ℕ)) (i : ℕ) → length list ≤ i → AllByRecursion (λ extra. InRangeSid extra.0) (take i list) → AllByRecursion (λ extra. InRangeSid extra.0) list
sids_end list i le all = such_end (λ extra. InRangeSid extra.0) list i le all

-- identifiers and attributes that have their ranges each
pub both_ranges : (list : List (SidParts × ℕ)) → AllByRecursion (λ extra. InRangeSid extra.0) list → AllByRecursion (λ extra. extra.1 < 2 ^ 32) list → AllByRecursion InRangeExtra list
both_ranges list sids attributes = both_of_all (λ extra. InRangeSid extra.0) (λ extra. extra.1 < 2 ^ 32) list sids attributes

pub ruleset putting = (put_groups_step, ranges_more, ranges_end)

pub ruleset putting_extra = (put_extra_entries_step, put_extra_sids_step, attributes_end, sids_end)

-- ---- reading a layout for each of some values

abbrev first_of_all : {E T : Type 0} → T → Result (List T × Cursor) E → Result (List T × Cursor) E
first_of_all x rest = read_on rest (λ more. λ cursor. Ok (x ∷ more, cursor))

behind_more : {E T : Type 0} (front : List T) (x : T) (rest : Result (List T × Cursor) E) → behind (front ++ x ∷ []) rest ≡ behind front (first_of_all x rest)
behind_more {T = T} front x (Ok step) = ap (λ (l : List T). Ok (l, step.1)) (append_assoc front (x ∷ []) step.0)
behind_more front x (Err refused) = refl

module _ {E A T : Type 0} (told : NdrRefused → E) (layout : A → LayoutOf E T) where
  abbrev rest_of : List A → Cursor → Result (List T × Cursor) E
  rest_of list cursor = reading_by told (each layout list) cursor

  -- one fewer is left
  pub each_step : (list : List A) (i : ℕ) (none : A) (cursor next : Cursor) (x : T) (front : List T) → i < length list → reading_by told (layout (get_or list i none)) cursor ≡ Ok (x, next) → behind (front ++ x ∷ []) (rest_of (drop (i + 1) list) next) ≡ behind front (rest_of (drop i list) cursor)
  each_step list i none cursor next x front lt here =
      let one : rest_of (get_or list i none ∷ drop (i + 1) list) cursor ≡ first_of_all x (rest_of (drop (i + 1) list) next) = rw here refl in
      behind_more front x (rest_of (drop (i + 1) list) next)
      ∙ ap (behind front) (sym one)
      ∙ ap (behind front) (sym (at_drop_more (λ (rest : List A). rest_of rest cursor) list i none lt))

  -- one item of the list is refused
  pub each_refused : (list : List A) (i : ℕ) (none : A) (cursor : Cursor) (refused : E) (front : List T) → i < length list → reading_by told (layout (get_or list i none)) cursor ≡ Err refused → behind front (rest_of (drop i list) cursor) ≡ Err refused
  each_refused list i none cursor refused front lt here =
      let one : rest_of (get_or list i none ∷ drop (i + 1) list) cursor ≡ Err refused = rw here refl in
      ap (behind front) (at_drop_more (λ (rest : List A). rest_of rest cursor) list i none lt) ∙ ap (behind front) one

  -- none is left
  pub each_end : (list : List A) (i : ℕ) (cursor : Cursor) (front : List T) → length list ≤ i → behind front (rest_of (drop i list) cursor) ≡ Ok (front, cursor)
  each_end list i cursor front le =
      ap (behind front) (at_drop_all (λ (rest : List A). rest_of rest cursor) list i le)
      ∙ ap (λ (l : List T). Ok (l, cursor)) (append-nil front)

pub each_nil : {E T : Type 0} (rest : Result (List T × Cursor) E) → behind [] rest ≡ rest
each_nil (Ok step) = refl
each_nil (Err refused) = refl

pub ruleset reading_each = (each_step, each_refused, each_end, each_nil)
