-- Lists: what holds at each place, one of the items with its place, lists cut at two places, the first that passes, and
-- things that differ pairwise.
use Rattle.std.proofs.Common.{◌≡◌, ◌≢◌, ◌⊎◌, ℕ, zero, suc, ◌<◌, Bool, true, false, cond, List, [], ◌∷◌, ◌++◌, find, inl, inr, Option, Some, slice_get, get_or, refl, sym, ap, ap₂, ◌∙◌, subst, arith}
use Rattle.std.specs.Prelude.{AllPairs}
use Rattle.std.specs.List.{AllByRecursion}
use Rattle.std.proofs.lemmas.Option.{get_or_from_slice_get, slice_get_within}
use Rattle.wire_base.specs.Lists.{OneOf}
use Rattle.wire_base.proofs.ListLaws.{got_nothing, not_both, some_is}

-- ---- lists and places

pub all_by_place : {T : Type 0} (P : T → Type 0) (items : List T) → ((k : ℕ) (item : T) → slice_get items k ≡ Some item → P item) → AllByRecursion P items
all_by_place P [] each = tt
all_by_place P (first ∷ items) each = (each zero first refl, all_by_place P items (λ k item there. each (suc k) item there))

-- an item of which `P` holds, with its place
pub record Placed {T : Type 0} (P : T → Type 0) (items : List T) : Type 0 where
  pub place : ℕ
  pub item : T
  pub there : slice_get items place ≡ Some item
  pub is : P item

pub placed : {T : Type 0} (P : T → Type 0) (items : List T) → OneOf P items → Placed P items
placed P [] one = absurd one
placed P (first ∷ items) one = elim one [
  | inl here ↦ record { place = zero; item = first; there = refl; is = here }
  | inr later ↦ let found : Placed P items = placed P items later in record { place = suc found.place; item = found.item; there = found.there; is = found.is }
]

pub one_at : {T : Type 0} (P : T → Type 0) (items : List T) (k : ℕ) (item : T) → slice_get items k ≡ Some item → P item → OneOf P items
one_at P [] k item there is = absurd (got_nothing k item there)
one_at P (first ∷ items) zero item there is = inl (subst P (sym (some_is first item there)) is)
one_at P (first ∷ items) (suc k) item there is = inr (one_at P items k item there is)

-- a list cut at two of its places
pub record Cut {T : Type 0} (items : List T) (one other : T) : Type 0 where
  pub later : List T
  pub between : List T
  pub earlier : List T
  pub is : items ≡ later ++ one ∷ (between ++ other ∷ earlier)

pub record CutOnce {T : Type 0} (items : List T) (item : T) : Type 0 where
  pub later : List T
  pub earlier : List T
  pub is : items ≡ later ++ item ∷ earlier

pub cut_once : {T : Type 0} (items : List T) (k : ℕ) (item : T) → slice_get items k ≡ Some item → CutOnce items item
cut_once [] k item there = absurd (got_nothing k item there)
cut_once (first ∷ items) zero item there = record { later = []; earlier = items; is = ap (λ (f : _). f ∷ items) (some_is first item there) }
cut_once (first ∷ items) (suc k) item there =
    let cut : CutOnce items item = cut_once items k item there in record { later = first ∷ cut.later; earlier = cut.earlier; is = ap (λ (rest : _). first ∷ rest) cut.is }

pub cut_twice : {T : Type 0} (items : List T) (k l : ℕ) (one other : T) → k < l → slice_get items k ≡ Some one → slice_get items l ≡ Some other → Cut items one other
cut_twice [] k l one other before here there = absurd (got_nothing k one here)
cut_twice (first ∷ items) zero zero one other before here there = absurd (omega (arith, before))
cut_twice (first ∷ items) (suc k) zero one other before here there = absurd (omega (arith, before))
cut_twice (first ∷ items) zero (suc l) one other before here there =
    let cut : CutOnce items other = cut_once items l other there in
    record { later = []; between = cut.later; earlier = cut.earlier; is = ap₂ (λ (f : _) (rest : _). f ∷ rest) (some_is first one here) cut.is }
cut_twice (first ∷ items) (suc k) (suc l) one other before here there =
    let cut : Cut items one other = cut_twice items k l one other (omega (arith, before)) here there in
    record { later = first ∷ cut.later; between = cut.between; earlier = cut.earlier; is = ap (λ (rest : _). first ∷ rest) cut.is }

pub ordered : (k l : ℕ) → (k < l) ⊎ ((l < k) ⊎ (k ≡ l))
ordered zero zero = inr (inr refl)
ordered zero (suc l) = inl (omega arith)
ordered (suc k) zero = inr (inl (omega arith))
ordered (suc k) (suc l) = elim (ordered k l) [
  | inl before ↦ inl (omega (arith, before))
  | inr other ↦ elim other [ inl behind ↦ inr (inl (omega (arith, behind))) | inr same ↦ inr (inr (ap suc same)) ]
]

-- the first that passes
pub record FirstFound {T : Type 0} (test : T → Bool) (items : List T) (found : Option T) : Type 0 where
  pub place : ℕ
  pub item : T
  pub there : slice_get items place ≡ Some item
  pub passes : test item ≡ true
  pub is : found ≡ Some item

pub first_by : {T : Type 0} (passes : Bool) (test : T → Bool) (first : T) (items : List T) (k : ℕ) (item : T) → test first ≡ passes → slice_get (first ∷ items) k ≡ Some item → test item ≡ true →
    ((n : ℕ) → slice_get items n ≡ Some item → FirstFound test items (find test items)) → FirstFound test (first ∷ items) (cond passes (Some first) (find test items))
first_by true test first items k item is there passes later = record { place = zero; item = first; there = refl; passes = is; is = refl }
first_by false test first items zero item is there passes later = absurd (not_both (test first) (ap test (some_is first item there) ∙ passes) is)
first_by false test first items (suc k) item is there passes later =
    let found : FirstFound test items (find test items) = later k there in
    record { place = suc found.place; item = found.item; there = found.there; passes = found.passes; is = found.is }

pub first_found : {T : Type 0} (test : T → Bool) (items : List T) (k : ℕ) (item : T) → slice_get items k ≡ Some item → test item ≡ true → FirstFound test items (find test items)
first_found test [] k item there passes = absurd (got_nothing k item there)
first_found test (first ∷ items) k item there passes = first_by (test first) test first items k item refl there passes (λ n here. first_found test items n item here passes)

-- what is found is one that passes
pub found_by : {T : Type 0} (passes : Bool) (test : T → Bool) (first : T) (items : List T) (item : T) → test first ≡ passes → cond passes (Some first) (find test items) ≡ Some item →
    (find test items ≡ Some item → FirstFound test items (Some item)) → FirstFound test (first ∷ items) (Some item)
found_by true test first items item is found later =
    let same : first ≡ item = some_is first item found in record { place = zero; item = first; there = refl; passes = is; is = ap Some (sym same) }
found_by false test first items item is found later =
    let one : FirstFound test items (Some item) = later found in record { place = suc one.place; item = one.item; there = one.there; passes = one.passes; is = one.is }

pub found_is : {T : Type 0} (test : T → Bool) (items : List T) (item : T) → find test items ≡ Some item → FirstFound test items (Some item)
found_is test [] item found = absurd (let x = found in cc)
found_is test (first ∷ items) item found = found_by (test first) test first items item refl found (λ there. found_is test items item there)

-- of things that differ pairwise in something, two that are alike in it are one
pub apart_same : {T X : Type 0} (of : T → X) (items : List T) → AllPairs (λ (one other : T). of one ≢ of other) items → (k l : ℕ) (one other : T) → slice_get items k ≡ Some one →
    slice_get items l ≡ Some other → of one ≡ of other → one ≡ other
apart_same of items apart k l one other here there same =
    let stands : (n : ℕ) (item : _) → slice_get items n ≡ Some item → get_or items n one ≡ item = λ n item is. get_or_from_slice_get items n item one is in
    elim (ordered k l) [
      | inl before ↦ absurd (apart k l one before (slice_get_within items l other there) (ap of (stands k one here) ∙ same ∙ sym (ap of (stands l other there))))
      | inr rest ↦ elim rest [
        | inl behind ↦ absurd (apart l k one behind (slice_get_within items k one here) (ap of (stands l other there) ∙ sym same ∙ sym (ap of (stands k one here))))
        | inr place ↦ some_is one other (sym here ∙ ap (λ (n : ℕ). slice_get items n) place ∙ there)
      ]
    ]
