-- Laws of the search for the first item that passes: it goes on where none before the place passes.
use Rattle.std.proofs.Common.{◌≡◌, ℕ, zero, suc, ◌+◌, ◌<◌, Bool, true, false, List, [], ◌∷◌, length, get_or, Some, None, refl, sym, ap, ◌∙◌, arith}
use Rattle.wire_base.specs.Maps.{place_of}

-- no item before the place passes
pub record NoneBefore {A : Type 0} (test : A → Bool) (items : List A) (place : ℕ) : Type 0 where
  pub none : (earlier : ℕ) (d : A) → earlier < place → test (get_or items earlier d) ≡ false

pub none_yet : {A : Type 0} (test : A → Bool) (items : List A) → NoneBefore test items 0
none_yet test items = record { none = λ earlier d lt. absurd (omega arith) }

tail_none : {A : Type 0} (test : A → Bool) (item : A) (items : List A) (place : ℕ) → NoneBefore test (item ∷ items) (suc place) → NoneBefore test items place
tail_none test item items place before = record { none = λ earlier d lt. before.none (suc earlier) d (omega arith) }

-- the item at the place passes, so it is the first that does
pub here_first : {A : Type 0} (test : A → Bool) (items : List A) (place : ℕ) (item : A) → NoneBefore test items place → place < length items → item ≡ get_or items place item → test item ≡ true → place_of test items ≡ Some place
here_first test [] place item before inside is passes = absurd (omega arith)
here_first test (first ∷ items) zero item before inside is passes = let p : test first ≡ true = ap test (sym is) ∙ passes in rw p refl
here_first test (first ∷ items) (suc place) item before inside is passes =
    rw (before.none 0 first (omega arith), here_first test items place item (tail_none test first items place before) (omega arith) is passes) refl

one_more : {A : Type 0} (test : A → Bool) (items : List A) (place : ℕ) (item : A) → NoneBefore test items place → place < length items → item ≡ get_or items place item → test item ≡ false → (earlier : ℕ) (d : A) → earlier < suc place → test (get_or items earlier d) ≡ false
one_more test [] place item before inside is fails earlier d lt = absurd (omega arith)
one_more test (first ∷ items) zero item before inside is fails zero d lt = ap test (sym is) ∙ fails
one_more test (first ∷ items) zero item before inside is fails (suc earlier) d lt = absurd (omega arith)
one_more test (first ∷ items) (suc place) item before inside is fails zero d lt = before.none 0 d (omega arith)
one_more test (first ∷ items) (suc place) item before inside is fails (suc earlier) d lt =
    one_more test items place item (tail_none test first items place before) (omega arith) is fails earlier d (omega arith)

-- the item at the place doesn't pass, so the search goes on behind it
pub none_here : {A : Type 0} (test : A → Bool) (items : List A) (place next : ℕ) (item : A) → NoneBefore test items place → next ≡ place + 1 → place < length items → item ≡ get_or items place item → test item ≡ false → NoneBefore test items next
none_here test items place next item before next-is inside is fails =
    record { none = λ earlier d lt. one_more test items place item before inside is fails earlier d (omega arith) }

-- at the end none passes
pub none_at_all : {A : Type 0} (test : A → Bool) (items : List A) (place : ℕ) → NoneBefore test items place → length items ≡ place → place_of test items ≡ None
none_at_all test [] place before end = refl
none_at_all test (first ∷ items) zero before end = absurd (omega arith)
none_at_all test (first ∷ items) (suc place) before end =
    rw (before.none 0 first (omega arith), none_at_all test items place (tail_none test first items place before) (omega arith)) refl

pub ruleset places = (none_yet, here_first, none_here, none_at_all)
