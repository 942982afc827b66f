-- Lists: one of the items, all of them, each two of them, and what stands at a place.
use Rattle.std.proofs.Common.{◌≡◌, ◌⊎◌, ℕ, zero, suc, Bool, true, false, List, [], ◌∷◌, ◌++◌, length, inl, inr, Some, None, slice_get, refl, ap, arith}
use Rattle.std.specs.Prelude.{AllPairs}
use Rattle.std.specs.List.{AllByRecursion}
use Rattle.std.proofs.lemmas.List.Elements.{All-from_recursion}
use Rattle.wire_base.specs.Lists.{OneOf}

-- ---- one of them

-- `None` is no `Some`
pub no_some : {T : Type 0} (item : T) → None ≡ Some item → ⊥
no_some item is = cc

-- a flag is not both `true` and `false`
pub not_both : (flag : Bool) → flag ≡ true → flag ≡ false → ⊥
not_both flag is isnt = cc

pub some_is : {T : Type 0} (one other : T) → Some one ≡ Some other → one ≡ other
some_is one other is = cc

pub one_weaker : {T : Type 0} (P Q : T → Type 0) (items : List T) → ((item : T) → P item → Q item) → OneOf P items → OneOf Q items
one_weaker P Q [] so one = one
one_weaker P Q (item ∷ items) so one = elim one [ inl here ↦ inl (so item here) | inr there ↦ inr (one_weaker P Q items so there) ]

pub one_more : {T : Type 0} (P : T → Type 0) (items : List T) (last : T) → OneOf P items → OneOf P (items ++ last ∷ [])
one_more P [] last one = absurd one
one_more P (item ∷ items) last one = elim one [ inl here ↦ inl here | inr there ↦ inr (one_more P items last there) ]

pub one_last : {T : Type 0} (P : T → Type 0) (items : List T) (last : T) → P last → OneOf P (items ++ last ∷ [])
one_last P [] last is = inl is
one_last P (item ∷ items) last is = inr (one_last P items last is)

pub one_before : {T : Type 0} (P : T → Type 0) (items more : List T) → OneOf P items → OneOf P (items ++ more)
one_before P [] more one = absurd one
one_before P (item ∷ items) more one = elim one [ inl here ↦ inl here | inr there ↦ inr (one_before P items more there) ]

pub one_behind : {T : Type 0} (P : T → Type 0) (items more : List T) → OneOf P more → OneOf P (items ++ more)
one_behind P [] more one = one
one_behind P (item ∷ items) more one = inr (one_behind P items more one)

-- what holds of all holds of that one
pub one_found : {T : Type 0} (P Q : T → Type 0) (items : List T) → AllByRecursion Q items → OneOf P items → (item : T) × P item × Q item
one_found P Q [] all one = absurd one
one_found P Q (item ∷ items) all one = elim one [ inl here ↦ (item, here, all.0) | inr there ↦ one_found P Q items all.1 there ]

-- where a fact of one item and a fact of all give a third, one item has the third
pub one_with : {T : Type 0} (P Q R : T → Type 0) (items : List T) → ((item : T) → P item → Q item → R item) → AllByRecursion P items → OneOf Q items → OneOf R items
one_with P Q R [] so all one = one
one_with P Q R (item ∷ items) so all one = elim one [ inl here ↦ inl (so item all.0 here) | inr there ↦ inr (one_with P Q R items so all.1 there) ]

pub all_weaker : {T : Type 0} (P Q : T → Type 0) (items : List T) → ((item : T) → P item → Q item) → AllByRecursion P items → AllByRecursion Q items
all_weaker P Q [] so all = tt
all_weaker P Q (item ∷ items) so all = (so item all.0, all_weaker P Q items so all.1)

-- ---- each two of them, and places

pub pairs_first : {T : Type 0} (R : T → T → Type 0) (item : T) (items : List T) → AllByRecursion (R item) items → AllPairs R items → AllPairs R (item ∷ items)
pairs_first R item items first later zero zero d before within = absurd (omega arith)
pairs_first R item items first later zero (suc j) d before within = All-from_recursion (R item) items first j d (omega arith)
pairs_first R item items first later (suc i) zero d before within = absurd (omega arith)
pairs_first R item items first later (suc i) (suc j) d before within = later i j d (omega arith) (omega arith)

-- what stands at a place of a list with one more item: it stood there before, or it is the last
pub at_end : {T : Type 0} (items : List T) (last item : T) (k : ℕ) → slice_get (items ++ last ∷ []) k ≡ Some item →
    (slice_get items k ≡ Some item) ⊎ ((k ≡ length items) × (last ≡ item))
at_end [] last item zero is = inr (refl, cc)
at_end [] last item (suc k) is = absurd cc
at_end (first ∷ items) last item zero is = inl is
at_end (first ∷ items) last item (suc k) is = elim (at_end items last item k is) [ inl old ↦ inl old | inr new ↦ inr (ap suc new.0, new.1) ]

pub got_append : {T : Type 0} (items more : List T) (k : ℕ) (item : T) → slice_get items k ≡ Some item → slice_get (items ++ more) k ≡ Some item
got_append [] more k item there = absurd cc
got_append (first ∷ items) more zero item there = there
got_append (first ∷ items) more (suc k) item there = got_append items more k item there

pub got_behind : {T : Type 0} (items : List T) (item : T) (more : List T) → slice_get (items ++ item ∷ more) (length items) ≡ Some item
got_behind [] item more = refl
got_behind (first ∷ items) item more = got_behind items item more

pub got_last : {T : Type 0} (items : List T) (item : T) → slice_get (items ++ item ∷ []) (length items) ≡ Some item
got_last items item = got_behind items item []

pub got_nothing : {T : Type 0} (k : ℕ) (item : T) → slice_get [] k ≡ Some item → ⊥
got_nothing zero item is = absurd cc
got_nothing (suc k) item is = absurd cc
