-- The places of logons that were asked and of logons that wait. It serves `what_is_asked_waits`.
use Rattle.std.proofs.Common.{◌≡◌, ◌==◌, ◌&&◌, ◌++◌, ℕ, zero, suc, Bool, true, false, List, [], ◌∷◌, All, Option, Some, None, slice_get, slice_set, refl, sym, ap, subst, ◌∙◌, arith, if◌then◌else◌}
use Rattle.std.proofs.lemmas.Bool.Decides.{Decides-eqb, nat_tests}
use Rattle.std.proofs.lemmas.List.Kept.{AllPairs-cons}
use Rattle.std.specs.List.{AllByRecursion}
use Rattle.wire_base.specs.Maps.{IsMap, has_key, lookup, take_out}
use Rattle.controller_calls.specs.Forwarded.{ForwardedState}
use Rattle.domain_controller.specs.Forwarding.{calls_without}
use Rattle.domain_controller.specs.TrustOrder.{place_if, places_at}
use Rattle.domain_controller.specs.Trusting.{ForwardedCalls, same_place}

-- ---- items

pub set_all : {T : Type 0} (Is : T → Type 0) (items : List T) (at : ℕ) (item : T) → AllByRecursion Is items → Is item → AllByRecursion Is (slice_set items at item)
set_all Is [] at item all is = tt
set_all Is (first ∷ items) zero item all is = (is, all.1)
set_all Is (first ∷ items) (suc at) item all is = (all.0, set_all Is items at item all.1 is)

pub got_all : {T : Type 0} (Is : T → Type 0) (items : List T) (at : ℕ) (item : T) → AllByRecursion Is items → slice_get items at ≡ Some item → Is item
got_all Is [] at item all is = absurd (let x = is in cc)
got_all Is (first ∷ items) zero item all is = let same : first ≡ item = (let x = is in cc) in subst Is same all.0
got_all Is (first ∷ items) (suc at) item all is = got_all Is items at item all.1 is

pub got_other : {T : Type 0} (items : List T) (at other : ℕ) (item : T) → (other == at) ≡ false → slice_get (slice_set items at item) other ≡ slice_get items other
got_other [] at other item differ = refl
got_other (first ∷ items) zero zero item differ = absurd (let x = differ in cc)
got_other (first ∷ items) zero (suc other) item differ = refl
got_other (first ∷ items) (suc at) zero item differ = refl
got_other (first ∷ items) (suc at) (suc other) item differ = got_other items at other item (grind (arith, nat_tests))

-- ---- places, where a logon is asked more, or one less

pub if_append : (b : Bool) (place : ℕ) (places more : List ℕ) → place_if b place places ++ more ≡ place_if b place (places ++ more)
if_append false place places more = refl
if_append true place places more = refl

pub places_pushed : (k trust place : ℕ) (f : ForwardedState) (calls : ForwardedCalls) →
    places_at k (calls ++ ((trust, place), f) ∷ []) ≡ places_at k calls ++ place_if (k == trust) place []
places_pushed k trust place f [] = refl
places_pushed k trust place f (entry ∷ calls) =
    ap (λ (places : List ℕ). place_if (k == entry.0.0) entry.0.1 places) (places_pushed k trust place f calls)
    ∙ sym (if_append (k == entry.0.0) entry.0.1 (places_at k calls) (place_if (k == trust) place []))

pub places_without : (k number : ℕ) (calls : ForwardedCalls) → places_at k (calls_without number calls) ≡ places_at k calls
places_without k number [] = refl
places_without k number (entry ∷ calls) = ap (λ (places : List ℕ). place_if (k == entry.0.0) entry.0.1 places) (places_without k number calls)

own_by : (b : Bool) (trust place : ℕ) (entry : (ℕ × ℕ) × ForwardedState) (calls taken : ForwardedCalls) (rest : List ℕ) → (trust == entry.0.0) ≡ b →
    place_if b entry.0.1 (places_at trust calls) ≡ place ∷ rest → (places_at trust calls ≡ place ∷ rest → places_at trust taken ≡ rest) →
    places_at trust (if b && (place == entry.0.1) then calls else entry ∷ taken) ≡ rest
own_by true trust place entry calls taken rest is places later =
    let first : entry.0.1 ≡ place = (let x = places in cc) in
    let same : (place == entry.0.1) ≡ true = (Decides-eqb place entry.0.1).1 (sym first) in
    ap (λ (hit : Bool). places_at trust (if hit then calls else entry ∷ taken)) same ∙ (let x = places in cc)
own_by false trust place entry calls taken rest is places later =
    ap (λ (b : Bool). place_if b entry.0.1 (places_at trust taken)) is ∙ later places

pub places_taken : (trust place : ℕ) (calls : ForwardedCalls) (rest : List ℕ) → places_at trust calls ≡ place ∷ rest →
    places_at trust (take_out same_place (trust, place) calls) ≡ rest
places_taken trust place [] rest is = absurd (let x = is in cc)
places_taken trust place (entry ∷ calls) rest is =
    own_by (trust == entry.0.0) trust place entry calls (take_out same_place (trust, place) calls) rest refl is (λ later. places_taken trust place calls rest later)

apart_from : (k trust other : ℕ) → (k == trust) ≡ false → (trust == other) ≡ true → (k == other) ≡ false
apart_from k trust other differ same = grind (arith, nat_tests)

other_by : (own here : Bool) (k trust : ℕ) (entry : (ℕ × ℕ) × ForwardedState) (calls taken : ForwardedCalls) → (k == trust) ≡ false → (trust == entry.0.0) ≡ own →
    places_at k taken ≡ places_at k calls → places_at k (if own && here then calls else entry ∷ taken) ≡ places_at k (entry ∷ calls)
other_by true true k trust entry calls taken differ is same =
    sym (ap (λ (b : Bool). place_if b entry.0.1 (places_at k calls)) (apart_from k trust entry.0.0 differ is))
other_by true false k trust entry calls taken differ is same = ap (λ (places : List ℕ). place_if (k == entry.0.0) entry.0.1 places) same
other_by false here k trust entry calls taken differ is same = ap (λ (places : List ℕ). place_if (k == entry.0.0) entry.0.1 places) same

pub places_others : (k trust place : ℕ) (calls : ForwardedCalls) → (k == trust) ≡ false → places_at k (take_out same_place (trust, place) calls) ≡ places_at k calls
places_others k trust place [] differ = refl
places_others k trust place (entry ∷ calls) differ =
    other_by (trust == entry.0.0) (place == entry.0.1) k trust entry calls (take_out same_place (trust, place) calls) differ refl (places_others k trust place calls differ)

there_by : (own here : Bool) (place : ℕ) (entry : (ℕ × ℕ) × ForwardedState) (places rest : List ℕ) (found : Option ForwardedState) → (place == entry.0.1) ≡ here →
    place_if own entry.0.1 places ≡ place ∷ rest → (places ≡ place ∷ rest → found ≡ None → ⊥) → (if own && here then Some entry.1 else found) ≡ None → ⊥
there_by true true place entry places rest found is same later none = absurd (let x = none in cc)
there_by true false place entry places rest found is same later none =
    let first : entry.0.1 ≡ place = (let x = same in cc) in
    absurd (let never : false ≡ true = sym is ∙ (Decides-eqb place entry.0.1).1 (sym first) in cc)
there_by false here place entry places rest found is same later none = later same none

-- a place that waits is found
pub is_there : (trust place : ℕ) (calls : ForwardedCalls) (rest : List ℕ) → places_at trust calls ≡ place ∷ rest → lookup same_place (trust, place) calls ≡ None → ⊥
is_there trust place [] rest is none = absurd (let x = is in cc)
is_there trust place (entry ∷ calls) rest is none =
    there_by (trust == entry.0.0) (place == entry.0.1) place entry (places_at trust calls) rest (lookup same_place (trust, place) calls) refl is
    (λ later absent. is_there trust place calls rest later absent) none

-- ---- what holds of the places alone

module _ (Is : ℕ × ℕ → Type 0) where
  abbrev pub AreSuch : ForwardedCalls → Type 0
  AreSuch calls = AllByRecursion (λ (entry : (ℕ × ℕ) × ForwardedState). Is entry.0) calls

  pub such_without : (number : ℕ) (calls : ForwardedCalls) → AreSuch calls → AreSuch (calls_without number calls)
  such_without number [] all = tt
  such_without number (entry ∷ calls) all = (all.0, such_without number calls all.1)

  pub such_pushed : (calls : ForwardedCalls) (place : ℕ × ℕ) (f : ForwardedState) → AreSuch calls → Is place → AreSuch (calls ++ (place, f) ∷ [])
  such_pushed [] place f all is = (is, tt)
  such_pushed (entry ∷ calls) place f all is = (all.0, such_pushed calls place f all.1 is)

  taken_by : (hit : Bool) (entry : (ℕ × ℕ) × ForwardedState) (calls taken : ForwardedCalls) → AreSuch (entry ∷ calls) → AreSuch taken → AreSuch (if hit then calls else entry ∷ taken)
  taken_by true entry calls taken all rest = all.1
  taken_by false entry calls taken all rest = (all.0, rest)

  pub such_taken : (place : ℕ × ℕ) (calls : ForwardedCalls) → AreSuch calls → AreSuch (take_out same_place place calls)
  such_taken place [] all = tt
  such_taken place (entry ∷ calls) all =
      taken_by (has_key same_place place entry) entry calls (take_out same_place place calls) all (such_taken place calls all.1)

pub such_more : (Is Also : ℕ × ℕ → Type 0) → ((place : ℕ × ℕ) → Is place → Also place) → (calls : ForwardedCalls) → AreSuch Is calls → AreSuch Also calls
such_more Is Also more [] all = tt
such_more Is Also more (entry ∷ calls) all = (more entry.0 all.0, such_more Is Also more calls all.1)

-- ---- no two logons have one place

abbrev pub AreApart : List ℕ → Type 0
AreApart [] = Unit {0}
AreApart (place ∷ places) = AllByRecursion (λ (other : ℕ). (place == other) ≡ false) places × AreApart places

front_by : (b : Bool) (place first : ℕ) (places : List ℕ) → AllByRecursion (λ (other : ℕ). (place == other) ≡ false) (place_if b first places) →
    ((b && (place == first)) ≡ false) × AllByRecursion (λ (other : ℕ). (place == other) ≡ false) places
front_by true place first places all = (all.0, all.1)
front_by false place first places all = (refl, all)

in_front : {T : Type 0} (Is : T → Type 0) (item : T) (items : List T) → Is item → All Is items → All Is (item ∷ items)
in_front Is item items is all zero d within = is
in_front Is item items is all (suc k) d within = all k d (omega arith)

first_apart : (trust place : ℕ) (calls : ForwardedCalls) → AllByRecursion (λ (other : ℕ). (place == other) ≡ false) (places_at trust calls) →
    All (λ (entry : (ℕ × ℕ) × ForwardedState). same_place (trust, place) entry.0 ≡ false) calls
first_apart trust place [] all = λ k d within. absurd (omega arith)
first_apart trust place (entry ∷ calls) all =
    let both = front_by (trust == entry.0.0) place entry.0.1 (places_at trust calls) all in
    in_front (λ (other : (ℕ × ℕ) × ForwardedState). same_place (trust, place) other.0 ≡ false) entry calls both.0 (first_apart trust place calls both.1)

rest_by : (b : Bool) (place : ℕ) (places : List ℕ) → AreApart (place_if b place places) → AreApart places
rest_by false place places all = all
rest_by true place places all = all.1

own_first : (trust : ℕ) (place : ℕ) (places : List ℕ) → AreApart (place_if (trust == trust) place places) → AllByRecursion (λ (other : ℕ). (place == other) ≡ false) places
own_first trust place places all =
    let same : (trust == trust) ≡ true = (Decides-eqb trust trust).1 refl in
    (subst (λ (b : Bool). AreApart (place_if b place places)) same all).0

pub map_from : (calls : ForwardedCalls) → ((trust : ℕ) → AreApart (places_at trust calls)) → IsMap same_place calls
map_from [] all = λ i j d before within. absurd (omega arith)
map_from (entry ∷ calls) all =
    AllPairs-cons (λ one other. same_place one.0 other.0 ≡ false) entry calls
    (first_apart entry.0.0 entry.0.1 calls (own_first entry.0.0 entry.0.1 (places_at entry.0.0 calls) (all entry.0.0)))
    (map_from calls (λ trust. rest_by (trust == entry.0.0) entry.0.1 (places_at trust calls) (all trust)))
