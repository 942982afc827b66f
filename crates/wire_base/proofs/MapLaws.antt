-- Laws of maps as lists of entries.
use Rattle.std.proofs.Common.{◌≡◌, ℕ, zero, suc, ◌<◌, Bool, true, false, List, [], ◌∷◌, ◌++◌, ◌⊎◌, length, get_or, set, Option, Some, None, refl, sym, ◌∙◌, arith, inl, inr}
use Rattle.std.specs.List.{All, remove}
use Rattle.std.specs.Option.{option_map}
use Rattle.std.proofs.lemmas.Bool.{cases_Bool}
use Rattle.std.proofs.lemmas.List.Elements.{All-nil, All-cons, All-head, All-tail}
use Rattle.wire_base.specs.Maps.{place_of, has_key, lookup, put, put_item, take_out, IsMap, IsSameness}

-- ---- a place

-- the first item that passes stands at the place
pub record IsFirstAt {T : Type 0} (test : T → Bool) (items : List T) (place : ℕ) : Type 0 where
  pub inside : place < length items
  pub passes : (d : T) → test (get_or items place d) ≡ true
  pub before : (earlier : ℕ) (d : T) → earlier < place → test (get_or items earlier d) ≡ false

one_on : (o : Option ℕ) (place : ℕ) → option_map suc o ≡ Some place → (p : ℕ) × (place ≡ suc p) × (o ≡ Some p)
one_on None place e = absurd cc
one_on (Some p) place e = (p, cc, refl)

none_on : (o : Option ℕ) → option_map suc o ≡ None → o ≡ None
none_on None e = refl
none_on (Some p) e = absurd cc

-- where the place of the first that passes is, by the first item
place_cases : {A : Type 0} (test : A → Bool) (item : A) (items : List A) (place : ℕ) → place_of test (item ∷ items) ≡ Some place → ((test item ≡ true) × (place ≡ 0)) ⊎ ((test item ≡ false) × ((p : ℕ) × (place ≡ suc p) × (place_of test items ≡ Some p)))
place_cases test item items place found =
    elim (cases_Bool (test item)) [
      | inl pass ↦ inl (pass, let here : place_of test (item ∷ items) ≡ Some 0 = rw pass refl in cc)
      | inr fail ↦
          let later : place_of test (item ∷ items) ≡ option_map suc (place_of test items) = rw fail refl in
          inr (fail, one_on (place_of test items) place (sym later ∙ found))
    ]

none_cases : {A : Type 0} (test : A → Bool) (item : A) (items : List A) → place_of test (item ∷ items) ≡ None → (test item ≡ false) × (place_of test items ≡ None)
none_cases test item items none =
    elim (cases_Bool (test item)) [
      | inl pass ↦ absurd (let here : place_of test (item ∷ items) ≡ Some 0 = rw pass refl in cc)
      | inr fail ↦
          let later : place_of test (item ∷ items) ≡ option_map suc (place_of test items) = rw fail refl in
          (fail, none_on (place_of test items) (sym later ∙ none))
    ]

-- where no item passes nothing is found
pub place_of-none : {A : Type 0} (test : A → Bool) (items : List A) → All (λ item. test item ≡ false) items → place_of test items ≡ None
place_of-none test [] none = refl
place_of-none test (item ∷ items) none =
    rw (All-head (λ x. test x ≡ false) item items none, place_of-none test items (All-tail (λ x. test x ≡ false) item items none)) refl

-- ---- a map at a place

pub put_at : {K V : Type 0} (same : K → K → Bool) (key : K) (value : V) (entries : List (K × V)) (place : ℕ) → place_of (has_key same key) entries ≡ Some place → put same key value entries ≡ set entries place (key, value)
put_at same key value [] place found = absurd cc
put_at same key value (entry ∷ entries) place found =
    elim (place_cases (has_key same key) entry entries place found) [
      | inl h ↦ rw (h.0, h.1) refl
      | inr h ↦ rw (h.0, h.1.1, put_at same key value entries h.1.0 h.1.2) refl
    ]

pub put_new : {K V : Type 0} (same : K → K → Bool) (key : K) (value : V) (entries : List (K × V)) → place_of (has_key same key) entries ≡ None → put same key value entries ≡ entries ++ (key, value) ∷ []
put_new same key value [] none = refl
put_new same key value (entry ∷ entries) none =
    let parts = none_cases (has_key same key) entry entries none in
    rw (parts.0, put_new same key value entries parts.1) refl

-- an item put at the place of its key is put into the map
pub put_at_place : {K V : Type 0} (same : K → K → Bool) (key : K) (value : V) (entries : List (K × V)) (place : Option ℕ) → place ≡ place_of (has_key same key) entries → put_item place (key, value) entries ≡ put same key value entries
put_at_place same key value entries None here = sym (put_new same key value entries (sym here))
put_at_place same key value entries (Some place) here = sym (put_at same key value entries place (sym here))

pub take_out_at : {A K V : Type 0} (same : A → K → Bool) (key : A) (entries : List (K × V)) (place : ℕ) → place_of (has_key same key) entries ≡ Some place → take_out same key entries ≡ remove entries place
take_out_at same key [] place found = absurd cc
take_out_at same key (entry ∷ entries) place found =
    elim (place_cases (has_key same key) entry entries place found) [
      | inl h ↦ rw (h.0, h.1) refl
      | inr h ↦ rw (h.0, h.1.1, take_out_at same key entries h.1.0 h.1.2) refl
    ]

pub take_out_none : {A K V : Type 0} (same : A → K → Bool) (key : A) (entries : List (K × V)) → place_of (has_key same key) entries ≡ None → take_out same key entries ≡ entries
take_out_none same key [] none = refl
take_out_none same key (entry ∷ entries) none =
    let parts = none_cases (has_key same key) entry entries none in
    rw (parts.0, take_out_none same key entries parts.1) refl

pub lookup_at : {A K V : Type 0} (same : A → K → Bool) (key : A) (entries : List (K × V)) (place : ℕ) (d : K × V) → place_of (has_key same key) entries ≡ Some place → lookup same key entries ≡ Some (get_or entries place d).1
lookup_at same key [] place d found = absurd cc
lookup_at same key (entry ∷ entries) place d found =
    elim (place_cases (has_key same key) entry entries place found) [
      | inl h ↦ rw (h.0, h.1) refl
      | inr h ↦ rw (h.0, h.1.1, lookup_at same key entries h.1.0 d h.1.2) refl
    ]

pub lookup_none : {A K V : Type 0} (same : A → K → Bool) (key : A) (entries : List (K × V)) → place_of (has_key same key) entries ≡ None → lookup same key entries ≡ None
lookup_none same key [] none = refl
lookup_none same key (entry ∷ entries) none =
    let parts = none_cases (has_key same key) entry entries none in
    rw (parts.0, lookup_none same key entries parts.1) refl

-- ---- a map after a change

-- a key that was put has its value
pub lookup-put_same : {K V : Type 0} (same : K → K → Bool) (key : K) (value : V) (entries : List (K × V)) → same key key ≡ true → lookup same key (put same key value entries) ≡ Some value
lookup-put_same same key value [] itself = rw itself refl
lookup-put_same same key value (entry ∷ entries) itself =
    elim (cases_Bool (has_key same key entry)) [
      | inl pass ↦ rw (pass, itself) refl
      | inr fail ↦ rw (fail, fail) (lookup-put_same same key value entries itself)
    ]

-- another key than the one that was put keeps its value, where no key is the same as both
pub lookup-put_other : {K V : Type 0} (same : K → K → Bool) (key other : K) (value : V) (entries : List (K × V)) → ((k : K) → same key k ≡ true → same other k ≡ false) → same other key ≡ false → lookup same other (put same key value entries) ≡ lookup same other entries
lookup-put_other same key other value [] apart differ = rw differ refl
lookup-put_other same key other value (entry ∷ entries) apart differ =
    elim (cases_Bool (has_key same key entry)) [
      | inl pass ↦ rw (pass, differ, apart entry.0 pass) refl
      | inr fail ↦ rw (fail, lookup-put_other same key other value entries apart differ) refl
    ]

pub lookup-take_out_other : {K V : Type 0} (same : K → K → Bool) (key other : K) (entries : List (K × V)) → ((k : K) → same key k ≡ true → same other k ≡ false) → lookup same other (take_out same key entries) ≡ lookup same other entries
lookup-take_out_other same key other [] apart = refl
lookup-take_out_other same key other (entry ∷ entries) apart =
    elim (cases_Bool (has_key same key entry)) [
      | inl pass ↦ rw (pass, apart entry.0 pass) refl
      | inr fail ↦ rw (fail, lookup-take_out_other same key other entries apart) refl
    ]

-- ---- all entries

All-take_out : {K V : Type 0} (P : K × V → Type 0) (same : K → K → Bool) (key : K) (entries : List (K × V)) → All P entries → All P (take_out same key entries)
All-take_out P same key [] each = each
All-take_out P same key (entry ∷ entries) each =
    elim (cases_Bool (has_key same key entry)) [
      | inl pass ↦ rw pass (All-tail P entry entries each)
      | inr fail ↦
          rw fail (All-cons P entry (take_out same key entries) (All-head P entry entries each) (All-take_out P same key entries (All-tail P entry entries each)))
    ]

All-put : {K V : Type 0} (P : K × V → Type 0) (same : K → K → Bool) (key : K) (value : V) (entries : List (K × V)) → P (key, value) → All P entries → All P (put same key value entries)
All-put P same key value [] here each = All-cons P (key, value) [] here each
All-put P same key value (entry ∷ entries) here each =
    elim (cases_Bool (has_key same key entry)) [
      | inl pass ↦ rw pass (All-cons P (key, value) entries here (All-tail P entry entries each))
      | inr fail ↦
          rw fail (All-cons P entry (put same key value entries) (All-head P entry entries each) (All-put P same key value entries here (All-tail P entry entries each)))
    ]

-- ---- distinct keys

IsMap-head : {K V : Type 0} (same : K → K → Bool) (entry : K × V) (entries : List (K × V)) → IsMap same (entry ∷ entries) → All (λ item. same entry.0 item.0 ≡ false) entries
IsMap-head same entry entries map place d within = map 0 (suc place) d (omega arith) (omega arith)

IsMap-tail : {K V : Type 0} (same : K → K → Bool) (entry : K × V) (entries : List (K × V)) → IsMap same (entry ∷ entries) → IsMap same entries
IsMap-tail same entry entries map i j d before within = map (suc i) (suc j) d (omega arith) (omega arith)

IsMap-cons : {K V : Type 0} (same : K → K → Bool) (entry : K × V) (entries : List (K × V)) → All (λ item. same entry.0 item.0 ≡ false) entries → IsMap same entries → IsMap same (entry ∷ entries)
IsMap-cons same entry entries head tail i zero d before within = absurd (omega arith)
IsMap-cons same entry entries head tail zero (suc j) d before within = head j d (omega arith)
IsMap-cons same entry entries head tail (suc i) (suc j) d before within = tail i j d (omega arith) (omega arith)

-- what isn't so is false
false_from : (b : Bool) → (b ≡ true → ⊥) → b ≡ false
false_from b differ = elim (cases_Bool b) [ inl is ↦ absurd (differ is) | inr is ↦ is ]

-- a key that is the same as the first entry's is apart from the others
others_apart : {K V : Type 0} (same : K → K → Bool) (key : K) (entry : K × V) (entries : List (K × V)) → IsSameness same → same key entry.0 ≡ true → All (λ item. same entry.0 item.0 ≡ false) entries → All (λ item. same key item.0 ≡ false) entries
others_apart same key entry entries sameness pass apart place d within =
    false_from _ (λ again.
    let both = sameness.transitive entry.0 key (get_or entries place d).0 (sameness.symmetric key entry.0 pass) again in
    let differ = apart place d within in cc)

-- in a map a key that was taken out has no value
pub lookup-take_out_same : {K V : Type 0} (same : K → K → Bool) (key : K) (entries : List (K × V)) → IsSameness same → IsMap same entries → lookup same key (take_out same key entries) ≡ None
lookup-take_out_same same key [] sameness map = refl
lookup-take_out_same same key (entry ∷ entries) sameness map =
    elim (cases_Bool (has_key same key entry)) [
      | inl pass ↦
          rw pass (lookup_none same key entries (place_of-none (has_key same key) entries (others_apart same key entry entries sameness pass (IsMap-head same entry entries map))))
      | inr fail ↦ rw (fail, fail) (lookup-take_out_same same key entries sameness (IsMap-tail same entry entries map))
    ]

-- keys stay distinct
pub IsMap-take_out : {K V : Type 0} (same : K → K → Bool) (key : K) (entries : List (K × V)) → IsMap same entries → IsMap same (take_out same key entries)
IsMap-take_out same key [] map = map
IsMap-take_out same key (entry ∷ entries) map =
    elim (cases_Bool (has_key same key entry)) [
      | inl pass ↦ rw pass (IsMap-tail same entry entries map)
      | inr fail ↦
          rw fail (IsMap-cons same entry (take_out same key entries) (All-take_out (λ item. same entry.0 item.0 ≡ false) same key entries (IsMap-head same entry entries map)) (IsMap-take_out same key entries (IsMap-tail same entry entries map)))
    ]

pub IsMap-put : {K V : Type 0} (same : K → K → Bool) (key : K) (value : V) (entries : List (K × V)) → IsSameness same → IsMap same entries → IsMap same (put same key value entries)
IsMap-put same key value [] sameness map = IsMap-cons same (key, value) [] (All-nil (λ item. same key item.0 ≡ false)) map
IsMap-put same key value (entry ∷ entries) sameness map =
    elim (cases_Bool (has_key same key entry)) [
      | inl pass ↦
          rw pass (IsMap-cons same (key, value) entries (others_apart same key entry entries sameness pass (IsMap-head same entry entries map)) (IsMap-tail same entry entries map))
      | inr fail ↦
          let apart : same entry.0 key ≡ false = false_from _ (λ again. let back = sameness.symmetric entry.0 key again in cc) in
          rw fail (IsMap-cons same entry (put same key value entries) (All-put (λ item. same entry.0 item.0 ≡ false) same key value entries apart (IsMap-head same entry entries map)) (IsMap-put same key value entries sameness (IsMap-tail same entry entries map)))
    ]

-- ---- the laws, where sameness is an equivalence

-- no key is the same as both of two that differ
apart_from : {K : Type 0} (same : K → K → Bool) (key other : K) → IsSameness same → same key other ≡ false → (k : K) → same key k ≡ true → same other k ≡ false
apart_from same key other sameness differ k is =
    false_from _ (λ again. let both = sameness.transitive key k other is (sameness.symmetric other k again) in cc)

pub put_others : {K V : Type 0} (same : K → K → Bool) (key other : K) (value : V) (entries : List (K × V)) → IsSameness same → same key other ≡ false → lookup same other (put same key value entries) ≡ lookup same other entries
put_others same key other value entries sameness differ =
    lookup-put_other same key other value entries (apart_from same key other sameness differ) (false_from _ (λ again. let back = sameness.symmetric other key again in cc))

pub taken_others : {K V : Type 0} (same : K → K → Bool) (key other : K) (entries : List (K × V)) → IsSameness same → same key other ≡ false → lookup same other (take_out same key entries) ≡ lookup same other entries
taken_others same key other entries sameness differ = lookup-take_out_other same key other entries (apart_from same key other sameness differ)
