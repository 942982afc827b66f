-- Links by their numbers.
use Rattle.std.proofs.Common.{◌≡◌, ℕ, ◌+◌, ◌*◌, ◌<◌, ◌≤◌, List, [], ◌∷◌, length, take, get_or, Option, Some, None, IsSome, refl, sym, ap, subst, ◌∙◌, arith, add-mul, one-mul, inl, inr}
use Rattle.std.proofs.lemmas.Bool.{cases_Bool}
use Rattle.std.proofs.lemmas.List.Sums.{sum_by_more}
use Rattle.std.proofs.lemmas.Nat.{mul-le}
use Rattle.wire_base.specs.Maps.{has_key, lookup, put, take_out, same_number}
use Rattle.wire_base.proofs.MapLaws.{IsMap-put, IsMap-take_out}
use Rattle.wire_base.proofs.NameLaws.{IsSameness-same_number}
use Rattle.end_links.specs.Links.{LinkState, AreLinks, held_on, held_by}

pub links_none : {T : Type 0} (entries : List (ℕ × T)) → entries ≡ [] → AreLinks entries
links_none [] is = record { few = omega arith; distinct = λ i j d before within. absurd (omega arith) }
links_none (entry ∷ entries) is = absurd cc

-- ---- an entry is taken out

len_taken : {T : Type 0} (key : ℕ) (entries : List (ℕ × T)) → length (take_out same_number key entries) ≤ length entries
len_taken key [] = omega arith
len_taken key (entry ∷ entries) =
    elim (cases_Bool (has_key same_number key entry)) [
      | inl pass ↦ rw pass (omega arith)
      | inr fail ↦ let less = len_taken key entries in rw fail (omega arith)
    ]

len_found : {T : Type 0} (key : ℕ) (entries : List (ℕ × T)) (value : T) → lookup same_number key entries ≡ Some value → length (take_out same_number key entries) < length entries
len_found key [] value found = absurd cc
len_found key (entry ∷ entries) value found =
    elim (cases_Bool (has_key same_number key entry)) [
      | inl pass ↦ rw pass (omega arith)
      | inr fail ↦ let less = len_found key entries value (rw fail at found) in rw fail (omega arith)
    ]

len_if_found : {T : Type 0} (key : ℕ) (entries : List (ℕ × T)) (found : Option T) → found ≡ lookup same_number key entries → IsSome found → length (take_out same_number key entries) < length entries
len_if_found key entries None is some = absurd cc
len_if_found key entries (Some value) is some = len_found key entries value (sym is)

pub links_taken : {T : Type 0} (key : ℕ) (entries rest : List (ℕ × T)) → rest ≡ take_out same_number key entries → AreLinks entries → AreLinks rest
links_taken key entries rest is links =
    subst (λ xs. AreLinks xs) (sym is) (record {
      few = let less = len_taken key entries in let few = links.few in omega arith;
      distinct = IsMap-take_out same_number key entries links.distinct;
    })

pub room_taken : {T : Type 0} (key : ℕ) (entries rest : List (ℕ × T)) (found : Option T) → rest ≡ take_out same_number key entries → found ≡ lookup same_number key entries → AreLinks entries → IsSome found → length rest < 256
room_taken key entries rest found is value links some =
    let less = len_if_found key entries found value some in
    let few = links.few in
    subst (λ xs. length xs < 256) (sym is) (omega arith)

-- ---- an entry is put

len_put : {T : Type 0} (key : ℕ) (value : T) (entries : List (ℕ × T)) → length (put same_number key value entries) ≤ 1 + length entries
len_put key value [] = omega arith
len_put key value (entry ∷ entries) =
    elim (cases_Bool (has_key same_number key entry)) [
      | inl pass ↦ rw pass (omega arith)
      | inr fail ↦ let less = len_put key value entries in rw fail (omega arith)
    ]

pub links_put : {T : Type 0} (key : ℕ) (value : T) (entries all : List (ℕ × T)) → all ≡ put same_number key value entries → AreLinks entries → length entries < 256 → AreLinks all
links_put key value entries all is links room =
    subst (λ xs. AreLinks xs) (sym is) (record {
      few = let less = len_put key value entries in omega arith;
      distinct = IsMap-put same_number key value entries IsSameness-same_number links.distinct;
    })

-- ---- the bytes held

pub held_none : {T : Type 0} (said : T → ℕ) (links : List (ℕ × LinkState T)) → held_by said (take 0 links) ≡ 0
held_none said [] = refl
held_none said (link ∷ links) = refl

pub held_more : {T : Type 0} (said : T → ℕ) (links : List (ℕ × LinkState T)) (i : ℕ) (link : ℕ × LinkState T) → i < length links → link ≡ get_or links i link →
    held_by said (take (i + 1) links) ≡ held_by said (take i links) + (length link.1.rest + said link.1.talk)
held_more said links i link within is = sum_by_more (held_on said) links i link within ∙ ap (λ x. held_by said (take i links) + held_on said x) (sym is)

-- one link more, and as many as may be
pub most_more : (links held more most : ℕ) → held ≤ links * most → more ≤ most → held + more ≤ (links + 1) * most
most_more links held more most so_far one = omega (arith, add-mul links 1 most, one-mul most)

pub most_all : (links held most : ℕ) → links ≤ 256 → held ≤ links * most → held ≤ 256 * most
most_all links held most few so_far = omega (arith, mul-le links most 256 most few (omega arith))

pub ruleset holding = (held_none, held_more, most_more, most_all)
