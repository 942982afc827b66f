-- Pairs: the function that reads them and the relation of the grammar agree, and what is written is read back.
use Rattle.std.proofs.Common.{◌≡◌, ℕ, zero, suc, ◌+◌, ◌-◌, ◌^◌, ◌<◌, ◌≤◌, true, eqb, ltb, List, [], ◌∷◌, ◌++◌, length, take, drop, Option, Some, Result, Ok, Err, refl, sym, ap, subst, ◌∙◌, append_assoc, arith, inl, inr}
use Rattle.std.specs.Prelude.{unwrap_or}
use Rattle.std.specs.List.{flat_map}
use Rattle.std.specs.Int.{w16, w64, to_le_bytes, from_le_bytes}
use Rattle.std.proofs.Math.Seq.{drop-drop}
use Rattle.std.proofs.lemmas.Bool.{ltb-true, ltb-false, eqb-true, eqb-false, le-ltb, eq-eqb, ne_eqb, cases_Bool, cases_eq}
use Rattle.std.proofs.lemmas.List.{take_at, take_all, drop_at, take-append-drop, length-append, length-take, length-drop, append-nil, nil_from_length}
use Rattle.std.proofs.lemmas.List.Concat.{flat_map-cons}
use Rattle.wire_base.specs.Numbers.{AreBytes, number_at, u64_of}
use Rattle.wire_base.proofs.NumberLaws.{AreBytes-drop, number_at-inside, number_at-lt, bytes_from-number_at}
use Rattle.ntlm_messages.specs.declared.pairs.PairsRefused.{PairsRefused}
use Rattle.ntlm_messages.specs.declared.pairs.PairsRefused.TheVariants.{NoEnd, CutPair, BadLength, Memory}
use Rattle.ntlm_messages.specs.Fields.{◌>>=◌, short_at}
use Rattle.ntlm_messages.specs.Pairs.{pair_bytes, written_pairs, IsPair, ArePairs, IsPairs, may_have_length, pair_of, pairs_within, pairs_of, pair_value_of, timestamp_pair_of, StopsAt, IsPairsRefusal}
use Rattle.ntlm_messages.proofs.FieldLaws.{bind_then, passed, not_failed, chosen, failed, refused_then}
use Rattle.ntlm_messages.proofs.WrittenLaws.{Stands_short}

-- a step that wasn't refused, and what follows it
bind_at : {A B E : Type 0} (r : Result A E) (f : A → Result B E) (x : A) (y : Result B E) → r ≡ Ok x → f x ≡ y → (r >>= f) ≡ y
bind_at {A = A} {E = E} r f x y e next = ap (λ (s : Result A E). s >>= f) e ∙ next

abbrev pub Read : Type 0
Read = Result (List (ℕ × List ℕ)) PairsRefused

abbrev read : List (ℕ × List ℕ) → Read
read pairs = Ok pairs

read_is : (x y : List (ℕ × List ℕ)) → read x ≡ read y → x ≡ y
read_is x y e = cc

-- ---- one pair

pair_at_parts : (place : ℕ) (bytes value rest : List ℕ) (id len : ℕ) → short_at bytes 0 ≡ id → short_at bytes 2 ≡ len → 4 + len ≤ length bytes → take len (drop 4 bytes) ≡ value → drop (4 + len) bytes ≡ rest
    → may_have_length id len ≡ true → pair_of place bytes ≡ Ok (id, value, rest)
unfolding pair_of
pair_at_parts place bytes value rest id len id-is len-is long value-is rest-is may =
    rw (ne_eqb (length bytes) 0 (λ e. absurd (omega (arith, e, long))), len-is, le-ltb (length bytes) (4 + len) long, id-is, may, value-is, rest-is) refl

pub pair_only : (place id : ℕ) (value rest : List ℕ) → id < 2 ^ 16 → length value < 2 ^ 16 → may_have_length id (length value) ≡ true → pair_of place (pair_bytes (id, value) ++ rest) ≡ Ok (id, value, rest)
pair_only place id value rest id_fits fits may =
    let bytes = pair_bytes (id, value) ++ rest in
    let id-is = Stands_short bytes 0 id (omega (arith, id_fits)) (record { front = []; rest = to_le_bytes w16 (length value) ++ (value ++ rest); parts = refl; before = refl }) in
    let len-is = Stands_short bytes 2 (length value) (omega (arith, fits)) (record { front = to_le_bytes w16 id; rest = value ++ rest; parts = refl; before = refl }) in
    let long : 4 + length value ≤ length bytes = omega (arith, length-append value rest) in
    let head : length (pair_bytes (id, value)) ≡ 4 + length value = omega arith in
    pair_at_parts place bytes value rest id (length value) id-is len-is long (take_at value rest (length value) refl) (drop_at (pair_bytes (id, value)) rest (4 + length value) head) may

-- the number that is read, where the bytes don't end before it
short_some : (bytes : List ℕ) (place : ℕ) → place + 2 ≤ length bytes → number_at w16 bytes place ≡ Some (short_at bytes place)
short_some bytes place long =
    let e = number_at-inside w16 bytes place long in
    e ∙ ap (λ (n : ℕ). Some n) (sym (ap (λ (o : Option ℕ). unwrap_or o 0) e))

-- what a pair that was read says of the bytes
record IsFound (bytes : List ℕ) (pair : ℕ × List ℕ × List ℕ) : Type 0 where
  parts : bytes ≡ pair_bytes (pair.0, pair.1) ++ pair.2
  id : pair.0 < 2 ^ 16
  len : length pair.1 < 2 ^ 16
  may : may_have_length pair.0 (length pair.1) ≡ true
  rest_fits : AreBytes pair.2
  shorter : length pair.2 + (4 + length pair.1) ≡ length bytes

pair_parts : (bytes : List ℕ) (id len : ℕ) → AreBytes bytes → short_at bytes 0 ≡ id → short_at bytes 2 ≡ len → 4 + len ≤ length bytes → may_have_length id len ≡ true
    → IsFound bytes (id, take len (drop 4 bytes), drop (4 + len) bytes)
pair_parts bytes id len fits id-is len-is long may =
    let first : number_at w16 bytes 0 ≡ Some id = short_some bytes 0 (omega (arith, long)) ∙ ap (λ (n : ℕ). Some n) id-is in
    let second : number_at w16 bytes 2 ≡ Some len = short_some bytes 2 (omega (arith, long)) ∙ ap (λ (n : ℕ). Some n) len-is in
    let id_bytes : take 2 bytes ≡ to_le_bytes w16 id = bytes_from-number_at w16 bytes 0 id tt fits first in
    let len_bytes : take 2 (drop 2 bytes) ≡ to_le_bytes w16 len = bytes_from-number_at w16 bytes 2 len tt fits second in
    let value = take len (drop 4 bytes) in
    let rest = drop (4 + len) bytes in
    let value_len : length value ≡ len = omega (arith, length-take len (drop 4 bytes), length-drop 4 bytes, long) in
    let tail : drop 4 bytes ≡ value ++ rest = sym (take-append-drop len (drop 4 bytes)) ∙ ap (λ (x : List ℕ). value ++ x) (drop-drop len 4 bytes) in
    let middle : drop 2 bytes ≡ to_le_bytes w16 len ++ (value ++ rest) =
    sym (take-append-drop 2 (drop 2 bytes)) ∙ ap (λ (x : List ℕ). x ++ drop 2 (drop 2 bytes)) len_bytes ∙ ap (λ (x : List ℕ). to_le_bytes w16 len ++ x) (drop-drop 2 2 bytes ∙ tail) in
    let whole : bytes ≡ to_le_bytes w16 id ++ (to_le_bytes w16 len ++ (value ++ rest)) =
    sym (take-append-drop 2 bytes) ∙ ap (λ (x : List ℕ). x ++ drop 2 bytes) id_bytes ∙ ap (λ (x : List ℕ). to_le_bytes w16 id ++ x) middle in
    record {
      parts = whole ∙ ap (λ (n : ℕ). to_le_bytes w16 id ++ (to_le_bytes w16 n ++ (value ++ rest))) (sym value_len);
      id = number_at-lt w16 bytes 0 id tt fits first;
      len = omega (arith, value_len, number_at-lt w16 bytes 2 len tt fits second);
      may = ap (λ (n : ℕ). may_have_length id n) value_len ∙ may;
      rest_fits = AreBytes-drop (4 + len) bytes fits;
      shorter = omega (arith, value_len, length-drop (4 + len) bytes, long);
    }

pair_found : (place : ℕ) (bytes : List ℕ) (pair : ℕ × List ℕ × List ℕ) → AreBytes bytes → pair_of place bytes ≡ Ok pair → IsFound bytes pair
unfolding pair_of
pair_found place bytes pair fits e =
    let some = not_failed (eqb (length bytes) 0) NoEnd _ pair e in
    let long = not_failed (ltb (length bytes) (4 + short_at bytes 2)) (CutPair place) _ pair some.1 in
    let may = passed (may_have_length (short_at bytes 0) (short_at bytes 2)) (BadLength (short_at bytes 0)) _ pair long.1 in
    let same : (short_at bytes 0, take (short_at bytes 2) (drop 4 bytes), drop (4 + short_at bytes 2) bytes) ≡ pair = cc in
    subst (λ (p : ℕ × List ℕ × List ℕ). IsFound bytes p) same (pair_parts bytes (short_at bytes 0) (short_at bytes 2) fits refl refl (ltb-false _ _ long.0) may.0)

-- ---- which lengths an id allows

may_from : (id len : ℕ) → (id ≡ 0 → ⊥) → (id ≡ 6 → len ≡ 4) → (id ≡ 7 → len ≡ 8) → may_have_length id len ≡ true
may_from id len some flags timestamp =
    elim (cases_eq id 6) [
      | inl six ↦ rw (ne_eqb id 0 some, eq-eqb id 6 six, eq-eqb len 4 (flags six)) refl
      | inr other ↦ elim (cases_eq id 7) [
        | inl seven ↦ rw (ne_eqb id 0 some, ne_eqb id 6 other, eq-eqb id 7 seven, eq-eqb len 8 (timestamp seven)) refl
        | inr free ↦ rw (ne_eqb id 0 some, ne_eqb id 6 other, ne_eqb id 7 free) refl
      ]
    ]

pair_from : (id : ℕ) (value : List ℕ) → id < 2 ^ 16 → length value < 2 ^ 16 → (id ≡ 0 → ⊥) → may_have_length id (length value) ≡ true → IsPair (id, value)
pair_from id value id_fits fits some may = record {
  id = id_fits;
  no_end = some;
  len = fits;
  flags = λ six. eqb-true _ _ (subst (λ (n : ℕ). may_have_length n (length value) ≡ true) six may);
  timestamp = λ seven. eqb-true _ _ (subst (λ (n : ℕ). may_have_length n (length value) ≡ true) seven may);
}

-- ---- all pairs

within_only : (limit place : ℕ) (pairs : List (ℕ × List ℕ)) (rest : List ℕ) → length (flat_map pair_bytes pairs) < limit → ArePairs pairs
    → pairs_within limit place (flat_map pair_bytes pairs ++ (pair_bytes (0, []) ++ rest)) ≡ Ok pairs
unfolding pairs_within
within_only zero place pairs rest lt are = absurd (omega (arith, lt))
within_only (suc limit) place [] rest lt are = bind_at (pair_of place (pair_bytes (0, []) ++ rest)) _ (0, [], rest) (Ok []) (pair_only place 0 [] rest (omega arith) (omega arith) refl) refl
within_only (suc limit) place (pair ∷ pairs) rest lt are =
    let after = flat_map pair_bytes pairs ++ (pair_bytes (0, []) ++ rest) in
    let first = are.0 in
    let one : pair_of place (pair_bytes pair ++ after) ≡ Ok (pair.0, pair.1, after) =
    pair_only place pair.0 pair.1 after first.id first.len (may_from pair.0 (length pair.1) first.no_end first.flags first.timestamp) in
    let shorter : length (flat_map pair_bytes pairs) < limit = omega (arith, lt, ap length (flat_map-cons pair_bytes pair pairs), length-append (pair_bytes pair) (flat_map pair_bytes pairs)) in
    let others = within_only limit (place + 4 + length pair.1) pairs rest shorter are.1 in
    let regrouped : flat_map pair_bytes (pair ∷ pairs) ++ (pair_bytes (0, []) ++ rest) ≡ pair_bytes pair ++ after =
    append_assoc (pair_bytes pair) (flat_map pair_bytes pairs) (pair_bytes (0, []) ++ rest) in
    ap (pairs_within (suc limit) place) regrouped
    ∙ bind_at (pair_of place (pair_bytes pair ++ after)) _ (pair.0, pair.1, after) (Ok (pair ∷ pairs)) one
    (rw (ne_eqb pair.0 0 first.no_end) (bind_at (pairs_within limit (place + 4 + length pair.1) after) _ pairs (Ok (pair ∷ pairs)) others refl))

within_found : (limit place : ℕ) (bytes : List ℕ) (pairs : List (ℕ × List ℕ)) → AreBytes bytes → pairs_within limit place bytes ≡ Ok pairs → IsPairs bytes pairs
unfolding pairs_within written_pairs
within_found zero place bytes pairs fits e = absurd cc
within_found (suc limit) place bytes pairs fits e =
    bind_then (pair_of place bytes) _ pairs e (λ pair pair-is e1.
    let f = pair_found place bytes pair fits pair-is in
    elim (chosen (eqb pair.0 0) _ _ (Ok pairs) e1) [
      | inl h ↦
          let id-is = eqb-true pair.0 0 h.0 in
          let empty : pair.1 ≡ [] = nil_from_length pair.1 (eqb-true _ _ (subst (λ (n : ℕ). may_have_length n (length pair.1) ≡ true) id-is f.may)) in
          let parts : bytes ≡ pair_bytes (0, []) ++ pair.2 = f.parts ∙ ap (λ (n : ℕ). pair_bytes (n, pair.1) ++ pair.2) id-is ∙ ap (λ (v : List ℕ). pair_bytes (0, v) ++ pair.2) empty in
          subst (λ (ps : List (ℕ × List ℕ)). IsPairs bytes ps) (read_is [] pairs h.1) (record { items = tt; layout = (pair.2, parts) })
      | inr h ↦
          bind_then (pairs_within limit (place + 4 + length pair.1) pair.2) _ pairs h.1 (λ others others-is e2.
          let later = within_found limit (place + 4 + length pair.1) pair.2 others f.rest_fits others-is in
          let parts : bytes ≡ written_pairs ((pair.0, pair.1) ∷ others) ++ later.layout.0 =
          f.parts ∙ ap (λ (x : List ℕ). pair_bytes (pair.0, pair.1) ++ x) later.layout.1 ∙ regroup (pair_bytes (pair.0, pair.1)) (flat_map pair_bytes others) (pair_bytes (0, [])) later.layout.0 in
          subst (λ (ps : List (ℕ × List ℕ)). IsPairs bytes ps) (read_is ((pair.0, pair.1) ∷ others) pairs e2) (record {
            items = (pair_from pair.0 pair.1 f.id f.len (eqb-false _ _ h.0) f.may, later.items);
            layout = (later.layout.0, parts);
          }))
    ])
  where
    regroup : (a b c d : List ℕ) → a ++ ((b ++ c) ++ d) ≡ ((a ++ b) ++ c) ++ d
    regroup a b c d = simp append_assoc

pub pairs_of_found : (bytes : List ℕ) (pairs : List (ℕ × List ℕ)) → AreBytes bytes → pairs_of bytes ≡ Ok pairs → IsPairs bytes pairs
unfolding pairs_of
pairs_of_found bytes pairs fits e = within_found (suc (length bytes)) 0 bytes pairs fits e

pub pairs_of_only : (bytes : List ℕ) (pairs : List (ℕ × List ℕ)) → IsPairs bytes pairs → pairs_of bytes ≡ Ok pairs
unfolding pairs_of written_pairs
pairs_of_only bytes pairs h =
    let rest = h.layout.0 in
    let regrouped : bytes ≡ flat_map pair_bytes pairs ++ (pair_bytes (0, []) ++ rest) = h.layout.1 ∙ append_assoc (flat_map pair_bytes pairs) (pair_bytes (0, [])) rest in
    let shorter : length (flat_map pair_bytes pairs) < suc (length bytes) =
    omega (arith, ap length regrouped, length-append (flat_map pair_bytes pairs) (pair_bytes (0, []) ++ rest)) in
    ap (pairs_within (suc (length bytes)) 0) regrouped ∙ within_only (suc (length bytes)) 0 pairs rest shorter h.items

pub written_pairs_back : (pairs : List (ℕ × List ℕ)) → ArePairs pairs → pairs_of (written_pairs pairs) ≡ Ok pairs
written_pairs_back pairs are = pairs_of_only (written_pairs pairs) pairs (record { items = are; layout = ([], sym (append-nil (written_pairs pairs))) })

-- ---- reading pairs one after the other, as a loop does

-- what was read before, and what is still read
abbrev pub with_front : List (ℕ × List ℕ) → Read → Read
with_front front later = later >>= λ pairs. Ok (front ++ pairs)

regroup_front : (front : List (ℕ × List ℕ)) (pair : ℕ × List ℕ) (later : Read) → with_front front (later >>= λ others. Ok (pair ∷ others)) ≡ with_front (front ++ pair ∷ []) later
regroup_front front pair (Ok others) = ap read (simp append_assoc)
regroup_front front pair (Err e) = refl

pub goes_on : (front : List (ℕ × List ℕ)) (limit whole : ℕ) (bytes : List ℕ) (id : ℕ) (value after : List ℕ) (total : Read) → length bytes < limit → length bytes ≤ whole
    → pair_of (whole - length bytes) bytes ≡ Ok (id, value, after) → (id ≡ 0 → ⊥) → length after + 4 + length value ≡ length bytes
    → with_front front (pairs_within limit (whole - length bytes) bytes) ≡ total
    → (less : ℕ) × (length after < less) × (with_front (front ++ (id, value) ∷ []) (pairs_within less (whole - length after) after) ≡ total)
unfolding pairs_within
goes_on front zero whole bytes id value after total lt within pair-is some shorter so_far = absurd (omega (arith, lt))
goes_on front (suc less) whole bytes id value after total lt within pair-is some shorter so_far =
    let place : whole - length bytes + 4 + length value ≡ whole - length after = omega (arith, within, shorter) in
    let one : pairs_within (suc less) (whole - length bytes) bytes ≡ (pairs_within less (whole - length bytes + 4 + length value) after >>= λ others. Ok ((id, value) ∷ others)) =
    bind_at (pair_of (whole - length bytes) bytes) _ (id, value, after) _ pair-is (rw (ne_eqb id 0 some) refl) in
    let moved = regroup_front front (id, value) (pairs_within less (whole - length bytes + 4 + length value) after) in
    let here = ap (λ (p : ℕ). with_front (front ++ (id, value) ∷ []) (pairs_within less p after)) place in
    (less, omega (arith, lt, shorter), sym here ∙ sym moved ∙ sym (ap (with_front front) one) ∙ so_far)

pub is_done : (front : List (ℕ × List ℕ)) (limit place : ℕ) (bytes : List ℕ) (id : ℕ) (value after : List ℕ) (total : Read) → length bytes < limit
    → pair_of place bytes ≡ Ok (id, value, after) → id ≡ 0 → with_front front (pairs_within limit place bytes) ≡ total → total ≡ Ok front
unfolding pairs_within
is_done front zero place bytes id value after total lt pair-is end so_far = absurd (omega (arith, lt))
is_done front (suc less) place bytes id value after total lt pair-is end so_far =
    let one : pairs_within (suc less) place bytes ≡ Ok [] = bind_at (pair_of place bytes) _ (id, value, after) _ pair-is (rw (eq-eqb id 0 end) refl) in
    sym so_far ∙ ap (with_front front) one ∙ ap read (append-nil front)

pub is_refused : (front : List (ℕ × List ℕ)) (limit place : ℕ) (bytes : List ℕ) (e : PairsRefused) (total : Read) → length bytes < limit
    → pair_of place bytes ≡ Err e → with_front front (pairs_within limit place bytes) ≡ total → total ≡ Err e
unfolding pairs_within
is_refused front zero place bytes e total lt refused so_far = absurd (omega (arith, lt))
is_refused front (suc less) place bytes e total lt refused so_far =
    let one : pairs_within (suc less) place bytes ≡ Err e = rw refused refl in
    sym so_far ∙ ap (with_front front) one

nothing_before : (later : Read) → with_front [] later ≡ later
nothing_before (Ok pairs) = refl
nothing_before (Err e) = refl

pub starts : (bytes : List ℕ) → with_front [] (pairs_within (suc (length bytes)) (length bytes - length bytes) bytes) ≡ pairs_of bytes
unfolding pairs_of
starts bytes =
    let none : length bytes - length bytes ≡ 0 = omega arith in
    nothing_before (pairs_within (suc (length bytes)) (length bytes - length bytes) bytes) ∙ ap (λ (p : ℕ). pairs_within (suc (length bytes)) p bytes) none

-- ---- whether bytes are pairs

-- the answer of a reading whose pairs aren't kept, as in `verdict_on_pairs`
abbrev pub judgement : Read → Result (Unit {0}) PairsRefused
judgement read = read >>= λ pairs. Ok tt

abbrev refused_judgement : PairsRefused → Result (Unit {0}) PairsRefused
refused_judgement e = Err e

same_refusal : (d e : PairsRefused) → refused_judgement d ≡ refused_judgement e → d ≡ e
same_refusal d e h = cc

abbrev refused_read : PairsRefused → Read
refused_read e = Err e

pub refused_from_judgement : (read : Read) (e : PairsRefused) → judgement read ≡ Err e → read ≡ Err e
refused_from_judgement (Ok pairs) e h = absurd cc
refused_from_judgement (Err d) e h = ap refused_read (same_refusal d e h)

pub taken_from_judgement : (read : Read) (e : PairsRefused) → judgement read ≡ Ok tt → read ≡ Err e → ⊥
taken_from_judgement (Ok pairs) e h refused = absurd cc
taken_from_judgement (Err d) e h refused = absurd cc

-- ---- refusals

abbrev refusal : PairsRefused → Result (ℕ × List ℕ × List ℕ) PairsRefused
refusal e = Err e

error_is : (d e : PairsRefused) → refusal d ≡ refusal e → d ≡ e
error_is d e h = cc

-- a pair that isn't taken stops the walk at its place
pair_refused : (place : ℕ) (bytes : List ℕ) (e : PairsRefused) → pair_of place bytes ≡ Err e → StopsAt place bytes e
unfolding pair_of
pair_refused place bytes e given =
    elim (cases_Bool (eqb (length bytes) 0)) [
      | inl none ↦ subst (λ (x : PairsRefused). StopsAt place bytes x) (error_is NoEnd e (rw none at given)) (nil_from_length bytes (eqb-true _ _ none))
      | inr some ↦ elim (cases_Bool (ltb (length bytes) (4 + short_at bytes 2))) [
        | inl cut ↦
            let some_bytes : 0 < length bytes = omega (arith, eqb-false _ _ some) in
            subst (λ (x : PairsRefused). StopsAt place bytes x) (error_is (CutPair place) e (rw (some, cut) at given)) (refl, some_bytes, ltb-true _ _ cut)
        | inr long ↦ elim (failed (may_have_length (short_at bytes 0) (short_at bytes 2)) (BadLength (short_at bytes 0)) e _ (rw (some, long) at given)) [
          | inl h ↦ absurd (let k = h.1 in cc)
          | inr h ↦ subst (λ (x : PairsRefused). StopsAt place bytes x) h.1 (ltb-false _ _ long, refl, h.0)
        ]
      ]
    ]

within_refused : (limit place : ℕ) (bytes : List ℕ) (e : PairsRefused) → AreBytes bytes → length bytes < limit → pairs_within limit place bytes ≡ Err e
    → (taken : List (ℕ × List ℕ)) × (rest : List ℕ) × ArePairs taken × (bytes ≡ flat_map pair_bytes taken ++ rest) × StopsAt (place + length (flat_map pair_bytes taken)) rest e
unfolding pairs_within
within_refused zero place bytes e fits lt given = absurd (omega (arith, lt))
within_refused (suc less) place bytes e fits lt given =
    refused_then (pair_of place bytes) _ e given
    (λ h. ([], bytes, tt, refl, subst (λ (p : ℕ). StopsAt p bytes e) (omega arith) (pair_refused place bytes e h)))
    (λ pair pair-is e1.
    let f = pair_found place bytes pair fits pair-is in
    elim (cases_Bool (eqb pair.0 0)) [
      | inl end ↦ absurd (let k = rw end at e1 in cc)
      | inr some ↦
          refused_then (pairs_within less (place + 4 + length pair.1) pair.2) _ e (rw some at e1)
          (λ h.
          let later = within_refused less (place + 4 + length pair.1) pair.2 e f.rest_fits (omega (arith, lt, f.shorter)) h in
          let first : List ℕ = pair_bytes (pair.0, pair.1) in
          let others : List ℕ = flat_map pair_bytes later.0 in
          let parts : bytes ≡ (first ++ others) ++ later.1 = f.parts ∙ ap (λ (x : List ℕ). first ++ x) later.3 ∙ sym (append_assoc first others later.1) in
          let moved : place + 4 + length pair.1 + length others ≡ place + length (first ++ others) = omega (arith, length-append first others) in (
            (pair.0, pair.1) ∷ later.0,
            later.1,
            (pair_from pair.0 pair.1 f.id f.len (eqb-false _ _ some) f.may, later.2),
            parts,
            subst (λ (p : ℕ). StopsAt p later.1 e) moved later.4,
          ))
          (λ others others-is e2. absurd cc)
    ])

pub pairs_of_refused : (bytes : List ℕ) (e : PairsRefused) → AreBytes bytes → pairs_of bytes ≡ Err e → IsPairsRefusal bytes e
unfolding pairs_of
pairs_of_refused bytes e fits given =
    let r = within_refused (suc (length bytes)) 0 bytes e fits (omega arith) given in
    record { taken = r.0; rest = r.1; items = r.2; layout = r.3; stops = subst (λ (p : ℕ). StopsAt p r.1 e) (omega arith) r.4 }

-- want of memory says nothing of the bytes
pub no_refusal : (bytes : List ℕ) → IsPairsRefusal bytes Memory
no_refusal bytes = record { taken = []; rest = bytes; items = tt; layout = refl; stops = tt }

-- ---- a pair by its id

pub timestamp_length : (pairs : List (ℕ × List ℕ)) (value : List ℕ) → ArePairs pairs → pair_value_of 7 pairs ≡ Some value → length value ≡ 8
timestamp_length [] value are e = absurd cc
timestamp_length (pair ∷ pairs) value are e =
    elim (cases_Bool (eqb 7 pair.0)) [
      | inl here ↦
          let first : Some pair.1 ≡ Some value = rw here at e in
          let same : pair.1 ≡ value = cc in
          ap length (sym same) ∙ are.0.timestamp (sym (eqb-true 7 pair.0 here))
      | inr other ↦ timestamp_length pairs value are.1 (rw other at e)
    ]

-- the number of 64 bits that eight bytes are
pub whole_number : (value : List ℕ) → length value ≡ 8 → u64_of value 0 ≡ Some (from_le_bytes w64 value)
whole_number value eight =
    number_at-inside w64 value 0 (omega (arith, eight)) ∙ ap (λ (t : List ℕ). Some (from_le_bytes w64 t)) (take_all 8 value (omega (arith, eight)))

pub timestamp_read : (pairs : List (ℕ × List ℕ)) (value : List ℕ) → ArePairs pairs → pair_value_of 7 pairs ≡ Some value → timestamp_pair_of pairs ≡ u64_of value 0
timestamp_read pairs value are e = rw e (sym (whole_number value (timestamp_length pairs value are e)))

-- for `search`: what was found of the bytes says what reading them gives
pub ruleset judging = (refused_from_judgement, taken_from_judgement)
