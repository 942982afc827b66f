-- Laws of names: when two are the same, and which bytes are a name.
use Rattle.std.proofs.Common.{◌≡◌, ℕ, ◌+◌, ◌<◌, ◌≤◌, ◌≢◌, ◌&&◌, eqb, true, false, List, [], ◌∷◌, length, get_or, drop, refl, sym, ap, ◌∙◌, inl, inr}
use Rattle.std.specs.List.{All, list_all}
use Rattle.std.specs.Bool.{Decides}
use Rattle.std.proofs.lemmas.Bool.{le-leb, eq-eqb, eqb-true, ne_eqb, cases_Bool}
use Rattle.std.proofs.lemmas.List.{length-map, drop_more, drop_all}
use Rattle.std.proofs.lemmas.List.Elements.{All-head, All-tail}
use Rattle.std.proofs.lemmas.Slice.Eq.{bytes_eq-Decides}
use Rattle.wire_base.specs.Maps.{IsSameness, same_number}
use Rattle.wire_base.specs.Names.{upper_of, upper_case, SameName, same_name, is_name_byte, IsNameByte, is_name}

-- ---- two forms of one name

-- the test of `SameName`
pub same_name-Decides : (one other : List ℕ) → Decides (same_name one other) (SameName one other)
unfolding same_name
same_name-Decides one other = bytes_eq-Decides (upper_case one) (upper_case other)

-- two forms of one name have one length
pub length_from_SameName : (one other : List ℕ) → SameName one other → length one ≡ length other
length_from_SameName one other same = sym (length-map one upper_of) ∙ ap length same ∙ length-map other upper_of

-- texts of two lengths are two names
pub same_name-lengths : (one other : List ℕ) → length one ≢ length other → same_name one other ≡ false
same_name-lengths one other differ =
    elim (cases_Bool (same_name one other)) [
      | inl same ↦ absurd (differ (length_from_SameName one other ((same_name-Decides one other).0 same)))
      | inr not_same ↦ not_same
    ]

-- two texts with one more unit each in front
same_name-cons : (x y : ℕ) (xs ys : List ℕ) → same_name (x ∷ xs) (y ∷ ys) ≡ (eqb (upper_of x) (upper_of y) && same_name xs ys)
unfolding same_name
same_name-cons x y xs ys = refl

same_name-at : (one other : List ℕ) (i : ℕ) → i < length one → i < length other → same_name (drop i one) (drop i other) ≡ (eqb (upper_of (get_or one i 0)) (upper_of (get_or other i 0)) && same_name (drop (i + 1) one) (drop (i + 1) other))
same_name-at one other i in_one in_other =
    rw (drop_more one i 0 in_one, drop_more other i 0 in_other)
    (same_name-cons (get_or one i 0) (get_or other i 0) (drop (i + 1) one) (drop (i + 1) other))

-- where the next units are the same, the rests decide
pub same_name-more : (one other : List ℕ) (i : ℕ) → i < length one → i < length other → upper_of (get_or one i 0) ≡ upper_of (get_or other i 0) → same_name (drop (i + 1) one) (drop (i + 1) other) ≡ same_name (drop i one) (drop i other)
same_name-more one other i in_one in_other same =
    sym (same_name-at one other i in_one in_other ∙ rw (eq-eqb _ _ same) refl)

-- where the next units aren't the same, nor are the texts
pub same_name-differ : (one other : List ℕ) (i : ℕ) → i < length one → i < length other → upper_of (get_or one i 0) ≢ upper_of (get_or other i 0) → same_name (drop i one) (drop i other) ≡ false
same_name-differ one other i in_one in_other differ =
    same_name-at one other i in_one in_other ∙ rw (ne_eqb _ _ differ) refl

-- past both ends nothing is left that differs
pub same_name-past : (one other : List ℕ) (i : ℕ) → length one ≤ i → length other ≤ i → same_name (drop i one) (drop i other) ≡ true
unfolding same_name
same_name-past one other i past_one past_other = rw (drop_all i one past_one, drop_all i other past_other) refl

-- ---- the form of a name

is_name_byte-from : (byte : ℕ) → IsNameByte byte → is_name_byte byte ≡ true
is_name_byte-from byte h = rw (le-leb _ _ h.0, le-leb _ _ h.1) refl

list_all-from_All : (text : List ℕ) → All IsNameByte text → list_all is_name_byte text ≡ true
list_all-from_All [] h = refl
list_all-from_All (byte ∷ text) h =
    rw (is_name_byte-from byte (All-head IsNameByte byte text h), list_all-from_All text (All-tail IsNameByte byte text h)) refl

-- a name passes the test
pub is_name-from_IsName : (text : List ℕ) → length text ≤ 64 → All IsNameByte text → is_name text ≡ true
is_name-from_IsName text short each = rw (le-leb _ _ short, list_all-from_All text each) refl

-- ---- sameness

pub IsSameness-same_name : IsSameness same_name
IsSameness-same_name = record {
  reflexive = λ key. (same_name-Decides key key).1 refl;
  symmetric = λ one other same. (same_name-Decides other one).1 (sym ((same_name-Decides one other).0 same));
  transitive = λ one other third first second.
      (same_name-Decides one third).1 ((same_name-Decides one other).0 first ∙ (same_name-Decides other third).0 second);
}

pub IsSameness-same_number : IsSameness same_number
IsSameness-same_number = record {
  reflexive = λ key. eq-eqb key key refl;
  symmetric = λ one other same. eq-eqb other one (sym (eqb-true one other same));
  transitive = λ one other third first second. eq-eqb one third (eqb-true one other first ∙ eqb-true other third second);
}

pub ruleset forms = (is_name-from_IsName)

pub ruleset comparing = (same_name-lengths, same_name-more, same_name-differ, same_name-past)

pub ruleset deciding = (same_name-Decides)
