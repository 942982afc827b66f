-- Laws of the account table's document.
use Rattle.std.proofs.Common.{◌≡◌, ℕ, ◌^◌, ◌<◌, ◌≤◌, ltb, true, IsTrue, List, [], ◌∷◌, length, Option, Some, None, Result, Ok, Err, refl, ap, inl, inr, leb, lit≤}
use Rattle.std.specs.Str.{IsUtf8, is_utf8}
use Rattle.std.specs.List.{list_all, AllByRecursion}
use Rattle.std.specs.Option.{option_and_then}
use Rattle.std.specs.Result.{result_ok}
use Rattle.std.proofs.lemmas.Bool.{cases_Bool, leb-true, le-leb, lt-ltb}
use Rattle.std.proofs.lemmas.Str.{IsUtf8-from_is_utf8, is_utf8-from_IsUtf8}
use Rattle.toml.specs.Data.{Data, Items, no_items, item, Members, as_str, as_array}
use Rattle.toml.specs.Parse.{parse_document}
use Rattle.wire_base.specs.Sid.{SidParts, sid_of}
use Rattle.wire_base.specs.declared.sid.SidRefused.{SidRefused}
use Rattle.wire_base.proofs.SidLaws.{IsSidText-sid_of}
use Rattle.account_table.specs.declared.refused.TableRefused.TheVariants.{BadToml}
use Rattle.account_table.specs.declared.key.Key.{Key}
use Rattle.account_table.specs.Document.{document_of, optional, formed, formed_or, value_at}
use Rattle.account_table.specs.Forms.{only_if, at_most, rids, a_list, a_rid, with_front, each, a_sid, sids}
use Rattle.account_table.specs.Index.{has_longs, has_few_sids}
use Rattle.account_table.specs.Limits.{group_limit, extra_sid_limit, domain_users}

-- ---- the document of a text

pub document_of-Some : (text : List ℕ) (document : Members) → IsUtf8 text → parse_document text ≡ Some document → document_of text ≡ Ok document
unfolding document_of
document_of-Some text document utf8 parsed = rw (is_utf8-from_IsUtf8 text utf8, parsed) refl

pub document_of-None : (text : List ℕ) → IsUtf8 text → parse_document text ≡ None → document_of text ≡ Err BadToml
unfolding document_of
document_of-None text utf8 parsed = rw (is_utf8-from_IsUtf8 text utf8, parsed) refl

pub document_of-bytes : (text : List ℕ) → (IsUtf8 text → ⊥) → document_of text ≡ Err BadToml
unfolding document_of
document_of-bytes text other =
    elim (cases_Bool (is_utf8 text)) [
      | inl utf8 ↦ absurd (other (IsUtf8-from_is_utf8 text utf8))
      | inr bytes ↦ rw bytes refl
    ]

-- ---- groups

pub formed-Ok : {T : Type 0} (key : Key) (o : Option T) (x : T) → formed key o ≡ Ok x → o ≡ Some x
formed-Ok key None x e = absurd cc
formed-Ok key (Some y) x e = cc

pub few_from_only_if : {T : Type 0} (limit : ℕ) (o : Option (List T)) (xs : List T) → only_if (at_most limit) o ≡ Some xs → (length xs ≤ limit) × (o ≡ Some xs)
few_from_only_if limit None xs e = absurd cc
few_from_only_if {T = T} limit (Some ys) xs e =
    elim (cases_Bool (leb (length ys) limit)) [
      | inl few ↦
          let here : only_if (at_most limit) (Some ys) ≡ Some ys = rw few refl in
          let same : ys ≡ xs = cc in
          (rw (← same) (leb-true _ _ few), ap (λ (zs : List T). Some zs) same)
      | inr many ↦ absurd (let none : only_if (at_most limit) (Some ys) ≡ None = rw many refl in cc)
    ]

few_by : (key : Key) (found : Option Data) (xs : List ℕ) → formed_or (domain_users ∷ []) rids key found ≡ Ok xs → length xs ≤ group_limit
few_by key None xs e = let one : domain_users ∷ [] ≡ xs = cc in rw (← one) (lit≤ tt)
few_by key (Some value) xs e = (few_from_only_if group_limit (a_list a_rid value) xs (formed-Ok key (rids value) xs e)).0

-- an account that is read has at most 256 groups
pub few_groups : (key : Key) (entry : Members) (xs : List ℕ) → optional (domain_users ∷ []) rids key entry ≡ Ok xs → length xs ≤ group_limit
unfolding optional
few_groups key entry xs e = few_by key (value_at key entry) xs e

-- ---- identifiers

longs : (numbers : List ℕ) → AllByRecursion (λ n. n < 2 ^ 32) numbers → list_all (λ n. ltb n (2 ^ 32)) numbers ≡ true
longs [] each = refl
longs (n ∷ numbers) each = rw (lt-ltb n (2 ^ 32) each.0, longs numbers each.1) refl

ok_from : (read : Result SidParts SidRefused) (sid : SidParts) → result_ok read ≡ Some sid → read ≡ Ok sid
ok_from (Ok found) sid e = cc
ok_from (Err refused) sid e = absurd cc

longs_by : (found : Option (List ℕ)) (sid : SidParts) → option_and_then (λ text. result_ok (sid_of text)) found ≡ Some sid → has_longs sid ≡ true
longs_by None sid e = absurd cc
longs_by (Some text) sid e =
    let written = IsSidText-sid_of text sid (ok_from (sid_of text) sid e) in
    rw (lt-ltb _ _ written.form.authority, le-leb _ _ written.form.one, le-leb _ _ written.form.at_most, longs sid.numbers written.each) refl

-- the first of a list that was of its form, and the others
record AreFront {T : Type 0} (o : Option T) (rest : Option (List T)) (xs : List T) : Type 0 where
  first : T
  others : List T
  one : o ≡ Some first
  more : rest ≡ Some others
  whole : xs ≡ first ∷ others

front_of : {T : Type 0} (o : Option T) (rest : Option (List T)) (xs : List T) → with_front o rest ≡ Some xs → AreFront o rest xs
front_of None rest xs e = absurd cc
front_of (Some x) None xs e = absurd cc
front_of (Some x) (Some more) xs e = record { first = x; others = more; one = refl; more = refl; whole = cc }

each_longs : (items : Items) (xs : List SidParts) → each a_sid items ≡ Some xs → list_all has_longs xs ≡ true
each_longs no_items xs e = let nil : [] ≡ xs = cc in rw (← nil) refl
each_longs (item value rest) xs e =
    let front = front_of (a_sid value) (each a_sid rest) xs e in
    let one : has_longs front.first ≡ true = longs_by (as_str value) front.first front.one in
    let more : list_all has_longs front.others ≡ true = each_longs rest front.others front.more in
    rw (front.whole, one, more) refl

listed_longs : (found : Option Items) (xs : List SidParts) → option_and_then (each a_sid) found ≡ Some xs → list_all has_longs xs ≡ true
listed_longs None xs e = absurd cc
listed_longs (Some items) xs e = each_longs items xs e

few_sids_by : (key : Key) (found : Option Data) (xs : List SidParts) → formed_or [] sids key found ≡ Ok xs → has_few_sids xs ≡ true
few_sids_by key None xs e = let nil : [] ≡ xs = cc in rw (← nil) refl
few_sids_by key (Some value) xs e =
    let few = few_from_only_if extra_sid_limit (a_list a_sid value) xs (formed-Ok key (sids value) xs e) in
    rw (le-leb _ _ few.0, listed_longs (as_array value) xs few.1) refl

-- an account that is read has at most 16 identifiers, of numbers of 32 bits
pub few_sids : (key : Key) (entry : Members) (xs : List SidParts) → optional [] sids key entry ≡ Ok xs → IsTrue (has_few_sids xs)
unfolding optional
few_sids key entry xs e = few_sids_by key (value_at key entry) xs e
