-- How far the calls that passed on a channel moved its seed, call by call: each unit that was made for the channel
-- counts as often as a call passed in it.
-- It serves `Proved.sequences`.
use Rattle.std.proofs.Common.{◌≡◌, ◌≢◌, ◌⊎◌, ℕ, zero, suc, ◌+◌, ◌<◌, ◌≤◌, ◌==◌, ◌&&◌, Bool, true, false, List, [], ◌∷◌, ◌++◌, inl, inr, Some, slice_get, refl, sym, ap, ap₂, subst, ◌∙◌, arith}
use Rattle.std.specs.List.{AllByRecursion}
use Rattle.std.proofs.lemmas.Bool.Decides.{Decides-eqb}
use Rattle.authenticators.specs.Channels.{ChannelIdentity}
use Rattle.authenticators.specs.Sequences.{moved_by}
use Rattle.wire_base.specs.Lists.{OneOf}
use Rattle.wire_base.proofs.ListLaws.{got_nothing, some_is}
use Rattle.channel_events.proofs.TimestampLaws.{moved_none, moved_one}
use Rattle.step_notes.specs.Records.{InUnit, Judging, Source, unit_in}
use Rattle.domain_world.specs.Accepting.Sequences.{AreUnitsApart, stamps_of}
use Rattle.domain_world.specs.Claims.{moved_if, moved_on, passed_on, same_unit, judged_timestamp}

-- the call passed on the channel, in that unit
abbrev pub is_hit : ChannelIdentity → ℕ → Judging → Bool
is_hit channel m j = passed_on channel j && same_unit (Some m) (unit_in j.source)

abbrev pub stamp_if : Bool → ℕ → ℕ
stamp_if false timestamp = 0
stamp_if true timestamp = timestamp + 1

-- a unit with that timestamp
abbrev pub weight : ChannelIdentity → ℕ → ℕ → List Judging → ℕ
weight channel m timestamp [] = 0
weight channel m timestamp (j ∷ js) = stamp_if (is_hit channel m j) timestamp + weight channel m timestamp js

abbrev pub total : ChannelIdentity → List (ℕ × ℕ) → List Judging → ℕ
total channel [] js = 0
total channel (one ∷ made) js = weight channel one.0 one.1 js + total channel made js

-- by one call
abbrev added : ChannelIdentity → List (ℕ × ℕ) → Judging → ℕ
added channel [] j = 0
added channel (one ∷ made) j = stamp_if (is_hit channel one.0 j) one.1 + added channel made j

-- a call that passed came in one of the units, and has its timestamp
pub record CameIn (made : List (ℕ × ℕ)) (j : Judging) : Type 0 where
  pub unit : ℕ
  pub came : j.source ≡ InUnit unit
  pub one : OneOf (λ (one : ℕ × ℕ). (one.0 ≡ unit) × (one.1 ≡ judged_timestamp j)) made

module _ (channel : ChannelIdentity) where
  total_none : (made : List (ℕ × ℕ)) → total channel made [] ≡ 0
  total_none [] = refl
  total_none (one ∷ made) = omega (arith, total_none made)

  total_more : (made : List (ℕ × ℕ)) (j : Judging) (js : List Judging) → total channel made (j ∷ js) ≡ added channel made j + total channel made js
  total_more [] j js = refl
  total_more (one ∷ made) j js = omega (arith, total_more made j js)

  pub total_append : (made more : List (ℕ × ℕ)) (js : List Judging) → total channel (made ++ more) js ≡ total channel made js + total channel more js
  total_append [] more js = omega arith
  total_append (one ∷ made) more js = omega (arith, total_append made more js)

  -- ---- one call

  added_not : (made : List (ℕ × ℕ)) (j : Judging) → passed_on channel j ≡ false → added channel made j ≡ 0
  added_not [] j passed = refl
  added_not (one ∷ made) j passed = omega (arith, ap (λ (b : Bool). stamp_if (b && same_unit (Some one.0) (unit_in j.source)) one.1) passed, added_not made j passed)

  other_unit : (m n : ℕ) → n ≢ m → (m == n) ≡ false
  other_unit m n differs = by (m == n) refl
    where
      by : (hit : Bool) → (m == n) ≡ hit → hit ≡ false
      by false is = refl
      by true is = absurd (differs (sym ((Decides-eqb m n).0 is)))

  -- a judging that came in another unit adds nothing
  miss : (m n timestamp : ℕ) (j : Judging) → passed_on channel j ≡ true → j.source ≡ InUnit n → n ≢ m → stamp_if (is_hit channel m j) timestamp ≡ 0
  miss m n timestamp j passed came differs =
      ap₂ (λ (b : Bool) (from : Source). stamp_if (b && same_unit (Some m) (unit_in from)) timestamp) passed came ∙ ap (λ (b : Bool). stamp_if b timestamp) (other_unit m n differs)

  added_apart : (made : List (ℕ × ℕ)) (j : Judging) (n : ℕ) → passed_on channel j ≡ true → j.source ≡ InUnit n → AllByRecursion (λ (other : ℕ × ℕ). n ≢ other.0) made → added channel made j ≡ 0
  added_apart [] j n passed came apart = refl
  added_apart (one ∷ made) j n passed came apart = omega (arith, miss one.0 n one.1 j passed came apart.0, added_apart made j n passed came apart.1)

  -- a later unit isn't the first one
  later_differs : (first n timestamp : ℕ) (made : List (ℕ × ℕ)) → AllByRecursion (λ (other : ℕ × ℕ). first ≢ other.0) made →
      OneOf (λ (one : ℕ × ℕ). (one.0 ≡ n) × (one.1 ≡ timestamp)) made → n ≢ first
  later_differs first n timestamp [] apart one = absurd one
  later_differs first n timestamp (other ∷ made) apart one = elim one [
    | inl here ↦ λ is. apart.0 (sym is ∙ sym here.0)
    | inr later ↦ later_differs first n timestamp made apart.1 later
  ]

  added_one : (made : List (ℕ × ℕ)) (j : Judging) (n timestamp : ℕ) → passed_on channel j ≡ true → j.source ≡ InUnit n → AreUnitsApart made →
      OneOf (λ (one : ℕ × ℕ). (one.0 ≡ n) × (one.1 ≡ timestamp)) made → added channel made j ≡ timestamp + 1
  added_one [] j n timestamp passed came apart one = absurd one
  added_one (first ∷ made) j n timestamp passed came apart one = elim one [
    | inl here ↦
        let hit : stamp_if (is_hit channel first.0 j) first.1 ≡ timestamp + 1 =
        ap₂ (λ (b : Bool) (from : Source). stamp_if (b && same_unit (Some first.0) (unit_in from)) first.1) passed came
        ∙ ap (λ (b : Bool). stamp_if b first.1) ((Decides-eqb first.0 n).1 here.0)
        ∙ ap (λ (t : ℕ). t + 1) here.1 in
        let rest : added channel made j ≡ 0 = added_apart made j n passed came (subst (λ (m : ℕ). AllByRecursion (λ (other : ℕ × ℕ). m ≢ other.0) made) here.0 apart.0) in
        omega (arith, hit, rest)
    | inr later ↦
        omega (arith, miss first.0 n first.1 j passed came (later_differs first.0 n timestamp made apart.0 later), added_one made j n timestamp passed came apart.1 later)
  ]

  -- ---- all calls

  step_by : (passed : Bool) (made : List (ℕ × ℕ)) (j : Judging) (js : List Judging) → passed_on channel j ≡ passed → AreUnitsApart made → (passed_on channel j ≡ true → CameIn made j) →
      moved_on channel js ≡ total channel made js → moved_if passed (judged_timestamp j) (moved_on channel js) ≡ total channel made (j ∷ js)
  step_by false made j js passed apart came same = omega (arith, total_more made j js, added_not made j passed, same)
  step_by true made j js passed apart came same =
      let in_one : CameIn made j = came passed in
      omega (arith, total_more made j js, added_one made j in_one.unit (judged_timestamp j) passed in_one.came apart in_one.one, same)

  -- the seed moved by what passed in these units
  pub moved_total : (made : List (ℕ × ℕ)) (js : List Judging) → AreUnitsApart made →
      ((k : ℕ) (j : Judging) → slice_get js k ≡ Some j → passed_on channel j ≡ true → CameIn made j) → moved_on channel js ≡ total channel made js
  moved_total made [] apart came = sym (total_none made)
  moved_total made (j ∷ js) apart came =
      step_by (passed_on channel j) made j js refl apart (λ passed. came zero j refl passed) (moved_total made js apart (λ k one there passed. came (suc k) one there passed))

  -- ---- one unit

  module _ (m timestamp : ℕ) where
    abbrev Never : List Judging → Type 0
    Never js = (k : ℕ) (j : Judging) → slice_get js k ≡ Some j → is_hit channel m j ≡ true → ⊥

    weight_by : (hit : Bool) (j : Judging) (js : List Judging) → is_hit channel m j ≡ hit → weight channel m timestamp (j ∷ js) ≡ stamp_if hit timestamp + weight channel m timestamp js
    weight_by hit j js is = ap (λ (b : Bool). stamp_if b timestamp + weight channel m timestamp js) is

    never_by : (hit : Bool) (j : Judging) (js : List Judging) → is_hit channel m j ≡ hit → (is_hit channel m j ≡ true → ⊥) → weight channel m timestamp js ≡ 0 →
        weight channel m timestamp (j ∷ js) ≡ 0
    never_by false j js is never none = omega (arith, weight_by false j js is, none)
    never_by true j js is never none = absurd (never is)

    weight_never : (js : List Judging) → Never js → weight channel m timestamp js ≡ 0
    weight_never [] never = refl
    weight_never (j ∷ js) never = never_by (is_hit channel m j) j js refl (λ is. never zero j refl is) (weight_never js (λ k one there is. never (suc k) one there is))

    abbrev Once : List Judging → Type 0
    Once js = (k l : ℕ) (one other : Judging) → k < l → slice_get js k ≡ Some one → slice_get js l ≡ Some other → is_hit channel m one ≡ true → is_hit channel m other ≡ true → ⊥

    once_by : (hit : Bool) (j : Judging) (js : List Judging) → is_hit channel m j ≡ hit → (is_hit channel m j ≡ true → Never js) →
        (weight channel m timestamp js ≡ 0) ⊎ (weight channel m timestamp js ≡ timestamp + 1) →
        (weight channel m timestamp (j ∷ js) ≡ 0) ⊎ (weight channel m timestamp (j ∷ js) ≡ timestamp + 1)
    once_by false j js is never rest = elim rest [ inl none ↦ inl (omega (arith, weight_by false j js is, none)) | inr one ↦ inr (omega (arith, weight_by false j js is, one)) ]
    once_by true j js is never rest = inr (omega (arith, weight_by true j js is, weight_never js (never is)))

    pub weight_once : (js : List Judging) → Once js → (weight channel m timestamp js ≡ 0) ⊎ (weight channel m timestamp js ≡ timestamp + 1)
    weight_once [] once = inl refl
    weight_once (j ∷ js) once =
        once_by (is_hit channel m j) j js refl (λ is k other there also. once zero (suc k) j other (omega arith) refl there is also)
        (weight_once js (λ k l one other before there too is also. once (suc k) (suc l) one other (omega (arith, before)) there too is also))

    pub weight_some : (js : List Judging) (k : ℕ) (j : Judging) → slice_get js k ≡ Some j → is_hit channel m j ≡ true → timestamp + 1 ≤ weight channel m timestamp js
    weight_some [] k j there is = absurd (got_nothing k j there)
    weight_some (first ∷ js) zero j there is =
        let hit : is_hit channel m first ≡ true = ap (is_hit channel m) (some_is first j there) ∙ is in omega (arith, weight_by true first js hit)
    weight_some (first ∷ js) (suc k) j there is = omega (arith, weight_some js k j there is)

  -- ---- units in each of which a call passed

  pub total_all : (made : List (ℕ × ℕ)) (js : List Judging) → AllByRecursion (λ (one : ℕ × ℕ). weight channel one.0 one.1 js ≡ one.1 + 1) made →
      total channel made js ≡ moved_by (stamps_of made)
  total_all [] js all = sym moved_none
  total_all (one ∷ made) js all = omega (arith, all.0, total_all made js all.1, moved_one one.1 (stamps_of made))
