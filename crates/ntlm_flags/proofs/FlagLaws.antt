-- Flags of two sets.
use Rattle.std.proofs.Common.{◌≡◌, ℕ, ◌&&◌, true, eqb, sym, ap, ◌∙◌, inl, inr}
use Rattle.std.specs.Prelude.{bit_and, bit_or}
use Rattle.std.specs.Int.Bits.{and_self}
use Rattle.std.proofs.lemmas.Bool.{eqb-true, eq-eqb, cases_Bool}
use Rattle.std.proofs.lemmas.Nat.{and_assoc, and_comm, and_or_apart}
use Rattle.ntlm_flags.specs.Flags.{has_flag, challenge_flags, answered_flags, target_flags}

-- a flag of the set is all that the set has of it
of_both : (a b flag : ℕ) → has_flag a flag ≡ true → has_flag (bit_and a b) flag ≡ has_flag b flag
of_both a b flag in_a =
    let is : bit_and (bit_and a b) flag ≡ bit_and b flag =
    ap (λ (n : ℕ). bit_and n flag) (and_comm a b) ∙ and_assoc flag b a ∙ ap (bit_and b) (eqb-true _ _ in_a) in
    ap (λ (n : ℕ). eqb n flag) is

-- a flag of both sets is in the first
in_first : (a b flag : ℕ) → has_flag (bit_and a b) flag ≡ true → has_flag a flag ≡ true
in_first a b flag in_both =
    let whole : bit_and (bit_and a b) flag ≡ flag = eqb-true _ _ in_both in
    let again : bit_and a flag ≡ bit_and a (bit_and (bit_and a b) flag) = ap (bit_and a) (sym whole) in
    let inner : bit_and a (bit_and (bit_and a b) flag) ≡ bit_and (bit_and a (bit_and a b)) flag = sym (and_assoc flag a (bit_and a b)) in
    let once : bit_and a (bit_and a b) ≡ bit_and a b = sym (and_assoc b a a) ∙ ap (λ (n : ℕ). bit_and n b) (and_self a) in
    eq-eqb _ _ (again ∙ inner ∙ ap (λ (n : ℕ). bit_and n flag) once ∙ whole)

pub has_flag-and : (a b flag : ℕ) → has_flag (bit_and a b) flag ≡ (has_flag a flag && has_flag b flag)
has_flag-and a b flag =
    elim (cases_Bool (has_flag a flag)) [
      | inl in_a ↦ rw in_a (of_both a b flag in_a)
      | inr not_in_a ↦
          elim (cases_Bool (has_flag (bit_and a b) flag)) [
            | inl in_both ↦ absurd (let e = sym (in_first a b flag in_both) ∙ not_in_a in cc)
            | inr not_in_both ↦ rw not_in_a not_in_both
          ]
    ]

pub has_flag-or : (a more flag : ℕ) → bit_and more flag ≡ 0 → has_flag (bit_or a more) flag ≡ has_flag a flag
has_flag-or a more flag apart = ap (λ (n : ℕ). eqb n flag) (and_or_apart flag a more apart)

pub has_flag-challenge : (offered flag : ℕ) → bit_and target_flags flag ≡ 0 → has_flag (challenge_flags offered) flag ≡ (has_flag offered flag && has_flag answered_flags flag)
has_flag-challenge offered flag apart = has_flag-or (bit_and offered answered_flags) target_flags flag apart ∙ has_flag-and offered answered_flags flag
