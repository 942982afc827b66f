-- Laws of the check of an NT response: its answer for each length, and that the test decides the fact.
use Rattle.std.proofs.Common.{◌≡◌, ◌≢◌, ℕ, ◌<◌, ◌≤◌, ◌==◌, true, false, nat_le, List, length, take, drop, refl, sym, ◌∙◌, inl, inr, arith}
use Rattle.std.proofs.lemmas.Bool.{cases_eq, cases_lt}
use Rattle.std.proofs.lemmas.Bool.Decides.{nat_tests}
use Rattle.std.proofs.lemmas.Slice.Eq.{bytes_eq-Decides}
use Rattle.std.specs.Bool.{Decides}
use Rattle.std.specs.Str.{bytes_eq}
use Rattle.digest_parts.specs.Hmac.{hmac_of}
use Rattle.digest_parts.specs.Md4.{md4_of}
use Rattle.ntlm_responses.specs.Hashes.{key_v2_of}
use Rattle.ntlm_responses.specs.Responses.{response_v1_of, proof_of}
use Rattle.ntlm_responses.specs.Verification.{Verifies, verifies, base_key_of}

-- ---- by length

-- the test of 24 bytes
at_24 : (nt : List ℕ) → length nt ≡ 24 → (length nt == 24) ≡ true
at_24 nt len = grind (arith, nat_tests)

not_at_24 : (nt : List ℕ) → length nt ≢ 24 → (length nt == 24) ≡ false
not_at_24 nt other = grind (arith, nat_tests)

from_44 : (nt : List ℕ) → 44 ≤ length nt → nat_le 44 (length nt) ≡ true
from_44 nt long = grind (arith, nat_tests)

below_44 : (nt : List ℕ) → length nt < 44 → nat_le 44 (length nt) ≡ false
below_44 nt short = grind (arith, nat_tests)

-- a response of 24 bytes
pub verifies-v1 : (hash user domain challenge nt : List ℕ) → length nt ≡ 24 → verifies hash user domain challenge nt ≡ bytes_eq nt (response_v1_of hash challenge)
unfolding verifies
verifies-v1 hash user domain challenge nt len = rw (at_24 nt len) refl

pub base_key_of-v1 : (hash user domain nt : List ℕ) → length nt ≡ 24 → base_key_of hash user domain nt ≡ md4_of hash
unfolding base_key_of
base_key_of-v1 hash user domain nt len = rw (at_24 nt len) refl

-- a response of 44 bytes or more
pub verifies-v2 : (hash user domain challenge nt : List ℕ) → 44 ≤ length nt → verifies hash user domain challenge nt ≡ bytes_eq (take 16 nt) (proof_of (key_v2_of hash user domain) challenge (drop 16 nt))
unfolding verifies
verifies-v2 hash user domain challenge nt long = rw (not_at_24 nt (omega arith), from_44 nt long) refl

pub base_key_of-v2 : (hash user domain nt : List ℕ) → length nt ≢ 24 → base_key_of hash user domain nt ≡ hmac_of (key_v2_of hash user domain) (take 16 nt)
unfolding base_key_of
base_key_of-v2 hash user domain nt other = rw (not_at_24 nt other) refl

-- a response of another length
pub verifies-other : (hash user domain challenge nt : List ℕ) → length nt ≢ 24 → length nt < 44 → verifies hash user domain challenge nt ≡ false
unfolding verifies
verifies-other hash user domain challenge nt other short = rw (not_at_24 nt other, below_44 nt short) refl

-- for `grind`: the answer of `verify` by length
pub ruleset lengths = (verifies-v1, base_key_of-v1, verifies-v2, base_key_of-v2, verifies-other)

-- ---- the test decides the fact

pub verifies-Decides : (hash user domain challenge nt : List ℕ) → Decides (verifies hash user domain challenge nt) (Verifies hash user domain challenge nt)
verifies-Decides hash user domain challenge nt =
    elim (cases_eq (length nt) 24) [
      | inl len ↦
          let same = bytes_eq-Decides nt (response_v1_of hash challenge) in
          let is = verifies-v1 hash user domain challenge nt len in (
            λ passes. inl (len, same.0 (sym is ∙ passes)),
            λ fact. elim fact [ inl one ↦ is ∙ same.1 one.1 | inr two ↦ absurd (omega (arith, two.0, len)) ],
          )
      | inr other ↦
          elim (cases_lt (length nt) 44) [
            | inl short ↦
                let is = verifies-other hash user domain challenge nt other short in (
                  λ passes. absurd (cc (is, passes)),
                  λ fact. elim fact [ inl one ↦ absurd (other one.0) | inr two ↦ absurd (omega (arith, two.0, short)) ],
                )
            | inr long ↦
                let same = bytes_eq-Decides (take 16 nt) (proof_of (key_v2_of hash user domain) challenge (drop 16 nt)) in
                let is = verifies-v2 hash user domain challenge nt long in (
                  λ passes. inr (long, same.0 (sym is ∙ passes)),
                  λ fact. elim fact [ inl one ↦ absurd (other one.0) | inr two ↦ is ∙ same.1 two.1 ],
                )
          ]
    ]

-- for `grind`: a value exactly where the fact holds
pub ruleset decided = (verifies-Decides)
