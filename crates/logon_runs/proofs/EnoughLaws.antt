-- Challenges of 8 bytes are left for so many moves, and after each move for those that are to come.
-- It serves `logons_rest`.
use Rattle.std.proofs.Common.{◌≡◌, ℕ, suc, ◌≤◌, ap, ◌++◌, arith, length-append, sym, subst, List, [], ◌∷◌, length, refl}
use Rattle.std.specs.List.{AllByRecursion}
use Rattle.logon_stubs.specs.Ranges.{IsBlock}
use Rattle.logon_runs.specs.Phases.{DrawsFew, HasThree}
use Rattle.logon_runs.specs.Rests.{HasEnough}

pub three_from : (left : List (List ℕ)) → AllByRecursion (λ (challenge : List ℕ). IsBlock 8 challenge) left → 3 ≤ length left → HasThree left
three_from [] are many = absurd (omega (arith, many))
three_from (one ∷ []) are many = absurd (omega (arith, many))
three_from (one ∷ two ∷ []) are many = absurd (omega (arith, many))
three_from (one ∷ two ∷ three ∷ more) are many = record { one = one; two = two; three = three; more = more; are = refl; first = are.0; second = are.1.0; third = are.1.1.0 }

pub rest_of : (front after : List (List ℕ)) → AllByRecursion (λ (challenge : List ℕ). IsBlock 8 challenge) (front ++ after) → AllByRecursion (λ (challenge : List ℕ). IsBlock 8 challenge) after
rest_of [] after are = are
rest_of (first ∷ front) after are = rest_of front after are.1

pub enough_after : (moves : ℕ) (before after : List (List ℕ)) → HasEnough (suc moves) before → DrawsFew before after → HasEnough moves after
enough_after moves before after enough few = record {
  many = omega (arith, enough.many, few.few, ap length few.are, length-append few.front after);
  blocks = rest_of few.front after (subst (AllByRecursion (λ (challenge : List ℕ). IsBlock 8 challenge)) few.are enough.blocks);
}

pub none_drawn : (before after : List (List ℕ)) → after ≡ before → DrawsFew before after
none_drawn before after same = record { front = []; few = omega arith; are = sym same }
