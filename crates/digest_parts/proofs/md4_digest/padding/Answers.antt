use Rattle.std.proofs.Common.{◌≡◌, ℕ, ◌+◌, ◌-◌, ◌%◌, ◌≤◌, ◌∷◌, take, replicate, arith, refl, add-one}
use Rattle.std.proofs.lemmas.List.{take-replicate}
use Rattle.digest_parts.proofs.md4_digest.padding.Goals as goal

front : (x y n : ℕ) → n ≤ 63 → take (n + 1) (x ∷ replicate 63 y) ≡ x ∷ replicate n y
front x y n h =
    let zeros = take-replicate n 63 y h in
    rw (add-one, zeros) refl

pub returns : goal.returns
returns c =
    let used : c.args.used % 64 ≡ c.args.used = omega arith in
    rw used (front 0x80 0 ((119 - c.args.used) % 64) (omega arith))
