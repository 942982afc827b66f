-- The challenges that are drawn in the run in which FILE1 replaces its secret, computed. It serves
-- `a_change_leaves_none_apart`.
use Rattle.std.proofs.Common.{◌≡◌, ℕ, zero, suc, ◌+◌, ◌-◌, List, [], ◌∷◌, ◌++◌, map, refl, ap, ap₂, ◌∙◌, arith}
use Rattle.std.specs.Int.{w64, to_le_bytes}
use Rattle.std.proofs.Math.Bool.{xor}
use Rattle.des_cipher.specs.Bits.{bits_of, bytes_of, combined, number_bits, number_of, permuted}
use Rattle.des_cipher.specs.Cipher.{box_place, cipher, mixed, rounds, substituted, substitutions}
use Rattle.des_cipher.specs.Des.{des_of, spread_of}
use Rattle.des_cipher.specs.Schedule.{round_keys, round_keys_from}
use Rattle.channel_keys.specs.Credentials.{cred_of}
use Rattle.outside.specs.Counter.{challenge_of, challenges_from, maker_key_of, most_draws}
use Rattle.world_moves.specs.World.{first_world}
use Rattle.claim_examples.specs.ChangeRuns.{changing_plan}
use Rattle.claim_examples.proofs.Runs.ExampleKeyLaws.{maker_key, maker_key_so}

-- in order, each as a number, low byte first
abbrev pub change_draws : List (List ℕ)
change_draws =
    map (to_le_bytes w64)
    (0x03FF3B35CB076801 ∷ 0x013EADD3BD2B5C54 ∷ 0x75BD24B0AA50067C ∷ 0xA8E40AC57B869384 ∷ 0x31397D95EC3B264C ∷ 0xEE64FF2F93961175
    ∷ 0x6E7DB0DB2A8E8FD1 ∷ 0x505880877822E015 ∷ 0x0D9A52EF7E11C55B ∷ 0x52A825F8AD636A4B ∷ 0xD53AD448353CDE0D ∷ 0xE3719D91B9D544C7
    ∷ 0x9DEFD6A5E7ADA4BE ∷ 0xC541283C5DA46A0B ∷ 0xA500530364590666 ∷ 0x2572208246DB6348 ∷ 0xD33B25F9506CCF92 ∷ 0xD05A3F53AED840ED ∷ [])

-- challenges under a key from `count` on, as many as `more`
abbrev creds : (key : List ℕ) (count more : ℕ) → List (List ℕ)
creds key count zero = []
creds key count (suc more) = cred_of key (to_le_bytes w64 (0 + count)) ∷ creds key (count + 1) more

creds_so : creds maker_key 0 18 ≡ change_draws
unfolding cred_of des_of spread_of permuted combined number_bits number_of bits_of bytes_of box_place substituted substitutions mixed rounds cipher round_keys round_keys_from xor
creds_so = refl

-- the challenges behind the first `more` are the later ones
drawn_under : (seed : List ℕ) (count more rest : ℕ) → challenges_from seed 0 count (more + rest) ≡ creds (maker_key_of seed) count more ++ challenges_from seed 0 (count + more) rest
unfolding challenge_of challenges_from
drawn_under seed count zero rest =
    let none : zero + rest ≡ rest = omega arith in
    let still : count ≡ count + zero = omega arith in
    ap₂ (λ (from few : ℕ). challenges_from seed 0 from few) still none
drawn_under seed count (suc more) rest =
    let one : suc more + rest ≡ suc (more + rest) = omega arith in
    let behind : count + 1 + more ≡ count + suc more = omega arith in
    ap (λ (few : ℕ). challenges_from seed 0 count few) one
    ∙ ap (λ (left : List (List ℕ)). cred_of (maker_key_of seed) (to_le_bytes w64 (0 + count)) ∷ left)
    (drawn_under seed (count + 1) more rest ∙ ap (λ (from : ℕ). creds (maker_key_of seed) (count + 1) more ++ challenges_from seed 0 from rest) behind)

-- the challenges that are left behind the 18 that are drawn
abbrev pub left_behind : List (List ℕ)
left_behind = challenges_from changing_plan.seed 0 18 (most_draws - 18)

pub first_left : (first_world changing_plan).state.chances.left ≡ change_draws ++ left_behind
first_left =
    drawn_under changing_plan.seed 0 18 (most_draws - 18)
    ∙ ap (λ (draws : List (List ℕ)). draws ++ left_behind) (ap (λ (key : List ℕ). creds key 0 18) maker_key_so ∙ creds_so)
