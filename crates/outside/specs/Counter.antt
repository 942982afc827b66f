-- The maker of challenges that counts (this project's own choice). A seed has 32 bytes, a key 16 and a challenge 8; the
-- number of a boot and a count are below 2^32.
use Rattle.std.specs.Prelude.{ℕ, zero, suc, ◌+◌, ◌-◌, ◌*◌, ◌^◌, List, [], ◌∷◌, ◌++◌}
use Rattle.std.specs.Int.{w32, w64, to_le_bytes}
use Rattle.rand_chacha.specs.ChaCha.{word_at, key_of}
use Rattle.channel_keys.specs.Credentials.{cred_of}
use Rattle.outside.specs.Drawing.{Drawing}

-- a word of ChaCha20's stream of a seed, which has ten double rounds, low byte first
abbrev pub seed_word : List ℕ → ℕ → List ℕ
seed_word seed place = to_le_bytes w32 (word_at 10 (key_of seed) 0 place)

-- the key of a seed: the first four words
unfoldable pub maker_key_of : List ℕ → List ℕ
maker_key_of seed = seed_word seed 0 ++ seed_word seed 1 ++ seed_word seed 2 ++ seed_word seed 3

-- the challenge with a count: the credential, under the seed's key, of the boot's number and the count as one number of
-- 64 bits, low byte first
unfoldable pub challenge_of : List ℕ → ℕ → ℕ → List ℕ
challenge_of seed boot count = cred_of (maker_key_of seed) (to_le_bytes w64 (boot * 2 ^ 32 + count))

-- challenges from `count` on, as many as `more`
unfoldable pub challenges_from : (seed : List ℕ) (boot count more : ℕ) → List (List ℕ)
challenges_from seed boot count zero = []
challenges_from seed boot count (suc more) = challenge_of seed boot count ∷ challenges_from seed boot (count + 1) more

-- how many challenges a start gives: the last count is left out
abbrev pub most_draws : ℕ
most_draws = 2 ^ 32 - 1

-- the maker of a seed and a boot's number at a count: the challenges before the count were drawn, the others are left
abbrev pub counter_at : List ℕ → ℕ → ℕ → Drawing
counter_at seed boot count = record {
  seed = seed;
  boot = boot;
  drawn = challenges_from seed boot 0 count;
  left = challenges_from seed boot count (most_draws - count);
}
