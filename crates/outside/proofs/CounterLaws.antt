-- Laws of the maker of challenges that counts: what is drawn and left at each count, and that no two challenges are
-- alike.
use Rattle.std.proofs.Common.{◌≡◌, ◌≢◌, ℕ, zero, suc, ◌+◌, ◌-◌, ◌*◌, ◌^◌, ◌<◌, List, [], ◌∷◌, ◌++◌, length, get_or, All, AllPairs, refl, ap, sym, ◌∙◌, arith}
use Rattle.std.proofs.lemmas.List.Elements.{All-from_recursion, All-cons, All-nil}
use Rattle.std.proofs.lemmas.Nat.{from_le_bytes-to_le_bytes_8}
use Rattle.std.specs.Int.{w64, to_le_bytes, from_le_bytes}
use Rattle.channel_keys.specs.Des.{IsBlock}
use Rattle.channel_keys.specs.Credentials.{cred_of}
use Rattle.channel_keys.proofs.CredLaws.{IsBlock-cred_of, cred_of-one_to_one}
use Rattle.outside.specs.Counter.{maker_key_of, challenge_of, challenges_from}

-- the eight bytes of a number
IsBlock-to_le_bytes : (n : ℕ) → IsBlock (to_le_bytes w64 n)
IsBlock-to_le_bytes n = record {
  eight = refl;
  bytes = All-from_recursion (λ b. b < 256) (to_le_bytes w64 n) (omega arith, (omega arith, (omega arith, (omega arith, (omega arith, (omega arith, (omega arith, (omega arith, tt))))))));
}

-- two numbers of 64 bits with one challenge are one
one_number : (key : List ℕ) (m n : ℕ) → m < 2 ^ 64 → n < 2 ^ 64 → cred_of key (to_le_bytes w64 m) ≡ cred_of key (to_le_bytes w64 n) → m ≡ n
one_number key m n hm hn e =
    sym (from_le_bytes-to_le_bytes_8 m hm)
    ∙ ap (from_le_bytes w64) (cred_of-one_to_one key (to_le_bytes w64 m) (to_le_bytes w64 n) (IsBlock-to_le_bytes m) (IsBlock-to_le_bytes n) e)
    ∙ from_le_bytes-to_le_bytes_8 n hn

-- the challenge made under the key of a seed
pub challenge_of-key : (seed : List ℕ) (boot count : ℕ) (key challenge : List ℕ) → key ≡ maker_key_of seed → challenge ≡ cred_of key (to_le_bytes w64 (boot * 2 ^ 32 + count)) → challenge ≡ challenge_of seed boot count
unfolding challenge_of
challenge_of-key seed boot count key challenge k e = e ∙ ap (λ z. cred_of z (to_le_bytes w64 (boot * 2 ^ 32 + count))) k

-- each challenge is a block
pub blocks-challenges_from : (seed : List ℕ) (boot count more : ℕ) → All IsBlock (challenges_from seed boot count more)
unfolding challenges_from challenge_of
blocks-challenges_from seed boot count zero = All-nil IsBlock
blocks-challenges_from seed boot count (suc more) =
    All-cons IsBlock (challenge_of seed boot count) (challenges_from seed boot (count + 1) more) (IsBlock-cred_of (maker_key_of seed) (to_le_bytes w64 (boot * 2 ^ 32 + count))) (blocks-challenges_from seed boot (count + 1) more)

-- challenges of one seed and one boot with different counts differ
pub challenge_of-counts : (seed : List ℕ) (boot m n : ℕ) → boot < 2 ^ 32 → m < 2 ^ 32 → n < 2 ^ 32 → m ≢ n → challenge_of seed boot m ≢ challenge_of seed boot n
unfolding challenge_of
challenge_of-counts seed boot m n hb hm hn ne e =
    let same : boot * 2 ^ 32 + m ≡ boot * 2 ^ 32 + n = one_number (maker_key_of seed) _ _ (omega arith) (omega arith) e in
    ne (omega (arith, same))

-- challenges of one seed and different boots differ
pub challenge_of-boots : (seed : List ℕ) (boot other m n : ℕ) → boot < 2 ^ 32 → other < 2 ^ 32 → m < 2 ^ 32 → n < 2 ^ 32 → other ≢ boot → challenge_of seed boot m ≢ challenge_of seed other n
unfolding challenge_of
challenge_of-boots seed boot other m n hb ho hm hn ne e =
    let same : boot * 2 ^ 32 + m ≡ other * 2 ^ 32 + n = one_number (maker_key_of seed) _ _ (omega arith) (omega arith) e in
    ne (omega (arith, same))

pub length-challenges_from : (seed : List ℕ) (boot count more : ℕ) → length (challenges_from seed boot count more) ≡ more
unfolding challenges_from
length-challenges_from seed boot count zero = refl
length-challenges_from seed boot count (suc more) = ap suc (length-challenges_from seed boot (count + 1) more)

-- each by its place
pub get_or-challenges_from : (seed : List ℕ) (boot count more i : ℕ) (d : List ℕ) → i < more → get_or (challenges_from seed boot count more) i d ≡ challenge_of seed boot (count + i)
unfolding challenges_from
get_or-challenges_from seed boot count zero i d h = absurd (omega arith)
get_or-challenges_from seed boot count (suc more) zero d h = ap (challenge_of seed boot) (omega arith)
get_or-challenges_from seed boot count (suc more) (suc i) d h =
    get_or-challenges_from seed boot (count + 1) more i d (omega arith) ∙ ap (challenge_of seed boot) (omega arith)

pub challenges_from-none : (seed : List ℕ) (boot count : ℕ) → challenges_from seed boot count 0 ≡ []
unfolding challenges_from
challenges_from-none seed boot count = refl

-- one more
pub challenges_from-push : (seed : List ℕ) (boot count more : ℕ) → challenges_from seed boot count (more + 1) ≡ challenges_from seed boot count more ++ challenge_of seed boot (count + more) ∷ []
unfolding challenges_from
challenges_from-push seed boot count zero = ap (λ n. challenge_of seed boot n ∷ []) (omega arith)
challenges_from-push seed boot count (suc more) =
    let grown : suc more + 1 ≡ suc (more + 1) = omega arith in
    let place : count + 1 + more ≡ count + suc more = omega arith in
    ap (challenges_from seed boot count) grown
    ∙ ap (λ z. challenge_of seed boot count ∷ z) (challenges_from-push seed boot (count + 1) more)
    ∙ ap (λ n. challenge_of seed boot count ∷ (challenges_from seed boot (count + 1) more ++ challenge_of seed boot n ∷ [])) place

-- the challenges left, where one is
pub challenges_from-next : (seed : List ℕ) (boot count more : ℕ) → 0 < more → challenges_from seed boot count more ≡ challenge_of seed boot count ∷ challenges_from seed boot (count + 1) (more - 1)
unfolding challenges_from
challenges_from-next seed boot count zero h = absurd (omega arith)
challenges_from-next seed boot count (suc more) h =
    let less : more ≡ suc more - 1 = omega arith in ap (λ n. challenge_of seed boot count ∷ challenges_from seed boot (count + 1) n) less

-- the challenges that are drawn from the count 0 on are distinct
pub challenges_from-distinct : (seed : List ℕ) (boot more : ℕ) → boot < 2 ^ 32 → more < 2 ^ 32 → AllPairs (λ one other. one ≢ other) (challenges_from seed boot 0 more)
challenges_from-distinct seed boot more hb hm i j d before within same =
    let long : length (challenges_from seed boot 0 more) ≡ more = length-challenges_from seed boot 0 more in
    let one : get_or (challenges_from seed boot 0 more) i d ≡ challenge_of seed boot (0 + i) = get_or-challenges_from seed boot 0 more i d (omega arith) in
    let other : get_or (challenges_from seed boot 0 more) j d ≡ challenge_of seed boot (0 + j) = get_or-challenges_from seed boot 0 more j d (omega arith) in
    let apart : 0 + i ≢ 0 + j = omega arith in
    challenge_of-counts seed boot (0 + i) (0 + j) hb (omega arith) (omega arith) apart (sym one ∙ same ∙ other)
