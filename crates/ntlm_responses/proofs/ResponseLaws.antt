-- What crates above may use of hashes, responses and keys: their lengths, that they are bytes, and that what is written
-- verifies.
use Rattle.std.proofs.Common.{sym, ap, subst, ◌∙◌, append_assoc, ◌≡◌, ◌≢◌, ◌&&◌, ℕ, ◌+◌, ◌<◌, ◌≤◌, ◌==◌, true, false, IsTrue, List, ◌∷◌, ◌++◌, length, take, drop, replicate, refl, inl, inr, arith, lit<, length-append}
use Rattle.std.proofs.lemmas.Bool.{ne_eqb}
use Rattle.std.proofs.Math.Bool.{and-false}
use Rattle.std.proofs.lemmas.List.{length-take-le, take_at, drop_at}
use Rattle.std.proofs.lemmas.List.Elements.{All-append, All-from_recursion, All-replicate, All-take}
use Rattle.std.specs.Int.{w64, to_le_bytes}
use Rattle.std.specs.List.{All}
use Rattle.md5.specs.Md5.{md5}
use Rattle.des_cipher.specs.Des.{IsBlock, des_of, des_back_of, spread_of}
use Rattle.des_cipher.proofs.DesLaws.{length-des_of, All-des_of, des_back_of-des_of}
use Rattle.digest_parts.proofs.Laws.{length-md4_of, All-md4_of, length-md5, All-md5, length-hmac_of, All-hmac_of}
use Rattle.rc4_stream.proofs.Rc4Laws.{applied-applied, length-applied}
use Rattle.wire_base.specs.Units.{AreUnits, utf16_of}
use Rattle.ntlm_flags.specs.Flags.{has_flag, negotiate_extended_sessionsecurity, negotiate_unicode}
use Rattle.ntlm_messages.specs.Text.{units_of_text}
use Rattle.ntlm_messages.specs.declared.messages.Authenticate.{Authenticate}
use Rattle.ntlm_messages.proofs.TextLaws.{units_of_text-written}
use Rattle.ntlm_responses.specs.Hashes.{des7_of, desl_of, key_v2_of}
use Rattle.ntlm_responses.specs.Responses.{response_v1_of, hashed_challenge_of, response_ess_of, temp_of, proof_of, response_v2_of, is_ess_pair, challenge_for_of}
use Rattle.ntlm_responses.specs.Verification.{Verifies, PairVerifies, MessageVerifies, base_key_by, base_key_of}

abbrev pub IsByte : ℕ → Type 0
IsByte b = b < 256

-- ---- responses

pub length-desl_of : (key block : List ℕ) → length (desl_of key block) ≡ 24
unfolding desl_of
length-desl_of key block =
    let first = des7_of (take 7 key) block in
    let second = des7_of (take 7 (drop 7 key)) block in
    let third = des7_of (take 2 (drop 14 key) ++ replicate 5 0) block in
    let one : length first ≡ 8 = length-des_of _ _ in
    let two : length second ≡ 8 = length-des_of _ _ in
    let three : length third ≡ 8 = length-des_of _ _ in
    omega (arith, length-append (first ++ second) third, length-append first second)

pub All-desl_of : (key block : List ℕ) → All IsByte (desl_of key block)
unfolding desl_of
All-desl_of key block = All-append IsByte _ _ (All-append IsByte _ _ (All-des_of _ _) (All-des_of _ _)) (All-des_of _ _)

pub length-response_v1_of : (hash challenge : List ℕ) → length (response_v1_of hash challenge) ≡ 24
unfolding response_v1_of
length-response_v1_of hash challenge = length-desl_of hash challenge

pub All-response_v1_of : (hash challenge : List ℕ) → All IsByte (response_v1_of hash challenge)
unfolding response_v1_of
All-response_v1_of hash challenge = All-desl_of hash challenge

pub length-hashed_challenge_of : (challenge client : List ℕ) → length (hashed_challenge_of challenge client) ≡ 8
unfolding hashed_challenge_of
length-hashed_challenge_of challenge client = length-take-le 8 (md5 (challenge ++ client)) (omega (arith, length-md5 (challenge ++ client)))

pub All-hashed_challenge_of : (challenge client : List ℕ) → All IsByte (hashed_challenge_of challenge client)
unfolding hashed_challenge_of
All-hashed_challenge_of challenge client = All-take IsByte 8 _ (All-md5 _)

pub length-response_ess_of : (hash challenge client : List ℕ) → length (response_ess_of hash challenge client) ≡ 24
unfolding response_ess_of
length-response_ess_of hash challenge client = length-response_v1_of hash _

pub All-response_ess_of : (hash challenge client : List ℕ) → All IsByte (response_ess_of hash challenge client)
unfolding response_ess_of
All-response_ess_of hash challenge client = All-response_v1_of hash _

pub length-proof_of : (key challenge temp : List ℕ) → length (proof_of key challenge temp) ≡ 16
unfolding proof_of
length-proof_of key challenge temp = length-hmac_of _ _

pub All-proof_of : (key challenge temp : List ℕ) → All IsByte (proof_of key challenge temp)
unfolding proof_of
All-proof_of key challenge temp = All-hmac_of _ _

pub length-temp_of : (time : ℕ) (client pairs : List ℕ) → length (temp_of time client pairs) ≡ 24 + length client + length pairs
unfolding temp_of
length-temp_of time client pairs =
    let head = 1 ∷ 1 ∷ replicate 6 0 ++ to_le_bytes w64 time in
    omega (
      arith,
      length-append (head ++ client ++ replicate 4 0 ++ pairs) (replicate 4 0),
      length-append (head ++ client ++ replicate 4 0) pairs,
      length-append (head ++ client) (replicate 4 0),
      length-append head client,
    )

time_bytes : (time : ℕ) → All IsByte (to_le_bytes w64 time)
time_bytes time =
    All-from_recursion IsByte (to_le_bytes w64 time)
    (omega arith, (omega arith, (omega arith, (omega arith, (omega arith, (omega arith, (omega arith, (omega arith, tt))))))))

pub All-temp_of : (time : ℕ) (client pairs : List ℕ) → All IsByte client → All IsByte pairs → All IsByte (temp_of time client pairs)
unfolding temp_of
All-temp_of time client pairs of_client of_pairs =
    let start : All IsByte (1 ∷ 1 ∷ replicate 6 0) =
    All-from_recursion IsByte (1 ∷ 1 ∷ replicate 6 0) (lit< tt, (lit< tt, (lit< tt, (lit< tt, (lit< tt, (lit< tt, (lit< tt, (lit< tt, tt)))))))) in
    let head = 1 ∷ 1 ∷ replicate 6 0 in
    let time_of = to_le_bytes w64 time in
    let gap = replicate 4 0 in
    let zeros : All IsByte gap = All-replicate IsByte 4 0 (lit< tt) in
    let timed = All-append IsByte head time_of start (time_bytes time) in
    let named = All-append IsByte (head ++ time_of) client timed of_client in
    let spaced = All-append IsByte (head ++ time_of ++ client) gap named zeros in
    let paired = All-append IsByte (head ++ time_of ++ client ++ gap) pairs spaced of_pairs in
    All-append IsByte (head ++ time_of ++ client ++ gap ++ pairs) gap paired zeros

pub length-response_v2_of : (hash user domain challenge : List ℕ) (time : ℕ) (client pairs : List ℕ) → length (response_v2_of hash user domain challenge time client pairs) ≡ 40 + length client + length pairs
unfolding response_v2_of
length-response_v2_of hash user domain challenge time client pairs =
    let key = key_v2_of hash user domain in
    let temp = temp_of time client pairs in
    omega (arith, length-append (proof_of key challenge temp) temp, length-proof_of key challenge temp, length-temp_of time client pairs)

pub All-response_v2_of : (hash user domain challenge : List ℕ) (time : ℕ) (client pairs : List ℕ) → All IsByte client → All IsByte pairs → All IsByte (response_v2_of hash user domain challenge time client pairs)
unfolding response_v2_of
All-response_v2_of hash user domain challenge time client pairs of_client of_pairs =
    All-append IsByte (proof_of (key_v2_of hash user domain) challenge (temp_of time client pairs)) (temp_of time client pairs) (All-proof_of _ _ _) (All-temp_of time client pairs of_client of_pairs)

-- ---- the challenge answered

-- of a pair that isn't NTLMv1 with extended session security
pub challenge_for_of-plain : (flags : ℕ) (challenge lm nt : List ℕ) → is_ess_pair flags lm nt ≡ false → challenge_for_of flags challenge lm nt ≡ challenge
challenge_for_of-plain flags challenge lm nt plain = rw plain refl

-- of one that is
pub challenge_for_of-ess : (flags : ℕ) (challenge lm nt : List ℕ) → is_ess_pair flags lm nt ≡ true → challenge_for_of flags challenge lm nt ≡ hashed_challenge_of challenge (take 8 lm)
challenge_for_of-ess flags challenge lm nt ess = rw ess refl

-- without the flag
is_ess_pair-flag : (flags : ℕ) (lm nt : List ℕ) → has_flag flags negotiate_extended_sessionsecurity ≡ false → is_ess_pair flags lm nt ≡ false
unfolding is_ess_pair
is_ess_pair-flag flags lm nt without = rw without refl

-- where the NT response has another length
is_ess_pair-length : (flags : ℕ) (lm nt : List ℕ) → length nt ≢ 24 → is_ess_pair flags lm nt ≡ false
unfolding is_ess_pair
is_ess_pair-length flags lm nt other =
    rw (ne_eqb (length nt) 24 other) (and-false (has_flag flags negotiate_extended_sessionsecurity && length lm == 24))

is_ess_pair-all : (flags : ℕ) (lm nt : List ℕ) → has_flag flags negotiate_extended_sessionsecurity ≡ true → length lm ≡ 24 → length nt ≡ 24 → is_ess_pair flags lm nt ≡ true
unfolding is_ess_pair
is_ess_pair-all flags lm nt with_flag first second = rw (with_flag, first, second) refl

-- ---- keys

pub length-base_key_of : (hash user domain nt : List ℕ) → length (base_key_of hash user domain nt) ≡ 16
unfolding base_key_of
length-base_key_of hash user domain nt =
    elim (length nt == 24) as (λ v. length (base_key_by v hash user domain nt) ≡ 16)
    [ true ↦ length-md4_of _ | false ↦ length-hmac_of _ _ ]

pub All-base_key_of : (hash user domain nt : List ℕ) → All IsByte (base_key_of hash user domain nt)
unfolding base_key_of
All-base_key_of hash user domain nt =
    elim (length nt == 24) as (λ v. All IsByte (base_key_by v hash user domain nt))
    [ true ↦ All-md4_of _ | false ↦ All-hmac_of _ _ ]

-- ---- what is written verifies

pub Verifies-response_v1_of : (hash user domain challenge : List ℕ) → Verifies hash user domain challenge (response_v1_of hash challenge)
Verifies-response_v1_of hash user domain challenge = inl (length-response_v1_of hash challenge, refl)

pub Verifies-response_ess_of : (hash user domain challenge client : List ℕ) → Verifies hash user domain (hashed_challenge_of challenge client) (response_ess_of hash challenge client)
unfolding response_ess_of
Verifies-response_ess_of hash user domain challenge client = Verifies-response_v1_of hash user domain (hashed_challenge_of challenge client)

-- any 28 bytes or more behind their proof
pub Verifies-proof_of : (hash user domain challenge temp : List ℕ) → 28 ≤ length temp → Verifies hash user domain challenge (proof_of (key_v2_of hash user domain) challenge temp ++ temp)
Verifies-proof_of hash user domain challenge temp enough =
    let proof = proof_of (key_v2_of hash user domain) challenge temp in
    let len : length proof ≡ 16 = length-proof_of (key_v2_of hash user domain) challenge temp in
    let long : 44 ≤ length (proof ++ temp) = omega (arith, length-append proof temp) in
    inr (long, rw (take_at proof temp 16 len, drop_at proof temp 16 len) refl)

pub Verifies-response_v2_of : (hash user domain challenge : List ℕ) (time : ℕ) (client pairs : List ℕ) → 4 ≤ length client → Verifies hash user domain challenge (response_v2_of hash user domain challenge time client pairs)
unfolding response_v2_of
Verifies-response_v2_of hash user domain challenge time client pairs enough =
    Verifies-proof_of hash user domain challenge (temp_of time client pairs) (omega (arith, length-temp_of time client pairs))

-- an NTLMv1 response with extended session security, of a message with that flag, against the challenge that it answers
pub Verifies-challenge_for_of : (flags : ℕ) (hash user domain challenge client lm : List ℕ) → take 8 lm ≡ client → is_ess_pair flags lm (response_ess_of hash challenge client) ≡ true
    → Verifies hash user domain (challenge_for_of flags challenge lm (response_ess_of hash challenge client)) (response_ess_of hash challenge client)
Verifies-challenge_for_of flags hash user domain challenge client lm starts ess =
    rw (challenge_for_of-ess flags challenge lm (response_ess_of hash challenge client) ess, starts) (Verifies-response_ess_of hash user domain challenge client)

-- ---- what is written for a message verifies

pub pair_v1 : (hash user domain challenge lm : List ℕ) (flags : ℕ) → has_flag flags negotiate_extended_sessionsecurity ≡ false → PairVerifies hash flags user domain challenge lm (response_v1_of hash challenge)
pair_v1 hash user domain challenge lm flags without =
    rw (challenge_for_of-plain flags challenge lm (response_v1_of hash challenge) (is_ess_pair-flag flags lm (response_v1_of hash challenge) without))
    (Verifies-response_v1_of hash user domain challenge)

pub pair_ess : (hash user domain challenge client : List ℕ) (flags : ℕ) → has_flag flags negotiate_extended_sessionsecurity ≡ true → length client ≡ 8 → PairVerifies hash flags user domain challenge (client ++ replicate 16 0) (response_ess_of hash challenge client)
pair_ess hash user domain challenge client flags with_flag eight =
    let nt : List ℕ = response_ess_of hash challenge client in
    let lm : List ℕ = client ++ replicate 16 0 in
    let long : length lm ≡ 24 = omega (arith, length-append client (replicate 16 0), eight) in
    Verifies-challenge_for_of flags hash user domain challenge client lm (take_at client (replicate 16 0) 8 eight) (is_ess_pair-all flags lm nt with_flag long (length-response_ess_of hash challenge client))

pub pair_v2 : (hash user domain challenge lm client pairs : List ℕ) (flags time : ℕ) → length client ≡ 8 → PairVerifies hash flags user domain challenge lm (response_v2_of hash user domain challenge time client pairs)
pair_v2 hash user domain challenge lm client pairs flags time eight =
    let nt : List ℕ = response_v2_of hash user domain challenge time client pairs in
    let long : length nt ≢ 24 = λ same. omega (arith, same, length-response_v2_of hash user domain challenge time client pairs, eight) in
    rw (challenge_for_of-plain flags challenge lm nt (is_ess_pair-length flags lm nt long))
    (Verifies-response_v2_of hash user domain challenge time client pairs (omega (arith, eight)))

-- a message with these names in UTF-16LE verifies where its pair of responses does under their units
pub message_names : (hash user domain challenge : List ℕ) (flags : ℕ) (message : Authenticate) → IsTrue (has_flag message.flags negotiate_unicode) → AreUnits user → AreUnits domain → message.user ≡ utf16_of user → message.domain ≡ utf16_of domain
    → PairVerifies hash flags user domain challenge message.lm message.nt → MessageVerifies hash flags challenge message
message_names hash user domain challenge flags message wide user_fits domain_fits user_is domain_is verifies =
    let user_units : units_of_text message.flags message.user ≡ user =
    ap (units_of_text message.flags) user_is ∙ units_of_text-written message.flags user wide user_fits in
    let domain_units : units_of_text message.flags message.domain ≡ domain =
    ap (units_of_text message.flags) domain_is ∙ units_of_text-written message.flags domain wide domain_fits in
    let of_domain = subst (λ (d : List ℕ). PairVerifies hash flags user d challenge message.lm message.nt) (sym domain_units) verifies in
    subst (λ (u : List ℕ). PairVerifies hash flags u (units_of_text message.flags message.domain) challenge message.lm message.nt) (sym user_units) of_domain

-- under one hash no two challenges have one response: the first block of it is DES under one key
pub response_v1_of-one_to_one : (hash one other : List ℕ) → IsBlock one → IsBlock other → response_v1_of hash one ≡ response_v1_of hash other → one ≡ other
unfolding response_v1_of desl_of
response_v1_of-one_to_one hash one other first second same =
    let key : List ℕ = spread_of (take 7 hash) in
    let middle : List ℕ → List ℕ = λ block. des7_of (take 7 (drop 7 hash)) block in
    let last : List ℕ → List ℕ = λ block. des7_of (take 2 (drop 14 hash) ++ replicate 5 0) block in
    let front : (block : List ℕ) → take 8 ((des_of key block ++ middle block) ++ last block) ≡ des_of key block =
    λ block. ap (take 8) (append_assoc (des_of key block) (middle block) (last block)) ∙ take_at (des_of key block) (middle block ++ last block) 8 (length-des_of key block) in
    let blocks : des_of key one ≡ des_of key other = sym (front one) ∙ ap (take 8) same ∙ front other in
    sym (des_back_of-des_of key one first) ∙ ap (des_back_of key) blocks ∙ des_back_of-des_of key other second

-- for `grind`: that what is written verifies
pub ruleset written = (Verifies-response_v1_of, Verifies-response_ess_of, Verifies-response_v2_of)

-- for `grind`: that a key field undoes itself
pub ruleset undone = (applied-applied, length-applied)
