-- When an NT response is the one that the holder of the NT hash writes to a challenge (MS-NLMP 3.3.1 and 3.3.2), and
-- the session base key of it. Lengths other than 24, and than 44 or more, are this project's own choice.
use Rattle.std.specs.Prelude.{◌≡◌, ℕ, ◌≤◌, ◌⊎◌, Bool, true, false, ◌==◌, nat_le, bytes_eq, List, length, take, drop, Option, Some, None}
use Rattle.digest_parts.specs.Hmac.{hmac_of}
use Rattle.digest_parts.specs.Md4.{md4_of}
use Rattle.ntlm_messages.specs.Text.{units_of_text}
use Rattle.ntlm_messages.specs.declared.messages.Authenticate.{Authenticate}
use Rattle.ntlm_responses.specs.Hashes.{key_v2_of}
use Rattle.ntlm_responses.specs.Responses.{response_v1_of, proof_of, challenge_for_of}

-- The response verifies under the hash and the names against the challenge: it has 24 bytes and is the NTLMv1 response,
-- or it has 44 bytes or more and begins with the proof of NTLMv2 over its rest, whatever the rest holds.
abbrev pub Verifies : List ℕ → List ℕ → List ℕ → List ℕ → List ℕ → Type 0
Verifies hash user domain challenge nt =
    ((length nt ≡ 24) × (nt ≡ response_v1_of hash challenge))
    ⊎ ((44 ≤ length nt) × (take 16 nt ≡ proof_of (key_v2_of hash user domain) challenge (drop 16 nt)))

-- The test of `Verifies`, by whether the response has 24 bytes, and whether it has 44 bytes or more.
abbrev pub verifies_by : (is_short is_long : Bool) (hash user domain challenge nt : List ℕ) → Bool
verifies_by true _ hash user domain challenge nt = bytes_eq nt (response_v1_of hash challenge)
verifies_by false true hash user domain challenge nt =
    bytes_eq (take 16 nt) (proof_of (key_v2_of hash user domain) challenge (drop 16 nt))
verifies_by false false hash user domain challenge nt = false

unfoldable pub verifies : List ℕ → List ℕ → List ℕ → List ℕ → List ℕ → Bool
verifies hash user domain challenge nt =
    verifies_by (length nt == 24) (nat_le 44 (length nt)) hash user domain challenge nt

-- the session base key: MD4 of the hash for an NTLMv1 response, which has 24 bytes, and otherwise HMAC-MD5 under the
-- NTLMv2 key of the proof: 16 bytes
abbrev pub base_key_by : Bool → List ℕ → List ℕ → List ℕ → List ℕ → List ℕ
base_key_by true hash user domain nt = md4_of hash
base_key_by false hash user domain nt = hmac_of (key_v2_of hash user domain) (take 16 nt)

unfoldable pub base_key_of : List ℕ → List ℕ → List ℕ → List ℕ → List ℕ
base_key_of hash user domain nt = base_key_by (length nt == 24) hash user domain nt

abbrev pub verified_by : Bool → List ℕ → Option (List ℕ)
verified_by true base_key = Some base_key
verified_by false base_key = None

-- the session base key of a response that verifies
abbrev pub verify_of : List ℕ → List ℕ → List ℕ → List ℕ → List ℕ → Option (List ℕ)
verify_of hash user domain challenge nt =
    verified_by (verifies hash user domain challenge nt) (base_key_of hash user domain nt)

-- ---- the response of a message

-- Of a pair of responses, LM and NT, the NT response verifies under the hash and the names against the challenge that
-- the pair answers by the flags. Names are lists of 16-bit units; the challenge is the server's.
abbrev pub PairVerifies : List ℕ → ℕ → List ℕ → List ℕ → List ℕ → List ℕ → List ℕ → Type 0
PairVerifies hash flags user domain challenge lm nt =
    Verifies hash user domain (challenge_for_of flags challenge lm nt) nt

-- the test of it
abbrev pub pair_verifies : List ℕ → ℕ → List ℕ → List ℕ → List ℕ → List ℕ → List ℕ → Bool
pair_verifies hash flags user domain challenge lm nt =
    verifies hash user domain (challenge_for_of flags challenge lm nt) nt

-- The response of an AUTHENTICATE verifies under the hash against the server's challenge: its pair of responses does,
-- under the user's and the domain's names as the message has them. The flags are the message's, or those that were
-- agreed; the names are texts by the message's own.
abbrev pub MessageVerifies : List ℕ → ℕ → List ℕ → Authenticate → Type 0
MessageVerifies hash flags challenge message =
    PairVerifies hash flags (units_of_text message.flags message.user)
    (units_of_text message.flags message.domain) challenge message.lm message.nt

-- the test of it
abbrev pub message_verifies : List ℕ → ℕ → List ℕ → Authenticate → Bool
message_verifies hash flags challenge message =
    pair_verifies hash flags (units_of_text message.flags message.user)
    (units_of_text message.flags message.domain) challenge message.lm message.nt
