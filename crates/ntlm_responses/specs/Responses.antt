-- The responses to a challenge (MS-NLMP 3.3.1 and 3.3.2), as compositions of lists of bytes. A challenge has 8 bytes,
-- of the server's or of the client's; a hash has 16; a time counts 100 ns from 1601 in 64 bits.
use Rattle.std.specs.Prelude.{ℕ, Bool, true, false, ◌&&◌, ◌==◌, List, ◌∷◌, ◌++◌, length, take, replicate, Option, Some, None}
use Rattle.std.specs.Int.{w64, to_le_bytes}
use Rattle.md5.specs.Md5.{md5}
use Rattle.digest_parts.specs.Hmac.{hmac_of}
use Rattle.ntlm_flags.specs.Flags.{has_flag, negotiate_extended_sessionsecurity}
use Rattle.ntlm_responses.specs.Hashes.{desl_of, key_v2_of}

-- ---- NTLMv1 (3.3.1)

-- the NTLMv1 response: 24 bytes
unfoldable pub response_v1_of : List ℕ → List ℕ → List ℕ
response_v1_of hash challenge = desl_of hash challenge

-- the challenge that stands in the server's place under extended session security: the first 8 bytes of MD5 of both
-- challenges
unfoldable pub hashed_challenge_of : List ℕ → List ℕ → List ℕ
hashed_challenge_of challenge client = take 8 (md5 (challenge ++ client))

-- the NTLMv1 response with extended session security: 24 bytes
unfoldable pub response_ess_of : List ℕ → List ℕ → List ℕ → List ℕ
response_ess_of hash challenge client = response_v1_of hash (hashed_challenge_of challenge client)

-- ---- NTLMv2 (3.3.2)

-- temp: 1, 1, six zeros, the time low byte first, the client's challenge, four zeros, the pairs and four zeros
unfoldable pub temp_of : ℕ → List ℕ → List ℕ → List ℕ
temp_of time client pairs =
    1 ∷ 1 ∷ replicate 6 0 ++ to_le_bytes w64 time ++ client ++ replicate 4 0 ++ pairs ++ replicate 4 0

-- NTProofStr: HMAC-MD5 under the NTLMv2 key of the server's challenge and temp: 16 bytes
unfoldable pub proof_of : List ℕ → List ℕ → List ℕ → List ℕ
proof_of key challenge temp = hmac_of key (challenge ++ temp)

-- the NTLMv2 response: the proof and what it is over
unfoldable pub response_v2_of : List ℕ → List ℕ → List ℕ → List ℕ → ℕ → List ℕ → List ℕ → List ℕ
response_v2_of hash user domain challenge time client pairs =
    proof_of (key_v2_of hash user domain) challenge (temp_of time client pairs) ++ temp_of time client pairs

-- ---- the challenge that a response answers

-- an LM and an NT response are NTLMv1 with extended session security: the flag is set and both have 24 bytes
unfoldable pub is_ess_pair : ℕ → List ℕ → List ℕ → Bool
is_ess_pair flags lm nt =
    has_flag flags negotiate_extended_sessionsecurity && length lm == 24 && length nt == 24

-- the client's challenge, with which the LM response of a pair with extended session security begins; none in another
-- pair
abbrev pub client_challenge_by : (is_ess : Bool) → List ℕ → Option (List ℕ)
client_challenge_by true lm = Some (take 8 lm)
client_challenge_by false lm = None

abbrev pub client_challenge_of : ℕ → List ℕ → List ℕ → Option (List ℕ)
client_challenge_of flags lm nt = client_challenge_by (is_ess_pair flags lm nt) lm

-- the challenge that the NT response answers: hashed with the client's challenge where there is one, else the server's
-- as it stands
abbrev pub challenge_by : Option (List ℕ) → List ℕ → List ℕ
challenge_by (Some client) challenge = hashed_challenge_of challenge client
challenge_by None challenge = challenge

abbrev pub challenge_for_of : ℕ → List ℕ → List ℕ → List ℕ → List ℕ
challenge_for_of flags challenge lm nt = challenge_by (client_challenge_of flags lm nt) challenge
