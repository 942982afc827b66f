-- CHALLENGE_MESSAGE (MS-NLMP 2.2.1.2): target, flags, server challenge, 8 reserved bytes (free, written as zeros),
-- target information, version.
use Rattle.std.specs.Prelude.{◌≡◌, ◌+◌, ◌<◌, ◌^◌, ℕ, List, [], ◌∷◌, ◌++◌, length, take, drop, IsTrue, IsSome, IfSome, Result, Ok}
use Rattle.std.specs.Int.{w32, w64, to_le_bytes}
use Rattle.ntlm_flags.specs.Flags.{has_flag, negotiate_version}
use Rattle.ntlm_messages.specs.Fields.{◌>>=◌, long_at, signature, IsHeader, header_of, IsField, field_of, IsText, text_of, IsRefusal, gap_of, version_of, field_bytes, bytes_of}
use Rattle.ntlm_messages.specs.Places.{challenge_target_place, challenge_flags_place, challenge_server_place, challenge_info_place, challenge_size}
use Rattle.ntlm_messages.specs.declared.messages.Challenge.{Challenge}
use Rattle.ntlm_messages.specs.declared.messages.ChallengeView.{ChallengeView}
use Rattle.ntlm_messages.specs.declared.refused.Field.{Field}
use Rattle.ntlm_messages.specs.declared.refused.Field.TheVariants.{Target, Info}
use Rattle.ntlm_messages.specs.declared.refused.MessageRefused.{MessageRefused}

-- where the payload begins
abbrev pub challenge_gap : List ℕ → ℕ
challenge_gap bytes = gap_of (challenge_target_place ∷ challenge_info_place ∷ []) bytes

-- the server challenge, 8 bytes
abbrev pub challenge_at : List ℕ → List ℕ
challenge_at bytes = take 8 (drop challenge_server_place bytes)

-- The bytes are a CHALLENGE with these fields.
pub record IsChallenge (bytes : List ℕ) (value : Challenge) : Type 0 where
  pub header : IsHeader 2 challenge_size bytes
  pub flags : long_at bytes challenge_flags_place ≡ value.flags
  pub target : IsField challenge_target_place challenge_size bytes value.target
  pub challenge : challenge_at bytes ≡ value.challenge
  pub info : IsField challenge_info_place challenge_size bytes value.info
  pub target_text : IsText value.flags value.target
  pub version : version_of value.flags challenge_size (challenge_gap bytes) bytes ≡ value.version

-- the value of the bytes, or the first refusal
unfoldable pub challenge_of : List ℕ → Result Challenge MessageRefused
challenge_of bytes = do
  header ← header_of 2 challenge_size bytes
  target ← field_of Target challenge_target_place challenge_size bytes
  info ← field_of Info challenge_info_place challenge_size bytes
  target_even ← text_of Target (long_at bytes challenge_flags_place) target
  Ok (record {
    flags = long_at bytes challenge_flags_place;
    target = target;
    challenge = challenge_at bytes;
    info = info;
    version = version_of (long_at bytes challenge_flags_place) challenge_size (challenge_gap bytes) bytes;
  })

-- the first refusal: the payload fields in the header's order, and the text
abbrev pub IsChallengeRefusal : List ℕ → MessageRefused → Type 0
IsChallengeRefusal bytes refused =
    IsRefusal 2 challenge_size challenge_size (long_at bytes challenge_flags_place) ((Target, challenge_target_place) ∷ (Info, challenge_info_place) ∷ [])
    ((Target, challenge_target_place) ∷ []) bytes refused

-- the value that a view lends
abbrev pub challenge_shown : ChallengeView → Challenge
challenge_shown view = record {
  flags = view.flags;
  target = view.target.now;
  challenge = view.challenge;
  info = view.info.now;
  version = view.version;
}

-- What can be written: a version only with its flag, a target of even length where texts are UTF-16LE.
pub record CanWriteChallenge (value : Challenge) : Type 0 where
  pub version : IsSome value.version → IsTrue (has_flag value.flags negotiate_version)
  pub target : IsText value.flags value.target

-- the payload fields in the header's order
abbrev pub challenge_fields : Challenge → List (Field × List ℕ)
challenge_fields value = (Target, value.target) ∷ (Info, value.info) ∷ []

-- what the types of the fields say
pub record HasWidths (value : Challenge) : Type 0 where
  pub flags : value.flags < 2 ^ 32
  pub challenge : length value.challenge ≡ 8
  pub version : IfSome value.version (λ bytes. length bytes ≡ 8)

-- The written form: the payload without gaps, in the order target, target information.
unfoldable pub written_challenge : Challenge → List ℕ
written_challenge value =
    let target_at = challenge_size + length (bytes_of value.version) in
    let info_at = target_at + length value.target in
    signature ++ to_le_bytes w32 2 ++ field_bytes value.target target_at ++ to_le_bytes w32 value.flags ++ value.challenge
    ++ to_le_bytes w64 0 ++ field_bytes value.info info_at ++ bytes_of value.version ++ value.target ++ value.info
