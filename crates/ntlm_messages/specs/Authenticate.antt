-- AUTHENTICATE_MESSAGE (MS-NLMP 2.2.1.3): LM response, NT response, domain, user, workstation, session key, flags,
-- version, message integrity code.
use Rattle.std.specs.Prelude.{◌≡◌, ◌+◌, ◌<◌, ◌^◌, ℕ, List, [], ◌∷◌, ◌++◌, length, IsTrue, IsSome, IfSome, Result, Ok}
use Rattle.std.specs.Int.{w32, to_le_bytes}
use Rattle.ntlm_flags.specs.Flags.{has_flag, negotiate_version}
use Rattle.ntlm_messages.specs.Fields.{◌>>=◌, long_at, signature, IsHeader, header_of, IsField, field_of, IsText, text_of, IsRefusal, gap_of, version_of, mic_of, field_bytes, bytes_of}
use Rattle.ntlm_messages.specs.Places.{authenticate_lm_place, authenticate_nt_place, authenticate_domain_place, authenticate_user_place, authenticate_workstation_place, authenticate_key_place, authenticate_flags_place, authenticate_size}
use Rattle.ntlm_messages.specs.declared.messages.Authenticate.{Authenticate}
use Rattle.ntlm_messages.specs.declared.messages.AuthenticateView.{AuthenticateView}
use Rattle.ntlm_messages.specs.declared.refused.Field.{Field}
use Rattle.ntlm_messages.specs.declared.refused.Field.TheVariants.{Lm, Nt, Domain, User, Workstation, Key}
use Rattle.ntlm_messages.specs.declared.refused.MessageRefused.{MessageRefused}

-- the places of the payload fields, in the header's order
abbrev pub authenticate_places : List ℕ
authenticate_places =
    authenticate_lm_place ∷ authenticate_nt_place ∷ authenticate_domain_place ∷ authenticate_user_place ∷ authenticate_workstation_place ∷ authenticate_key_place ∷ []

abbrev pub authenticate_gap : List ℕ → ℕ
authenticate_gap bytes = gap_of authenticate_places bytes

-- The bytes are an AUTHENTICATE with these fields.
pub record IsAuthenticate (bytes : List ℕ) (value : Authenticate) : Type 0 where
  pub header : IsHeader 3 authenticate_size bytes
  pub flags : long_at bytes authenticate_flags_place ≡ value.flags
  pub lm : IsField authenticate_lm_place authenticate_size bytes value.lm
  pub nt : IsField authenticate_nt_place authenticate_size bytes value.nt
  pub domain : IsField authenticate_domain_place authenticate_size bytes value.domain
  pub user : IsField authenticate_user_place authenticate_size bytes value.user
  pub workstation : IsField authenticate_workstation_place authenticate_size bytes value.workstation
  pub key : IsField authenticate_key_place authenticate_size bytes value.key
  pub domain_text : IsText value.flags value.domain
  pub user_text : IsText value.flags value.user
  pub workstation_text : IsText value.flags value.workstation
  pub version : version_of value.flags authenticate_size (authenticate_gap bytes) bytes ≡ value.version
  pub mic : mic_of value.flags authenticate_size (authenticate_gap bytes) bytes ≡ value.mic

-- the value of the bytes, or the first refusal
unfoldable pub authenticate_of : List ℕ → Result Authenticate MessageRefused
authenticate_of bytes = do
  header ← header_of 3 authenticate_size bytes
  lm ← field_of Lm authenticate_lm_place authenticate_size bytes
  nt ← field_of Nt authenticate_nt_place authenticate_size bytes
  domain ← field_of Domain authenticate_domain_place authenticate_size bytes
  user ← field_of User authenticate_user_place authenticate_size bytes
  workstation ← field_of Workstation authenticate_workstation_place authenticate_size bytes
  key ← field_of Key authenticate_key_place authenticate_size bytes
  domain_even ← text_of Domain (long_at bytes authenticate_flags_place) domain
  user_even ← text_of User (long_at bytes authenticate_flags_place) user
  workstation_even ← text_of Workstation (long_at bytes authenticate_flags_place) workstation
  Ok (record {
    flags = long_at bytes authenticate_flags_place;
    lm = lm;
    nt = nt;
    domain = domain;
    user = user;
    workstation = workstation;
    key = key;
    version = version_of (long_at bytes authenticate_flags_place) authenticate_size (authenticate_gap bytes) bytes;
    mic = mic_of (long_at bytes authenticate_flags_place) authenticate_size (authenticate_gap bytes) bytes;
  })

-- the first refusal: the payload fields in the header's order, and the texts
abbrev pub IsAuthenticateRefusal : List ℕ → MessageRefused → Type 0
IsAuthenticateRefusal bytes refused =
    IsRefusal 3 authenticate_size authenticate_size (long_at bytes authenticate_flags_place)
    ((Lm, authenticate_lm_place) ∷ (Nt, authenticate_nt_place) ∷ (Domain, authenticate_domain_place) ∷ (User, authenticate_user_place)
    ∷ (Workstation, authenticate_workstation_place) ∷ (Key, authenticate_key_place) ∷ [])
    ((Domain, authenticate_domain_place) ∷ (User, authenticate_user_place) ∷ (Workstation, authenticate_workstation_place) ∷ []) bytes refused

-- the value that a view lends
abbrev pub authenticate_shown : AuthenticateView → Authenticate
authenticate_shown view = record {
  flags = view.flags;
  lm = view.lm.now;
  nt = view.nt.now;
  domain = view.domain.now;
  user = view.user.now;
  workstation = view.workstation.now;
  key = view.key.now;
  version = view.version;
  mic = view.mic;
}

-- What can be written: a version only with its flag, a message integrity code only with a version, texts of UTF-16LE of
-- even length.
pub record CanWriteAuthenticate (value : Authenticate) : Type 0 where
  pub version : IsSome value.version → IsTrue (has_flag value.flags negotiate_version)
  pub mic : IsSome value.mic → IsSome value.version
  pub domain : IsText value.flags value.domain
  pub user : IsText value.flags value.user
  pub workstation : IsText value.flags value.workstation

-- the payload fields in the header's order
abbrev pub authenticate_fields : Authenticate → List (Field × List ℕ)
authenticate_fields value =
    (Lm, value.lm) ∷ (Nt, value.nt) ∷ (Domain, value.domain) ∷ (User, value.user) ∷ (Workstation, value.workstation) ∷ (Key, value.key) ∷ []

-- what the types of the fields say
pub record HasWidths (value : Authenticate) : Type 0 where
  pub flags : value.flags < 2 ^ 32
  pub version : IfSome value.version (λ bytes. length bytes ≡ 8)
  pub mic : IfSome value.mic (λ bytes. length bytes ≡ 16)

-- where the payload begins in the written form
abbrev pub authenticate_start : Authenticate → ℕ
authenticate_start value = authenticate_size + length (bytes_of value.version) + length (bytes_of value.mic)

-- the payload fields' places in the header, for a payload without gaps in the order domain, user, workstation, LM
-- response, NT response, session key
unfoldable pub authenticate_table : Authenticate → List ℕ
authenticate_table value =
    let domain_at = authenticate_start value in
    let user_at = domain_at + length value.domain in
    let workstation_at = user_at + length value.user in
    let lm_at = workstation_at + length value.workstation in
    let nt_at = lm_at + length value.lm in
    let key_at = nt_at + length value.nt in
    field_bytes value.lm lm_at ++ field_bytes value.nt nt_at ++ field_bytes value.domain domain_at
    ++ field_bytes value.user user_at ++ field_bytes value.workstation workstation_at ++ field_bytes value.key key_at

-- that payload
unfoldable pub authenticate_payload : Authenticate → List ℕ
authenticate_payload value = value.domain ++ value.user ++ value.workstation ++ value.lm ++ value.nt ++ value.key

-- the written form
unfoldable pub written_authenticate : Authenticate → List ℕ
written_authenticate value =
    signature ++ to_le_bytes w32 3 ++ authenticate_table value ++ to_le_bytes w32 value.flags ++ bytes_of value.version ++ bytes_of value.mic
    ++ authenticate_payload value
