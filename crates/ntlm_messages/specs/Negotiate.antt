-- NEGOTIATE_MESSAGE (MS-NLMP 2.2.1.1): flags, domain, workstation, version.
use Rattle.std.specs.Prelude.{◌≡◌, ◌+◌, ◌<◌, ◌^◌, ◌&&◌, ℕ, Bool, true, false, List, [], ◌∷◌, ◌++◌, length, IsTrue, IsSome, IfSome, Result, Ok, nat_le}
use Rattle.std.specs.Int.{w32, to_le_bytes}
use Rattle.ntlm_flags.specs.Flags.{has_flag, negotiate_oem_domain_supplied, negotiate_oem_workstation_supplied, negotiate_version}
use Rattle.ntlm_messages.specs.Fields.{◌>>=◌, long_at, signature, IsHeader, header_of, IsField, field_of, IsRefusal, gap_of, narrow_gap, version_of, field_bytes, bytes_of}
use Rattle.ntlm_messages.specs.Places.{negotiate_flags_place, negotiate_domain_place, negotiate_workstation_place, negotiate_size, negotiate_least}
use Rattle.ntlm_messages.specs.declared.messages.Negotiate.{Negotiate}
use Rattle.ntlm_messages.specs.declared.messages.NegotiateView.{NegotiateView}
use Rattle.ntlm_messages.specs.declared.refused.Field.{Field}
use Rattle.ntlm_messages.specs.declared.refused.Field.TheVariants.{Domain, Workstation}
use Rattle.ntlm_messages.specs.declared.refused.MessageRefused.{MessageRefused}

-- A name is read where the whole header is there and the name's own flag is set.
abbrev pub is_supplied : ℕ → List ℕ → Bool
is_supplied flag bytes = nat_le negotiate_size (length bytes) && has_flag (long_at bytes negotiate_flags_place) flag

abbrev pub has_domain : List ℕ → Bool
has_domain bytes = is_supplied negotiate_oem_domain_supplied bytes

abbrev pub has_workstation : List ℕ → Bool
has_workstation bytes = is_supplied negotiate_oem_workstation_supplied bytes

-- the name's bytes; none where it isn't read
abbrev pub IsName : Bool → ℕ → List ℕ → List ℕ → Type 0
IsName true place bytes part = IsField place negotiate_size bytes part
IsName false place bytes part = part ≡ []

abbrev pub name_of : Bool → Field → ℕ → List ℕ → Result (List ℕ) MessageRefused
name_of true name place bytes = field_of name place negotiate_size bytes
name_of false name place bytes = Ok []

-- the places of the names that are read: of the domain and of the workstation, where they are
abbrev pub names_read : Bool → Bool → List ℕ
names_read true true = negotiate_domain_place ∷ negotiate_workstation_place ∷ []
names_read true false = negotiate_domain_place ∷ []
names_read false true = negotiate_workstation_place ∷ []
names_read false false = []

-- the least offset so far, once the name is read too, where it is
abbrev pub narrow_name : Bool → ℕ → List ℕ → ℕ → ℕ
narrow_name true place bytes gap = narrow_gap place bytes gap
narrow_name false place bytes gap = gap

abbrev pub negotiate_gap : List ℕ → ℕ
negotiate_gap bytes = gap_of (names_read (has_domain bytes) (has_workstation bytes)) bytes

-- The bytes are a NEGOTIATE with these fields. Its names are OEM texts of any length.
pub record IsNegotiate (bytes : List ℕ) (value : Negotiate) : Type 0 where
  pub header : IsHeader 1 negotiate_least bytes
  pub flags : long_at bytes negotiate_flags_place ≡ value.flags
  pub domain : IsName (has_domain bytes) negotiate_domain_place bytes value.domain
  pub workstation : IsName (has_workstation bytes) negotiate_workstation_place bytes value.workstation
  pub version : version_of value.flags negotiate_size (negotiate_gap bytes) bytes ≡ value.version

-- the value of the bytes, or the first refusal
unfoldable pub negotiate_of : List ℕ → Result Negotiate MessageRefused
negotiate_of bytes = do
  header ← header_of 1 negotiate_least bytes
  domain ← name_of (has_domain bytes) Domain negotiate_domain_place bytes
  workstation ← name_of (has_workstation bytes) Workstation negotiate_workstation_place bytes
  Ok (record {
    flags = long_at bytes negotiate_flags_place;
    domain = domain;
    workstation = workstation;
    version = version_of (long_at bytes negotiate_flags_place) negotiate_size (negotiate_gap bytes) bytes;
  })

-- the names that are read, with their places
abbrev pub supplied_names : Bool → Bool → List (Field × ℕ)
supplied_names true true = (Domain, negotiate_domain_place) ∷ (Workstation, negotiate_workstation_place) ∷ []
supplied_names true false = (Domain, negotiate_domain_place) ∷ []
supplied_names false true = (Workstation, negotiate_workstation_place) ∷ []
supplied_names false false = []

-- the first refusal: the names that are read in the header's order, of which none is odd
abbrev pub IsNegotiateRefusal : List ℕ → MessageRefused → Type 0
IsNegotiateRefusal bytes refused =
    IsRefusal 1 negotiate_least negotiate_size (long_at bytes negotiate_flags_place) (supplied_names (has_domain bytes) (has_workstation bytes)) [] bytes refused

-- the value that a view lends
abbrev pub negotiate_shown : NegotiateView → Negotiate
negotiate_shown view = record { flags = view.flags; domain = view.domain.now; workstation = view.workstation.now; version = view.version }

-- What can be written: a version only with its flag, a name only with its flag.
pub record CanWriteNegotiate (value : Negotiate) : Type 0 where
  pub version : IsSome value.version → IsTrue (has_flag value.flags negotiate_version)
  pub domain : has_flag value.flags negotiate_oem_domain_supplied ≡ false → value.domain ≡ []
  pub workstation : has_flag value.flags negotiate_oem_workstation_supplied ≡ false → value.workstation ≡ []

-- the payload fields in the header's order
abbrev pub negotiate_fields : Negotiate → List (Field × List ℕ)
negotiate_fields value = (Domain, value.domain) ∷ (Workstation, value.workstation) ∷ []

-- what the types of the fields say
pub record HasWidths (value : Negotiate) : Type 0 where
  pub flags : value.flags < 2 ^ 32
  pub version : IfSome value.version (λ bytes. length bytes ≡ 8)

-- The written form: the payload without gaps, in the order domain, workstation.
unfoldable pub written_negotiate : Negotiate → List ℕ
written_negotiate value =
    let domain_at = negotiate_size + length (bytes_of value.version) in
    let workstation_at = domain_at + length value.domain in
    signature ++ to_le_bytes w32 1 ++ to_le_bytes w32 value.flags ++ field_bytes value.domain domain_at ++ field_bytes value.workstation workstation_at
    ++ bytes_of value.version ++ value.domain ++ value.workstation
