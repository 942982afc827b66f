-- A NEGOTIATE in its written form is read back.
use Rattle.std.proofs.Common.{◌≡◌, ℕ, ◌+◌, ◌≤◌, Bool, true, false, leb, List, [], ◌∷◌, length, Ok, refl, sym, ap, subst, ◌∙◌, append_assoc, arith, inl, inr, lit<}
use Rattle.std.specs.List.{concat}
use Rattle.std.specs.Int.{w16, w32, to_le_bytes}
use Rattle.std.proofs.lemmas.Bool.{cases_eq, le-leb}
use Rattle.std.proofs.lemmas.List.{append-nil}
use Rattle.ntlm_flags.specs.Flags.{has_flag, negotiate_oem_domain_supplied, negotiate_oem_workstation_supplied}
use Rattle.ntlm_messages.specs.Places.{negotiate_flags_place, negotiate_domain_place, negotiate_workstation_place, negotiate_size, type_place}
use Rattle.ntlm_messages.specs.declared.messages.Negotiate.{Negotiate}
use Rattle.ntlm_messages.specs.Fields.{FieldsFit, signature, bytes_of, gap_of}
use Rattle.ntlm_messages.specs.Negotiate.{IsNegotiate, IsName, is_supplied, has_domain, has_workstation, names_read, negotiate_of, negotiate_gap, written_negotiate, CanWriteNegotiate, negotiate_fields, HasWidths}
use Rattle.ntlm_messages.proofs.NegotiateLaws.{negotiate_only}
use Rattle.ntlm_messages.proofs.WrittenLaws.{start_of, Stands, part_stands, Stands_ends, Stands_bytes, Stands_long, IsWrittenField, IsField-written, written_field, length-concat, gap_in, gap_from, gap_low, version_of-written, size_some, size_none, size_within}

-- where the names begin
abbrev domain_at : Negotiate → ℕ
domain_at v = negotiate_size + length (bytes_of v.version)

abbrev workstation_at : Negotiate → ℕ
workstation_at v = domain_at v + length v.domain

abbrev message_parts : Negotiate → List (List ℕ)
message_parts v =
    signature ∷ to_le_bytes w32 1 ∷ to_le_bytes w32 v.flags
    ∷ to_le_bytes w16 (length v.domain) ∷ to_le_bytes w16 (length v.domain) ∷ to_le_bytes w32 (domain_at v)
    ∷ to_le_bytes w16 (length v.workstation) ∷ to_le_bytes w16 (length v.workstation) ∷ to_le_bytes w32 (workstation_at v)
    ∷ bytes_of v.version ∷ v.domain ∷ v.workstation ∷ []

written_is : (v : Negotiate) → written_negotiate v ≡ concat (message_parts v)
unfolding written_negotiate
written_is v = simp (append_assoc, append-nil)

-- where everything stands
record IsWritten (v : Negotiate) (bytes : List ℕ) : Type 0 where
  signed : Stands bytes 0 signature
  typed : Stands bytes type_place (to_le_bytes w32 1)
  flags : Stands bytes negotiate_flags_place (to_le_bytes w32 v.flags)
  domain : IsWrittenField negotiate_domain_place negotiate_size bytes v.domain (domain_at v)
  workstation : IsWrittenField negotiate_workstation_place negotiate_size bytes v.workstation (workstation_at v)
  version : Stands bytes negotiate_size (bytes_of v.version)
  len : length bytes ≡ workstation_at v + length v.workstation

is_written : (v : Negotiate) → FieldsFit (negotiate_fields v) → HasWidths v → IsWritten v (concat (message_parts v))
is_written v fit widths =
    let bytes = concat (message_parts v) in
    let s = part_stands (message_parts v) in
    let version_size = size_within v.version 8 widths.version in
    record {
      signed = s 0 (lit< tt);
      typed = s 1 (lit< tt);
      flags = s 2 (lit< tt);
      domain = written_field negotiate_domain_place negotiate_size bytes v.domain (domain_at v) (omega arith) (omega arith) fit.0 (s 3 (lit< tt)) (s 5 (lit< tt))
          (let e : start_of (message_parts v) 10 ≡ domain_at v = omega arith in subst (λ (p : ℕ). Stands bytes p v.domain) e (s 10 (lit< tt)));
      workstation = written_field negotiate_workstation_place negotiate_size bytes v.workstation (workstation_at v) (omega arith) (omega (arith, fit.0)) fit.1.0 (s 6 (lit< tt)) (s 8 (lit< tt))
          (let e : start_of (message_parts v) 11 ≡ workstation_at v = omega arith in subst (λ (p : ℕ). Stands bytes p v.workstation) e (s 11 (lit< tt)));
      version = s 9 (lit< tt);
      len = length-concat (message_parts v) ∙ omega arith;
    }

-- the payload begins behind the header and the version, whichever names are read
gap_is : (domain workstation : Bool) (v : Negotiate) (bytes : List ℕ) → IsWritten v bytes → (domain ≡ false → length v.domain ≡ 0) → (workstation ≡ false → length v.workstation ≡ 0)
    → gap_of (names_read domain workstation) bytes ≡ domain_at v
gap_is true true v bytes w no_domain no_workstation =
    let no_less = gap_from (domain_at v) (negotiate_domain_place ∷ negotiate_workstation_place ∷ []) bytes (omega (arith, w.len)) (omega (arith, w.domain.offset_is), (omega (arith, w.workstation.offset_is), tt)) in
    let inside = gap_in (negotiate_domain_place ∷ negotiate_workstation_place ∷ []) bytes in
    let no_more : gap_of (negotiate_domain_place ∷ negotiate_workstation_place ∷ []) bytes ≤ domain_at v =
    elim (cases_eq (length v.domain) 0) [
      | inr some ↦ gap_low (negotiate_domain_place ∷ negotiate_workstation_place ∷ []) bytes 0 negotiate_domain_place negotiate_size _ v.domain (lit< tt) refl w.domain some
      | inl empty ↦ elim (cases_eq (length v.workstation) 0) [
        | inr some ↦ omega (arith, empty, gap_low (negotiate_domain_place ∷ negotiate_workstation_place ∷ []) bytes 1 negotiate_workstation_place negotiate_size _ v.workstation (lit< tt) refl w.workstation some)
        | inl both ↦ omega (arith, empty, both, inside, w.len)
      ]
    ] in
    omega (arith, no_less, no_more)
gap_is true false v bytes w no_domain no_workstation =
    let no_less = gap_from (domain_at v) (negotiate_domain_place ∷ []) bytes (omega (arith, w.len)) (omega (arith, w.domain.offset_is), tt) in
    let inside = gap_in (negotiate_domain_place ∷ []) bytes in
    let no_more : gap_of (negotiate_domain_place ∷ []) bytes ≤ domain_at v =
    elim (cases_eq (length v.domain) 0) [
      | inr some ↦ gap_low (negotiate_domain_place ∷ []) bytes 0 negotiate_domain_place negotiate_size _ v.domain (lit< tt) refl w.domain some
      | inl empty ↦ omega (arith, empty, no_workstation refl, inside, w.len)
    ] in
    omega (arith, no_less, no_more)
gap_is false true v bytes w no_domain no_workstation =
    let no_less = gap_from (domain_at v) (negotiate_workstation_place ∷ []) bytes (omega (arith, w.len)) (omega (arith, w.workstation.offset_is), tt) in
    let inside = gap_in (negotiate_workstation_place ∷ []) bytes in
    let no_more : gap_of (negotiate_workstation_place ∷ []) bytes ≤ domain_at v =
    elim (cases_eq (length v.workstation) 0) [
      | inr some ↦ omega (arith, no_domain refl, gap_low (negotiate_workstation_place ∷ []) bytes 0 negotiate_workstation_place negotiate_size _ v.workstation (lit< tt) refl w.workstation some)
      | inl empty ↦ omega (arith, no_domain refl, empty, inside, w.len)
    ] in
    omega (arith, no_less, no_more)
gap_is false false v bytes w no_domain no_workstation = omega (arith, no_domain refl, no_workstation refl, w.len)

-- a name is read exactly where its flag is set, since the whole header is there
supplied : (flag : ℕ) (v : Negotiate) (bytes : List ℕ) → HasWidths v → IsWritten v bytes → is_supplied flag bytes ≡ has_flag v.flags flag
supplied flag v bytes widths w =
    let long : leb negotiate_size (length bytes) ≡ true = le-leb _ _ (omega (arith, w.len)) in
    let flags = Stands_long bytes negotiate_flags_place v.flags widths.flags w.flags in
    rw (long, flags) refl

name_written : (read : Bool) (place : ℕ) (bytes part : List ℕ) (offset : ℕ) → IsWrittenField place negotiate_size bytes part offset → (read ≡ false → part ≡ []) → IsName read place bytes part
name_written true place bytes part offset f none = IsField-written place negotiate_size bytes part offset f
name_written false place bytes part offset f none = none refl

is_negotiate : (v : Negotiate) (bytes : List ℕ) → CanWriteNegotiate v → HasWidths v → IsWritten v bytes → IsNegotiate bytes v
is_negotiate v bytes can widths w =
    let domain_flag = supplied negotiate_oem_domain_supplied v bytes widths w in
    let workstation_flag = supplied negotiate_oem_workstation_supplied v bytes widths w in
    let no_domain : has_domain bytes ≡ false → v.domain ≡ [] = λ e. can.domain (sym domain_flag ∙ e) in
    let no_workstation : has_workstation bytes ≡ false → v.workstation ≡ [] = λ e. can.workstation (sym workstation_flag ∙ e) in
    let gap : negotiate_gap bytes ≡ domain_at v =
    gap_is (has_domain bytes) (has_workstation bytes) v bytes w (λ e. ap length (no_domain e)) (λ e. ap length (no_workstation e)) in
    record {
      header = record { whole = omega (arith, Stands_ends bytes negotiate_flags_place (to_le_bytes w32 v.flags) w.flags); signed = Stands_bytes bytes 0 signature w.signed; typed = Stands_long bytes type_place 1 (lit< tt) w.typed };
      flags = Stands_long bytes negotiate_flags_place v.flags widths.flags w.flags;
      domain = name_written (has_domain bytes) negotiate_domain_place bytes v.domain _ w.domain no_domain;
      workstation = name_written (has_workstation bytes) negotiate_workstation_place bytes v.workstation _ w.workstation no_workstation;
      version = version_of-written v.flags negotiate_size (negotiate_gap bytes) bytes v.version can.version
          (λ some. omega (arith, gap, size_some v.version 8 some widths.version))
          (λ none. omega (arith, gap, size_none v.version none))
          widths.version w.version;
    }

pub negotiate_back : (v : Negotiate) → CanWriteNegotiate v → FieldsFit (negotiate_fields v) → HasWidths v → negotiate_of (written_negotiate v) ≡ Ok v
negotiate_back v can fit widths =
    ap negotiate_of (written_is v) ∙ negotiate_only (concat (message_parts v)) v (is_negotiate v (concat (message_parts v)) can widths (is_written v fit widths))
