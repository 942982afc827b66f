-- The function that reads a NEGOTIATE and the relation of its grammar agree.
use Rattle.std.proofs.Common.{◌≡◌, ℕ, Bool, true, false, List, [], length, Option, Ok, Err, leb, refl, sym, ap, subst, ◌∙◌, inl, inr}
use Rattle.ntlm_messages.specs.declared.messages.Negotiate.{Negotiate}
use Rattle.ntlm_messages.specs.declared.refused.Field.{Field}
use Rattle.ntlm_messages.specs.declared.refused.Field.TheVariants.{Domain, Workstation}
use Rattle.ntlm_messages.specs.declared.refused.MessageRefused.{MessageRefused}
use Rattle.ntlm_messages.specs.declared.refused.MessageRefused.TheVariants.{FieldOutside}
use Rattle.ntlm_messages.specs.Fields.{IsFirstOutside, header_of, version_of, long_at, narrow_gaps}
use Rattle.std.proofs.lemmas.Bool.{and_right}
use Rattle.ntlm_flags.specs.Flags.{has_flag, negotiate_oem_domain_supplied, negotiate_oem_workstation_supplied}
use Rattle.ntlm_messages.specs.Places.{negotiate_flags_place, negotiate_domain_place, negotiate_workstation_place, negotiate_size, negotiate_least}
use Rattle.ntlm_messages.specs.Negotiate.{is_supplied, IsNegotiate, negotiate_of, IsName, name_of, names_read, narrow_name, has_domain, has_workstation, negotiate_gap, supplied_names, IsNegotiateRefusal, CanWriteNegotiate}
use Rattle.ntlm_messages.proofs.FieldLaws.{bind_then, done, ok_is, header_found, field_found, header_only, field_only, refused_then, header_is, header_refused, field_refused, inside_from, version_flag}

name_found : (read : Bool) (name : Field) (place : ℕ) (bytes part : List ℕ) → name_of read name place bytes ≡ Ok part → IsName read place bytes part
name_found true name place bytes part e = field_found name place negotiate_size bytes part e
name_found false name place bytes part e = sym (ok_is [] part e)

name_only : (read : Bool) (name : Field) (place : ℕ) (bytes part : List ℕ) → IsName read place bytes part → name_of read name place bytes ≡ Ok part
name_only true name place bytes part h = field_only name place negotiate_size bytes part h
name_only false name place bytes part h = ap (λ (x : List ℕ). done x) (sym h)

pub names_narrowed : (domain workstation : Bool) (bytes : List ℕ) (gap : ℕ)
    → narrow_name workstation negotiate_workstation_place bytes (narrow_name domain negotiate_domain_place bytes gap) ≡ narrow_gaps (names_read domain workstation) bytes gap
names_narrowed true true bytes gap = refl
names_narrowed true false bytes gap = refl
names_narrowed false true bytes gap = refl
names_narrowed false false bytes gap = refl

pub negotiate_found : (bytes : List ℕ) (value : Negotiate) → negotiate_of bytes ≡ Ok value → IsNegotiate bytes value
unfolding negotiate_of
negotiate_found bytes value e =
    bind_then (header_of 1 negotiate_least bytes) _ value e (λ header header-is e1.
    bind_then (name_of (has_domain bytes) Domain negotiate_domain_place bytes) _ value e1 (λ domain domain-is e2.
    bind_then (name_of (has_workstation bytes) Workstation negotiate_workstation_place bytes) _ value e2 (λ workstation workstation-is e3.
    subst (λ (v : Negotiate). IsNegotiate bytes v) (ok_is _ value e3) (record {
      header = header_found 1 negotiate_least bytes header header-is;
      flags = refl;
      domain = name_found (has_domain bytes) Domain negotiate_domain_place bytes domain domain-is;
      workstation = name_found (has_workstation bytes) Workstation negotiate_workstation_place bytes workstation workstation-is;
      version = refl;
    }))))

made : (value : Negotiate) (flags : ℕ) (version : Option (List ℕ)) → flags ≡ value.flags → version ≡ value.version
    → done (record { flags = flags; domain = value.domain; workstation = value.workstation; version = version }) ≡ done value
made value flags version flags-is version-is = rw (flags-is, version-is) refl

pub negotiate_only : (bytes : List ℕ) (value : Negotiate) → IsNegotiate bytes value → negotiate_of bytes ≡ Ok value
unfolding negotiate_of
negotiate_only bytes value h =
    let header = header_only 1 negotiate_least bytes h.header in
    let domain = name_only (has_domain bytes) Domain negotiate_domain_place bytes value.domain h.domain in
    let workstation = name_only (has_workstation bytes) Workstation negotiate_workstation_place bytes value.workstation h.workstation in
    let version = subst (λ (flags : ℕ). version_of flags negotiate_size (negotiate_gap bytes) bytes ≡ value.version) (sym h.flags) h.version in
    rw (header, domain, workstation) (made value _ _ h.flags version)

domain_first : (workstation : Bool) (bytes : List ℕ) (e : MessageRefused) → name_of true Domain negotiate_domain_place bytes ≡ Err e → (name : Field) × (FieldOutside name ≡ e) × IsFirstOutside negotiate_size (supplied_names true workstation) bytes name
domain_first true bytes e h = let f = field_refused Domain negotiate_domain_place negotiate_size bytes e h in (Domain, f.0, inl (f.1, refl))
domain_first false bytes e h = let f = field_refused Domain negotiate_domain_place negotiate_size bytes e h in (Domain, f.0, inl (f.1, refl))

domain_outside : (domain workstation : Bool) (bytes : List ℕ) (e : MessageRefused) → name_of domain Domain negotiate_domain_place bytes ≡ Err e → (name : Field) × (FieldOutside name ≡ e) × IsFirstOutside negotiate_size (supplied_names domain workstation) bytes name
domain_outside true workstation bytes e h = domain_first workstation bytes e h
domain_outside false workstation bytes e h = absurd cc

workstation_outside : (domain workstation : Bool) (bytes part : List ℕ) (e : MessageRefused) → IsName domain negotiate_domain_place bytes part → name_of workstation Workstation negotiate_workstation_place bytes ≡ Err e
    → (name : Field) × (FieldOutside name ≡ e) × IsFirstOutside negotiate_size (supplied_names domain workstation) bytes name
workstation_outside domain false bytes part e first h = absurd cc
workstation_outside true true bytes part e first h = let f = field_refused Workstation negotiate_workstation_place negotiate_size bytes e h in (Workstation, f.0, inr (inside_from negotiate_domain_place negotiate_size bytes part first, inl (f.1, refl)))
workstation_outside false true bytes part e first h = let f = field_refused Workstation negotiate_workstation_place negotiate_size bytes e h in (Workstation, f.0, inl (f.1, refl))

pub negotiate_refused : (bytes : List ℕ) (e : MessageRefused) → negotiate_of bytes ≡ Err e → IsNegotiateRefusal bytes e
unfolding negotiate_of
negotiate_refused bytes e given =
    let Refused : MessageRefused → Type 0 = λ x. IsNegotiateRefusal bytes x in
    refused_then (header_of 1 negotiate_least bytes) _ e given (λ h.
    header_is 1 negotiate_least negotiate_size (long_at bytes negotiate_flags_place) (supplied_names (has_domain bytes) (has_workstation bytes)) [] bytes e
    (header_refused 1 negotiate_least bytes e h)) (λ header header-is e1.
    let whole = header_found 1 negotiate_least bytes header header-is in
    refused_then (name_of (has_domain bytes) Domain negotiate_domain_place bytes) _ e e1
    (λ h. let f = domain_outside (has_domain bytes) (has_workstation bytes) bytes e h in subst Refused f.1 (whole, f.2)) (λ domain domain-is e2.
    refused_then (name_of (has_workstation bytes) Workstation negotiate_workstation_place bytes) _ e e2
    (λ h. let f = workstation_outside (has_domain bytes) (has_workstation bytes) bytes domain e (name_found (has_domain bytes) Domain negotiate_domain_place bytes domain domain-is) h in subst Refused f.1 (whole, f.2))
    (λ workstation workstation-is e3. absurd cc)))

-- a name that isn't supplied was read as empty
pub negotiate_writable : (bytes : List ℕ) (value : Negotiate) → IsNegotiate bytes value → CanWriteNegotiate value
negotiate_writable bytes value h = record {
  version = version_flag value.flags negotiate_size (negotiate_gap bytes) bytes value.version h.version;
  domain = λ unset. none negotiate_oem_domain_supplied negotiate_domain_place bytes value.flags value.domain h.flags h.domain unset;
  workstation = λ unset. none negotiate_oem_workstation_supplied negotiate_workstation_place bytes value.flags value.workstation h.flags h.workstation unset;
}
  where
    none : (flag place : ℕ) (bytes : List ℕ) (flags : ℕ) (part : List ℕ) → long_at bytes negotiate_flags_place ≡ flags → IsName (is_supplied flag bytes) place bytes part → has_flag flags flag ≡ false → part ≡ []
    none flag place bytes flags part flags-is named unset =
        let off : is_supplied flag bytes ≡ false = and_right (leb negotiate_size (length bytes)) (has_flag (long_at bytes negotiate_flags_place) flag) (ap (λ (n : ℕ). has_flag n flag) flags-is ∙ unset) in
        let P : Bool → Type 0 = λ b. IsName b place bytes part in
        subst P off named
