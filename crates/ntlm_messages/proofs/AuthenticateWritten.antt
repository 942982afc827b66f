-- An AUTHENTICATE in its written form is read back.
use Rattle.std.proofs.Common.{◌≡◌, ℕ, ◌+◌, ◌≤◌, List, [], ◌∷◌, ◌++◌, length, Ok, refl, ap, subst, ◌∙◌, append_assoc, arith, inl, inr, lit<}
use Rattle.std.specs.List.{concat}
use Rattle.std.specs.Int.{w16, w32, to_le_bytes}
use Rattle.std.proofs.lemmas.Bool.{cases_eq}
use Rattle.std.proofs.lemmas.List.{append-nil}
use Rattle.ntlm_messages.specs.declared.messages.Authenticate.{Authenticate}
use Rattle.ntlm_messages.specs.Fields.{FieldsFit, signature, bytes_of}
use Rattle.ntlm_messages.specs.Places.{type_place, authenticate_lm_place, authenticate_nt_place, authenticate_domain_place, authenticate_user_place, authenticate_workstation_place, authenticate_key_place, authenticate_flags_place, authenticate_size}
use Rattle.ntlm_messages.specs.Authenticate.{IsAuthenticate, authenticate_of, authenticate_places, authenticate_gap, written_authenticate, authenticate_start, CanWriteAuthenticate, authenticate_fields, authenticate_table, authenticate_payload, HasWidths}
use Rattle.ntlm_messages.proofs.AuthenticateLaws.{authenticate_only}
use Rattle.ntlm_messages.proofs.WrittenLaws.{start_of, Stands, part_stands, Stands_ends, Stands_bytes, Stands_long, IsWrittenField, IsField-written, written_field, length-concat, gap_in, gap_from, gap_low, version_of-written, mic_of-written, size_some, size_none, size_within, size_without}

abbrev field_parts : List ℕ → ℕ → List (List ℕ) → List (List ℕ)
field_parts part offset parts = to_le_bytes w16 (length part) ∷ to_le_bytes w16 (length part) ∷ to_le_bytes w32 offset ∷ parts

-- where the fields of the payload begin
abbrev user_at : Authenticate → ℕ
user_at v = authenticate_start v + length v.domain

abbrev workstation_at : Authenticate → ℕ
workstation_at v = user_at v + length v.user

abbrev lm_at : Authenticate → ℕ
lm_at v = workstation_at v + length v.workstation

abbrev nt_at : Authenticate → ℕ
nt_at v = lm_at v + length v.lm

abbrev key_at : Authenticate → ℕ
key_at v = nt_at v + length v.nt

abbrev message_parts : Authenticate → List (List ℕ)
message_parts v =
    signature ∷ to_le_bytes w32 3 ∷ field_parts v.lm (lm_at v) (field_parts v.nt (nt_at v) (field_parts v.domain (authenticate_start v)
    (field_parts v.user (user_at v) (field_parts v.workstation (workstation_at v) (field_parts v.key (key_at v)
    (to_le_bytes w32 v.flags ∷ bytes_of v.version ∷ bytes_of v.mic ∷ v.domain ∷ v.user ∷ v.workstation ∷ v.lm ∷ v.nt ∷ v.key ∷ []))))))

regroup : (front version mic domain user workstation lm nt key : List ℕ) → front ++ version ++ mic ++ (domain ++ user ++ workstation ++ lm ++ nt ++ key)
    ≡ front ++ concat (version ∷ mic ∷ domain ∷ user ∷ workstation ∷ lm ∷ nt ∷ key ∷ [])
regroup front version mic domain user workstation lm nt key = simp (append_assoc, append-nil)

written_is : (v : Authenticate) → written_authenticate v ≡ concat (message_parts v)
unfolding written_authenticate authenticate_table authenticate_payload
written_is v =
    let front : List ℕ = signature ++ to_le_bytes w32 3 ++ authenticate_table v ++ to_le_bytes w32 v.flags in
    regroup front (bytes_of v.version) (bytes_of v.mic) v.domain v.user v.workstation v.lm v.nt v.key

-- where everything stands
record IsWritten (v : Authenticate) (bytes : List ℕ) : Type 0 where
  signed : Stands bytes 0 signature
  typed : Stands bytes type_place (to_le_bytes w32 3)
  lm : IsWrittenField authenticate_lm_place authenticate_size bytes v.lm (lm_at v)
  nt : IsWrittenField authenticate_nt_place authenticate_size bytes v.nt (nt_at v)
  domain : IsWrittenField authenticate_domain_place authenticate_size bytes v.domain (authenticate_start v)
  user : IsWrittenField authenticate_user_place authenticate_size bytes v.user (user_at v)
  workstation : IsWrittenField authenticate_workstation_place authenticate_size bytes v.workstation (workstation_at v)
  key : IsWrittenField authenticate_key_place authenticate_size bytes v.key (key_at v)
  flags : Stands bytes authenticate_flags_place (to_le_bytes w32 v.flags)
  version : Stands bytes authenticate_size (bytes_of v.version)
  mic : Stands bytes (authenticate_size + length (bytes_of v.version)) (bytes_of v.mic)
  len : length bytes ≡ key_at v + length v.key

is_written : (v : Authenticate) → FieldsFit (authenticate_fields v) → HasWidths v → IsWritten v (concat (message_parts v))
is_written v fit widths =
    let bytes = concat (message_parts v) in
    let s = part_stands (message_parts v) in
    let version_size = size_within v.version 8 widths.version in
    let mic_size = size_within v.mic 16 widths.mic in
    record {
      signed = s 0 (lit< tt);
      typed = s 1 (lit< tt);
      lm = written_field authenticate_lm_place authenticate_size bytes v.lm (lm_at v) (omega arith) (omega (arith, fit.1.1.0, fit.1.1.1.0, fit.1.1.1.1.0, fit.0, fit.1.0)) fit.0 (s 2 (lit< tt)) (s 4 (lit< tt))
          (let e : start_of (message_parts v) 26 ≡ (lm_at v) = omega arith in subst (λ (p : ℕ). Stands bytes p v.lm) e (s 26 (lit< tt)));
      nt = written_field authenticate_nt_place authenticate_size bytes v.nt (nt_at v) (omega arith) (omega (arith, fit.1.1.0, fit.1.1.1.0, fit.1.1.1.1.0, fit.0, fit.1.0)) fit.1.0 (s 5 (lit< tt)) (s 7 (lit< tt))
          (let e : start_of (message_parts v) 27 ≡ (nt_at v) = omega arith in subst (λ (p : ℕ). Stands bytes p v.nt) e (s 27 (lit< tt)));
      domain = written_field authenticate_domain_place authenticate_size bytes v.domain (authenticate_start v) (omega arith) (omega (arith, fit.1.1.0, fit.1.1.1.0, fit.1.1.1.1.0, fit.0, fit.1.0)) fit.1.1.0 (s 8 (lit< tt)) (s 10 (lit< tt))
          (let e : start_of (message_parts v) 23 ≡ (authenticate_start v) = omega arith in subst (λ (p : ℕ). Stands bytes p v.domain) e (s 23 (lit< tt)));
      user = written_field authenticate_user_place authenticate_size bytes v.user (user_at v) (omega arith) (omega (arith, fit.1.1.0, fit.1.1.1.0, fit.1.1.1.1.0, fit.0, fit.1.0)) fit.1.1.1.0 (s 11 (lit< tt)) (s 13 (lit< tt))
          (let e : start_of (message_parts v) 24 ≡ (user_at v) = omega arith in subst (λ (p : ℕ). Stands bytes p v.user) e (s 24 (lit< tt)));
      workstation = written_field authenticate_workstation_place authenticate_size bytes v.workstation (workstation_at v) (omega arith) (omega (arith, fit.1.1.0, fit.1.1.1.0, fit.1.1.1.1.0, fit.0, fit.1.0)) fit.1.1.1.1.0 (s 14 (lit< tt)) (s 16 (lit< tt))
          (let e : start_of (message_parts v) 25 ≡ (workstation_at v) = omega arith in subst (λ (p : ℕ). Stands bytes p v.workstation) e (s 25 (lit< tt)));
      key = written_field authenticate_key_place authenticate_size bytes v.key (key_at v) (omega arith) (omega (arith, fit.1.1.0, fit.1.1.1.0, fit.1.1.1.1.0, fit.0, fit.1.0)) fit.1.1.1.1.1.0 (s 17 (lit< tt)) (s 19 (lit< tt))
          (let e : start_of (message_parts v) 28 ≡ (key_at v) = omega arith in subst (λ (p : ℕ). Stands bytes p v.key) e (s 28 (lit< tt)));
      flags = s 20 (lit< tt);
      version = s 21 (lit< tt);
      mic = (let e : start_of (message_parts v) 22 ≡ authenticate_size + length (bytes_of v.version) = omega arith in subst (λ (p : ℕ). Stands bytes p (bytes_of v.mic)) e (s 22 (lit< tt)));
      len = length-concat (message_parts v) ∙ omega arith;
    }

-- the payload begins behind the header, the version and the message integrity code
gap_is : (v : Authenticate) (bytes : List ℕ) → IsWritten v bytes → authenticate_gap bytes ≡ authenticate_start v
gap_is v bytes w =
    let no_less : authenticate_start v ≤ authenticate_gap bytes =
    gap_from (authenticate_start v) authenticate_places bytes (omega (arith, w.len)) (
      omega (arith, w.lm.offset_is),
      (
        omega (arith, w.nt.offset_is),
        (
          omega (arith, w.domain.offset_is),
          (
            omega (arith, w.user.offset_is),
            (omega (arith, w.workstation.offset_is), (omega (arith, w.key.offset_is), tt)),
          ),
        ),
      ),
    ) in
    let inside = gap_in authenticate_places bytes in
    let no_more : authenticate_gap bytes ≤ authenticate_start v =
    elim (cases_eq (length v.domain) 0) [
      | inr some ↦ gap_low authenticate_places bytes 2 authenticate_domain_place authenticate_size _ v.domain (lit< tt) refl w.domain some
      | inl domain ↦ elim (cases_eq (length v.user) 0) [
        | inr some ↦ omega (arith, domain, gap_low authenticate_places bytes 3 authenticate_user_place authenticate_size _ v.user (lit< tt) refl w.user some)
        | inl user ↦ elim (cases_eq (length v.workstation) 0) [
          | inr some ↦ omega (arith, domain, user, gap_low authenticate_places bytes 4 authenticate_workstation_place authenticate_size _ v.workstation (lit< tt) refl w.workstation some)
          | inl workstation ↦ elim (cases_eq (length v.lm) 0) [
            | inr some ↦ omega (arith, domain, user, workstation, gap_low authenticate_places bytes 0 authenticate_lm_place authenticate_size _ v.lm (lit< tt) refl w.lm some)
            | inl lm ↦ elim (cases_eq (length v.nt) 0) [
              | inr some ↦ omega (arith, domain, user, workstation, lm, gap_low authenticate_places bytes 1 authenticate_nt_place authenticate_size _ v.nt (lit< tt) refl w.nt some)
              | inl nt ↦ elim (cases_eq (length v.key) 0) [
                | inr some ↦ omega (arith, domain, user, workstation, lm, nt, gap_low authenticate_places bytes 5 authenticate_key_place authenticate_size _ v.key (lit< tt) refl w.key some)
                | inl key ↦ omega (arith, domain, user, workstation, lm, nt, key, inside, w.len)
              ]
            ]
          ]
        ]
      ]
    ] in
    omega (arith, no_less, no_more)

is_authenticate : (v : Authenticate) (bytes : List ℕ) → CanWriteAuthenticate v → HasWidths v → IsWritten v bytes → IsAuthenticate bytes v
is_authenticate v bytes can widths w =
    let gap = gap_is v bytes w in
    record {
      header = record { whole = Stands_ends bytes authenticate_flags_place (to_le_bytes w32 v.flags) w.flags; signed = Stands_bytes bytes 0 signature w.signed; typed = Stands_long bytes type_place 3 (lit< tt) w.typed };
      flags = Stands_long bytes authenticate_flags_place v.flags widths.flags w.flags;
      lm = IsField-written authenticate_lm_place authenticate_size bytes v.lm _ w.lm;
      nt = IsField-written authenticate_nt_place authenticate_size bytes v.nt _ w.nt;
      domain = IsField-written authenticate_domain_place authenticate_size bytes v.domain _ w.domain;
      user = IsField-written authenticate_user_place authenticate_size bytes v.user _ w.user;
      workstation = IsField-written authenticate_workstation_place authenticate_size bytes v.workstation _ w.workstation;
      key = IsField-written authenticate_key_place authenticate_size bytes v.key _ w.key;
      domain_text = can.domain;
      user_text = can.user;
      workstation_text = can.workstation;
      version = version_of-written v.flags authenticate_size (authenticate_gap bytes) bytes v.version can.version
          (λ some. omega (arith, gap, size_some v.version 8 some widths.version))
          (λ none. omega (arith, gap, size_none v.version none, size_without v.mic v.version can.mic none))
          widths.version w.version;
      mic = mic_of-written v.flags authenticate_size (authenticate_gap bytes) bytes v.mic (λ some. can.version (can.mic some))
          (λ some. omega (arith, gap, size_some v.mic 16 some widths.mic, size_some v.version 8 (can.mic some) widths.version))
          (λ none. omega (arith, gap, size_none v.mic none, size_within v.version 8 widths.version))
          widths.mic
          (λ some. subst (λ (n : ℕ). Stands bytes (authenticate_size + n) (bytes_of v.mic)) (size_some v.version 8 (can.mic some) widths.version) w.mic);
    }

pub authenticate_back : (v : Authenticate) → CanWriteAuthenticate v → FieldsFit (authenticate_fields v) → HasWidths v → authenticate_of (written_authenticate v) ≡ Ok v
authenticate_back v can fit widths =
    ap authenticate_of (written_is v) ∙ authenticate_only (concat (message_parts v)) v (is_authenticate v (concat (message_parts v)) can widths (is_written v fit widths))
