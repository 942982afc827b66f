-- The function that reads an AUTHENTICATE and the relation of its grammar agree.
use Rattle.std.proofs.Common.{◌≡◌, ℕ, List, [], ◌∷◌, Ok, Err, refl, subst, inl, inr}
use Rattle.std.specs.List.{AllByRecursion}
use Rattle.ntlm_messages.specs.declared.messages.Authenticate.{Authenticate}
use Rattle.ntlm_messages.specs.declared.refused.Field.{Field}
use Rattle.ntlm_messages.specs.declared.refused.Field.TheVariants.{Lm, Nt, Domain, User, Workstation, Key}
use Rattle.ntlm_messages.specs.declared.refused.MessageRefused.{MessageRefused}
use Rattle.ntlm_messages.specs.Fields.{IsInside, long_at, header_of, field_of, text_of}
use Rattle.ntlm_messages.specs.Places.{authenticate_lm_place, authenticate_nt_place, authenticate_domain_place, authenticate_user_place, authenticate_workstation_place, authenticate_key_place, authenticate_flags_place, authenticate_size}
use Rattle.ntlm_messages.specs.Authenticate.{IsAuthenticate, authenticate_of, authenticate_gap, IsAuthenticateRefusal, CanWriteAuthenticate}
use Rattle.ntlm_messages.proofs.FieldLaws.{bind_then, ok_is, header_found, field_found, text_found, header_only, field_only, text_only, refused_then, header_is, header_refused, field_refused, text_refused, inside_from, version_flag, mic_version}

pub authenticate_found : (bytes : List ℕ) (value : Authenticate) → authenticate_of bytes ≡ Ok value → IsAuthenticate bytes value
unfolding authenticate_of
authenticate_found bytes value e =
    bind_then (header_of 3 authenticate_size bytes) _ value e (λ header header-is e1.
    bind_then (field_of Lm authenticate_lm_place authenticate_size bytes) _ value e1 (λ lm lm-is e2.
    bind_then (field_of Nt authenticate_nt_place authenticate_size bytes) _ value e2 (λ nt nt-is e3.
    bind_then (field_of Domain authenticate_domain_place authenticate_size bytes) _ value e3 (λ domain domain-is e4.
    bind_then (field_of User authenticate_user_place authenticate_size bytes) _ value e4 (λ user user-is e5.
    bind_then (field_of Workstation authenticate_workstation_place authenticate_size bytes) _ value e5 (λ workstation workstation-is e6.
    bind_then (field_of Key authenticate_key_place authenticate_size bytes) _ value e6 (λ key key-is e7.
    bind_then (text_of Domain (long_at bytes authenticate_flags_place) domain) _ value e7 (λ domain_even domain_even-is e8.
    bind_then (text_of User (long_at bytes authenticate_flags_place) user) _ value e8 (λ user_even user_even-is e9.
    bind_then (text_of Workstation (long_at bytes authenticate_flags_place) workstation) _ value e9 (λ workstation_even workstation_even-is e10.
    subst (λ (v : Authenticate). IsAuthenticate bytes v) (ok_is _ value e10) (record {
      header = header_found 3 authenticate_size bytes header header-is;
      flags = refl;
      lm = field_found Lm authenticate_lm_place authenticate_size bytes lm lm-is;
      nt = field_found Nt authenticate_nt_place authenticate_size bytes nt nt-is;
      domain = field_found Domain authenticate_domain_place authenticate_size bytes domain domain-is;
      user = field_found User authenticate_user_place authenticate_size bytes user user-is;
      workstation = field_found Workstation authenticate_workstation_place authenticate_size bytes workstation workstation-is;
      key = field_found Key authenticate_key_place authenticate_size bytes key key-is;
      domain_text = text_found Domain (long_at bytes authenticate_flags_place) domain domain_even domain_even-is;
      user_text = text_found User (long_at bytes authenticate_flags_place) user user_even user_even-is;
      workstation_text = text_found Workstation (long_at bytes authenticate_flags_place) workstation workstation_even workstation_even-is;
      version = refl;
      mic = refl;
    })))))))))))

pub authenticate_only : (bytes : List ℕ) (value : Authenticate) → IsAuthenticate bytes value → authenticate_of bytes ≡ Ok value
unfolding authenticate_of
authenticate_only bytes value h =
    let header = header_only 3 authenticate_size bytes h.header in
    let lm = field_only Lm authenticate_lm_place authenticate_size bytes value.lm h.lm in
    let nt = field_only Nt authenticate_nt_place authenticate_size bytes value.nt h.nt in
    let domain = field_only Domain authenticate_domain_place authenticate_size bytes value.domain h.domain in
    let user = field_only User authenticate_user_place authenticate_size bytes value.user h.user in
    let workstation = field_only Workstation authenticate_workstation_place authenticate_size bytes value.workstation h.workstation in
    let key = field_only Key authenticate_key_place authenticate_size bytes value.key h.key in
    let domain_even = text_only Domain value.flags value.domain h.domain_text in
    let user_even = text_only User value.flags value.user h.user_text in
    let workstation_even = text_only Workstation value.flags value.workstation h.workstation_text in
    rw (header, lm, nt, domain, user, workstation, key, h.flags, domain_even, user_even, workstation_even, h.version, h.mic) refl

pub authenticate_refused : (bytes : List ℕ) (e : MessageRefused) → authenticate_of bytes ≡ Err e → IsAuthenticateRefusal bytes e
unfolding authenticate_of
authenticate_refused bytes e given =
    let Refused : MessageRefused → Type 0 = λ x. IsAuthenticateRefusal bytes x in
    let flags = long_at bytes authenticate_flags_place in
    refused_then (header_of 3 authenticate_size bytes) _ e given (λ h.
    header_is 3 authenticate_size authenticate_size flags
    ((Lm, authenticate_lm_place) ∷ (Nt, authenticate_nt_place) ∷ (Domain, authenticate_domain_place) ∷ (User, authenticate_user_place) ∷ (Workstation, authenticate_workstation_place) ∷ (Key, authenticate_key_place) ∷ [])
    ((Domain, authenticate_domain_place) ∷ (User, authenticate_user_place) ∷ (Workstation, authenticate_workstation_place) ∷ []) bytes e
    (header_refused 3 authenticate_size bytes e h)) (λ header header-is e1.
    let whole = header_found 3 authenticate_size bytes header header-is in
    refused_then (field_of Lm authenticate_lm_place authenticate_size bytes) _ e e1
    (λ h. let f = field_refused Lm authenticate_lm_place authenticate_size bytes e h in subst Refused f.0 (whole, inl (f.1, refl))) (λ lm lm-is e2.
    let lm_in = inside_from authenticate_lm_place authenticate_size bytes lm (field_found Lm authenticate_lm_place authenticate_size bytes lm lm-is) in
    refused_then (field_of Nt authenticate_nt_place authenticate_size bytes) _ e e2
    (λ h. let f = field_refused Nt authenticate_nt_place authenticate_size bytes e h in subst Refused f.0 (whole, inr (lm_in, inl (f.1, refl)))) (λ nt nt-is e3.
    let nt_in = inside_from authenticate_nt_place authenticate_size bytes nt (field_found Nt authenticate_nt_place authenticate_size bytes nt nt-is) in
    refused_then (field_of Domain authenticate_domain_place authenticate_size bytes) _ e e3
    (λ h. let f = field_refused Domain authenticate_domain_place authenticate_size bytes e h in subst Refused f.0 (whole, inr (lm_in, inr (nt_in, inl (f.1, refl))))) (λ domain domain-is e4.
    let domain_field = field_found Domain authenticate_domain_place authenticate_size bytes domain domain-is in
    let domain_in = inside_from authenticate_domain_place authenticate_size bytes domain domain_field in
    refused_then (field_of User authenticate_user_place authenticate_size bytes) _ e e4
    (λ h. let f = field_refused User authenticate_user_place authenticate_size bytes e h in subst Refused f.0 (whole, inr (lm_in, inr (nt_in, inr (domain_in, inl (f.1, refl)))))) (λ user user-is e5.
    let user_field = field_found User authenticate_user_place authenticate_size bytes user user-is in
    let user_in = inside_from authenticate_user_place authenticate_size bytes user user_field in
    refused_then (field_of Workstation authenticate_workstation_place authenticate_size bytes) _ e e5
    (λ h. let f = field_refused Workstation authenticate_workstation_place authenticate_size bytes e h in subst Refused f.0 (whole, inr (lm_in, inr (nt_in, inr (domain_in, inr (user_in, inl (f.1, refl))))))) (λ workstation workstation-is e6.
    let workstation_field = field_found Workstation authenticate_workstation_place authenticate_size bytes workstation workstation-is in
    let workstation_in = inside_from authenticate_workstation_place authenticate_size bytes workstation workstation_field in
    refused_then (field_of Key authenticate_key_place authenticate_size bytes) _ e e6
    (λ h. let f = field_refused Key authenticate_key_place authenticate_size bytes e h in subst Refused f.0 (whole, inr (lm_in, inr (nt_in, inr (domain_in, inr (user_in, inr (workstation_in, inl (f.1, refl)))))))) (λ key key-is e7.
    let key_in = inside_from authenticate_key_place authenticate_size bytes key (field_found Key authenticate_key_place authenticate_size bytes key key-is) in
    let all_in : AllByRecursion (λ (field : Field × ℕ). IsInside field.1 authenticate_size bytes) ((Lm, authenticate_lm_place) ∷ (Nt, authenticate_nt_place) ∷ (Domain, authenticate_domain_place) ∷ (User, authenticate_user_place) ∷ (Workstation, authenticate_workstation_place) ∷ (Key, authenticate_key_place) ∷ []) = (lm_in, (nt_in, (domain_in, (user_in, (workstation_in, (key_in, tt)))))) in
    refused_then (text_of Domain flags domain) _ e e7
    (λ h. let t = text_refused Domain flags domain e h in subst Refused t.0 (whole, all_in, t.1, inl (rw domain_field.len t.2, refl))) (λ domain_even domain_even-is e8.
    refused_then (text_of User flags user) _ e e8
    (λ h. let t = text_refused User flags user e h in
    subst Refused t.0 (whole, all_in, t.1, inr (rw domain_field.len (text_found Domain flags domain domain_even domain_even-is t.1), inl (rw user_field.len t.2, refl)))) (λ user_even user_even-is e9.
    refused_then (text_of Workstation flags workstation) _ e e9
    (λ h. let t = text_refused Workstation flags workstation e h in
    subst Refused t.0 (
      whole,
      all_in,
      t.1,
      inr (
        rw domain_field.len (text_found Domain flags domain domain_even domain_even-is t.1),
        inr (rw user_field.len (text_found User flags user user_even user_even-is t.1), inl (rw workstation_field.len t.2, refl)),
      ),
    ))
    (λ workstation_even workstation_even-is e10. absurd cc))))))))))

pub authenticate_writable : (bytes : List ℕ) (value : Authenticate) → IsAuthenticate bytes value → CanWriteAuthenticate value
authenticate_writable bytes value h = record {
  version = version_flag value.flags authenticate_size (authenticate_gap bytes) bytes value.version h.version;
  mic = mic_version value.flags authenticate_size (authenticate_gap bytes) bytes value.version value.mic h.version h.mic;
  domain = h.domain_text;
  user = h.user_text;
  workstation = h.workstation_text;
}
