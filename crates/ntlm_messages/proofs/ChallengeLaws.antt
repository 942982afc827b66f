-- The function that reads a CHALLENGE and the relation of its grammar agree.
use Rattle.std.proofs.Common.{◌≡◌, ℕ, List, [], ◌∷◌, Ok, Err, refl, subst, inl, inr}
use Rattle.ntlm_messages.specs.declared.messages.Challenge.{Challenge}
use Rattle.ntlm_messages.specs.declared.refused.Field.TheVariants.{Target, Info}
use Rattle.ntlm_messages.specs.declared.refused.MessageRefused.{MessageRefused}
use Rattle.ntlm_messages.specs.Fields.{long_at, header_of, field_of, text_of}
use Rattle.ntlm_messages.specs.Places.{challenge_target_place, challenge_flags_place, challenge_info_place, challenge_size}
use Rattle.ntlm_messages.specs.Challenge.{IsChallenge, challenge_of, challenge_gap, IsChallengeRefusal, CanWriteChallenge}
use Rattle.ntlm_messages.proofs.FieldLaws.{bind_then, ok_is, header_found, field_found, text_found, header_only, field_only, text_only, refused_then, header_is, header_refused, field_refused, text_refused, inside_from, version_flag}

pub challenge_found : (bytes : List ℕ) (value : Challenge) → challenge_of bytes ≡ Ok value → IsChallenge bytes value
unfolding challenge_of
challenge_found bytes value e =
    bind_then (header_of 2 challenge_size bytes) _ value e (λ header header-is e1.
    bind_then (field_of Target challenge_target_place challenge_size bytes) _ value e1 (λ target target-is e2.
    bind_then (field_of Info challenge_info_place challenge_size bytes) _ value e2 (λ info info-is e3.
    bind_then (text_of Target (long_at bytes challenge_flags_place) target) _ value e3 (λ target_even target_even-is e4.
    subst (λ (v : Challenge). IsChallenge bytes v) (ok_is _ value e4) (record {
      header = header_found 2 challenge_size bytes header header-is;
      flags = refl;
      target = field_found Target challenge_target_place challenge_size bytes target target-is;
      challenge = refl;
      info = field_found Info challenge_info_place challenge_size bytes info info-is;
      target_text = text_found Target (long_at bytes challenge_flags_place) target target_even target_even-is;
      version = refl;
    })))))

pub challenge_only : (bytes : List ℕ) (value : Challenge) → IsChallenge bytes value → challenge_of bytes ≡ Ok value
unfolding challenge_of
challenge_only bytes value h =
    let header = header_only 2 challenge_size bytes h.header in
    let target = field_only Target challenge_target_place challenge_size bytes value.target h.target in
    let info = field_only Info challenge_info_place challenge_size bytes value.info h.info in
    let target_even = text_only Target value.flags value.target h.target_text in
    rw (header, target, info, h.flags, target_even, h.challenge, h.version) refl

pub challenge_refused : (bytes : List ℕ) (e : MessageRefused) → challenge_of bytes ≡ Err e → IsChallengeRefusal bytes e
unfolding challenge_of
challenge_refused bytes e given =
    let Refused : MessageRefused → Type 0 = λ x. IsChallengeRefusal bytes x in
    let flags = long_at bytes challenge_flags_place in
    refused_then (header_of 2 challenge_size bytes) _ e given (λ h.
    header_is 2 challenge_size challenge_size flags ((Target, challenge_target_place) ∷ (Info, challenge_info_place) ∷ []) ((Target, challenge_target_place) ∷ []) bytes e
    (header_refused 2 challenge_size bytes e h)) (λ header header-is e1.
    let whole = header_found 2 challenge_size bytes header header-is in
    refused_then (field_of Target challenge_target_place challenge_size bytes) _ e e1
    (λ h. let f = field_refused Target challenge_target_place challenge_size bytes e h in subst Refused f.0 (whole, inl (f.1, refl))) (λ target target-is e2.
    let target_field = field_found Target challenge_target_place challenge_size bytes target target-is in
    let target_in = inside_from challenge_target_place challenge_size bytes target target_field in
    refused_then (field_of Info challenge_info_place challenge_size bytes) _ e e2
    (λ h. let f = field_refused Info challenge_info_place challenge_size bytes e h in subst Refused f.0 (whole, inr (target_in, inl (f.1, refl)))) (λ info info-is e3.
    let info_in = inside_from challenge_info_place challenge_size bytes info (field_found Info challenge_info_place challenge_size bytes info info-is) in
    refused_then (text_of Target flags target) _ e e3
    (λ h. let t = text_refused Target flags target e h in subst Refused t.0 (whole, (target_in, (info_in, tt)), t.1, inl (rw target_field.len t.2, refl)))
    (λ target_even target_even-is e4. absurd cc))))

pub challenge_writable : (bytes : List ℕ) (value : Challenge) → IsChallenge bytes value → CanWriteChallenge value
challenge_writable bytes value h = record {
  version = version_flag value.flags challenge_size (challenge_gap bytes) bytes value.version h.version;
  target = h.target_text;
}
