-- A CHALLENGE in its written form is read back.
use Rattle.std.proofs.Common.{◌≡◌, ℕ, ◌+◌, ◌≤◌, List, [], ◌∷◌, ◌++◌, length, take, drop, Ok, refl, sym, ap, subst, ◌∙◌, append_assoc, arith, inl, inr, lit<}
use Rattle.std.specs.List.{concat}
use Rattle.std.specs.Int.{w16, w32, w64, to_le_bytes}
use Rattle.std.proofs.lemmas.Bool.{cases_eq}
use Rattle.std.proofs.lemmas.List.{append-nil}
use Rattle.ntlm_messages.specs.declared.messages.Challenge.{Challenge}
use Rattle.ntlm_messages.specs.Fields.{FieldsFit, signature, bytes_of}
use Rattle.ntlm_messages.specs.Places.{type_place, challenge_target_place, challenge_flags_place, challenge_server_place, challenge_info_place, challenge_size}
use Rattle.ntlm_messages.specs.Challenge.{IsChallenge, challenge_of, challenge_gap, written_challenge, CanWriteChallenge, challenge_fields, HasWidths}
use Rattle.ntlm_messages.proofs.ChallengeLaws.{challenge_only}
use Rattle.ntlm_messages.proofs.WrittenLaws.{Stands, part_stands, Stands_ends, Stands_bytes, Stands_long, IsWrittenField, IsField-written, written_field, length-concat, gap_in, gap_from, gap_low, version_of-written, size_some, size_none, size_within}

-- where the fields of the payload begin
abbrev target_at : Challenge → ℕ
target_at v = challenge_size + length (bytes_of v.version)

abbrev info_at : Challenge → ℕ
info_at v = target_at v + length v.target

abbrev message_parts : Challenge → List (List ℕ)
message_parts v =
    signature ∷ to_le_bytes w32 2
    ∷ to_le_bytes w16 (length v.target) ∷ to_le_bytes w16 (length v.target) ∷ to_le_bytes w32 (target_at v)
    ∷ to_le_bytes w32 v.flags ∷ v.challenge ∷ to_le_bytes w64 0
    ∷ to_le_bytes w16 (length v.info) ∷ to_le_bytes w16 (length v.info) ∷ to_le_bytes w32 (info_at v)
    ∷ bytes_of v.version ∷ v.target ∷ v.info ∷ []

regroup : (a b c d e f g h i j k l m n : List ℕ) → a ++ b ++ (c ++ d ++ e) ++ f ++ g ++ h ++ (i ++ j ++ k) ++ l ++ m ++ n
    ≡ concat (a ∷ b ∷ c ∷ d ∷ e ∷ f ∷ g ∷ h ∷ i ∷ j ∷ k ∷ l ∷ m ∷ n ∷ [])
regroup a b c d e f g h i j k l m n = simp (append_assoc, append-nil)

written_is : (v : Challenge) → written_challenge v ≡ concat (message_parts v)
unfolding written_challenge
written_is v =
    regroup signature (to_le_bytes w32 2) (to_le_bytes w16 (length v.target)) (to_le_bytes w16 (length v.target)) (to_le_bytes w32 (target_at v))
    (to_le_bytes w32 v.flags) v.challenge (to_le_bytes w64 0) (to_le_bytes w16 (length v.info)) (to_le_bytes w16 (length v.info)) (to_le_bytes w32 (info_at v))
    (bytes_of v.version) v.target v.info

-- where everything stands
record IsWritten (v : Challenge) (bytes : List ℕ) : Type 0 where
  signed : Stands bytes 0 signature
  typed : Stands bytes type_place (to_le_bytes w32 2)
  target : IsWrittenField challenge_target_place challenge_size bytes v.target (target_at v)
  flags : Stands bytes challenge_flags_place (to_le_bytes w32 v.flags)
  challenge : Stands bytes challenge_server_place v.challenge
  info : IsWrittenField challenge_info_place challenge_size bytes v.info (info_at v)
  version : Stands bytes challenge_size (bytes_of v.version)
  len : length bytes ≡ info_at v + length v.info

-- the part stands at a place that is equal to the sum before it
at : (bytes part : List ℕ) (m n : ℕ) → m ≡ n → Stands bytes m part → Stands bytes n part
at bytes part m n e s = subst (λ (p : ℕ). Stands bytes p part) e s

is_written : (v : Challenge) → FieldsFit (challenge_fields v) → HasWidths v → IsWritten v (concat (message_parts v))
is_written v fit widths =
    let bytes = concat (message_parts v) in
    let s = part_stands (message_parts v) in
    let version_size = size_within v.version 8 widths.version in
    let eight = widths.challenge in
    record {
      signed = s 0 (lit< tt);
      typed = s 1 (lit< tt);
      target = written_field challenge_target_place challenge_size bytes v.target (target_at v) (omega arith) (omega arith) fit.0 (s 2 (lit< tt)) (s 4 (lit< tt))
          (at bytes v.target _ _ (omega (arith, eight)) (s 12 (lit< tt)));
      flags = s 5 (lit< tt);
      challenge = s 6 (lit< tt);
      info = written_field challenge_info_place challenge_size bytes v.info (info_at v) (omega arith) (omega (arith, fit.0)) fit.1.0
          (at bytes (to_le_bytes w16 (length v.info)) _ challenge_info_place (omega (arith, eight)) (s 8 (lit< tt)))
          (at bytes (to_le_bytes w32 (info_at v)) _ (challenge_info_place + 4) (omega (arith, eight)) (s 10 (lit< tt)))
          (at bytes v.info _ _ (omega (arith, eight)) (s 13 (lit< tt)));
      version = at bytes (bytes_of v.version) _ challenge_size (omega (arith, eight)) (s 11 (lit< tt));
      len = length-concat (message_parts v) ∙ omega (arith, eight);
    }

-- the payload begins behind the header and the version
gap_is : (v : Challenge) (bytes : List ℕ) → IsWritten v bytes → challenge_gap bytes ≡ target_at v
gap_is v bytes w =
    let no_less : target_at v ≤ challenge_gap bytes =
    gap_from (target_at v) (challenge_target_place ∷ challenge_info_place ∷ []) bytes (omega (arith, w.len)) (omega (arith, w.target.offset_is), (omega (arith, w.info.offset_is), tt)) in
    let inside = gap_in (challenge_target_place ∷ challenge_info_place ∷ []) bytes in
    let no_more : challenge_gap bytes ≤ target_at v =
    elim (cases_eq (length v.target) 0) [
      | inr some ↦ gap_low (challenge_target_place ∷ challenge_info_place ∷ []) bytes 0 challenge_target_place challenge_size _ v.target (lit< tt) refl w.target some
      | inl target ↦ elim (cases_eq (length v.info) 0) [
        | inr some ↦ omega (arith, target, gap_low (challenge_target_place ∷ challenge_info_place ∷ []) bytes 1 challenge_info_place challenge_size _ v.info (lit< tt) refl w.info some)
        | inl info ↦ omega (arith, target, info, inside, w.len)
      ]
    ] in
    omega (arith, no_less, no_more)

is_challenge : (v : Challenge) (bytes : List ℕ) → CanWriteChallenge v → HasWidths v → IsWritten v bytes → IsChallenge bytes v
is_challenge v bytes can widths w =
    let gap = gap_is v bytes w in
    record {
      header = record { whole = omega (arith, Stands_ends bytes challenge_size (bytes_of v.version) w.version); signed = Stands_bytes bytes 0 signature w.signed; typed = Stands_long bytes type_place 2 (lit< tt) w.typed };
      flags = Stands_long bytes challenge_flags_place v.flags widths.flags w.flags;
      target = IsField-written challenge_target_place challenge_size bytes v.target _ w.target;
      challenge = ap (λ (n : ℕ). take n (drop challenge_server_place bytes)) (sym widths.challenge) ∙ Stands_bytes bytes challenge_server_place v.challenge w.challenge;
      info = IsField-written challenge_info_place challenge_size bytes v.info _ w.info;
      target_text = can.target;
      version = version_of-written v.flags challenge_size (challenge_gap bytes) bytes v.version can.version
          (λ some. omega (arith, gap, size_some v.version 8 some widths.version))
          (λ none. omega (arith, gap, size_none v.version none))
          widths.version w.version;
    }

pub challenge_back : (v : Challenge) → CanWriteChallenge v → FieldsFit (challenge_fields v) → HasWidths v → challenge_of (written_challenge v) ≡ Ok v
challenge_back v can fit widths =
    ap challenge_of (written_is v) ∙ challenge_only (concat (message_parts v)) v (is_challenge v (concat (message_parts v)) can widths (is_written v fit widths))
