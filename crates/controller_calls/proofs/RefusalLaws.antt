-- What a call that doesn't pass leaves of the channels that are kept. It serves `what_passes_is_done`.
use Rattle.std.proofs.Common.{◌≡◌, ℕ, List, [], ◌∷◌, Some, None, refl, sym, ap, ◌∙◌, inl, inr, bytes_eq}
use Rattle.std.proofs.lemmas.Bool.{cases_Bool}
use Rattle.wire_base.specs.Maps.{has_key, lookup, put, take_out}
use Rattle.wire_base.specs.Names.{SameName, same_name, upper_case}
use Rattle.wire_base.proofs.MapLaws.{lookup-put_same, put_others, taken_others}
use Rattle.wire_base.proofs.NameLaws.{IsSameness-same_name, same_name-Decides}
use Rattle.authenticators.specs.SecureChannels.{SecureChannelState}

abbrev Entries : Type 0
Entries = List (List ℕ × SecureChannelState)

same_with : (one other key : List ℕ) → SameName one other → same_name one key ≡ same_name other key
unfolding same_name
same_with one other key same = ap (λ (upper : List ℕ). bytes_eq upper (upper_case key)) same

-- two forms of one name find one channel
found_alike : (one other : List ℕ) (entries : Entries) → SameName one other → lookup same_name one entries ≡ lookup same_name other entries
found_alike one other [] same = refl
found_alike one other (entry ∷ entries) same = rw (same_with one other entry.0 same, found_alike one other entries same) refl

-- where a name has no channel, none is taken out
pub none_taken : (key : List ℕ) (entries : Entries) → lookup same_name key entries ≡ None → take_out same_name key entries ≡ entries
none_taken key [] none = refl
none_taken key (entry ∷ entries) none =
    elim (cases_Bool (has_key same_name key entry)) [
      | inl is ↦ absurd cc
      | inr not ↦
          let rest : lookup same_name key entries ≡ None = cc in
          rw not (ap (λ (others : Entries). entry ∷ others) (none_taken key entries rest))
    ]

-- a channel that was taken out and is put back is found as before, and so are the others
pub put_back : (key other : List ℕ) (channel : SecureChannelState) (entries : Entries) → lookup same_name key entries ≡ Some channel →
    lookup same_name other (put same_name key channel (take_out same_name key entries)) ≡ lookup same_name other entries
put_back key other channel entries stands =
    elim (cases_Bool (same_name key other)) [
      | inl same ↦
          let alike : SameName other key = sym ((same_name-Decides key other).0 same) in
          found_alike other key (put same_name key channel (take_out same_name key entries)) alike
          ∙ lookup-put_same same_name key channel (take_out same_name key entries) (IsSameness-same_name.reflexive key)
          ∙ sym stands
          ∙ sym (found_alike other key entries alike)
      | inr differ ↦
          put_others same_name key other channel (take_out same_name key entries) IsSameness-same_name differ
          ∙ taken_others same_name key other entries IsSameness-same_name differ
    ]
