-- A channel that was replaced stays so. It serves `replaced_channels_stay_so`, and what opens a unit.
use Rattle.std.proofs.Common.{◌≡◌, ℕ, ◌==◌, Bool, true, false, List, [], ◌∷◌, Option, Some, None, refl, sym, ap, ◌∙◌, inl, inr, bytes_eq}
use Rattle.std.proofs.lemmas.Bool.{cases_Bool}
use Rattle.wire_base.specs.Maps.{IsMap, has_key, lookup, put, take_out}
use Rattle.wire_base.specs.Names.{SameName, same_name, upper_case}
use Rattle.wire_base.proofs.MapLaws.{IsMap-put, IsMap-take_out, lookup-put_same, lookup-take_out_same, put_others, taken_others}
use Rattle.wire_base.proofs.NameLaws.{IsSameness-same_name, same_name-Decides}
use Rattle.netlogon_seal.specs.Channels.{NlState}
use Rattle.controller_calls.specs.Seals.{ReplacedStay, after_opening, is_of, stands, with_end}
use Rattle.controller_calls.specs.declared.seals.ChannelSeals.{ChannelSeals}
use Rattle.controller_calls.specs.declared.seals.KeptSeal.{KeptSeal}
use Rattle.controller_calls.specs.declared.seals.LinkSeal.{LinkSeal}

abbrev Entries : Type 0
Entries = List (List ℕ × KeptSeal)

same_with : (one other key : List ℕ) → SameName one other → same_name one key ≡ same_name other key
unfolding same_name
same_with one other key same = ap (λ (upper : List ℕ). bytes_eq upper (upper_case key)) same

-- two forms of one name find one channel
found_alike : (one other : List ℕ) (entries : Entries) → SameName one other → lookup same_name one entries ≡ lookup same_name other entries
found_alike one other [] same = refl
found_alike one other (entry ∷ entries) same = rw (same_with one other entry.0 same, found_alike one other entries same) refl

-- where a name has no channel that seals, none is taken out
pub none_kept : (key : List ℕ) (entries : Entries) → lookup same_name key entries ≡ None → take_out same_name key entries ≡ entries
none_kept key [] none = refl
none_kept key (entry ∷ entries) none =
    elim (cases_Bool (has_key same_name key entry)) [
      | inl is ↦ absurd cc
      | inr not ↦
          let rest : lookup same_name key entries ≡ None = cc in
          rw not (ap (λ (others : Entries). entry ∷ others) (none_kept key entries rest))
    ]

alike : (one other : List ℕ) → same_name one other ≡ true → SameName other one
alike one other same = sym ((same_name-Decides one other).0 same)

-- what is put for a computer is found by its name in any case
put_alike : (one other : List ℕ) (kept : KeptSeal) (entries : Entries) → same_name one other ≡ true → lookup same_name other (put same_name one kept entries) ≡ Some kept
put_alike one other kept entries same =
    found_alike other one (put same_name one kept entries) (alike one other same) ∙ lookup-put_same same_name one kept entries (IsSameness-same_name.reflexive one)

taken_alike : (one other : List ℕ) (entries : Entries) → IsMap same_name entries → same_name one other ≡ true → lookup same_name other (take_out same_name one entries) ≡ None
taken_alike one other entries map same =
    found_alike other one (take_out same_name one entries) (alike one other same) ∙ lookup-take_out_same same_name one entries IsSameness-same_name map

of_found : (opening : ℕ) (one other : Option KeptSeal) → one ≡ other → is_of opening one ≡ is_of opening other
of_found opening one other same = ap (λ (found : Option KeptSeal). is_of opening found) same

-- the channel that opens replaces that of its computer
replaces : (link : LinkSeal) (secure : Bool) (computer key : List ℕ) (s : ChannelSeals) → IsMap same_name s.kept → same_name computer link.computer ≡ true → (s.openings == link.opening) ≡ false →
    stands link (after_opening secure computer key s) ≡ false
replaces link false computer key s map same new = of_found link.opening _ None (taken_alike computer link.computer s.kept map same)
replaces link true computer key s map same new = of_found link.opening _ _ (put_alike computer link.computer _ s.kept same) ∙ new

-- a channel that opens leaves a link of another computer's channel standing as it was
others : (link : LinkSeal) (secure : Bool) (computer key : List ℕ) (s : ChannelSeals) → same_name computer link.computer ≡ false →
    stands link (after_opening secure computer key s) ≡ stands link s
others link false computer key s differ = of_found link.opening _ _ (taken_others same_name computer link.computer s.kept IsSameness-same_name differ)
others link true computer key s differ = of_found link.opening _ _ (put_others same_name computer link.computer _ s.kept IsSameness-same_name differ)

opens : (link : LinkSeal) (secure : Bool) (computer key : List ℕ) (s : ChannelSeals) → IsMap same_name s.kept → stands link s ≡ false → (s.openings == link.opening) ≡ false →
    stands link (after_opening secure computer key s) ≡ false
opens link secure computer key s map fell new =
    elim (cases_Bool (same_name computer link.computer)) [
      | inl same ↦ replaces link secure computer key s map same new
      | inr differ ↦ others link secure computer key s differ ∙ fell
    ]

moves : (link : LinkSeal) (computer : List ℕ) (kept : KeptSeal) (end : NlState) (s : ChannelSeals) → lookup same_name computer s.kept ≡ Some kept →
    stands link (with_end computer kept end s) ≡ stands link s
moves link computer kept end s found =
    elim (cases_Bool (same_name computer link.computer)) [
      | inl same ↦
          of_found link.opening _ _ (put_alike computer link.computer (record kept { seal = end }) (take_out same_name computer s.kept) same)
          ∙ sym (of_found link.opening _ (Some kept) (found_alike link.computer computer s.kept (alike computer link.computer same) ∙ found))
      | inr differ ↦
          of_found link.opening _ _ (put_others same_name computer link.computer (record kept { seal = end }) (take_out same_name computer s.kept) IsSameness-same_name differ
          ∙ taken_others same_name computer link.computer s.kept IsSameness-same_name differ)
    ]

maps : (secure : Bool) (computer key : List ℕ) (s : ChannelSeals) → IsMap same_name s.kept → IsMap same_name (after_opening secure computer key s).kept
maps false computer key s map = IsMap-take_out same_name computer s.kept map
maps true computer key s map = IsMap-put same_name computer _ s.kept IsSameness-same_name map

pub replaced_stay : ReplacedStay
replaced_stay = record { opens = opens; replaces = replaces; others = others; moves = moves; map = maps }
