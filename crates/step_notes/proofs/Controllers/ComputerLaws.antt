-- The computers that a controller keeps, by name, through one call.
-- It serves `calls_change_what_is_kept`.
use Rattle.std.proofs.Common.{◌≡◌, ◌⊎◌, inl, inr, Bool, true, false, refl, sym, ℕ, List, [], ◌∷◌, Option, Some, if◌then◌else◌, ap, ◌∙◌}
use Rattle.std.proofs.lemmas.Bool.{cases_Bool}
use Rattle.wire_base.specs.Maps.{lookup, put, take_out}
use Rattle.wire_base.specs.Names.{same_name}
use Rattle.wire_base.specs.declared.authenticator.Authenticator.{Authenticator}
use Rattle.wire_base.proofs.MapLaws.{lookup-put_same, put_others, taken_others}
use Rattle.wire_base.proofs.NameLaws.{IsSameness-same_name}
use Rattle.authenticators.specs.SecureChannels.{SecureChannelState, channel_by, passes_on}
use Rattle.controller_calls.specs.Desk.{Desk}
use Rattle.controller_calls.specs.declared.calls.JudgedCall.{JudgedCall}
use Rattle.controller_calls.specs.declared.line.Line.{Line}
use Rattle.controller_calls.specs.declared.state.Computers.{Computers}
use Rattle.controller_calls.proofs.DoneLaws.{channels_left}
use Rattle.controller_calls.proofs.OutcomeLaws.{JudgedComes, Passes, Refused}

-- ---- tests

-- two tests, each of which passes where the other does
pub same_tests : (one other : Bool) → (one ≡ true → other ≡ true) → (other ≡ true → one ≡ true) → one ≡ other
same_tests true other there back = sym (there refl)
same_tests false true there back = back refl
same_tests false false there back = refl

-- ---- one computer

-- a name is looked up whatever its case
pub lookup_named : {V : Type 0} (one other : List ℕ) (entries : List (List ℕ × V)) → same_name one other ≡ true → lookup same_name other entries ≡ lookup same_name one entries
lookup_named one other [] same = refl
lookup_named one other (entry ∷ entries) same =
    let key : same_name other entry.0 ≡ same_name one entry.0 =
    same_tests (same_name other entry.0) (same_name one entry.0) (λ is. IsSameness-same_name.transitive one other entry.0 same is)
    (λ is. IsSameness-same_name.transitive other one entry.0 (IsSameness-same_name.symmetric one other same) is) in
    ap (λ (hit : Bool). if hit then Some entry.1 else lookup same_name other entries) key
    ∙ ap (λ found. if same_name one entry.0 then Some entry.1 else found) (lookup_named one other entries same)

-- ---- a call on a channel

-- what is found of a name after its entry was taken out and put back, moved on
found_back : (key name : List ℕ) (old new : SecureChannelState) (entries : List (List ℕ × SecureChannelState)) → lookup same_name key entries ≡ Some old →
    (lookup same_name name (put same_name key new (take_out same_name key entries)) ≡ lookup same_name name entries)
    ⊎ ((lookup same_name name entries ≡ Some old) × (lookup same_name name (put same_name key new (take_out same_name key entries)) ≡ Some new))
found_back key name old new entries there =
    elim (cases_Bool (same_name key name)) [
      | inl same ↦ inr (
        lookup_named key name entries same ∙ there,
        lookup_named key name (put same_name key new (take_out same_name key entries)) same
            ∙ lookup-put_same same_name key new (take_out same_name key entries) (IsSameness-same_name.reflexive key),
      )
      | inr differs ↦ inl (
          put_others same_name key name new (take_out same_name key entries) IsSameness-same_name differs
          ∙ taken_others same_name key name entries IsSameness-same_name differs
          )
    ]

-- the channel has that name, and its seed may have moved on
pub record MovesOn (name : List ℕ) (before after : Computers) : Type 0 where
  pub channel : SecureChannelState
  pub given : Authenticator
  pub passes : Bool
  pub was : lookup same_name name before.channels ≡ Some channel
  pub now : lookup same_name name after.channels ≡ Some (channel_by passes channel given)

module _ (c : JudgedCall) (name : List ℕ) (now : ℕ) (line : Line) (d after : Desk) where
  -- the channel of a name is as it was, or that one
  pub judged_finds : (other : List ℕ) → JudgedComes c name now line d after →
      (lookup same_name other after.work.computers.channels ≡ lookup same_name other d.work.computers.channels) ⊎ MovesOn other d.work.computers after.work.computers
  judged_finds other (Refused how away) = inl (channels_left c d.work.computers how after.work.computers.channels other away.why)
  judged_finds other (Passes next is) =
      let find : List (List ℕ × SecureChannelState) → Option SecureChannelState = λ channels. lookup same_name other channels in
      let passes : Bool = passes_on next.channel next.given in
      elim (found_back next.computer other next.channel (channel_by passes next.channel next.given) d.work.computers.channels next.stands) [
        | inl same ↦ inl (ap find is.channels ∙ same)
        | inr moved ↦
            inr (record { channel = next.channel; given = next.given; passes = passes; was = moved.0; now = ap find is.channels ∙ moved.1 })
      ]

  -- the challenges that wait stay
  pub judged_pending : JudgedComes c name now line d after → after.work.computers.pending ≡ d.work.computers.pending
  judged_pending (Passes next is) = is.pending
  judged_pending (Refused how away) = away.pending
