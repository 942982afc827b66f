-- Channels that are kept have types. It serves `kept_channels_have_kinds`.
use Rattle.std.proofs.Common.{◌≡◌, ◌⊎◌, ℕ, Bool, true, false, List, [], ◌∷◌, inl, inr, Some, refl, sym, subst}
use Rattle.std.proofs.lemmas.Bool.{cases_Bool}
use Rattle.std.specs.List.{AllByRecursion}
use Rattle.wire_base.specs.Maps.{has_key, lookup, put, take_out}
use Rattle.wire_base.specs.Names.{same_name}
use Rattle.wire_base.specs.declared.authenticator.Authenticator.{Authenticator}
use Rattle.wire_base.proofs.MapLaws.{lookup-put_same}
use Rattle.wire_base.proofs.NameLaws.{IsSameness-same_name}
use Rattle.authenticators.specs.SecureChannels.{SecureChannelState, channel_by, passes_on}
use Rattle.outside.specs.declared.action.Judged.{Judged}
use Rattle.controller_calls.specs.Asking.{answer_judged}
use Rattle.controller_calls.specs.ChannelKinds.{ChannelsHaveKinds, HasKind, HaveKinds, IsAccepted, IsDenied}
use Rattle.controller_calls.specs.Desk.{Desk, desk, take_pair}
use Rattle.controller_calls.specs.Opening.{account_for, channel_for}
use Rattle.controller_calls.specs.declared.calls.JudgedCall.{JudgedCall}
use Rattle.controller_calls.specs.declared.line.Line.{Line}
use Rattle.controller_calls.specs.declared.state.Computers.{Computers}
use Rattle.controller_calls.proofs.OutcomeLaws.{JudgedComes, Passes, Refused, WhyRefused, Bare, Barred, challenge_comes, judged_comes, opening_comes}

-- ---- what is kept

abbrev Entries : List (List ℕ × SecureChannelState) → Type 0
Entries entries = AllByRecursion (λ (entry : List ℕ × SecureChannelState). HasKind entry.1) entries

pub put_has : (key : List ℕ) (channel : SecureChannelState) (entries : List (List ℕ × SecureChannelState)) → HasKind channel → Entries entries →
    Entries (put same_name key channel entries)
put_has key channel [] has all = (has, tt)
put_has key channel (entry ∷ entries) has all =
    elim (cases_Bool (has_key same_name key entry)) [
      | inl is ↦ rw is (has, all.1)
      | inr not ↦ rw not (all.0, put_has key channel entries has all.1)
    ]

taken_has : (key : List ℕ) (entries : List (List ℕ × SecureChannelState)) → Entries entries → Entries (take_out same_name key entries)
taken_has key [] all = tt
taken_has key (entry ∷ entries) all =
    elim (cases_Bool (has_key same_name key entry)) [
      | inl is ↦ rw is all.1
      | inr not ↦ rw not (all.0, taken_has key entries all.1)
    ]

found_has : (key : List ℕ) (channel : SecureChannelState) (entries : List (List ℕ × SecureChannelState)) → Entries entries → lookup same_name key entries ≡ Some channel →
    HasKind channel
found_has key channel [] all found = absurd cc
found_has key channel (entry ∷ entries) all found =
    elim (cases_Bool (has_key same_name key entry)) [
      | inl is ↦ let same : entry.1 ≡ channel = cc in subst (λ (c : SecureChannelState). HasKind c) same all.0
      | inr not ↦ found_has key channel entries all.1 (let rest : lookup same_name key entries ≡ Some channel = cc in rest)
    ]

moved_has : (passes : Bool) (channel : SecureChannelState) (given : Authenticator) → HasKind channel → HasKind (channel_by passes channel given)
moved_has false channel given has = has
moved_has true channel given has = has

-- where the channels are those, each has its type
same_has : (before later : List (List ℕ × SecureChannelState)) → later ≡ before → Entries before → Entries later
same_has before later same all = subst (λ (entries : List (List ℕ × SecureChannelState)). Entries entries) (sym same) all

-- the channel of a computer has moved on, or was put back
back_has : (computer : List ℕ) (given : Authenticator) (channel : SecureChannelState) (passes : Bool) (entries : List (List ℕ × SecureChannelState)) → Entries entries →
    lookup same_name computer entries ≡ Some channel → Entries (put same_name computer (channel_by passes channel given) (take_out same_name computer entries))
back_has computer given channel passes entries all stands =
    put_has computer (channel_by passes channel given) (take_out same_name computer entries)
    (moved_has passes channel given (found_has computer channel entries all stands)) (taken_has computer entries all)

refused_has : (c : JudgedCall) (computers : Computers) (how : Judged) (channels : List (List ℕ × SecureChannelState)) → HaveKinds computers → WhyRefused c computers how channels → Entries channels
refused_has c computers how channels all (Bare none is same) = same_has computers.channels channels same all
refused_has c computers how channels all (Barred by is back) =
    same_has _ channels back (back_has by.computer by.given by.channel false computers.channels all by.stands)

pub judged_has : (c : JudgedCall) (name : List ℕ) (now : ℕ) (line : Line) (d after : Desk) → HaveKinds d.work.computers → JudgedComes c name now line d after → HaveKinds after.work.computers
judged_has c name now line d after all (Refused how away) = refused_has c d.work.computers how after.work.computers.channels all away.why
judged_has c name now line d after all (Passes next is) =
    same_has _ after.work.computers.channels is.channels
    (back_has next.computer next.given next.channel (passes_on next.channel next.given) d.work.computers.channels all next.stands)

pub channels_have_kinds : ChannelsHaveKinds
channels_have_kinds = record {
  opening = λ table line c work.
      opening_comes (λ later. IsDenied line c (take_pair c.computer work) later ⊎ IsAccepted line c (take_pair c.computer work) later)
      (account_for table c) (lookup same_name c.computer work.computers.pending) line c (take_pair c.computer work) (record {
        denied = λ status fails none. inl (record { status = status; fails = fails; denies = refl });
        accepted = λ opens. inr (record {
          channel = channel_for opens.account opens.pair c;
          opens = refl;
          stands = lookup-put_same same_name c.computer _ work.computers.channels (IsSameness-same_name.reflexive c.computer);
          kind = refl;
        });
      });
  challenge = λ table line c server work all.
      challenge_comes (λ later. HaveKinds later.work.computers) line c server (desk table work) (record { unknown = λ none. all; known = λ is. all });
  authenticate = λ table line c work all.
      opening_comes (λ later. HaveKinds later.computers) (account_for table c) (lookup same_name c.computer work.computers.pending) line c (take_pair c.computer work) (record {
        denied = λ status fails none. all;
        accepted = λ opens. put_has c.computer (channel_for opens.account opens.pair c) work.computers.channels (c.channel, refl) all;
      });
  judged = λ c name now line d all. judged_has c name now line d (answer_judged c name now line d) all (judged_comes c name now line d);
}
