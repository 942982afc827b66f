-- The seed of each channel that a controller keeps: the credential of its client's challenge, moved by the timestamps
-- that passed on it. It serves `Proved.grants`, `Proved.replays`, `Proved.replies` and 3 more.
use Rattle.std.proofs.Common.{◌≡◌, ◌≢◌, ℕ, ◌+◌, Bool, true, false, List, [], ◌∷◌, Option, Some, None, refl, sym, ap, subst, ◌∙◌, inl, inr, arith}
use Rattle.std.specs.List.{AllByRecursion}
use Rattle.std.proofs.lemmas.Bool.{cases_Bool}
use Rattle.std.proofs.lemmas.Slice.Eq.{bytes_eq-Decides}
use Rattle.wire_base.specs.declared.authenticator.Authenticator.{Authenticator}
use Rattle.wire_base.specs.Maps.{IsMap, lookup, put, take_out}
use Rattle.wire_base.specs.Names.{SameName, same_name}
use Rattle.wire_base.proofs.MapLaws.{IsMap-put, IsMap-take_out, lookup-put_same, lookup-take_out_same, put_others, taken_others}
use Rattle.wire_base.proofs.NameLaws.{IsSameness-same_name, same_name-Decides}
use Rattle.wire_base.proofs.ListLaws.{some_is}
use Rattle.channel_keys.specs.Credentials.{cred_of}
use Rattle.channel_keys.proofs.CredLaws.{IsBlock-cred_of}
use Rattle.authenticators.specs.Channels.{ChannelIdentity}
use Rattle.authenticators.specs.Sequences.{add_to}
use Rattle.authenticators.specs.SecureChannels.{SecureChannelState, channel_by, key_of_channel, passes_on, channel_of}
use Rattle.authenticators.proofs.SeedLaws.{add_to-add_to, add_to-zero}
use Rattle.outside.specs.declared.action.Judged.{Judged}
use Rattle.logon_stubs.specs.declared.calls.AuthCall.{AuthCall}
use Rattle.account_table.specs.AccountTable.{AccountTable}
use Rattle.account_table.specs.declared.account.Account.{Account}
use Rattle.channel_events.proofs.SameLaws.{itself}
use Rattle.domain_controller.specs.Forwarding.{TrustDesk, base_desk}
use Rattle.domain_controller.specs.Laws.{IsNext, KeepsComputer}
use Rattle.domain_controller.specs.Machine.{Desk, account_for, answer_authenticate, answer_judged, channel_for, open_channel, put_channel, put_pair_if, take_pair}
use Rattle.controller_calls.specs.declared.line.Line.{Line}
use Rattle.controller_calls.specs.declared.state.Computers.{Computers}
use Rattle.controller_calls.specs.declared.state.ChallengePair.{ChallengePair}
use Rattle.controller_calls.specs.declared.state.Work.{Work}
use Rattle.step_notes.specs.ControllerNotes.{Where, channel_in, checked_on, has_passed}
use Rattle.step_notes.specs.ControllerNotes as notes
use Rattle.step_notes.specs.Judged.{channel_if, passed_channel}
use Rattle.step_notes.specs.Marking.{is_channel}
use Rattle.step_notes.specs.Records.{Judging, computer_named, given_in, timestamp_in}
use Rattle.controller_calls.specs.declared.calls.JudgedCall.{JudgedCall}
use Rattle.controller_calls.proofs.OutcomeLaws.{opening_comes}
use Rattle.domain_world.proofs.Judgements.ChainLaws.{its_judging, done_or_refused}
use Rattle.domain_world.proofs.Judgements.JudgedLaws.{trusted_judging}
use Rattle.domain_world.specs.Claims.{moved_if, moved_on, passed_on, judged_timestamp}
use Rattle.step_notes.proofs.Controllers.ComputerLaws.{lookup_named}
use Rattle.step_notes.proofs.Controllers.TrustedStepLaws.{IsTrusted, trusted_how}
use Rattle.domain_world.proofs.Judgements.MovedLaws.{IsFound, moved_past, moved_same, not_passed, passed_in}

-- ---- what is known

-- the seed at which a channel opens
abbrev pub first_seed : SecureChannelState → List ℕ
first_seed c = cred_of (key_of_channel c) c.client

-- the seed is that one, moved by what passed on the channel of that controller and computer
abbrev pub IsMoved : List Judging → ℕ → List ℕ → SecureChannelState → Type 0
IsMoved judgings controller name c = c.seed ≡ add_to (first_seed c) (moved_on (channel_of controller name c) judgings)

-- the challenge is none of those that are left
abbrev pub IsSpent : List ℕ → List (List ℕ) → Type 0
IsSpent challenge left = AllByRecursion (λ (one : List ℕ). one ≢ challenge) left

-- a channel of the controller and the computer
abbrev pub channel_from : ℕ → List ℕ → List ℕ → List ℕ → List ℕ → ℕ → ChannelIdentity
channel_from controller name secret client server flags =
    record { controller = controller; computer = name; secret = secret; client = client; server = server; flags = flags }

-- nothing passed on a channel of the controller and the computer with that server challenge
abbrev pub IsUnheard : List Judging → ℕ → List ℕ → List ℕ → Type 0
IsUnheard judgings controller name server =
    (secret client : List ℕ) (flags : ℕ) → moved_on (channel_from controller name secret client server flags) judgings ≡ 0

-- Of a computer: its channel's seed moved so; nothing passed on a channel that its challenges that wait may open; and
-- their server challenges are two, neither of which is left.
pub record IsKept (judgings : List Judging) (left : List (List ℕ)) (controller : ℕ) (name : List ℕ) (computers : Computers) : Type 0 where
  pub channels : (c : SecureChannelState) → lookup same_name name computers.channels ≡ Some c → IsMoved judgings controller name c × IsSpent c.server left
  pub pairs : (pair : ChallengePair) → lookup same_name name computers.pending ≡ Some pair → IsUnheard judgings controller name pair.server × IsSpent pair.server left
  pub differ : (c : SecureChannelState) (pair : ChallengePair) → lookup same_name name computers.channels ≡ Some c → lookup same_name name computers.pending ≡ Some pair → c.server ≢ pair.server

-- of all computers of a controller
pub record AreKept (judgings : List Judging) (left : List (List ℕ)) (controller : ℕ) (computers : Computers) : Type 0 where
  pub map : IsMap same_name computers.pending
  pub each : (name : List ℕ) → IsKept judgings left controller name computers

-- before a call was judged the seed of the channel that it is checked on had moved so
abbrev pub IsMovedIn : List Judging → ℕ → Option (List ℕ) → Option SecureChannelState → Type 0
IsMovedIn judgings controller None checks = Unit {0}
IsMovedIn judgings controller (Some name) checks = (c : SecureChannelState) → checks ≡ Some c → IsMoved judgings controller name c

abbrev pub AreMoved : List Judging → Type 0
AreMoved [] = Unit {0}
AreMoved (j ∷ judgings) = IsMovedIn judgings j.controller (computer_named j.asked) j.checks × AreMoved judgings

-- nothing passed on a channel with a challenge that is left
abbrev pub AreUnheard : List Judging → List (List ℕ) → Type 0
AreUnheard judgings left = AllByRecursion (λ (one : List ℕ). (channel : ChannelIdentity) → channel.server ≡ one → moved_on channel judgings ≡ 0) left

-- no two of them are alike
abbrev pub AreApart : List (List ℕ) → Type 0
AreApart [] = Unit {0}
AreApart (challenge ∷ left) = IsSpent challenge left × AreApart left

-- of the calls that were judged and the challenges that are left
pub record IsInOrder (judgings : List Judging) (left : List (List ℕ)) : Type 0 where
  pub moved : AreMoved judgings
  pub unheard : AreUnheard judgings left
  pub apart : AreApart left

-- ---- one computer

pub keeps_all : (name : List ℕ) (computers : Computers) → KeepsComputer name computers computers
keeps_all name computers = record { pair = refl; channel = refl }

-- the channel and the challenges of a computer are those of before, and so is how far seeds moved
pub kept_on : (judgings now : List Judging) (left rest : List (List ℕ)) (controller : ℕ) (name : List ℕ) (old new : Computers) → KeepsComputer name old new →
    ((secret client server : List ℕ) (flags : ℕ) → moved_on (channel_from controller name secret client server flags) now ≡ moved_on (channel_from controller name secret client server flags) judgings) →
    ((challenge : List ℕ) → IsSpent challenge left → IsSpent challenge rest) → IsKept judgings left controller name old → IsKept now rest controller name new
kept_on judgings now left rest controller name old new keeps moved fewer kept = record {
  channels = λ c there.
      let was = kept.channels c (sym keeps.channel ∙ there) in
      (was.0 ∙ ap (λ (n : ℕ). add_to (first_seed c) n) (sym (moved c.secret c.client c.server c.flags)), fewer c.server was.1);
  pairs = λ pair there.
      let was = kept.pairs pair (sym keeps.pair ∙ there) in
      (λ secret client flags. moved secret client pair.server flags ∙ was.0 secret client flags, fewer pair.server was.1);
  differ = λ c pair there waits. kept.differ c pair (sym keeps.channel ∙ there) (sym keeps.pair ∙ waits);
}

moved_named : (judgings : List Judging) (controller : ℕ) (one other secret client server : List ℕ) (flags : ℕ) → same_name one other ≡ true →
    moved_on (channel_from controller one secret client server flags) judgings ≡ moved_on (channel_from controller other secret client server flags) judgings
moved_named judgings controller one other secret client server flags same =
    moved_same (channel_from controller one secret client server flags) (channel_from controller other secret client server flags)
    (record { controller = refl; computer = (same_name-Decides one other).0 same; secret = refl; client = refl; server = refl; flags = refl }) judgings

-- what is known of a computer is known of it by its name in another case
kept_named : (judgings : List Judging) (left : List (List ℕ)) (controller : ℕ) (one other : List ℕ) (computers : Computers) → same_name one other ≡ true →
    IsKept judgings left controller one computers → IsKept judgings left controller other computers
kept_named judgings left controller one other computers same kept = record {
  channels = λ c there.
      let was = kept.channels c (sym (lookup_named one other computers.channels same) ∙ there) in
      (was.0 ∙ ap (λ (n : ℕ). add_to (first_seed c) n) (moved_named judgings controller one other c.secret c.client c.server c.flags same), was.1);
  pairs = λ pair there.
      let was = kept.pairs pair (sym (lookup_named one other computers.pending same) ∙ there) in
      (λ secret client flags. sym (moved_named judgings controller one other secret client pair.server flags same) ∙ was.0 secret client flags, was.1);
  differ = λ c pair there waits.
      kept.differ c pair (sym (lookup_named one other computers.channels same) ∙ there) (sym (lookup_named one other computers.pending same) ∙ waits);
}

-- a step that concerns one computer
by_name : (judgings : List Judging) (left : List (List ℕ)) (controller : ℕ) (one : List ℕ) (computers : Computers) → IsKept judgings left controller one computers →
    ((other : List ℕ) → same_name one other ≡ false → IsKept judgings left controller other computers) → (name : List ℕ) → IsKept judgings left controller name computers
by_name judgings left controller one computers here others name =
    elim (cases_Bool (same_name one name)) [
      | inl same ↦ kept_named judgings left controller one name computers same here
      | inr not_same ↦ others name not_same
    ]

-- ---- a challenge is drawn

fewer_left : (challenge server : List ℕ) (left : List (List ℕ)) → IsSpent challenge (server ∷ left) → IsSpent challenge left
fewer_left challenge server left spent = spent.1

pub drawn_order : (judgings : List Judging) (server : List ℕ) (left : List (List ℕ)) → IsInOrder judgings (server ∷ left) → IsInOrder judgings left
drawn_order judgings server left order = record { moved = order.moved; unheard = order.unheard.1; apart = order.apart.1 }

pub pair_kept : (knows : Bool) (judgings : List Judging) (server : List ℕ) (left : List (List ℕ)) (controller : ℕ) (name client : List ℕ) (work : Work) →
    IsInOrder judgings (server ∷ left) → AreKept judgings (server ∷ left) controller work.computers →
    AreKept judgings left controller (put_pair_if knows name (record { client = client; server = server }) work).computers
pair_kept false judgings server left controller name client work order kept = record {
  map = kept.map;
  each = λ other.
      kept_on judgings judgings (server ∷ left) left controller other work.computers work.computers (keeps_all other work.computers) (λ secret client server flags. refl)
      (λ challenge spent. fewer_left challenge server left spent) (kept.each other);
}
pair_kept true judgings server left controller name client work order kept =
    let pair : ChallengePair = record { client = client; server = server } in
    let there : lookup same_name name (put same_name name pair work.computers.pending) ≡ Some pair =
    lookup-put_same same_name name pair work.computers.pending (IsSameness-same_name.reflexive name) in
    let is : (other : ChallengePair) → lookup same_name name (put same_name name pair work.computers.pending) ≡ Some other → pair ≡ other = λ other waits. some_is pair other (sym there ∙ waits) in
    let new : Computers = (put_pair_if true name pair work).computers in
    let here : IsKept judgings left controller name new = record {
      channels = λ c stands. let was = (kept.each name).channels c stands in (was.0, was.1.1);
      pairs = λ other waits.
          subst (λ (p : ChallengePair). IsUnheard judgings controller name p.server × IsSpent p.server left) (is other waits)
          (λ secret client flags. order.unheard.0 (channel_from controller name secret client server flags) refl, order.apart.0);
      differ = λ c other stands waits same. ((kept.each name).channels c stands).1.0 (ap ChallengePair.server (is other waits) ∙ sym same);
    } in
    record {
      map = IsMap-put same_name name pair work.computers.pending IsSameness-same_name kept.map;
      each = by_name judgings left controller name new here (λ other apart.
          kept_on judgings judgings (server ∷ left) left controller other work.computers new
          (record { pair = put_others same_name name other pair work.computers.pending IsSameness-same_name apart; channel = refl }) (λ secret client server flags. refl)
          (λ challenge spent. fewer_left challenge server left spent) (kept.each other));
    }

-- ---- challenges are taken, and may open a channel

module _ (judgings : List Judging) (left : List (List ℕ)) (controller : ℕ) where
  none_waits : (name : List ℕ) (computers : Computers) → IsMap same_name computers.pending → (pair : ChallengePair) → lookup same_name name (take_out same_name name computers.pending) ≡ Some pair → ⊥
  none_waits name computers map pair waits =
      absurd (let none : None ≡ Some pair = sym (lookup-take_out_same same_name name computers.pending IsSameness-same_name map) ∙ waits in cc)

  -- a refusal leaves the channel
  taken_kept : (name : List ℕ) (work : Work) → AreKept judgings left controller work.computers → AreKept judgings left controller (take_pair name work).computers
  taken_kept name work kept =
      let new : Computers = (take_pair name work).computers in
      let here : IsKept judgings left controller name new = record {
        channels = λ c stands. (kept.each name).channels c stands;
        pairs = λ pair waits. absurd (none_waits name work.computers kept.map pair waits);
        differ = λ c pair stands waits. absurd (none_waits name work.computers kept.map pair waits);
      } in
      record {
        map = IsMap-take_out same_name name work.computers.pending kept.map;
        each = by_name judgings left controller name new here (λ other apart.
            kept_on judgings judgings left left controller other work.computers new
            (record { pair = taken_others same_name name other work.computers.pending IsSameness-same_name apart; channel = refl }) (λ secret client server flags. refl)
            (λ challenge spent. spent) (kept.each other));
      }

  opened_kept : (pair : ChallengePair) (account : Account) (line : Line) (c : AuthCall) (work : Work) → lookup same_name c.computer work.computers.pending ≡ Some pair →
      AreKept judgings left controller work.computers →
      AreKept judgings left controller (open_channel true (channel_for account pair c) line c (take_pair c.computer work)).computers
  opened_kept pair account line c work waits kept =
      let opened : SecureChannelState = channel_for account pair c in
      let name : List ℕ = c.computer in
      let taken : Work = take_pair name work in
      let new : Computers = (put_channel name opened taken).computers in
      let was : AreKept judgings left controller taken.computers = taken_kept name work kept in
      let fresh = (kept.each name).pairs pair waits in
      let there : lookup same_name name new.channels ≡ Some opened = lookup-put_same same_name name opened taken.computers.channels (IsSameness-same_name.reflexive name) in
      let moved : IsMoved judgings controller name opened =
      sym (add_to-zero (first_seed opened) (IsBlock-cred_of (key_of_channel opened) opened.client))
      ∙ ap (λ (n : ℕ). add_to (first_seed opened) n) (sym (fresh.0 opened.secret opened.client opened.flags)) in
      let here : IsKept judgings left controller name new = record {
        channels = λ other stands.
            subst (λ (x : SecureChannelState). IsMoved judgings controller name x × IsSpent x.server left) (some_is opened other (sym there ∙ stands)) (moved, fresh.1);
        pairs = λ other waits. absurd (none_waits name work.computers kept.map other waits);
        differ = λ c other stands waits. absurd (none_waits name work.computers kept.map other waits);
      } in
      record {
        map = was.map;
        each = by_name judgings left controller name new here (λ other apart.
            kept_on judgings judgings left left controller other taken.computers new
            (record { pair = refl; channel = put_others same_name name other opened taken.computers.channels IsSameness-same_name apart }) (λ secret client server flags. refl)
            (λ challenge spent. spent) (was.each other));
      }

  pub authenticate_kept : (table : AccountTable) (line : Line) (c : AuthCall) (work : Work) → AreKept judgings left controller work.computers →
      AreKept judgings left controller (answer_authenticate table line c work).computers
  authenticate_kept table line c work kept =
      opening_comes (λ (later : Work). AreKept judgings left controller later.computers) (account_for table c) (lookup same_name c.computer work.computers.pending) line c
      (take_pair c.computer work) (record {
        denied = λ status fails none. taken_kept c.computer work kept;
        accepted = λ opens. opened_kept opens.pair opens.account line c work opens.is_pair kept;
      })

-- ---- a Logon call is judged

-- by what the controller kept of computers, of which the call is checked on the channel of the one that it names
module _ (judgings : List Judging) (left : List (List ℕ)) (j : Judging) (computers : Computers) (checks : j.checks ≡ checked_on (computer_named j.asked) computers)
    (kept : AreKept judgings left j.controller computers) where
  -- the channel on which it passed is kept
  kept_of : (channel : ChannelIdentity) (found : IsFound j.controller (computer_named j.asked) j.checks channel) → lookup same_name found.name computers.channels ≡ Some found.state
  kept_of channel found = sym (ap (λ (name : Option (List ℕ)). checked_on name computers) found.named) ∙ sym checks ∙ found.stands

  spent_on : (channel : ChannelIdentity) → passed_channel j ≡ Some channel → IsSpent channel.server left
  spent_on channel passed =
      let found : IsFound j.controller (computer_named j.asked) j.checks channel = passed_in j channel passed in
      subst (λ (c : ChannelIdentity). IsSpent c.server left) found.is ((kept.each found.name).channels found.state (kept_of channel found)).1

  still_unheard : (some : List (List ℕ)) → ((channel : ChannelIdentity) → passed_channel j ≡ Some channel → IsSpent channel.server some) → AreUnheard judgings some → AreUnheard (j ∷ judgings) some
  still_unheard [] spent unheard = tt
  still_unheard (one ∷ some) spent unheard = (
    λ channel is.
        moved_past channel j judgings (λ other passed same. (spent other passed).0 (sym is ∙ sym same.server)) ∙ unheard.0 channel is,
    still_unheard some (λ channel passed. (spent channel passed).1) unheard.1,
  )

  moved_before : (computer : Option (List ℕ)) → IsMovedIn judgings j.controller computer (checked_on computer computers)
  moved_before None = tt
  moved_before (Some name) = λ c stands. ((kept.each name).channels c stands).0

  pub judged_order : IsInOrder judgings left → IsInOrder (j ∷ judgings) left
  judged_order order = record {
    moved = (
      subst (λ (found : Option SecureChannelState). IsMovedIn judgings j.controller (computer_named j.asked) found) (sym checks) (moved_before (computer_named j.asked)),
      order.moved,
    );
    unheard = still_unheard left (λ channel passed. spent_on channel passed) order.unheard;
    apart = order.apart;
  }

  -- the seeds of other controllers' channels, and of other computers', don't move
  pub others_unmoved : (channel : ChannelIdentity) → (channel.controller ≡ j.controller → ⊥) → moved_on channel (j ∷ judgings) ≡ moved_on channel judgings
  others_unmoved channel apart =
      moved_past channel j judgings (λ other passed same. apart (sym same.controller ∙ sym (ap ChannelIdentity.controller (passed_in j other passed).is)))

  unnamed_unmoved : (name : List ℕ) (channel : ChannelIdentity) → computer_named j.asked ≡ Some name → same_name name channel.computer ≡ false → moved_on channel (j ∷ judgings) ≡ moved_on channel judgings
  unnamed_unmoved name channel named apart =
      moved_past channel j judgings (λ other passed same.
      let found = passed_in j other passed in
      let here : found.name ≡ name = some_is found.name name (sym found.named ∙ named) in
      let computer : other.computer ≡ name = sym (ap ChannelIdentity.computer found.is) ∙ here in
      let so : same_name name channel.computer ≡ true =
      (same_name-Decides name channel.computer).1 (subst (λ (n : List ℕ). SameName n channel.computer) computer same.computer) in
      absurd cc)

  -- challenges that wait open no channel on which the call passed
  pair_unheard : (name : List ℕ) (pair : ChallengePair) → lookup same_name name computers.pending ≡ Some pair → IsUnheard (j ∷ judgings) j.controller name pair.server
  pair_unheard name pair waits secret client flags =
      moved_past (channel_from j.controller name secret client pair.server flags) j judgings (λ other passed same.
      let found : IsFound j.controller (computer_named j.asked) j.checks other = passed_in j other passed in
      let one : same_name found.name name ≡ true =
      (same_name-Decides found.name name).1 (subst (λ (c : ChannelIdentity). SameName c.computer name) (sym found.is) same.computer) in
      (kept.each name).differ found.state pair (lookup_named found.name name computers.channels one ∙ kept_of other found) waits (ap ChannelIdentity.server found.is ∙ same.server))
      ∙ ((kept.each name).pairs pair waits).0 secret client flags

  -- a call that passed on no channel
  none_moved : ((channel : ChannelIdentity) → passed_channel j ≡ Some channel → ⊥) → (new : Computers) → new.pending ≡ computers.pending →
      ((name : List ℕ) → lookup same_name name new.channels ≡ lookup same_name name computers.channels) → AreKept (j ∷ judgings) left j.controller new
  none_moved none new pending channels = record {
    map = subst (λ entries. IsMap same_name entries) (sym pending) kept.map;
    each = λ name.
        kept_on judgings (j ∷ judgings) left left j.controller name computers new
        (record { pair = ap (λ entries. lookup same_name name entries) pending; channel = channels name })
        (λ secret client server flags. moved_past (channel_from j.controller name secret client server flags) j judgings (λ other passed same. none other passed))
        (λ challenge spent. spent) (kept.each name);
  }

  passed_here : (name : List ℕ) (c : SecureChannelState) → has_passed j.how ≡ true → computer_named j.asked ≡ Some name → lookup same_name name computers.channels ≡ Some c →
      passed_on (channel_of j.controller name c) j ≡ true
  passed_here name c passed named stands =
      ap (λ (found : Option ChannelIdentity). is_channel found (channel_of j.controller name c))
      (ap (λ (b : Bool). channel_if b j) passed ∙ ap (λ (o : Option (List ℕ)). channel_in j.controller o j.checks) named
      ∙ ap (λ (found : Option SecureChannelState). notes.identity_by j.controller name found)
      (checks ∙ ap (λ (o : Option (List ℕ)). checked_on o computers) named ∙ stands))
      ∙ itself (channel_of j.controller name c)

  -- the seed of a call's channel moves where the call passes
  seed_moved : (passes : Bool) (name : List ℕ) (given : Authenticator) (c : SecureChannelState) → has_passed j.how ≡ passes → computer_named j.asked ≡ Some name → given_in j.asked ≡ Some given →
      lookup same_name name computers.channels ≡ Some c → IsMoved (j ∷ judgings) j.controller name (channel_by passes c given)
  seed_moved false name given c passed named there stands =
      ((kept.each name).channels c stands).0
      ∙ ap (λ (n : ℕ). add_to (first_seed c) n)
      (sym (moved_past (channel_of j.controller name c) j judgings (λ other found same. not_passed (has_passed j.how) j other passed found)))
  seed_moved true name given c passed named there stands =
      let before : ℕ = moved_on (channel_of j.controller name c) judgings in
      let moved : moved_on (channel_of j.controller name c) (j ∷ judgings) ≡ given.timestamp + 1 + before =
      ap (λ (b : Bool). moved_if b (judged_timestamp j) before) (passed_here name c passed named stands)
      ∙ ap (λ (o : Option Authenticator). timestamp_in o + 1 + before) there in
      let sum : before + (given.timestamp + 1) ≡ given.timestamp + 1 + before = omega arith in
      ap (λ (seed : List ℕ). add_to seed (given.timestamp + 1)) ((kept.each name).channels c stands).0
      ∙ add_to-add_to (first_seed c) before (given.timestamp + 1)
      ∙ ap (λ (n : ℕ). add_to (first_seed c) n) (sum ∙ sym moved)

  server_stays : (passes : Bool) (c : SecureChannelState) (given : Authenticator) → c.server ≡ (channel_by passes c given).server
  server_stays false c given = refl
  server_stays true c given = refl

  -- the channel is put back so
  moved_kept : (passes : Bool) (name : List ℕ) (given : Authenticator) (c : SecureChannelState) (new : Computers) → has_passed j.how ≡ passes → computer_named j.asked ≡ Some name →
      given_in j.asked ≡ Some given → lookup same_name name computers.channels ≡ Some c → new.pending ≡ computers.pending →
      new.channels ≡ put same_name name (channel_by passes c given) (take_out same_name name computers.channels) → AreKept (j ∷ judgings) left j.controller new
  moved_kept passes name given c new passed named there stands pending channels =
      let moved : SecureChannelState = channel_by passes c given in
      let taken = take_out same_name name computers.channels in
      let now : lookup same_name name new.channels ≡ Some moved =
      ap (λ entries. lookup same_name name entries) channels ∙ lookup-put_same same_name name moved taken (IsSameness-same_name.reflexive name) in
      let was : (pair : ChallengePair) → lookup same_name name new.pending ≡ Some pair → lookup same_name name computers.pending ≡ Some pair =
      λ pair waits. sym (ap (λ entries. lookup same_name name entries) pending) ∙ waits in
      let spent : IsSpent moved.server left = subst (λ (x : List ℕ). IsSpent x left) (server_stays passes c given) ((kept.each name).channels c stands).1 in
      let here : IsKept (j ∷ judgings) left j.controller name new = record {
        channels = λ other stands_now.
            subst (λ (x : SecureChannelState). IsMoved (j ∷ judgings) j.controller name x × IsSpent x.server left) (some_is moved other (sym now ∙ stands_now))
            (seed_moved passes name given c passed named there stands, spent);
        pairs = λ pair waits. (pair_unheard name pair (was pair waits), ((kept.each name).pairs pair (was pair waits)).1);
        differ = λ other pair stands_now waits same.
            (kept.each name).differ c pair stands (was pair waits)
            (server_stays passes c given ∙ ap SecureChannelState.server (some_is moved other (sym now ∙ stands_now)) ∙ same);
      } in
      record {
        map = subst (λ entries. IsMap same_name entries) (sym pending) kept.map;
        each = by_name (j ∷ judgings) left j.controller name new here (λ other apart.
            kept_on judgings (j ∷ judgings) left left j.controller other computers new (record {
              pair = ap (λ entries. lookup same_name other entries) pending;
              channel = ap (λ entries. lookup same_name other entries) channels
                  ∙ put_others same_name name other moved taken IsSameness-same_name apart
                  ∙ taken_others same_name name other computers.channels IsSameness-same_name apart;
            })
            (λ secret client server flags. unnamed_unmoved name (channel_from j.controller other secret client server flags) named apart)
            (λ challenge spent. spent) (kept.each other));
      }

-- the call as it is judged
abbrev pub judged_as : Option Judged → Option ℕ → Where → Line → JudgedCall → Desk → Judging
judged_as how number w line c d = record {
  at = w.at;
  controller = w.controller;
  name = w.name;
  source = w.source;
  number = line.call;
  asked = c;
  checks = checked_on (computer_named c) d.work.computers;
  table = d.table;
  sessions = d.work.computers.sessions;
  moment = w.moment;
  how = how;
  reply = number;
}

pub logon_kept : (judgings : List Judging) (left : List (List ℕ)) (number : Option ℕ) (w : Where) (line : Line) (c : JudgedCall) (d : Desk) → AreKept judgings left w.controller d.work.computers →
    AreKept (judged_as (its_judging w line c d).how number w line c d ∷ judgings) left w.controller (answer_judged c w.name w.moment line d).work.computers
logon_kept judgings left number w line c d kept =
    let after : Desk = answer_judged c w.name w.moment line d in
    let j : Judging = judged_as (its_judging w line c d).how number w line c d in
    elim (done_or_refused w line c d) [
      | inl done ↦
          let next : IsNext d.work.computers (computer_named c) (given_in c) = done.0 in
          let passes : Bool = passes_on next.channel next.given in
          moved_kept judgings left j d.work.computers refl kept passes next.computer next.given next.channel after.work.computers
          (done.1 ∙ sym ((bytes_eq-Decides _ _).1 next.passes)) next.named next.there next.stands done.2.pending done.2.channels
      | inr refused ↦
          none_moved judgings left j d.work.computers refl kept (λ channel passed. not_passed (has_passed j.how) j channel refused.0 passed) after.work.computers refused.1.pending
          refused.1.channels
    ]

-- a logon for a trust passed, and its channel has moved on
pub trusted_kept : (judgings : List Judging) (left : List (List ℕ)) (number : Option ℕ) (w : Where) (line : Line) (c : JudgedCall) (d after : TrustDesk) → IsTrusted c d after →
    AreKept judgings left w.controller d.work.work.computers →
    AreKept (judged_as (trusted_judging w line c d after).how number w line c (base_desk d) ∷ judgings) left w.controller after.work.work.computers
trusted_kept judgings left number w line c d after is kept =
    let computers : Computers = d.work.work.computers in
    let j : Judging = judged_as (trusted_judging w line c d after).how number w line c (base_desk d) in
    let next : IsNext computers (computer_named c) (given_in c) = is.goes.next in
    let passed : has_passed j.how ≡ true = ap has_passed (trusted_how c d after is) ∙ is.passed in
    moved_kept judgings left j computers refl kept (passes_on next.channel next.given) next.computer next.given next.channel after.work.work.computers
    (passed ∙ sym ((bytes_eq-Decides _ _).1 next.passes)) next.named next.there next.stands (ap (λ (now : Computers). now.pending) is.computers) (ap (λ (now : Computers). now.channels) is.computers)
