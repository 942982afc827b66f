-- How each call changes what a controller keeps of computers.
-- It serves `calls_change_what_is_kept`.
use Rattle.std.proofs.Common.{◌≡◌, ◌⊎◌, ℕ, Bool, true, false, List, inl, inr, Some, None, refl, sym, ap, subst, ◌∙◌}
use Rattle.std.proofs.lemmas.Bool.{cases_Bool}
use Rattle.wire_base.specs.Maps.{IsMap, lookup, put, take_out}
use Rattle.wire_base.specs.Names.{SameName, same_name}
use Rattle.wire_base.specs.declared.authenticator.Authenticator.{Authenticator}
use Rattle.wire_base.proofs.MapLaws.{lookup-put_same, lookup-take_out_same, put_others, taken_others}
use Rattle.wire_base.proofs.NameLaws.{IsSameness-same_name, same_name-Decides}
use Rattle.authenticators.specs.Channels.{ChannelIdentity, SameChannel}
use Rattle.authenticators.specs.SecureChannels.{SecureChannelState, channel_by, channel_of}
use Rattle.logon_stubs.specs.declared.calls.AuthCall.{AuthCall}
use Rattle.account_table.specs.AccountTable.{AccountTable}
use Rattle.account_table.specs.LookUps.{knows_in}
use Rattle.controller_calls.specs.declared.calls.JudgedCall.{JudgedCall}
use Rattle.domain_controller.specs.Machine.{answer_authenticate, answer_judged, Desk, account_for, channel_for, desk, put_pair_if, take_pair}
use Rattle.controller_calls.specs.declared.line.Line.{Line}
use Rattle.controller_calls.specs.declared.state.Computers.{Computers}
use Rattle.controller_calls.specs.declared.state.ChallengePair.{ChallengePair}
use Rattle.controller_calls.specs.declared.state.Work.{Work}
use Rattle.step_notes.specs.ControllerNotes.{identity_by, opened_by}
use Rattle.step_notes.specs.KeptNotes.{CallsAreKept, IsKeptBy, KeepsNoMore, WaitsIfKnown, server_in, waits_in}
use Rattle.wire_base.proofs.ListLaws.{no_some, not_both, some_is}
use Rattle.step_notes.proofs.Controllers.ComputerLaws.{judged_finds, judged_pending, lookup_named}
use Rattle.controller_calls.proofs.OutcomeLaws.{JudgedComes, judged_comes}
use Rattle.step_notes.proofs.Controllers.OpenedLaws.{opening_noted}

-- ---- maps by names

-- what is found of a name after an entry was put: that one where the names are alike, else what was found before
found_put : {V : Type 0} (key name : List ℕ) (value : V) (entries : List (List ℕ × V)) →
    (SameName name key × (lookup same_name name (put same_name key value entries) ≡ Some value)) ⊎ (lookup same_name name (put same_name key value entries) ≡ lookup same_name name entries)
found_put key name value entries =
    elim (cases_Bool (same_name key name)) [
      | inl same ↦ inl (
        (same_name-Decides name key).0 (IsSameness-same_name.symmetric key name same),
        lookup_named key name (put same_name key value entries) same
            ∙ lookup-put_same same_name key value entries (IsSameness-same_name.reflexive key),
      )
      | inr differs ↦ inr (put_others same_name key name value entries IsSameness-same_name differs)
    ]

-- after it was taken out: none where the names are alike
found_taken : {V : Type 0} (key name : List ℕ) (entries : List (List ℕ × V)) → IsMap same_name entries →
    (lookup same_name name (take_out same_name key entries) ≡ None)
    ⊎ ((SameName name key → ⊥) × (lookup same_name name (take_out same_name key entries) ≡ lookup same_name name entries))
found_taken key name entries map =
    elim (cases_Bool (same_name key name)) [
      | inl same ↦ inl (lookup_named key name (take_out same_name key entries) same ∙ lookup-take_out_same same_name key entries IsSameness-same_name map)
      | inr differs ↦ inr (
        (λ alike. not_both (same_name key name) (IsSameness-same_name.symmetric name key ((same_name-Decides name key).1 alike)) differs),
        taken_others same_name key name entries IsSameness-same_name differs,
      )
    ]

-- ---- a challenge

challenge_kept : (known : Bool) (controller : ℕ) (computer : List ℕ) (pair : ChallengePair) (work : Work) →
    WaitsIfKnown known controller computer pair.server work.computers (put_pair_if known computer pair work).computers
challenge_kept false controller computer pair work = refl
challenge_kept true controller computer pair work = record {
  now = ap server_in (lookup-put_same same_name computer pair work.computers.pending (IsSameness-same_name.reflexive computer));
  waits = λ name challenge at. elim (found_put computer name pair work.computers.pending) [
    | inl here ↦ inl (here.0, sym (some_is pair.server challenge (sym (ap server_in here.1) ∙ at)))
    | inr other ↦ inr (sym (ap server_in other) ∙ at)
  ];
  keeps = λ name c at. at;
}

-- ---- an opening

-- a challenge that waits after it waited before, for another computer
waited_other : (computer name challenge : List ℕ) (computers : Computers) → IsMap same_name computers.pending →
    server_in (lookup same_name name (take_out same_name computer computers.pending)) ≡ Some challenge →
    (waits_in computers name ≡ Some challenge) × (SameName name computer → ⊥)
waited_other computer name challenge computers map at =
    elim (found_taken computer name computers.pending map) [
      | inl none ↦ absurd (no_some challenge (sym (ap server_in none) ∙ at))
      | inr other ↦ (sym (ap server_in other.1) ∙ at, other.0)
    ]

opening_kept : (controller : ℕ) (table : AccountTable) (line : Line) (c : AuthCall) (work : Work) → IsMap same_name work.computers.pending →
    IsKeptBy controller c.computer (opened_by controller c (desk table work)) work.computers (answer_authenticate table line c work).computers
opening_kept controller table line c work map =
    let computer : List ℕ = c.computer in
    opening_noted (λ opened later. IsKeptBy controller computer (identity_by controller computer opened) work.computers later.computers) (account_for table c)
    (lookup same_name computer work.computers.pending) line c (take_pair computer work) (record {
      denied = λ status fails. (
        record { waits = λ name challenge at. (waited_other computer name challenge work.computers map at).0; keeps = λ name c at. at },
        ap server_in (lookup-take_out_same same_name computer work.computers.pending IsSameness-same_name map),
      );
      accepted = λ opens.
          let channel : SecureChannelState = channel_for opens.account opens.pair c in
          record {
            controller_is = refl;
            computer_is = refl;
            waited = ap server_in opens.is_pair;
            now = ap (identity_by controller computer)
                (lookup-put_same same_name computer channel work.computers.channels (IsSameness-same_name.reflexive computer));
            served = λ name challenge at. waited_other computer name challenge work.computers map at;
            kept = λ name c at. elim (found_put computer name channel work.computers.channels) [
              | inl here ↦ inl (
                  subst (λ (x : ChannelIdentity). SameChannel (channel_of controller computer channel) x)
                  (some_is (channel_of controller name channel) c (sym (ap (identity_by controller name) here.1) ∙ at))
                  (record { controller = refl; computer = sym here.0; secret = refl; client = refl; server = refl; flags = refl })
                  )
              | inr other ↦ inr (sym (ap (identity_by controller name) other) ∙ at)
            ];
          };
    })

-- ---- a call on a channel

pub moved_alike : (passes : Bool) (controller : ℕ) (name : List ℕ) (state : SecureChannelState) (given : Authenticator) →
    channel_of controller name (channel_by passes state given) ≡ channel_of controller name state
moved_alike false controller name state given = refl
moved_alike true controller name state given = refl

pub judged_kept : (controller : ℕ) (c : JudgedCall) (name : List ℕ) (now : ℕ) (line : Line) (d after : Desk) → JudgedComes c name now line d after →
    KeepsNoMore controller d.work.computers after.work.computers
judged_kept controller c name now line d after comes = record {
  waits = λ other challenge at. ap (λ (pending : List (List ℕ × ChallengePair)). server_in (lookup same_name other pending)) (sym (judged_pending c name now line d after comes)) ∙ at;
  keeps = λ other kept at. elim (judged_finds c name now line d after other comes) [
    | inl same ↦ sym (ap (identity_by controller other) same) ∙ at
    | inr moves ↦
        ap (identity_by controller other) moves.was
        ∙ ap Some (sym (moved_alike moves.passes controller other moves.channel moves.given))
        ∙ sym (ap (identity_by controller other) moves.now)
        ∙ at
  ];
}

pub calls_are_kept : CallsAreKept
calls_are_kept = record {
  challenge = λ controller table line c server work.
      challenge_kept (knows_in table.accounts c.computer) controller c.computer (record { client = c.challenge; server = server }) work;
  authenticate = λ controller table line c work map. opening_kept controller table line c work map;
  judged = λ controller c name now line d. judged_kept controller c name now line d (answer_judged c name now line d) (judged_comes c name now line d);
}
