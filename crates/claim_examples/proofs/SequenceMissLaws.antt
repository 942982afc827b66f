-- Near misses of the claim on sequences, and of what it rests on.
-- It serves `sequences_tell_apart`.
use Rattle.std.proofs.Common.{◌≡◌, ℕ, zero, suc, true, false, List, [], ◌∷◌, ◌++◌, length, inl, inr, Option, Some, None, refl, sym, ap, ◌∙◌, subst, arith, slice_get, ap₂}
use Rattle.std.specs.Prelude.{◌%◌, ◌^◌, codes, ◌⊎◌}
use Rattle.std.specs.List.{AllByRecursion}
use Rattle.wire_base.specs.Maps.{lookup}
use Rattle.wire_base.specs.Names.{same_name}
use Rattle.authenticators.specs.Channels.{ChannelIdentity, SameChannel}
use Rattle.authenticators.specs.Sequences.{moved_by}
use Rattle.authenticators.specs.SecureChannels.{channel_of, SecureChannelState}
use Rattle.authenticators.proofs.SeedLaws.{add_to-same}
use Rattle.channel_client.specs.declared.state.Pending.{Pending}
use Rattle.channel_turns.specs.declared.state.Dialling.{Dialling}
use Rattle.channel_turns.specs.declared.state.Dialling.TheVariants as dialling
use Rattle.domain_controller.specs.State.{State as ControllerState}
use Rattle.domain_controller.specs.declared.state.Running.{Running as ControllerRunning}
use Rattle.member_server.specs.State.{State as MemberState}
use Rattle.member_server.specs.declared.state.Running.{Running as MemberRunning}
use Rattle.wire_base.specs.Lists.{OneOf}
use Rattle.channel_events.specs.Marks.{Calling, Plain, ReplyTo}
use Rattle.wire_base.proofs.ListLaws.{got_nothing, one_weaker, some_is}
use Rattle.step_notes.specs.ControllerNotes.{has_passed}
use Rattle.step_notes.specs.Records.{Book, ChannelTurn, InUnit, Judging, OfMember, OfTrust, Sent, blank, RequesterId}
use Rattle.world_moves.specs.declared.links.EndId.{EndId}
use Rattle.world_moves.specs.declared.links.EndId.TheVariants.{Controller, Member, Client}
use Rattle.world_moves.specs.declared.state.State.{State}
use Rattle.domain_world.specs.Accepting.Sequences.{AnswersCall, AreSoFar, CallsOfTurns, HavePassed, IsMadeOn, IsPassedIn, TurnsAreCalled, stamps_of}
use Rattle.channel_events.specs.Seeds.{channel_seed}
use Rattle.domain_world.specs.Claims.SharedSequences.{HasOneTrustTurnOut, HasOneTurnOut, OneTurnIsOut, IsBeforeTurn, ChannelIsKept, SequencesAreOwn, SequencesAreShared, ChannelStands, any_foreign, dials_of, timestamps_on}
use Rattle.domain_world.specs.Past.{sent_at, controller_asked, requester_at}
use Rattle.claim_examples.specs.ClaimExamples.{elsewhere, judged_as, on_channel, one_turn, small_channel, open_running, seed_after_one, small_name, small_seed, small_turn, turn_out}
use Rattle.claim_examples.specs.SequenceMisses.{OfCalls, OfOneTurn, OfReplyCalls, OfSequenceMisses, SequencesTellApart, asking_controller, called_once, controller_on, dial_waits, empty_unit, in_unit, judged_outside, kept_whole, member_on, mixed_turns, moved_seed, passed_then, reply_past, replied_for, run_by, run_dials, run_small, run_trusting, sent_as, whole_name}
use Rattle.claim_examples.proofs.SequenceLaws.{no_turn, not_one_byte, one_stamp, same_small, shared_small}
use Rattle.wire_base.specs.Names as names
use Rattle.outside.specs.declared.action.Judged.TheVariants as judged
use Rattle.channel_client.specs.declared.state.Standing.TheVariants as standing
use Rattle.channel_client.specs.State.{Requester}

-- ---- one member, whose channel stands

abbrev running_on : Option Pending → SecureChannelState → MemberRunning
running_on turn o =
    let running : MemberRunning = open_running turn [] in
    record running { logons = record running.logons { channel = record running.logons.channel { standing = standing.Open o } } }

one_member : (turn : Option Pending) (o : SecureChannelState) (member : ℕ) (state : MemberState) → slice_get (member_on turn o ∷ []) member ≡ Some state → (member ≡ 0) × (member_on turn o ≡ state)
one_member turn o zero state at = (refl, cc)
one_member turn o (suc member) state at = absurd cc

one_asker : (book : Book) (turn : Option Pending) (o : SecureChannelState) (name : List ℕ) (c : SecureChannelState) (who : RequesterId) (requester : Requester) →
    requester_at (run_by book turn o name c).world.state who ≡ Some requester → (who ≡ OfMember 0) × ((running_on turn o).logons.channel ≡ requester)
one_asker book turn o name c (OfMember zero) requester at = (refl, let one : Some (running_on turn o).logons.channel ≡ Some requester = at in cc)
one_asker book turn o name c (OfMember (suc member)) requester at = absurd (let never : None ≡ Some requester = at in cc)
one_asker book turn o name c (OfTrust zero trust) requester at = absurd (let never : None ≡ Some requester = at in cc)
one_asker book turn o name c (OfTrust (suc controller) trust) requester at = absurd (let never : None ≡ Some requester = at in cc)

module _ (book : Book) (turn : Option Pending) (o : SecureChannelState) (name : List ℕ) (c : SecureChannelState) where
  -- the channel that stands at the member is this one
  abbrev its_name : ChannelIdentity
  its_name = channel_of 0 (codes "FILE1") o

  the_channel : (who : RequesterId) (channel : ChannelIdentity) (p : SecureChannelState) → (stands : ChannelStands (run_by book turn o name c).world.state who channel p) →
      (who ≡ OfMember 0) × (channel ≡ its_name) × (o ≡ p) × (stands.turn ≡ turn)
  the_channel who channel p stands =
      let one = one_asker book turn o name c who stands.requester stands.at in
      let open_so : standing.Open o ≡ standing.Open p = ap (λ (r : Requester). r.standing) one.1 ∙ stands.open_so in
      let state : o ≡ p = cc in (
        one.0,
        stands.is
            ∙ ap₂ (λ (asks : RequesterId) (r : Requester). channel_of (controller_asked asks (run_by book turn o name c).world.state) r.caller.computer p) one.0 (sym one.1)
            ∙ ap (λ (s : SecureChannelState). channel_of (controller_asked (OfMember 0) (run_by book turn o name c).world.state) (codes "FILE1") s) (sym state),
        state,
        sym (ap (λ (r : Requester). r.turn) one.1 ∙ stands.is_turn),
      )

  its_own : SequencesAreOwn (run_by book turn o name c) → o.seed ≡ channel_seed its_name (timestamps_on (OfMember 0) its_name book.turns)
  its_own claim = claim (OfMember 0) its_name o (record { requester = (running_on turn o).logons.channel; at = refl; open_so = refl; is = refl; turn = turn; is_turn = refl })

  own_by : o.seed ≡ channel_seed its_name (timestamps_on (OfMember 0) its_name book.turns) → SequencesAreOwn (run_by book turn o name c)
  own_by own who channel p stands =
      let it = the_channel who channel p stands in
      ap SecureChannelState.seed (sym it.2)
      ∙ own
      ∙ ap (λ (one : ChannelIdentity). channel_seed one (timestamps_on (OfMember 0) one book.turns)) (sym it.1)
      ∙ ap (λ (asks : RequesterId). channel_seed channel (timestamps_on asks channel book.turns)) (sym it.0)

  -- what is kept of it at the controller
  the_kept : (channel : ChannelIdentity) (d : SecureChannelState) → channel ≡ its_name → ChannelIsKept (run_by book turn o name c).world.state channel.controller channel.computer d →
      lookup same_name (codes "FILE1") ((name, c) ∷ []) ≡ Some d
  the_kept channel d is keeps =
      let kept : ChannelIsKept (run_by book turn o name c).world.state 0 (codes "FILE1") d =
      subst (λ (one : ChannelIdentity). ChannelIsKept (run_by book turn o name c).world.state one.controller one.computer d) is keeps in
      let at : Some (controller_on name c) ≡ Some kept.state = kept.at in
      let state : controller_on name c ≡ kept.state = cc in
      let runs : (controller_on name c).running ≡ Some kept.running = ap ControllerState.running state ∙ kept.runs in
      let running : (record { computers = record { pending = []; channels = (name, c) ∷ []; sessions = [] }; links = [] }) ≡ kept.running = cc in
      ap (λ (r : ControllerRunning). lookup same_name (codes "FILE1") r.computers.channels) running ∙ kept.kept

  -- the run shares its sequence where its one channel does
  shares_by : (timestamps : List ℕ) → timestamps_on (OfMember 0) its_name book.turns ≡ timestamps → o.seed ≡ channel_seed its_name timestamps →
      ((d : SecureChannelState) → lookup same_name (codes "FILE1") ((name, c) ∷ []) ≡ Some d → SameChannel (channel_of 0 (codes "FILE1") d) its_name →
      any_foreign its_name book.judged ≡ false → (d.seed ≡ o.seed) ⊎ IsBeforeTurn turn d.seed its_name timestamps) → SequencesAreShared (run_by book turn o name c)
  shares_by timestamps are own each who = record {
    own = λ channel p stands. own_by (own ∙ ap (λ (all : List ℕ). channel_seed its_name all) (sym are)) who channel p stands;
    other = λ channel p d stands keeps same none.
        let it = the_channel who channel p stands in
        let same_its : SameChannel (channel_of 0 (codes "FILE1") d) its_name = subst (λ (one : ChannelIdentity). SameChannel (channel_of one.controller one.computer d) one) it.1 same in
        elim (each d (the_kept channel d it.1 keeps) same_its (ap (λ (one : ChannelIdentity). any_foreign one book.judged) (sym it.1) ∙ none)) [
          | inl is ↦ inl (is ∙ ap SecureChannelState.seed it.2)
          | inr before ↦ inr (record {
            pending = before.pending;
            is_out = it.3 ∙ before.is_out;
            earlier = before.earlier;
            last = before.last;
            all = ap (λ (asks : RequesterId). timestamps_on asks channel book.turns) it.0 ∙ ap (λ (one : ChannelIdentity). timestamps_on (OfMember 0) one book.turns) it.1 ∙ are ∙ before.all;
            seed_before = before.seed_before ∙ ap (λ (one : ChannelIdentity). channel_seed one before.earlier) (sym it.1);
          })
        ];
  }

  -- what is said of it then
  shared : SequencesAreShared (run_by book turn o name c) → lookup same_name (codes "FILE1") ((name, c) ∷ []) ≡ Some c → SameChannel (channel_of 0 (codes "FILE1") c) its_name →
      any_foreign its_name book.judged ≡ false → (c.seed ≡ o.seed) ⊎ IsBeforeTurn turn c.seed its_name (timestamps_on (OfMember 0) its_name book.turns)
  shared claim kept same none =
      (claim (OfMember 0)).other its_name o c
      (record { requester = (running_on turn o).logons.channel; at = refl; open_so = refl; is = refl; turn = turn; is_turn = refl })
      (record { state = controller_on name c; running = record { computers = record { pending = []; channels = (name, c) ∷ []; sessions = [] }; links = [] }; at = refl; runs = refl; kept = kept })
      same none

-- ---- the channel with two turns

-- turns of another member, or on another channel, are none of its own
whole_stamps : timestamps_on (OfMember 0) whole_name mixed_turns.turns ≡ 5 ∷ 7 ∷ []
unfolding same_name names.upper_of
whole_stamps = refl

moved_both : moved_by (5 ∷ 7 ∷ []) ≡ 14
unfolding moved_by
moved_both = refl

moved_first : moved_by (5 ∷ []) ≡ 6
unfolding moved_by
moved_first = refl

whole_seed : moved_seed 14 ≡ channel_seed whole_name (5 ∷ 7 ∷ [])
whole_seed = ap moved_seed (sym moved_both)

before_seed : moved_seed 6 ≡ channel_seed whole_name (5 ∷ [])
before_seed = ap moved_seed (sym moved_first)

whole_kept : (seed : List ℕ) → lookup same_name (codes "FILE1") ((codes "FILE1", kept_whole seed) ∷ []) ≡ Some (kept_whole seed)
unfolding same_name names.upper_of
whole_kept seed = refl

kept_as : (seed : List ℕ) (d : SecureChannelState) → lookup same_name (codes "FILE1") ((codes "FILE1", kept_whole seed) ∷ []) ≡ Some d → d.seed ≡ seed
kept_as seed d found =
    let one : Some (kept_whole seed) ≡ Some d = sym (whole_kept seed) ∙ found in
    let is : kept_whole seed ≡ d = cc in
    ap SecureChannelState.seed (sym is)

same_whole : SameChannel whole_name whole_name
same_whole = record { controller = refl; computer = refl; secret = refl; client = refl; server = refl; flags = refl }

seeds_apart : (one other : ℕ) → moved_seed one ≡ moved_seed other → one % 2 ^ 32 ≡ other % 2 ^ 32
seeds_apart one other is = add_to-same _ one other is

not_nothing : (earlier : List ℕ) (last : ℕ) → [] ≡ earlier ++ last ∷ [] → ⊥
not_nothing [] last is = absurd cc
not_nothing (one ∷ earlier) last is = absurd cc

the_earlier : (earlier : List ℕ) (last : ℕ) → 5 ∷ 7 ∷ [] ≡ earlier ++ last ∷ [] → earlier ≡ 5 ∷ []
the_earlier [] last is = absurd cc
the_earlier (one ∷ []) last is = cc
the_earlier (one ∷ two ∷ earlier) last is = absurd (not_nothing earlier last (let rest : [] ≡ earlier ++ last ∷ [] = cc in rest))

-- moved by 8, the controller is before no turn that is out
not_before : IsBeforeTurn (Some turn_out) (moved_seed 8) whole_name (timestamps_on (OfMember 0) whole_name mixed_turns.turns) → ⊥
not_before before =
    let earlier : before.earlier ≡ 5 ∷ [] = the_earlier before.earlier before.last (sym whole_stamps ∙ before.all) in
    let is : moved_seed 8 ≡ moved_seed 6 = before.seed_before ∙ ap (λ (all : List ℕ). channel_seed whole_name all) earlier ∙ sym before_seed in
    absurd (omega (arith, seeds_apart 8 6 is))

-- ---- a channel that isn't the member's

no_server : (c : SecureChannelState) → lookup same_name (codes "FILE1") ((codes "FILE1", record (kept_whole []) { server = [] }) ∷ []) ≡ Some c → c.server ≡ []
unfolding same_name names.upper_of
no_server c found =
    let one : Some (record (kept_whole []) { server = [] }) ≡ Some c = found in
    let is : record (kept_whole []) { server = [] } ≡ c = cc in
    ap SecureChannelState.server (sym is)

-- ---- a channel without challenges

named_small : (seed : List ℕ) → lookup same_name (codes "FILE1") ((codes "file1", small_channel seed) ∷ []) ≡ Some (small_channel seed)
unfolding same_name names.upper_of
named_small seed = refl

kept_small : (seed : List ℕ) → lookup same_name (codes "FILE1") ((codes "FILE1", small_channel seed) ∷ []) ≡ Some (small_channel seed)
unfolding same_name names.upper_of
kept_small seed = refl

none_passed : any_foreign small_name (judged_outside (judged_as judged.Barred (on_channel 0))).judged ≡ false
unfolding same_name names.upper_of
none_passed = refl

none_here : any_foreign small_name (judged_outside (elsewhere (on_channel 0))).judged ≡ false
unfolding same_name names.upper_of
none_here = refl

abbrev second_name : ChannelIdentity
second_name = record small_name { controller = 1 }

of_sequence_misses : OfSequenceMisses
of_sequence_misses = record {
  alike = shares_by mixed_turns None (kept_whole (moved_seed 14)) (codes "FILE1") (kept_whole (moved_seed 14)) (5 ∷ 7 ∷ []) whole_stamps whole_seed
      (λ d found same none. inl (kept_as (moved_seed 14) d found));
  behind = shares_by mixed_turns (Some turn_out) (kept_whole (moved_seed 14)) (codes "FILE1") (kept_whole (moved_seed 6)) (5 ∷ 7 ∷ []) whole_stamps whole_seed
      (λ d found same none. inr (record { pending = turn_out; is_out = refl; earlier = 5 ∷ []; last = 7; all = refl; seed_before = kept_as (moved_seed 6) d found ∙ before_seed }));
  fails_first = λ claim. elim (shared mixed_turns (Some turn_out) (kept_whole (moved_seed 14)) (codes "FILE1") (kept_whole (moved_seed 8)) claim (whole_kept (moved_seed 8)) same_whole refl) [
    | inl is ↦ absurd (omega (arith, seeds_apart 8 14 is))
    | inr before ↦ not_before before
  ];
  fails_out = λ claim.
      let is : moved_seed 12 ≡ moved_seed 14 = its_own mixed_turns (Some turn_out) (kept_whole (moved_seed 12)) (codes "FILE1") (kept_whole (moved_seed 12)) (λ who channel o stands. (claim who).own channel o stands)
      ∙ ap (λ (all : List ℕ). channel_seed whole_name all) whole_stamps ∙ sym whole_seed in
      absurd (omega (arith, seeds_apart 12 14 is));
  other_channel = shares_by mixed_turns None (kept_whole (moved_seed 14)) (codes "FILE1") (record (kept_whole []) { server = [] }) (5 ∷ 7 ∷ []) whole_stamps whole_seed
      (λ d found same none. absurd (let never : [] ≡ whole_name.server = sym (no_server d found) ∙ same.server in cc));
  fails_second = λ claim.
      not_one_byte ((claim (OfMember 1)).own small_name (small_channel (1 ∷ []))
      (record { requester = (open_running None (1 ∷ [])).logons.channel; at = refl; open_so = refl; is = refl; turn = None; is_turn = refl }));
  fails_controller = λ claim. elim
      ((claim (OfMember 0)).other second_name (small_channel small_seed) (small_channel (1 ∷ []))
      (record { requester = (open_running None small_seed).logons.channel; at = refl; open_so = refl; is = refl; turn = None; is_turn = refl })
      (record { state = controller_on (codes "FILE1") (small_channel (1 ∷ [])); running = record { computers = record { pending = []; channels = (codes "FILE1", small_channel (1 ∷ [])) ∷ []; sessions = [] }; links = [] }; at = refl; runs = refl; kept = kept_small (1 ∷ []) })
      (record { controller = refl; computer = refl; secret = refl; client = refl; server = refl; flags = refl }) refl) [
        | inl is ↦ not_one_byte is
        | inr before ↦ absurd (let none : None ≡ Some before.pending = before.is_out in cc)
      ];
  fails_name = λ claim. elim (shared blank None (small_channel small_seed) (codes "file1") (small_channel (1 ∷ [])) claim (named_small (1 ∷ [])) same_small refl) [
    | inl is ↦ not_one_byte is
    | inr before ↦ no_turn _ _ before
  ];
  fails_barred = λ claim. elim (shared_small (judged_outside (judged_as judged.Barred (on_channel 0))) None small_seed (1 ∷ []) claim none_passed) [
    | inl is ↦ not_one_byte is
    | inr before ↦ no_turn _ _ before
  ];
  fails_elsewhere = λ claim. elim (shared_small (judged_outside (elsewhere (on_channel 0))) None small_seed (1 ∷ []) claim none_here) [
    | inl is ↦ not_one_byte is
    | inr before ↦ no_turn _ _ before
  ];
  own = own_by mixed_turns None (kept_whole (moved_seed 14)) (codes "FILE1") (kept_whole []) (whole_seed ∙ ap (λ (all : List ℕ). channel_seed whole_name all) (sym whole_stamps));
  fails_own = λ claim.
      let is : moved_seed 12 ≡ moved_seed 14 = its_own mixed_turns None (kept_whole (moved_seed 12)) (codes "FILE1") (kept_whole []) claim
      ∙ ap (λ (all : List ℕ). channel_seed whole_name all) whole_stamps ∙ sym whole_seed in
      absurd (omega (arith, seeds_apart 12 14 is));
}

-- ---- one turn at a time

the_running : (turn : Option Pending) (o : SecureChannelState) (member : ℕ) (m : MemberState) (running : MemberRunning) → slice_get (member_on turn o ∷ []) member ≡ Some m → m.running ≡ Some running →
    (member ≡ 0) × (running_on turn o ≡ running)
the_running turn o member m running there runs =
    let one = one_member turn o member m there in
    let is : Some (running_on turn o) ≡ Some running = ap MemberState.running one.1 ∙ runs in
    (one.0, cc)

abbrev idle : MemberRunning
idle = running_on None (small_channel small_seed)

-- what `OneTurnIsOut` says of the one controller of a run
asks : (turns : List (Option Pending)) (how : Dialling) (ends : List EndId) → OneTurnIsOut (run_trusting turns how ends) → HasOneTrustTurnOut (run_trusting turns how ends).world.state 0 (asking_controller turns how)
asks turns how ends claim =
    claim.controllers 0 (asking_controller turns how)
    (record { computers = record { pending = []; channels = (codes "FILE1", small_channel small_seed) ∷ []; sessions = [] }; links = [] }) refl refl

-- where there is one controller, it has number 0
the_one : (first : ControllerState) (controller : ℕ) (c : ControllerState) → slice_get (first ∷ []) controller ≡ Some c → (controller ≡ 0) × (first ≡ c)
the_one first zero c at = (refl, cc)
the_one first (suc controller) c at = absurd cc

by_one : (s : State) (first : ControllerState) → HasOneTrustTurnOut s 0 first → (controller : ℕ) (c : ControllerState) (running : ControllerRunning) → slice_get (first ∷ []) controller ≡ Some c →
    c.running ≡ Some running → HasOneTrustTurnOut s controller c
by_one s first has controller c running at runs =
    let it = the_one first controller c at in
    subst (λ (one : ControllerState). HasOneTrustTurnOut s controller one) it.1 (subst (λ (k : ℕ). HasOneTrustTurnOut s k first) (sym it.0) has)

of_one_turn : OfOneTurn
of_one_turn = record {
  meets =
      let s : State = (run_dials (Member 1 ∷ Client 0 ∷ [])).world.state in
      let none : length (dials_of (Member 0) s.dials) ≡ 0 = refl in
      let none_there : length (dials_of (Controller 0) s.dials) ≡ 0 = refl in
      record {
        members = λ member m running there runs.
            let it = the_running None (small_channel small_seed) member m running there runs in
            subst (λ (r : MemberRunning). HasOneTurnOut s member r) it.1
            (subst (λ (k : ℕ). HasOneTurnOut s k idle) (sym it.0) (record { out = refl; few = omega (arith, none); waits = λ some. absurd (omega (arith, none, some)) }));
        controllers = by_one s (controller_on (codes "FILE1") (small_channel small_seed)) (record {
          one = record { outs = refl; inside = λ out. absurd (let x : true ≡ false = out in cc) };
          few = omega (arith, none_there);
          waits = λ some. absurd (omega (arith, none_there, some));
        });
      };
  fails_two = λ claim.
      let two : length (dials_of (Member 0) (run_dials (Member 0 ∷ Client 0 ∷ Member 0 ∷ [])).world.state.dials) ≡ 2 = refl in
      absurd (omega (arith, two, (claim.members 0 (member_on None (small_channel small_seed)) idle refl refl).few));
  fails_idle = λ claim.
      let one : length (dials_of (Member 0) (run_dials (Member 0 ∷ [])).world.state.dials) ≡ 1 = refl in
      (claim.members 0 (member_on None (small_channel small_seed)) idle refl refl).waits (omega (arith, one));
  fails_undialled = λ claim.
      absurd (let never : true ≡ false = (claim.members 0 (member_on (Some turn_out) (small_channel small_seed)) (running_on (Some turn_out) (small_channel small_seed)) refl refl).out in cc);
  trusts =
      let s : State = (run_trusting (None ∷ Some turn_out ∷ []) dial_waits (Controller 0 ∷ Client 0 ∷ [])).world.state in
      let one_dial : length (dials_of (Controller 0) s.dials) ≡ 1 = refl in
      record {
        members = λ member m running there runs. absurd (got_nothing member m there);
        controllers = by_one s (asking_controller (None ∷ Some turn_out ∷ []) dial_waits) (record {
          one = record { outs = refl; inside = λ out. omega arith };
          few = omega (arith, one_dial);
          waits = λ some. tt;
        });
      };
  fails_both = λ claim.
      absurd (let never : true ∷ true ∷ [] ≡ false ∷ true ∷ [] = (asks (Some turn_out ∷ Some turn_out ∷ []) dial_waits (Controller 0 ∷ []) claim).one.outs in cc);
  fails_first = λ claim.
      absurd (let never : true ∷ false ∷ [] ≡ false ∷ true ∷ [] = (asks (Some turn_out ∷ None ∷ []) dial_waits (Controller 0 ∷ []) claim).one.outs in cc);
  fails_two_dials = λ claim.
      let two : length (dials_of (Controller 0) (run_trusting (None ∷ Some turn_out ∷ []) dial_waits (Controller 0 ∷ Controller 0 ∷ [])).world.state.dials) ≡ 2 = refl in
      absurd (omega (arith, two, (asks (None ∷ Some turn_out ∷ []) dial_waits (Controller 0 ∷ Controller 0 ∷ []) claim).few));
  fails_no_turn = λ claim.
      let one : length (dials_of (Controller 0) (run_trusting (None ∷ None ∷ []) dialling.Nothing (Controller 0 ∷ [])).world.state.dials) ≡ 1 = refl in
      (asks (None ∷ None ∷ []) dialling.Nothing (Controller 0 ∷ []) claim).waits (omega (arith, one));
  fails_undialled_trust = λ claim.
      absurd (let never : false ∷ true ∷ [] ≡ false ∷ false ∷ [] = (asks (None ∷ Some turn_out ∷ []) dialling.Nothing [] claim).one.outs in cc);
}

-- ---- the calls of turns

abbrev o_small : SecureChannelState
o_small = small_channel seed_after_one

abbrev stands_small : (book : Book) (turn : Option Pending) → ChannelStands (run_small book turn).world.state (OfMember 0) small_name o_small
stands_small book turn = record { requester = (running_on turn o_small).logons.channel; at = refl; open_so = refl; is = refl; turn = turn; is_turn = refl }

-- the calls of the one channel are those of all
calls_by : (book : Book) (turn : Option Pending) → CallsOfTurns (run_small book turn) small_name turn (timestamps_on (OfMember 0) small_name book.turns) → TurnsAreCalled (run_small book turn)
calls_by book turn calls who channel o stands =
    let it = the_channel book turn o_small (codes "FILE1") (small_channel seed_after_one) who channel o stands in
    subst (λ (asks : RequesterId). CallsOfTurns (run_small book turn) channel stands.turn (timestamps_on asks channel book.turns)) (sym it.0)
    (subst (λ (one : ChannelIdentity). CallsOfTurns (run_small book turn) one stands.turn (timestamps_on (OfMember 0) one book.turns)) (sym it.1)
    (subst (λ (t : Option Pending). CallsOfTurns (run_small book turn) small_name t (timestamps_on (OfMember 0) small_name book.turns)) (sym it.3) calls))

-- the one call is that of unit 0
only_call : (n number timestamp : ℕ) (sent : Sent) (other : ChannelIdentity) → slice_get (sent_at 0 (Calling small_name 3 0) ∷ []) n ≡ Some sent → sent.mark ≡ Calling other number timestamp → OneOf (λ (one : ℕ × ℕ). one.0 ≡ n) ((0, 0) ∷ [])
only_call zero number timestamp sent other there mark = inl refl
only_call (suc n) number timestamp sent other there mark = absurd (let none : None ≡ Some sent = there in cc)

once : (judged : List Judging) (turn : Option Pending) → AreSoFar (run_small (called_once judged) turn) turn ((0, 0) ∷ []) (0 ∷ []) →
    CallsOfTurns (run_small (called_once judged) turn) small_name turn (timestamps_on (OfMember 0) small_name (called_once judged).turns)
once judged turn far = record {
  made = (0, 0) ∷ [];
  each = (record { sent = sent_at 0 (Calling small_name 3 0); there = refl; number = 3; mark = refl }, tt);
  apart = (tt, tt);
  every = λ n number timestamp sent other there mark client. only_call n number timestamp sent other there mark;
  far = subst (λ (stamps : List ℕ). AreSoFar (run_small (called_once judged) turn) turn ((0, 0) ∷ []) stamps) (sym one_stamp) far;
}

-- where no turn is out, each call passed; so there is one that passed
one_passed : (book : Book) → book.turns ≡ small_turn ∷ [] → TurnsAreCalled (run_small book None) → OneOf (λ (j : Judging). has_passed j.how ≡ true) book.judged
one_passed book turns claim =
    let calls : CallsOfTurns (run_small book None) small_name None (timestamps_on (OfMember 0) small_name book.turns) = claim (OfMember 0) small_name o_small (stands_small book None) in
    let stamps : timestamps_on (OfMember 0) small_name book.turns ≡ 0 ∷ [] = ap (λ (all : List ChannelTurn). timestamps_on (OfMember 0) small_name all) turns ∙ one_stamp in
    elim calls.far [
      | inl quiet ↦ its_call calls.made (sym stamps ∙ quiet.0) quiet.1
      | inr rest ↦ elim rest [
        | inl bind ↦ absurd (let none : None ≡ Some bind.pending = bind.is_out in cc)
        | inr out ↦ absurd (let none : None ≡ Some out.pending = out.is_out in cc)
      ]
    ]
  where
    its_call : (made : List (ℕ × ℕ)) → 0 ∷ [] ≡ stamps_of made → HavePassed (run_small book None) made → OneOf (λ (j : Judging). has_passed j.how ≡ true) book.judged
    its_call [] is passed = absurd cc
    its_call (one ∷ made) is passed = one_weaker (IsPassedIn one.0) (λ (j : Judging). has_passed j.how ≡ true) book.judged (λ j so. so.0) passed.0

-- one call was made on the channel, of the turn's timestamp, and no other
record TheCall (book : Book) : Type 0 where
  at : ℕ
  timestamp : ℕ
  is_zero : timestamp ≡ 0
  on : IsMadeOn (run_small book None) small_name at timestamp
  every : (n number stamp : ℕ) (sent : Sent) → slice_get book.sent n ≡ Some sent → sent.mark ≡ Calling small_name number stamp → at ≡ n

the_call : (book : Book) → book.turns ≡ small_turn ∷ [] → TurnsAreCalled (run_small book None) → TheCall book
the_call book turns claim =
    let calls : CallsOfTurns (run_small book None) small_name None (timestamps_on (OfMember 0) small_name book.turns) = claim (OfMember 0) small_name o_small (stands_small book None) in
    let stamps : timestamps_on (OfMember 0) small_name book.turns ≡ 0 ∷ [] = ap (λ (all : List ChannelTurn). timestamps_on (OfMember 0) small_name all) turns ∙ one_stamp in
    elim calls.far [
      | inl quiet ↦ only calls.made (sym stamps ∙ quiet.0) calls.each (λ n number stamp sent there mark. calls.every n number stamp sent small_name there mark refl)
      | inr rest ↦ elim rest [
        | inl bind ↦ absurd (let none : None ≡ Some bind.pending = bind.is_out in cc)
        | inr out ↦ absurd (let none : None ≡ Some out.pending = out.is_out in cc)
      ]
    ]
  where
    only : (made : List (ℕ × ℕ)) → 0 ∷ [] ≡ stamps_of made → AllByRecursion (λ (one : ℕ × ℕ). IsMadeOn (run_small book None) small_name one.0 one.1) made →
        ((n number stamp : ℕ) (sent : Sent) → slice_get book.sent n ≡ Some sent → sent.mark ≡ Calling small_name number stamp → OneOf (λ (one : ℕ × ℕ). one.0 ≡ n) made) → TheCall book
    only [] is each every = absurd cc
    only (one ∷ two ∷ made) is each every = absurd cc
    only (one ∷ []) is each every = record {
      at = one.0;
      timestamp = one.1;
      is_zero = cc;
      on = each.0;
      every = λ n number stamp sent there mark. elim (every n number stamp sent there mark) [ inl here ↦ here | inr none ↦ absurd none ];
    }

stamps_alike : (one other : ChannelIdentity) (number more timestamp later : ℕ) → Calling one number timestamp ≡ Calling other more later → timestamp ≡ later
stamps_alike one other number more timestamp later is = cc

stamp_of : (at : ℕ) (sent : Sent) (number timestamp : ℕ) → slice_get (sent_as (Calling small_name 3 5 ∷ [])).sent at ≡ Some sent → sent.mark ≡ Calling small_name number timestamp → 5 ≡ timestamp
stamp_of zero sent number timestamp there mark = stamps_alike small_name small_name 3 number 5 timestamp (ap Sent.mark (some_is (sent_at 0 (Calling small_name 3 5)) sent there) ∙ mark)
stamp_of (suc at) sent number timestamp there mark = absurd (got_nothing at sent there)

of_calls : OfCalls
of_calls = record {
  meets = calls_by (called_once (in_unit ∷ [])) None (once (in_unit ∷ []) None (inl (refl, (inl (refl, refl), tt))));
  out = calls_by (called_once []) (Some turn_out)
      (once [] (Some turn_out) (inr (inr (record { pending = turn_out; is_out = refl; earlier = []; last = (0, 0); split = refl; all = refl; passed = tt }))));
  fails_unjudged = λ claim. one_passed (called_once []) refl claim;
  fails_barred = λ claim. elim (one_passed (called_once (record (judged_as judged.Barred (on_channel 0)) { source = InUnit 0 } ∷ [])) refl claim) [
    | inl never ↦ absurd (let is : false ≡ true = never in cc)
    | inr none ↦ none
  ];
  fails_uncalled = λ claim. one_passed one_turn refl claim;
  fails_unsent = λ claim. let it : TheCall (sent_as []) = the_call (sent_as []) refl claim in got_nothing it.at it.on.sent it.on.there;
  fails_stamp = λ claim.
      let it : TheCall (sent_as (Calling small_name 3 5 ∷ [])) = the_call (sent_as (Calling small_name 3 5 ∷ [])) refl claim in
      absurd (omega (arith, it.is_zero, stamp_of it.at it.on.sent it.on.number it.timestamp it.on.there it.on.mark));
  fails_more = λ claim.
      let book : Book = sent_as (Calling small_name 3 0 ∷ Calling small_name 4 0 ∷ []) in
      let it : TheCall book = the_call book refl claim in
      let first : it.at ≡ 0 = it.every 0 3 0 (sent_at 0 (Calling small_name 3 0)) refl refl in
      let second : it.at ≡ 1 = it.every 1 4 0 (sent_at 0 (Calling small_name 4 0)) refl refl in
      absurd (omega (arith, first, second));
}

-- ---- replies to calls

the_reply : (n : ℕ) (one : Sent) (channel : ChannelIdentity) (number request : ℕ) → slice_get (reply_past 3 (passed_then ∷ [])).book.sent n ≡ Some one → one.mark ≡ ReplyTo channel number request →
    (1 ≡ n) × (small_name ≡ channel) × (3 ≡ number) × (0 ≡ request)
the_reply zero one channel number request there mark =
    let is : Some (sent_at 0 (Calling small_name 3 0)) ≡ Some one = there in
    absurd (let never : Calling small_name 3 0 ≡ ReplyTo channel number request = ap Sent.mark (some_is (sent_at 0 (Calling small_name 3 0)) one is) ∙ mark in cc)
the_reply (suc zero) one channel number request there mark =
    let is : ReplyTo small_name 3 0 ≡ ReplyTo channel number request = ap Sent.mark (some_is (sent_at 0 (ReplyTo small_name 3 0)) one there) ∙ mark in
    (refl, cc, cc, cc)
the_reply (suc (suc n)) one channel number request there mark = absurd (got_nothing n one there)

answers_small : AnswersCall (reply_past 3 (passed_then ∷ [])) small_name 3 0 1
answers_small = record { sent = sent_at 0 (Calling small_name 3 0); there = refl; named = small_name; timestamp = 0; mark = refl; same = same_small; passed = inl ((refl, refl), refl) }

numbers_alike : (one other : ChannelIdentity) (number more timestamp later : ℕ) → Calling one number timestamp ≡ Calling other more later → number ≡ more
numbers_alike one other number more timestamp later is = cc

named_alike : (one other : ChannelIdentity) (number more timestamp later : ℕ) → Calling one number timestamp ≡ Calling other more later → one ≡ other
named_alike one other number more timestamp later is = cc

not_three : ◌≡◌ {A = ℕ} 3 4 → ⊥
not_three is = absurd (omega (arith, is))

of_reply_calls : OfReplyCalls
of_reply_calls = record {
  meets = λ n unit one channel number request bag there mark.
      let it = the_reply n one channel number request there mark in
      subst (λ (r : ℕ). AnswersCall (reply_past 3 (passed_then ∷ [])) channel number r n) it.3
      (subst (λ (k : ℕ). AnswersCall (reply_past 3 (passed_then ∷ [])) channel k 0 n) it.2
      (subst (λ (c : ChannelIdentity). AnswersCall (reply_past 3 (passed_then ∷ [])) c 3 0 n) it.1 (subst (λ (m : ℕ). AnswersCall (reply_past 3 (passed_then ∷ [])) small_name 3 0 m) it.0 answers_small)));
  fails_number = λ claim.
      let it : AnswersCall (reply_past 4 (passed_then ∷ [])) small_name 4 0 1 = claim 1 empty_unit (sent_at 0 (ReplyTo small_name 4 0)) small_name 4 0 refl refl refl in
      let is : Calling small_name 3 0 ≡ Calling it.named 4 it.timestamp = ap Sent.mark (some_is (sent_at 0 (Calling small_name 3 0)) it.sent it.there) ∙ it.mark in
      not_three (numbers_alike small_name it.named 3 4 0 it.timestamp is);
  fails_barred = λ claim. elim (claim 1 empty_unit (sent_at 0 (ReplyTo small_name 3 0)) small_name 3 0 refl refl refl).passed [
    | inl so ↦ absurd (let never : false ≡ true = so.0.0 in cc)
    | inr none ↦ none
  ];
  fails_elsewhere = λ claim. elim (claim 1 empty_unit (sent_at 0 (ReplyTo small_name 3 0)) small_name 3 0 refl refl refl).passed [
    | inl so ↦ absurd (let two : Some 2 ≡ Some 1 = so.1 in cc)
    | inr none ↦ none
  ];
  fails_plain = λ claim.
      let it : AnswersCall (replied_for Plain 3 (passed_then ∷ [])) small_name 3 0 1 = claim 1 empty_unit (sent_at 0 (ReplyTo small_name 3 0)) small_name 3 0 refl refl refl in
      absurd (let never : Plain ≡ Calling it.named 3 it.timestamp = ap Sent.mark (some_is (sent_at 0 Plain) it.sent it.there) ∙ it.mark in cc);
  fails_channel = λ claim.
      let it : AnswersCall (replied_for (Calling second_name 3 0) 3 (passed_then ∷ [])) small_name 3 0 1 = claim 1 empty_unit (sent_at 0 (ReplyTo small_name 3 0)) small_name 3 0 refl refl refl in
      let is : second_name ≡ it.named = named_alike second_name it.named 3 3 0 it.timestamp (ap Sent.mark (some_is (sent_at 0 (Calling second_name 3 0)) it.sent it.there) ∙ it.mark) in
      absurd (omega (arith, ap ChannelIdentity.controller is, it.same.controller));
}

pub sequences_apart : SequencesTellApart
sequences_apart = record { shared = of_sequence_misses; one_turn = of_one_turn; calls = of_calls; replies = of_reply_calls }
