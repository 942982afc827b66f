-- Runs that were written down by hand, of the two ends of a channel, that meet a claim, and some that don't.
-- It serves `claims_tell_apart`, `grants_tell_apart`, `own_challenges_tell_apart`, `replies_tell_apart`.
use Rattle.std.proofs.Common.{◌≡◌, ℕ, zero, suc, true, false, List, [], ◌∷◌, ◌++◌, length, inl, inr, Option, Some, None, refl, sym, ap, ◌∙◌, subst, arith, ap₂}
use Rattle.std.specs.Prelude.{◌%◌, ◌^◌, AllPairs, codes, ◌⊎◌}
use Rattle.wire_base.specs.Maps.{lookup}
use Rattle.wire_base.specs.Names.{same_name}
use Rattle.authenticators.specs.Channels.{ChannelIdentity, SameChannel}
use Rattle.authenticators.specs.Sequences.{moved_by}
use Rattle.authenticators.proofs.SeedLaws.{IsBlock-add_to, add_to-same}
use Rattle.channel_keys.proofs.CredLaws.{IsBlock-cred_of}
use Rattle.authenticators.specs.SecureChannels.{channel_of, SecureChannelState}
use Rattle.channel_client.specs.declared.state.Pending.{Pending}
use Rattle.domain_controller.specs.State.{State as ControllerState}
use Rattle.domain_controller.specs.declared.state.Running.{Running as ControllerRunning}
use Rattle.channel_events.specs.Seeds.{channel_seed}
use Rattle.step_notes.specs.Records.{Book, InUnit, OfMember, OfTrust, Outside, blank, RequesterId}
use Rattle.domain_world.specs.Claims.SharedSequences.{IsBeforeTurn, ChannelIsKept, SequencesAreShared, ChannelStands, any_foreign, timestamps_on}
use Rattle.domain_world.specs.Past.{controller_asked, requester_at}
use Rattle.claim_examples.specs.ClaimExamples.{OfSequences, keeping_controller, keeping_running, one_turn, small_channel, open_running, passed_from, run_open, seed_after_one, seed_after_two, small_computers, small_name, small_seed, small_turn, turn_out, two_turns, world_open}
use Rattle.channel_events.proofs.TimestampLaws.{moved_none}
use Rattle.channel_events.proofs.SameLaws.{same_self}
use Rattle.wire_base.specs.Names as names
use Rattle.channel_client.specs.declared.state.Standing.TheVariants as standing
use Rattle.channel_client.specs.State.{Requester}

pub one_apart : {T : Type 0} (R : T → T → Type 0) (x : T) → AllPairs R (x ∷ [])
one_apart R x i j d before within = absurd (omega arith)

-- ---- shared sequences

pub kept_small : (seed : List ℕ) → lookup same_name (codes "FILE1") (small_computers seed).channels ≡ Some (small_channel seed)
unfolding same_name names.upper_of
kept_small seed = refl

one_asker : (turn : Option Pending) (seed other : List ℕ) (who : RequesterId) (requester : Requester) → requester_at (world_open turn seed other).state who ≡ Some requester →
    (who ≡ OfMember 0) × ((open_running turn seed).logons.channel ≡ requester)
one_asker turn seed other (OfMember zero) requester at = (refl, let one : Some (open_running turn seed).logons.channel ≡ Some requester = at in cc)
one_asker turn seed other (OfMember (suc member)) requester at = absurd (let never : None ≡ Some requester = at in cc)
one_asker turn seed other (OfTrust zero trust) requester at = absurd (let never : None ≡ Some requester = at in cc)
one_asker turn seed other (OfTrust (suc controller) trust) requester at = absurd (let never : None ≡ Some requester = at in cc)

-- the channel that stands is this one, and it is the member's
the_channel : (turn : Option Pending) (seed other : List ℕ) (who : RequesterId) (channel : ChannelIdentity) (o : SecureChannelState) → (stands : ChannelStands (world_open turn seed other).state who channel o) →
    (who ≡ OfMember 0) × (channel ≡ small_name) × (o.seed ≡ seed) × (stands.turn ≡ turn)
the_channel turn seed other who channel o stands =
    let one = one_asker turn seed other who stands.requester stands.at in
    let open_so : standing.Open (small_channel seed) ≡ standing.Open o = ap (λ (r : Requester). r.standing) one.1 ∙ stands.open_so in
    let state : small_channel seed ≡ o = cc in (
      one.0,
      stands.is
          ∙ ap₂ (λ (asks : RequesterId) (r : Requester). channel_of (controller_asked asks (world_open turn seed other).state) r.caller.computer o) one.0 (sym one.1)
          ∙ ap (λ (s : SecureChannelState). channel_of (controller_asked (OfMember 0) (world_open turn seed other).state) (codes "FILE1") s) (sym state),
      ap SecureChannelState.seed (sym state),
      sym (ap (λ (r : Requester). r.turn) one.1 ∙ stands.is_turn),
    )

the_kept : (turn : Option Pending) (seed other : List ℕ) (channel : ChannelIdentity) (c : SecureChannelState) → channel ≡ small_name → ChannelIsKept (world_open turn seed other).state channel.controller channel.computer c → c.seed ≡ other
the_kept turn seed other channel c is keeps =
    let kept : ChannelIsKept (world_open turn seed other).state 0 (codes "FILE1") c =
    subst (λ (one : ChannelIdentity). ChannelIsKept (world_open turn seed other).state one.controller one.computer c) is keeps in
    let at : Some (keeping_controller other) ≡ Some kept.state = kept.at in
    let state : keeping_controller other ≡ kept.state = cc in
    let runs : Some (keeping_running other) ≡ Some kept.running = ap ControllerState.running state ∙ kept.runs in
    let running : keeping_running other ≡ kept.running = cc in
    let found : Some (small_channel other) ≡ Some c =
    sym (kept_small other) ∙ ap (λ (r : ControllerRunning). lookup same_name (codes "FILE1") r.computers.channels) running ∙ kept.kept in
    let one : small_channel other ≡ c = cc in
    ap SecureChannelState.seed (sym one)

abbrev pub stands_small : (turn : Option Pending) (seed other : List ℕ) → ChannelStands (world_open turn seed other).state (OfMember 0) small_name (small_channel seed)
stands_small turn seed other =
    record { requester = (open_running turn seed).logons.channel; at = refl; open_so = refl; is = refl; turn = turn; is_turn = refl }

keeps_small : (turn : Option Pending) (seed other : List ℕ) → ChannelIsKept (world_open turn seed other).state 0 (codes "FILE1") (small_channel other)
keeps_small turn seed other = record { state = keeping_controller other; running = keeping_running other; at = refl; runs = refl; kept = kept_small other }

pub same_small : SameChannel small_name small_name
same_small = same_self small_name

-- a run shares its sequence where its one channel does
pub shares_by : (book : Book) (turn : Option Pending) (seed other timestamps : List ℕ) → timestamps_on (OfMember 0) small_name book.turns ≡ timestamps → seed ≡ channel_seed small_name timestamps →
    (any_foreign small_name book.judged ≡ false → (other ≡ seed) ⊎ IsBeforeTurn turn other small_name timestamps) → SequencesAreShared (run_open book turn seed other)
shares_by book turn seed other timestamps are own each who = record {
  own = λ channel o stands.
      let it = the_channel turn seed other who channel o stands in
      it.2
      ∙ own
      ∙ ap (λ (all : List ℕ). channel_seed small_name all) (sym are)
      ∙ ap (λ (one : ChannelIdentity). channel_seed one (timestamps_on (OfMember 0) one book.turns)) (sym it.1)
      ∙ ap (λ (asks : RequesterId). channel_seed channel (timestamps_on asks channel book.turns)) (sym it.0);
  other = λ channel o c stands keeps same none.
      let it = the_channel turn seed other who channel o stands in
      let kept : c.seed ≡ other = the_kept turn seed other channel c it.1 keeps in
      elim (each (ap (λ (one : ChannelIdentity). any_foreign one book.judged) (sym it.1) ∙ none)) [
        | inl is ↦ inl (kept ∙ is ∙ sym it.2)
        | inr before ↦ inr (record {
          pending = before.pending;
          is_out = it.3 ∙ before.is_out;
          earlier = before.earlier;
          last = before.last;
          all = ap (λ (asks : RequesterId). timestamps_on asks channel book.turns) it.0 ∙ ap (λ (one : ChannelIdentity). timestamps_on (OfMember 0) one book.turns) it.1 ∙ are ∙ before.all;
          seed_before = kept ∙ before.seed_before ∙ ap (λ (one : ChannelIdentity). channel_seed one before.earlier) (sym it.1);
        })
      ];
}

-- what is said of it then
pub shared_small : (book : Book) (turn : Option Pending) (seed other : List ℕ) → SequencesAreShared (run_open book turn seed other) → any_foreign small_name book.judged ≡ false →
    (other ≡ seed) ⊎ IsBeforeTurn turn other small_name (timestamps_on (OfMember 0) small_name book.turns)
shared_small book turn seed other claim none = (claim (OfMember 0)).other small_name (small_channel seed) (small_channel other) (stands_small turn seed other) (keeps_small turn seed other) same_small none

-- a seed has 8 bytes
pub not_one_byte : 1 ∷ [] ≡ small_seed → ⊥
not_one_byte is = absurd (let none : 1 ≡ 8 = ap length is ∙ (IsBlock-add_to _ (moved_by []) (IsBlock-cred_of _ _)).eight in cc)

-- a turn moves a seed
moved_zero : moved_by (0 ∷ []) ≡ 1
unfolding moved_by
moved_zero = refl

moved_two : moved_by (0 ∷ 0 ∷ []) ≡ 2
unfolding moved_by
moved_two = refl

seeds_apart : (one other : List ℕ) → channel_seed small_name one ≡ channel_seed small_name other → moved_by one % 2 ^ 32 ≡ moved_by other % 2 ^ 32
seeds_apart one other is = add_to-same _ (moved_by one) (moved_by other) is

none_one : small_seed ≡ seed_after_one → ⊥
none_one is = absurd (omega (arith, moved_none, moved_zero, seeds_apart [] (0 ∷ []) is))

none_two : small_seed ≡ seed_after_two → ⊥
none_two is = absurd (omega (arith, moved_none, moved_two, seeds_apart [] (0 ∷ 0 ∷ []) is))

pub no_turn : (seed timestamps : List ℕ) → IsBeforeTurn None seed small_name timestamps → ⊥
no_turn seed timestamps before = absurd (let none : None ≡ Some before.pending = before.is_out in cc)

pub one_stamp : timestamps_on (OfMember 0) small_name (small_turn ∷ []) ≡ 0 ∷ []
unfolding same_name names.upper_of
one_stamp = refl

two_stamps : timestamps_on (OfMember 0) small_name (small_turn ∷ small_turn ∷ []) ≡ 0 ∷ 0 ∷ []
unfolding same_name names.upper_of
two_stamps = refl

not_nothing : (earlier : List ℕ) (last : ℕ) → [] ≡ earlier ++ last ∷ [] → ⊥
not_nothing [] last is = absurd cc
not_nothing (one ∷ earlier) last is = absurd cc

the_earlier : (earlier : List ℕ) (last : ℕ) → 0 ∷ 0 ∷ [] ≡ earlier ++ last ∷ [] → earlier ≡ 0 ∷ []
the_earlier [] last is = absurd cc
the_earlier (one ∷ []) last is = cc
the_earlier (one ∷ two ∷ earlier) last is = absurd (not_nothing earlier last (let rest : [] ≡ earlier ++ last ∷ [] = cc in rest))

two_behind : IsBeforeTurn (Some turn_out) small_seed small_name (0 ∷ 0 ∷ []) → ⊥
two_behind before = none_one (before.seed_before ∙ ap (λ (all : List ℕ). channel_seed small_name all) (the_earlier before.earlier before.last before.all))

foreign_small : any_foreign small_name (passed_from Outside).judged ≡ true
unfolding same_name names.upper_of
foreign_small = refl

pub of_sequences : OfSequences
of_sequences = record {
  meets = shares_by blank None small_seed small_seed [] refl refl (λ none. inl refl);
  fails = λ claim. not_one_byte ((claim (OfMember 0)).own small_name (small_channel (1 ∷ [])) (stands_small None (1 ∷ []) small_seed));
  fails_other = λ claim. elim (shared_small blank None small_seed (1 ∷ []) claim refl) [ inl is ↦ not_one_byte is | inr before ↦ no_turn _ _ before ];
  turn_passed = shares_by one_turn (Some turn_out) seed_after_one seed_after_one (0 ∷ []) one_stamp refl (λ none. inl refl);
  turn_behind = shares_by one_turn (Some turn_out) seed_after_one small_seed (0 ∷ []) one_stamp refl
      (λ none. inr (record { pending = turn_out; is_out = refl; earlier = []; last = 0; all = refl; seed_before = refl }));
  fails_behind = λ claim. elim (shared_small one_turn None seed_after_one small_seed claim refl) [ inl is ↦ none_one is | inr before ↦ no_turn _ _ before ];
  fails_two_behind = λ claim. elim (shared_small two_turns (Some turn_out) seed_after_two small_seed claim refl) [
    | inl is ↦ none_two is
    | inr before ↦ two_behind (subst (λ (all : List ℕ). IsBeforeTurn (Some turn_out) small_seed small_name all) two_stamps before)
  ];
  foreign = shares_by (passed_from Outside) None small_seed (1 ∷ []) [] refl refl (λ none. absurd (let never : true ≡ false = sym foreign_small ∙ none in cc));
  fails_own = λ claim. elim (shared_small (passed_from (InUnit 7)) None small_seed (1 ∷ []) claim refl) [ inl is ↦ not_one_byte is | inr before ↦ no_turn _ _ before ];
}
