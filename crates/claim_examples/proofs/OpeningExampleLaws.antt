-- Openings that were written down by hand: which meet the claim on openings, and which don't.
-- It serves `openings_tell_apart`.
use Rattle.std.proofs.Common.{◌≡◌, ℕ, zero, suc, Bool, true, false, List, [], ◌∷◌, Some, None, if◌then◌else◌, inl, inr, refl, sym, ap, subst, ◌∙◌, arith, slice_get}
use Rattle.std.specs.Prelude.{◌≢◌, codes, not}
use Rattle.wire_base.specs.Names as names
use Rattle.wire_base.specs.Names.{same_name}
use Rattle.wire_base.proofs.NameLaws.{same_name-Decides}
use Rattle.authenticators.specs.Channels.{ChannelIdentity, SameChannel}
use Rattle.authenticators.specs.SecureChannels.{channel_of}
use Rattle.domain_controller.specs.State.{State as ControllerState}
use Rattle.domain_controller.specs.declared.state.Running.{Running}
use Rattle.step_notes.specs.ControllerNotes.{identity_by}
use Rattle.step_notes.specs.KeptNotes.{keeps_in, waits_in}
use Rattle.channel_events.specs.Marks.{Mark, Opened, Opening, Plain}
use Rattle.step_notes.specs.Records.{ChannelAccepted, InUnit, Outside, Sent}
use Rattle.domain_world.specs.Claims.OpeningReplies.{IsMarkedAsOpened, IsReplyOfOpening, OpeningsAreMarked}
use Rattle.domain_world.specs.Claims.Openings.{IsLastAccepted, KeepsAt, WaitsAt, last_accepted, newer_if}
use Rattle.wire_base.proofs.ListLaws.{got_nothing, no_some, not_both, some_is}
use Rattle.channel_events.proofs.SameLaws.{itself}
use Rattle.claim_examples.specs.ClaimExamples.{keeping_controller, keeping_running, small_channel, small_name, small_seed}
use Rattle.domain_world.specs.Past.{sent_at}
use Rattle.claim_examples.specs.OpeningExamples.{OfOpenedReplies, OfOpenings, accepted_elsewhere, answered_opening, marked_as, other_accepted, small_accepted, waiting_for, world_waiting}
use Rattle.claim_examples.proofs.SequenceLaws.{kept_small, one_apart}

abbrev the_controllers : List ControllerState
the_controllers = keeping_controller small_seed ∷ []

-- ---- what is kept

keeps_small : KeepsAt the_controllers 0 (codes "FILE1") small_name
keeps_small = record {
  state = keeping_controller small_seed;
  running = keeping_running small_seed;
  at = refl;
  runs = refl;
  keeps = ap (identity_by 0 (codes "FILE1")) (kept_small small_seed);
}

-- the first controller runs with what it keeps
runs_here : (state : ControllerState) (running : Running) → slice_get the_controllers 0 ≡ Some state → state.running ≡ Some running → keeping_running small_seed ≡ running
runs_here state running at runs =
    let one : keeping_controller small_seed ≡ state = some_is (keeping_controller small_seed) state at in
    some_is (keeping_running small_seed) running (ap ControllerState.running one ∙ runs)

-- the small run keeps FILE1's channel alone, and it is the last that was accepted
last_by : (hit : Bool) (computer : List ℕ) (channel : ChannelIdentity) → same_name computer (codes "FILE1") ≡ hit →
    identity_by 0 computer (if hit then Some (small_channel small_seed) else None) ≡ Some channel → IsLastAccepted 0 computer channel (small_accepted ∷ [])
last_by true computer channel is keeps = record {
  one = small_accepted;
  last = ap (λ (b : Bool). newer_if b small_accepted None) is;
  same = subst (λ (c : ChannelIdentity). SameChannel small_name c) (some_is (channel_of 0 computer (small_channel small_seed)) channel keeps)
      (record { controller = refl; computer = sym ((same_name-Decides computer (codes "FILE1")).0 is); secret = refl; client = refl; server = refl; flags = refl });
}
last_by false computer channel is keeps = absurd (no_some channel keeps)

last_small : (controller : ℕ) (computer : List ℕ) (channel : ChannelIdentity) → KeepsAt the_controllers controller computer channel → IsLastAccepted controller computer channel (small_accepted ∷ [])
last_small zero computer channel at =
    last_by (same_name computer (codes "FILE1")) computer channel refl
    (ap (λ (r : Running). keeps_in 0 r.computers computer) (runs_here at.state at.running at.at at.runs) ∙ at.keeps)
last_small (suc k) computer channel at = absurd (got_nothing k at.state at.at)

none_waits : (controller : ℕ) (computer server : List ℕ) → WaitsAt the_controllers controller computer server → ⊥
none_waits zero computer server at =
    no_some server (ap (λ (r : Running). waits_in r.computers computer) (runs_here at.state at.running at.at at.runs) ∙ at.waits)
none_waits (suc k) computer server at = absurd (got_nothing k at.state at.at)

-- ---- what was accepted last

last_elsewhere : last_accepted 0 (codes "FILE1") (accepted_elsewhere ∷ []) ≡ None
unfolding same_name names.upper_of
last_elsewhere = refl

last_later : last_accepted 0 (codes "FILE1") (other_accepted ∷ small_accepted ∷ []) ≡ Some other_accepted
unfolding same_name names.upper_of
last_later = refl

-- ---- what waits

first_waits : (names : List (List ℕ)) → waits_in (waiting_for [] (codes "FILE1" ∷ names)) (codes "FILE1") ≡ Some []
unfolding same_name names.upper_of
first_waits names = refl

second_waits : waits_in (waiting_for [] (codes "FILE1" ∷ codes "FILE2" ∷ [])) (codes "FILE2") ≡ Some []
unfolding same_name names.upper_of
second_waits = refl

names_differ : same_name (codes "FILE1") (codes "FILE2") ≡ false
unfolding same_name names.upper_of
names_differ = refl

waits_at : (of : List (List ℕ)) (computer : List ℕ) → waits_in (waiting_for [] of) computer ≡ Some [] → WaitsAt (world_waiting [] of).state.ends.controllers 0 computer []
waits_at of computer waits = record {
  state = record (keeping_controller small_seed) { running = Some (record { computers = waiting_for [] of; links = [] }) };
  running = record { computers = waiting_for [] of; links = [] };
  at = refl;
  runs = refl;
  waits = waits;
}

pub of_openings : OfOpenings
of_openings = record {
  meets = record {
    once = one_apart (λ (one other : ChannelAccepted). one.channel.server ≢ other.channel.server) small_accepted;
    last = last_small;
    unused = λ controller computer server at. absurd (none_waits controller computer server at);
    one = λ controller other computer more server at also. absurd (none_waits controller computer server at);
  };
  fails_none = λ claim. let its = claim.last 0 (codes "FILE1") small_name keeps_small in no_some its.one its.last;
  fails_elsewhere = λ claim. let its = claim.last 0 (codes "FILE1") small_name keeps_small in no_some its.one (sym last_elsewhere ∙ its.last);
  fails_later = λ claim.
      let its = claim.last 0 (codes "FILE1") small_name keeps_small in
      let is : other_accepted ≡ its.one = some_is other_accepted its.one (sym last_later ∙ its.last) in
      let server : other_accepted.channel.server ≡ small_name.server = ap (λ (one : ChannelAccepted). one.channel.server) is ∙ its.same.server in
      absurd cc;
  fails_twice = λ claim. claim.once 0 1 small_accepted (omega arith) (omega arith) refl;
  fails_used = λ claim. (claim.unused 0 (codes "FILE1") [] (waits_at (codes "FILE1" ∷ []) (codes "FILE1") (first_waits []))).0 refl;
  fails_two = λ claim.
      let its = claim.one 0 0 (codes "FILE1") (codes "FILE2") [] (waits_at (codes "FILE1" ∷ codes "FILE2" ∷ []) (codes "FILE1") (first_waits (codes "FILE2" ∷ [])))
      (waits_at (codes "FILE1" ∷ codes "FILE2" ∷ []) (codes "FILE2") second_waits) in
      not_both (same_name (codes "FILE1") (codes "FILE2")) ((same_name-Decides (codes "FILE1") (codes "FILE2")).1 its.1) names_differ;
}

-- ---- the reply to an opening

-- what the claim says of unit 1
marked_so : (mark : Mark) (one : ChannelAccepted) → one.reply ≡ Some 1 → one.source ≡ InUnit 0 → OpeningsAreMarked (marked_as mark one) → mark ≡ Opened one.channel one.number 0
marked_so mark one reply came claim =
    let its : IsMarkedAsOpened (marked_as mark one) one 0 = claim.0 0 came in
    let here : 1 ≡ its.reply = some_is 1 its.reply (sym reply ∙ its.is) in
    let there : slice_get (marked_as mark one).book.sent 1 ≡ Some its.sent =
    subst (λ (k : ℕ). slice_get (marked_as mark one).book.sent k ≡ Some its.sent) (sym here) its.there in
    ap Sent.mark (some_is (sent_at 4 mark) its.sent there) ∙ its.mark

first_free : (sent : Sent) → slice_get (marked_as (Opened small_name 2 0) answered_opening).book.sent 0 ≡ Some sent → IsReplyOfOpening (answered_opening ∷ []) 0 sent.mark
first_free sent at = subst (λ (one : Sent). IsReplyOfOpening (answered_opening ∷ []) 0 one.mark) (some_is (sent_at 3 (Opening small_name 2)) sent at) tt

second_answers : (sent : Sent) → slice_get (marked_as (Opened small_name 2 0) answered_opening).book.sent 1 ≡ Some sent → IsReplyOfOpening (answered_opening ∷ []) 1 sent.mark
second_answers sent at =
    subst (λ (one : Sent). IsReplyOfOpening (answered_opening ∷ []) 1 one.mark) (some_is (sent_at 4 (Opened small_name 2 0)) sent at)
    (inl (record { opened = refl; call = refl; came = refl; answer = refl }))

replies_small : (number : ℕ) (sent : Sent) → slice_get (marked_as (Opened small_name 2 0) answered_opening).book.sent number ≡ Some sent → IsReplyOfOpening (answered_opening ∷ []) number sent.mark
replies_small zero sent at = first_free sent at
replies_small (suc zero) sent at = second_answers sent at
replies_small (suc (suc k)) sent at = absurd (got_nothing k sent at)

the_unit : (n : ℕ) → InUnit 0 ≡ InUnit n → 0 ≡ n
the_unit n is = cc

one_number : (number other request : ℕ) → Opened small_name number request ≡ Opened small_name other request → number ≡ other
one_number number other request is = cc

one_unit : (number request other : ℕ) → Opened small_name number request ≡ Opened small_name number other → request ≡ other
one_unit number request other is = cc

pub of_opened_replies : OfOpenedReplies
of_opened_replies = record {
  meets = record { replies = replies_small; unclashed = λ none. (ap not (itself small_name), tt) };
  meets_marks = (
    (λ n came. record { reply = 1; is = refl; sent = sent_at 4 (Opened small_name 2 0); there = refl; mark = ap (λ (k : ℕ). Opened small_name 2 k) (the_unit n came); step = refl }),
    tt,
  );
  outside = ((λ n came. absurd (let never : Outside ≡ InUnit n = came in cc)), tt);
  fails_plain = λ claim. absurd (let is : Plain ≡ Opened small_name 2 0 = marked_so Plain answered_opening refl refl claim in cc);
  fails_number = λ claim. absurd (omega (arith, one_number 3 2 0 (marked_so (Opened small_name 3 0) answered_opening refl refl claim)));
  fails_request = λ claim. absurd (omega (arith, one_unit 2 7 0 (marked_so (Opened small_name 2 7) answered_opening refl refl claim)));
  fails_unanswered = λ claim. let its = claim.0 0 refl in no_some its.reply its.is;
  fails_step = λ claim.
      let its : IsMarkedAsOpened (marked_as (Opened small_name 2 0) (record answered_opening { at = 3 })) (record answered_opening { at = 3 }) 0 = claim.0 0 refl in
      let here : 1 ≡ its.reply = some_is 1 its.reply its.is in
      let there : Some (sent_at 4 (Opened small_name 2 0)) ≡ Some its.sent =
      ap (λ (k : ℕ). slice_get (marked_as (Opened small_name 2 0) answered_opening).book.sent k) here ∙ its.there in
      let step : 4 ≡ 3 = ap (λ (s : Sent). s.at) (some_is (sent_at 4 (Opened small_name 2 0)) its.sent there) ∙ its.step in
      absurd (omega (arith, step));
  fails_other_number = λ claim. elim (claim.replies 1 (sent_at 4 (Opened small_name 3 0)) refl) [
    | inl its ↦ absurd (omega (arith, its.call))
    | inr none ↦ none
  ];
  fails_other_unit = λ claim. elim (claim.replies 1 (sent_at 4 (Opened small_name 2 0)) refl) [
    | inl its ↦ absurd (omega (arith, some_is 0 1 its.answer))
    | inr none ↦ none
  ];
  fails_clash = λ claim. absurd (let is : true ≡ false = (claim.unclashed refl).0 in cc);
}
