-- Channels with types, and calls on them, that were written down by hand: which meet the claims, and which don't.
-- It serves `kinds_tell_apart`.
use Rattle.std.proofs.Common.{◌≡◌, ℕ, zero, suc, Bool, true, false, List, [], ◌∷◌, Option, Some, None, if◌then◌else◌, inl, inr, refl, sym, ap, subst, ◌∙◌, slice_get}
use Rattle.std.specs.Prelude.{codes}
use Rattle.std.specs.List.{AllByRecursion}
use Rattle.wire_base.specs.Lists.{OneOf}
use Rattle.wire_base.specs.Maps.{lookup}
use Rattle.wire_base.specs.Names as names
use Rattle.wire_base.specs.Names.{same_name}
use Rattle.wire_base.proofs.ListLaws.{got_nothing, no_some, some_is}
use Rattle.wire_base.proofs.NameLaws.{same_name-Decides}
use Rattle.channel_keys.specs.ChannelTypes.{backup_controller_channel, trusted_domain_channel, workstation_channel}
use Rattle.authenticators.specs.Channels.{ChannelIdentity, SameChannel}
use Rattle.authenticators.specs.SecureChannels.{SecureChannelState}
use Rattle.outside.specs.declared.action.Judged.TheVariants as judged
use Rattle.controller_calls.specs.Handing.{hands_on}
use Rattle.channel_events.specs.Marks.{Calling, Mark, Opening, Plain}
use Rattle.channel_client.specs.State.{Requester}
use Rattle.domain_controller.specs.State.{State as ControllerState}
use Rattle.domain_controller.specs.declared.state.Running.{Running}
use Rattle.member_server.specs.State.{State as MemberState}
use Rattle.member_server.specs.declared.state.Running.{Running as MemberRunning}
use Rattle.step_notes.specs.Records.{ChannelAccepted, InUnit, Judging, Outside, Sent, Source, computer_named}
use Rattle.world_moves.specs.declared.bag.BagUnit.{BagUnit}
use Rattle.world_moves.specs.declared.links.LinkKind.{LinkKind}
use Rattle.world_moves.specs.declared.links.LinkKind.TheVariants as kind
use Rattle.domain_world.specs.Claims.ChannelKinds.{CallsFollowOpenings, IsAsOpened, IsCheckedAsOpened, IsHandedOnBy, IsLastOpened, IsMadeAsCall, IsOpenedLikewise, KeepsChannel, KindsFollowOpenings, PassesAreCalls, kind_asked}
use Rattle.domain_world.proofs.Judgements.Openings.KindDecideLaws.{kinds_decide}
use Rattle.domain_world.specs.Claims.Openings.{last_accepted, newer_if}
use Rattle.domain_world.specs.Past.{sent_at}
use Rattle.claim_examples.specs.ClaimExamples.{keeping_controller, small_name}
use Rattle.claim_examples.specs.KindExamples.{OfAskers, OfCallsOpened, OfHops, OfKinds, OfKindsAsked, asked_as, call_on, called_over, controller_asking, handed_on, later_as, member_asking, opened_as, opened_in_unit, typed_channel, typed_computers, typed_run, unit_over, world_keeping}
use Rattle.claim_examples.proofs.SequenceLaws.{same_small}

-- ---- what is kept

kept_typed : (type : Option ℕ) → lookup same_name (codes "FILE1") (typed_computers type).channels ≡ Some (typed_channel type)
unfolding same_name names.upper_of
kept_typed type = refl

abbrev the_running : Option ℕ → Running
the_running type = record { computers = typed_computers type; links = [] }

abbrev the_state : Option ℕ → ControllerState
the_state type = record (keeping_controller []) { running = Some (the_running type) }

keeps_typed : (type : Option ℕ) (bag : List BagUnit) → KeepsChannel (world_keeping type bag).state.ends.controllers 0 (codes "FILE1") (typed_channel type)
keeps_typed type bag = record { state = the_state type; running = the_running type; at = refl; runs = refl; keeps = kept_typed type }

-- the first controller runs with what it keeps
runs_here : (type : Option ℕ) (state : ControllerState) (running : Running) → slice_get (the_state type ∷ []) 0 ≡ Some state → state.running ≡ Some running → the_running type ≡ running
runs_here type state running at runs =
    let one : the_state type ≡ state = some_is (the_state type) state at in
    some_is (the_running type) running (ap ControllerState.running one ∙ runs)

-- the opening of FILE1's channel, by where it came from
abbrev from : Source → ℕ → ChannelAccepted
from source type = record (opened_as type) { source = source }

-- only FILE1's channel is kept, so what is kept for a computer is of the opening of that one
last_by : (hit : Bool) (source : Source) (type : ℕ) (computer : List ℕ) (has : SecureChannelState) → same_name computer (codes "FILE1") ≡ hit →
    (if hit then Some (typed_channel (Some type)) else None) ≡ Some has → IsLastOpened 0 computer has (from source type ∷ [])
last_by true source type computer has is keeps = record {
  one = from source type;
  last = ap (λ (b : Bool). newer_if b (from source type) None) is;
  is = subst (λ (c : SecureChannelState). IsAsOpened 0 computer c (from source type)) (some_is (typed_channel (Some type)) has keeps) (record {
    same = record { controller = refl; computer = sym ((same_name-Decides computer (codes "FILE1")).0 is); secret = refl; client = refl; server = refl; flags = refl };
    kind_is = refl;
  });
}
last_by false source type computer has is keeps = absurd (no_some has keeps)

last_kept : (source : Source) (type : ℕ) (bag : List BagUnit) (controller : ℕ) (computer : List ℕ) (has : SecureChannelState) →
    KeepsChannel (world_keeping (Some type) bag).state.ends.controllers controller computer has → IsLastOpened controller computer has (from source type ∷ [])
last_kept source type bag zero computer has at =
    last_by (same_name computer (codes "FILE1")) source type computer has refl
    (ap (λ (r : Running). lookup same_name computer r.computers.channels) (runs_here (Some type) at.state at.running at.at at.runs) ∙ at.keeps)
last_kept source type bag (suc k) computer has at = absurd (got_nothing k at.state at.at)

-- ---- a call

checked_typed : (type : ℕ) (j : Judging) → j.controller ≡ 0 → computer_named j.asked ≡ Some (codes "FILE1") → j.checks ≡ Some (typed_channel (Some type)) → IsCheckedAsOpened (opened_as type ∷ []) j
checked_typed type j here named checks computer has other there =
    let name : codes "FILE1" ≡ computer = some_is (codes "FILE1") computer (sym named ∙ other) in
    let same : typed_channel (Some type) ≡ has = some_is (typed_channel (Some type)) has (sym checks ∙ there) in
    inl (subst (λ (k : ℕ). IsAsOpened k computer has (opened_as type)) (sym here)
    (subst (λ (c : SecureChannelState). IsAsOpened 0 computer c (opened_as type)) same
    (subst (λ (n : List ℕ). IsAsOpened 0 n (typed_channel (Some type)) (opened_as type)) name (record { same = same_small; kind_is = refl }))))

handed_typed : (type : ℕ) → hands_on (Some type) ≡ true → IsHandedOnBy (handed_on (call_on (Some type))) (opened_as type)
handed_typed type hands = record { channel = small_name; passed = refl; same = same_small; hands = hands }

handed_kinds : (type : ℕ) → hands_on (Some type) ≡ true → KindsFollowOpenings (typed_run (Some type) (opened_as type ∷ []) (handed_on (call_on (Some type)) ∷ []))
handed_kinds type hands = record {
  kept = last_kept Outside type [];
  checked = (checked_typed type (handed_on (call_on (Some type))) refl refl refl, tt);
  handed = ((λ forwarded. inl (handed_typed type hands)), tt);
}

last_first : (source : Source) (type : ℕ) → last_accepted 0 (codes "FILE1") (from source type ∷ []) ≡ Some (from source type)
unfolding same_name names.upper_of
last_first source type = refl

last_later : (one other : ℕ) → last_accepted 0 (codes "FILE1") (later_as other ∷ opened_as one ∷ []) ≡ Some (later_as other)
unfolding same_name names.upper_of
last_later one other = refl

-- what is kept for FILE1 has the type of its opening
type_kept : (type : Option ℕ) (other : ℕ) (judgings : List Judging) → KindsFollowOpenings (typed_run type (opened_as other ∷ []) judgings) → type ≡ Some other
type_kept type other judgings claim =
    let its : IsLastOpened 0 (codes "FILE1") (typed_channel type) (opened_as other ∷ []) = claim.kept 0 (codes "FILE1") (typed_channel type) (keeps_typed type []) in
    its.is.kind_is ∙ ap (λ (one : ChannelAccepted). Some one.kind) (some_is its.one (opened_as other) (sym its.last ∙ last_first Outside other))

pub of_kinds : OfKinds
of_kinds = record {
  meets = handed_kinds workstation_channel refl;
  meets_backup = handed_kinds backup_controller_channel refl;
  meets_trust = record {
    kept = last_kept Outside trusted_domain_channel [];
    checked = (checked_typed trusted_domain_channel (call_on (Some trusted_domain_channel)) refl refl refl, tt);
    handed = ((λ forwarded. absurd (let never : Some (judged.Passed 0) ≡ Some judged.Forwarded = forwarded in cc)), tt);
  };
  fails_type = λ claim. let is = type_kept (Some trusted_domain_channel) workstation_channel [] claim in absurd cc;
  fails_none = λ claim. no_some workstation_channel (type_kept None workstation_channel [] claim);
  fails_later = λ claim.
      let its = claim.kept 0 (codes "FILE1") (typed_channel (Some workstation_channel)) (keeps_typed (Some workstation_channel) []) in
      let one : its.one ≡ later_as trusted_domain_channel = some_is its.one (later_as trusted_domain_channel) (sym its.last ∙ last_later workstation_channel trusted_domain_channel) in
      let is : Some workstation_channel ≡ Some trusted_domain_channel = its.is.kind_is ∙ ap (λ (o : ChannelAccepted). Some o.kind) one in
      absurd cc;
  fails_checked = λ claim.
      elim (claim.checked.0 (codes "FILE1") (typed_channel (Some trusted_domain_channel)) refl refl) [
        | inl is ↦ let same : Some trusted_domain_channel ≡ Some workstation_channel = is.kind_is in absurd cc
        | inr none ↦ absurd none
      ];
  fails_handed = λ claim.
      elim (claim.handed.0 refl) [ inl is ↦ let never : false ≡ true = is.hands in absurd cc | inr none ↦ absurd none ];
}

-- ---- who asked

one_member : (type at : ℕ) (m : MemberState) (running : MemberRunning) → slice_get (member_asking type ∷ []) at ≡ Some m → m.running ≡ Some running → running.logons.channel.caller.kind ≡ type
one_member type zero m running there runs =
    let same : member_asking type ≡ m = some_is (member_asking type) m there in
    let both : (member_asking type).running ≡ Some running = ap MemberState.running same ∙ runs in
    ap (λ (r : MemberRunning). r.logons.channel.caller.kind) (sym (some_is _ running both))
one_member type (suc k) m running there runs = absurd (got_nothing k m there)

one_controller : (type at : ℕ) (c : ControllerState) → slice_get (controller_asking type ∷ []) at ≡ Some c →
    AllByRecursion (λ (asks : Requester). asks.caller.kind ≡ type) c.trusting.queues.requesters
one_controller type zero c there =
    subst (λ (one : ControllerState). AllByRecursion (λ (asks : Requester). asks.caller.kind ≡ type) one.trusting.queues.requesters)
    (some_is (controller_asking type) c there) (refl, tt)
one_controller type (suc k) c there = absurd (got_nothing k c there)

pub of_askers : OfAskers
of_askers = record {
  meets = record {
    members = λ at m running there runs. one_member workstation_channel at m running there runs;
    controllers = λ at c there. one_controller trusted_domain_channel at c there;
  };
  fails_member = λ claim. let is : trusted_domain_channel ≡ workstation_channel = claim.members 0 (member_asking trusted_domain_channel) _ refl refl in absurd cc;
  fails_controller = λ claim.
      let is : workstation_channel ≡ trusted_domain_channel = (claim.controllers 0 (controller_asking workstation_channel) refl).0 in absurd cc;
}

the_unit : (over : LinkKind) (unit : BagUnit) (n : ℕ) → InUnit 0 ≡ InUnit n → slice_get (unit_over over ∷ []) n ≡ Some unit → unit_over over ≡ unit
the_unit over unit zero came there = some_is (unit_over over) unit there
the_unit over unit (suc n) came there = absurd (got_nothing n unit there)

asked_so : (over : LinkKind) (type : ℕ) → kind_asked over ≡ Some type → (n : ℕ) (unit : BagUnit) → InUnit 0 ≡ InUnit n → slice_get (unit_over over ∷ []) n ≡ Some unit → kind_asked unit.kind ≡ Some type
asked_so over type is n unit came there = ap (λ (u : BagUnit). kind_asked u.kind) (sym (the_unit over unit n came there)) ∙ is

pub of_kinds_asked : OfKindsAsked
of_kinds_asked = record {
  meets_member = λ calm. ((λ n unit came there. asked_so kind.ToController workstation_channel refl n unit came there), tt);
  meets_controller = λ calm. ((λ n unit came there. asked_so kind.Between trusted_domain_channel refl n unit came there), tt);
  fails_member = λ claim. let is : Some workstation_channel ≡ Some trusted_domain_channel = (claim refl).0 0 (unit_over kind.ToController) refl refl in absurd cc;
  fails_controller = λ claim. let is : Some trusted_domain_channel ≡ Some workstation_channel = (claim refl).0 0 (unit_over kind.Between) refl refl in absurd cc;
  fails_backup = λ claim. let is : Some workstation_channel ≡ Some backup_controller_channel = (claim refl).0 0 (unit_over kind.ToController) refl refl in absurd cc;
  clash = λ calm. absurd (let never : true ≡ false = calm in cc);
  outside = λ calm. ((λ n unit came there. absurd (let never : Outside ≡ InUnit n = came in cc)), tt);
  meets_kept = kinds_decide.kept (asked_as kind.Between trusted_domain_channel) (record {
    kept = last_kept (InUnit 0) trusted_domain_channel (unit_over kind.Between ∷ []);
    checked = tt;
    handed = tt;
  }) (λ calm. ((λ n unit came there. asked_so kind.Between trusted_domain_channel refl n unit came there), tt));
  fails_kept = λ claim.
      let is : Some workstation_channel ≡ Some trusted_domain_channel =
      claim refl 0 (codes "FILE1") (typed_channel (Some workstation_channel)) (from (InUnit 0) workstation_channel) 0 (unit_over kind.Between)
      (keeps_typed (Some workstation_channel) (unit_over kind.Between ∷ [])) (last_first (InUnit 0) workstation_channel) refl refl in
      absurd cc;
}

-- ---- how far a call goes

-- the call came in unit 1, which is one of a member's
second_unit : (over : LinkKind) (unit : BagUnit) (n : ℕ) → InUnit 1 ≡ InUnit n → slice_get (unit_over over ∷ unit_over over ∷ []) n ≡ Some unit → unit_over over ≡ unit
second_unit over unit zero came there = absurd (let never : InUnit 1 ≡ InUnit 0 = came in cc)
second_unit over unit (suc zero) came there = some_is (unit_over over) unit there
second_unit over unit (suc (suc n)) came there = absurd (got_nothing n unit there)

pub of_hops : OfHops
of_hops = record {
  meets_member = λ calm. (
    (λ n unit came there between forwarded.
        absurd (let never : kind.ToController ≡ kind.Between = ap (λ (u : BagUnit). u.kind) (second_unit kind.ToController unit n came there) ∙ between in cc)),
    tt,
  );
  meets_controller = λ calm. (
    (λ n unit came there between forwarded. absurd (let never : Some (judged.Passed 0) ≡ Some judged.Forwarded = forwarded in cc)),
    tt,
  );
  fails = λ claim. (claim refl).0 1 (unit_over kind.Between) refl refl refl refl;
  clash = λ calm. absurd (let never : true ≡ false = calm in cc);
}

-- ---- calls, and what they follow

mark_here : (mark : Mark) (n : ℕ) (sent : Sent) (channel : ChannelIdentity) (number timestamp : ℕ) →
    slice_get (sent_at 0 (Opening small_name 2) ∷ sent_at 1 mark ∷ []) n ≡ Some sent → sent.mark ≡ Calling channel number timestamp → (1 ≡ n) × (mark ≡ Calling channel number timestamp)
mark_here mark zero sent channel number timestamp there is =
    absurd (let never : Opening small_name 2 ≡ Calling channel number timestamp = ap Sent.mark (some_is (sent_at 0 (Opening small_name 2)) sent there) ∙ is in cc)
mark_here mark (suc zero) sent channel number timestamp there is = (refl, ap Sent.mark (some_is (sent_at 1 mark) sent there) ∙ is)
mark_here mark (suc (suc n)) sent channel number timestamp there is = absurd (got_nothing n sent there)

second_number : (n : ℕ) → InUnit 1 ≡ InUnit n → 1 ≡ n
second_number n came = cc

-- what `CallsFollowOpenings` says of the call in unit 1
opened_for : (opened called : LinkKind) (channel : ChannelIdentity) (accepted : List ChannelAccepted) → CallsFollowOpenings (called_over opened called (Calling channel 3 0) accepted) →
    OneOf (IsOpenedLikewise (called_over opened called (Calling channel 3 0) accepted) (unit_over called) channel) accepted
opened_for opened called channel accepted claim = claim refl 1 (unit_over called) (sent_at 1 (Calling channel 3 0)) channel 3 0 refl refl refl

-- what `PassesAreCalls` says of the call that passed in unit 1
made_as : (mark : Mark) → PassesAreCalls (called_over kind.Between kind.Between mark []) → IsMadeAsCall (called_over kind.Between kind.Between mark []) 1
made_as mark claim = (claim refl).0 1 small_name refl refl

marked_as : (mark : Mark) (claim : PassesAreCalls (called_over kind.Between kind.Between mark [])) →
    let made : IsMadeAsCall (called_over kind.Between kind.Between mark []) 1 = made_as mark claim in mark ≡ Calling made.channel made.number made.timestamp
marked_as mark claim =
    let made : IsMadeAsCall (called_over kind.Between kind.Between mark []) 1 = made_as mark claim in
    ap Sent.mark (some_is (sent_at 1 mark) made.sent made.there) ∙ made.mark

pub of_calls_opened : OfCallsOpened
of_calls_opened = record {
  meets = λ calm n unit sent channel number timestamp there noted is.
      let here = mark_here (Calling small_name 3 0) n sent channel number timestamp noted is in
      let same : small_name ≡ channel = let both : Calling small_name 3 0 ≡ Calling channel number timestamp = here.1 in cc in
      let second : unit_over kind.Between ≡ unit =
      some_is (unit_over kind.Between) unit (subst (λ (k : ℕ). slice_get (unit_over kind.Between ∷ unit_over kind.Between ∷ []) k ≡ Some unit) (sym here.0) there) in
      inl (record {
        same = subst (λ (c : ChannelIdentity). SameChannel small_name c) same same_small;
        n = 0;
        came = refl;
        opened = unit_over kind.Between;
        there = refl;
        kind_is = ap (λ (u : BagUnit). u.kind) second;
      });
  fails_kind = λ claim.
      elim (opened_for kind.ToController kind.Between small_name (opened_in_unit ∷ []) claim) [
        | inl is ↦
            let zero_is : 0 ≡ is.n = let both : InUnit 0 ≡ InUnit is.n = is.came in cc in
            let first : unit_over kind.ToController ≡ is.opened =
            some_is (unit_over kind.ToController) is.opened
            (subst (λ (k : ℕ). slice_get (unit_over kind.ToController ∷ unit_over kind.Between ∷ []) k ≡ Some is.opened) (sym zero_is) is.there) in
            absurd (let never : kind.ToController ≡ kind.Between = ap (λ (u : BagUnit). u.kind) first ∙ is.kind_is in cc)
        | inr none ↦ absurd none
      ];
  fails_channel = λ claim.
      elim (opened_for kind.Between kind.Between (record small_name { controller = 1 }) (opened_in_unit ∷ []) claim) [
        | inl is ↦ absurd (let never : 0 ≡ 1 = is.same.controller in cc)
        | inr none ↦ absurd none
      ];
  fails_outside = λ claim.
      elim (opened_for kind.Between kind.Between small_name (opened_as trusted_domain_channel ∷ []) claim) [
        | inl is ↦ absurd (let never : Outside ≡ InUnit is.n = is.came in cc)
        | inr none ↦ absurd none
      ];
  fails_none = λ claim. opened_for kind.Between kind.Between small_name [] claim;
  meets_call = λ calm. (
    (λ n channel came passed. subst (λ (k : ℕ). IsMadeAsCall (called_over kind.Between kind.Between (Calling small_name 3 0) []) k) (second_number n came)
        (record { sent = sent_at 1 (Calling small_name 3 0); there = refl; channel = small_name; number = 3; timestamp = 0; mark = refl })),
    tt,
  );
  fails_plain = λ claim. let is = marked_as Plain claim in absurd cc;
  fails_opening = λ claim. let is = marked_as (Opening small_name 3) claim in absurd cc;
}
