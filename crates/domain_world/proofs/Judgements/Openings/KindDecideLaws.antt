-- What follows of channels that have the types of who asks: no call that came from another controller is handed on. It
-- serves `kinds_decide_who_is_asked`.
use Rattle.std.proofs.Common.{◌≡◌, ◌≢◌, ℕ, true, false, List, [], ◌∷◌, Option, Some, inl, inr, slice_get, refl, sym, ap, ◌∙◌}
use Rattle.std.specs.List.{AllByRecursion}
use Rattle.wire_base.specs.Lists.{OneOf}
use Rattle.wire_base.proofs.AllLaws.{all_zip}
use Rattle.wire_base.proofs.ListLaws.{no_some, one_found, one_with, some_is}
use Rattle.wire_base.proofs.ListPlaceLaws.{Placed, placed}
use Rattle.channel_keys.specs.ChannelTypes.{trusted_domain_channel}
use Rattle.authenticators.specs.Channels.{ChannelIdentity}
use Rattle.outside.specs.declared.action.Judged.TheVariants as judged
use Rattle.rpc_units.specs.declared.unit.Unit.{Unit as RpcUnit}
use Rattle.controller_calls.specs.Handing.{hands_on}
use Rattle.controller_calls.specs.declared.calls.JudgedCall.{JudgedCall}
use Rattle.channel_events.specs.Marks.{Calling, Mark, Opened, Opening, Plain, ReplyTo}
use Rattle.step_notes.specs.Judged.{passed_channel}
use Rattle.step_notes.specs.Marking.{clashes, mark_channel}
use Rattle.step_notes.specs.Records.{ChannelAccepted, InUnit, Judging, Sent, unit_in}
use Rattle.world_moves.specs.declared.bag.BagUnit.{BagUnit}
use Rattle.world_moves.specs.declared.links.LinkKind.TheVariants as kind
use Rattle.domain_world.specs.Accepting.Answered.{PassesAreUnclashed}
use Rattle.domain_world.specs.Accepting.Carried.{IsJudgedAsCarried, IsNotJudged, IsPlain, IsWholeAsMarked, IsWholeUnit, JudgedAsCarried, MarkedUnitsAreWhole, call_carried, call_judged}
use Rattle.domain_world.specs.Claims.ChannelKinds.{CallsAreOpened, IsHandedOnBy, IsLastOpened, IsMadeAsCall, IsNoSecondHop, IsOfItsKind, IsOpenedLikewise, IsPassedAsCall, KeptHaveKindsAsked, KindsDecide, KindsFollowOpenings, OpeningsNameTheirKind, PassesAreCalls, kind_asked}
use Rattle.domain_world.specs.Past.{Past, plain_form}
use Rattle.domain_world.proofs.Acceptance.CarriedLaws.{one_unit}
use Rattle.domain_world.proofs.Acceptance.Turns.TurnNotedLaws.{IsMadeFor, unclashed as made_unless}
use Rattle.domain_world.proofs.Apart.OrderToldLaws.{AreOnce}
use Rattle.domain_world.proofs.Apart.ToldRunLaws.{once_by_pairs}
use Rattle.domain_world.proofs.Judgements.Openings.OpeningKindLaws.{last_found}

-- ---- one opening, by its server's challenge

abbrev IsBoth : (P Q : ChannelAccepted → Type 0) → Type 0
IsBoth P Q = (one : ChannelAccepted) × P one × Q one

module _ (P Q : ChannelAccepted → Type 0) (same : (one other : ChannelAccepted) → P one → Q other → one.channel.server ≡ other.channel.server) where
  both_of : (accepted : List ChannelAccepted) → AreOnce accepted → OneOf P accepted → OneOf Q accepted → IsBoth P Q
  both_of [] once one other = absurd one
  both_of (first ∷ older) once one other = elim one [
    | inl here ↦ elim other [
      | inl too ↦ (first, here, too)
      | inr later ↦
          let found = one_found Q (λ (o : ChannelAccepted). o.channel.server ≢ first.channel.server) older once.0 later in
          absurd (found.2 (sym (same first found.0 here found.1)))
    ]
    | inr earlier ↦ elim other [
      | inl too ↦
          let found = one_found P (λ (o : ChannelAccepted). o.channel.server ≢ first.channel.server) older once.0 earlier in
          absurd (found.2 (same found.0 first found.1 too))
      | inr later ↦ both_of older once.1 earlier later
    ]
  ]

-- ---- a call that was judged, in a unit of the bag

record IsJudgedUnit (past : Past) (n : ℕ) (unit : BagUnit) (asked : JudgedCall) : Type 0 where
  whole : IsWholeUnit (plain_form past.book.sent n unit)
  carried : call_carried whole.unit.body ≡ Some (call_judged asked)

not_judged : (past : Past) (n : ℕ) (unit : BagUnit) (asked : JudgedCall) → IsJudgedUnit past n unit asked → (whole : IsWholeUnit (plain_form past.book.sent n unit)) →
    (IsNotJudged whole.unit) → ⊥
not_judged past n unit asked is whole never =
    never asked (ap (λ (u : RpcUnit). call_carried u.body) (one_unit (plain_form past.book.sent n unit) whole is.whole) ∙ is.carried)

-- ---- kept channels

kept_so : (past : Past) → KindsFollowOpenings past → OpeningsNameTheirKind past → KeptHaveKindsAsked past
kept_so past kinds named calm controller computer has one n unit keeps last came there =
    let its : IsLastOpened controller computer has past.book.accepted = kinds.kept controller computer has keeps in
    let same : its.one ≡ one = some_is its.one one (sym its.last ∙ last) in
    let asked = one_found (λ (o : ChannelAccepted). o ≡ one) (IsOfItsKind past.world.state.bag) past.book.accepted (named calm)
    (last_found (λ (o : ChannelAccepted). o ≡ one) controller computer past.book.accepted one last refl) in
    its.is.kind_is
    ∙ ap (λ (o : ChannelAccepted). Some o.kind) (same ∙ sym asked.1)
    ∙ sym (asked.2 n unit (ap (λ (o : ChannelAccepted). o.source) asked.1 ∙ came) there)

-- ---- what passes was made as a call

-- the unit is a call, where it is none of the others that are made for a channel
called_by : (past : Past) (n : ℕ) (sent : Sent) (unit : BagUnit) (asked : JudgedCall) (mark : Mark) → slice_get past.book.sent n ≡ Some sent → sent.mark ≡ mark →
    (named : ChannelIdentity) → mark_channel mark ≡ Some named → IsJudgedUnit past n unit asked → IsWholeAsMarked mark (plain_form past.book.sent n unit) → IsMadeAsCall past n
called_by past n sent unit asked Plain there is named made judged_so whole = absurd (no_some named made)
called_by past n sent unit asked (Opening channel number) there is named made judged_so whole = absurd (not_judged past n unit asked judged_so whole.whole whole.marked.0)
called_by past n sent unit asked (Opened channel number request) there is named made judged_so whole = absurd (not_judged past n unit asked judged_so whole.whole whole.marked.0)
called_by past n sent unit asked (Calling channel number timestamp) there is named made judged_so whole =
    record { sent = sent; there = there; channel = channel; number = number; timestamp = timestamp; mark = is }
called_by past n sent unit asked (ReplyTo channel number request) there is named made judged_so whole = absurd (not_judged past n unit asked judged_so whole.whole whole.marked.0)

not_plain : (mark : Mark) (named : ChannelIdentity) → mark_channel mark ≡ Some named → IsPlain mark → ⊥
not_plain Plain named made plain = no_some named made
not_plain (Opening channel number) named made plain = absurd plain
not_plain (Opened channel number request) named made plain = absurd plain
not_plain (Calling channel number timestamp) named made plain = absurd plain
not_plain (ReplyTo channel number request) named made plain = absurd plain

one_made : (past : Past) → MarkedUnitsAreWhole past → (j : Judging) → ((n : ℕ) → j.source ≡ InUnit n → IsJudgedAsCarried past j n) →
    clashes (passed_channel j) (unit_in j.source) past.book.sent ≡ false → IsPassedAsCall past j
one_made past whole j carried fits n channel came passed =
    let its : IsJudgedAsCarried past j n = carried n came in
    let fits_to : IsMadeFor channel n past.book.sent =
    made_unless channel n past.book.sent
    (sym (ap (λ (c : Option ChannelIdentity). clashes c (Some n) past.book.sent) passed)
    ∙ sym (ap (λ (u : Option ℕ). clashes (passed_channel j) u past.book.sent) (ap unit_in came))
    ∙ fits) in
    called_by past n fits_to.sent its.carrier j.asked fits_to.sent.mark fits_to.noted refl fits_to.named fits_to.made (record { whole = its.whole; carried = its.carried })
    (whole n its.carrier fits_to.sent its.there fits_to.noted (not_plain fits_to.sent.mark fits_to.named fits_to.made))

made_so : (past : Past) → MarkedUnitsAreWhole past → JudgedAsCarried past → PassesAreUnclashed past → PassesAreCalls past
made_so past whole carried passes calm =
    all_zip (λ (j : Judging). (n : ℕ) → j.source ≡ InUnit n → IsJudgedAsCarried past j n)
    (λ (j : Judging). clashes (passed_channel j) (unit_in j.source) past.book.sent ≡ false) (IsPassedAsCall past) past.book.judged (one_made past whole) carried (passes calm)

-- ---- a call of another controller

trusts_stay : hands_on (Some trusted_domain_channel) ≡ true → ⊥
trusts_stay is = absurd (let never : false ≡ true = is in cc)

module _ (past : Past) (kinds : KindsFollowOpenings past) (named : OpeningsNameTheirKind past) (calls : CallsAreOpened past) (calm : past.book.clash ≡ false) where
  abbrev bag : List BagUnit
  bag = past.world.state.bag

  abbrev accepted : List ChannelAccepted
  accepted = past.book.accepted

  -- what is known of a call that passed
  abbrev IsCallKnown : Judging → Type 0
  IsCallKnown j = IsPassedAsCall past j × (clashes (passed_channel j) (unit_in j.source) past.book.sent ≡ false)

  -- the opening, of the type of who sent it, by which the call was handed on
  abbrev IsKnownHand : Judging → ChannelAccepted → Type 0
  IsKnownHand j one = IsOfItsKind bag one × IsHandedOnBy j one

  -- an opening in a unit of a controller names no type that hands on
  no_hand : (j : Judging) (unit : BagUnit) (channel : ChannelIdentity) (one : ChannelAccepted) → unit.kind ≡ kind.Between → IsKnownHand j one → IsOpenedLikewise past unit channel one → ⊥
  no_hand j unit channel one between known likewise =
      let asked : Some trusted_domain_channel ≡ Some one.kind =
      sym (ap kind_asked (likewise.kind_is ∙ between)) ∙ known.0 likewise.n likewise.opened likewise.came likewise.there in
      trusts_stay (ap hands_on asked ∙ known.1.hands)

  no_hop : (j : Judging) → (j.how ≡ Some judged.Forwarded → OneOf (IsHandedOnBy j) accepted) → IsCallKnown j → IsNoSecondHop bag j
  no_hop j handed known n unit came there between forwarded =
      let first : Placed (IsHandedOnBy j) accepted = placed (IsHandedOnBy j) accepted (handed forwarded) in
      let made : IsMadeAsCall past n = known.0 n first.is.channel came first.is.passed in
      let called : OneOf (IsOpenedLikewise past unit made.channel) accepted =
      calls.called calm n unit made.sent made.channel made.number made.timestamp there made.there made.mark in
      let hands : OneOf (IsKnownHand j) accepted =
      one_with (IsOfItsKind bag) (IsHandedOnBy j) (IsKnownHand j) accepted (λ one its on. (its, on)) (named calm) (handed forwarded) in
      let one_server : (one other : ChannelAccepted) → IsKnownHand j one → IsOpenedLikewise past unit made.channel other → one.channel.server ≡ other.channel.server =
      λ one other on likewise.
      let fits_to : IsMadeFor on.1.channel n past.book.sent =
      made_unless on.1.channel n past.book.sent
      (sym (ap (λ (c : Option ChannelIdentity). clashes c (Some n) past.book.sent) on.1.passed)
      ∙ sym (ap (λ (u : Option ℕ). clashes (passed_channel j) u past.book.sent) (ap unit_in came))
      ∙ known.1) in
      let sent : fits_to.sent ≡ made.sent = some_is fits_to.sent made.sent (sym fits_to.noted ∙ made.there) in
      let is : fits_to.named ≡ made.channel =
      some_is fits_to.named made.channel (sym fits_to.made ∙ ap (λ (s : Sent). mark_channel s.mark) sent ∙ ap mark_channel made.mark) in
      on.1.same.server ∙ sym fits_to.same.server ∙ ap (λ (c : ChannelIdentity). c.server) is ∙ sym likewise.same.server in
      let found : IsBoth (IsKnownHand j) (IsOpenedLikewise past unit made.channel) =
      both_of (IsKnownHand j) (IsOpenedLikewise past unit made.channel) one_server accepted (once_by_pairs accepted calls.order.once) hands called in
      no_hand j unit made.channel found.0 between found.1 found.2

  takes_one : AllByRecursion (IsNoSecondHop bag) past.book.judged
  takes_one =
      all_zip (λ (j : Judging). j.how ≡ Some judged.Forwarded → OneOf (IsHandedOnBy j) accepted) IsCallKnown (IsNoSecondHop bag) past.book.judged no_hop kinds.handed
      (all_zip (IsPassedAsCall past)
      (λ (j : Judging). clashes (passed_channel j) (unit_in j.source) past.book.sent ≡ false) IsCallKnown past.book.judged (λ j made fits. (made, fits)) (calls.made calm) (calls.passes calm))

pub kinds_decide : KindsDecide
kinds_decide = record { kept = kept_so; made = made_so; hop = takes_one }
