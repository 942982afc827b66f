-- In every schedule without a clash each unit that was made as the reply to an opening answers one opening of its
-- channel, with its number, which was accepted at the step that sent it. It serves `Proved.opened_by`.
use Rattle.std.proofs.Common.{◌≡◌, ℕ, true, false, List, Option, Some, slice_get, sym, ap, subst, ◌∙◌}
use Rattle.wire_base.specs.Numbers.{AreBytes}
use Rattle.authenticators.specs.Channels.{ChannelIdentity, SameChannel}
use Rattle.rpc_units.specs.declared.unit.Unit.{Unit as RpcUnit}
use Rattle.logon_stubs.specs.declared.calls.AuthCall.{AuthCall}
use Rattle.controller_calls.specs.declared.calls.ControllerCall.TheVariants as call
use Rattle.end_links.specs.Sending.{request_of}
use Rattle.wire_base.specs.Lists.{OneOf}
use Rattle.channel_events.specs.Marks.{Mark, Plain, Opening, Opened, Calling, ReplyTo}
use Rattle.wire_base.proofs.ListLaws.{some_is}
use Rattle.step_notes.specs.Marking.{clashes, mark_channel}
use Rattle.step_notes.specs.Records.{ChannelAccepted, InUnit, Sent, unit_in}
use Rattle.world_moves.specs.declared.bag.BagUnit.{BagUnit}
use Rattle.world_moves.specs.declared.moves.Move.{Move}
use Rattle.world_moves.specs.declared.plan.Plan.{Plan}
use Rattle.world_moves.specs.Forms.{IsSchedule}
use Rattle.world_moves.specs.Alone.{IsPlainAlone}
use Rattle.domain_world.specs.Accepting.Answered.{IsItsWay}
use Rattle.domain_world.specs.Accepting.Carried.{call_carried}
use Rattle.step_notes.specs.HeardWhole.{request_read}
use Rattle.domain_world.specs.Claims.OpeningReplies.{AnswersOpening, IsAcceptedIn, IsMarkedAsOpened, IsReplyOfOpening, RepliesAreToOpenings}
use Rattle.domain_world.specs.Past.{Past, past}
use Rattle.domain_world.proofs.Acceptance.CarriedLaws.{one_whole}
use Rattle.domain_world.proofs.Acceptance.Heard.HeardFrontLaws.{IsOfRequest, of_request}
use Rattle.domain_world.proofs.Acceptance.Heard.MarkSentLaws.{IsCallSent, IsRequestSent, IsStampedCall}
use Rattle.domain_world.proofs.Acceptance.Heard.MarkWholeLaws.{FitsMark, OfMark, marks_fit}
use Rattle.domain_world.proofs.Acceptance.Heard.OpeningCarriedLaws.{IsCarriedOpening, IsOpenedWell, openings_carried}
use Rattle.wire_base.proofs.ListPlaceLaws.{Placed, one_at, placed}
use Rattle.domain_world.proofs.Acceptance.MarkRunLaws.{openings_marked}
use Rattle.domain_world.proofs.Quiet.QuietRunLaws.{has_bytes}
use Rattle.domain_world.proofs.Acceptance.Turns.TurnNotedLaws.{IsMadeFor, unclashed as made_unless}
use Rattle.domain_world.proofs.Frames.BagFrameLaws.{IsOfUnit}
use Rattle.domain_world.proofs.Moves.PlacedLaws.{bytes_in}
use Rattle.domain_world.proofs.Judgements.Openings.EveryOpeningLaws.{replies_answer_openings}
use Rattle.domain_world.proofs.Calls.MarkWayLaws.{marks_have_their_way}
use Rattle.domain_controller.proofs.TrustPlaceLaws.{got_all}

-- ---- a call of a turn opens no channel

no_opening : (opnum : ℕ) (stub : List ℕ) (timestamp : ℕ) (c : AuthCall) → IsStampedCall opnum stub timestamp → request_read opnum stub ≡ Some (call.Authenticate c) → ⊥
no_opening opnum stub timestamp c stamped is =
    let never : Some (call.Judged stamped.asked) ≡ Some (call.Authenticate c) = sym stamped.read ∙ is in
    absurd (let x = never in cc)

-- ---- which mark the unit of an opening has

-- that of the opening of a channel, with that number
pub record IsOpeningMark (mark : Mark) (named : ChannelIdentity) (number : ℕ) : Type 0 where
  pub is : mark ≡ Opening named number

module _ (bag : List BagUnit) (number kind n : ℕ) (carried : IsCarriedOpening bag number kind n) (are : AreBytes carried.carrier.bytes) (named : ChannelIdentity) where
  pub marked_opening : (mark : Mark) → mark_channel mark ≡ Some named → FitsMark carried.carrier mark → IsItsWay carried.carrier.back mark → IsOpeningMark mark named number
  marked_opening Plain of fits way = absurd (let x = of in cc)
  marked_opening (Opening channel other) of fits way =
      let sent : IsRequestSent other 15 carried.carrier.bytes = (fits (λ plain. plain)).1.sent in
      let request : IsOfRequest other 15 carried.whole.unit =
      of_request other 15 sent.limit sent.stub carried.carrier.bytes carried.whole.frames carried.whole.unit sent.small sent.known are sent.is carried.whole.heard in
      let same : other ≡ number = sym request.number_is ∙ sym carried.number_is in
      record { is = ap (λ (c : ChannelIdentity). Opening c other) (some_is channel named of) ∙ ap (λ (k : ℕ). Opening named k) same }
  marked_opening (Opened channel other request) of fits way = absurd (let never : false ≡ true = sym carried.back ∙ way in cc)
  marked_opening (Calling channel other timestamp) of fits way =
      let sent : IsCallSent channel other timestamp carried.carrier.bytes = (fits (λ plain. plain)).1 in
      let request : RpcUnit = request_of other 0 sent.opnum sent.stub in
      let is : carried.whole.unit ≡ request = one_whole carried.carrier.bytes carried.whole.frames sent.frames carried.whole.unit request carried.whole.heard sent.heard in
      absurd (no_opening sent.opnum sent.stub timestamp carried.asked sent.stamped (ap (λ (u : RpcUnit). call_carried u.body) (sym is) ∙ carried.carried))
  marked_opening (ReplyTo channel other request) of fits way = absurd (let never : false ≡ true = sym carried.back ∙ way in cc)

-- ---- a run

module _ (plan : Plan) (moves : List Move) (nobody : IsPlainAlone plan) (schedule : IsSchedule plan moves) (calm : (past plan moves).book.clash ≡ false) where
  abbrev p : Past
  p = past plan moves

  abbrev IsThat : ChannelIdentity → ℕ → ℕ → ℕ → ChannelAccepted → Type 0
  IsThat channel number request n one = IsAcceptedIn channel number request n one

  answers_at : (n : ℕ) (one : Sent) (channel : ChannelIdentity) (number request : ℕ) → slice_get p.book.sent n ≡ Some one →
      Placed (IsThat channel number request n) p.book.accepted → AnswersOpening p channel number request n one.at
  answers_at n one channel number request there at =
      let a : ChannelAccepted = at.item in
      let clash : clashes (Some a.channel) (unit_in a.source) p.book.sent ≡ false =
      got_all (λ (x : ChannelAccepted). clashes (Some x.channel) (unit_in x.source) p.book.sent ≡ false) p.book.accepted at.place a ((replies_answer_openings plan moves nobody.plain).unclashed calm) at.there in
      let made : IsMadeFor a.channel request p.book.sent =
      made_unless a.channel request p.book.sent (ap (λ (u : Option ℕ). clashes (Some a.channel) u p.book.sent) (sym (ap unit_in at.is.came)) ∙ clash) in
      let carried : IsCarriedOpening p.world.state.bag a.number a.kind request =
      got_all (IsOpenedWell p.world.state.bag) p.book.accepted at.place a (openings_carried plan moves nobody schedule) at.there request at.is.came in
      let had : IsOfUnit OfMark tt p.world.state.bag request made.sent.mark = marks_fit plan moves nobody schedule request made.sent made.noted in
      let unit : had.unit ≡ carried.carrier = some_is had.unit carried.carrier (sym had.there ∙ carried.there) in
      let marked : IsOpeningMark made.sent.mark made.named a.number =
      marked_opening p.world.state.bag a.number a.kind request carried (bytes_in p.world.state.bag (has_bytes plan moves nobody schedule).bytes request carried.carrier carried.there) made.named made.sent.mark made.made
      (subst (λ (u : BagUnit). FitsMark u made.sent.mark) unit had.holds) (marks_have_their_way plan moves nobody.plain request carried.carrier made.sent carried.there made.noted) in
      let answer : IsMarkedAsOpened p a request =
      got_all (λ (x : ChannelAccepted). (k : ℕ) → x.source ≡ InUnit k → IsMarkedAsOpened p x k) p.book.accepted at.place a (openings_marked plan moves nobody.plain) at.there request at.is.came in
      let reply : answer.reply ≡ n = some_is answer.reply n (sym answer.is ∙ at.is.answer) in
      let same : answer.sent ≡ one = some_is answer.sent one (sym answer.there ∙ ap (λ (k : ℕ). slice_get p.book.sent k) reply ∙ there) in
      record {
        sent = made.sent;
        there = made.noted;
        named = made.named;
        mark = marked.is ∙ ap (λ (k : ℕ). Opening made.named k) at.is.call;
        same = subst (λ (c : ChannelIdentity). SameChannel made.named c) at.is.opened made.same;
        accepted = one_at (λ (x : ChannelAccepted). IsAcceptedIn channel number request n x × (x.at ≡ one.at)) p.book.accepted at.place a at.there
            (at.is, sym answer.step ∙ ap (λ (s : Sent). s.at) same);
      }

  pub replies_to_openings : RepliesAreToOpenings p
  replies_to_openings n one channel number request there mark =
      let has : OneOf (IsThat channel number request n) p.book.accepted =
      subst (λ (m : Mark). IsReplyOfOpening p.book.accepted n m) mark ((replies_answer_openings plan moves nobody.plain).replies n one there) in
      answers_at n one channel number request there (placed (IsThat channel number request n) p.book.accepted has)
