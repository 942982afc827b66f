-- In every schedule without a clash whose calls are judged by the controllers that hear them each opening that was
-- accepted, and came in a unit of the bag, named a workstation's type, and a member sent the unit. It serves
-- `Proved.opened_kinds`.
use Rattle.std.proofs.Common.{◌≡◌, ℕ, false, List, Option, Some, slice_get, sym, ap, subst, ◌∙◌}
use Rattle.wire_base.proofs.AllLaws.{all_zip}
use Rattle.wire_base.proofs.ListLaws.{some_is}
use Rattle.channel_events.specs.Marks.{Mark, Opening}
use Rattle.step_notes.specs.Marking.{clashes}
use Rattle.step_notes.specs.Records.{ChannelAccepted, unit_in}
use Rattle.world_moves.specs.declared.bag.BagUnit.{BagUnit}
use Rattle.world_moves.specs.declared.moves.Move.{Move}
use Rattle.world_moves.specs.declared.plan.Plan.{Plan}
use Rattle.world_moves.specs.Alone.{IsPlainAlone}
use Rattle.world_moves.specs.Forms.{IsSchedule}
use Rattle.domain_world.specs.Claims.ChannelKinds.{IsOfItsKind, OpeningsNameTheirKind, kind_asked}
use Rattle.domain_world.specs.Past.{Past, past}
use Rattle.domain_world.proofs.Acceptance.Heard.MarkSentLaws.{AreItsNames}
use Rattle.domain_world.proofs.Acceptance.Heard.MarkWholeLaws.{FitsMark, MarksFit, OfMark, marks_fit}
use Rattle.domain_world.proofs.Acceptance.Heard.OpeningCarriedLaws.{IsCarriedOpening, IsOpenedWell, openings_carried}
use Rattle.domain_world.proofs.Acceptance.Turns.TurnNotedLaws.{IsMadeFor, unclashed as made_unless}
use Rattle.domain_world.proofs.Apart.AskedNamesLaws.{opening_names}
use Rattle.domain_world.proofs.Calls.CallHoldsLaws.{mark_there, marks_in}
use Rattle.domain_world.proofs.Calls.MarkWayLaws.{marks_have_their_way}
use Rattle.domain_world.proofs.Frames.BagFrameLaws.{IsOfUnit}
use Rattle.domain_world.proofs.Judgements.Openings.OpeningAnswerLaws.{IsOpeningMark, marked_opening}
use Rattle.domain_world.proofs.Judgements.Openings.OpeningUnclashedLaws.{openings_unclashed}
use Rattle.domain_world.proofs.Moves.PlacedLaws.{bytes_in}
use Rattle.domain_world.proofs.Quiet.QuietRunLaws.{has_bytes}

module _ (plan : Plan) (moves : List Move) (nobody : IsPlainAlone plan) (schedule : IsSchedule plan moves) where
  abbrev p : Past
  p = past plan moves

  abbrev bag : List BagUnit
  bag = p.world.state.bag

  fits : MarksFit bag p.book
  fits = marks_fit plan moves nobody schedule

  one_asked : (one : ChannelAccepted) → clashes (Some one.channel) (unit_in one.source) p.book.sent ≡ false → IsOpenedWell bag one → IsOfItsKind bag one
  one_asked one clash well n unit came there =
      let carried : IsCarriedOpening bag one.number one.kind n = well n came in
      let made : IsMadeFor one.channel n p.book.sent =
      made_unless one.channel n p.book.sent (ap (λ (u : Option ℕ). clashes (Some one.channel) u p.book.sent) (sym (ap unit_in came)) ∙ clash) in
      let had : IsOfUnit OfMark tt bag n made.sent.mark = fits n made.sent made.noted in
      let its : FitsMark carried.carrier made.sent.mark = subst (λ (u : BagUnit). FitsMark u made.sent.mark) (some_is had.unit carried.carrier (sym had.there ∙ carried.there)) had.holds in
      let marked : IsOpeningMark made.sent.mark made.named one.number =
      marked_opening bag one.number one.kind n carried (bytes_in bag (has_bytes plan moves nobody schedule).bytes n carried.carrier carried.there) made.named made.sent.mark made.made its
      (marks_have_their_way plan moves nobody.plain n carried.carrier made.sent carried.there made.noted) in
      let noted : slice_get (marks_in p.book.sent) n ≡ Some (Opening made.named one.number) = mark_there p.book.sent n made.sent made.noted ∙ ap (λ (m : Mark). Some m) marked.is in
      let names : AreItsNames made.named carried.asked.account carried.asked.computer carried.asked.channel =
      opening_names bag p.book fits n made.named one.number noted carried.carrier carried.there carried.whole carried.asked carried.carried in
      let fine = (subst (λ (m : Mark). FitsMark carried.carrier m) marked.is its) (λ plain. plain) in
      ap (λ (u : BagUnit). kind_asked u.kind) (some_is unit carried.carrier (sym there ∙ carried.there))
      ∙ ap kind_asked fine.0
      ∙ ap (λ (k : ℕ). Some k) (sym (carried.kind_is ∙ names.kind_is))

  pub openings_asked : OpeningsNameTheirKind p
  openings_asked calm =
      all_zip (λ (one : ChannelAccepted). clashes (Some one.channel) (unit_in one.source) p.book.sent ≡ false) (IsOpenedWell bag) (IsOfItsKind bag) p.book.accepted one_asked
      (openings_unclashed plan moves calm) (openings_carried plan moves nobody schedule)
