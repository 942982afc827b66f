-- What a controller keeps is what it accepted last, and each opening that was accepted was made.
-- It serves `kept_channels_are_last`, `openings_are_made`.
use Rattle.std.proofs.Common.{◌≡◌, ℕ, ◌==◌, ◌&&◌, Bool, true, false, List, [], ◌∷◌, inl, inr, Some, refl, sym, ap, subst, ◌∙◌}
use Rattle.std.specs.List.{AllByRecursion}
use Rattle.std.proofs.lemmas.Bool.Decides.{Decides-eqb}
use Rattle.wire_base.specs.Names.{same_name}
use Rattle.wire_base.proofs.NameLaws.{same_name-Decides}
use Rattle.authenticators.specs.Channels.{ChannelIdentity, SameChannel}
use Rattle.channel_events.specs.AcceptedOrder.{Accepted, IsMade, IsOf}
use Rattle.channel_events.specs.Marks.{Mark}
use Rattle.channel_events.proofs.AcceptedOrderLaws.{of_same}
use Rattle.wire_base.proofs.ListLaws.{no_some, not_both, some_is}
use Rattle.step_notes.specs.Records.{ChannelAccepted, InUnit, Outside, Source}
use Rattle.world_moves.specs.declared.moves.Move.{Move}
use Rattle.world_moves.specs.declared.plan.Plan.{Plan}
use Rattle.world_moves.specs.Plain.{IsPlainPlan}
use Rattle.domain_world.specs.Claims.AcceptedOpenings.{IsLastOf, KeptAreLast, OpeningsAreMade, accepted_in, is_in_unit}
use Rattle.domain_world.specs.Claims.OpeningReplies.{AnswersOpening, IsMarkedAsOpened, RepliesAreToOpenings}
use Rattle.domain_world.specs.Claims.Openings.{IsLastAccepted, is_opened_for, last_accepted, newer_if}
use Rattle.domain_world.specs.Past.{Past, past}
use Rattle.domain_world.specs.Schedules.{OfSchedules}
use Rattle.domain_world.proofs.Acceptance.MarkRunLaws.{openings_marked}
use Rattle.domain_world.proofs.Judgements.Openings.OpeningAnswerLaws.{replies_to_openings}
use Rattle.domain_world.proofs.Judgements.Openings.OpeningRunLaws.{openings_in_order}
use Rattle.domain_world.proofs.Calls.CallHoldsLaws.{mark_there, marks_in}

-- ---- what is kept

both_are : (one other : Bool) → (one && other) ≡ true → (one ≡ true) × (other ≡ true)
both_are true true is = (refl, refl)
both_are true false is = absurd (let x = is in cc)
both_are false other is = absurd (let x = is in cc)

all_true : (one other : Bool) → one ≡ true → other ≡ true → (one && other) ≡ true
all_true one other is also = ap (λ (test : Bool). test && other) is ∙ also

module _ (controller : ℕ) (computer : List ℕ) where
  pub opened_of : (one : ChannelAccepted) → is_opened_for controller computer one ≡ true → IsOf controller computer one.channel
  opened_of one is =
      let tests = both_are (one.channel.controller == controller) (same_name computer one.channel.computer) is in
      record {
        controller_is = (Decides-eqb one.channel.controller controller).0 tests.0;
        computer_is = sym ((same_name-Decides computer one.channel.computer).0 tests.1);
      }

  pub of_opened : (one : ChannelAccepted) → IsOf controller computer one.channel → is_opened_for controller computer one ≡ true
  of_opened one of =
      all_true (one.channel.controller == controller) (same_name computer one.channel.computer) ((Decides-eqb one.channel.controller controller).1 of.controller_is)
      ((same_name-Decides computer one.channel.computer).1 (sym of.computer_is))

  abbrev Last : ChannelIdentity → List ChannelAccepted → Type 0
  Last channel accepted = IsLastOf controller computer channel (accepted_in accepted)

  by_first : (hit : Bool) (first one : ChannelAccepted) (older : List ChannelAccepted) (channel : ChannelIdentity) → is_opened_for controller computer first ≡ hit →
      newer_if hit first (last_accepted controller computer older) ≡ Some one → SameChannel one.channel channel → (last_accepted controller computer older ≡ Some one → Last channel older) →
      Last channel (first ∷ older)
  by_first true first one older channel opened last same later =
      let of : IsOf controller computer first.channel = opened_of first opened in
      let is : SameChannel first.channel channel = subst (λ (x : ChannelAccepted). SameChannel x.channel channel) (sym (some_is first one last)) same in
      record { of = of_same controller computer first.channel channel is of; last = inl (of, is) }
  by_first false first one older channel opened last same later =
      let rest : Last channel older = later last in
      record { of = rest.of; last = inr ((λ of. not_both (is_opened_for controller computer first) (of_opened first of) opened), rest.last) }

  last_so : (accepted : List ChannelAccepted) (one : ChannelAccepted) (channel : ChannelIdentity) → last_accepted controller computer accepted ≡ Some one → SameChannel one.channel channel →
      Last channel accepted
  last_so [] one channel last same = absurd (no_some one last)
  last_so (first ∷ older) one channel last same =
      by_first (is_opened_for controller computer first) first one older channel refl last same (λ is. last_so older one channel is same)

pub kept_last : (plan : Plan) (moves : List Move) → IsPlainPlan plan → KeptAreLast (past plan moves)
kept_last plan moves nothing controller computer channel keeps =
    let last : IsLastAccepted controller computer channel (past plan moves).book.accepted = (openings_in_order plan moves nothing).last controller computer channel keeps in
    last_so controller computer (past plan moves).book.accepted last.one channel last.last last.same

-- ---- what was made

module _ (p : Past) (replies : RepliesAreToOpenings p) where
  made_by : (source : Source) (one : ChannelAccepted) → one.source ≡ source → is_in_unit source ≡ true → ((n : ℕ) → one.source ≡ InUnit n → IsMarkedAsOpened p one n) →
      IsMade (marks_in p.book.sent) one.channel
  made_by Outside one is came all = absurd (let x = came in cc)
  made_by (InUnit n) one is came all =
      let marked : IsMarkedAsOpened p one n = all n is in
      let answers : AnswersOpening p one.channel one.number n marked.reply marked.sent.at = replies marked.reply marked.sent one.channel one.number n marked.there marked.mark in
      record {
        unit = n;
        named = answers.named;
        number = one.number;
        there = mark_there p.book.sent n answers.sent answers.there ∙ ap (λ (m : Mark). Some m) answers.mark;
        same = answers.same;
      }

  all_made : (accepted : List ChannelAccepted) → AllByRecursion (λ (one : ChannelAccepted). (n : ℕ) → one.source ≡ InUnit n → IsMarkedAsOpened p one n) accepted →
      AllByRecursion (λ (one : Accepted). one.in_unit ≡ true → IsMade (marks_in p.book.sent) one.channel) (accepted_in accepted)
  all_made [] all = tt
  all_made (one ∷ older) all = ((λ came. made_by one.source one refl came all.0), all_made older all.1)

pub openings_made : OfSchedules (λ plan moves. OpeningsAreMade (past plan moves))
openings_made plan moves nobody schedule calm =
    all_made (past plan moves) (replies_to_openings plan moves nobody schedule calm) (past plan moves).book.accepted (openings_marked plan moves nobody.plain)
