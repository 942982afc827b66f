-- In every clear schedule in which no call from outside set a secret, a member that begins alike and its controller are
-- never apart. It serves `Proved.never_apart`.
use Rattle.std.proofs.Common.{◌≡◌, ℕ, ◌+◌, ◌*◌, ◌≤◌, false, List, [], length, Option, Some, Result, Ok, Err, slice_get, refl}
use Rattle.outside.specs.Machine.{Part}
use Rattle.outside.specs.declared.action.StepRefused.{StepRefused}
use Rattle.outside.specs.declared.event.Event.TheVariants as event
use Rattle.member_server.specs.Machine.{event_part}
use Rattle.member_server.specs.Turns.{DialWork}
use Rattle.member_server.specs.declared.state.Running.{Running}
use Rattle.step_notes.specs.Records.{Book}
use Rattle.world_moves.specs.declared.bag.BagUnit.{BagUnit}
use Rattle.world_moves.specs.declared.links.EndId.TheVariants.{Member}
use Rattle.world_moves.specs.declared.moves.Move.{Move}
use Rattle.world_moves.specs.declared.plan.Plan.{Plan}
use Rattle.world_moves.specs.declared.state.State.{State}
use Rattle.world_moves.specs.Acting.{Given}
use Rattle.world_moves.specs.Alone.{IsPlainAlone}
use Rattle.world_moves.specs.Forms.{IsSchedule}
use Rattle.domain_world.specs.Claims.{IsClear}
use Rattle.domain_world.specs.Claims.NeverApart.{BeginsAlike, HasItsAccount, MembersAreNeverApart, has_foreign_set}
use Rattle.domain_world.specs.Past.{Delivery, note_member, past}
use Rattle.domain_world.specs.Accepting.SeenSteps.{Differ}
use Rattle.domain_world.proofs.Acceptance.Heard.MarkWholeLaws.{MarksFit, marks_fit}
use Rattle.domain_world.proofs.Apart.HappeningLaws.{account_there}
use Rattle.domain_world.proofs.Apart.TogetherAsksLaws.{asks_in}
use Rattle.domain_world.proofs.Apart.TogetherBesideLaws.{Beside, beside_has, beside_keep, first_beside}
use Rattle.domain_world.proofs.Apart.TogetherBookLaws.{Pairing}
use Rattle.domain_world.proofs.Apart.TogetherCarryLaws.{carries_so}
use Rattle.domain_world.proofs.Apart.TogetherFrameLaws.{HasHelp}
use Rattle.domain_world.proofs.Apart.TogetherKnownLaws.{LeadsTo, leads, to_itself}
use Rattle.domain_world.proofs.Apart.TogetherMemberLaws.{KnownIf}
use Rattle.domain_world.proofs.Apart.TogetherMoveLaws.{AllFit, IsBehindMember}
use Rattle.domain_world.proofs.Apart.TogetherOthersLaws.{others_fit}
use Rattle.domain_world.proofs.Apart.TogetherOwnLaws.{LeftKnown, own_known}
use Rattle.domain_world.proofs.Apart.TogetherRunLaws.{hash_of_run, its_place, its_secrets, never_apart_so, pairing_of, suits_beneath}
use Rattle.domain_world.proofs.Apart.TogetherSetLaws.{set_fits}
use Rattle.domain_world.proofs.Apart.TogetherStayLaws.{basis_of}
use Rattle.domain_world.proofs.Apart.TogetherTakenLaws.{controller_knows}
use Rattle.domain_world.proofs.Apart.TogetherTurnLaws.{TurnStands}
use Rattle.domain_world.proofs.Apart.ToldRunLaws.{schedules_tell}
use Rattle.domain_world.proofs.Moves.ComingLaws.{CameFrom}
use Rattle.domain_world.proofs.Frames.MoveKeepLaws.{MoveFact, coming}
use Rattle.domain_world.proofs.Moves.OpenMadeLaws.{IsAtSide}
use Rattle.domain_world.proofs.Calls.CallComesLaws.{IsWhole}
use Rattle.domain_world.proofs.Calls.CallHoldsLaws.{marks_in, views_at}
use Rattle.domain_world.proofs.Calls.CallStepLaws.{most_steps}

module _ (plan : Plan) (moves : List Move) (nobody : IsPlainAlone plan) (schedule : IsSchedule plan moves) (clear : IsClear (past plan moves).book)
    (none_foreign : has_foreign_set (past plan moves).book.judged ≡ false) (member : ℕ) (begins : BeginsAlike plan member) where
  abbrev last : Book
  last = (past plan moves).book

  abbrev bag : List BagUnit
  bag = (past plan moves).world.state.bag

  abbrev place : ℕ
  place = (its_place plan member begins).place

  abbrev fits : MarksFit bag last
  fits = marks_fit plan moves nobody schedule

  abbrev asks : ℕ → Option (List ℕ)
  asks = asks_in bag last fits

  abbrev pair : Pairing
  pair = pairing_of plan member begins place asks

  abbrev More : MoveFact
  More = Beside plan member begins place asks

  -- where the step at a unit is taken
  module _ (n : ℕ) (w : Delivery) (piece : List ℕ) (s after : State) (given : Given) (b : Book) (running : Running) (whole : IsWhole w.link piece running)
      (there : slice_get s.ends.members member ≡ Some (record { running = Some running })) (here : IsAtSide s.links w.link w.back (Member member))
      (came : CameFrom w.source s w piece) (even : length b.sent ≡ length s.bag) (help : HasHelp pair n [] s given b) (known : More n (coming w) s given b)
      (few : n + 1 ≤ most_steps) (differ : Differ s.chances.drawn) (behind : IsBehindMember member (record { running = Some running }) w piece s after)
      (to : LeadsTo bag last after.bag (note_member (Some (record { running = Some running })) member w piece s after b)) where
    left_by : (part : Result (Part DialWork) StepRefused) → event_part running (event.Bytes w.link piece) s.moment s.chances.left ≡ part →
        TurnStands (basis_of pair (views_at s.member_plans s.ends) b) (marks_in b.sent) s.chances.drawn (2 * n) running.logons.channel running.logons.plan.secrets →
        KnownIf part (LeftKnown pair n w piece s after b running whole)
    left_by (Err why) is stands = tt
    left_by (Ok part) is stands = record {
      carries = carries_so plan member begins place bag last fits n w piece s after given b running whole there came even help (beside_has plan member begins place asks n (coming w) s given b known) behind to;
      set = set_fits plan moves nobody schedule clear member begins n w piece s after given b running whole there here came even help known few differ behind to part is stands.ties;
    }

  all_fit : AllFit pair (LeadsTo bag last) More
  all_fit = record {
    controllers = λ n at c w piece s after given b is here came even help known few differ behind to.
        controller_knows plan moves nobody schedule clear none_foreign member begins n at c w piece s after given b is here came even help known few differ behind to;
    members = λ n w piece s after given b running whole there here came even help known few differ behind to.
        own_known pair n w piece s after given b running whole there even help (beside_has plan member begins place asks n (coming w) s given b known).0.0.0.1.0.0.1.judged few differ
        (λ stands.
        left_by n w piece s after given b running whole there here came even help known few differ behind to (event_part running (event.Bytes w.link piece) s.moment s.chances.left) refl stands);
    suits = λ n w s given b known. suits_beneath plan member begins place asks n w s given b (beside_has plan member begins place asks n (coming w) s given b known);
    others = λ n at m w piece s after given b apart is here came even help known few differ.
        others_fit plan member begins place asks n at m w piece s after given b apart is here came even help (beside_has plan member begins place asks n (coming w) s given b known) few differ;
  }

pub never_apart : (plan : Plan) (moves : List Move) → IsPlainAlone plan → IsSchedule plan moves → IsClear (past plan moves).book → MembersAreNeverApart (past plan moves)
never_apart plan moves nobody schedule clear none_foreign member begins =
    let its_last : Book = (past plan moves).book in
    let its_bag : List BagUnit = (past plan moves).world.state.bag in
    let its_asks : ℕ → Option (List ℕ) = asks_in its_bag its_last (marks_fit plan moves nobody schedule) in
    let at : ℕ = (its_place plan member begins).place in
    let has : HasItsAccount (past plan moves) member begins = account_there plan moves nobody member begins in
    never_apart_so plan member begins at its_asks (Beside plan member begins at its_asks) (beside_keep plan member begins at its_asks) (beside_has plan member begins at its_asks) (LeadsTo its_bag its_last)
    (leads its_bag its_last (schedules_tell plan moves nobody schedule clear.apart)) (all_fit plan moves nobody schedule clear none_foreign member begins) moves nobody schedule
    (first_beside plan member begins at its_asks moves schedule (its_secrets plan member begins schedule.forms)) has (hash_of_run plan moves nobody member begins has) (to_itself its_bag its_last)
