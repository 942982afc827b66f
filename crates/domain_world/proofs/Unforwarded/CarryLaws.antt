-- What is proved of runs where nobody can be asked holds of those in which no call comes for a trusted domain. It
-- serves `what_is_proved_alone_is_carried_over` and `claims_hold_of_runs`.
use Rattle.std.proofs.Common.{◌≡◌, false, List, sym, ap, ap₂, subst, ◌∙◌}
use Rattle.step_notes.specs.Records.{Book}
use Rattle.world_moves.specs.declared.moves.Move.{Move}
use Rattle.world_moves.specs.declared.plan.Plan.{Plan}
use Rattle.world_moves.specs.Forms.{IsSchedule}
use Rattle.world_moves.specs.Unforwarded.{IsUnforwarded, alone_plan}
use Rattle.world_moves.specs.World.{World}
use Rattle.world_moves.specs.Plain.{IsPlainPlan}
use Rattle.domain_world.specs.Accepting.Answered.{CallsAskForMessages}
use Rattle.domain_world.specs.Accepting.Carried.{MarkedUnitsAreWhole}
use Rattle.domain_world.specs.Accepting.Sequences.{RepliesAnswerCalls, TurnsAreCalled}
use Rattle.domain_world.specs.Claims.{AcceptsAllGranted, AcceptsOnlyGranted, IsClear, KeysAgree, ShortResponsesLetInOnce}
use Rattle.domain_world.specs.Claims.ChannelKinds.{OpeningsNameTheirKind}
use Rattle.domain_world.specs.Claims.Completeness.{EachSucceeds}
use Rattle.domain_world.specs.Claims.Counts.{EachCallRaisesOnce}
use Rattle.domain_world.specs.Claims.Names.{LetsInByName}
use Rattle.domain_world.specs.Claims.NeverApart.{MembersAreNeverApart}
use Rattle.domain_world.specs.Claims.OneByOne.{NoneClashes}
use Rattle.domain_world.specs.Claims.OpeningReplies.{RepliesAreToOpenings}
use Rattle.domain_world.specs.Claims.RequestNumbers.{RequestsHaveNumbers}
use Rattle.domain_world.specs.Claims.SharedSequences.{SequencesAreShared}
use Rattle.domain_world.specs.Past.{Past, past}
use Rattle.domain_world.specs.Unforwarded.{CarriesOver, IsProvedAlone}
use Rattle.domain_world.proofs.Unforwarded.ApartSeenLaws.{never_apart_so}
use Rattle.domain_world.proofs.Unforwarded.ErasedBookLaws.{asker_unused, books_alone}
use Rattle.domain_world.proofs.Unforwarded.ErasedLaws.{runs_alone}
use Rattle.domain_world.proofs.Unforwarded.RunSeenLaws.{complete_so, one_by_one_so, schedule_seen, still_after}
use Rattle.domain_world.proofs.Unforwarded.SeenLaws.{AreUnused, all_so, answered_so, called_so, once_so, only_so, opened_by_so, seen, shared_so}

module _ (plan : Plan) (moves : List Move) (nothing : IsPlainPlan plan) (is : IsUnforwarded plan moves) (alone : IsProvedAlone (alone_plan plan) moves) where
  abbrev run_seen : Past
  run_seen = past plan moves

  -- the run of the plan whose controllers ask nobody
  abbrev other : Past
  other = past (alone_plan plan) moves

  same : other ≡ seen run_seen
  same = ap₂ (λ (w : World) (b : Book). record { plan = alone_plan plan; world = w; book = b }) (runs_alone plan moves nothing is) (books_alone plan moves nothing is)

  -- what holds of it holds of this run, as it is where nobody can be asked
  on : (Holds : Past → Type 0) → Holds other → Holds (seen run_seen)
  on Holds holds = subst Holds same holds

  schedule_alone : IsSchedule plan moves → IsSchedule (alone_plan plan) moves
  schedule_alone schedule = schedule_seen plan moves schedule

  calm_so : run_seen.book.clash ≡ false → other.book.clash ≡ false
  calm_so calm = ap (λ (b : Book). b.clash) (books_alone plan moves nothing is) ∙ calm

  clear_so : IsClear run_seen.book → IsClear other.book
  clear_so clear = subst IsClear (sym (books_alone plan moves nothing is)) clear

  unused : AreUnused run_seen.world.state
  unused = asker_unused run_seen.world.state (still_after plan moves nothing is)

  carried_over : IsProvedAlone plan moves
  carried_over = record {
    opened_kinds = λ schedule. on OpeningsNameTheirKind (alone.opened_kinds (schedule_alone schedule));
    opened_by = λ schedule calm. opened_by_so run_seen (on RepliesAreToOpenings (alone.opened_by (schedule_alone schedule) (calm_so calm)));
    numbers = λ schedule. on RequestsHaveNumbers (alone.numbers (schedule_alone schedule));
    answered = λ schedule calm. answered_so run_seen (on RepliesAnswerCalls (alone.answered (schedule_alone schedule) (calm_so calm)));
    names = λ schedule calm. on LetsInByName (alone.names (schedule_alone schedule) (calm_so calm));
    only = λ schedule clear. only_so run_seen (on AcceptsOnlyGranted (alone.only (schedule_alone schedule) (clear_so clear)));
    all = λ schedule clear. all_so run_seen (on AcceptsAllGranted (alone.all (schedule_alone schedule) (clear_so clear)));
    keys = λ schedule clear. on KeysAgree (alone.keys (schedule_alone schedule) (clear_so clear));
    counts = λ schedule clear. on EachCallRaisesOnce (alone.counts (schedule_alone schedule) (clear_so clear));
    once = λ schedule clear. once_so run_seen (on ShortResponsesLetInOnce (alone.once (schedule_alone schedule) (clear_so clear)));
    sequences = λ schedule clear. shared_so run_seen unused (on SequencesAreShared (alone.sequences (schedule_alone schedule) (clear_so clear)));
    called = λ schedule clear. called_so run_seen unused (on TurnsAreCalled (alone.called (schedule_alone schedule) (clear_so clear)));
    whole = λ schedule. on MarkedUnitsAreWhole (alone.whole (schedule_alone schedule));
    asks_for = λ schedule. on CallsAskForMessages (alone.asks_for (schedule_alone schedule));
    complete = complete_so plan moves nothing is (on (λ (q : Past). EachSucceeds q moves) alone.complete);
    one_by_one = one_by_one_so plan moves nothing is (on (λ (q : Past). NoneClashes q moves) alone.one_by_one);
    never_apart = λ schedule clear. never_apart_so run_seen (on MembersAreNeverApart (alone.never_apart (schedule_alone schedule) (clear_so clear)));
  }

pub carries_over : CarriesOver
carries_over = carried_over
