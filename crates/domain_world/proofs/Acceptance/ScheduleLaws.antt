-- Of every schedule all that the claims on answers rest on, gathered.
-- It serves `schedules_are_heard` and `Proved.numbers`.
use Rattle.std.proofs.Common.{subst}
use Rattle.channel_events.specs.Marks.{Mark, Opening}
use Rattle.domain_world.specs.Accepting.Carried.{OpeningsAreSmall}
use Rattle.domain_world.specs.Accepting.ReadBack.{TurnsAreHeard}
use Rattle.domain_world.specs.Accepting.Runs.{RunsStandSo}
use Rattle.domain_world.specs.Accepting.Units.{UnitsAreHeard}
use Rattle.domain_world.specs.Claims.RequestNumbers.{RequestsHaveNumbers}
use Rattle.domain_world.specs.Past.{past}
use Rattle.domain_world.specs.Schedules.{OfSchedules}
use Rattle.domain_world.proofs.Acceptance.Heard.JudgedRunLaws.{judged_as_carried, replies_back}
use Rattle.domain_world.proofs.Acceptance.Heard.MarkSentLaws.{IsRequestSent}
use Rattle.domain_world.proofs.Acceptance.Heard.MarkWholeLaws.{FitsMark, OfMark, marked_whole, marks_fit}
use Rattle.domain_world.proofs.Messages.MessageMadeLaws.{messages_made}
use Rattle.domain_world.proofs.Messages.MessageTakenLaws.{messages_taken}
use Rattle.domain_world.proofs.Acceptance.Turns.TurnRunLaws.{turns_run}
use Rattle.domain_world.proofs.Acceptance.UnitLaws.{requests_numbered, runs_heard}
use Rattle.domain_world.proofs.Frames.BagFrameLaws.{IsOfUnit}
use Rattle.domain_world.proofs.Moves.DrawnRunLaws.{draws_differ}
use Rattle.domain_world.proofs.Judgements.Openings.OpeningAnswerLaws.{replies_to_openings}
use Rattle.domain_world.proofs.Calls.CallFrameLaws.{schedules_stand}
use Rattle.domain_world.proofs.Calls.CalledRunLaws.{schedules_call}

-- what was made as an opening was sent as a request of that number
openings_small : OfSchedules (λ plan moves. OpeningsAreSmall (past plan moves))
openings_small plan moves nobody schedule n number channel one there mark =
    let had : IsOfUnit OfMark tt (past plan moves).world.state.bag n one.mark = marks_fit plan moves nobody schedule n one there in
    let fits : FitsMark had.unit (Opening channel number) = subst (λ (m : Mark). FitsMark had.unit m) mark had.holds in
    let sent : IsRequestSent number 15 had.unit.bytes = (fits (λ plain. plain)).1.sent in sent.small

pub units_heard : OfSchedules (λ plan moves. UnitsAreHeard (past plan moves))
units_heard plan moves nobody schedule =
    let stands : RunsStandSo plan moves = schedules_stand plan moves nobody schedule (draws_differ plan moves) in
    let turns : TurnsAreHeard (past plan moves) = turns_run plan moves nobody schedule in
    record {
      whole = marked_whole plan moves nobody schedule;
      judged = judged_as_carried plan moves nobody schedule;
      called = schedules_call plan moves nobody schedule;
      numbers = runs_heard.numbers (past plan moves) stands.requests stands.shows.marks stands.apart;
      openings = record {
        numbers = requests_numbered (past plan moves) stands.requests stands.shows.marks stands.apart;
        answered = λ clear. replies_to_openings plan moves nobody schedule clear;
        small = openings_small plan moves nobody schedule;
      };
      turns = turns.turns;
      back = replies_back plan moves nobody schedule;
      told = turns.told;
      let_in = turns.let_in;
      made = messages_made plan moves nobody.plain schedule;
      taken = messages_taken plan moves nobody.plain;
    }

-- no two requests on a channel have one number
pub schedules_number : OfSchedules (λ plan moves. RequestsHaveNumbers (past plan moves))
schedules_number plan moves nobody schedule =
    let stands : RunsStandSo plan moves = schedules_stand plan moves nobody schedule (draws_differ plan moves) in
    requests_numbered (past plan moves) stands.requests stands.shows.marks stands.apart
