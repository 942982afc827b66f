-- What is proved of every run, gathered.
-- It serves `claims_hold_of_runs`, and so `drive`.
use Rattle.std.proofs.Common.{List, inl, inr, refl}
use Rattle.world_moves.specs.declared.moves.Move.{Move}
use Rattle.world_moves.specs.declared.plan.Plan.{Plan}
use Rattle.world_moves.specs.Alone.{IsPlainAlone}
use Rattle.world_moves.specs.Plain.{IsPlainPlan}
use Rattle.world_moves.specs.Unforwarded.{IsJudgedAlone, alone_plan}
use Rattle.world_moves.proofs.AloneLaws.{alone_if}
use Rattle.domain_world.specs.Headline.{Proved}
use Rattle.domain_world.specs.Past.{past}
use Rattle.domain_world.proofs.Apart.NeverApartLaws.{never_apart}
use Rattle.domain_world.specs.Unforwarded.{IsProvedAlone}
use Rattle.domain_world.proofs.Acceptance.AnsweredRunLaws.{short_responses}
use Rattle.domain_world.proofs.Acceptance.Heard.MarkWholeLaws.{marked_whole}
use Rattle.domain_world.proofs.Acceptance.LetInLaws.{lets_in_who_asked}
use Rattle.domain_world.proofs.Acceptance.MarkRunLaws.{openings_marked, replies_marked}
use Rattle.domain_world.proofs.Calls.CallMarkRunLaws.{calls_marked}
use Rattle.domain_world.proofs.Calls.HaveCallRunLaws.{answers_have_calls}
use Rattle.domain_world.proofs.Messages.ClientKeptLaws.{clients_written}
use Rattle.domain_world.proofs.Messages.ClientMadeLaws.{messages_of_clients}
use Rattle.domain_world.proofs.Messages.MessageMadeLaws.{messages_made}
use Rattle.domain_world.proofs.Messages.MessageTakenLaws.{messages_taken}
use Rattle.domain_world.proofs.Acceptance.ScheduleLaws.{schedules_number, units_heard}
use Rattle.domain_world.proofs.Acceptance.ShortResponseLaws.{short_let_in}
use Rattle.domain_world.proofs.Acceptance.UnitLaws.{runs_heard}
use Rattle.domain_world.proofs.Messages.MessageApartLaws.{messages_apart}
use Rattle.domain_world.proofs.Messages.MessageOnceLaws.{messages_once}
use Rattle.domain_world.proofs.Challenges.OwnChallengeLaws.{messages_own}
use Rattle.domain_world.proofs.Challenges.WrittenDownLaws.{members_written_down}
use Rattle.domain_world.proofs.Clear.ClearWalkLaws.{none_clashes}
use Rattle.domain_world.proofs.Completeness.SuccessLaws.{each_succeeds}
use Rattle.domain_world.proofs.Moves.MarkedLaws.{each_marked}
use Rattle.domain_world.proofs.Moves.DrawnRunLaws.{draws_are_blocks, draws_differ}
use Rattle.domain_world.proofs.Judgements.AnswerCountLaws.{tells_of_forwards}
use Rattle.domain_world.proofs.Judgements.Openings.KindRunLaws.{kinds_follow}
use Rattle.domain_world.proofs.Judgements.Openings.OpeningAskedLaws.{openings_asked}
use Rattle.domain_world.proofs.Judgements.Openings.OpeningAnswerLaws.{replies_to_openings}
use Rattle.domain_world.proofs.Judgements.Openings.EveryOpeningLaws.{replies_answer_openings}
use Rattle.domain_world.proofs.Judgements.Openings.OpeningRunLaws.{openings_in_order}
use Rattle.domain_world.proofs.Judgements.ReplayLaws.{replays_by_sum}
use Rattle.domain_world.proofs.Judgements.SessionLaws.{grants_by_hash, sessions_follow}
use Rattle.domain_world.proofs.Judgements.StatusLaws.{statuses_told}
use Rattle.domain_world.proofs.Judgements.TableLaws.{tables_follow}
use Rattle.domain_world.proofs.Judgements.TrustGrantLaws.{grants_who_may}
use Rattle.domain_world.proofs.Judgements.TrustReplyLaws.{replies_of_calls}
use Rattle.domain_world.proofs.Judgements.TrustToldLaws.{passes_the_next}
use Rattle.domain_world.proofs.Judgements.UnclashedLaws.{passes_unclashed}
use Rattle.domain_world.proofs.Judgements.UserHashLaws.{users_stay}
use Rattle.domain_world.proofs.Messages.CallMessageLaws.{members_ask_for_messages, sends_ask_for_messages}
use Rattle.domain_world.proofs.Messages.KeptAskLaws.{members_ask}
use Rattle.domain_world.proofs.Calls.AskerKindLaws.{askers_name}
use Rattle.domain_world.proofs.Calls.MarkWayLaws.{marks_have_their_way}
use Rattle.domain_world.proofs.Sequences.OneTurnLaws.{one_turn}
use Rattle.domain_world.proofs.Sequences.Own.OwnEndLaws.{turns_are_called}
use Rattle.domain_world.proofs.Sequences.Own.TrustOwnLaws.{sequences_own}
use Rattle.domain_world.proofs.Sequences.ReplyCallLaws.{replies_answer}
use Rattle.domain_world.proofs.Sequences.SharedRunLaws.{sequences_shared}
use Rattle.domain_world.proofs.Unforwarded.CarryLaws.{carries_over}

-- of a plain plan that hands nothing on
proved_alone : (plan : Plan) (moves : List Move) → IsPlainAlone plan → IsProvedAlone plan moves
proved_alone plan moves nobody = record {
  opened_kinds = openings_asked plan moves nobody;
  opened_by = λ schedule calm. replies_to_openings plan moves nobody schedule calm;
  numbers = λ schedule. schedules_number plan moves nobody schedule;
  answered = λ schedule calm. replies_answer plan moves nobody schedule calm;
  names = λ schedule calm. runs_heard.names plan moves nobody (units_heard plan moves nobody schedule) (draws_differ plan moves) calm;
  only = λ schedule clear. runs_heard.only plan moves nobody (units_heard plan moves nobody schedule) (draws_differ plan moves) clear;
  all = λ schedule clear. runs_heard.all plan moves nobody (units_heard plan moves nobody schedule) (draws_differ plan moves) clear;
  keys = λ schedule clear. runs_heard.keys plan moves nobody (units_heard plan moves nobody schedule) (draws_differ plan moves) clear;
  counts = λ schedule clear. runs_heard.counts plan moves nobody (units_heard plan moves nobody schedule) (draws_differ plan moves) clear;
  once = λ schedule clear.
      short_let_in (past plan moves) (messages_apart plan moves nobody.plain)
      (runs_heard.only plan moves nobody (units_heard plan moves nobody schedule) (draws_differ plan moves) clear)
      (short_responses plan moves nobody.plain (draws_differ plan moves) (draws_are_blocks plan moves));
  sequences = λ schedule clear. sequences_shared plan moves nobody schedule clear;
  called = λ schedule clear. turns_are_called plan moves nobody schedule clear;
  whole = marked_whole plan moves nobody;
  asks_for = λ schedule. (runs_heard.heard plan moves nobody (units_heard plan moves nobody schedule) (draws_differ plan moves)).asks;
  complete = each_succeeds plan moves nobody;
  one_by_one = none_clashes plan moves nobody;
  never_apart = λ schedule clear. never_apart plan moves nobody schedule clear;
}

-- of each run of a plain plan in which calls are judged by the controllers that hear them
judged_alone : (plan : Plan) (moves : List Move) → IsPlainPlan plan → IsJudgedAlone plan moves → IsProvedAlone plan moves
judged_alone plan moves nothing (inl nobody) = proved_alone plan moves (record { plain = nothing; alone = nobody })
judged_alone plan moves nothing (inr is) =
    carries_over plan moves nothing is
    (proved_alone (alone_plan plan) moves (alone_if (alone_plan plan) (record { controllers = nothing.controllers; members = nothing.members; stations = nothing.stations }) refl))

pub all_proved : (plan : Plan) (moves : List Move) → Proved plan moves
all_proved plan moves = record {
  challenges = λ nothing. record { draws = draws_differ plan moves; messages = messages_once plan moves nothing };
  messages = λ nothing. messages_own plan moves nothing (draws_differ plan moves);
  responses = λ nothing. short_responses plan moves nothing (draws_differ plan moves) (draws_are_blocks plan moves);
  apart = λ nothing. messages_apart plan moves nothing;
  openings = λ nothing. openings_in_order plan moves nothing;
  kinds = λ nothing. kinds_follow plan moves nothing;
  askers = λ nothing. askers_name plan moves nothing;
  opened_kinds = λ nothing alone. (judged_alone plan moves nothing alone).opened_kinds;
  opened = λ nothing. replies_answer_openings plan moves nothing;
  opened_by = λ nothing alone. (judged_alone plan moves nothing alone).opened_by;
  numbers = λ nothing alone. (judged_alone plan moves nothing alone).numbers;
  credentials = λ nothing. passes_the_next plan moves nothing;
  alone = λ nothing. tells_of_forwards plan moves nothing;
  replays = λ nothing. replays_by_sum plan moves nothing;
  unclashed = λ nothing. passes_unclashed plan moves;
  grants = λ nothing. grants_who_may plan moves nothing (users_stay plan moves nothing);
  let_on = λ nothing. grants_by_hash plan moves nothing;
  statuses = λ nothing. statuses_told plan moves nothing;
  tables = λ nothing. tables_follow plan moves nothing;
  sessions = λ nothing. sessions_follow plan moves nothing;
  replies = λ nothing. replies_of_calls plan moves nothing;
  answered = λ nothing alone. (judged_alone plan moves nothing alone).answered;
  kept = λ nothing. members_ask plan moves nothing;
  asked = λ nothing. members_ask_for_messages plan moves nothing;
  sends = λ nothing. sends_ask_for_messages plan moves nothing;
  let_in = λ nothing. lets_in_who_asked plan moves nothing;
  written = λ nothing. members_written_down plan moves nothing;
  names = λ nothing alone. (judged_alone plan moves nothing alone).names;
  as_sent = λ nothing. messages_taken plan moves nothing;
  made = λ nothing. messages_of_clients plan moves nothing;
  clients = λ nothing. clients_written plan moves nothing;
  as_made = λ nothing. messages_made plan moves nothing;
  only = λ nothing alone. (judged_alone plan moves nothing alone).only;
  all = λ nothing alone. (judged_alone plan moves nothing alone).all;
  keys = λ nothing alone. (judged_alone plan moves nothing alone).keys;
  counts = λ nothing alone. (judged_alone plan moves nothing alone).counts;
  once = λ nothing alone. (judged_alone plan moves nothing alone).once;
  one_turn = λ nothing. one_turn plan moves nothing;
  own = λ nothing. sequences_own plan moves nothing;
  sequences = λ nothing alone. (judged_alone plan moves nothing alone).sequences;
  called = λ nothing alone. (judged_alone plan moves nothing alone).called;
  marked = each_marked plan moves;
  ways = λ nothing. marks_have_their_way plan moves nothing;
  whole = λ nothing alone. (judged_alone plan moves nothing alone).whole;
  have_calls = λ nothing. answers_have_calls plan moves nothing;
  asks_for = λ nothing alone. (judged_alone plan moves nothing alone).asks_for;
  call_marks = λ nothing. calls_marked plan moves nothing;
  reply_marks = λ nothing. replies_marked plan moves nothing;
  opened_marks = λ nothing. openings_marked plan moves nothing;
  complete = λ nothing alone. (judged_alone plan moves nothing alone).complete;
  one_by_one = λ nothing alone. (judged_alone plan moves nothing alone).one_by_one;
  never_apart = λ nothing alone. (judged_alone plan moves nothing alone).never_apart;
}
