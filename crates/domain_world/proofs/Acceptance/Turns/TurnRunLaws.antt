-- In every schedule answers are taken in turn and told: what that rests on holds of each state, since calls stay apart
-- there, what is under way is whole, and draws differ. It serves `answers_are_taken_in_turn`.
use Rattle.std.proofs.Common.{◌≡◌, ℕ, ◌-◌, List, [], ◌++◌, length, Some, ap, sym, subst, ◌∙◌, arith}
use Rattle.outside.specs.Counter.{most_draws}
use Rattle.outside.specs.declared.event.Event.TheVariants as event
use Rattle.outside.proofs.CounterLaws.{challenges_from-distinct, challenges_from-none}
use Rattle.member_server.specs.declared.state.Logon.{Logon}
use Rattle.step_notes.specs.Records.{Book, blank}
use Rattle.step_notes.proofs.Members.KeptLogonLaws.{kept_so}
use Rattle.world_moves.specs.declared.moves.Move.{Move}
use Rattle.world_moves.specs.declared.plan.Plan.{Plan}
use Rattle.world_moves.specs.declared.state.State.{State}
use Rattle.world_moves.specs.Acting.{Given}
use Rattle.world_moves.specs.Moving.{begun, with_link, changed}
use Rattle.world_moves.specs.Forms.{IsSchedule}
use Rattle.world_moves.specs.Links.{acceptor_of}
use Rattle.world_moves.specs.Alone.{hear_alone as hear}
use Rattle.world_moves.specs.Plain.{plain_world}
use Rattle.domain_world.specs.Accepting.SeenSteps.{Differ}
use Rattle.domain_world.specs.Accepting.ReadBack.{TurnsAreHeard}
use Rattle.domain_world.specs.Past.{past}
use Rattle.channel_events.specs.Marks.{Mark}
use Rattle.channel_events.proofs.RequestLaws.{called_is}
use Rattle.domain_world.specs.Schedules.{OfSchedules}
use Rattle.domain_world.proofs.Acceptance.LetInStepLaws.{IsDialledBy}
use Rattle.domain_world.proofs.Quiet.QuietRunLaws.{has_bytes, is_quiet, quiet_first, quiet_keeps}
use Rattle.domain_world.proofs.Quiet.QuietStepLaws.{QuietAction, QuietFact}
use Rattle.domain_world.proofs.Acceptance.Turns.TurnFactLaws.{past_at}
use Rattle.domain_world.proofs.Acceptance.Turns.TurnKeepLaws.{TurnsHold, TurnsRestOn, turns_begin, turns_keep, turns_of}
use Rattle.domain_world.proofs.Moves.DrawnRunLaws.{all_of, end_all, given_all}
use Rattle.domain_world.proofs.Frames.StepFrameLaws.{ActionFact, AnyAction, BothFacts, BothFine, HoldsAfterRun, StepKeeps, NoFact, RunFact, WhileFew, all_any, join, run_keeps, while_few, with_side}
use Rattle.domain_world.proofs.Calls.CallFrameLaws.{CallsKept, QuietSide, calls_keep, first_calls, out_at}
use Rattle.domain_world.proofs.Calls.CallHoldsLaws.{CallsHold, differ_front, mark_there, marks_in}
use Rattle.domain_world.proofs.Calls.CallStepLaws.{most_steps}
use Rattle.domain_world.proofs.Calls.OutStepLaws.{HasOne}

-- ---- what was drawn and what is left, at each state

abbrev DrawnOf : Plan → RunFact
DrawnOf plan n s given b = all_of s.chances ≡ given_all plan

drawn_keep : (plan : Plan) → StepKeeps NoFact (DrawnOf plan) AnyAction
drawn_keep plan = record {
  calm = λ n end what s given b calm none is. record { holds = end_all end what s.moment s.ends s.chances ∙ is; fine = all_any (hear end what s).actions };
  dialled = λ n end link s given b at none is. record { holds = end_all end (event.Dialled link) s.moment s.ends s.chances ∙ is; fine = all_any (hear end (event.Dialled link) s).actions };
  opens = λ n route s given b none is.
      record { holds = end_all (acceptor_of route) (event.Opened (length s.links)) s.moment s.ends s.chances ∙ is; fine = all_any (hear (acceptor_of route) (event.Opened (length s.links)) (with_link route s)).actions };
  begins = λ n client own s given b there none is. record { holds = is; fine = all_any (begun client own s).actions };
  comes = λ n end w piece s given b at came bytes marked none is. record { holds = end_all end (event.Bytes w.link piece) s.moment s.ends s.chances ∙ is; fine = all_any (hear end (event.Bytes w.link piece) s).actions };
  acts = λ n end what s given b fine none is. is;
  shuts = λ n link s given b none is. is;
  answers = λ n link there s given b found none is. is;
  forgets = λ n end s given b none is. is;
  settles = λ n number s given b none is. is;
  dials = λ n s given b none is. is;
  renews = λ n end s given b none is. is;
  changes = λ n member secret s given b none is. record { holds = is; fine = all_any (changed member secret s).actions };
  ticks = λ n more s given b none is. is;
  over = λ n at s given b none is. is;
}

pub drawn_differ : (plan : Plan) (s : State) → all_of s.chances ≡ given_all plan → Differ s.chances.drawn
drawn_differ plan s is =
    differ_front s.chances.drawn s.chances.left
    (subst (λ (all : List (List ℕ)). Differ all) (sym is) (challenges_from-distinct plan.seed 0 (most_draws - 0) (omega arith) (omega arith)))

-- ---- what answers rest on, at each state

-- what is under way is whole, what is known of calls, and what was drawn and is left
abbrev pub Known : Plan → RunFact
Known plan = BothFacts (BothFacts QuietFact CallsKept) (DrawnOf plan)

-- what that asks of actions
abbrev pub KnownAction : ActionFact
KnownAction = BothFine (BothFine QuietAction AnyAction) AnyAction

-- what is known of a run is kept through each step
pub known_keep : (plan : Plan) → StepKeeps NoFact (Known plan) KnownAction
known_keep plan =
    join (BothFacts QuietFact CallsKept) (DrawnOf plan) (BothFine QuietAction AnyAction) AnyAction
    (join QuietFact CallsKept QuietAction AnyAction quiet_keeps (with_side QuietSide QuietFact CallsKept AnyAction (λ n s given b quiet. is_quiet s quiet) calls_keep))
    (with_side NoFact (BothFacts QuietFact CallsKept) (DrawnOf plan) AnyAction (λ n s given b known. tt) (drawn_keep plan))

-- what facts of turns rest on holds where that is known
pub rests_on : (plan : Plan) (n : ℕ) (s : State) (given : Given) (b : Book) → Known plan n s given b → WhileFew most_steps (TurnsRestOn plan) n s given b
rests_on plan n s given b known few =
    let holds : CallsHold n s.member_plans s.ends s.chances.drawn s.links b.sent b.messages = known.0.1 few (drawn_differ plan s known.1) in
    record {
      quiet = is_quiet s known.0.0;
      asks = λ k m there. (holds.members k m there).asks;
      dialled = λ k m there.
          kept_so (HasOne k b.messages) (λ (place : ℕ) (logon : Logon). Unit {0}) (λ (number : ℕ). IsDialledBy s.links k number) (λ (number : ℕ). IsDialledBy s.links k number)
          (λ place logon one. tt) (λ number dialled. dialled) m.running (holds.members k m there).kept;
      accepts = λ k m there. (holds.members k m there).accepts;
      out = out_at (past_at plan s b) n holds;
      numbers = λ one other number timestamp later c d sent another there also mark mark_too same.
          holds.apart.distinct one other number c d
          (called_is (marks_in b.sent) one number timestamp c (mark_there b.sent one sent there ∙ ap (λ (m : Mark). Some m) mark))
          (called_is (marks_in b.sent) other number later d (mark_there b.sent other another also ∙ ap (λ (m : Mark). Some m) mark_too)) same;
    }

-- ---- a run

-- what answers rest on, with what holds of them while few steps were taken
abbrev pub TurnSide : Plan → RunFact
TurnSide plan = BothFacts (Known plan) (WhileFew most_steps (TurnsHold plan))

-- what is known of actions; `TurnsHold` asks nothing of them
abbrev pub TurnAction : ActionFact
TurnAction = BothFine KnownAction AnyAction

pub side_keeps : (plan : Plan) → StepKeeps NoFact (TurnSide plan) TurnAction
side_keeps plan =
    join (Known plan) (WhileFew most_steps (TurnsHold plan)) KnownAction AnyAction (known_keep plan)
    (with_side (WhileFew most_steps (TurnsRestOn plan)) (Known plan) (WhileFew most_steps (TurnsHold plan)) AnyAction (rests_on plan)
    (while_few most_steps (TurnsRestOn plan) (TurnsHold plan) (turns_keep plan)))

-- at first
pub side_first : (plan : Plan) (moves : List Move) → IsSchedule plan moves → TurnSide plan 0 (plain_world plan).state [] blank
side_first plan moves schedule = (
  ((quiet_first plan schedule.start schedule.forms, first_calls plan), ap (λ (drawn : List (List ℕ)). drawn ++ given_all plan) (challenges_from-none plan.seed 0 0)),
  λ few. turns_begin plan,
)

pub turns_run : OfSchedules (λ plan moves. TurnsAreHeard (past plan moves))
turns_run plan moves nobody schedule =
    let after : HoldsAfterRun (TurnSide plan) plan moves =
    run_keeps (TurnSide plan) TurnAction (side_keeps plan) plan moves nobody (has_bytes plan moves nobody schedule) (side_first plan moves schedule) in
    turns_of after.steps plan moves nobody (after.holds.1 (omega (arith, after.few, schedule.few)))
