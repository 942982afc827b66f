-- Logons that come one at a time, from one start to the next: each client that can succeed does.
-- It serves `Proved.complete`.
use Rattle.std.proofs.Common.{◌≡◌, ◌≢◌, ℕ, zero, suc, ◌-◌, ◌≤◌, ◌<◌, ◌^◌, refl, sym, ap, ap₂, subst, ◌∙◌, List, [], ◌∷◌, ◌++◌, length, Some, inl, inr, slice_get, arith}
use Rattle.std.specs.Prelude.{◌⊎◌, ◌%◌, AllPairs}
use Rattle.std.specs.List.{AllByRecursion}
use Rattle.std.proofs.lemmas.List.Elements.{recursion_from_All}
use Rattle.outside.specs.declared.action.Outcome.TheVariants as outcome
use Rattle.outside.specs.Drawing.{Drawing}
use Rattle.outside.specs.Counter.{most_draws}
use Rattle.outside.proofs.CounterLaws.{length-challenges_from}
use Rattle.wire_base.proofs.ListLaws.{got_nothing, one_weaker}
use Rattle.step_notes.specs.Records.{Book, blank}
use Rattle.logon_client.specs.declared.outcome.ClientOutcome.TheVariants as client_outcome
use Rattle.logon_client.specs.declared.plan.ClientPlan.{ClientPlan}
use Rattle.world_moves.specs.declared.links.EndId.TheVariants.{Controller, Member}
use Rattle.world_moves.specs.declared.moves.Move.{Move}
use Rattle.world_moves.specs.declared.moves.Move.TheVariants as move
use Rattle.world_moves.specs.declared.plan.Plan.{Plan}
use Rattle.world_moves.specs.declared.state.State.{State}
use Rattle.world_moves.specs.Choosing.{chosen_place}
use Rattle.world_moves.specs.Forms.{HasForms}
use Rattle.world_moves.specs.Moving.{act, start}
use Rattle.world_moves.specs.World.{IsPlan, World, first_world, happens, outcome_by, run}
use Rattle.world_moves.specs.Alone.{IsPlainAlone}
use Rattle.world_moves.specs.Ends.{starters_in}
use Rattle.logon_runs.specs.AnyAnswer.AnyLogons.{HasServers}
use Rattle.logon_runs.specs.Scenes.Others.{IsStepOn}
use Rattle.logon_runs.specs.Rests.{CanBeGranted, HasBegun, HasEnough, coming_of}
use Rattle.logon_runs.specs.Phases.{Arrival, IsReached, IsUnderWay, LogonPhase, NotYet, key_at, progress_of, scene_of, told_of}
use Rattle.logon_runs.specs.Phases.{Acked, Answers, Binds, BindsBefore, BindsHeld, Calls, Challenged, Dials, DialsBefore, DialsHeld, Echoed, Echoes, Granted, Halved, Named, Proved, Sets}
use Rattle.logon_runs.specs.Scenes.Scene.{Shows}
use Rattle.logon_runs.specs.Scenes.WaitingUnits.{waiting}
use Rattle.logon_runs.proofs.Phases.PhaseLaws.{one_waits}
use Rattle.logon_runs.proofs.RestLaws.{logons_come_to_rest}
use Rattle.logon_runs.proofs.Scenes.StayingLaws.{ends_stay, reach_still}
use Rattle.domain_world.specs.Claims.Completeness.{CanSucceed, EachSucceeds, IsQuiet, InEachState, MayLogOnIn, OwnKeysArrive, Succeeds, info_planned, name_of, started_in}
use Rattle.domain_world.specs.Past.{Past, book, note, past}
use Rattle.domain_world.proofs.Moves.LeftLaws.{first_left_blocks}
use Rattle.domain_world.proofs.Completeness.ApartLaws.{can_be_granted, has_servers}
use Rattle.domain_world.proofs.Completeness.MomentLaws.{start_bag, start_chances}
use Rattle.domain_world.proofs.Completeness.OwnLogonLaws.{AreSafeFor, IsTold}
use Rattle.domain_world.proofs.Completeness.LogonWalkLaws.{IsSoFar, OwnEnds, may_at, own_goes}
use Rattle.domain_world.proofs.Frames.AloneFrameLaws.{stands_first}
use Rattle.domain_world.proofs.Completeness.RestingLaws.{Along, BeginsSo, along_next, Resting, Started, begins_so, fewer_moves, goes_further, rests_on, rests_then}
use Rattle.domain_world.proofs.Completeness.PlainLaws.{by_plain, later_starts, with_starts}

-- ---- a logon that starts isn't judged yet

-- no unit waits then
pub not_yet : (p : Arrival) (s : State) (phase : LogonPhase p) (left : List (List ℕ)) (moment : ℕ) → Shows s (scene_of p phase left moment) → waiting s.bag ≡ [] → progress_of phase ≡ NotYet
not_yet p s Dials left moment shows none = refl
not_yet p s Binds left moment shows none = refl
not_yet p s (Challenged challenge) left moment shows none = refl
not_yet p s (Answers a who) left moment shows none = refl
not_yet p s (DialsBefore a who v aim) left moment shows none = refl
not_yet p s (DialsHeld a who v aim) left moment shows none = refl
not_yet p s (BindsBefore a who v aim) left moment shows none = refl
not_yet p s (BindsHeld a who v aim) left moment shows none = refl
not_yet p s (Acked a who v aim) left moment shows none = refl
not_yet p s (Calls a who v aim) left moment shows none = absurd (one_waits (waiting s.bag) _ [] shows.units none)
not_yet p s (Halved a who v client server) left moment shows none = refl
not_yet p s (Proved a who v client server) left moment shows none = absurd (one_waits (waiting s.bag) _ [] shows.units none)
not_yet p s (Granted a who v o c timestamp judged_at accounts) left moment shows none = absurd (one_waits (waiting s.bag) _ [] shows.units none)
not_yet p s (Sets a who v o c timestamp new accounts) left moment shows none = absurd (one_waits (waiting s.bag) _ [] shows.units none)
not_yet p s (Named a e on one other back) left moment shows none = absurd (one_waits (waiting s.bag) _ [] shows.units none)
not_yet p s (Echoes a e on one asks) left moment shows none = absurd (one_waits (waiting s.bag) _ [] shows.units none)
not_yet p s (Echoed a e talk one other back) left moment shows none = absurd (one_waits (waiting s.bag) _ [] shows.units none)

-- ---- a client that can succeed starts

-- what holds in each state holds in the first
now_in : (Fact : State → Type 0) (moves : List Move) (w : World) → InEachState Fact moves w → Fact w.state
now_in Fact [] w each = each
now_in Fact (what ∷ moves) w each = each.0

abbrev past_of : Plan → World → Book → Past
past_of plan world bk = record { plan = plan; world = world; book = bk }

-- the whole run, from a state that rests on
module _ (plan : Plan) (every : List Move) (is : IsPlan plan) (forms : HasForms plan) (client : ℕ) (can : CanSucceed plan every client) (number : ℕ) (moves : List Move) (w : World) (b : Book)
    (resting : Resting plan (suc (length moves)) w.state) (along : Along plan (move.Start number ∷ moves) w) (chosen : chosen_place number (starters_in w.state.ends) ≡ Some client)
    (started : Started plan (length moves) w.state client (start number w.state).state) (enough : HasEnough (length moves) (start number w.state).state.chances.left)
    (apart : AllByRecursion (λ (other : ℕ). client ≢ other) (started_in moves (length plan.clients)))
    (may : InEachState (MayLogOnIn can.controller (info_planned can.task)) moves (happens w (move.Start number)))
    (safe : AreSafeFor can.task can.member_plan.computer can.controller (book moves (happens w (move.Start number)) (note w (move.Start number) b))) where
  abbrev granted : CanBeGranted plan client can.member can.controller
  granted = can_be_granted plan every client can

  begun : HasBegun plan w.state resting.rest client can.member can.controller granted number
  begun = logons_come_to_rest.begins plan w.state resting.rest client can.member can.controller granted number is forms chosen

  abbrev coming : Arrival
  coming = coming_of plan w.state resting.rest client can.member can.controller granted number begun

  abbrev first : World
  first = happens w (move.Start number)

  abbrev written : Book
  written = note w (move.Start number) b

  begins_so_far : IsSoFar coming first.state written
  begins_so_far =
      let at : IsUnderWay coming first.state = begun.come.under_way in
      record {
        far = NotYet;
        comes = inl (at, not_yet coming first.state at.phase at.left at.moment at.shows (ap (λ bag. waiting bag) (start_bag number w.state) ∙ resting.rest.units));
        written = tt;
      }

  reached : IsReached coming first.state
  reached =
      let later : Along plan moves first = along_next plan (move.Start number) moves w along in
      record {
        member = reach_still can.task.server (Member can.member) (first_world plan).state first.state later.same can.is_member;
        controller = reach_still can.member_plan.controller (Controller can.controller) (first_world plan).state first.state later.same can.is_controller;
      }

  ends : OwnEnds coming moves first written
  ends =
      own_goes plan is forms (has_servers plan every client can) coming begun.come.known (begun.user (may_at coming first.state (now_in (MayLogOnIn can.controller (info_planned can.task)) moves first may))) w.state client moves first written (along_next plan (move.Start number) moves w along) enough may safe reached
      started apart begins_so_far

  told_as : told_of coming ≡ name_of can.table can.account
  told_as = ap₂ (λ (domain name : List ℕ). domain ++ 0x5C ∷ name) begun.domain begun.name

  -- the rest of the run, as all of it
  abbrev rest_of_run : Past
  rest_of_run = past_of plan (run moves first) (book moves first written)

  succeeds_then : Succeeds rest_of_run every client can
  succeeds_then = record {
    key = key_at coming ends.asked;
    is_in = ap outcome_by ends.is_in ∙ ap (λ (name : List ℕ). Some (client_outcome.In name (key_at coming ends.asked) can.task.echo)) told_as;
    told = one_weaker (IsTold coming ends.asked) _ (book moves first written).told
        (λ told is_told. (
          ap (λ (link : ℕ). slice_get (run moves first).state.links link) is_told.0 ∙ ends.joined,
          is_told.1,
          is_told.2 ∙ ap₂ (λ (domain name : List ℕ). outcome.In domain name (key_at coming ends.asked)) begun.domain begun.name,
        ))
        ends.told;
  }

  pub succeeds_so : (world : World) (bk : Book) → world ≡ run moves first → bk ≡ book moves first written → Succeeds (past_of plan world bk) every client can
  succeeds_so world bk is_world is_book =
      subst (λ (at : World). Succeeds (past_of plan at bk) every client can) (sym is_world)
      (subst (λ (one : Book). Succeeds (past_of plan (run moves first) one) every client can) (sym is_book) succeeds_then)

-- ---- the moves

-- the world rests, or the logon of one client goes on
abbrev RestsOrGoesOn : Plan → ℕ → State → Type 0
RestsOrGoesOn plan left now = Resting plan left now ⊎ ((s : State) × (client : ℕ) × Started plan left s client now)

quiet_rests : (plan : Plan) (left : ℕ) (w : World) → IsQuiet w → RestsOrGoesOn plan left w.state → Resting plan left w.state
quiet_rests plan left w quiet (inl resting) = resting
quiet_rests plan left w quiet (inr going) = rests_then plan left going.0 going.1 w going.2 quiet

step_rests_or_goes_on : (plan : Plan) (left : ℕ) (now : State) (what : Move) → IsStepOn what → now.moment < 2 ^ 64 → RestsOrGoesOn plan (suc left) now → RestsOrGoesOn plan left (act now what).state
step_rests_or_goes_on plan left now what steps below (inl resting) = inl (rests_on plan left now what steps resting)
step_rests_or_goes_on plan left now what steps below (inr going) = inr (going.0, going.1, goes_further plan left going.0 going.1 now what steps below going.2)

-- numbers that differ from each other differ from the first
behind_differ : (first : ℕ) (numbers : List ℕ) → AllPairs (λ (one other : ℕ). one ≢ other) (first ∷ numbers) → AllByRecursion (λ (other : ℕ). first ≢ other) numbers
behind_differ first numbers all = recursion_from_All (λ (other : ℕ). first ≢ other) numbers (λ j d within. all zero (suc j) d (omega arith) (omega (arith, within)))

later_differ : (first : ℕ) (numbers : List ℕ) → AllPairs (λ (one other : ℕ). one ≢ other) (first ∷ numbers) → AllPairs (λ (one other : ℕ). one ≢ other) numbers
later_differ first numbers all i j d before within = all (suc i) (suc j) d (omega (arith, before)) (omega (arith, within))

module _ (plan : Plan) (every : List Move) (is : IsPlan plan) (forms : HasForms plan) (servers : HasServers plan) (world : World) (bk : Book) where
  abbrev GoalOf : ℕ → Type 0
  GoalOf client =
      (can : CanSucceed plan every client) → AreSafeFor can.task can.member_plan.computer can.controller bk → Succeeds (past_of plan world bk) every client can

  -- what holds in each state of the run holds in each that follows
  abbrev Follows : List Move → World → Type 1
  Follows moves w = (Fact : State → Type 0) → InEachState Fact every (first_world plan) → InEachState Fact moves w

  start_goal : (number : ℕ) (moves : List Move) (w : World) (b : Book) (resting : Resting plan (suc (length moves)) w.state) → Along plan (move.Start number ∷ moves) w →
      BeginsSo plan (length moves) w.state number → AllPairs (λ (one other : ℕ). one ≢ other) (number % length plan.clients ∷ started_in moves (length plan.clients)) →
      Follows (move.Start number ∷ moves) w → world ≡ run moves (happens w (move.Start number)) → bk ≡ book moves (happens w (move.Start number)) (note w (move.Start number) b) →
      GoalOf (number % length plan.clients)
  start_goal number moves w b resting along begins once follows is_world is_book can safe =
      succeeds_so plan every is forms (number % length plan.clients) can number moves w b resting along begins.chosen begins.started
      (subst (λ (chances : Drawing). HasEnough (length moves) chances.left) (sym (start_chances number w.state)) (fewer_moves (length moves) w.state.chances.left resting.enough))
      (behind_differ (number % length plan.clients) (started_in moves (length plan.clients)) once)
      (follows (MayLogOnIn can.controller (info_planned can.task)) can.may).1
      (subst (AreSafeFor can.task can.member_plan.computer can.controller) is_book safe) world bk is_world is_book

  -- what is left to show behind a move
  abbrev EachFrom : List Move → World → Book → Type 1
  EachFrom moves w b =
      Along plan moves w → AllPairs (λ (one other : ℕ). one ≢ other) (started_in moves (length plan.clients)) → Follows moves w → world ≡ run moves w → bk ≡ book moves w b →
      RestsOrGoesOn plan (length moves) w.state → AllByRecursion GoalOf (started_in moves (length plan.clients))

  each_starts : (number : ℕ) (moves : List Move) (w : World) (b : Book) → EachFrom moves (happens w (move.Start number)) (note w (move.Start number) b) →
      Along plan (move.Start number ∷ moves) w → AllPairs (λ (one other : ℕ). one ≢ other) (number % length plan.clients ∷ started_in moves (length plan.clients)) →
      Follows (move.Start number ∷ moves) w → world ≡ run moves (happens w (move.Start number)) → bk ≡ book moves (happens w (move.Start number)) (note w (move.Start number) b) →
      Resting plan (suc (length moves)) w.state → GoalOf (number % length plan.clients) × AllByRecursion GoalOf (started_in moves (length plan.clients))
  each_starts number moves w b then_on along once follows is_world is_book resting =
      elim (begins_so plan (length moves) w.state number is forms servers along.same along.stands.plain resting) [
        | inl none ↦ (
          (λ can safe. absurd (got_nothing (number % length plan.clients) can.task (subst (λ (clients : List ClientPlan). slice_get clients (number % length plan.clients) ≡ Some can.task) none.1 can.is_task))),
          then_on (along_next plan (move.Start number) moves w along) (later_differ (number % length plan.clients) (started_in moves (length plan.clients)) once)
              (λ Fact each. (follows Fact each).1) is_world is_book
              (inl (subst (λ (s : State). Resting plan (length moves) s) (sym none.0)
              (record { rest = resting.rest; enough = fewer_moves (length moves) w.state.chances.left resting.enough }))),
        )
        | inr begins ↦ (
          start_goal number moves w b resting along begins once follows is_world is_book,
          then_on (along_next plan (move.Start number) moves w along) (later_differ (number % length plan.clients) (started_in moves (length plan.clients)) once)
              (λ Fact each. (follows Fact each).1) is_world is_book (inr (w.state, number % length plan.clients, begins.started)),
        )
      ]

  each_steps : (what : Move) (moves : List Move) (w : World) (b : Book) → IsStepOn what → EachFrom moves (happens w what) (note w what b) → Along plan (what ∷ moves) w →
      AllPairs (λ (one other : ℕ). one ≢ other) (started_in moves (length plan.clients)) → Follows (what ∷ moves) w → world ≡ run moves (happens w what) →
      bk ≡ book moves (happens w what) (note w what b) → RestsOrGoesOn plan (suc (length moves)) w.state → AllByRecursion GoalOf (started_in moves (length plan.clients))
  each_steps what moves w b steps then_on along once follows is_world is_book stands =
      then_on (along_next plan what moves w along) once (λ Fact each. (follows Fact each).1) is_world is_book (step_rests_or_goes_on plan (length moves) w.state what steps along.below stands)

  pub each_from : (moves : List Move) (w : World) (b : Book) → EachFrom moves w b
  each_from [] w b along once follows is_world is_book stands = tt
  each_from (what ∷ moves) w b along once follows is_world is_book stands =
      by_plain (λ (one : Move). EachFrom (one ∷ moves) w b)
      (λ number on differ each its_world its_book standing.
      each_starts number moves w b (each_from moves (happens w (move.Start number)) (note w (move.Start number) b)) on differ each its_world its_book
      (quiet_rests plan (suc (length moves)) w on.quiet.0 standing))
      (λ one steps on differ each its_world its_book standing.
      with_starts (AllByRecursion GoalOf) one (length plan.clients) (started_in moves (length plan.clients)) steps
      (each_steps one moves w b steps (each_from moves (happens w one) (note w one b)) on
      (later_starts (AllPairs (λ (first other : ℕ). first ≢ other)) one (length plan.clients) (started_in moves (length plan.clients)) steps differ) each its_world its_book standing))
      what along.plain.0 along once follows is_world is_book stands

-- ---- a run

-- where none of them can, nothing is to be shown
all_given : (C : ℕ → Type 0) (Holds : (client : ℕ) → C client → Type 0) (Need : Type 0) (items : List ℕ) → ((client : ℕ) → C client → Need) →
    (Need → AllByRecursion (λ (client : ℕ). (can : C client) → Holds client can) items) → AllByRecursion (λ (client : ℕ). (can : C client) → Holds client can) items
all_given C Holds Need [] need each = tt
all_given C Holds Need (client ∷ items) need each = ((λ can. (each (need client can)).0 can), all_given C Holds Need items need (λ has. (each has).1))

-- at first there are challenges for all moves
pub first_enough : (plan : Plan) (moves : ℕ) → moves ≤ 100000 → HasEnough moves (first_world plan).state.chances.left
first_enough plan moves few = record {
  many = omega (arith, few, length-challenges_from plan.seed 0 0 (most_draws - 0));
  blocks = first_left_blocks plan;
}

pub each_succeeds : (plan : Plan) (moves : List Move) → IsPlainAlone plan → EachSucceeds (past plan moves) moves
each_succeeds plan moves nobody comes =
    let first : World = first_world plan in
    let is : IsPlan plan = comes.schedule.start in
    let forms : HasForms plan = comes.schedule.forms in
    all_given (λ (client : ℕ). CanSucceed plan moves client) (λ client can. OwnKeysArrive (past plan moves) moves client can → Succeeds (past plan moves) moves client can) (HasServers plan) (started_in moves (length plan.clients)) (λ client can. has_servers plan moves client can)
    (λ servers. each_from plan moves is forms servers (run moves first) (book moves first blank) moves first blank
    (record { plain = comes.plain; quiet = comes.quiet; same = ends_stay.none first.state; below = forms.now; stands = stands_first plan nobody })
    comes.once (λ Fact each. each) refl refl
    (inl (record { rest = logons_come_to_rest.first plan is forms nobody; enough = first_enough plan (length moves) comes.schedule.few })))
