-- Logons that come one at a time: where a client starts, and at the end, the world rests, and a client that isn't
-- started any more is as it was.
-- It serves `Proved.complete`.
use Rattle.std.proofs.Common.{◌≡◌, ◌≢◌, ℕ, zero, suc, ◌+◌, ◌*◌, ◌<◌, ◌^◌, Bool, true, false, refl, sym, ap, subst, ◌∙◌, List, [], ◌∷◌, length, Option, Some, None, inl, inr, slice_get, arith, length-append}
use Rattle.std.specs.Prelude.{◌⊎◌, ◌%◌, ◌==◌}
use Rattle.std.specs.List.{AllByRecursion}
use Rattle.std.proofs.lemmas.Bool.Decides.{nat_tests}
use Rattle.std.proofs.lemmas.List.{length-map}
use Rattle.std.proofs.lemmas.Nat.{mod_below}
use Rattle.outside.specs.Drawing.{Drawing}
use Rattle.logon_client.specs.Machine.{fresh_client}
use Rattle.world_moves.specs.declared.state.WaitingDial.{WaitingDial}
use Rattle.world_moves.specs.Acting.{Acted}
use Rattle.world_moves.specs.Ends.{EndStates, starters_in}
use Rattle.logon_client.specs.State.{State as ClientState}
use Rattle.logon_client.specs.declared.plan.ClientPlan.{ClientPlan}
use Rattle.logon_stubs.specs.Ranges.{IsBlock}
use Rattle.world_moves.specs.declared.moves.Move.{Move}
use Rattle.world_moves.specs.declared.moves.Move.TheVariants as move
use Rattle.world_moves.specs.declared.plan.Plan.{Plan}
use Rattle.world_moves.specs.declared.state.State.{State}
use Rattle.world_moves.specs.Choosing.{chosen_place, place_by}
use Rattle.world_moves.specs.Forms.{HasForms}
use Rattle.world_moves.specs.Moving.{act, connect_first, start, start_at, without_first}
use Rattle.world_moves.specs.Plain.{IsPlain}
use Rattle.world_moves.specs.World.{IsPlan, World, first_world, happens, run}
use Rattle.logon_runs.specs.AnyAnswer.AnyLogons.{AreBelow, DrawsUpTo, HasServers, LogonRests}
use Rattle.logon_runs.specs.Scenes.Others.{IsStepOn}
use Rattle.logon_runs.specs.Rests.{AtRest, HasEnough, moved_by}
use Rattle.logon_runs.specs.Scenes.Staying.{HasSameEnds}
use Rattle.logon_runs.specs.Scenes.WaitingUnits.{waiting}
use Rattle.logon_runs.proofs.AnyAnswer.AnyLogonLaws.{logons_rest}
use Rattle.logon_runs.proofs.EnoughLaws.{rest_of}
use Rattle.logon_runs.proofs.RestStayLaws.{rests_stay}
use Rattle.logon_runs.proofs.Scenes.StayingLaws.{both_same, ends_stay}
use Rattle.logon_runs.proofs.Scenes.WaitingLaws.{waiting_comes}
use Rattle.logon_runs.proofs.Scenes.StepOnLaws.{by_step}
use Rattle.step_notes.specs.Records.{blank}
use Rattle.domain_world.specs.Claims.Completeness.{IsPlainMove, IsQuiet, OneAtATime, started_in}
use Rattle.domain_world.proofs.Frames.AloneFrameLaws.{StandsAlone, stands_next}
use Rattle.domain_world.proofs.Completeness.MomentLaws.{moment_below, start_chances}
use Rattle.domain_world.proofs.Completeness.PlainLaws.{by_plain, later_starts}
use Rattle.world_moves.proofs.PlainLaws.{starters_plain}

-- ---- challenges

enough_later : (moves more : ℕ) (before after : List (List ℕ)) → HasEnough (moves + more) before → DrawsUpTo (3 * moves) before after → HasEnough more after
enough_later moves more before after enough draws = record {
  many = omega (arith, enough.many, draws.few, ap length draws.are, length-append draws.front after);
  blocks = rest_of draws.front after (subst (AllByRecursion (λ (challenge : List ℕ). IsBlock 8 challenge)) draws.are enough.blocks);
}

pub fewer_moves : (moves : ℕ) (left : List (List ℕ)) → HasEnough (suc moves) left → HasEnough moves left
fewer_moves moves left enough = record { many = omega (arith, enough.many); blocks = enough.blocks }

-- ---- a client that started at rest

-- A client started `count` moves ago, from the state `first` on. Once nothing waits the world rests.
pub record IsGoing (plan : Plan) (s : State) (client : ℕ) (task : ClientPlan) (first : State) (count : ℕ) (now : State) : Type 0 where
  pub closes : (more : List Move) → AllByRecursion IsStepOn more → AreBelow more now → HasEnough (count + length more) first.chances.left →
      (moved_by more now).dials ≡ [] → waiting (moved_by more now).bag ≡ [] → LogonRests plan s client task (count + length more) first (moved_by more now)

none_before : (count : ℕ) → 0 + count ≡ count
none_before count = omega arith

pub begins_going : (plan : Plan) (s : State) → AtRest plan s → (client : ℕ) (task : ClientPlan) (number : ℕ) → IsPlan plan → HasForms plan → HasServers plan →
    slice_get plan.clients client ≡ Some task → HasSameEnds (first_world plan).state s → chosen_place number (starters_in s.ends) ≡ Some client → IsGoing plan s client task (start number s).state 0 (start number s).state
begins_going plan s rest client task number is forms servers is_task same chosen = record {
  closes = λ more steps below enough dials units.
      subst (λ (moves : ℕ). LogonRests plan s client task moves (start number s).state (moved_by more (start number s).state)) (sym (none_before (length more)))
      (logons_rest.rests plan s rest client task number is forms servers is_task same chosen more steps below
      (subst (λ (moves : ℕ). HasEnough moves (start number s).state.chances.left) (none_before (length more)) enough) dials units);
}

counted : (count more : ℕ) → count + suc more ≡ suc count + more
counted count more = omega arith

pub still_going : (plan : Plan) (s : State) (client : ℕ) (task : ClientPlan) (first : State) (count : ℕ) (now : State) (what : Move) → IsStepOn what → now.moment < 2 ^ 64 →
    IsGoing plan s client task first count now → IsGoing plan s client task first (suc count) (act now what).state
still_going plan s client task first count now what steps below going = record {
  closes = λ more each later enough dials units.
      subst (λ (moves : ℕ). LogonRests plan s client task moves first (moved_by more (act now what).state)) (counted count (length more))
      (going.closes (what ∷ more) (steps, each) (below, later) (subst (λ (moves : ℕ). HasEnough moves first.chances.left) (sym (counted count (length more))) enough) dials units);
}

none_more : (count : ℕ) → count + 0 ≡ count
none_more count = omega arith

pub now_closes : (plan : Plan) (s : State) (client : ℕ) (task : ClientPlan) (first : State) (count : ℕ) (now : State) → HasEnough count first.chances.left →
    IsGoing plan s client task first count now → now.dials ≡ [] → waiting now.bag ≡ [] → LogonRests plan s client task count first now
now_closes plan s client task first count now enough going dials units =
    subst (λ (moves : ℕ). LogonRests plan s client task moves first now) (none_more count)
    (going.closes [] tt tt (subst (λ (moves : ℕ). HasEnough moves first.chances.left) (sym (none_more count)) enough) dials units)

-- ---- a state of the run

-- the world rests, with challenges for `left` moves
pub record Resting (plan : Plan) (left : ℕ) (s : State) : Type 0 where
  pub rest : AtRest plan s
  pub enough : HasEnough left s.chances.left

-- a client goes on which started when the world was at rest
pub record Started (plan : Plan) (left : ℕ) (s : State) (client : ℕ) (now : State) : Type 0 where
  pub task : ClientPlan
  pub first : State
  pub count : ℕ
  pub enough : HasEnough (count + left) first.chances.left
  pub going : IsGoing plan s client task first count now

-- what is quiet, in the terms of logons
pub units_quiet : (w : World) → IsQuiet w → waiting w.state.bag ≡ []
units_quiet w quiet = waiting_comes.nothing w.state.bag quiet.units

pub closes_so : (plan : Plan) (left : ℕ) (s : State) (client : ℕ) (w : World) (started : Started plan left s client w.state) → IsQuiet w →
    LogonRests plan s client started.task started.count started.first w.state
closes_so plan left s client w started quiet =
    now_closes plan s client started.task started.first started.count w.state
    (record { many = omega (arith, started.enough.many); blocks = started.enough.blocks }) started.going quiet.dials (units_quiet w quiet)

pub rests_then : (plan : Plan) (left : ℕ) (s : State) (client : ℕ) (w : World) → Started plan left s client w.state → IsQuiet w → Resting plan left w.state
rests_then plan left s client w started quiet =
    let closed : LogonRests plan s client started.task started.count started.first w.state = closes_so plan left s client w started quiet in
    record { rest = closed.rest; enough = enough_later started.count left started.first.chances.left w.state.chances.left started.enough closed.draws }

pub goes_further : (plan : Plan) (left : ℕ) (s : State) (client : ℕ) (now : State) (what : Move) → IsStepOn what → now.moment < 2 ^ 64 → Started plan (suc left) s client now →
    Started plan left s client (act now what).state
goes_further plan left s client now what steps below started = record {
  task = started.task;
  first = started.first;
  count = suc started.count;
  enough = subst (λ (moves : ℕ). HasEnough moves started.first.chances.left) (counted started.count left) started.enough;
  going = still_going plan s client started.task started.first started.count now what steps below started.going;
}

-- ---- a move at rest

pub rests_on : (plan : Plan) (left : ℕ) (s : State) (what : Move) → IsStepOn what → Resting plan (suc left) s → Resting plan left (act s what).state
rests_on plan left s what steps resting = record {
  rest = rests_stay.stays plan s what steps resting.rest;
  enough = subst (λ (chances : Drawing). HasEnough left chances.left) (sym (rests_stay.draws plan s what steps resting.rest)) (fewer_moves left s.chances.left resting.enough);
}

-- no end changes
ends_rest : (plan : Plan) (s : State) (what : Move) → IsStepOn what → AtRest plan s → (act s what).state.ends ≡ s.ends
ends_rest plan s what steps rest =
    by_step (λ (one : Move). (act s one).state.ends ≡ s.ends) (ap (λ (dials : List WaitingDial). (connect_first (slice_get dials 0) (without_first s)).state.ends) rest.dials)
    (ap (λ (a : Acted). a.state.ends) (waiting_comes.idle s rest.units)) (λ more. refl) what steps

-- ---- a client starts

place_so : (number count : ℕ) (none : Bool) → (count == 0) ≡ none → ((chosen_place number count ≡ None) × ((count == 0) ≡ true)) ⊎ ((chosen_place number count ≡ Some (number % count)) × ((count == 0) ≡ false))
place_so number count true is = inl (ap (λ (b : Bool). place_by b number count) is, is)
place_so number count false is = inr (ap (λ (b : Bool). place_by b number count) is, is)

pub some_first : (count : ℕ) → (count == 0) ≡ false → 0 < count
some_first count is = grind (arith, nat_tests)

task_so : (clients : List ClientPlan) (at : ℕ) → at < length clients → (task : ClientPlan) × (slice_get clients at ≡ Some task)
task_so [] at inside = absurd (omega (arith, inside))
task_so (task ∷ clients) zero inside = (task, refl)
task_so (task ∷ clients) (suc at) inside = task_so clients at (omega (arith, inside))

-- that client starts, of the plan; or there is none
pub record BeginsSo (plan : Plan) (left : ℕ) (s : State) (number : ℕ) : Type 0 where
  pub task : ClientPlan
  pub is_task : slice_get plan.clients (number % length plan.clients) ≡ Some task
  pub chosen : chosen_place number (starters_in s.ends) ≡ Some (number % length plan.clients)
  pub started : Started plan left s (number % length plan.clients) (start number s).state

pub as_planned : (plan : Plan) (s : State) → HasSameEnds (first_world plan).state s → length s.ends.clients ≡ length plan.clients
as_planned plan s same = same.ends.clients ∙ length-map plan.clients fresh_client

none_first : (count : ℕ) → (count == 0) ≡ true → count ≡ 0
none_first count is = grind (arith, nat_tests)

no_items : {T : Type 0} (items : List T) → length items ≡ 0 → items ≡ []
no_items [] none = refl
no_items (item ∷ items) none = absurd (omega (arith, none))

no_clients : (plan : Plan) (s : State) → HasSameEnds (first_world plan).state s → (length s.ends.clients == 0) ≡ true → plan.clients ≡ []
no_clients plan s same none = no_items plan.clients (sym (as_planned plan s same) ∙ none_first (length s.ends.clients) none)

pub begins_so : (plan : Plan) (left : ℕ) (s : State) (number : ℕ) → IsPlan plan → HasForms plan → HasServers plan → HasSameEnds (first_world plan).state s → IsPlain s → Resting plan (suc left) s →
    (((start number s).state ≡ s) × (plan.clients ≡ [])) ⊎ BeginsSo plan left s number
begins_so plan left s number is forms servers same plain resting =
    let clients : chosen_place number (starters_in s.ends) ≡ chosen_place number (length s.ends.clients) = ap (chosen_place number) (starters_plain s plain) in
    elim (place_so number (length s.ends.clients) (length s.ends.clients == 0) refl) [
      | inl none ↦ inl (ap (λ (at : Option ℕ). (start_at at s).state) (clients ∙ none.0), no_clients plan s same none.1)
      | inr some ↦
          let count : length s.ends.clients ≡ length plan.clients = as_planned plan s same in
          let inside : 0 < length plan.clients = subst (λ (n : ℕ). 0 < n) count (some_first (length s.ends.clients) some.1) in
          let found = task_so plan.clients (number % length plan.clients) (mod_below number (length plan.clients) inside) in
          let chosen : chosen_place number (starters_in s.ends) ≡ Some (number % length plan.clients) = clients ∙ some.0 ∙ ap (λ (n : ℕ). Some (number % n)) count in
          inr (record {
            task = found.0;
            is_task = found.1;
            chosen = chosen;
            started = record {
              task = found.0;
              first = (start number s).state;
              count = 0;
              enough = subst (λ (moves : ℕ). HasEnough moves (start number s).state.chances.left) (sym (none_before left))
                  (subst (λ (chances : Drawing). HasEnough left chances.left) (sym (start_chances number s)) (fewer_moves left s.chances.left resting.enough));
              going = begins_going plan s resting.rest (number % length plan.clients) found.0 number is forms servers found.1 same chosen;
            };
          })
    ]

-- ---- the moves

-- what holds of the moves that are left
pub record Along (plan : Plan) (moves : List Move) (w : World) : Type 0 where
  pub plain : AllByRecursion IsPlainMove moves
  pub quiet : OneAtATime moves w
  pub same : HasSameEnds (first_world plan).state w.state
  pub below : w.state.moment < 2 ^ 64
  pub stands : StandsAlone w.state

pub along_next : (plan : Plan) (what : Move) (moves : List Move) (w : World) → Along plan (what ∷ moves) w → Along plan moves (happens w what)
along_next plan what moves w along = record {
  plain = along.plain.1;
  quiet = along.quiet.1;
  same = both_same (first_world plan).state w.state (act w.state what).state along.same (ends_stay.acts w.state what);
  below = moment_below w.state what along.below;
  stands = stands_next what w blank along.stands;
}

-- ---- a client that isn't started any more

-- a client that isn't started any more is as it was when the world rested
record KeepsIn (plan : Plan) (left client : ℕ) (value : Option ClientState) (now : State) : Type 0 where
  s : State
  other : ℕ
  started : Started plan left s other now
  apart : client ≢ other
  was : slice_get s.ends.clients client ≡ value

record KeepsAtRest (plan : Plan) (left client : ℕ) (value : Option ClientState) (now : State) : Type 0 where
  resting : Resting plan left now
  is : slice_get now.ends.clients client ≡ value

abbrev KeepsWhereItRests : Plan → ℕ → ℕ → Option ClientState → State → Type 0
KeepsWhereItRests plan left client value now = KeepsAtRest plan left client value now ⊎ KeepsIn plan left client value now

quiet_keeps : (plan : Plan) (left client : ℕ) (value : Option ClientState) (w : World) → IsQuiet w → KeepsWhereItRests plan left client value w.state → KeepsAtRest plan left client value w.state
quiet_keeps plan left client value w quiet (inl rests) = rests
quiet_keeps plan left client value w quiet (inr keeps) = record {
  resting = rests_then plan left keeps.s keeps.other w keeps.started quiet;
  is = (closes_so plan left keeps.s keeps.other w keeps.started quiet).clients client keeps.apart ∙ keeps.was;
}

step_keeps : (plan : Plan) (left client : ℕ) (value : Option ClientState) (now : State) (what : Move) → IsStepOn what → now.moment < 2 ^ 64 → KeepsWhereItRests plan (suc left) client value now →
    KeepsWhereItRests plan left client value (act now what).state
step_keeps plan left client value now what steps below (inl rests) = inl (record {
  resting = rests_on plan left now what steps rests.resting;
  is = ap (λ (ends : EndStates). slice_get ends.clients client) (ends_rest plan now what steps rests.resting.rest) ∙ rests.is;
})
step_keeps plan left client value now what steps below (inr keeps) = inr (record {
  s = keeps.s;
  other = keeps.other;
  started = goes_further plan left keeps.s keeps.other now what steps below keeps.started;
  apart = keeps.apart;
  was = keeps.was;
})

module _ (plan : Plan) (is : IsPlan plan) (forms : HasForms plan) (servers : HasServers plan) where
  start_keeps : (left client : ℕ) (value : Option ClientState) (now : State) (number : ℕ) → HasSameEnds (first_world plan).state now → IsPlain now → client ≢ number % length plan.clients →
      KeepsAtRest plan (suc left) client value now → KeepsWhereItRests plan left client value (start number now).state
  start_keeps left client value now number same plain apart rests =
      elim (begins_so plan left now number is forms servers same plain rests.resting) [
        | inl none ↦ subst (λ (s : State). KeepsWhereItRests plan left client value s) (sym none.0)
            (inl (record { resting = record { rest = rests.resting.rest; enough = fewer_moves left now.chances.left rests.resting.enough }; is = rests.is }))
        | inr begins ↦ inr (record { s = now; other = number % length plan.clients; started = begins.started; apart = apart; was = rests.is })
      ]

  keeps_on : (client : ℕ) (value : Option ClientState) (moves : List Move) (w : World) → Along plan moves w →
      AllByRecursion (λ (other : ℕ). client ≢ other) (started_in moves (length plan.clients)) → KeepsWhereItRests plan (length moves) client value w.state →
      slice_get (run moves w).state.ends.clients client ≡ value
  keeps_on client value [] w along apart keeps = (quiet_keeps plan 0 client value w along.quiet keeps).is
  keeps_on client value (what ∷ moves) w along apart keeps =
      by_plain
      (λ (one : Move).
      Along plan (one ∷ moves) w → AllByRecursion (λ (other : ℕ). client ≢ other) (started_in (one ∷ moves) (length plan.clients)) → KeepsWhereItRests plan (suc (length moves)) client value w.state →
      slice_get (run moves (happens w one)).state.ends.clients client ≡ value)
      (λ number on differs kept.
      keeps_on client value moves (happens w (move.Start number)) (along_next plan (move.Start number) moves w on) differs.1
      (start_keeps (length moves) client value w.state number on.same on.stands.plain differs.0 (quiet_keeps plan (suc (length moves)) client value w on.quiet.0 kept)))
      (λ one steps on differs kept.
      keeps_on client value moves (happens w one) (along_next plan one moves w on)
      (later_starts (AllByRecursion (λ (other : ℕ). client ≢ other)) one (length plan.clients) (started_in moves (length plan.clients)) steps differs)
      (step_keeps plan (length moves) client value w.state one steps on.below kept))
      what along.plain.0 along apart keeps

  -- from rest on
  pub stays_so : (client : ℕ) (moves : List Move) (w : World) → Along plan moves w → AllByRecursion (λ (other : ℕ). client ≢ other) (started_in moves (length plan.clients)) →
      Resting plan (length moves) w.state → slice_get (run moves w).state.ends.clients client ≡ slice_get w.state.ends.clients client
  stays_so client moves w along apart resting =
      keeps_on client (slice_get w.state.ends.clients client) moves w along apart (inl (record { resting = resting; is = refl }))
