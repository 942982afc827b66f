-- The logon of a client that can succeed, over its moves: at its end the client is in, and its member told so.
-- It serves `Proved.complete`.
use Rattle.std.proofs.Common.{◌≡◌, ◌≢◌, ℕ, suc, ◌<◌, ◌^◌, sym, ap, subst, ◌∙◌, List, [], ◌∷◌, length, Some, inl, inr, slice_get, arith, false, refl}
use Rattle.std.specs.Prelude.{IsSomeAnd}
use Rattle.std.specs.List.{AllByRecursion}
use Rattle.domain_controller.specs.State.{State as ControllerState}
use Rattle.sam_logon.specs.MayLogOn.{MayLogOn}
use Rattle.logon_stubs.specs.declared.info.NetworkInfo.{NetworkInfo}
use Rattle.wire_base.specs.Lists.{OneOf}
use Rattle.step_notes.specs.Records.{Book}
use Rattle.logon_client.specs.declared.outcome.ClientOutcome.TheVariants.{In}
use Rattle.world_moves.specs.declared.links.Route.{Route}
use Rattle.world_moves.specs.declared.links.Route.TheVariants.{ToMember}
use Rattle.world_moves.specs.declared.moves.Move.{Move}
use Rattle.world_moves.specs.declared.moves.Move.TheVariants as move
use Rattle.world_moves.specs.declared.plan.Plan.{Plan}
use Rattle.world_moves.specs.declared.state.State.{State}
use Rattle.world_moves.specs.Forms.{HasForms}
use Rattle.world_moves.specs.Moving.{act}
use Rattle.world_moves.specs.World.{IsPlan, World, happens, run}
use Rattle.logon_steps.specs.ClientSteps.{client_ended}
use Rattle.logon_runs.specs.AnyAnswer.AnyLogons.{HasServers}
use Rattle.logon_runs.specs.Scenes.Others.{IsStepOn, is_onward}
use Rattle.logon_runs.specs.Rests.{HasEnough}
use Rattle.logon_runs.specs.Phases.{Aim, ArrivesAt, ComesSoFar, Arrival, DrawsFew, First, Fourth, HasUser, HasUserAt, IsKnown, IsOver, IsReached, IsReady, IsUnderWay, LogonPhase, MayLogOnAt, Progress, Second, Third, TurnAt, WasTold, WhoAsked, key_at, own, progress_of, progress_onward, told_of}
use Rattle.logon_runs.specs.Phases.{Acked, Answers, Binds, BindsBefore, BindsHeld, Calls, Challenged, Dials, DialsBefore, DialsHeld, Echoed, Echoes, Granted, Halved, Named, Proved, Sets}
use Rattle.logon_runs.specs.Runs.{ClientAnswer}
use Rattle.logon_runs.specs.Grants.{KeyArrives}
use Rattle.logon_runs.proofs.AmongLaws.{reached_so}
use Rattle.logon_runs.proofs.EnoughLaws.{enough_after, none_drawn, three_from}
use Rattle.logon_runs.proofs.Phases.PhaseLaws.{phases_go_on}
use Rattle.logon_runs.proofs.Scenes.StayingLaws.{ends_stay}
use Rattle.logon_runs.proofs.Scenes.StepOnLaws.{by_step, if_other}
use Rattle.logon_runs.proofs.Failing.TurnedAwayLaws.{logons_are_turned_away}
use Rattle.domain_world.specs.Claims.Completeness.{InEachState, IsQuiet, MayLogOnIn, info_planned, started_in}
use Rattle.domain_world.specs.Past.{book, note}
use Rattle.domain_world.proofs.Frames.AloneFrameLaws.{StandsAlone, stands_next}
use Rattle.domain_world.proofs.Completeness.ApartLaws.{info_same}
use Rattle.domain_world.proofs.Completeness.BookStayLaws.{link_stays, told_stays}
use Rattle.domain_world.proofs.Completeness.OwnLogonLaws.{AreSafe, IsSafe, IsTold, IsWritten, onward_arrives, onward_written, safe_then, written_stays}
use Rattle.domain_world.proofs.Completeness.RestingLaws.{Along, Started, along_next, goes_further, rests_then, stays_so, units_quiet}
use Rattle.domain_world.proofs.Completeness.PlainLaws.{by_plain, later_starts}

-- ---- a move at which no unit comes

call_still : (p : Arrival) (a : ClientAnswer) (who : WhoAsked p a) (v : TurnAt) (aim : Aim) (what : Move) → is_onward what ≡ false → ArrivesAt p (Calls a who v aim) what
call_still p a who v (First client) what still = tt
call_still p a who v (Second client server) what still = tt
call_still p a who v (Third o c timestamp) what still = if_other (is_onward what) (KeyArrives (own p) a o) still
call_still p a who v (Fourth o c timestamp new) what still = tt

pub still_arrives : (p : Arrival) (phase : LogonPhase p) (what : Move) → is_onward what ≡ false → ArrivesAt p phase what
still_arrives p Dials what still = tt
still_arrives p Binds what still = tt
still_arrives p (Challenged challenge) what still = tt
still_arrives p (Answers a who) what still = tt
still_arrives p (DialsBefore a who v aim) what still = tt
still_arrives p (DialsHeld a who v aim) what still = tt
still_arrives p (BindsBefore a who v aim) what still = tt
still_arrives p (BindsHeld a who v aim) what still = tt
still_arrives p (Acked a who v aim) what still = tt
still_arrives p (Calls a who v aim) what still = call_still p a who v aim what still
still_arrives p (Halved a who v client server) what still = tt
still_arrives p (Proved a who v client server) what still = tt
still_arrives p (Granted a who v o c timestamp judged_at accounts) what still = tt
still_arrives p (Sets a who v o c timestamp new accounts) what still = tt
still_arrives p (Named a e on one other back) what still = tt
still_arrives p (Echoes a e on one asks) what still = tt
still_arrives p (Echoed a e talk one other back) what still = tt

-- ---- a move

-- a logon is so far, and what it says is written down
pub record IsSoFar (p : Arrival) (s : State) (b : Book) : Type 0 where
  pub far : Progress
  pub comes : ComesSoFar p far s
  pub written : IsWritten p far b

-- a logon has come so far, and few challenges were drawn
record GoesSoFar (p : Arrival) (s after : State) (b : Book) : Type 0 where
  so_far : IsSoFar p after b
  few : DrawsFew s.chances.left after.chances.left

module _ (p : Arrival) (w : World) (b : Book) (known : IsKnown p) (user : HasUser p) (ready : IsReady p w.state) (may : MayLogOnAt p w.state) (stands : StandsAlone w.state) where
  onward_goes : IsSafe p (note w move.Onward b) → (at : IsUnderWay p w.state) → IsWritten p (progress_of at.phase) b → GoesSoFar p w.state (act w.state move.Onward).state (note w move.Onward b)
  onward_goes safe at written =
      let asked : HasUserAt p w.state at.phase move.Onward = phases_go_on.has_user p w.state at move.Onward user may in
      let arrives : ArrivesAt p at.phase move.Onward = onward_arrives p w b known user may stands safe at.phase at.left at.moment at.fits at.shows in
      record {
        so_far = record {
          far = progress_onward at.phase;
          comes = phases_go_on.goes_so_far p w.state move.Onward known ready tt at asked arrives;
          written = onward_written p w b known user may stands safe at.phase at.left at.moment at.fits at.shows written;
        };
        few = phases_go_on.draws p w.state move.Onward known ready tt at asked arrives;
      }

  connect_goes : (at : IsUnderWay p w.state) → IsWritten p (progress_of at.phase) b → GoesSoFar p w.state (act w.state move.Connect).state (note w move.Connect b)
  connect_goes at written =
      let asked : HasUserAt p w.state at.phase move.Connect = phases_go_on.has_user p w.state at move.Connect user may in
      let arrives : ArrivesAt p at.phase move.Connect = still_arrives p at.phase move.Connect refl in
      record {
        so_far = record {
          far = progress_of at.phase;
          comes = phases_go_on.goes_so_far p w.state move.Connect known ready tt at asked arrives;
          written = written_stays p (progress_of at.phase) move.Connect w b stands written;
        };
        few = phases_go_on.draws p w.state move.Connect known ready tt at asked arrives;
      }

  tick_goes : (more : ℕ) (at : IsUnderWay p w.state) → IsWritten p (progress_of at.phase) b → GoesSoFar p w.state (act w.state (move.Tick more)).state (note w (move.Tick more) b)
  tick_goes more at written =
      let asked : HasUserAt p w.state at.phase (move.Tick more) = phases_go_on.has_user p w.state at (move.Tick more) user may in
      let arrives : ArrivesAt p at.phase (move.Tick more) = still_arrives p at.phase (move.Tick more) refl in
      record {
        so_far = record {
          far = progress_of at.phase;
          comes = phases_go_on.goes_so_far p w.state (move.Tick more) known ready tt at asked arrives;
          written = written_stays p (progress_of at.phase) (move.Tick more) w b stands written;
        };
        few = phases_go_on.draws p w.state (move.Tick more) known ready tt at asked arrives;
      }

  under_goes : (what : Move) → IsStepOn what → IsSafe p (note w what b) → (at : IsUnderWay p w.state) → IsWritten p (progress_of at.phase) b → GoesSoFar p w.state (act w.state what).state (note w what b)
  under_goes what steps =
      by_step (λ (one : Move). IsSafe p (note w one b) → (at : IsUnderWay p w.state) → IsWritten p (progress_of at.phase) b → GoesSoFar p w.state (act w.state one).state (note w one b))
      (λ safe at written. connect_goes at written) (λ safe at written. onward_goes safe at written) (λ more safe at written. tick_goes more at written) what steps

  over_goes : (what : Move) → IsStepOn what → (over : IsOver p w.state) → IsWritten p (WasTold over.asked) b → GoesSoFar p w.state (act w.state what).state (note w what b)
  over_goes what steps over written =
      let later = phases_go_on.rests_same p w.state what steps over in
      record {
        so_far = record {
          far = WasTold over.asked;
          comes = inr (later.0, ap (λ (a : ClientAnswer). WasTold a) later.1);
          written = written_stays p (WasTold over.asked) what w b stands written;
        };
        few = none_drawn w.state.chances.left (act w.state what).state.chances.left
            (logons_are_turned_away.over_draws p w.state what steps (logons_are_turned_away.over p w.state over));
      }

  goes_by : (far : Progress) → ComesSoFar p far w.state → IsWritten p far b → (what : Move) → IsStepOn what → IsSafe p (note w what b) → GoesSoFar p w.state (act w.state what).state (note w what b)
  goes_by far (inl at) written what steps safe = under_goes what steps safe at.0 (subst (λ (f : Progress). IsWritten p f b) (sym at.1) written)
  goes_by far (inr over) written what steps safe = over_goes what steps over.0 (subst (λ (f : Progress). IsWritten p f b) (sym over.1) written)

-- ---- the moves

-- at the end of the run the client is in, with its key, and its member told so of the client's own link
pub record OwnEnds (p : Arrival) (moves : List Move) (w : World) (b : Book) : Type 0 where
  pub asked : ClientAnswer
  pub is_in : slice_get (run moves w).state.ends.clients p.meeting.at_client ≡ Some (client_ended p.meeting.task (In (told_of p) (key_at p asked) p.meeting.task.echo))
  pub told : OneOf (IsTold p asked) (book moves w b).told
  pub joined : slice_get (run moves w).state.links (own p).link ≡ Some (ToMember p.meeting.at_client p.meeting.at_member)

pub may_at : (p : Arrival) (s : State) → MayLogOnIn p.meeting.at_controller (info_planned p.meeting.task) s → MayLogOnAt p s
may_at p s may =
    subst (λ (info : NetworkInfo). IsSomeAnd (slice_get s.ends.controllers p.meeting.at_controller) (λ (c : ControllerState). MayLogOn c.table info s.moment)) (info_same p.meeting.task) may

module _ (plan : Plan) (is : IsPlan plan) (forms : HasForms plan) (servers : HasServers plan) (p : Arrival) (known : IsKnown p) (user : HasUser p) (s0 : State) (started_one : ℕ) where
  over_ends : (moves : List Move) (w : World) (b : Book) → IsQuiet w → Along plan moves w → Started plan (length moves) s0 started_one w.state →
      AllByRecursion (λ (other : ℕ). p.meeting.at_client ≢ other) (started_in moves (length plan.clients)) → (far : Progress) → ComesSoFar p far w.state → IsWritten p far b → OwnEnds p moves w b
  over_ends moves w b quiet along started apart far (inl at) written = absurd (phases_go_on.waits p w.state at.0 quiet.dials (units_quiet w quiet))
  over_ends moves w b quiet along started apart far (inr over) written = record {
    asked = over.0.asked;
    is_in = stays_so plan is forms servers p.meeting.at_client moves w along apart
        (rests_then plan (length moves) s0 started_one w started quiet) ∙ over.0.shows.client;
    told = told_stays (IsTold p over.0.asked) moves w b along.stands (subst (λ (f : Progress). IsWritten p f b) (sym over.1) written);
    joined = link_stays (own p).link (ToMember p.meeting.at_client p.meeting.at_member) moves w b along.stands
        (ap (λ (links : List Route). slice_get links (own p).link) over.0.shows.links ∙ over.0.fits.joined_so);
  }

  pub ready_so : (moves : ℕ) (w : World) → IsReached p w.state → w.state.moment < 2 ^ 64 → HasEnough (suc moves) w.state.chances.left → IsReady p w.state
  ready_so moves w reached below enough = record { reached = reached; draws = three_from w.state.chances.left enough.blocks (omega (arith, enough.many)); below = below }

  -- what is left to do after a move
  abbrev OwnGoes : List Move → World → Book → Type 0
  OwnGoes moves w b =
      Along plan moves w → HasEnough (length moves) w.state.chances.left → InEachState (MayLogOnIn p.meeting.at_controller (info_planned p.meeting.task)) moves w → AreSafe p (book moves w b) →
      IsReached p w.state → Started plan (length moves) s0 started_one w.state → AllByRecursion (λ (other : ℕ). p.meeting.at_client ≢ other) (started_in moves (length plan.clients)) →
      IsSoFar p w.state b → OwnEnds p moves w b

  own_steps : (what : Move) (moves : List Move) (w : World) (b : Book) → IsStepOn what → OwnGoes moves (happens w what) (note w what b) → Along plan (what ∷ moves) w →
      HasEnough (suc (length moves)) w.state.chances.left → MayLogOnIn p.meeting.at_controller (info_planned p.meeting.task) w.state ×
      InEachState (MayLogOnIn p.meeting.at_controller (info_planned p.meeting.task)) moves (happens w what) → AreSafe p (book moves (happens w what) (note w what b)) → IsReached p w.state →
      Started plan (suc (length moves)) s0 started_one w.state → AllByRecursion (λ (other : ℕ). p.meeting.at_client ≢ other) (started_in moves (length plan.clients)) → IsSoFar p w.state b →
      OwnEnds p (what ∷ moves) w b
  own_steps what moves w b steps then_on along enough may safe reached started apart so_far =
      let goes : GoesSoFar p w.state (act w.state what).state (note w what b) =
      goes_by p w b known user (ready_so (length moves) w reached along.below enough) (may_at p w.state may.0) along.stands so_far.far so_far.comes so_far.written what steps
      (safe_then p moves (happens w what) (note w what b) (stands_next what w b along.stands) safe) in
      let ends : OwnEnds p moves (happens w what) (note w what b) =
      then_on (along_next plan what moves w along) (enough_after (length moves) w.state.chances.left (act w.state what).state.chances.left enough goes.few) may.1 safe
      (reached_so p w.state (act w.state what).state reached (ends_stay.acts w.state what)) (goes_further plan (length moves) s0 started_one w.state what steps along.below started) apart goes.so_far in
      record { asked = ends.asked; is_in = ends.is_in; told = ends.told; joined = ends.joined }

  pub own_goes : (moves : List Move) (w : World) (b : Book) → OwnGoes moves w b
  own_goes [] w b along enough may safe reached started apart so_far = over_ends [] w b along.quiet along started apart so_far.far so_far.comes so_far.written
  own_goes (what ∷ moves) w b along enough may safe reached started apart so_far =
      by_plain (λ (one : Move). OwnGoes (one ∷ moves) w b)
      (λ number on few can clear comes began differs far. over_ends (move.Start number ∷ moves) w b on.quiet.0 on began differs far.far far.comes far.written)
      (λ one steps on few can clear comes began differs far.
      own_steps one moves w b steps (own_goes moves (happens w one) (note w one b)) on few can clear comes began
      (later_starts (AllByRecursion (λ (other : ℕ). p.meeting.at_client ≢ other)) one (length plan.clients) (started_in moves (length plan.clients)) steps differs) far)
      what along.plain.0 along enough may safe reached started apart so_far
