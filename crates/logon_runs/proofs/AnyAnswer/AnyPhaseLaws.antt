-- A logon at any member, move by move.
-- Of `any_phases_go_on`.
use Rattle.std.proofs.Common.{◌≡◌, ℕ, refl, sym, subst, ◌∙◌, List, [], inl, inr}
use Rattle.std.specs.Prelude.{◌⊎◌}
use Rattle.world_moves.specs.declared.moves.Move.{Move}
use Rattle.world_moves.specs.declared.moves.Move.TheVariants as move
use Rattle.world_moves.specs.declared.plan.Plan.{Plan}
use Rattle.world_moves.specs.declared.state.State.{State}
use Rattle.world_moves.specs.Moving.{act, moment_after, onward, tick}
use Rattle.logon_steps.specs.ClientSteps.{client_ended}
use Rattle.logon_runs.specs.Scenes.LinkScenes.{rest_scene}
use Rattle.logon_runs.specs.Scenes.Others.{IsStepOn}
use Rattle.logon_runs.specs.Phases.{Acked, Answers, Binds, BindsBefore, BindsHeld, Calls, Challenged, Arrival, Dials, DialsBefore, DialsHeld, Echoed, Echoes, Granted, Halved, LogonPhase, Named, Progress, Proved, Sets, progress_onward, scene_of}
use Rattle.logon_runs.specs.Scenes.Scene.{Scene, Shows}
use Rattle.logon_runs.specs.Failing.TurnedAway.{AwayPhase, Faulted, Refused, Unheard, away_scene, settled_in}
use Rattle.logon_runs.specs.Scenes.WaitingUnits.{waiting}
use Rattle.logon_runs.specs.AnyAnswer.AnyPhases.{AnyPhase, AnyPhasesGoOn, Away, IsAble, IsAnywhere, IsDone, GoesTo, IsLetIn, IsReadyBy, Judged, MayFit, MayFitOn, On, Setting, Told, any_scene, progress_by, progress_in, progress_next}
use Rattle.logon_runs.proofs.Phases.PhaseLaws.{at_moment, one_waits, same_scene, waits_so}
use Rattle.logon_runs.proofs.Scenes.StartLaws.{starts_are_seen}
use Rattle.logon_runs.proofs.Scenes.TurningSceneLaws.{scenes_turn}
use Rattle.logon_runs.proofs.Scenes.StepOnLaws.{by_step}
use Rattle.logon_runs.proofs.AnyAnswer.AnyStartLaws.{any_answers, any_binds, any_challenged, any_connects, any_seen, leads}
use Rattle.logon_runs.proofs.AnyAnswer.AnyReplyLaws.{any_judged, any_set, any_told}
use Rattle.logon_runs.proofs.AnyAnswer.AnyTurnLaws.{any_acked, any_away, any_binds_held, any_bound, any_calls, any_dials_held, any_halved}

module _ (plan : Plan) (p : Arrival) (s : State) where
  -- ---- a unit comes

  -- where none waits
  stays_heard : (phase : AnyPhase p) (left : List (List ℕ)) (moment : ℕ) → MayFit plan p phase → (any_scene p phase left moment).units ≡ [] → Shows s (any_scene p phase left moment) →
      GoesTo plan p (progress_in phase) s (onward s).state
  stays_heard phase left moment fits none shows =
      leads plan p s _ phase left moment (any_seen p s phase left moment shows) fits (starts_are_seen.no_unit s (any_scene p phase left moment) none shows)

  on_comes : (phase : LogonPhase p) (left : List (List ℕ)) (moment : ℕ) → IsAble plan p → IsReadyBy plan p s → MayFitOn plan p phase → Shows s (scene_of p phase left moment) →
      GoesTo plan p (progress_onward phase) s (onward s).state
  on_comes Dials left moment able ready fits shows = stays_heard (On Dials) left moment fits refl shows
  on_comes Binds left moment able ready fits shows = any_binds plan p s left moment able ready shows
  on_comes (Challenged challenge) left moment able ready fits shows = any_challenged plan p s challenge left moment able ready fits shows
  on_comes (Answers a who) left moment able ready fits shows = any_answers plan p s a who left moment able ready fits shows
  on_comes (DialsBefore a who v aim) left moment able ready fits shows = any_dials_held plan p s a who v aim left moment fits.0 fits.1 shows
  on_comes (DialsHeld a who v aim) left moment able ready fits shows = stays_heard (On (DialsHeld a who v aim)) left moment fits refl shows
  on_comes (BindsBefore a who v aim) left moment able ready fits shows = any_binds_held plan p s a who v aim left moment fits.0 fits.1 fits.2 shows
  on_comes (BindsHeld a who v aim) left moment able ready fits shows = any_bound plan p s a who v aim left moment fits.0 fits.1 fits.2 shows
  on_comes (Acked a who v aim) left moment able ready fits shows = any_acked plan p s a who v aim left moment fits.0 fits.1 fits.2 shows
  on_comes (Calls a who v aim) left moment able ready fits shows = any_calls plan p s a who v aim left moment able ready fits.0 fits.1 fits.2 shows
  on_comes (Halved a who v client server) left moment able ready fits shows = any_halved plan p s a who v client server left moment fits.0 fits.1 fits.2 shows
  on_comes (Proved a who v client server) left moment able ready fits shows = absurd fits
  on_comes (Granted a who v o c timestamp judged_at accounts) left moment able ready fits shows = absurd fits
  on_comes (Sets a who v o c timestamp new accounts) left moment able ready fits shows = absurd fits
  on_comes (Named a e on one other back) left moment able ready fits shows = absurd fits
  on_comes (Echoes a e on one asks) left moment able ready fits shows = absurd fits
  on_comes (Echoed a e talk one other back) left moment able ready fits shows = absurd fits

  any_comes : (phase : AnyPhase p) (left : List (List ℕ)) (moment : ℕ) → IsAble plan p → IsReadyBy plan p s → MayFit plan p phase → Shows s (any_scene p phase left moment) →
      GoesTo plan p (progress_next phase) s (onward s).state ⊎ IsLetIn plan p s
  any_comes (On phase) left moment able ready fits shows = inl (on_comes phase left moment able ready fits shows)
  any_comes (Told a who v client server credential status) left moment able ready fits shows =
      inl (any_told plan p s a who v client server credential status left moment fits.0 fits.1 fits.2 fits.4 fits.5 shows)
  any_comes (Setting a who v o c timestamp new accounts answer) left moment able ready fits shows = inl (any_set plan p s a who v o c timestamp new accounts answer left moment fits shows)
  any_comes (Judged a who v o c timestamp accounts answer) left moment able ready fits shows = any_judged plan p s a who v o c timestamp accounts answer left moment fits shows
  any_comes (Away phase) left moment able ready fits shows = inl (any_away plan p s phase left moment fits shows)

  -- ---- time passes

  away_same : (phase : AwayPhase p) (left : List (List ℕ)) (moment later : ℕ) → at_moment later (away_scene p phase left moment) ≡ away_scene p phase left later
  away_same (Refused a who v o c timestamp accounts status) left moment later = refl
  away_same (Unheard a who e) left moment later = refl
  away_same (Faulted a later_session e status) left moment later = refl

  any_same : (phase : AnyPhase p) (left : List (List ℕ)) (moment later : ℕ) → at_moment later (any_scene p phase left moment) ≡ any_scene p phase left later
  any_same (On phase) left moment later = same_scene p phase left moment later
  any_same (Told a who v client server credential status) left moment later = refl
  any_same (Setting a who v o c timestamp new accounts answer) left moment later = refl
  any_same (Judged a who v o c timestamp accounts answer) left moment later = refl
  any_same (Away phase) left moment later = away_same phase left moment later

  any_ticks : (phase : AnyPhase p) (left : List (List ℕ)) (moment more : ℕ) → MayFit plan p phase → Shows s (any_scene p phase left moment) → GoesTo plan p (progress_in phase) s (tick more s)
  any_ticks phase left moment more fits shows =
      let later : ℕ = moment_after more (any_scene p phase left moment).moment in
      leads plan p s _ phase left later (any_seen p s phase left moment shows) fits
      (subst (λ (v : Scene). Shows (tick more s) v) (any_same phase left moment later) (scenes_turn.ticks s (any_scene p phase left moment) more shows))

  -- ---- a move

  let_in_or : (far : Progress) → GoesTo plan p far s (onward s).state ⊎ IsLetIn plan p s → GoesTo plan p far s (act s move.Onward).state ⊎ (IsLetIn plan p s × (move.Onward ≡ move.Onward))
  let_in_or far (inl on) = inl on
  let_in_or far (inr let_in) = inr (let_in, refl)

  goes_so : (what : Move) → IsAble plan p → IsReadyBy plan p s → IsStepOn what → (at : IsAnywhere plan p s) →
      GoesTo plan p (progress_by what at.phase) s (act s what).state ⊎ (IsLetIn plan p s × (what ≡ move.Onward))
  goes_so what able ready steps at =
      by_step (λ (one : Move). GoesTo plan p (progress_by one at.phase) s (act s one).state ⊎ (IsLetIn plan p s × (one ≡ move.Onward)))
      (inl (any_connects plan p s at.phase at.left at.moment able ready at.fits at.shows))
      (let_in_or (progress_next at.phase) (any_comes at.phase at.left at.moment able ready at.fits at.shows)) (λ more. inl (any_ticks at.phase at.left at.moment more at.fits at.shows)) what steps

  -- ---- something waits

  away_waits : (phase : AwayPhase p) (left : List (List ℕ)) (moment : ℕ) → Shows s (away_scene p phase left moment) → waiting s.bag ≡ [] → ⊥
  away_waits (Refused a who v o c timestamp accounts status) left moment shows units = one_waits (waiting s.bag) _ [] shows.units units
  away_waits (Unheard a who e) left moment shows units = one_waits (waiting s.bag) _ [] shows.units units
  away_waits (Faulted a later e status) left moment shows units = one_waits (waiting s.bag) _ [] shows.units units

  any_waits : (phase : AnyPhase p) (left : List (List ℕ)) (moment : ℕ) → Shows s (any_scene p phase left moment) → s.dials ≡ [] → waiting s.bag ≡ [] → ⊥
  any_waits (On phase) left moment shows dials units = waits_so p s phase left moment shows dials units
  any_waits (Told a who v client server credential status) left moment shows dials units = one_waits (waiting s.bag) _ [] shows.units units
  any_waits (Setting a who v o c timestamp new accounts answer) left moment shows dials units = one_waits (waiting s.bag) _ [] shows.units units
  any_waits (Judged a who v o c timestamp accounts answer) left moment shows dials units = one_waits (waiting s.bag) _ [] shows.units units
  any_waits (Away phase) left moment shows dials units = away_waits phase left moment shows units

  -- ---- a logon that is over

  done_at : (after : State) (at : IsDone plan p s) (moment : ℕ) →
      Shows after (rest_scene (settled_in p at.settled) (client_ended p.meeting.task at.outcome) at.settled.links at.left moment []) → IsDone plan p after × (after.chances.left ≡ s.chances.left)
  done_at after at moment shows = (
    record { outcome = at.outcome; settled = at.settled; left = at.left; moment = moment; fits = at.fits; shows = shows },
    shows.left ∙ sym at.shows.left,
  )

  rests_so : (what : Move) → IsStepOn what → (at : IsDone plan p s) → IsDone plan p (act s what).state × ((act s what).state.chances.left ≡ s.chances.left)
  rests_so what steps at =
      by_step (λ (one : Move). IsDone plan p (act s one).state × ((act s one).state.chances.left ≡ s.chances.left)) (done_at _ at at.moment (starts_are_seen.no_dial s _ refl at.shows))
      (done_at _ at at.moment (starts_are_seen.no_unit s _ refl at.shows)) (λ more. done_at _ at (moment_after more at.moment) (scenes_turn.ticks s _ more at.shows)) what steps

pub any_phases_go_on : AnyPhasesGoOn
any_phases_go_on = record {
  goes_on = λ plan p s what able ready steps at. goes_so plan p s what able ready steps at;
  waits = λ plan p s at dials units. any_waits plan p s at.phase at.left at.moment at.shows dials units;
  rests = λ plan p s what steps at. (rests_so plan p s what steps at).0;
  rests_draws = λ plan p s what steps at. (rests_so plan p s what steps at).1;
}
