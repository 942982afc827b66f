-- A client whose dial reaches no member, from rest to rest.
-- Of `logons_rest`.
use Rattle.std.proofs.Common.{◌≡◌, ℕ, refl, sym, ap, subst, ◌∙◌, List, [], ◌∷◌, length, Option, None, Some, inl, inr, slice_get}
use Rattle.std.specs.List.{AllByRecursion}
use Rattle.std.specs.Prelude.{◌⊎◌}
use Rattle.account_table.specs.declared.account.Account.{Account}
use Rattle.logon_client.specs.declared.outcome.ClientOutcome.TheVariants.{NoAnswer}
use Rattle.logon_client.specs.declared.outcome.NoAnswerCause.TheVariants as no_answer
use Rattle.logon_client.specs.declared.plan.ClientPlan.{ClientPlan}
use Rattle.world_moves.specs.declared.links.EndId.TheVariants.{Client}
use Rattle.world_moves.specs.declared.links.Route.{Route}
use Rattle.world_moves.specs.declared.moves.Move.{Move}
use Rattle.world_moves.specs.declared.plan.Plan.{Plan}
use Rattle.world_moves.specs.declared.state.State.{State}
use Rattle.world_moves.specs.declared.state.WaitingDial.{WaitingDial}
use Rattle.world_moves.specs.Choosing.{chosen_place}
use Rattle.world_moves.specs.Ends.{starters_in}
use Rattle.world_moves.specs.Moving.{act, end_of_peer, moment_after, route_to, start}
use Rattle.world_moves.specs.World.{first_ends, first_world}
use Rattle.logon_steps.specs.ClientSteps.{client_ended}
use Rattle.logon_runs.specs.AnyAnswer.AnyLogons.{LogonRests}
use Rattle.logon_runs.specs.Scenes.LinkScenes.{rest_scene}
use Rattle.logon_runs.specs.Scenes.Others.{AreAmong, IsDialAmong, IsRoutedAmong, IsStepOn, OthersStay}
use Rattle.logon_runs.specs.Phases.{Arrival, Dials, scene_of, with_its_controller}
use Rattle.logon_runs.specs.Rests.{AtRest, ClientRests, moved_by, three_in}
use Rattle.logon_runs.specs.Scenes.Scene.{Scene, Shows}
use Rattle.logon_runs.specs.Scenes.Staying.{HasSameEnds}
use Rattle.logon_runs.specs.AnyAnswer.AnyStarts.{AreThree, coming_from}
use Rattle.logon_runs.proofs.Failing.FailingLaws.{failings_are_seen}
use Rattle.logon_runs.proofs.Scenes.OtherLaws.{others_are_left}
use Rattle.logon_runs.proofs.Phases.PhaseLaws.{one_waits}
use Rattle.logon_runs.proofs.RestStayLaws.{rest_with}
use Rattle.logon_runs.proofs.Scenes.StartLaws.{starts_are_seen}
use Rattle.logon_runs.proofs.Scenes.StayingLaws.{both_same, ends_stay, starts_same}
use Rattle.logon_runs.proofs.Scenes.TurningSceneLaws.{scenes_turn}
use Rattle.logon_runs.proofs.Scenes.StepOnLaws.{by_step}
use Rattle.logon_runs.proofs.AnyAnswer.AnyBeginLaws.{begins_seen}
use Rattle.logon_runs.proofs.AnyAnswer.AnyRunLaws.{none_up_to, route_still}
use Rattle.logon_runs.proofs.SecretRestLaws.{same_or_not}
use Rattle.wire_base.proofs.ListLaws.{some_is}

-- the client has its outcome, and all else is as at rest
abbrev pub unanswered : Arrival → List (List ℕ) → ℕ → Scene
unanswered p left moment = rest_scene (with_its_controller p p.meeting) (client_ended p.meeting.task (NoAnswer no_answer.DialFailed)) p.meeting.links left moment []

-- a client's dial waits, or nobody answered it; the challenges `left` are left
record IsCalling (p : Arrival) (left : List (List ℕ)) (s now : State) : Type 0 where
  moment : ℕ
  others : OthersStay (three_in p) s now
  same : HasSameEnds s now
  shows : Shows now (scene_of p Dials left moment) ⊎ Shows now (unanswered p left moment)

module _ (p : Arrival) (left : List (List ℕ)) (s : State) (nobody : route_to (Client p.meeting.at_client) (end_of_peer p.meeting.task.server s.ends) ≡ None) where
  nobody_now : (now : State) → HasSameEnds s now → route_to (Client p.meeting.at_client) (end_of_peer p.meeting.task.server now.ends) ≡ None
  nobody_now now same = route_still (Client p.meeting.at_client) p.meeting.task.server s now same ∙ nobody

  pub shows_on : (now : State) (moment : ℕ) (what : Move) → IsStepOn what → HasSameEnds s now → Shows now (scene_of p Dials left moment) ⊎ Shows now (unanswered p left moment) →
      (later : ℕ) × (Shows (act now what).state (scene_of p Dials left later) ⊎ Shows (act now what).state (unanswered p left later))
  shows_on now moment what steps same shows =
      by_step (λ (one : Move). (later : ℕ) × (Shows (act now one).state (scene_of p Dials left later) ⊎ Shows (act now one).state (unanswered p left later)))
      (elim shows [
        | inl calls ↦ (moment, inr (failings_are_seen.client_unreached now (with_its_controller p p.meeting) p.meeting.links left moment (nobody_now now same) calls))
        | inr over ↦ (moment, inr (starts_are_seen.no_dial now (unanswered p left moment) refl over))
      ])
      (elim shows [
        | inl calls ↦ (moment, inl (starts_are_seen.no_unit now (scene_of p Dials left moment) refl calls))
        | inr over ↦ (moment, inr (starts_are_seen.no_unit now (unanswered p left moment) refl over))
      ])
      (λ more. elim shows [
        | inl calls ↦ (moment_after more moment, inl (scenes_turn.ticks now (scene_of p Dials left moment) more calls))
        | inr over ↦ (moment_after more moment, inr (scenes_turn.ticks now (unanswered p left moment) more over))
      ]) what steps

  -- no link is open, and the dial reaches nobody
  moves_alone : (now : State) (moment : ℕ) (what : Move) → IsStepOn what → HasSameEnds s now → Shows now (scene_of p Dials left moment) ⊎ Shows now (unanswered p left moment) →
      OthersStay (three_in p) now (act now what).state
  moves_alone now moment what steps same (inl shows) =
      others_are_left.steps (three_in p) now what steps (subst (AreAmong (three_in p)) (sym shows.opened) tt)
      (subst (λ (dials : List WaitingDial). IsDialAmong (three_in p) now (slice_get dials 0)) (sym shows.dials)
      (refl, subst (λ (route : Option Route). IsRoutedAmong (three_in p) route) (sym (nobody_now now same)) tt))
  moves_alone now moment what steps same (inr shows) =
      others_are_left.steps (three_in p) now what steps (subst (AreAmong (three_in p)) (sym shows.opened) tt)
      (subst (λ (dials : List WaitingDial). IsDialAmong (three_in p) now (slice_get dials 0)) (sym shows.dials) tt)

  calls_on : (moves : List Move) (now : State) → AllByRecursion IsStepOn moves → IsCalling p left s now → IsCalling p left s (moved_by moves now)
  calls_on [] now steps calling = calling
  calls_on (what ∷ moves) now steps calling =
      let next : State = (act now what).state in
      let on = shows_on now calling.moment what steps.0 calling.same calling.shows in
      calls_on moves next steps.1 (record {
        moment = on.0;
        others = others_are_left.both (three_in p) s now next calling.others (moves_alone now calling.moment what steps.0 calling.same calling.shows);
        same = both_same s now next calling.same (ends_stay.acts now what);
        shows = on.1;
      })

-- the dial waits no more
answered_so : (p : Arrival) (left : List (List ℕ)) (now : State) (moment : ℕ) → Shows now (scene_of p Dials left moment) ⊎ Shows now (unanswered p left moment) → now.dials ≡ [] →
    Shows now (unanswered p left moment)
answered_so p left now moment (inl shows) none = absurd (one_waits now.dials _ [] shows.dials none)
answered_so p left now moment (inr shows) none = shows

pub unreached_rests : (plan : Plan) (s : State) (rest : AtRest plan s) (client member controller : ℕ) (three : AreThree plan client member controller) (account : Account) (number : ℕ) →
    HasSameEnds (first_world plan).state s → chosen_place number (starters_in s.ends) ≡ Some client →
    route_to (Client client) (end_of_peer three.task.server (first_ends plan)) ≡ None →
    (moves : List Move) → AllByRecursion IsStepOn moves → (moved_by moves (start number s).state).dials ≡ [] →
    LogonRests plan s client three.task (length moves) (start number s).state (moved_by moves (start number s).state)
unreached_rests plan s rest client member controller three account number same chosen nobody moves steps dials =
    let p : Arrival = coming_from plan s rest client member controller three account account in
    let first : State = (start number s).state in
    let after : State = moved_by moves first in
    let begun : Shows first (scene_of p Dials s.chances.left s.moment) = begins_seen plan s rest client member controller three account account number chosen in
    let calling : IsCalling p s.chances.left s after =
    calls_on p s.chances.left s (route_still (Client client) three.task.server (first_world plan).state s same ∙ nobody) moves first steps
    (record { moment = s.moment; others = others_are_left.starts (three_in p) s number chosen rest.opened; same = starts_same number s; shows = inl begun }) in
    let shows : Shows after (unanswered p s.chances.left calling.moment) = answered_so p s.chances.left after calling.moment calling.shows dials in
    record {
      outcome = NoAnswer no_answer.DialFailed;
      has = shows.client;
      rest = rest_with plan s after
          (λ at. elim (same_or_not at controller) [
            | inl is ↦ ap (λ (n : ℕ). slice_get after.ends.controllers n) is ∙ shows.controller ∙ sym (rest.controllers controller three.table three.is_table).rests
                ∙ ap (λ (n : ℕ). slice_get s.ends.controllers n) (sym is)
            | inr apart ↦ calling.others.controllers at apart
          ])
          (λ at. elim (same_or_not at member) [
            | inl is ↦ ap (λ (n : ℕ). slice_get after.ends.members n) is ∙ shows.member ∙ sym (rest.members member three.member_plan three.is_member_plan).rests
                ∙ ap (λ (n : ℕ). slice_get s.ends.members n) (sym is)
            | inr apart ↦ calling.others.members at apart
          ])
          (λ at task is_task. elim (same_or_not at client) [
            | inl is ↦
                let same_task : task ≡ three.task = some_is _ _ (sym is_task ∙ ap (λ (n : ℕ). slice_get plan.clients n) is ∙ three.is_task) in
                record {
                  client = client_ended three.task (NoAnswer no_answer.DialFailed);
                  rests = ap (λ (n : ℕ). slice_get after.ends.clients n) is ∙ shows.client;
                  how = inr (NoAnswer no_answer.DialFailed, ap (λ (t : ClientPlan). client_ended t (NoAnswer no_answer.DialFailed)) (sym same_task));
                }
            | inr apart ↦
                let old : ClientRests s at task = rest.clients at task is_task in
                record { client = old.client; rests = calling.others.clients at apart ∙ old.rests; how = old.how }
          ])
          shows.opened shows.dials shows.units calling.same.clients rest;
      clients = calling.others.clients;
      draws = none_up_to (length moves) first.chances.left after.chances.left (shows.left ∙ sym begun.left);
    }
