-- What is written down as told of an action, by the end that gave it: what a member tells, or nothing.
-- It serves `Proved.let_in`, `schedules_are_heard` and others.
use Rattle.std.proofs.Common.{◌≡◌, ℕ, List, [], ◌∷◌, refl}
use Rattle.outside.specs.declared.action.Action.{Action}
use Rattle.outside.specs.declared.action.Action.TheVariants as action
use Rattle.outside.specs.declared.action.Outcome.{Outcome}
use Rattle.step_notes.specs.Records.{OutcomeTold}
use Rattle.world_moves.specs.declared.links.EndId.{EndId}
use Rattle.world_moves.specs.declared.links.EndId.TheVariants.{Controller, Member, Client, Station}
use Rattle.domain_world.specs.Past.{told_by}

-- a member's outcome, or nothing
pub told_cases : (P : (ℕ → List OutcomeTold) → Type 0) (end : EndId) (what : Action) → P (λ at. []) →
    ((member link : ℕ) (how : Outcome) → end ≡ Member member → what ≡ action.Told link how → P (λ at. record { at = at; member = member; link = link; outcome = how } ∷ [])) → P (told_by end what)
told_cases P (Controller k) what none one = none
told_cases P (Client k) what none one = none
told_cases P (Station k) what none one = none
told_cases P (Member k) (action.Keep bytes) none one = none
told_cases P (Member k) (action.Send link bytes) none one = none
told_cases P (Member k) (action.Dial peer) none one = none
told_cases P (Member k) (action.Close link cause) none one = none
told_cases P (Member k) (action.Told link how) none one = one k link how refl refl
told_cases P (Member k) (action.Judged how) none one = none
