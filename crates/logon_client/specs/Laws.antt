-- Laws of the steps of a client (this project's own choice).
use Rattle.std.specs.Prelude.{ℕ, ◌≡◌, List, [], ◌∷◌, Option, Some, None, Result, Ok, Err}
use Rattle.std.specs.List.{flat_map}
use Rattle.outside.specs.declared.action.Action.{Action}
use Rattle.outside.specs.declared.action.Action.TheVariants as action
use Rattle.outside.specs.declared.action.CloseCause.TheVariants.{CallDone}
use Rattle.outside.specs.declared.action.StepRefused.{StepRefused}
use Rattle.outside.specs.declared.event.Event.{Event}
use Rattle.outside.specs.declared.event.Event.TheVariants as event
use Rattle.logon_client.specs.declared.outcome.ClientOutcome.{ClientOutcome}
use Rattle.logon_client.specs.State.{State}
use Rattle.logon_client.specs.Machine.{step_of}

-- the closes among actions, in order
abbrev pub closes_one : Action → List Action
closes_one (action.Close link cause) = action.Close link cause ∷ []
closes_one _ = []

abbrev pub closes_in : List Action → List Action
closes_in actions = flat_map closes_one actions

abbrev pub closes_by : Result (List Action) StepRefused → List Action
closes_by (Err why) = []
closes_by (Ok actions) = closes_in actions

-- the close that is due by the outcome after an event: that of the link on which bytes brought it
abbrev pub close_due : Option ClientOutcome → Event → List Action
close_due None what = []
close_due (Some outcome) (event.Bytes link piece) = action.Close link CallDone ∷ []
close_due (Some outcome) _ = []

-- A step of a client that has no outcome closes the link where it brings an outcome while the link is open, for its
-- work done, and nothing else.
abbrev pub ClosesOnce : Type 0
ClosesOnce = (s : State) (what : Event) (now : ℕ) (left : List (List ℕ)) → s.outcome ≡ None →
    closes_by (step_of s what now left).answer ≡ close_due (step_of s what now left).state.outcome what

-- A client that has an outcome does nothing more, and keeps it.
abbrev pub OutcomeStays : Type 0
OutcomeStays = (s : State) (what : Event) (now : ℕ) (left : List (List ℕ)) (outcome : ClientOutcome) → s.outcome ≡ Some outcome →
    (closes_by (step_of s what now left).answer ≡ []) × ((step_of s what now left).state ≡ s)
