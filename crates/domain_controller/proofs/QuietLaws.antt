-- What follows a link that was closed.
use Rattle.std.proofs.Common.{◌≡◌, ℕ, true, List, [], Option, Some, None, refl}
use Rattle.outside.specs.declared.event.Event.{Event}
use Rattle.outside.specs.declared.event.Event.TheVariants as event
use Rattle.end_loop.specs.Acts.{is_made}
use Rattle.end_loop.specs.Runs.{actions_of}
use Rattle.domain_controller.specs.Laws.{ClosesNothing}
use Rattle.domain_controller.specs.State.{State}
use Rattle.domain_controller.specs.Step.{step_on}
use Rattle.domain_controller.specs.declared.state.Running.{Running}

quiet_on : (running : Option Running) (s : State) (what : Event) (now : ℕ) (left : List (List ℕ)) → is_made what ≡ true → actions_of (step_on running s what now left) ≡ []
quiet_on None s what now left is = refl
quiet_on (Some r) s (event.Closed link) now left is = refl
quiet_on (Some r) s (event.Dialled link) now left is = refl
quiet_on (Some r) s event.DialFailed now left is = refl
quiet_on (Some r) s (event.Opened link) now left is = absurd cc
quiet_on (Some r) s (event.Bytes link bytes) now left is = absurd cc
quiet_on (Some r) s event.Stop now left is = absurd cc

pub closes_nothing : ClosesNothing
closes_nothing = record { made = λ s what now left is. quiet_on s.running s what now left is }
