-- On which link a client sends (this project's own choice).
use Rattle.std.specs.Prelude.{ℕ, ◌≡◌, ◌⊎◌, List, Option, Some, None}
use Rattle.std.specs.List.{AllByRecursion}
use Rattle.outside.specs.declared.action.Action.{Action}
use Rattle.outside.specs.declared.action.Action.TheVariants as action
use Rattle.outside.specs.declared.event.Event.{Event}
use Rattle.outside.specs.declared.event.Event.TheVariants as event
use Rattle.end_loop.specs.Runs.{actions_of}
use Rattle.logon_client.specs.Machine.{link_of, step_of}
use Rattle.logon_client.specs.State.{State}
use Rattle.logon_client.specs.declared.state.Running.{Running}

-- what is sent goes out on a link of which `Own` holds
abbrev pub IsSentAt : (Own : ℕ → Type 0) → Action → Type 0
IsSentAt Own (action.Send link bytes) = Own link
IsSentAt Own (action.Keep bytes) = Unit {0}
IsSentAt Own (action.Dial peer) = Unit {0}
IsSentAt Own (action.Close link cause) = Unit {0}
IsSentAt Own (action.Told link outcome) = Unit {0}
IsSentAt Own (action.Judged how) = Unit {0}

abbrev pub dialled_link : Event → Option ℕ
dialled_link (event.Dialled link) = Some link
dialled_link (event.Bytes link piece) = None
dialled_link (event.Opened link) = None
dialled_link (event.Closed link) = None
dialled_link event.DialFailed = None
dialled_link event.Stop = None

-- the client's link, or the one that its dial opens
abbrev pub IsOwnLink : Running → Event → ℕ → Type 0
IsOwnLink running what link = (link_of running.standing ≡ Some link) ⊎ (dialled_link what ≡ Some link)

abbrev pub SendsOnItsLink : Type 0
SendsOnItsLink =
    (s : State) (running : Running) (what : Event) (now : ℕ) (left : List (List ℕ)) → s.running ≡ Some running →
    AllByRecursion (IsSentAt (IsOwnLink running what)) (actions_of (step_of s what now left))
