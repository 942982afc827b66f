-- That what a client sends is bytes, and no more than an end sends at once (this project's own choice). It holds where
-- what the client has is in its ranges, and a step leaves it so.
use Rattle.std.specs.Prelude.{ℕ, List, Option, Some, None}
use Rattle.std.specs.List.{AllByRecursion}
use Rattle.wire_base.specs.Numbers.{AreBytes}
use Rattle.outside.specs.declared.action.Action.{Action}
use Rattle.outside.specs.declared.action.Action.TheVariants as action
use Rattle.outside.specs.declared.event.Event.{Event}
use Rattle.outside.specs.declared.event.Event.TheVariants as event
use Rattle.end_links.specs.Whole.{IsByteSend}
use Rattle.end_loop.specs.Runs.{actions_of}
use Rattle.logon_client.specs.Machine.{fresh_client, step_of}
use Rattle.logon_client.specs.Plans.{CanLogOn}
use Rattle.logon_client.specs.State.{State}
use Rattle.logon_client.specs.declared.plan.ClientPlan.{ClientPlan}
use Rattle.logon_client.specs.declared.state.ClientLink.{ClientLink}
use Rattle.logon_client.specs.declared.state.ClientLink.TheVariants.{Idle, Dialling, On}
use Rattle.logon_client.specs.declared.state.Running.{Running}

-- ---- the ranges of what a client has

-- what waits on its link are bytes
abbrev pub InRangeLink : ClientLink → Type 0
InRangeLink Idle = Unit {0}
InRangeLink Dialling = Unit {0}
InRangeLink (On link) = AreBytes link.rest

pub record InRangeRunning (running : Running) : Type 0 where
  pub task : CanLogOn running.task
  pub standing : InRangeLink running.standing

abbrev pub InRangeUnlessStopped : Option Running → Type 0
InRangeUnlessStopped None = Unit {0}
InRangeUnlessStopped (Some running) = InRangeRunning running

-- ---- the ranges of what comes

-- what comes on a link is bytes
abbrev pub BringsBytes : Event → Type 0
BringsBytes (event.Bytes link piece) = AreBytes piece
BringsBytes (event.Opened link) = Unit {0}
BringsBytes (event.Closed link) = Unit {0}
BringsBytes (event.Dialled link) = Unit {0}
BringsBytes event.DialFailed = Unit {0}
BringsBytes event.Stop = Unit {0}

-- an event, and the challenges that are left
pub record InRangeEvent (what : Event) (left : List (List ℕ)) : Type 0 where
  pub bytes : BringsBytes what
  pub challenges : AllByRecursion AreBytes left

-- ---- what is sent

abbrev pub IsByteIfSent : Action → Type 0
IsByteIfSent (action.Send link bytes) = IsByteSend bytes
IsByteIfSent (action.Keep bytes) = Unit {0}
IsByteIfSent (action.Dial peer) = Unit {0}
IsByteIfSent (action.Close link cause) = Unit {0}
IsByteIfSent (action.Told link outcome) = Unit {0}
IsByteIfSent (action.Judged how) = Unit {0}

-- ---- the law

pub record ClientsSendBytes : Type 0 where
  -- a client is in its ranges at first
  pub first : (plan : ClientPlan) → CanLogOn plan → InRangeUnlessStopped (fresh_client plan).running
  pub sends : (s : State) (what : Event) (now : ℕ) (left : List (List ℕ)) → InRangeUnlessStopped s.running → InRangeEvent what left →
      AllByRecursion IsByteIfSent (actions_of (step_of s what now left))
  -- a step leaves the ranges so
  pub keeps : (s : State) (what : Event) (now : ℕ) (left : List (List ℕ)) → InRangeUnlessStopped s.running → InRangeEvent what left →
      InRangeUnlessStopped (step_of s what now left).state.running
