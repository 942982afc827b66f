-- Which turns are dialled: each that starts, once, and its dial waits then (that one turn is out at a time is this
-- project's own choice).
use Rattle.std.specs.Prelude.{ℕ, ◌≡◌, ◌+◌, Bool, true, false, List, [], ◌∷◌, Result, Ok, Err}
use Rattle.std.specs.List.{AllByRecursion}
use Rattle.outside.specs.Machine.{Part}
use Rattle.outside.specs.declared.action.Action.{Action}
use Rattle.outside.specs.declared.action.Action.TheVariants as action
use Rattle.outside.specs.declared.action.StepRefused.{StepRefused}
use Rattle.outside.specs.declared.event.Event.{Event}
use Rattle.outside.specs.declared.event.Event.TheVariants as event
use Rattle.channel_client.specs.Machine.{can_start, needs_challenge}
use Rattle.channel_client.specs.State.{Requester}
use Rattle.member_server.specs.ChannelSteps.{IsNextTurn}
use Rattle.member_server.specs.Laws.{Asks, Doing, IsInOrder, Loses, Starts, Takes, state_after}
use Rattle.member_server.specs.Machine.{by_event, event_part, work_of}
use Rattle.member_server.specs.Turns.{DialWork, ready_channel}
use Rattle.channel_turns.specs.declared.state.Dialling.{Dialling}
use Rattle.channel_turns.specs.declared.state.Dialling.TheVariants as dialling
use Rattle.member_server.specs.declared.state.Running.{Running}

-- how many of the actions dial
abbrev pub dial_of : Action → ℕ
dial_of (action.Keep bytes) = 0
dial_of (action.Send link bytes) = 0
dial_of (action.Dial peer) = 1
dial_of (action.Close link cause) = 0
dial_of (action.Told link outcome) = 0
dial_of (action.Judged how) = 0

abbrev pub dials_in : List Action → ℕ
dials_in [] = 0
dials_in (what ∷ actions) = dial_of what + dials_in actions

-- the dial of a turn waits
abbrev pub IsWaiting : Dialling → Type 0
IsWaiting dialling.Nothing = ⊥
IsWaiting (dialling.Waits turn frames) = Unit {0}
IsWaiting (dialling.On number said) = ⊥

-- no turn starts
abbrev pub IsNoStart : Doing → Type 0
IsNoStart (Asks info) = Unit {0}
IsNoStart (Starts timestamp challenge) = ⊥
IsNoStart (Takes unit) = Unit {0}
IsNoStart Loses = Unit {0}

pub record ComesUnstarted (old new : Requester) : Type 0 where
  pub doings : List Doing
  pub none : AllByRecursion IsNoStart doings
  pub is : new ≡ state_after doings old

-- what is dialled where a turn starts, or none
abbrev pub IsDialledBy : (starts : Bool) (how : Dialling) (dial_work : DialWork) → Type 0
IsDialledBy false how dial_work = (dials_in dial_work.0.actions ≡ 0) × (dial_work.1 ≡ how)
IsDialledBy true how dial_work = (dials_in dial_work.0.actions ≡ 1) × IsWaiting dial_work.1

-- what the event comes to, in which no turn starts, and then the next turn
pub record TurnSteps (old : Requester) (first : Result (Part DialWork) StepRefused) (now : ℕ) (after : Part DialWork) : Type 0 where
  pub part : Part DialWork
  pub is : first ≡ Ok part
  pub comes : ComesUnstarted old part.value.0.logons.channel
  pub next : IsNextTurn
      (can_start part.value.0.logons.channel.turn part.value.0.logons.channel.waiting)
      (needs_challenge part.value.0.logons.channel.standing) now (ready_channel part.value.0) part.left after.value.0.logons.channel after.left
  pub dials : IsDialledBy (can_start part.value.0.logons.channel.turn part.value.0.logons.channel.waiting) part.value.1 after.value

abbrev pub TurnStepsIfTaken : Requester → Result (Part DialWork) StepRefused → ℕ → Result (Part DialWork) StepRefused → Type 0
TurnStepsIfTaken old first now (Err why) = Unit {0}
TurnStepsIfTaken old first now (Ok after) = TurnSteps old first now after

-- the event is no answer to a dial
abbrev pub IsNoAnswer : Event → Type 0
IsNoAnswer (event.Opened link) = Unit {0}
IsNoAnswer (event.Bytes link piece) = Unit {0}
IsNoAnswer (event.Closed link) = Unit {0}
IsNoAnswer (event.Dialled link) = ⊥
IsNoAnswer event.DialFailed = ⊥
IsNoAnswer event.Stop = Unit {0}

-- nothing becomes of the turn that waits, nor of the channel, and nothing is dialled
pub record StaysOut (old : Requester) (how : Dialling) (dial_work : DialWork) : Type 0 where
  pub none : dials_in dial_work.0.actions ≡ 0
  pub dialling : dial_work.1 ≡ how
  pub caller : dial_work.0.logons.channel.caller ≡ old.caller
  pub standing : dial_work.0.logons.channel.standing ≡ old.standing
  pub turn : dial_work.0.logons.channel.turn ≡ old.turn

abbrev pub StaysOutIfTaken : Requester → Dialling → Result (Part DialWork) StepRefused → Type 0
StaysOutIfTaken old how (Err why) = Unit {0}
StaysOutIfTaken old how (Ok after) = StaysOut old how after.value

pub record TurnsAreDialled : Type 0 where
  -- whatever happens, a turn that starts, the last thing that a step does, is dialled once, and nothing else is
  pub starts : (running : Running) (what : Event) (now : ℕ) (left : List (List ℕ)) →
      TurnStepsIfTaken running.logons.channel (by_event what running.dialling (work_of running) left) now (event_part running what now left)
  -- while its dial waits, only the answer to it changes the turn
  pub waits : (running : Running) (what : Event) (now : ℕ) (left : List (List ℕ)) → IsWaiting running.dialling → IsNoAnswer what →
      IsInOrder true running.logons → StaysOutIfTaken running.logons.channel running.dialling (event_part running what now left)
