-- Which logons a controller asks others for, and that each of them is answered once (this project's own choice). A
-- place is the number that a logon has at the end that asks for it, counted modulo 2^32.
use Rattle.std.specs.Prelude.{ℕ, ◌≡◌, ◌+◌, ◌≤◌, ◌<◌, ◌==◌, Bool, true, false, List, [], ◌∷◌, length, map, Option, Some, None, slice_get}
use Rattle.std.specs.List.{AllByRecursion}
use Rattle.wire_base.specs.Maps.{IsMap}
use Rattle.outside.specs.declared.action.Action.{Action}
use Rattle.outside.specs.declared.action.Action.TheVariants as action
use Rattle.outside.specs.declared.event.Event.{Event}
use Rattle.account_table.specs.AccountTable.{AccountTable}
use Rattle.end_loop.specs.Runs.{actions_of}
use Rattle.channel_client.specs.Effects.{IsCoherent}
use Rattle.channel_client.specs.State.{Requester}
use Rattle.channel_client.specs.declared.state.Waiting.{Waiting}
use Rattle.controller_calls.specs.Forwarded.{ForwardedState}
use Rattle.domain_controller.specs.State.{State}
use Rattle.domain_controller.specs.TrustLaws.{OneIsOut, is_forwarded, told_answers}
use Rattle.domain_controller.specs.TrustStep.{first_trust_state, is_idle, trust_step_of}
use Rattle.domain_controller.specs.Trusting.{ForwardedCalls, same_place}
use Rattle.domain_controller.specs.declared.state.Running.{Running}
use Rattle.domain_controller.specs.declared.trusting.Queues.{Queues}
use Rattle.domain_controller.specs.declared.trusting.Trusting.{Trusting}

-- ---- the places of logons

abbrev pub place_if : (is_that_trust : Bool) (place : ℕ) (places : List ℕ) → List ℕ
place_if false place places = places
place_if true place places = place ∷ places

-- the places of the logons for which that trust's controller is asked, in order
abbrev pub places_at : (trust : ℕ) → ForwardedCalls → List ℕ
places_at trust [] = []
places_at trust (entry ∷ calls) = place_if (trust == entry.0.0) entry.0.1 (places_at trust calls)

-- the places of the logons that wait at an end that asks, in order; a turn that is out there is for the first of them
abbrev pub places_waiting : Requester → List ℕ
places_waiting s = map (λ (logon : Waiting). logon.place) s.waiting

-- ---- what is asked is what waits

pub record AskInOrder (q : Queues) : Type 0 where
  -- at each end places follow one another, and a turn that is out is for the first logon that waits
  pub coherent : AllByRecursion IsCoherent q.requesters
  -- the logons that a trust's controller is asked for are those that wait there
  pub asked : (trust : ℕ) (s : Requester) → slice_get q.requesters trust ≡ Some s → places_at trust q.forwarded ≡ places_waiting s
  -- logons are asked of no trust that has no requester
  pub inside : AllByRecursion (λ (entry : (ℕ × ℕ) × ForwardedState). entry.0.0 < length q.requesters) q.forwarded

-- nobody waits at an end
abbrev pub NobodyWaits : List Requester → Type 0
NobodyWaits requesters = AllByRecursion (λ (s : Requester). s.waiting ≡ []) requesters

-- A controller's queues are in order, each end that asks is of one of the table's trusts, and while no turn is out,
-- nobody waits.
pub record IsInOrder (s : State) : Type 0 where
  pub queues : AskInOrder s.trusting.queues
  pub trusts : length s.trusting.queues.requesters ≤ length s.table.trusts
  pub busy : is_idle s.trusting.dialling ≡ true → NobodyWaits s.trusting.queues.requesters

-- Requesters ask in order at first, and each step leaves it so, as one turn is out at a time. No two logons that were
-- asked have one place.
pub record StaysInOrder : Type 0 where
  pub first : (table : AccountTable) (name : List ℕ) → IsInOrder (first_trust_state table name)
  pub keeps : (s : State) (what : Event) (now : ℕ) (left : List (List ℕ)) → OneIsOut s.trusting → IsInOrder s →
      IsInOrder (trust_step_of s what now left).state
  pub apart : (s : State) → IsInOrder s → IsMap same_place s.trusting.queues.forwarded

-- ---- each is answered once

abbrev pub count_if : Bool → ℕ
count_if false = 0
count_if true = 1

-- whether an action tells that a logon is handed on
abbrev pub forwards_in : Action → ℕ
forwards_in (action.Close link cause) = 0
forwards_in (action.Keep bytes) = 0
forwards_in (action.Send link bytes) = 0
forwards_in (action.Dial peer) = 0
forwards_in (action.Told link outcome) = 0
forwards_in (action.Judged how) = count_if (is_forwarded how)

-- how many are told to be handed on
abbrev pub told_forwards : List Action → ℕ
told_forwards [] = 0
told_forwards (what ∷ actions) = forwards_in what + told_forwards actions

-- unless the controller has stopped then
abbrev pub AreCounted : (before : Trusting) (actions : List Action) → Option Running → (after : Trusting) → Type 0
AreCounted before actions None after = Unit {0}
AreCounted before actions (Some running) after =
    length after.queues.forwarded + told_answers actions ≡ length before.queues.forwarded + told_forwards actions

-- Each logon that is told to be handed on is among those that were asked until it is told to be answered, and no
-- longer. So as many were answered as were handed on, but for those that wait.
pub record EachIsAnswered : Type 0 where
  pub step : (s : State) (what : Event) (now : ℕ) (left : List (List ℕ)) →
      AreCounted s.trusting (actions_of (trust_step_of s what now left)) (trust_step_of s what now left).state.running
      (trust_step_of s what now left).state.trusting
