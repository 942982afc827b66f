-- When a station dials, and at which event each of its outcomes comes (this project's own choice).
use Rattle.std.specs.Prelude.{ℕ, ◌≡◌, ◌||◌, Bool, true, false, List, Option, Some, None}
use Rattle.std.specs.List.{list_any}
use Rattle.end_loop.specs.Runs.{taken_actions}
use Rattle.outside.specs.declared.action.Action.{Action}
use Rattle.outside.specs.declared.action.Action.TheVariants as action
use Rattle.outside.specs.declared.event.Event.{Event}
use Rattle.outside.specs.declared.event.Event.TheVariants as event
use Rattle.interactive_station.specs.declared.outcome.NoStation.TheVariants.{DialFailed, LinkClosed}
use Rattle.interactive_station.specs.declared.outcome.StationOutcome.{StationOutcome}
use Rattle.interactive_station.specs.declared.outcome.StationOutcome.TheVariants.{NoAnswer}
use Rattle.interactive_station.specs.declared.state.StationLink.{StationLink}
use Rattle.interactive_station.specs.declared.state.StationLink.TheVariants.{Idle, Dialling, On}
use Rattle.interactive_station.specs.declared.state.StationRunning.{StationRunning}
use Rattle.interactive_station.specs.Machine.{step_of, want_by}
use Rattle.interactive_station.specs.State.{StationState}

-- ---- outcomes without an answer

abbrev pub is_dial_failed : Option StationOutcome → Bool
is_dial_failed (Some (NoAnswer DialFailed)) = true
is_dial_failed _ = false

abbrev pub is_link_closed : Option StationOutcome → Bool
is_link_closed (Some (NoAnswer LinkClosed)) = true
is_link_closed _ = false

-- the one or the other
abbrev pub is_lost : Option StationOutcome → Bool
is_lost outcome = is_dial_failed outcome || is_link_closed outcome

-- ---- dials

abbrev pub is_waiting : StationLink → Bool
is_waiting Idle = false
is_waiting (Dialling c) = true
is_waiting (On link) = false

-- whether the station's dial waits
abbrev pub is_dialling : Option StationRunning → Bool
is_dialling None = false
is_dialling (Some running) = is_waiting running.standing

abbrev pub is_dial : Action → Bool
is_dial (action.Dial peer) = true
is_dial _ = false

-- whether the event answers a dial
abbrev pub is_answer : Event → Bool
is_answer (event.Dialled link) = true
is_answer event.DialFailed = true
is_answer _ = false

-- ---- events of the link that is waited for

-- The event shows that the link is gone: it was closed, or another was opened under its number.
abbrev pub LinkGoes : Event → Option ℕ → Type 0
LinkGoes (event.Closed link) want = want ≡ Some link
LinkGoes (event.Opened link) want = want ≡ Some link
LinkGoes _ want = ⊥

-- bytes came on it
abbrev pub BytesCome : Event → Option ℕ → Type 0
BytesCome (event.Bytes link piece) want = want ≡ Some link
BytesCome _ want = ⊥

-- ---- the law

-- A step brings that a dial failed only at `DialFailed` while the dial waits, that the link was closed only where the
-- event shows that it is gone, and each other outcome only where bytes came on the link. A station waits for a dial
-- only from a step on that dials, and until the dial is answered; and an outcome isn't taken back.
pub record LosesByEvents : Type 0 where
  pub failed : (s : StationState) (what : Event) (now : ℕ) (left : List (List ℕ)) → is_dial_failed s.outcome ≡ false →
      is_dial_failed (step_of s what now left).state.outcome ≡ true → (what ≡ event.DialFailed) × (is_dialling s.running ≡ true) × (s.outcome ≡ None)
  pub closed : (s : StationState) (what : Event) (now : ℕ) (left : List (List ℕ)) → is_link_closed s.outcome ≡ false →
      is_link_closed (step_of s what now left).state.outcome ≡ true → LinkGoes what (want_by s.running)
  pub heard : (s : StationState) (what : Event) (now : ℕ) (left : List (List ℕ)) (how : StationOutcome) → s.outcome ≡ None →
      (step_of s what now left).state.outcome ≡ Some how → is_lost (Some how) ≡ false → BytesCome what (want_by s.running)
  pub dials : (s : StationState) (what : Event) (now : ℕ) (left : List (List ℕ)) → is_dialling s.running ≡ false →
      is_dialling (step_of s what now left).state.running ≡ true → list_any is_dial (taken_actions (step_of s what now left).answer) ≡ true
  pub answered : (s : StationState) (what : Event) (now : ℕ) (left : List (List ℕ)) → is_answer what ≡ true →
      (step_of s what now left).state.outcome ≡ None → is_dialling (step_of s what now left).state.running ≡ false
  pub kept : (s : StationState) (what : Event) (now : ℕ) (left : List (List ℕ)) → (step_of s what now left).state.outcome ≡ None → s.outcome ≡ None
