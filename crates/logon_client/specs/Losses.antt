-- When a client finds its dial failed or its link closed (this project's own choice).
use Rattle.std.specs.Prelude.{ℕ, ◌≡◌, Bool, true, false, List, Option, Some, None}
use Rattle.outside.specs.declared.event.Event.{Event}
use Rattle.outside.specs.declared.event.Event.TheVariants as event
use Rattle.logon_client.specs.declared.outcome.ClientOutcome.{ClientOutcome}
use Rattle.logon_client.specs.declared.outcome.ClientOutcome.TheVariants.{NoAnswer}
use Rattle.logon_client.specs.declared.outcome.NoAnswerCause.TheVariants.{DialFailed, LinkClosed}
use Rattle.logon_client.specs.declared.state.Running.{Running}
use Rattle.logon_client.specs.declared.state.ClientLink.{ClientLink}
use Rattle.logon_client.specs.declared.state.ClientLink.TheVariants.{Idle, Dialling, On}
use Rattle.logon_client.specs.Machine.{step_of, want_by}
use Rattle.logon_client.specs.State.{State}

abbrev pub is_dial_failed : Option ClientOutcome → Bool
is_dial_failed (Some (NoAnswer DialFailed)) = true
is_dial_failed _ = false

abbrev pub is_link_closed : Option ClientOutcome → Bool
is_link_closed (Some (NoAnswer LinkClosed)) = true
is_link_closed _ = false

abbrev pub is_waiting : ClientLink → Bool
is_waiting Idle = false
is_waiting Dialling = true
is_waiting (On link) = false

-- whether the client's dial waits
abbrev pub is_dialling : Option Running → Bool
is_dialling None = false
is_dialling (Some running) = is_waiting running.standing

-- The event shows that the link is gone that the client waits for: it was closed, or another was opened under its
-- number.
abbrev pub LinkGoes : Event → Option ℕ → Type 0
LinkGoes (event.Closed link) want = want ≡ Some link
LinkGoes (event.Opened link) want = want ≡ Some link
LinkGoes _ want = ⊥

-- A step brings that the dial failed only at `DialFailed` while the dial waits, and that the link was closed only where
-- the event shows that it is gone; and a dial that was answered doesn't wait again.
pub record LossesComeOfEvents : Type 0 where
  pub failed : (s : State) (what : Event) (now : ℕ) (left : List (List ℕ)) → is_dial_failed s.outcome ≡ false →
      is_dial_failed (step_of s what now left).state.outcome ≡ true → (what ≡ event.DialFailed) × (is_dialling s.running ≡ true)
  pub closed : (s : State) (what : Event) (now : ℕ) (left : List (List ℕ)) → is_link_closed s.outcome ≡ false →
      is_link_closed (step_of s what now left).state.outcome ≡ true → LinkGoes what (want_by s.running)
  pub still : (s : State) (what : Event) (now : ℕ) (left : List (List ℕ)) → is_dialling s.running ≡ false →
      is_dialling (step_of s what now left).state.running ≡ false
