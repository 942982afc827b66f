-- Steps of a controller that trusts other domains in which no call comes for a trusted domain: it answers what it hears
-- itself (this project's own choice).
use Rattle.std.specs.Prelude.{ℕ, ◌≡◌, ◌+◌, ◌≤◌, ◌==◌, ◌⊎◌, Bool, true, false, List, [], ◌∷◌, None}
use Rattle.account_table.specs.AccountTable.{AccountTable}
use Rattle.outside.specs.Machine.{spent_step}
use Rattle.outside.specs.declared.action.Action.{Action}
use Rattle.outside.specs.declared.action.Action.TheVariants as action
use Rattle.outside.specs.declared.action.Judged.{Judged}
use Rattle.outside.specs.declared.action.Judged.TheVariants as judged
use Rattle.outside.specs.declared.event.Event.{Event}
use Rattle.channel_turns.specs.declared.state.Dialling.TheVariants as dialling
use Rattle.end_loop.specs.Runs.{actions_of}
use Rattle.logon_stubs.specs.Status.{no_logon_servers}
use Rattle.domain_controller.specs.State.{State}
use Rattle.domain_controller.specs.Step.{step_of}
use Rattle.domain_controller.specs.TrustOrder.{NobodyWaits, count_if}
use Rattle.domain_controller.specs.TrustStep.{first_trust_state, trust_halted, trust_step_of}
use Rattle.domain_controller.specs.declared.trusting.Trusting.{Trusting}

-- ---- what is told of a call that comes for a trusted domain

-- whether a call was for a trusted domain, by how it was judged: it is handed on; or nobody can be asked for it, and it
-- passes with NO_LOGON_SERVERS, which no call comes to that is judged here
abbrev pub is_for_trust : Judged → Bool
is_for_trust (judged.Passed status) = status == no_logon_servers
is_for_trust judged.Forwarded = true
is_for_trust (judged.Answered status) = false
is_for_trust judged.Barred = false
is_for_trust judged.NoChannel = false

abbrev pub trusts_in : Action → ℕ
trusts_in (action.Close link cause) = 0
trusts_in (action.Keep bytes) = 0
trusts_in (action.Send link bytes) = 0
trusts_in (action.Dial peer) = 0
trusts_in (action.Told link outcome) = 0
trusts_in (action.Judged how) = count_if (is_for_trust how)

-- how many such calls are told of
abbrev pub told_trusts : List Action → ℕ
told_trusts [] = 0
told_trusts (what ∷ actions) = trusts_in what + told_trusts actions

-- ---- a controller that waits for no other one's answer

-- nobody waits at an end that asks, no logon is among those that were asked, no turn is out, and it can't seal
pub record NoneIsAsked (t : Trusting) : Type 0 where
  pub nobody : NobodyWaits t.queues.requesters
  pub none : t.queues.forwarded ≡ []
  pub idle : t.dialling ≡ dialling.Nothing
  pub unsealing : t.sealing ≡ None

-- The step is that of a controller that trusts no domain, or it tells of a call for a trusted domain, or it draws more
-- challenges than are left.
abbrev pub StepsHere : State → Event → ℕ → List (List ℕ) → Type 0
StepsHere s what now left =
    (trust_step_of s what now left ≡ step_of s what now left)
    ⊎ ((1 ≤ told_trusts (actions_of (trust_step_of s what now left)))
    ⊎ (trust_step_of s what now left ≡ spent_step left (trust_halted s)))

-- What `StepsHere` says holds of each step of a controller that asks nobody at that moment, as each that trusts other
-- domains is at first. A step that is that of a controller which trusts no domain leaves what is kept of those that are
-- asked.
pub record AnswersHere : Type 0 where
  pub first : (table : AccountTable) (name : List ℕ) → NoneIsAsked (first_trust_state table name).trusting
  pub step : (s : State) (what : Event) (now : ℕ) (left : List (List ℕ)) → NoneIsAsked s.trusting → StepsHere s what now left
  pub stays : (s : State) (what : Event) (now : ℕ) (left : List (List ℕ)) → (step_of s what now left).state.trusting ≡ s.trusting

-- A controller that trusts no domain tells of no such call: it hands nothing on, and no call comes to NO_LOGON_SERVERS
-- there.
abbrev pub TellsOfNoTrust : Type 0
TellsOfNoTrust = (s : State) (what : Event) (now : ℕ) (left : List (List ℕ)) → told_trusts (actions_of (step_of s what now left)) ≡ 0
