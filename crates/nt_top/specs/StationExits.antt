-- When each exit of `station` comes, by what the outside tells, and what is put then (this project's own choice).
use Rattle.std.specs.Prelude.{ℕ, ◌≡◌, ◌⊎◌, ◌++◌, Bool, true, false, List, [], ◌∷◌, Option, Some, None, Err}
use Rattle.std.specs.List.{list_any}
use Rattle.outside.specs.Causes.{Rose}
use Rattle.outside.specs.Telling.{Appends, AppendsFront}
use Rattle.outside.specs.declared.action.Outcome.{Outcome}
use Rattle.outside.specs.declared.action.Outcome.TheVariants as told
use Rattle.outside.specs.declared.action.StepRefused.TheVariants as refusals
use Rattle.outside.specs.declared.event.Event.{Event}
use Rattle.outside.specs.declared.event.Happening.{Happening}
use Rattle.outside.specs.declared.event.Happening.TheVariants as happening
use Rattle.end_loop.specs.Runs.{RunState, Step, Chooses, Closes, actions_in, asked_by}
use Rattle.end_loop.specs.Begun.{Begun, BegunHalf}
use Rattle.end_loop.specs.Seen.{Sight}
use Rattle.end_loop.specs.Serving.{Opens}
use Rattle.end_loop.specs.declared.halt.Halt.TheVariants as halts
use Rattle.interactive_station.specs.declared.outcome.StationOutcome.{StationOutcome}
use Rattle.interactive_station.specs.declared.outcome.StationOutcome.TheVariants as outcomes
use Rattle.interactive_station.specs.declared.plan.StationPlan.{StationPlan}
use Rattle.interactive_station.specs.Lines.{in_line}
use Rattle.interactive_station.specs.Machine.{station_machine, step_of}
use Rattle.interactive_station.specs.Moves.{told_in}
use Rattle.interactive_station.specs.State.{StationState}
use Rattle.logon_client.specs.declared.outcome.NoAnswerCause.{NoAnswerCause}
use Rattle.logon_client.specs.declared.outcome.NoAnswerCause.TheVariants.{DialFailed, LinkClosed}
use Rattle.logon_client.specs.declared.outcome.PeerFault.TheVariants as peer_fault
use Rattle.logon_client.specs.declared.outcome.RefusedCause.TheVariants as refused_cause
use Rattle.nt_top.specs.declared.exit.Exit.{Exit}
use Rattle.nt_top.specs.declared.exit.Exit.TheVariants.{Done, Refused, BadWords, FileFault, BadTable, BadInput, SinkFault, NoMemory, NoAnswer, BadPeer, Spent, PortFault}
use Rattle.nt_top.specs.Logon.{most_answers}
use Rattle.nt_top.specs.LogonExits.{IsExcuse, LosesLink}
use Rattle.nt_top.specs.Serve.{GivesFewer}
use Rattle.nt_top.specs.Station.{StationEnds, dialling_station, off_line, off_lines, station_dials, station_exit}
use Rattle.nt_top.specs.Told.{TellsBegun, rest_at}

-- ---- the runs that the outside tells

-- The outside tells that the station's first actions were performed, that it made these steps, and that this happened
-- at the port and these moments were given after them.
abbrev pub TellsStation : StationPlan → Sight → Sight → List Step → RunState StationState → List Happening → List ℕ → Type 0
TellsStation plan before after steps last later moments_later =
    TellsBegun station_machine (station_dials plan) (dialling_station plan) [] before after steps last later moments_later

-- The outside tells that the station ran to its end, with that outcome or none.
pub record StationComesTo (plan : StationPlan) (before after : Sight) (outcome : Option StationOutcome) : Type 0 where
  pub state : StationState
  pub left : List (List ℕ)
  pub steps : List Step
  pub stop : List Happening
  pub tells : TellsStation plan before after steps (rest_at state left) stop []
  pub closes : Closes station_machine (rest_at state left) (asked_by steps) most_answers stop
  pub outcome_is : state.outcome ≡ outcome

-- The outside tells that the station came to a step that draws more challenges than were left.
pub record StationComesToSpent (plan : StationPlan) (before after : Sight) : Type 0 where
  pub last : RunState StationState
  pub steps : List Step
  pub step : Step
  pub waiting : List Event
  pub tells : TellsStation plan before after steps last step.asked (step.moment ∷ [])
  pub chooses : Chooses station_machine last.state last.queue step waiting
  pub spent : (step_of last.state step.event step.moment last.left).answer ≡ Err refusals.Spent

-- ---- what is put

-- What was told of the Logon: nothing, or once that a user is in, with these names of domain and user.
abbrev pub IsGrant : List (ℕ × Outcome) → Option (List ℕ × List ℕ) → Type 0
IsGrant tolds None = tolds ≡ []
IsGrant tolds (Some names) = (link : ℕ) × (key : List ℕ) × (tolds ≡ (link, told.In names.0 names.1 key) ∷ [])

-- what the steps of a run told of it
abbrev pub GrantsIn : List Step → Option (List ℕ × List ℕ) → Type 0
GrantsIn steps granted = IsGrant (told_in (actions_in steps)) granted

-- the line of the user who is in, where the Logon was granted
abbrev pub granted_lines : Option (List ℕ × List ℕ) → List ℕ
granted_lines None = []
granted_lines (Some names) = in_line names.0 names.1

-- ---- what an exit shows of the run

-- The challenges were started, and the station ran to its end, with that outcome or none; after that the sink alone was
-- used. The line of the user who is in was put where the Logon was granted, and then the outcome's, where it has one.
pub record StationRanTo (plan : StationPlan) (seed : List ℕ) (boot : ℕ) (before after : Sight) (outcome : Option StationOutcome) (granted : Option (List ℕ × List ℕ)) : Type 0 where
  pub opened : Sight
  pub opens : Opens seed boot before opened []
  pub last : StationState
  pub ended : Sight
  pub run : Begun station_machine None (station_dials plan) (dialling_station plan) last most_answers opened ended
  pub outcome_is : last.outcome ≡ outcome
  pub only : after ≡ record ended { taken = after.taken }
  pub grants : GrantsIn run.run.ran.steps granted
  pub put : Appends before.taken after.taken (granted_lines granted ++ off_lines outcome)

-- The user was logged on and is logged off, with the same names, and both lines were put.
pub record IsOff (plan : StationPlan) (seed : List ℕ) (boot : ℕ) (before after : Sight) : Type 0 where
  pub domain : List ℕ
  pub user : List ℕ
  pub ran : StationRanTo plan seed boot before after (Some (outcomes.Off domain user)) (Some (domain, user))

-- the station has no answer for that cause, or no outcome at all
pub record StationHasNoAnswer (plan : StationPlan) (seed : List ℕ) (boot : ℕ) (before after : Sight) (cause : NoAnswerCause) : Type 0 where
  pub outcome : Option StationOutcome
  pub granted : Option (List ℕ × List ℕ)
  pub ran : StationRanTo plan seed boot before after outcome granted
  pub exit_is : station_exit outcome ≡ NoAnswer cause

-- The challenges were started, and the station's run came to where the port failed to give an event. The line of the
-- user who is in was put where the Logon was granted.
pub record StationFailsToAsk (plan : StationPlan) (seed : List ℕ) (boot : ℕ) (before after : Sight) : Type 0 where
  pub opened : Sight
  pub opens : Opens seed boot before opened []
  pub run : BegunHalf station_machine None (station_dials plan) (dialling_station plan) most_answers opened after halts.PortFault
  pub granted : Option (List ℕ × List ℕ)
  pub grants : GrantsIn run.run.ran.steps granted
  pub put : Appends before.taken after.taken (granted_lines granted)

-- The challenges were started, and the station's run came to a step that draws more challenges than were left. The line
-- of the user who is in was put where the Logon was granted.
pub record StationSpends (plan : StationPlan) (seed : List ℕ) (boot : ℕ) (before after : Sight) : Type 0 where
  pub opened : Sight
  pub opens : Opens seed boot before opened []
  pub run : BegunHalf station_machine None (station_dials plan) (dialling_station plan) most_answers opened after halts.Spent
  pub granted : Option (List ℕ × List ℕ)
  pub grants : GrantsIn run.run.ran.steps granted
  pub put : Appends before.taken after.taken (granted_lines granted)

-- Each exit comes only so: an outcome's where the station ran to it, that of the port or of the challenges where its
-- run halted for that. Where the sink failed a front of both lines of some user was put, where no memory was found a
-- front of the first. No other exit comes.
abbrev pub StationComesBy : Exit → StationPlan → List ℕ → ℕ → Sight → Sight → Type 0
StationComesBy Done plan seed boot before after = IsOff plan seed boot before after
StationComesBy (Refused (refused_cause.Status status)) plan seed boot before after =
    (granted : Option (List ℕ × List ℕ)) × StationRanTo plan seed boot before after (Some (outcomes.Refused status)) granted
StationComesBy (Refused refused_cause.Response) plan seed boot before after = ⊥
StationComesBy (Refused (refused_cause.Nak reason)) plan seed boot before after = ⊥
StationComesBy (Refused (refused_cause.Rejected reason)) plan seed boot before after = ⊥
StationComesBy (Refused refused_cause.WeakOffer) plan seed boot before after = ⊥
StationComesBy (Refused (refused_cause.Fault status)) plan seed boot before after = ⊥
StationComesBy (NoAnswer cause) plan seed boot before after = StationHasNoAnswer plan seed boot before after cause
StationComesBy (BadPeer (peer_fault.Station cause)) plan seed boot before after =
    (granted : Option (List ℕ × List ℕ)) × StationRanTo plan seed boot before after (Some (outcomes.BadPeer cause)) granted
StationComesBy (BadPeer peer_fault.BadUnit) plan seed boot before after = ⊥
StationComesBy (BadPeer peer_fault.OutOfPlace) plan seed boot before after = ⊥
StationComesBy (BadPeer peer_fault.BadMessage) plan seed boot before after = ⊥
StationComesBy (BadPeer peer_fault.BadSeal) plan seed boot before after = ⊥
StationComesBy (BadPeer peer_fault.BadReply) plan seed boot before after = ⊥
StationComesBy PortFault plan seed boot before after = StationFailsToAsk plan seed boot before after
StationComesBy Spent plan seed boot before after = StationSpends plan seed boot before after
StationComesBy SinkFault plan seed boot before after =
    (domain user : List ℕ) × AppendsFront before.taken after.taken (in_line domain user ++ off_line)
StationComesBy NoMemory plan seed boot before after = (domain user : List ℕ) × AppendsFront before.taken after.taken (in_line domain user)
StationComesBy (BadWords number) plan seed boot before after = ⊥
StationComesBy FileFault plan seed boot before after = ⊥
StationComesBy (BadTable cause) plan seed boot before after = ⊥
StationComesBy (BadInput number) plan seed boot before after = ⊥

-- ---- a dial that fails

abbrev pub fails_to_dial : Happening → Bool
fails_to_dial (happening.Dialled peer None) = true
fails_to_dial _ = false

-- Why a station finds a dial failed: by what happened at the port, where a dial gave no link, and the count of link
-- faults rose.
pub record LosesDial (before after : Sight) : Type 0 where
  pub rose : Rose before.link_faults after.link_faults
  pub happened : List Happening
  pub told : Appends before.story after.story happened
  pub failed : list_any fails_to_dial happened ≡ true

-- ---- laws of `StationEnds`

-- What the outside tells decides the exit; each exit comes only of its run, with what was put; that a dial failed, why
-- the link was lost, or what the port gave where it failed, where that is the exit.
pub record StationExitLaws : Type 0 where
  pub outcome : (plan : StationPlan) (seed : List ℕ) (boot : ℕ) (before after : Sight) (exit : Exit) (outcome : Option StationOutcome) →
      StationEnds plan seed boot before after exit → StationComesTo plan before after outcome → (exit ≡ station_exit outcome) ⊎ IsExcuse exit
  pub spent : (plan : StationPlan) (seed : List ℕ) (boot : ℕ) (before after : Sight) (exit : Exit) →
      StationEnds plan seed boot before after exit → StationComesToSpent plan before after → (exit ≡ Spent) ⊎ IsExcuse exit
  pub comes : (plan : StationPlan) (seed : List ℕ) (boot : ℕ) (before after : Sight) (exit : Exit) →
      StationEnds plan seed boot before after exit → StationComesBy exit plan seed boot before after
  pub dial : (plan : StationPlan) (seed : List ℕ) (boot : ℕ) (before after : Sight) (exit : Exit) →
      StationEnds plan seed boot before after exit → exit ≡ NoAnswer DialFailed → LosesDial before after
  pub closed : (plan : StationPlan) (seed : List ℕ) (boot : ℕ) (before after : Sight) (exit : Exit) →
      StationEnds plan seed boot before after exit → exit ≡ NoAnswer LinkClosed → LosesLink before after
  pub port : (plan : StationPlan) (seed : List ℕ) (boot : ℕ) (before after : Sight) (exit : Exit) →
      StationEnds plan seed boot before after exit → exit ≡ PortFault → GivesFewer most_answers before after
