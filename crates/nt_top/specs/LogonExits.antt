-- When each exit of `logon` comes, by what the outside tells, and what is put then (this project's own choice).
use Rattle.std.specs.Prelude.{ℕ, ◌≡◌, ◌⊎◌, ◌==◌, Bool, true, false, List, [], ◌∷◌, length, Option, Some, None, Err}
use Rattle.std.specs.List.{list_any}
use Rattle.outside.specs.Causes.{Rose}
use Rattle.outside.specs.Telling.{Appends, AppendsFront}
use Rattle.outside.specs.declared.action.StepRefused.TheVariants as refusals
use Rattle.outside.specs.declared.event.Event.{Event}
use Rattle.outside.specs.declared.event.Event.TheVariants as event
use Rattle.outside.specs.declared.event.Happening.{Happening}
use Rattle.outside.specs.declared.event.Happening.TheVariants as happening
use Rattle.outside.specs.Stories.{events_in}
use Rattle.end_loop.specs.Runs.{RunState, Step, Chooses, Closes, asked_by}
use Rattle.end_loop.specs.Begun.{Begun, BegunUntil}
use Rattle.end_loop.specs.Seen.{Sight}
use Rattle.end_loop.specs.Serving.{Opens}
use Rattle.end_loop.specs.declared.halt.Halt.{Halt}
use Rattle.end_loop.specs.declared.halt.Halt.TheVariants as halts
use Rattle.logon_client.specs.declared.outcome.ClientOutcome.{ClientOutcome}
use Rattle.logon_client.specs.declared.outcome.ClientOutcome.TheVariants as outcomes
use Rattle.logon_client.specs.declared.outcome.NoAnswerCause.{NoAnswerCause}
use Rattle.logon_client.specs.declared.outcome.NoAnswerCause.TheVariants.{DialFailed, LinkClosed}
use Rattle.logon_client.specs.declared.plan.ClientPlan.{ClientPlan}
use Rattle.logon_client.specs.Machine.{client_machine, step_of}
use Rattle.logon_client.specs.State.{State}
use Rattle.nt_top.specs.declared.exit.Exit.{Exit}
use Rattle.nt_top.specs.declared.exit.Exit.TheVariants.{Done, Refused, BadWords, FileFault, BadTable, BadInput, SinkFault, NoMemory, NoAnswer, BadPeer, Spent, PortFault}
use Rattle.nt_top.specs.Logon.{LogonEnds, client_that_dials, first_actions, in_lines, most_answers, outcome_exit}
use Rattle.nt_top.specs.Serve.{GivesFewer}
use Rattle.nt_top.specs.Told.{TellsBegun, rest_at}

-- ---- the runs that the outside tells

-- The outside tells that the client's first actions were performed, that it made these steps, and that this happened at
-- the port and these moments were given after them.
abbrev pub TellsRun : ClientPlan → Sight → Sight → List Step → RunState State → List Happening → List ℕ → Type 0
TellsRun plan before after steps last later moments_later =
    TellsBegun client_machine (first_actions plan) (client_that_dials plan) [] before after steps last later moments_later

-- The outside tells that the client ran to its end, with that outcome or none.
pub record ComesTo (plan : ClientPlan) (before after : Sight) (outcome : Option ClientOutcome) : Type 0 where
  pub state : State
  pub left : List (List ℕ)
  pub steps : List Step
  pub stop : List Happening
  pub tells : TellsRun plan before after steps (rest_at state left) stop []
  pub closes : Closes client_machine (rest_at state left) (asked_by steps) most_answers stop
  pub outcome_is : state.outcome ≡ outcome

-- The outside tells that the client came to a step that draws more challenges than were left.
pub record ComesToSpent (plan : ClientPlan) (before after : Sight) : Type 0 where
  pub last : RunState State
  pub steps : List Step
  pub step : Step
  pub waiting : List Event
  pub tells : TellsRun plan before after steps last step.asked (step.moment ∷ [])
  pub chooses : Chooses client_machine last.state last.queue step waiting
  pub spent : (step_of last.state step.event step.moment last.left).answer ≡ Err refusals.Spent

-- an exit that may come in place of another: a fault of the sink, or want of memory
abbrev pub IsExcuse : Exit → Type 0
IsExcuse SinkFault = Unit {0}
IsExcuse NoMemory = Unit {0}
IsExcuse _ = ⊥

-- ---- what is put

-- All the lines of a name and what was echoed at `Done`, a front of such lines where the sink failed, and else nothing.
abbrev pub Puts : Exit → Option (List ℕ) → Option (List ℕ) → Type 0
Puts Done before now = (name : List ℕ) × (echoed : ℕ) × Appends before now (in_lines name echoed)
Puts SinkFault before now = (name : List ℕ) × (echoed : ℕ) × AppendsFront before now (in_lines name echoed)
Puts _ before now = Appends before now []

-- ---- what an exit shows of the run

-- The challenges were started, and the client ran to its end, with that outcome or none; after that the sink alone was
-- used.
pub record RanTo (plan : ClientPlan) (seed : List ℕ) (boot : ℕ) (before after : Sight) (outcome : Option ClientOutcome) : Type 0 where
  pub opened : Sight
  pub opens : Opens seed boot before opened []
  pub last : State
  pub ended : Sight
  pub run : Begun client_machine None (first_actions plan) (client_that_dials plan) last most_answers opened ended
  pub outcome_is : last.outcome ≡ outcome
  pub only : after ≡ record ended { taken = after.taken }

-- The challenges were started, and the client's run halted.
pub record RanUntil (plan : ClientPlan) (seed : List ℕ) (boot : ℕ) (before after : Sight) (halt : Halt) : Type 0 where
  pub opened : Sight
  pub opens : Opens seed boot before opened []
  pub run : BegunUntil client_machine None (first_actions plan) (client_that_dials plan) most_answers opened after halt

-- the client is in, and its lines were put
pub record IsIn (plan : ClientPlan) (seed : List ℕ) (boot : ℕ) (before after : Sight) : Type 0 where
  pub name : List ℕ
  pub key : List ℕ
  pub echoed : ℕ
  pub ran : RanTo plan seed boot before after (Some (outcomes.In name key echoed))
  pub put : Appends before.taken after.taken (in_lines name echoed)

-- a client has no answer for that cause, or no outcome at all
pub record HasNoAnswer (plan : ClientPlan) (seed : List ℕ) (boot : ℕ) (before after : Sight) (cause : NoAnswerCause) : Type 0 where
  pub outcome : Option ClientOutcome
  pub ran : RanTo plan seed boot before after outcome
  pub exit_is : outcome_exit outcome ≡ NoAnswer cause

-- Each exit comes only so: an outcome's where the client ran to it, and that of the port or of the challenges where its
-- run halted for that.
abbrev pub ComesBy : Exit → ClientPlan → List ℕ → ℕ → Sight → Sight → Type 0
ComesBy Done plan seed boot before after = IsIn plan seed boot before after
ComesBy (Refused cause) plan seed boot before after = RanTo plan seed boot before after (Some (outcomes.Refused cause))
ComesBy (NoAnswer cause) plan seed boot before after = HasNoAnswer plan seed boot before after cause
ComesBy (BadPeer fault) plan seed boot before after = RanTo plan seed boot before after (Some (outcomes.BadPeer fault))
ComesBy PortFault plan seed boot before after = RanUntil plan seed boot before after halts.PortFault
ComesBy Spent plan seed boot before after = RanUntil plan seed boot before after halts.Spent
ComesBy _ plan seed boot before after = Unit {0}

-- an exit of a client's run
abbrev pub IsOfClients : Exit → Type 0
IsOfClients (BadWords number) = ⊥
IsOfClients FileFault = ⊥
IsOfClients (BadTable cause) = ⊥
IsOfClients (BadInput number) = ⊥
IsOfClients _ = Unit {0}

-- ---- a dial that fails

-- Why a client finds its dial failed: the first that happened at the port is the dial of its server, which gave no
-- link, and the count of link faults rose.
pub record FailsToDial (server : List ℕ) (before after : Sight) : Type 0 where
  pub rose : Rose before.link_faults after.link_faults
  pub happened : List Happening
  pub told : Appends before.story after.story (happening.Dialled server None ∷ happened)

-- ---- a link that is lost

-- the event shows that the link is gone that the client waits for: it was closed, or another was opened under its
-- number
abbrev pub is_gone : Event → Option ℕ → Bool
is_gone (event.Closed link) (Some own) = link == own
is_gone (event.Opened link) (Some own) = link == own
is_gone _ _ = false

-- the port gave an event which shows that the link is gone that was waited for
abbrev pub tells_gone : Happening → Bool
tells_gone (happening.Given what want) = is_gone what want
tells_gone _ = false

-- the port gave `Stop`
abbrev pub gives_stop : Happening → Bool
gives_stop (happening.Given event.Stop want) = true
gives_stop _ = false

-- a send failed
abbrev pub fails_to_send : Happening → Bool
fails_to_send (happening.Sent link bytes failed) = failed
fails_to_send _ = false

-- Why a client finds its link closed: by what happened at the port, which gave an event that shows it, or `Stop`, or as
-- many events as a logon takes; or a send failed there, and the count of link faults rose.
pub data LosesLink (before after : Sight) : Type 0 where
  Gone : (happened : List Happening) → Appends before.story after.story happened → list_any tells_gone happened ≡ true → LosesLink before after
  SendFailed : (happened : List Happening) → Appends before.story after.story happened → list_any fails_to_send happened ≡ true →
      Rose before.link_faults after.link_faults → LosesLink before after
  Stopped : (happened : List Happening) → Appends before.story after.story happened → list_any gives_stop happened ≡ true → LosesLink before after
  TookAll : (happened : List Happening) → Appends before.story after.story happened → length (events_in happened) ≡ most_answers → LosesLink before after

-- ---- where words and files are of their forms

-- the exit of an outcome, or that there is none, or the challenges were spent, or memory ran out
abbrev pub IsAnswered : Exit → Type 0
IsAnswered Done = Unit {0}
IsAnswered (Refused cause) = Unit {0}
IsAnswered (NoAnswer cause) = Unit {0}
IsAnswered (BadPeer fault) = Unit {0}
IsAnswered Spent = Unit {0}
IsAnswered NoMemory = Unit {0}
IsAnswered _ = ⊥

-- ---- laws of `LogonEnds`

-- What the outside tells decides the exit; each exit comes only of its run; what was put; that a dial failed, why the
-- link was lost, or what the port gave where it failed, where that is the exit; and which exits come.
pub record LogonLaws : Type 0 where
  pub outcome : (plan : ClientPlan) (seed : List ℕ) (boot : ℕ) (before after : Sight) (exit : Exit) (outcome : Option ClientOutcome) →
      LogonEnds plan seed boot before after exit → ComesTo plan before after outcome → (exit ≡ outcome_exit outcome) ⊎ IsExcuse exit
  pub spent : (plan : ClientPlan) (seed : List ℕ) (boot : ℕ) (before after : Sight) (exit : Exit) →
      LogonEnds plan seed boot before after exit → ComesToSpent plan before after → (exit ≡ Spent) ⊎ IsExcuse exit
  pub comes : (plan : ClientPlan) (seed : List ℕ) (boot : ℕ) (before after : Sight) (exit : Exit) →
      LogonEnds plan seed boot before after exit → ComesBy exit plan seed boot before after
  pub puts : (plan : ClientPlan) (seed : List ℕ) (boot : ℕ) (before after : Sight) (exit : Exit) →
      LogonEnds plan seed boot before after exit → Puts exit before.taken after.taken
  pub dial : (plan : ClientPlan) (seed : List ℕ) (boot : ℕ) (before after : Sight) (exit : Exit) →
      LogonEnds plan seed boot before after exit → exit ≡ NoAnswer DialFailed → FailsToDial plan.server before after
  pub closed : (plan : ClientPlan) (seed : List ℕ) (boot : ℕ) (before after : Sight) (exit : Exit) →
      LogonEnds plan seed boot before after exit → exit ≡ NoAnswer LinkClosed → LosesLink before after
  pub port : (plan : ClientPlan) (seed : List ℕ) (boot : ℕ) (before after : Sight) (exit : Exit) →
      LogonEnds plan seed boot before after exit → exit ≡ PortFault → GivesFewer most_answers before after
  pub exits : (plan : ClientPlan) (seed : List ℕ) (boot : ℕ) (before after : Sight) (exit : Exit) →
      LogonEnds plan seed boot before after exit → IsOfClients exit
