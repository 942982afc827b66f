-- The command `station`: a workstation of the plan that the words and the files make dials its controller, and logs its
-- user on and off, with a line for each (this project's own choice). Texts are lists of 16-bit units, a line is a list
-- of bytes.
use Rattle.std.specs.Prelude.{ℕ, ◌≡◌, ◌⊎◌, List, [], Option, Some, None, codes}
use Rattle.outside.specs.Telling.{Appends, AppendsFront}
use Rattle.outside.specs.declared.action.Action.{Action}
use Rattle.end_loop.specs.declared.halt.Halt.{Halt}
use Rattle.end_loop.specs.Begun.{Begun, BegunUntil}
use Rattle.end_loop.specs.Seen.{Sight}
use Rattle.end_loop.specs.Serving.{Opens}
use Rattle.interactive_station.specs.declared.outcome.NoStation.{NoStation}
use Rattle.interactive_station.specs.declared.outcome.NoStation.TheVariants as no_station
use Rattle.interactive_station.specs.declared.outcome.StationOutcome.{StationOutcome}
use Rattle.interactive_station.specs.declared.outcome.StationOutcome.TheVariants as outcomes
use Rattle.interactive_station.specs.declared.plan.StationPlan.{StationPlan}
use Rattle.interactive_station.specs.Machine.{begin_of, fresh_station, station_machine}
use Rattle.interactive_station.specs.State.{StationState}
use Rattle.logon_client.specs.declared.outcome.NoAnswerCause.{NoAnswerCause}
use Rattle.logon_client.specs.declared.outcome.NoAnswerCause.TheVariants.{DialFailed, LinkClosed}
use Rattle.logon_client.specs.declared.outcome.PeerFault.TheVariants as peer_fault
use Rattle.logon_client.specs.declared.outcome.RefusedCause.TheVariants as refused_cause
use Rattle.nt_words.specs.Files.{StationFiles}
use Rattle.nt_words.specs.Jobs.{StationJob}
use Rattle.nt_top.specs.declared.exit.Exit.{Exit}
use Rattle.nt_top.specs.declared.exit.Exit.TheVariants.{Done, Refused, SinkFault, NoMemory, NoAnswer, BadPeer}
use Rattle.nt_top.specs.Logon.{most_answers}
use Rattle.nt_top.specs.Serve.{halt_exit}

-- ---- the station

-- the plan of the words and the files. Each byte of a name is its unit
abbrev pub station_plan : StationJob → StationFiles → StationPlan
station_plan job files = record {
  controller = job.controller;
  computer = job.computer;
  secret = files.secret;
  domain = job.domain;
  user = job.user;
  hash = files.hash;
}

-- what a station of the plan does first: it dials the controller
abbrev pub station_dials : StationPlan → List Action
station_dials plan = (begin_of (fresh_station plan)).actions

-- the station whose dial waits
abbrev pub dialling_station : StationPlan → StationState
dialling_station plan = (begin_of (fresh_station plan)).state

-- ---- the exit and the line of an outcome. A station that has none found its link closed

abbrev pub no_answer_of : NoStation → NoAnswerCause
no_answer_of no_station.DialFailed = DialFailed
no_answer_of no_station.LinkClosed = LinkClosed

abbrev pub station_exit : Option StationOutcome → Exit
station_exit None = NoAnswer LinkClosed
station_exit (Some (outcomes.Off domain user)) = Done
station_exit (Some (outcomes.Refused status)) = Refused (refused_cause.Status status)
station_exit (Some (outcomes.NoAnswer cause)) = NoAnswer (no_answer_of cause)
station_exit (Some (outcomes.BadPeer cause)) = BadPeer (peer_fault.Station cause)

-- the line of a user who is logged off; that of one who is logged on is put by the run itself
abbrev pub off_line : List ℕ
off_line = codes "off\n"

abbrev pub off_lines : Option StationOutcome → List ℕ
off_lines (Some (outcomes.Off domain user)) = off_line
off_lines _ = []

-- How an outcome is said, by what the sink tells before and after: its line is put, where it has one, and the exit is
-- the outcome's; or the sink failed, and a front of the line was put.
abbrev pub SaysOff : Option StationOutcome → Option (List ℕ) → Option (List ℕ) → Exit → Type 0
SaysOff outcome before now SinkFault = AppendsFront before now (off_lines outcome)
SaysOff outcome before now exit = (exit ≡ station_exit outcome) × Appends before now (off_lines outcome)

-- ---- how a station ends

-- The station ran to its end, and then its outcome was said, for which the sink alone was used.
pub record StationConcludes (plan : StationPlan) (opened after : Sight) (exit : Exit) : Type 0 where
  pub last : StationState
  pub ended : Sight
  pub run : Begun station_machine None (station_dials plan) (dialling_station plan) last most_answers opened ended
  pub says : SaysOff last.outcome ended.taken after.taken exit
  pub only : after ≡ record ended { taken = after.taken }

-- The station's run halted.
pub record StationBreaks (plan : StationPlan) (opened after : Sight) (exit : Exit) : Type 0 where
  pub halt : Halt
  pub exit_is : exit ≡ halt_exit halt
  pub run : BegunUntil station_machine None (station_dials plan) (dialling_station plan) most_answers opened after halt

-- The station didn't begin, for want of memory; or its run halted; or it ran to its end, and its outcome was said.
abbrev pub StationRuns : StationPlan → Sight → Sight → Exit → Type 0
StationRuns plan opened after exit =
    ((exit ≡ NoMemory) × (after ≡ opened)) ⊎ (StationBreaks plan opened after exit ⊎ StationConcludes plan opened after exit)

-- The challenges were started, and a station of the plan came to that exit from there.
pub record StationEnds (plan : StationPlan) (seed : List ℕ) (boot : ℕ) (before after : Sight) (exit : Exit) : Type 0 where
  pub opened : Sight
  pub opens : Opens seed boot before opened []
  pub ends : StationRuns plan opened after exit
