-- The command `logon`: a client of the plan that the words and the files make dials the server and runs to its outcome,
-- whose lines are put then (this project's own choice). Texts are lists of 16-bit units, a line is a list of bytes.
use Rattle.std.specs.Prelude.{ℕ, ◌≡◌, ◌⊎◌, ◌==◌, ◌++◌, Bool, true, false, List, [], Option, Some, None, codes}
use Rattle.std.specs.Fmt.{decimal}
use Rattle.outside.specs.Telling.{Appends, AppendsFront}
use Rattle.outside.specs.declared.action.Action.{Action}
use Rattle.end_loop.specs.declared.halt.Halt.{Halt}
use Rattle.end_loop.specs.Begun.{Begun, BegunUntil}
use Rattle.end_loop.specs.Seen.{Sight}
use Rattle.end_loop.specs.Serving.{Opens}
use Rattle.logon_client.specs.declared.outcome.ClientOutcome.{ClientOutcome}
use Rattle.logon_client.specs.declared.outcome.ClientOutcome.TheVariants as outcomes
use Rattle.logon_client.specs.declared.outcome.NoAnswerCause.TheVariants.{LinkClosed}
use Rattle.logon_client.specs.declared.plan.ClientPlan.{ClientPlan}
use Rattle.logon_client.specs.Machine.{begin_of, client_machine, fresh_client}
use Rattle.logon_client.specs.State.{State}
use Rattle.nt_words.specs.Files.{SecretFiles}
use Rattle.nt_words.specs.Jobs.{LogonJob}
use Rattle.nt_top.specs.declared.exit.Exit.{Exit}
use Rattle.nt_top.specs.declared.exit.Exit.TheVariants.{Done, Refused, SinkFault, NoMemory, NoAnswer, BadPeer}
use Rattle.wire_base.specs.Names.{printable_text}
use Rattle.nt_top.specs.Serve.{halt_exit}

-- ---- the client

-- the plan of the words and the files. Each byte of a name is its unit
abbrev pub plan_of : LogonJob → SecretFiles → ClientPlan
plan_of job files = record {
  server = job.server;
  domain = job.domain;
  user = job.user;
  workstation = job.workstation;
  hash = files.secret;
  level = job.level;
  auth = job.auth;
  echo = job.echo;
}

-- what a client of the plan does first: it dials the server
abbrev pub first_actions : ClientPlan → List Action
first_actions plan = (begin_of (fresh_client plan)).actions

-- the client whose dial waits
abbrev pub client_that_dials : ClientPlan → State
client_that_dials plan = (begin_of (fresh_client plan)).state

-- how many answers of the port are taken
abbrev pub most_answers : ℕ
most_answers = 4294967295

-- ---- the exit and the lines of an outcome. A client that has none found its link closed

abbrev pub outcome_exit : Option ClientOutcome → Exit
outcome_exit None = NoAnswer LinkClosed
outcome_exit (Some (outcomes.In name key echoed)) = Done
outcome_exit (Some (outcomes.Refused cause)) = Refused cause
outcome_exit (Some (outcomes.NoAnswer cause)) = NoAnswer cause
outcome_exit (Some (outcomes.BadPeer fault)) = BadPeer fault

abbrev pub echo_line : (echoes_nothing : Bool) → ℕ → List ℕ
echo_line true echoed = []
echo_line false echoed = codes "echo " ++ decimal echoed ++ codes "\n"

unfoldable pub in_lines : List ℕ → ℕ → List ℕ
in_lines name echoed = codes "in " ++ printable_text name ++ codes "\n" ++ echo_line (echoed == 0) echoed

abbrev pub outcome_lines : Option ClientOutcome → List ℕ
outcome_lines (Some (outcomes.In name key echoed)) = in_lines name echoed
outcome_lines _ = []

-- How an outcome is said, by what the sink tells before and after: all of its lines are put, and the exit is the
-- outcome's; the sink failed, and a front of the lines was put; or no memory was found, and none was.
abbrev pub Says : Option ClientOutcome → Option (List ℕ) → Option (List ℕ) → Exit → Type 0
Says outcome before now SinkFault = AppendsFront before now (outcome_lines outcome)
Says outcome before now NoMemory = now ≡ before
Says outcome before now exit = (exit ≡ outcome_exit outcome) × Appends before now (outcome_lines outcome)

-- ---- how a logon ends

-- The client ran to its end, and then its outcome was said, for which the sink alone was used.
pub record Concludes (plan : ClientPlan) (opened after : Sight) (exit : Exit) : Type 0 where
  pub last : State
  pub ended : Sight
  pub run : Begun client_machine None (first_actions plan) (client_that_dials plan) last most_answers opened ended
  pub says : Says last.outcome ended.taken after.taken exit
  pub only : after ≡ record ended { taken = after.taken }

-- The client's run halted.
pub record Breaks (plan : ClientPlan) (opened after : Sight) (exit : Exit) : Type 0 where
  pub halt : Halt
  pub exit_is : exit ≡ halt_exit halt
  pub run : BegunUntil client_machine None (first_actions plan) (client_that_dials plan) most_answers opened after halt

-- The client didn't begin, for want of memory; or its run halted; or it ran to its end, and its outcome was said.
abbrev pub ClientEnds : ClientPlan → Sight → Sight → Exit → Type 0
ClientEnds plan opened after exit =
    ((exit ≡ NoMemory) × (after ≡ opened)) ⊎ (Breaks plan opened after exit ⊎ Concludes plan opened after exit)

-- The challenges were started, and a client of the plan came to that exit from there.
pub record LogonEnds (plan : ClientPlan) (seed : List ℕ) (boot : ℕ) (before after : Sight) (exit : Exit) : Type 0 where
  pub opened : Sight
  pub opens : Opens seed boot before opened []
  pub ends : ClientEnds plan opened after exit
