-- What the words of a command line come to (this project's own choice): an answer, or an exit at which nothing is put.
-- Words are lists of bytes.
use Rattle.std.specs.Prelude.{ℕ, List, Option, Some, None, Result, Ok, Err}
use Rattle.nt_words.specs.Roles.{job_of, job_at_once}
use Rattle.nt_words.specs.declared.job.Command.{Command}
use Rattle.nt_words.specs.declared.job.Command.TheVariants as commands
use Rattle.nt_words.specs.declared.job.Job.{Job}
use Rattle.nt_words.specs.declared.job.Job.TheVariants as jobs
use Rattle.nt_words.specs.declared.job.Role.{Role}
use Rattle.nt_words.specs.declared.options.WordsRefused.{WordsRefused}
use Rattle.nt_top.specs.declared.answer.Answer.{Answer}
use Rattle.nt_top.specs.declared.exit.Exit.{Exit}
use Rattle.nt_top.specs.declared.exit.Exit.TheVariants.{BadWords}
use Rattle.nt_top.specs.Check.{check_answer, texts_at_once}
use Rattle.nt_top.specs.Drill.{IsProvedDrill, drill_answer}
use Rattle.nt_top.specs.Refusals.{words_exit}
use Rattle.nt_top.specs.Show.{show_answer}

-- what a command comes to
abbrev pub command_answer : Command → Result Answer Exit
command_answer (commands.Check job) = check_answer job.hash job.challenge job.message
command_answer (commands.Show job) = show_answer job.message
command_answer (commands.Drill job) = drill_answer job.number job.moves

-- what is proved besides of the run that a command makes
abbrev pub IsProvedOf : Command → Type 0
IsProvedOf (commands.Check job) = Unit {0}
IsProvedOf (commands.Show job) = Unit {0}
IsProvedOf (commands.Drill job) = IsProvedDrill job.number job.moves

-- A service has no answer: what is written of it is arbitrary, and no clause that cites this speaks of a service.
abbrev pub answer_from : Result Job WordsRefused → Result Answer Exit
answer_from (Ok (jobs.Command command)) = command_answer command
answer_from (Ok (jobs.Service service)) = Err (BadWords 0)
answer_from (Err refused) = Err (words_exit refused)

abbrev pub answer_of : Role → List (List ℕ) → Result Answer Exit
answer_of role words = answer_from (job_of role words)

-- ---- exits for which no memory is looked for

-- the exit that is seen in a command without memory
abbrev pub command_exit_at_once : Command → Option Exit
command_exit_at_once (commands.Check job) = texts_at_once job.hash job.challenge
command_exit_at_once (commands.Show job) = None
command_exit_at_once (commands.Drill job) = None

abbrev pub from_at_once : Option (Result Job WordsRefused) → Option Exit
from_at_once None = None
from_at_once (Some (Ok (jobs.Command command))) = command_exit_at_once command
from_at_once (Some (Ok (jobs.Service service))) = None
from_at_once (Some (Err refused)) = Some (words_exit refused)

-- the exit that is seen in the words without memory
abbrev pub exit_at_once : Role → List (List ℕ) → Option Exit
exit_at_once role words = from_at_once (job_at_once role words)
