-- Which files a command writes (this project's own choice).
use Rattle.std.specs.Prelude.{◌≡◌, ℕ, List, [], ◌∷◌, Option, Some, None, Result, Ok, Err}
use Rattle.outside.specs.Telling.{Appends}
use Rattle.end_loop.specs.Writing.{Write}
use Rattle.nt_words.specs.Roles.{job_of}
use Rattle.nt_words.specs.declared.job.Job.{Job}
use Rattle.nt_words.specs.declared.job.Job.TheVariants as jobs
use Rattle.nt_words.specs.declared.job.Role.{Role}
use Rattle.nt_words.specs.declared.job.Service.{Service}
use Rattle.nt_words.specs.declared.job.Service.TheVariants as services
use Rattle.nt_words.specs.declared.options.WordsRefused.{WordsRefused}

-- The file that a service names for what its end keeps: a controller's file of changed secrets, where its words name
-- one, and a member's file of secrets.
abbrev pub file_of_service : Service → Option (List ℕ)
file_of_service (services.Controller job) = job.secrets
file_of_service (services.Member job) = Some job.secret
file_of_service (services.Logon job) = None
file_of_service (services.Station job) = None

abbrev pub file_of_job : Result Job WordsRefused → Option (List ℕ)
file_of_job (Ok (jobs.Service service)) = file_of_service service
file_of_job (Ok (jobs.Command command)) = None
file_of_job (Err refused) = None

-- the file that the words of a program name for what is kept, or none
abbrev pub kept_file : Role → List (List ℕ) → Option (List ℕ)
kept_file role asked = file_of_job (job_of role asked)

-- Each write is into the file of that name; so where there is no name there is no write.
abbrev pub AreInto : Option (List ℕ) → List Write → Type 0
AreInto file [] = Unit {0}
AreInto file (write ∷ writes) = (file ≡ Some write.0) × AreInto file writes

-- Files were written into that file alone, by what is told of writes before and after.
pub record WritesInto (file : Option (List ℕ)) (before after : Option (List Write)) : Type 0 where
  pub writes : List Write
  pub told : Appends before after writes
  pub into : AreInto file writes
