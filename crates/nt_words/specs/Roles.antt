-- What the words of a command line ask for (this project's own choice). The first word is the command, and is judged
-- first.
use Rattle.std.specs.Prelude.{◌≡◌, ◌≢◌, ℕ, Bool, true, false, List, [], ◌∷◌, Option, Some, None, Result, Ok, Err, codes}
use Rattle.clap.specs.Words.{Text, fault_of, matches_of}
use Rattle.nt_words.specs.Jobs.{Form, controller_form, controller_job, member_form, member_job, logon_form, logon_job, station_form, station_job, drill_form, drill_job, is_led_by}
use Rattle.nt_words.specs.Options.{IsFirstMisfit}
use Rattle.nt_words.specs.Words.{app_with}
use Rattle.nt_words.specs.declared.job.Command.{Command}
use Rattle.nt_words.specs.declared.job.Command.TheVariants as commands
use Rattle.nt_words.specs.declared.job.Job.{Job}
use Rattle.nt_words.specs.declared.job.Job.TheVariants as jobs
use Rattle.nt_words.specs.declared.job.Role.{Role}
use Rattle.nt_words.specs.declared.job.Role.TheVariants.{Controller, Member, Logon}
use Rattle.nt_words.specs.declared.job.Service.{Service}
use Rattle.nt_words.specs.declared.job.Service.TheVariants as services
use Rattle.nt_words.specs.declared.options.WordsRefused.{WordsRefused}
use Rattle.nt_words.specs.declared.options.WordsRefused.TheVariants.{BadWords}

abbrev pub check : List Text → Result Job WordsRefused
check (command ∷ hash ∷ challenge ∷ message ∷ []) = Ok (jobs.Command (commands.Check (record { hash = hash; challenge = challenge; message = message })))
check words = Err (BadWords 0)

abbrev pub show : List Text → Result Job WordsRefused
show (command ∷ message ∷ []) = Ok (jobs.Command (commands.Show (record { message = message })))
show words = Err (BadWords 0)

-- the job of what the words of a service or of a command come to, or the refusal
abbrev pub service_from : {X : Type 0} → (X → Service) → Result X WordsRefused → Result Job WordsRefused
service_from wrap (Ok job) = Ok (jobs.Service (wrap job))
service_from wrap (Err refused) = Err refused

abbrev pub command_from : {X : Type 0} → (X → Command) → Result X WordsRefused → Result Job WordsRefused
command_from wrap (Ok job) = Ok (jobs.Command (wrap job))
command_from wrap (Err refused) = Err refused

-- what a program does with the words: its job, or the refusal
abbrev pub member_by : Bool → List Text → Result Job WordsRefused
member_by true words = check words
member_by false words = service_from services.Member (member_job words)

abbrev pub station_by : Bool → List Text → Result Job WordsRefused
station_by true words = service_from services.Station (station_job words)
station_by false words = service_from services.Logon (logon_job words)

abbrev pub drill_by : Bool → List Text → Result Job WordsRefused
drill_by true words = command_from commands.Drill (drill_job words)
drill_by false words = station_by (is_led_by (codes "station") words) words

abbrev pub logon_by : Bool → List Text → Result Job WordsRefused
logon_by true words = show words
logon_by false words = drill_by (is_led_by (codes "drill") words) words

abbrev pub job_of : Role → List Text → Result Job WordsRefused
job_of Controller words = service_from services.Controller (controller_job words)
job_of Member words = member_by (is_led_by (codes "check") words) words
job_of Logon words = logon_by (is_led_by (codes "show") words) words

-- ---- what is seen without memory

-- a first word that isn't the command is seen without memory
abbrev pub unless_led : Bool → Option (Result Job WordsRefused)
unless_led true = None
unless_led false = Some (Err (BadWords 0))

abbrev pub member_at_once : Bool → List Text → Option (Result Job WordsRefused)
member_at_once true words = Some (check words)
member_at_once false words = unless_led (is_led_by (codes "serve") words)

abbrev pub station_at_once : Bool → List Text → Option (Result Job WordsRefused)
station_at_once true words = None
station_at_once false words = unless_led (is_led_by (codes "logon") words)

abbrev pub drill_at_once : Bool → List Text → Option (Result Job WordsRefused)
drill_at_once true words = None
drill_at_once false words = station_at_once (is_led_by (codes "station") words) words

abbrev pub logon_at_once : Bool → List Text → Option (Result Job WordsRefused)
logon_at_once true words = Some (show words)
logon_at_once false words = drill_at_once (is_led_by (codes "drill") words) words

-- what the words come to where no memory is looked for
abbrev pub job_at_once : Role → List Text → Option (Result Job WordsRefused)
job_at_once Controller words = unless_led (is_led_by (codes "serve") words)
job_at_once Member words = member_at_once (is_led_by (codes "check") words) words
job_at_once Logon words = logon_at_once (is_led_by (codes "show") words) words

-- ---- refused words in their own terms

-- a command with options of a program
pub data IsFormOf : Role → Form → Type 0 where
  OfController : IsFormOf Controller controller_form
  OfMember : IsFormOf Member member_form
  OfLogon : IsFormOf Logon logon_form
  OfStation : IsFormOf Logon station_form
  OfDrill : IsFormOf Logon drill_form

-- The command leads the words, and `clap` finds no fault in them; the number is that of the first of its options whose
-- value isn't right.
pub record IsMisfit (form : Form) (words : List Text) (number : ℕ) : Type 0 where
  pub led : is_led_by form.name words ≡ true
  pub whole : fault_of (app_with form.name form.choices) words ≡ []
  pub first : IsFirstMisfit 1 form.choices (matches_of (app_with form.name form.choices) words) number

-- Words that are refused with another number than 0 are those of a command of the program, and it is the number of its
-- first option whose value isn't right.
abbrev pub BadWordsNumberAMisfit : Type 0
BadWordsNumberAMisfit = (role : Role) (words : List Text) (number : ℕ) → job_of role words ≡ Err (BadWords number) → number ≢ 0 →
    (form : Form) × IsFormOf role form × IsMisfit form words number
