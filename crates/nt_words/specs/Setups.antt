-- What a service starts from (this project's own choice): the files that its options name, in the order of the options,
-- and what is due of what they hold.
use Rattle.std.specs.Prelude.{◌≡◌, ℕ, Bool, true, false, List, [], ◌∷◌, Option, Result, Ok}
use Rattle.clap.specs.Words.{Row, Text, first_of}
use Rattle.nt_words.specs.Files.{and_then, controller_files, member_files, secret_files, station_files, table_number}
use Rattle.nt_words.specs.Jobs.{controller_form, controller_of, drill_form, logon_form, logon_of, member_form, member_of, or_else, station_form, station_of}
use Rattle.nt_words.specs.Options.{Choice, file_of, file_options}
use Rattle.nt_words.specs.declared.files.FilesRefused.{FilesRefused}
use Rattle.nt_words.specs.declared.job.Service.{Service}
use Rattle.nt_words.specs.declared.job.Service.TheVariants as services
use Rattle.nt_words.specs.declared.setup.Setup.{Setup}
use Rattle.nt_words.specs.declared.setup.Setup.TheVariants as setups

-- the options with files of a service: their numbers, and the files' names
abbrev pub file_names : Service → List (ℕ × List ℕ)
file_names (services.Controller job) = (table_number, job.table) ∷ (4, job.seed) ∷ file_of 7 job.secrets []
file_names (services.Member job) = (4, job.secret) ∷ (6, job.seed) ∷ file_of 9 job.change []
file_names (services.Logon job) = (5, job.hash) ∷ (9, job.seed) ∷ []
file_names (services.Station job) = (3, job.secret) ∷ (6, job.hash) ∷ (7, job.seed) ∷ []

-- the service of a set-up
abbrev pub service_in : Setup → Service
service_in (setups.Controller job setup) = services.Controller job
service_in (setups.Member job setup) = services.Member job
service_in (setups.Logon job setup) = services.Logon job
service_in (setups.Station job setup) = services.Station job

abbrev pub setup_due : Service → List (List ℕ × List ℕ) → Result Setup FilesRefused
setup_due (services.Controller job) files = and_then (controller_files job.table job.seed job.secrets files) (λ setup. Ok (setups.Controller job setup))
setup_due (services.Member job) files = and_then (member_files job.secret job.seed job.change files) (λ setup. Ok (setups.Member job setup))
setup_due (services.Logon job) files = and_then (secret_files 5 job.hash 9 job.seed files) (λ setup. Ok (setups.Logon job setup))
setup_due (services.Station job) files = and_then (station_files job.secret job.hash job.seed files) (λ setup. Ok (setups.Station job setup))

-- ---- which options name files

-- the file of an option, in front of others: its value, or the empty name, where the option must be given
abbrev pub file_given : (needed : Bool) → ℕ → Option Text → List (ℕ × List ℕ) → List (ℕ × List ℕ)
file_given true number value later = (number, or_else value []) ∷ later
file_given false number value later = file_of number value later

-- the files that these options name: the number of each option, and its value; none where it may be missing and is
abbrev pub files_named : List Row → List (ℕ × Choice) → List (ℕ × List ℕ)
files_named rows [] = []
files_named rows (option ∷ more) = file_given option.1.needed option.0 (first_of option.1.name rows) (files_named rows more)

-- The files of a service are those that the options of its command name whose values are files, in the order of the
-- options. A drill has none.
pub record FilesAreOfOptions : Type 0 where
  pub controller : (rows : List Row) → file_names (services.Controller (controller_of rows)) ≡ files_named rows (file_options 1 controller_form.choices)
  pub member : (rows : List Row) → file_names (services.Member (member_of rows)) ≡ files_named rows (file_options 1 member_form.choices)
  pub logon : (rows : List Row) → file_names (services.Logon (logon_of rows)) ≡ files_named rows (file_options 1 logon_form.choices)
  pub station : (rows : List Row) → file_names (services.Station (station_of rows)) ≡ files_named rows (file_options 1 station_form.choices)
  pub drill : file_options 1 drill_form.choices ≡ []
