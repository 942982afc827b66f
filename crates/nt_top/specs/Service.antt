-- The commands that use the port (this project's own choice): the words are judged, then the files that they name are
-- read and judged, and then the end that words and files make is served, or logs on.
use Rattle.std.specs.Prelude.{ℕ, ◌≡◌, ◌≤◌, ◌||◌, Bool, true, false, List, [], ◌∷◌, ◌++◌, Option, Some, None, IsSome, Result, Ok, Err, IfOk, codes}
use Rattle.outside.specs.declared.action.Action.{Action}
use Rattle.outside.specs.declared.action.Action.TheVariants.{Keep}
use Rattle.end_loop.specs.Seen.{Sight}
use Rattle.end_loop.specs.Writing.{FilesTold}
use Rattle.domain_controller.specs.SealStep.{first_seal_state, seal_machine}
use Rattle.member_server.specs.Machine.{Changing, change_of}
use Rattle.member_server.specs.SealStep.{any_member_machine, sealing_member}
use Rattle.member_server.specs.State.{State}
use Rattle.member_server.specs.declared.change.ChangeRefused.{ChangeRefused}
use Rattle.member_server.specs.declared.plan.MemberPlan.{MemberPlan}
use Rattle.secret_change.specs.Secrets.{SecretsState, alone, line_of, untried_next}
use Rattle.nt_words.specs.Files.{MemberFiles, ReadsFiles, Shelf}
use Rattle.nt_words.specs.Jobs.{MemberJob, is_led_by}
use Rattle.nt_words.specs.Roles.{job_of}
use Rattle.nt_words.specs.Setups.{file_names, service_in, setup_due}
use Rattle.nt_words.specs.declared.files.FilesRefused.{FilesRefused}
use Rattle.nt_words.specs.declared.files.FilesRefused.TheVariants as files
use Rattle.nt_words.specs.declared.job.Job.{Job}
use Rattle.nt_words.specs.declared.job.Job.TheVariants as jobs
use Rattle.nt_words.specs.declared.job.Role.{Role}
use Rattle.nt_words.specs.declared.job.Role.TheVariants.{Controller, Member, Logon}
use Rattle.nt_words.specs.declared.job.Service.{Service}
use Rattle.nt_words.specs.declared.options.WordsRefused.{WordsRefused}
use Rattle.nt_words.specs.declared.options.WordsRefused.TheVariants as words
use Rattle.nt_words.specs.declared.setup.Setup.{Setup}
use Rattle.nt_words.specs.declared.setup.Setup.TheVariants as setups
use Rattle.wire_base.specs.Memory.{UpToMemory}
use Rattle.nt_top.specs.declared.exit.Exit.{Exit}
use Rattle.nt_top.specs.Logon.{LogonEnds, plan_of}
use Rattle.nt_top.specs.LogonExits.{IsAnswered}
use Rattle.nt_top.specs.Refusals.{files_exit, words_exit}
use Rattle.nt_top.specs.Serve.{IsLeft, IsServed, MayServe}
use Rattle.nt_top.specs.Station.{StationEnds, station_plan}

-- ---- which commands these are

-- whether the words name a command that uses the port: a controller has no other, a member server has `serve`, and a
-- logon client `logon` and `station`
abbrev pub uses_port : Role → List (List ℕ) → Bool
uses_port Controller asked = true
uses_port Member asked = is_led_by (codes "serve") asked
uses_port Logon asked = is_led_by (codes "logon") asked || is_led_by (codes "station") asked

-- what the program does is told by its words
abbrev pub ActsByWords : Role → List (List ℕ) → Type 0
ActsByWords role asked = uses_port role asked ≡ false

-- words that are refused
abbrev pub IsRefusal : Result Job WordsRefused → Type 0
IsRefusal asked = (refused : WordsRefused) × (asked ≡ Err refused)

-- ---- the ends

-- a member server of the words' computer and domain, with these secrets, whose logons the controller at the
-- words' address judges, on a channel that is sealed where the words say so
abbrev pub member_plan : MemberJob → SecretsState → MemberPlan
member_plan job secrets =
    record { computer = job.computer; domain = job.domain; secrets = secrets; controller = job.controller; sealed = job.seal }

-- How a member changes its secret as it begins: to that of the file that the words name, where they name one.
abbrev pub changing : Option (List ℕ) → State → Changing
changing None member = record { answer = Ok []; state = member }
changing (Some secret) member = change_of member secret

-- the member of the words and the files, as it begins
abbrev pub member_begins : MemberJob → MemberFiles → Changing
member_begins job files = changing files.change (sealing_member (member_plan job files.secrets))

-- what it does first: it keeps the text of its secrets, where a change begins; a change that is under way, of which the
-- file has two secrets, goes on, and nothing is done
abbrev pub first_of : Result (List Action) ChangeRefused → List Action
first_of (Ok actions) = actions
first_of (Err refused) = []

-- A member server is served, from where it begins to change its secret on. It keeps its secrets in the file that they
-- were read from.
abbrev pub MemberServes : MemberJob → MemberFiles → Sight → Sight → Exit → Type 0
MemberServes job files before after exit =
    MayServe any_member_machine (Some job.secret) (first_of (member_begins job files).answer) (member_begins job files).state
    job.listen files.seed job.boot job.events before after exit

-- A member of one secret that is to change it begins so: the next secret is the new one, and the text of both is kept.
-- Where two are kept, or no change is asked for, it is the member of the file's secrets, and does nothing first.
pub record BeginsOneChange : Type 0 where
  pub begins : (job : MemberJob) (seed current new : List ℕ) →
      member_begins job (record { secrets = alone current; seed = seed; change = Some new }) ≡ record {
        answer = Ok (Keep (line_of current ++ line_of new) ∷ []);
        state = sealing_member (member_plan job (record { current = current; next = Some (untried_next new) }));
      }
  pub passed_over : (job : MemberJob) (files : MemberFiles) → IsSome files.secrets.next →
      (first_of (member_begins job files).answer ≡ []) × ((member_begins job files).state ≡ sealing_member (member_plan job files.secrets))
  pub not_asked : (job : MemberJob) (files : MemberFiles) → files.change ≡ None →
      (first_of (member_begins job files).answer ≡ []) × ((member_begins job files).state ≡ sealing_member (member_plan job files.secrets))

-- The end of the service is served: a controller of the words' name over the files' table, which asks the controllers
-- of the domains that the table trusts, can seal, and keeps changed secrets in the file that the words name for them,
-- or a member server. It is served at the words' address, with the file's seed and the words' number of the boot, for
-- as many events as they say. A logon client of the words and the file's hash comes to its exit, and so does a station
-- of the words and of the files' secret and hash.
abbrev pub ServiceBy : Setup → Sight → Sight → Exit → Type 0
ServiceBy (setups.Controller job files) before after exit =
    MayServe seal_machine job.secrets [] (first_seal_state files.table job.name) job.listen files.seed job.boot job.events before after exit
ServiceBy (setups.Member job files) before after exit = MemberServes job files before after exit
ServiceBy (setups.Logon job files) before after exit = LogonEnds (plan_of job files) files.seed job.boot before after exit
ServiceBy (setups.Station job files) before after exit = StationEnds (station_plan job files) files.seed job.boot before after exit

-- ---- a command, from its words on

-- What follows the files: their refusal is the exit; else what the end of the service does.
abbrev pub ServiceFollows : Result Setup FilesRefused → Sight → Sight → Exit → Type 0
ServiceFollows (Err refused) before after exit = IsLeft (files_exit refused) before after exit
ServiceFollows (Ok setup) before after exit = ServiceBy setup before after exit

-- what files tell that were read
abbrev pub files_on : Shelf → FilesTold
files_on shelf = record { contents = shelf.contents; reads = shelf.reads; writes = shelf.writes }

-- The files of the service were read in their order, and then what follows them came.
pub record ServiceReads (service : Service) (shelf shelf_after : Shelf) (before after : Sight) (exit : Exit) : Type 0 where
  pub setup : Result Setup FilesRefused
  -- the files once they were read
  pub shelf_read : Shelf
  pub reads : ReadsFiles (file_names service) (setup_due service) setup shelf shelf_read
  pub faults : shelf_read.faults ≤ shelf_after.faults
  pub is_of_service : IfOk setup (λ s. service_in s ≡ service)
  pub follows : ServiceFollows setup (record before { files = files_on shelf_read }) after exit

-- What follows the words: their refusal is the exit, and no file is read; else they ask for a service, whose files are
-- read.
abbrev pub ServiceAsked : Result Job WordsRefused → Shelf → Shelf → Sight → Sight → Exit → Type 0
ServiceAsked (Err refused) shelf shelf_after before after exit = (shelf_after ≡ shelf) × IsLeft (words_exit refused) before after exit
ServiceAsked (Ok (jobs.Service service)) shelf shelf_after before after exit = ServiceReads service shelf shelf_after before after exit
ServiceAsked (Ok (jobs.Command command)) shelf shelf_after before after exit = ⊥

-- The command ran: its words were judged, and then what follows them came.
pub record ServiceRuns (role : Role) (asked : List (List ℕ)) (shelf shelf_after : Shelf) (before after : Sight) (exit : Exit) : Type 0 where
  pub job : Result Job WordsRefused
  pub is : UpToMemory words.Memory job (job_of role asked)
  pub runs : ServiceAsked job shelf shelf_after before after exit

-- ---- where words and files are of their forms

-- The words ask for a command that uses the port and are of its form, and the files that they name are told and are of
-- theirs.
pub record IsServiceOfForm (role : Role) (asked : List (List ℕ)) (contents : Option (List (List ℕ × List ℕ))) : Type 0 where
  pub uses : uses_port role asked ≡ true
  pub service : Service
  pub job_is : job_of role asked ≡ Ok (jobs.Service service)
  pub told : List (List ℕ × List ℕ)
  pub told_is : contents ≡ Some told
  pub setup : Setup
  pub setup_is : setup_due service told ≡ Ok setup

-- how a command ends whose words and files are of their forms, where no count rises
abbrev pub IsServedBy : Setup → Exit → Type 0
IsServedBy (setups.Controller job files) exit = IsServed exit
IsServedBy (setups.Member job files) exit = IsServed exit
IsServedBy (setups.Logon job files) exit = IsAnswered exit
IsServedBy (setups.Station job files) exit = IsAnswered exit

-- ---- refused files in their own terms

-- The words ask for a command that uses the port and are of its form, what files hold is told, and it comes to that
-- refusal: of the first file that isn't there, is too long or isn't of its form.
pub record IsBadOfFiles (role : Role) (asked : List (List ℕ)) (contents : Option (List (List ℕ × List ℕ))) (refused : FilesRefused) : Type 0 where
  pub uses : uses_port role asked ≡ true
  pub service : Service
  pub job_is : job_of role asked ≡ Ok (jobs.Service service)
  pub told : List (List ℕ × List ℕ)
  pub told_is : contents ≡ Some told
  pub due : setup_due service told ≡ Err refused

-- a refusal of what a file holds
abbrev pub IsOfContents : FilesRefused → Type 0
IsOfContents (files.BadTable cause) = Unit {0}
IsOfContents (files.BadInput number) = Unit {0}
IsOfContents files.FileFault = ⊥
IsOfContents files.NoMemory = ⊥
