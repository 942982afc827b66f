-- The jobs of the commands with options (this project's own choice): what their words ask for, or the number of the
-- option whose value isn't of its kind; 0 where the words aren't those of the command. Texts are lists of bytes,
-- numbers have 32 bits.
use Rattle.std.specs.Prelude.{ℕ, Bool, true, false, List, [], ◌∷◌, Option, Some, None, Result, Ok, Err, codes, if◌then◌else◌}
use Rattle.std.specs.Str.{bytes_eq}
use Rattle.clap.specs.Words.{Row, Text, first_of, matches_of, fault_of}
use Rattle.logon_client.specs.declared.plan.AuthKind.{AuthKind}
use Rattle.logon_client.specs.declared.plan.AuthKind.TheVariants.{V1, V1Ess, V2}
use Rattle.nt_words.specs.Options.{Choice, choice, first_misfit, number_of}
use Rattle.nt_words.specs.Words.{app_with}
use Rattle.nt_words.specs.declared.options.Kind.TheVariants.{Address, Name, File, Number, Level, Auth, Switch}
use Rattle.nt_words.specs.declared.options.WordsRefused.{WordsRefused}
use Rattle.nt_words.specs.declared.options.WordsRefused.TheVariants.{BadWords}

-- ---- what every command with options has in common

-- a command: its name and its options in order
pub record Form : Type 0 where
  pub name : Text
  pub choices : List Choice

abbrev pub form : Text → List Choice → Form
form name choices = record { name = name; choices = choices }

abbrev pub misfit_rows : Option ℕ → List Row → Result (List Row) WordsRefused
misfit_rows None rows = Ok rows
misfit_rows (Some number) rows = Err (BadWords number)

-- the rows where each value is right
abbrev pub rows_of_values : List Choice → List Row → Result (List Row) WordsRefused
rows_of_values choices rows = misfit_rows (first_misfit 1 choices rows) rows

-- the rows of `clap`, where it has no fault to tell
abbrev pub fault_rows : {F : Type 0} → List F → List Choice → List Row → Result (List Row) WordsRefused
fault_rows [] choices rows = rows_of_values choices rows
fault_rows (fault ∷ faults) choices rows = Err (BadWords 0)

abbrev pub named_rows : Bool → Form → List Text → Result (List Row) WordsRefused
named_rows true form words = let app = app_with form.name form.choices in fault_rows (fault_of app words) form.choices (matches_of app words)
named_rows false form words = Err (BadWords 0)

-- the first word is the command
abbrev pub is_led_by : Text → List Text → Bool
is_led_by name [] = false
is_led_by name (word ∷ words) = bytes_eq word name

-- The values of the options: the command word is judged first, then the words by `clap`, then each value in the order
-- of the options.
abbrev pub rows_by : Form → List Text → Result (List Row) WordsRefused
rows_by form words = named_rows (is_led_by form.name words) form words

-- the job that is made of the rows, or their refusal
abbrev pub job_by : {X : Type 0} → (List Row → X) → Result (List Row) WordsRefused → Result X WordsRefused
job_by of (Err refused) = Err refused
job_by of (Ok rows) = Ok (of rows)

abbrev pub or_else : {X : Type 0} → Option X → X → X
or_else None other = other
or_else (Some x) other = x

-- the text that an option has, which must be given
abbrev pub text_at : List Row → Text → Text
text_at rows name = or_else (first_of name rows) []

-- the number that an option has, or this one where it isn't given
abbrev pub number_in : Option Text → ℕ → ℕ
number_in None absent = absent
number_in (Some text) absent = or_else (number_of text) 0

abbrev pub number_at : List Row → Text → ℕ → ℕ
number_at rows name absent = number_in (first_of name rows) absent

-- ---- `nt_controller serve`

abbrev pub controller_form : Form
controller_form = record {
  name = codes "serve";
  choices =
      choice (codes "listen") Address true ∷
      choice (codes "name") Name true ∷
      choice (codes "table") File true ∷
      choice (codes "seed") File true ∷
      choice (codes "boot") (Number 4294967295) true ∷
      choice (codes "events") (Number 4294967295) false ∷
      choice (codes "secrets") File false ∷ [];
}

pub record ControllerJob : Type 0 where
  pub listen : Text
  pub name : Text
  pub table : Text
  pub seed : Text
  pub boot : ℕ
  pub events : ℕ
  -- the file of changed secrets, where one is named
  pub secrets : Option Text

-- the job of these rows
abbrev pub controller_of : List Row → ControllerJob
controller_of rows = record {
  listen = text_at rows (codes "listen");
  name = text_at rows (codes "name");
  table = text_at rows (codes "table");
  seed = text_at rows (codes "seed");
  boot = number_at rows (codes "boot") 0;
  events = number_at rows (codes "events") 4294967295;
  secrets = first_of (codes "secrets") rows;
}

unfoldable pub controller_job : List Text → Result ControllerJob WordsRefused
controller_job words = job_by controller_of (rows_by controller_form words)

-- ---- `nt_member serve`

abbrev pub member_form : Form
member_form = record {
  name = codes "serve";
  choices =
      choice (codes "listen") Address true ∷
      choice (codes "computer") Name true ∷
      choice (codes "domain") Name true ∷
      choice (codes "secret") File true ∷
      choice (codes "controller") Address true ∷
      choice (codes "seed") File true ∷
      choice (codes "boot") (Number 4294967295) true ∷
      choice (codes "events") (Number 4294967295) false ∷
      choice (codes "change") File false ∷
      choice (codes "seal") Switch false ∷ [];
}

-- whether a word switches something on; it doesn't where there is none
abbrev pub is_on : Option Text → Bool
is_on None = false
is_on (Some word) = bytes_eq word (codes "on")

pub record MemberJob : Type 0 where
  pub listen : Text
  pub computer : Text
  pub domain : Text
  pub secret : Text
  pub controller : Text
  pub seed : Text
  pub boot : ℕ
  pub events : ℕ
  -- the file of the secret that the machine is to change to, where one is named
  pub change : Option Text
  -- whether the machine's channel is sealed
  pub seal : Bool

-- the job of these rows
abbrev pub member_of : List Row → MemberJob
member_of rows = record {
  listen = text_at rows (codes "listen");
  computer = text_at rows (codes "computer");
  domain = text_at rows (codes "domain");
  secret = text_at rows (codes "secret");
  controller = text_at rows (codes "controller");
  seed = text_at rows (codes "seed");
  boot = number_at rows (codes "boot") 0;
  events = number_at rows (codes "events") 4294967295;
  change = first_of (codes "change") rows;
  seal = is_on (first_of (codes "seal") rows);
}

unfoldable pub member_job : List Text → Result MemberJob WordsRefused
member_job words = job_by member_of (rows_by member_form words)

-- ---- `nt_logon logon`

abbrev pub logon_form : Form
logon_form = record {
  name = codes "logon";
  choices =
      choice (codes "server") Address true ∷
      choice (codes "domain") Name true ∷
      choice (codes "user") Name true ∷
      choice (codes "workstation") Name true ∷
      choice (codes "hash") File true ∷
      choice (codes "level") Level false ∷
      choice (codes "auth") Auth false ∷
      choice (codes "echo") (Number 4096) false ∷
      choice (codes "seed") File true ∷
      choice (codes "boot") (Number 4294967295) true ∷ [];
}

-- the level of authentication that a word names; privacy where there is none
abbrev pub level_in : Option Text → ℕ
level_in None = 6
level_in (Some word) = if bytes_eq word (codes "connect") then 2 else if bytes_eq word (codes "integrity") then 5 else 6

-- the response that a word names; that of version 2 where there is none
abbrev pub auth_in : Option Text → AuthKind
auth_in None = V2
auth_in (Some word) = if bytes_eq word (codes "v1") then V1 else if bytes_eq word (codes "v1ess") then V1Ess else V2

pub record LogonJob : Type 0 where
  pub server : Text
  pub domain : Text
  pub user : Text
  pub workstation : Text
  pub hash : Text
  pub level : ℕ
  pub auth : AuthKind
  pub echo : ℕ
  pub seed : Text
  pub boot : ℕ

-- the job of these rows
abbrev pub logon_of : List Row → LogonJob
logon_of rows = record {
  server = text_at rows (codes "server");
  domain = text_at rows (codes "domain");
  user = text_at rows (codes "user");
  workstation = text_at rows (codes "workstation");
  hash = text_at rows (codes "hash");
  level = level_in (first_of (codes "level") rows);
  auth = auth_in (first_of (codes "auth") rows);
  echo = number_at rows (codes "echo") 0;
  seed = text_at rows (codes "seed");
  boot = number_at rows (codes "boot") 0;
}

unfoldable pub logon_job : List Text → Result LogonJob WordsRefused
logon_job words = job_by logon_of (rows_by logon_form words)

-- ---- `nt_logon station`

abbrev pub station_form : Form
station_form = record {
  name = codes "station";
  choices =
      choice (codes "controller") Address true ∷
      choice (codes "computer") Name true ∷
      choice (codes "secret") File true ∷
      choice (codes "domain") Name true ∷
      choice (codes "user") Name true ∷
      choice (codes "hash") File true ∷
      choice (codes "seed") File true ∷
      choice (codes "boot") (Number 4294967295) true ∷ [];
}

pub record StationJob : Type 0 where
  pub controller : Text
  pub computer : Text
  pub secret : Text
  pub domain : Text
  pub user : Text
  pub hash : Text
  pub seed : Text
  pub boot : ℕ

-- the job of these rows
abbrev pub station_of : List Row → StationJob
station_of rows = record {
  controller = text_at rows (codes "controller");
  computer = text_at rows (codes "computer");
  secret = text_at rows (codes "secret");
  domain = text_at rows (codes "domain");
  user = text_at rows (codes "user");
  hash = text_at rows (codes "hash");
  seed = text_at rows (codes "seed");
  boot = number_at rows (codes "boot") 0;
}

unfoldable pub station_job : List Text → Result StationJob WordsRefused
station_job words = job_by station_of (rows_by station_form words)

-- ---- `nt_logon drill`

abbrev pub drill_form : Form
drill_form = record {
  name = codes "drill";
  choices =
      choice (codes "number") (Number 4294967295) true ∷
      choice (codes "moves") (Number 100000) true ∷ [];
}

-- a drill: as many moves, which the number makes
pub record DrillJob : Type 0 where
  pub number : ℕ
  pub moves : ℕ

-- the job of these rows
abbrev pub drill_of : List Row → DrillJob
drill_of rows = record { number = number_at rows (codes "number") 0; moves = number_at rows (codes "moves") 0 }

unfoldable pub drill_job : List Text → Result DrillJob WordsRefused
drill_job words = job_by drill_of (rows_by drill_form words)

-- ---- commands without options

pub record CheckJob : Type 0 where
  pub hash : Text
  pub challenge : Text
  pub message : Text

pub record ShowJob : Type 0 where
  pub message : Text
