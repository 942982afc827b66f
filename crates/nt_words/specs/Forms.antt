-- What the values of a command's options are, where each is of its kind (this project's own choice). Texts are lists of
-- bytes.
use Rattle.std.specs.Prelude.{◌≡◌, ◌≤◌, length, IsTrue}
use Rattle.clap.specs.Words.{Text}
use Rattle.wire_base.specs.Names.{IsName}
use Rattle.unit_security.specs.Levels.{is_level}
use Rattle.logon_client.specs.declared.plan.AuthKind.TheVariants.{V1}
use Rattle.nt_words.specs.Jobs.{ControllerJob, MemberJob, LogonJob, StationJob, DrillJob}

-- an address: 1 to 255 bytes
abbrev pub IsAddress : Text → Type 0
IsAddress text = (1 ≤ length text) × (length text ≤ 255)

pub record IsControllerForm (job : ControllerJob) : Type 0 where
  pub listen : IsAddress job.listen
  pub name : IsName job.name

pub record IsMemberForm (job : MemberJob) : Type 0 where
  pub listen : IsAddress job.listen
  pub computer : IsName job.computer
  pub domain : IsName job.domain
  pub controller : IsAddress job.controller

pub record IsLogonForm (job : LogonJob) : Type 0 where
  pub server : IsAddress job.server
  pub domain : IsName job.domain
  pub user : IsName job.user
  pub workstation : IsName job.workstation
  pub level : IsTrue (is_level job.level)
  -- without extended session security nothing is signed
  pub plain : job.auth ≡ V1 → job.level ≡ 2
  pub echo : job.echo ≤ 4096

pub record IsStationForm (job : StationJob) : Type 0 where
  pub controller : IsAddress job.controller
  pub computer : IsName job.computer
  pub domain : IsName job.domain
  pub user : IsName job.user

pub record IsDrillForm (job : DrillJob) : Type 0 where
  pub moves : job.moves ≤ 100000
