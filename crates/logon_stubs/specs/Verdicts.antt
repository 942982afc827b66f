-- What is said of what a verdict grants.
use Rattle.logon_stubs.specs.declared.info.SamInfo.{SamInfo}
use Rattle.logon_stubs.specs.declared.info.Verdict.{Verdict}
use Rattle.logon_stubs.specs.declared.info.Verdict.TheVariants.{Granted, Status}

-- the fact holds of what is granted
abbrev pub IfGranted : Verdict → (SamInfo → Type 0) → Type 0
IfGranted (Granted info) Fact = Fact info
IfGranted (Status status) Fact = Unit {0}
