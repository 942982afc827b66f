use Rattle.nt_top.proofs.LogonLaws.{logon_laws}
use Rattle.nt_top.proofs.laws.what_is_told_decides_the_exit.Goals as goal

pub returns : goal.returns
returns c = logon_laws
