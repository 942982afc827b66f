use Rattle.nt_top.proofs.ChangeLaws.{begins_one}
use Rattle.nt_top.proofs.laws.a_member_begins_one_change.Goals as goal

pub returns : goal.returns
returns c = begins_one
