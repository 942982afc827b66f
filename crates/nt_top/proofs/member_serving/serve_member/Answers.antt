use Rattle.std.proofs.Common.{rules, inr}
use Rattle.nt_top.proofs.ServeLaws.{same_service}
use Rattle.nt_top.proofs.member_serving.serve_member.Goals as goal

pub returns-clause-serves : goal.returns-clause-serves
returns-clause-serves g c = inr (same_service _ _ _ _ _ _ _ _ _ _ _ _ _ _ _ _ _ _ (search rules) (search rules) (search rules) (search rules) (search rules) (search rules) (search rules) c.serve_end.ensures.serves)
