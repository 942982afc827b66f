use Rattle.nt_top.proofs.ServeLaws.{service_serves}
use Rattle.nt_top.proofs.serve.serve_end.Goals as goal

pub returns-clause-serves : goal.returns-clause-serves
returns-clause-serves g c = service_serves _ _ _ _ _ _ _ _ _ _ _ c.serve_at-served.result _ c.exit_of_service.ensures.exit c.serve_at-served.ensures.ends c.serve_at-served.ensures.halts
