use Rattle.std.proofs.Common.{◌≡◌, Some, sym, ap, ◌∙◌}
use Rattle.member_server.specs.State.{State}
use Rattle.member_server.proofs.ChangeLaws.{kept_some}
use Rattle.member_server.proofs.member.Member.change.Goals as goal

pub returns-clause-busy : goal.returns-clause-busy
returns-clause-busy c =
    let runs : c.args.self.now.running ≡ Some c.in-Some.running = sym (ap State.running c.self.view_is) ∙ sym c.take.ensures.value ∙ c.in-Some.is in
    λ next. kept_some c.in-Some.running c.args.self.now next c.change_running-running.result.1 runs (c.change_running-running.ensures.busy next)
