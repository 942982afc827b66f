use Rattle.std.proofs.Common.{sym, ◌∙◌}
use Rattle.account_table.specs.Changes.{with_changes}
use Rattle.controller_calls.specs.Desk.{desk}
use Rattle.controller_calls.specs.Handing.{trust_asked}
use Rattle.controller_calls.proofs.UnsentLaws.{passes_so}
use Rattle.controller_calls.proofs.unsent.pass_or_hand.Goals as goal

pub returns-in_ok-work-in-None-clause-value : goal.returns-in_ok-work-in-None-clause-value
returns-in_ok-work-in-None-clause-value c =
    let before = with_changes c.args.changes.now c.args.table.now in
    passes_so (trust_asked c.args.asked c.args.kind before c.args.trusts) c.args.asked
    (record { name = c.args.name.now; now = c.args.now; line = c.args.line; trusts = c.args.trusts }) c.args.computer.now c.args.key c.args.credential (desk before c.args.work)
    _ (sym c.trust_asked.ensures.value ∙ c.in-None.is) c.in_ok-work-in-None.ensures.value
