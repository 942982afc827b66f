use Rattle.account_table.specs.Changes.{with_changes}
use Rattle.controller_calls.specs.Desk.{desk}
use Rattle.controller_calls.proofs.UnsentLaws.{sent_so}
use Rattle.controller_calls.proofs.judging.judge_call.Goals as goal

pub returns : goal.returns
returns c =
    sent_so c.args.call (record { name = c.args.name.now; now = c.args.now; line = c.args.line; trusts = c.args.trusts })
    (desk (with_changes c.args.changes.now c.args.table.now) c.args.work) (with_changes c.call_unsent.new.changes c.args.table.now)
    c.in_ok-work.work c.in_ok-work-2.work c.in_ok-work.unsent c.in_ok-work.ensures.value c.in_ok-work-2.ensures
