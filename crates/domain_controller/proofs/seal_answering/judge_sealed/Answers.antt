use Rattle.std.proofs.Common.{◌≡◌}
use Rattle.std.proofs.lemmas.Result.{IfOk-weaker}
use Rattle.account_table.specs.Changes.{with_changes}
use Rattle.domain_controller.specs.Forwarding.{trust_desk}
use Rattle.domain_controller.specs.SealServing.{at_table, judge_sealed}
use Rattle.domain_controller.proofs.SealAnswerLaws.{unsent_if}
use Rattle.domain_controller.proofs.seal_answering.judge_sealed.Goals as goal

pub returns : goal.returns
returns c =
    let old = with_changes c.args.changes.now c.args.table.now in
    let new = with_changes c.owned_unsent.new.changes c.args.table.now in
    IfOk-weaker c.after_unsent.result _ (λ done. at_table new done ≡ judge_sealed c.args.call c.args.reply.link c.args.reply.confounder c.args.line c.args.talk c.args.name.now c.args.now (trust_desk old c.args.work) c.args.sealing)
    (λ done is. unsent_if c.args.call c.args.reply c.args.line c.args.talk c.args.name.now c.args.now c.len-trusts.result c.args.own old new c.args.work c.args.sealing
    c.in_ok-work.work c.in_ok-work.unsent.0 c.in_ok-work.unsent.1 done c.requires.own c.len-trusts.ensures c.in_ok-work.ensures.value is)
    c.after_unsent.ensures
