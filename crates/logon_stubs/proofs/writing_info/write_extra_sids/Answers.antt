use Rattle.std.proofs.Common.{arith}
use Rattle.std.proofs.lemmas.Grind.{common_steps}
use Rattle.logon_stubs.proofs.ListLaws.{put_extra_sids_step, sids_more}
use Rattle.logon_stubs.proofs.writing_info.write_extra_sids.Goals as goal

pub loop-identifier-preserved : goal.loop-identifier-preserved
loop-identifier-preserved c =
    let list = c.args.list.now in
    let i = c.loop-identifier.identifier-index in
    let item = c.loop-identifier-item.result in
    record {
      exact = grind (arith, common_steps, put_extra_sids_step list i item c.loop-identifier.writer (omega arith) c.loop-identifier-item.is);
      range = sids_more list i item c.loop-identifier-item.is c.loop-identifier.invariant.range (c.in_ok-sid.ensures.layout.item.form, c.in_ok-sid.ensures.layout.item.each);
    }
