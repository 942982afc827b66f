use Rattle.std.proofs.Common.{arith}
use Rattle.std.proofs.lemmas.Grind.{common_steps}
use Rattle.logon_stubs.proofs.ListLaws.{put_extra_entries_step, attributes_more}
use Rattle.logon_stubs.proofs.writing_info.write_extra_entries.Goals as goal

pub loop-attributes-preserved : goal.loop-attributes-preserved
loop-attributes-preserved c =
    let list = c.args.list.now in
    let i = c.loop-attributes.attributes-index in
    let item = c.loop-attributes-item.result in
    record {
      exact = grind (arith, common_steps, put_extra_entries_step list i item c.loop-attributes.writer (omega arith) c.loop-attributes-item.is);
      range = attributes_more list i item c.loop-attributes-item.is c.loop-attributes.invariant.range c.in_ok-long.ensures.layout.item.fits;
    }
