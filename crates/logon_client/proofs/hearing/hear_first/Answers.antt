use Rattle.logon_client.specs.declared.state.Phase.TheVariants.{Bound}
use Rattle.logon_client.specs.Machine.{talk_on}
use Rattle.logon_client.proofs.HearingLaws.{unit_out, unit_in}
use Rattle.logon_client.proofs.hearing.hear_first.Goals as goal

pub returns-then-unit-ne1 : goal.returns-then-unit-ne1
returns-then-unit-ne1 c =
    rw (unit_out c.args.bytes.now (talk_on c.args.link c.args.joiner Bound) c.args.work c.in-Ok.unit c.in-Ok.ensures.exact c.if-unit-ne1.true)
    c.blame-then-unit-ne1.ensures

pub returns : goal.returns
returns c =
    rw (unit_in c.args.bytes.now (talk_on c.args.link c.args.joiner Bound) c.args.work c.in-Ok.unit c.in-Ok.ensures.exact c.if-unit-ne1.false)
    c.hear_bound.ensures
