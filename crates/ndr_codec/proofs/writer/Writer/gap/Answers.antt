-- What is put is of its layout, by the law of this item.
use Rattle.std.proofs.Common.{rules}
use Rattle.ndr_codec.specs.Layout.{gap}
use Rattle.ndr_codec.proofs.Appending.{appends_where}
use Rattle.ndr_codec.proofs.writer.Writer.gap.Goals as goal

pub returns-clause-exact : goal.returns-clause-exact
returns-clause-exact c = search rules

pub returns-clause-layout : goal.returns-clause-layout
returns-clause-layout c = appends_where c.append.result gap tt c.args.self.now _ (search rules) (returns-clause-exact c)
