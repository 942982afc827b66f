use Rattle.account_table.proofs.TableLaws.{answer_found, answer_only}
use Rattle.account_table.proofs.table.Table.read.Goals as goal

pub returns-clause-found : goal.returns-clause-found
returns-clause-found c = answer_found c.args.text.now c.read_text.result c.read_text.ensures.exact

pub returns-clause-only : goal.returns-clause-only
returns-clause-only c = answer_only c.args.text.now c.read_text.result c.read_text.ensures.exact
