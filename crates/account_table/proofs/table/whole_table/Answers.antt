use Rattle.std.proofs.Common.{arith}
use Rattle.std.proofs.lemmas.Bool.{le-leb}
use Rattle.account_table.specs.TableForms.{table_by}
use Rattle.account_table.proofs.TableFormLaws.{kept_table}
use Rattle.account_table.proofs.table.whole_table.Goals as goal

pub invariant_of-result : goal.invariant_of-result
invariant_of-result c =
    let kept = kept_table _ (table_by c.args.domain c.args.sid c.args.policy c.args.listed c.args.trusts) c.requires in
    (le-leb _ _ (omega (arith, kept.few)), kept)
