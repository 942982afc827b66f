use Rattle.account_table.proofs.IndexLaws.{different_names}
use Rattle.account_table.proofs.accounts.Accounts.names_differ.Goals as goal

pub returns : goal.returns
returns c = different_names c.self.inside.index.entries _ c.self.view_is c.self.invariant
