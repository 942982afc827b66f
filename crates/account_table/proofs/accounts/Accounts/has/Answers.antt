use Rattle.std.proofs.Common.{is_some, ap, ◌∙◌}
use Rattle.account_table.proofs.IndexLaws.{found_place}
use Rattle.account_table.proofs.accounts.Accounts.has.Goals as goal

pub returns : goal.returns
returns c = c.is_some.ensures ∙ ap is_some (found_place c.args.name.now c.as_slice.result.now c.self.inside.index.entries _ _ c.self.view_is c.self.invariant (c.as_slice.ensures.value ∙ c.upper_name.ensures.value) c.get_index_of.ensures.index)
