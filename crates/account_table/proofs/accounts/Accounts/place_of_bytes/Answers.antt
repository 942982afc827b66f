use Rattle.std.proofs.Common.{sym, ◌∙◌}
use Rattle.account_table.proofs.IndexLaws.{found_place, long_place}
use Rattle.account_table.proofs.accounts.Accounts.place_of_bytes.Goals as goal

pub returns-then-name-gt-NAME_LIMIT-clause-value : goal.returns-then-name-gt-NAME_LIMIT-clause-value
returns-then-name-gt-NAME_LIMIT-clause-value c = sym (long_place c.args.name.now c.self.inside.index.entries _ c.self.view_is c.self.invariant c.if-name-gt-NAME_LIMIT.true)

pub returns-in-Some-clause-value : goal.returns-in-Some-clause-value
returns-in-Some-clause-value c = sym c.in-Some.is ∙ found_place c.args.name.now c.as_slice.result.now c.self.inside.index.entries _ _ c.self.view_is c.self.invariant (c.as_slice.ensures.value ∙ c.upper_bytes.ensures) c.get_index_of.ensures.index

pub returns-in-None-clause-value : goal.returns-in-None-clause-value
returns-in-None-clause-value c = sym c.in-None.is ∙ found_place c.args.name.now c.as_slice.result.now c.self.inside.index.entries _ _ c.self.view_is c.self.invariant (c.as_slice.ensures.value ∙ c.upper_bytes.ensures) c.get_index_of.ensures.index
