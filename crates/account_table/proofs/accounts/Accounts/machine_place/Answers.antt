use Rattle.std.proofs.Common.{sym, ap, ◌∙◌}
use Rattle.wire_base.specs.Names.{upper_case}
use Rattle.account_table.specs.LookUps.{machine_name}
use Rattle.account_table.proofs.IndexLaws.{different_names, found_place, long_machine}
use Rattle.account_table.proofs.accounts.Accounts.machine_place.Goals as goal

pub returns-then-computer-ge-NAME_LIMIT-clause-value : goal.returns-then-computer-ge-NAME_LIMIT-clause-value
returns-then-computer-ge-NAME_LIMIT-clause-value c = sym (long_machine c.args.computer.now c.self.inside.index.entries _ c.self.view_is c.self.invariant c.if-computer-ge-NAME_LIMIT.true)

pub returns-in-Some-clause-value : goal.returns-in-Some-clause-value
returns-in-Some-clause-value c = sym c.in-Some.is ∙ found_place (machine_name c.args.computer.now) c.as_slice-2.result.now c.self.inside.index.entries _ _ c.self.view_is c.self.invariant (c.as_slice-2.ensures.value ∙ c.upper.ensures ∙ ap upper_case (c.as_slice.ensures.value ∙ c.machine_name-name.ensures)) c.get_index_of.ensures.index

pub returns-in-None-clause-value : goal.returns-in-None-clause-value
returns-in-None-clause-value c = sym c.in-None.is ∙ found_place (machine_name c.args.computer.now) c.as_slice-2.result.now c.self.inside.index.entries _ _ c.self.view_is c.self.invariant (c.as_slice-2.ensures.value ∙ c.upper.ensures ∙ ap upper_case (c.as_slice.ensures.value ∙ c.machine_name-name.ensures)) c.get_index_of.ensures.index

pub returns-then-computer-ge-NAME_LIMIT-clause-different : goal.returns-then-computer-ge-NAME_LIMIT-clause-different
returns-then-computer-ge-NAME_LIMIT-clause-different c = different_names c.self.inside.index.entries _ c.self.view_is c.self.invariant

pub returns-in-Some-clause-different : goal.returns-in-Some-clause-different
returns-in-Some-clause-different c = different_names c.self.inside.index.entries _ c.self.view_is c.self.invariant

pub returns-in-None-clause-different : goal.returns-in-None-clause-different
returns-in-None-clause-different c = different_names c.self.inside.index.entries _ c.self.view_is c.self.invariant
