use Rattle.std.proofs.Common.{◌≡◌, Some, slice_get}
use Rattle.account_table.proofs.IndexLaws.{groups_found, sids_found, none_past, some_at}
use Rattle.account_table.proofs.accounts.Accounts.get.Goals as goal

pub has_ranges-requires : goal.has_ranges-requires
has_ranges-requires c =
    let found : Some (c.in-Some.field-0-0.now, c.in-Some.account.now) ≡ slice_get c.self.inside.index.entries c.args.place = rw c.in-Some.is at c.get_index.ensures.entry in
    record {
      groups = groups_found c.self.inside.index.entries c.args.place (c.in-Some.field-0-0.now, c.in-Some.account.now) c.self.invariant found;
      sids = sids_found c.self.inside.index.entries c.args.place (c.in-Some.field-0-0.now, c.in-Some.account.now) c.self.invariant found;
    }

pub returns-in-Some-clause-value : goal.returns-in-Some-clause-value
returns-in-Some-clause-value c =
    some_at c.self.inside.index.entries _ c.args.place (c.in-Some.field-0-0.now, c.in-Some.account.now) c.self.view_is (rw c.in-Some.is at c.get_index.ensures.entry)

pub returns-in-None-clause-value : goal.returns-in-None-clause-value
returns-in-None-clause-value c = none_past c.self.inside.index.entries _ c.args.place c.self.view_is (rw c.in-None.is at c.get_index.ensures.entry)
