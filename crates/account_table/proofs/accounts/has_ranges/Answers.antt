use Rattle.account_table.proofs.IndexLaws.{sids_in_range}
use Rattle.account_table.proofs.accounts.has_ranges.Goals as goal

pub returns : goal.returns
returns c = record {
  name = c.bytes-name.ensures.form;
  rid = c.is_long.ensures;
  full_name = c.bytes-full_name.ensures.form;
  group = c.is_long-2.ensures;
  groups = rw (← c.items.ensures) c.are_longs.ensures;
  few_groups = c.requires.groups;
  extra_sids = (sids_in_range _ c.requires.sids).1;
  few_extra_sids = (sids_in_range _ c.requires.sids).0;
  bad_count = c.is_short.ensures;
  expires = c.is_hyper.ensures;
  password_set = c.is_hyper-2.ensures;
  password_expires = c.is_hyper-3.ensures;
}
