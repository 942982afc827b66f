-- A table of a schedule (`HasForms`) has the ranges of domain_controller.
-- Of `schedules_are_heard` of domain_world: what its controllers send is whole.
use Rattle.std.proofs.Common.{ℕ, ◌<◌, ◌^◌, List, [], ◌∷◌, All}
use Rattle.std.specs.List.{AllByRecursion}
use Rattle.std.proofs.lemmas.List.Elements.{All-head, All-tail, recursion_from_All}
use Rattle.wire_base.specs.Sid.{SidParts}
use Rattle.account_table.specs.AccountTable.{AccountTable}
use Rattle.account_table.specs.Ranges.{InRangeAccount, InRangeSid}
use Rattle.account_table.specs.declared.account.Account.{Account}
use Rattle.domain_controller.specs.Whole.{InRangeTable}
use Rattle.world_moves.specs.Forms.{IsAccount, IsIdentifier, IsTable}

-- each of a list is in its range, where each has its form
pub each_in_range : {T : Type 0} (Form Range : T → Type 0) → ((item : T) → Form item → Range item) → (list : List T) → All Form list → AllByRecursion Range list
each_in_range Form Range one [] all = tt
each_in_range Form Range one (item ∷ list) all = (one item (All-head Form item list all), each_in_range Form Range one list (All-tail Form item list all))

sid_in_range : (sid : SidParts) → IsIdentifier sid → InRangeSid sid
sid_in_range sid is = (is.0, recursion_from_All (λ (number : ℕ). number < 2 ^ 32) sid.numbers is.1)

account_in_range : (account : Account) → IsAccount account → InRangeAccount account
account_in_range account is = record {
  name = is.name;
  rid = is.rid;
  full_name = is.full_name;
  group = is.group;
  groups = recursion_from_All (λ (group : ℕ). group < 2 ^ 32) account.groups is.groups;
  few_groups = is.few_groups;
  extra_sids = each_in_range IsIdentifier InRangeSid sid_in_range account.extra_sids is.extra_sids;
  few_extra_sids = is.few_extra_sids;
  bad_count = is.bad_count;
  expires = is.expires;
  password_set = is.password_set;
  password_expires = is.password_expires;
}

pub table_in_range : (table : AccountTable) → IsTable table → InRangeTable table
table_in_range table is = record {
  domain = is.domain;
  sid = (is.sid, recursion_from_All (λ (number : ℕ). number < 2 ^ 32) table.sid.numbers is.numbers);
  accounts = each_in_range IsAccount InRangeAccount account_in_range table.accounts is.accounts;
}
