-- The ranges of what an account table holds: names, numbers of their width, and at most so many groups and identifiers.
use Rattle.std.specs.Prelude.{ℕ, ◌<◌, ◌≤◌, ◌^◌, List, length}
use Rattle.std.specs.List.{AllByRecursion}
use Rattle.wire_base.specs.Names.{IsName}
use Rattle.wire_base.specs.Sid.{SidParts, IsSid}
use Rattle.account_table.specs.declared.account.Account.{Account}
use Rattle.account_table.specs.Limits.{group_limit, extra_sid_limit}

-- numbers of 32 bits
abbrev pub AreLongs : List ℕ → Type 0
AreLongs numbers = AllByRecursion (λ n. n < 2 ^ 32) numbers

abbrev pub InRangeSid : SidParts → Type 0
InRangeSid sid = IsSid sid × AreLongs sid.numbers

pub record InRangeAccount (account : Account) : Type 0 where
  pub name : IsName account.name
  pub rid : account.rid < 2 ^ 32
  pub full_name : IsName account.full_name
  pub group : account.group < 2 ^ 32
  pub groups : AreLongs account.groups
  pub few_groups : length account.groups ≤ group_limit
  pub extra_sids : AllByRecursion InRangeSid account.extra_sids
  pub few_extra_sids : length account.extra_sids ≤ extra_sid_limit
  pub bad_count : account.bad_count < 2 ^ 16
  pub expires : account.expires < 2 ^ 64
  pub password_set : account.password_set < 2 ^ 64
  pub password_expires : account.password_expires < 2 ^ 64
