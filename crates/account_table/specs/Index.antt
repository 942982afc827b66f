-- The index by name that an account table keeps (this project's own choice): the accounts in order, each under its name
-- in upper case.
use Rattle.std.specs.Prelude.{ℕ, ◌^◌, ◌&&◌, Bool, false, List, map, length, nat_le, nat_lt, slice_get, Option, Vec}
use Rattle.std.specs.Bool.{then_some}
use Rattle.std.specs.List.{list_all}
use Rattle.std.specs.Option.{option_map_or, option_and_then}
use Rattle.std.specs.Str.{bytes_eq}
use Rattle.std.specs.declared.alloc.Global.{Global}
use Rattle.wire_base.specs.Names.{upper_case}
use Rattle.wire_base.specs.Sid.{SidParts, is_sid}
use Rattle.account_table.specs.AccountTable.{has_distinct_names}
use Rattle.account_table.specs.Limits.{account_limit, group_limit, extra_sid_limit, name_limit}
use Rattle.account_table.specs.LookUps.{place_in, account_in, machine_name, is_machine, is_machine_for}
use Rattle.account_table.specs.declared.account.Account.{Account}

abbrev pub Entry : Type 0
Entry = Vec ℕ Global × Account

-- an identifier whose numbers have 32 bits
abbrev pub has_longs : SidParts → Bool
has_longs sid = is_sid sid.authority (length sid.numbers) && list_all (λ n. nat_lt n (2 ^ 32)) sid.numbers

-- at most 16 of them
abbrev pub has_few_sids : List SidParts → Bool
has_few_sids sids = nat_le (length sids) extra_sid_limit && list_all has_longs sids

-- the key is the name in upper case; a name has at most 64 bytes, and an account at most 256 groups and 16 identifiers
-- beside them
abbrev pub is_entry : Entry → Bool
is_entry entry =
    bytes_eq entry.0.items (upper_case entry.1.name)
    && nat_le (length entry.1.name) name_limit
    && nat_le (length entry.1.groups) group_limit
    && has_few_sids entry.1.extra_sids

abbrev pub accounts_in : List Entry → List Account
accounts_in entries = map (λ entry. entry.1) entries

-- at most 10,000 such entries, of accounts with different names
abbrev pub is_index : List Entry → Bool
is_index entries =
    nat_le (length entries) account_limit && list_all is_entry entries && has_distinct_names (accounts_in entries)

-- ---- what the account tells that a name finds

-- the place of the account of that name, where it opens that channel for that computer
unfoldable pub machine_found : List Account → List ℕ → ℕ → List ℕ → Option ℕ
machine_found accounts name channel computer =
    option_and_then (λ place. then_some (option_map_or (is_machine_for channel computer) (slice_get accounts place) false) place) (place_in accounts name)

-- the account of that name is a computer's
unfoldable pub computer_found : List Account → List ℕ → Bool
computer_found accounts computer =
    option_map_or (λ account. is_machine account.kind) (account_in accounts (machine_name computer)) false
