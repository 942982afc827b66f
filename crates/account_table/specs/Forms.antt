-- The forms of values in the account table's document (this project's own choice). A form gives what a TOML value
-- stands for, and None of a value of another form.
use Rattle.std.specs.Prelude.{ℕ, ℤ, pos, negsuc, ◌&&◌, Bool, not, List, [], ◌∷◌, length, Option, Some, None, codes, nat_eq, nat_le, if◌then◌else◌}
use Rattle.std.specs.List.{ends_with}
use Rattle.std.specs.Option.{option_and_then}
use Rattle.std.specs.Result.{result_ok}
use Rattle.std.specs.Str.{bytes_eq}
use Rattle.hex.specs.Hex.{decode_sized}
use Rattle.toml.specs.Data.{Data, Items, no_items, item, Members, as_str, as_integer, as_bool, as_array, as_table}
use Rattle.wire_base.specs.Names.{name_of, same_name}
use Rattle.wire_base.specs.Sid.{SidParts, sid_of}
use Rattle.account_table.specs.Limits.{group_limit, workstation_limit, extra_sid_limit, controller_limit, address_limit, domain_sid_limit, last_lockout, last_rid, last_moment}
use Rattle.account_table.specs.declared.account.Kind.{Kind}
use Rattle.account_table.specs.declared.account.Kind.TheVariants.{Workstation, Backup, Trust}

-- the value where it passes the test
abbrev pub only_if : {T : Type 0} → (T → Bool) → Option T → Option T
only_if test None = None
only_if test (Some x) = if test x then Some x else None

-- ---- names

-- a text that is a name of 0 to 64 bytes
abbrev pub a_full_name : Data → Option (List ℕ)
a_full_name value = option_and_then (λ text. result_ok (name_of text)) (as_str value)

abbrev pub is_some_name : List ℕ → Bool
is_some_name name = nat_le 1 (length name)

-- computers' account names end in a dollar sign (MS-NRPC 3.5.4.4.3)
abbrev pub ends_in_dollar : List ℕ → Bool
ends_in_dollar name = ends_with nat_eq name (codes "$")

abbrev pub is_user_name : List ℕ → Bool
is_user_name name = nat_le 1 (length name) && not (ends_in_dollar name)

abbrev pub is_machine_name : List ℕ → Bool
is_machine_name name = nat_le 2 (length name) && ends_in_dollar name

-- 1 to 64 bytes
abbrev pub a_name : Data → Option (List ℕ)
a_name value = only_if is_some_name (a_full_name value)

-- 1 to 64 bytes, the last another than $
abbrev pub a_user_name : Data → Option (List ℕ)
a_user_name value = only_if is_user_name (a_full_name value)

-- 2 to 64 bytes, the last $
abbrev pub a_machine_name : Data → Option (List ℕ)
a_machine_name value = only_if is_machine_name (a_full_name value)

-- 1 to 64 bytes, and not the domain's own name
abbrev pub a_trusted_domain : List ℕ → Data → Option (List ℕ)
a_trusted_domain own value = only_if (λ name. not (same_name own name)) (a_name value)

-- ---- numbers

abbrev pub in_range : ℕ → ℕ → ℤ → Option ℕ
in_range least most (negsuc n) = None
in_range least most (pos n) = if nat_le least n && nat_le n most then Some n else None

abbrev pub an_integer : ℕ → ℕ → Data → Option ℕ
an_integer least most value = option_and_then (in_range least most) (as_integer value)

-- a relative identifier: 1 to 4,294,967,295
abbrev pub a_rid : Data → Option ℕ
a_rid value = an_integer 1 last_rid value

-- a count of bad passwords: 0 to 1,000
abbrev pub a_lockout : Data → Option ℕ
a_lockout value = an_integer 0 last_lockout value

-- a moment: 0 to 2^63 - 1, in units of 100 ns since 1601
abbrev pub a_moment : Data → Option ℕ
a_moment value = an_integer 0 last_moment value

-- ---- words, bytes and identifiers

abbrev pub a_truth : Data → Option Bool
a_truth value = as_bool value

-- 32 hex digits, in either case
abbrev pub a_hash : Data → Option (List ℕ)
a_hash value = option_and_then (λ text. result_ok (decode_sized text 16)) (as_str value)

-- a security identifier
abbrev pub a_sid : Data → Option SidParts
a_sid value = option_and_then (λ text. result_ok (sid_of text)) (as_str value)

-- a domain's identifier: at most 14 numbers, since an account's identifier has one more, and at most 15
abbrev pub is_domain_sid : SidParts → Bool
is_domain_sid sid = nat_le (length sid.numbers) domain_sid_limit

abbrev pub a_domain_sid : Data → Option SidParts
a_domain_sid value = only_if is_domain_sid (a_sid value)

abbrev pub kind_of : List ℕ → Option Kind
kind_of text =
    if bytes_eq text (codes "workstation") then Some Workstation
    else if bytes_eq text (codes "backup") then Some Backup
    else if bytes_eq text (codes "trust") then Some Trust
    else None

abbrev pub a_kind : Data → Option Kind
a_kind value = option_and_then kind_of (as_str value)

-- 1 to 255 bytes
abbrev pub is_address : List ℕ → Bool
is_address text = nat_le 1 (length text) && nat_le (length text) address_limit

abbrev pub an_address : Data → Option (List ℕ)
an_address value = only_if is_address (as_str value)

-- ---- lists

abbrev pub with_front : {T : Type 0} → Option T → Option (List T) → Option (List T)
with_front None rest = None
with_front (Some x) None = None
with_front (Some x) (Some xs) = Some (x ∷ xs)

-- each item is of the form
abbrev pub each : {T : Type 0} → (Data → Option T) → Items → Option (List T)
each form no_items = Some []
each form (item value rest) = with_front (form value) (each form rest)

-- a list of such items
abbrev pub a_list : {T : Type 0} → (Data → Option T) → Data → Option (List T)
a_list form value = option_and_then (each form) (as_array value)

abbrev pub at_most : {T : Type 0} → ℕ → List T → Bool
at_most limit items = nat_le (length items) limit

-- at most 256 relative identifiers
abbrev pub rids : Data → Option (List ℕ)
rids value = only_if (at_most group_limit) (a_list a_rid value)

-- at most 8 names of 1 to 64 bytes
abbrev pub computers : Data → Option (List (List ℕ))
computers value = only_if (at_most workstation_limit) (a_list a_name value)

-- 1 to 8 names of 1 to 64 bytes
abbrev pub some_but_few : {T : Type 0} → ℕ → List T → Bool
some_but_few limit items = nat_le 1 (length items) && nat_le (length items) limit

abbrev pub controllers : Data → Option (List (List ℕ))
controllers value = only_if (some_but_few controller_limit) (a_list a_name value)

-- at most 16 security identifiers
abbrev pub sids : Data → Option (List SidParts)
sids value = only_if (at_most extra_sid_limit) (a_list a_sid value)

-- a list of tables
abbrev pub tables : Data → Option (List Members)
tables value = a_list as_table value
