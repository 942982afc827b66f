-- The text of the secrets that were set in an account table (this project's own choice): a line for each account whose
-- hash was set, its name, a space, the hash in 32 hex digits, and a newline.
use Rattle.std.specs.Prelude.{ℕ, ◌≡◌, ◌-◌, ◌==◌, ◌&&◌, Bool, true, false, not, List, [], ◌∷◌, ◌++◌, length, take, drop, nat_le, slice_get, slice_index, Option, Some, None, Result, Ok, Err, if◌then◌else◌}
use Rattle.std.specs.Bool.{then_some}
use Rattle.std.specs.List.{filter, flat_map, list_any, slice_split}
use Rattle.std.specs.Option.{IsSomeAnd, option_and_then, option_map_or}
use Rattle.std.specs.Result.{result_ok}
use Rattle.hex.specs.Hex.{encode_lower, decode_sized}
use Rattle.wire_base.specs.Names.{IsName}
use Rattle.wire_base.specs.Numbers.{AreBytes}
use Rattle.account_table.specs.AccountTable.{AccountTable}
use Rattle.account_table.specs.Changes.{at_place, is_user, with_new_hash}
use Rattle.account_table.specs.LookUps.{place_in}
use Rattle.account_table.specs.declared.account.Account.{Account}
use Rattle.account_table.specs.declared.refused.ApplyRefused.{ApplyRefused}
use Rattle.account_table.specs.declared.refused.ApplyRefused.TheVariants.{NotSecrets}

-- ---- the text of a table

-- a secret's line: the account's name, a space, the hash in 32 hex digits, and a newline
unfoldable pub line_of : List ℕ → List ℕ → List ℕ
line_of name hash = name ++ (32 ∷ (encode_lower hash ++ 10 ∷ []))

abbrev pub line_if : (has_line : Bool) → List ℕ → List ℕ → List ℕ
line_if false name hash = []
line_if true name hash = line_of name hash

abbrev pub secret_line : Account → List ℕ
secret_line account = line_of account.name account.hash

-- the lines of the changed accounts, in order
abbrev pub secrets_of : List Account → List ℕ
secrets_of accounts = flat_map secret_line (filter (λ account. account.changed) accounts)

-- ---- what a text sets: hex digits in either case, and the last newline may be missing

-- the place of an account, and its hash
abbrev pub Setting : Type 0
Setting = ℕ × List ℕ

-- the place of the computer's or trust's account of that name
unfoldable pub computer_in : List Account → List ℕ → Option ℕ
computer_in accounts name =
    option_and_then (λ place. then_some (option_map_or (λ account. not (is_user account.kind)) (slice_get accounts place) false) place) (place_in accounts name)

-- a line has a space before its last 32 bytes
abbrev pub is_line : List ℕ → Bool
is_line line = nat_le 33 (length line) && slice_index line (length line - 33) == 32

abbrev pub setting_by : Option ℕ → Option (List ℕ) → Option Setting
setting_by None hash = None
setting_by (Some place) None = None
setting_by (Some place) (Some hash) = Some (place, hash)

-- what a line sets
unfoldable pub setting_of : List Account → List ℕ → Option Setting
setting_of accounts line =
    if is_line line then
    setting_by (computer_in accounts (take (length line - 33) line)) (result_ok (decode_sized (drop (length line - 32) line) 16))
    else None

-- the place stood before
abbrev pub is_set : ℕ → List Setting → Bool
is_set place done = list_any (λ setting. setting.0 == place) done

abbrev pub unless_set : List Setting → Option Setting → (Setting → Option (List Setting)) → Option (List Setting)
unless_set done None next = None
unless_set done (Some setting) next = if is_set setting.0 done then None else next setting

abbrev pub is_newline : ℕ → Bool
is_newline byte = byte == 10

-- the lines of a rest: what stands round each newline; none where there is no rest
abbrev pub lines_of : Option (List ℕ) → List (List ℕ)
lines_of None = []
lines_of (Some text) = slice_split is_newline text

-- behind the last newline nothing stands
abbrev pub is_end : List ℕ → List (List ℕ) → Bool
is_end line lines = (length line == 0) && (length lines == 0)

-- what the lines set, behind what was set before
abbrev pub settings_after : List Account → List Setting → List (List ℕ) → Option (List Setting)
settings_after accounts done [] = Some done
settings_after accounts done (line ∷ lines) =
    if is_end line lines then Some done
    else unless_set done (setting_of accounts line) (λ setting. settings_after accounts (done ++ setting ∷ []) lines)

-- what a text sets
unfoldable pub settings_of : List Account → List ℕ → Option (List Setting)
settings_of accounts text = settings_after accounts [] (slice_split is_newline text)

-- the accounts with these hashes set, one after the other
abbrev pub with_settings : List Setting → List Account → List Account
with_settings [] accounts = accounts
with_settings (setting ∷ settings) accounts = with_settings settings (at_place setting.0 (with_new_hash setting.1) accounts)

abbrev pub apply_settings : Option (List Setting) → AccountTable → Result AccountTable ApplyRefused
apply_settings None table = Err NotSecrets
apply_settings (Some settings) table = Ok (record table { accounts = with_settings settings table.accounts })

-- the table with the secrets of a text
unfoldable pub apply_secrets : AccountTable → List ℕ → Result AccountTable ApplyRefused
apply_secrets table text = apply_settings (settings_of table.accounts text) table

-- ---- what is set again

abbrev pub IsHash : List ℕ → Type 0
IsHash hash = (length hash ≡ 16) × AreBytes hash

-- the account has a name of its form, and its hash wasn't set
abbrev pub IsFresh : Account → Type 0
IsFresh account = IsName account.name × (account.changed ≡ false)

-- the setting is of a computer's or a trust's account
pub record IsSettingOf (accounts : List Account) (setting : Setting) : Type 0 where
  pub computer : IsSomeAnd (slice_get accounts setting.0) (λ account. is_user account.kind ≡ false)
  pub hash : IsHash setting.1
