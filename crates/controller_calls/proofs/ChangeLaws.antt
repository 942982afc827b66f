-- What a step changes of the accounts, so far.
use Rattle.std.proofs.Common.{◌≡◌, ◌∙◌, ℕ, List, [], ◌∷◌, ◌++◌, Option, Some, None, ap, append-nil}
use Rattle.std.specs.Option.{option_to_list}
use Rattle.account_table.specs.AccountTable.{AccountTable}
use Rattle.account_table.specs.Changes.{with_change_if, with_changes, with_hash}
use Rattle.account_table.specs.declared.changes.Change.TheVariants.{Hash}
use Rattle.account_table.specs.declared.changes.TableChange.{TableChange}
use Rattle.account_table.proofs.ChangeLaws.{with_changes-append}

-- one change more, where there is one, is made behind the others
pub noted : (changes : List TableChange) (change : Option TableChange) (table : AccountTable) →
    with_changes (changes ++ option_to_list change) table ≡ with_change_if change (with_changes changes table)
noted changes None table = ap (λ (all : List TableChange). with_changes all table) (append-nil changes)
noted changes (Some change) table = with_changes-append changes (change ∷ []) table

pub ruleset noting = (noted)

-- a hash that is noted is set in the table that the earlier changes leave
pub hash_noted : (changes : List TableChange) (change : TableChange) (place : ℕ) (hash : List ℕ) (table : AccountTable) → change ≡ record { place = place; change = Hash hash } →
    with_changes (changes ++ change ∷ []) table ≡ with_hash place hash (with_changes changes table)
hash_noted changes change place hash table is =
    ap (λ (c : TableChange). with_changes (changes ++ c ∷ []) table) is ∙ with_changes-append changes (record { place = place; change = Hash hash } ∷ []) table

pub ruleset setting = (hash_noted)
