-- What an account table is (this project's own choice): the domain's name and identifier, what holds of all accounts,
-- the accounts in the order of the document, users before machines, and the trusted domains in its order.
use Rattle.std.specs.Prelude.{ℕ, ◌&&◌, Bool, true, not, List, [], ◌∷◌}
use Rattle.std.specs.List.{list_any}
use Rattle.wire_base.specs.Names.{same_name}
use Rattle.wire_base.specs.Sid.{SidParts}
use Rattle.account_table.specs.declared.account.Account.{Account}
use Rattle.account_table.specs.declared.account.Policy.{Policy}
use Rattle.account_table.specs.declared.account.Trust.{Trust}

pub record AccountTable : Type 0 where
  pub domain : List ℕ
  pub sid : SidParts
  pub policy : Policy
  pub accounts : List Account
  pub trusts : List Trust

-- no two items have the same name
abbrev pub has_distinct : {T : Type 0} → (T → List ℕ) → List T → Bool
has_distinct name [] = true
has_distinct name (item ∷ items) = not (list_any (λ other. same_name (name item) (name other)) items) && has_distinct name items

-- no two accounts have the same name
abbrev pub has_distinct_names : List Account → Bool
has_distinct_names accounts = has_distinct (λ account. account.name) accounts

-- no two trusted domains have the same name
abbrev pub has_distinct_domains : List Trust → Bool
has_distinct_domains trusts = has_distinct (λ trust. trust.domain) trusts
