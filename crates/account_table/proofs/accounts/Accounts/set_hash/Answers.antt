use Rattle.std.proofs.Common.{refl}
use Rattle.account_table.specs.Changes.{with_new_hash}
use Rattle.account_table.proofs.IndexLaws.{changed_accounts, changed_index}
use Rattle.account_table.proofs.accounts.Accounts.set_hash.Goals as goal

pub invariant_of-self : goal.invariant_of-self
invariant_of-self c = changed_index (with_new_hash c.args.hash) (λ account. refl) (λ key account. refl) c.self.inside.index.entries _ c.args.place c.index_mut-account.result.now c.self.invariant c.index_mut-account.ensures.value refl

pub returns : goal.returns
returns c = changed_accounts (with_new_hash c.args.hash) (λ account. refl) (λ key account. refl) c.self.inside.index.entries _ _ c.args.place c.index_mut-account.result.now c.self.view_is c.index_mut-account.ensures.value refl
