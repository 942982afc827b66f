use Rattle.std.proofs.Common.{rules, ◌≡◌, List, ap, ◌∙◌}
use Rattle.account_table.specs.Changes.{accounts_after}
use Rattle.account_table.specs.Secrets.{secrets_of}
use Rattle.account_table.specs.declared.account.Account.{Account}
use Rattle.account_table.specs.declared.changes.TableChange.{TableChange}
use Rattle.account_table.proofs.ChangeLaws.{secrets_left}
use Rattle.account_table.proofs.table.Table.secrets_with.Goals as goal

pub returns : goal.returns
returns c =
    let listed : c.self.inside.listed ≡ c.args.self.now.accounts = search rules in
    c.in_ok-text.ensures
    ∙ ap (λ (changes : List TableChange). secrets_of (accounts_after changes 0 c.self.inside.listed)) c.items.ensures
    ∙ ap (λ (accounts : List Account). secrets_of (accounts_after c.args.changes.now 0 accounts)) listed
    ∙ secrets_left c.args.changes.now c.args.self.now
