use Rattle.std.proofs.Common.{◌≡◌, ◌++◌, ◌∷◌, [], ◌∙◌}
use Rattle.wire_base.specs.Names.{upper_case}
use Rattle.account_table.proofs.IndexLaws.{inserted, accounts_in-inserted, is_index-inserted}
use Rattle.account_table.proofs.accounts.Accounts.push.Goals as goal

pub invariant_of-self-2 : goal.invariant_of-self-2
invariant_of-self-2 c =
    let upper : c.in_ok-key.key.items ≡ upper_case c.args.account.name = c.in_ok-key.ensures.items ∙ c.as_slice.ensures.value ∙ c.upper_name.ensures.value in
    let made : c.insert.new.self.entries ≡ c.self.inside.index.entries ++ (c.in_ok-key.key, c.args.account) ∷ [] = inserted _ _ _ _ _ c.self.view_is c.self.invariant upper c.requires.fresh c.in_ok-insert.ensures.entries in
    is_index-inserted _ _ _ _ _ c.self.view_is c.self.invariant c.requires.room c.requires.fresh upper c.upper_name.ensures.short c.requires.groups c.requires.sids made

pub returns-clause-appended : goal.returns-clause-appended
returns-clause-appended c =
    let upper : c.in_ok-key.key.items ≡ upper_case c.args.account.name = c.in_ok-key.ensures.items ∙ c.as_slice.ensures.value ∙ c.upper_name.ensures.value in
    let made : c.insert.new.self.entries ≡ c.self.inside.index.entries ++ (c.in_ok-key.key, c.args.account) ∷ [] = inserted _ _ _ _ _ c.self.view_is c.self.invariant upper c.requires.fresh c.in_ok-insert.ensures.entries in
    accounts_in-inserted _ _ _ _ _ c.self.view_is made
