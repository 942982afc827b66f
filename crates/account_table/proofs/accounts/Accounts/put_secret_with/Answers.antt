use Rattle.std.proofs.Common.{◌≡◌, ◌++◌, ℕ, List, Some, slice_get, sym, ap, ◌∙◌}
use Rattle.account_table.specs.Changes.{state_by, state_of}
use Rattle.account_table.specs.Secrets.{line_if}
use Rattle.account_table.specs.declared.changes.AccountState.{AccountState}
use Rattle.account_table.proofs.ChangeLaws.{line_put}
use Rattle.account_table.proofs.accounts.Accounts.put_secret_with.Goals as goal

pub returns : goal.returns
returns c =
    let found : slice_get c.args.self.now c.args.place ≡ Some c.in-Some.account.now = sym c.in-Some.ensures.value in
    let state : c.state_by-state.result ≡ state_by c.args.changes.now c.args.place (state_of c.in-Some.account.now) =
    c.state_by-state.ensures ∙ ap (state_by c.args.changes.now c.args.place) c.state_of.ensures in
    line_put c.args.changes.now c.args.self.now c.args.place c.in-Some.account.now c.args.text.now.items c.put_secret_if.new.text.items found
    (c.in_ok-put_secret_if.ensures
    ∙ ap (λ (name : List ℕ). c.args.text.now.items ++ line_if c.state_by-state.result.changed name c.state_by-state.result.hash) c.bytes.ensures.value
    ∙ ap (λ (s : AccountState). c.args.text.now.items ++ line_if s.changed c.in-Some.account.now.name s.hash) state)
