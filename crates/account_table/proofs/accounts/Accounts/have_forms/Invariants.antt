-- The accounts before have their forms.
use Rattle.std.proofs.Common.{All, take}
use Rattle.account_table.specs.TableForms.{HasAccountForm}
use Rattle.account_table.proofs.accounts.Accounts.have_forms.Given as goal

abbrev pub invariant-loop-place : goal.invariant-loop-place
invariant-loop-place l = All HasAccountForm (take l.place l.self)
