-- The trusted domains before have their forms.
use Rattle.std.proofs.Common.{All, take}
use Rattle.account_table.specs.TableForms.{HasTrustForm}
use Rattle.account_table.proofs.having.trusts_have_forms.Given as goal

abbrev pub invariant-loop-trust : goal.invariant-loop-trust
invariant-loop-trust l = All HasTrustForm (take l.trust-index l.trusts)
