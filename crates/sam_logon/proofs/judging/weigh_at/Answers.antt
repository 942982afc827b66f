-- The account as the changes leave it is judged by the laws of `proofs/CountLaws`.
use Rattle.std.proofs.Common.{◌≡◌, Some, sym, slice_get, ◌∙◌}
use Rattle.sam_logon.proofs.CountLaws.{granted_change, granted_weighed, refused_change, refused_weighed, stands_there}
use Rattle.sam_logon.proofs.judging.weigh_at.Goals as goal

pub unreachable-requires-in_default-state_with : goal.unreachable-requires-in_default-state_with
unreachable-requires-in_default-state_with g c =
    let found : slice_get c.args.table.now.accounts c.args.place ≡ Some c.in-Some.account.now = sym c.in-Some.ensures.value in
    stands_there c.args.table.now c.args.changes.now c.args.place c.in-Some.account.now found (sym c.in_default-state_with.is ∙ c.state_with.ensures)

pub returns-in_ok-granted-in-Ok-clause-exact : goal.returns-in_ok-granted-in-Ok-clause-exact
returns-in_ok-granted-in-Ok-clause-exact g c =
    let found : slice_get c.args.table.now.accounts c.args.place ≡ Some c.in-Some.account.now = sym c.in-Some.ensures.value in
    granted_weighed c.args.table.now c.args.changes.now c.args.place c.in-Some.account.now found (g.S.Shows.shown c.args.shown.now) c.args.workstation.now c.args.now c.in-Some-state_with.state c.policy.result c.in-Some-state_with.ensures c.policy.ensures c.args.controller.now c.in-Ok.key _ c.in-Ok.ensures c.in_ok-granted-in-Ok.ensures.value

pub returns-in_ok-granted-in-Ok-clause-table : goal.returns-in_ok-granted-in-Ok-clause-table
returns-in_ok-granted-in-Ok-clause-table g c =
    let found : slice_get c.args.table.now.accounts c.args.place ≡ Some c.in-Some.account.now = sym c.in-Some.ensures.value in
    granted_change c.args.table.now c.args.changes.now c.args.place c.in-Some.account.now found (g.S.Shows.shown c.args.shown.now) c.args.workstation.now c.args.now c.in-Some-state_with.state c.policy.result c.in-Some-state_with.ensures c.policy.ensures _ c.in-Ok.key c.in-Ok.ensures _ c.change_of.ensures

pub returns-in-Err-clause-exact : goal.returns-in-Err-clause-exact
returns-in-Err-clause-exact g c =
    let found : slice_get c.args.table.now.accounts c.args.place ≡ Some c.in-Some.account.now = sym c.in-Some.ensures.value in
    refused_weighed c.args.table.now c.args.changes.now c.args.place c.in-Some.account.now found (g.S.Shows.shown c.args.shown.now) c.args.workstation.now c.args.now c.in-Some-state_with.state c.policy.result c.in-Some-state_with.ensures c.policy.ensures c.args.controller.now _ c.in-Err.refused c.in-Err.ensures

pub returns-in-Err-clause-table : goal.returns-in-Err-clause-table
returns-in-Err-clause-table g c =
    let found : slice_get c.args.table.now.accounts c.args.place ≡ Some c.in-Some.account.now = sym c.in-Some.ensures.value in
    refused_change c.args.table.now c.args.changes.now c.args.place c.in-Some.account.now found (g.S.Shows.shown c.args.shown.now) c.args.workstation.now c.args.now c.in-Some-state_with.state c.policy.result c.in-Some-state_with.ensures c.policy.ensures _ c.in-Err.refused c.in-Err.ensures _ c.count_after.ensures _ c.change_of-in-Err.ensures
