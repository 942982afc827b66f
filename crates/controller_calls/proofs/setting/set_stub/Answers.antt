use Rattle.std.proofs.Common.{◌≡◌, length, arith, ap}
use Rattle.secret_change.specs.Calls.{written_set_reply}
use Rattle.secret_change.proofs.SetLaws.{reply_stub}
use Rattle.controller_calls.proofs.setting.set_stub.Goals as goal

pub returns-clause-most : goal.returns-clause-most
returns-clause-most c =
    let few = (reply_stub _ c.is_in_range.ensures).short in
    let same : length c.in_ok-stub.stub ≡ length (written_set_reply (record { returned = record { credential = c.args.credential; timestamp = 0 }; status = c.args.status })) = ap length c.in_ok-stub.ensures in
    omega (arith, few, same)
