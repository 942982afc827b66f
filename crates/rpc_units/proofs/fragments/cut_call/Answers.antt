use Rattle.std.proofs.Common.{◌≤◌, ◌+◌, List, length, arith}
use Rattle.std.proofs.lemmas.Result.{IfOk-weaker}
use Rattle.std.specs.List.{AllByRecursion}
use Rattle.rpc_units.specs.Writing.{written, value_len, IsWritable, IsInRange}
use Rattle.rpc_units.specs.declared.unit.Unit.{Unit as RpcUnit}
use Rattle.rpc_units.specs.Joining.{stub_of, IsJoined, stub_size}
use Rattle.rpc_units.proofs.CuttingLaws.{IsJoined-cut_of, cut_short, cut_fewest, cut_writable, cut_range}
use Rattle.rpc_units.proofs.fragments.cut_call.Goals as goal

pub returns-clause-joined : goal.returns-clause-joined
returns-clause-joined c =
    let some : 1 ≤ stub_size c.args.limit = omega (arith, c.requires.least) in
    IfOk-weaker c.pieces.result _ (λ units. IsJoined units c.args.unit.now) (λ units e. rw e (IsJoined-cut_of c.args.unit.now c.args.limit c.requires.whole some)) c.pieces.ensures

pub returns-clause-fewest : goal.returns-clause-fewest
returns-clause-fewest c =
    IfOk-weaker c.pieces.result _ (λ units. (others : List RpcUnit) → IsJoined others c.args.unit.now → AllByRecursion (λ u. length (stub_of u.body) ≤ stub_size c.args.limit) others → length units ≤ length others) (λ units e. rw e (cut_fewest c.args.unit.now c.args.limit)) c.pieces.ensures

pub returns-clause-short : goal.returns-clause-short
returns-clause-short c =
    IfOk-weaker c.pieces.result _ (λ units. AllByRecursion (λ u. length (written u) + 16 ≤ c.args.limit + value_len c.args.unit.now.trailer) units) (λ units e. rw e (cut_short c.args.unit.now c.args.limit c.requires.whole.stub (omega (arith, c.requires.least)))) c.pieces.ensures

pub returns-clause-writable : goal.returns-clause-writable
returns-clause-writable c value =
    IfOk-weaker c.pieces.result _ (λ units. AllByRecursion IsWritable units) (λ units e. rw e (cut_writable c.args.unit.now c.args.limit c.requires.whole.stub value (omega (arith, c.requires.least)))) c.pieces.ensures

pub returns-clause-range : goal.returns-clause-range
returns-clause-range c =
    IfOk-weaker c.pieces.result _ (λ units. AllByRecursion IsInRange units) (λ units e. rw e (cut_range c.args.unit.now c.args.limit c.read_numbers.ensures (omega (arith, c.requires.least)))) c.pieces.ensures
