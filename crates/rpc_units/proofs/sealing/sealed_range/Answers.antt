use Rattle.std.proofs.Common.{◌≡◌, rules}
use Rattle.rpc_units.specs.Sealing.{sealed_of}
use Rattle.rpc_units.proofs.SealingLaws.{ranges}
use Rattle.rpc_units.proofs.SealedLaws.{range_tells}
use Rattle.rpc_units.proofs.sealing.sealed_range.Goals as goal

pub returns-in-Ok-clause-unit : goal.returns-in-Ok-clause-unit
returns-in-Ok-clause-unit c =
    let value : c.range_of.result ≡ sealed_of c.args.bytes.now = search (rules, ranges) in
    range_tells c.args.bytes.now c.range_of.result value
