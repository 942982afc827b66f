use Rattle.std.proofs.Common.{◌≡◌, ◌-◌, ◌++◌, ◌∙◌, take, length, ap, rules}
use Rattle.rpc_units.specs.Reading.{unit_of}
use Rattle.rpc_units.proofs.SealedLaws.{unit_of-value_replaced, put_last}
use Rattle.rpc_units.proofs.sealing.set_value.Goals as goal

pub returns-clause-unit : goal.returns-clause-unit
returns-clause-unit c unit trailer read has sixteen =
    let place = length c.args.bytes.now - 16 in
    ap unit_of (put_last c.args.bytes.now c.copy_from_slice.new.self place ∙ ap (λ z. take place c.args.bytes.now ++ z) c.copy_from_slice.ensures.after)
    ∙ unit_of-value_replaced c.args.bytes.now unit trailer c.args.value.now read has sixteen (let sized : length c.args.value.now ≡ 16 = search rules in sized)
