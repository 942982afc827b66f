use Rattle.std.proofs.Common.{◌≡◌, ◌∙◌, sym}
use Rattle.std.proofs.lemmas.Result.{IfOk-weaker}
use Rattle.rpc_units.specs.Calls.{bytes_of_call}
use Rattle.rpc_units.specs.Writing.{written}
use Rattle.end_links.proofs.BoundLaws.{one_bytes, one_short}
use Rattle.end_links.proofs.sending.one_bytes.Goals as goal

pub unit_bytes-requires-clause-short : goal.unit_bytes-requires-clause-short
unit_bytes-requires-clause-short c =
    one_short c.args.unit.now c.args.limit c.requires.whole c.requires.plain c.requires.least c.requires.most c.requires.one

pub returns : goal.returns
returns c =
    IfOk-weaker c.unit_bytes.result (λ bytes. bytes ≡ written c.args.unit.now) (λ bytes. bytes ≡ bytes_of_call c.args.unit.now c.args.limit)
    (λ bytes is. is ∙ sym (one_bytes c.args.unit.now c.args.limit c.requires.whole c.requires.one)) c.unit_bytes.ensures.value
