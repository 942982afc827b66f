use Rattle.std.proofs.Common.{◌∙◌, ap, sym, add-zero}
use Rattle.ntlm_seal.specs.Directions.{Direction, signature_of}
use Rattle.ntlm_seal.proofs.SignatureParts.{sent_is, signed}
use Rattle.ntlm_seal.proofs.direction.OneWay.sign.Goals as goal

pub returns-clause-signature : goal.returns-clause-signature
returns-clause-signature c =
    let d : Direction = record { signing_key = c.self.inside.signing_key; sealing_key = c.self.inside.stream.key; key_exchange = c.self.inside.key_exchange; number = c.self.inside.number; used = c.self.inside.stream.used } in
    let is = sent_is d c.args.unit.now 0 c.checksum-checksum.result c.pass_checksum-sent.result d.used c.checksum-checksum.ensures c.pass_checksum-sent.ensures.checksum (sym (add-zero d.used)) in
    c.signature.ensures
    ∙ signed d c.args.unit.now 0 0 c.pass_checksum-sent.result is
    ∙ ap (λ x. signature_of x c.args.unit.now 0 0) c.self.view_is
