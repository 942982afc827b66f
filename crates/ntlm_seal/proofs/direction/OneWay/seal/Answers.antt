use Rattle.std.proofs.Common.{◌∙◌, ◌+◌, ◌-◌, ap}
use Rattle.rc4_stream.specs.Rc4.{Stream}
use Rattle.ntlm_seal.specs.Directions.{Direction, signature_of, combine, sent_form_by}
use Rattle.ntlm_seal.proofs.SignatureParts.{sent_is, signed}
use Rattle.ntlm_seal.proofs.RangeLaws.{range_combine, length_range}
use Rattle.ntlm_seal.proofs.direction.OneWay.seal.Goals as goal

pub returns-clause-signature : goal.returns-clause-signature
returns-clause-signature c =
    let d : Direction = record { signing_key = c.self.inside.signing_key; sealing_key = c.self.inside.stream.key; key_exchange = c.self.inside.key_exchange; number = c.self.inside.number; used = c.self.inside.stream.used } in
    let sends = c.pass_checksum-sealed.ensures.checksum ∙ ap (λ (s : Stream). sent_form_by d.key_exchange s.key s.used c.checksum-checksum.result) c.apply.ensures.stream in
    let is = sent_is d c.args.unit.now (c.args.to - c.args.from) c.checksum-checksum.result c.pass_checksum-sealed.result _ c.checksum-checksum.ensures sends (ap (λ n. d.used + n) (length_range c.args.unit.now c.args.from c.args.to c.requires.range c.requires.within)) in
    c.signature.ensures
    ∙ signed d c.args.unit.now c.args.from c.args.to c.pass_checksum-sealed.result is
    ∙ ap (λ x. signature_of x c.args.unit.now c.args.from c.args.to) c.self.view_is

pub returns-clause-unit : goal.returns-clause-unit
returns-clause-unit c =
    let d : Direction = record { signing_key = c.self.inside.signing_key; sealing_key = c.self.inside.stream.key; key_exchange = c.self.inside.key_exchange; number = c.self.inside.number; used = c.self.inside.stream.used } in
    range_combine d c.args.unit.now c.apply.new.bytes c.args.from c.args.to c.requires.range c.apply.ensures.bytes
    ∙ ap (λ x. combine x c.args.unit.now c.args.from c.args.to) c.self.view_is
