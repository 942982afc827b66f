use Rattle.std.proofs.Common.{◌∙◌, false, true, ap, sym, add-zero}
use Rattle.ntlm_seal.specs.Directions.{Direction}
use Rattle.ntlm_seal.specs.Sessions.{expect, verdict_of}
use Rattle.ntlm_seal.proofs.SignatureParts.{sent_is, compare_is}
use Rattle.ntlm_seal.proofs.direction.OneWay.check.Goals as goal

pub returns-then-not-has_checksum-clause-answer : goal.returns-then-not-has_checksum-clause-answer
returns-then-not-has_checksum-clause-answer c =
    let d : Direction = record { signing_key = c.self.inside.signing_key; sealing_key = c.self.inside.stream.key; key_exchange = c.self.inside.key_exchange; number = c.self.inside.number; used = c.self.inside.stream.used } in
    let is = sent_is d c.args.unit.now 0 c.checksum-checksum.result c.pass_checksum-sent.result d.used c.checksum-checksum.ensures c.pass_checksum-sent.ensures.checksum (sym (add-zero d.used)) in
    let numbers = c.in_ok-expects.ensures.answer ∙ ap (λ x. expect x c.args.signature.now) (sym c.self.view_is) in
    compare_is d c.args.unit.now 0 0 c.args.signature.now c.pass_checksum-sent.result c.has_checksum.result false numbers is c.has_checksum.ensures c.if-not-has_checksum.true
    ∙ ap (λ x. verdict_of x c.args.unit.now 0 0 c.args.signature.now) c.self.view_is

pub returns-clause-answer : goal.returns-clause-answer
returns-clause-answer c =
    let d : Direction = record { signing_key = c.self.inside.signing_key; sealing_key = c.self.inside.stream.key; key_exchange = c.self.inside.key_exchange; number = c.self.inside.number; used = c.self.inside.stream.used } in
    let is = sent_is d c.args.unit.now 0 c.checksum-checksum.result c.pass_checksum-sent.result d.used c.checksum-checksum.ensures c.pass_checksum-sent.ensures.checksum (sym (add-zero d.used)) in
    let numbers = c.in_ok-expects.ensures.answer ∙ ap (λ x. expect x c.args.signature.now) (sym c.self.view_is) in
    compare_is d c.args.unit.now 0 0 c.args.signature.now c.pass_checksum-sent.result c.has_checksum.result true numbers is c.has_checksum.ensures c.if-not-has_checksum.false
    ∙ ap (λ x. verdict_of x c.args.unit.now 0 0 c.args.signature.now) c.self.view_is
