use Rattle.std.proofs.Common.{◌∙◌, ◌+◌, ◌-◌, ◌++◌, ◌≡◌, length, take, drop, replicate, true, false, ap, sym}
use Rattle.rc4_stream.specs.Rc4.{Stream}
use Rattle.rc4_stream.proofs.Rc4Laws.{length-applied}
use Rattle.ntlm_seal.specs.Directions.{Direction, combine, checksum_of, sent_form_by}
use Rattle.ntlm_seal.specs.Sessions.{expect, verdict_of}
use Rattle.ntlm_seal.proofs.RangeLaws.{range_combine, length_range, put_range_twice}
use Rattle.ntlm_seal.proofs.SignatureParts.{sent_is, compare_is}
use borrow.Rule.Slice.PartMut.{put_mid}
use Rattle.ntlm_seal.proofs.direction.OneWay.open.Goals as goal

pub returns-then-not-has_checksum-clause-answer : goal.returns-then-not-has_checksum-clause-answer
returns-then-not-has_checksum-clause-answer c =
    let d : Direction = record { signing_key = c.self.inside.signing_key; sealing_key = c.self.inside.stream.key; key_exchange = c.self.inside.key_exchange; number = c.self.inside.number; used = c.self.inside.stream.used } in
    let range = c.args.to - c.args.from in
    let plain = combine d c.args.unit.now c.args.from c.args.to in
    let opened = range_combine d c.args.unit.now c.apply.new.bytes c.args.from c.args.to c.requires.range c.apply.ensures.bytes in
    let checksum = c.checksum-checksum.ensures ∙ ap (checksum_of d.signing_key d.number) opened in
    let sends = c.pass_checksum-wanted.ensures.checksum ∙ ap (λ (s : Stream). sent_form_by d.key_exchange s.key s.used c.checksum-checksum.result) c.apply.ensures.stream in
    let is = sent_is d plain range c.checksum-checksum.result c.pass_checksum-wanted.result _ checksum sends (ap (λ n. d.used + n) (length_range c.args.unit.now c.args.from c.args.to c.requires.range c.requires.within)) in
    let numbers = c.in_ok-expects.ensures.answer ∙ ap (λ x. expect x c.args.signature.now) (sym c.self.view_is) in
    compare_is d plain c.args.from c.args.to c.args.signature.now c.pass_checksum-wanted.result c.has_checksum.result false numbers is c.has_checksum.ensures c.if-not-has_checksum.true
    ∙ ap (λ x. verdict_of x (combine x c.args.unit.now c.args.from c.args.to) c.args.from c.args.to c.args.signature.now) c.self.view_is

pub returns-then-not-has_checksum-clause-unit : goal.returns-then-not-has_checksum-clause-unit
returns-then-not-has_checksum-clause-unit c =
    let range = c.args.to - c.args.from in
    let long : length c.apply.new.bytes ≡ range =
    ap length c.apply.ensures.bytes ∙ length-applied _ _ _ ∙ length_range c.args.unit.now c.args.from c.args.to c.requires.range c.requires.within in
    let around = put_range_twice c.args.from c.args.to c.args.unit.now c.apply.new.bytes c.requires.range c.requires.within long in
    c.clear.ensures
    ∙ ap (λ xs. xs ++ replicate range 0 ++ drop c.args.to (put_mid c.args.from range c.args.unit.now c.apply.new.bytes)) around.0
    ∙ ap (λ ys. take c.args.from c.args.unit.now ++ replicate range 0 ++ ys) around.1

pub returns-clause-answer : goal.returns-clause-answer
returns-clause-answer c =
    let d : Direction = record { signing_key = c.self.inside.signing_key; sealing_key = c.self.inside.stream.key; key_exchange = c.self.inside.key_exchange; number = c.self.inside.number; used = c.self.inside.stream.used } in
    let range = c.args.to - c.args.from in
    let plain = combine d c.args.unit.now c.args.from c.args.to in
    let opened = range_combine d c.args.unit.now c.apply.new.bytes c.args.from c.args.to c.requires.range c.apply.ensures.bytes in
    let checksum = c.checksum-checksum.ensures ∙ ap (checksum_of d.signing_key d.number) opened in
    let sends = c.pass_checksum-wanted.ensures.checksum ∙ ap (λ (s : Stream). sent_form_by d.key_exchange s.key s.used c.checksum-checksum.result) c.apply.ensures.stream in
    let is = sent_is d plain range c.checksum-checksum.result c.pass_checksum-wanted.result _ checksum sends (ap (λ n. d.used + n) (length_range c.args.unit.now c.args.from c.args.to c.requires.range c.requires.within)) in
    let numbers = c.in_ok-expects.ensures.answer ∙ ap (λ x. expect x c.args.signature.now) (sym c.self.view_is) in
    compare_is d plain c.args.from c.args.to c.args.signature.now c.pass_checksum-wanted.result c.has_checksum.result true numbers is c.has_checksum.ensures c.if-not-has_checksum.false
    ∙ ap (λ x. verdict_of x (combine x c.args.unit.now c.args.from c.args.to) c.args.from c.args.to c.args.signature.now) c.self.view_is

pub returns-clause-unit : goal.returns-clause-unit
returns-clause-unit c =
    let d : Direction = record { signing_key = c.self.inside.signing_key; sealing_key = c.self.inside.stream.key; key_exchange = c.self.inside.key_exchange; number = c.self.inside.number; used = c.self.inside.stream.used } in
    range_combine d c.args.unit.now c.apply.new.bytes c.args.from c.args.to c.requires.range c.apply.ensures.bytes
    ∙ ap (λ x. combine x c.args.unit.now c.args.from c.args.to) c.self.view_is
