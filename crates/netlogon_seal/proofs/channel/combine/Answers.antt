-- A range that is combined in its place (`proofs/SealLaws`).
use Rattle.std.proofs.Common.{◌∙◌, ap, slice_range}
use Rattle.rc4_stream.specs.Rc4.{Stream, applied}
use Rattle.netlogon_seal.proofs.SealLaws.{range_combine}
use Rattle.netlogon_seal.proofs.channel.combine.Goals as goal

pub returns : goal.returns
returns c =
    let range = slice_range c.args.unit.now c.args.from c.args.to in
    range_combine c.args.key.now c.args.unit.now c.apply.new.bytes c.args.from c.args.to c.requires.range (c.apply.ensures.bytes ∙ ap (λ (s : Stream). applied s.key s.used range) c.new.ensures)
