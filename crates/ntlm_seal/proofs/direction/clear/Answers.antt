use Rattle.std.proofs.Common.{◌∙◌, ◌++◌, ap, take, drop, replicate}
use Rattle.ntlm_seal.proofs.RangeLaws.{put_range, length_range}
use Rattle.ntlm_seal.proofs.direction.clear.Goals as goal

pub returns : goal.returns
returns c =
    put_range c.args.from c.args.to c.args.unit.now c.fill.new.self c.requires.range
    ∙ ap (λ zs. take c.args.from c.args.unit.now ++ zs ++ drop c.args.to c.args.unit.now) (c.fill.ensures.after (λ y h. h) ∙ ap (λ n. replicate n 0) (length_range c.args.unit.now c.args.from c.args.to c.requires.range c.requires.within))
