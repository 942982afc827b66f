use Rattle.std.proofs.Common.{◌≡◌, take, fold}
use Rattle.digest_parts.specs.Md4.{after_block}
use Rattle.digest_parts.proofs.md4_block.take_blocks.Given as goal

-- the blocks so far are taken in
abbrev pub invariant-loop-block : goal.invariant-loop-block
invariant-loop-block l = l.registers ≡ fold after_block l.fn.registers (take l.block-index l.blocks)
