use Rattle.std.proofs.Common.{◌<◌}
use Rattle.std.proofs.lemmas.List.Elements.{All-from_get_or}
use Rattle.des_cipher.proofs.plain.block_bits.Goals as goal

pub returns-clause-is_block : goal.returns-clause-is_block
returns-clause-is_block c = record {
  eight = c.told-block;
  bytes = All-from_get_or (λ b. b < 256) c.args.block.now 0 (λ i h. c.fits-block i);
}
