use Rattle.std.proofs.Common.{rules}
use Rattle.digest_parts.specs.Md4.{rest_of, after_blocks, blocks_of}
use Rattle.digest_parts.specs.StandsFor.{StandsFor}
use Rattle.digest_parts.proofs.md4_digest.Md4Hasher.new.Goals as goal

pub returns : goal.returns
unfolding StandsFor rest_of after_blocks blocks_of
returns c = search rules
