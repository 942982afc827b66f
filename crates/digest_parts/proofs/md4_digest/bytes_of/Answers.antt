use Rattle.std.proofs.Common.{refl}
use Rattle.digest_parts.specs.Md4.{register_bytes}
use Rattle.digest_parts.proofs.md4_digest.bytes_of.Goals as goal

pub returns : goal.returns
unfolding register_bytes
returns c = rw (c.to_le_bytes.ensures, c.to_le_bytes-2.ensures, c.to_le_bytes-3.ensures, c.to_le_bytes-4.ensures) refl
