use Rattle.std.proofs.Common.{◌≡◌, ◌%◌, ◌+◌, ◌^◌, ◌++◌, length, take, arith, length-append}
use Rattle.digest_parts.specs.Md4.{initial_registers, rest_of}
use Rattle.digest_parts.specs.StandsFor.{StandsFor}
use Rattle.digest_parts.proofs.Blocks.{after_blocks_on, rest_of_on}
use Rattle.digest_parts.proofs.md4_digest.Md4Hasher.update.Goals as goal

pub returns : goal.returns
unfolding StandsFor
returns c = λ m stands.
    let hasher = c.args.self.now in
    let piece = c.args.piece.now in
    let count : hasher.count ≡ length m % 2 ^ 64 = stands.0 in
    let used : hasher.count % 64 ≡ length m % 64 = omega arith in
    let kept : take (hasher.count % 64) hasher.block ≡ rest_of m = rw used stands.2 in
    let joined = length-append m piece in
    let at : length (m ++ piece) % 64 ≡ (hasher.count % 64 + length piece) % 64 = omega arith in (
      omega arith,
      rw (after_blocks_on initial_registers m piece, ← stands.1, ← kept) c.take_piece.ensures.registers,
      rw (at, rest_of_on m piece, ← kept) c.take_piece.ensures.rest,
    )
