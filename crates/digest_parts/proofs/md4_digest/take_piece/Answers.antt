use Rattle.std.proofs.Common.{◌≡◌, ◌+◌, ◌%◌, ◌++◌, length, take, arith, ap, sym, ◌∙◌, refl, length-append}
use Rattle.std.proofs.lemmas.List.{length-take-le, take_at}
use Rattle.std.proofs.lemmas.Slice.{take-put_mid}
use Rattle.digest_parts.specs.Md4.{rest_of}
use Rattle.digest_parts.proofs.Blocks.{after_blocks_short, rest_of_short, length-rest_of}
use Rattle.digest_parts.proofs.md4_digest.take_piece.Goals as goal

pub returns-then-piece-used-clause-registers : goal.returns-then-piece-used-clause-registers
returns-then-piece-used-clause-registers c =
    let used = length-take-le c.args.used c.args.block.now (omega arith) in
    sym (after_blocks_short c.args.registers.now _ (omega (arith, length-append (take c.args.used c.args.block.now) c.args.piece.now)))

pub returns-then-piece-used-clause-rest : goal.returns-then-piece-used-clause-rest
returns-then-piece-used-clause-rest c =
    let used = length-take-le c.args.used c.args.block.now (omega arith) in
    let n : (c.args.used + length c.args.piece.now) % 64 ≡ c.args.used + length c.args.piece.now = omega arith in
    let short = rest_of_short (take c.args.used c.args.block.now ++ c.args.piece.now) (omega (arith, length-append (take c.args.used c.args.block.now) c.args.piece.now)) in
    rw (n, c.copy_from_slice.ensures.after, take-put_mid c.args.used _ c.args.block.now c.args.piece.now _ refl (omega arith)) (sym short)

pub returns-clause-rest : goal.returns-clause-rest
returns-clause-rest c =
    let used = length-take-le c.args.used c.args.block.now (omega arith) in
    let all = take c.args.used c.args.block.now ++ c.args.piece.now in
    let rest : c.copy_from_slice-2.new.self ≡ rest_of all = c.copy_from_slice-2.ensures.after ∙ c.take_blocks-rest.ensures.rest ∙ c.complete_block-blocks.ensures.rest in
    let len : length c.copy_from_slice-2.new.self ≡ (c.args.used + length c.args.piece.now) % 64 =
    omega (arith, ap length rest, length-rest_of all, length-append (take c.args.used c.args.block.now) c.args.piece.now) in
    take_at c.copy_from_slice-2.new.self _ _ len ∙ rest
