use Rattle.std.proofs.Common.{◌-◌, arith, sym, ◌∙◌, refl}
use Rattle.digest_parts.proofs.Blocks.{completed, after_blocks-append, after_blocks_one, rest_of-append}
use Rattle.digest_parts.proofs.md4_digest.complete_block.Goals as goal

pub returns-clause-registers : goal.returns-clause-registers
returns-clause-registers c =
    let split = c.split_at.ensures in
    let all = completed c.args.block.now c.args.piece.now c.copy_from_slice.new.self c.split_at.result.1.now _ c.args.used (64 - c.args.used) (omega arith) (omega arith) (omega arith) refl
    (c.copy_from_slice.ensures.after ∙ split.front) split.back refl in
    let taken = c.take_block.ensures ∙ sym (after_blocks_one c.args.registers.now _ all.1) in
    rw (all.2, taken) (sym (after_blocks-append c.args.registers.now _ c.split_at.result.1.now (omega (arith, all.1))))

pub returns-clause-rest : goal.returns-clause-rest
returns-clause-rest c =
    let split = c.split_at.ensures in
    let all = completed c.args.block.now c.args.piece.now c.copy_from_slice.new.self c.split_at.result.1.now _ c.args.used (64 - c.args.used) (omega arith) (omega arith) (omega arith) refl
    (c.copy_from_slice.ensures.after ∙ split.front) split.back refl in
    rw all.2 (sym (rest_of-append _ c.split_at.result.1.now (omega (arith, all.1))))
