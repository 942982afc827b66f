use Rattle.std.proofs.Common.{◌-◌, ◌+◌, ◌≤◌, ℕ, length, arith, rules, ◌∙◌}
use Rattle.rc4_stream.specs.Rc4.{State}
use Rattle.rc4_stream.specs.Steps.{state_at}
use Rattle.rc4_stream.proofs.StepLemmas.{combined_piece, advanced_piece}
use Rattle.rc4_stream.proofs.state.Cells.combine.Goals as goal

pub loop-bytes-preserved : goal.loop-bytes-preserved
loop-bytes-preserved c =
    let s : State = state_at c.loop-bytes.self.table c.loop-bytes.i c.loop-bytes.j in
    let t : State = state_at c.combine_piece.new.table c.combine_piece.new.i c.combine_piece.new.j in
    let at : ℕ = c.loop-bytes.at in
    let made = c.combine_piece.ensures.bytes in
    let moved = c.combine_piece.ensures.state in
    let fits : at + 8 ≤ length c.loop-bytes.bytes = omega arith in
    record {
      bytes = combined_piece s t at (at + 8 - at) (at + 8) c.loop-bytes.bytes c.combine_piece.new.bytes (omega arith) fits made moved ∙ c.loop-bytes.invariant.bytes;
      state = advanced_piece s t at (at + 8 - at) (at + 8) (length c.args.bytes.now) c.loop-bytes.bytes (omega arith) (omega arith) c.loop-bytes.invariant.len moved ∙ c.loop-bytes.invariant.state;
      len = search rules;
      inside = search rules;
    }
