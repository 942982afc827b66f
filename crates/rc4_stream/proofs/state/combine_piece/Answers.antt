use Rattle.std.proofs.Common.{◌≡◌, ◌-◌, ◌++◌, ◌<◌, ◌+◌, ℕ, length, take, drop, get_or, set, bit_xor, arith, ◌∙◌, sym, ap}
use Rattle.rc4_stream.specs.Rc4.{State, next_state, byte_of}
use Rattle.rc4_stream.specs.Steps.{state_at, combined_from, advanced}
use Rattle.rc4_stream.proofs.StepLemmas.{combined_from_step, combined_from_end, advanced_step, advanced_none}
use Rattle.rc4_stream.proofs.state.combine_piece.Goals as goal

pub loop-byte-preserved : goal.loop-byte-preserved
loop-byte-preserved c =
    let s : State = state_at c.loop-byte.table c.loop-byte.i c.loop-byte.j in
    let after : State = state_at c.next_byte.new.table c.next_byte.new.i c.next_byte.new.j in
    let bytes = c.loop-byte.bytes in
    let n : ℕ = c.loop-byte.byte-index in
    let moves : after ≡ next_state s = c.next_byte.ensures.state in
    let key : c.next_byte.result ≡ byte_of (next_state s) = c.next_byte.ensures.byte ∙ ap byte_of moves in
    let within : n < length bytes = omega arith in
    record {
      bytes =
          ap (λ k. take (n + 1) (set bytes n (bit_xor (get_or bytes n 0) k)) ++ combined_from after (drop (n + 1) (set bytes n (bit_xor (get_or bytes n 0) k)))) key
          ∙ ap (λ t. take (n + 1) (set bytes n (bit_xor (get_or bytes n 0) (byte_of (next_state s)))) ++ combined_from t (drop (n + 1) (set bytes n (bit_xor (get_or bytes n 0) (byte_of (next_state s)))))) moves
          ∙ combined_from_step s bytes n within
          ∙ c.loop-byte.invariant.bytes;
      state =
          ap (advanced (length c.args.bytes.now - (n + 1))) moves
          ∙ advanced_step s (length c.args.bytes.now) n c.loop-byte-test.true
          ∙ c.loop-byte.invariant.state;
    }

pub returns-clause-bytes : goal.returns-clause-bytes
returns-clause-bytes c =
    let s : State = state_at c.loop-byte.table c.loop-byte.i c.loop-byte.j in
    sym (combined_from_end s c.loop-byte.bytes c.loop-byte.byte-index (omega arith)) ∙ c.loop-byte.invariant.bytes

pub returns-clause-state : goal.returns-clause-state
returns-clause-state c =
    let s : State = state_at c.loop-byte.table c.loop-byte.i c.loop-byte.j in
    sym (advanced_none s (length c.args.bytes.now) c.loop-byte.byte-index c.loop-byte-test.false) ∙ c.loop-byte.invariant.state
