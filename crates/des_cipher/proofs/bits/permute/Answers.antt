use Rattle.std.proofs.Common.{◌++◌, ◌∷◌, [], Bool, get_or, arith, ◌∙◌, sym, ap, false}
use Rattle.std.proofs.lemmas.List.{take_all, take_more_set, length-set, length-replicate}
use Rattle.des_cipher.specs.Bits.{bit, permuted}
use Rattle.des_cipher.proofs.BitLemmas.{permuted_none, permuted_more}
use Rattle.des_cipher.proofs.bits.permute.Goals as goal

pub loop-i-init : goal.loop-i-init
loop-i-init g c = record { room = length-replicate g.row.N false; done = sym (permuted_none c.args.bits.now) }

pub loop-i-preserved : goal.loop-i-preserved
loop-i-preserved g c =
    let places = c.args.places.now in
    let bits = c.args.bits.now in
    let i = c.loop-i.i in
    let b : Bool = bit bits (get_or places i 0) in
    record {
      room = length-set c.loop-i.chosen i b ∙ c.loop-i.invariant.room;
      done =
          take_more_set c.loop-i.chosen i b (omega arith)
          ∙ ap (λ z. z ++ b ∷ []) c.loop-i.invariant.done
          ∙ sym (permuted_more bits places i (omega arith));
    }

pub returns-clause-value : goal.returns-clause-value
returns-clause-value g c =
    let places = c.args.places.now in
    let bits = c.args.bits.now in
    let i = c.loop-i.i in
    sym (take_all i c.loop-i.chosen (omega arith)) ∙ c.loop-i.invariant.done ∙ ap (λ p. permuted p bits) (take_all i places (omega arith))
