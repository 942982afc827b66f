use Rattle.std.proofs.Common.{◌≡◌, ℕ, ◌*◌, ◌+◌, ◌++◌, ◌∷◌, [], List, Bool, false, get_or, set, slice_range, ◌∙◌, ap, sym, arith, rules}
use Rattle.std.proofs.lemmas.List.{length-set}
use Rattle.std.proofs.lemmas.List.Edits.{fill_by_more}
use Rattle.std.proofs.lemmas.List.FromFn.{fill_by_all}
use Rattle.des_cipher.specs.Bits.{number_of, bits_of}
use Rattle.des_cipher.specs.Des.{spread_of}
use Rattle.des_cipher.proofs.BitLemmas.{number_of-append_false}
use Rattle.des_cipher.proofs.plain.spread_key.Goals as goal

-- seven bits and one that is not set
seven : List Bool → ℕ → ℕ
seven bits i = number_of (slice_range bits (7 * i) (7 * i + 7) ++ false ∷ [])

pub loop-i-preserved : goal.loop-i-preserved
unfolding seven
loop-i-preserved c =
    let bits = c.write_bits.new.bits in
    let i : ℕ = c.loop-i.i in
    let spread = c.loop-i.spread in
    let n : c.number.result ≡ number_of (slice_range bits (7 * i) (7 * i + 7)) = c.number.ensures.value in
    let s : 2 * c.number.result ≡ seven bits i = ap (λ z. 2 * z) n ∙ sym (number_of-append_false (slice_range bits (7 * i) (7 * i + 7))) in
    record {
      room = length-set spread i (2 * c.number.result) ∙ c.loop-i.invariant.room;
      done = λ k h. ap (λ z. get_or (set spread i z) k 0) s ∙ fill_by_more (seven bits) spread i 0 (omega arith) c.loop-i.invariant.done k h;
    }

pub returns : goal.returns
unfolding spread_of
returns c =
    fill_by_all (λ i. number_of (slice_range (bits_of c.args.key) (7 * i) (7 * i + 7) ++ false ∷ [])) c.loop-i.spread 8 0 c.loop-i.invariant.room (rw (← c.write_bits.ensures) (search rules))
