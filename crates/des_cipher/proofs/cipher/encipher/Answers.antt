use Rattle.std.proofs.Common.{◌≡◌, ◌++◌, ◌∙◌, ap, sym, drop, take, List, Bool, arith}
use Rattle.des_cipher.specs.Bits.{permuted, combined}
use Rattle.des_cipher.specs.Cipher.{Halves, rounds, first_halves, last_block, cipher}
use Rattle.des_cipher.specs.Tables.{initial_permutation, final_permutation}
use Rattle.des_cipher.proofs.CipherLemmas.{rounds_more, rounds_all}
use Rattle.des_cipher.proofs.cipher.encipher.Goals as goal

pub loop-key-init : goal.loop-key-init
loop-key-init c =
    let keys = c.args.keys.now in
    let p : c.permute.result ≡ permuted initial_permutation c.args.block.now = c.permute.ensures.value in
    let l : c.halves.result.0 ≡ take 32 (permuted initial_permutation c.args.block.now) = c.halves.ensures.left ∙ ap (take 32) p in
    let r : c.halves.result.1 ≡ drop 32 (permuted initial_permutation c.args.block.now) = c.halves.ensures.right ∙ ap (drop 32) p in
    ap (λ (x : List Bool). rounds keys (record { left = x; right = c.halves.result.1 })) l
    ∙ ap (λ (x : List Bool). rounds keys (record { left = take 32 (permuted initial_permutation c.args.block.now); right = x })) r

pub loop-key-preserved : goal.loop-key-preserved
loop-key-preserved c =
    let keys = c.args.keys.now in
    let next = c.combine.ensures ∙ ap (combined c.loop-key.left) c.mix.ensures in
    rounds_more keys c.loop-key.key-index c.loop-key.left c.loop-key.right c.combine.new.bits (omega arith) next
    ∙ c.loop-key.invariant

pub returns : goal.returns
unfolding cipher
returns c =
    let keys = c.args.keys.now in
    let h : Halves = record { left = c.loop-key.left; right = c.loop-key.right } in
    let last : h ≡ rounds keys (first_halves c.args.block.now) =
    sym (rounds_all keys c.loop-key.key-index h (omega arith)) ∙ c.loop-key.invariant in
    let j : c.join.new.bits ≡ h.right ++ h.left = c.join.ensures in
    let p : c.permute-2.result ≡ permuted final_permutation c.join.new.bits = c.permute-2.ensures.value in
    p ∙ ap (permuted final_permutation) j ∙ ap last_block last
