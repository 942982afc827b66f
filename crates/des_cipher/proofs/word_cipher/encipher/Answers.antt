use Rattle.std.proofs.Common.{◌≡◌, ℕ, ◌<◌, ◌*◌, ◌^◌, ◌%◌, ◌∙◌, List, [], Bool, ap, ap₂, sym, drop, take, map, length, get_or, bit_or, bit_xor, bit_and, ◌/◌, arith}
use Rattle.std.proofs.lemmas.List.{length-map, get_or-map}
use Rattle.des_cipher.specs.Bits.{permuted, combined, number_bits}
use Rattle.des_cipher.specs.Cipher.{Halves, rounds, first_halves, last_block, cipher, mixed}
use Rattle.des_cipher.specs.Tables.{initial_permutation, final_permutation}
use Rattle.des_cipher.proofs.CipherLemmas.{rounds_more, rounds_all}
use Rattle.des_cipher.specs.Words.{round_key_bits}
use Rattle.des_cipher.proofs.Halving.{left_half, right_half, both_halves}
use Rattle.des_cipher.proofs.RoundLemmas.{number_bits-xor}
use Rattle.des_cipher.proofs.word_cipher.encipher.Goals as goal

pub loop-key-init : goal.loop-key-init
loop-key-init c =
    let keys = map round_key_bits c.args.keys.now in
    let x : ℕ = c.initial-first.result in
    let l : number_bits 32 (x / 2 ^ 32) ≡ take 32 (permuted initial_permutation (number_bits 64 c.args.block)) = left_half x ∙ ap (take 32) c.initial-first.ensures in
    let r : number_bits 32 (bit_and x 4294967295) ≡ drop 32 (permuted initial_permutation (number_bits 64 c.args.block)) = right_half x ∙ ap (drop 32) c.initial-first.ensures in
    ap₂ (λ (y z : List Bool). rounds keys (record { left = y; right = z })) l r

pub loop-key-preserved : goal.loop-key-preserved
loop-key-preserved c =
    let ks = c.args.keys.now in
    let i : ℕ = c.loop-key.key-index in
    let left : List Bool = number_bits 32 c.loop-key.left in
    let right : List Bool = number_bits 32 c.loop-key.right in
    let within : i < length ks = omega arith in
    let key : get_or (map round_key_bits ks) i [] ≡ round_key_bits (get_or ks i (record { odd = 0; even = 0 })) = get_or-map round_key_bits ks i (record { odd = 0; even = 0 }) [] within in
    let next : number_bits 32 (bit_xor c.loop-key.left c.mix.result) ≡ combined left (mixed right (get_or (map round_key_bits ks) i [])) =
    number_bits-xor 32 c.loop-key.left c.mix.result ∙ ap (combined left) (c.mix.ensures ∙ ap (mixed right) (sym key)) in
    rounds_more (map round_key_bits ks) i left right (number_bits 32 (bit_xor c.loop-key.left c.mix.result)) (omega (arith, length-map ks round_key_bits, within)) next
    ∙ c.loop-key.invariant

pub returns : goal.returns
unfolding cipher
returns c =
    let ks = c.args.keys.now in
    let block : List Bool = number_bits 64 c.args.block in
    let h : Halves = record { left = number_bits 32 c.loop-key.left; right = number_bits 32 c.loop-key.right } in
    let last : h ≡ rounds (map round_key_bits ks) (first_halves block) =
    sym (rounds_all (map round_key_bits ks) c.loop-key.key-index h (omega (arith, length-map ks round_key_bits))) ∙ c.loop-key.invariant in
    let parts : bit_or (c.from.result * 2 ^ 32 % 2 ^ 64) c.from-2.result ≡ bit_or (c.loop-key.right * 2 ^ 32 % 2 ^ 64) c.loop-key.left =
    ap₂ (λ (y z : ℕ). bit_or (y * 2 ^ 32 % 2 ^ 64) z) c.from.ensures c.from-2.ensures in
    c.last.ensures
    ∙ ap (permuted final_permutation) (ap (number_bits 64) parts ∙ both_halves c.loop-key.right c.loop-key.left c.loop-key.auto.left-fits.fits)
    ∙ ap last_block last
