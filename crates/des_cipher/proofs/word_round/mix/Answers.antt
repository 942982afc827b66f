use Rattle.std.proofs.Common.{◌≡◌, ℕ, ◌+◌, ◌-◌, ◌*◌, ◌<◌, ◌≤◌, ◌/◌, ◌^◌, ◌%◌, ◌++◌, ◌∙◌, List, [], Bool, false, replicate, length, bit_and, bit_or, bit_xor, ap, refl, arith, lit≤, slice_index_or}
use Rattle.std.proofs.lemmas.List.{length-append}
use Rattle.std.specs.Int.{bit_at}
use Rattle.des_cipher.proofs.CipherLemmas.{length-substituted}
use Rattle.des_cipher.specs.Bits.{number_bits, combined, permuted}
use Rattle.des_cipher.specs.Cipher.{mixed, substituted, substitutions}
use Rattle.des_cipher.specs.Tables.{round_permutation, s_boxes}
use Rattle.des_cipher.specs.Words.{joined, in_place, key_bits, interleaved}
use Rattle.des_cipher.proofs.Places.{read}
use Rattle.des_cipher.proofs.RoundLemmas.{six_bits, gathered, before_rotation}
use Rattle.des_cipher.proofs.word_round.mix.Goals as goal

-- the six bits of a half and a word
six : ℕ → ℕ → ℕ → ℕ → ℕ → List Bool
six n o k r s = combined (read (λ j. bit_at n (before_rotation k r (s + j))) 6) (read (λ j. bit_at o (s + j)) 6)

four : ℕ → List Bool → List Bool
four box bits = substituted (slice_index_or s_boxes box []) bits

length-four : (box : ℕ) (bits : List Bool) → length (four box bits) ≡ 4
unfolding four
length-four box bits = length-substituted (slice_index_or s_boxes box []) bits

-- an entry by the bits of the half and the round key
placed : (box v t : ℕ) (bits : List Bool) → number_bits 32 t ≡ joined box v → number_bits 6 v ≡ bits → number_bits 32 t ≡ permuted round_permutation (replicate (4 * box) false ++ (four box bits ++ replicate (28 - 4 * box) false))
unfolding joined in_place four
placed box v t bits e b =
    e ∙ ap (λ z. permuted round_permutation (replicate (4 * box) false ++ (substituted (slice_index_or s_boxes box []) z ++ replicate (28 - 4 * box) false))) b

step : (front : List Bool) (box : ℕ) (bits : List Bool) (m r w t : ℕ) → length front ≡ 4 * box → m ≡ 4 + r → number_bits 32 w ≡ permuted round_permutation (front ++ replicate m false) → number_bits 32 t ≡ permuted round_permutation (replicate (4 * box) false ++ (four box bits ++ replicate r false)) → number_bits 32 (bit_xor w t) ≡ permuted round_permutation ((front ++ four box bits) ++ replicate r false)
step front box bits m r w t long room ew et =
    gathered round_permutation front (four box bits) (4 * box) m r w t long (omega (arith, room, length-four box bits)) ew et

six_of : (n o k r s u : ℕ) → u ≡ bit_or (n * 2 ^ k % 2 ^ 32) (n / 2 ^ r) → k + r ≡ 32 → n < 2 ^ 32 → s + 6 ≤ 32 → number_bits 6 (bit_and (bit_xor u o / 2 ^ s) 63) ≡ six n o k r s
unfolding six
six_of n o k r s u e h fits within =
    ap (λ z. number_bits 6 (bit_and (bit_xor z o / 2 ^ s) 63)) e ∙ six_bits n o k r s h fits within

-- all groups in their order
laid_out : (n a b : ℕ) → permuted round_permutation ((((((((four 0 (six n a 31 1 26) ++ four 1 (six n b 3 29 26)) ++ four 2 (six n a 31 1 18)) ++ four 3 (six n b 3 29 18)) ++ four 4 (six n a 31 1 10)) ++ four 5 (six n b 3 29 10)) ++ four 6 (six n a 31 1 2)) ++ four 7 (six n b 3 29 2)) ++ replicate 0 false) ≡ mixed (number_bits 32 n) (key_bits a b)
unfolding mixed substitutions substituted key_bits interleaved six four read number_bits combined permuted before_rotation
laid_out n a b = refl

pub returns : goal.returns
returns c =
    let n : ℕ = c.args.half in
    let a : ℕ = c.args.odd in
    let b : ℕ = c.args.even in
    let fits : n < 2 ^ 32 = omega (arith, c.ranges.half.fits) in
    let e0 = placed 0 _ c.entry.result (six n a 31 1 26) c.entry.ensures (six_of n a 31 1 26 c.rotate_left.result c.rotate_left.ensures refl fits (lit≤ tt)) in
    let e1 = placed 1 _ c.entry-2.result (six n b 3 29 26) c.entry-2.ensures (six_of n b 3 29 26 c.rotate_left-2.result c.rotate_left-2.ensures refl fits (lit≤ tt)) in
    let e2 = placed 2 _ c.entry-3.result (six n a 31 1 18) c.entry-3.ensures (six_of n a 31 1 18 c.rotate_left.result c.rotate_left.ensures refl fits (lit≤ tt)) in
    let e3 = placed 3 _ c.entry-4.result (six n b 3 29 18) c.entry-4.ensures (six_of n b 3 29 18 c.rotate_left-2.result c.rotate_left-2.ensures refl fits (lit≤ tt)) in
    let e4 = placed 4 _ c.entry-5.result (six n a 31 1 10) c.entry-5.ensures (six_of n a 31 1 10 c.rotate_left.result c.rotate_left.ensures refl fits (lit≤ tt)) in
    let e5 = placed 5 _ c.entry-6.result (six n b 3 29 10) c.entry-6.ensures (six_of n b 3 29 10 c.rotate_left-2.result c.rotate_left-2.ensures refl fits (lit≤ tt)) in
    let e6 = placed 6 _ c.entry-7.result (six n a 31 1 2) c.entry-7.ensures (six_of n a 31 1 2 c.rotate_left.result c.rotate_left.ensures refl fits (lit≤ tt)) in
    let e7 = placed 7 _ c.entry-8.result (six n b 3 29 2) c.entry-8.ensures (six_of n b 3 29 2 c.rotate_left-2.result c.rotate_left-2.ensures refl fits (lit≤ tt)) in
    let f0 = four 0 (six n a 31 1 26) in
    let l0 : length f0 ≡ 4 = length-four 0 (six n a 31 1 26) in
    let g1 = step f0 1 (six n b 3 29 26) 28 24 (c.entry.result) c.entry-2.result l0 refl e0 e1 in
    let f1 = f0 ++ four 1 (six n b 3 29 26) in
    let l1 : length f1 ≡ 8 = omega (arith, length-append f0 (four 1 (six n b 3 29 26)), l0, length-four 1 (six n b 3 29 26)) in
    let g2 = step f1 2 (six n a 31 1 18) 24 20 (bit_xor c.entry.result c.entry-2.result) c.entry-3.result l1 refl g1 e2 in
    let f2 = f1 ++ four 2 (six n a 31 1 18) in
    let l2 : length f2 ≡ 12 = omega (arith, length-append f1 (four 2 (six n a 31 1 18)), l1, length-four 2 (six n a 31 1 18)) in
    let g3 = step f2 3 (six n b 3 29 18) 20 16 (bit_xor (bit_xor c.entry.result c.entry-2.result) c.entry-3.result) c.entry-4.result l2 refl g2 e3 in
    let f3 = f2 ++ four 3 (six n b 3 29 18) in
    let l3 : length f3 ≡ 16 = omega (arith, length-append f2 (four 3 (six n b 3 29 18)), l2, length-four 3 (six n b 3 29 18)) in
    let g4 = step f3 4 (six n a 31 1 10) 16 12 (bit_xor (bit_xor (bit_xor c.entry.result c.entry-2.result) c.entry-3.result) c.entry-4.result) c.entry-5.result l3 refl g3 e4 in
    let f4 = f3 ++ four 4 (six n a 31 1 10) in
    let l4 : length f4 ≡ 20 = omega (arith, length-append f3 (four 4 (six n a 31 1 10)), l3, length-four 4 (six n a 31 1 10)) in
    let g5 = step f4 5 (six n b 3 29 10) 12 8 (bit_xor (bit_xor (bit_xor (bit_xor c.entry.result c.entry-2.result) c.entry-3.result) c.entry-4.result) c.entry-5.result) c.entry-6.result l4 refl g4 e5 in
    let f5 = f4 ++ four 5 (six n b 3 29 10) in
    let l5 : length f5 ≡ 24 = omega (arith, length-append f4 (four 5 (six n b 3 29 10)), l4, length-four 5 (six n b 3 29 10)) in
    let g6 = step f5 6 (six n a 31 1 2) 8 4 (bit_xor (bit_xor (bit_xor (bit_xor (bit_xor c.entry.result c.entry-2.result) c.entry-3.result) c.entry-4.result) c.entry-5.result) c.entry-6.result) c.entry-7.result l5 refl g5 e6 in
    let f6 = f5 ++ four 6 (six n a 31 1 2) in
    let l6 : length f6 ≡ 28 = omega (arith, length-append f5 (four 6 (six n a 31 1 2)), l5, length-four 6 (six n a 31 1 2)) in
    let g7 = step f6 7 (six n b 3 29 2) 4 0 (bit_xor (bit_xor (bit_xor (bit_xor (bit_xor (bit_xor c.entry.result c.entry-2.result) c.entry-3.result) c.entry-4.result) c.entry-5.result) c.entry-6.result) c.entry-7.result) c.entry-8.result l6 refl g6 e7 in
    g7 ∙ laid_out n a b
