use Rattle.std.proofs.Common.{◌≡◌, ◌≤◌, ◌<◌, ◌+◌, ℕ, [], ◌∷◌, ◌++◌, ◌∙◌, ap, sym, refl, arith, get_or, length, take, drop}
use Rattle.std.proofs.lemmas.List.{take_more_set, take_all, append_assoc, append-nil, length-set}
use Rattle.des_cipher.specs.Bits.{permuted}
use Rattle.des_cipher.specs.Schedule.{rotated, round_keys, round_keys_from}
use Rattle.des_cipher.specs.Tables.{rotations, round_key_choice, key_choice_c, key_choice_d}
use Rattle.des_cipher.proofs.CipherLemmas.{round_keys_from_more, round_keys_from_all, length-rotated, rotations_small}
use Rattle.des_cipher.proofs.schedule.key_schedule.Goals as goal

pub loop-i-init : goal.loop-i-init
unfolding round_keys
loop-i-init c =
    let key = c.args.key.now in
    let c0 : c.permute-c.result ≡ permuted key_choice_c key = c.permute-c.ensures.value in
    let d0 : c.permute-d.result ≡ permuted key_choice_d key = c.permute-d.ensures.value in
    record {
      room = refl;
      long_c = c.permute-c.ensures.len;
      long_d = c.permute-d.ensures.len;
      done = ap (λ z. round_keys_from rotations z c.permute-d.result) c0 ∙ ap (round_keys_from rotations (permuted key_choice_c key)) d0;
    }

pub rotate_left-requires-in-loop-i : goal.rotate_left-requires-in-loop-i
rotate_left-requires-in-loop-i c =
    let small : get_or rotations c.loop-i.i 0 ≤ 2 = rotations_small c.loop-i.i c.loop-i-test.true in
    omega (arith, c.loop-i.invariant.long_d)

pub loop-i-preserved : goal.loop-i-preserved
loop-i-preserved c =
    let i : ℕ = c.loop-i.i in
    let keys = c.loop-i.keys in
    let n : ℕ = get_or rotations i 0 in
    let small : n ≤ 2 = rotations_small i c.loop-i-test.true in
    let c1 : c.rotate_left.new.self ≡ rotated n c.loop-i.c = c.rotate_left.ensures.after in
    let d1 : c.rotate_left-in-loop-i.new.self ≡ rotated n c.loop-i.d = c.rotate_left-in-loop-i.ensures.after in
    let j : c.join.new.bits ≡ rotated n c.loop-i.c ++ rotated n c.loop-i.d =
    c.join.ensures ∙ ap (λ z. z ++ c.rotate_left-in-loop-i.new.self) c1 ∙ ap (λ z. rotated n c.loop-i.c ++ z) d1 in
    let k : c.permute.result ≡ permuted round_key_choice (rotated n c.loop-i.c ++ rotated n c.loop-i.d) =
    c.permute.ensures.value ∙ ap (permuted round_key_choice) j in
    let rest = round_keys_from (drop (i + 1) rotations) (rotated n c.loop-i.c) (rotated n c.loop-i.d) in
    let below : i < length rotations = c.loop-i-test.true in
    let step : round_keys_from (drop i rotations) c.loop-i.c c.loop-i.d ≡ c.permute.result ∷ rest =
    round_keys_from_more rotations c.loop-i.c c.loop-i.d i below ∙ ap (λ z. z ∷ rest) (sym k) in
    record {
      room = length-set keys i c.permute.result ∙ c.loop-i.invariant.room;
      long_c = ap length c1 ∙ length-rotated n c.loop-i.c (omega (arith, c.loop-i.invariant.long_c)) ∙ c.loop-i.invariant.long_c;
      long_d = ap length d1 ∙ length-rotated n c.loop-i.d (omega (arith, c.loop-i.invariant.long_d)) ∙ c.loop-i.invariant.long_d;
      done =
          ap (λ z. z ++ round_keys_from (drop (i + 1) rotations) c.rotate_left.new.self c.rotate_left-in-loop-i.new.self) (take_more_set keys i c.permute.result (omega (arith, c.loop-i.invariant.room)))
          ∙ append_assoc (take i keys) (c.permute.result ∷ []) _
          ∙ ap (λ z. take i keys ++ c.permute.result ∷ round_keys_from (drop (i + 1) rotations) z c.rotate_left-in-loop-i.new.self) c1
          ∙ ap (λ z. take i keys ++ c.permute.result ∷ round_keys_from (drop (i + 1) rotations) (rotated n c.loop-i.c) z) d1
          ∙ ap (λ z. take i keys ++ z) (sym step)
          ∙ c.loop-i.invariant.done;
    }

pub returns : goal.returns
returns c =
    let i : ℕ = c.loop-i.i in
    let keys = c.loop-i.keys in
    let none : round_keys_from (drop i rotations) c.loop-i.c c.loop-i.d ≡ [] =
    round_keys_from_all rotations c.loop-i.c c.loop-i.d i c.loop-i-test.false in
    sym (ap (λ z. take i keys ++ z) none ∙ append-nil (take i keys) ∙ take_all i keys (omega (arith, c.loop-i.invariant.room)))
    ∙ c.loop-i.invariant.done
