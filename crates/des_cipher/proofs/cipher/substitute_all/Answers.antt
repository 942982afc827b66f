use Rattle.std.proofs.Common.{◌≡◌, ◌+◌, ◌-◌, ◌*◌, ◌<◌, ◌++◌, [], ℕ, length, get_or, take, drop, sym, ap, ◌∙◌, arith}
use Rattle.std.proofs.lemmas.List.{take_all, append_assoc, append-nil}
use Rattle.des_cipher.specs.Cipher.{substituted, substitutions}
use Rattle.des_cipher.specs.Tables.{s_boxes}
use Rattle.des_cipher.proofs.BitLemmas.{take_put}
use Rattle.des_cipher.proofs.CipherLemmas.{substitutions_more, substitutions_all, length-substituted}
use Rattle.des_cipher.proofs.cipher.substitute_all.Goals as goal

pub loop-i-preserved : goal.loop-i-preserved
loop-i-preserved c =
    let i : ℕ = c.loop-i.i in
    let out = c.loop-i.out in
    let bits = c.args.bits.now in
    let box = get_or s_boxes i [] in
    let four : c.substitute.result ≡ substituted box (take (6 * i + 6 - 6 * i) (drop (6 * i) bits)) = c.substitute.ensures in
    let six : 6 * i + 6 - 6 * i ≡ 6 = omega arith in
    let given : c.substitute.result ≡ substituted box (take 6 (drop (6 * i) bits)) = four ∙ ap (λ n. substituted box (take n (drop (6 * i) bits))) six in
    let long : length c.substitute.result ≡ 4 = ap length given ∙ length-substituted box _ in
    let rest = substitutions (drop (i + 1) s_boxes) (drop (6 * (i + 1)) bits) in
    let front : take (4 * (i + 1)) c.put.new.bits ≡ take (4 * i) out ++ c.substitute.result =
    ap (take (4 * (i + 1))) c.put.ensures ∙ take_put out c.substitute.result _ (4 * i) (4 * (i + 1)) (omega arith) (omega arith) in
    let below : i < length s_boxes = c.loop-i-test.true in
    let step : substitutions (drop i s_boxes) (drop (6 * i) bits) ≡ c.substitute.result ++ rest =
    substitutions_more s_boxes bits i (6 * i) (6 * (i + 1)) below (omega arith) ∙ ap (λ z. z ++ rest) (sym given) in
    record {
      room = c.put.auto.bits ∙ c.loop-i.invariant.room;
      done =
          ap (λ z. z ++ rest) front
          ∙ append_assoc (take (4 * i) out) c.substitute.result rest
          ∙ ap (λ z. take (4 * i) out ++ z) (sym step)
          ∙ c.loop-i.invariant.done;
    }

pub returns : goal.returns
returns c =
    let i : ℕ = c.loop-i.i in
    let out = c.loop-i.out in
    let rest = drop (6 * i) c.args.bits.now in
    let none : substitutions (drop i s_boxes) rest ≡ [] = substitutions_all s_boxes rest i c.loop-i-test.false in
    sym (ap (λ z. take (4 * i) out ++ z) none ∙ append-nil (take (4 * i) out) ∙ take_all (4 * i) out (omega arith))
    ∙ c.loop-i.invariant.done
