use Rattle.std.proofs.Common.{◌≡◌, drop}
use Rattle.des_cipher.specs.Cipher.{rounds, first_halves}
use Rattle.des_cipher.proofs.cipher.encipher.Given as goal

abbrev pub invariant-loop-key : goal.invariant-loop-key
invariant-loop-key l =
    rounds (drop l.key-index l.keys) (record { left = l.left; right = l.right }) ≡ rounds l.keys (first_halves l.block)
