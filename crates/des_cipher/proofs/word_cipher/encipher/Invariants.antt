use Rattle.std.proofs.Common.{◌≡◌, drop, map}
use Rattle.des_cipher.specs.Bits.{number_bits}
use Rattle.des_cipher.specs.Cipher.{rounds, first_halves}
use Rattle.des_cipher.specs.Words.{round_key_bits}
use Rattle.des_cipher.proofs.word_cipher.encipher.Given as goal

abbrev pub invariant-loop-key : goal.invariant-loop-key
invariant-loop-key l =
    rounds (drop l.key-index (map round_key_bits l.keys)) (record { left = number_bits 32 l.left; right = number_bits 32 l.right })
    ≡ rounds (map round_key_bits l.keys) (first_halves (number_bits 64 l.block))
