use Rattle.std.proofs.Common.{◌≡◌, ◌^◌, ◌<◌, take}
use Rattle.des_cipher.specs.Bits.{number_of}
use Rattle.des_cipher.proofs.bits.number.Given as goal

abbrev pub invariant-loop-bit : goal.invariant-loop-bit
invariant-loop-bit l = record {
  value : l.value ≡ number_of (take l.bit-index l.bits);
  below : l.value < 2 ^ l.bit-index;
}
