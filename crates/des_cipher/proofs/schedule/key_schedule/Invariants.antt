use Rattle.std.proofs.Common.{◌≡◌, ◌++◌, take, drop, length}
use Rattle.des_cipher.specs.Schedule.{round_keys, round_keys_from}
use Rattle.des_cipher.specs.Tables.{rotations}
use Rattle.des_cipher.proofs.schedule.key_schedule.Given as goal

abbrev pub invariant-loop-i : goal.invariant-loop-i
invariant-loop-i l = record {
  room : length l.keys ≡ 16;
  long_c : length l.c ≡ 28;
  long_d : length l.d ≡ 28;
  done : take l.i l.keys ++ round_keys_from (drop l.i rotations) l.c l.d ≡ round_keys l.key;
}
