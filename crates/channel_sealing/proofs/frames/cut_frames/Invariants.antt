-- The frames so far, with those of the rest, are all; each unit of the rest can be written, and is short.
use Rattle.std.proofs.Common.{◌≡◌, ◌++◌, ◌≤◌, ◌+◌, length, drop, map}
use Rattle.std.specs.List.{AllByRecursion}
use Rattle.rpc_units.specs.Writing.{written, value_len, IsWritable}
use Rattle.channel_sealing.proofs.frames.cut_frames.Given as goal

abbrev pub invariant-loop-unit : goal.invariant-loop-unit
invariant-loop-unit l = record {
  so_far : l.frames ++ map written (drop l.unit-index l.unit-items) ≡ map written l.unit-items;
  writable : AllByRecursion IsWritable (drop l.unit-index l.unit-items);
  short : AllByRecursion (λ u. length (written u) + 16 ≤ l.limit + value_len l.call.trailer) (drop l.unit-index l.unit-items);
}
