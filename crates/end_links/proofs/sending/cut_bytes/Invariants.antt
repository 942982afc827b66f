-- The bytes so far, with those of the rest, are all; each unit of the rest can be written, and is short.
use Rattle.std.proofs.Common.{◌≡◌, ◌≤◌, ◌++◌, drop, length}
use Rattle.std.specs.List.{flat_map, AllByRecursion}
use Rattle.rpc_units.specs.Writing.{written, IsWritable}
use Rattle.end_links.proofs.sending.cut_bytes.Given as goal

abbrev pub invariant-loop-unit : goal.invariant-loop-unit
invariant-loop-unit l = record {
  so_far : l.bytes.items ++ flat_map written (drop l.unit-index l.unit-items) ≡ flat_map written l.unit-items;
  writable : AllByRecursion IsWritable (drop l.unit-index l.unit-items);
  short : AllByRecursion (λ u. length (written u) ≤ 5840) (drop l.unit-index l.unit-items);
}
