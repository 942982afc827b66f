-- The bytes so far, with those of the rest, are all, and as many as are written; each unit of the rest can be written,
-- and is short.
use Rattle.std.proofs.Common.{◌≡◌, ◌≤◌, ◌+◌, drop, length}
use Rattle.std.specs.List.{flat_map, AllByRecursion}
use Rattle.rpc_units.specs.Writing.{written, value_len, IsWritable}
use Rattle.unit_security.specs.Securing.{behind, secure_all}
use Rattle.unit_security.proofs.securing.secure_fragments.Given as goal

abbrev pub invariant-loop-unit : goal.invariant-loop-unit
invariant-loop-unit l = record {
  so_far : behind l.bytes.items (secure_all l.seals l.session (drop l.unit-index l.unit-items)) ≡ secure_all l.seals l.fn.session l.unit-items;
  size : length l.bytes.items + length (flat_map written (drop l.unit-index l.unit-items)) ≡ length (flat_map written l.unit-items);
  writable : AllByRecursion IsWritable (drop l.unit-index l.unit-items);
  short : AllByRecursion (λ u. length (written u) + 16 ≤ l.limit + value_len l.call.trailer) (drop l.unit-index l.unit-items);
}
