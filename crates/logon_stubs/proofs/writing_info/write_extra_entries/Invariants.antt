-- The entries that are left are put behind those so far, as all are, and the attributes so far have their range.
use Rattle.std.proofs.Common.{◌≡◌, ◌<◌, ◌^◌, take, drop}
use Rattle.std.specs.List.{AllByRecursion}
use Rattle.logon_stubs.specs.Writing.{put_extra_entries}
use Rattle.logon_stubs.proofs.writing_info.write_extra_entries.Given as goal

abbrev pub invariant-loop-attributes : goal.invariant-loop-attributes
invariant-loop-attributes l = record {
  exact : put_extra_entries (drop l.attributes-index l.list) l.writer ≡ put_extra_entries l.list l.initial.writer;
  range : AllByRecursion (λ extra. extra.1 < 2 ^ 32) (take l.attributes-index l.list);
}
