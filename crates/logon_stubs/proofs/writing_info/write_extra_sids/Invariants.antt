-- The identifiers that are left are put behind those so far, as all are, and those so far have their ranges.
use Rattle.std.proofs.Common.{◌≡◌, take, drop}
use Rattle.std.specs.List.{AllByRecursion}
use Rattle.logon_stubs.specs.Ranges.{InRangeSid}
use Rattle.logon_stubs.specs.Writing.{put_extra_sids}
use Rattle.logon_stubs.proofs.writing_info.write_extra_sids.Given as goal

abbrev pub invariant-loop-identifier : goal.invariant-loop-identifier
invariant-loop-identifier l = record {
  exact : put_extra_sids (drop l.identifier-index l.list) l.writer ≡ put_extra_sids l.list l.initial.writer;
  range : AllByRecursion (λ extra. InRangeSid extra.0) (take l.identifier-index l.list);
}
