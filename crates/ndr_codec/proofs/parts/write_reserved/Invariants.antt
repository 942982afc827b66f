-- Putting the parts that are left behind what was put gives what putting all gives.
use Rattle.std.proofs.Common.{◌≡◌, ◌-◌}
use Rattle.ndr_codec.specs.Parts.{put_reserved}
use Rattle.ndr_codec.proofs.parts.write_reserved.Given as goal

abbrev pub invariant-loop : goal.invariant-loop
invariant-loop l = put_reserved (l.count - l.counter) l.writer ≡ put_reserved l.count l.initial.writer
