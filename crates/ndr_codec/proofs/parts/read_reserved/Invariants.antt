-- Reading the parts that are left gives what reading all gave.
use Rattle.std.proofs.Common.{◌≡◌, ◌-◌}
use Rattle.ndr_codec.specs.Stub.{reading_by}
use Rattle.ndr_codec.specs.Parts.{reserved}
use Rattle.ndr_codec.proofs.parts.read_reserved.Given as goal

abbrev pub invariant-loop : goal.invariant-loop
invariant-loop l = reading_by (λ refused. refused) (reserved (l.count - l.counter)) l.reader ≡ reading_by (λ refused. refused) (reserved l.count) l.initial.reader
