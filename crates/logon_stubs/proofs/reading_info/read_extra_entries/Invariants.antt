-- The attributes so far and those that are left are all attributes.
use Rattle.std.proofs.Common.{◌≡◌, ◌-◌}
use Rattle.logon_stubs.specs.Layout.{reading_of}
use Rattle.logon_stubs.specs.Structures.{extra_entries}
use Rattle.ndr_codec.specs.Stub.{behind}
use Rattle.logon_stubs.proofs.reading_info.read_extra_entries.Given as goal

abbrev pub invariant-loop : goal.invariant-loop
invariant-loop l = behind l.attributes (reading_of (extra_entries (l.count - l.counter)) l.reader) ≡ reading_of (extra_entries l.count) l.initial.reader
