-- The identifiers so far and those that are left are all identifiers.
use Rattle.std.proofs.Common.{◌≡◌, drop}
use Rattle.logon_stubs.specs.Layout.{reading_of}
use Rattle.logon_stubs.specs.Structures.{extra_sids}
use Rattle.ndr_codec.specs.Stub.{behind}
use Rattle.logon_stubs.proofs.reading_info.read_extra_sids.Given as goal

abbrev pub invariant-loop-number : goal.invariant-loop-number
invariant-loop-number l = behind l.extra (reading_of (extra_sids (drop l.number-index l.attributes)) l.reader) ≡ reading_of (extra_sids l.attributes) l.initial.reader
