-- Layouts with the refusals of this crate.
use Rattle.std.specs.Prelude.{ℕ, Result}
use Rattle.ndr_codec.specs.Cursor.{Cursor}
use Rattle.ndr_codec.specs.Reading.{Reading}
use Rattle.ndr_codec.specs.Stub.{LayoutOf, reading_by, ReadsBy, WritesBy}
use Rattle.ndr_codec.specs.Writing.{Written}
pub use Rattle.ndr_codec.specs.Stub.{item, part, after, done, only, placed, each, times, ◌>>=◌, HasLayout}
use Rattle.logon_stubs.specs.declared.refused.StubRefused.{StubRefused}
use Rattle.logon_stubs.specs.declared.refused.StubRefused.TheVariants.{Memory}
use Rattle.logon_stubs.specs.Refusals.{stub_refused}

abbrev pub Layout : Type 0 → Type 1
Layout T = LayoutOf StubRefused T

abbrev pub reading_of : {T : Type 0} → Layout T → Reading T StubRefused
reading_of = reading_by stub_refused

abbrev pub Reads : {T : Type 0} → Layout T → Result T StubRefused → Cursor → Cursor → Type 0
Reads = ReadsBy Memory stub_refused

abbrev pub WritesLayout : {T : Type 0} → Layout T → T → ℕ → Written → Written → Type 0
WritesLayout layout value size old new = WritesBy {E = StubRefused} layout value size old new
