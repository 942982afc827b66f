-- What of a unit on a sealed link is sealed (MS-RPCE 2.2.2.11, MS-NRPC 3.3): the stub and its padding of a request or
-- response whose trailer is Netlogon's, at the level at which stubs are sealed, with a value of 32 bytes.
use Rattle.std.specs.Prelude.{ℕ, ◌≡◌, ◌≤◌, ◌+◌, ◌==◌, ◌&&◌, Bool, true, false, List, length, Option, Some, None, Result, Ok, Err}
use Rattle.rpc_units.specs.declared.refused.UnitRefused.{UnitRefused}
use Rattle.rpc_units.specs.declared.unit.Body.{Body}
use Rattle.rpc_units.specs.declared.unit.Body.TheVariants.{Auth3, Bind, BindAck, BindNak, Fault, Request, Response}
use Rattle.rpc_units.specs.declared.unit.Trailer.{Trailer}
use Rattle.rpc_units.specs.declared.unit.Unit.{Unit as RpcUnit}
use Rattle.rpc_units.specs.Numbers.{privacy_level}
use Rattle.rpc_units.specs.Reading.{unit_of}
use Rattle.channel_sealing.specs.declared.parts.SealedPart.{SealedPart}
use Rattle.channel_sealing.specs.declared.parts.SealedPart.TheVariants as part
use Rattle.channel_sealing.specs.Frames.{range_of}
use Rattle.channel_sealing.specs.Trailers.{netlogon_provider}

abbrev pub has_sealed_part : Body → Bool
has_sealed_part (Request hint context opnum stub) = true
has_sealed_part (Response hint context stub) = true
has_sealed_part (Bind send receive group contexts) = false
has_sealed_part (BindAck send receive group results) = false
has_sealed_part (BindNak reason) = false
has_sealed_part Auth3 = false
has_sealed_part (Fault hint context status) = false

abbrev pub is_own_trailer : Option Trailer → Bool
is_own_trailer None = false
is_own_trailer (Some trailer) = (trailer.kind == netlogon_provider) && (trailer.level == privacy_level)

abbrev pub part_if : (is_own : Bool) (range : Option (ℕ × ℕ)) → SealedPart
part_if false range = part.Missing
part_if true None = part.Missing
part_if true (Some range) = part.Range range.0 range.1

abbrev pub part_by : (has_one : Bool) (found : SealedPart) → SealedPart
part_by false found = part.Nothing
part_by true found = found

-- what can't be read has none
abbrev pub part_with : Result RpcUnit UnitRefused → (range : Option (ℕ × ℕ)) → SealedPart
part_with (Err why) range = part.Nothing
part_with (Ok unit) range = part_by (has_sealed_part unit.body) (part_if (is_own_trailer unit.trailer) range)

abbrev pub sealed_part_of : List ℕ → SealedPart
sealed_part_of bytes = part_with (unit_of bytes) (range_of bytes)

-- the signature stands behind the range, and the trailer's 8 bytes between them
abbrev pub IsInUnit : List ℕ → SealedPart → Type 0
IsInUnit bytes part.Nothing = Unit {0}
IsInUnit bytes (part.Range from to) = (from ≤ to) × (to + 40 ≡ length bytes)
IsInUnit bytes part.Missing = Unit {0}
