-- What becomes of a unit whose sealed range, or whose authentication value, is replaced by as many other bytes; and
-- what a sealed range is, in terms of the unit (MS-RPCE 2.2.2.11).
use Rattle.std.specs.Prelude.{ℕ, ◌≡◌, ◌+◌, ◌-◌, ◌≤◌, ◌++◌, List, take, drop, length, Some, option_map, Ok}
use Rattle.rpc_units.specs.declared.unit.Unit.{Unit as RpcUnit}
use Rattle.rpc_units.specs.declared.unit.Trailer.{Trailer}
use Rattle.rpc_units.specs.Reading.{unit_of}
use Rattle.rpc_units.specs.Joining.{HasStub, with_stub}

-- bytes of which those from place `from` to before place `to` are others
abbrev pub range_replaced : List ℕ → ℕ → ℕ → List ℕ → List ℕ
range_replaced bytes from to range = take from bytes ++ range ++ drop to bytes

-- bytes of which the last 16 are others
abbrev pub value_replaced : List ℕ → List ℕ → List ℕ
value_replaced bytes value = take (length bytes - 16) bytes ++ value

-- the unit with another stub
abbrev pub unit_with_stub : RpcUnit → List ℕ → RpcUnit
unit_with_stub unit stub = record unit { body = with_stub unit.body stub }

-- the unit with another authentication value, where it has a trailer
abbrev pub trailer_with_value : List ℕ → Trailer → Trailer
trailer_with_value value trailer = record trailer { value = value }

abbrev pub unit_with_value : RpcUnit → List ℕ → RpcUnit
unit_with_value unit value = record unit { trailer = option_map (trailer_with_value value) unit.trailer }

-- the bytes are a request or response with a trailer; the range is from its stub to the trailer's 8 bytes, which its
-- value follows to the end
pub record IsSealedRange (bytes : List ℕ) (from to : ℕ) : Type 0 where
  pub unit : RpcUnit
  pub trailer : Trailer
  pub read : unit_of bytes ≡ Ok unit
  pub stub : HasStub unit.body
  pub has : unit.trailer ≡ Some trailer
  pub starts : from ≡ 24
  pub in_order : from ≤ to
  pub ends : to + 8 + length trailer.value ≡ length bytes
  pub value : trailer.value ≡ drop (to + 8) bytes
