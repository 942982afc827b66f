-- A call on the wire: from its fragments to the bytes of a stream, and back (C706 12.6.2).
use Rattle.std.specs.Prelude.{ℕ, ◌≡◌, ◌≤◌, ◌+◌, List, [], map, None, Ok}
use Rattle.std.specs.List.{flat_map}
use Rattle.rpc_units.specs.declared.unit.Unit.{Unit as RpcUnit}
use Rattle.rpc_units.specs.Joining.{cut_of, IsWholeCall, AddsTo}
use Rattle.rpc_units.specs.Reading.{unit_of}
use Rattle.rpc_units.specs.Stream.{cut_stream}
use Rattle.rpc_units.specs.Writing.{written, value_len, HasValue, IsInRange}

-- the bytes of its fragments, one after the other, for units of at most `limit` bytes
abbrev pub bytes_of_call : RpcUnit → ℕ → List ℕ
bytes_of_call call limit = flat_map written (cut_of call limit)

-- a whole call whose fragments can be written; `limit` leaves room for a value of 16 bytes, and the unit has at most
-- 5,840
pub record CanBeSent (call : RpcUnit) (limit : ℕ) : Type 0 where
  pub whole : IsWholeCall call
  pub range : IsInRange call
  pub value : HasValue call.trailer
  pub least : 1432 ≤ limit
  pub room : limit + value_len call.trailer ≤ 5840 + 16

-- a stream of just these units and no rest, each of which is read, and which joined are the call
pub record IsHeard (bytes : List ℕ) (units : List RpcUnit) (call : RpcUnit) : Type 0 where
  pub stream : cut_stream bytes ≡ record { units = map written units; rest = []; refused = None }
  pub read : map unit_of (map written units) ≡ map (λ unit. Ok unit) units
  pub joined : AddsTo None units call
