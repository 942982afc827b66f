-- What an end sends on a link: all frames of one call or reply are one send (C706 12.6.4.8 to 12.6.4.10).
use Rattle.std.specs.Prelude.{ℕ, true, List, map, length, None}
use Rattle.std.specs.List.{flat_map}
use Rattle.rpc_units.specs.declared.unit.Unit.{Unit as RpcUnit}
use Rattle.rpc_units.specs.declared.unit.Body.TheVariants.{Request, Response, Fault}
use Rattle.rpc_units.specs.Joining.{cut_of}
use Rattle.rpc_units.specs.Writing.{written}

-- the frames of a call or reply, each for itself
unfoldable pub frames_of : RpcUnit → ℕ → List (List ℕ)
frames_of unit limit = map written (cut_of unit limit)

-- the bytes of all frames, one after the other
abbrev pub joined_frames : List (List ℕ) → List ℕ
joined_frames frames = flat_map (λ (frame : List ℕ). frame) frames

-- a whole request; its hint is the length of its stub
abbrev pub request_of : ℕ → ℕ → ℕ → List ℕ → RpcUnit
request_of call context opnum stub =
    record { first = true; last = true; call = call; body = Request (length stub) context opnum stub; trailer = None }

-- a whole reply; its hint is the length of its stub
abbrev pub response_of : ℕ → ℕ → List ℕ → RpcUnit
response_of call context stub =
    record { first = true; last = true; call = call; body = Response (length stub) context stub; trailer = None }

-- a fault; its hint is 0
abbrev pub fault_of : ℕ → ℕ → ℕ → RpcUnit
fault_of call context status = record { first = true; last = true; call = call; body = Fault 0 context status; trailer = None }
