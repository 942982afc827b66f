-- A unit that one side of a session signs or seals, as the other takes it (MS-RPCE 2.2.2.11, MS-NLMP 3.4.2 to 3.4.4).
use Rattle.std.specs.Prelude.{ℕ, ◌≡◌, ◌+◌, ◌-◌, ◌<◌, ◌^◌, Bool, List, length, Some, Ok}
use Rattle.ntlm_seal.specs.Sessions.{SessionState}
use Rattle.ntlm_seal.specs.Turns.{Paired}
use Rattle.rpc_units.specs.declared.unit.Trailer.{Trailer}
use Rattle.rpc_units.specs.declared.unit.Unit.{Unit as RpcUnit}
use Rattle.rpc_units.specs.Joining.{HasStub}
use Rattle.rpc_units.specs.Reading.{unit_of}
use Rattle.rpc_units.specs.Sealed.{unit_with_stub, unit_with_value}
use Rattle.rpc_units.specs.Writing.{IsSendable, written}
use Rattle.unit_security.specs.Securing.{open_unit, secure_unit}

-- a request or response that can be sent, whose trailer has room for a signature
pub record HasRoom (unit : RpcUnit) : Type 0 where
  pub sends : IsSendable unit
  pub stub : HasStub unit.body
  pub trailer : Trailer
  pub has : unit.trailer ≡ Some trailer
  pub room : length trailer.value ≡ 16

-- what travels of a unit, and both sessions afterwards: it is read as the same unit with another stub and its
-- signature, and is opened to the unit with its signature; both sessions are in step again
pub record Travels (seals : Bool) (unit : RpcUnit) (one other : SessionState) : Type 0 where
  pub sent : List ℕ
  pub stub : List ℕ
  pub signature : List ℕ
  pub later : SessionState
  pub next : SessionState
  pub sixteen : length signature ≡ 16
  pub size : length sent ≡ length (written unit)
  pub read : unit_of sent ≡ Ok (unit_with_value (unit_with_stub unit stub) signature)
  pub paired : Paired later next
  pub count : later.sending.number ≡ one.sending.number + 1
  pub back : next.sending ≡ other.sending
  pub secured : secure_unit seals one (written unit) ≡ Some (record { bytes = sent; session = later })
  pub opened : open_unit seals other sent
      ≡ Some (record { bytes = written (unit_with_value unit signature); session = next })

-- Each unit with room goes through, where both sessions are in step and the sender's number isn't the last.
abbrev pub SecuredIsOpened : Type 0
SecuredIsOpened = (seals : Bool) (unit : RpcUnit) (one other : SessionState) → HasRoom unit → Paired one other → one.sending.number < 2 ^ 32 - 1 →
    Travels seals unit one other
