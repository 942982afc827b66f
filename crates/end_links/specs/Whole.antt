-- That what an end sends is whole: the bytes of one whole unit, in one fragment or more (C706 12.6.2), with room in one
-- piece of a link (this project's own choice).
use Rattle.std.specs.Prelude.{ℕ, ◌≡◌, ◌≤◌, ◌<◌, ◌^◌, ◌+◌, List, length}
use Rattle.wire_base.specs.Numbers.{AreBytes}
use Rattle.outside.specs.declared.action.Action.{Action}
use Rattle.outside.specs.declared.action.Action.TheVariants as action
use Rattle.rpc_units.specs.declared.unit.Syntax.{Syntax}
use Rattle.rpc_units.specs.declared.unit.Unit.{Unit as RpcUnit}
use Rattle.rpc_units.specs.Calls.{IsHeard, bytes_of_call}
use Rattle.rpc_units.specs.Writing.{written}
use Rattle.rpc_units.specs.Numbers.{context_limit}
use Rattle.end_links.specs.Binding.{ack_of, bind_of, nak_of}
use Rattle.end_links.specs.Bounds.{send_limit}
use Rattle.end_links.specs.Sending.{fault_of, frames_of, joined_frames, request_of, response_of}

-- bytes of one whole unit, which have room in one piece of a link
pub record IsWholeSend (bytes : List ℕ) : Type 0 where
  pub are : AreBytes bytes
  pub frames : List RpcUnit
  pub unit : RpcUnit
  pub heard : IsHeard bytes frames unit
  pub few : length bytes ≤ 65536

abbrev pub IsWholeIfSent : Action → Type 0
IsWholeIfSent (action.Send link bytes) = IsWholeSend bytes
IsWholeIfSent (action.Keep bytes) = Unit {0}
IsWholeIfSent (action.Dial peer) = Unit {0}
IsWholeIfSent (action.Close link cause) = Unit {0}
IsWholeIfSent (action.Told link outcome) = Unit {0}
IsWholeIfSent (action.Judged how) = Unit {0}

-- bytes, and no more than an end sends at once
pub record IsByteSend (bytes : List ℕ) : Type 0 where
  pub are : AreBytes bytes
  pub short : length bytes ≤ send_limit

-- ---- the most stub bytes of what is sent whole (this project's own choice)

-- the texts and the responses of a logon
abbrev pub content_limit : ℕ
content_limit = 57000

-- the names of the server, the computer and the account that a call is made for
abbrev pub names_limit : ℕ
names_limit = 809

-- a call's fields of fixed width, what stands before its texts, and the gaps between them
abbrev pub fields_limit : ℕ
fields_limit = 400

-- The stub of a call or a reply. With 24 bytes for the header of each of its fragments, of 1,432 bytes or more, it has
-- room in one piece of a link, of 65,536.
abbrev pub whole_limit : ℕ
whole_limit = content_limit + names_limit + fields_limit

-- ---- laws

-- The units that ends send are whole, where their numbers have their widths and their stubs are bytes, and no more than
-- leave room for the headers of their fragments (`whole_limit`).
pub record UnitsAreWhole : Type 0 where
  pub bind : (interface : Syntax) (call : ℕ) → length interface.uuid ≡ 16 → AreBytes interface.uuid → interface.version < 2 ^ 32 → call < 2 ^ 32 →
      IsWholeSend (written (bind_of interface call))
  pub ack : (served : Syntax) (call receive : ℕ) (contexts : List (ℕ × Syntax × List Syntax)) → call < 2 ^ 32 → length contexts ≤ context_limit →
      IsWholeSend (written (ack_of served call receive contexts))
  pub nak : (call : ℕ) → call < 2 ^ 32 → IsWholeSend (written (nak_of call))
  pub fault : (call context status : ℕ) → call < 2 ^ 32 → context < 2 ^ 16 → status < 2 ^ 32 → IsWholeSend (written (fault_of call context status))
  -- the frames of a request, joined
  pub request : (call context opnum limit : ℕ) (stub : List ℕ) → call < 2 ^ 32 → context < 2 ^ 16 → opnum < 2 ^ 16 → 1432 ≤ limit → limit ≤ 5840 →
      length stub ≤ whole_limit → AreBytes stub → IsWholeSend (joined_frames (frames_of (request_of call context opnum stub) limit))
  pub response : (call context limit : ℕ) (stub : List ℕ) → call < 2 ^ 32 → context < 2 ^ 16 → 1432 ≤ limit → limit ≤ 5840 → length stub ≤ whole_limit →
      AreBytes stub → IsWholeSend (bytes_of_call (response_of call context stub) limit)
