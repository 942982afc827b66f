-- What a unit on a link comes to at a controller that can seal (MS-NRPC 3.3, 2.2.1.3.1; MS-RPCE 2.2.2.11; C706 12.6.3;
-- which unit closes a link is this project's own choice). `Hearing` has what comes of units on other links, and of what
-- is found in a sealed one.
use Rattle.std.specs.Prelude.{ℕ, ◌==◌, ◌||◌, Bool, true, false, List, Option, Some, None, Result, Ok, Err}
use Rattle.outside.specs.declared.action.CloseCause.{CloseCause}
use Rattle.outside.specs.declared.action.CloseCause.TheVariants as close
use Rattle.rpc_units.specs.declared.unit.Syntax.{Syntax}
use Rattle.rpc_units.specs.declared.unit.Unit.{Unit as RpcUnit}
use Rattle.rpc_units.specs.declared.unit.Body.{Body}
use Rattle.rpc_units.specs.declared.unit.Body.TheVariants.{Auth3, Bind, BindAck, BindNak, Fault, Request, Response}
use Rattle.rpc_units.specs.declared.unit.Trailer.{Trailer}
use Rattle.rpc_units.specs.declared.refused.UnitRefused.{UnitRefused}
use Rattle.rpc_units.specs.Reading.{unit_of}
use Rattle.rpc_units.specs.Writing.{written}
use Rattle.logon_stubs.specs.Interface.{netlogon_syntax}
use Rattle.end_links.specs.Agreed.{Agreed}
use Rattle.end_links.specs.Binding.{binding_of}
use Rattle.channel_sealing.specs.Frames.{range_of}
use Rattle.channel_sealing.specs.Names.{bind_names_of}
use Rattle.channel_sealing.specs.Parts.{is_own_trailer, part_if}
use Rattle.channel_sealing.specs.Trailers.{sealed_ack_of}
use Rattle.channel_sealing.specs.declared.parts.SealedPart.{SealedPart}
use Rattle.channel_sealing.specs.declared.parts.SealedPart.TheVariants as part
use Rattle.controller_calls.specs.Binds.{FewContexts}
use Rattle.controller_calls.specs.Seals.{OpenedUnit, link_bound, open_unit, stands}
use Rattle.controller_calls.specs.declared.seals.ChannelSeals.{ChannelSeals}
use Rattle.controller_calls.specs.declared.seals.LinkSeal.{LinkSeal}
use Rattle.domain_controller.specs.Hearing.{bound_talk, hear_bound, hear_fresh, hear_on, hear_sealed_bind}
use Rattle.domain_controller.specs.declared.hearing.Heard.{Heard}
use Rattle.domain_controller.specs.declared.hearing.Heard.TheVariants as heard
use Rattle.domain_controller.specs.declared.seal_hearing.SealHeard.{SealHeard}
use Rattle.domain_controller.specs.declared.state.Talk.{Talk}

-- what changes nothing of what is kept
abbrev pub only_heard : Heard → ChannelSeals → SealHeard
only_heard what seals = record { heard = what; seals = seals; bound = None }

-- ---- a bind with a trailer, on a link that isn't bound

-- a unit with a trailer has few contexts
abbrev pub LeavesRoom : Body → Option Trailer → Type 0
LeavesRoom body None = Unit {0}
LeavesRoom body (Some trailer) = FewContexts body

-- A bind of the channel that stands for the computer is answered by a bind_ack with a trailer, and the link is bound
-- and sealed by it. It belongs to that channel.
abbrev pub bind_sealed : LinkSeal → (call receive : ℕ) → List (ℕ × Syntax × List Syntax) → Option RpcUnit → ChannelSeals → SealHeard
bind_sealed link call receive contexts joiner seals = record {
  heard = heard.Answer (written (sealed_ack_of netlogon_syntax call receive contexts link.context))
      (bound_talk joiner (binding_of netlogon_syntax receive contexts));
  seals = seals;
  bound = Some link;
}

-- a bind by the channel that stands for its computer: without one it is refused
abbrev pub bind_by : Option LinkSeal → (call receive : ℕ) → List (ℕ × Syntax × List Syntax) → Option RpcUnit → ChannelSeals → SealHeard
bind_by None call receive contexts joiner seals = only_heard (hear_sealed_bind call joiner) seals
bind_by (Some link) call receive contexts joiner seals = bind_sealed link call receive contexts joiner seals

-- by the names that it tells, the domain's and the computer's, of which the domain's isn't looked at
abbrev pub bind_with : (is_own : Bool) → Trailer → (call receive : ℕ) → List (ℕ × Syntax × List Syntax) → Option RpcUnit → ChannelSeals → SealHeard
bind_with false trailer call receive contexts joiner seals = only_heard (hear_sealed_bind call joiner) seals
bind_with true trailer call receive contexts joiner seals =
    bind_by (link_bound (bind_names_of trailer.value) trailer.context receive seals) call receive contexts joiner seals

abbrev pub seal_fresh : Body → Option Trailer → (call : ℕ) → Option RpcUnit → ChannelSeals → SealHeard
seal_fresh (Bind send receive group contexts) (Some trailer) call joiner seals =
    bind_with (is_own_trailer (Some trailer)) trailer call receive contexts joiner seals
seal_fresh body trailer call joiner seals = only_heard (hear_fresh body trailer call joiner) seals

-- ---- on a sealed link

-- calls that open a channel, NetrServerReqChallenge 4 and NetrServerAuthenticate2 15, aren't sealed
abbrev pub opens_channel : ℕ → Bool
opens_channel opnum = (opnum == 4) || (opnum == 15)

-- the range of a request that is opened: of one with a trailer of Netlogon at the level at which stubs are sealed and a
-- value of 32 bytes, on a link whose channel stands
abbrev pub range_to_open : SealedPart → (has_channel : Bool) → (opens : Bool) → Option (ℕ × ℕ)
range_to_open (part.Range from to) true false = Some (from, to)
range_to_open _ _ _ = None

-- none where one of the rules isn't kept, in this order; the channel's end may refuse too
abbrev pub open_range : Option (ℕ × ℕ) → (bytes : List ℕ) → LinkSeal → ChannelSeals → OpenedUnit
open_range None bytes link seals = record { bytes = None; seals = seals }
open_range (Some range) bytes link seals = open_unit link bytes range.0 range.1 seals

abbrev pub open_part : SealedPart → (opnum : ℕ) (bytes : List ℕ) (link : LinkSeal) (seals : ChannelSeals) → OpenedUnit
open_part found opnum bytes link seals =
    open_range (range_to_open found (stands link seals) (opens_channel opnum)) bytes link seals

abbrev pub open_request : (trailer : Option Trailer) (opnum : ℕ) (bytes : List ℕ) (link : LinkSeal) (seals : ChannelSeals) → OpenedUnit
open_request trailer opnum bytes link seals = open_part (part_if (is_own_trailer trailer) (range_of bytes)) opnum bytes link seals

-- what is found in a sealed unit is heard as on a link that isn't sealed. (Opening leaves its head as it was, so it is
-- read: the first line says nothing.)
abbrev pub hear_plain : Result RpcUnit UnitRefused → (number : ℕ) → Talk → Heard
hear_plain (Err why) number talk = heard.Close close.BadUnit
hear_plain (Ok unit) number talk = hear_on talk.binding (record unit { trailer = None }) number talk.joiner

abbrev pub hear_bytes : Option (List ℕ) → (number : ℕ) → Talk → Heard
hear_bytes None number talk = heard.Close close.BadAuthentication
hear_bytes (Some bytes) number talk = hear_plain (unit_of bytes) number talk

abbrev pub hear_opened : OpenedUnit → (number : ℕ) → Talk → SealHeard
hear_opened opened number talk = only_heard (hear_bytes opened.bytes number talk) opened.seals

-- other units than requests have no place on it
abbrev pub seal_bound : Body → Option Trailer → (bytes : List ℕ) (number : ℕ) → Talk → LinkSeal → ChannelSeals → SealHeard
seal_bound (Request hint context opnum stub) trailer bytes number talk link seals =
    hear_opened (open_request trailer opnum bytes link seals) number talk
seal_bound (Response hint context stub) trailer bytes number talk link seals = only_heard (heard.Close close.OutOfPlace) seals
seal_bound (Bind send receive group contexts) trailer bytes number talk link seals = only_heard (heard.Close close.OutOfPlace) seals
seal_bound (BindAck send receive group results) trailer bytes number talk link seals = only_heard (heard.Close close.OutOfPlace) seals
seal_bound (BindNak reason) trailer bytes number talk link seals = only_heard (heard.Close close.OutOfPlace) seals
seal_bound Auth3 trailer bytes number talk link seals = only_heard (heard.Close close.OutOfPlace) seals
seal_bound (Fault hint context status) trailer bytes number talk link seals = only_heard (heard.Close close.OutOfPlace) seals

-- the operation number of a request, or the cause for which another unit closes a sealed link
abbrev pub opnum_by : Body → Result ℕ CloseCause
opnum_by (Request hint context opnum stub) = Ok opnum
opnum_by (Response hint context stub) = Err close.OutOfPlace
opnum_by (Bind send receive group contexts) = Err close.OutOfPlace
opnum_by (BindAck send receive group results) = Err close.OutOfPlace
opnum_by (BindNak reason) = Err close.OutOfPlace
opnum_by Auth3 = Err close.OutOfPlace
opnum_by (Fault hint context status) = Err close.OutOfPlace

abbrev pub opnum_in : Result RpcUnit UnitRefused → Result ℕ CloseCause
opnum_in (Err why) = Err close.BadUnit
opnum_in (Ok unit) = opnum_by unit.body

-- ---- a unit, by the seal of its link

abbrev pub hear_unsealed : Option Agreed → RpcUnit → (number : ℕ) → Option RpcUnit → ChannelSeals → SealHeard
hear_unsealed None unit number joiner seals = seal_fresh unit.body unit.trailer unit.call joiner seals
hear_unsealed (Some agreed) unit number joiner seals =
    only_heard (hear_bound unit.body unit.trailer unit number joiner agreed) seals

abbrev pub hear_unit : Option LinkSeal → RpcUnit → (bytes : List ℕ) (number : ℕ) → Talk → ChannelSeals → SealHeard
hear_unit None unit bytes number talk seals = hear_unsealed talk.binding unit number talk.joiner seals
hear_unit (Some link) unit bytes number talk seals = seal_bound unit.body unit.trailer bytes number talk link seals

abbrev pub seal_read : Result RpcUnit UnitRefused → Option LinkSeal → (bytes : List ℕ) (number : ℕ) → Talk → ChannelSeals → SealHeard
seal_read (Err why) link bytes number talk seals = only_heard (heard.Close close.BadUnit) seals
seal_read (Ok unit) link bytes number talk seals = hear_unit link unit bytes number talk seals

-- the bytes of a unit on the link of that number
abbrev pub seal_hear : (number : ℕ) (bytes : List ℕ) → Talk → Option LinkSeal → ChannelSeals → SealHeard
seal_hear number bytes talk link seals = seal_read (unit_of bytes) link bytes number talk seals
