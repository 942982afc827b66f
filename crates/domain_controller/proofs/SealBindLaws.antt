-- What a unit on a link comes to at a controller that can seal. It serves the calls of `seal_hearing`.
use Rattle.std.proofs.Common.{◌≡◌, ℕ, List, Option, Some, None, Result, Ok, Err, refl, sym, ap, ◌∙◌}
use Rattle.outside.specs.declared.action.CloseCause.{CloseCause}
use Rattle.rpc_units.specs.declared.unit.Unit.{Unit as RpcUnit}
use Rattle.rpc_units.specs.declared.unit.Trailer.{Trailer}
use Rattle.rpc_units.specs.declared.unit.Body.{Body}
use Rattle.rpc_units.specs.declared.unit.Body.TheVariants.{Bind, BindAck, BindNak, Auth3, Request, Response, Fault}
use Rattle.rpc_units.specs.declared.refused.UnitRefused.{UnitRefused}
use Rattle.rpc_units.specs.Reading.{unit_of}
use Rattle.rpc_units.specs.Grammar.{IsUnit}
use Rattle.rpc_units.proofs.GrammarLaws.{unit_of-IsUnit}
use Rattle.channel_sealing.specs.Frames.{range_of}
use Rattle.channel_sealing.specs.Parts.{part_with, sealed_part_of}
use Rattle.controller_calls.specs.declared.seals.ChannelSeals.{ChannelSeals}
use Rattle.controller_calls.specs.declared.seals.LinkSeal.{LinkSeal}
use Rattle.controller_calls.proofs.BindLaws.{sealed_binds_are_short}
use Rattle.domain_controller.specs.SealHearing.{LeavesRoom, hear_opened, only_heard, open_part, opnum_by, opnum_in, seal_bound, seal_hear, seal_read}
use Rattle.domain_controller.specs.declared.hearing.Heard.TheVariants as heard
use Rattle.domain_controller.specs.declared.seal_hearing.SealHeard.{SealHeard}
use Rattle.domain_controller.specs.declared.state.Talk.{Talk}

-- ---- the contexts of a bind with a trailer

leaves_by : (trailer : Option Trailer) (bytes : List ℕ) (unit : RpcUnit) → unit_of bytes ≡ Ok unit → unit.trailer ≡ trailer → LeavesRoom unit.body trailer
leaves_by None bytes unit reads is = tt
leaves_by (Some trailer) bytes unit reads is = sealed_binds_are_short.short bytes unit trailer reads is

pub room_left : (bytes : List ℕ) (unit : RpcUnit) → IsUnit bytes unit → LeavesRoom unit.body unit.trailer
room_left bytes unit is = leaves_by unit.trailer bytes unit (unit_of-IsUnit bytes unit is) refl

-- ---- a unit on a sealed link

abbrev heard_by : Result ℕ CloseCause → Result RpcUnit UnitRefused → (bytes : List ℕ) (number : ℕ) → Talk → LinkSeal → ChannelSeals → SealHeard
heard_by (Ok opnum) read bytes number talk link seals = hear_opened (open_part (part_with read (range_of bytes)) opnum bytes link seals) number talk
heard_by (Err cause) read bytes number talk link seals = only_heard (heard.Close cause) seals

body_heard : (b : Body) (unit : RpcUnit) (bytes : List ℕ) (number : ℕ) (talk : Talk) (link : LinkSeal) (seals : ChannelSeals) → unit.body ≡ b →
    seal_bound b unit.trailer bytes number talk link seals ≡ heard_by (opnum_by b) (Ok unit) bytes number talk link seals
body_heard (Request hint context opnum stub) unit bytes number talk link seals is = rw is refl
body_heard (Response hint context stub) unit bytes number talk link seals is = refl
body_heard (Bind send receive group contexts) unit bytes number talk link seals is = refl
body_heard (BindAck send receive group results) unit bytes number talk link seals is = refl
body_heard (BindNak reason) unit bytes number talk link seals is = refl
body_heard Auth3 unit bytes number talk link seals is = refl
body_heard (Fault hint context status) unit bytes number talk link seals is = refl

read_heard : (read : Result RpcUnit UnitRefused) (bytes : List ℕ) (number : ℕ) (talk : Talk) (link : LinkSeal) (seals : ChannelSeals) →
    seal_read read (Some link) bytes number talk seals ≡ heard_by (opnum_in read) read bytes number talk link seals
read_heard (Err why) bytes number talk link seals = refl
read_heard (Ok unit) bytes number talk link seals = body_heard unit.body unit bytes number talk link seals refl

pub by_opnum : (bytes : List ℕ) (opnum number : ℕ) (talk : Talk) (link : LinkSeal) (seals : ChannelSeals) (h : SealHeard) → Ok opnum ≡ opnum_in (unit_of bytes) →
    h ≡ hear_opened (open_part (sealed_part_of bytes) opnum bytes link seals) number talk → h ≡ seal_hear number bytes talk (Some link) seals
by_opnum bytes opnum number talk link seals h is opened =
    opened ∙ ap (λ (found : Result ℕ CloseCause). heard_by found (unit_of bytes) bytes number talk link seals) is ∙ sym (read_heard (unit_of bytes) bytes number talk link seals)

pub by_cause : (bytes : List ℕ) (cause : CloseCause) (number : ℕ) (talk : Talk) (link : LinkSeal) (seals : ChannelSeals) (h : SealHeard) → Err cause ≡ opnum_in (unit_of bytes) →
    h ≡ only_heard (heard.Close cause) seals → h ≡ seal_hear number bytes talk (Some link) seals
by_cause bytes cause number talk link seals h is closed =
    closed ∙ ap (λ (found : Result ℕ CloseCause). heard_by found (unit_of bytes) bytes number talk link seals) is ∙ sym (read_heard (unit_of bytes) bytes number talk link seals)
