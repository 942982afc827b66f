-- What holds of the steps of a controller that can seal or can't (MS-NRPC 3.3; which calls find no channel, and which
-- requests close a sealed link, is this project's own choice).
use Rattle.std.specs.Prelude.{ℕ, ◌≡◌, ◌||◌, Bool, true, false, not, List, Option, Some, None, is_none, Ok}
use Rattle.wire_base.specs.Maps.{lookup}
use Rattle.wire_base.specs.Names.{same_name}
use Rattle.outside.specs.declared.action.CloseCause.TheVariants as close
use Rattle.outside.specs.declared.action.Judged.TheVariants as judged
use Rattle.outside.specs.declared.event.Event.{Event}
use Rattle.account_table.specs.AccountTable.{AccountTable}
use Rattle.rpc_units.specs.Reading.{unit_of}
use Rattle.rpc_units.specs.declared.unit.Body.TheVariants.{Request}
use Rattle.rpc_units.specs.declared.unit.Trailer.{Trailer}
use Rattle.rpc_units.specs.declared.unit.Unit.{Unit as RpcUnit}
use Rattle.channel_sealing.specs.Frames.{range_of}
use Rattle.channel_sealing.specs.Parts.{is_own_trailer}
use Rattle.controller_calls.specs.Asking.{refuse_asked}
use Rattle.controller_calls.specs.Calls.{asked_of}
use Rattle.controller_calls.specs.Desk.{Desk, desk}
use Rattle.controller_calls.specs.Handing.{CallPlace}
use Rattle.controller_calls.specs.Seals.{belongs, open_unit, stands}
use Rattle.controller_calls.specs.Unsent.{owned_unsent, refuse_unsent}
use Rattle.controller_calls.specs.declared.calls.JudgedCall.{JudgedCall}
use Rattle.controller_calls.specs.declared.line.Line.{Line}
use Rattle.controller_calls.specs.declared.seals.ChannelSeals.{ChannelSeals}
use Rattle.controller_calls.specs.declared.seals.KeptSeal.{KeptSeal}
use Rattle.controller_calls.specs.declared.seals.LinkSeal.{LinkSeal}
use Rattle.domain_controller.specs.Forwarding.{TrustDesk, with_queues}
use Rattle.domain_controller.specs.SealHearing.{opens_channel, seal_hear}
use Rattle.domain_controller.specs.SealServing.{answer_owned}
use Rattle.domain_controller.specs.SealStep.{seal_step_of}
use Rattle.domain_controller.specs.State.{State}
use Rattle.domain_controller.specs.TrustStep.{first_trust_state, trust_step_of}
use Rattle.domain_controller.specs.declared.hearing.Heard.TheVariants as heard
use Rattle.domain_controller.specs.declared.state.Talk.{Talk}

-- One that can't seal steps as if none could, and stays one.
pub record PlainControllersStay : Type 0 where
  pub step : (s : State) (what : Event) (now : ℕ) (left : List (List ℕ)) → s.trusting.sealing ≡ None →
      seal_step_of s what now left ≡ trust_step_of s what now left
  pub stays : (s : State) (what : Event) (now : ℕ) (left : List (List ℕ)) → s.trusting.sealing ≡ None →
      (seal_step_of s what now left).state.trusting.sealing ≡ None
  pub first : (table : AccountTable) (name : List ℕ) → (first_trust_state table name).trusting.sealing ≡ None

-- ---- which calls find no channel

-- A call on a secure channel finds none where its computer's channel seals and the link isn't that channel's, and on a
-- sealed link where it names another computer, or that channel was replaced.
pub record NoChannelByLink : Type 0 where
  pub unsealed : (computer : List ℕ) (kept : KeptSeal) (seals : ChannelSeals) → lookup same_name computer seals.kept ≡ Some kept →
      belongs None (Some computer) seals ≡ false
  pub plain : (computer : List ℕ) (seals : ChannelSeals) → lookup same_name computer seals.kept ≡ None → belongs None (Some computer) seals ≡ true
  pub another : (link : LinkSeal) (computer : List ℕ) (seals : ChannelSeals) → same_name computer link.computer ≡ false →
      belongs (Some link) (Some computer) seals ≡ false
  pub replaced : (link : LinkSeal) (computer : List ℕ) (seals : ChannelSeals) → stands link seals ≡ false → belongs (Some link) (Some computer) seals ≡ false
  pub own : (link : LinkSeal) (computer : List ℕ) (seals : ChannelSeals) → same_name computer link.computer ≡ true → stands link seals ≡ true →
      belongs (Some link) (Some computer) seals ≡ true
  -- a call that doesn't belong to its link is told to have no channel, whatever it asks, and changes nothing
  pub sealed : (c : JudgedCall) (at : CallPlace) (d : Desk) → owned_unsent false c at d ≡ refuse_unsent (asked_of c) judged.NoChannel d
  pub clear : (c : JudgedCall) (name : List ℕ) (now : ℕ) (line : Line) (d : TrustDesk) →
      answer_owned false c name now line d ≡ with_queues d.work.queues (desk d.table (refuse_asked (asked_of c) judged.NoChannel line d.work.work))

-- ---- which requests close a sealed link

-- what is sealed of the request, by its trailer of Netlogon at the level at which stubs are sealed, with a value of 32
-- bytes
abbrev pub signed_range : (is_own : Bool) (range : Option (ℕ × ℕ)) → Option (ℕ × ℕ)
signed_range false range = None
signed_range true range = range

-- whether the channel's end refuses a request
abbrev pub is_refused : Option (ℕ × ℕ) → (bytes : List ℕ) (link : LinkSeal) (seals : ChannelSeals) → Bool
is_refused None bytes link seals = true
is_refused (Some range) bytes link seals = is_none (open_unit link bytes range.0 range.1 seals).bytes

-- whether a request closes its sealed link: it has no trailer with a signature, the link's channel was replaced, its
-- operation opens a channel, or the channel's end refuses
abbrev pub is_unopened : Option Trailer → (opnum : ℕ) (bytes : List ℕ) (link : LinkSeal) (seals : ChannelSeals) → Bool
is_unopened trailer opnum bytes link seals =
    not (stands link seals) || (opens_channel opnum || is_refused (signed_range (is_own_trailer trailer) (range_of bytes)) bytes link seals)

-- A request on a sealed link closes the link for BadAuthentication exactly in these cases.
pub record BadAuthenticationByRules : Type 0 where
  pub closes : (number : ℕ) (bytes : List ℕ) (unit : RpcUnit) (hint context opnum : ℕ) (stub : List ℕ) (talk : Talk) (link : LinkSeal) (seals : ChannelSeals) →
      unit_of bytes ≡ Ok unit → unit.body ≡ Request hint context opnum stub → is_unopened unit.trailer opnum bytes link seals ≡ true →
      (seal_hear number bytes talk (Some link) seals).heard ≡ heard.Close close.BadAuthentication
  pub only : (number : ℕ) (bytes : List ℕ) (unit : RpcUnit) (hint context opnum : ℕ) (stub : List ℕ) (talk : Talk) (link : LinkSeal) (seals : ChannelSeals) →
      unit_of bytes ≡ Ok unit → unit.body ≡ Request hint context opnum stub →
      (seal_hear number bytes talk (Some link) seals).heard ≡ heard.Close close.BadAuthentication →
      is_unopened unit.trailer opnum bytes link seals ≡ true
