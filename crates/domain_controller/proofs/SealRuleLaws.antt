-- Which calls find no channel at a controller that can seal, and which requests close a sealed link. It serves
-- `calls_find_their_channel` and `sealed_links_close_by_rules`.
use Rattle.std.proofs.Common.{◌≡◌, ◌==◌, ◌&&◌, ◌||◌, ℕ, Bool, true, false, not, List, Option, Some, None, is_none, Result, Ok, Err, refl, sym, ap, ◌∙◌}
use Rattle.wire_base.specs.Names.{same_name}
use Rattle.outside.specs.declared.action.CloseCause.TheVariants as close
use Rattle.rpc_units.specs.declared.refused.JoinRefused.{JoinRefused}
use Rattle.rpc_units.specs.declared.refused.JoinRefused.TheVariants as join
use Rattle.rpc_units.specs.declared.refused.UnitRefused.{UnitRefused}
use Rattle.rpc_units.specs.declared.unit.Body.{Body}
use Rattle.rpc_units.specs.declared.unit.Body.TheVariants.{Bind, BindAck, BindNak, Auth3, Request, Response, Fault}
use Rattle.rpc_units.specs.declared.unit.Trailer.{Trailer}
use Rattle.rpc_units.specs.declared.unit.Unit.{Unit as RpcUnit}
use Rattle.rpc_units.specs.Joining.{answer_of, open_after}
use Rattle.rpc_units.specs.Reading.{unit_of}
use Rattle.logon_stubs.specs.Calls.{call_of}
use Rattle.logon_stubs.specs.declared.calls.Call.{Call}
use Rattle.logon_stubs.specs.declared.calls.Call.TheVariants as netlogon
use Rattle.logon_stubs.specs.declared.refused.StubRefused.{StubRefused}
use Rattle.logon_stubs.specs.declared.refused.StubRefused.TheVariants as refused
use Rattle.interactive_logon.specs.Calls.{interactive_of, is_logon}
use Rattle.interactive_logon.specs.declared.calls.InteractiveCall.{InteractiveCall}
use Rattle.secret_change.specs.Calls.{set_call_of, set_opnum}
use Rattle.secret_change.specs.declared.calls.SetCall.{SetCall}
use Rattle.secret_change.specs.declared.refused.SetRefused.{SetRefused}
use Rattle.end_links.specs.Agreed.{Agreed, accepts}
use Rattle.channel_sealing.specs.Frames.{range_of}
use Rattle.channel_sealing.specs.Parts.{is_own_trailer, part_if}
use Rattle.controller_calls.specs.Seals.{stands}
use Rattle.controller_calls.specs.declared.line.Line.{Line}
use Rattle.controller_calls.specs.declared.seals.ChannelSeals.{ChannelSeals}
use Rattle.controller_calls.specs.declared.seals.KeptSeal.{KeptSeal}
use Rattle.controller_calls.specs.declared.seals.LinkSeal.{LinkSeal}
use Rattle.domain_controller.specs.Hearing.{bound_talk, hear_arm, hear_bound, hear_context, hear_fresh, hear_interactive, hear_joined, hear_netlogon, hear_number, hear_on, hear_opnum, hear_refused, hear_set, hear_stub, hear_whole, is_served}
use Rattle.domain_controller.specs.declared.seal_hearing.SealHeard.{SealHeard}
use Rattle.domain_controller.specs.SealHearing.{hear_bytes, hear_opened, hear_plain, open_range, open_request, opens_channel, range_to_open, seal_bound, seal_hear, seal_read}
use Rattle.domain_controller.specs.SealLaws.{BadAuthenticationByRules, NoChannelByLink, is_refused, is_unopened, signed_range}
use Rattle.domain_controller.specs.declared.hearing.Heard.{Heard}
use Rattle.domain_controller.specs.declared.hearing.Heard.TheVariants as heard
use Rattle.domain_controller.specs.declared.state.Talk.{Talk}

-- ---- which calls find no channel

and_false : (one other : Bool) → other ≡ false → (one && other) ≡ false
and_false true other is = is
and_false false other is = refl

pub no_channel : NoChannelByLink
no_channel = record {
  unsealed = λ computer kept seals is. ap (λ (found : Option KeptSeal). is_none found) is;
  plain = λ computer seals is. ap (λ (found : Option KeptSeal). is_none found) is;
  another = λ link computer seals is. ap (λ (same : Bool). same && stands link seals) is;
  replaced = λ link computer seals is. and_false (same_name computer link.computer) (stands link seals) is;
  own = λ link computer seals same is. ap (λ (one : Bool). one && stands link seals) same ∙ is;
  sealed = λ c at d. refl;
  clear = λ c name now line d. refl;
}

-- ---- what is heard in a sealed unit doesn't close the link for its signature

abbrev Other : Heard → Type 0
Other h = h ≡ heard.Close close.BadAuthentication → ⊥

netlogon_other : (c : Call) (line : Line) (talk : Talk) → Other (hear_netlogon c line talk)
netlogon_other (netlogon.Challenge c) line talk = λ is. let x = is in cc
netlogon_other (netlogon.Authenticate c) line talk = λ is. let x = is in cc
netlogon_other (netlogon.Logon c) line talk = λ is. let x = is in cc
netlogon_other (netlogon.Logoff c) line talk = λ is. let x = is in cc

interactive_other : (read : Result InteractiveCall StubRefused) (logs_on : Bool) (line : Line) (talk : Talk) → Other (hear_interactive read logs_on line talk)
interactive_other (Err why) logs_on line talk = λ is. let x = is in cc
interactive_other (Ok c) logs_on line talk = λ is. let x = is in cc

arm_other : (is_interactive : Bool) (opnum : ℕ) (stub : List ℕ) (line : Line) (talk : Talk) → Other (hear_arm is_interactive opnum stub line talk)
arm_other false opnum stub line talk = λ is. let x = is in cc
arm_other true opnum stub line talk = interactive_other (interactive_of opnum stub) (is_logon opnum) line talk

refused_other : (why : StubRefused) (opnum : ℕ) (stub : List ℕ) (line : Line) (talk : Talk) → Other (hear_refused why opnum stub line talk)
refused_other (refused.BadArm arm) opnum stub line talk = arm_other (arm == 1) opnum stub line talk
refused_other _ opnum stub line talk = λ is. let x = is in cc

stub_other : (read : Result Call StubRefused) (opnum : ℕ) (stub : List ℕ) (line : Line) (talk : Talk) → Other (hear_stub read opnum stub line talk)
stub_other (Err why) opnum stub line talk = refused_other why opnum stub line talk
stub_other (Ok c) opnum stub line talk = netlogon_other c line talk

set_other : (read : Result SetCall SetRefused) (line : Line) (talk : Talk) → Other (hear_set read line talk)
set_other (Err why) line talk = λ is. let x = is in cc
set_other (Ok c) line talk = λ is. let x = is in cc

number_other : (is_set : Bool) (opnum : ℕ) (stub : List ℕ) (line : Line) (talk : Talk) → Other (hear_number is_set opnum stub line talk)
number_other false opnum stub line talk = stub_other (call_of opnum stub) opnum stub line talk
number_other true opnum stub line talk = set_other (set_call_of stub) line talk

opnum_other : (serves : Bool) (opnum : ℕ) (stub : List ℕ) (line : Line) (talk : Talk) → Other (hear_opnum serves opnum stub line talk)
opnum_other false opnum stub line talk = λ is. let x = is in cc
opnum_other true opnum stub line talk = number_other (opnum == set_opnum) opnum stub line talk

context_other : (accepted : Bool) (opnum : ℕ) (stub : List ℕ) (line : Line) (talk : Talk) → Other (hear_context accepted opnum stub line talk)
context_other false opnum stub line talk = λ is. let x = is in cc
context_other true opnum stub line talk = opnum_other (is_served opnum) opnum stub line talk

whole_other : (b : Body) (call link : ℕ) (agreed : Agreed) (talk : Talk) → Other (hear_whole b call link agreed talk)
whole_other (Request hint context opnum stub) call link agreed talk = context_other (accepts agreed context) opnum stub (record { link = link; call = call; context = context; limit = agreed.limit }) talk
whole_other (Response hint context stub) call link agreed talk = λ is. let x = is in cc
whole_other (Bind send receive group contexts) call link agreed talk = λ is. let x = is in cc
whole_other (BindAck send receive group results) call link agreed talk = λ is. let x = is in cc
whole_other (BindNak reason) call link agreed talk = λ is. let x = is in cc
whole_other Auth3 call link agreed talk = λ is. let x = is in cc
whole_other (Fault hint context status) call link agreed talk = λ is. let x = is in cc

joined_other : (joined : Result (Option RpcUnit) JoinRefused) (after : Option RpcUnit) (link : ℕ) (agreed : Agreed) → Other (hear_joined joined after link agreed)
joined_other (Err join.OutOfPlace) after link agreed = λ is. let x = is in cc
joined_other (Err join.CallTooLong) after link agreed = λ is. let x = is in cc
joined_other (Err join.Memory) after link agreed = λ is. let x = is in cc
joined_other (Ok None) after link agreed = λ is. let x = is in cc
joined_other (Ok (Some unit)) after link agreed = whole_other unit.body unit.call link agreed (bound_talk after agreed)

bound_other : (b : Body) (unit : RpcUnit) (link : ℕ) (joiner : Option RpcUnit) (agreed : Agreed) → Other (hear_bound b None unit link joiner agreed)
bound_other (Request hint context opnum stub) unit link joiner agreed = joined_other (answer_of joiner unit) (open_after joiner unit) link agreed
bound_other (Response hint context stub) unit link joiner agreed = λ is. let x = is in cc
bound_other (Bind send receive group contexts) unit link joiner agreed = λ is. let x = is in cc
bound_other (BindAck send receive group results) unit link joiner agreed = λ is. let x = is in cc
bound_other (BindNak reason) unit link joiner agreed = λ is. let x = is in cc
bound_other Auth3 unit link joiner agreed = λ is. let x = is in cc
bound_other (Fault hint context status) unit link joiner agreed = λ is. let x = is in cc

fresh_other : (b : Body) (call : ℕ) (joiner : Option RpcUnit) → Other (hear_fresh b None call joiner)
fresh_other (Request hint context opnum stub) call joiner = λ is. let x = is in cc
fresh_other (Response hint context stub) call joiner = λ is. let x = is in cc
fresh_other (Bind send receive group contexts) call joiner = λ is. let x = is in cc
fresh_other (BindAck send receive group results) call joiner = λ is. let x = is in cc
fresh_other (BindNak reason) call joiner = λ is. let x = is in cc
fresh_other Auth3 call joiner = λ is. let x = is in cc
fresh_other (Fault hint context status) call joiner = λ is. let x = is in cc

on_other : (binding : Option Agreed) (unit : RpcUnit) (number : ℕ) (joiner : Option RpcUnit) → Other (hear_on binding (record unit { trailer = None }) number joiner)
on_other None unit number joiner = fresh_other unit.body unit.call joiner
on_other (Some agreed) unit number joiner = bound_other unit.body (record unit { trailer = None }) number joiner agreed

plain_other : (read : Result RpcUnit UnitRefused) (number : ℕ) (talk : Talk) → Other (hear_plain read number talk)
plain_other (Err why) number talk = λ is. let x = is in cc
plain_other (Ok unit) number talk = on_other talk.binding unit number talk.joiner

-- ---- a request on a sealed link

unopened_by : (own : Bool) (range : Option (ℕ × ℕ)) (has opens : Bool) (bytes : List ℕ) (link : LinkSeal) (seals : ChannelSeals) →
    is_none (open_range (range_to_open (part_if own range) has opens) bytes link seals).bytes ≡ (not has || (opens || is_refused (signed_range own range) bytes link seals))
unopened_by false range true true bytes link seals = refl
unopened_by false range true false bytes link seals = refl
unopened_by false range false opens bytes link seals = refl
unopened_by true None true true bytes link seals = refl
unopened_by true None true false bytes link seals = refl
unopened_by true None false opens bytes link seals = refl
unopened_by true (Some range) true true bytes link seals = refl
unopened_by true (Some range) true false bytes link seals = refl
unopened_by true (Some range) false opens bytes link seals = refl

unopened : (trailer : Option Trailer) (opnum : ℕ) (bytes : List ℕ) (link : LinkSeal) (seals : ChannelSeals) →
    is_none (open_request trailer opnum bytes link seals).bytes ≡ is_unopened trailer opnum bytes link seals
unopened trailer opnum bytes link seals = unopened_by (is_own_trailer trailer) (range_of bytes) (stands link seals) (opens_channel opnum) bytes link seals

pub request_heard : (number : ℕ) (bytes : List ℕ) (unit : RpcUnit) (hint context opnum : ℕ) (stub : List ℕ) (talk : Talk) (link : LinkSeal) (seals : ChannelSeals) →
    unit_of bytes ≡ Ok unit → unit.body ≡ Request hint context opnum stub →
    seal_hear number bytes talk (Some link) seals ≡ hear_opened (open_request unit.trailer opnum bytes link seals) number talk
request_heard number bytes unit hint context opnum stub talk link seals reads is =
    ap (λ (read : Result RpcUnit UnitRefused). seal_read read (Some link) bytes number talk seals) reads
    ∙ ap (λ (b : Body). seal_bound b unit.trailer bytes number talk link seals) is

none_closes : (bytes : Option (List ℕ)) (number : ℕ) (talk : Talk) → is_none bytes ≡ true → hear_bytes bytes number talk ≡ heard.Close close.BadAuthentication
none_closes None number talk is = refl
none_closes (Some bytes) number talk is = absurd (let x = is in cc)

only_none : (bytes : Option (List ℕ)) (number : ℕ) (talk : Talk) → hear_bytes bytes number talk ≡ heard.Close close.BadAuthentication → is_none bytes ≡ true
only_none None number talk is = refl
only_none (Some bytes) number talk is = absurd (plain_other (unit_of bytes) number talk is)

pub by_rules : BadAuthenticationByRules
by_rules = record {
  closes = λ number bytes unit hint context opnum stub talk link seals reads is refuses.
      ap (λ (h : SealHeard). h.heard) (request_heard number bytes unit hint context opnum stub talk link seals reads is)
      ∙ none_closes (open_request unit.trailer opnum bytes link seals).bytes number talk (unopened unit.trailer opnum bytes link seals ∙ refuses);
  only = λ number bytes unit hint context opnum stub talk link seals reads is closes.
      sym (unopened unit.trailer opnum bytes link seals)
      ∙ only_none (open_request unit.trailer opnum bytes link seals).bytes number talk
      (sym (ap (λ (h : SealHeard). h.heard) (request_heard number bytes unit hint context opnum stub talk link seals reads is)) ∙ closes);
}
