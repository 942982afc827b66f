-- What a controller that may hand logons on hears on an accepted link: of the bytes of one whole unit it hears that
-- unit alone, and nothing stays open; what is held for a link stays bytes, and the calls that are heard of bytes have
-- their ranges. It serves `trusting_controllers_listen`.
use Rattle.std.proofs.Common.{◌≡◌, ◌<◌, ◌^◌, ◌++◌, ℕ, Bool, true, false, List, [], ◌∷◌, Option, Some, None, Ok, Err, refl, sym, ap, subst, ◌∙◌}
use Rattle.std.specs.List.{AllByRecursion}
use Rattle.wire_base.specs.Maps.{lookup, same_number}
use Rattle.wire_base.specs.Numbers.{AreBytes}
use Rattle.wire_base.proofs.AllLaws.{all_join}
use Rattle.wire_base.proofs.NumberLaws.{AreBytes-append, AreBytes-nil}
use Rattle.ndr_codec.specs.Parts.{IfThere}
use Rattle.outside.specs.declared.event.Event.{Event}
use Rattle.outside.specs.declared.event.Event.TheVariants as event
use Rattle.rpc_units.specs.Calls.{IsHeard}
use Rattle.rpc_units.specs.Joining.{stub_of}
use Rattle.rpc_units.specs.Stream.{cut_stream}
use Rattle.rpc_units.specs.declared.unit.Body.{Body}
use Rattle.rpc_units.specs.declared.refused.UnitRefused.{UnitRefused}
use Rattle.rpc_units.specs.declared.unit.Unit.{Unit as RpcUnit}
use Rattle.logon_stubs.specs.Calls.{call_of}
use Rattle.logon_stubs.specs.declared.calls.Call.{Call}
use Rattle.logon_stubs.specs.declared.calls.Call.TheVariants as netlogon
use Rattle.interactive_logon.specs.declared.calls.InteractiveCall.{InteractiveCall}
use Rattle.end_links.proofs.WholeLaws.{cut_bytes}
use Rattle.end_links.specs.Links.{LinkState}
use Rattle.end_links.specs.Serving.{ServedPart, ServedUnit, Service, served_by, served_cut, served_units, then_open, then_talk, units_on, units_then}
use Rattle.channel_turns.specs.Turning.{is_on}
use Rattle.controller_calls.specs.declared.calls.ControllerCall.{ControllerCall}
use Rattle.controller_calls.specs.declared.calls.ControllerCall.TheVariants as call
use Rattle.domain_controller.specs.Forwarding.{TrustDesk, base_desk, beside, by_trust_heard, trust_server}
use Rattle.domain_controller.specs.Hearing.{hear, interactive_by, served_call}
use Rattle.domain_controller.specs.Laws.{call_in, calls_heard, calls_if, calls_on, calls_then, talk_after, trust_calls_of}
use Rattle.domain_controller.specs.Machine.{Desk, by_heard, controller_server}
use Rattle.domain_controller.specs.State.{State as ControllerState}
use Rattle.domain_controller.specs.TrustStep.{trust_step_of, trust_step_on}
use Rattle.domain_controller.specs.TrustWhole.{InRangeTrustState, IsInRangeCall}
use Rattle.domain_controller.specs.Whole.{AreChallenges}
use Rattle.domain_controller.specs.declared.hearing.Heard.{Heard}
use Rattle.domain_controller.specs.declared.hearing.Heard.TheVariants as heard
use Rattle.domain_controller.specs.declared.state.Running.{Running}
use Rattle.domain_controller.specs.declared.state.Talk.{Talk}
use Rattle.domain_controller.specs.declared.trusting.Queues.{Queues}
use Rattle.domain_controller.proofs.FitLaws.{what_fits}
use Rattle.domain_controller.proofs.TrustWholeLaws.{trusts_send_whole}
use Rattle.domain_controller.proofs.UnitLaws.{Acks, CallRead, Faults, IsHeardAs, IsWholeCall, Naks, OfInteractive, OfNetlogon, OfSet, Unbound, bytes_heard, heard_comes as unit_comes}
use Rattle.member_server.specs.Whole.{InRangeJoiner}
use Rattle.member_server.proofs.ByteParts.{open_are, stub_are, whole_are}
use Rattle.step_notes.specs.HeardWhole.{IsCallOf, LeavesNothingOpen, NothingOpen}
use Rattle.step_notes.proofs.Controllers.HeardLaws.{controllers_hear}
use Rattle.domain_world.specs.Accepting.Carried.{IsWholeUnit}
use Rattle.domain_world.specs.Accepting.Listening.{AllListenSo, ComesSo, ListensSo, TrustsListen}
use Rattle.domain_world.proofs.Moves.TrustLinkLaws.{KeepsLinks, LinksIf, PartHolds, StaysOpen, step_holds}
use Rattle.domain_world.proofs.Quiet.QuietListenLaws.{entries_found}
use Rattle.domain_world.proofs.Quiet.TrustSendLaws.{sends_so}
use Rattle.domain_world.proofs.Quiet.TrustTurnByteLaws.{turn_keeps_bytes}

-- ---- a unit is heard by what was said alone, and draws one challenge at most

abbrev draws : Heard → Bool
draws (heard.Close cause) = false
draws (heard.Answer bytes talk) = false
draws (heard.Waits talk) = false
draws (heard.Asked line (call.Challenge c) talk) = true
draws (heard.Asked line (call.Authenticate c) talk) = false
draws (heard.Asked line (call.Judged c) talk) = false

abbrev after_draw : (draws : Bool) → List (List ℕ) → Option (List (List ℕ))
after_draw false left = Some left
after_draw true [] = None
after_draw true (challenge ∷ left) = Some left

-- what a heard unit comes to: it is refused where no challenge is left for it, else so much is said and left
abbrev Goes : {W : Type 0} → Heard → List (List ℕ) → ServedPart W Talk → Type 0
Goes h left (Err why) = after_draw (draws h) left ≡ None
Goes h left (Ok part) = (part.value.1 ≡ talk_after h) × (after_draw (draws h) left ≡ Some part.left)

base_goes : (link : ℕ) (name : List ℕ) (now : ℕ) (d : Desk) (left : List (List ℕ)) (h : Heard) → Goes h left (by_heard h link name now d left)
base_goes link name now d left =
    unit_comes (λ (one : Heard) (part : ServedPart Desk Talk). Goes one left part) link name now d left (record {
      close = λ cause. (refl, refl);
      answer = λ bytes talk. (refl, refl);
      waits = λ talk. (refl, refl);
      spent = λ line c talk none. ap (λ (all : List (List ℕ)). after_draw true all) none;
      unknown = λ line c talk server rest is none. (refl, ap (λ (all : List (List ℕ)). after_draw true all) is);
      known = λ line c talk server rest is known. (refl, ap (λ (all : List (List ℕ)). after_draw true all) is);
      denied = λ line c talk status fails none. (refl, refl);
      accepted = λ line c talk opens. (refl, refl);
      judged = λ line c talk after comes. (refl, refl);
    })

beside_goes : (queues : Queues) (h : Heard) (left : List (List ℕ)) (part : ServedPart Desk Talk) → Goes h left part → Goes h left (beside queues part)
beside_goes queues h left (Err why) goes = goes
beside_goes queues h left (Ok part) goes = goes

trust_goes : (link : ℕ) (name : List ℕ) (now : ℕ) (d : TrustDesk) (left : List (List ℕ)) (h : Heard) → Goes h left (by_trust_heard h link name now d left)
trust_goes link name now d left (heard.Close cause) =
    beside_goes d.work.queues (heard.Close cause) left (by_heard (heard.Close cause) link name now (base_desk d) left) (base_goes link name now (base_desk d) left (heard.Close cause))
trust_goes link name now d left (heard.Answer bytes talk) =
    beside_goes d.work.queues (heard.Answer bytes talk) left (by_heard (heard.Answer bytes talk) link name now (base_desk d) left) (base_goes link name now (base_desk d) left (heard.Answer bytes talk))
trust_goes link name now d left (heard.Waits talk) =
    beside_goes d.work.queues (heard.Waits talk) left (by_heard (heard.Waits talk) link name now (base_desk d) left) (base_goes link name now (base_desk d) left (heard.Waits talk))
trust_goes link name now d left (heard.Asked line (call.Challenge c) talk) =
    beside_goes d.work.queues (heard.Asked line (call.Challenge c) talk) left (by_heard (heard.Asked line (call.Challenge c) talk) link name now (base_desk d) left)
    (base_goes link name now (base_desk d) left (heard.Asked line (call.Challenge c) talk))
trust_goes link name now d left (heard.Asked line (call.Authenticate c) talk) =
    beside_goes d.work.queues (heard.Asked line (call.Authenticate c) talk) left (by_heard (heard.Asked line (call.Authenticate c) talk) link name now (base_desk d) left)
    (base_goes link name now (base_desk d) left (heard.Asked line (call.Authenticate c) talk))
trust_goes link name now d left (heard.Asked line (call.Judged c) talk) = (refl, refl)

-- ---- so it hears what one that asks nobody hears

abbrev pub HearsUnit : {W : Type 0} → RpcUnit → ℕ → ServedUnit W Talk → Type 0
HearsUnit unit link served = IsCallOf unit (hear link served.bytes served.talk)

abbrev pub LeavesNone : {W : Type 0} → ServedPart W Talk → Type 0
LeavesNone (Err why) = Unit {0}
LeavesNone (Ok part) = NothingOpen part.value.1

module _ (unit : RpcUnit) (name : List ℕ) (now link : ℕ) where
  abbrev HearSo : {W : Type 0} → List (ServedUnit W Talk) → Type 0
  HearSo units = AllByRecursion (HearsUnit unit link) units

  on_hears : (said : Option Talk) (d : TrustDesk) (other : Desk) (left : List (List ℕ)) (later : TrustDesk → Talk → List (List ℕ) → List (ServedUnit TrustDesk Talk))
      (base : Desk → Talk → List (List ℕ) → List (ServedUnit Desk Talk)) → HearSo (units_on other said left base) →
      ((d : TrustDesk) (other : Desk) (talk : Talk) (left : List (List ℕ)) → HearSo (base other talk left) → HearSo (later d talk left)) → HearSo (units_on d said left later)
  on_hears None d other left later base all each = tt
  on_hears (Some talk) d other left later base all each = each d other talk left all

  then_hears : (h : Heard) (left : List (List ℕ)) (one : ServedPart TrustDesk Talk) (other : ServedPart Desk Talk) (later : TrustDesk → Talk → List (List ℕ) → List (ServedUnit TrustDesk Talk))
      (base : Desk → Talk → List (List ℕ) → List (ServedUnit Desk Talk)) → Goes h left one → Goes h left other → HearSo (units_then other base) →
      ((d : TrustDesk) (other : Desk) (talk : Talk) (left : List (List ℕ)) → HearSo (base other talk left) → HearSo (later d talk left)) → HearSo (units_then one later)
  then_hears h left (Err why) other later base goes its all each = tt
  then_hears h left (Ok one) (Err why) later base goes its all each = absurd (let never : Some one.left ≡ None = sym goes.1 ∙ its in cc)
  then_hears h left (Ok one) (Ok other) later base goes its all each =
      let said : other.value.1 ≡ one.value.1 = its.0 ∙ sym goes.0 in
      let some : Some other.left ≡ Some one.left = sym its.1 ∙ goes.1 in
      let rest : other.left ≡ one.left = cc in
      on_hears one.value.1 one.value.0 other.value.0 one.left later base
      (subst (λ (l : List (List ℕ)). HearSo (units_on other.value.0 one.value.1 l base)) rest
      (subst (λ (s : Option Talk). HearSo (units_on other.value.0 s other.left base)) said all)) each

  trust_hears : (units : List (List ℕ)) (d : TrustDesk) (other : Desk) (talk : Talk) (left : List (List ℕ)) → HearSo (served_units (controller_server name now link) units other talk left) →
      HearSo (served_units (trust_server name now link) units d talk left)
  trust_hears [] d other talk left all = tt
  trust_hears (bytes ∷ units) d other talk left all = (
    all.0,
    then_hears (hear link bytes talk) left (by_trust_heard (hear link bytes talk) link name now d left) (by_heard (hear link bytes talk) link name now other left)
        (λ later t rest. served_units (trust_server name now link) units later t rest) (λ later t rest. served_units (controller_server name now link) units later t rest)
        (trust_goes link name now d left (hear link bytes talk)) (base_goes link name now other left (hear link bytes talk)) all.1
        (λ one its t rest so. trust_hears units one its t rest so),
  )

  -- ---- what stays open

  talk_leaves : (said : Option Talk) (d : TrustDesk) (other : Desk) (left : List (List ℕ)) (later : Service TrustDesk Talk) (base : Service Desk Talk) → LeavesNone (then_talk other said left base) →
      ((d : TrustDesk) (other : Desk) (talk : Talk) (left : List (List ℕ)) → LeavesNone (base other talk left) → LeavesNone (later d talk left)) → LeavesNone (then_talk d said left later)
  talk_leaves None d other left later base all each = tt
  talk_leaves (Some talk) d other left later base all each = each d other talk left all

  then_leaves : (h : Heard) (left : List (List ℕ)) (one : ServedPart TrustDesk Talk) (other : ServedPart Desk Talk) (later : Service TrustDesk Talk) (base : Service Desk Talk) → Goes h left one →
      Goes h left other → LeavesNone (then_open other base) →
      ((d : TrustDesk) (other : Desk) (talk : Talk) (left : List (List ℕ)) → LeavesNone (base other talk left) → LeavesNone (later d talk left)) → LeavesNone (then_open one later)
  then_leaves h left (Err why) other later base goes its all each = tt
  then_leaves h left (Ok one) (Err why) later base goes its all each = absurd (let never : Some one.left ≡ None = sym goes.1 ∙ its in cc)
  then_leaves h left (Ok one) (Ok other) later base goes its all each =
      let said : other.value.1 ≡ one.value.1 = its.0 ∙ sym goes.0 in
      let some : Some other.left ≡ Some one.left = sym its.1 ∙ goes.1 in
      let rest : other.left ≡ one.left = cc in
      talk_leaves one.value.1 one.value.0 other.value.0 one.left later base
      (subst (λ (l : List (List ℕ)). LeavesNone (then_talk other.value.0 one.value.1 l base)) rest
      (subst (λ (s : Option Talk). LeavesNone (then_talk other.value.0 s other.left base)) said all)) each

  trust_leaves : (units : List (List ℕ)) (why : Option UnitRefused) (d : TrustDesk) (other : Desk) (talk : Talk) (left : List (List ℕ)) →
      LeavesNone (served_by (controller_server name now link) units why other talk left) → LeavesNone (served_by (trust_server name now link) units why d talk left)
  trust_leaves [] None d other talk left all = all
  trust_leaves [] (Some why) d other talk left all = tt
  trust_leaves (bytes ∷ units) why d other talk left all =
      then_leaves (hear link bytes talk) left (by_trust_heard (hear link bytes talk) link name now d left) (by_heard (hear link bytes talk) link name now other left)
      (λ later t rest. served_by (trust_server name now link) units why later t rest) (λ later t rest. served_by (controller_server name now link) units why later t rest)
      (trust_goes link name now d left (hear link bytes talk)) (base_goes link name now other left (hear link bytes talk)) all
      (λ one its t rest so. trust_leaves units why one its t rest so)

-- each call that is heard of the bytes of one whole unit is that of the unit
pub trusts_hear : (name : List ℕ) (now link : ℕ) (bytes : List ℕ) (frames : List RpcUnit) (unit : RpcUnit) (d : TrustDesk) (talk : Talk) (left : List (List ℕ)) → IsHeard bytes frames unit →
    talk.joiner ≡ None → AllByRecursion (HearsUnit unit link) (served_units (trust_server name now link) (cut_stream bytes).units d talk left)
trusts_hear name now link bytes frames unit d talk left is none =
    trust_hears unit name now link (cut_stream bytes).units d (base_desk d) talk left (controllers_hear.calls name now link bytes frames unit (base_desk d) talk left is none)

same_leaves : (part : ServedPart Desk Talk) → LeavesNothingOpen part → LeavesNone part
same_leaves (Err why) leaves = tt
same_leaves (Ok part) leaves = leaves

-- and nothing stays open
pub trusts_leave : (name : List ℕ) (now link : ℕ) (bytes : List ℕ) (frames : List RpcUnit) (unit : RpcUnit) (d : TrustDesk) (talk : Talk) (left : List (List ℕ)) → IsHeard bytes frames unit →
    talk.joiner ≡ None → LeavesNone (served_cut (trust_server name now link) (cut_stream bytes) d talk left)
trusts_leave name now link bytes frames unit d talk left is none =
    trust_leaves unit name now link (cut_stream bytes).units (cut_stream bytes).refused d (base_desk d) talk left
    (same_leaves (served_cut (controller_server name now link) (cut_stream bytes) (base_desk d) talk left)
    (controllers_hear.after name now link bytes frames unit (base_desk d) talk left is none))

-- ---- of bytes

-- what is said is bytes, and a call has its ranges
abbrev HeardBytes : Heard → Type 0
HeardBytes (heard.Close cause) = Unit {0}
HeardBytes (heard.Answer bytes talk) = InRangeJoiner talk.joiner
HeardBytes (heard.Waits talk) = InRangeJoiner talk.joiner
HeardBytes (heard.Asked line c talk) = InRangeJoiner talk.joiner × IsInRangeCall c

netlogon_range : (opnum : ℕ) (stub : List ℕ) (read : Call) → AreBytes stub → call_of opnum stub ≡ Ok read → IsInRangeCall (served_call read)
netlogon_range opnum stub (netlogon.Challenge c) are is = tt
netlogon_range opnum stub (netlogon.Authenticate c) are is = tt
netlogon_range opnum stub (netlogon.Logon c) are is = what_fits.read opnum stub c are is
netlogon_range opnum stub (netlogon.Logoff c) are is = tt

interactive_range : (logs_on : Bool) (read : InteractiveCall) → IsInRangeCall (call.Judged (interactive_by logs_on read))
interactive_range true read = tt
interactive_range false read = tt

read_range : (opnum : ℕ) (stub : List ℕ) (c : ControllerCall) → AreBytes stub → CallRead opnum stub c → IsInRangeCall c
read_range opnum stub c are (OfNetlogon read other is same) = subst IsInRangeCall (sym same) (netlogon_range opnum stub read are is)
read_range opnum stub c are (OfInteractive read arm other refuses one is same) = subst IsInRangeCall (sym same) (interactive_range _ read)
read_range opnum stub c are (OfSet read own is same) = subst IsInRangeCall (sym same) tt

module _ (link : ℕ) (bytes : List ℕ) (talk : Talk) (are : AreBytes bytes) (open_bytes : InRangeJoiner talk.joiner) where
  opened_bytes : (unit : RpcUnit) (later : Talk) (joiner : Option RpcUnit) → later.joiner ≡ joiner → InRangeJoiner joiner → InRangeJoiner later.joiner
  opened_bytes unit later joiner is wide = subst InRangeJoiner (sym is) wide

  call_bytes : (unit : RpcUnit) (line : _) (later : Talk) → AreBytes (stub_of unit.body) → (at : IsWholeCall link unit talk line later) → InRangeJoiner later.joiner × AreBytes at.stub
  call_bytes unit line later stub at = (
    opened_bytes unit later _ (ap (λ (t : Talk). t.joiner) at.said) (open_are talk.joiner unit open_bytes stub),
    subst (λ (b : Body). AreBytes (stub_of b)) at.body (whole_are talk.joiner unit at.whole open_bytes stub at.joined),
  )

  as_bytes : (unit : RpcUnit) (h : Heard) → AreBytes (stub_of unit.body) → IsHeardAs link unit talk h → HeardBytes h
  as_bytes unit (heard.Close cause) stub is = tt
  as_bytes unit (heard.Answer sent later) stub (Acks send receive group contexts free body written_so same) = opened_bytes unit later talk.joiner (ap (λ (t : Talk). t.joiner) same) open_bytes
  as_bytes unit (heard.Answer sent later) stub (Naks free written_so same) = opened_bytes unit later talk.joiner (ap (λ (t : Talk). t.joiner) same) open_bytes
  as_bytes unit (heard.Answer sent later) stub (Unbound free written_so same) = opened_bytes unit later talk.joiner (ap (λ (t : Talk). t.joiner) same) open_bytes
  as_bytes unit (heard.Answer sent later) stub (Faults status line small at written_so) = (call_bytes unit line later stub at).0
  as_bytes unit (heard.Waits later) stub is = opened_bytes unit later _ (ap (λ (t : Talk). t.joiner) is.2) (open_are talk.joiner unit open_bytes stub)
  as_bytes unit (heard.Asked line c later) stub is =
      let both = call_bytes unit line later stub is.0 in (both.0, read_range is.0.opnum is.0.stub c both.1 is.1)

  hears_bytes : HeardBytes (hear link bytes talk)
  hears_bytes = bytes_heard HeardBytes link bytes talk (λ cause. tt) (λ unit h read is. as_bytes unit h (stub_are bytes unit are read) is)

-- ---- the units of a stream

said_bytes : (h : Heard) → HeardBytes h → IfThere (λ (talk : Talk). InRangeJoiner talk.joiner) (talk_after h)
said_bytes (heard.Close cause) is = tt
said_bytes (heard.Answer bytes talk) is = is
said_bytes (heard.Waits talk) is = is
said_bytes (heard.Asked line c talk) is = is.0

abbrev TalkIs : Option Talk → Type 0
TalkIs said = IfThere (λ (talk : Talk). InRangeJoiner talk.joiner) said

abbrev PartBytes : ServedPart TrustDesk Talk → Type 0
PartBytes (Err why) = Unit {0}
PartBytes (Ok part) = TalkIs part.value.1

talk_bytes : (said : Option Talk) (d : TrustDesk) (left : List (List ℕ)) (later : Service TrustDesk Talk) → TalkIs said →
    ((d : TrustDesk) (talk : Talk) (left : List (List ℕ)) → InRangeJoiner talk.joiner → PartBytes (later d talk left)) → PartBytes (then_talk d said left later)
talk_bytes None d left later is each = tt
talk_bytes (Some talk) d left later is each = each d talk left is

then_bytes : (h : Heard) (left : List (List ℕ)) (part : ServedPart TrustDesk Talk) (later : Service TrustDesk Talk) → HeardBytes h → Goes h left part →
    ((d : TrustDesk) (talk : Talk) (left : List (List ℕ)) → InRangeJoiner talk.joiner → PartBytes (later d talk left)) → PartBytes (then_open part later)
then_bytes h left (Err why) later is goes each = tt
then_bytes h left (Ok part) later is goes each = talk_bytes part.value.1 part.value.0 part.left later (subst TalkIs (sym goes.0) (said_bytes h is)) each

units_bytes : (units : List (List ℕ)) (why : Option UnitRefused) (name : List ℕ) (now link : ℕ) (d : TrustDesk) (talk : Talk) (left : List (List ℕ)) → AllByRecursion AreBytes units →
    InRangeJoiner talk.joiner → PartBytes (served_by (trust_server name now link) units why d talk left)
units_bytes [] None name now link d talk left are wide = wide
units_bytes [] (Some why) name now link d talk left are wide = tt
units_bytes (bytes ∷ units) why name now link d talk left are wide =
    then_bytes (hear link bytes talk) left (by_trust_heard (hear link bytes talk) link name now d left) (λ later t rest. served_by (trust_server name now link) units why later t rest)
    (hears_bytes link bytes talk are.0 wide) (trust_goes link name now d left (hear link bytes talk)) (λ later t rest so. units_bytes units why name now link later t rest are.1 so)

-- the calls that are heard of them have their ranges
call_range : (h : Heard) → HeardBytes h → AllByRecursion IsInRangeCall (call_in h)
call_range (heard.Close cause) is = tt
call_range (heard.Answer bytes talk) is = tt
call_range (heard.Waits talk) is = tt
call_range (heard.Asked line c talk) is = (is.1, tt)

later_range : (said : Option Talk) (later : Talk → List ControllerCall) → TalkIs said → ((talk : Talk) → InRangeJoiner talk.joiner → AllByRecursion IsInRangeCall (later talk)) →
    AllByRecursion IsInRangeCall (calls_then said later)
later_range None later is each = tt
later_range (Some talk) later is each = each talk is

pub calls_range : (units : List (List ℕ)) (link : ℕ) (talk : Talk) → AllByRecursion AreBytes units → InRangeJoiner talk.joiner → AllByRecursion IsInRangeCall (calls_heard link units talk)
calls_range [] link talk are wide = tt
calls_range (bytes ∷ units) link talk are wide =
    let is : HeardBytes (hear link bytes talk) = hears_bytes link bytes talk are.0 wide in
    all_join IsInRangeCall (call_in (hear link bytes talk)) (calls_then (talk_after (hear link bytes talk)) (λ later. calls_heard link units later)) (call_range (hear link bytes talk) is)
    (later_range (talk_after (hear link bytes talk)) (λ later. calls_heard link units later) (said_bytes (hear link bytes talk) is) (λ later so. calls_range units link later are.1 so))

-- ---- an accepted link

module _ (comes_whole : ℕ → Bool) where
  kept_so : (said : Option Talk) (number : ℕ) (rest : List ℕ) → AreBytes rest → TalkIs said → (comes_whole number ≡ true → rest ≡ []) → (comes_whole number ≡ true → NothingOpen said) →
      StaysOpen (ListensSo comes_whole) number rest said
  kept_so None number rest are wide none open_none = tt
  kept_so (Some talk) number rest are wide none open_none = record { rest_bytes = are; joiner_bytes = wide; rest = none; joiner = open_none }

  part_so : (part : ServedPart TrustDesk Talk) (number : ℕ) (rest : List ℕ) → AreBytes rest → PartBytes part → (comes_whole number ≡ true → rest ≡ []) → (comes_whole number ≡ true → LeavesNone part) →
      PartHolds (ListensSo comes_whole) number rest part
  part_so (Err why) number rest are wide none leaves = tt
  part_so (Ok part) number rest are wide none leaves = kept_so part.value.1 number rest are wide none leaves

  pub keeps_so : (name : List ℕ) (now : ℕ) (what : Event) → ComesSo comes_whole what → KeepsLinks (ListensSo comes_whole) name now what
  keeps_so name now (event.Opened number) comes = record { rest_bytes = AreBytes-nil; joiner_bytes = tt; rest = λ own. refl; joiner = λ own. refl }
  keeps_so name now (event.Bytes number piece) comes = λ link d left listens.
      let stream : AreBytes (link.rest ++ piece) = AreBytes-append link.rest piece listens.rest_bytes comes.0 in
      let cut = cut_bytes (link.rest ++ piece) stream in
      let bytes : comes_whole number ≡ true → link.rest ++ piece ≡ piece = λ own. ap (λ (rest : List ℕ). rest ++ piece) (listens.rest own) in
      part_so (served_cut (trust_server name now number) (cut_stream (link.rest ++ piece)) d link.talk left) number (cut_stream (link.rest ++ piece)).rest cut.1
      (units_bytes (cut_stream (link.rest ++ piece)).units (cut_stream (link.rest ++ piece)).refused name now number d link.talk left cut.0 listens.joiner_bytes)
      (λ own. let unit : IsWholeUnit piece = comes.1 own in
      ap (λ (all : List ℕ). (cut_stream all).rest) (bytes own) ∙ controllers_hear.rest piece unit.frames unit.unit unit.heard)
      (λ own. let unit : IsWholeUnit piece = comes.1 own in
      subst (λ (all : List ℕ). LeavesNone (served_cut (trust_server name now number) (cut_stream all) d link.talk left)) (sym (bytes own))
      (trusts_leave name now number piece unit.frames unit.unit d link.talk left unit.heard (listens.joiner own)))
  keeps_so name now (event.Closed number) comes = tt
  keeps_so name now (event.Dialled number) comes = tt
  keeps_so name now event.DialFailed comes = tt
  keeps_so name now event.Stop comes = tt

-- ---- a step

-- the same, as a fact of each accepted link of a controller at work
as_links : (comes_whole : ℕ → Bool) (found : Option Running) → AllListenSo comes_whole found → LinksIf (ListensSo comes_whole) found
as_links comes_whole None all = tt
as_links comes_whole (Some running) all = all

from_links : (comes_whole : ℕ → Bool) (found : Option Running) → LinksIf (ListensSo comes_whole) found → AllListenSo comes_whole found
from_links comes_whole None all = tt
from_links comes_whole (Some running) all = all

links_listen : (comes_whole : ℕ → Bool) (c : ControllerState) (what : Event) (now : ℕ) (left : List (List ℕ)) → ComesSo comes_whole what → AllListenSo comes_whole c.running →
    AllListenSo comes_whole (trust_step_of c what now left).state.running
links_listen comes_whole c what now left comes all =
    from_links comes_whole (trust_step_of c what now left).state.running
    (step_holds (ListensSo comes_whole) c what now left (keeps_so comes_whole c.name now what comes) (as_links comes_whole c.running all))

module _ (comes_whole : ℕ → Bool) where
  on_range : (found : Option (LinkState Talk)) (number : ℕ) (piece : List ℕ) → AreBytes piece → ((link : LinkState Talk) → found ≡ Some link → ListensSo comes_whole number link) →
      AllByRecursion IsInRangeCall (calls_on found number piece)
  on_range None number piece are is = tt
  on_range (Some link) number piece are is =
      let listens : ListensSo comes_whole number link = is link refl in
      calls_range (cut_stream (link.rest ++ piece)).units number link.talk (cut_bytes (link.rest ++ piece) (AreBytes-append link.rest piece listens.rest_bytes are)).0 listens.joiner_bytes

  if_range : (is_turn_link : Bool) (calls : List ControllerCall) → AllByRecursion IsInRangeCall calls → AllByRecursion IsInRangeCall (calls_if is_turn_link calls)
  if_range false calls all = all
  if_range true calls all = tt

  event_range : (what : Event) (running : Running) (c : ControllerState) → ComesSo comes_whole what → AllListenSo comes_whole (Some running) →
      AllByRecursion IsInRangeCall (trust_calls_of what running.links c.trusting.dialling)
  event_range (event.Opened number) running c comes all = tt
  event_range (event.Bytes number piece) running c comes all =
      if_range (is_on number c.trusting.dialling) (calls_on (lookup same_number number running.links) number piece)
      (on_range (lookup same_number number running.links) number piece comes.0 (λ link there. entries_found (ListensSo comes_whole) number running.links link there all))
  event_range (event.Closed number) running c comes all = tt
  event_range (event.Dialled number) running c comes all = tt
  event_range event.DialFailed running c comes all = tt
  event_range event.Stop running c comes all = tt

  range_kept : (found : Option Running) (c : ControllerState) (what : Event) (now : ℕ) (left : List (List ℕ)) → c.running ≡ found → ComesSo comes_whole what → AllListenSo comes_whole found →
      InRangeTrustState c → now < 2 ^ 64 → AreChallenges left → InRangeTrustState (trust_step_of c what now left).state
  range_kept None c what now left is comes all range moment eight =
      subst (λ (found : Option Running). InRangeTrustState (trust_step_on found c what now left).state) (sym is) range
  range_kept (Some running) c what now left is comes all range moment eight =
      trusts_send_whole.keeps c running what now left is range moment eight (event_range what running c comes all)

pub trusts_listen : TrustsListen
trusts_listen = record {
  calls = trusts_hear;
  links = links_listen;
  ranges = λ comes_whole c running what is comes all.
      event_range comes_whole what running c comes (subst (λ (found : Option Running). AllListenSo comes_whole found) is all);
  keeps = λ comes_whole c what now left comes all range moment eight. range_kept comes_whole c.running c what now left refl comes all range moment eight;
  turn = turn_keeps_bytes;
  sends = sends_so;
}
