-- What a controller that may hand logons on holds for the link of its turn stays bytes through each step, where what
-- comes is bytes. It serves `trusting_controllers_listen`.
use Rattle.std.proofs.Common.{◌≡◌, ◌++◌, ◌==◌, ℕ, Bool, true, false, List, [], ◌∷◌, Option, Some, None, Result, Ok, Err, slice_get, refl}
use Rattle.std.specs.List.{AllByRecursion}
use Rattle.wire_base.specs.Maps.{lookup, same_number, take_out}
use Rattle.wire_base.specs.Numbers.{AreBytes}
use Rattle.wire_base.proofs.NumberLaws.{AreBytes-append, AreBytes-nil}
use Rattle.ndr_codec.specs.Parts.{IfThere}
use Rattle.outside.specs.Machine.{Part, step_by, then_part}
use Rattle.outside.specs.declared.action.StepRefused.{StepRefused}
use Rattle.outside.specs.declared.event.Event.{Event}
use Rattle.outside.specs.declared.event.Event.TheVariants as event
use Rattle.account_table.specs.AccountTable.{AccountTable}
use Rattle.account_table.specs.declared.account.Trust.{Trust}
use Rattle.logon_stubs.specs.Ranges.{InRangeSamInfo}
use Rattle.logon_stubs.specs.Verdicts.{IfGranted}
use Rattle.logon_stubs.specs.Writing.{CanWriteSamInfo}
use Rattle.logon_stubs.specs.declared.info.SamInfo.{SamInfo}
use Rattle.logon_stubs.specs.declared.info.Verdict.{Verdict}
use Rattle.logon_stubs.specs.declared.info.Verdict.TheVariants.{Granted, Status}
use Rattle.rpc_units.specs.Joining.{answer_of, open_after, stub_of}
use Rattle.rpc_units.specs.Reading.{unit_of}
use Rattle.rpc_units.specs.Stream.{cut_stream}
use Rattle.rpc_units.specs.declared.unit.Body.{Body}
use Rattle.rpc_units.specs.declared.unit.Body.TheVariants.{Bind, BindAck, BindNak, Auth3, Request, Response, Fault}
use Rattle.rpc_units.specs.declared.refused.JoinRefused.{JoinRefused}
use Rattle.rpc_units.specs.declared.refused.JoinRefused.TheVariants as join
use Rattle.rpc_units.specs.declared.refused.UnitRefused.{UnitRefused}
use Rattle.rpc_units.specs.declared.unit.Unit.{Unit as RpcUnit}
use Rattle.end_links.proofs.WholeLaws.{cut_bytes}
use Rattle.end_links.specs.Links.{LinkState}
use Rattle.end_links.specs.Serving.{ServedPart, served_cut}
use Rattle.channel_client.specs.Grants.{HasBytes, IfTaken}
use Rattle.channel_client.specs.Machine.{take_of}
use Rattle.channel_client.proofs.GrantLaws.{grants_are_writable}
use Rattle.channel_client.specs.State.{Requester}
use Rattle.channel_client.specs.declared.answers.Taken.{Taken}
use Rattle.channel_client.specs.declared.answers.Taken.TheVariants as taken
use Rattle.channel_turns.specs.Dials.{NextTurn, next_turn as channel_turn}
use Rattle.channel_turns.specs.Hearing.{heard_by}
use Rattle.channel_turns.specs.Turning.{Turned, answer_by, close_if, dial_for, dial_part, fail_by, hear_by, hear_if, is_on, is_waiting, keep_link, link_answers, link_closes, link_hears, no_dial}
use Rattle.channel_turns.specs.Turns.{TurnServed, do_heard, do_taken, keep_turn, served_by, then_said, turn_served, turn_unit, with_channel}
use Rattle.channel_turns.specs.declared.state.Dialling.{Dialling}
use Rattle.channel_turns.specs.declared.state.Dialling.TheVariants as dialling
use Rattle.channel_turns.specs.declared.state.TurnEnd.{TurnEnd}
use Rattle.channel_turns.specs.declared.state.TurnEnd.TheVariants as turn_end
use Rattle.channel_turns.specs.declared.state.TurnEnded.{TurnEnded}
use Rattle.channel_turns.specs.declared.state.TurnTalk.{TurnTalk}
use Rattle.channel_turns.specs.declared.state.TurnWork.{TurnWork}
use Rattle.channel_turns.specs.declared.state.Turning.{Turning}
use Rattle.domain_controller.specs.Forwarding.{TrustDesk, trust_desk, trust_server}
use Rattle.domain_controller.specs.State.{State as ControllerState}
use Rattle.domain_controller.specs.Step.{LinkMap}
use Rattle.domain_controller.specs.TrustStep.{TrustPart, TrustParts, after_turned, after_units, answer_dial, by_trust_event, close_by, close_number, event_and_turn, fail_dial, first_waiting, is_idle, link_with, next_if, next_part, next_turn, on_turn, open_by, parts_of, put_open, serve_bytes, serve_on, start_at, start_on, trust_halted, trust_part, trust_state_after, trust_step_of, trust_step_on, turn_at, turning_of, without_link}
use Rattle.domain_controller.specs.declared.state.Running.{Running}
use Rattle.domain_controller.specs.declared.state.Talk.{Talk}
use Rattle.domain_controller.specs.declared.trusting.Parts.{Parts}
use Rattle.member_server.specs.Whole.{BringsBytes, InRangeJoiner}
use Rattle.member_server.proofs.ByteParts.{open_are, stub_are, whole_are}
use Rattle.domain_world.specs.Accepting.Listening.{TurnHasBytes}

-- ---- units on the link of the turn

abbrev SaidBytes : Option TurnTalk → Type 0
SaidBytes said = IfThere (λ (talk : TurnTalk). InRangeJoiner talk.joiner) said

-- what was granted can be written, and has its ranges
pub record IsWritable (info : SamInfo) : Type 0 where
  pub can : CanWriteSamInfo info
  pub range : InRangeSamInfo info

abbrev pub HowFits : TurnEnd → Type 0
HowFits turn_end.Half = Unit {0}
HowFits turn_end.Opened = Unit {0}
HowFits turn_end.Set = Unit {0}
HowFits (turn_end.Answer place verdict) = IfGranted verdict IsWritable
HowFits (turn_end.Dropped place cause) = Unit {0}

-- what a turn ended with, if it ended
abbrev pub EndFits : Option TurnEnded → Type 0
EndFits None = Unit {0}
EndFits (Some ended) = HowFits ended.how

-- of what serving units comes to
abbrev ServedBytes : TurnServed → Type 0
ServedBytes served = SaidBytes served.1 × EndFits served.0.ended

both_granted : (verdict : Verdict) → IfGranted verdict CanWriteSamInfo → IfGranted verdict InRangeSamInfo → IfGranted verdict IsWritable
both_granted (Granted info) can range = record { can = can; range = range }
both_granted (Status status) can range = tt

taken_bytes : (what : Taken) (joiner : Option RpcUnit) (at : TurnWork) → InRangeJoiner joiner → IfTaken what CanWriteSamInfo → IfTaken what InRangeSamInfo → EndFits at.ended →
    ServedBytes (do_taken what joiner at)
taken_bytes (taken.Skip right) joiner at wide can range ended = (wide, ended)
taken_bytes (taken.Next right frames) joiner at wide can range ended = (wide, ended)
taken_bytes taken.Half joiner at wide can range ended = (tt, tt)
taken_bytes taken.Opened joiner at wide can range ended = (tt, tt)
taken_bytes (taken.Answer place verdict) joiner at wide can range ended = (tt, both_granted verdict can range)
taken_bytes (taken.Dropped place cause) joiner at wide can range ended = (tt, tt)
taken_bytes taken.Set joiner at wide can range ended = (tt, tt)

body_bytes : (body : Body) → AreBytes (stub_of body) → HasBytes body
body_bytes (Response hint context stub) are = are
body_bytes (Request hint context opnum stub) are = tt
body_bytes (Fault hint context status) are = tt
body_bytes (Bind send receive group contexts) are = tt
body_bytes (BindAck send receive group results) are = tt
body_bytes (BindNak reason) are = tt
body_bytes Auth3 are = tt

joined_bytes : (answer : Result (Option RpcUnit) JoinRefused) (after : Option RpcUnit) (at : TurnWork) → InRangeJoiner after →
    ((unit : RpcUnit) → answer ≡ Ok (Some unit) → AreBytes (stub_of unit.body)) → EndFits at.ended → ServedBytes (do_heard (heard_by answer after) at)
joined_bytes (Err join.OutOfPlace) after at wide whole ended = (tt, tt)
joined_bytes (Err join.CallTooLong) after at wide whole ended = (tt, tt)
joined_bytes (Err join.Memory) after at wide whole ended = (tt, tt)
joined_bytes (Ok None) after at wide whole ended = (wide, ended)
joined_bytes (Ok (Some unit)) after at wide whole ended =
    let has : HasBytes unit.body = body_bytes unit.body (whole unit refl) in
    taken_bytes (take_of at.channel unit).taken after (with_channel (take_of at.channel unit).state at) wide (grants_are_writable.writes at.channel unit has) (grants_are_writable.range at.channel unit has) ended

read_bytes : (read : Result RpcUnit UnitRefused) (bytes : List ℕ) (joiner : Option RpcUnit) (at : TurnWork) → unit_of bytes ≡ read → AreBytes bytes → InRangeJoiner joiner → EndFits at.ended →
    ServedBytes (turn_unit read joiner at)
read_bytes (Err why) bytes joiner at is are wide ended = (tt, tt)
read_bytes (Ok unit) bytes joiner at is are wide ended =
    let stub : AreBytes (stub_of unit.body) = stub_are bytes unit are is in
    joined_bytes (answer_of joiner unit) (open_after joiner unit) at (open_are joiner unit wide stub) (λ whole joined. whole_are joiner unit whole wide stub joined) ended

later_bytes : (served : TurnServed) (later : TurnWork → TurnTalk → TurnServed) → ServedBytes served →
    ((at : TurnWork) (talk : TurnTalk) → InRangeJoiner talk.joiner → EndFits at.ended → ServedBytes (later at talk)) → ServedBytes (then_said served later)
later_bytes (at, None) later is each = is
later_bytes (at, Some talk) later is each = each at talk is.0 is.1

units_bytes : (units : List (List ℕ)) (why : Option UnitRefused) (at : TurnWork) (talk : TurnTalk) → AllByRecursion AreBytes units → InRangeJoiner talk.joiner → EndFits at.ended →
    ServedBytes (served_by units why at talk)
units_bytes [] None at talk are wide ended = (wide, ended)
units_bytes [] (Some why) at talk are wide ended = (tt, tt)
units_bytes (bytes ∷ units) why at talk are wide ended =
    later_bytes (turn_unit (unit_of bytes) talk.joiner at) (λ later said. served_by units why later said) (read_bytes (unit_of bytes) bytes talk.joiner at refl are.0 wide ended)
    (λ later said so fits. units_bytes units why later said are.1 so fits)

-- ---- events for the turn

kept_bytes : (number : ℕ) (said : Option TurnTalk) (rest : List ℕ) → AreBytes rest → SaidBytes said → TurnHasBytes (keep_link number (keep_turn said rest))
kept_bytes number None rest are wide = tt
kept_bytes number (Some talk) rest are wide = (are, wide)

hear_if_bytes : (b : Bool) (number : ℕ) (said : LinkState TurnTalk) (piece : List ℕ) (turning : Turning) → AreBytes piece → TurnHasBytes (dialling.On number said) → TurnHasBytes turning.dialling →
    TurnHasBytes (hear_if b number said piece turning).0.dialling
hear_if_bytes false number said piece turning are has kept = kept
hear_if_bytes true number said piece turning are has kept =
    let at : TurnWork = record { link = number; channel = turning.channel; actions = turning.actions; ended = None } in
    let cut = cut_bytes (said.rest ++ piece) (AreBytes-append said.rest piece has.0 are) in
    kept_bytes number (turn_served (cut_stream (said.rest ++ piece)) at said.talk).1 (cut_stream (said.rest ++ piece)).rest cut.1
    (units_bytes (cut_stream (said.rest ++ piece)).units (cut_stream (said.rest ++ piece)).refused at said.talk cut.0 has.1 tt).0

hears_bytes : (how : Dialling) (link : ℕ) (piece : List ℕ) (turning : Turning) → AreBytes piece → TurnHasBytes how → TurnHasBytes turning.dialling → TurnHasBytes (hear_by how link piece turning).0.dialling
hears_bytes dialling.Nothing link piece turning are has kept = kept
hears_bytes (dialling.Waits turn frames) link piece turning are has kept = kept
hears_bytes (dialling.On number said) link piece turning are has kept = hear_if_bytes (number == link) number said piece turning are has kept

-- what the turn ends with there
hear_if_fits : (b : Bool) (number : ℕ) (said : LinkState TurnTalk) (piece : List ℕ) (turning : Turning) → AreBytes piece → TurnHasBytes (dialling.On number said) →
    EndFits (hear_if b number said piece turning).1
hear_if_fits false number said piece turning are has = tt
hear_if_fits true number said piece turning are has =
    let at : TurnWork = record { link = number; channel = turning.channel; actions = turning.actions; ended = None } in
    let cut = cut_bytes (said.rest ++ piece) (AreBytes-append said.rest piece has.0 are) in
    (units_bytes (cut_stream (said.rest ++ piece)).units (cut_stream (said.rest ++ piece)).refused at said.talk cut.0 has.1 tt).1

pub hears_fit : (how : Dialling) (link : ℕ) (piece : List ℕ) (turning : Turning) → AreBytes piece → TurnHasBytes how → EndFits (hear_by how link piece turning).1
hears_fit dialling.Nothing link piece turning are has = tt
hears_fit (dialling.Waits turn frames) link piece turning are has = tt
hears_fit (dialling.On number said) link piece turning are has = hear_if_fits (number == link) number said piece turning are has

pub closes_fit : (b : Bool) (turning : Turning) → EndFits (close_if b turning).1
closes_fit false turning = tt
closes_fit true turning = tt

pub fails_fit : (how : Dialling) (turning : Turning) → EndFits (fail_by how turning).1
fails_fit dialling.Nothing turning = tt
fails_fit (dialling.Waits turn frames) turning = tt
fails_fit (dialling.On number said) turning = tt

closes_bytes : (b : Bool) (turning : Turning) → TurnHasBytes turning.dialling → TurnHasBytes (close_if b turning).0.dialling
closes_bytes false turning has = has
closes_bytes true turning has = tt

fails_bytes : (how : Dialling) (turning : Turning) → TurnHasBytes turning.dialling → TurnHasBytes (fail_by how turning).0.dialling
fails_bytes dialling.Nothing turning has = has
fails_bytes (dialling.Waits turn frames) turning has = tt
fails_bytes (dialling.On number said) turning has = has

answers_bytes : (how : Dialling) (link : ℕ) (turning : Turning) → TurnHasBytes turning.dialling → TurnHasBytes (answer_by how link turning).dialling
answers_bytes dialling.Nothing link turning has = has
answers_bytes (dialling.Waits turn frames) link turning has = (AreBytes-nil, tt)
answers_bytes (dialling.On number said) link turning has = has

abbrev KeepsTurn : (Turning → Turned) → Type 0
KeepsTurn happens = (turning : Turning) → TurnHasBytes turning.dialling → TurnHasBytes (happens turning).0.dialling

turn_bytes : (found : Option Requester) (happens : Turning → Turned) (parts : Parts) → KeepsTurn happens → TurnHasBytes parts.dialling → TurnHasBytes (turn_at found happens parts).dialling
turn_bytes None happens parts keeps has = has
turn_bytes (Some channel) happens parts keeps has = keeps (turning_of channel parts) has

on_bytes : (happens : Turning → Turned) (parts : Parts) → KeepsTurn happens → TurnHasBytes parts.dialling → TurnHasBytes (on_turn happens parts).dialling
on_bytes happens parts keeps has = turn_bytes (slice_get parts.work.queues.requesters parts.turn_of) happens parts keeps has

-- ---- an event

closed_bytes : (b : Bool) (number : ℕ) (parts : Parts) → TurnHasBytes parts.dialling → TurnHasBytes (close_by b number parts).dialling
closed_bytes false number parts has = has
closed_bytes true number parts has = on_bytes (λ turning. link_closes number turning) parts (λ turning kept. closes_bytes (is_on number turning.dialling) turning kept) has

opened_bytes : (full : Bool) (number : ℕ) (parts : Parts) → TurnHasBytes parts.dialling → TurnHasBytes (open_by full number parts).dialling
opened_bytes true number parts has = has
opened_bytes false number parts has = has

dial_bytes : (waits : Bool) (number : ℕ) (parts : Parts) → TurnHasBytes parts.dialling → TurnHasBytes (answer_dial waits number parts).dialling
dial_bytes false number parts has = has
dial_bytes true number parts has =
    on_bytes (λ turning. (link_answers number turning, None)) (without_link number parts) (λ turning kept. answers_bytes turning.dialling number turning kept) has

failed_bytes : (waits : Bool) (parts : Parts) → TurnHasBytes parts.dialling → TurnHasBytes (fail_dial waits parts).dialling
failed_bytes false parts has = has
failed_bytes true parts has = on_bytes (λ turning. no_dial turning) parts (λ turning kept. fails_bytes turning.dialling turning kept) has

put_bytes : (open_link : Option (LinkState Talk)) (number : ℕ) (parts : Parts) → TurnHasBytes parts.dialling → TurnHasBytes (put_open open_link number parts).dialling
put_bytes None number parts has = has
put_bytes (Some link) number parts has = has

abbrev StepHas : TrustPart → Type 0
StepHas (Err why) = Unit {0}
StepHas (Ok part) = TurnHasBytes part.value.parts.dialling

after_bytes : (part : ServedPart TrustDesk Talk) (rest : List ℕ) (number : ℕ) (others : LinkMap) (parts : Parts) → TurnHasBytes parts.dialling → StepHas (after_units part rest number others parts)
after_bytes (Err why) rest number others parts has = tt
after_bytes (Ok part) rest number others parts has = put_bytes (link_with rest part.value.1) number (record parts { work = part.value.0.work; links = others }) has

serve_on_bytes : (found : Option (LinkState Talk)) (number : ℕ) (piece name : List ℕ) (now : ℕ) (others : LinkMap) (table : AccountTable) (parts : Parts) (left : List (List ℕ)) →
    TurnHasBytes parts.dialling → StepHas (serve_on found number piece name now others table parts left)
serve_on_bytes None number piece name now others table parts left has = has
serve_on_bytes (Some link) number piece name now others table parts left has =
    after_bytes (served_cut (trust_server name now number) (cut_stream (link.rest ++ piece)) (trust_desk table parts.work) link.talk left) (cut_stream (link.rest ++ piece)).rest number others parts has

piece_bytes : (b : Bool) (number : ℕ) (piece name : List ℕ) (now : ℕ) (table : AccountTable) (parts : Parts) (left : List (List ℕ)) → AreBytes piece → TurnHasBytes parts.dialling →
    StepHas (serve_bytes b number piece name now table parts left)
piece_bytes true number piece name now table parts left are has =
    on_bytes (λ turning. link_hears number piece turning) parts (λ turning kept. hears_bytes turning.dialling number piece turning are kept kept) has
piece_bytes false number piece name now table parts left are has =
    serve_on_bytes (lookup same_number number parts.links) number piece name now (take_out same_number number parts.links) table parts left has

event_bytes : (what : Event) (name : List ℕ) (now : ℕ) (table : AccountTable) (parts : Parts) (left : List (List ℕ)) → BringsBytes what → TurnHasBytes parts.dialling →
    StepHas (by_trust_event what name now table parts left)
event_bytes (event.Opened number) name now table parts left are has = opened_bytes _ number (close_number number parts) (closed_bytes (is_on number parts.dialling) number parts has)
event_bytes (event.Bytes number piece) name now table parts left are has = piece_bytes (is_on number parts.dialling) number piece name now table parts left are has
event_bytes (event.Closed number) name now table parts left are has = closed_bytes (is_on number parts.dialling) number parts has
event_bytes (event.Dialled number) name now table parts left are has = dial_bytes (is_waiting parts.dialling) number parts has
event_bytes event.DialFailed name now table parts left are has = failed_bytes (is_waiting parts.dialling) parts has
event_bytes event.Stop name now table parts left are has = has

-- ---- the next turn, and a step

abbrev NextHas : Result (Part Parts) StepRefused → Type 0
NextHas (Err why) = Unit {0}
NextHas (Ok part) = TurnHasBytes part.value.dialling

dialled_bytes : (start : Option (Unit {0} × List (List ℕ))) (peer : List ℕ) (turning : Turning) → TurnHasBytes turning.dialling → TurnHasBytes (dial_for start peer turning).dialling
dialled_bytes None peer turning has = has
dialled_bytes (Some start) peer turning has = tt

begun_bytes : (next : Result (Part NextTurn) StepRefused) (peer : List ℕ) (channel : Requester) (trust : ℕ) (parts : Parts) → TurnHasBytes parts.dialling →
    NextHas (then_part (then_part next (dial_part peer (turning_of channel parts))) (λ turning rest. next_part (after_turned trust (turning, None) parts) rest))
begun_bytes (Err why) peer channel trust parts has = tt
begun_bytes (Ok part) peer channel trust parts has = dialled_bytes part.value.1 peer (record (turning_of channel parts) { channel = part.value.0 }) has

start_bytes : (found : Option Requester) (entry : Option Trust) (trust now : ℕ) (parts : Parts) (left : List (List ℕ)) → TurnHasBytes parts.dialling → NextHas (start_on found entry trust now parts left)
start_bytes None entry trust now parts left has = has
start_bytes (Some channel) None trust now parts left has = has
start_bytes (Some channel) (Some entry) trust now parts left has = begun_bytes (channel_turn now channel left) entry.address channel trust parts has

at_bytes : (first : Option ℕ) (trusts : List Trust) (now : ℕ) (parts : Parts) (left : List (List ℕ)) → TurnHasBytes parts.dialling → NextHas (start_at first trusts now parts left)
at_bytes None trusts now parts left has = has
at_bytes (Some trust) trusts now parts left has = start_bytes _ _ trust now parts left has

next_bytes : (idle : Bool) (trusts : List Trust) (now : ℕ) (parts : Parts) (left : List (List ℕ)) → TurnHasBytes parts.dialling → NextHas (next_if idle trusts now parts left)
next_bytes false trusts now parts left has = has
next_bytes true trusts now parts left has = at_bytes (first_waiting parts.work.queues.requesters) trusts now parts left has

with_table : (part : Result (Part Parts) StepRefused) (table : AccountTable) → NextHas part → StepHas (then_part part (λ later last. trust_part table later last))
with_table (Err why) table has = tt
with_table (Ok part) table has = has

turn_behind : (part : TrustPart) (trusts : List Trust) (now : ℕ) → StepHas part →
    StepHas (then_part part (λ after rest. then_part (next_turn trusts now after.parts rest) (λ later last. trust_part after.table later last)))
turn_behind (Err why) trusts now has = tt
turn_behind (Ok part) trusts now has =
    with_table (next_turn trusts now part.value.parts part.left) part.value.table (next_bytes (is_idle part.value.parts.dialling) trusts now part.value.parts part.left has)

taken_has : (part : TrustPart) (c : ControllerState) (left : List (List ℕ)) → StepHas part →
    TurnHasBytes (step_by (λ (after : TrustParts). after.parts.work.work.actions) (λ after. trust_state_after c after) (trust_halted c) left part).state.trusting.dialling
taken_has (Err why) c left has = tt
taken_has (Ok part) c left has = has

on_has : (found : Option Running) (c : ControllerState) (what : Event) (now : ℕ) (left : List (List ℕ)) → BringsBytes what → TurnHasBytes c.trusting.dialling →
    TurnHasBytes (trust_step_on found c what now left).state.trusting.dialling
on_has None c what now left are has = has
on_has (Some running) c what now left are has =
    let parts : Parts = parts_of running c.trusting in
    taken_has (event_and_turn c.table.trusts what c.name now c.table parts left) c left
    (turn_behind (by_trust_event what c.name now c.table parts left) c.table.trusts now (event_bytes what c.name now c.table parts left are has))

pub turn_keeps_bytes : (c : ControllerState) (what : Event) (now : ℕ) (left : List (List ℕ)) → BringsBytes what → TurnHasBytes c.trusting.dialling →
    TurnHasBytes (trust_step_of c what now left).state.trusting.dialling
turn_keeps_bytes c what now left are has = on_has c.running c what now left are has
