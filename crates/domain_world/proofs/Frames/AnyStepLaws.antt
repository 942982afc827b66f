-- What a step of an end leaves of the challenges in every world, whether something seals there or not: a rest of those
-- that were left. It serves `draws_of_runs_differ` and `what_is_not_handed_on_runs_alone`.
use Rattle.std.proofs.Common.{◌==◌, ℕ, Bool, true, false, List, [], ◌∷◌, ◌++◌, Option, Some, None, Result, Ok, Err, refl}
use Rattle.wire_base.specs.Maps.{lookup, same_number, take_out}
use Rattle.outside.specs.Drawing.{Drawing, IsRest}
use Rattle.outside.specs.Machine.{Part, left_by, step_by, then_part}
use Rattle.outside.specs.declared.action.StepRefused.{StepRefused}
use Rattle.outside.specs.declared.event.Event.{Event}
use Rattle.outside.specs.declared.event.Event.TheVariants as event
use Rattle.outside.proofs.DrawLaws.{IsRest-nothing, IsRest-refl}
use Rattle.outside.proofs.MachineLaws.{then_part-rest}
use Rattle.rpc_units.specs.Stream.{Cut, cut_stream}
use Rattle.end_links.specs.Links.{LinkState}
use Rattle.end_links.specs.Serving.{ServerLeavesRest, served_cut}
use Rattle.end_links.proofs.ServingLaws.{units_served}
use Rattle.account_table.specs.AccountTable.{AccountTable}
use Rattle.channel_turns.specs.SealedTurns.{after_sealed_units, sealed_hear_by, sealed_hear_if, sealed_link_hears, sealed_turn_server, sealed_work}
use Rattle.channel_turns.specs.Turning.{is_on}
use Rattle.channel_turns.specs.declared.sealed_turns.SealedWork.{SealedWork}
use Rattle.channel_turns.specs.declared.state.Dialling.{Dialling}
use Rattle.channel_turns.specs.declared.state.Dialling.TheVariants as dialling
use Rattle.channel_turns.specs.declared.state.TurnTalk.{TurnTalk}
use Rattle.channel_turns.specs.declared.state.Turning.{Turning}
use Rattle.domain_controller.specs.Forwarding.{trust_desk}
use Rattle.domain_controller.specs.SealServing.{SealDesk, seal_server}
use Rattle.domain_controller.specs.SealStep.{SealParts, SealStepPart, by_seal_event, seal_put_open, seal_serve_bytes, seal_serve_on, seal_state_after, seal_step_on, seal_step_part, step_with as seal_step_with}
use Rattle.domain_controller.specs.State.{State as ControllerState}
use Rattle.domain_controller.specs.Step.{LinkMap}
use Rattle.domain_controller.specs.TrustStep.{link_with, next_turn, parts_of, trust_halted}
use Rattle.domain_controller.specs.declared.sealed.Sealing.{Sealing}
use Rattle.domain_controller.specs.declared.state.Running.{Running}
use Rattle.domain_controller.specs.declared.state.Talk.{Talk}
use Rattle.domain_controller.specs.declared.trusting.Parts.{Parts}
use Rattle.domain_controller.proofs.SealRestLaws.{seal_server_leaves}
use Rattle.domain_controller.proofs.TrustStepLaws.{turn_rest}
use Rattle.member_server.specs.Machine.{by_event, halted_state, work_of}
use Rattle.member_server.specs.SealStep.{SealWork, actions_of_sealed, after_sealed, any_step_on, as_before, beside, by_sealed_event, next_sealed, sealed_bytes_by, sealed_part, state_of_sealed, step_with as member_step_with}
use Rattle.member_server.specs.State.{State as MemberState}
use Rattle.member_server.specs.Turns.{turning_of}
use Rattle.member_server.specs.declared.state.Running.{Running as MemberRunning}
use Rattle.member_server.specs.declared.state.TurnSealing.{TurnSealing}
use Rattle.member_server.specs.declared.state.Work.{Work}
use Rattle.member_server.proofs.SealLaws.{next_rest}
use Rattle.interactive_station.specs.Machine.{actions_after, after_stream, by_close as station_close, by_event as station_event, by_piece as station_piece, halted as station_halted, opens as station_opens, state_after, station_server, step_by_outcome as station_by_outcome, step_by_running as station_by_running, work_of as station_work}
use Rattle.interactive_station.specs.Rests.{station_leaves}
use Rattle.interactive_station.specs.State.{StationState}
use Rattle.interactive_station.specs.declared.outcome.StationOutcome.{StationOutcome}
use Rattle.interactive_station.specs.declared.state.StationAfter.{StationAfter}
use Rattle.interactive_station.specs.declared.state.StationCall.{StationCall}
use Rattle.interactive_station.specs.declared.state.StationLink.{StationLink}
use Rattle.interactive_station.specs.declared.state.StationLink.TheVariants as station_link
use Rattle.interactive_station.specs.declared.state.StationRunning.{StationRunning}
use Rattle.interactive_station.specs.declared.state.StationTalk.{StationTalk}
use Rattle.interactive_station.specs.declared.state.StationWork.{StationWork}
use Rattle.step_notes.proofs.Members.RestLaws.{client_leaves_rest, event_rest as member_event_rest, member_leaves}
use Rattle.world_moves.specs.declared.links.EndId.{EndId}
use Rattle.world_moves.specs.Ends.{EndStates, EndStep, end_step}
use Rattle.world_moves.proofs.EndKindLaws.{step_by as end_by}
use Rattle.domain_world.proofs.Frames.EveryStepLaws.{controller_rest as plain_rest}

-- ---- a controller

on_rest : (found : Option (LinkState Talk)) (number : ℕ) (piece name : List ℕ) (now : ℕ) (others : LinkMap) (table : AccountTable) (parts : Parts) (s : Sealing) (left : List (List ℕ)) →
    IsRest (left_by (seal_serve_on found number piece name now others table parts s left)) left
on_rest None number piece name now others table parts s left = IsRest-refl left
on_rest (Some link) number piece name now others table parts s left =
    let cut : Cut = cut_stream (link.rest ++ piece) in
    let d : SealDesk = record { desk = trust_desk table parts.work; sealing = Some s } in
    then_part-rest (served_cut (seal_server name now number) cut d link.talk left)
    (λ done rest. Ok (record { value = seal_put_open (link_with cut.rest done.1) number done.0 others parts; left = rest })) left
    (λ done rest. IsRest-refl rest) (units_served.rest (seal_server name now number) cut d link.talk left (seal_server_leaves name now number))

bytes_rest : (is_turn_link : Bool) (number : ℕ) (piece name : List ℕ) (now : ℕ) (table : AccountTable) (parts : Parts) (s : Sealing) (left : List (List ℕ)) →
    IsRest (left_by (seal_serve_bytes is_turn_link number piece name now table parts s left)) left
bytes_rest true number piece name now table parts s left = IsRest-refl left
bytes_rest false number piece name now table parts s left =
    on_rest (lookup same_number number parts.links) number piece name now (take_out same_number number parts.links) table parts s left

event_rest : (what : Event) (name : List ℕ) (now : ℕ) (table : AccountTable) (parts : Parts) (s : Sealing) (left : List (List ℕ)) →
    IsRest (left_by (by_seal_event what name now table parts s left)) left
event_rest (event.Opened number) name now table parts s left = IsRest-refl left
event_rest (event.Bytes number piece) name now table parts s left = bytes_rest (is_on number parts.dialling) number piece name now table parts s left
event_rest (event.Closed number) name now table parts s left = IsRest-refl left
event_rest (event.Dialled number) name now table parts s left = IsRest-refl left
event_rest event.DialFailed name now table parts s left = IsRest-refl left
event_rest event.Stop name now table parts s left = IsRest-refl left

stepped_rest : (c : ControllerState) (left : List (List ℕ)) (part : SealStepPart) → IsRest (left_by part) left →
    IsRest (step_by (λ (after : SealParts). after.rest.parts.work.work.actions) (λ after. seal_state_after c after) (trust_halted c) left part).left left
stepped_rest c left (Err why) rest = IsRest-nothing left
stepped_rest c left (Ok part) rest = rest

-- of one that can seal
pub sealing_rest : (running : Option Running) (sealing : Sealing) (c : ControllerState) (what : Event) (now : ℕ) (left : List (List ℕ)) → IsRest (seal_step_on running sealing c what now left).left left
sealing_rest None sealing c what now left = IsRest-refl left
sealing_rest (Some running) sealing c what now left =
    let parts : Parts = parts_of running c.trusting in
    stepped_rest c left (seal_step_part running sealing c what now left)
    (then_part-rest (by_seal_event what c.name now c.table parts sealing left)
    (λ (after : SealParts) (rest : List (List ℕ)).
    then_part (next_turn c.table.trusts now after.rest.parts rest) (λ (later : Parts) (last : List (List ℕ)). Ok (record {
      value = record { rest = record { table = after.rest.table; parts = later }; sealing = after.sealing };
      left = last;
    }))) left
    (λ after rest.
    then_part-rest (next_turn c.table.trusts now after.rest.parts rest) (λ (later : Parts) (last : List (List ℕ)). Ok (record {
      value = record { rest = record { table = after.rest.table; parts = later }; sealing = after.sealing };
      left = last;
    })) rest
    (λ later last. IsRest-refl last) (turn_rest c.table.trusts now after.rest.parts rest))
    (event_rest what c.name now c.table parts sealing left))

with_rest : (sealing : Option Sealing) (c : ControllerState) (what : Event) (now : ℕ) (left : List (List ℕ)) → IsRest (seal_step_with sealing c what now left).left left
with_rest None c what now left = plain_rest c.running c what now left
with_rest (Some sealing) c what now left = sealing_rest c.running sealing c what now left

-- ---- a member

turn_leaves : ServerLeavesRest sealed_turn_server
turn_leaves = record { unit = λ bytes at talk left. IsRest-refl left; refusal = λ why at talk left. IsRest-refl left }

hears_if : (own : Bool) (link : ℕ) (said : LinkState TurnTalk) (piece : List ℕ) (sealed : Bool) (turning : Turning) (left : List (List ℕ)) →
    IsRest (left_by (sealed_hear_if own link said piece sealed turning left)) left
hears_if false link said piece sealed turning left = IsRest-refl left
hears_if true link said piece sealed turning left =
    let cut : Cut = cut_stream (said.rest ++ piece) in
    let work : SealedWork = sealed_work link sealed turning in
    then_part-rest (served_cut sealed_turn_server cut work said.talk left) (after_sealed_units link cut.rest) left
    (λ served rest. IsRest-refl rest) (units_served.rest sealed_turn_server cut work said.talk left turn_leaves)

hears_by : (how : Dialling) (link : ℕ) (piece : List ℕ) (sealed : Bool) (turning : Turning) (left : List (List ℕ)) → IsRest (left_by (sealed_hear_by how link piece sealed turning left)) left
hears_by dialling.Nothing link piece sealed turning left = IsRest-refl left
hears_by (dialling.Waits turn frames) link piece sealed turning left = IsRest-refl left
hears_by (dialling.On number said) link piece sealed turning left = hears_if _ number said piece sealed turning left

before_rest : (what : Event) (how : Dialling) (work : Work) (sealed : Bool) (left : List (List ℕ)) → IsRest (left_by (as_before what how work sealed left)) left
before_rest what how work sealed left =
    then_part-rest (by_event what how work left) (beside sealed) left (λ done rest. IsRest-refl rest) (member_event_rest what how work left)

piece_rest : (own : Bool) (link : ℕ) (piece : List ℕ) (how : Dialling) (work : Work) (sealed : Bool) (left : List (List ℕ)) →
    IsRest (left_by (sealed_bytes_by own link piece how work sealed left)) left
piece_rest true link piece how work sealed left =
    then_part-rest (sealed_link_hears link piece sealed (turning_of work how) left) (after_sealed work) left (λ turned rest. IsRest-refl rest)
    (hears_by how link piece sealed (turning_of work how) left)
piece_rest false link piece how work sealed left = before_rest (event.Bytes link piece) how work sealed left

sealed_event_rest : (what : Event) (how : Dialling) (work : Work) (sealed : Bool) (left : List (List ℕ)) → IsRest (left_by (by_sealed_event what how work sealed left)) left
sealed_event_rest (event.Bytes link piece) how work sealed left = piece_rest (is_on link how) link piece how work sealed left
sealed_event_rest (event.Opened link) how work sealed left = before_rest (event.Opened link) how work sealed left
sealed_event_rest (event.Closed link) how work sealed left = before_rest (event.Closed link) how work sealed left
sealed_event_rest (event.Dialled link) how work sealed left = before_rest (event.Dialled link) how work sealed left
sealed_event_rest event.DialFailed how work sealed left = before_rest event.DialFailed how work sealed left
sealed_event_rest event.Stop how work sealed left = before_rest event.Stop how work sealed left

pub taken_rest : (left : List (List ℕ)) (part : Result (Part SealWork) StepRefused) → IsRest (left_by part) left → IsRest (step_by actions_of_sealed state_of_sealed halted_state left part).left left
taken_rest left (Err why) rest = IsRest-nothing left
taken_rest left (Ok part) rest = rest

-- of one whose channel seals
pub sealed_rest : (running : MemberRunning) (sealed : Bool) (what : Event) (now : ℕ) (left : List (List ℕ)) → IsRest (left_by (sealed_part running sealed what now left)) left
sealed_rest running sealed what now left =
    then_part-rest (by_sealed_event what running.dialling (work_of running) sealed left) (next_sealed now) left (λ work rest. next_rest now work rest)
    (sealed_event_rest what running.dialling (work_of running) sealed left)

member_with : (sealing : Option TurnSealing) (running : MemberRunning) (m : MemberState) (what : Event) (now : ℕ) (left : List (List ℕ)) →
    IsRest (member_step_with sealing running m what now left).left left
member_with None running m what now left = member_leaves (record { running = Some running }) what now left
member_with (Some sealing) running m what now left = taken_rest left (sealed_part running sealing.is_link_sealed what now left) (sealed_rest running sealing.is_link_sealed what now left)

member_rest : (running : Option MemberRunning) (m : MemberState) (what : Event) (now : ℕ) (left : List (List ℕ)) → IsRest (any_step_on running m what now left).left left
member_rest None m what now left = IsRest-refl left
member_rest (Some running) m what now left = member_with running.sealing running m what now left

-- ---- a station

opens_rest : (c : Option StationCall) (link : ℕ) (work : StationWork) (left : List (List ℕ)) → IsRest (left_by (station_opens c link work left)) left
opens_rest (Some c) link work left = IsRest-refl left
opens_rest None link work [] = IsRest-refl []
opens_rest None link work (client ∷ left) = record { front = client ∷ []; is = refl }

station_piece_rest : (own : Bool) (piece : List ℕ) (link : LinkState StationTalk) (work : StationWork) (left : List (List ℕ)) → IsRest (left_by (station_piece own piece link work left)) left
station_piece_rest false piece link work left = IsRest-refl left
station_piece_rest true piece link work left =
    let cut : Cut = cut_stream (link.rest ++ piece) in
    then_part-rest (served_cut station_server cut work link.talk left) (after_stream cut.rest) left (λ served rest. IsRest-refl rest)
    (units_served.rest station_server cut work link.talk left station_leaves)

station_close_rest : (own : Bool) (link : LinkState StationTalk) (work : StationWork) (left : List (List ℕ)) → IsRest (left_by (station_close own link work left)) left
station_close_rest false link work left = IsRest-refl left
station_close_rest true link work left = IsRest-refl left

station_event_rest : (what : Event) (standing : StationLink) (work : StationWork) (left : List (List ℕ)) → IsRest (left_by (station_event what standing work left)) left
station_event_rest (event.Opened link) station_link.Idle work left = IsRest-refl left
station_event_rest (event.Opened link) (station_link.Dialling c) work left = IsRest-refl left
station_event_rest (event.Opened link) (station_link.On own) work left = station_close_rest (link == own.talk.link) own work left
station_event_rest (event.Bytes link piece) station_link.Idle work left = IsRest-refl left
station_event_rest (event.Bytes link piece) (station_link.Dialling c) work left = IsRest-refl left
station_event_rest (event.Bytes link piece) (station_link.On own) work left = station_piece_rest (link == own.talk.link) piece own work left
station_event_rest (event.Closed link) station_link.Idle work left = IsRest-refl left
station_event_rest (event.Closed link) (station_link.Dialling c) work left = IsRest-refl left
station_event_rest (event.Closed link) (station_link.On own) work left = station_close_rest (link == own.talk.link) own work left
station_event_rest (event.Dialled link) station_link.Idle work left = IsRest-refl left
station_event_rest (event.Dialled link) (station_link.Dialling c) work left = opens_rest c link work left
station_event_rest (event.Dialled link) (station_link.On own) work left = IsRest-refl left
station_event_rest event.DialFailed station_link.Idle work left = IsRest-refl left
station_event_rest event.DialFailed (station_link.Dialling c) work left = IsRest-refl left
station_event_rest event.DialFailed (station_link.On own) work left = IsRest-refl left
station_event_rest event.Stop station_link.Idle work left = IsRest-refl left
station_event_rest event.Stop (station_link.Dialling c) work left = IsRest-refl left
station_event_rest event.Stop (station_link.On own) work left = IsRest-refl left

station_part_rest : (t : StationState) (left : List (List ℕ)) (part : Result (Part StationAfter) StepRefused) → IsRest (left_by part) left →
    IsRest (step_by actions_after state_after (station_halted t) left part).left left
station_part_rest t left (Err why) rest = IsRest-nothing left
station_part_rest t left (Ok part) rest = rest

station_outcome_rest : (outcome : Option StationOutcome) (running : StationRunning) (t : StationState) (what : Event) (now : ℕ) (left : List (List ℕ)) →
    IsRest (station_by_outcome outcome running t what now left).left left
station_outcome_rest (Some outcome) running t what now left = IsRest-refl left
station_outcome_rest None running t what now left =
    station_part_rest t left (station_event what running.standing (station_work running.task now) left) (station_event_rest what running.standing (station_work running.task now) left)

pub station_rest : (running : Option StationRunning) (t : StationState) (what : Event) (now : ℕ) (left : List (List ℕ)) → IsRest (station_by_running running t what now left).left left
station_rest None t what now left = IsRest-refl left
station_rest (Some running) t what now left = station_outcome_rest t.outcome running t what now left

-- ---- any end

pub any_rests : (end : EndId) (what : Event) (now : ℕ) (ends : EndStates) (chances : Drawing) → IsRest (end_step end what now ends chances).chances.left chances.left
any_rests end what now ends chances =
    end_by (λ (one : EndId) (step : EndStep). IsRest step.chances.left chances.left) what now ends chances (λ one. IsRest-refl chances.left)
    (λ at c is. with_rest c.trusting.sealing c what now chances.left) (λ at m is. member_rest m.running m what now chances.left)
    (λ at c is. client_leaves_rest c what now chances.left) (λ at t is. station_rest t.running t what now chances.left) end
