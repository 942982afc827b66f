-- The challenges that a step of a member or a client leaves are a rest of those that were left before it.
-- It serves `Proved.grants`, `Proved.messages`, `Proved.replays` and 4 more.
use Rattle.std.proofs.Common.{ℕ, ◌==◌, Bool, true, false, List, [], ◌∷◌, ◌++◌, Option, Some, None, Result, Ok, Err}
use Rattle.wire_base.specs.Maps.{lookup, same_number}
use Rattle.outside.specs.declared.action.Action.{Action}
use Rattle.outside.specs.declared.action.StepRefused.{StepRefused}
use Rattle.outside.specs.declared.event.Event.{Event}
use Rattle.outside.specs.declared.event.Event.TheVariants as event
use Rattle.outside.specs.Drawing.{IsRest}
use Rattle.outside.specs.Machine.{Part, left_by, step_by}
use Rattle.outside.proofs.DrawLaws.{IsRest-later, IsRest-nothing, IsRest-refl}
use Rattle.outside.proofs.MachineLaws.{then_part-rest}
use Rattle.rpc_units.specs.Stream.{Cut, cut_stream}
use Rattle.end_links.specs.Links.{LinkState}
use Rattle.end_links.specs.Serving.{ServedPart, served_cut}
use Rattle.end_links.proofs.ServingLaws.{units_served}
use Rattle.logon_client.specs.Leaving.{client_leaves}
use Rattle.logon_client.specs.Machine as client
use Rattle.logon_client.specs.State.{State as ClientState}
use Rattle.logon_client.specs.declared.outcome.ClientOutcome.{ClientOutcome}
use Rattle.logon_client.specs.declared.state.Running.{Running as ClientRunning}
use Rattle.logon_client.specs.declared.state.ClientLink.{ClientLink}
use Rattle.logon_client.specs.declared.state.ClientLink.TheVariants as standing
use Rattle.logon_client.specs.declared.state.Talk.{Talk as ClientTalk}
use Rattle.logon_client.specs.declared.state.Work.{Work as ClientWork}
use Rattle.member_server.specs.Machine as member
use Rattle.member_server.specs.Outcomes.{at_link, without_link}
use Rattle.member_server.specs.Rests.{link_leaves, turn_leaves}
use Rattle.member_server.specs.State.{State as MemberState}
use Rattle.member_server.specs.Turns.{AtTurn, DialWork, next_turn, turn_by, turn_server, ready_channel, with_requester}
use Rattle.member_server.specs.Units.{link_server}
use Rattle.member_server.specs.declared.state.AtLink.{AtLink}
use Rattle.channel_turns.specs.declared.state.Dialling.{Dialling}
use Rattle.channel_turns.specs.declared.state.Dialling.TheVariants as dialling
use Rattle.member_server.specs.declared.state.Running.{Running as MemberRunning}
use Rattle.member_server.specs.declared.state.Talk.{Talk}
use Rattle.channel_turns.specs.declared.state.TurnTalk.{TurnTalk}
use Rattle.member_server.specs.declared.state.Work.{Work}

step_rest : {S T : Type 0} (actions : T → List Action) (state : T → S) (halted : S) (left : List (List ℕ)) (part : Result (Part T) StepRefused) → IsRest (left_by part) left →
    IsRest (step_by actions state halted left part).left left
step_rest actions state halted left (Err why) rest = IsRest-nothing left
step_rest actions state halted left (Ok part) rest = rest

-- ---- a member

turn_rest : (starts needs : Bool) (now : ℕ) (work : Work) (how : Dialling) (left : List (List ℕ)) → IsRest (left_by (turn_by starts needs now work how left)) left
turn_rest false needs now work how left = IsRest-refl left
turn_rest true false now work how left = IsRest-refl left
turn_rest true true now work how [] = IsRest-nothing []
turn_rest true true now work how (challenge ∷ left) = IsRest-later challenge left left (IsRest-refl left)

pub next_rest : (now : ℕ) (dial_work : DialWork) (left : List (List ℕ)) → IsRest (left_by (next_turn now dial_work left)) left
next_rest now dial_work left = turn_rest _ _ now (with_requester dial_work.0 (ready_channel dial_work.0)) dial_work.1 left

units_rest : (part : ServedPart AtLink Talk) (rest : List ℕ) (left : List (List ℕ)) (number : ℕ) (how : Dialling) (work : Work) → IsRest (left_by part) left →
    IsRest (left_by (member.after_units part rest number how work)) left
units_rest (Err why) rest left number how work is = is
units_rest (Ok part) rest left number how work is = is

dialled_rest : (part : ServedPart AtTurn TurnTalk) (rest : List ℕ) (left : List (List ℕ)) (number : ℕ) → IsRest (left_by part) left → IsRest (left_by (member.after_turn part rest number)) left
dialled_rest (Err why) rest left number is = is
dialled_rest (Ok part) rest left number is = is

link_rest : (found : Option (LinkState Talk)) (number : ℕ) (piece : List ℕ) (how : Dialling) (work : Work) (left : List (List ℕ)) →
    IsRest (left_by (member.bytes_on_link found number piece how work left)) left
link_rest None number piece how work left = IsRest-refl left
link_rest (Some link) number piece how work left =
    let cut : Cut = cut_stream (link.rest ++ piece) in
    let alone : Work = without_link number work in
    units_rest (served_cut link_server cut (at_link number alone) link.talk left) cut.rest left number how alone (units_served.rest link_server cut (at_link number alone) link.talk left link_leaves)

bytes_if : (hit : Bool) (said : LinkState TurnTalk) (number : ℕ) (piece : List ℕ) (how : Dialling) (work : Work) (left : List (List ℕ)) →
    IsRest (left_by (member.bytes_by hit said number piece how work left)) left
bytes_if true said number piece how work left =
    let cut : Cut = cut_stream (said.rest ++ piece) in
    dialled_rest (served_cut turn_server cut (member.at_turn number work) said.talk left) cut.rest left number
    (units_served.rest turn_server cut (member.at_turn number work) said.talk left turn_leaves)
bytes_if false said number piece how work left = link_rest (lookup same_number number work.links) number piece how work left

bytes_rest : (how : Dialling) (number : ℕ) (piece : List ℕ) (work : Work) (left : List (List ℕ)) → IsRest (left_by (member.bytes_on how number piece work left)) left
bytes_rest dialling.Nothing number piece work left = link_rest (lookup same_number number work.links) number piece dialling.Nothing work left
bytes_rest (dialling.Waits turn frames) number piece work left = link_rest (lookup same_number number work.links) number piece (dialling.Waits turn frames) work left
bytes_rest (dialling.On other said) number piece work left = bytes_if (other == number) said number piece (dialling.On other said) work left

pub event_rest : (what : Event) (how : Dialling) (work : Work) (left : List (List ℕ)) → IsRest (left_by (member.by_event what how work left)) left
event_rest (event.Opened link) how work left = IsRest-refl left
event_rest (event.Bytes link piece) how work left = bytes_rest how link piece work left
event_rest (event.Closed link) how work left = IsRest-refl left
event_rest (event.Dialled link) how work left = IsRest-refl left
event_rest event.DialFailed how work left = IsRest-refl left
event_rest event.Stop how work left = IsRest-refl left

running_rest : (running : Option MemberRunning) (m : MemberState) (what : Event) (now : ℕ) (left : List (List ℕ)) → IsRest (member.step_on running m what now left).left left
running_rest None m what now left = IsRest-refl left
running_rest (Some running) m what now left =
    step_rest member.actions_in member.state_in member.halted_state left (member.event_part running what now left)
    (then_part-rest (member.by_event what running.dialling (member.work_of running) left) (next_turn now) left (next_rest now)
    (event_rest what running.dialling (member.work_of running) left))

pub member_leaves : (m : MemberState) (what : Event) (now : ℕ) (left : List (List ℕ)) → IsRest (member.step_of m what now left).left left
member_leaves m what now left = running_rest m.running m what now left

-- ---- a client

piece_rest : (own : Bool) (piece : List ℕ) (link : LinkState ClientTalk) (work : ClientWork) (left : List (List ℕ)) → IsRest (left_by (client.by_piece own piece link work left)) left
piece_rest false piece link work left = IsRest-refl left
piece_rest true piece link work left =
    let cut : Cut = cut_stream (link.rest ++ piece) in
    then_part-rest (served_cut client.client_server cut work link.talk left) (client.after_stream cut.rest) left (λ served more. IsRest-refl more)
    (units_served.rest client.client_server cut work link.talk left client_leaves)

close_rest : (own : Bool) (link : LinkState ClientTalk) (work : ClientWork) (left : List (List ℕ)) → IsRest (left_by (client.by_close own link work left)) left
close_rest false link work left = IsRest-refl left
close_rest true link work left = IsRest-refl left

standing_rest : (what : Event) (how : ClientLink) (work : ClientWork) (left : List (List ℕ)) → IsRest (left_by (client.by_event what how work left)) left
standing_rest (event.Opened link) standing.Idle work left = IsRest-refl left
standing_rest (event.Opened link) standing.Dialling work left = IsRest-refl left
standing_rest (event.Opened link) (standing.On own) work left = close_rest (link == own.talk.link) own work left
standing_rest (event.Bytes link piece) standing.Idle work left = IsRest-refl left
standing_rest (event.Bytes link piece) standing.Dialling work left = IsRest-refl left
standing_rest (event.Bytes link piece) (standing.On own) work left = piece_rest (link == own.talk.link) piece own work left
standing_rest (event.Closed link) standing.Idle work left = IsRest-refl left
standing_rest (event.Closed link) standing.Dialling work left = IsRest-refl left
standing_rest (event.Closed link) (standing.On own) work left = close_rest (link == own.talk.link) own work left
standing_rest (event.Dialled link) standing.Idle work left = IsRest-refl left
standing_rest (event.Dialled link) standing.Dialling work left = IsRest-refl left
standing_rest (event.Dialled link) (standing.On own) work left = IsRest-refl left
standing_rest event.DialFailed standing.Idle work left = IsRest-refl left
standing_rest event.DialFailed standing.Dialling work left = IsRest-refl left
standing_rest event.DialFailed (standing.On own) work left = IsRest-refl left
standing_rest event.Stop standing.Idle work left = IsRest-refl left
standing_rest event.Stop standing.Dialling work left = IsRest-refl left
standing_rest event.Stop (standing.On own) work left = IsRest-refl left

outcome_rest : (outcome : Option ClientOutcome) (running : ClientRunning) (c : ClientState) (what : Event) (now : ℕ) (left : List (List ℕ)) →
    IsRest (client.step_by_outcome outcome running c what now left).left left
outcome_rest (Some outcome) running c what now left = IsRest-refl left
outcome_rest None running c what now left =
    step_rest client.actions_after client.state_after (client.halted c) left (client.by_event what running.standing (client.work_of running.task now) left)
    (standing_rest what running.standing (client.work_of running.task now) left)

client_rest : (running : Option ClientRunning) (c : ClientState) (what : Event) (now : ℕ) (left : List (List ℕ)) → IsRest (client.step_by_running running c what now left).left left
client_rest None c what now left = IsRest-refl left
client_rest (Some running) c what now left = outcome_rest c.outcome running c what now left

pub client_leaves_rest : (c : ClientState) (what : Event) (now : ℕ) (left : List (List ℕ)) → IsRest (client.step_of c what now left).left left
client_leaves_rest c what now left = client_rest c.running c what now left
