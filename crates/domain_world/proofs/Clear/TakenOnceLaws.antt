-- What is written down of the units that come on the link of a member's turn: of the answer to its bind, and of a reply
-- to its call, in one fragment or more. And nothing is of units on other links.
-- It serves `Proved.one_by_one`, and `a_run_is_clear` of claim_examples.
use Rattle.std.proofs.Common.{◌≡◌, ℕ, ◌≤◌, ◌<◌, ◌^◌, Bool, List, [], ◌∷◌, length, map, Option, Some, None, Result, Ok, refl, sym, ap, ap₂, subst, ◌∙◌, false}
use Rattle.std.specs.List.{AllByRecursion}
use Rattle.outside.specs.declared.action.Action.{Action}
use Rattle.outside.specs.declared.action.StepRefused.{StepRefused}
use Rattle.outside.specs.declared.event.Event.TheVariants as event
use Rattle.rpc_units.specs.Calls.{CanBeSent, bytes_of_call}
use Rattle.rpc_units.specs.Joining.{answer_of, joined_of, stub_of}
use Rattle.rpc_units.specs.Reading.{unit_of}
use Rattle.rpc_units.specs.Stream.{cut_stream}
use Rattle.rpc_units.specs.Writing.{written}
use Rattle.rpc_units.specs.declared.refused.JoinRefused.{JoinRefused}
use Rattle.rpc_units.specs.declared.refused.UnitRefused.{UnitRefused}
use Rattle.rpc_units.specs.declared.unit.Unit.{Unit as RpcUnit}
use Rattle.rpc_units.proofs.CuttingLaws.{call_heard}
use Rattle.logon_stubs.specs.declared.info.NetworkInfo.{NetworkInfo}
use Rattle.end_links.specs.Links.{LinkState}
use Rattle.end_links.specs.Serving.{ServedUnit, served_units}
use Rattle.channel_client.specs.Machine.{Taking, take_of, wait_for}
use Rattle.channel_client.specs.declared.answers.Taken.TheVariants as taken
use Rattle.channel_client.specs.declared.caller.Caller.{Caller}
use Rattle.channel_client.specs.declared.state.Standing.{Standing}
use Rattle.channel_client.specs.declared.state.Step.{Step}
use Rattle.wire_base.proofs.ListLaws.{all_weaker}
use Rattle.member_server.specs.Machine.{at_turn, step_of}
use Rattle.member_server.specs.Turns.{AtTurn, turn_server, turn_talk}
use Rattle.member_server.specs.declared.plan.MemberPlan.{MemberPlan}
use Rattle.channel_turns.specs.declared.state.Dialling.TheVariants as dialling
use Rattle.member_server.specs.declared.state.Logon.{Logon}
use Rattle.member_server.specs.declared.state.Logons.{Logons}
use Rattle.member_server.specs.declared.state.Talk.{Talk}
use Rattle.channel_turns.specs.declared.state.TurnTalk.{TurnTalk}
use Rattle.step_notes.specs.Marking.{clashes}
use Rattle.step_notes.specs.MemberNotes.{TurnNote, asked_note, taking_at, taking_joined, taking_note, taking_read, turn_note, turn_units, turn_units_by}
use Rattle.step_notes.specs.Records.{Sent}
use Rattle.step_notes.specs.Served.{units_if_taken}
use Rattle.step_notes.specs.TakenWhole.{TakesWhole}
use Rattle.step_notes.proofs.Members.TurnHeardLaws.{members_take}
use Rattle.domain_world.proofs.Moves.MarkPlaceLaws.{all_push}
use Rattle.logon_steps.specs.MemberTurns.{bind_waits, logons_keeping, member_at, on_turn}
use Rattle.logon_steps.specs.Turning.{turn_ack}
use Rattle.logon_steps.proofs.StreamLaws.{one_unit, read_again, same}
use Rattle.logon_steps.proofs.TurningLaws.{turn_ack_sends}
use Rattle.domain_world.proofs.Completeness.HeardOnceLaws.{either_way, nothing_follows}
use Rattle.domain_world.proofs.Clear.NotedLaws.{AreOwn}

-- ---- notes that clash with nothing

pub own_notes : (controller : ℕ) (unit : Option ℕ) (sent : List Sent) (units : List (ServedUnit AtTurn TurnTalk)) →
    AllByRecursion (λ (note : TurnNote). clashes note.checked unit sent ≡ false) (map (turn_note controller) units) → AreOwn controller unit sent units
own_notes controller unit sent [] each = tt
own_notes controller unit sent (served ∷ units) each = (each.0, own_notes controller unit sent units each.1)

-- ---- no unit is the turn's

pub rests_quiet : (logons : Logons) (links : List (ℕ × LinkState Talk)) (link now : ℕ) (piece : List ℕ) (left : List (List ℕ)) →
    turn_units (member_at logons links dialling.Nothing) link piece now left ≡ []
rests_quiet logons links link now piece left =
    either_way (λ (units : List (ServedUnit AtTurn TurnTalk)). units ≡ []) (step_of (member_at logons links dialling.Nothing) (event.Bytes link piece) now left).answer [] refl refl

pub waits_quiet : (logons : Logons) (links : List (ℕ × LinkState Talk)) (number link now : ℕ) (piece : List ℕ) (left : List (List ℕ)) →
    turn_units (member_at logons links (bind_waits number)) link piece now left ≡ []
waits_quiet logons links number link now piece left =
    either_way (λ (units : List (ServedUnit AtTurn TurnTalk)). units ≡ []) (step_of (member_at logons links (bind_waits number)) (event.Bytes link piece) now left).answer [] refl refl

-- ---- the units of the turn

turn_here : (logons : Logons) (links : List (ℕ × LinkState Talk)) (link now : ℕ) (piece : List ℕ) (left : List (List ℕ)) →
    turn_units (member_at logons links (on_turn link)) link piece now left
    ≡ units_if_taken (step_of (member_at logons links (on_turn link)) (event.Bytes link piece) now left).answer
    (served_units turn_server (cut_stream piece).units (at_turn link (record { logons = logons; links = links; actions = [] })) (turn_talk None) left)
turn_here logons links link now piece left =
    ap (λ (own : Bool). units_if_taken (step_of (member_at logons links (on_turn link)) (event.Bytes link piece) now left).answer
    (turn_units_by own (record { rest = []; talk = turn_talk None }) link piece (record { logons = logons; links = links; dialling = on_turn link; sealing = None }) left)) (same link)

-- the answer to the bind lets the call out
ack_whole : (number : ℕ) → answer_of None (turn_ack number) ≡ Ok (Some (turn_ack number))
unfolding joined_of
ack_whole number = refl

pub asks_notes : (controller : ℕ) (plan : MemberPlan) (caller : Caller) (how : Standing) (info : NetworkInfo) (place next number link now : ℕ) (what reply : Step) (frames : List (List ℕ))
    (asked : List (ℕ × Logon)) (links : List (ℕ × LinkState Talk)) (left : List (List ℕ)) (actions : List Action) → number < 2 ^ 32 →
    let logons : Logons = logons_keeping plan caller how info place next number what asked in
    take_of logons.channel (turn_ack number) ≡ record { taken = taken.Next tt frames; state = wait_for logons.channel place reply } →
    (step_of (member_at logons links (on_turn link)) (event.Bytes link (written (turn_ack number))) now left).answer ≡ Ok actions →
    map (turn_note controller) (turn_units (member_at logons links (on_turn link)) link (written (turn_ack number)) now left)
    ≡ asked_note (Some reply) how controller logons.channel (wait_for logons.channel place reply) ∷ []
asks_notes controller plan caller how info place next number link now what reply frames asked links left actions below takes is_taken =
    let logons : Logons = logons_keeping plan caller how info place next number what asked in
    let at : AtTurn = at_turn link (record { logons = logons; links = links; actions = [] }) in
    let bytes : List ℕ = written (turn_ack number) in
    let sends = turn_ack_sends number below in
    ap (map (turn_note controller)) (turn_here logons links link now bytes left
    ∙ ap₂ (λ (answer : Result (List Action) StepRefused) (cut : _). units_if_taken answer (served_units turn_server cut at (turn_talk None) left)) is_taken
    (ap (λ (cut : _). cut.units) (one_unit (turn_ack number) sends)))
    ∙ ap (λ (units : List (ServedUnit AtTurn TurnTalk)). taking_note (taking_read (unit_of bytes) None logons.channel) controller logons.channel ∷ map (turn_note controller) units)
    (nothing_follows turn_server (turn_server.unit bytes at (turn_talk None) left))
    ∙ ap (λ (r : Result RpcUnit UnitRefused). taking_note (taking_read r None logons.channel) controller logons.channel ∷ []) (read_again (turn_ack number) sends)
    ∙ ap (λ (a : Result (Option RpcUnit) JoinRefused). taking_note (taking_joined a logons.channel) controller logons.channel ∷ []) (ack_whole number)
    ∙ ap (λ (taking : Taking). taking_note (Some taking) controller logons.channel ∷ []) takes

-- a reply clashes with nothing where the channel's taking it doesn't
pub response_own : (controller : ℕ) (logons : Logons) (links : List (ℕ × LinkState Talk)) (link now : ℕ) (response : RpcUnit) (left : List (List ℕ)) (unit : Option ℕ) (sent : List Sent) →
    CanBeSent response 5840 → length (stub_of response.body) ≤ 65536 → clashes (taking_note (Some (take_of logons.channel response)) controller logons.channel).checked unit sent ≡ false →
    AreOwn controller unit sent (turn_units (member_at logons links (on_turn link)) link (bytes_of_call response 5840) now left)
response_own controller logons links link now response left unit sent sends short own =
    let at : AtTurn = at_turn link (record { logons = logons; links = links; actions = [] }) in
    let bytes : List ℕ = bytes_of_call response 5840 in
    let all : List (ServedUnit AtTurn TurnTalk) = served_units turn_server (cut_stream bytes).units at (turn_talk None) left in
    let takes : TakesWhole at response left all = members_take.units bytes _ response at (turn_talk None) left (call_heard response 5840 sends short) refl in
    let each : AreOwn controller unit sent all =
    subst (AreOwn controller unit sent) (sym takes.all)
    (all_push (λ (served : ServedUnit AtTurn TurnTalk). clashes (turn_note controller served).checked unit sent ≡ false) takes.before takes.last
    (all_weaker (λ (served : ServedUnit AtTurn TurnTalk). (taking_at served ≡ None) × (served.work ≡ at)) (λ (served : ServedUnit AtTurn TurnTalk). clashes (turn_note controller served).checked unit sent ≡ false)
    takes.before (λ served none. ap (λ (t : Option Taking). clashes (taking_note t controller served.work.work.logons.channel).checked unit sent) none.0) takes.none)
    (ap₂ (λ (t : Option Taking) (a : AtTurn). clashes (taking_note t controller a.work.logons.channel).checked unit sent) takes.takes takes.work ∙ own)) in
    subst (AreOwn controller unit sent) (sym (turn_here logons links link now bytes left))
    (either_way (AreOwn controller unit sent) (step_of (member_at logons links (on_turn link)) (event.Bytes link bytes) now left).answer all tt each)
