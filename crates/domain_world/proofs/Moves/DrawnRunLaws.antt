-- In every run what was drawn and what is left are the challenges that the maker gives: so no two that were drawn are
-- alike, and each has 8 bytes. It serves `draws_of_runs_differ`.
use Rattle.std.proofs.Common.{◌≡◌, ◌≢◌, ℕ, ◌-◌, List, ◌++◌, All, get_or, take, length, Option, Some, None, Result, Ok, Err, refl, sym, ap, subst, ◌∙◌, arith, length-append}
use Rattle.std.specs.Prelude.{AllPairs}
use Rattle.std.proofs.lemmas.List.{append_assoc, append-nil, get_or_append_left, take_at}
use Rattle.channel_keys.specs.Des.{IsBlock}
use Rattle.outside.specs.Counter.{challenges_from, most_draws}
use Rattle.outside.specs.Drawing.{Drawing, IsRest, draws_between}
use Rattle.outside.specs.Machine.{Part, Stepped, step_by}
use Rattle.outside.specs.declared.action.Action.{Action}
use Rattle.outside.specs.declared.action.StepRefused.{StepRefused}
use Rattle.outside.specs.declared.event.Event.{Event}
use Rattle.outside.specs.declared.event.Event.TheVariants as event
use Rattle.outside.proofs.CounterLaws.{blocks-challenges_from, challenges_from-distinct, challenges_from-none}
use Rattle.domain_controller.specs.State.{State as ControllerState}
use Rattle.domain_controller.specs.Step as controller
use Rattle.domain_controller.specs.SealStep as sealing
use Rattle.domain_controller.specs.TrustStep as trusting
use Rattle.domain_controller.specs.declared.sealed.Sealing.{Sealing}
use Rattle.domain_controller.specs.declared.state.Running.{Running as ControllerRunning}
use Rattle.interactive_station.specs.Machine as station
use Rattle.interactive_station.specs.State.{StationState}
use Rattle.interactive_station.specs.declared.outcome.StationOutcome.{StationOutcome}
use Rattle.interactive_station.specs.declared.state.StationRunning.{StationRunning}
use Rattle.logon_client.specs.Machine as client
use Rattle.logon_client.specs.State.{State as ClientState}
use Rattle.logon_client.specs.declared.outcome.ClientOutcome.{ClientOutcome}
use Rattle.logon_client.specs.declared.state.Running.{Running as ClientRunning}
use Rattle.member_server.specs.Machine as member
use Rattle.member_server.specs.SealStep as sealed
use Rattle.member_server.specs.State.{State as MemberState}
use Rattle.member_server.specs.declared.state.Running.{Running as MemberRunning}
use Rattle.member_server.specs.declared.state.TurnSealing.{TurnSealing}
use Rattle.step_notes.proofs.Members.RestLaws.{client_leaves_rest, member_leaves}
use Rattle.world_moves.specs.declared.links.EndId.{EndId}
use Rattle.world_moves.specs.declared.moves.Move.{Move}
use Rattle.world_moves.specs.declared.plan.Plan.{Plan}
use Rattle.world_moves.specs.Draws.{DrawsAreBlocks, DrawsDiffer}
use Rattle.world_moves.specs.Ends.{EndStates, EndStep, end_step as any_step}
use Rattle.world_moves.specs.Links.{acceptor_of}
use Rattle.world_moves.specs.Alone.{alone_end_step as end_step}
use Rattle.world_moves.proofs.EndKindLaws.{step_by as any_by}
use Rattle.domain_world.specs.Past.{past}
use Rattle.domain_world.proofs.Frames.AloneStepLaws.{alone_by as end_by}
use Rattle.domain_world.proofs.Frames.EndFrameLaws.{EndFact, KeepsEndsBy, any_ends_after}
use Rattle.domain_world.proofs.Frames.AnyStepLaws.{sealed_rest, sealing_rest, station_rest, taken_rest}
use Rattle.domain_world.proofs.Frames.EveryStepLaws.{controller_rest as plain_rest}
use Rattle.domain_world.proofs.Frames.MoveKeepLaws.{any}
use Rattle.domain_world.proofs.Moves.LeftLaws.{end_rests}

-- ---- a step

-- a step draws what it doesn't leave
abbrev DrawsRest : {S : Type 0} → Stepped S → List (List ℕ) → Type 0
DrawsRest step left = step.drawn ++ step.left ≡ left

between_rest : (before after : List (List ℕ)) → IsRest after before → draws_between before after ++ after ≡ before
between_rest before after rest =
    let size : length before - length after ≡ length rest.front = omega (arith, ap length rest.is, length-append rest.front after) in
    let front : draws_between before after ≡ rest.front =
    subst (λ (all : List (List ℕ)). take (length before - length after) all ≡ rest.front) rest.is (take_at rest.front after (length before - length after) (sym size)) in
    ap (λ (drawn : List (List ℕ)). drawn ++ after) front ∙ rest.is

part_draws : {S T : Type 0} (actions : T → List Action) (state : T → S) (halted : S) (left : List (List ℕ)) (part : Result (Part T) StepRefused) →
    IsRest (step_by actions state halted left part).left left → DrawsRest (step_by actions state halted left part) left
part_draws actions state halted left (Err why) rest = append-nil left
part_draws actions state halted left (Ok part) rest = between_rest left part.left rest

controller_draws : (r : Option ControllerRunning) (c : ControllerState) (what : Event) (now : ℕ) (left : List (List ℕ)) → IsRest (controller.step_on r c what now left).left left →
    DrawsRest (controller.step_on r c what now left) left
controller_draws None c what now left rest = refl
controller_draws (Some running) c what now left rest = part_draws _ _ _ left (controller.step_part running c what now left) rest

member_draws : (r : Option MemberRunning) (m : MemberState) (what : Event) (now : ℕ) (left : List (List ℕ)) → IsRest (member.step_on r m what now left).left left →
    DrawsRest (member.step_on r m what now left) left
member_draws None m what now left rest = refl
member_draws (Some running) m what now left rest = part_draws _ _ _ left (member.event_part running what now left) rest

outcome_draws : (outcome : Option ClientOutcome) (running : ClientRunning) (c : ClientState) (what : Event) (now : ℕ) (left : List (List ℕ)) →
    IsRest (client.step_by_outcome outcome running c what now left).left left → DrawsRest (client.step_by_outcome outcome running c what now left) left
outcome_draws (Some outcome) running c what now left rest = between_rest left left rest
outcome_draws None running c what now left rest = part_draws _ _ _ left (client.by_event what running.standing (client.work_of running.task now) left) rest

client_draws : (r : Option ClientRunning) (c : ClientState) (what : Event) (now : ℕ) (left : List (List ℕ)) → IsRest (client.step_by_running r c what now left).left left →
    DrawsRest (client.step_by_running r c what now left) left
client_draws None c what now left rest = refl
client_draws (Some running) c what now left rest = outcome_draws c.outcome running c what now left rest

station_outcome_draws : (outcome : Option StationOutcome) (running : StationRunning) (t : StationState) (what : Event) (now : ℕ) (left : List (List ℕ)) →
    IsRest (station.step_by_outcome outcome running t what now left).left left → DrawsRest (station.step_by_outcome outcome running t what now left) left
station_outcome_draws (Some outcome) running t what now left rest = between_rest left left rest
station_outcome_draws None running t what now left rest = part_draws _ _ _ left (station.by_event what running.standing (station.work_of running.task now) left) rest

station_draws : (r : Option StationRunning) (t : StationState) (what : Event) (now : ℕ) (left : List (List ℕ)) → IsRest (station.step_by_running r t what now left).left left →
    DrawsRest (station.step_by_running r t what now left) left
station_draws None t what now left rest = refl
station_draws (Some running) t what now left rest = station_outcome_draws t.outcome running t what now left rest

-- ---- what was drawn and what is left

abbrev pub all_of : Drawing → List (List ℕ)
all_of chances = chances.drawn ++ chances.left

same_all : (chances : Drawing) (drawn left : List (List ℕ)) → drawn ++ left ≡ chances.left → (chances.drawn ++ drawn) ++ left ≡ all_of chances
same_all chances drawn left is = append_assoc chances.drawn drawn left ∙ ap (λ (rest : List (List ℕ)). chances.drawn ++ rest) is

pub end_all : (end : EndId) (what : Event) (now : ℕ) (ends : EndStates) (chances : Drawing) → all_of (end_step end what now ends chances).chances ≡ all_of chances
end_all end what now ends chances =
    end_by (λ (one : EndId) (step : EndStep). IsRest step.chances.left chances.left → all_of step.chances ≡ all_of chances) what now ends chances (λ one rest. refl)
    (λ at c is rest. same_all chances (controller.step_of c what now chances.left).drawn (controller.step_of c what now chances.left).left (controller_draws c.running c what now chances.left rest))
    (λ at m is rest. same_all chances (member.step_of m what now chances.left).drawn (member.step_of m what now chances.left).left (member_draws m.running m what now chances.left rest))
    (λ at c is rest. same_all chances (client.step_of c what now chances.left).drawn (client.step_of c what now chances.left).left (client_draws c.running c what now chances.left rest)) end
    (end_rests end what now ends chances)

-- what a controller's step leaves of the challenges is a rest of them, whether it asks others or not
trusting_draws : (r : Option ControllerRunning) (c : ControllerState) (what : Event) (now : ℕ) (left : List (List ℕ)) → IsRest (trusting.trust_step_on r c what now left).left left →
    DrawsRest (trusting.trust_step_on r c what now left) left
trusting_draws None c what now left rest = refl
trusting_draws (Some running) c what now left rest = part_draws _ _ _ left (trusting.trust_step_part running c what now left) rest

-- of a controller that can seal
sealing_draws : (r : Option ControllerRunning) (kept : Sealing) (c : ControllerState) (what : Event) (now : ℕ) (left : List (List ℕ)) → DrawsRest (sealing.seal_step_on r kept c what now left) left
sealing_draws None kept c what now left = refl
sealing_draws (Some running) kept c what now left =
    part_draws _ _ _ left (sealing.seal_step_part running kept c what now left) (sealing_rest (Some running) kept c what now left)

any_controller_draws : (kept : Option Sealing) (c : ControllerState) (what : Event) (now : ℕ) (left : List (List ℕ)) → DrawsRest (sealing.step_with kept c what now left) left
any_controller_draws None c what now left = trusting_draws c.running c what now left (plain_rest c.running c what now left)
any_controller_draws (Some kept) c what now left = sealing_draws c.running kept c what now left

-- a step of any member draws what it doesn't leave
member_draws_with : (kept : Option TurnSealing) (running : MemberRunning) (m : MemberState) (what : Event) (now : ℕ) (left : List (List ℕ)) →
    DrawsRest (sealed.step_with kept running m what now left) left
member_draws_with None running m what now left = member_draws (Some running) m what now left (member_leaves (record { running = Some running }) what now left)
member_draws_with (Some kept) running m what now left =
    part_draws _ _ _ left (sealed.sealed_part running kept.is_link_sealed what now left) (taken_rest left (sealed.sealed_part running kept.is_link_sealed what now left) (sealed_rest running kept.is_link_sealed what now left))

any_member_draws : (r : Option MemberRunning) (m : MemberState) (what : Event) (now : ℕ) (left : List (List ℕ)) → DrawsRest (sealed.any_step_on r m what now left) left
any_member_draws None m what now left = refl
any_member_draws (Some running) m what now left = member_draws_with running.sealing running m what now left

any_all : (end : EndId) (what : Event) (now : ℕ) (ends : EndStates) (chances : Drawing) → all_of (any_step end what now ends chances).chances ≡ all_of chances
any_all end what now ends chances =
    any_by (λ (one : EndId) (step : EndStep). all_of step.chances ≡ all_of chances) what now ends chances (λ one. refl)
    (λ at c is.
    let step = sealing.seal_step_of c what now chances.left in same_all chances step.drawn step.left (any_controller_draws c.trusting.sealing c what now chances.left))
    (λ at m is. let step = sealed.any_step_of m what now chances.left in same_all chances step.drawn step.left (any_member_draws m.running m what now chances.left))
    (λ at c is. let step = client.step_of c what now chances.left in same_all chances step.drawn step.left (client_draws c.running c what now chances.left (client_leaves_rest c what now chances.left)))
    (λ at t is. let step = station.step_of t what now chances.left in same_all chances step.drawn step.left (station_draws t.running t what now chances.left (station_rest t.running t what now chances.left))) end

-- ---- a run

abbrev AreOf : List (List ℕ) → EndFact
AreOf all at on now given b = all_of now.chances ≡ all

of_stays : (all : List (List ℕ)) → KeepsEndsBy any (AreOf all)
of_stays all = record {
  calm = λ at on end what s given b calm is. any_all end what s.moment s.ends s.chances ∙ is;
  dialled = λ at end link s given b side is. any_all end (event.Dialled link) s.moment s.ends s.chances ∙ is;
  opens = λ at route s given b is. any_all (acceptor_of route) (event.Opened (length s.links)) s.moment s.ends s.chances ∙ is;
  begins = λ at client plan s b there is. is;
  comes = λ end w piece s given b side came is. any_all end (event.Bytes w.link piece) s.moment s.ends s.chances ∙ is;
  renews = λ at end s b is. is;
  changes = λ at member secret s b is. is;
  over = λ at on next s given b is. is;
}

-- all that the maker of a plan gives
abbrev pub given_all : Plan → List (List ℕ)
given_all plan = challenges_from plan.seed 0 0 (most_draws - 0)

run_all : (plan : Plan) (moves : List Move) → all_of (past plan moves).world.state.chances ≡ given_all plan
run_all plan moves =
    any_ends_after (AreOf (given_all plan)) (of_stays (given_all plan)) (λ n at station plan s b is holds. holds) plan moves
    (λ on. ap (λ (drawn : List (List ℕ)). drawn ++ given_all plan) (challenges_from-none plan.seed 0 0))

-- ---- a front of them

front_pairs : {T : Type 0} (R : T → T → Type 0) (front rest : List T) → AllPairs R (front ++ rest) → AllPairs R front
front_pairs {T} R front rest all i j d before within =
    subst (λ (one : T). R one (get_or front j d)) (get_or_append_left front rest d i (omega (arith, before, within)))
    (subst (λ (other : T). R (get_or (front ++ rest) i d) other) (get_or_append_left front rest d j within) (all i j d before (omega (arith, within, length-append front rest))))

front_all : {T : Type 0} (P : T → Type 0) (front rest : List T) → All P (front ++ rest) → All P front
front_all P front rest all i d within =
    subst P (get_or_append_left front rest d i within) (all i d (omega (arith, within, length-append front rest)))

-- no two challenges that were drawn are alike
pub draws_differ : (plan : Plan) (moves : List Move) → DrawsDiffer (past plan moves).world
draws_differ plan moves =
    front_pairs (λ (one other : List ℕ). one ≢ other) (past plan moves).world.state.chances.drawn (past plan moves).world.state.chances.left
    (subst (λ (all : List (List ℕ)). AllPairs (λ (one other : List ℕ). one ≢ other) all) (sym (run_all plan moves))
    (challenges_from-distinct plan.seed 0 (most_draws - 0) (omega arith) (omega arith)))

-- each challenge that is drawn has 8 bytes
pub draws_are_blocks : (plan : Plan) (moves : List Move) → DrawsAreBlocks (past plan moves).world
draws_are_blocks plan moves =
    front_all IsBlock (past plan moves).world.state.chances.drawn (past plan moves).world.state.chances.left
    (subst (λ (all : List (List ℕ)). All IsBlock all) (sym (run_all plan moves)) (blocks-challenges_from plan.seed 0 0 (most_draws - 0)))
