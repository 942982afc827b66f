-- A world in which no call comes for a trusted domain goes on as one whose controllers ask nobody, but for what its
-- controllers keep of those that could be asked. It serves `claims_hold_of_runs`.
use Rattle.std.proofs.Common.{◌≡◌, ◌≤◌, ◌+◌, ◌-◌, ◌++◌, ℕ, zero, suc, Bool, true, false, List, [], ◌∷◌, length, map, option_map, Option, Some, None, Result, Ok, Err, inl, inr, slice_get, slice_set, refl, sym, ap, ap₂, subst, ◌∙◌, arith, length-append}
use Rattle.std.proofs.lemmas.List.{length-map}
use Rattle.wire_base.specs.Maps.{lookup, same_number}
use Rattle.account_table.specs.AccountTable.{AccountTable}
use Rattle.outside.specs.Drawing.{Drawing, IsRest}
use Rattle.outside.specs.Machine.{Stepped, step_by}
use Rattle.outside.specs.declared.action.Action.{Action}
use Rattle.outside.specs.declared.action.StepRefused.{StepRefused}
use Rattle.outside.specs.declared.event.Event.{Event}
use Rattle.outside.specs.declared.event.Event.TheVariants as event
use Rattle.end_loop.specs.Runs.{actions_of, taken_actions}
use Rattle.domain_controller.specs.State.{State as ControllerState}
use Rattle.domain_controller.specs.Step.{StepPart, first_state, step_of, step_on, step_part}
use Rattle.domain_controller.specs.TrustHere.{NoneIsAsked, StepsHere, told_trusts}
use Rattle.domain_controller.specs.TrustStep.{trust_step_of}
use Rattle.domain_controller.specs.declared.state.Running.{Running}
use Rattle.domain_controller.proofs.TrustAloneLaws.{steps_alone}
use Rattle.domain_controller.proofs.TrustHereLaws.{answers_here, more_trusts}
use Rattle.logon_client.specs.State.{State as ClientState}
use Rattle.logon_client.specs.declared.plan.ClientPlan.{ClientPlan}
use Rattle.member_server.specs.State.{State as MemberState}
use Rattle.member_server.specs.declared.plan.MemberPlan.{MemberPlan}
use Rattle.world_moves.specs.declared.bag.BagUnit.{BagUnit}
use Rattle.world_moves.specs.declared.links.EndId.{EndId}
use Rattle.world_moves.specs.declared.links.EndId.TheVariants.{Controller, Member, Client, Station}
use Rattle.world_moves.specs.declared.links.OpenLink.{OpenLink}
use Rattle.world_moves.specs.declared.links.Route.{Route}
use Rattle.world_moves.specs.declared.links.Route.TheVariants.{Stranger}
use Rattle.world_moves.specs.declared.moves.Move.{Move}
use Rattle.world_moves.specs.declared.moves.Move.TheVariants as move
use Rattle.world_moves.specs.declared.plan.Plan.{Plan}
use Rattle.world_moves.specs.declared.state.State.{State}
use Rattle.world_moves.specs.declared.state.WaitingDial.{WaitingDial}
use Rattle.world_moves.specs.Acting.{Acted, Given, AfterHearing, close_open, closed_at, done, forget, given_by, hear, hear_and_act, hear_and_act_if, heard_by, link_closed, nothing_done, perform, perform_all, perform_all_quietly, perform_by, perform_quietly, piece_comes, pieces_come, shut_link, then_act}
use Rattle.world_moves.specs.Bag.{first_waiting, pieces_of}
use Rattle.world_moves.specs.Choosing.{chosen_in, chosen_place}
use Rattle.world_moves.specs.Ends.{EndStates, EndStep, acceptors_in, actions_by, change_by, client_step, controller_done, controller_step, count_of, end_at, end_in, end_step, fresh_controller, member_step, renew_client, renew_controller, renew_member, renew_station, starters_in, station_step}
use Rattle.world_moves.specs.Links.{acceptor_of, handed_links, hearer_of, hearer_on, links_of, other_hearer}
use Rattle.world_moves.specs.Moving.{act, answer_by, answered_link, begun, change_at, changed, changed_by, come_by, come_on_own, connect_by, connect_first, deliver_by, deliver_on, deliver_unit, end_of_peer, fail_first, hand_on, lose_by, onward_by, open_link, renew, restart_at, restart_by, route_to, settle, shut_at, shut_by, start_at, start_by, start_station_by, station_begun, stranger_at, stranger_by, tick, with_link, without_first}
use Rattle.world_moves.specs.Plain.{CantSeal, IsPlainPlan, plain_controller_step}
use Rattle.world_moves.specs.Unforwarded.{RunsAlone, alone_plan, erased, erased_controller, erased_ends, erased_world}
use Rattle.world_moves.specs.World.{World, actions_in, actions_of_run, first_controllers, first_world, given_at, happens, run, run_of}
use Rattle.world_moves.proofs.PlainLaws.{controller_plain, of_found}
use Rattle.world_moves.proofs.StateFrameLaws.{HoldsActing, HoldsMoving, StateFact, actions_so, closed_so, hears_so, move_so, pieces_so}
use Rattle.domain_world.proofs.Frames.AnyStepLaws.{any_rests}
use Rattle.domain_world.proofs.Moves.FreshTrustLaws.{IsUnused, fresh_unused}
use Rattle.channel_client.specs.State.{Requester}
use Rattle.domain_controller.specs.declared.trusting.Trusting.{Trusting}
use Rattle.interactive_station.specs.State.{StationState}
use Rattle.interactive_station.specs.declared.plan.StationPlan.{StationPlan}

-- ---- what is left out of moves

abbrev pub erased_acted : Acted → Acted
erased_acted a = record { state = erased a.state; given = a.given }

abbrev pub erased_heard : AfterHearing → AfterHearing
erased_heard h = record { state = erased h.state; actions = h.actions }

abbrev erased_step : EndStep → EndStep
erased_step step = record step { ends = erased_ends step.ends }

abbrev erased_stepped : Stepped ControllerState → Stepped ControllerState
erased_stepped step = record step { state = erased_controller step.state }

-- nobody is asked anything, and nobody was of whom it could be asked
pub record IsUnasked (t : Trusting) : Type 0 where
  pub none : NoneIsAsked t
  pub unused : (k : ℕ) (s : Requester) → slice_get t.queues.requesters k ≡ Some s → IsUnused s

abbrev pub AreStill : List ControllerState → Type 0
AreStill controllers = (at : ℕ) (c : ControllerState) → slice_get controllers at ≡ Some c → IsUnasked c.trusting

-- the controllers of a world can't seal, and are made anew as controllers that can't
abbrev pub IsStill : State → Type 0
IsStill s = (s.seals ≡ false) × AreStill s.ends.controllers

abbrev pub told_given : Given → ℕ
told_given given = told_trusts (actions_in given)

-- nothing was told of a call for a trusted domain, and challenges are left
pub record IsFine (a : Acted) : Type 0 where
  pub told : told_given a.given ≡ 0
  pub left : 1 ≤ length a.state.chances.left

-- a part of a move, and the same where nobody can be asked
pub record IsSame (a other : Acted) : Type 0 where
  pub is : other ≡ erased_acted a
  pub still : IsStill a.state

-- ---- lists

pub get_mapped : {T U : Type 0} (f : T → U) (items : List T) (at : ℕ) → slice_get (map f items) at ≡ option_map f (slice_get items at)
get_mapped f [] at = refl
get_mapped f (item ∷ items) zero = refl
get_mapped f (item ∷ items) (suc at) = get_mapped f items at

set_mapped : {T U : Type 0} (f : T → U) (items : List T) (at : ℕ) (item : T) → slice_set (map f items) at (f item) ≡ map f (slice_set items at item)
set_mapped f [] at item = refl
set_mapped f (first ∷ items) zero item = refl
set_mapped f (first ∷ items) (suc at) item = ap (λ rest. f first ∷ rest) (set_mapped f items at item)

put_each : {T : Type 0} (P : T → Type 0) (items : List T) (at : ℕ) (item : T) → ((k : ℕ) (one : T) → slice_get items k ≡ Some one → P one) → P item →
    (k : ℕ) (one : T) → slice_get (slice_set items at item) k ≡ Some one → P one
put_each P [] at item each new k one is = each k one is
put_each P (first ∷ items) zero item each new zero one is = subst P (let same : item ≡ one = cc in same) new
put_each P (first ∷ items) zero item each new (suc k) one is = each (suc k) one is
put_each P (first ∷ items) (suc at) item each new zero one is = each zero one is
put_each P (first ∷ items) (suc at) item each new (suc k) one is = put_each P items at item (λ n other there. each (suc n) other there) new k one is

more_given : (given more : Given) → told_given (given ++ more) ≡ told_given given + told_given more
more_given [] more = omega arith
more_given (one ∷ given) more = omega (arith, more_given given more)

given_told : (end : EndId) (actions : List Action) → told_given (given_by end actions) ≡ told_trusts actions
given_told end [] = refl
given_told end (what ∷ actions) = omega (arith, given_told end actions)

-- ---- as many challenges are left before as after

abbrev Shrinks : StateFact
Shrinks s after = 1 ≤ length after.chances.left → 1 ≤ length s.chances.left

rest_left : (rest all : List (List ℕ)) → IsRest rest all → 1 ≤ length rest → 1 ≤ length all
rest_left rest all is some = omega (arith, some, ap length is.is, length-append is.front rest)

shrinks : HoldsActing Shrinks
shrinks = record {
  none = λ s some. some;
  both = λ s between after first later some. first (later some);
  hears = λ end what s some. rest_left _ s.chances.left (any_rests end what s.moment s.ends s.chances) some;
  acts = λ end what s some. some;
  shuts = λ link s some. some;
}

pub moves_shrink : HoldsMoving Shrinks
moves_shrink = record {
  acting = shrinks;
  begins = λ client plan s some. some;
  starts = λ station plan s some. some;
  opens = λ route s some. some;
  answers = λ link there s is some. some;
  forgets = λ end s some. some;
  settles = λ number s some. some;
  dials = λ s some. some;
  renews = λ end s some. some;
  changes = λ at secret s some. some;
  ticks = λ more s some. some;
}

-- ---- a step of a controller

part_erased : (part : StepPart) (c : ControllerState) (left : List (List ℕ)) →
    step_by (λ after. after.0.work.actions) (λ after. record (erased_controller c) {
      table = after.0.table;
      running = Some (record { computers = after.0.work.computers; links = after.1 });
    }) (record (erased_controller c) { running = None }) left part
    ≡ erased_stepped (step_by (λ after. after.0.work.actions) (λ after. record c {
      table = after.0.table;
      running = Some (record { computers = after.0.work.computers; links = after.1 });
    }) (record c { running = None }) left part)
part_erased (Err why) c left = refl
part_erased (Ok part) c left = refl

on_erased : (running : Option Running) (c : ControllerState) (what : Event) (now : ℕ) (left : List (List ℕ)) →
    step_on running (erased_controller c) what now left ≡ erased_stepped (step_on running c what now left)
on_erased None c what now left = refl
on_erased (Some running) c what now left = part_erased (step_part running c what now left) c left

pub alone_erased : (c : ControllerState) (what : Event) (now : ℕ) (left : List (List ℕ)) →
    step_of (erased_controller c) what now left ≡ erased_stepped (step_of c what now left)
alone_erased c what now left = on_erased c.running c what now left

pub part_erased_answer : (c : ControllerState) (what : Event) (now : ℕ) (left : List (List ℕ)) → (step_of (erased_controller c) what now left).answer ≡ (step_of c what now left).answer
part_erased_answer c what now left = ap (λ (step : Stepped ControllerState). step.answer) (alone_erased c what now left)

-- what a step gives, as ends and as the machine have it
given_actions : (answer : Result (List Action) StepRefused) → taken_actions answer ≡ actions_by answer
given_actions (Ok actions) = refl
given_actions (Err why) = refl

module _ (c : ControllerState) (what : Event) (now : ℕ) (left : List (List ℕ)) (unasked : IsUnasked c.trusting) where
  abbrev Taken : Stepped ControllerState
  Taken = trust_step_of c what now left

  -- the step, and the same of one that asks nobody
  record StepsStill : Type 0 where
    is : trust_step_of (erased_controller c) what now left ≡ erased_stepped Taken
    still : IsUnasked Taken.state.trusting

  -- the step is that of a controller that asks nobody
  step_same : StepsHere c what now left → told_trusts (actions_by Taken.answer) ≡ 0 → 1 ≤ length Taken.left → Taken ≡ step_of c what now left
  step_same (inl same) told some = same
  step_same (inr (inl some_told)) told some =
      let same : told_trusts (actions_of Taken) ≡ told_trusts (actions_by Taken.answer) = ap told_trusts (given_actions Taken.answer) in
      absurd (omega (arith, some_told, told, same))
  step_same (inr (inr spent)) told some =
      let never : length Taken.left ≡ 0 = ap (λ (step : Stepped ControllerState). length step.left) spent in
      absurd (omega (arith, never, some))

  step_still : told_trusts (actions_by Taken.answer) ≡ 0 → 1 ≤ length Taken.left → StepsStill
  step_still told some =
      let same : Taken ≡ step_of c what now left = step_same (answers_here.step c what now left unasked.none) told some in
      record {
        is = steps_alone.step (erased_controller c) what now left refl ∙ alone_erased c what now left ∙ ap erased_stepped (sym same);
        still = subst IsUnasked (sym (ap (λ (step : Stepped ControllerState). step.state.trusting) same ∙ answers_here.stays c what now left)) unasked;
      }

-- ---- an end hears something

record EndsStill (step other : EndStep) : Type 0 where
  is : other ≡ erased_step step
  still : AreStill step.ends.controllers

controller_found : (found : Option ControllerState) (at : ℕ) (what : Event) (now : ℕ) (ends : EndStates) (chances : Drawing) → slice_get ends.controllers at ≡ found →
    AreStill ends.controllers → told_trusts (plain_controller_step found at what now ends chances).actions ≡ 0 → 1 ≤ length (plain_controller_step found at what now ends chances).chances.left →
    EndsStill (plain_controller_step found at what now ends chances) (plain_controller_step (option_map erased_controller found) at what now (erased_ends ends) chances)
controller_found None at what now ends chances is still told some = record { is = refl; still = still }
controller_found (Some c) at what now ends chances is still told some =
    let step : Stepped ControllerState = trust_step_of c what now chances.left in
    let goes : StepsStill c what now chances.left (still at c is) = step_still c what now chances.left (still at c is) told some in
    record {
      is = ap (λ (one : Stepped ControllerState). controller_done one at (erased_ends ends) chances) goes.is
          ∙ ap (λ (controllers : List ControllerState). record (controller_done step at ends chances) { ends = record (erased_ends ends) { controllers = controllers } })
          (set_mapped erased_controller ends.controllers at step.state);
      still = put_each (λ (one : ControllerState). IsUnasked one.trusting) ends.controllers at step.state still goes.still;
    }

member_found : (found : Option MemberState) (at : ℕ) (what : Event) (now : ℕ) (ends : EndStates) (chances : Drawing) → AreStill ends.controllers →
    EndsStill (member_step found at what now ends chances) (member_step found at what now (erased_ends ends) chances)
member_found None at what now ends chances still = record { is = refl; still = still }
member_found (Some m) at what now ends chances still = record { is = refl; still = still }

client_found : (found : Option ClientState) (at : ℕ) (what : Event) (now : ℕ) (ends : EndStates) (chances : Drawing) → AreStill ends.controllers →
    EndsStill (client_step found at what now ends chances) (client_step found at what now (erased_ends ends) chances)
client_found None at what now ends chances still = record { is = refl; still = still }
client_found (Some c) at what now ends chances still = record { is = refl; still = still }

station_found : (found : Option StationState) (at : ℕ) (what : Event) (now : ℕ) (ends : EndStates) (chances : Drawing) → AreStill ends.controllers →
    EndsStill (station_step found at what now ends chances) (station_step found at what now (erased_ends ends) chances)
station_found None at what now ends chances still = record { is = refl; still = still }
station_found (Some t) at what now ends chances still = record { is = refl; still = still }

-- a controller that waits for no other one's answer can't seal
steps_plainly : (ends : EndStates) (at : ℕ) (what : Event) (now : ℕ) (chances : Drawing) → AreStill ends.controllers →
    controller_step (slice_get ends.controllers at) at what now ends chances ≡ plain_controller_step (slice_get ends.controllers at) at what now ends chances
steps_plainly ends at what now chances still =
    controller_plain (slice_get ends.controllers at) at what now ends chances
    (of_found CantSeal ends.controllers at (slice_get ends.controllers at) refl (λ c is. (still at c is).none.unsealing))

-- a controller that asks nobody can't seal, so its step is the plain one
erased_plainly : (found : Option ControllerState) (at : ℕ) (what : Event) (now : ℕ) (ends : EndStates) (chances : Drawing) →
    controller_step (option_map erased_controller found) at what now ends chances ≡ plain_controller_step (option_map erased_controller found) at what now ends chances
erased_plainly None at what now ends chances = refl
erased_plainly (Some c) at what now ends chances = refl

controller_still : (ends : EndStates) (at : ℕ) (what : Event) (now : ℕ) (chances : Drawing) → AreStill ends.controllers →
    told_trusts (controller_step (slice_get ends.controllers at) at what now ends chances).actions ≡ 0 →
    1 ≤ length (controller_step (slice_get ends.controllers at) at what now ends chances).chances.left →
    EndsStill (controller_step (slice_get ends.controllers at) at what now ends chances)
    (controller_step (option_map erased_controller (slice_get ends.controllers at)) at what now (erased_ends ends) chances)
controller_still ends at what now chances still =
    let found : Option ControllerState = slice_get ends.controllers at in
    let plain : EndStep = plain_controller_step found at what now ends chances in
    subst (λ (step : EndStep). told_trusts step.actions ≡ 0 → 1 ≤ length step.chances.left →
    EndsStill step (controller_step (option_map erased_controller found) at what now (erased_ends ends) chances)) (sym (steps_plainly ends at what now chances still))
    (subst (λ (other : EndStep). told_trusts plain.actions ≡ 0 → 1 ≤ length plain.chances.left → EndsStill plain other) (sym (erased_plainly found at what now (erased_ends ends) chances))
    (controller_found found at what now ends chances refl still))

ends_still : (end : EndId) (what : Event) (now : ℕ) (ends : EndStates) (chances : Drawing) → AreStill ends.controllers →
    told_trusts (end_step end what now ends chances).actions ≡ 0 → 1 ≤ length (end_step end what now ends chances).chances.left →
    EndsStill (end_step end what now ends chances) (end_step end what now (erased_ends ends) chances)
ends_still (Controller at) what now ends chances still told some =
    subst (λ (found : Option ControllerState). EndsStill (controller_step (slice_get ends.controllers at) at what now ends chances) (controller_step found at what now (erased_ends ends) chances))
    (sym (get_mapped erased_controller ends.controllers at)) (controller_still ends at what now chances still told some)
ends_still (Member at) what now ends chances still told some = member_found (slice_get ends.members at) at what now ends chances still
ends_still (Client at) what now ends chances still told some = client_found (slice_get ends.clients at) at what now ends chances still
ends_still (Station at) what now ends chances still told some = station_found (slice_get ends.stations at) at what now ends chances still

record HearsStill (h other : AfterHearing) : Type 0 where
  is : other ≡ erased_heard h
  still : IsStill h.state

hear_still : (end : EndId) (what : Event) (s : State) → IsStill s → told_trusts (hear end what s).actions ≡ 0 → 1 ≤ length (hear end what s).state.chances.left →
    HearsStill (hear end what s) (hear end what (erased s))
hear_still end what s still told some =
    let goes = ends_still end what s.moment s.ends s.chances still.1 told some in
    record { is = ap (λ (step : EndStep). heard_by step (erased s)) goes.is; still = (still.0, goes.still) }

-- ---- parts of a move

none_done : (s : State) → IsStill s → IsSame (nothing_done s) (nothing_done (erased s))
none_done s still = record { is = refl; still = still }

-- a part, and then another
then_same : (first other : Acted) (later : State → Acted) → IsFine (then_act first later) → Shrinks first.state (later first.state).state →
    (IsFine first → IsSame first other) → (IsFine (later first.state) → IsStill first.state → IsSame (later first.state) (later (erased first.state))) →
    IsSame (then_act first later) (then_act other later)
then_same first other later fine shrinks one two =
    let sum = more_given first.given (later first.state).given in
    let before : IsSame first other = one (record { told = omega (arith, sum, fine.told); left = shrinks fine.left }) in
    let after : IsSame (later first.state) (later (erased first.state)) = two (record { told = omega (arith, sum, fine.told); left = fine.left }) before.still in
    record {
      is = ap (λ (a : Acted). then_act a later) before.is ∙ ap (λ (a : Acted). record { state = a.state; given = first.given ++ a.given }) after.is;
      still = after.still;
    }

-- ---- actions

record StaysQuiet (s after other : State) : Type 0 where
  is : other ≡ erased after
  ends : after.ends ≡ s.ends
  chances : after.chances ≡ s.chances
  seals : after.seals ≡ s.seals

quiet_same : (end : EndId) (actions : List Action) (s : State) → StaysQuiet s (perform_all_quietly end actions s) (perform_all_quietly end actions (erased s))
quiet_same end [] s = record { is = refl; ends = refl; chances = refl; seals = refl }
quiet_same end (what ∷ actions) s =
    let rest = quiet_same end actions (perform_quietly end what s) in
    record { is = rest.is; ends = rest.ends; chances = rest.chances; seals = rest.seals }

closed_same : (end : Option EndId) (link : ℕ) (s : State) → IsStill s → IsFine (closed_at end link s) → IsSame (closed_at end link s) (closed_at end link (erased s))
closed_same None link s still fine = none_done s still
closed_same (Some end) link s still fine =
    let what : Event = event.Closed link in
    let heard : AfterHearing = hear end what s in
    let rest = quiet_same end heard.actions heard.state in
    let goes = hear_still end what s still (sym (given_told end heard.actions) ∙ fine.told) (subst (λ (chances : Drawing). 1 ≤ length chances.left) rest.chances fine.left) in
    record {
      is = ap (λ (h : AfterHearing). record { state = perform_all_quietly end h.actions h.state; given = given_by end h.actions }) goes.is
          ∙ ap (λ (after : State). record { state = after; given = given_by end heard.actions }) rest.is;
      still = (rest.seals ∙ goes.still.0, subst (λ (ends : EndStates). AreStill ends.controllers) (sym rest.ends) goes.still.1);
    }

close_same : (there : Option OpenLink) (end : EndId) (link : ℕ) (s : State) → IsStill s → IsFine (close_open there end link s) →
    IsSame (close_open there end link s) (close_open there end link (erased s))
close_same None end link s still fine = none_done s still
close_same (Some there) end link s still fine = closed_same (other_hearer end there) link (shut_link link s) still fine

perform_by_same : (closed : Option ℕ) (end : EndId) (what : Action) (s : State) → IsStill s → IsFine (perform_by closed end what s) →
    IsSame (perform_by closed end what s) (perform_by closed end what (erased s))
perform_by_same None end what s still fine = none_done (perform_quietly end what s) still
perform_by_same (Some link) end what s still fine = close_same (lookup same_number link s.open_links) end link s still fine

pub actions_same : (end : EndId) (actions : List Action) (s : State) → IsStill s → IsFine (perform_all end actions s) →
    IsSame (perform_all end actions s) (perform_all end actions (erased s))
actions_same end [] s still fine = none_done s still
actions_same end (what ∷ actions) s still fine =
    let one : Acted = perform end what s in
    then_same one (perform end what (erased s)) (λ later. perform_all end actions later) fine (actions_so Shrinks shrinks end actions one.state)
    (λ good. perform_by_same (link_closed what) end what s still good) (λ good rests. actions_same end actions one.state rests good)

-- what an end has heard tells of no call for a trusted domain, and leaves challenges
fine_heard : (end : EndId) (heard : AfterHearing) → IsFine (done end heard) → (told_trusts heard.actions ≡ 0) × (1 ≤ length heard.state.chances.left)
fine_heard end heard fine =
    let after : Acted = perform_all end heard.actions heard.state in
    let sum = more_given (given_by end heard.actions) after.given in
    let own = given_told end heard.actions in (omega (arith, sum, own, fine.told), actions_so Shrinks shrinks end heard.actions heard.state fine.left)

-- an end has heard something, and does what it then does
done_same : (end : EndId) (heard other : AfterHearing) → IsFine (done end heard) →
    (told_trusts heard.actions ≡ 0 → 1 ≤ length heard.state.chances.left → HearsStill heard other) → IsSame (done end heard) (done end other)
done_same end heard other fine hears =
    let after : Acted = perform_all end heard.actions heard.state in
    let sum = more_given (given_by end heard.actions) after.given in
    let own = given_told end heard.actions in
    let good = fine_heard end heard fine in
    let goes : HearsStill heard other = hears good.0 good.1 in
    let rest : IsSame after (perform_all end heard.actions (erased heard.state)) =
    actions_same end heard.actions heard.state goes.still (record { told = omega (arith, sum, own, fine.told); left = fine.left }) in
    record {
      is = ap (λ (h : AfterHearing). done end h) goes.is
          ∙ ap (λ (a : Acted). record { state = a.state; given = given_by end heard.actions ++ a.given }) rest.is;
      still = rest.still;
    }

pub hears_same : (end : EndId) (what : Event) (s : State) → IsStill s → IsFine (hear_and_act end what s) → IsSame (hear_and_act end what s) (hear_and_act end what (erased s))
hears_same end what s still fine = done_same end (hear end what s) (hear end what (erased s)) fine (λ told some. hear_still end what s still told some)

-- a controller steps there as one that asks nobody
pub controller_same : (at : ℕ) (what : Event) (s : State) (c : ControllerState) → slice_get s.ends.controllers at ≡ Some c → IsStill s → IsFine (hear_and_act (Controller at) what s) →
    trust_step_of c what s.moment s.chances.left ≡ step_of c what s.moment s.chances.left
controller_same at what s c is still fine =
    let heard = fine_heard (Controller at) (hear (Controller at) what s) fine in
    let good : (told_trusts (plain_controller_step (slice_get s.ends.controllers at) at what s.moment s.ends s.chances).actions ≡ 0)
    × (1 ≤ length (plain_controller_step (slice_get s.ends.controllers at) at what s.moment s.ends s.chances).chances.left) =
    subst (λ (step : EndStep). (told_trusts step.actions ≡ 0) × (1 ≤ length step.chances.left)) (steps_plainly s.ends at what s.moment s.chances still.1) heard in
    let of : (told_trusts (plain_controller_step (Some c) at what s.moment s.ends s.chances).actions ≡ 0) × (1 ≤ length (plain_controller_step (Some c) at what s.moment s.ends s.chances).chances.left) =
    subst (λ (found : Option ControllerState). (told_trusts (plain_controller_step found at what s.moment s.ends s.chances).actions ≡ 0)
    × (1 ≤ length (plain_controller_step found at what s.moment s.ends s.chances).chances.left)) is good in
    step_same c what s.moment s.chances.left (still.1 at c is) (answers_here.step c what s.moment s.chances.left (still.1 at c is).none) of.0 of.1

pub hears_if_same : (end : Option EndId) (what : Event) (s : State) → IsStill s → IsFine (hear_and_act_if end what s) →
    IsSame (hear_and_act_if end what s) (hear_and_act_if end what (erased s))
hears_if_same None what s still fine = none_done s still
hears_if_same (Some end) what s still fine = hears_same end what s still fine

-- ---- bytes come

pub piece_same : (back : Bool) (link : ℕ) (piece : List ℕ) (s : State) → IsStill s → IsFine (piece_comes back link piece s) →
    IsSame (piece_comes back link piece s) (piece_comes back link piece (erased s))
piece_same back link piece s still fine = hears_if_same (hearer_of back (lookup same_number link s.open_links)) (event.Bytes link piece) s still fine

pub pieces_same : (back : Bool) (link : ℕ) (pieces : List (List ℕ)) (s : State) → IsStill s → IsFine (pieces_come back link pieces s) →
    IsSame (pieces_come back link pieces s) (pieces_come back link pieces (erased s))
pieces_same back link [] s still fine = none_done s still
pieces_same back link (piece ∷ pieces) s still fine =
    let one : Acted = piece_comes back link piece s in
    then_same one (piece_comes back link piece (erased s)) (λ later. pieces_come back link pieces later) fine (pieces_so Shrinks shrinks back link pieces one.state)
    (λ good. piece_same back link piece s still good) (λ good rests. pieces_same back link pieces one.state rests good)

-- the first of them, and those behind it
pub piece_fine : (back : Bool) (link : ℕ) (piece : List ℕ) (pieces : List (List ℕ)) (s : State) → IsFine (pieces_come back link (piece ∷ pieces) s) →
    IsFine (piece_comes back link piece s) × IsFine (pieces_come back link pieces (piece_comes back link piece s).state)
piece_fine back link piece pieces s fine =
    let one : Acted = piece_comes back link piece s in
    let later : Acted = pieces_come back link pieces one.state in
    let sum = more_given one.given later.given in (
      record { told = omega (arith, sum, fine.told); left = pieces_so Shrinks shrinks back link pieces one.state fine.left },
      record { told = omega (arith, sum, fine.told); left = fine.left },
    )

come_same : (unit : Option BagUnit) (link : ℕ) (s : State) → IsStill s → IsFine (come_by unit link s) → IsSame (come_by unit link s) (come_by unit link (erased s))
come_same None link s still fine = none_done s still
come_same (Some unit) link s still fine = pieces_same unit.back link (pieces_of unit.bytes) s still fine

own_same : (unit : Option BagUnit) (number : ℕ) (s : State) → IsStill s → IsFine (come_on_own unit number s) → IsSame (come_on_own unit number s) (come_on_own unit number (erased s))
own_same None number s still fine = none_done s still
own_same (Some unit) number s still fine = come_same (slice_get (settle number s).bag number) unit.link (settle number s) still fine

onward_same : (number : Option ℕ) (s : State) → IsStill s → IsFine (onward_by number s) → IsSame (onward_by number s) (onward_by number (erased s))
onward_same None s still fine = none_done s still
onward_same (Some number) s still fine = own_same (slice_get s.bag number) number s still fine

lose_same : (number : Option ℕ) (s : State) → IsStill s → IsSame (nothing_done (lose_by number s)) (nothing_done (lose_by number (erased s)))
lose_same None s still = none_done s still
lose_same (Some number) s still = none_done (settle number s) still

on_same : (link : Option ℕ) (number : ℕ) (s : State) → IsStill s → IsFine (deliver_on link number s) → IsSame (deliver_on link number s) (deliver_on link number (erased s))
on_same None number s still fine = none_done s still
on_same (Some link) number s still fine = come_same (slice_get (settle number s).bag number) link (settle number s) still fine

unit_same : (unit : Option BagUnit) (number link : ℕ) (s : State) → IsStill s → IsFine (deliver_unit unit number link s) →
    IsSame (deliver_unit unit number link s) (deliver_unit unit number link (erased s))
unit_same None number link s still fine = none_done s still
unit_same (Some unit) number link s still fine = on_same (chosen_in link (links_of unit.kind s.links)) number s still fine

deliver_same : (number : Option ℕ) (link : ℕ) (s : State) → IsStill s → IsFine (deliver_by number link s) → IsSame (deliver_by number link s) (deliver_by number link (erased s))
deliver_same None link s still fine = none_done s still
deliver_same (Some number) link s still fine = unit_same (slice_get s.bag number) number link s still fine

hand_same : (link : Option ℕ) (back : Bool) (bytes : List ℕ) (s : State) → IsStill s → IsFine (hand_on link back bytes s) → IsSame (hand_on link back bytes s) (hand_on link back bytes (erased s))
hand_same None back bytes s still fine = none_done s still
hand_same (Some link) back bytes s still fine = piece_same back link bytes s still fine

-- ---- links

station_by_same : (plan : Option StationPlan) (station : ℕ) (s : State) → IsStill s → IsFine (start_station_by plan station s) →
    IsSame (start_station_by plan station s) (start_station_by plan station (erased s))
station_by_same None station s still fine = none_done s still
station_by_same (Some plan) station s still fine =
    done_same (Station station) (station_begun station plan (forget (Station station) s)) (station_begun station plan (forget (Station station) (erased s))) fine
    (λ told some. record { is = refl; still = still })

start_by_same : (plan : Option ClientPlan) (client : ℕ) (s : State) → IsStill s → IsFine (start_by plan client s) → IsSame (start_by plan client s) (start_by plan client (erased s))
start_by_same None client s still fine =
    station_by_same (slice_get s.station_plans (client - length s.client_plans)) (client - length s.client_plans) s still fine
start_by_same (Some plan) client s still fine =
    done_same (Client client) (begun client plan (forget (Client client) s)) (begun client plan (forget (Client client) (erased s))) fine (λ told some. record { is = refl; still = still })

start_same : (client : Option ℕ) (s : State) → IsStill s → IsFine (start_at client s) → IsSame (start_at client s) (start_at client (erased s))
start_same None s still fine = none_done s still
start_same (Some client) s still fine = start_by_same (slice_get s.client_plans client) client s still fine

open_same : (route : Route) (s : State) → IsStill s → IsFine (open_link route s) → IsSame (open_link route s) (open_link route (erased s))
open_same route s still fine = hears_same (acceptor_of route) (event.Opened (length s.links)) (with_link route s) still fine

stranger_by_same : (end : Option EndId) (s : State) → IsStill s → IsFine (stranger_by end s) → IsSame (stranger_by end s) (stranger_by end (erased s))
stranger_by_same None s still fine = none_done s still
stranger_by_same (Some end) s still fine = open_same (Stranger end) s still fine

-- as many controllers are there
pub as_many : (ends : EndStates) → length (erased_ends ends).controllers ≡ length ends.controllers
as_many ends = length-map ends.controllers erased_controller

pub end_same : (number : ℕ) (ends : EndStates) → end_at number (erased_ends ends) ≡ end_at number ends
end_same number ends = ap (λ (controllers : ℕ). end_in number controllers (length ends.members) (length ends.clients) (length ends.stations)) (as_many ends)

pub peer_same : (peer : List ℕ) (ends : EndStates) → end_of_peer peer (erased_ends ends) ≡ end_of_peer peer ends
peer_same [] ends = refl
peer_same (number ∷ []) ends = end_same number ends
peer_same (number ∷ other ∷ more) ends = refl

stranger_at_same : (number : Option ℕ) (s : State) → IsStill s → IsFine (stranger_at number s) → IsSame (stranger_at number s) (stranger_at number (erased s))
stranger_at_same None s still fine = none_done s still
stranger_at_same (Some number) s still fine =
    subst (λ (end : Option EndId). IsSame (stranger_at (Some number) s) (stranger_by end (erased s))) (sym (end_same number s.ends))
    (stranger_by_same (end_at number s.ends) s still fine)

stranger_same : (number : ℕ) (s : State) → IsStill s → IsFine (act s (move.Stranger number)) → IsSame (act s (move.Stranger number)) (act (erased s) (move.Stranger number))
stranger_same number s still fine =
    subst (λ (many : ℕ). IsSame (act s (move.Stranger number)) (stranger_at (chosen_place number (many + length s.ends.members)) (erased s))) (sym (as_many s.ends))
    (stranger_at_same (chosen_place number (acceptors_in s.ends)) s still fine)

answer_same : (there : Option OpenLink) (end : EndId) (link : ℕ) (s : State) → IsStill s → IsFine (answer_by there end link s) →
    IsSame (answer_by there end link s) (answer_by there end link (erased s))
answer_same None end link s still fine =
    let heard : Acted = hear_and_act end (event.Dialled link) s in
    then_same heard (hear_and_act end (event.Dialled link) (erased s)) (λ later. closed_at (Some end) link later) fine (closed_so Shrinks shrinks (Some end) link heard.state)
    (λ good. hears_same end (event.Dialled link) s still good) (λ good rests. closed_same (Some end) link heard.state rests good)
answer_same (Some there) end link s still fine = hears_same end (event.Dialled link) (answered_link link there s) still fine

answer_shrinks : (there : Option OpenLink) (end : EndId) (link : ℕ) (s : State) → Shrinks s (answer_by there end link s).state
answer_shrinks None end link s some =
    let heard : State = (hear_and_act end (event.Dialled link) s).state in
    hears_so Shrinks shrinks end (event.Dialled link) s (closed_so Shrinks shrinks (Some end) link heard some)
answer_shrinks (Some there) end link s some = hears_so Shrinks shrinks end (event.Dialled link) (answered_link link there s) some

connect_by_same : (route : Option Route) (end : EndId) (s : State) → IsStill s → IsFine (connect_by route end s) → IsSame (connect_by route end s) (connect_by route end (erased s))
connect_by_same None end s still fine = hears_same end event.DialFailed s still fine
connect_by_same (Some route) end s still fine =
    let number : ℕ = length s.links in
    let one : Acted = open_link route s in
    then_same one (open_link route (erased s)) (λ later. answer_by (lookup same_number number later.open_links) end number later) fine
    (answer_shrinks (lookup same_number number one.state.open_links) end number one.state)
    (λ good. open_same route s still good) (λ good rests. answer_same (lookup same_number number one.state.open_links) end number one.state rests good)

connect_same : (first : Option WaitingDial) (s : State) → IsStill s → IsFine (connect_first first s) → IsSame (connect_first first s) (connect_first first (erased s))
connect_same None s still fine = none_done s still
connect_same (Some first) s still fine =
    subst (λ (end : Option EndId). IsSame (connect_first (Some first) s) (connect_by (route_to first.end end) first.end (erased s))) (sym (peer_same first.peer s.ends))
    (connect_by_same (route_to first.end (end_of_peer first.peer s.ends)) first.end s still fine)

fail_same : (first : Option WaitingDial) (s : State) → IsStill s → IsFine (fail_first first s) → IsSame (fail_first first s) (fail_first first (erased s))
fail_same None s still fine = none_done s still
fail_same (Some first) s still fine = hears_same first.end event.DialFailed s still fine

shut_same : (entry : Option (ℕ × OpenLink)) (s : State) → IsStill s → IsFine (shut_by entry s) → IsSame (shut_by entry s) (shut_by entry (erased s))
shut_same None s still fine = none_done s still
shut_same (Some entry) s still fine =
    let shut : State = shut_link entry.0 s in
    let one : Acted = closed_at (hearer_on false entry.1) entry.0 shut in
    then_same one (closed_at (hearer_on false entry.1) entry.0 (erased shut)) (λ later. closed_at (hearer_on true entry.1) entry.0 later) fine
    (closed_so Shrinks shrinks (hearer_on true entry.1) entry.0 one.state)
    (λ good. closed_same (hearer_on false entry.1) entry.0 shut still good) (λ good rests. closed_same (hearer_on true entry.1) entry.0 one.state rests good)

shut_at_same : (number : Option ℕ) (s : State) → IsStill s → IsFine (shut_at number s) → IsSame (shut_at number s) (shut_at number (erased s))
shut_at_same None s still fine = none_done s still
shut_at_same (Some number) s still fine = shut_same (slice_get s.open_links number) s still fine

-- ---- ends that are made anew

fresh_erased : (hands_on : Bool) (table : AccountTable) (name : List ℕ) → erased_controller (fresh_controller hands_on false table name) ≡ first_state table name
fresh_erased false table name = refl
fresh_erased true table name = refl

fresh_still : (hands_on : Bool) (table : AccountTable) (name : List ℕ) → NoneIsAsked (fresh_controller hands_on false table name).trusting
fresh_still false table name = record { nobody = tt; none = refl; idle = refl; unsealing = refl }
fresh_still true table name = answers_here.first table name

fresh_unasked : (hands_on : Bool) (table : AccountTable) (name : List ℕ) → IsUnasked (fresh_controller hands_on false table name).trusting
fresh_unasked hands_on table name = record { none = fresh_still hands_on table name; unused = fresh_unused hands_on false table name }

record RenewsStill (ends other : EndStates) : Type 0 where
  is : other ≡ erased_ends ends
  still : AreStill ends.controllers

renew_found : (hands_on : Bool) (found : Option ControllerState) (at : ℕ) (ends : EndStates) → AreStill ends.controllers →
    RenewsStill (renew_controller hands_on false found at ends) (renew_controller false false (option_map erased_controller found) at (erased_ends ends))
renew_found hands_on None at ends still = record { is = refl; still = still }
renew_found hands_on (Some c) at ends still =
    let new : ControllerState = fresh_controller hands_on false c.table c.name in
    record {
      is = ap (λ (one : ControllerState). record (erased_ends ends) { controllers = slice_set (map erased_controller ends.controllers) at one }) (sym (fresh_erased hands_on c.table c.name))
          ∙ ap (λ (controllers : List ControllerState). record (erased_ends ends) { controllers = controllers }) (set_mapped erased_controller ends.controllers at new);
      still = put_each (λ (one : ControllerState). IsUnasked one.trusting) ends.controllers at new still (fresh_unasked hands_on c.table c.name);
    }

renew_member_same : (found : Option MemberPlan) (at : ℕ) (ends : EndStates) → AreStill ends.controllers → RenewsStill (renew_member found at ends) (renew_member found at (erased_ends ends))
renew_member_same None at ends still = record { is = refl; still = still }
renew_member_same (Some plan) at ends still = record { is = refl; still = still }

renew_client_same : (found : Option ClientPlan) (at : ℕ) (ends : EndStates) → AreStill ends.controllers → RenewsStill (renew_client found at ends) (renew_client found at (erased_ends ends))
renew_client_same None at ends still = record { is = refl; still = still }
renew_client_same (Some plan) at ends still = record { is = refl; still = still }

renew_station_same : (found : Option StationPlan) (at : ℕ) (ends : EndStates) → AreStill ends.controllers → RenewsStill (renew_station found at ends) (renew_station found at (erased_ends ends))
renew_station_same None at ends still = record { is = refl; still = still }
renew_station_same (Some plan) at ends still = record { is = refl; still = still }

renew_same : (end : EndId) (s : State) → IsStill s → RenewsStill (renew end s) (renew end (erased s))
renew_same (Controller at) s still =
    subst (λ (seals : Bool). RenewsStill (renew_controller s.hands_on seals (slice_get s.ends.controllers at) at s.ends)
    (renew_controller false seals (slice_get (erased_ends s.ends).controllers at) at (erased_ends s.ends))) (sym still.0)
    (subst (λ (found : Option ControllerState). RenewsStill (renew_controller s.hands_on false (slice_get s.ends.controllers at) at s.ends) (renew_controller false false found at (erased_ends s.ends)))
    (sym (get_mapped erased_controller s.ends.controllers at)) (renew_found s.hands_on (slice_get s.ends.controllers at) at s.ends still.1))
renew_same (Member at) s still = renew_member_same (slice_get s.member_plans at) at s.ends still.1
renew_same (Client at) s still = renew_client_same (slice_get s.client_plans at) at s.ends still.1
renew_same (Station at) s still = renew_station_same (slice_get s.station_plans at) at s.ends still.1

restart_by_same : (end : Option EndId) (s : State) → IsStill s → IsSame (nothing_done (restart_by end s)) (nothing_done (restart_by end (erased s)))
restart_by_same None s still = none_done s still
restart_by_same (Some end) s still =
    let gone : State = forget end s in
    let anew = renew_same end gone still in
    record { is = ap (λ (ends : EndStates). nothing_done (record (erased gone) { ends = ends })) anew.is; still = (still.0, anew.still) }

restart_at_same : (number : Option ℕ) (s : State) → IsStill s → IsSame (nothing_done (restart_at number s)) (nothing_done (restart_at number (erased s)))
restart_at_same None s still = none_done s still
restart_at_same (Some number) s still =
    subst (λ (end : Option EndId). IsSame (nothing_done (restart_at (Some number) s)) (nothing_done (restart_by end (erased s)))) (sym (end_same number s.ends))
    (restart_by_same (end_at number s.ends) s still)

restart_same : (number : ℕ) (s : State) → IsStill s → IsSame (act s (move.Restart number)) (act (erased s) (move.Restart number))
restart_same number s still =
    subst (λ (many : ℕ). IsSame (act s (move.Restart number)) (nothing_done (restart_at (chosen_place number (many + length s.ends.members + length s.ends.clients + length s.ends.stations)) (erased s)))) (sym (as_many s.ends))
    (restart_at_same (chosen_place number (count_of s.ends)) s still)

-- ---- a member begins to change its secret

change_found : (found : Option MemberState) (at : ℕ) (secret : List ℕ) (s : State) → IsStill s →
    HearsStill (changed_by (change_by found at secret s.ends) s) (changed_by (change_by found at secret (erased_ends s.ends)) (erased s))
change_found None at secret s still = record { is = refl; still = still }
change_found (Some member) at secret s still = record { is = refl; still = still }

change_same : (at : Option ℕ) (secret : List ℕ) (s : State) → IsStill s → IsFine (change_at at secret s) → IsSame (change_at at secret s) (change_at at secret (erased s))
change_same None secret s still fine = none_done s still
change_same (Some at) secret s still fine =
    done_same (Member at) (changed at secret s) (changed at secret (erased s)) fine (λ told some. change_found (slice_get s.ends.members at) at secret s still)

-- ---- a move

pub move_same : (what : Move) (s : State) → IsStill s → IsFine (act s what) → IsSame (act s what) (act (erased s) what)
move_same (move.Start number) s still fine = start_same (chosen_place number (starters_in s.ends)) s still fine
move_same (move.Stranger number) s still fine = stranger_same number s still fine
move_same move.Connect s still fine = connect_same (slice_get s.dials 0) (without_first s) still fine
move_same move.FailDial s still fine = fail_same (slice_get s.dials 0) (without_first s) still fine
move_same move.Onward s still fine = onward_same (first_waiting s.bag) s still fine
move_same move.Lose s still fine = lose_same (first_waiting s.bag) s still
move_same (move.Deliver unit link) s still fine = deliver_same (chosen_place unit (length s.bag)) link s still fine
move_same (move.Hand link back bytes) s still fine = hand_same (chosen_in link (handed_links s.links)) back bytes s still fine
move_same (move.Shut number) s still fine = shut_at_same (chosen_place number (length s.open_links)) s still fine
move_same (move.Restart number) s still fine = restart_same number s still
move_same (move.Change member secret) s still fine = change_same (chosen_place member (length s.ends.members)) secret s still fine
move_same (move.Tick more) s still fine = none_done (tick more s) still

-- ---- at first

first_by : (hands_on : Bool) (tables : List AccountTable) (names : List (List ℕ)) → map erased_controller (first_controllers hands_on false tables names) ≡ first_controllers false false tables names
first_by hands_on [] names = refl
first_by hands_on (table ∷ tables) [] = refl
first_by hands_on (table ∷ tables) (name ∷ names) =
    ap₂ (λ (one : ControllerState) (rest : List ControllerState). one ∷ rest) (fresh_erased hands_on table name) (first_by hands_on tables names)

-- where controllers can't seal
controllers_by : (hands_on seals : Bool) (tables : List AccountTable) (names : List (List ℕ)) → seals ≡ false →
    map erased_controller (first_controllers hands_on seals tables names) ≡ first_controllers false seals tables names
controllers_by hands_on true tables names unsealed = absurd cc
controllers_by hands_on false tables names unsealed = first_by hands_on tables names

pub first_same : (plan : Plan) → IsPlainPlan plan → (first_world (alone_plan plan)).state ≡ erased (first_world plan).state
first_same plan nothing =
    ap (λ (controllers : List ControllerState). record (first_world (alone_plan plan)).state { ends = record (first_world plan).state.ends { controllers = controllers } })
    (sym (controllers_by plan.hands_on plan.seals plan.tables plan.controllers nothing.controllers))

still_each : (hands_on : Bool) (tables : List AccountTable) (names : List (List ℕ)) → AreStill (first_controllers hands_on false tables names)
still_each hands_on [] names at c is = absurd cc
still_each hands_on (table ∷ tables) [] at c is = absurd cc
still_each hands_on (table ∷ tables) (name ∷ names) zero c is =
    subst (λ (one : ControllerState). IsUnasked one.trusting) (let same : fresh_controller hands_on false table name ≡ c = cc in same) (fresh_unasked hands_on table name)
still_each hands_on (table ∷ tables) (name ∷ names) (suc at) c is = still_each hands_on tables names at c is

pub first_still : (plan : Plan) → IsPlainPlan plan → IsStill (first_world plan).state
first_still plan nothing =
    (nothing.controllers, subst (λ (seals : Bool). AreStill (first_controllers plan.hands_on seals plan.tables plan.controllers)) (sym nothing.controllers) (still_each plan.hands_on plan.tables plan.controllers))

-- ---- a run

world_shrinks : (moves : List Move) (w : World) → 1 ≤ length (run moves w).state.chances.left → 1 ≤ length w.state.chances.left
world_shrinks [] w some = some
world_shrinks (what ∷ moves) w some = move_so Shrinks moves_shrink what w.state (world_shrinks moves (happens w what) some)

run_told : (what : Move) (moves : List Move) (w : World) →
    told_trusts (actions_of_run (run_of (what ∷ moves) w)) ≡ told_given (given_at w what) + told_trusts (actions_of_run (run_of moves (happens w what)))
run_told what moves w = more_trusts (actions_in (given_at w what)) (actions_of_run (run_of moves (happens w what)))

pub fine_first : (what : Move) (moves : List Move) (w : World) → told_trusts (actions_of_run (run_of (what ∷ moves) w)) ≡ 0 → 1 ≤ length (run (what ∷ moves) w).state.chances.left →
    IsFine (act w.state what)
fine_first what moves w told some = record { told = omega (arith, told, run_told what moves w); left = world_shrinks moves (happens w what) some }

pub told_later : (what : Move) (moves : List Move) (w : World) → told_trusts (actions_of_run (run_of (what ∷ moves) w)) ≡ 0 →
    told_trusts (actions_of_run (run_of moves (happens w what))) ≡ 0
told_later what moves w told = omega (arith, told, run_told what moves w)

pub happens_same : (what : Move) (w : World) → IsStill w.state → IsFine (act w.state what) → happens (erased_world w) what ≡ erased_world (happens w what)
happens_same what w still fine =
    ap (λ (a : Acted). record { state = a.state; moves = w.moves + 1; stopped = w.stopped }) (move_same what w.state still fine).is

run_same : (moves : List Move) (w : World) → IsStill w.state → told_trusts (actions_of_run (run_of moves w)) ≡ 0 → 1 ≤ length (run moves w).state.chances.left →
    run moves (erased_world w) ≡ erased_world (run moves w)
run_same [] w still told some = refl
run_same (what ∷ moves) w still told some =
    let fine : IsFine (act w.state what) = fine_first what moves w told some in
    ap (λ (later : World). run moves later) (happens_same what w still fine)
    ∙ run_same moves (happens w what) (move_same what w.state still fine).still (told_later what moves w told) some

pub first_erased : (plan : Plan) → IsPlainPlan plan → first_world (alone_plan plan) ≡ erased_world (first_world plan)
first_erased plan nothing = ap (λ (s : State). record { state = s; moves = 0; stopped = false }) (first_same plan nothing)

pub runs_alone : RunsAlone
runs_alone plan moves nothing is = ap (run moves) (first_erased plan nothing) ∙ run_same moves (first_world plan) (first_still plan nothing) is.told is.left
