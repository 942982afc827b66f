-- Each challenge that is left in a world has 8 bytes: at first, by the maker of challenges, and through each step of an
-- end, which leaves a rest of those that were left.
-- It serves `messages_are_made`, `messages_are_taken_as_sent`.
use Rattle.std.proofs.Common.{◌≡◌, ◌-◌, ℕ, List, [], ◌∷◌, ◌++◌, length, Option, Some, None, Result, Ok, Err, sym, subst, refl, append-nil}
use Rattle.std.specs.List.{AllByRecursion}
use Rattle.std.proofs.lemmas.List.Elements.{All-weaker, recursion_from_All}
use Rattle.wire_base.specs.Maps.{lookup, same_number, take_out}
use Rattle.wire_base.proofs.NumberLaws.{bytes_from_all}
use Rattle.channel_keys.specs.Des.{IsBlock}
use Rattle.outside.specs.Counter.{challenges_from, most_draws}
use Rattle.logon_stubs.specs.Ranges as stubs
use Rattle.outside.specs.declared.action.StepRefused.{StepRefused}
use Rattle.outside.specs.declared.event.Event.{Event}
use Rattle.outside.specs.declared.event.Event.TheVariants as event
use Rattle.outside.specs.Drawing.{Drawing, IsRest}
use Rattle.outside.specs.Machine.{Part, left_by, step_by}
use Rattle.outside.proofs.CounterLaws.{blocks-challenges_from}
use Rattle.outside.proofs.DrawLaws.{IsRest-nothing, IsRest-refl}
use Rattle.outside.proofs.MachineLaws.{then_part-rest}
use Rattle.rpc_units.specs.Stream.{Cut, cut_stream}
use Rattle.end_links.specs.Links.{LinkState}
use Rattle.end_links.specs.Serving.{served_cut}
use Rattle.end_links.proofs.ServingLaws.{units_served}
use Rattle.domain_controller.specs.Machine.{Desk, controller_server}
use Rattle.domain_controller.specs.State.{State as ControllerState}
use Rattle.domain_controller.specs.Step.{LinkMap, by_event, first_desk, halted, keep_link, serve_on, start_turn, state_after, step_of as controller_step_of, step_on, step_part, whole_part}
use Rattle.domain_controller.specs.declared.state.Running.{Running}
use Rattle.domain_controller.specs.declared.state.Talk.{Talk}
use Rattle.domain_controller.proofs.RestLaws.{server_leaves}
use Rattle.logon_client.specs.Machine.{step_of as client_step_of}
use Rattle.member_server.specs.Machine.{step_of as member_step_of}
use Rattle.step_notes.proofs.Members.RestLaws.{client_leaves_rest, member_leaves}
use Rattle.world_moves.specs.declared.links.EndId.{EndId}
use Rattle.world_moves.specs.declared.plan.Plan.{Plan}
use Rattle.world_moves.specs.Ends.{EndStates, EndStep}
use Rattle.world_moves.specs.Alone.{alone_end_step as end_step}
use Rattle.world_moves.specs.Plain.{plain_world}
use Rattle.domain_world.proofs.Frames.AloneStepLaws.{alone_by as end_by}

-- challenges of 8 bytes
abbrev pub AreEights : List (List ℕ) → Type 0
AreEights left = AllByRecursion (λ (challenge : List ℕ). length challenge ≡ 8) left

all_behind : (P : List ℕ → Type 0) (front rest : List (List ℕ)) → AllByRecursion P (front ++ rest) → AllByRecursion P rest
all_behind P [] rest all = all
all_behind P (challenge ∷ front) rest all = all_behind P front rest all.1

-- what holds of each that was left holds of the rest
pub all_rest : (P : List ℕ → Type 0) (rest left : List (List ℕ)) → IsRest rest left → AllByRecursion P left → AllByRecursion P rest
all_rest P rest left is all = all_behind P is.front rest (subst (λ (l : List (List ℕ)). AllByRecursion P l) (sym is.is) all)

pub eights_rest : (rest all : List (List ℕ)) → IsRest rest all → AreEights all → AreEights rest
eights_rest rest all is eights = all_rest (λ (challenge : List ℕ). length challenge ≡ 8) rest all is eights

-- ---- at first

first_blocks : (seed : List ℕ) (count : ℕ) → AreEights (challenges_from seed 0 0 count)
first_blocks seed count =
    recursion_from_All (λ (challenge : List ℕ). length challenge ≡ 8) (challenges_from seed 0 0 count)
    (All-weaker IsBlock (λ (challenge : List ℕ). length challenge ≡ 8) (λ challenge block. block.eight) (challenges_from seed 0 0 count) (blocks-challenges_from seed 0 0 count))

pub first_eights : (plan : Plan) → AreEights (plain_world plan).state.chances.left
first_eights plan = first_blocks plan.seed (most_draws - 0)

-- the challenges that are left are bytes, 8 each
abbrev pub AreBlocks : List (List ℕ) → Type 0
AreBlocks left = AllByRecursion (λ (challenge : List ℕ). stubs.IsBlock 8 challenge) left

first_all : (seed : List ℕ) (count : ℕ) → AreBlocks (challenges_from seed 0 0 count)
first_all seed count =
    recursion_from_All (λ (challenge : List ℕ). stubs.IsBlock 8 challenge) (challenges_from seed 0 0 count)
    (All-weaker IsBlock (λ (challenge : List ℕ). stubs.IsBlock 8 challenge) (λ challenge block. (block.eight, bytes_from_all challenge block.bytes)) (challenges_from seed 0 0 count)
    (blocks-challenges_from seed 0 0 count))

pub first_left_blocks : (plan : Plan) → AreBlocks (plain_world plan).state.chances.left
first_left_blocks plan = first_all plan.seed (most_draws - 0)

-- ---- a controller

stepped_rest : (c : ControllerState) (left : List (List ℕ)) (part : Result (Part (Desk × LinkMap)) StepRefused) → IsRest (left_by part) left →
    IsRest (step_by (λ after. after.0.work.actions) (λ after. state_after c after) (halted c) left part).left left
stepped_rest c left (Err why) rest = IsRest-nothing left
stepped_rest c left (Ok part) rest = rest

served_rest : (found : Option (LinkState Talk)) (number : ℕ) (piece name : List ℕ) (now : ℕ) (d : Desk) (others : LinkMap) (left : List (List ℕ)) →
    IsRest (left_by (serve_on found number piece name now d others left)) left
served_rest None number piece name now d others left = IsRest-refl left
served_rest (Some link) number piece name now d others left =
    let cut : Cut = cut_stream (link.rest ++ piece) in
    then_part-rest (served_cut (controller_server name now number) cut d link.talk left) (λ done rest. whole_part done.0 (keep_link done.1 cut.rest number others) rest) left
    (λ done rest. IsRest-refl rest)
    (units_served.rest (controller_server name now number) cut d link.talk left (server_leaves name now number))

heard_rest : (what : Event) (name : List ℕ) (now : ℕ) (d : Desk) (links : LinkMap) (left : List (List ℕ)) → IsRest (left_by (by_event what name now d links left)) left
heard_rest (event.Opened link) name now d links left = IsRest-refl left
heard_rest (event.Bytes link piece) name now d links left = served_rest (lookup same_number link links) link piece name now d (take_out same_number link links) left
heard_rest (event.Closed link) name now d links left = IsRest-refl left
heard_rest (event.Dialled link) name now d links left = IsRest-refl left
heard_rest event.DialFailed name now d links left = IsRest-refl left
heard_rest event.Stop name now d links left = IsRest-refl left

running_rest : (running : Option Running) (c : ControllerState) (what : Event) (now : ℕ) (left : List (List ℕ)) → IsRest (step_on running c what now left).left left
running_rest None c what now left = IsRest-refl left
running_rest (Some running) c what now left =
    stepped_rest c left (step_part running c what now left)
    (then_part-rest (by_event what c.name now (first_desk c.table running) running.links left) (λ after rest. start_turn after rest) left
    (λ after rest. IsRest-refl rest) (heard_rest what c.name now (first_desk c.table running) running.links left))

-- ---- any end leaves a rest of the challenges that were left

pub end_rests : (end : EndId) (what : Event) (now : ℕ) (ends : EndStates) (chances : Drawing) → IsRest (end_step end what now ends chances).chances.left chances.left
end_rests end what now ends chances =
    end_by (λ (one : EndId) (step : EndStep). IsRest step.chances.left chances.left) what now ends chances (λ one. IsRest-refl chances.left)
    (λ at c is. running_rest c.running c what now chances.left) (λ at m is. member_leaves m what now chances.left) (λ at c is. client_leaves_rest c what now chances.left) end

-- what was drawn, and of what is left: more was drawn, and a rest is left
pub record DrawsOn (chances later : Drawing) : Type 0 where
  pub more : List (List ℕ)
  pub is : later.drawn ≡ chances.drawn ++ more
  pub rest : IsRest later.left chances.left

pub end_draws : (end : EndId) (what : Event) (now : ℕ) (ends : EndStates) (chances : Drawing) → DrawsOn chances (end_step end what now ends chances).chances
end_draws end what now ends chances =
    end_by (λ (one : EndId) (step : EndStep). IsRest step.chances.left chances.left → DrawsOn chances step.chances) what now ends chances
    (λ one rest. record { more = []; is = sym (append-nil chances.drawn); rest = rest })
    (λ at c is rest. record { more = (controller_step_of c what now chances.left).drawn; is = refl; rest = rest })
    (λ at m is rest. record { more = (member_step_of m what now chances.left).drawn; is = refl; rest = rest })
    (λ at c is rest. record { more = (client_step_of c what now chances.left).drawn; is = refl; rest = rest }) end (end_rests end what now ends chances)

-- the challenges that are left have eights where they had them
pub eights_after : (chances later : Drawing) → DrawsOn chances later → AreEights chances.left → AreEights later.left
eights_after chances later on eights = eights_rest later.left chances.left on.rest eights
