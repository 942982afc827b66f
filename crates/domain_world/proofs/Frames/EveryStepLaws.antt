-- What a step of an end, and what is written down of bytes, comes to in every plain world, whether its controllers ask
-- others or not: it leaves a rest of the challenges that were left, and ends of one kind leave those of the others.
-- It serves `draws_of_runs_differ`, `Proved.let_in`, `Proved.messages` and others that look at no controller.
use Rattle.std.proofs.Common.{◌≡◌, ℕ, Bool, true, false, List, [], ◌++◌, Option, Some, None, Ok, Err, slice_get, refl, sym, subst, append-nil}
use Rattle.wire_base.specs.Maps.{lookup, same_number, take_out}
use Rattle.outside.specs.Drawing.{Drawing, IsRest}
use Rattle.outside.specs.Machine.{left_by, step_by, then_part}
use Rattle.outside.specs.declared.event.Event.{Event}
use Rattle.outside.specs.declared.event.Event.TheVariants as event
use Rattle.outside.proofs.DrawLaws.{IsRest-nothing, IsRest-refl}
use Rattle.outside.proofs.MachineLaws.{then_part-rest}
use Rattle.rpc_units.specs.Stream.{Cut, cut_stream}
use Rattle.end_links.specs.Links.{LinkState}
use Rattle.end_links.specs.Serving.{served_cut}
use Rattle.end_links.proofs.ServingLaws.{units_served}
use Rattle.account_table.specs.AccountTable.{AccountTable}
use Rattle.channel_turns.specs.Turning.{is_on}
use Rattle.domain_controller.specs.Forwarding.{trust_desk, trust_server}
use Rattle.domain_controller.specs.State.{State as ControllerState}
use Rattle.domain_controller.specs.Step.{LinkMap}
use Rattle.domain_controller.specs.TrustStep.{TrustPart, TrustParts, by_trust_event, link_with, next_turn, parts_of, put_open, serve_bytes, serve_on, trust_halted, trust_part, trust_state_after, trust_step_of as controller_step_of, trust_step_on, trust_step_part}
use Rattle.domain_controller.specs.declared.state.Running.{Running}
use Rattle.domain_controller.specs.declared.state.Talk.{Talk}
use Rattle.domain_controller.specs.declared.trusting.Parts.{Parts}
use Rattle.domain_controller.proofs.TrustRestLaws.{trust_server_leaves}
use Rattle.domain_controller.proofs.TrustStepLaws.{turn_rest}
use Rattle.logon_client.specs.Machine.{step_of as client_step_of}
use Rattle.logon_client.specs.State.{State as ClientState}
use Rattle.member_server.specs.Machine.{step_of as member_step_of}
use Rattle.member_server.specs.State.{State as MemberState}
use Rattle.step_notes.specs.MemberNotes.{turn_units}
use Rattle.step_notes.specs.Records.{Book, OfMember}
use Rattle.step_notes.proofs.Members.RestLaws.{client_leaves_rest, member_leaves}
use Rattle.world_moves.specs.declared.links.EndId.{EndId}
use Rattle.world_moves.specs.declared.links.EndId.TheVariants.{Controller, Member, Client, Station}
use Rattle.world_moves.specs.declared.links.Route.{Route}
use Rattle.world_moves.specs.declared.links.Route.TheVariants.{ToMember, ToController, Between, Stranger, FromStation}
use Rattle.world_moves.specs.declared.state.State.{State}
use Rattle.world_moves.specs.Acting.{Acted, done, heard_by}
use Rattle.world_moves.specs.Ends.{EndStates, EndStep, client_done, client_step, controller_done, member_done, no_step}
use Rattle.world_moves.specs.Links.{dialler_of}
use Rattle.domain_world.specs.Past.{Delivery, note_at, note_client, note_controller, note_member, note_messages}
use Rattle.world_moves.proofs.EndKindLaws.{is_controller}
use Rattle.world_moves.specs.Plain.{hear_plain, plain_controller_step as controller_step, plain_end_step as end_step, plain_member_step as member_step}
use Rattle.world_moves.proofs.PlainKindLaws.{plain_by as end_by}
use Rattle.domain_world.proofs.Frames.EndNoteLaws.{OfControllers, turns_leave}
use Rattle.domain_world.proofs.Frames.TurnFrameLaws.{turns_told}
use Rattle.domain_world.proofs.Moves.LeftLaws.{DrawsOn}
use Rattle.domain_world.proofs.Moves.OpenMadeLaws.{IsApart, IsAtSide, IsOnSide}

-- an end hears something as one that can't seal, and does what it then does
abbrev pub act_plain : EndId → Event → State → Acted
act_plain end what s = done end (hear_plain end what s)

-- ---- a controller leaves a rest of the challenges

stepped_rest : (c : ControllerState) (left : List (List ℕ)) (part : TrustPart) → IsRest (left_by part) left →
    IsRest (step_by (λ (after : TrustParts). after.parts.work.work.actions) (λ after. trust_state_after c after) (trust_halted c) left part).left left
stepped_rest c left (Err why) rest = IsRest-nothing left
stepped_rest c left (Ok part) rest = rest

on_rest : (found : Option (LinkState Talk)) (number : ℕ) (piece name : List ℕ) (now : ℕ) (others : LinkMap) (table : AccountTable) (parts : Parts) (left : List (List ℕ)) →
    IsRest (left_by (serve_on found number piece name now others table parts left)) left
on_rest None number piece name now others table parts left = IsRest-refl left
on_rest (Some link) number piece name now others table parts left =
    let cut : Cut = cut_stream (link.rest ++ piece) in
    then_part-rest (served_cut (trust_server name now number) cut (trust_desk table parts.work) link.talk left)
    (λ done rest. trust_part done.0.table (put_open (link_with cut.rest done.1) number (record parts { work = done.0.work; links = others })) rest) left
    (λ done rest. IsRest-refl rest) (units_served.rest (trust_server name now number) cut (trust_desk table parts.work) link.talk left (trust_server_leaves name now number))

bytes_rest : (is_turn_link : Bool) (number : ℕ) (piece name : List ℕ) (now : ℕ) (table : AccountTable) (parts : Parts) (left : List (List ℕ)) →
    IsRest (left_by (serve_bytes is_turn_link number piece name now table parts left)) left
bytes_rest true number piece name now table parts left = IsRest-refl left
bytes_rest false number piece name now table parts left =
    on_rest (lookup same_number number parts.links) number piece name now (take_out same_number number parts.links) table parts left

pub event_rest : (what : Event) (name : List ℕ) (now : ℕ) (table : AccountTable) (parts : Parts) (left : List (List ℕ)) → IsRest (left_by (by_trust_event what name now table parts left)) left
event_rest (event.Opened number) name now table parts left = IsRest-refl left
event_rest (event.Bytes number piece) name now table parts left = bytes_rest (is_on number parts.dialling) number piece name now table parts left
event_rest (event.Closed number) name now table parts left = IsRest-refl left
event_rest (event.Dialled number) name now table parts left = IsRest-refl left
event_rest event.DialFailed name now table parts left = IsRest-refl left
event_rest event.Stop name now table parts left = IsRest-refl left

pub controller_rest : (running : Option Running) (c : ControllerState) (what : Event) (now : ℕ) (left : List (List ℕ)) → IsRest (trust_step_on running c what now left).left left
controller_rest None c what now left = IsRest-refl left
controller_rest (Some running) c what now left =
    let parts : Parts = parts_of running c.trusting in
    stepped_rest c left (trust_step_part running c what now left)
    (then_part-rest (by_trust_event what c.name now c.table parts left)
    (λ (after : TrustParts) (rest : List (List ℕ)).
    then_part (next_turn c.table.trusts now after.parts rest) (λ (later : Parts) (last : List (List ℕ)). trust_part after.table later last)) left
    (λ after rest.
    then_part-rest (next_turn c.table.trusts now after.parts rest) (λ (later : Parts) (last : List (List ℕ)). trust_part after.table later last) rest
    (λ later last. IsRest-refl last) (turn_rest c.table.trusts now after.parts rest)) (event_rest what c.name now c.table parts left))

-- ---- any end does, and draws on

pub every_rests : (end : EndId) (what : Event) (now : ℕ) (ends : EndStates) (chances : Drawing) → IsRest (end_step end what now ends chances).chances.left chances.left
every_rests end what now ends chances =
    end_by (λ (one : EndId) (step : EndStep). IsRest step.chances.left chances.left) what now ends chances (λ one. IsRest-refl chances.left)
    (λ at c is. controller_rest c.running c what now chances.left) (λ at m is. member_leaves m what now chances.left) (λ at c is. client_leaves_rest c what now chances.left) end

pub every_draws : (end : EndId) (what : Event) (now : ℕ) (ends : EndStates) (chances : Drawing) → DrawsOn chances (end_step end what now ends chances).chances
every_draws end what now ends chances =
    end_by (λ (one : EndId) (step : EndStep). IsRest step.chances.left chances.left → DrawsOn chances step.chances) what now ends chances
    (λ one rest. record { more = []; is = sym (append-nil chances.drawn); rest = rest })
    (λ at c is rest. record { more = (controller_step_of c what now chances.left).drawn; is = refl; rest = rest })
    (λ at m is rest. record { more = (member_step_of m what now chances.left).drawn; is = refl; rest = rest })
    (λ at c is rest. record { more = (client_step_of c what now chances.left).drawn; is = refl; rest = rest }) end (every_rests end what now ends chances)

-- ---- where an end isn't there, nothing is done and nothing written down

module _ (P : EndId → EndStep → Book → Type 0) (w : Delivery) (piece : List ℕ) (s after : State) (b : Book) (none : (end : EndId) → P end (no_step s.ends s.chances) b)
    (controllers : (at : ℕ) (c : ControllerState) → slice_get s.ends.controllers at ≡ Some c →
    P (Controller at) (controller_done (controller_step_of c (event.Bytes w.link piece) s.moment s.chances.left) at s.ends s.chances) (note_controller (Some c) at w piece s after b))
    (members : (at : ℕ) (m : MemberState) → slice_get s.ends.members at ≡ Some m →
    P (Member at) (member_done (member_step_of m (event.Bytes w.link piece) s.moment s.chances.left) at s.ends s.chances) (note_member (Some m) at w piece s after b))
    (clients : (at : ℕ) (c : ClientState) → slice_get s.ends.clients at ≡ Some c →
    P (Client at) (client_done (client_step_of c (event.Bytes w.link piece) s.moment s.chances.left) at s.ends s.chances) (note_client (Some c) at w piece s b)) where
  controller_noted : (found : Option ControllerState) (at : ℕ) → slice_get s.ends.controllers at ≡ found →
      P (Controller at) (controller_step found at (event.Bytes w.link piece) s.moment s.ends s.chances) (note_controller found at w piece s after b)
  controller_noted None at is = none (Controller at)
  controller_noted (Some c) at is = controllers at c is

  member_noted : (found : Option MemberState) (at : ℕ) → slice_get s.ends.members at ≡ found →
      P (Member at) (member_step found at (event.Bytes w.link piece) s.moment s.ends s.chances) (note_member found at w piece s after b)
  member_noted None at is = none (Member at)
  member_noted (Some m) at is = members at m is

  client_noted : (found : Option ClientState) (at : ℕ) → slice_get s.ends.clients at ≡ found →
      P (Client at) (client_step found at (event.Bytes w.link piece) s.moment s.ends s.chances) (note_client found at w piece s b)
  client_noted None at is = none (Client at)
  client_noted (Some c) at is = clients at c is

  pub every_noted : (end : EndId) → P end (end_step end (event.Bytes w.link piece) s.moment s.ends s.chances) (note_at (Some end) w piece s after b)
  every_noted (Controller at) = controller_noted (slice_get s.ends.controllers at) at refl
  every_noted (Member at) = member_noted (slice_get s.ends.members at) at refl
  every_noted (Client at) = client_noted (slice_get s.ends.clients at) at refl
  every_noted (Station at) = none (Station at)

-- a fact of the book alone, by the end that hears
pub every_book : (P : EndId → Book → Type 0) (w : Delivery) (piece : List ℕ) (s after : State) (b : Book) → ((end : EndId) → P end b) →
    ((at : ℕ) (c : ControllerState) → slice_get s.ends.controllers at ≡ Some c → P (Controller at) (note_controller (Some c) at w piece s after b)) →
    ((at : ℕ) (m : MemberState) → slice_get s.ends.members at ≡ Some m → P (Member at) (note_member (Some m) at w piece s after b)) →
    ((at : ℕ) (c : ClientState) → slice_get s.ends.clients at ≡ Some c → P (Client at) (note_client (Some c) at w piece s b)) → (end : EndId) → P end (note_at (Some end) w piece s after b)
every_book P w piece s after b none controllers members clients = every_noted (λ (end : EndId) (step : EndStep) (now : Book). P end now) w piece s after b none controllers members clients

-- a part of the book that controllers change alone stays where any other end hears bytes
pub others_of_controllers : {X : Type 0} (part : Book → X) → OfControllers part → (w : Delivery) (piece : List ℕ) (s after : State) (b : Book) (end : EndId) → is_controller end ≡ false →
    part (note_at (Some end) w piece s after b) ≡ part b
others_of_controllers part of w piece s after b =
    every_book (λ (end : EndId) (now : Book). is_controller end ≡ false → part now ≡ part b) w piece s after b (λ end other. refl) (λ at c is other. absurd (let never : true ≡ false = other in cc))
    (λ at m is other. of.members m at w piece s after b) (λ at c is other. of.clients c at w piece s b)

pub bytes_told : (end : EndId) (w : Delivery) (piece : List ℕ) (s after : State) (b : Book) → (note_at (Some end) w piece s after b).told ≡ b.told
bytes_told end w piece s after b =
    every_book (λ (one : EndId) (now : Book). now.told ≡ b.told) w piece s after b (λ one. refl) (λ at c is. refl)
    (λ at m is. turns_told (OfMember at) w (turn_units m w.link piece s.moment s.chances.left) s after (note_messages at m w piece s b))
    (λ at c is. refl) end

pub bytes_turns : (end : EndId) (w : Delivery) (piece : List ℕ) (s after : State) (b : Book) → (note_at (Some end) w piece s after b).turns ≡ b.turns
bytes_turns end w piece s after b =
    every_book (λ (one : EndId) (now : Book). now.turns ≡ b.turns) w piece s after b (λ one. refl) (λ at c is. refl)
    (λ at m is. turns_leave m at w piece s after b) (λ at c is. refl) end

-- the state once the end took that step
abbrev pub stepped : (end : EndId) (step : EndStep) (s : State) → State
stepped end step s = (done end (heard_by step s)).state

-- a fact of the state once the end acted, and of the book
pub every_acted : (P : EndId → EndStep → State → Book → Type 0) (w : Delivery) (piece : List ℕ) (s : State) (b : Book) →
    ((end : EndId) → P end (no_step s.ends s.chances) (stepped end (no_step s.ends s.chances) s) b) →
    ((at : ℕ) (c : ControllerState) → slice_get s.ends.controllers at ≡ Some c →
    let step : EndStep = controller_step (Some c) at (event.Bytes w.link piece) s.moment s.ends s.chances in
    let after : State = stepped (Controller at) step s in P (Controller at) step after (note_controller (Some c) at w piece s after b)) →
    ((at : ℕ) (m : MemberState) → slice_get s.ends.members at ≡ Some m →
    let step : EndStep = member_step (Some m) at (event.Bytes w.link piece) s.moment s.ends s.chances in
    let after : State = stepped (Member at) step s in P (Member at) step after (note_member (Some m) at w piece s after b)) →
    ((at : ℕ) (c : ClientState) → slice_get s.ends.clients at ≡ Some c →
    let step : EndStep = client_step (Some c) at (event.Bytes w.link piece) s.moment s.ends s.chances in
    P (Client at) step (stepped (Client at) step s) (note_client (Some c) at w piece s b)) →
    (end : EndId) → let after : State = (act_plain end (event.Bytes w.link piece) s).state in
    P end (end_step end (event.Bytes w.link piece) s.moment s.ends s.chances) after (note_at (Some end) w piece s after b)
every_acted P w piece s b none controllers members clients end =
    let what : Event = event.Bytes w.link piece in
    let after : State = (act_plain end what s).state in
    every_noted (λ (one : EndId) (step : EndStep) (now : Book). after ≡ stepped one step s → P one step after now) w piece s after b
    (λ one is. subst (λ (later : State). P one (no_step s.ends s.chances) later b) (sym is) (none one))
    (λ at c there is.
    subst (λ (later : State). P (Controller at) (controller_step (Some c) at what s.moment s.ends s.chances) later (note_controller (Some c) at w piece s later b)) (sym is) (controllers at c there))
    (λ at m there is.
    subst (λ (later : State). P (Member at) (member_step (Some m) at what s.moment s.ends s.chances) later (note_member (Some m) at w piece s later b)) (sym is) (members at m there))
    (λ at c there is.
    subst (λ (later : State). P (Client at) (client_step (Some c) at what s.moment s.ends s.chances) later (note_client (Some c) at w piece s b)) (sym is) (clients at c there)) end refl

-- ---- a link that a member or a client dialled is between no controllers

-- the end is a member or a client
abbrev pub is_asker : EndId → Bool
is_asker (Member at) = true
is_asker (Client at) = true
is_asker _ = false

apart_by : (route : Route) (end : EndId) → is_asker end ≡ true → dialler_of route ≡ Some end → IsApart route
apart_by (ToMember client member) end other is = tt
apart_by (ToController member controller) end other is = tt
apart_by (Between from to) (Controller at) other is = absurd (let never : false ≡ true = other in cc)
apart_by (Between from to) (Member at) other is = absurd cc
apart_by (Between from to) (Client at) other is = absurd cc
apart_by (Between from to) (Station at) other is = absurd cc
apart_by (FromStation station controller) (Controller at) other is = absurd cc
apart_by (FromStation station controller) (Member at) other is = absurd cc
apart_by (FromStation station controller) (Client at) other is = absurd cc
apart_by (FromStation station controller) (Station at) other is = absurd (let never : false ≡ true = other in cc)
apart_by (Stranger to) end other is = tt

pub dialled_apart : (links : List Route) (link : ℕ) (end : EndId) → is_asker end ≡ true → IsOnSide links link true end → IsAtSide links link true end
dialled_apart links link end other on = record { route = on.route; made = on.made; side = on.side; apart = apart_by on.route end other on.side }
