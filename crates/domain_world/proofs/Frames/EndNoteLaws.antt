-- What is written down where an end hears bytes, beside its step, by the kind of the end; and the parts of the book
-- that ends of one kind change alone. It serves the laws of every run that speak of ends of one kind.
use Rattle.std.proofs.Common.{◌≡◌, ℕ, List, Option, Some, None, slice_get, refl, sym, subst}
use Rattle.outside.specs.declared.event.Event.TheVariants as event
use Rattle.outside.specs.declared.event.Event.{Event}
use Rattle.domain_controller.specs.State.{State as ControllerState}
use Rattle.domain_controller.specs.Step.{step_of as controller_step_of}
use Rattle.logon_client.specs.State.{State as ClientState}
use Rattle.logon_client.specs.Machine.{step_of as client_step_of}
use Rattle.member_server.specs.State.{State as MemberState}
use Rattle.member_server.specs.Machine.{step_of as member_step_of}
use Rattle.step_notes.specs.ControllerNotes.{Answered}
use Rattle.step_notes.specs.MemberNotes.{turn_units}
use Rattle.step_notes.specs.Records.{Book, ChannelAccepted, Judging, MessageMade, MessageTaken, OfMember}
use Rattle.world_moves.specs.declared.links.EndId.{EndId}
use Rattle.world_moves.specs.declared.links.EndId.TheVariants.{Controller, Member, Client, Station}
use Rattle.world_moves.specs.declared.state.State.{State}
use Rattle.world_moves.specs.Ends.{EndStep, client_done, client_step, controller_done, member_done, no_step}
use Rattle.world_moves.specs.Acting.{done, heard_by}
use Rattle.world_moves.specs.Alone.{alone_controller_step as controller_step, alone_end_step as end_step}
use Rattle.world_moves.specs.Plain.{plain_member_step as member_step}
use Rattle.domain_world.specs.Past.{Delivery, note_answers, note_client, note_controller as note_every, note_member, note_messages}
use Rattle.domain_world.proofs.Frames.AloneNoteLaws.{note_alone as note_at, note_controller_alone as note_controller}
use Rattle.domain_world.proofs.Frames.AloneStepLaws.{act_alone as hear_and_act}
use Rattle.domain_world.proofs.Frames.TurnFrameLaws.{asked_leave}

-- ---- where an end isn't there, nothing is done and nothing written down

module _ (P : EndId → EndStep → Book → Type 0) (w : Delivery) (piece : List ℕ) (s after : State) (b : Book) (none : (end : EndId) → P end (no_step s.ends s.chances) b)
    (controllers : (at : ℕ) (c : ControllerState) → slice_get s.ends.controllers at ≡ Some c →
    P (Controller at) (controller_done (controller_step_of c (event.Bytes w.link piece) s.moment s.chances.left) at s.ends s.chances) (note_controller (Some c) at w piece s after b))
    (members : (at : ℕ) (m : MemberState) → slice_get s.ends.members at ≡ Some m →
    P (Member at) (member_done (member_step_of m (event.Bytes w.link piece) s.moment s.chances.left) at s.ends s.chances) (note_member (Some m) at w piece s after b))
    (clients : (at : ℕ) (c : ClientState) → slice_get s.ends.clients at ≡ Some c →
    P (Client at) (client_done (client_step_of c (event.Bytes w.link piece) s.moment s.chances.left) at s.ends s.chances) (note_client (Some c) at w piece s b)) where
  controller_noted : (found : Option ControllerState) (at : ℕ) → slice_get s.ends.controllers at ≡ found →
      P (Controller at) (controller_step found at (event.Bytes w.link piece) s.moment s.ends s.chances) (note_controller found at w piece s after b)
  controller_noted None at is = none (Controller at)
  controller_noted (Some c) at is = controllers at c is

  member_noted : (found : Option MemberState) (at : ℕ) → slice_get s.ends.members at ≡ found →
      P (Member at) (member_step found at (event.Bytes w.link piece) s.moment s.ends s.chances) (note_member found at w piece s after b)
  member_noted None at is = none (Member at)
  member_noted (Some m) at is = members at m is

  client_noted : (found : Option ClientState) (at : ℕ) → slice_get s.ends.clients at ≡ found →
      P (Client at) (client_step found at (event.Bytes w.link piece) s.moment s.ends s.chances) (note_client found at w piece s b)
  client_noted None at is = none (Client at)
  client_noted (Some c) at is = clients at c is

  pub noted_by : (end : EndId) → P end (end_step end (event.Bytes w.link piece) s.moment s.ends s.chances) (note_at (Some end) w piece s after b)
  noted_by (Controller at) = controller_noted (slice_get s.ends.controllers at) at refl
  noted_by (Member at) = member_noted (slice_get s.ends.members at) at refl
  noted_by (Client at) = client_noted (slice_get s.ends.clients at) at refl
  noted_by (Station at) = none (Station at)

-- a fact of the book alone, by the end that hears
pub book_by : (P : EndId → Book → Type 0) (w : Delivery) (piece : List ℕ) (s after : State) (b : Book) → ((end : EndId) → P end b) →
    ((at : ℕ) (c : ControllerState) → slice_get s.ends.controllers at ≡ Some c → P (Controller at) (note_controller (Some c) at w piece s after b)) →
    ((at : ℕ) (m : MemberState) → slice_get s.ends.members at ≡ Some m → P (Member at) (note_member (Some m) at w piece s after b)) →
    ((at : ℕ) (c : ClientState) → slice_get s.ends.clients at ≡ Some c → P (Client at) (note_client (Some c) at w piece s b)) → (end : EndId) → P end (note_at (Some end) w piece s after b)
book_by P w piece s after b none controllers members clients = noted_by (λ (end : EndId) (step : EndStep) (now : Book). P end now) w piece s after b none controllers members clients

-- the state once an end took a step and acted
abbrev pub stepped : EndId → EndStep → State → State
stepped end step s = (done end (heard_by step s)).state

-- a fact of the state once the end acted, and of the book
pub acted_by : (P : EndId → EndStep → State → Book → Type 0) (w : Delivery) (piece : List ℕ) (s : State) (b : Book) →
    ((end : EndId) → P end (no_step s.ends s.chances) (stepped end (no_step s.ends s.chances) s) b) →
    ((at : ℕ) (c : ControllerState) → slice_get s.ends.controllers at ≡ Some c →
    let step : EndStep = controller_step (Some c) at (event.Bytes w.link piece) s.moment s.ends s.chances in
    let after : State = stepped (Controller at) step s in P (Controller at) step after (note_controller (Some c) at w piece s after b)) →
    ((at : ℕ) (m : MemberState) → slice_get s.ends.members at ≡ Some m →
    let step : EndStep = member_step (Some m) at (event.Bytes w.link piece) s.moment s.ends s.chances in
    let after : State = stepped (Member at) step s in P (Member at) step after (note_member (Some m) at w piece s after b)) →
    ((at : ℕ) (c : ClientState) → slice_get s.ends.clients at ≡ Some c →
    let step : EndStep = client_step (Some c) at (event.Bytes w.link piece) s.moment s.ends s.chances in
    P (Client at) step (stepped (Client at) step s) (note_client (Some c) at w piece s b)) →
    (end : EndId) → let after : State = (hear_and_act end (event.Bytes w.link piece) s).state in
    P end (end_step end (event.Bytes w.link piece) s.moment s.ends s.chances) after (note_at (Some end) w piece s after b)
acted_by P w piece s b none controllers members clients end =
    let what : Event = event.Bytes w.link piece in
    let after : State = (hear_and_act end what s).state in
    noted_by (λ (one : EndId) (step : EndStep) (now : Book). after ≡ stepped one step s → P one step after now) w piece s after b
    (λ one is. subst (λ (later : State). P one (no_step s.ends s.chances) later b) (sym is) (none one))
    (λ at c there is.
    subst (λ (later : State). P (Controller at) (controller_step (Some c) at what s.moment s.ends s.chances) later (note_controller (Some c) at w piece s later b)) (sym is) (controllers at c there))
    (λ at m there is.
    subst (λ (later : State). P (Member at) (member_step (Some m) at what s.moment s.ends s.chances) later (note_member (Some m) at w piece s later b)) (sym is) (members at m there))
    (λ at c there is.
    subst (λ (later : State). P (Client at) (client_step (Some c) at what s.moment s.ends s.chances) later (note_client (Some c) at w piece s b)) (sym is) (clients at c there)) end refl

-- ---- parts of the book that ends of one kind change alone

-- what the other ends hear leaves that part
abbrev pub ControllersLeave : {X : Type 0} → (Book → X) → Type 0
ControllersLeave part = (answers : List Answered) (w : Delivery) (s after : State) (b : Book) → part (note_answers answers w s after b) ≡ part b

-- what every controller writes down leaves the part, whether it asks others or not
abbrev pub EveryLeaves : {X : Type 0} → (Book → X) → Type 0
EveryLeaves part = (c : ControllerState) (at : ℕ) (w : Delivery) (piece : List ℕ) (s after : State) (b : Book) → part (note_every (Some c) at w piece s after b) ≡ part b

abbrev pub MembersLeave : {X : Type 0} → (Book → X) → Type 0
MembersLeave part = (m : MemberState) (at : ℕ) (w : Delivery) (piece : List ℕ) (s after : State) (b : Book) → part (note_member (Some m) at w piece s after b) ≡ part b

abbrev pub ClientsLeave : {X : Type 0} → (Book → X) → Type 0
ClientsLeave part = (c : ClientState) (at : ℕ) (w : Delivery) (piece : List ℕ) (s : State) (b : Book) → part (note_client (Some c) at w piece s b) ≡ part b

pub record OfControllers {X : Type 0} (part : Book → X) : Type 0 where
  pub members : MembersLeave part
  pub clients : ClientsLeave part

pub record OfMembers {X : Type 0} (part : Book → X) : Type 0 where
  pub controllers : ControllersLeave part
  pub every : EveryLeaves part
  pub clients : ClientsLeave part

pub record OfClients {X : Type 0} (part : Book → X) : Type 0 where
  pub controllers : ControllersLeave part
  pub members : MembersLeave part

-- what was judged is written down at controllers alone, what was taken at members, and what was made at clients
abbrev pub judgings_of : Book → List Judging
judgings_of b = b.judged

pub judged_so : OfControllers judgings_of
judged_so = record {
  members = λ m at w piece s after b.
      asked_leave (OfMember at) w (turn_units m w.link piece s.moment s.chances.left) s after (note_messages at m w piece s b) judgings_of (λ note served unit number old. refl);
  clients = λ c at w piece s b. refl;
}

-- the channels that were accepted are a part of the book
abbrev pub acceptings_of : Book → List ChannelAccepted
acceptings_of b = b.accepted

pub accepted_so : OfControllers acceptings_of
accepted_so = record {
  members = λ m at w piece s after b.
      asked_leave (OfMember at) w (turn_units m w.link piece s.moment s.chances.left) s after (note_messages at m w piece s b) acceptings_of (λ note served unit number old. refl);
  clients = λ c at w piece s b. refl;
}

abbrev pub takings_of : Book → List ℕ
takings_of b = b.taken

pub taken_so : OfMembers takings_of
taken_so = record {
  controllers = λ answers w s after b. refl;
  every = λ c at w piece s after b. refl;
  clients = λ c at w piece s b. refl;
}

abbrev pub messages_in : Book → List MessageTaken
messages_in b = b.messages

pub messages_so : OfMembers messages_in
messages_so = record {
  controllers = λ answers w s after b. refl;
  every = λ c at w piece s after b. refl;
  clients = λ c at w piece s b. refl;
}

abbrev pub made_in : Book → List MessageMade
made_in b = b.made

pub made_so : OfClients made_in
made_so = record {
  controllers = λ answers w s after b. refl;
  members = λ m at w piece s after b.
      asked_leave (OfMember at) w (turn_units m w.link piece s.moment s.chances.left) s after (note_messages at m w piece s b) made_in (λ note served unit number old. refl);
}

-- ---- parts that bytes don't change

pub turns_leave : MembersLeave (λ (b : Book). b.turns)
turns_leave m at w piece s after b =
    asked_leave (OfMember at) w (turn_units m w.link piece s.moment s.chances.left) s after (note_messages at m w piece s b) (λ (book : Book). book.turns) (λ note served unit number old. refl)

-- nothing is handed on
pub bytes_forwards : (end : EndId) (w : Delivery) (piece : List ℕ) (s after : State) (b : Book) → (note_at (Some end) w piece s after b).forwards ≡ b.forwards
bytes_forwards end w piece s after b =
    book_by (λ (one : EndId) (now : Book). now.forwards ≡ b.forwards) w piece s after b (λ one. refl) (λ at c is. refl)
    (λ at m is.
    asked_leave (OfMember at) w (turn_units m w.link piece s.moment s.chances.left) s after (note_messages at m w piece s b) (λ (book : Book). book.forwards) (λ note served unit number old. refl))
    (λ at c is. refl) end

pub bytes_turns : (end : EndId) (w : Delivery) (piece : List ℕ) (s after : State) (b : Book) → (note_at (Some end) w piece s after b).turns ≡ b.turns
bytes_turns end w piece s after b =
    book_by (λ (one : EndId) (now : Book). now.turns ≡ b.turns) w piece s after b (λ one. refl) (λ at c is. refl)
    (λ at m is. turns_leave m at w piece s after b) (λ at c is. refl) end
