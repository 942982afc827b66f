-- What is written down of bytes that come at an end, where controllers ask nobody: of a controller it is what
-- `ControllerNotes` says. It serves the frames, and what is carried by them.
use Rattle.std.proofs.Common.{◌≡◌, ◌||◌, ℕ, Bool, true, false, List, [], drop, length, map, Option, Some, None, Result, Ok, Err, slice_get, refl, sym, ap, ap₂, subst, ◌∙◌}
use Rattle.std.proofs.lemmas.List.{append-nil}
use Rattle.outside.specs.Machine.{Stepped}
use Rattle.outside.specs.declared.action.Action.{Action}
use Rattle.outside.specs.declared.action.StepRefused.{StepRefused}
use Rattle.outside.specs.declared.event.Event.TheVariants as event
use Rattle.end_links.specs.Serving.{ServedUnit}
use Rattle.channel_turns.specs.Turning.{is_on}
use Rattle.channel_turns.specs.declared.state.Dialling.{Dialling}
use Rattle.channel_turns.specs.declared.state.Dialling.TheVariants as dialling
use Rattle.channel_turns.specs.declared.state.TurnTalk.{TurnTalk}
use Rattle.channel_turns.specs.declared.state.TurnWork.{TurnWork}
use Rattle.domain_controller.specs.State.{State as ControllerState}
use Rattle.domain_controller.specs.Step.{step_of}
use Rattle.domain_controller.specs.Trusting.{ForwardedCalls, no_trusting}
use Rattle.domain_controller.specs.TrustHere.{NoneIsAsked}
use Rattle.domain_controller.specs.TrustStep.{trust_step_of}
use Rattle.domain_controller.specs.declared.state.Running.{Running}
use Rattle.domain_controller.specs.declared.trusting.Trusting.{Trusting}
use Rattle.domain_controller.proofs.TrustAloneLaws.{steps_alone}
use Rattle.domain_controller.proofs.TrustHereLaws.{answers_here}
use Rattle.step_notes.specs.ControllerNotes.{Answered, answer_on, units_of_controller}
use Rattle.step_notes.specs.MemberNotes.{TurnNote}
use Rattle.step_notes.specs.Records.{Book, CallTaken, Forward, unit_in}
use Rattle.step_notes.specs.Served.{units_if_taken}
use Rattle.step_notes.specs.TrustNotes.{asking_note, asking_units_in, asking_units_on, calls_handed, forwards_at, places_behind}
use Rattle.step_notes.proofs.Controllers.TrustNoteLaws.{notes_alike}
use Rattle.world_moves.specs.declared.links.EndId.{EndId}
use Rattle.world_moves.specs.declared.links.EndId.TheVariants.{Controller, Member, Client, Station}
use Rattle.world_moves.specs.declared.state.State.{State}
use Rattle.world_moves.specs.Alone.{AsksNobody}
use Rattle.domain_world.specs.Past.{Delivery, answers_of, any_turn_clash, asked_in_turn, asker_of, asking_notes, at_controller, forwards_of, heard_marks, note_answers, note_at, note_calls, note_client, note_controller as note_every, note_member, with_clash, with_forwards, with_sent, with_taken}

-- ---- what is written down by the step of a controller that asks nobody

abbrev pub alone_answers : ℕ → ControllerState → Delivery → List ℕ → State → List Answered
alone_answers controller c w piece s =
    map (answer_on w.link (at_controller controller c w s)) (units_of_controller c w.link piece s.moment s.chances.left)

abbrev pub note_controller_alone : Option ControllerState → ℕ → Delivery → List ℕ → State → State → Book → Book
note_controller_alone None controller w piece s after b = b
note_controller_alone (Some c) controller w piece s after b = note_answers (alone_answers controller c w piece s) w s after b

abbrev pub note_alone : Option EndId → Delivery → List ℕ → State → State → Book → Book
note_alone None w piece s after b = b
note_alone (Some (Controller at)) w piece s after b = note_controller_alone (slice_get s.ends.controllers at) at w piece s after b
note_alone (Some (Member at)) w piece s after b = note_member (slice_get s.ends.members at) at w piece s after b
note_alone (Some (Client at)) w piece s after b = note_client (slice_get s.ends.clients at) at w piece s b
note_alone (Some (Station at)) w piece s after b = b

-- ---- a controller where nobody is asked

pub none_asked : (t : Trusting) → t ≡ no_trusting → NoneIsAsked t
none_asked t is = subst NoneIsAsked (sym is) (record { nobody = tt; none = refl; idle = refl; unsealing = refl })

pub answers_alike : (at : ℕ) (c : ControllerState) (w : Delivery) (piece : List ℕ) (s : State) → c.trusting ≡ no_trusting → answers_of at c w piece s ≡ alone_answers at c w piece s
answers_alike at c w piece s is =
    notes_alike c w.link (at_controller at c w s) piece s.moment s.chances.left (none_asked c.trusting is)
    (steps_alone.step c (event.Bytes w.link piece) s.moment s.chances.left is)

-- ---- a controller that waits for no other one's answer asks nothing, and hands nothing on

or_none : (some : Bool) → (some || false) ≡ some
or_none false = refl
or_none true = refl

nothing_taken : {U : Type 0} (answer : Result (List Action) StepRefused) (units : List U) → units ≡ [] → units_if_taken answer units ≡ []
nothing_taken (Ok actions) units none = none
nothing_taken (Err why) units none = refl

none_on : (running : Option Running) (link : ℕ) (piece : List ℕ) (t : Trusting) (left : List (List ℕ)) → t.dialling ≡ dialling.Nothing → asking_units_in running link piece t left ≡ []
none_on None link piece t left is = refl
none_on (Some running) link piece t left is = ap (λ (how : Dialling). asking_units_on how link piece t left) is

module _ (at : ℕ) (c : ControllerState) (w : Delivery) (piece : List ℕ) (s after : State) (b : Book) (none : NoneIsAsked c.trusting)
    (alone : trust_step_of c (event.Bytes w.link piece) s.moment s.chances.left ≡ step_of c (event.Bytes w.link piece) s.moment s.chances.left) where
  abbrev answer : Result (List Action) StepRefused
  answer = (trust_step_of c (event.Bytes w.link piece) s.moment s.chances.left).answer

  none_asking : asking_notes c w piece s ≡ []
  none_asking =
      ap (λ (units : List (ServedUnit TurnWork TurnTalk)). map (asking_note (asked_in_turn c s)) units)
      (nothing_taken answer (asking_units_in c.running w.link piece c.trusting s.chances.left) (none_on c.running w.link piece c.trusting s.chances.left none.idle))

  none_handed : forwards_of at c w piece s ≡ []
  none_handed =
      let later : ForwardedCalls = (trust_step_of c (event.Bytes w.link piece) s.moment s.chances.left).state.trusting.queues.forwarded in
      let stays : later ≡ c.trusting.queues.forwarded =
      ap (λ (step : Stepped ControllerState). step.state.trusting.queues.forwarded) alone
      ∙ ap (λ (t : Trusting). t.queues.forwarded) (answers_here.stays c (event.Bytes w.link piece) s.moment s.chances.left) in
      ap (λ (places : List (ℕ × ℕ)). forwards_at w.link places (calls_handed (answers_of at c w piece s)))
      (ap₂ (λ (before : ForwardedCalls) (calls : ForwardedCalls). places_behind (length before) calls) none.none (stays ∙ none.none))

  abbrev written : Bool → Bool → List TurnNote → List Forward → Book
  written on clash notes forwards =
      with_sent w.at (heard_marks on at c w piece s after b.forwards (drop (length s.bag) after.bag))
      (with_clash clash (with_taken (asker_of at c) w.at (unit_in w.source) notes (with_forwards forwards (note_calls (answers_of at c w piece s) w s after b))))

  -- a controller that asks nobody is noted by what it answers
  pub quiet_noted : note_every (Some c) at w piece s after b ≡ note_answers (answers_of at c w piece s) w s after b
  quiet_noted =
      ap (λ (on : Bool). written on (any_turn_clash (asking_notes c w piece s) (unit_in w.source) b.sent) (asking_notes c w piece s) (forwards_of at c w piece s))
      (ap (λ (how : Dialling). is_on w.link how) none.idle)
      ∙ ap (λ (notes : List TurnNote). written false (any_turn_clash notes (unit_in w.source) b.sent) notes (forwards_of at c w piece s)) none_asking
      ∙ ap (λ (forwards : List Forward). written false false [] forwards) none_handed
      ∙ ap (λ (answers : List CallTaken). record (written false false [] []) { answers = answers }) (append-nil b.answers)
      ∙ ap (λ (clash : Bool). record (note_answers (answers_of at c w piece s) w s after b) { clash = clash })
      (or_none (note_calls (answers_of at c w piece s) w s after b).clash)

-- a controller that can ask nobody is noted as it answers alone
pub state_noted : (at : ℕ) (c : ControllerState) (w : Delivery) (piece : List ℕ) (s after : State) (b : Book) → c.trusting ≡ no_trusting →
    note_every (Some c) at w piece s after b ≡ note_answers (alone_answers at c w piece s) w s after b
state_noted at c w piece s after b nobody =
    quiet_noted at c w piece s after b (none_asked c.trusting nobody) (steps_alone.step c (event.Bytes w.link piece) s.moment s.chances.left nobody)
    ∙ ap (λ (answers : List Answered). note_answers answers w s after b) (answers_alike at c w piece s nobody)

controller_noted : (found : Option ControllerState) (at : ℕ) (w : Delivery) (piece : List ℕ) (s after : State) (b : Book) → ((c : ControllerState) → found ≡ Some c → c.trusting ≡ no_trusting) →
    note_every found at w piece s after b ≡ note_controller_alone found at w piece s after b
controller_noted None at w piece s after b asks = refl
controller_noted (Some c) at w piece s after b asks = state_noted at c w piece s after b (asks c refl)

pub notes_alone : (end : EndId) (w : Delivery) (piece : List ℕ) (s after : State) (b : Book) → AsksNobody s → note_at (Some end) w piece s after b ≡ note_alone (Some end) w piece s after b
notes_alone (Controller at) w piece s after b asks = controller_noted (slice_get s.ends.controllers at) at w piece s after b (λ c is. asks.each at c is)
notes_alone (Member at) w piece s after b asks = refl
notes_alone (Client at) w piece s after b asks = refl
notes_alone (Station at) w piece s after b asks = refl
