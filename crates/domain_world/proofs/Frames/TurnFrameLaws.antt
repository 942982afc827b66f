-- What holds of the book as the units are written down that the turn of who asks served: whatever holds through each of
-- them. They change messages and the clash alone, so each other part of the book stays.
-- It serves `Proved.credentials`, `Proved.let_in`, `runs_are_heard` and others.
use Rattle.std.proofs.Common.{◌≡◌, ℕ, false, List, [], ◌∷◌, map, Option, refl, ◌∙◌}
use Rattle.end_links.specs.Serving.{ServedUnit}
use Rattle.member_server.specs.Turns.{AtTurn}
use Rattle.channel_turns.specs.declared.state.TurnTalk.{TurnTalk}
use Rattle.channel_events.specs.Marks.{Mark}
use Rattle.step_notes.specs.Marking.{turn_marks}
use Rattle.step_notes.specs.MemberNotes.{TurnNote, turn_note}
use Rattle.step_notes.specs.Records.{Book, RequesterId, unit_in}
use Rattle.world_moves.specs.declared.state.State.{State}
use Rattle.domain_world.specs.Past.{Delivery, controller_asked, first_of, later_of, note_turn, note_turns, numbers_on}

module _ (Holds : Book → Type 0) (unit : Option ℕ)
    (each : (note : TurnNote) (served : ServedUnit AtTurn TurnTalk) (number : Option ℕ) (b : Book) → Holds b → Holds (note_turn note served unit number b)) where
  pub notes_keep : (controller : ℕ) (units : List (ServedUnit AtTurn TurnTalk)) (numbers : List ℕ) (b : Book) → Holds b → Holds (note_turns controller units unit numbers b)
  notes_keep controller [] numbers b holds = holds
  notes_keep controller (served ∷ units) numbers b holds =
      notes_keep controller units (later_of (turn_note controller served).sends numbers) (note_turn (turn_note controller served) served unit (first_of numbers) b)
      (each (turn_note controller served) served (first_of numbers) b holds)

-- ---- in the turn of who asks

-- the notes of the units that the turn of a requester served
abbrev pub asked_notes : RequesterId → State → List (ServedUnit AtTurn TurnTalk) → List TurnNote
asked_notes who s units = map (turn_note (controller_asked who s)) units

-- the marks of what it sent for them
abbrev pub asked_marks : RequesterId → State → List (ServedUnit AtTurn TurnTalk) → List Mark
asked_marks who s units = turn_marks (asked_notes who s units)

-- the book once the units of its turn are written down
abbrev pub asked_book : RequesterId → Delivery → List (ServedUnit AtTurn TurnTalk) → State → State → Book → Book
asked_book who w units s after b =
    note_turns (controller_asked who s) units (unit_in w.source) (numbers_on w.link false s.bag after.bag) b

module _ (who : RequesterId) (w : Delivery) (units : List (ServedUnit AtTurn TurnTalk)) (s after : State) (b : Book) where
  pub asked_keep : (Holds : Book → Type 0) →
      ((note : TurnNote) (served : ServedUnit AtTurn TurnTalk) (number : Option ℕ) (old : Book) → Holds old → Holds (note_turn note served (unit_in w.source) number old)) →
      Holds b → Holds (asked_book who w units s after b)
  asked_keep Holds each holds =
      notes_keep Holds (unit_in w.source) each (controller_asked who s) units (numbers_on w.link false s.bag after.bag) b holds

  -- a part of the book that no unit of a turn changes
  pub asked_leave : {T : Type 0} (part : Book → T) →
      ((note : TurnNote) (served : ServedUnit AtTurn TurnTalk) (unit number : Option ℕ) (old : Book) → part (note_turn note served unit number old) ≡ part old) →
      part (asked_book who w units s after b) ≡ part b
  asked_leave part each =
      asked_keep (λ later. part later ≡ part b) (λ note served number later is. each note served (unit_in w.source) number later ∙ is) refl

  pub turns_sent : (asked_book who w units s after b).sent ≡ b.sent
  turns_sent = asked_leave (λ (book : Book). book.sent) (λ note served at number old. refl)

  pub turns_told : (asked_book who w units s after b).told ≡ b.told
  turns_told = asked_leave (λ (book : Book). book.told) (λ note served at number old. refl)

  pub turns_taken : (asked_book who w units s after b).taken ≡ b.taken
  turns_taken = asked_leave (λ (book : Book). book.taken) (λ note served at number old. refl)
