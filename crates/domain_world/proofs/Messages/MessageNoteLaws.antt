-- What becomes of the messages that are written down, as a member serves the units of its turn: the place of an answer
-- gives its message the unit that came. It serves `Proved.asked`, `Proved.let_in`, `Proved.sends`.
use Rattle.std.proofs.Common.{◌≡◌, ℕ, ◌==◌, Bool, true, false, List, [], ◌∷◌, map, inl, inr, Option, Some, None, refl, sym, ap, subst, ◌∙◌}
use Rattle.std.proofs.lemmas.Bool.{eq-eqb}
use Rattle.end_links.specs.Serving.{ServedUnit}
use Rattle.member_server.specs.Turns.{AtTurn}
use Rattle.member_server.specs.declared.state.Logon.{Logon}
use Rattle.member_server.specs.declared.state.Logons.{Logons}
use Rattle.channel_turns.specs.declared.state.TurnTalk.{TurnTalk}
use Rattle.wire_base.specs.Lists.{OneOf}
use Rattle.step_notes.specs.MemberNotes.{TurnNote, link_of_logon, link_of_place, turn_note}
use Rattle.step_notes.specs.Records.{Book, MessageTaken, OutcomeTold}
use Rattle.domain_world.specs.Claims.LetIn.{IsLetInBy}
use Rattle.domain_world.specs.Past.{change_if, change_message, first_of, later_of, note_turn, note_turns, with_answer, with_call}
use Rattle.step_notes.proofs.Members.KeptLogonLaws.{HasFor, IsFor}
use Rattle.step_notes.proofs.Members.TurnAnswerLaws.{HasAnswer}
use Rattle.domain_world.proofs.Frames.TurnFrameLaws.{notes_keep}

-- ---- one of the messages

pub map_one : (Fits Later : MessageTaken → Type 0) (change : MessageTaken → MessageTaken) → ((message : MessageTaken) → Fits message → Later (change message)) →
    (messages : List MessageTaken) → OneOf Fits messages → OneOf Later (map change messages)
map_one Fits Later change so [] one = absurd one
map_one Fits Later change so (message ∷ messages) one = elim one [ inl here ↦ inl (so message here) | inr later ↦ inr (map_one Fits Later change so messages later) ]

changed_if : (Fits : MessageTaken → Type 0) (hit : Bool) (change : MessageTaken → MessageTaken) (message : MessageTaken) → (Fits message → Fits (change message)) → Fits message →
    Fits (change_if hit change message)
changed_if Fits false change message so fits = fits
changed_if Fits true change message so fits = so fits

pub changed : (Fits : MessageTaken → Type 0) (link : Option ℕ) (change : MessageTaken → MessageTaken) → ((message : MessageTaken) → Fits message → Fits (change message)) →
    (messages : List MessageTaken) → OneOf Fits messages → OneOf Fits (change_message link change messages)
changed Fits None change so messages one = one
changed Fits (Some link) change so messages one =
    map_one Fits Fits (λ (message : MessageTaken). change_if (message.link == link) change message)
    (λ message fits. changed_if Fits (message.link == link) change message (so message) fits) messages one

-- ---- what stays of a message, whatever units of the bag the turn takes

pub record IsStable (Fits : MessageTaken → Type 0) : Type 0 where
  pub call : (number : Option ℕ) (message : MessageTaken) → Fits message → Fits (with_call number message)
  pub answer : (number : ℕ) (message : MessageTaken) → Fits message → Fits (with_answer (Some number) message)

turn_grows : (Fits : MessageTaken → Type 0) → IsStable Fits → (note : TurnNote) (served : ServedUnit AtTurn TurnTalk) (unit : ℕ) (number : Option ℕ) (b : Book) → OneOf Fits b.messages →
    OneOf Fits (note_turn note served (Some unit) number b).messages
turn_grows Fits stable note served unit number b one =
    changed Fits (link_of_place note.answered served.work.work.logons) (with_answer (Some unit)) (stable.answer unit)
    (change_message (link_of_place note.called served.work.work.logons) (with_call number) b.messages)
    (changed Fits (link_of_place note.called served.work.work.logons) (with_call number) (stable.call number) b.messages one)

turns_grow : (Fits : MessageTaken → Type 0) → IsStable Fits → (controller : ℕ) (units : List (ServedUnit AtTurn TurnTalk)) (unit : ℕ) (numbers : List ℕ) (b : Book) → OneOf Fits b.messages →
    OneOf Fits (note_turns controller units (Some unit) numbers b).messages
turns_grow Fits stable controller units unit numbers b one =
    notes_keep (λ (later : Book). OneOf Fits later.messages) (Some unit) (λ note served number later has. turn_grows Fits stable note served unit number later has) controller units numbers b one

-- units of the turn come in a unit of the bag
abbrev pub AreCarried : Option ℕ → List (ServedUnit AtTurn TurnTalk) → Type 0
AreCarried None units = units ≡ []
AreCarried (Some unit) units = Unit {0}

pub notes_grow : (Fits : MessageTaken → Type 0) → IsStable Fits → (controller : ℕ) (units : List (ServedUnit AtTurn TurnTalk)) (unit : Option ℕ) (numbers : List ℕ) (b : Book) →
    AreCarried unit units → OneOf Fits b.messages → OneOf Fits (note_turns controller units unit numbers b).messages
notes_grow Fits stable controller units None numbers b none one =
    subst (λ (all : List (ServedUnit AtTurn TurnTalk)). OneOf Fits (note_turns controller all None numbers b).messages) (sym none) one
notes_grow Fits stable controller units (Some unit) numbers b carried one = turns_grow Fits stable controller units unit numbers b one

pub for_stable : (Late : Type 0) (most member place : ℕ) (logon : Logon) → IsStable (IsFor Late most member place logon)
for_stable Late most member place logon = record {
  call = λ number message is. record { same_member = is.same_member; same_place = is.same_place; same_logon = is.same_logon; link = is.link; before = is.before };
  answer = λ number message is. record { same_member = is.same_member; same_place = is.same_place; same_logon = is.same_logon; link = is.link; before = is.before };
}

pub let_in_stable : (told : OutcomeTold) → IsStable (IsLetInBy told)
let_in_stable told = record {
  call = λ number message is. record {
    link = is.link;
    member = is.member;
    before = is.before;
    unit = is.unit;
    reply = is.reply;
    info = is.info;
    outcome = is.outcome;
  };
  answer = λ number message is. record {
    link = is.link;
    member = is.member;
    before = is.before;
    unit = number;
    reply = refl;
    info = is.info;
    outcome = is.outcome;
  };
}

-- ---- an answer

-- the message is that of the logon of the place, and its answer came in that unit of the bag
pub record IsAnsweredFor (Late : Type 0) (most member place : ℕ) (logon : Logon) (message : MessageTaken) : Type 0 where
  pub is_for : IsFor Late most member place logon message
  pub unit : ℕ
  pub reply : message.reply ≡ Some unit

answered_stable : (Late : Type 0) (most member place : ℕ) (logon : Logon) → IsStable (IsAnsweredFor Late most member place logon)
answered_stable Late most member place logon = record {
  call = λ number message is. record { is_for = (for_stable Late most member place logon).call number message is.is_for; unit = is.unit; reply = is.reply };
  answer = λ number message is. record { is_for = (for_stable Late most member place logon).answer number message is.is_for; unit = number; reply = refl };
}

module _ (Late : Type 0) (most member place : ℕ) (logon : Logon) where
  -- the message of the link of the logon has its answer then
  answer_here : (answered : Option ℕ) (logons : Logons) (unit : ℕ) (messages : List MessageTaken) → link_of_place answered logons ≡ Some logon.link →
      HasFor Late most member messages place logon → OneOf (IsAnsweredFor Late most member place logon) (change_message (link_of_place answered logons) (with_answer (Some unit)) messages)
  answer_here answered logons unit messages is one =
      subst (λ (link : Option ℕ). OneOf (IsAnsweredFor Late most member place logon) (change_message link (with_answer (Some unit)) messages)) (sym is)
      (map_one (IsFor Late most member place logon) (IsAnsweredFor Late most member place logon)
      (λ (message : MessageTaken). change_if (message.link == logon.link) (with_answer (Some unit)) message)
      (λ message its.
      subst (λ (hit : Bool). IsAnsweredFor Late most member place logon (change_if hit (with_answer (Some unit)) message)) (sym (eq-eqb message.link logon.link its.link))
      (record { is_for = (for_stable Late most member place logon).answer unit message its; unit = unit; reply = refl }))
      messages one)

  pub turns_answer : (controller : ℕ) (units : List (ServedUnit AtTurn TurnTalk)) (unit : ℕ) (numbers : List ℕ) (b : Book) → HasAnswer controller place logon units →
      HasFor Late most member b.messages place logon → OneOf (IsAnsweredFor Late most member place logon) (note_turns controller units (Some unit) numbers b).messages
  turns_answer controller [] unit numbers b has one = absurd has
  turns_answer controller (served ∷ units) unit numbers b has one =
      let note : TurnNote = turn_note controller served in
      let logons : Logons = served.work.work.logons in
      let after : Book = note_turn note served (Some unit) (first_of numbers) b in
      elim has [
        | inl here ↦
            turns_grow (IsAnsweredFor Late most member place logon) (answered_stable Late most member place logon) controller units unit (later_of note.sends numbers) after
            (answer_here note.answered logons unit (change_message (link_of_place note.called logons) (with_call (first_of numbers)) b.messages)
            (ap (λ (answered : Option ℕ). link_of_place answered logons) here.answered ∙ ap link_of_logon here.kept)
            (changed (IsFor Late most member place logon) (link_of_place note.called logons) (with_call (first_of numbers))
            ((for_stable Late most member place logon).call (first_of numbers)) b.messages one))
        | inr later ↦
            turns_answer controller units unit (later_of note.sends numbers) after later
            (turn_grows (IsFor Late most member place logon) (for_stable Late most member place logon) note served unit (first_of numbers) b one)
      ]
