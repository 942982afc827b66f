-- In every run each logon that a member keeps is that of a message which is written down, on its link; and each member
-- asks for what it keeps. It goes with what is written down, through each step of an end. It serves
-- `messages_are_called`.
use Rattle.std.proofs.Common.{◌≡◌, ℕ, zero, suc, List, [], ◌∷◌, ◌++◌, length, map, inl, inr, Option, Some, refl, subst, slice_get, slice_set}
use Rattle.std.specs.Prelude.{flat_map}
use Rattle.std.specs.List.{AllByRecursion}
use Rattle.outside.specs.declared.event.Event.{Event}
use Rattle.outside.specs.declared.event.Event.TheVariants as event
use Rattle.member_server.specs.Machine.{fresh_member, step_of}
use Rattle.member_server.specs.State.{State as MemberState}
use Rattle.member_server.specs.declared.plan.MemberPlan.{MemberPlan}
use Rattle.member_server.specs.declared.state.Logon.{Logon}
use Rattle.member_server.specs.declared.state.Phase.{Phase}
use Rattle.member_server.specs.declared.state.Running.{Running}
use Rattle.wire_base.specs.Lists.{OneOf}
use Rattle.wire_base.proofs.ListLaws.{one_weaker}
use Rattle.step_notes.specs.CallLogons.{AsksUnlessStopped}
use Rattle.step_notes.specs.MemberNotes.{LinkAt, link_of_place, link_units, message_note, taken_link, turn_units}
use Rattle.step_notes.specs.Records.{Book, MessageTaken, unit_in, OfMember}
use Rattle.world_moves.specs.declared.state.State.{State}
use Rattle.domain_world.specs.Past.{Delivery, at_member, change_message, note_member, note_messages, with_answer, with_call}
use Rattle.step_notes.proofs.Members.CallKeptLaws.{change_asks, fresh_asks, step_asks}
use Rattle.step_notes.proofs.Members.KeptLogonLaws.{Dials, IsFor, KeptIn, bytes_keep, kept_so, one_before, step_keeps}
use Rattle.step_notes.proofs.Members.UnservedLaws.{LinksIn, Opens, bytes_took, step_known, took_known}
use Rattle.domain_world.proofs.Messages.MessageNoteLaws.{changed}
use Rattle.domain_world.proofs.Frames.FrameLaws.{Fact, StaysWritten}
use Rattle.domain_world.proofs.Moves.NoBytesLaws.{IsNoBytes}
use Rattle.domain_world.proofs.Frames.MemberFrameLaws.{AmongMembers, KeepsMembers, MembersFact, members_written}
use Rattle.domain_world.proofs.Frames.EndNoteLaws.{messages_in, messages_so}
use Rattle.domain_world.proofs.Frames.EventLaws.{quiet_no_bytes}
use Rattle.domain_world.proofs.Frames.TurnFrameLaws.{asked_keep}
use Rattle.world_moves.proofs.ChangeLaws.{member_begun}

-- ---- the message of a logon

-- the message is that of the logon of the place, on its link
pub record IsOfLogon (place : ℕ) (logon : Logon) (message : MessageTaken) : Type 0 where
  pub same_place : message.place ≡ place
  pub same_logon : message.logon ≡ logon
  pub on : message.link ≡ logon.link

abbrev pub HasMessage : List MessageTaken → ℕ → Logon → Type 0
HasMessage messages place logon = OneOf (IsOfLogon place logon) messages

-- ---- what stays of a message as units of the turn are written down

-- of the messages before bytes come at a member, after they are written down
abbrev pub member_messages : ℕ → MemberState → Delivery → List ℕ → State → State → Book → List MessageTaken
member_messages at m w piece s after b = (note_member (Some m) at w piece s after b).messages

module _ (Fits : MessageTaken → Type 0) (call : (number : Option ℕ) (message : MessageTaken) → Fits message → Fits (with_call number message))
    (answer : (number : Option ℕ) (message : MessageTaken) → Fits message → Fits (with_answer number message)) (at : ℕ) (m : MemberState) (w : Delivery) (piece : List ℕ) (s after : State) (b : Book) where
  pub noted_stays : OneOf Fits (note_messages at m w piece s b).messages → OneOf Fits (member_messages at m w piece s after b)
  noted_stays one =
      asked_keep (OfMember at) w (turn_units m w.link piece s.moment s.chances.left) s after (note_messages at m w piece s b) (λ (later : Book). OneOf Fits later.messages)
      (λ note served number later has.
      changed Fits (link_of_place note.answered served.work.work.logons) (with_answer (unit_in w.source)) (answer (unit_in w.source))
      (change_message (link_of_place note.called served.work.work.logons) (with_call number) later.messages)
      (changed Fits (link_of_place note.called served.work.work.logons) (with_call number) (call number) later.messages has)) one

  pub member_stays : OneOf Fits b.messages → OneOf Fits (member_messages at m w piece s after b)
  member_stays one = noted_stays (one_before Fits b.messages (flat_map (message_note (at_member at w s)) (link_units m w.link piece s.moment s.chances.left)) one)

of_call : (place : ℕ) (logon : Logon) (number : Option ℕ) (message : MessageTaken) → IsOfLogon place logon message → IsOfLogon place logon (with_call number message)
of_call place logon number message is = record { same_place = is.same_place; same_logon = is.same_logon; on = is.on }

of_answer : (place : ℕ) (logon : Logon) (number : Option ℕ) (message : MessageTaken) → IsOfLogon place logon message → IsOfLogon place logon (with_answer number message)
of_answer place logon number message is = record { same_place = is.same_place; same_logon = is.same_logon; on = is.on }

pub has_noted : (at : ℕ) (m : MemberState) (w : Delivery) (piece : List ℕ) (s after : State) (b : Book) (place : ℕ) (logon : Logon) →
    HasMessage (note_messages at m w piece s b).messages place logon → HasMessage (member_messages at m w piece s after b) place logon
has_noted at m w piece s after b place logon one = noted_stays (IsOfLogon place logon) (of_call place logon) (of_answer place logon) at m w piece s after b one

pub has_still : (at : ℕ) (m : MemberState) (w : Delivery) (piece : List ℕ) (s after : State) (b : Book) (place : ℕ) (logon : Logon) →
    HasMessage b.messages place logon → HasMessage (member_messages at m w piece s after b) place logon
has_still at m w piece s after b place logon one = member_stays (IsOfLogon place logon) (of_call place logon) (of_answer place logon) at m w piece s after b one

-- ---- a member

abbrev pub AnyLink : ℕ → Type 0
AnyLink number = Unit {0}

abbrev pub KeptOf : List MessageTaken → Option Running → Type 0
KeptOf messages r = AsksUnlessStopped r × KeptIn (HasMessage messages) AnyLink r × LinksIn (λ (number : ℕ) (p : Phase). AnyLink number) r

dials_any : (what : Event) → IsNoBytes what → Dials AnyLink what
dials_any (event.Bytes link piece) none = absurd none
dials_any (event.Opened link) none = tt
dials_any (event.Closed link) none = tt
dials_any (event.Dialled link) none = tt
dials_any event.DialFailed none = tt
dials_any event.Stop none = tt

opens_any : (what : Event) → IsNoBytes what → Opens what (λ (number : ℕ) (p : Phase). AnyLink number)
opens_any (event.Bytes link piece) none = absurd none
opens_any (event.Opened link) none = tt
opens_any (event.Closed link) none = tt
opens_any (event.Dialled link) none = tt
opens_any event.DialFailed none = tt
opens_any event.Stop none = tt

step_kept : (messages : List MessageTaken) (what : Event) (m : MemberState) (now : ℕ) (left : List (List ℕ)) → IsNoBytes what → KeptOf messages m.running →
    KeptOf messages (step_of m what now left).state.running
step_kept messages what m now left none kept = (
  step_asks m what now left kept.0,
  step_keeps (HasMessage messages) AnyLink what m now left (dials_any what none) kept.1,
  step_known (λ (number : ℕ) (p : Phase). AnyLink number) what m now left (opens_any what none) kept.2,
)

-- the messages as if they were taken then: only when they were taken matters to what is known of a step
moved : LinkAt → MessageTaken → MessageTaken
moved w message = record message { at = w.at; member = w.member }

to_for : (w : LinkAt) (place : ℕ) (logon : Logon) (messages : List MessageTaken) → HasMessage messages place logon →
    OneOf (IsFor (Unit {0}) w.at w.member place logon) (map (moved w) messages)
unfolding moved
to_for w place logon [] one = absurd one
to_for w place logon (message ∷ messages) one = elim one [
  | inl here ↦ inl (record { same_member = refl; same_place = here.same_place; same_logon = here.same_logon; link = here.on; before = inr (tt, refl) })
  | inr later ↦ inr (to_for w place logon messages later)
]

from_for : (w : LinkAt) (place : ℕ) (logon : Logon) (messages more : List MessageTaken) → OneOf (IsFor (Unit {0}) w.at w.member place logon) (map (moved w) messages ++ more) →
    HasMessage (messages ++ more) place logon
unfolding moved
from_for w place logon [] more one =
    one_weaker (IsFor (Unit {0}) w.at w.member place logon) (IsOfLogon place logon) more (λ message is. record { same_place = is.same_place; same_logon = is.same_logon; on = is.link }) one
from_for w place logon (message ∷ messages) more one = elim one [
  | inl here ↦ inl (record { same_place = here.same_place; same_logon = here.same_logon; on = here.link })
  | inr later ↦ inr (from_for w place logon messages more later)
]

bytes_kept : (w : LinkAt) (m : MemberState) (piece : List ℕ) (now : ℕ) (left : List (List ℕ)) (messages : List MessageTaken) → KeptOf messages m.running →
    KeptOf (messages ++ flat_map (message_note w) (link_units m w.link piece now left)) (step_of m (event.Bytes w.link piece) now left).state.running
bytes_kept w m piece now left messages kept =
    let more : List MessageTaken = flat_map (message_note w) (link_units m w.link piece now left) in
    let old : List MessageTaken = map (moved w) messages in
    let HasOld : ℕ → Logon → Type 0 = λ place logon. OneOf (IsFor (Unit {0}) w.at w.member place logon) old in
    let HasAll : ℕ → Logon → Type 0 = λ place logon. OneOf (IsFor (Unit {0}) w.at w.member place logon) (old ++ more) in
    let running : Option Running = (step_of m (event.Bytes w.link piece) now left).state.running in (
      step_asks m (event.Bytes w.link piece) now left kept.0,
      kept_so HasAll (HasMessage (messages ++ more)) AnyLink AnyLink (λ place logon one. from_for w place logon messages more one) (λ number own. tt) running
          (bytes_keep AnyLink AnyLink w m piece now left old kept.2
          (kept_so (HasMessage messages) HasOld AnyLink AnyLink (λ place logon one. to_for w place logon messages one) (λ number own. tt) m.running kept.1)),
      took_known AnyLink (flat_map (taken_link w) (link_units m w.link piece now left)) running (bytes_took AnyLink w m piece now left kept.2),
    )

-- ---- all members

abbrev pub AllKept : List MessageTaken → MembersFact
AllKept messages members chances links = AllByRecursion (λ (m : MemberState). KeptOf messages m.running) members

abbrev AllOf : List MessageTaken → List MemberState → Type 0
AllOf messages members = AllByRecursion (λ (m : MemberState). KeptOf messages m.running) members

pub one_kept : (messages : List MessageTaken) (members : List MemberState) (at : ℕ) (m : MemberState) → slice_get members at ≡ Some m → AllOf messages members → KeptOf messages m.running
one_kept messages [] zero m there all = absurd cc
one_kept messages [] (suc at) m there all = absurd cc
one_kept messages (first ∷ members) zero m there all = let is : first ≡ m = cc in subst (λ (x : MemberState). KeptOf messages x.running) is all.0
one_kept messages (first ∷ members) (suc at) m there all = one_kept messages members at m there all.1

set_kept : (messages : List MessageTaken) (members : List MemberState) (at : ℕ) (new : MemberState) → KeptOf messages new.running → AllOf messages members → AllOf messages (slice_set members at new)
set_kept messages [] at new kept all = tt
set_kept messages (first ∷ members) zero new kept all = (kept, all.1)
set_kept messages (first ∷ members) (suc at) new kept all = (all.0, set_kept messages members at new kept all.1)

fresh_kept : (messages : List MessageTaken) (plan : MemberPlan) → KeptOf messages (fresh_member plan).running
fresh_kept messages plan = (fresh_asks plan, (tt, tt), tt)

pub all_fresh : (messages : List MessageTaken) (plans : List MemberPlan) → AllOf messages (map fresh_member plans)
all_fresh messages [] = tt
all_fresh messages (plan ∷ plans) = (fresh_kept messages plan, all_fresh messages plans)

hear_kept : (messages : List MessageTaken) (m : MemberState) (at : ℕ) (what : Event) (now : ℕ) (members : List MemberState) (left : List (List ℕ)) → IsNoBytes what →
    slice_get members at ≡ Some m → AllOf messages members → AllOf messages (slice_set members at (step_of m what now left).state)
hear_kept messages m at what now members left none is all =
    set_kept messages members at (step_of m what now left).state (step_kept messages what m now left none (one_kept messages members at m is all)) all

-- ---- with what is written down

more_kept : (messages more : List MessageTaken) → ((place : ℕ) (logon : Logon) → HasMessage messages place logon → HasMessage more place logon) → (r : Option Running) →
    KeptOf messages r → KeptOf more r
more_kept messages more so r kept = (kept.0, kept_so (HasMessage messages) (HasMessage more) AnyLink AnyLink so (λ number own. tt) r kept.1, kept.2)

all_more : (messages more : List MessageTaken) → ((place : ℕ) (logon : Logon) → HasMessage messages place logon → HasMessage more place logon) → (members : List MemberState) →
    AllOf messages members → AllOf more members
all_more messages more so [] all = tt
all_more messages more so (m ∷ members) all = (more_kept messages more so m.running all.0, all_more messages more so members all.1)

member_bytes : (m : MemberState) (at : ℕ) (w : Delivery) (piece : List ℕ) (s after : State) (b : Book) → slice_get s.ends.members at ≡ Some m → AllOf b.messages s.ends.members →
    AllOf (note_member (Some m) at w piece s after b).messages (slice_set s.ends.members at (step_of m (event.Bytes w.link piece) s.moment s.chances.left).state)
member_bytes m at w piece s after b is all =
    let now : List MessageTaken = member_messages at m w piece s after b in
    let new : MemberState = (step_of m (event.Bytes w.link piece) s.moment s.chances.left).state in
    set_kept now s.ends.members at new
    (more_kept (note_messages at m w piece s b).messages now (has_noted at m w piece s after b) new.running
    (bytes_kept (at_member at w s) m piece s.moment s.chances.left b.messages (one_kept b.messages s.ends.members at m is all)))
    (all_more b.messages now (has_still at m w piece s after b) s.ends.members all)

pub kept_on : KeepsMembers messages_in AllKept
kept_on = record {
  of = messages_so;
  given = λ at given after b. refl;
  draws = λ messages members chances later links on all. all;
  hears = λ messages m at what now members chances links quiet is all. hear_kept messages m at what now members chances.left (quiet_no_bytes what quiet) is all;
  opens = λ messages route members chances links all. all;
  accepts = λ messages m at route now members chances links accepts is all. hear_kept messages m at (event.Opened (length links)) now members chances.left tt is all;
  comes = λ m at w piece s after b is all. member_bytes m at w piece s after b is all;
  changes = λ messages secret running at members chances links is none all.
      (let kept : KeptOf messages (Some running) = one_kept messages members at (record { running = Some running }) is all in
      set_kept messages members at (member_begun secret running) (change_asks secret running none kept.0, kept.1, kept.2) all);
  anew = λ messages plan at members chances links all. set_kept messages members at (fresh_member plan) (fresh_kept messages plan) all;
}

-- what members keep of their messages, as a fact of all ends
abbrev pub EachKept : List MessageTaken → Fact
EachKept messages = AmongMembers messages_in AllKept kept_on messages

pub kept_written : StaysWritten messages_in EachKept
kept_written = members_written messages_in AllKept kept_on
