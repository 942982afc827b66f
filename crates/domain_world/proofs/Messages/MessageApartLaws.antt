-- In every run no two messages that are written down came on one link: they are among the links on which one was taken,
-- in order, and a link takes one. It serves `Proved.apart`.
use Rattle.std.proofs.Common.{◌≡◌, ◌≢◌, ◌⊎◌, ◌==◌, ℕ, zero, suc, Bool, true, false, List, [], ◌∷◌, ◌++◌, map, inl, inr, Option, Some, None, refl, sym, ap, ap₂, subst, ◌∙◌, arith}
use Rattle.std.specs.Prelude.{AllPairs, flat_map}
use Rattle.std.specs.List.{AllByRecursion}
use Rattle.std.proofs.lemmas.List.Elements.{recursion_from_All}
use Rattle.wire_base.specs.Maps.{lookup, same_number}
use Rattle.end_links.specs.Serving.{ServedUnit}
use Rattle.member_server.specs.State.{State as MemberState}
use Rattle.member_server.specs.Laws.{is_past}
use Rattle.member_server.specs.declared.state.AtLink.{AtLink}
use Rattle.member_server.specs.Turns.{AtTurn}
use Rattle.member_server.specs.declared.state.Logon.{Logon}
use Rattle.member_server.specs.declared.state.Phase.{Phase}
use Rattle.member_server.specs.declared.state.Phase.TheVariants as phase
use Rattle.member_server.specs.declared.state.Talk.{Talk}
use Rattle.channel_turns.specs.declared.state.TurnTalk.{TurnTalk}
use Rattle.step_notes.specs.MemberNotes.{LinkAt, is_challenged, link_if, link_of_place, link_units, message_after, message_at, message_by, message_kept, message_note, taken_after, taken_by, taken_link, turn_units, TurnNote}
use Rattle.step_notes.specs.Records.{Book, MessageTaken, OfMember, RequesterId}
use Rattle.step_notes.specs.Served.{work_after, talk_after}
use Rattle.world_moves.specs.declared.links.EndId.{EndId}
use Rattle.world_moves.specs.declared.moves.Move.{Move}
use Rattle.world_moves.specs.declared.plan.Plan.{Plan}
use Rattle.world_moves.specs.declared.state.State.{State}
use Rattle.world_moves.specs.Plain.{IsPlainPlan}
use Rattle.domain_world.specs.Accepting.Answered.{MessagesAreApart}
use Rattle.domain_world.specs.Past.{Delivery, at_member, change_if, change_message, note_at, note_member, note_messages, note_turn, past, with_answer, with_call}
use Rattle.wire_base.proofs.ListLaws.{pairs_first}
use Rattle.domain_world.proofs.Messages.MessageOnceLaws.{messages_once}
use Rattle.domain_world.proofs.Frames.BookFrameLaws.{book_holds}
use Rattle.domain_world.proofs.Frames.TurnFrameLaws.{turns_taken, asked_book, asked_leave}
use Rattle.domain_world.proofs.Frames.EveryStepLaws.{every_book as book_by}

-- ---- a list among another, in order

abbrev Among : List ℕ → List ℕ → Type 0
Among [] ys = Unit {0}
Among (x ∷ xs) [] = ⊥
Among (x ∷ xs) (y ∷ ys) = ((x ≡ y) × Among xs ys) ⊎ Among (x ∷ xs) ys

among_later : (xs : List ℕ) (y : ℕ) (ys : List ℕ) → Among xs ys → Among xs (y ∷ ys)
among_later [] y ys among = tt
among_later (x ∷ xs) y ys among = inr among

among_behind : (xs ys vs : List ℕ) → Among xs vs → Among xs (ys ++ vs)
among_behind xs [] vs among = among
among_behind xs (y ∷ ys) vs among = among_later xs y (ys ++ vs) (among_behind xs ys vs among)

among_append : (xs ys us vs : List ℕ) → Among xs ys → Among us vs → Among (xs ++ us) (ys ++ vs)
among_append [] ys us vs one other = among_behind us ys vs other
among_append (x ∷ xs) [] us vs one other = absurd one
among_append (x ∷ xs) (y ∷ ys) us vs one other = elim one [
  | inl here ↦ inl (here.0, among_append xs ys us vs here.1 other)
  | inr later ↦ inr (among_append (x ∷ xs) ys us vs later other)
]

all_among : (P : ℕ → Type 0) (xs ys : List ℕ) → Among xs ys → AllByRecursion P ys → AllByRecursion P xs
all_among P [] ys among all = tt
all_among P (x ∷ xs) [] among all = absurd among
all_among P (x ∷ xs) (y ∷ ys) among all = elim among [
  | inl here ↦ (subst P (sym here.0) all.0, all_among P xs ys here.1 all.1)
  | inr later ↦ all_among P (x ∷ xs) ys later all.1
]

-- ---- things that differ pairwise

abbrev Differ : List ℕ → Type 0
Differ xs = AllPairs (λ (one other : ℕ). one ≢ other) xs

pairs_later : (y : ℕ) (ys : List ℕ) → Differ (y ∷ ys) → Differ ys
pairs_later y ys pairs i j d before within = pairs (suc i) (suc j) d (omega (arith, before)) (omega (arith, within))

pairs_head : (y : ℕ) (ys : List ℕ) → Differ (y ∷ ys) → AllByRecursion (λ (other : ℕ). y ≢ other) ys
pairs_head y ys pairs = recursion_from_All (λ (other : ℕ). y ≢ other) ys (λ k d within. pairs zero (suc k) d (omega arith) (omega (arith, within)))

differ_among : (xs ys : List ℕ) → Among xs ys → Differ ys → Differ xs
differ_among [] ys among pairs = λ i j d before within. absurd (omega (arith, within))
differ_among (x ∷ xs) [] among pairs = absurd among
differ_among (x ∷ xs) (y ∷ ys) among pairs = elim among [
  | inl here ↦ pairs_first (λ (one other : ℕ). one ≢ other) x xs
      (all_among (λ (other : ℕ). x ≢ other) xs ys here.1 (subst (λ (n : ℕ). AllByRecursion (λ (other : ℕ). n ≢ other) ys) (sym here.0) (pairs_head y ys pairs)))
      (differ_among xs ys here.1 (pairs_later y ys pairs))
  | inr later ↦ differ_among (x ∷ xs) ys later (pairs_later y ys pairs)
]

abbrev pub links_in : List MessageTaken → List ℕ
links_in messages = map (λ (one : MessageTaken). one.link) messages

all_links : (n : ℕ) (messages : List MessageTaken) → AllByRecursion (λ (other : ℕ). n ≢ other) (links_in messages) →
    AllByRecursion (λ (other : MessageTaken). n ≢ other.link) messages
all_links n [] all = tt
all_links n (one ∷ messages) all = (all.0, all_links n messages all.1)

links_apart : (messages : List MessageTaken) → Differ (links_in messages) → AllPairs (λ (one other : MessageTaken). one.link ≢ other.link) messages
links_apart [] pairs = λ i j d before within. absurd (omega (arith, within))
links_apart (one ∷ messages) pairs =
    pairs_first (λ (a b : MessageTaken). a.link ≢ b.link) one messages (all_links one.link messages (pairs_head one.link (links_in messages) pairs))
    (links_apart messages (pairs_later one.link (links_in messages) pairs))

-- ---- a unit on an accepted link

kept_among : (logon : Option Logon) (place : ℕ) (w : LinkAt) (bytes : List ℕ) → Among (links_in (message_kept logon place w bytes)) (w.link ∷ [])
kept_among None place w bytes = tt
kept_among (Some logon) place w bytes = inl (refl, tt)

at_among : (p : Phase) (after : Option AtLink) (w : LinkAt) (bytes : List ℕ) → Among (links_in (message_at p after w bytes)) (link_if (is_past p) w.link)
at_among phase.Fresh after w bytes = tt
at_among (phase.Challenged bound challenge flags) after w bytes = tt
at_among (phase.Asked bound place held) None w bytes = tt
at_among (phase.Asked bound place held) (Some after) w bytes = kept_among (lookup same_number place after.logons.asked) place w bytes
at_among (phase.In on) after w bytes = tt
at_among (phase.Out bound status) after w bytes = tt

after_among : (talk : Option Talk) (after : Option AtLink) (w : LinkAt) (bytes : List ℕ) → Among (links_in (message_after talk after w bytes)) (taken_after talk w.link)
after_among None after w bytes = tt
after_among (Some talk) after w bytes = at_among talk.phase after w bytes

by_among : (challenged : Bool) (unit : ServedUnit AtLink Talk) (w : LinkAt) → Among (links_in (message_by challenged unit w)) (taken_by challenged (talk_after unit.part) w.link)
by_among false unit w = tt
by_among true unit w = after_among (talk_after unit.part) (work_after unit.part) w unit.bytes

pub links_append : (messages more : List MessageTaken) → links_in (messages ++ more) ≡ links_in messages ++ links_in more
links_append [] more = refl
links_append (one ∷ messages) more = ap (λ (links : List ℕ). one.link ∷ links) (links_append messages more)

units_among : (w : LinkAt) (units : List (ServedUnit AtLink Talk)) → Among (links_in (flat_map (message_note w) units)) (flat_map (taken_link w) units)
units_among w [] = tt
units_among w (unit ∷ units) =
    subst (λ (links : List ℕ). Among links (taken_link w unit ++ flat_map (taken_link w) units)) (sym (links_append (message_note w unit) (flat_map (message_note w) units)))
    (among_append (links_in (message_note w unit)) (taken_link w unit) (links_in (flat_map (message_note w) units)) (flat_map (taken_link w) units)
    (by_among (is_challenged unit.talk.phase) unit w) (units_among w units))

-- ---- what becomes of messages

same_if : (hit : Bool) (change : MessageTaken → MessageTaken) (one : MessageTaken) → (change one).link ≡ one.link → (change_if hit change one).link ≡ one.link
same_if false change one same = refl
same_if true change one same = same

same_all : (link : ℕ) (change : MessageTaken → MessageTaken) → ((one : MessageTaken) → (change one).link ≡ one.link) → (messages : List MessageTaken) →
    links_in (map (λ (one : MessageTaken). change_if (one.link == link) change one) messages) ≡ links_in messages
same_all link change same [] = refl
same_all link change same (one ∷ messages) =
    ap₂ (λ (first : ℕ) (links : List ℕ). first ∷ links) (same_if (one.link == link) change one (same one)) (same_all link change same messages)

pub change_same : (link : Option ℕ) (change : MessageTaken → MessageTaken) → ((one : MessageTaken) → (change one).link ≡ one.link) → (messages : List MessageTaken) →
    links_in (change_message link change messages) ≡ links_in messages
change_same None change same messages = refl
change_same (Some link) change same messages = same_all link change same messages

-- ---- what is written down

abbrev AreAmong : Book → Type 0
AreAmong b = Among (links_in b.messages) b.taken

-- the links of the messages stay
turn_links : (note : TurnNote) (served : ServedUnit AtTurn TurnTalk) (unit number : Option ℕ) (b : Book) → links_in (note_turn note served unit number b).messages ≡ links_in b.messages
turn_links note served unit number b =
    let first = change_message (link_of_place note.called served.work.work.logons) (with_call number) b.messages in
    change_same (link_of_place note.answered served.work.work.logons) (with_answer unit) (λ one. refl) first
    ∙ change_same (link_of_place note.called served.work.work.logons) (with_call number) (λ one. refl) b.messages

pub turns_links : (who : RequesterId) (w : Delivery) (units : List (ServedUnit AtTurn TurnTalk)) (s after : State) (b : Book) →
    links_in (asked_book who w units s after b).messages ≡ links_in b.messages
turns_links who w units s after b = asked_leave who w units s after b (λ (later : Book). links_in later.messages) turn_links

turns_among : (who : RequesterId) (w : Delivery) (units : List (ServedUnit AtTurn TurnTalk)) (s after : State) (b : Book) → AreAmong b → AreAmong (asked_book who w units s after b)
turns_among who w units s after b among =
    subst (λ (taken : List ℕ). Among (links_in (asked_book who w units s after b).messages) taken) (sym (turns_taken who w units s after b))
    (subst (λ (links : List ℕ). Among links b.taken) (sym (turns_links who w units s after b)) among)

member_among : (m : MemberState) (at : ℕ) (w : Delivery) (piece : List ℕ) (s after : State) (b : Book) → AreAmong b → AreAmong (note_member (Some m) at w piece s after b)
member_among m at w piece s after b among =
    let units = link_units m w.link piece s.moment s.chances.left in
    turns_among (OfMember at) w (turn_units m w.link piece s.moment s.chances.left) s after (note_messages at m w piece s b)
    (subst (λ (links : List ℕ). Among links (b.taken ++ flat_map (taken_link (at_member at w s)) units)) (sym (links_append b.messages (flat_map (message_note (at_member at w s)) units)))
    (among_append (links_in b.messages) b.taken (links_in (flat_map (message_note (at_member at w s)) units)) (flat_map (taken_link (at_member at w s)) units) among
    (units_among (at_member at w s) units)))

end_among : (end : EndId) (w : Delivery) (piece : List ℕ) (s after : State) (b : Book) → AreAmong b → AreAmong (note_at (Some end) w piece s after b)
end_among end w piece s after b among =
    book_by (λ (one : EndId) (now : Book). AreAmong now) w piece s after b (λ one. among) (λ at c is. among) (λ at m is. member_among m at w piece s after b among) (λ at c is. among) end

-- in every run
pub messages_apart : (plan : Plan) (moves : List Move) → IsPlainPlan plan → MessagesAreApart (past plan moves)
messages_apart plan moves nothing =
    let b : Book = (past plan moves).book in
    links_apart b.messages
    (differ_among (links_in b.messages) b.taken (book_holds AreAmong end_among (λ at given after book among. among) plan moves tt) (messages_once plan moves nothing))
