-- What the book of a run tells of openings that were accepted, where no credential passed on a unit made for another
-- channel; it was so of each earlier book. With it what a controller accepts keeps the order of what was accepted.
use Rattle.std.proofs.Common.{◌≡◌, ◌≢◌, ℕ, zero, suc, inl, inr, ◌<◌, ◌≤◌, ◌+◌, Bool, true, false, List, [], ◌∷◌, ◌++◌, length, map, flat_map, drop, Option, Some, None, slice_get, refl, sym, ap, subst, ◌∙◌, arith}
use Rattle.std.specs.List.{AllByRecursion}
use Rattle.std.proofs.lemmas.List.{append-nil}
use Rattle.outside.specs.declared.event.Event.TheVariants as event
use Rattle.authenticators.specs.Channels.{ChannelIdentity, SameChannel}
use Rattle.channel_events.specs.AcceptedOrder.{Accepted, IsMade}
use Rattle.wire_base.specs.Lists.{OneOf}
use Rattle.channel_events.specs.Marks.{Calling, Mark, Opening, ReplyTo}
use Rattle.channel_events.specs.OrderSteps.{Asker, InOrder}
use Rattle.channel_events.specs.Requests.{IsNoRequest, Requests}
use Rattle.channel_events.proofs.AcceptedOrderLaws.{stay_in_order}
use Rattle.wire_base.proofs.ListLaws.{all_weaker, got_append, got_nothing}
use Rattle.domain_controller.specs.State.{State as ControllerState}
use Rattle.domain_controller.specs.Step.{step_of as controller_step_of}
use Rattle.logon_client.specs.State.{State as ClientState}
use Rattle.member_server.specs.State.{State as MemberState}
use Rattle.step_notes.specs.ControllerNotes.{Answered, units_of_controller}
use Rattle.step_notes.specs.Marking.{answered_marks}
use Rattle.step_notes.specs.MemberNotes.{link_units, message_note, turn_units}
use Rattle.step_notes.specs.Records.{Book, ChannelAccepted, InUnit, Judging, OfMember, Outside, Sent, Source, unit_in}
use Rattle.world_moves.specs.declared.bag.BagUnit.{BagUnit}
use Rattle.world_moves.specs.declared.state.State.{State}
use Rattle.world_moves.specs.Acting.{Given}
use Rattle.world_moves.specs.Ends.{EndStep}
use Rattle.domain_world.specs.Accepting.Answered.{IsItsWay}
use Rattle.domain_world.specs.Claims.AcceptedOpenings.{accepted_in, is_in_unit}
use Rattle.domain_world.specs.Claims.Openings.{IsUnused}
use Rattle.domain_world.specs.Past.{Delivery, accepted_of, any_clash, at_controller, at_member, first_of, is_sent_on, judged_of, later_of, marks_of, note_client, note_given, note_member, note_messages, number_sent, numbers_on, onto, other_marks, replied_with, sent_at, with_reply}
use Rattle.domain_world.proofs.Frames.AloneNoteLaws.{alone_answers as answers_of, note_controller_alone as note_controller}
use Rattle.domain_world.proofs.Acceptance.Turns.TurnNotedLaws.{or_false}
use Rattle.domain_world.proofs.Acceptance.Turns.TurnSideLaws.{turns_clash}
use Rattle.domain_world.proofs.Apart.OrderStayLaws.{order_controllers, order_sent}
use Rattle.domain_world.proofs.Messages.MessageApartLaws.{links_append, links_in, turns_links}
use Rattle.domain_world.proofs.Moves.ComingLaws.{CameFrom, IsPieceOf, place_in}
use Rattle.domain_world.proofs.Frames.EndNoteLaws.{accepted_so, judged_so}
use Rattle.domain_world.proofs.Moves.MarkPlaceLaws.{got_beside}
use Rattle.domain_world.proofs.Frames.TurnFrameLaws.{asked_marks, turns_sent}
use Rattle.domain_world.proofs.Judgements.Openings.OpeningMarkLaws.{AcceptsSo, IfAccepted, accepts_so}
use Rattle.domain_world.proofs.Calls.CallComesLaws.{no_requests_sent, reply_no_request}
use Rattle.domain_world.proofs.Calls.CallHoldsLaws.{mark_there, marks_append, marks_in, requests_at}
use Rattle.domain_world.proofs.Calls.MarkWayLaws.{answers_way}
use Rattle.domain_world.proofs.Calls.WholeNotedLaws.{no_requests_marked}
use Rattle.wire_base.proofs.AllLaws.{all_zip}
use Rattle.world_moves.specs.Alone.{alone_controller_step as controller_step}

-- ---- what was accepted

-- who asks, beside what was accepted
abbrev pub asked : Asker → List ChannelAccepted → Asker
asked base accepted = record base { accepted = accepted_in accepted }

-- no two have one challenge of a server
abbrev pub AreOnce : List ChannelAccepted → Type 0
AreOnce [] = Unit {0}
AreOnce (one ∷ older) = IsUnused one.channel.server older × AreOnce older

-- the mark is that of an opening of the channel
pub record IsOpeningOf (mark : Mark) (c : ChannelIdentity) : Type 0 where
  pub named : ChannelIdentity
  pub number : ℕ
  pub is : mark ≡ Opening named number
  pub same : SameChannel named c

-- where the opening came in a unit that has a mark, it is that of an opening of its channel
abbrev pub OpensIn : List Mark → ChannelAccepted → Type 0
OpensIn marks one = (n : ℕ) (mark : Mark) → one.source ≡ InUnit n → slice_get marks n ≡ Some mark → IsOpeningOf mark one.channel

-- the mark is that of a call on the channel
pub record IsCallingOf (mark : Mark) (c : ChannelIdentity) : Type 0 where
  pub named : ChannelIdentity
  pub number : ℕ
  pub timestamp : ℕ
  pub is : mark ≡ Calling named number timestamp
  pub same : SameChannel named c

-- the call came in that unit, and its reply is in this one
abbrev pub IsAnsweredIn : ℕ → ℕ → Judging → Type 0
IsAnsweredIn request n j = (j.source ≡ InUnit request) × (j.reply ≡ Some n)

pub record Told (b : Book) : Type 0 where
  pub clash : b.clash ≡ false
  pub once : AreOnce b.accepted
  pub openings : AllByRecursion (OpensIn (marks_in b.sent)) b.accepted
  -- the request of a reply to a call, if it has a mark, was made as a call on its channel
  pub replies : (n number request : ℕ) (c : ChannelIdentity) (mark : Mark) → slice_get (marks_in b.sent) n ≡ Some (ReplyTo c number request) →
      slice_get (marks_in b.sent) request ≡ Some mark → IsCallingOf mark c
  -- the call of a reply was judged
  pub judged : (n number request : ℕ) (c : ChannelIdentity) → slice_get (marks_in b.sent) n ≡ Some (ReplyTo c number request) → OneOf (IsAnsweredIn request n) b.judged

-- ---- earlier books

-- a reply is in a unit of that number, or of a later one
abbrev pub RepliesFrom : ℕ → Judging → Type 0
RepliesFrom count j = (n : ℕ) → j.reply ≡ Some n → count ≤ n

-- the marks stay, and more is accepted
pub record IsEarlier (b later : Book) : Type 0 where
  pub clash : later.clash ≡ false → b.clash ≡ false
  pub items : List ChannelAccepted
  pub accepted : later.accepted ≡ onto items b.accepted
  -- replies to calls that were judged later are in later units
  pub judgings : List Judging
  pub judged : later.judged ≡ onto judgings b.judged
  pub fresh : AllByRecursion (RepliesFrom (length b.sent)) judgings
  pub marks : (n : ℕ) (mark : Mark) → slice_get (marks_in b.sent) n ≡ Some mark → slice_get (marks_in later.sent) n ≡ Some mark
  -- what is written down later stands behind
  pub more : List Sent
  pub sent : later.sent ≡ b.sent ++ more
  pub links : List ℕ
  pub messages : links_in later.messages ≡ links_in b.messages ++ links

pub once_older : (items older : List ChannelAccepted) → AreOnce (onto items older) → AreOnce older
once_older [] older once = once
once_older (one ∷ items) older once = (once_older items (one ∷ older) once).1

pub all_older : (P : ChannelAccepted → Type 0) (items older : List ChannelAccepted) → AllByRecursion P (onto items older) → AllByRecursion P older
all_older P [] older all = all
all_older P (one ∷ items) older all = (all_older P items (one ∷ older) all).1

pub all_items : (P : ChannelAccepted → Type 0) (items older : List ChannelAccepted) → AllByRecursion P (onto items older) → AllByRecursion P items
all_items P [] older all = tt
all_items P (one ∷ items) older all = ((all_older P items (one ∷ older) all).0, all_items P items (one ∷ older) all)

pub within : (sent : List Sent) (n : ℕ) (mark : Mark) → slice_get (marks_in sent) n ≡ Some mark → n < length sent
within [] n mark there = absurd (got_nothing n mark there)
within (one ∷ sent) zero mark there = omega arith
within (one ∷ sent) (suc n) mark there = omega (arith, within sent n mark there)

-- one whose reply is in an earlier unit was judged before
judged_older : (items older : List Judging) (count request n : ℕ) → AllByRecursion (RepliesFrom count) items → n < count → OneOf (IsAnsweredIn request n) (onto items older) →
    OneOf (IsAnsweredIn request n) older
judged_older [] older count request n fresh below one = one
judged_older (j ∷ items) older count request n fresh below one = elim (judged_older items (j ∷ older) count request n fresh.1 below one) [
  | inl here ↦ absurd (omega (arith, below, fresh.0 n here.1))
  | inr rest ↦ rest
]

pub told_before : (b later : Book) → IsEarlier b later → Told later → Told b
told_before b later is told = record {
  clash = is.clash told.clash;
  once = once_older is.items b.accepted (subst AreOnce is.accepted told.once);
  openings = all_weaker (OpensIn (marks_in later.sent)) (OpensIn (marks_in b.sent)) b.accepted (λ one opens n mark came there. opens n mark came (is.marks n mark there))
      (all_older (OpensIn (marks_in later.sent)) is.items b.accepted (subst (λ (all : List ChannelAccepted). AllByRecursion (OpensIn (marks_in later.sent)) all) is.accepted told.openings));
  replies = λ n number request c mark there also. told.replies n number request c mark (is.marks n (ReplyTo c number request) there) (is.marks request mark also);
  judged = λ n number request c there.
      judged_older is.judgings b.judged (length b.sent) request n is.fresh (within b.sent n (ReplyTo c number request) there)
      (subst (λ (all : List Judging). OneOf (IsAnsweredIn request n) all) is.judged (told.judged n number request c (is.marks n (ReplyTo c number request) there)));
}

-- behind the units that were written down come others
sent_before : (sent more : List Sent) (n : ℕ) (mark : Mark) → slice_get (marks_in sent) n ≡ Some mark → slice_get (marks_in (sent ++ more)) n ≡ Some mark
sent_before sent more n mark there =
    subst (λ (marks : List Mark). slice_get marks n ≡ Some mark) (sym (marks_append sent more)) (got_append (marks_in sent) (marks_in more) n mark there)

-- nothing that matters is written down
pub same_earlier : (b : Book) → IsEarlier b b
same_earlier b = record {
  clash = λ none. none;
  items = [];
  accepted = refl;
  judgings = [];
  judged = refl;
  fresh = tt;
  marks = λ k mark there. there;
  more = [];
  sent = sym (append-nil b.sent);
  links = [];
  messages = sym (append-nil (links_in b.messages));
}

pub client_earlier : (c : ClientState) (at : ℕ) (w : Delivery) (piece : List ℕ) (s : State) (b : Book) → IsEarlier b (note_client (Some c) at w piece s b)
client_earlier c at w piece s b = record {
  clash = λ none. none;
  items = [];
  accepted = refl;
  judgings = [];
  judged = refl;
  fresh = tt;
  marks = λ k mark there. there;
  more = [];
  sent = sym (append-nil b.sent);
  links = [];
  messages = sym (append-nil (links_in b.messages));
}

pub given_earlier : (at : ℕ) (given : Given) (after : State) (b : Book) → IsEarlier b (note_given at given after b)
given_earlier at given after b =
    record { clash = λ none. none; items = []; accepted = refl; judgings = []; judged = refl; fresh = tt; marks = sent_before b.sent _; more = map (sent_at at) (other_marks b.forwards after (length b.sent)); sent = refl; links = []; messages = sym (append-nil (links_in b.messages)) }

-- ---- replies are in new units

-- each number is at least that
abbrev AreFrom : ℕ → List ℕ → Type 0
AreFrom count numbers = (i n : ℕ) → slice_get numbers i ≡ Some n → count ≤ n

first_from_count : (numbers : List ℕ) (count : ℕ) → AreFrom count numbers → (n : ℕ) → first_of numbers ≡ Some n → count ≤ n
first_from_count [] count from n is = absurd (let never = is in cc)
first_from_count (number ∷ numbers) count from n is = from 0 n is

sent_from_count : (sends : Bool) (numbers : List ℕ) (count : ℕ) → AreFrom count numbers → (n : ℕ) → number_sent sends numbers ≡ Some n → count ≤ n
sent_from_count false numbers count from n is = absurd (let never = is in cc)
sent_from_count true numbers count from n is = first_from_count numbers count from n is

later_from : (sends : Bool) (numbers : List ℕ) (count : ℕ) → AreFrom count numbers → AreFrom count (later_of sends numbers)
later_from false numbers count from = from
later_from true [] count from = from
later_from true (number ∷ numbers) count from = λ i n there. from (suc i) n there

with_from : (found : Option Judging) (number : Option ℕ) (later : List Judging) (count : ℕ) → ((n : ℕ) → number ≡ Some n → count ≤ n) → AllByRecursion (RepliesFrom count) later →
    AllByRecursion (RepliesFrom count) (with_reply found number ++ later)
with_from None number later count from all = all
with_from (Some j) number later count from all = (from, all)

judged_from : (answers : List Answered) (numbers : List ℕ) (count : ℕ) → AreFrom count numbers → AllByRecursion (RepliesFrom count) (judged_of answers numbers)
judged_from [] numbers count from = tt
judged_from (one ∷ answers) numbers count from =
    with_from one.judging (number_sent one.sends numbers) (judged_of answers (later_of one.sends numbers)) count (sent_from_count one.sends numbers count from)
    (judged_from answers (later_of one.sends numbers) count (later_from one.sends numbers count from))

numbers_from : (link : ℕ) (back : Bool) (before after : List BagUnit) → AreFrom (length before) (numbers_on link back before after)
numbers_from link back before after i n there =
    let place = place_in (is_sent_on link back) (drop (length before) after) (length before) i n there in omega (arith, place.is)

pub controller_earlier : (c : ControllerState) (at : ℕ) (w : Delivery) (piece : List ℕ) (s after : State) (b : Book) → length b.sent ≡ length s.bag →
    IsEarlier b (note_controller (Some c) at w piece s after b)
controller_earlier c at w piece s after b even = record {
  clash = λ none. (or_false b.clash (any_clash (answers_of at c w piece s) (unit_in w.source) b.sent) none).0;
  items = accepted_of (answers_of at c w piece s) (numbers_on w.link true s.bag after.bag);
  accepted = refl;
  judgings = judged_of (answers_of at c w piece s) (numbers_on w.link true s.bag after.bag);
  judged = refl;
  fresh = subst (λ (count : ℕ). AllByRecursion (RepliesFrom count) (judged_of (answers_of at c w piece s) (numbers_on w.link true s.bag after.bag))) (sym even)
      (judged_from (answers_of at c w piece s) (numbers_on w.link true s.bag after.bag) (length s.bag) (numbers_from w.link true s.bag after.bag));
  marks = sent_before b.sent _;
  more = map (sent_at w.at) (marks_of w.link true (drop (length s.bag) after.bag) (answered_marks (answers_of at c w piece s)));
  sent = refl;
  links = [];
  messages = sym (append-nil (links_in b.messages));
}

pub member_earlier : (m : MemberState) (at : ℕ) (w : Delivery) (piece : List ℕ) (s after : State) (b : Book) → IsEarlier b (note_member (Some m) at w piece s after b)
member_earlier m at w piece s after b = record {
  clash = turns_clash (OfMember at) w (turn_units m w.link piece s.moment s.chances.left) s after (note_messages at m w piece s b);
  items = [];
  accepted = accepted_so.members m at w piece s after b;
  judgings = [];
  judged = judged_so.members m at w piece s after b;
  fresh = tt;
  marks = λ n mark there.
      sent_before _ _ n mark
      (subst (λ (old : List Sent). slice_get (marks_in old) n ≡ Some mark)
      (sym (turns_sent (OfMember at) w (turn_units m w.link piece s.moment s.chances.left) s after (note_messages at m w piece s b))) there);
  more = map (sent_at w.at) (marks_of w.link false (drop (length s.bag) after.bag) (asked_marks (OfMember at) s (turn_units m w.link piece s.moment s.chances.left)));
  sent = ap (λ (old : List Sent). old ++ map (sent_at w.at) (marks_of w.link false (drop (length s.bag) after.bag) (asked_marks (OfMember at) s (turn_units m w.link piece s.moment s.chances.left))))
      (turns_sent (OfMember at) w (turn_units m w.link piece s.moment s.chances.left) s after (note_messages at m w piece s b));
  links = links_in (flat_map (message_note (at_member at w s)) (link_units m w.link piece s.moment s.chances.left));
  messages = turns_links (OfMember at) w (turn_units m w.link piece s.moment s.chances.left) s after (note_messages at m w piece s b)
      ∙ links_append b.messages (flat_map (message_note (at_member at w s)) (link_units m w.link piece s.moment s.chances.left));
}

-- ---- a controller accepts openings

pub unused_in : (server : List ℕ) (accepted : List ChannelAccepted) → IsUnused server accepted → AllByRecursion (λ (other : Accepted). other.channel.server ≢ server) (accepted_in accepted)
unused_in server [] unused = tt
unused_in server (one ∷ older) unused = (unused.0, unused_in server older unused.1)

-- one after the other
order_onto : (r : Requests ℕ) (base : Asker) (items older : List ChannelAccepted) → AreOnce (onto items older) →
    AllByRecursion (λ (one : ChannelAccepted). is_in_unit one.source ≡ true → IsMade r.marks one.channel) items → InOrder r (asked base older) → InOrder r (asked base (onto items older))
order_onto r base [] older once made order = order
order_onto r base (one ∷ items) older once made order =
    order_onto r base items (one ∷ older) once made.1
    ((stay_in_order ℕ).accepts r base.who base.controller base.computer (accepted_in older) (record { channel = one.channel; in_unit = is_in_unit one.source })
    (unused_in one.channel.server older (once_older items (one ∷ older) once).0) made.0 order)

-- each came from where the bytes did
first_from : (moves : ℕ) (source : Source) (sends : Bool) (mark : Mark) (accepted : Option ChannelAccepted) (number : Option ℕ) (later : List ChannelAccepted) →
    IfAccepted moves source sends mark accepted → AllByRecursion (λ (one : ChannelAccepted). one.source ≡ source) later →
    AllByRecursion (λ (one : ChannelAccepted). one.source ≡ source) (replied_with accepted number ++ later)
first_from moves source sends mark None number later so all = all
first_from moves source sends mark (Some one) number later so all = (so.1, all)

pub all_from : (moves : ℕ) (source : Source) (answers : List Answered) (numbers : List ℕ) → AllByRecursion (AcceptsSo moves source) answers →
    AllByRecursion (λ (one : ChannelAccepted). one.source ≡ source) (accepted_of answers numbers)
all_from moves source [] numbers so = tt
all_from moves source (one ∷ answers) numbers so =
    first_from moves source one.sends one.mark one.accepted (first_of numbers) (accepted_of answers (later_of one.sends numbers)) so.0
    (all_from moves source answers (later_of one.sends numbers) so.1)

pub item_made : (marks : List Mark) (one : ChannelAccepted) (source : Source) → one.source ≡ source → is_in_unit source ≡ true →
    ((n : ℕ) → one.source ≡ InUnit n → (mark : Mark) × (slice_get marks n ≡ Some mark)) → OpensIn marks one → IsMade marks one.channel
item_made marks one Outside is came there opens = absurd (let never = came in cc)
item_made marks one (InUnit n) is came there opens =
    let at = there n is in
    let opened : IsOpeningOf at.0 one.channel = opens n at.0 is at.1 in
    record { unit = n; named = opened.named; number = opened.number; there = at.1 ∙ ap (λ (m : Mark). Some m) opened.is; same = opened.same }

module _ (base : Asker) (n : ℕ) (c : ControllerState) (at : ℕ) (w : Delivery) (piece : List ℕ) (s after : State) (b : Book) where
  abbrev now : Book
  now = note_controller (Some c) at w piece s after b

  abbrev step : EndStep
  step = controller_step (Some c) at (event.Bytes w.link piece) s.moment s.ends s.chances

  abbrev answers : List Answered
  answers = answers_of at c w piece s

  abbrev numbers : List ℕ
  numbers = numbers_on w.link true s.bag after.bag

  -- the unit has its mark
  pub its_mark : CameFrom w.source s w piece → length b.sent ≡ length s.bag → (k : ℕ) → w.source ≡ InUnit k → (mark : Mark) × (slice_get (marks_in now.sent) k ≡ Some mark)
  its_mark came even k is =
      let piece_of : IsPieceOf s k w piece = subst (λ (from : Source). CameFrom from s w piece) is came in
      let sent = got_beside s.bag b.sent k piece_of.unit (sym even) piece_of.there in
      (sent.0.mark, sent_before b.sent _ k sent.0.mark (mark_there b.sent k sent.0 sent.1))

  pub items_made : CameFrom w.source s w piece → length b.sent ≡ length s.bag → Told now →
      AllByRecursion (λ (one : ChannelAccepted). is_in_unit one.source ≡ true → IsMade (marks_in now.sent) one.channel) (accepted_of answers numbers)
  items_made came even told =
      all_zip (λ (one : ChannelAccepted). one.source ≡ w.source) (OpensIn (marks_in now.sent))
      (λ (one : ChannelAccepted). is_in_unit one.source ≡ true → IsMade (marks_in now.sent) one.channel) (accepted_of answers numbers)
      (λ one is opens in_unit. item_made (marks_in now.sent) one one.source refl in_unit (λ k from. its_mark came even k (sym is ∙ from)) opens)
      (all_from w.at w.source answers numbers (accepts_so (at_controller at c w s) w.link (units_of_controller c w.link piece s.moment s.chances.left)))
      (all_items (OpensIn (marks_in now.sent)) (accepted_of answers numbers) b.accepted told.openings)

  -- what it answers are no requests, and what it accepts was made
  pub controller_order : CameFrom w.source s w piece → length b.sent ≡ length s.bag → Told now → InOrder (requests_at n s.member_plans s.ends s.chances.drawn b.sent) (asked base b.accepted) →
      InOrder (requests_at (n + 1) s.member_plans step.ends step.chances.drawn now.sent) (asked base now.accepted)
  controller_order came even told order =
      let new : List BagUnit = drop (length s.bag) after.bag in
      let marks : List Mark = answered_marks answers in
      let none : AllByRecursion IsNoRequest marks =
      all_weaker (λ (mark : Mark). IsItsWay true mark) IsNoRequest marks reply_no_request
      (answers_way w.link (at_controller at c w s) (units_of_controller c w.link piece s.moment s.chances.left)) in
      order_onto (requests_at (n + 1) s.member_plans step.ends step.chances.drawn now.sent) base (accepted_of answers numbers) b.accepted told.once (items_made came even told)
      (order_sent (n + 1) s.member_plans step.ends step.chances.drawn b.sent (map (sent_at w.at) (marks_of w.link true new marks)) (asked base b.accepted)
      (no_requests_sent w.at (marks_of w.link true new marks) (no_requests_marked w.link true new marks none))
      (order_controllers n (n + 1) s.member_plans s.ends at (controller_step_of c (event.Bytes w.link piece) s.moment s.chances.left).state s.chances.drawn step.chances.drawn b.sent
      (asked base b.accepted) order))
