-- What holds of each message whose answer was taken, of what is told, and of the logons that members keep, at any time
-- of a run; and that it stays while units go into the bag and more is written down. It serves `schedules_are_heard`.
use Rattle.std.proofs.Common.{◌≡◌, ◌≢◌, ◌<◌, ℕ, zero, suc, true, false, List, [], ◌∷◌, ◌++◌, length, inl, inr, Option, Some, None, refl, sym, ap₂, subst, ◌∙◌, slice_get, arith}
use Rattle.std.specs.Prelude.{AllPairs}
use Rattle.std.specs.List.{AllByRecursion}
use Rattle.std.proofs.lemmas.List.Elements.{recursion_from_All}
use Rattle.authenticators.specs.Channels.{ChannelIdentity}
use Rattle.outside.specs.declared.action.Outcome.{Outcome}
use Rattle.rpc_units.specs.Calls.{IsHeard}
use Rattle.member_server.specs.declared.plan.MemberPlan.{MemberPlan}
use Rattle.member_server.specs.declared.state.Logon.{Logon}
use Rattle.member_server.specs.State.{State as MemberState}
use Rattle.wire_base.specs.Lists.{OneOf}
use Rattle.wire_base.proofs.ListLaws.{all_weaker, one_weaker}
use Rattle.step_notes.specs.Marking.{sent_channel}
use Rattle.step_notes.specs.Records.{Book, CallTaken, MessageTaken, OfMember, OfTrust, OutcomeTold, RequesterId, Sent}
use Rattle.step_notes.proofs.Members.KeptLogonLaws.{KeptIn, one_before}
use Rattle.world_moves.specs.declared.bag.BagUnit.{BagUnit}
use Rattle.world_moves.specs.declared.plan.Plan.{Plan}
use Rattle.world_moves.specs.declared.state.State.{State}
use Rattle.world_moves.specs.Counting.{is_in}
use Rattle.world_moves.specs.Ends.{EndStates, end_at, end_in}
use Rattle.world_moves.specs.Moving.{end_of_peer}
use Rattle.world_moves.specs.World.{World}
use Rattle.domain_world.specs.Accepting.Carried.{AsksOf, HasTrusted, IsAnswerFor, IsTakenInTurn, entry_in}
use Rattle.account_table.specs.declared.account.Trust.{Trust}
use Rattle.domain_world.specs.Accepting.ReadBack.{IsLetInInTurn, IsReadIn, IsToldInTurn}
use Rattle.domain_world.specs.Claims.{HasController}
use Rattle.domain_world.specs.Past.{Past}
use Rattle.domain_world.proofs.Messages.MessageApartLaws.{links_in}
use Rattle.domain_world.proofs.Moves.ComingLaws.{IsStill, StillHas}
use Rattle.wire_base.proofs.AllLaws.{all_join}
use Rattle.domain_world.proofs.Moves.PlainFormLaws.{plain_stays}

-- ---- messages on different links

-- no two of these are the same
abbrev pub AreApart : List ℕ → Type 0
AreApart [] = Unit {0}
AreApart (link ∷ links) = AllByRecursion (λ (other : ℕ). link ≢ other) links × AreApart links

all_front : (P : ℕ → Type 0) (links more : List ℕ) → AllByRecursion P (links ++ more) → AllByRecursion P links
all_front P [] more all = tt
all_front P (link ∷ links) more all = (all.0, all_front P links more all.1)

pub apart_front : (links more : List ℕ) → AreApart (links ++ more) → AreApart links
apart_front [] more apart = tt
apart_front (link ∷ links) more apart = (all_front (λ (other : ℕ). link ≢ other) links more apart.0, apart_front links more apart.1)

links_differ : (n : ℕ) (messages : List MessageTaken) → AllByRecursion (λ (other : MessageTaken). n ≢ other.link) messages → AllByRecursion (λ (other : ℕ). n ≢ other) (links_in messages)
links_differ n [] all = tt
links_differ n (message ∷ messages) all = (all.0, links_differ n messages all.1)

pub apart_from : (messages : List MessageTaken) → AllPairs (λ (one other : MessageTaken). one.link ≢ other.link) messages → AreApart (links_in messages)
apart_from [] pairs = tt
apart_from (message ∷ messages) pairs = (
  links_differ message.link messages (recursion_from_All (λ (other : MessageTaken). message.link ≢ other.link) messages (λ k d within. pairs zero (suc k) d (omega arith) (omega (arith, within)))),
  apart_from messages (λ i j d before within. pairs (suc i) (suc j) d (omega (arith, before)) (omega (arith, within))),
)

module _ (link : ℕ) (P : MessageTaken → Type 0) (so : (message : MessageTaken) → P message → message.link ≡ link) where
  not_there : (n : ℕ) (messages : List MessageTaken) → n ≡ link → AllByRecursion (λ (other : ℕ). n ≢ other) (links_in messages) → OneOf P messages → ⊥
  not_there n [] is all one = absurd one
  not_there n (message ∷ messages) is all one = elim one [ inl here ↦ all.0 (is ∙ sym (so message here)) | inr later ↦ not_there n messages is all.1 later ]

  none_there : (n : ℕ) (messages : List MessageTaken) → n ≡ link → AllByRecursion (λ (other : ℕ). n ≢ other) (links_in messages) →
      AllByRecursion (λ (message : MessageTaken). message.link ≡ link → P message) messages
  none_there n [] is all = tt
  none_there n (message ∷ messages) is all = ((λ here. absurd (all.0 (is ∙ sym here))), none_there n messages is all.1)

  -- what holds of one of the messages on a link holds of each
  pub one_is_all : (messages : List MessageTaken) → AreApart (links_in messages) → OneOf P messages → AllByRecursion (λ (message : MessageTaken). message.link ≡ link → P message) messages
  one_is_all [] apart one = absurd one
  one_is_all (message ∷ messages) apart one = elim one [
    | inl here ↦ ((λ is. here), none_there message.link messages (so message here) apart.0)
    | inr later ↦ ((λ is. absurd (not_there message.link messages is apart.0 later)), one_is_all messages apart.1 later)
  ]

-- ---- what holds

-- the time at which that is the state and that the book
abbrev pub world_in : State → World
world_in s = record { state = s; moves = 0; stopped = false }

abbrev pub past_at : Plan → State → Book → Past
past_at plan s b = record { plan = plan; world = world_in s; book = b }

-- where the answer of a message was taken, it is one of these, and its outcome is told
abbrev pub IsAnswered : Plan → State → Book → List CallTaken → List OutcomeTold → MessageTaken → Type 0
IsAnswered plan s b answers told message =
    (u : ℕ) → message.reply ≡ Some u → OneOf (IsAnswerFor message u) answers × OneOf (λ (one : OutcomeTold). IsToldInTurn (past_at plan s b) message u one) told

-- whoever is let in is let in by the answer of a message
abbrev pub IsKnown : Plan → State → Book → List MessageTaken → OutcomeTold → Type 0
IsKnown plan s b messages told = is_in told.outcome ≡ true → OneOf (λ (message : MessageTaken). IsLetInInTurn (past_at plan s b) told message) messages

-- the message is that of the logon of the place, and its answer wasn't taken yet
pub record IsFree (member place : ℕ) (logon : Logon) (message : MessageTaken) : Type 0 where
  pub same_member : message.member ≡ member
  pub same_place : message.place ≡ place
  pub same_logon : message.logon ≡ logon
  pub link : message.link ≡ logon.link
  pub none : message.reply ≡ None

abbrev pub HasFree : ℕ → List MessageTaken → ℕ → Logon → Type 0
HasFree member messages place logon = OneOf (IsFree member place logon) messages

abbrev pub Any : ℕ → Type 0
Any number = Unit {0}

-- each logon that members keep is that of a message whose answer wasn't taken yet
abbrev pub KeepFree : List MemberState → List MessageTaken → Type 0
KeepFree members messages = (k : ℕ) (m : MemberState) → slice_get members k ≡ Some m → KeptIn (HasFree k messages) Any m.running

-- Each answer was taken in the turn of its call, whoever asked. The book `b` has what is written down of units of the
-- bag.
pub record TurnFacts (plan : Plan) (s : State) (b : Book) (messages : List MessageTaken) (answers : List CallTaken) (told : List OutcomeTold) : Type 0 where
  pub taken : AllByRecursion (IsTakenInTurn (past_at plan s b)) answers
  pub answered : AllByRecursion (IsAnswered plan s b answers told) messages
  pub let_in : AllByRecursion (IsKnown plan s b messages) told
  pub free : KeepFree s.ends.members messages

-- ---- what is known of messages and answers stays known

pub record SameEnds (one other : EndStates) : Type 0 where
  pub controllers : length one.controllers ≡ length other.controllers
  pub members : length one.members ≡ length other.members
  pub clients : length one.clients ≡ length other.clients
  pub stations : length one.stations ≡ length other.stations

-- units of the bag and what is written down of them stay
pub record GrowsTo (s t : State) (b d : Book) : Type 0 where
  pub bag : StillHas s.bag t.bag
  pub sent : (k : ℕ) (one : Sent) → slice_get b.sent k ≡ Some one → slice_get d.sent k ≡ Some one
  pub ends : SameEnds s.ends t.ends

-- A unit that goes back and was made for a channel was made by a controller that is there.
abbrev pub MarksAreKnown : State → Book → Type 0
MarksAreKnown s b =
    (n : ℕ) (unit : BagUnit) (one : Sent) (named : ChannelIdentity) → slice_get s.bag n ≡ Some unit → unit.back ≡ true → slice_get b.sent n ≡ Some one → sent_channel (Some one) ≡ Some named →
    named.controller < length s.ends.controllers

-- marks that are known later were known before
pub marks_before : (s t : State) (b d : Book) → GrowsTo s t b d → MarksAreKnown t d → MarksAreKnown s b
marks_before s t b d grows known n unit one named there back noted made =
    let now : IsStill unit t.bag n = grows.bag n unit there in
    subst (λ (count : ℕ). named.controller < count) (sym grows.ends.controllers) (known n now.now one named now.there (now.back ∙ back) (grows.sent n one noted) made)

end_same : (one other : EndStates) (number : ℕ) → SameEnds one other → end_at number one ≡ end_at number other
end_same one other number same =
    ap₂ (λ (c m : ℕ). end_in number c m (length one.clients) (length one.stations)) same.controllers same.members
    ∙ ap₂ (λ (n s : ℕ). end_in number (length other.controllers) (length other.members) n s) same.clients same.stations

peer_same : (one other : EndStates) (peer : List ℕ) → SameEnds one other → end_of_peer peer one ≡ end_of_peer peer other
peer_same one other [] same = refl
peer_same one other (number ∷ []) same = end_same one other number same
peer_same one other (number ∷ more ∷ peer) same = refl

pub controller_stays : (found : Option MemberPlan) (one other : EndStates) (controller : ℕ) → SameEnds one other → HasController found one controller → HasController found other controller
controller_stays None one other controller same has = has
controller_stays (Some plan) one other controller same has = sym (peer_same one other plan.controller same) ∙ has

trusted_stays : (found : Option Trust) (one other : EndStates) (controller : ℕ) → SameEnds one other → HasTrusted found one controller → HasTrusted found other controller
trusted_stays None one other controller same has = has
trusted_stays (Some trust) one other controller same has = sym (peer_same one other trust.address same) ∙ has

-- a plan, a world and a book as a past
abbrev pub past_of : Plan → World → Book → Past
past_of plan world b = record { plan = plan; world = world; book = b }

module _ (plan : Plan) (v w : World) (b d : Book) (grows : GrowsTo v.state w.state b d) where
  asks_stay : (who : RequesterId) (controller : ℕ) → AsksOf who (past_of plan v b) controller → AsksOf who (past_of plan w d) controller
  asks_stay (OfMember member) controller asks = controller_stays (slice_get plan.members member) v.state.ends w.state.ends controller grows.ends asks
  asks_stay (OfTrust asking trust) controller asks = trusted_stays (entry_in trust (slice_get plan.tables asking)) v.state.ends w.state.ends controller grows.ends asks

  pub taken_stays : (taken : CallTaken) → IsTakenInTurn (past_of plan v b) taken → IsTakenInTurn (past_of plan w d) taken
  taken_stays taken is =
      let now : IsStill is.carrier w.state.bag taken.reply = grows.bag taken.reply is.carrier is.there in
      record {
        channel = is.channel;
        number = is.number;
        timestamp = is.timestamp;
        out = is.out;
        asked = grows.sent taken.call is.out is.asked;
        mark = is.mark;
        controller = asks_stay taken.requester is.channel.controller is.controller;
        carrier = now.now;
        there = now.there;
        back = now.back ∙ is.back;
        whole = record {
          frames = is.whole.frames;
          unit = is.whole.unit;
          heard = subst (λ (bytes : List ℕ). IsHeard bytes is.whole.frames is.whole.unit) (sym (plain_stays b.sent d.sent taken.reply is.carrier now.now now.bytes)) is.whole.heard;
        };
        has = is.has;
        answer = is.answer;
        sent = is.sent;
        noted = grows.sent taken.reply is.sent is.noted;
        named = is.named;
        made = is.made;
        same = is.same;
      }

  read_stays : (message : MessageTaken) (u : ℕ) (result : Outcome) → IsReadIn (past_of plan v b) message u result → IsReadIn (past_of plan w d) message u result
  read_stays message u result is =
      let now : IsStill is.carrier w.state.bag u = grows.bag u is.carrier is.there in
      record {
        channel = is.channel;
        stood = is.stood;
        key = is.key;
        carrier = now.now;
        there = now.there;
        whole = record {
          frames = is.whole.frames;
          unit = is.whole.unit;
          heard = subst (λ (bytes : List ℕ). IsHeard bytes is.whole.frames is.whole.unit) (sym (plain_stays b.sent d.sent u is.carrier now.now now.bytes)) is.whole.heard;
        };
        read = is.read;
        reads = is.reads;
        later = is.later;
        verdict = is.verdict;
        judged = is.judged;
        is = is.is;
        sent = is.sent;
        noted = grows.sent u is.sent is.noted;
        named = is.named;
        made = is.made;
        same = is.same;
      }

  pub told_stays : (message : MessageTaken) (u : ℕ) (told : OutcomeTold) → IsToldInTurn (past_of plan v b) message u told → IsToldInTurn (past_of plan w d) message u told
  told_stays message u told is = record { link = is.link; member = is.member; reading = read_stays message u told.outcome is.reading }

  pub let_in_stays : (told : OutcomeTold) (message : MessageTaken) → IsLetInInTurn (past_of plan v b) told message → IsLetInInTurn (past_of plan w d) told message
  let_in_stays told message is = record { unit = is.unit; reply = is.reply; turn = told_stays message is.unit told is.turn }

module _ (plan : Plan) (s t : State) (b d : Book) (grows : GrowsTo s t b d) where
  abbrev before : World
  before = world_in s

  abbrev after : World
  after = world_in t

  pub answered_stays : (answers : List CallTaken) (told more : List OutcomeTold) (message : MessageTaken) → IsAnswered plan s b answers told message → IsAnswered plan t d answers (told ++ more) message
  answered_stays answers told more message answered = λ u reply.
      let its = answered u reply in (
        its.0,
        one_before (λ (one : OutcomeTold). IsToldInTurn (past_at plan t d) message u one) told more
            (one_weaker (λ (one : OutcomeTold). IsToldInTurn (past_at plan s b) message u one) (λ (one : OutcomeTold). IsToldInTurn (past_at plan t d) message u one) told
            (told_stays plan before after b d grows message u) its.1),
      )

  pub known_stays : (messages later : List MessageTaken) (told : OutcomeTold) →
      (((P Q : MessageTaken → Type 0) → ((message : MessageTaken) → P message → Q message) → ((message : MessageTaken) → P message → (u : ℕ) × (message.reply ≡ Some u)) → OneOf P messages → OneOf Q later)) →
      IsKnown plan s b messages told → IsKnown plan t d later told
  known_stays messages later told onward known = λ is.
      onward (λ (message : MessageTaken). IsLetInInTurn (past_at plan s b) told message) (λ (message : MessageTaken). IsLetInInTurn (past_at plan t d) told message)
      (let_in_stays plan before after b d grows told) (λ message let_in. (let_in.unit, let_in.reply)) (known is)

  pub all_stay : (answers : List CallTaken) → AllByRecursion (IsTakenInTurn (past_at plan s b)) answers → AllByRecursion (IsTakenInTurn (past_at plan t d)) answers
  all_stay answers all = all_weaker (IsTakenInTurn (past_at plan s b)) (IsTakenInTurn (past_at plan t d)) answers (taken_stays plan before after b d grows) all

  -- where no more is written down of messages
  pub facts_stay : (messages : List MessageTaken) (answers : List CallTaken) (told more : List OutcomeTold) → AllByRecursion (IsKnown plan t d messages) more → KeepFree t.ends.members messages →
      TurnFacts plan s b messages answers told → TurnFacts plan t d messages answers (told ++ more)
  facts_stay messages answers told more known free facts = record {
    taken = all_stay answers facts.taken;
    answered = all_weaker (IsAnswered plan s b answers told) (IsAnswered plan t d answers (told ++ more)) messages (answered_stays answers told more) facts.answered;
    let_in = all_join (IsKnown plan t d messages) told more
        (all_weaker (IsKnown plan s b messages) (IsKnown plan t d messages) told
        (λ one is. known_stays messages messages one (λ P Q so reply any. one_weaker P Q messages so any) is) facts.let_in) known;
    free = free;
  }

-- more answers were taken
pub answers_more : (plan : Plan) (t : State) (d : Book) (messages : List MessageTaken) (answers new : List CallTaken) (told : List OutcomeTold) → AllByRecursion (IsTakenInTurn (past_at plan t d)) new →
    TurnFacts plan t d messages answers told → TurnFacts plan t d messages (answers ++ new) told
answers_more plan t d messages answers new told in_turn facts = record {
  taken = all_join (IsTakenInTurn (past_at plan t d)) answers new facts.taken in_turn;
  answered = all_weaker (IsAnswered plan t d answers told) (IsAnswered plan t d (answers ++ new) told) messages
      (λ message answered u reply. (one_before (IsAnswerFor message u) answers new (answered u reply).0, (answered u reply).1)) facts.answered;
  let_in = facts.let_in;
  free = facts.free;
}
