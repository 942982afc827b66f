-- What is claimed of a run as it is where nobody can be asked holds of the run itself: the claims don't look at what
-- controllers keep of those that could be asked. It serves `claims_hold_of_runs`.
use Rattle.std.proofs.Common.{◌≡◌, ◌≢◌, ◌⊎◌, ℕ, true, List, map, option_map, Option, Some, None, inl, inr, slice_get, refl, sym, ap, subst, ◌∙◌}
use Rattle.std.specs.List.{AllByRecursion}
use Rattle.authenticators.specs.Channels.{ChannelIdentity}
use Rattle.authenticators.specs.SecureChannels.{SecureChannelState, channel_of}
use Rattle.channel_client.specs.declared.state.Pending.{Pending}
use Rattle.wire_base.specs.Lists.{OneOf}
use Rattle.wire_base.proofs.ListLaws.{all_weaker, one_weaker}
use Rattle.domain_controller.specs.State.{State as ControllerState}
use Rattle.member_server.specs.declared.plan.MemberPlan.{MemberPlan}
use Rattle.step_notes.specs.Records.{ChallengeSent, Judging, MessageTaken, OfMember, OfTrust, OutcomeTold, RequesterId}
use Rattle.world_moves.specs.declared.state.State.{State}
use Rattle.world_moves.specs.Counting.{is_in}
use Rattle.world_moves.specs.Ends.{EndStates}
use Rattle.world_moves.specs.Unforwarded.{alone_plan, erased, erased_controller, erased_ends, erased_world}
use Rattle.domain_world.specs.Accepting.Sequences.{AnswersCall, AreSoFar, CallsOfTurns, IsMadeOn, RepliesAnswerCalls, TurnsAreCalled}
use Rattle.domain_world.specs.Claims.{AcceptsAllGranted, AcceptsOnlyGranted, HasController, IsAccepted, IsGrantedBy, IsItsControllersAnswer, IsLetInShortly, IsToldIn, IsUnusedChallenge, ShortResponsesLetInOnce}
use Rattle.domain_world.specs.Claims.OpeningReplies.{AnswersOpening, RepliesAreToOpenings}
use Rattle.domain_world.specs.Claims.SharedSequences.{IsBeforeTurn, ChannelIsKept, SequenceIsOwn, SequenceIsShared, SequencesAreShared, ChannelStands, timestamps_on}
use Rattle.channel_client.specs.State.{Requester}
use Rattle.channel_client.specs.declared.state.Standing.TheVariants as standing
use Rattle.domain_world.specs.Past.{Past, requester_at}
use Rattle.domain_world.proofs.Moves.FreshTrustLaws.{IsUnused}
use Rattle.domain_world.proofs.Unforwarded.ErasedBookLaws.{asked_same}
use Rattle.domain_world.proofs.Unforwarded.ErasedLaws.{get_mapped, peer_same}

-- the run as it is where nobody can be asked
abbrev pub seen : Past → Past
seen p = record { plan = alone_plan p.plan; world = erased_world p.world; book = p.book }

-- the controller of that place, as it is seen
there : (controllers : List ControllerState) (at : ℕ) (c : ControllerState) → slice_get controllers at ≡ Some c → slice_get (map erased_controller controllers) at ≡ Some (erased_controller c)
there controllers at c is = get_mapped erased_controller controllers at ∙ ap (λ (found : Option ControllerState). option_map erased_controller found) is

-- ---- what controllers judge, grant and keep

-- ---- replies

pub opened_by_so : (p : Past) → RepliesAreToOpenings (seen p) → RepliesAreToOpenings p
opened_by_so p x = λ n one channel number request is mark.
    let a : AnswersOpening (seen p) channel number request n one.at = x n one channel number request is mark in
    record { sent = a.sent; there = a.there; named = a.named; mark = a.mark; same = a.same; accepted = a.accepted }

pub answered_so : (p : Past) → RepliesAnswerCalls (seen p) → RepliesAnswerCalls p
answered_so p x = λ n unit one channel number request there is mark.
    let a : AnswersCall (seen p) channel number request n = x n unit one channel number request there is mark in
    record { sent = a.sent; there = a.there; named = a.named; timestamp = a.timestamp; mark = a.mark; same = a.same; passed = a.passed }

-- ---- whom members let in

controller_so : (plan : Option MemberPlan) (ends : EndStates) (controller : ℕ) → HasController plan (erased_ends ends) controller → HasController plan ends controller
controller_so None ends controller has = absurd has
controller_so (Some plan) ends controller has = sym (peer_same plan.controller ends) ∙ has

controller_seen : (plan : Option MemberPlan) (ends : EndStates) (controller : ℕ) → HasController plan ends controller → HasController plan (erased_ends ends) controller
controller_seen None ends controller has = absurd has
controller_seen (Some plan) ends controller has = peer_same plan.controller ends ∙ has

answer_so : (p : Past) (message : MessageTaken) (j : Judging) → IsItsControllersAnswer (seen p) message j → IsItsControllersAnswer p message j
answer_so p message j a = record {
  taken = a.taken;
  controller = controller_so (slice_get p.plan.members message.member) p.world.state.ends j.controller a.controller;
  once = a.once;
}

answer_seen : (p : Past) (message : MessageTaken) (j : Judging) → IsItsControllersAnswer p message j → IsItsControllersAnswer (seen p) message j
answer_seen p message j a = record {
  taken = a.taken;
  controller = controller_seen (slice_get p.plan.members message.member) p.world.state.ends j.controller a.controller;
  once = a.once;
}

unused_so : (p : Past) (message : MessageTaken) (sent : ChallengeSent) → IsUnusedChallenge (seen p) message sent → IsUnusedChallenge p message sent
unused_so p message sent u = record { link = u.link; challenge = u.challenge; drawn = u.drawn; only = u.only; first = u.first }

accepted_so : (p : Past) (message : MessageTaken) → IsAccepted (seen p) message → IsAccepted p message
accepted_so p message a = record {
  own = record { route = a.own.route; at = a.own.at; acceptor = a.own.acceptor };
  judging = a.judging;
  answer = answer_so p message a.judging a.answer;
  granted = a.granted;
  unused = one_weaker (IsUnusedChallenge (seen p) message) (IsUnusedChallenge p message) p.book.challenges (unused_so p message) a.unused;
}

abbrev IsOnly : Past → OutcomeTold → MessageTaken → Type 0
IsOnly p told message = (message.link ≡ told.link) × (message.member ≡ told.member) × IsAccepted p message

pub only_so : (p : Past) → AcceptsOnlyGranted (seen p) → AcceptsOnlyGranted p
only_so p x = all_weaker (λ (told : OutcomeTold). is_in told.outcome ≡ true → OneOf (IsOnly (seen p) told) p.book.messages)
    (λ (told : OutcomeTold). is_in told.outcome ≡ true → OneOf (IsOnly p told) p.book.messages) p.book.told
    (λ told has. λ is. one_weaker (IsOnly (seen p) told) (IsOnly p told) p.book.messages (λ message a. (a.0, a.1, accepted_so p message a.2)) (has is)) x

abbrev IsAll : Past → MessageTaken → Type 0
IsAll p message = (j : Judging) → IsItsControllersAnswer p message j → IsGrantedBy message j → OneOf (IsToldIn message) p.book.told

pub all_so : (p : Past) → AcceptsAllGranted (seen p) → AcceptsAllGranted p
all_so p x = all_weaker (IsAll (seen p)) (IsAll p) p.book.messages (λ message has. λ j answer granted. has j (answer_seen p message j answer) granted) x

shortly_seen : (p : Past) (told : OutcomeTold) (nt hash : List ℕ) (message : MessageTaken) → IsLetInShortly p told nt hash message → IsLetInShortly (seen p) told nt hash message
shortly_seen p told nt hash message s = record {
  let_in = s.let_in;
  link = s.link;
  response = s.response;
  short = s.short;
  own = s.own;
  judging = s.judging;
  answer = s.answer;
  stored = s.stored;
}

shortly_one : (p : Past) (told : OutcomeTold) (nt hash : List ℕ) → OneOf (IsLetInShortly p told nt hash) p.book.messages → OneOf (IsLetInShortly (seen p) told nt hash) p.book.messages
shortly_one p told nt hash one = one_weaker (IsLetInShortly p told nt hash) (IsLetInShortly (seen p) told nt hash) p.book.messages (shortly_seen p told nt hash) one

abbrev AreOnce : Past → List ℕ → List ℕ → OutcomeTold → OutcomeTold → Type 0
AreOnce p nt hash one other = one.link ≢ other.link → OneOf (IsLetInShortly p one nt hash) p.book.messages → OneOf (IsLetInShortly p other nt hash) p.book.messages → ⊥

pub once_so : (p : Past) → ShortResponsesLetInOnce (seen p) → ShortResponsesLetInOnce p
once_so p x = λ nt hash.
    all_weaker (λ (one : OutcomeTold). AllByRecursion (AreOnce (seen p) nt hash one) p.book.told) (λ (one : OutcomeTold). AllByRecursion (AreOnce p nt hash one) p.book.told) p.book.told
    (λ one all. all_weaker (AreOnce (seen p) nt hash one) (AreOnce p nt hash one) p.book.told
    (λ other never. λ apart first second. never apart (shortly_one p one nt hash first) (shortly_one p other nt hash second)) all) (x nt hash)

-- ---- sequences

stands_seen : (s : State) (member : ℕ) (channel : ChannelIdentity) (o : SecureChannelState) → ChannelStands s (OfMember member) channel o → ChannelStands (erased s) (OfMember member) channel o
stands_seen s member channel o st = record {
  requester = st.requester;
  at = st.at;
  open_so = st.open_so;
  is = st.is ∙ ap (λ (controller : ℕ). channel_of controller st.requester.caller.computer o) (sym (asked_same member s));
  turn = st.turn;
  is_turn = st.is_turn;
}

turn_seen : (s : State) (member : ℕ) (channel : ChannelIdentity) (o : SecureChannelState) (st : ChannelStands s (OfMember member) channel o) → (stands_seen s member channel o st).turn ≡ st.turn
unfolding stands_seen
turn_seen s member channel o st = refl

own_one : (p : Past) (member : ℕ) → SequenceIsOwn (seen p) (OfMember member) → SequenceIsOwn p (OfMember member)
own_one p member x = λ channel o st. x channel o (stands_seen p.world.state member channel o st)

-- each that asks for a trust is as it was made, so that no channel stands there
abbrev pub AreUnused : State → Type 0
AreUnused s = (at trust : ℕ) (one : Requester) → requester_at s (OfTrust at trust) ≡ Some one → IsUnused one

never_stands : (s : State) → AreUnused s → (at trust : ℕ) (channel : ChannelIdentity) (o : SecureChannelState) → ChannelStands s (OfTrust at trust) channel o → ⊥
never_stands s unused at trust channel o st =
    let never : standing.Nothing ≡ standing.Open o = ap (λ (one : Requester). one.standing) (unused at trust st.requester st.at).is ∙ st.open_so in cc

kept_seen : (s : State) (controller : ℕ) (computer : List ℕ) (c : SecureChannelState) → ChannelIsKept s controller computer c → ChannelIsKept (erased s) controller computer c
kept_seen s controller computer c k = record {
  state = erased_controller k.state;
  running = k.running;
  at = there s.ends.controllers controller k.state k.at;
  runs = k.runs;
  kept = k.kept;
}

shared_one : (p : Past) → AreUnused p.world.state → (who : RequesterId) → SequenceIsShared (seen p) who → SequenceIsShared p who
shared_one p unused (OfMember member) x = record {
  own = own_one p member x.own;
  other = λ channel o c st keeps same foreign.
      subst (λ (turn : Option Pending). (c.seed ≡ o.seed) ⊎ IsBeforeTurn turn c.seed channel (timestamps_on (OfMember member) channel p.book.turns)) (turn_seen p.world.state member channel o st)
      (x.other channel o c (stands_seen p.world.state member channel o st) (kept_seen p.world.state channel.controller channel.computer c keeps) same foreign);
}
shared_one p unused (OfTrust at trust) x = record {
  own = λ channel o st. absurd (never_stands p.world.state unused at trust channel o st);
  other = λ channel o c st keeps same foreign. absurd (never_stands p.world.state unused at trust channel o st);
}

pub shared_so : (p : Past) → AreUnused p.world.state → SequencesAreShared (seen p) → SequencesAreShared p
shared_so p unused x = λ who. shared_one p unused who (x who)

-- ---- the calls of turns

so_far : (p : Past) (turn : Option Pending) (made : List (ℕ × ℕ)) (timestamps : List ℕ) → AreSoFar (seen p) turn made timestamps → AreSoFar p turn made timestamps
so_far p turn made timestamps (inl all) = inl all
so_far p turn made timestamps (inr (inl b)) = inr (inl (record { pending = b.pending; is_out = b.is_out; last = b.last; all = b.all; passed = b.passed }))
so_far p turn made timestamps (inr (inr c)) =
    inr (inr (record { pending = c.pending; is_out = c.is_out; earlier = c.earlier; last = c.last; split = c.split; all = c.all; passed = c.passed }))

made_so : (p : Past) (channel : ChannelIdentity) (one : ℕ × ℕ) → IsMadeOn (seen p) channel one.0 one.1 → IsMadeOn p channel one.0 one.1
made_so p channel one m = record { sent = m.sent; there = m.there; number = m.number; mark = m.mark }

calls_so : (p : Past) (channel : ChannelIdentity) (turn : Option Pending) (timestamps : List ℕ) → CallsOfTurns (seen p) channel turn timestamps → CallsOfTurns p channel turn timestamps
calls_so p channel turn timestamps c = record {
  made = c.made;
  each = all_weaker (λ (one : ℕ × ℕ). IsMadeOn (seen p) channel one.0 one.1) (λ (one : ℕ × ℕ). IsMadeOn p channel one.0 one.1) c.made (made_so p channel) c.each;
  apart = c.apart;
  every = c.every;
  far = so_far p turn c.made timestamps c.far;
}

called_one : (p : Past) → AreUnused p.world.state → (who : RequesterId) (channel : ChannelIdentity) (o : SecureChannelState) (st : ChannelStands p.world.state who channel o) → TurnsAreCalled (seen p) →
    CallsOfTurns p channel st.turn (timestamps_on who channel p.book.turns)
called_one p unused (OfMember member) channel o st x =
    subst (λ (turn : Option Pending). CallsOfTurns p channel turn (timestamps_on (OfMember member) channel p.book.turns)) (turn_seen p.world.state member channel o st)
    (calls_so p channel (stands_seen p.world.state member channel o st).turn (timestamps_on (OfMember member) channel p.book.turns)
    (x (OfMember member) channel o (stands_seen p.world.state member channel o st)))
called_one p unused (OfTrust at trust) channel o st x = absurd (never_stands p.world.state unused at trust channel o st)

pub called_so : (p : Past) → AreUnused p.world.state → TurnsAreCalled (seen p) → TurnsAreCalled p
called_so p unused x = λ who channel o st. called_one p unused who channel o st x
