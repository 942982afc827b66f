-- In every run each AUTHENTICATE that a member took is for the CHALLENGE of its link: the member keeps the message that
-- it read, the challenge that it sent, and the flags that both have. It serves `messages_are_taken_as_sent`.
use Rattle.std.proofs.Common.{◌≡◌, ◌≢◌, ◌<◌, ◌==◌, ℕ, Bool, true, false, List, [], ◌∷◌, ◌++◌, length, inl, inr, Option, Some, None, refl, sym, ap, subst, ◌∙◌, arith, slice_get, slice_set, AllPairs, length-append}
use Rattle.std.specs.Prelude.{flat_map}
use Rattle.std.specs.List.{AllByRecursion}
use Rattle.std.proofs.lemmas.List.{append-nil}
use Rattle.std.proofs.lemmas.List.Elements.{All-from_recursion}
use Rattle.std.proofs.lemmas.List.Quantifiers.{all_pairs_push}
use Rattle.std.proofs.lemmas.Option.{slice_get_within}
use Rattle.outside.specs.declared.event.Event.{Event}
use Rattle.outside.specs.declared.event.Event.TheVariants as event
use Rattle.end_links.specs.Serving.{ServedUnit}
use Rattle.ntlm_flags.specs.Flags.{agreed_flags}
use Rattle.member_server.specs.Machine.{fresh_member, step_of}
use Rattle.member_server.specs.State.{State as MemberState}
use Rattle.member_server.specs.declared.state.AtLink.{AtLink}
use Rattle.member_server.specs.Turns.{AtTurn}
use Rattle.member_server.specs.declared.state.Phase.{Phase}
use Rattle.member_server.specs.declared.state.Phase.TheVariants as phase
use Rattle.member_server.specs.declared.state.Talk.{Talk}
use Rattle.channel_turns.specs.declared.state.TurnTalk.{TurnTalk}
use Rattle.wire_base.specs.Lists.{OneOf}
use Rattle.step_notes.specs.MemberNotes.{LinkAt, TurnNote, challenge_note, link_of_place, link_units, message_note, taken_link, turn_units}
use Rattle.step_notes.specs.Records.{Book, ChallengeSent, MessageTaken, blank, unit_in, OfMember}
use Rattle.step_notes.proofs.Members.UnservedLaws.{LinksIn, Opens, in_so, step_known}
use Rattle.step_notes.proofs.Members.RestLaws.{member_leaves}
use Rattle.world_moves.specs.declared.links.EndId.TheVariants.{Member}
use Rattle.world_moves.specs.declared.links.Route.{Route}
use Rattle.world_moves.specs.declared.moves.Move.{Move}
use Rattle.world_moves.specs.declared.plan.Plan.{Plan}
use Rattle.world_moves.specs.declared.state.State.{State}
use Rattle.world_moves.specs.Links.{acceptor_of}
use Rattle.world_moves.specs.Plain.{IsPlainPlan, plain_world}
use Rattle.domain_world.specs.Accepting.KeysMade.{IsTakenAsSent, MessagesAreTakenAsSent}
use Rattle.domain_world.specs.Past.{Delivery, Past, at_member, change_if, change_message, note_member, note_messages, note_turn, past, with_answer, with_call}
use Rattle.wire_base.proofs.ListLaws.{all_weaker, got_behind, one_before, one_behind}
use Rattle.domain_world.proofs.Messages.ChallengeLinkLaws.{BytesCome, KnownAfter, KnownAt, ReadOf, bytes_come, so_far}
use Rattle.domain_world.proofs.Messages.ChallengeReadLaws.{AreTakenWith, IsTakenWith}
use Rattle.wire_base.proofs.ListPlaceLaws.{all_by_place, apart_same, placed}
use Rattle.domain_world.proofs.Messages.MessageOnceLaws.{each_put, fresh_links, member_is, quiet_opens, route_is}
use Rattle.domain_world.proofs.Challenges.OwnLinkLaws.{IsLinkIn, IsTakenIn, all_taken, link_more}
use Rattle.domain_world.proofs.Moves.LeftLaws.{AreEights, eights_after, eights_rest, first_eights}
use Rattle.wire_base.proofs.AllLaws.{all_join}
use Rattle.domain_world.proofs.Frames.MemberFrameLaws.{KeepsMembers, MembersFact, members_after}
use Rattle.domain_world.proofs.Frames.TurnFrameLaws.{asked_keep}
use Rattle.world_moves.proofs.ChangeLaws.{member_begun}
use Rattle.domain_controller.proofs.TrustPlaceLaws.{got_all}

-- ---- what is kept

-- the challenges that were sent and the messages that were taken
pub record Written : Type 0 where
  pub challenges : List ChallengeSent
  pub messages : List MessageTaken

abbrev pub written_of : Book → Written
written_of b = record { challenges = b.challenges; messages = b.messages }

-- the member accepted the link, and no CHALLENGE was sent on it
abbrev pub IsUnsent : List ChallengeSent → List Route → ℕ → ℕ → Type 0
IsUnsent challenges links member link = IsLinkIn links link member × AllByRecursion (λ (sent : ChallengeSent). sent.link ≢ link) challenges

-- a CHALLENGE of that challenge and those flags was sent on the link
abbrev pub IsSentSo : List ChallengeSent → ℕ → List ℕ → ℕ → Type 0
IsSentSo challenges link challenge flags = OneOf (λ (sent : ChallengeSent). (sent.link ≡ link) × ReadOf sent challenge flags) challenges

-- the message is for a CHALLENGE that was sent on its link
abbrev pub IsForSent : List ChallengeSent → MessageTaken → Type 0
IsForSent challenges one = IsTakenWith (IsSentSo challenges one.link) one.bytes one.logon

-- Each CHALLENGE was sent on a link that was made, and each on another; each link of a member is as what was sent on
-- it, and each message is for what was sent on its link. Each challenge that is left has 8 bytes.
pub record AreAsSent (written : Written) (members : List MemberState) (links : List Route) (left : List (List ℕ)) : Type 0 where
  pub below : AllByRecursion (λ (sent : ChallengeSent). sent.link < length links) written.challenges
  pub apart : AllPairs (λ (one other : ChallengeSent). one.link ≢ other.link) written.challenges
  pub each : (k : ℕ) (m : MemberState) → slice_get members k ≡ Some m → LinksIn (KnownAt (IsUnsent written.challenges links k) (IsSentSo written.challenges)) m.running
  pub messages : AllByRecursion (IsForSent written.challenges) written.messages
  pub eights : AreEights left

-- messages are taken as sent, by the parts of a world
abbrev pub Sends : Written → MembersFact
Sends written members chances links = AreAsSent written members links chances.left

-- fewer challenges are left
less_left : (written : Written) (members : List MemberState) (links : List Route) (left rest : List (List ℕ)) → AreAsSent written members links left → AreEights rest →
    AreAsSent written members links rest
less_left written members links left rest kept eights = record { below = kept.below; apart = kept.apart; each = kept.each; messages = kept.messages; eights = eights }

-- a member is changed
member_put : (written : Written) (members : List MemberState) (links : List Route) (left rest : List (List ℕ)) (at : ℕ) (new : MemberState) → AreAsSent written members links left → AreEights rest →
    LinksIn (KnownAt (IsUnsent written.challenges links at) (IsSentSo written.challenges)) new.running → AreAsSent written (slice_set members at new) links rest
member_put written members links left rest at new kept eights known = record {
  below = kept.below;
  apart = kept.apart;
  each = each_put (λ (k : ℕ) (m : MemberState). LinksIn (KnownAt (IsUnsent written.challenges links k) (IsSentSo written.challenges)) m.running) members at new
      (λ k m differs there. kept.each k m there) known;
  messages = kept.messages;
  eights = eights;
}

-- a link is made
link_made : (written : Written) (members : List MemberState) (links : List Route) (left : List (List ℕ)) (route : Route) → AreAsSent written members links left →
    AreAsSent written members (links ++ route ∷ []) left
link_made written members links left route kept = record {
  below = all_weaker (λ (sent : ChallengeSent). sent.link < length links) (λ (sent : ChallengeSent). sent.link < length (links ++ route ∷ []))
      written.challenges (λ sent lt. omega (arith, lt, length-append links (route ∷ []))) kept.below;
  apart = kept.apart;
  each = λ k m there.
      in_so (KnownAt (IsUnsent written.challenges links k) (IsSentSo written.challenges)) (KnownAt (IsUnsent written.challenges (links ++ route ∷ []) k) (IsSentSo written.challenges))
      (λ n p known.
      so_far (IsUnsent written.challenges links k n) (IsUnsent written.challenges (links ++ route ∷ []) k n) (IsSentSo written.challenges n) (IsSentSo written.challenges n)
      (λ unsent. (link_more links route n k unsent.0, unsent.1)) (λ challenge flags sent. sent) p known)
      m.running (kept.each k m there);
  messages = kept.messages;
  eights = kept.eights;
}

-- ---- a member hears something

hear_sends : (written : Written) (m : MemberState) (at : ℕ) (what : Event) (now : ℕ) (members : List MemberState) (left : List (List ℕ)) (links : List Route) → slice_get members at ≡ Some m →
    Opens what (KnownAt (IsUnsent written.challenges links at) (IsSentSo written.challenges)) → AreAsSent written members links left →
    AreAsSent written (slice_set members at (step_of m what now left).state) links (step_of m what now left).left
hear_sends written m at what now members left links is opens kept =
    member_put written members links left (step_of m what now left).left at (step_of m what now left).state kept
    (eights_rest (step_of m what now left).left left (member_leaves m what now left) kept.eights)
    (step_known (KnownAt (IsUnsent written.challenges links at) (IsSentSo written.challenges)) what m now left opens (kept.each at m is))

-- on a link that was just made no CHALLENGE was sent
last_unsent : (written : Written) (links : List Route) (route : Route) (at : ℕ) → acceptor_of route ≡ Member at → AllByRecursion (λ (sent : ChallengeSent). sent.link < length links) written.challenges →
    KnownAt (IsUnsent written.challenges (links ++ route ∷ []) at) (IsSentSo written.challenges) (length links) phase.Fresh
last_unsent written links route at is below = (
  record { route = route; at = got_behind links route []; acceptor = is },
  all_weaker (λ (sent : ChallengeSent). sent.link < length links) (λ (sent : ChallengeSent). sent.link ≢ length links) written.challenges (λ sent lt same. omega (arith, lt, same)) below,
)

-- ---- bytes come: what was sent and taken is written down

-- a link was accepted by one member
one_member : (links : List Route) (link member other : ℕ) → IsLinkIn links link member → IsLinkIn links link other → member ≡ other
one_member links link member other one also = member_is member other (sym one.acceptor ∙ ap acceptor_of (route_is one.route also.route (sym one.at ∙ also.at)) ∙ also.acceptor)

-- what was sent goes on to be so where more is sent
sent_more : (challenges more : List ChallengeSent) (link : ℕ) (challenge : List ℕ) (flags : ℕ) → IsSentSo challenges link challenge flags → IsSentSo (challenges ++ more) link challenge flags
sent_more challenges more link challenge flags sent = one_before (λ (one : ChallengeSent). (one.link ≡ link) × ReadOf one challenge flags) challenges more sent

with_more : (Sent Other : List ℕ → ℕ → Type 0) (one : MessageTaken) → ((challenge : List ℕ) (flags : ℕ) → Sent challenge flags → Other challenge flags) → IsTakenWith Sent one.bytes one.logon →
    IsTakenWith Other one.bytes one.logon
with_more Sent Other one so its = record { read = its.read; flags = its.flags; sent = so one.logon.challenge its.flags its.sent; agreed = its.agreed }

unsent_more : (challenges : List ChallengeSent) (one : ChallengeSent) (links : List Route) (member link : ℕ) → IsUnsent challenges links member link → one.link ≢ link →
    IsUnsent (challenges ++ one ∷ []) links member link
unsent_more challenges one links member link unsent differs = (unsent.0, all_join (λ (sent : ChallengeSent). sent.link ≢ link) challenges (one ∷ []) unsent.1 (differs, tt))

known_more : (challenges : List ChallengeSent) (one : ChallengeSent) (links : List Route) (member link : ℕ) (p : Phase) → (IsLinkIn links link member → one.link ≢ link) →
    KnownAt (IsUnsent challenges links member) (IsSentSo challenges) link p → KnownAt (IsUnsent (challenges ++ one ∷ []) links member) (IsSentSo (challenges ++ one ∷ [])) link p
known_more challenges one links member link p differs known =
    so_far (IsUnsent challenges links member link) (IsUnsent (challenges ++ one ∷ []) links member link) (IsSentSo challenges link) (IsSentSo (challenges ++ one ∷ []) link)
    (λ unsent. unsent_more challenges one links member link unsent (differs unsent.0)) (sent_more challenges (one ∷ []) link) p known

-- the last CHALLENGE is the one that was sent
is_last : (challenges : List ChallengeSent) (one : ChallengeSent) (link : ℕ) (challenge : List ℕ) (flags : ℕ) → one.link ≡ link → ReadOf one challenge flags →
    IsSentSo (challenges ++ one ∷ []) link challenge flags
is_last challenges one link challenge flags same read = one_behind (λ (sent : ChallengeSent). (sent.link ≡ link) × ReadOf sent challenge flags) challenges (one ∷ []) (inl (same, read))

-- the link on which it was sent, and another one
known_after : (challenges : List ChallengeSent) (one : ChallengeSent) (links : List Route) (member link n : ℕ) (p : Phase) → one.link ≡ link →
    KnownAfter (IsUnsent challenges links member) (IsSentSo challenges) link one n p → KnownAt (IsUnsent (challenges ++ one ∷ []) links member) (IsSentSo (challenges ++ one ∷ [])) n p
known_after challenges one links member link n p same known = elim known [
  | inl other ↦ known_more challenges one links member n p (λ its is. other.1 (sym is ∙ same)) other.0
  | inr here ↦ so_far ⊥ (IsUnsent (challenges ++ one ∷ []) links member n) (ReadOf one) (IsSentSo (challenges ++ one ∷ []) n) (λ none. absurd none)
      (λ challenge flags read. is_last challenges one n challenge flags (same ∙ sym here.0) read) p here.1
]

-- the messages that were taken on a link
all_for : (challenges : List ChallengeSent) (link : ℕ) (Sent : List ℕ → ℕ → Type 0) (messages : List MessageTaken) → ((challenge : List ℕ) (flags : ℕ) → Sent challenge flags → IsSentSo challenges link challenge flags) →
    AllByRecursion (λ (one : MessageTaken). one.link ≡ link) messages → AreTakenWith Sent messages → AllByRecursion (IsForSent challenges) messages
all_for challenges link Sent [] so on all = tt
all_for challenges link Sent (one ∷ messages) so on all = (
  with_more Sent (IsSentSo challenges one.link) one (λ challenge flags sent. subst (λ (n : ℕ). IsSentSo challenges n challenge flags) (sym on.0) (so challenge flags sent)) all.0,
  all_for challenges link Sent messages so on.1 all.1,
)

for_more : (challenges more : List ChallengeSent) (messages : List MessageTaken) → AllByRecursion (IsForSent challenges) messages → AllByRecursion (IsForSent (challenges ++ more)) messages
for_more challenges more messages all =
    all_weaker (IsForSent challenges) (IsForSent (challenges ++ more)) messages
    (λ one its. with_more (IsSentSo challenges one.link) (IsSentSo (challenges ++ more) one.link) one (sent_more challenges more one.link) its) all

abbrev pub written_more : Written → List ChallengeSent → List MessageTaken → Written
written_more written sent messages = record { challenges = written.challenges ++ sent; messages = written.messages ++ messages }

-- a member took a step at which these were sent and taken on that link
member_came : (written : Written) (sent : List ChallengeSent) (messages : List MessageTaken) (members : List MemberState) (links : List Route) (left rest : List (List ℕ)) (at link : ℕ)
    (new : MemberState) → AreAsSent written members links left → AreEights rest → AllByRecursion (λ (one : MessageTaken). one.link ≡ link) messages →
    BytesCome link (IsUnsent written.challenges links at) (IsSentSo written.challenges) sent messages (λ May. LinksIn May new.running) →
    AreAsSent (written_more written sent messages) (slice_set members at new) links rest
member_came written [] messages members links left rest at link new kept eights on come =
    subst (λ (challenges : List ChallengeSent). AreAsSent (record { challenges = challenges; messages = written.messages ++ messages }) (slice_set members at new) links rest)
    (sym (append-nil written.challenges))
    (let put = member_put written members links left rest at new kept eights come.1 in
    record {
      below = put.below;
      apart = put.apart;
      each = put.each;
      messages = all_join (IsForSent written.challenges) written.messages messages put.messages (all_for written.challenges link (IsSentSo written.challenges link) messages (λ challenge flags sent. sent) on come.0);
      eights = put.eights;
    })
member_came written (one ∷ []) messages members links left rest at link new kept eights on come =
    let challenges : List ChallengeSent = written.challenges in
    let all : List ChallengeSent = challenges ++ one ∷ [] in
    let free : IsUnsent challenges links at link = come.0 in
    let here : one.link ≡ link = come.1 in
    record {
      below = all_join (λ (sent : ChallengeSent). sent.link < length links) challenges (one ∷ []) kept.below (omega (arith, here, slice_get_within links link free.0.route free.0.at), tt);
      apart = all_pairs_push (λ (a b : ChallengeSent). a.link ≢ b.link) challenges one kept.apart
          (All-from_recursion (λ (sent : ChallengeSent). sent.link ≢ one.link) challenges
          (subst (λ (n : ℕ). AllByRecursion (λ (sent : ChallengeSent). sent.link ≢ n) challenges) (sym here) free.1));
      each = each_put (λ (k : ℕ) (m : MemberState). LinksIn (KnownAt (IsUnsent all links k) (IsSentSo all)) m.running) members at new
          (λ k m differs there.
          in_so (KnownAt (IsUnsent challenges links k) (IsSentSo challenges)) (KnownAt (IsUnsent all links k) (IsSentSo all))
          (λ n p known.
          known_more challenges one links k n p
          (λ its same. differs (one_member links n k at its (subst (λ (x : ℕ). IsLinkIn links x at) (sym here ∙ same) free.0))) known)
          m.running (kept.each k m there))
          (in_so (KnownAfter (IsUnsent challenges links at) (IsSentSo challenges) link one) (KnownAt (IsUnsent all links at) (IsSentSo all))
          (λ n p known. known_after challenges one links at link n p here known) new.running come.3);
      messages = all_join (IsForSent all) written.messages messages (for_more challenges (one ∷ []) written.messages kept.messages)
          (all_for all link (ReadOf one) messages (λ challenge flags read. is_last challenges one link challenge flags here read) on come.2);
      eights = eights;
    }
member_came written (one ∷ other ∷ more) messages members links left rest at link new kept eights on come = absurd come

-- ---- what is written down later of a message leaves it

if_for : (here : Bool) (Holds : MessageTaken → Type 0) (change : MessageTaken → MessageTaken) (one : MessageTaken) → (Holds one → Holds (change one)) → Holds one → Holds (change_if here change one)
if_for false Holds change one so its = its
if_for true Holds change one so its = so its

changed_for : (link : Option ℕ) (Holds : MessageTaken → Type 0) (change : MessageTaken → MessageTaken) → ((one : MessageTaken) → Holds one → Holds (change one)) → (messages : List MessageTaken) →
    AllByRecursion Holds messages → AllByRecursion Holds (change_message link change messages)
changed_for None Holds change so messages all = all
changed_for (Some link) Holds change so [] all = tt
changed_for (Some link) Holds change so (one ∷ messages) all = (if_for (one.link == link) Holds change one (so one) all.0, changed_for (Some link) Holds change so messages all.1)

abbrev pub IsSoOf : Book → List MemberState → List Route → List (List ℕ) → Type 0
IsSoOf b members links left = AreAsSent (written_of b) members links left

turn_for : (note : TurnNote) (served : ServedUnit AtTurn TurnTalk) (unit number : Option ℕ) (b : Book) (members : List MemberState) (links : List Route) (left : List (List ℕ)) →
    IsSoOf b members links left → IsSoOf (note_turn note served unit number b) members links left
turn_for note served unit number b members links left kept =
    let called : Option ℕ = link_of_place note.called served.work.work.logons in
    record {
      below = kept.below;
      apart = kept.apart;
      each = kept.each;
      messages = changed_for (link_of_place note.answered served.work.work.logons) (IsForSent b.challenges) (with_answer unit) (λ one its. its) (change_message called (with_call number) b.messages)
          (changed_for called (IsForSent b.challenges) (with_call number) (λ one its. its) b.messages kept.messages);
      eights = kept.eights;
    }

member_heard : (m : MemberState) (at : ℕ) (w : Delivery) (piece : List ℕ) (s after : State) (b : Book) → slice_get s.ends.members at ≡ Some m →
    AreAsSent (written_of b) s.ends.members s.links s.chances.left →
    AreAsSent (written_of (note_member (Some m) at w piece s after b)) (slice_set s.ends.members at (step_of m (event.Bytes w.link piece) s.moment s.chances.left).state) s.links
    (step_of m (event.Bytes w.link piece) s.moment s.chances.left).left
member_heard m at w piece s after b is kept =
    let l : LinkAt = at_member at w s in
    let units : List (ServedUnit AtLink Talk) = link_units m w.link piece s.moment s.chances.left in
    let what : Event = event.Bytes w.link piece in
    let new : MemberState = (step_of m what s.moment s.chances.left).state in
    let left : List (List ℕ) = (step_of m what s.moment s.chances.left).left in
    asked_keep (OfMember at) w (turn_units m w.link piece s.moment s.chances.left) s after (note_messages at m w piece s b)
    (λ (later : Book). IsSoOf later (slice_set s.ends.members at new) s.links left)
    (λ note served number later so. turn_for note served (unit_in w.source) number later (slice_set s.ends.members at new) s.links left so)
    (member_came (written_of b) (flat_map (challenge_note l) units) (flat_map (message_note l) units) s.ends.members s.links s.chances.left (step_of m what s.moment s.chances.left).left at w.link new kept
    (eights_rest (step_of m what s.moment s.chances.left).left s.chances.left (member_leaves m what s.moment s.chances.left) kept.eights)
    (all_weaker (IsTakenIn l (flat_map (taken_link l) units)) (λ (one : MessageTaken). one.link ≡ w.link) (flat_map (message_note l) units) (λ one its. its.0) (all_taken l units))
    (bytes_come l (IsUnsent b.challenges s.links at) (IsSentSo b.challenges) piece s.moment s.chances.left kept.eights m (kept.each at m is)))

-- ---- a run

sends_on : KeepsMembers written_of Sends
sends_on = record {
  of = record {
    controllers = λ answers w s after b. refl;
    every = λ c at w piece s after b. refl;
    clients = λ c at w piece s b. refl;
  };
  given = λ at given after b. refl;
  draws = λ written members chances later links on kept. less_left written members links chances.left later.left kept (eights_after chances later on kept.eights);
  hears = λ written m at what now members chances links quiet is kept.
      hear_sends written m at what now members chances.left links is
      (quiet_opens what (KnownAt (IsUnsent written.challenges links at) (IsSentSo written.challenges)) quiet) kept;
  opens = λ written route members chances links kept. link_made written members links chances.left route kept;
  accepts = λ written m at route now members chances links accepts is kept.
      hear_sends written m at (event.Opened (length links)) now members chances.left (links ++ route ∷ []) is (last_unsent written links route at accepts kept.below)
      (link_made written members links chances.left route kept);
  comes = λ m at w piece s after b is kept. member_heard m at w piece s after b is kept;
  changes = λ written secret running at members chances links is none kept.
      member_put written members links chances.left chances.left at (member_begun secret running) kept kept.eights (kept.each at (record { running = Some running }) is);
  anew = λ written plan at members chances links kept. member_put written members links chances.left chances.left at (fresh_member plan) kept kept.eights tt;
}

first_sends : (plan : Plan) → AreAsSent (written_of blank) (plain_world plan).state.ends.members (plain_world plan).state.links (plain_world plan).state.chances.left
first_sends plan = record {
  below = tt;
  apart = λ i j d lt within. absurd (omega (arith, within));
  each = λ k m there. fresh_links plan.members (KnownAt (IsUnsent [] [] k) (IsSentSo [])) k m there;
  messages = tt;
  eights = first_eights plan;
}

-- the message is for the one CHALLENGE of its link
sent_for : (challenges : List ChallengeSent) → AllPairs (λ (one other : ChallengeSent). one.link ≢ other.link) challenges → (message : MessageTaken) → IsForSent challenges message → (l : ℕ)
    (sent : ChallengeSent) → slice_get challenges l ≡ Some sent → sent.link ≡ message.link → IsTakenAsSent message sent
sent_for challenges apart message its l sent there same =
    let found = placed (λ (one : ChallengeSent). (one.link ≡ message.link) × ReadOf one message.logon.challenge its.flags) challenges its.sent in
    let is : found.item ≡ sent = apart_same (λ (one : ChallengeSent). one.link) challenges apart found.place l found.item sent found.there there (found.is.0 ∙ sym same) in
    let read : ReadOf sent message.logon.challenge its.flags = subst (λ (one : ChallengeSent). ReadOf one message.logon.challenge its.flags) is found.is.1 in
    record {
      taken = its.read;
      came = read.came;
      read = read.read;
      challenge = sym read.same_challenge;
      agreed = its.agreed ∙ ap (λ (flags : ℕ). agreed_flags flags message.logon.message.flags) (sym read.same_flags);
    }

-- in every run each message is taken as it was sent for
pub messages_taken : (plan : Plan) (moves : List Move) → IsPlainPlan plan → MessagesAreTakenAsSent (past plan moves)
messages_taken plan moves nothing =
    let run : Past = past plan moves in
    let kept : AreAsSent (written_of run.book) run.world.state.ends.members run.world.state.links run.world.state.chances.left =
    members_after written_of Sends sends_on plan moves nothing (first_sends plan) in
    all_by_place (λ (message : MessageTaken). AllByRecursion (λ (sent : ChallengeSent). sent.link ≡ message.link → IsTakenAsSent message sent) run.book.challenges) run.book.messages
    (λ k message here. all_by_place (λ (sent : ChallengeSent). sent.link ≡ message.link → IsTakenAsSent message sent) run.book.challenges
    (λ l sent there same. sent_for run.book.challenges kept.apart message (got_all (IsForSent run.book.challenges) run.book.messages k message kept.messages here) l sent there same))
