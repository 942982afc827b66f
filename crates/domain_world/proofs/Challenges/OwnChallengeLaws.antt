-- In every run each AUTHENTICATE that a member took is for its link's own unused challenge.
-- It serves `Proved.messages`.
use Rattle.std.proofs.Common.{◌≡◌, ◌≢◌, ◌<◌, ◌≤◌, ◌==◌, ℕ, zero, suc, ◌+◌, Bool, true, false, cond, List, [], ◌∷◌, ◌++◌, length, map, Option, Some, None, inl, inr, refl, sym, ap, subst, ◌∙◌, arith, slice_get, slice_set, All, AllPairs, count_by, get_or}
use Rattle.std.specs.Prelude.{flat_map}
use Rattle.std.specs.List.{AllByRecursion}
use Rattle.std.proofs.lemmas.Bool.{cases_order, eq-eqb, ne_eqb}
use Rattle.std.proofs.lemmas.List.Elements.{All-from_recursion, All-head, All-tail}
use Rattle.std.proofs.lemmas.List.{append-nil}
use Rattle.std.proofs.lemmas.List.Quantifiers.{all_pairs_push}
use Rattle.std.proofs.lemmas.List.Sums.{sum_by-cons}
use Rattle.std.proofs.lemmas.Option.{get_or_from_slice_get, slice_get_within}
use Rattle.outside.specs.declared.event.Event.{Event}
use Rattle.outside.specs.declared.event.Event.TheVariants as event
use Rattle.outside.specs.Drawing.{Drawing}
use Rattle.outside.specs.Machine.{Stepped}
use Rattle.end_links.specs.Serving.{ServedUnit}
use Rattle.member_server.specs.declared.state.AtLink.{AtLink}
use Rattle.member_server.specs.Turns.{AtTurn}
use Rattle.member_server.specs.declared.state.Phase.TheVariants as phase
use Rattle.member_server.specs.declared.state.Talk.{Talk}
use Rattle.channel_turns.specs.declared.state.TurnTalk.{TurnTalk}
use Rattle.member_server.specs.Machine.{fresh_member, step_of}
use Rattle.member_server.specs.State.{State as MemberState}
use Rattle.wire_base.specs.Lists.{OneOf}
use Rattle.step_notes.specs.MemberNotes.{LinkAt, TurnNote, challenge_note, link_of_place, link_units, message_note, taken_link, turn_units}
use Rattle.step_notes.specs.Records.{Book, ChallengeSent, MessageTaken, blank, OfMember}
use Rattle.world_moves.specs.declared.links.EndId.TheVariants.{Member}
use Rattle.world_moves.specs.declared.links.Route.{Route}
use Rattle.world_moves.specs.declared.moves.Move.{Move}
use Rattle.world_moves.specs.declared.plan.Plan.{Plan}
use Rattle.world_moves.specs.declared.state.State.{State}
use Rattle.world_moves.specs.Draws.{DrawsDiffer}
use Rattle.world_moves.specs.Links.{acceptor_of}
use Rattle.world_moves.specs.Plain.{IsPlainPlan, plain_world}
use Rattle.domain_world.specs.Claims.{IsUnusedChallenge}
use Rattle.domain_world.specs.Claims.OwnChallenges.{HasOwnChallenge, MessagesHaveOwnChallenges}
use Rattle.domain_world.specs.Past.{Delivery, Past, at_member, change_if, change_message, note_member, note_messages, note_turn, past, with_answer, with_call}
use Rattle.wire_base.proofs.ListLaws.{all_weaker, got_append, got_behind, one_before, one_behind}
use Rattle.step_notes.proofs.Members.UnservedLaws.{LinksIn, Opens, in_so, step_known}
use Rattle.domain_world.proofs.Messages.MessageOnceLaws.{each_put, fresh_links, messages_once, quiet_opens}
use Rattle.domain_world.proofs.Challenges.OwnLinkLaws.{AtMostOne, IsDrawn, IsLinkIn, IsOwn, IsSentAt, IsSentOn, IsTakenIn, all_sent, all_taken, bytes_drawn, bytes_one, bytes_own, link_more, own_more, own_opened, sent_among}
use Rattle.wire_base.proofs.AllLaws.{all_join, all_zip}
use Rattle.domain_world.proofs.Frames.MemberFrameLaws.{KeepsMembers, MembersFact, members_after}
use Rattle.domain_world.proofs.Frames.TurnFrameLaws.{asked_leave}
use Rattle.world_moves.proofs.ChangeLaws.{member_begun}

-- ---- lists

one_with : {T : Type 0} (P Q R : T → Type 0) → ((item : T) → P item → Q item → R item) → (items : List T) → OneOf P items → AllByRecursion Q items → OneOf R items
one_with P Q R so [] one all = absurd one
one_with P Q R so (item ∷ items) one all = elim one [ inl here ↦ inl (so item here all.0) | inr later ↦ inr (one_with P Q R so items later all.1) ]

-- ---- a number that comes once

miss : (one n : ℕ) → one ≢ n → ◌≡◌ {A = ℕ} (cond (one == n) 1 0) 0
miss one n differ = ap (λ (b : Bool). cond {A = ℕ} b 1 0) (ne_eqb one n differ)

hit : (one n : ℕ) → one ≡ n → ◌≡◌ {A = ℕ} (cond (one == n) 1 0) 1
hit one n same = ap (λ (b : Bool). cond {A = ℕ} b 1 0) (eq-eqb one n same)

count_more : (n one : ℕ) (items : List ℕ) → count_by (λ (x : ℕ). x == n) (one ∷ items) ≡ cond (one == n) 1 0 + count_by (λ (x : ℕ). x == n) items
count_more n one items = sum_by-cons (λ (x : ℕ). cond (x == n) 1 0) one items

count_none : (n : ℕ) (items : List ℕ) → All (λ (one : ℕ). one ≢ n) items → count_by (λ (one : ℕ). one == n) items ≡ 0
count_none n [] all = refl
count_none n (one ∷ items) all = omega (
  arith,
  count_more n one items,
  miss one n (All-head (λ (x : ℕ). x ≢ n) one items all),
  count_none n items (All-tail (λ (x : ℕ). x ≢ n) one items all),
)

none_behind : (n first : ℕ) (items : List ℕ) → AllPairs (λ (one other : ℕ). one ≢ other) (first ∷ items) → first ≡ n → All (λ (one : ℕ). one ≢ n) items
none_behind n first items pairs is k d lt same = pairs zero (suc k) d (omega arith) (omega (arith, lt)) (is ∙ sym same)

count_one : (n : ℕ) (items : List ℕ) → AllPairs (λ (one other : ℕ). one ≢ other) items → OneOf (λ (one : ℕ). one ≡ n) items → count_by (λ (one : ℕ). one == n) items ≡ 1
count_one n [] pairs one = absurd one
count_one n (first ∷ items) pairs one = elim one [
  | inl is ↦ omega (arith, count_more n first items, hit first n is, count_none n items (none_behind n first items pairs is))
  | inr later ↦
      let rest : count_by (λ (x : ℕ). x == n) items ≡ 1 = count_one n items (λ i j d lt within. pairs (suc i) (suc j) d (omega (arith, lt)) (omega (arith, within))) later in
      omega (arith, count_more n first items, rest, miss first n (λ is. absurd (omega (arith, rest, count_none n items (none_behind n first items pairs is)))))
]

-- ---- draws

-- where no two draws are alike, one alone gave the challenge
one_draw : (drawn : List (List ℕ)) → AllPairs (λ (one other : List ℕ). one ≢ other) drawn → (challenge : List ℕ) (draw other : ℕ) → slice_get drawn draw ≡ Some challenge →
    slice_get drawn other ≡ Some challenge → other ≡ draw
one_draw drawn differ challenge draw other there also =
    let same : (n : ℕ) → slice_get drawn n ≡ Some challenge → get_or drawn n [] ≡ challenge = λ n is. get_or_from_slice_get drawn n challenge [] is in
    elim (cases_order other draw) [
      | inl is ↦ is
      | inr apart ↦ elim apart [
        | inl before ↦ absurd (differ other draw [] before (slice_get_within drawn draw challenge there) (same other also ∙ sym (same draw there)))
        | inr behind ↦ absurd (differ draw other [] behind (slice_get_within drawn other challenge also) (same draw there ∙ sym (same other also)))
      ]
    ]

-- ---- what is kept

-- a message without the units of its call and of its answer, which are written down later
abbrev pub bare : MessageTaken → MessageTaken
bare one = record one { call = None; reply = None }

-- what is written down of challenges and messages
pub record Notes : Type 0 where
  pub challenges : List ChallengeSent
  pub taken : List ℕ
  pub messages : List MessageTaken

abbrev pub notes_of : Book → Notes
notes_of b = record { challenges = b.challenges; taken = b.taken; messages = map bare b.messages }

-- the message came on a link of its member, for a challenge that was sent on it, and is one that was taken
abbrev pub IsItsOwn : Notes → List Route → MessageTaken → Type 0
IsItsOwn notes links one =
    IsLinkIn links one.link one.member × OneOf (IsSentOn one.member one.link one.logon.challenge) notes.challenges × OneOf (λ (link : ℕ). link ≡ one.link) notes.taken

-- two challenges were given by different draws
abbrev pub OfOtherDraw : ChallengeSent → ChallengeSent → Type 0
OfOtherDraw one other = one.draw ≢ other.draw

-- each CHALLENGE was drawn, each by another draw, each link that has one or may get one is its member's, and each
-- message is for the one of its link
pub record AreOwn (notes : Notes) (members : List MemberState) (drawn : List (List ℕ)) (links : List Route) : Type 0 where
  pub drew : AllByRecursion (IsDrawn drawn) notes.challenges
  pub apart : AllPairs OfOtherDraw notes.challenges
  pub each : (k : ℕ) (m : MemberState) → slice_get members k ≡ Some m → LinksIn (IsOwn notes.challenges links k) m.running
  pub messages : AllByRecursion (IsItsOwn notes links) notes.messages

-- challenges and messages are the members' own, by the parts of a world
abbrev pub Owns : Notes → MembersFact
Owns notes members chances links = AreOwn notes members chances.drawn links

drew_more : (sent : List ChallengeSent) (drawn more : List (List ℕ)) → AllByRecursion (IsDrawn drawn) sent → AllByRecursion (IsDrawn (drawn ++ more)) sent
drew_more sent drawn more all =
    all_weaker (IsDrawn drawn) (IsDrawn (drawn ++ more)) sent (λ one is. got_append drawn more one.draw one.challenge is) all

-- more is drawn
own_drew : (notes : Notes) (members : List MemberState) (drawn more : List (List ℕ)) (links : List Route) → AreOwn notes members drawn links → AreOwn notes members (drawn ++ more) links
own_drew notes members drawn more links kept = record { drew = drew_more notes.challenges drawn more kept.drew; apart = kept.apart; each = kept.each; messages = kept.messages }

-- a member is changed
own_put : (notes : Notes) (members : List MemberState) (drawn : List (List ℕ)) (links : List Route) (at : ℕ) (new : MemberState) → AreOwn notes members drawn links →
    LinksIn (IsOwn notes.challenges links at) new.running → AreOwn notes (slice_set members at new) drawn links
own_put notes members drawn links at new kept known = record {
  drew = kept.drew;
  apart = kept.apart;
  each = each_put (λ (k : ℕ) (m : MemberState). LinksIn (IsOwn notes.challenges links k) m.running) members at new (λ k m differs there. kept.each k m there) known;
  messages = kept.messages;
}

-- a link is made
own_linked : (notes : Notes) (members : List MemberState) (drawn : List (List ℕ)) (links : List Route) (route : Route) → AreOwn notes members drawn links →
    AreOwn notes members drawn (links ++ route ∷ [])
own_linked notes members drawn links route kept = record {
  drew = kept.drew;
  apart = kept.apart;
  each = λ k m there.
      in_so (IsOwn notes.challenges links k) (IsOwn notes.challenges (links ++ route ∷ []) k) (λ link p own. own_opened notes.challenges links route k link p own) m.running
      (kept.each k m there);
  messages = all_weaker (IsItsOwn notes links) (IsItsOwn notes (links ++ route ∷ [])) notes.messages
      (λ one its. (link_more links route one.link one.member its.0, its.1, its.2)) kept.messages;
}

-- ---- a member hears something

hear_owns : (notes : Notes) (m : MemberState) (at : ℕ) (what : Event) (now : ℕ) (members : List MemberState) (chances : Drawing) (links : List Route) → slice_get members at ≡ Some m →
    Opens what (IsOwn notes.challenges links at) → AreOwn notes members chances.drawn links →
    AreOwn notes (slice_set members at (step_of m what now chances.left).state) (chances.drawn ++ (step_of m what now chances.left).drawn) links
hear_owns notes m at what now members chances links is opens kept =
    let step : Stepped MemberState = step_of m what now chances.left in
    own_drew notes (slice_set members at step.state) chances.drawn step.drawn links
    (own_put notes members chances.drawn links at step.state kept (step_known (IsOwn notes.challenges links at) what m now chances.left opens (kept.each at m is)))

last_own : (challenges : List ChallengeSent) (links : List Route) (route : Route) (at : ℕ) → acceptor_of route ≡ Member at → IsOwn challenges (links ++ route ∷ []) at (length links) phase.Fresh
last_own challenges links route at is = record { route = route; at = got_behind links route []; acceptor = is }

-- ---- bytes come

bare_if : (here : Bool) (change : MessageTaken → MessageTaken) (one : MessageTaken) → bare (change one) ≡ bare one → bare (change_if here change one) ≡ bare one
bare_if false change one same = refl
bare_if true change one same = same

bare_changed : (link : Option ℕ) (change : MessageTaken → MessageTaken) → ((one : MessageTaken) → bare (change one) ≡ bare one) → (messages : List MessageTaken) →
    map bare (change_message link change messages) ≡ map bare messages
bare_changed None change same messages = refl
bare_changed (Some link) change same [] = refl
bare_changed (Some link) change same (one ∷ messages) =
    ap (λ (first : MessageTaken). first ∷ map bare (change_message (Some link) change messages)) (bare_if (one.link == link) change one (same one))
    ∙ ap (λ (rest : List MessageTaken). bare one ∷ rest) (bare_changed (Some link) change same messages)

turn_notes : (note : TurnNote) (served : ServedUnit AtTurn TurnTalk) (unit number : Option ℕ) (b : Book) → notes_of (note_turn note served unit number b) ≡ notes_of b
turn_notes note served unit number b =
    let called : Option ℕ = link_of_place note.called served.work.work.logons in
    ap (λ (messages : List MessageTaken). record { challenges = b.challenges; taken = b.taken; messages = messages })
    (bare_changed (link_of_place note.answered served.work.work.logons) (with_answer unit) (λ one. refl) (change_message called (with_call number) b.messages)
    ∙ bare_changed called (with_call number) (λ one. refl) b.messages)

bare_more : (notes : Notes) (links : List Route) (more : List MessageTaken) → AllByRecursion (IsItsOwn notes links) more → AllByRecursion (IsItsOwn notes links) (map bare more)
bare_more notes links [] all = tt
bare_more notes links (one ∷ more) all = (all.0, bare_more notes links more all.1)

-- messages that are written down behind others
bare_own : (notes : Notes) (links : List Route) (items more : List MessageTaken) → AllByRecursion (IsItsOwn notes links) (map bare items) → AllByRecursion (IsItsOwn notes links) more →
    AllByRecursion (IsItsOwn notes links) (map bare (items ++ more))
bare_own notes links [] more all others = bare_more notes links more others
bare_own notes links (one ∷ items) more all others = (all.0, bare_own notes links items more all.1 others)

-- the messages of a step
own_taken : (notes : Notes) (links : List Route) (w : LinkAt) (messages : List MessageTaken) → AllByRecursion (IsTakenIn w notes.taken) messages →
    AllByRecursion (λ (one : MessageTaken). IsLinkIn links w.link w.member × OneOf (IsSentOn w.member w.link one.logon.challenge) notes.challenges) messages →
    AllByRecursion (IsItsOwn notes links) messages
own_taken notes links w messages taken own =
    all_zip (IsTakenIn w notes.taken) (λ (one : MessageTaken). IsLinkIn links w.link w.member × OneOf (IsSentOn w.member w.link one.logon.challenge) notes.challenges) (IsItsOwn notes links)
    messages (λ one there its. (
      subst (λ n. IsLinkIn links n one.member) (sym there.0) (subst (λ k. IsLinkIn links w.link k) (sym there.1) its.0),
      subst (λ (m : ℕ). OneOf (IsSentOn m one.link one.logon.challenge) notes.challenges) (sym there.1)
          (subst (λ (n : ℕ). OneOf (IsSentOn w.member n one.logon.challenge) notes.challenges) (sym there.0) its.1),
      subst (λ n. OneOf (λ (link : ℕ). link ≡ n) notes.taken) (sym there.0) there.2,
    )) taken own

-- one more is sent, or none, of a new draw
apart_more : (old sent : List ChallengeSent) (drawn : List (List ℕ)) → AtMostOne sent → AllPairs OfOtherDraw old → AllByRecursion (IsDrawn drawn) old →
    AllByRecursion (λ (one : ChallengeSent). length drawn ≤ one.draw) sent → AllPairs OfOtherDraw (old ++ sent)
apart_more old [] drawn few apart drew late = subst (AllPairs OfOtherDraw) (sym (append-nil old)) apart
apart_more old (one ∷ []) drawn few apart drew late =
    all_pairs_push OfOtherDraw old one apart
    (λ k d lt same.
    let before : (get_or old k d).draw < length drawn = slice_get_within drawn (get_or old k d).draw (get_or old k d).challenge (All-from_recursion (IsDrawn drawn) old drew k d lt) in
    omega (arith, before, late.0, same))
apart_more old (one ∷ other ∷ more) drawn few apart drew late = absurd few

-- a member hears bytes: what it sent and took is written down
messages_heard : (m : MemberState) (at : ℕ) (w : Delivery) (piece : List ℕ) (s : State) (b : Book) → slice_get s.ends.members at ≡ Some m → AreOwn (notes_of b) s.ends.members s.chances.drawn s.links →
    AreOwn (notes_of (note_messages at m w piece s b)) (slice_set s.ends.members at (step_of m (event.Bytes w.link piece) s.moment s.chances.left).state)
    (s.chances.drawn ++ (step_of m (event.Bytes w.link piece) s.moment s.chances.left).drawn) s.links
messages_heard m at w piece s b is kept =
    let l : LinkAt = at_member at w s in
    let units : List (ServedUnit AtLink Talk) = link_units m w.link piece s.moment s.chances.left in
    let step : Stepped MemberState = step_of m (event.Bytes w.link piece) s.moment s.chances.left in
    let sent : List ChallengeSent = flat_map (challenge_note l) units in
    let more : List MessageTaken = flat_map (message_note l) units in
    let taken : List ℕ = flat_map (taken_link l) units in
    let old : Notes = notes_of b in
    let new : Notes = notes_of (note_messages at m w piece s b) in
    let fresh : AllByRecursion (IsSentAt l) sent = all_sent l units in
    let own = bytes_own new.challenges s.links l piece s.moment s.chances.left m
    (in_so (IsOwn b.challenges s.links at) (IsOwn new.challenges s.links at) (λ link p its. own_more b.challenges sent s.links at link p its) m.running (kept.each at m is))
    (sent_among at w.link b.challenges sent (all_weaker (IsSentAt l) (λ (one : ChallengeSent). (one.link ≡ w.link) × (one.member ≡ at)) sent (λ one its. (its.0, its.2)) fresh)) in
    record {
      drew = all_join (IsDrawn (s.chances.drawn ++ step.drawn)) b.challenges sent (drew_more b.challenges s.chances.drawn step.drawn kept.drew)
          (bytes_drawn s.chances.drawn s.chances.left l refl refl piece s.moment m);
      apart = apart_more b.challenges sent s.chances.drawn (bytes_one l piece s.moment s.chances.left m) kept.apart kept.drew
          (all_weaker (IsSentAt l) (λ (one : ChallengeSent). length s.chances.drawn ≤ one.draw) sent (λ one its. its.1) fresh);
      each = each_put (λ (k : ℕ) (one : MemberState). LinksIn (IsOwn new.challenges s.links k) one.running) s.ends.members at step.state
          (λ k one differs there.
          in_so (IsOwn b.challenges s.links k) (IsOwn new.challenges s.links k) (λ link p its. own_more b.challenges sent s.links k link p its) one.running (kept.each k one there))
          own.1;
      messages = bare_own new s.links b.messages more
          (all_weaker (IsItsOwn old s.links) (IsItsOwn new s.links)
          (map bare b.messages) (λ one its. (
            its.0,
            one_before (IsSentOn one.member one.link one.logon.challenge) b.challenges sent its.1,
            one_before (λ (link : ℕ). link ≡ one.link) b.taken taken its.2,
          )) kept.messages)
          (own_taken new s.links l more
          (all_weaker (IsTakenIn l taken) (IsTakenIn l new.taken) more (λ one its. (its.0, its.1, one_behind (λ (link : ℕ). link ≡ w.link) b.taken taken its.2)) (all_taken l units))
          own.0);
    }

member_heard : (m : MemberState) (at : ℕ) (w : Delivery) (piece : List ℕ) (s after : State) (b : Book) → slice_get s.ends.members at ≡ Some m →
    AreOwn (notes_of b) s.ends.members s.chances.drawn s.links →
    AreOwn (notes_of (note_member (Some m) at w piece s after b)) (slice_set s.ends.members at (step_of m (event.Bytes w.link piece) s.moment s.chances.left).state)
    (s.chances.drawn ++ (step_of m (event.Bytes w.link piece) s.moment s.chances.left).drawn) s.links
member_heard m at w piece s after b is kept =
    subst
    (λ (notes : Notes).
    AreOwn notes (slice_set s.ends.members at (step_of m (event.Bytes w.link piece) s.moment s.chances.left).state)
    (s.chances.drawn ++ (step_of m (event.Bytes w.link piece) s.moment s.chances.left).drawn) s.links)
    (sym (asked_leave (OfMember at) w (turn_units m w.link piece s.moment s.chances.left) s after (note_messages at m w piece s b) notes_of turn_notes))
    (messages_heard m at w piece s b is kept)

-- ---- a run

owns_on : KeepsMembers notes_of Owns
owns_on = record {
  of = record {
    controllers = λ answers w s after b. refl;
    every = λ c at w piece s after b. refl;
    clients = λ c at w piece s b. refl;
  };
  given = λ at given after b. refl;
  draws = λ notes members chances later links on kept.
      subst (λ (drawn : List (List ℕ)). AreOwn notes members drawn links) (sym on.is) (own_drew notes members chances.drawn on.more links kept);
  hears = λ notes m at what now members chances links quiet is kept.
      hear_owns notes m at what now members chances links is (quiet_opens what (IsOwn notes.challenges links at) quiet) kept;
  opens = λ notes route members chances links kept. own_linked notes members chances.drawn links route kept;
  accepts = λ notes m at route now members chances links accepts is kept.
      hear_owns notes m at (event.Opened (length links)) now members chances (links ++ route ∷ []) is (last_own notes.challenges links route at accepts)
      (own_linked notes members chances.drawn links route kept);
  comes = λ m at w piece s after b is kept. member_heard m at w piece s after b is kept;
  changes = λ notes secret running at members chances links is none kept. own_put notes members chances.drawn links at (member_begun secret running) kept (kept.each at (record { running = Some running }) is);
  anew = λ notes plan at members chances links kept. own_put notes members chances.drawn links at (fresh_member plan) kept tt;
}

first_owns : (plan : Plan) → AreOwn (notes_of blank) (plain_world plan).state.ends.members (plain_world plan).state.chances.drawn (plain_world plan).state.links
first_owns plan = record { drew = tt; apart = λ i j d lt within. absurd (omega (arith, within)); each = λ k m there. fresh_links plan.members (IsOwn [] [] k) k m there; messages = tt }

-- a message that is its link's own is for its unused challenge, where no two draws are alike and no link took two
own_unused : (run : Past) → AllByRecursion (IsDrawn run.world.state.chances.drawn) run.book.challenges → DrawsDiffer run.world →
    AllPairs (λ (one other : ℕ). one ≢ other) run.book.taken → (one : MessageTaken) → IsItsOwn (notes_of run.book) run.world.state.links one → HasOwnChallenge run one
own_unused run drew differ once one its =
    let drawn : List (List ℕ) = run.world.state.chances.drawn in
    record {
      own = record { route = its.0.route; at = its.0.at; acceptor = its.0.acceptor };
      unused = one_with (IsSentOn one.member one.link one.logon.challenge) (IsDrawn drawn) (IsUnusedChallenge run one)
          (λ sent is there. record {
            link = is.0;
            challenge = is.1;
            drawn = there;
            only = λ other also. one_draw drawn differ sent.challenge sent.draw other there also;
            first = count_one one.link run.book.taken once its.2;
          }) run.book.challenges its.1 drew;
    }

bare_all : (run : Past) → ((one : MessageTaken) → IsItsOwn (notes_of run.book) run.world.state.links one → HasOwnChallenge run one) → (messages : List MessageTaken) →
    AllByRecursion (IsItsOwn (notes_of run.book) run.world.state.links) (map bare messages) → AllByRecursion (λ (one : MessageTaken). HasOwnChallenge run one) messages
bare_all run so [] all = tt
bare_all run so (one ∷ messages) all = (so one all.0, bare_all run so messages all.1)

-- of other draws, where no two are alike, other challenges come
apart_so : (challenges : List ChallengeSent) (drawn : List (List ℕ)) → AllByRecursion (IsDrawn drawn) challenges → AllPairs (λ (one other : List ℕ). one ≢ other) drawn →
    AllPairs OfOtherDraw challenges → AllPairs (λ (one other : ChallengeSent). one.challenge ≢ other.challenge) challenges
apart_so challenges drawn drew differ apart i j d lt within same =
    let one : ChallengeSent = get_or challenges i d in
    let other : ChallengeSent = get_or challenges j d in
    apart i j d lt within
    (one_draw drawn differ other.challenge other.draw one.draw (All-from_recursion (IsDrawn drawn) challenges drew j d within)
    (All-from_recursion (IsDrawn drawn) challenges drew i d (omega (arith, lt, within)) ∙ ap (λ (challenge : List ℕ). Some challenge) same))

-- in every run each link has its own CHALLENGE
pub links_own : (plan : Plan) (moves : List Move) → IsPlainPlan plan →
    AreOwn (notes_of (past plan moves).book) (past plan moves).world.state.ends.members (past plan moves).world.state.chances.drawn (past plan moves).world.state.links
links_own plan moves nothing = members_after notes_of Owns owns_on plan moves nothing (first_owns plan)

-- in every run whose draws differ each message is for the own unused challenge of its link
pub messages_own : (plan : Plan) (moves : List Move) → IsPlainPlan plan → DrawsDiffer (past plan moves).world → MessagesHaveOwnChallenges (past plan moves)
messages_own plan moves nothing differ =
    let run : Past = past plan moves in
    let kept : AreOwn (notes_of run.book) run.world.state.ends.members run.world.state.chances.drawn run.world.state.links = links_own plan moves nothing in
    record {
      each = bare_all run (own_unused run kept.drew differ (messages_once plan moves nothing)) run.book.messages kept.messages;
      apart = apart_so run.book.challenges run.world.state.chances.drawn kept.drew differ kept.apart;
    }
