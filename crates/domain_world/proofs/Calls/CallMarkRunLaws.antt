-- In every run of a plain plan the unit of a message's call is marked as a call on a channel with the controller
-- of that member's plan. It rests on what members keep, and on which unit gets which mark, so it doesn't matter what
-- controllers do. It serves `Proved.call_marks`.
use Rattle.std.proofs.Common.{◌≡◌, ℕ, false, List, [], ◌∷◌, ◌++◌, drop, length, map, Option, Some, None, refl, sym, ap, subst, ◌∙◌, slice_get}
use Rattle.std.specs.Prelude.{flat_map}
use Rattle.std.proofs.lemmas.List.{length-set}
use Rattle.outside.specs.declared.event.Event.{Event}
use Rattle.outside.specs.declared.event.Event.TheVariants as event
use Rattle.end_links.specs.Serving.{ServedUnit}
use Rattle.member_server.specs.State.{State as MemberState}
use Rattle.member_server.specs.Turns.{AtTurn}
use Rattle.member_server.specs.declared.state.Logon.{Logon}
use Rattle.channel_turns.specs.declared.state.TurnTalk.{TurnTalk}
use Rattle.channel_events.specs.Marks.{Mark}
use Rattle.wire_base.proofs.AllLaws.{all_join, all_zip}
use Rattle.wire_base.proofs.ListLaws.{all_weaker, got_append, one_found}
use Rattle.step_notes.specs.Marking.{turn_marks}
use Rattle.step_notes.specs.MemberNotes.{link_units, message_note, turn_note, turn_units}
use Rattle.step_notes.specs.Records.{Book, MessageTaken, OfMember, Sent, blank, unit_in}
use Rattle.step_notes.proofs.Members.KeptLogonLaws.{HasFor, IsFor, kept_so}
use Rattle.world_moves.specs.declared.links.EndId.{EndId}
use Rattle.world_moves.specs.declared.links.EndId.TheVariants.{Member}
use Rattle.world_moves.specs.declared.links.Route.{Route}
use Rattle.world_moves.specs.declared.moves.Move.{Move}
use Rattle.world_moves.specs.declared.plan.Plan.{Plan}
use Rattle.world_moves.specs.declared.state.State.{State}
use Rattle.world_moves.specs.Acting.{Given, forget}
use Rattle.world_moves.specs.Ends.{EndStates, EndStep}
use Rattle.world_moves.specs.Links.{acceptor_of}
use Rattle.world_moves.specs.MemberPlans.{AreAlikeButSecrets}
use Rattle.world_moves.specs.Moving.{begun, changed, with_link}
use Rattle.world_moves.specs.Plain.{IsPlainPlan, hear_plain as hear, plain_member_step as member_step, plain_world, renewed_plain as renewed}
use Rattle.world_moves.proofs.KeptLaws.{plans_alike}
use Rattle.world_moves.proofs.PlainKindLaws.{plain_by, renew_plain_by}
use Rattle.domain_world.specs.Claims.MarkedUnits.{CallsAreMarked, IsMarkedAsCall}
use Rattle.domain_world.specs.Past.{Delivery, Past, at_member, controller_asked, marks_of, note_at, note_member, note_messages, numbers_on, past, sent_at}
use Rattle.domain_world.proofs.Acceptance.LetInLaws.{IsKept, Late, first_kept, kept_on}
use Rattle.domain_world.proofs.Acceptance.LetInStepLaws.{IsAcceptedBy, IsDialledBy}
use Rattle.domain_world.proofs.Acceptance.Turns.TurnFactLaws.{SameEnds}
use Rattle.domain_world.proofs.Acceptance.Turns.TurnQuietLaws.{change_same, same_ends}
use Rattle.domain_world.proofs.Calls.CallMarkLaws.{IsCallMark, turns_marked}
use Rattle.domain_world.proofs.Calls.CalledUnitLaws.{AllGood, IsGood, good_so, notes_good, turns_good}
use Rattle.domain_world.proofs.Calls.WholeOutLaws.{AreAccepted, noted_accepted, one_acceptor}
use Rattle.domain_world.proofs.Frames.BagFrameLaws.{IsServer}
use Rattle.domain_world.proofs.Frames.EndFrameLaws.{OfMoves, ends_in, ends_keep_by}
use Rattle.domain_world.proofs.Frames.EveryStepLaws.{act_plain, every_acted, stepped}
use Rattle.domain_world.proofs.Frames.MoveFrameLaws.{HoldsAfterMoves}
use Rattle.domain_world.proofs.Frames.MoveKeepLaws.{Both, KeepsMovesBy, MoveFact, NoSide, beside, every, join_moves, started}
use Rattle.domain_world.proofs.Frames.PlainFrameLaws.{moves_keep_plain}
use Rattle.domain_world.proofs.Frames.TurnFrameLaws.{notes_keep, turns_sent}
use Rattle.domain_world.proofs.Messages.CallMessageLaws.{AllHold, EachFits, all_fit}
use Rattle.domain_world.proofs.Messages.NewMessageLaws.{new_accepted}
use Rattle.domain_world.proofs.Moves.EvenLaws.{EvenFact, even_keep, first_even}
use Rattle.domain_world.proofs.Moves.MarkNumberLaws.{AtNumbers, IsGiven, IsMarkedAs, given_marked, marks_numbered, numbers_so}
use Rattle.domain_world.proofs.Moves.RequesterLaws.{asked_stays}

-- ---- what is to hold

-- a member accepted that link, and the unit is marked as a call on a channel with the controller that the member asks
record IsCallOn (plan : Plan) (links : List Route) (sent : List Sent) (link n : ℕ) : Type 0 where
  member : ℕ
  accepted : IsAcceptedBy links member link
  mark : Mark
  marked : IsMarkedAs sent n mark
  call : IsCallMark (controller_asked (OfMember member) (plain_world plan).state) mark

-- each message came on a link that its member accepted, and the unit of its call is marked as a call (`IsCallOn`)
record CallsStand (plan : Plan) (links : List Route) (messages : List MessageTaken) (sent : List Sent) : Type 0 where
  accepted : AreAccepted links messages
  calls : AllGood (IsCallOn plan links sent) messages

-- the plans of the members stay but for their secrets, as many ends stay, and each call has its mark (`CallsStand`)
abbrev CallFact : Plan → MoveFact
CallFact plan n p s given b = AreAlikeButSecrets plan.members s.member_plans × SameEnds (plain_world plan).state.ends s.ends × CallsStand plan s.links b.messages b.sent

-- How calls are marked rests on what members keep, and on each unit's mark where bytes come.
abbrev SideFact : MoveFact
SideFact = Both (OfMoves IsKept) EvenFact

-- ---- how many ends there are

ends_on : (first middle last : EndStates) → SameEnds first middle → SameEnds middle last → SameEnds first last
ends_on first middle last one other =
    record { controllers = one.controllers ∙ other.controllers; members = one.members ∙ other.members; clients = one.clients ∙ other.clients; stations = one.stations ∙ other.stations }

hear_same : (end : EndId) (what : Event) (s : State) → SameEnds s.ends (hear end what s).state.ends
hear_same end what s =
    plain_by (λ (one : EndId) (step : EndStep). SameEnds s.ends step.ends) what s.moment s.ends s.chances (λ one. same_ends s.ends)
    (λ at c is. record { controllers = sym (length-set s.ends.controllers at _); members = refl; clients = refl; stations = refl })
    (λ at m is. record { controllers = refl; members = sym (length-set s.ends.members at _); clients = refl; stations = refl })
    (λ at c is. record { controllers = refl; members = refl; clients = sym (length-set s.ends.clients at _); stations = refl }) end

renew_same : (end : EndId) (s : State) → SameEnds s.ends (renewed end s).ends
renew_same end s =
    renew_plain_by (λ (one : EndId) (ends : EndStates). SameEnds s.ends ends) s (λ one. same_ends s.ends)
    (λ at c is. record { controllers = sym (length-set s.ends.controllers at _); members = refl; clients = refl; stations = refl })
    (λ at plan is. record { controllers = refl; members = sym (length-set s.ends.members at _); clients = refl; stations = refl })
    (λ at plan is. record { controllers = refl; members = refl; clients = sym (length-set s.ends.clients at _); stations = refl }) end

-- ---- what is to hold of calls stays

-- a unit that is written down with a mark stays so as more are
marked_more : (sent more : List Sent) (n : ℕ) (mark : Mark) → IsMarkedAs sent n mark → IsMarkedAs (sent ++ more) n mark
marked_more sent more n mark it = record { one = it.one; there = got_append sent more n it.one it.there; is = it.is }

call_more : (plan : Plan) (links : List Route) (sent more : List Sent) (link n : ℕ) → IsCallOn plan links sent link n → IsCallOn plan links (sent ++ more) link n
call_more plan links sent more link n it = record {
  member = it.member;
  accepted = it.accepted;
  mark = it.mark;
  marked = marked_more sent more n it.mark it.marked;
  call = it.call;
}

stand_more : (plan : Plan) (links : List Route) (messages : List MessageTaken) (sent more : List Sent) → CallsStand plan links messages sent → CallsStand plan links messages (sent ++ more)
stand_more plan links messages sent more stand = record {
  accepted = stand.accepted;
  calls = good_so (IsCallOn plan links sent) (IsCallOn plan links (sent ++ more)) (λ link n it. call_more plan links sent more link n it) messages stand.calls;
}

-- a link that a member accepted stays so as a link is made
accepted_more : (links : List Route) (route : Route) (k link : ℕ) → IsAcceptedBy links k link → IsAcceptedBy (links ++ route ∷ []) k link
accepted_more links route k link it = record { route = it.route; at = got_append links (route ∷ []) link it.route it.at; acceptor = it.acceptor }

call_linked : (plan : Plan) (links : List Route) (route : Route) (sent : List Sent) (link n : ℕ) → IsCallOn plan links sent link n → IsCallOn plan (links ++ route ∷ []) sent link n
call_linked plan links route sent link n it =
    record { member = it.member; accepted = accepted_more links route it.member link it.accepted; mark = it.mark; marked = it.marked; call = it.call }

stand_linked : (plan : Plan) (links : List Route) (route : Route) (messages : List MessageTaken) (sent : List Sent) → CallsStand plan links messages sent →
    CallsStand plan (links ++ route ∷ []) messages sent
stand_linked plan links route messages sent stand = record {
  accepted = all_weaker (λ (message : MessageTaken). IsAcceptedBy links message.member message.link)
      (λ (message : MessageTaken). IsAcceptedBy (links ++ route ∷ []) message.member message.link) messages
      (λ message it. accepted_more links route message.member message.link it) stand.accepted;
  calls = good_so (IsCallOn plan links sent) (IsCallOn plan (links ++ route ∷ []) sent) (λ link n it. call_linked plan links route sent link n it) messages stand.calls;
}

-- ---- bytes come at a member

-- each logon that a member keeps came on a link that the member accepted
logon_accepted : (X : Type 0) (most : ℕ) (links : List Route) (messages : List MessageTaken) (k place : ℕ) (logon : Logon) → AreAccepted links messages → HasFor X most k messages place logon →
    IsAcceptedBy links k logon.link
logon_accepted X most links messages k place logon accepted has =
    let found = one_found (IsFor X most k place logon) (λ (message : MessageTaken). IsAcceptedBy links message.member message.link) messages accepted has in
    subst (λ (link : ℕ). IsAcceptedBy links k link) found.1.link (subst (λ (j : ℕ). IsAcceptedBy links j found.0.link) found.1.same_member found.2)

module _ (plan : Plan) (m : MemberState) (at : ℕ) (w : Delivery) (piece : List ℕ) (s after : State) (given : Given) (b : Book) (there : slice_get s.ends.members at ≡ Some m)
    (kept : IsKept w.at (Some w) (ends_in s) given b) (plans : AreAlikeButSecrets plan.members s.member_plans) (same : SameEnds (plain_world plan).state.ends s.ends) where
  abbrev IsOwnLink : ℕ → Type 0
  IsOwnLink link = IsAcceptedBy s.links at link

  abbrev OwnLogon : ℕ → Logon → Type 0
  OwnLogon place logon = IsOwnLink logon.link

  abbrev now_units : List (ServedUnit AtTurn TurnTalk)
  now_units = turn_units m w.link piece s.moment s.chances.left

  units_fit : AreAccepted s.links b.messages → AllHold (EachFits OwnLogon) now_units
  units_fit accepted =
      let late : Type 0 = Late (Some w) s.links at in
      let own : ℕ → Type 0 = λ number. IsDialledBy s.links at number in
      all_fit OwnLogon own m w.link piece s.moment s.chances.left
      (kept_so (HasFor late w.at at b.messages) OwnLogon own own (λ place logon has. logon_accepted late w.at s.links b.messages at place logon accepted has) (λ number dialled. dialled) m.running
      (kept.keeps.each at m there))

  member_stands : length b.sent ≡ length s.bag → CallsStand plan s.links b.messages b.sent →
      let now : Book = note_member (Some m) at w piece s after b in CallsStand plan s.links now.messages now.sent
  member_stands even stand =
      let controller : ℕ = controller_asked (OfMember at) s in
      let marks : List Mark = turn_marks (map (turn_note controller) now_units) in
      let placed : List Mark = marks_of w.link false (drop (length s.bag) after.bag) marks in
      let numbers : List ℕ = numbers_on w.link false s.bag after.bag in
      let sent : List Sent = b.sent ++ map (sent_at w.at) placed in
      let first : Book = note_messages at m w piece s b in
      let new : List MessageTaken = flat_map (message_note (at_member at w s)) (link_units m w.link piece s.moment s.chances.left) in
      let now : Book = note_member (Some m) at w piece s after b in
      let Good : ℕ → ℕ → Type 0 = IsCallOn plan s.links sent in
      let numbered : AtNumbers (IsMarkedAs sent) marks numbers =
      numbers_so (IsGiven placed (length s.bag)) (IsMarkedAs sent) (λ k mark it. given_marked b.sent (length s.bag) w.at placed k mark even it) marks numbers
      (marks_numbered w.link false (drop (length s.bag) after.bag) marks (length s.bag)) in
      let calls : AllGood Good now.messages =
      turns_good Good controller now_units (unit_in w.source) numbers first
      (turns_marked (IsMarkedAs sent) IsOwnLink Good controller
      (λ link k mark own marked call. record {
        member = at;
        accepted = own;
        mark = mark;
        marked = marked;
        call = subst (λ (number : ℕ). IsCallMark number mark) (asked_stays at (plain_world plan).state s plans same) call;
      }) now_units numbers (units_fit stand.accepted) numbered)
      (all_join (IsGood Good) b.messages new
      (good_so (IsCallOn plan s.links b.sent) Good (λ link k it. call_more plan s.links b.sent (map (sent_at w.at) placed) link k it) b.messages stand.calls)
      (notes_good Good (at_member at w s) (link_units m w.link piece s.moment s.chances.left))) in
      let sends : now.sent ≡ sent = ap (λ (old : List Sent). old ++ map (sent_at w.at) placed) (turns_sent (OfMember at) w now_units s after first) in
      record {
        accepted = notes_keep (λ (book : Book). AreAccepted s.links book.messages) (unit_in w.source)
            (λ note served number old all. noted_accepted s.links note served.work.work.logons (unit_in w.source) number old.messages all) controller now_units numbers first
            (all_join (λ (message : MessageTaken). IsAcceptedBy s.links message.member message.link) b.messages new stand.accepted
            (new_accepted s.links (at_member at w s) m piece s.moment s.chances.left (kept.keeps.accepts at m there)));
        calls = subst (λ (all : List Sent). AllGood (IsCallOn plan s.links all) now.messages) (sym sends) calls;
      }

-- ---- through all moves

module _ (plan : Plan) where
  end_stands : (end : EndId) (w : Delivery) (piece : List ℕ) (s : State) (given : Given) (b : Book) → IsKept w.at (Some w) (ends_in s) given b → (IsServer end → length b.sent ≡ length s.bag) →
      AreAlikeButSecrets plan.members s.member_plans → SameEnds (plain_world plan).state.ends s.ends → CallsStand plan s.links b.messages b.sent →
      let now : Book = note_at (Some end) w piece s (act_plain end (event.Bytes w.link piece) s).state b in CallsStand plan s.links now.messages now.sent
  end_stands end w piece s given b kept even plans same stand =
      every_acted (λ (one : EndId) (step : EndStep) (after : State) (now : Book). (IsServer one → length b.sent ≡ length s.bag) → CallsStand plan s.links now.messages now.sent) w piece s b
      (λ one all. stand) (λ at c there all. stand_more plan s.links b.messages b.sent _ stand)
      (λ at m there all.
      member_stands plan m at w piece s (stepped (Member at) (member_step (Some m) at (event.Bytes w.link piece) s.moment s.ends s.chances) s) given b there kept plans same (all refl) stand)
      (λ at c there all. stand) end even

  heard_so : (end : EndId) (what : Event) (s : State) → SameEnds (plain_world plan).state.ends s.ends → SameEnds (plain_world plan).state.ends (hear end what s).state.ends
  heard_so end what s same = ends_on (plain_world plan).state.ends s.ends (hear end what s).state.ends same (hear_same end what s)

  calls_keep : KeepsMovesBy every ⊥ SideFact (CallFact plan)
  calls_keep = record {
    closes = λ n p end link s given b work side holds. (holds.0, heard_so end (event.Closed link) s holds.1, holds.2);
    opens = λ n at dial route s given b out side holds. (
      holds.0,
      heard_so (acceptor_of route) (event.Opened (length s.links)) (with_link route s) holds.1,
      stand_linked plan s.links route b.messages b.sent holds.2,
    );
    dialled = λ n at end link s given b here side holds. (holds.0, heard_so end (event.Dialled link) s holds.1, holds.2);
    fails = λ n at end s b side holds. (holds.0, heard_so end event.DialFailed s holds.1, holds.2);
    begins = λ n at client own s b is side holds. (
      holds.0,
      ends_on (plain_world plan).state.ends s.ends (begun client own s).state.ends holds.1 (record { controllers = refl; members = refl; clients = sym (length-set s.ends.clients client _); stations = refl }),
      holds.2,
    );
    comes = λ n end w piece s given b here came bytes side holds. (
      holds.0,
      heard_so end (event.Bytes w.link piece) s holds.1,
      end_stands end w piece s given b side.0 (λ server. side.1.all end here server) holds.0 holds.1 holds.2,
    );
    reaches = λ n w s given b side holds. holds;
    acts = λ n p end what s given b work side holds. (plans_alike end what s.member_plans ∙ holds.0, holds.1, holds.2);
    shuts = λ n p link s given b work side holds. holds;
    answers = λ n at dial link there s given b is side holds. holds;
    forgets = λ n at end s b side holds. holds;
    settles = λ n at on number s b side holds. holds;
    dials = λ n at dial s b is side holds. holds;
    renews = λ n at end s b side holds. (
      holds.0,
      ends_on (plain_world plan).state.ends s.ends (renewed end (forget end s)).ends holds.1 (renew_same end (forget end s)),
      holds.2,
    );
    changes = λ n at member secret s b formed side holds. (
      holds.0,
      ends_on (plain_world plan).state.ends s.ends (changed member secret s).state.ends holds.1 (change_same member secret s),
      holds.2,
    );
    ticks = λ n at more s b side holds. holds;
    over = λ n at on next s given b side holds. (holds.0, holds.1, stand_more plan s.links b.messages b.sent _ holds.2);
  }

  abbrev CallFacts : MoveFact
  CallFacts = Both SideFact (CallFact plan)

  facts_keep : KeepsMovesBy every ⊥ NoSide CallFacts
  facts_keep =
      join_moves ⊥ SideFact (CallFact plan)
      (join_moves ⊥ (OfMoves IsKept) EvenFact (ends_keep_by every IsKept kept_on ⊥) (beside ⊥ (OfMoves IsKept) EvenFact (even_keep ⊥))) calls_keep

  facts_first : (on : Option Delivery) → CallFacts 0 (started 0 on) (plain_world plan).state [] blank
  facts_first on = ((first_kept plan on, first_even plan on), (refl, same_ends (plain_world plan).state.ends, record { accepted = tt; calls = tt }))

-- the unit of each message's call is marked as a call, after every run of a plain plan
pub calls_marked : (plan : Plan) (moves : List Move) → IsPlainPlan plan → CallsAreMarked (past plan moves)
calls_marked plan moves nothing =
    let p : Past = past plan moves in
    let after : HoldsAfterMoves ⊥ (CallFacts plan) plan moves = moves_keep_plain ⊥ (CallFacts plan) (facts_keep plan) plan moves nothing (λ none. absurd none) (facts_first plan) in
    let holds : CallFact plan after.steps (started p.world.moves None) p.world.state [] p.book = after.holds.1 in
    all_zip (IsGood (IsCallOn plan p.world.state.links p.book.sent)) (λ (message : MessageTaken). IsAcceptedBy p.world.state.links message.member message.link)
    (λ (message : MessageTaken). (n : ℕ) → message.call ≡ Some n → IsMarkedAsCall p message.member n) p.book.messages
    (λ message good accepted n is.
    let it : IsCallOn plan p.world.state.links p.book.sent message.link n = good n is in
    let member : it.member ≡ message.member = one_acceptor p.world.state.links it.member message.member message.link it.accepted accepted in
    record {
      sent = it.marked.one;
      there = it.marked.there;
      channel = it.call.channel;
      number = it.call.number;
      timestamp = it.call.timestamp;
      mark = it.marked.is ∙ it.call.is;
      controller = it.call.named
          ∙ ap (λ (k : ℕ). controller_asked (OfMember k) (plain_world plan).state) member
          ∙ sym (asked_stays message.member (plain_world plan).state p.world.state holds.0 holds.1);
    }) holds.2.calls holds.2.accepted
