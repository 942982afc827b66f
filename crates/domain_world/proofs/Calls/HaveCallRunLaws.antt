-- In every run of a plain plan a message whose answer was taken has a call: a member takes an answer in a turn
-- whose call is out, and each call that goes out is written down with its number, however many units come in one piece.
-- It serves `Proved.have_calls`.
use Rattle.std.proofs.Common.{◌≡◌, ℕ, false, List, [], length, inl, inr, Option, Some, None, sym, ap, ◌∙◌, subst, slice_get, slice_set}
use Rattle.std.specs.Prelude.{flat_map}
use Rattle.wire_base.specs.Lists.{OneOf}
use Rattle.wire_base.proofs.ListLaws.{one_weaker}
use Rattle.wire_base.proofs.ListPlaceLaws.{Placed, all_by_place, apart_same, placed}
use Rattle.outside.specs.declared.event.Event.{Event}
use Rattle.outside.specs.declared.event.Event.TheVariants as event
use Rattle.end_links.specs.Serving.{ServedUnit}
use Rattle.domain_controller.proofs.TrustPlaceLaws.{got_all}
use Rattle.channel_turns.specs.declared.state.TurnTalk.{TurnTalk}
use Rattle.member_server.specs.Machine.{fresh_member, step_of}
use Rattle.member_server.specs.State.{State as MemberState}
use Rattle.member_server.specs.Turns.{AtTurn}
use Rattle.member_server.specs.declared.plan.MemberPlan.{MemberPlan}
use Rattle.member_server.specs.declared.state.Logon.{Logon}
use Rattle.member_server.specs.declared.state.Running.{Running}
use Rattle.step_notes.specs.CallLogons.{AsksUnlessStopped}
use Rattle.step_notes.specs.MemberNotes.{link_units, message_note, turn_units}
use Rattle.step_notes.specs.Records.{Book, MessageTaken, OfMember, unit_in}
use Rattle.step_notes.specs.Served.{units_if_taken}
use Rattle.step_notes.proofs.Members.CallKeptLaws.{change_asks, fresh_asks, step_asks}
use Rattle.step_notes.proofs.Members.KeptLogonLaws.{Dials, HasFor, IsFor, KeptIn, each_so, one_before}
use Rattle.world_moves.specs.declared.links.EndId.{EndId}
use Rattle.world_moves.specs.declared.links.EndId.TheVariants.{Member}
use Rattle.world_moves.specs.declared.moves.Move.{Move}
use Rattle.world_moves.specs.declared.plan.Plan.{Plan}
use Rattle.world_moves.specs.declared.state.State.{State}
use Rattle.world_moves.specs.Acting.{Given, forget}
use Rattle.world_moves.specs.Ends.{EndStates, EndStep}
use Rattle.world_moves.specs.Links.{acceptor_of}
use Rattle.world_moves.specs.Moving.{changed, with_link}
use Rattle.world_moves.specs.Plain.{IsPlainPlan, hear_plain as hear, plain_member_step as member_step, plain_world, renewed_plain as renewed}
use Rattle.world_moves.proofs.ChangeLaws.{by_change, member_begun}
use Rattle.world_moves.proofs.PlainKindLaws.{members_plain, renew_plain_by}
use Rattle.domain_world.specs.Claims.MarkedUnits.{AnswersHaveCalls}
use Rattle.domain_world.specs.Past.{Delivery, at_member, controller_asked, note_at, note_member, note_messages, note_turns, numbers_on, past}
use Rattle.domain_world.proofs.Acceptance.LetInLaws.{IsKept, Late, first_kept, kept_on}
use Rattle.domain_world.proofs.Acceptance.LetInStepLaws.{IsDialledBy}
use Rattle.domain_world.proofs.Acceptance.Turns.TurnNotedLaws.{units_new}
use Rattle.domain_world.proofs.Calls.AnsweredCallLaws.{AreCalled, CalledFor, HasCalled, IfAnswered, IsCalledOn, called_more}
use Rattle.domain_world.proofs.Calls.CallComesLaws.{if_none, units_in_none}
use Rattle.domain_world.proofs.Calls.CallFrameLaws.{TurnOn, dialled_on, turn_case}
use Rattle.domain_world.proofs.Calls.OutStepLaws.{Any, IsOther, StaysBy, bytes_out, none_out, quiet_out}
use Rattle.domain_world.proofs.Calls.TurnCalledLaws.{AreNumbered, HasOn, KeepsCalled, step_called, turns_stay, units_numbered}
use Rattle.domain_world.proofs.Frames.EndFrameLaws.{OfMoves, ends_in, ends_keep_by}
use Rattle.domain_world.proofs.Frames.EventLaws.{by_no_bytes}
use Rattle.domain_world.proofs.Frames.EveryStepLaws.{act_plain, every_acted, stepped}
use Rattle.domain_world.proofs.Frames.MoveFrameLaws.{HoldsAfterMoves}
use Rattle.domain_world.proofs.Frames.MoveKeepLaws.{Both, KeepsMovesBy, MoveFact, every, join_moves}
use Rattle.domain_world.proofs.Frames.PlainFrameLaws.{moves_keep_plain}
use Rattle.domain_world.proofs.Messages.MessageApartLaws.{messages_apart}
use Rattle.domain_world.proofs.Messages.MessageOnceLaws.{set_cases}
use Rattle.domain_world.proofs.Moves.MarkPlaceLaws.{got_map}
use Rattle.domain_world.proofs.Moves.NoBytesLaws.{IsNoBytes}

-- ---- what is to hold

-- A member asks for what it keeps, and where its turn waits for the answer to a Logon call, the call is written down.
record HasCalls (messages : List MessageTaken) (r : Option Running) : Type 0 where
  asks : AsksUnlessStopped r
  called : CalledFor messages r

-- `HasCalls` holds of each member, and each message whose answer was taken has a call
record HaveCalls (members : List MemberState) (messages : List MessageTaken) : Type 0 where
  each : (k : ℕ) (m : MemberState) → slice_get members k ≡ Some m → HasCalls messages m.running
  answered : AreCalled messages

abbrev HaveFact : MoveFact
HaveFact n p s given b = HaveCalls s.ends.members b.messages

-- ---- what is to hold of messages stays

stays_called : (messages : List MessageTaken) → StaysBy (HasCalled messages)
stays_called messages old new pending logon stays one = one

put_calls : (members : List MemberState) (messages : List MessageTaken) (at : ℕ) (new : MemberState) → HasCalls messages new.running → HaveCalls members messages →
    HaveCalls (slice_set members at new) messages
put_calls members messages at new own have = record {
  each = λ k m there. elim (set_cases members at k new m there) [
    | inl here ↦ subst (λ (x : MemberState). HasCalls messages x.running) here.1 own
    | inr other ↦ have.each k m other.1
  ];
  answered = have.answered;
}

fresh_calls : (messages : List MessageTaken) (plan : MemberPlan) → HasCalls messages (fresh_member plan).running
fresh_calls messages plan = record { asks = fresh_asks plan; called = λ pending logon turn reply there. absurd (none_out pending turn) }

dials_any : (what : Event) → IsNoBytes what → Dials Any what
dials_any what none = by_no_bytes (λ (one : Event). Dials Any one) (λ link. tt) (λ link. tt) (λ link. tt) tt tt what none

-- an end hears something else than bytes
hear_calls : (end : EndId) (what : Event) (s : State) (messages : List MessageTaken) → IsNoBytes what → HaveCalls s.ends.members messages → HaveCalls (hear end what s).state.ends.members messages
hear_calls end what s messages none have =
    members_plain what s.moment s.ends s.chances (λ (one : EndId) (members : List MemberState). HaveCalls members messages) (λ one. have)
    (λ at m is.
    put_calls s.ends.members messages at (step_of m what s.moment s.chances.left).state (record {
      asks = step_asks m what s.moment s.chances.left (have.each at m is).asks;
      called = quiet_out (HasCalled messages) (stays_called messages) m.running what s.moment s.chances.left (dials_any what none) (have.each at m is).asks (have.each at m is).called;
    }) have) end

renew_calls : (end : EndId) (s : State) (messages : List MessageTaken) → HaveCalls s.ends.members messages → HaveCalls (renewed end s).ends.members messages
renew_calls end s messages have =
    renew_plain_by (λ (one : EndId) (ends : EndStates). HaveCalls ends.members messages) s (λ one. have) (λ at c is. have)
    (λ at plan is. put_calls s.ends.members messages at (fresh_member plan) (fresh_calls messages plan) have) (λ at plan is. have) end

change_calls : (at : ℕ) (secret : List ℕ) (s : State) (messages : List MessageTaken) → HaveCalls s.ends.members messages → HaveCalls (changed at secret s).state.ends.members messages
change_calls at secret s messages have =
    by_change (λ (ends : EndStates) (actions : List _). HaveCalls ends.members messages) at secret s.ends have
    (λ running is none.
    let own : HasCalls messages (Some running) = have.each at (record { running = Some running }) is in
    put_calls s.ends.members messages at (member_begun secret running) (record { asks = change_asks secret running none own.asks; called = own.called }) have)

-- ---- bytes come at a member

calls_so : (messages more : List MessageTaken) → ((link : ℕ) → OneOf (IsCalledOn link) messages → OneOf (IsCalledOn link) more) → (r : Option Running) → CalledFor messages r → CalledFor more r
calls_so messages more so None called = tt
calls_so messages more so (Some running) called = λ pending logon turn reply there. so logon.link (called pending logon turn reply there)

has_on : (X : Type 0) (most member : ℕ) (messages : List MessageTaken) (place : ℕ) (logon : Logon) → HasFor X most member messages place logon → HasOn messages place logon
has_on X most member messages place logon has =
    one_weaker (IsFor X most member place logon) (λ (message : MessageTaken). message.link ≡ logon.link) messages (λ message is. is.link) has

module _ (m : MemberState) (at : ℕ) (w : Delivery) (piece : List ℕ) (s : State) (given : Given) (b : Book) (there : slice_get s.ends.members at ≡ Some m)
    (kept : IsKept w.at (Some w) (ends_in s) given b) (have : HaveCalls s.ends.members b.messages) where
  abbrev after : State
  after = stepped (Member at) (member_step (Some m) at (event.Bytes w.link piece) s.moment s.ends s.chances) s

  abbrev controller : ℕ
  controller = controller_asked (OfMember at) s

  abbrev carried : Option ℕ
  carried = unit_in w.source

  abbrev numbers : List ℕ
  numbers = numbers_on w.link false s.bag after.bag

  abbrev first : Book
  first = note_messages at m w piece s b

  abbrev news : List MessageTaken
  news = flat_map (message_note (at_member at w s)) (link_units m w.link piece s.moment s.chances.left)

  abbrev units : List (ServedUnit AtTurn TurnTalk)
  units = turn_units m w.link piece s.moment s.chances.left

  abbrev new : MemberState
  new = (step_of m (event.Bytes w.link piece) s.moment s.chances.left).state

  -- the messages that are written down once these units of the turn are
  abbrev with_units : List (ServedUnit AtTurn TurnTalk) → List MessageTaken
  with_units all = (note_turns controller all carried numbers first).messages

  abbrev own : ℕ → Type 0
  own number = IsDialledBy s.links at number

  -- what a member's step comes to where bytes come
  record Comes : Type 0 where
    numbered : AreNumbered controller units numbers
    called : CalledFor (with_units units) new.running
    answered : AreCalled (with_units units)

  more : (link : ℕ) → OneOf (IsCalledOn link) b.messages → OneOf (IsCalledOn link) first.messages
  more link one = one_before (IsCalledOn link) b.messages news one

  answered_first : AreCalled first.messages
  answered_first = called_more b.messages news (units_new (at_member at w s) (link_units m w.link piece s.moment s.chances.left)) have.answered

  mine : HasCalls b.messages m.running
  mine = have.each at m there

  -- bytes come on another link than that of the member's turn
  other_comes : IsOther m.running w.link → Comes
  other_comes other =
      let none : units ≡ [] =
      ap (λ (all : List (ServedUnit AtTurn TurnTalk)). units_if_taken (step_of m (event.Bytes w.link piece) s.moment s.chances.left).answer all)
      (units_in_none m.running w.link piece s.chances.left other)
      ∙ if_none (step_of m (event.Bytes w.link piece) s.moment s.chances.left).answer in
      record {
        numbered = subst (λ (all : List (ServedUnit AtTurn TurnTalk)). AreNumbered controller all numbers) (sym none) tt;
        called = subst (λ (all : List (ServedUnit AtTurn TurnTalk)). CalledFor (with_units all) new.running) (sym none)
            (bytes_out (HasCalled first.messages) (stays_called first.messages) m.running w.link piece s.moment s.chances.left other mine.asks
            (calls_so b.messages first.messages more m.running mine.called));
        answered = subst (λ (all : List (ServedUnit AtTurn TurnTalk)). AreCalled (with_units all)) (sym none) answered_first;
      }

  turn_called : (running : Running) → m ≡ record { running = Some running } → KeepsCalled first.messages running.logons
  turn_called running is =
      let late : Type 0 = Late (Some w) s.links at in
      let its : KeptIn (HasFor late w.at at b.messages) own (Some running) = subst (λ (x : MemberState). KeptIn (HasFor late w.at at b.messages) own x.running) is (kept.keeps.each at m there) in
      record {
        each = each_so (HasFor late w.at at b.messages) (HasOn first.messages)
            (λ place logon has. one_before (λ (message : MessageTaken). message.link ≡ logon.link) b.messages news (has_on late w.at at b.messages place logon has)) running.logons.asked its.0;
        out = calls_so b.messages first.messages more (Some running) (subst (λ (x : MemberState). CalledFor b.messages x.running) is mine.called);
      }

  -- bytes come on the link of the member's turn
  turn_comes : TurnOn m.running w.link → Comes
  turn_comes on =
      let late : Type 0 = Late (Some w) s.links at in
      let is : m ≡ record { running = Some on.running } = ap (λ (r : Option Running). record { running = r }) on.runs in
      let numbered : AreNumbered controller units numbers = units_numbered m at w piece s controller (dialled_on (HasFor late w.at at b.messages) own m.running w.link on (kept.keeps.each at m there)) in
      let both : CalledFor (with_units units) new.running × AreCalled (with_units units) =
      subst (λ (x : MemberState).
      AreNumbered controller (turn_units x w.link piece s.moment s.chances.left) numbers →
      CalledFor (with_units (turn_units x w.link piece s.moment s.chances.left)) (step_of x (event.Bytes w.link piece) s.moment s.chances.left).state.running
      × AreCalled (with_units (turn_units x w.link piece s.moment s.chances.left))) (sym is)
      (step_called controller carried w.link piece s.moment s.chances.left on.running on.said on.on numbers first
      (subst (λ (x : MemberState). AsksUnlessStopped x.running) is mine.asks) (turn_called on.running is) answered_first) numbered in
      record { numbered = numbered; called = both.0; answered = both.1 }

  comes : Comes
  comes = elim (turn_case m.running w.link) [ inl other ↦ other_comes other | inr on ↦ turn_comes on ]

  member_calls : HaveCalls (slice_set s.ends.members at new) (note_member (Some m) at w piece s after b).messages
  member_calls =
      let so : (link : ℕ) → OneOf (IsCalledOn link) b.messages → OneOf (IsCalledOn link) (with_units units) = λ link one.
      turns_stay link controller carried units numbers first comes.numbered (more link one) in
      put_calls s.ends.members (with_units units) at new
      (record { asks = step_asks m (event.Bytes w.link piece) s.moment s.chances.left mine.asks; called = comes.called }) (record {
        each = λ k x is. record { asks = (have.each k x is).asks; called = calls_so b.messages (with_units units) so x.running (have.each k x is).called };
        answered = comes.answered;
      })

-- ---- through all moves

end_calls : (end : EndId) (w : Delivery) (piece : List ℕ) (s : State) (given : Given) (b : Book) → IsKept w.at (Some w) (ends_in s) given b → HaveCalls s.ends.members b.messages →
    HaveCalls (hear end (event.Bytes w.link piece) s).state.ends.members (note_at (Some end) w piece s (act_plain end (event.Bytes w.link piece) s).state b).messages
end_calls end w piece s given b kept have =
    every_acted (λ (one : EndId) (step : EndStep) (after : State) (now : Book). HaveCalls step.ends.members now.messages) w piece s b (λ one. have) (λ at c there. have)
    (λ at m there. member_calls m at w piece s given b there kept have) (λ at c there. have) end

calls_keep : KeepsMovesBy every ⊥ (OfMoves IsKept) HaveFact
calls_keep = record {
  closes = λ n p end link s given b work kept have. hear_calls end (event.Closed link) s b.messages tt have;
  opens = λ n at dial route s given b out kept have. hear_calls (acceptor_of route) (event.Opened (length s.links)) (with_link route s) b.messages tt have;
  dialled = λ n at end link s given b here kept have. hear_calls end (event.Dialled link) s b.messages tt have;
  fails = λ n at end s b kept have. hear_calls end event.DialFailed s b.messages tt have;
  begins = λ n at client plan s b is kept have. have;
  comes = λ n end w piece s given b here came bytes kept have. end_calls end w piece s given b kept have;
  reaches = λ n w s given b kept have. have;
  acts = λ n p end what s given b work kept have. have;
  shuts = λ n p link s given b work kept have. have;
  answers = λ n at dial link there s given b is kept have. have;
  forgets = λ n at end s b kept have. have;
  settles = λ n at on number s b kept have. have;
  dials = λ n at dial s b is kept have. have;
  renews = λ n at end s b kept have. renew_calls end (forget end s) b.messages have;
  changes = λ n at member secret s b formed kept have. change_calls member secret s b.messages have;
  ticks = λ n at more s b kept have. have;
  over = λ n at on next s given b kept have. have;
}

first_calls : (plan : Plan) → HaveCalls (plain_world plan).state.ends.members []
first_calls plan = record {
  each = λ k m there.
      let found = got_map fresh_member plan.members k m there in subst (λ (x : MemberState). HasCalls [] x.running) found.2 (fresh_calls [] found.0);
  answered = tt;
}

run_calls : (plan : Plan) (moves : List Move) → IsPlainPlan plan → AreCalled (past plan moves).book.messages
run_calls plan moves nothing =
    let after : HoldsAfterMoves ⊥ (Both (OfMoves IsKept) HaveFact) plan moves =
    moves_keep_plain ⊥ (Both (OfMoves IsKept) HaveFact) (join_moves ⊥ (OfMoves IsKept) HaveFact (ends_keep_by every IsKept kept_on ⊥) calls_keep) plan moves nothing (λ none. absurd none)
    (λ on. (first_kept plan on, first_calls plan)) in
    after.holds.1.answered

-- a message whose answer was taken has a call: no other message came on its link
pub answers_have_calls : (plan : Plan) (moves : List Move) → IsPlainPlan plan → AnswersHaveCalls (past plan moves)
answers_have_calls plan moves nothing =
    let messages : List MessageTaken = (past plan moves).book.messages in
    all_by_place (λ (message : MessageTaken). (u : ℕ) → message.reply ≡ Some u → (n : ℕ) × (message.call ≡ Some n)) messages (λ k message there u reply.
    let found : Placed (IsCalledOn message.link) messages =
    placed (IsCalledOn message.link) messages (got_all (IfAnswered messages) messages k message (run_calls plan moves nothing) there u reply) in
    let same : found.item ≡ message =
    apart_same (λ (one : MessageTaken). one.link) messages (messages_apart plan moves nothing) found.place k found.item message found.there there found.is.0 in
    (found.is.1, ap (λ (one : MessageTaken). one.call) (sym same) ∙ found.is.2))
