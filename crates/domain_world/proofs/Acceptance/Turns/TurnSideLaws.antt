-- What holds of messages whose answer was taken, and of what is told, where bytes come at a member; and what it rests
-- on. It serves `schedules_are_heard`.
use Rattle.std.proofs.Common.{◌≡◌, ◌⊎◌, ℕ, ◌<◌, ◌≤◌, ◌==◌, Bool, true, false, List, [], ◌++◌, length, inl, inr, Option, Some, None, Result, Ok, Err, refl, sym, ap, subst, ◌∙◌, slice_get, arith}
use Rattle.std.specs.Prelude.{flat_map}
use Rattle.std.specs.List.{AllByRecursion}
use Rattle.std.proofs.lemmas.Bool.{eqb-true}
use Rattle.std.proofs.lemmas.List.{append-nil, length-set}
use Rattle.outside.specs.Machine.{Part, Stepped, step_by}
use Rattle.outside.specs.declared.action.Action.{Action}
use Rattle.outside.specs.declared.action.StepRefused.{StepRefused}
use Rattle.outside.specs.declared.event.Event.{Event}
use Rattle.outside.specs.declared.event.Event.TheVariants as event
use Rattle.rpc_units.specs.Calls.{IsHeard}
use Rattle.end_links.specs.Links.{LinkState}
use Rattle.end_links.specs.Serving.{ServedUnit}
use Rattle.channel_client.specs.Machine.{take_of}
use Rattle.member_server.specs.Laws.{IsTold, heard_if, heard_in}
use Rattle.member_server.specs.Machine.{actions_in, event_part, halted_state, state_in, step_of}
use Rattle.member_server.specs.State.{State as MemberState}
use Rattle.member_server.specs.Turns.{AtTurn, DialWork}
use Rattle.member_server.specs.declared.plan.MemberPlan.{MemberPlan}
use Rattle.channel_turns.specs.declared.state.Dialling.{Dialling}
use Rattle.channel_turns.specs.declared.state.Dialling.TheVariants as dialling
use Rattle.member_server.specs.declared.state.Logon.{Logon}
use Rattle.member_server.specs.declared.state.Phase.{Phase}
use Rattle.member_server.specs.declared.state.Running.{Running}
use Rattle.channel_turns.specs.declared.state.TurnTalk.{TurnTalk}
use Rattle.member_server.proofs.KeptLaws.{lets_in_the_granted}
use Rattle.wire_base.specs.Lists.{OneOf}
use Rattle.wire_base.proofs.ListLaws.{all_weaker, got_append, one_weaker, some_is}
use Rattle.step_notes.specs.CallLogons.{AsksUnlessStopped}
use Rattle.step_notes.specs.ChannelNames.{standing_channel}
use Rattle.step_notes.specs.Marking.{clashes}
use Rattle.step_notes.specs.MemberNotes.{TurnNote, is_turn_link, link_units, message_note, taking_note, turn_units, turn_units_by, turn_units_in, turn_units_on}
use Rattle.step_notes.specs.Records.{Book, CallTaken, MessageTaken, OfMember, OutcomeTold, Sent, unit_in, RequesterId}
use Rattle.step_notes.specs.Served.{units_if_taken}
use Rattle.step_notes.proofs.Members.KeptLogonLaws.{IfDialled, KeptIn, each_so, kept_so, one_before}
use Rattle.step_notes.proofs.Members.UnservedLaws.{LinksIn, in_so}
use Rattle.world_moves.specs.declared.links.EndId.{EndId}
use Rattle.world_moves.specs.declared.links.EndId.TheVariants.{Controller, Member, Client, Station}
use Rattle.world_moves.specs.declared.links.Route.{Route}
use Rattle.world_moves.specs.declared.links.Route.TheVariants.{ToController}
use Rattle.world_moves.specs.declared.plan.Plan.{Plan}
use Rattle.world_moves.specs.declared.state.State.{State}
use Rattle.world_moves.specs.Acting.{Given, AfterHearing, given_by, heard_by}
use Rattle.world_moves.specs.Ends.{EndStates, actions_by}
use Rattle.world_moves.specs.Links.{kind_of}
use Rattle.world_moves.specs.MemberPlans.{AreAlikeButSecrets}
use Rattle.world_moves.specs.Moving.{end_of_peer}
use Rattle.world_moves.specs.Plain.{plain_member_step as member_step}
use Rattle.domain_world.specs.Accepting.Carried.{CallsHaveNumbers, IsWholeUnit}
use Rattle.domain_world.specs.Accepting.ReadBack.{IsLetInInTurn}
use Rattle.domain_world.specs.Accepting.Runs.{AskedIsOut, IsOut, NothingIsOpen, IsQuietTurn}
use Rattle.domain_world.specs.Claims.{HasController}
use Rattle.domain_world.specs.Past.{Delivery, answers_by, at_member, controller_number, controller_of_plan, first_of, note_member, note_messages, numbers_on, told_in, controller_asked}
use Rattle.domain_world.proofs.Acceptance.Heard.AnswerReadLaws.{HearsWhole}
use Rattle.domain_world.proofs.Acceptance.LetInStepLaws.{IsAcceptedBy, IsDialledBy}
use Rattle.domain_world.proofs.Quiet.QuietRunLaws.{one_piece}
use Rattle.domain_world.proofs.Acceptance.Turns.TurnFactLaws.{Any, AreApart, GrowsTo, HasFree, IsAnswered, IsKnown, MarksAreKnown, SameEnds, TurnFacts, answered_stays, apart_front, controller_stays, facts_stay, known_stays, marks_before, past_at, all_stay}
use Rattle.domain_world.proofs.Acceptance.Turns.TurnNotedLaws.{IsTurnNoted, bytes_free, or_false, turn_noted, units_new, turn_answers}
use Rattle.domain_world.proofs.Acceptance.Turns.TurnQuietLaws.{IsSilent, free_put, member_silent, same_ends, told_yet, yet_more}
use Rattle.domain_world.proofs.Acceptance.Turns.TurnWholeLaws.{ComesWhole, whole_facts}
use Rattle.domain_world.proofs.Messages.MessageApartLaws.{links_append, links_in, turns_links}
use Rattle.domain_world.proofs.Messages.MessageOnceLaws.{set_cases}
use Rattle.domain_world.proofs.Moves.ComingLaws.{CameFrom, CameInUnit, IsPieceOf, came_in_unit, kept_same}
use Rattle.domain_world.proofs.Moves.MemberPlanLaws.{controllers_alike}
use Rattle.domain_world.proofs.Moves.OpenMadeLaws.{IsAtSide, side_of}
use Rattle.domain_world.proofs.Frames.TurnFrameLaws.{asked_leave, turns_sent, turns_told, asked_book, asked_notes, asked_keep}
use Rattle.domain_world.proofs.Calls.WholeOutLaws.{noted as noted_by}
use Rattle.domain_world.proofs.Acceptance.LetInLaws.{none_if_taken}
use Rattle.wire_base.proofs.AllLaws.{all_join}

-- ---- what the facts rest on, at each time of a run

-- What is under way is whole and nothing is open on the link of a turn; each member asks for what it keeps, dialled the
-- link of its turn, and accepted those whose challenge hasn't served; a Logon call that is out is that of its message;
-- and the calls of a channel have different numbers.
pub record TurnSide (plan : Plan) (s : State) (b : Book) : Type 0 where
  pub quiet : NothingIsOpen s
  pub asks : (k : ℕ) (m : MemberState) → slice_get s.ends.members k ≡ Some m → AsksUnlessStopped m.running
  pub dialled : (k : ℕ) (m : MemberState) → slice_get s.ends.members k ≡ Some m → KeptIn (λ (place : ℕ) (logon : Logon). Unit {0}) (λ (number : ℕ). IsDialledBy s.links k number) m.running
  pub accepts : (k : ℕ) (m : MemberState) → slice_get s.ends.members k ≡ Some m → LinksIn (λ (number : ℕ) (p : Phase). IsAcceptedBy s.links k number) m.running
  pub out : AskedIsOut (past_at plan s b)
  pub numbers : CallsHaveNumbers (past_at plan s b)

-- ---- the controller of a plan

named_there : (found : Option EndId) (ends : EndStates) → controller_number found (length ends.controllers) < length ends.controllers → found ≡ Some (Controller (controller_number found (length ends.controllers)))
named_there None ends few = absurd (omega (arith, few))
named_there (Some (Controller at)) ends few = refl
named_there (Some (Member at)) ends few = absurd (omega (arith, few))
named_there (Some (Client at)) ends few = absurd (omega (arith, few))
named_there (Some (Station at)) ends few = absurd (omega (arith, few))

own_controller : (found : Option MemberPlan) (ends : EndStates) → controller_of_plan found ends < length ends.controllers → HasController found ends (controller_of_plan found ends)
own_controller None ends few = absurd (omega (arith, few))
own_controller (Some own) ends few = named_there (end_of_peer own.controller ends) ends few

-- ---- whether bytes come on the link of the turn

abbrev IsOther : Option Running → ℕ → Type 0
IsOther None number = Unit {0}
IsOther (Some running) number = is_turn_link running.dialling number ≡ false

cases_by : (hit : Bool) (other link : ℕ) (said : LinkState TurnTalk) → (other == link) ≡ hit → (hit ≡ false) ⊎ ((x : LinkState TurnTalk) × (dialling.On other said ≡ dialling.On link x))
cases_by false other link said is = inl refl
cases_by true other link said is = inr (said, ap (λ (n : ℕ). dialling.On n said) (eqb-true other link is))

turn_cases : (how : Dialling) (link : ℕ) → (is_turn_link how link ≡ false) ⊎ ((said : LinkState TurnTalk) × (how ≡ dialling.On link said))
turn_cases dialling.Nothing link = inl refl
turn_cases (dialling.Waits turn frames) link = inl refl
turn_cases (dialling.On other said) link = cases_by (other == link) other link said refl

other_heard : (how : Dialling) (link : ℕ) (piece : List ℕ) → is_turn_link how link ≡ false → heard_in (event.Bytes link piece) how ≡ []
other_heard dialling.Nothing link piece is = refl
other_heard (dialling.Waits turn frames) link piece is = refl
other_heard (dialling.On other said) link piece is = ap (λ (hit : Bool). heard_if hit said piece) is

other_silent : (r : Option Running) (link : ℕ) (piece : List ℕ) → IsOther r link → IsSilent r (event.Bytes link piece)
other_silent None link piece is = tt
other_silent (Some running) link piece is = other_heard running.dialling link piece is

on_units : (how : Dialling) (link : ℕ) (piece : List ℕ) (running : Running) (left : List (List ℕ)) → is_turn_link how link ≡ false → turn_units_on how link piece running left ≡ []
on_units dialling.Nothing link piece running left is = refl
on_units (dialling.Waits turn frames) link piece running left is = refl
on_units (dialling.On other said) link piece running left is = ap (λ (hit : Bool). turn_units_by hit said link piece running left) is

other_units : (r : Option Running) (link : ℕ) (piece : List ℕ) (left : List (List ℕ)) → IsOther r link → turn_units_in r link piece left ≡ []
other_units None link piece left is = refl
other_units (Some running) link piece left is = on_units running.dialling link piece running left is

-- ---- what the notes of a turn leave

pub turns_clash : (who : RequesterId) (w : Delivery) (units : List (ServedUnit AtTurn TurnTalk)) (s after : State) (b : Book) → (asked_book who w units s after b).clash ≡ false → b.clash ≡ false
turns_clash who w units s after b none =
    asked_keep who w units s after b (λ (later : Book). later.clash ≡ false → b.clash ≡ false) (λ note served number later so apart. so (or_false later.clash _ apart).0) (λ apart. apart) none

-- what comes at a member on a link that it dialled comes back
back_by : (back : Bool) (route : Route) (k controller : ℕ) → route ≡ ToController k controller → side_of back route ≡ Some (Member k) → back ≡ true
back_by true route k controller is at = refl
back_by false route k controller is at =
    let both : Some (Controller controller) ≡ Some (Member k) = sym (ap (λ (r : Route). side_of false r) is) ∙ at in
    absurd (let x = both in cc)

pub comes_back : (links : List Route) (k link : ℕ) (back : Bool) → IsDialledBy links k link → IsAtSide links link back (Member k) → back ≡ true
comes_back links k link back dialled at =
    back_by back at.route k dialled.controller (some_is at.route (ToController k dialled.controller) (sym at.made ∙ dialled.at)) at.side

part_cases : (part : Result (Part DialWork) StepRefused) → ((p : Part DialWork) × (part ≡ Ok p)) ⊎ ((why : StepRefused) × (part ≡ Err why))
part_cases (Ok p) = inl (p, refl)
part_cases (Err why) = inr (why, refl)

-- ---- bytes come at a member

module _ (plan : Plan) (k : ℕ) (w : Delivery) (piece : List ℕ) (s after : State) (given : Given) (b : Book) where
  abbrev pub what : Event
  what = event.Bytes w.link piece

  -- who asks there, and the controller that it asks
  abbrev who : RequesterId
  who = OfMember k

  abbrev its : ℕ
  its = controller_asked who s

  abbrev pub member : Option Running → MemberState
  member r = record { running = r }

  abbrev pub stepped : Option Running → Stepped MemberState
  stepped r = step_of (member r) what s.moment s.chances.left

  abbrev pub heard : Option Running → AfterHearing
  heard r = heard_by (member_step (Some (member r)) k what s.moment s.ends s.chances) s

  abbrev pub new_in : Option Running → List MessageTaken
  new_in r = flat_map (message_note (at_member k w s)) (link_units (member r) w.link piece s.moment s.chances.left)

  abbrev pub messages_in : Option Running → List MessageTaken
  messages_in r = b.messages ++ new_in r

  abbrev pub first_book : Option Running → Book
  first_book r = note_messages k (member r) w piece s b

  abbrev pub units_of : Option Running → List (ServedUnit AtTurn TurnTalk)
  units_of r = turn_units (member r) w.link piece s.moment s.chances.left

  abbrev pub numbers : List ℕ
  numbers = numbers_on w.link false s.bag after.bag

  abbrev pub turn_book : Option Running → Book
  turn_book r = asked_book who w (units_of r) s after (first_book r)

  abbrev pub book_after : Option Running → Book
  book_after r = note_member (Some (member r)) k w piece s after b

  abbrev pub more_told : Option Running → List OutcomeTold
  more_told r = told_in (given_by (Member k) (actions_by (stepped r).answer)) 0

  -- what is written down stays
  pub sent_stays : (r : Option Running) (n : ℕ) (one : Sent) → slice_get b.sent n ≡ Some one → slice_get (book_after r).sent n ≡ Some one
  sent_stays r n one there =
      got_append (turn_book r).sent _ n one
      (subst (λ (units : List Sent). slice_get units n ≡ Some one) (sym (turns_sent who w (units_of r) s after (first_book r))) there)

  pub ends_same : (r : Option Running) → SameEnds s.ends (heard r).state.ends
  ends_same r = record { controllers = refl; members = sym (length-set s.ends.members k _); clients = refl; stations = refl }

  -- with the messages that are taken then
  pub first_facts : (r : Option Running) (told : List OutcomeTold) → slice_get s.ends.members k ≡ Some (member r) → LinksIn (λ (number : ℕ) (p : Phase). IsAcceptedBy s.links k number) r →
      TurnFacts plan s b b.messages b.answers told → TurnFacts plan (heard r).state (book_after r) (messages_in r) b.answers told
  first_facts r told there accepts facts =
      let t : State = (heard r).state in
      let d : Book = book_after r in
      let grows : GrowsTo s t b d = record { bag = kept_same s.bag; sent = sent_stays r; ends = ends_same r } in
      subst (λ (all : List OutcomeTold). TurnFacts plan t d (messages_in r) b.answers all) (append-nil told) (record {
        taken = all_stay plan s t b d grows b.answers facts.taken;
        answered = all_join (IsAnswered plan t d b.answers (told ++ [])) b.messages (new_in r)
            (all_weaker (IsAnswered plan s b b.answers told) (IsAnswered plan t d b.answers (told ++ [])) b.messages (answered_stays plan s t b d grows b.answers told []) facts.answered)
            (all_weaker (λ (message : MessageTaken). message.reply ≡ None) (IsAnswered plan t d b.answers (told ++ [])) (new_in r)
            (λ message none u reply. let both : None ≡ Some u = sym none ∙ reply in absurd (let x = both in cc))
            (units_new (at_member k w s) (link_units (member r) w.link piece s.moment s.chances.left)));
        let_in = all_join (IsKnown plan t d (messages_in r)) told []
            (all_weaker (IsKnown plan s b b.messages) (IsKnown plan t d (messages_in r)) told
            (λ one known. known_stays plan s t b d grows b.messages (messages_in r) one
            (λ P Q so reply any. one_before Q b.messages (new_in r) (one_weaker P Q b.messages so any)) known) facts.let_in) tt;
        free = free_put s.ends.members k (stepped r).state (messages_in r)
            (λ j m is. kept_so (HasFree j b.messages) (HasFree j (messages_in r)) Any Any (λ place logon one. one_before _ b.messages (new_in r) one) (λ n own. own) m.running (facts.free j m is))
            (bytes_free (at_member k w s) (member r) piece s.moment s.chances.left b.messages
            (in_so (λ (number : ℕ) (p : Phase). IsAcceptedBy s.links k number) (λ (number : ℕ) (p : Phase). Any number) (λ n p is. tt) r accepts) (facts.free k (member r) there));
      })

  -- where nothing is let in
  more_facts : (r : Option Running) (messages : List MessageTaken) (told : List OutcomeTold) → AllByRecursion (IsKnown plan (heard r).state (book_after r) messages) (more_told r) →
      TurnFacts plan (heard r).state (book_after r) messages b.answers told → TurnFacts plan (heard r).state (book_after r) messages b.answers (told ++ more_told r)
  more_facts r messages told known facts =
      let t : State = (heard r).state in
      let d : Book = book_after r in
      facts_stay plan t t d d (record { bag = kept_same t.bag; sent = λ n one there. there; ends = same_ends t.ends }) messages b.answers told (more_told r) known facts.free facts

  -- which answers are written down
  answers_from : (r : Option Running) →
      (book_after r).answers ≡ b.answers ++ flat_map (answers_by who w.at (unit_in w.source) b.sent) (asked_notes who s (units_of r))
  answers_from r =
      let notes : List TurnNote = asked_notes who s (units_of r) in
      ap (λ (old : List CallTaken). old ++ flat_map (answers_by who w.at (unit_in w.source) (turn_book r).sent) notes) (asked_leave who w (units_of r) s after (first_book r) (λ (book : Book). book.answers) (λ note served unit number old. refl))
      ∙ ap (λ (sent : List Sent). b.answers ++ flat_map (answers_by who w.at (unit_in w.source) sent) notes) (turns_sent who w (units_of r) s after (first_book r))

  -- facts of turns, by the messages and answers as they are written down
  as_noted : (r : Option Running) (messages : List MessageTaken) (answers : List CallTaken) → (book_after r).messages ≡ messages → (book_after r).answers ≡ answers →
      TurnFacts plan (heard r).state (book_after r) messages answers (told_yet given b ++ more_told r) →
      TurnFacts plan (heard r).state (book_after r) (book_after r).messages (book_after r).answers (told_yet (given ++ given_by (Member k) (heard r).actions) (book_after r))
  as_noted r messages answers is also facts =
      let t : State = (heard r).state in
      let d : Book = book_after r in
      let same : told_yet (given ++ given_by (Member k) (heard r).actions) d ≡ told_yet given b ++ more_told r =
      yet_more given (given_by (Member k) (heard r).actions) d
      ∙ ap (λ (old : List OutcomeTold). (old ++ told_in given 0) ++ more_told r) (turns_told who w (units_of r) s after (first_book r)) in
      subst (λ (all : List OutcomeTold). TurnFacts plan t d d.messages d.answers all) (sym same)
      (subst (λ (m : List MessageTaken). TurnFacts plan t d m d.answers (told_yet given b ++ more_told r)) (sym is)
      (subst (λ (all : List CallTaken). TurnFacts plan t d messages all (told_yet given b ++ more_told r)) (sym also) facts))

  -- no unit of the turn
  without_units : (r : Option Running) → units_of r ≡ [] → AllByRecursion (IsKnown plan (heard r).state (book_after r) (messages_in r)) (more_told r) →
      TurnFacts plan (heard r).state (book_after r) (messages_in r) b.answers (told_yet given b) →
      TurnFacts plan (heard r).state (book_after r) (book_after r).messages (book_after r).answers (told_yet (given ++ given_by (Member k) (heard r).actions) (book_after r))
  without_units r none known facts =
      as_noted r (messages_in r) b.answers
      (ap (λ (units : List (ServedUnit AtTurn TurnTalk)). (asked_book who w units s after (first_book r)).messages) none)
      (answers_from r
      ∙ ap (λ (units : List (ServedUnit AtTurn TurnTalk)). b.answers ++ flat_map (answers_by who w.at (unit_in w.source) b.sent) (asked_notes who s units)) none
      ∙ append-nil b.answers) (more_facts r (messages_in r) (told_yet given b) known facts)

  other_comes : (r : Option Running) → IsOther r w.link → TurnFacts plan (heard r).state (book_after r) (messages_in r) b.answers (told_yet given b) →
      TurnFacts plan (heard r).state (book_after r) (book_after r).messages (book_after r).answers (told_yet (given ++ given_by (Member k) (heard r).actions) (book_after r))
  other_comes r other facts =
      without_units r
      (ap (λ (units : List (ServedUnit AtTurn TurnTalk)). units_if_taken (stepped r).answer units) (other_units r w.link piece s.chances.left other) ∙ none_if_taken (stepped r).answer)
      (member_silent (λ (one : OutcomeTold). OneOf (λ (message : MessageTaken). IsLetInInTurn (past_at plan (heard r).state (book_after r)) one message) (messages_in r)) r (member r) k what s.moment
      s.chances.left refl (other_silent r w.link piece other)) facts

  -- ---- the link of the turn

  module _ (side : TurnSide plan s b) (running : Running) (said : LinkState TurnTalk) (there : slice_get s.ends.members k ≡ Some (member (Some running))) (on : running.dialling ≡ dialling.On w.link said) where
    abbrev pub run : Option Running
    run = Some running

    -- the member dialled it
    pub dialled_on : IsDialledBy s.links k w.link
    dialled_on = subst (λ (how : Dialling). IfDialled (λ (number : ℕ). IsDialledBy s.links k number) how) on (side.dialled k (member run) there).1

    quiet_on : IsQuietTurn (dialling.On w.link said)
    quiet_on = subst IsQuietTurn on (side.quiet.members k (member run) running there refl)

    -- a unit on the link of a member's turn comes back
    pub is_back : IsAtSide s.links w.link w.back (Member k) → w.back ≡ true
    is_back at = comes_back s.links k w.link w.back dialled_on at

    module _ (u : ℕ) (piece_of : IsPieceOf s u w piece) (back : w.back ≡ true) (facts : TurnFacts plan s b b.messages b.answers (told_yet given b)) (carried : unit_in w.source ≡ Some u)
        (unclashed : (book_after run).clash ≡ false) (apart : AreApart (links_in (messages_in run))) (plans : AreAlikeButSecrets plan.members s.member_plans) (marks : MarksAreKnown (heard run).state (book_after run)) where
      -- the unit
      pub whole : IsWholeUnit piece_of.unit.bytes × (length piece_of.unit.bytes ≤ 65536)
      whole =
          side.quiet.bag u piece_of.unit piece_of.there
          (sym piece_of.same_kind ∙ ap kind_of (some_is piece_of.route (ToController k dialled_on.controller) (sym piece_of.made ∙ dialled_on.at)))

      same_bytes : piece_of.unit.bytes ≡ piece
      same_bytes = one_piece piece_of.unit.bytes piece whole.1 piece_of.part

      -- the bytes that come on the link of the turn are heard whole
      pub hears : HearsWhole running w.link piece whole.0.unit
      hears = record {
        said = said;
        frames = whole.0.frames;
        on = on;
        rest = quiet_on.0;
        none = quiet_on.1;
        heard = subst (λ (bytes : List ℕ). IsHeard bytes whole.0.frames whole.0.unit) same_bytes whole.0.heard;
      }

      before : TurnFacts plan (heard run).state (book_after run) (messages_in run) b.answers (told_yet given b)
      before = first_facts run (told_yet given b) there (side.accepts k (member run) there) facts

      abbrev pub part_of : Result (Part DialWork) StepRefused
      part_of = event_part running what s.moment s.chances.left

      abbrev answer_to : Result (Part DialWork) StepRefused → Result (List Action) StepRefused
      answer_to part = (step_by actions_in state_in halted_state s.chances.left part).answer

      refused : (why : StepRefused) → part_of ≡ Err why →
          TurnFacts plan (heard run).state (book_after run) (book_after run).messages (book_after run).answers (told_yet (given ++ given_by (Member k) (heard run).actions) (book_after run))
      refused why is =
          without_units run (ap (λ (part : Result (Part DialWork) StepRefused). units_if_taken (answer_to part) (turn_units_in run w.link piece s.chances.left)) is)
          (subst (λ (part : Result (Part DialWork) StepRefused). AllByRecursion (IsKnown plan (heard run).state (book_after run) (messages_in run)) (told_in (given_by (Member k) (actions_by (answer_to part))) 0))
          (sym is) tt) before

      noted : (part : Part DialWork) → part_of ≡ Ok part → IsTurnNoted its running whole.0.unit (unit_in w.source) (first_of numbers) (first_book run) (turn_book run)
      noted part is =
          subst (λ (units : List (ServedUnit AtTurn TurnTalk)).
          IsTurnNoted its running whole.0.unit (unit_in w.source) (first_of numbers) (first_book run) (asked_book who w units s after (first_book run)))
          (sym (ap (λ (part : Result (Part DialWork) StepRefused). units_if_taken (answer_to part) (turn_units_in run w.link piece s.chances.left)) is))
          (turn_noted its running w.link piece whole.0.unit s.chances.left (unit_in w.source) numbers (first_book run) hears)

      answers_noted : (part : Part DialWork) → part_of ≡ Ok part →
          (book_after run).answers ≡ b.answers ++ answers_by who w.at (Some u) b.sent (taking_note (Some (take_of running.logons.channel whole.0.unit)) its running.logons.channel)
      answers_noted part is =
          answers_from run
          ∙ ap (λ (part : Result (Part DialWork) StepRefused).
          b.answers ++ flat_map (answers_by who w.at (unit_in w.source) b.sent) (asked_notes who s (units_if_taken (answer_to part) (turn_units_in run w.link piece s.chances.left)))) is
          ∙ ap (λ (all : List CallTaken). b.answers ++ all) (turn_answers its running w.link piece whole.0.unit s.chances.left who w.at (unit_in w.source) b.sent hears)
          ∙ ap (λ (unit : Option ℕ).
          b.answers ++ answers_by who w.at unit b.sent (taking_note (Some (take_of running.logons.channel whole.0.unit)) its running.logons.channel)) carried

      -- all that is known as a whole unit comes
      pub comes : (part : Part DialWork) → part_of ≡ Ok part →
          ComesWhole plan k w.link u s (heard run).state b (book_after run) (messages_in run) running piece whole.0.unit its s.moment s.chances.left part
      comes part is = record {
        hears = hears;
        carries = record { carrier = piece_of.unit; there = piece_of.there; back = piece_of.back ∙ back; same = sym same_bytes };
        apart = apart;
        sent = sent_stays run;
        unclashed = subst (λ (unit : Option ℕ). clashes (taking_note (Some (take_of running.logons.channel whole.0.unit)) its running.logons.channel).checked unit b.sent ≡ false) carried
            ((noted part is).clash unclashed).1;
        controlled = λ few.
            controller_stays (slice_get plan.members k) s.ends (heard run).state.ends its (ends_same run)
            (let alike : its ≡ controller_of_plan (slice_get plan.members k) s.ends = controllers_alike plan.members s.member_plans k s.ends plans in
            subst (λ (n : ℕ). HasController (slice_get plan.members k) s.ends n) (sym alike)
            (own_controller (slice_get plan.members k) s.ends
            (subst (λ (n : ℕ). n < length s.ends.controllers) alike (subst (λ (count : ℕ). its < count) (sym (ends_same run).controllers) few))));
        marks = marks;
        asks = side.asks k (member run) there;
        free = each_so (HasFree k b.messages) (HasFree k (messages_in run)) (λ place logon one. one_before _ b.messages (new_in run) one) running.logons.asked (facts.free k (member run) there).0;
        out = λ pending logon turn asked kept.
            one_before (IsOut (past_at plan s b) k pending logon (standing_channel its running.logons.channel)) b.messages (new_in run)
            (side.out k (member run) running pending logon there refl turn asked kept);
        numbers = side.numbers;
        done = is;
        lets_in = subst (λ (part : Result (Part DialWork) StepRefused). AllByRecursion (IsTold running what) (actions_by (answer_to part))) is
            (lets_in_the_granted.told (member run) running what s.moment s.chances.left refl);
        after = λ m found. elim (set_cases s.ends.members k k (stepped run).state m found) [
          | inl here ↦ ap (λ (x : MemberState). x.running) (sym here.1)
              ∙ ap (λ (part : Result (Part DialWork) StepRefused). (step_by actions_in state_in halted_state s.chances.left part).state.running) is
          | inr other ↦ absurd (other.0 refl)
        ];
      }

      taken : (part : Part DialWork) → part_of ≡ Ok part →
          TurnFacts plan (heard run).state (book_after run) (book_after run).messages (book_after run).answers (told_yet (given ++ given_by (Member k) (heard run).actions) (book_after run))
      taken part is =
          let note = taking_note (Some (take_of running.logons.channel whole.0.unit)) its running.logons.channel in
          let after : List MessageTaken = noted_by note running.logons (Some u) (first_of numbers) (messages_in run) in
          let answers : List CallTaken = b.answers ++ answers_by who w.at (Some u) b.sent note in
          as_noted run after answers
          ((noted part is).messages ∙ ap (λ (unit : Option ℕ). noted_by note running.logons unit (first_of numbers) (messages_in run)) carried)
          (answers_noted part is)
          (subst (λ (answer : Result (List Action) StepRefused). TurnFacts plan (heard run).state (book_after run) after answers (told_yet given b ++ told_in (given_by (Member k) (actions_by answer)) 0))
          (sym (ap answer_to is))
          (whole_facts plan k w.link u s (heard run).state b (book_after run) (messages_in run) running piece whole.0.unit its s.moment s.chances.left part (comes part is) w.at
          b.answers (told_yet given b) before (first_of numbers)))

      turn_comes : TurnFacts plan (heard run).state (book_after run) (book_after run).messages (book_after run).answers (told_yet (given ++ given_by (Member k) (heard run).actions) (book_after run))
      turn_comes = elim (part_cases part_of) [ inl ok ↦ taken ok.0 ok.1 | inr err ↦ refused err.0 err.1 ]

    from_bag : CameFrom w.source s w piece → IsAtSide s.links w.link w.back (Member k) → TurnFacts plan s b b.messages b.answers (told_yet given b) → (book_after run).clash ≡ false →
        AreApart (links_in (messages_in run)) → AreAlikeButSecrets plan.members s.member_plans → MarksAreKnown (heard run).state (book_after run) →
        TurnFacts plan (heard run).state (book_after run) (book_after run).messages (book_after run).answers (told_yet (given ++ given_by (Member k) (heard run).actions) (book_after run))
    from_bag came at facts unclashed apart plans marks =
        let in_unit : CameInUnit w.source s w piece = came_in_unit w.source s w piece k dialled_on.controller came dialled_on.at in
        turn_comes in_unit.number in_unit.piece_of (is_back at) facts (ap unit_in in_unit.is) unclashed apart plans marks

  running_comes : TurnSide plan s b → (r : Option Running) → slice_get s.ends.members k ≡ Some (member r) → CameFrom w.source s w piece → IsAtSide s.links w.link w.back (Member k) → AreAlikeButSecrets plan.members s.member_plans →
      (book_after r).clash ≡ false → AreApart (links_in (messages_in r)) → MarksAreKnown (heard r).state (book_after r) → TurnFacts plan s b b.messages b.answers (told_yet given b) →
      TurnFacts plan (heard r).state (book_after r) (book_after r).messages (book_after r).answers (told_yet (given ++ given_by (Member k) (heard r).actions) (book_after r))
  running_comes side None there came at plans unclashed apart marks facts = other_comes None tt (first_facts None (told_yet given b) there (side.accepts k (member None) there) facts)
  running_comes side (Some running) there came at plans unclashed apart marks facts = elim (turn_cases running.dialling w.link) [
    | inl other ↦ other_comes (Some running) other (first_facts (Some running) (told_yet given b) there (side.accepts k (member (Some running)) there) facts)
    | inr on ↦ from_bag side running on.0 there on.1 came at facts unclashed apart plans marks
  ]

  -- of a member that is there
  pub member_comes : TurnSide plan s b → (m : MemberState) → slice_get s.ends.members k ≡ Some m → CameFrom w.source s w piece → IsAtSide s.links w.link w.back (Member k) → AreAlikeButSecrets plan.members s.member_plans →
      (note_member (Some m) k w piece s after b).clash ≡ false → AreApart (links_in (note_member (Some m) k w piece s after b).messages) →
      MarksAreKnown (heard_by (member_step (Some m) k (event.Bytes w.link piece) s.moment s.ends s.chances) s).state (note_member (Some m) k w piece s after b) →
      (b.clash ≡ false → AreApart (links_in b.messages) → MarksAreKnown s b → TurnFacts plan s b b.messages b.answers (told_yet given b)) →
      let t = heard_by (member_step (Some m) k (event.Bytes w.link piece) s.moment s.ends s.chances) s in
      TurnFacts plan t.state (note_member (Some m) k w piece s after b) (note_member (Some m) k w piece s after b).messages (note_member (Some m) k w piece s after b).answers
      (told_yet (given ++ given_by (Member k) t.actions) (note_member (Some m) k w piece s after b))
  member_comes side m there came at plans unclashed apart marks facts =
      let first : AreApart (links_in (messages_in m.running)) =
      subst AreApart (turns_links who w (units_of m.running) s after (first_book m.running)) apart in
      running_comes side m.running there came at plans unclashed first marks
      (facts (turns_clash who w (units_of m.running) s after (first_book m.running) unclashed)
      (apart_front (links_in b.messages) (links_in (new_in m.running)) (subst AreApart (links_append b.messages (new_in m.running)) first))
      (marks_before s (heard m.running).state b (book_after m.running) (record { bag = kept_same s.bag; sent = sent_stays m.running; ends = ends_same m.running }) marks))
