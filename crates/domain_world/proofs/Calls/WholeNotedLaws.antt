-- What is written down where a whole unit comes on the link of a member's turn: of all units that it serves, what the
-- last is taken for, and its request among the new units of the bag. It serves `runs_stand_so`.
use Rattle.std.proofs.Common.{◌≡◌, ◌⊎◌, ℕ, zero, suc, ◌+◌, Bool, true, false, List, [], ◌∷◌, ◌++◌, drop, length, map, inl, inr, Option, Some, None, Result, Ok, Err, refl, sym, ap, ◌∙◌, subst, slice_get, if◌then◌else◌}
use Rattle.std.specs.Prelude.{flat_map}
use Rattle.std.specs.List.{AllByRecursion}
use Rattle.std.proofs.lemmas.Bool.Decides.{Decides-eqb}
use Rattle.std.proofs.lemmas.List.{append_assoc, append-nil, drop_at}
use Rattle.outside.specs.Machine.{Part, step_by}
use Rattle.outside.specs.declared.action.Action.{Action}
use Rattle.outside.specs.declared.action.Action.TheVariants.{Send}
use Rattle.outside.specs.declared.action.StepRefused.{StepRefused}
use Rattle.rpc_units.specs.Calls.{IsHeard}
use Rattle.rpc_units.specs.Stream.{cut_stream}
use Rattle.rpc_units.specs.declared.unit.Unit.{Unit as RpcUnit}
use Rattle.end_links.specs.Links.{LinkState}
use Rattle.end_links.specs.Serving.{ServedUnit, served_units}
use Rattle.channel_client.specs.Machine.{Taking, take_of}
use Rattle.channel_events.specs.Marks.{Calling, Mark, Opened, Opening, Plain, ReplyTo}
use Rattle.channel_events.specs.Requests.{IsNoRequest, IsRequest}
use Rattle.wire_base.proofs.ListLaws.{got_behind, got_nothing, some_is}
use Rattle.member_server.specs.Machine.{actions_in, at_turn, halted_state, state_in, work_of}
use Rattle.member_server.specs.Turns.{AtTurn, DialWork, turn_server}
use Rattle.channel_turns.specs.declared.state.Dialling.{Dialling}
use Rattle.channel_turns.specs.declared.state.Dialling.TheVariants as dialling
use Rattle.member_server.specs.declared.state.Running.{Running}
use Rattle.channel_turns.specs.declared.state.TurnTalk.{TurnTalk}
use Rattle.step_notes.specs.CallLogons.{AreFirst, IsFirstBy}
use Rattle.step_notes.specs.Marking.{mark_if, turn_marks}
use Rattle.step_notes.specs.MemberNotes.{TurnNote, no_note, taking_at, taking_note, turn_note, turn_units_by, turn_units_in, turn_units_on}
use Rattle.step_notes.specs.Records.{Book, RequesterId, Sent}
use Rattle.step_notes.specs.Served.{units_if_taken, work_after}
use Rattle.step_notes.specs.TakenWhole.{TakesWhole}
use Rattle.step_notes.proofs.Members.TurnHeardLaws.{members_take}
use Rattle.world_moves.specs.declared.bag.BagUnit.{BagUnit}
use Rattle.world_moves.specs.declared.links.EndId.{EndId}
use Rattle.world_moves.specs.declared.links.Route.{Route}
use Rattle.world_moves.specs.declared.state.State.{State}
use Rattle.world_moves.specs.Acting.{perform_all, unit_on}
use Rattle.world_moves.specs.Choosing.{places_from}
use Rattle.world_moves.specs.Links.{is_own, kind_of}
use Rattle.world_moves.proofs.LinkFrameLaws.{actions_stay}
use Rattle.domain_world.specs.Accepting.SeenSteps.{IfPlaced, IsPlaced, NoRequests, Placed, PlacedBy}
use Rattle.domain_world.specs.Past.{first_of, is_sent_on, later_of, marks_by, marks_of, note_turn, note_turns, numbers_on, sent_at, answers_by}
use Rattle.domain_world.proofs.Moves.MarkPlaceLaws.{ArePlain, all_append, front_goes, plain_of_none}
use Rattle.domain_world.proofs.Moves.OpenMadeLaws.{IsMore, MoreOf, goes_on, no_more}
use Rattle.domain_world.proofs.Calls.LooserLaws.{no_requests}
use Rattle.domain_world.proofs.Calls.WholeOutLaws.{IsSentAs, noted}

-- ---- marks

plain_calls : (marks : List Mark) → ArePlain marks → NoRequests marks
plain_calls marks plain k number c mark asks there = subst (IsRequest c number) (plain k mark there) asks

-- without marks none is a request
pub none_marked : (link : ℕ) (back : Bool) (units : List BagUnit) → NoRequests (marks_of link back units [])
none_marked link back units = plain_calls (marks_of link back units []) (plain_of_none link back units)

-- whatever holds of the marks, and of a unit that has none
all_by : (P : Mark → Type 0) → P Plain → (on : Bool) (marks : List Mark) (later : List Mark → List Mark) → AllByRecursion P marks →
    ((rest : List Mark) → AllByRecursion P rest → AllByRecursion P (later rest)) → AllByRecursion P (marks_by on marks later)
all_by P plain false marks later all so = (plain, so marks all)
all_by P plain true [] later all so = (plain, so [] tt)
all_by P plain true (mark ∷ marks) later all so = (all.0, so marks all.1)

marks_all : (P : Mark → Type 0) → P Plain → (link : ℕ) (back : Bool) (units : List BagUnit) (marks : List Mark) → AllByRecursion P marks → AllByRecursion P (marks_of link back units marks)
marks_all P plain link back [] marks all = tt
marks_all P plain link back (unit ∷ units) marks all =
    all_by P plain (is_sent_on link back unit) marks (λ rest. marks_of link back units rest) all (λ rest each. marks_all P plain link back units rest each)

-- where no mark is a request, none is written down
pub no_requests_marked : (link : ℕ) (back : Bool) (units : List BagUnit) (marks : List Mark) → AllByRecursion IsNoRequest marks → NoRequests (marks_of link back units marks)
no_requests_marked link back units marks all = no_requests (marks_of link back units marks) (marks_all IsNoRequest tt link back units marks all)

nothing_called : NoRequests []
nothing_called k number c mark asks there = got_nothing k mark there

plain_before : (marks : List Mark) → NoRequests marks → NoRequests (Plain ∷ marks)
plain_before marks none zero number c mark asks there = subst (IsRequest c number) (sym (some_is Plain mark there)) asks
plain_before marks none (suc k) number c mark asks there = none k number c mark asks there

-- one mark: it isn't written down, or in one place
placed_by : (on : Bool) (mark : Mark) (later : List Mark → List Mark) → NoRequests (later []) → NoRequests (later (mark ∷ [])) ⊎ IsPlaced (later (mark ∷ [])) mark →
    NoRequests (marks_by on (mark ∷ []) later) ⊎ IsPlaced (marks_by on (mark ∷ []) later) mark
placed_by false mark later none placed = elim placed [
  | inl nothing ↦ inl (plain_before (later (mark ∷ [])) nothing)
  | inr is ↦ inr (record { front = Plain ∷ is.front; rest = is.rest; is = ap (λ (marks : List Mark). Plain ∷ marks) is.is; before = plain_before is.front is.before; behind = is.behind })
]
placed_by true mark later none placed = inr (record { front = []; rest = later []; is = refl; before = nothing_called; behind = none })

one_placed : (link : ℕ) (back : Bool) (units : List BagUnit) (mark : Mark) → NoRequests (marks_of link back units (mark ∷ [])) ⊎ IsPlaced (marks_of link back units (mark ∷ [])) mark
one_placed link back [] mark = inl nothing_called
one_placed link back (unit ∷ units) mark =
    placed_by (is_sent_on link back unit) mark (λ rest. marks_of link back units rest) (none_marked link back units) (one_placed link back units mark)

if_placed : (link : ℕ) (back : Bool) (units : List BagUnit) (mark : Mark) → IfPlaced mark (marks_of link back units (mark ∷ []))
if_placed link back units Plain = no_requests_marked link back units (Plain ∷ []) (tt, tt)
if_placed link back units (Opening c number) = one_placed link back units (Opening c number)
if_placed link back units (Opened c number request) = no_requests_marked link back units (Opened c number request ∷ []) (tt, tt)
if_placed link back units (ReplyTo c number request) = no_requests_marked link back units (ReplyTo c number request ∷ []) (tt, tt)
if_placed link back units (Calling c number timestamp) = one_placed link back units (Calling c number timestamp)

marks_placed : (link : ℕ) (back : Bool) (units : List BagUnit) (sends : Bool) (mark : Mark) → Placed sends mark (marks_of link back units (mark_if sends mark))
marks_placed link back units false mark = none_marked link back units
marks_placed link back units true mark = if_placed link back units mark

-- ---- the units that are served

same_units : (running : Running) (number : ℕ) (said : LinkState TurnTalk) (bytes : List ℕ) (left : List (List ℕ)) → running.dialling ≡ dialling.On number said → said.rest ≡ [] →
    turn_units_in (Some running) number bytes left ≡ served_units turn_server (cut_stream bytes).units (at_turn number (work_of running)) said.talk left
same_units running number said bytes left on rest =
    ap (λ (how : Dialling). turn_units_on how number bytes running left) on
    ∙ ap (λ (hit : Bool). turn_units_by hit said number bytes running left) ((Decides-eqb number number).1 refl)
    ∙ ap (λ (r : List ℕ). served_units turn_server (cut_stream (r ++ bytes)).units (at_turn number (work_of running)) said.talk left) rest

-- the units on the link of the turn take the whole unit with the last
pub whole_units : (running : Running) (number : ℕ) (said : LinkState TurnTalk) (bytes : List ℕ) (frames : List RpcUnit) (unit : RpcUnit) (left : List (List ℕ)) →
    running.dialling ≡ dialling.On number said → said.rest ≡ [] → said.talk.joiner ≡ None → IsHeard bytes frames unit →
    TakesWhole (at_turn number (work_of running)) unit left (turn_units_in (Some running) number bytes left)
whole_units running number said bytes frames unit left on rest none heard =
    subst (λ (units : List (ServedUnit AtTurn TurnTalk)). TakesWhole (at_turn number (work_of running)) unit left units) (sym (same_units running number said bytes left on rest))
    (members_take.units bytes frames unit (at_turn number (work_of running)) said.talk left heard none)

abbrev AreNone : AtTurn → List (ServedUnit AtTurn TurnTalk) → Type 0
AreNone at before = AllByRecursion (λ (served : ServedUnit AtTurn TurnTalk). (taking_at served ≡ None) × (served.work ≡ at)) before

-- actions that begin with a request on that link
pub record SendsFirst (link : ℕ) (actions : List Action) : Type 0 where
  pub bytes : List ℕ
  pub more : List Action
  pub is : actions ≡ Send link bytes ∷ more

module _ (controller : ℕ) (at : AtTurn) (unit : RpcUnit) where
  -- what is written down of the whole unit
  abbrev pub note_for : TurnNote
  note_for = taking_note (Some (take_of at.work.logons.channel unit)) controller at.work.logons.channel

  none_noted : (served : ServedUnit AtTurn TurnTalk) → taking_at served ≡ None → turn_note controller served ≡ no_note
  none_noted served is = ap (λ (taking : Option Taking). taking_note taking controller served.work.work.logons.channel) is

  pub last_noted : (last : ServedUnit AtTurn TurnTalk) → last.work ≡ at → taking_at last ≡ Some (take_of at.work.logons.channel unit) → turn_note controller last ≡ note_for
  last_noted last work takes =
      ap (λ (taking : Option Taking). taking_note taking controller last.work.work.logons.channel) takes
      ∙ ap (λ (a : AtTurn). taking_note (Some (take_of at.work.logons.channel unit)) controller a.work.logons.channel) work

  -- the marks
  marks_before : (before : List (ServedUnit AtTurn TurnTalk)) (last : ServedUnit AtTurn TurnTalk) → AreNone at before →
      turn_marks (map (turn_note controller) (before ++ last ∷ [])) ≡ turn_marks (turn_note controller last ∷ [])
  marks_before [] last none = refl
  marks_before (served ∷ before) last none =
      ap (λ (note : TurnNote). mark_if note.sends note.mark ++ turn_marks (map (turn_note controller) (before ++ last ∷ []))) (none_noted served none.0.0)
      ∙ marks_before before last none.1

  whole_marks : (left : List (List ℕ)) (units : List (ServedUnit AtTurn TurnTalk)) → TakesWhole at unit left units →
      turn_marks (map (turn_note controller) units) ≡ mark_if note_for.sends note_for.mark
  whole_marks left units whole =
      ap (λ (all : List (ServedUnit AtTurn TurnTalk)). turn_marks (map (turn_note controller) all)) whole.all
      ∙ marks_before whole.before whole.last whole.none
      ∙ ap (λ (note : TurnNote). mark_if note.sends note.mark ++ []) (last_noted whole.last whole.work whole.takes)
      ∙ append-nil (mark_if note_for.sends note_for.mark)

  -- the answers that are taken
  answers_before : (who : RequesterId) (n : ℕ) (carried : Option ℕ) (sent : List Sent) (before : List (ServedUnit AtTurn TurnTalk)) (last : ServedUnit AtTurn TurnTalk) → AreNone at before →
      flat_map (answers_by who n carried sent) (map (turn_note controller) (before ++ last ∷ [])) ≡ answers_by who n carried sent (turn_note controller last) ++ []
  answers_before who n carried sent [] last none = refl
  answers_before who n carried sent (served ∷ before) last none =
      ap (λ (note : TurnNote). answers_by who n carried sent note ++ flat_map (answers_by who n carried sent) (map (turn_note controller) (before ++ last ∷ []))) (none_noted served none.0.0)
      ∙ answers_before who n carried sent before last none.1

  pub whole_answers : (who : RequesterId) (n : ℕ) (carried : Option ℕ) (sent : List Sent) (left : List (List ℕ)) (units : List (ServedUnit AtTurn TurnTalk)) → TakesWhole at unit left units →
      flat_map (answers_by who n carried sent) (map (turn_note controller) units) ≡ answers_by who n carried sent note_for
  whole_answers who n carried sent left units whole =
      ap (λ (all : List (ServedUnit AtTurn TurnTalk)). flat_map (answers_by who n carried sent) (map (turn_note controller) all)) whole.all
      ∙ answers_before who n carried sent whole.before whole.last whole.none
      ∙ ap (λ (note : TurnNote). answers_by who n carried sent note ++ []) (last_noted whole.last whole.work whole.takes)
      ∙ append-nil (answers_by who n carried sent note_for)

  -- the mark of the request is written down in one place at most
  pub placed_part : (part : Result (Part DialWork) StepRefused) (link : ℕ) (new : List BagUnit) (left : List (List ℕ)) (units : List (ServedUnit AtTurn TurnTalk)) → TakesWhole at unit left units →
      PlacedBy part note_for
      (marks_of link false new (turn_marks (map (turn_note controller) (units_if_taken (step_by actions_in state_in halted_state left part).answer units))))
  placed_part (Err why) link new left units whole = none_marked link false new
  placed_part (Ok part) link new left units whole =
      subst (λ (marks : List Mark). Placed note_for.sends note_for.mark (marks_of link false new marks)) (sym (whole_marks left units whole))
      (marks_placed link false new note_for.sends note_for.mark)

  -- where a request goes out, there is one mark
  pub sent_marks : (left : List (List ℕ)) (units : List (ServedUnit AtTurn TurnTalk)) → TakesWhole at unit left units → note_for.sends ≡ true →
      turn_marks (map (turn_note controller) units) ≡ note_for.mark ∷ []
  sent_marks left units whole sends = whole_marks left units whole ∙ ap (λ (b : Bool). mark_if b note_for.mark) sends

  -- the messages
  messages_before : (before : List (ServedUnit AtTurn TurnTalk)) (last : ServedUnit AtTurn TurnTalk) (carried : Option ℕ) (numbers : List ℕ) (b : Book) → AreNone at before →
      (note_turns controller (before ++ last ∷ []) carried numbers b).messages ≡ noted (turn_note controller last) last.work.work.logons carried (first_of numbers) b.messages
  messages_before [] last carried numbers b none = refl
  messages_before (served ∷ before) last carried numbers b none =
      ap (λ (note : TurnNote). (note_turns controller (before ++ last ∷ []) carried (later_of note.sends numbers) (note_turn note served carried (first_of numbers) b)).messages)
      (none_noted served none.0.0)
      ∙ messages_before before last carried numbers (note_turn no_note served carried (first_of numbers) b) none.1

  -- the messages change as for the whole unit
  pub whole_messages : (left : List (List ℕ)) (units : List (ServedUnit AtTurn TurnTalk)) (carried : Option ℕ) (numbers : List ℕ) (b : Book) → TakesWhole at unit left units →
      (note_turns controller units carried numbers b).messages ≡ noted note_for at.work.logons carried (first_of numbers) b.messages
  whole_messages left units carried numbers b whole =
      ap (λ (all : List (ServedUnit AtTurn TurnTalk)). (note_turns controller all carried numbers b).messages) whole.all
      ∙ messages_before whole.before whole.last carried numbers b whole.none
      ∙ ap (λ (note : TurnNote). noted note whole.last.work.work.logons carried (first_of numbers) b.messages) (last_noted whole.last whole.work whole.takes)
      ∙ ap (λ (a : AtTurn). noted note_for a.work.logons carried (first_of numbers) b.messages) whole.work

  -- the request, which is sent first
  first_by : (sends : Bool) (work : AtTurn) (later : Option AtTurn) (actions : List Action) (rest : List Action → Type 0) → sends ≡ true → IsFirstBy sends work later actions rest →
      SendsFirst work.link actions
  first_by true work later actions rest is first = record { bytes = first.0; more = first.1; is = first.3 }
  first_by false work later actions rest is first = let x = is in cc

  first_before : (before : List (ServedUnit AtTurn TurnTalk)) (last : ServedUnit AtTurn TurnTalk) (actions : List Action) → AreNone at before → (turn_note controller last).sends ≡ true →
      AreFirst controller (before ++ last ∷ []) actions → SendsFirst last.work.link actions
  first_before [] last actions none sends first =
      first_by (turn_note controller last).sends last.work (work_after last.part) actions (λ more. AreFirst controller [] more) sends first
  first_before (served ∷ before) last actions none sends first =
      first_before before last actions none.1 sends
      (subst (λ (note : TurnNote). IsFirstBy note.sends served.work (work_after served.part) actions (λ more. AreFirst controller (before ++ last ∷ []) more)) (none_noted served none.0.0) first)

  -- the request stands first among the actions
  pub whole_first : (left : List (List ℕ)) (units : List (ServedUnit AtTurn TurnTalk)) (actions : List Action) → TakesWhole at unit left units → note_for.sends ≡ true →
      AreFirst controller units actions → SendsFirst at.link actions
  whole_first left units actions whole sends first =
      subst (λ (a : AtTurn). SendsFirst a.link actions) whole.work
      (first_before whole.before whole.last actions whole.none (ap (λ (note : TurnNote). note.sends) (last_noted whole.last whole.work whole.takes) ∙ sends)
      (subst (λ (all : List (ServedUnit AtTurn TurnTalk)). AreFirst controller all actions) whole.all first))

-- the units that were sent stay as they are
-- ---- the request among the new units

-- the bag afterwards: that unit is the first of the new ones
pub record IsFirstNew (own : BagUnit) (before after : List BagUnit) : Type 0 where
  pub later : List BagUnit
  pub is : after ≡ before ++ own ∷ later

-- where the actions begin with it
pub sent_first : (route : Route) (end : EndId) (link : ℕ) (bytes : List ℕ) (more actions : List Action) (s : State) → slice_get s.links link ≡ Some route → is_own (kind_of route) ≡ true →
    actions ≡ Send link bytes ∷ more → IsFirstNew (unit_on route end link bytes) s.bag (perform_all end actions s).state.bag
sent_first route end link bytes more actions s made between is =
    let front : List Action = Send link bytes ∷ [] in
    let t : State = (perform_all end front s).state in
    let later : IsMore t.links t.bag (perform_all end more t).state.links (perform_all end more t).state.bag =
    actions_stay (MoreOf t.links t.bag) (goes_on t.links t.bag) end more t (no_more t.links t.bag) in
    record {
      later = later.units;
      is = ap (λ (all : List Action). (perform_all end all s).state.bag) is
          ∙ ap (λ (u : State). u.bag) (all_append end front more s)
          ∙ later.is
          ∙ ap (λ (first : List BagUnit). first ++ later.units) (front_goes route end link front s made between (refl, tt))
          ∙ append_assoc s.bag (unit_on route end link bytes ∷ []) later.units;
    }

-- a unit that is sent has the first number, and the mark
pub sent_as : (note : TurnNote) (link at : ℕ) (own : BagUnit) (before after : List BagUnit) (units : List Sent) → is_sent_on link false own ≡ true → length units ≡ length before →
    IsFirstNew own before after →
    IsSentAs note (first_of (numbers_on link false before after)) (units ++ map (sent_at at) (marks_of link false (drop (length before) after) (note.mark ∷ [])))
sent_as note link at own before after units on even new =
    let dropped : drop (length before) after ≡ own ∷ new.later =
    ap (λ (bag : List BagUnit). drop (length before) bag) new.is ∙ drop_at before (own ∷ new.later) (length before) refl in
    let marks : marks_of link false (drop (length before) after) (note.mark ∷ []) ≡ note.mark ∷ marks_of link false new.later [] =
    ap (λ (bag : List BagUnit). marks_of link false bag (note.mark ∷ [])) dropped
    ∙ ap (λ (b : Bool). marks_by b (note.mark ∷ []) (λ rest. marks_of link false new.later rest)) on in
    record {
      request = length before;
      unit = sent_at at note.mark;
      numbered = ap (λ (bag : List BagUnit). first_of (places_from (is_sent_on link false) (length before) bag)) dropped
          ∙ ap (λ (b : Bool). first_of (if b then length before ∷ places_from (is_sent_on link false) (length before + 1) new.later else places_from (is_sent_on link false) (length before + 1) new.later)) on;
      there = ap (λ (all : List Mark). slice_get (units ++ map (sent_at at) all) (length before)) marks
          ∙ ap (λ (n : ℕ). slice_get (units ++ sent_at at note.mark ∷ map (sent_at at) (marks_of link false new.later [])) n) (sym even)
          ∙ got_behind units (sent_at at note.mark) (map (sent_at at) (marks_of link false new.later []));
      mark = refl;
    }

-- the mark of the request stands in one place
pub placed_first : (mark : Mark) (link : ℕ) (own : BagUnit) (before after : List BagUnit) → is_sent_on link false own ≡ true → IsFirstNew own before after →
    IsPlaced (marks_of link false (drop (length before) after) (mark ∷ [])) mark
placed_first mark link own before after on new =
    let dropped : drop (length before) after ≡ own ∷ new.later =
    ap (λ (bag : List BagUnit). drop (length before) bag) new.is ∙ drop_at before (own ∷ new.later) (length before) refl in
    record {
      front = [];
      rest = marks_of link false new.later [];
      is = ap (λ (bag : List BagUnit). marks_of link false bag (mark ∷ [])) dropped
          ∙ ap (λ (b : Bool). marks_by b (mark ∷ []) (λ rest. marks_of link false new.later rest)) on;
      before = nothing_called;
      behind = none_marked link false new.later;
    }
