-- Through the units that come on the link of a member's turn, however many come in one piece: where the turn waits for
-- the answer to a Logon call, a message on the link of its logon has a call, and a message whose answer was taken has
-- one. It serves `Proved.have_calls`.
use Rattle.std.proofs.Common.{◌≡◌, ◌⊎◌, ℕ, ◌==◌, Bool, true, false, List, [], ◌∷◌, ◌++◌, length, inl, inr, Option, Some, None, Result, Ok, Err, refl, sym, ap, ◌∙◌, subst, slice_get}
use Rattle.std.specs.List.{AllByRecursion}
use Rattle.std.proofs.lemmas.Bool.Decides.{Decides-eqb}
use Rattle.wire_base.specs.Maps.{lookup, same_number}
use Rattle.wire_base.specs.Lists.{OneOf}
use Rattle.outside.specs.Machine.{Part, step_by}
use Rattle.outside.specs.declared.action.Action.{Action}
use Rattle.outside.specs.declared.action.Action.TheVariants as action
use Rattle.outside.specs.declared.action.CloseCause.{CloseCause}
use Rattle.outside.specs.declared.action.CloseCause.TheVariants as close
use Rattle.outside.specs.declared.action.DropCause.TheVariants as drop_cause
use Rattle.outside.specs.declared.action.StepRefused.{StepRefused}
use Rattle.outside.specs.declared.event.Event.TheVariants as event
use Rattle.rpc_units.specs.declared.refused.UnitRefused.{UnitRefused}
use Rattle.rpc_units.specs.declared.unit.Unit.{Unit as RpcUnit}
use Rattle.rpc_units.specs.Reading.{unit_of}
use Rattle.rpc_units.specs.Stream.{Cut, cut_stream}
use Rattle.end_links.specs.Links.{LinkState}
use Rattle.end_links.specs.Serving.{ServedPart, ServedUnit, served_by, served_units, then_talk, units_on}
use Rattle.end_links.proofs.KeepLaws.{unit_served}
use Rattle.channel_client.specs.declared.answers.Taken.{Taken}
use Rattle.channel_client.specs.declared.hearing.Hearing.{Hearing}
use Rattle.channel_client.specs.declared.hearing.Hearing.TheVariants as hearing
use Rattle.channel_client.specs.declared.hearing.SetHearing.TheVariants as set_hearing
use Rattle.channel_client.specs.declared.judging.Judgement.TheVariants as judgement
use Rattle.channel_client.specs.declared.state.Pending.{Pending}
use Rattle.channel_client.specs.declared.state.Question.TheVariants as question
use Rattle.channel_client.specs.Effects.{IsCoherent}
use Rattle.channel_client.specs.Machine.{Taking, act, hear, judge, judge_set, lose_of, take_of}
use Rattle.channel_client.specs.State.{Requester}
use Rattle.channel_client.proofs.EffectLaws.{steps_have_effects}
use Rattle.channel_turns.specs.declared.state.TurnTalk.{TurnTalk}
use Rattle.channel_turns.specs.declared.state.Dialling.{Dialling}
use Rattle.channel_turns.specs.declared.state.Dialling.TheVariants as dialling
use Rattle.channel_turns.proofs.KeepLaws.{taken_by}
use Rattle.member_server.specs.declared.outcomes.Ending.{Ending}
use Rattle.member_server.specs.declared.outcomes.Ending.TheVariants as ending
use Rattle.member_server.specs.declared.state.AtLink.{AtLink}
use Rattle.member_server.specs.declared.state.Logon.{Logon}
use Rattle.member_server.specs.declared.state.Logons.{Logons}
use Rattle.member_server.specs.declared.state.Running.{Running}
use Rattle.member_server.specs.declared.state.Talk.{Talk}
use Rattle.member_server.specs.declared.state.Work.{Work}
use Rattle.member_server.specs.Laws.{is_dialled}
use Rattle.member_server.specs.Machine.{actions_in, after_turn, at_turn, by_event, bytes_by, event_part, halted_state, serve_dialled, state_in, step_of, work_of}
use Rattle.member_server.specs.Outcomes.{after_link, at_link, end_logon, keep_link, phase_after, tell_at, tell_outcome, without_link, without_logon}
use Rattle.member_server.specs.State.{State as MemberState}
use Rattle.member_server.specs.Turns.{AtTurn, DialWork, TurnServed, after_turn_served, break_turn, do_taken, keep_ended, timestamp_of, turn_server, turn_unit, turn_work, with_requester, with_work}
use Rattle.member_server.specs.Units.{serve_held}
use Rattle.member_server.specs.Work.{Served}
use Rattle.member_server.proofs.OutcomeView.{EndView, Unknown, Tells, Reaches, end_view}
use Rattle.member_server.proofs.StepFrame.{KeepsNext, PartHolds, WorkFact, given_channel, next_follows, taken_at, turn_ended}
use Rattle.step_notes.specs.CallLogons.{AreFirst, AsksForKept, IsFirstBy}
use Rattle.step_notes.specs.MemberNotes.{TurnNote, link_of_logon, link_of_place, taking_note, taking_read, turn_note, turn_units, turn_units_by, turn_units_in, turn_units_on}
use Rattle.step_notes.specs.Records.{Book, MessageTaken}
use Rattle.step_notes.specs.Served.{units_if_taken, work_after}
use Rattle.step_notes.proofs.ServedLaws.{served_such}
use Rattle.step_notes.proofs.Members.CallKeptLaws.{TurnAsksBy, turn_asks}
use Rattle.step_notes.proofs.Members.KeptLogonLaws.{OfEach, each_found, each_so, turn_keeps}
use Rattle.step_notes.proofs.Members.RequestOrderLaws.{requests_first}
use Rattle.step_notes.proofs.Members.SameLogonLaws.{held_idle}
use Rattle.step_notes.proofs.Members.TurnUnitLaws.{taking_by, turn_units_such}
use Rattle.step_notes.proofs.Members.UnservedLaws.{ended_serves}
use Rattle.world_moves.specs.declared.bag.BagUnit.{BagUnit}
use Rattle.world_moves.specs.declared.links.EndId.{EndId}
use Rattle.world_moves.specs.declared.links.EndId.TheVariants.{Member}
use Rattle.world_moves.specs.declared.links.Route.{Route}
use Rattle.world_moves.specs.declared.links.Route.TheVariants.{ToController}
use Rattle.world_moves.specs.declared.state.State.{State}
use Rattle.world_moves.specs.Acting.{AfterHearing, done, heard_by, perform_all, perform_quietly, unit_on}
use Rattle.world_moves.specs.Ends.{actions_by}
use Rattle.world_moves.specs.Links.{is_accepted_by, is_own, kind_of}
use Rattle.world_moves.specs.Plain.{plain_member_step as member_step}
use Rattle.world_moves.proofs.LinkFrameLaws.{actions_stay}
use Rattle.world_moves.proofs.QuietLaws.{sent_goes}
use Rattle.domain_world.specs.Past.{Delivery, change_if, change_message, first_of, later_of, note_turn, note_turns, numbers_on, with_answer, with_call}
use Rattle.domain_world.proofs.Acceptance.LetInStepLaws.{IsDialledBy}
use Rattle.domain_world.proofs.Calls.AnsweredCallLaws.{AreCalled, CalledAt, CalledFor, GoesNumbered, IsCalledOn, answer_called, calls_go_out, noted_called, noted_stays}
use Rattle.domain_world.proofs.Calls.CalledUnitLaws.{numbers_first}
use Rattle.domain_world.proofs.Calls.OutStepLaws.{none_out, start_out}
use Rattle.domain_world.proofs.Calls.WholeOutLaws.{CallsOut, acted_case, noted, set_none, settled_none}
use Rattle.domain_world.proofs.Messages.MessageNoteLaws.{changed, map_one}
use Rattle.domain_world.proofs.Moves.MarkPlaceLaws.{passes}
use Rattle.domain_world.proofs.Moves.OpenMadeLaws.{IsMore, MoreOf, goes_on, no_more}

-- ---- what becomes of the channel once a unit was taken

kept_channel : (said : Option Talk) (rest : List ℕ) (number : ℕ) (at : AtLink) (w : Work) → (keep_link said rest number (after_link at w)).logons.channel ≡ at.logons.channel
kept_channel None rest number at w = refl
kept_channel (Some talk) rest number at w = refl

ended_channel : (place : ℕ) (how : Ending) (w after : Work) → EndView place how w after → after.logons.channel ≡ w.logons.channel
ended_channel place how w after (Unknown none) = refl
ended_channel place how w after (Tells logon kept) = refl
ended_channel place how w after (Reaches logon link bound held kept there is) =
    let alone : Work = without_link logon.link (tell_outcome how logon (without_logon place w)) in
    let at : AtLink = at_link logon.link alone in
    let talk : Talk = record { joiner = link.talk.joiner; phase = phase_after how logon bound } in
    let served : Served = serve_held held at talk in
    kept_channel served.1 link.rest logon.link served.0 alone ∙ ap (λ (l : Logons). l.channel) (held_idle held at talk (ended_serves how logon bound)).0

-- a logon that ends leaves the channel
end_channel : (place : ℕ) (how : Ending) (w : Work) → (end_logon place how w).logons.channel ≡ w.logons.channel
end_channel place how w = ended_channel place how w (end_logon place how w) (end_view place how w)

-- whatever follows of a unit that was taken leaves the channel
taken_channel : (t : Taken) (joiner : Option RpcUnit) (at : AtTurn) → (do_taken t joiner at).0.work.logons.channel ≡ at.work.logons.channel
taken_channel t joiner at =
    taken_by t joiner (turn_work at) (λ served. (after_turn_served served at).0.work.logons.channel ≡ at.work.logons.channel) (record {
      skips = λ right is. refl;
      sends = λ right frames is. refl;
      ends = λ how is.
          let closed : Work = tell_at (keep_ended how at.work) (action.Close at.link close.CallDone) in
          turn_ended how closed (λ w. w.logons.channel ≡ at.work.logons.channel) (λ none. refl) (λ place ends some. end_channel place ends closed);
    })

-- a unit that is refused loses the turn
broken_channel : (cause : CloseCause) (at : AtTurn) → (break_turn cause at).0.work.logons.channel ≡ (lose_of at.work.logons.channel).state
broken_channel cause at =
    end_channel (lose_of at.work.logons.channel).place (ending.NoController drop_cause.BadReply)
    (tell_at (with_requester at.work (lose_of at.work.logons.channel).state) (action.Close at.link cause))

-- no turn is out once a unit was refused
broken_none : (cause : CloseCause) (at : AtTurn) (messages : List MessageTaken) → CalledAt messages (break_turn cause at).0.work.logons
broken_none cause at messages pending logon turn reply there =
    absurd (none_out pending (ap (λ (c : Requester). c.turn) (sym (broken_channel cause at)) ∙ turn))

-- while the turn is out, the logons are kept
module _ (controller : ℕ) (c : Requester) where
  acted_kept : (h : Hearing) (joiner : Option RpcUnit) (pending : Pending) (at : AtTurn) → (act h c).state.turn ≡ Some pending →
      (do_taken (act h c).taken joiner (with_work at (with_requester at.work (act h c).state))).0.work.logons.asked ≡ at.work.logons.asked
  acted_kept hearing.Skip joiner pending at out = refl
  acted_kept (hearing.Next q frames) joiner pending at out = refl
  acted_kept (hearing.Reply q r) joiner pending at out = absurd (settled_none controller c (judge q r c.standing c.caller.secret) pending out)
  acted_kept (hearing.Drop cause) joiner pending at out = absurd (settled_none controller c (judgement.Drop cause) pending out)
  acted_kept (hearing.Set (set_hearing.Next frames)) joiner pending at out = refl
  acted_kept (hearing.Set (set_hearing.Reply r)) joiner pending at out = absurd (set_none controller c (judge_set r c.standing) pending out)

-- ---- which units have numbers

-- each unit that comes to a call has a number
abbrev pub AreNumbered : (controller : ℕ) (units : List (ServedUnit AtTurn TurnTalk)) (numbers : List ℕ) → Type 0
AreNumbered controller [] numbers = Unit {0}
AreNumbered controller (unit ∷ units) numbers =
    GoesNumbered (turn_note controller unit) (first_of numbers) × AreNumbered controller units (later_of (turn_note controller unit).sends numbers)

taking_goes : (taking : Option Taking) (controller : ℕ) (before : Requester) → ((taking_note taking controller before).called ≡ None) ⊎ ((taking_note taking controller before).sends ≡ true)
taking_goes None controller before = inl refl
taking_goes (Some taking) controller before = calls_go_out taking.taken controller before taking.state

-- a message that has a call keeps one, whatever units are written down
pub turns_stay : (link controller : ℕ) (carried : Option ℕ) (units : List (ServedUnit AtTurn TurnTalk)) (numbers : List ℕ) (b : Book) → AreNumbered controller units numbers →
    OneOf (IsCalledOn link) b.messages → OneOf (IsCalledOn link) (note_turns controller units carried numbers b).messages
turns_stay link controller carried [] numbers b numbered one = one
turns_stay link controller carried (unit ∷ units) numbers b numbered one =
    let note : TurnNote = turn_note controller unit in
    turns_stay link controller carried units (later_of note.sends numbers) (note_turn note unit carried (first_of numbers) b) numbered.1
    (noted_stays link note unit.work.work.logons carried (first_of numbers) b.messages numbered.0 one)

-- ---- a unit of the turn

-- the message came on that link
abbrev IsOn : (link : ℕ) (message : MessageTaken) → Type 0
IsOn link message = message.link ≡ link

-- one of the messages came on the link of the logon
abbrev pub HasOn : List MessageTaken → ℕ → Logon → Type 0
HasOn messages place logon = OneOf (IsOn logon.link) messages

-- each logon that is kept has its message, and where the turn waits for the answer to a Logon call, the message of its
-- logon has a call
pub record KeepsCalled (messages : List MessageTaken) (logons : Logons) : Type 0 where
  pub each : OfEach (HasOn messages) logons.asked
  pub out : CalledAt messages logons

on_noted : (link : ℕ) (note : TurnNote) (logons : Logons) (carried number : Option ℕ) (messages : List MessageTaken) → OneOf (IsOn link) messages →
    OneOf (IsOn link) (noted note logons carried number messages)
on_noted link note logons carried number messages one =
    changed (IsOn link) (link_of_place note.answered logons) (with_answer carried) (λ message is. is) (change_message (link_of_place note.called logons) (with_call number) messages)
    (changed (IsOn link) (link_of_place note.called logons) (with_call number) (λ message is. is) messages one)

module _ (controller : ℕ) (carried : Option ℕ) where
  module _ (at : AtTurn) (number : Option ℕ) (messages : List MessageTaken) (coherent : IsCoherent at.work.logons.channel) (kept : KeepsCalled messages at.work.logons) (called : AreCalled messages) where
    abbrev c : Requester
    c = at.work.logons.channel

    abbrev logons : Logons
    logons = at.work.logons

    abbrev now : Option Taking → List MessageTaken
    now taking = noted (taking_note taking controller c) logons carried number messages

    abbrev NowCalled : Option Taking → TurnServed → Type 0
    NowCalled taking served = GoesNumbered (taking_note taking controller c) number → CalledAt (now taking) served.0.work.logons × AreCalled (now taking)

    -- the call of a logon that goes out is written down for its message
    goes_called : (unit : RpcUnit) (pending : Pending) (logon : Logon) → CallsOut controller (take_of c unit).state (taking_note (Some (take_of c unit)) controller c) pending →
        lookup same_number pending.place logons.asked ≡ Some logon → GoesNumbered (taking_note (Some (take_of c unit)) controller c) number →
        OneOf (IsCalledOn logon.link) (now (Some (take_of c unit)))
    goes_called unit pending logon out there goes =
        let note : TurnNote = taking_note (Some (take_of c unit)) controller c in
        let place : note.called ≡ Some pending.place = ap (λ (n : TurnNote). n.called) out.is in
        let link : link_of_place note.called logons ≡ Some logon.link = ap (λ (p : Option ℕ). link_of_place p logons) place ∙ ap link_of_logon there in
        elim goes [
          | inl none ↦ absurd (let never : None ≡ Some pending.place = sym none ∙ place in let x = never in cc)
          | inr numbered ↦
              changed (IsCalledOn logon.link) (link_of_place note.answered logons) (with_answer carried) (λ message is. is) (change_message (link_of_place note.called logons) (with_call number) messages)
              (subst (λ (l : Option ℕ). OneOf (IsCalledOn logon.link) (change_message l (with_call number) messages)) (sym link)
              (map_one (IsOn logon.link) (IsCalledOn logon.link) (λ (message : MessageTaken). change_if (message.link == logon.link) (with_call number) message)
              (λ message its.
              subst (λ (hit : Bool). IsCalledOn logon.link (change_if hit (with_call number) message)) (sym ((Decides-eqb message.link logon.link).1 its)) (its, numbered.0, numbered.1)) messages
              (each_found (HasOn messages) pending.place logons.asked logon there kept.each)))
        ]

    takes_called : (unit : RpcUnit) (after : Option RpcUnit) → NowCalled (Some (take_of c unit)) (do_taken (take_of c unit).taken after (taken_at at unit))
    takes_called unit after goes =
        let note : TurnNote = taking_note (Some (take_of c unit)) controller c in (
          (λ pending logon turn reply there.
              let out : (take_of c unit).state.turn ≡ Some pending =
              ap (λ (r : Requester). r.turn) (sym (taken_channel (take_of c unit).taken after (taken_at at unit))) ∙ turn in
              let before : lookup same_number pending.place logons.asked ≡ Some logon =
              subst (λ (asked : List (ℕ × Logon)). lookup same_number pending.place asked ≡ Some logon) (acted_kept controller c (hear c.turn unit c.next_call) after pending at out) there in
              elim (acted_case controller c (hear c.turn unit c.next_call) pending out reply (steps_have_effects.take controller c unit coherent).1) [
                | inl stays ↦
                    subst (λ (n : TurnNote). OneOf (IsCalledOn logon.link) (noted n logons carried number messages)) (sym stays.none)
                    (kept.out pending logon (subst (λ (r : Requester). r.turn ≡ Some pending) stays.same out) reply before)
                | inr calls ↦ goes_called unit pending logon calls before goes
              ]),
          noted_called note logons carried number messages goes (λ link is. answer_called messages controller logons unit kept.out link is) called,
        )

    unit_called : (read : Result RpcUnit UnitRefused) (joiner : Option RpcUnit) → NowCalled (taking_read read joiner c) (turn_unit read joiner at)
    unit_called read joiner =
        taking_by at NowCalled (record {
          waits = λ after goes. (kept.out, called);
          takes = takes_called;
          breaks = λ cause goes. (broken_none cause at messages, called);
        }) read joiner

  -- ---- the units of a piece

  abbrev PartCalled : List MessageTaken → ServedPart AtTurn TurnTalk → Type 0
  PartCalled messages (Err why) = Unit {0}
  PartCalled messages (Ok part) = CalledAt messages part.value.0.work.logons

  abbrev Walked : List (ServedUnit AtTurn TurnTalk) → ServedPart AtTurn TurnTalk → List ℕ → Book → Type 0
  Walked units part numbers b =
      PartCalled (note_turns controller units carried numbers b).messages part × AreCalled (note_turns controller units carried numbers b).messages

  abbrev Walks : List (List ℕ) → Option UnitRefused → Type 0
  Walks units why = (at : AtTurn) (talk : TurnTalk) (left : List (List ℕ)) (numbers : List ℕ) (b : Book) → AsksForKept true at.work.logons → KeepsCalled b.messages at.work.logons →
      AreCalled b.messages → AreNumbered controller (served_units turn_server units at talk left) numbers →
      Walked (served_units turn_server units at talk left) (served_by turn_server units why at talk left) numbers b

  said_walks : (units : List (List ℕ)) (why : Option UnitRefused) → Walks units why → (served : TurnServed) (left : List (List ℕ)) (numbers : List ℕ) (b : Book) →
      TurnAsksBy served.1 served.0.work.logons → KeepsCalled b.messages served.0.work.logons → AreCalled b.messages →
      AreNumbered controller (units_on served.0 served.1 left (λ later talk rest. served_units turn_server units later talk rest)) numbers →
      Walked (units_on served.0 served.1 left (λ later talk rest. served_units turn_server units later talk rest))
      (then_talk served.0 served.1 left (λ later talk rest. served_by turn_server units why later talk rest)) numbers b
  said_walks units why later (at, None) left numbers b asks kept called numbered = (kept.out, called)
  said_walks units why later (at, Some talk) left numbers b asks kept called numbered = later at talk left numbers b asks kept called numbered

  walks : (units : List (List ℕ)) (why : Option UnitRefused) → Walks units why
  walks [] None at talk left numbers b asks kept called numbered = (kept.out, called)
  walks [] (Some why) at talk left numbers b asks kept called numbered = (broken_none close.BadUnit at b.messages, called)
  walks (bytes ∷ units) why at talk left numbers b asks kept called numbered =
      let unit : ServedUnit AtTurn TurnTalk = unit_served turn_server bytes at talk left in
      let note : TurnNote = turn_note controller unit in
      let served : TurnServed = turn_unit (unit_of bytes) talk.joiner at in
      let now : Book = note_turn note unit carried (first_of numbers) b in
      let one : CalledAt now.messages served.0.work.logons × AreCalled now.messages =
      unit_called at (first_of numbers) b.messages asks.coherent kept called (unit_of bytes) talk.joiner numbered.0 in
      said_walks units why (walks units why) served left (later_of note.sends numbers) now (turn_asks (unit_of bytes) talk.joiner at asks)
      (record {
        each = turn_keeps (HasOn now.messages) (λ n. Unit {0}) (unit_of bytes) talk.joiner at
            (each_so (HasOn b.messages) (HasOn now.messages) (λ place logon has. on_noted logon.link note at.work.logons carried (first_of numbers) b.messages has) at.work.logons.asked kept.each);
        out = one.0;
      }) one.1 numbered.1

  -- ---- the step, and the next turn

  abbrev Called : List MessageTaken → WorkFact
  Called messages how w left = CalledAt messages w.logons

  turn_called : (messages : List MessageTaken) (part : ServedPart AtTurn TurnTalk) (rest : List ℕ) (number : ℕ) → PartCalled messages part → PartHolds (Called messages) (after_turn part rest number)
  turn_called messages (Err why) rest number called = tt
  turn_called messages (Ok part) rest number called = called

  next_called : (messages : List MessageTaken) (now : ℕ) → KeepsNext now (Called messages) (Called messages)
  next_called messages now = record {
    still = λ how w left can called. called;
    starts = λ turn frames challenge how w before after can drawn is called. λ pending logon out reply there.
        absurd (start_out w.logons.channel.turn w.logons.channel.waiting (given_channel w) (timestamp_of now) challenge pending question.Logon can out reply);
  }

  module _ (link : ℕ) (piece : List ℕ) (now : ℕ) (left : List (List ℕ)) (running : Running) (said : LinkState TurnTalk) (on : running.dialling ≡ dialling.On link said) where
    abbrev m : MemberState
    m = record { running = Some running }

    abbrev cut : Cut
    cut = cut_stream (said.rest ++ piece)

    abbrev on_link : List (ServedUnit AtTurn TurnTalk)
    on_link = served_units turn_server cut.units (at_turn link (work_of running)) said.talk left

    units_are : turn_units_in (Some running) link piece left ≡ on_link
    units_are =
        ap (λ (how : Dialling). turn_units_on how link piece running left) on
        ∙ ap (λ (hit : Bool). turn_units_by hit said link piece running left) ((Decides-eqb link link).1 refl)

    serves : by_event (event.Bytes link piece) running.dialling (work_of running) left ≡ serve_dialled cut link said.talk (work_of running) left
    serves =
        ap (λ (how : Dialling). by_event (event.Bytes link piece) how (work_of running) left) on
        ∙ ap (λ (hit : Bool). bytes_by hit said link piece (dialling.On link said) (work_of running) left) ((Decides-eqb link link).1 refl)

    module _ (numbers : List ℕ) (b : Book) (asks : AsksForKept (is_dialled running.dialling) running.logons) (kept : KeepsCalled b.messages running.logons) (called : AreCalled b.messages) where
      abbrev Stepped : Result (Part DialWork) StepRefused → Type 0
      Stepped part =
          AreNumbered controller (units_if_taken (step_by actions_in state_in halted_state left part).answer (turn_units_in (Some running) link piece left)) numbers →
          CalledFor (note_turns controller (units_if_taken (step_by actions_in state_in halted_state left part).answer (turn_units_in (Some running) link piece left)) carried numbers b).messages
          (step_by actions_in state_in halted_state left part).state.running
          × AreCalled (note_turns controller (units_if_taken (step_by actions_in state_in halted_state left part).answer (turn_units_in (Some running) link piece left)) carried numbers b).messages

      walked : AreNumbered controller on_link numbers → Walked on_link (served_by turn_server cut.units cut.refused (at_turn link (work_of running)) said.talk left) numbers b
      walked numbered =
          walks cut.units cut.refused (at_turn link (work_of running)) said.talk left numbers b (subst (λ (how : Dialling). AsksForKept (is_dialled how) running.logons) on asks) kept called numbered

      -- what the event and the next turn come to
      part_called : AreNumbered controller on_link numbers → PartHolds (Called (note_turns controller on_link carried numbers b).messages) (event_part running (event.Bytes link piece) now left)
      part_called numbered =
          let messages : List MessageTaken = (note_turns controller on_link carried numbers b).messages in
          next_follows now (Called messages) (Called messages) (next_called messages now) (by_event (event.Bytes link piece) running.dialling (work_of running) left)
          (subst (λ (part : Result (Part DialWork) StepRefused). PartHolds (Called messages) part) (sym serves)
          (turn_called messages (served_by turn_server cut.units cut.refused (at_turn link (work_of running)) said.talk left) cut.rest link (walked numbered).0))

      stepped : (part : Result (Part DialWork) StepRefused) → event_part running (event.Bytes link piece) now left ≡ part → Stepped part
      stepped (Err why) is numbered = (tt, called)
      stepped (Ok part) is numbered =
          subst (λ (units : List (ServedUnit AtTurn TurnTalk)).
          CalledFor (note_turns controller units carried numbers b).messages (step_by actions_in state_in halted_state left (Ok part)).state.running
          × AreCalled (note_turns controller units carried numbers b).messages) (sym units_are)
          (let all : AreNumbered controller on_link numbers = subst (λ (units : List (ServedUnit AtTurn TurnTalk)). AreNumbered controller units numbers) units_are numbered in (
            subst (λ (p : Result (Part DialWork) StepRefused). PartHolds (Called (note_turns controller on_link carried numbers b).messages) p) is (part_called all),
            (walked all).1,
          ))

      -- the step of a member at bytes on the link of its turn
      pub step_called : AreNumbered controller (turn_units m link piece now left) numbers →
          CalledFor (note_turns controller (turn_units m link piece now left) carried numbers b).messages (step_of m (event.Bytes link piece) now left).state.running
          × AreCalled (note_turns controller (turn_units m link piece now left) carried numbers b).messages
      step_called numbered = stepped (event_part running (event.Bytes link piece) now left) refl numbered

-- ---- the units that a member sends for its turn have their numbers

module _ (route : Route) (end : EndId) (link controller : ℕ) (own : is_own (kind_of route) ≡ true) (way : is_accepted_by end route ≡ false) where
  turn_numbered : (sends : Bool) (called : Option ℕ) (before : AtTurn) (after : Option AtTurn) (units : List (ServedUnit AtTurn TurnTalk)) (actions : List Action) (t later : State) →
      (perform_all end actions t).state ≡ later → slice_get t.links link ≡ Some route → before.link ≡ link → (called ≡ None) ⊎ (sends ≡ true) →
      IsFirstBy sends before after actions (λ more. AreFirst controller units more) →
      ((more : List Action) (u : State) → (perform_all end more u).state ≡ later → slice_get u.links link ≡ Some route → AreFirst controller units more →
      AreNumbered controller units (numbers_on link false u.bag later.bag)) →
      ((called ≡ None) ⊎ ((request : ℕ) × (first_of (numbers_on link false t.bag later.bag) ≡ Some request)))
      × AreNumbered controller units (later_of sends (numbers_on link false t.bag later.bag))
  turn_numbered false called before after units actions t later performed made on goes first rest =
      (elim goes [ inl none ↦ inl none | inr sends ↦ absurd (let never : false ≡ true = sends in cc) ], rest actions t performed made first)
  turn_numbered true called before after units actions t later performed made on goes first rest =
      let bytes : List ℕ = first.0 in
      let more : List Action = first.1 in
      let unit : BagUnit = unit_on route end link bytes in
      let u : State = record t { bag = t.bag ++ unit ∷ [] } in
      let goes : (perform_all end more u).state ≡ later =
      ap (λ (x : State). (perform_all end more x).state) (sym (sent_goes route end link bytes t made own))
      ∙ ap (λ (k : ℕ). (perform_all end more (perform_quietly end (action.Send k bytes) t)).state) (sym on)
      ∙ ap (λ (a : List Action). (perform_all end a t).state) (sym first.3)
      ∙ performed in
      let others : IsMore u.links u.bag (perform_all end more u).state.links (perform_all end more u).state.bag =
      actions_stay (MoreOf u.links u.bag) (goes_on u.links u.bag) end more u (no_more u.links u.bag) in
      let bag : later.bag ≡ (t.bag ++ unit ∷ []) ++ others.units = ap (λ (x : State). x.bag) (sym goes) ∙ others.is in
      subst (λ (numbers : List ℕ). ((called ≡ None) ⊎ ((request : ℕ) × (first_of numbers ≡ Some request))) × AreNumbered controller units (later_of true numbers))
      (sym (numbers_first link t.bag unit others.units later.bag bag (passes false link unit refl way))) (inr (length t.bag, refl), rest more u goes made first.6)

  turns_numbered : (units : List (ServedUnit AtTurn TurnTalk)) (actions : List Action) (t later : State) → (perform_all end actions t).state ≡ later → slice_get t.links link ≡ Some route →
      AreFirst controller units actions → AllByRecursion (λ (unit : ServedUnit AtTurn TurnTalk). unit.work.link ≡ link) units → AreNumbered controller units (numbers_on link false t.bag later.bag)
  turns_numbered [] actions t later performed made first on = tt
  turns_numbered (unit ∷ units) actions t later performed made first on =
      turn_numbered (turn_note controller unit).sends (turn_note controller unit).called unit.work (work_after unit.part) units actions t later performed made on.0
      (taking_goes (taking_read (unit_of unit.bytes) unit.talk.joiner unit.work.work.logons.channel) controller unit.work.work.logons.channel) first
      (λ more u goes still next. turns_numbered units more u later goes still next on.1)

-- where units of the turn were served, the turn that they leave is still on that link
abbrev IsPartOn : (link : ℕ) (part : ServedPart AtTurn TurnTalk) → Type 0
IsPartOn link (Err why) = Unit {0}
IsPartOn link (Ok part) = part.value.0.link ≡ link

units_on_link : (m : MemberState) (link : ℕ) (piece : List ℕ) (now : ℕ) (left : List (List ℕ)) →
    AllByRecursion (λ (unit : ServedUnit AtTurn TurnTalk). unit.work.link ≡ link) (turn_units m link piece now left)
units_on_link m link piece now left =
    turn_units_such (λ (unit : ServedUnit AtTurn TurnTalk). unit.work.link ≡ link) (λ how running. Unit {0}) link piece left
    (λ other said running known.
    served_such turn_server (IsPartOn link) (λ (unit : ServedUnit AtTurn TurnTalk). unit.work.link ≡ link) (λ bytes at talk left on. (on, on)) (cut_stream (said.rest ++ piece)).units
    (at_turn link (work_of running)) said.talk left refl) m now (λ running is. tt)

module _ (m : MemberState) (at : ℕ) (w : Delivery) (piece : List ℕ) (s : State) (controller : ℕ) (dialled : IsDialledBy s.links at w.link) where
  abbrev heard : AfterHearing
  heard = heard_by (member_step (Some m) at (event.Bytes w.link piece) s.moment s.ends s.chances) s

  abbrev after : State
  after = (done (Member at) heard).state

  numbered_by : (answer : Result (List Action) StepRefused) → (step_of m (event.Bytes w.link piece) s.moment s.chances.left).answer ≡ answer →
      AreNumbered controller (turn_units m w.link piece s.moment s.chances.left) (numbers_on w.link false s.bag after.bag)
  numbered_by (Err why) is =
      subst (λ (units : List (ServedUnit AtTurn TurnTalk)). AreNumbered controller units (numbers_on w.link false s.bag after.bag))
      (sym (ap (λ (a : Result (List Action) StepRefused). units_if_taken a (turn_units_in m.running w.link piece s.chances.left)) is)) tt
  numbered_by (Ok actions) is =
      turns_numbered (ToController at dialled.controller) (Member at) w.link controller refl refl (turn_units m w.link piece s.moment s.chances.left) actions heard.state after
      (ap (λ (a : Result (List Action) StepRefused). (perform_all (Member at) (actions_by a) heard.state).state) (sym is)) dialled.at
      (requests_first.first controller m w.link piece s.moment s.chances.left actions is) (units_on_link m w.link piece s.moment s.chances.left)

  pub units_numbered : AreNumbered controller (turn_units m w.link piece s.moment s.chances.left) (numbers_on w.link false s.bag after.bag)
  units_numbered = numbered_by (step_of m (event.Bytes w.link piece) s.moment s.chances.left).answer refl
