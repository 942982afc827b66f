-- What is known of the calls of members' turns is kept as a whole unit comes on the link of a member's turn, and so as
-- bytes come at a member. It serves `Proved.sequences`.
use Rattle.std.proofs.Common.{◌≡◌, ◌≢◌, ◌⊎◌, ℕ, zero, suc, ◌+◌, ◌≤◌, Bool, true, false, List, [], ◌∷◌, ◌++◌, drop, length, map, inl, inr, Option, Some, None, Result, Ok, Err, slice_get, refl, sym, ap, subst, ◌∙◌, arith}
use Rattle.outside.specs.Machine.{Part, step_by}
use Rattle.outside.specs.declared.action.StepRefused.{StepRefused}
use Rattle.outside.specs.declared.event.Event.{Event}
use Rattle.outside.specs.declared.event.Event.TheVariants as event
use Rattle.authenticators.specs.Channels.{ChannelIdentity}
use Rattle.channel_client.specs.Effects.{stands_in, view_of}
use Rattle.channel_client.specs.Machine.{take_of}
use Rattle.channel_client.specs.State.{Requester}
use Rattle.channel_events.specs.Marks.{Mark, Calling}
use Rattle.member_server.specs.Machine.{actions_in, event_part, halted_state, state_in, step_of}
use Rattle.member_server.specs.State.{State as MemberState}
use Rattle.member_server.specs.Turns.{DialWork}
use Rattle.channel_turns.specs.declared.state.Dialling.TheVariants as dialling
use Rattle.member_server.specs.declared.state.Running.{Running}
use Rattle.channel_turns.specs.declared.state.TurnTalk.{TurnTalk}
use Rattle.member_server.proofs.AskedLaws.{asks_what_waits}
use Rattle.rpc_units.specs.declared.unit.Unit.{Unit as RpcUnit}
use Rattle.end_links.specs.Links.{LinkState}
use Rattle.step_notes.specs.MemberNotes.{TurnNote, taking_note}
use Rattle.step_notes.specs.Records.{Book, ChannelTurn, Sent, unit_in, OfMember}
use Rattle.world_moves.specs.declared.links.EndId.TheVariants.{Member}
use Rattle.world_moves.specs.declared.plan.Plan.{Plan}
use Rattle.world_moves.specs.declared.state.State.{State}
use Rattle.world_moves.specs.Acting.{Given, AfterHearing, given_by, heard_by, perform_all}
use Rattle.world_moves.specs.Ends.{actions_by}
use Rattle.world_moves.specs.Alone.{hear_alone as hear}
use Rattle.world_moves.proofs.EndKindLaws.{of_member}
use Rattle.world_moves.specs.Plain.{plain_member_step as member_step}
use Rattle.domain_world.specs.Accepting.SeenSteps.{Differ, IsPlaced, NoRequests, Placed, PlacedBy, seen_running}
use Rattle.domain_world.specs.Accepting.Carried.{IsTakenInTurn}
use Rattle.domain_world.specs.Accepting.Sequences.{IsTakenFor}
use Rattle.domain_world.specs.Past.{Delivery, note_member, sent_at, controller_asked, running_in}
use Rattle.domain_world.proofs.Frames.AloneStepLaws.{act_alone as hear_and_act}
use Rattle.domain_world.proofs.Acceptance.CarriedLaws.{one_whole}
use Rattle.domain_world.proofs.Acceptance.LetInStepLaws.{IsDialledBy}
use Rattle.domain_world.proofs.Acceptance.Turns.TurnFactLaws.{AreApart, GrowsTo, MarksAreKnown, TurnFacts, apart_front, marks_before, past_at}
use Rattle.domain_world.proofs.Acceptance.Turns.TurnQuietLaws.{told_yet}
use Rattle.domain_world.proofs.Acceptance.Turns.TurnRunLaws.{TurnSide, rests_on}
use Rattle.domain_world.proofs.Acceptance.Turns.TurnSideLaws.{TurnSide as RestSide, comes, dialled_on, ends_same, first_book, hears as heard_whole, is_back, messages_in, new_in, sent_stays, turns_clash, units_of, whole}
use Rattle.domain_world.proofs.Messages.MessageApartLaws.{links_append, links_in, turns_links}
use Rattle.domain_world.proofs.Moves.ComingLaws.{CameFrom, CameInUnit, IsPieceOf, came_in_unit, kept_same}
use Rattle.domain_world.proofs.Moves.OpenMadeLaws.{IsAtSide}
use Rattle.domain_world.proofs.Calls.CallComesLaws.{IsWhole, marks, request_placed, served, turn, units_whole}
use Rattle.domain_world.proofs.Calls.CallFrameLaws.{TurnOn, turn_case}
use Rattle.domain_world.proofs.Calls.CallHoldsLaws.{CallsHold, differ_front, marks_append, marks_in, marks_sent}
use Rattle.domain_world.proofs.Calls.CallStepLaws.{most_steps}
use Rattle.domain_world.proofs.Calls.StepApartLaws.{seen_member}
use Rattle.domain_world.proofs.Calls.WholeNotedLaws.{placed_part}
use Rattle.domain_world.proofs.Sequences.CallTakenLaws.{IsAnswer}
use Rattle.domain_world.proofs.Sequences.DialCountLaws.{given_append, given_other}
use Rattle.domain_world.proofs.Sequences.Own.OwnFrameLaws.{StillDrawn}
use Rattle.domain_world.proofs.Sequences.Own.OwnKeepLaws.{OwnHolds, own_hears}
use Rattle.domain_world.proofs.Sequences.Own.OwnOtherLaws.{other_comes}
use Rattle.domain_world.proofs.Sequences.Own.OwnStayLaws.{HearsIf, NoNewOn, OnStanding, OwnFacts, before_stays, taken_for_stays, OwnOf, own_put}
use Rattle.domain_world.proofs.Sequences.Own.OwnStepLaws.{OwnIf, own_whole}
use Rattle.domain_world.proofs.Sequences.Own.OwnTakenLaws.{called_on, taken_for, turn_for}
use Rattle.domain_world.proofs.Sequences.Own.OwnWalkLaws.{MemberComes}
use Rattle.domain_world.proofs.Sequences.SeedTurnLaws.{drawn_still}
use Rattle.domain_world.proofs.Frames.EndNoteLaws.{turns_leave}
use Rattle.domain_world.proofs.Frames.TurnFrameLaws.{turns_sent}
use Rattle.domain_world.proofs.Moves.RequesterLaws.{asked_stays, asker_in, not_that}

-- ---- the marks that are written down

-- the first of them, where no other is a request
one_behind : (rest : List Mark) (mark : Mark) → NoRequests rest → (n number timestamp : ℕ) (c : ChannelIdentity) → slice_get (mark ∷ rest) n ≡ Some (Calling c number timestamp) → mark ≡ Calling c number timestamp
one_behind rest mark none zero number timestamp c there = let x = there in cc
one_behind rest mark none (suc n) number timestamp c there = absurd (none n number c (Calling c number timestamp) (refl, refl) there)

call_in : (front rest : List Mark) (mark : Mark) → NoRequests front → NoRequests rest → (n number timestamp : ℕ) (c : ChannelIdentity) → slice_get (front ++ mark ∷ rest) n ≡ Some (Calling c number timestamp) →
    mark ≡ Calling c number timestamp
call_in [] rest mark none_before behind n number timestamp c there = one_behind rest mark behind n number timestamp c there
call_in (first ∷ front) rest mark none_before behind zero number timestamp c there = absurd (none_before zero number c (Calling c number timestamp) (refl, refl) there)
call_in (first ∷ front) rest mark none_before behind (suc n) number timestamp c there = call_in front rest mark (λ k. none_before (suc k)) behind n number timestamp c there

behind_or : (old more : List Mark) (mark : Mark) → ((n number timestamp : ℕ) (c : ChannelIdentity) → slice_get more n ≡ Some (Calling c number timestamp) → mark ≡ Calling c number timestamp) →
    (n number timestamp : ℕ) (c : ChannelIdentity) → slice_get (old ++ more) n ≡ Some (Calling c number timestamp) →
    (slice_get old n ≡ Some (Calling c number timestamp)) ⊎ (mark ≡ Calling c number timestamp)
behind_or [] more mark so n number timestamp c there = inr (so n number timestamp c there)
behind_or (first ∷ old) more mark so zero number timestamp c there = inl there
behind_or (first ∷ old) more mark so (suc n) number timestamp c there = behind_or old more mark so n number timestamp c there

-- of marks among which one stands, or none is a request
abbrev OnlyThat : List Mark → Mark → Type 0
OnlyThat more mark = (n number timestamp : ℕ) (c : ChannelIdentity) → slice_get more n ≡ Some (Calling c number timestamp) → mark ≡ Calling c number timestamp

only_none : (more : List Mark) (mark : Mark) → NoRequests more → OnlyThat more mark
only_none more mark none n number timestamp c there = absurd (none n number c (Calling c number timestamp) (refl, refl) there)

only_one : (more : List Mark) (mark : Mark) → IsPlaced more mark → OnlyThat more mark
only_one more mark is n number timestamp c there =
    call_in is.front is.rest mark is.before is.behind n number timestamp c (subst (λ (all : List Mark). slice_get all n ≡ Some (Calling c number timestamp)) is.is there)

only_by : (sends : Bool) (mark : Mark) (more : List Mark) → Placed sends mark more → (sends ≡ true → IsPlaced more mark) → OnlyThat more mark
only_by false mark more placed so = only_none more mark placed
only_by true mark more placed so = only_one more mark (so refl)

-- ---- the whole unit

module _ (plan : Plan) (n at : ℕ) (w : Delivery) (piece : List ℕ)
    (s after : State) (given : Given) (b : Book) (running : Running) (said : LinkState TurnTalk) (on : running.dialling ≡ dialling.On w.link said)
    (is : slice_get s.ends.members at ≡ Some (record { running = Some running })) (even : length b.sent ≡ length s.bag)
    (bag : after.bag
    ≡ (perform_all (Member at) (actions_by (step_of (record { running = Some running }) (event.Bytes w.link piece) s.moment s.chances.left).answer)
    (heard_by (member_step (Some (record { running = Some running })) at (event.Bytes w.link piece) s.moment s.ends s.chances) s).state).state.bag) where
  abbrev what : Event
  what = event.Bytes w.link piece

  abbrev m : MemberState
  m = record { running = Some running }

  abbrev its : ℕ
  its = controller_asked (OfMember at) s

  abbrev c : Requester
  c = running.logons.channel

  abbrev part_of : Result (Part DialWork) StepRefused
  part_of = event_part running what s.moment s.chances.left

  abbrev t : State
  t = (heard_by (member_step (Some m) at what s.moment s.ends s.chances) s).state

  abbrev d : Book
  d = note_member (Some m) at w piece s after b

  abbrev more_given : Given
  more_given = given ++ given_by (Member at) (actions_by (step_of m what s.moment s.chances.left).answer)

  grows : GrowsTo s t b d
  grows = record { bag = kept_same s.bag; sent = sent_stays plan at w piece s after given b (Some running); ends = ends_same plan at w piece s after given b (Some running) }

  module _ (whole_one : IsWhole w.link piece running) where
    abbrev new : List Mark
    new = marks n at w piece s after b running whole_one

    abbrev note : TurnNote
    note = taking_note (Some (take_of c whole_one.unit)) its c

    now_marks : marks_in d.sent ≡ marks_in b.sent ++ new
    now_marks =
        ap (λ (old : List Sent). marks_in (old ++ map (sent_at w.at) new))
        (turns_sent (OfMember at) w (units_of plan at w piece s after given b (Some running)) s after (first_book plan at w piece s after given b (Some running)))
        ∙ marks_append b.sent (map (sent_at w.at) new) ∙ ap (λ (more : List Mark). marks_in b.sent ++ more) (marks_sent w.at new)

    placed_by : PlacedBy part_of note new
    placed_by =
        placed_part its (turn n at w piece s after b running whole_one) whole_one.unit part_of w.link (drop (length s.bag) after.bag) s.chances.left
        (served n at w piece s after b running whole_one) (units_whole n at w piece s after b running whole_one)

    module _ (link : IsDialledBy s.links at w.link) where
      only_new : (part : Result (Part DialWork) StepRefused) → part_of ≡ part → OnlyThat new note.mark
      only_new (Err why) err = only_none new note.mark (subst (λ (p : Result (Part DialWork) StepRefused). PlacedBy p note new) err placed_by)
      only_new (Ok part) ok =
          only_by note.sends note.mark new (subst (λ (p : Result (Part DialWork) StepRefused). PlacedBy p note new) ok placed_by)
          (λ sends. request_placed n at w piece s after b running whole_one link even bag part ok sends)

      -- of another requester
      others_new : CallsHold n s.member_plans s.ends s.chances.drawn s.links b.sent b.messages → (k : ℕ) → k ≢ at → (r : Option Running) → asker_in k s.ends ≡ r →
          OnStanding (NoNewOn (marks_in b.sent) (marks_in d.sent)) (controller_asked (OfMember k) s) r
      others_new holds k differs None runs = tt
      others_new holds k differs (Some other) runs = λ channel stands i number timestamp e called client.
          elim (behind_or (marks_in b.sent) new note.mark (only_new part_of refl) i number timestamp e
          (subst (λ (all : List Mark). slice_get all i ≡ Some (Calling e number timestamp)) now_marks called)) [
            | inl old ↦ old
            | inr mark ↦
                (let own : stands_in its c.caller.computer c.standing ≡ Some e = called_on its c e number timestamp whole_one.unit mark in
                let asked : ℕ = controller_asked (OfMember k) s in
                absurd (differs (holds.apart.apart k at (view_of asked other.logons.channel) (view_of its c) e.client
                (ap (seen_running asked) runs) (ap (λ (x : Option MemberState). seen_member its x) is)
                (record { how = inr (channel, stands, sym client) }) (record { how = inr (e, own, refl) }))))
          ]

      -- of the member itself
      own_at : (part : Result (Part DialWork) StepRefused) → part_of ≡ part → CallsHold n s.member_plans s.ends s.chances.drawn s.links b.sent b.messages →
          OwnOf plan s given b (OfMember at) (Some running) →
          ((p : Part DialWork) → part_of ≡ Ok p → (channel : ChannelIdentity) (number : ℕ) → IsAnswer (take_of c whole_one.unit).taken → (view_of its c).stands ≡ Some channel →
          (view_of its c).asking ≡ Some number → (i timestamp : ℕ) → slice_get (marks_in b.sent) i ≡ Some (Calling channel number timestamp) → IsTakenFor (past_at plan t d) i) →
          Differ t.chances.drawn →
          OwnIf (IsTakenFor (past_at plan t d)) (marks_in b.sent ++ new) t.chances.drawn b.turns more_given its (OfMember at) (step_of m what s.moment s.chances.left).state.running
      own_at (Err why) err holds old done differ =
          subst (λ (p : Result (Part DialWork) StepRefused).
          OwnIf (IsTakenFor (past_at plan t d)) (marks_in b.sent ++ new) t.chances.drawn b.turns more_given its (OfMember at) (step_by actions_in state_in halted_state s.chances.left p).state.running) (sym err) tt
      own_at (Ok part) ok holds old done differ =
          own_whole (IsTakenFor (past_at plan s b)) (IsTakenFor (past_at plan t d)) (taken_for_stays plan s t b d grows) (marks_in b.sent) new s.chances.drawn b.turns given its (OfMember at) running
          w.link whole_one.said piece whole_one.frames whole_one.unit s.moment s.chances.left whole_one.on whole_one.rest whole_one.none whole_one.heard old.0
          (λ challenge opening i number timestamp e there client.
          holds.apart.opening at (view_of its c) i number timestamp e (ap (λ (x : Option MemberState). seen_member its x) is) (opening ∙ ap (λ (x : List ℕ). Some x) (sym client)) there)
          (subst (λ (p : Result (Part DialWork) StepRefused). PlacedBy p note new) ok placed_by)
          (λ e number timestamp place noted.
          subst (λ (mark : Mark). IsPlaced new mark) (ap (λ (x : TurnNote). x.mark) noted)
          (request_placed n at w piece s after b running whole_one link even bag part ok (ap (λ (x : TurnNote). x.sends) noted)))
          (done part ok) old.1 differ

      -- of all
      facts_after : CallsHold n s.member_plans s.ends s.chances.drawn s.links b.sent b.messages → OwnFacts plan s given b →
          ((p : Part DialWork) → part_of ≡ Ok p → (channel : ChannelIdentity) (number : ℕ) → IsAnswer (take_of c whole_one.unit).taken → (view_of its c).stands ≡ Some channel →
          (view_of its c).asking ≡ Some number → (i timestamp : ℕ) → slice_get (marks_in b.sent) i ≡ Some (Calling channel number timestamp) → IsTakenFor (past_at plan t d) i) →
          Differ t.chances.drawn → OwnFacts plan t more_given d
      facts_after holds old done differ =
          let turns : d.turns ≡ b.turns = turns_leave m at w piece s after b in
          let still : StillDrawn s.chances.drawn t.chances.drawn = λ challenge was. drawn_still challenge s.chances.drawn (step_of m what s.moment s.chances.left).drawn was in
          let state : MemberState = (step_of m what s.moment s.chances.left).state in
          let was : OwnOf plan s given b (OfMember at) (Some running) = subst (λ (found : Option MemberState). OwnOf plan s given b (OfMember at) (running_in found)) is (old.asks at) in
          let now : ℕ = controller_asked (OfMember at) t in
          let own : OwnOf plan t more_given d (OfMember at) state.running = (
            asks_what_waits.keeps m running what s.moment s.chances.left refl was.0,
            subst (λ (all : List ChannelTurn). OwnIf (IsTakenFor (past_at plan t d)) (marks_in d.sent) t.chances.drawn all more_given now (OfMember at) state.running) (sym turns)
                (subst (λ (all : List Mark). OwnIf (IsTakenFor (past_at plan t d)) all t.chances.drawn b.turns more_given now (OfMember at) state.running) (sym now_marks)
                (subst (λ (c : ℕ). OwnIf (IsTakenFor (past_at plan t d)) (marks_in b.sent ++ new) t.chances.drawn b.turns more_given c (OfMember at) state.running)
                (sym (asked_stays at s t refl grows.ends)) (own_at part_of refl holds was done differ))),
          ) in
          record {
            before = before_stays plan s t b d refl grows given more_given still turns old.before;
            asks = own_put plan s t b d refl grows given more_given still turns at state own
                (λ k differs.
                omega (
                  arith,
                  given_append (Member k) given (given_by (Member at) (actions_by (step_of m what s.moment s.chances.left).answer)),
                  given_other (Member k) (Member at) (actions_by (step_of m what s.moment s.chances.left).answer) (not_that k at differs),
                ))
                (λ k differs. others_new holds k differs (asker_in k s.ends) refl) old;
          }

  -- with what is known at that time
  from_bag : (u : ℕ) → IsPieceOf s u w piece → unit_in w.source ≡ Some u → IsAtSide s.links w.link w.back (Member at) → TurnSide plan n s given b → OwnHolds plan n s given b → OwnHolds plan (n + 1) t more_given d
  from_bag u piece_of carried at_side side known few unclashed apart marks_known differ =
      let first : AreApart (links_in (messages_in plan at w piece s after given b (Some running))) =
      subst AreApart (turns_links (OfMember at) w (units_of plan at w piece s after given b (Some running)) s after (first_book plan at w piece s after given b (Some running))) apart in
      let few_before : n ≤ most_steps = omega (arith, few) in
      let unclashed_before : b.clash ≡ false =
      turns_clash (OfMember at) w (units_of plan at w piece s after given b (Some running)) s after (first_book plan at w piece s after given b (Some running)) unclashed in
      let apart_before : AreApart (links_in b.messages) =
      apart_front (links_in b.messages) (links_in (new_in plan at w piece s after given b (Some running)))
      (subst AreApart (links_append b.messages (new_in plan at w piece s after given b (Some running))) first) in
      let marks_before_so : MarksAreKnown s b = marks_before s t b d grows marks_known in
      let differ_before : Differ s.chances.drawn = differ_front s.chances.drawn (step_of m what s.moment s.chances.left).drawn differ in
      let old : OwnFacts plan s given b = known few_before unclashed_before apart_before marks_before_so differ_before in
      let holds : CallsHold n s.member_plans s.ends s.chances.drawn s.links b.sent b.messages = side.0.0.1 few_before differ_before in
      let rest : RestSide plan s b = rests_on plan n s given b side.0 few_before in
      let turns = side.1 few_before in
      let facts : TurnFacts plan s b b.messages b.answers (told_yet given b) = turns.1 unclashed_before apart_before marks_before_so in
      let back : w.back ≡ true = is_back plan at w piece s after given b rest running said is on at_side in
      let heard = heard_whole plan at w piece s after given b rest running said is on u piece_of back facts carried unclashed first turns.0 marks_known in
      let unit = (whole plan at w piece s after given b rest running said is on u piece_of back facts carried unclashed first turns.0 marks_known).0.unit in
      let one : IsWhole w.link piece running =
      record { said = heard.said; on = heard.on; rest = heard.rest; none = heard.none; frames = heard.frames; unit = unit; heard = heard.heard } in
      facts_after one (dialled_on plan at w piece s after given b rest running said is on) holds old
      (λ part ok channel number is_answer stands asking i timestamp there.
      taken_for plan at w.link u s t b d (messages_in plan at w piece s after given b (Some running)) running piece unit its s.moment s.chances.left part
      (comes plan at w piece s after given b rest running said is on u piece_of back facts carried unclashed first turns.0 marks_known part ok) channel number is_answer stands asking i timestamp there) differ

  -- the reply to the call that is asked on the channel that stands is taken in the turn of the call
  pub answer_turn : (u : ℕ) → IsPieceOf s u w piece → unit_in w.source ≡ Some u → IsAtSide s.links w.link w.back (Member at) → TurnSide plan n s given b → n + 1 ≤ most_steps → d.clash ≡ false →
      AreApart (links_in d.messages) → MarksAreKnown t d → Differ s.chances.drawn → (whole_one : IsWhole w.link piece running) (part : Part DialWork) → part_of ≡ Ok part → (channel : ChannelIdentity) (number : ℕ) →
      IsAnswer (take_of c whole_one.unit).taken → (view_of its c).stands ≡ Some channel → (view_of its c).asking ≡ Some number → (i timestamp : ℕ) →
      slice_get (marks_in b.sent) i ≡ Some (Calling channel number timestamp) → IsTakenInTurn (past_at plan t d) (record { at = 0; requester = OfMember at; call = i; reply = u })
  answer_turn u piece_of carried at_side side few unclashed apart marks_known differ whole_one part ok channel number is_answer stands asking i timestamp there =
      let first : AreApart (links_in (messages_in plan at w piece s after given b (Some running))) =
      subst AreApart (turns_links (OfMember at) w (units_of plan at w piece s after given b (Some running)) s after (first_book plan at w piece s after given b (Some running))) apart in
      let few_before : n ≤ most_steps = omega (arith, few) in
      let unclashed_before : b.clash ≡ false =
      turns_clash (OfMember at) w (units_of plan at w piece s after given b (Some running)) s after (first_book plan at w piece s after given b (Some running)) unclashed in
      let apart_before : AreApart (links_in b.messages) =
      apart_front (links_in b.messages) (links_in (new_in plan at w piece s after given b (Some running)))
      (subst AreApart (links_append b.messages (new_in plan at w piece s after given b (Some running))) first) in
      let marks_before_so : MarksAreKnown s b = marks_before s t b d grows marks_known in
      let rest : RestSide plan s b = rests_on plan n s given b side.0 few_before in
      let turns = side.1 few_before in
      let facts : TurnFacts plan s b b.messages b.answers (told_yet given b) = turns.1 unclashed_before apart_before marks_before_so in
      let back : w.back ≡ true = is_back plan at w piece s after given b rest running said is on at_side in
      let heard = heard_whole plan at w piece s after given b rest running said is on u piece_of back facts carried unclashed first turns.0 marks_known in
      let unit = (whole plan at w piece s after given b rest running said is on u piece_of back facts carried unclashed first turns.0 marks_known).0.unit in
      let same : whole_one.unit ≡ unit = one_whole piece whole_one.frames heard.frames whole_one.unit unit whole_one.heard heard.heard in
      turn_for plan at w.link u s t b d (messages_in plan at w piece s after given b (Some running)) running piece unit its s.moment s.chances.left part
      (comes plan at w piece s after given b rest running said is on u piece_of back facts carried unclashed first turns.0 marks_known part ok) channel number
      (subst (λ (x : RpcUnit). IsAnswer (take_of c x).taken) same is_answer) stands asking i timestamp there

  came_from : CameFrom w.source s w piece → IsAtSide s.links w.link w.back (Member at) → TurnSide plan n s given b → OwnHolds plan n s given b →
      OwnHolds plan (n + 1) t more_given d
  came_from came at_side side known few unclashed apart marks_known differ =
      let differ_before : Differ s.chances.drawn = differ_front s.chances.drawn (step_of m what s.moment s.chances.left).drawn differ in
      let link : IsDialledBy s.links at w.link = dialled_on plan at w piece s after given b (rests_on plan n s given b side.0 (omega (arith, few))) running said is on in
      let in_unit : CameInUnit w.source s w piece = came_in_unit w.source s w piece at link.controller came link.at in
      from_bag in_unit.number in_unit.piece_of (ap unit_in in_unit.is) at_side side known few unclashed apart marks_known differ

-- ---- bytes come at a member

module _ (plan : Plan) (n at : ℕ) (w : Delivery) (piece : List ℕ) (s : State)
    (given : Given) (b : Book) (at_side : IsAtSide s.links w.link w.back (Member at)) (came : CameFrom w.source s w piece) (even : length b.sent ≡ length s.bag) (side : TurnSide plan n s given b)
    (known : OwnHolds plan n s given b) where
  abbrev bytes : Event
  bytes = event.Bytes w.link piece

  abbrev HeardBy : Option MemberState → AfterHearing
  HeardBy found = heard_by (member_step found at bytes s.moment s.ends s.chances) s

  abbrev after_all : State
  after_all = (hear_and_act (Member at) bytes s).state

  abbrev IsNoted : Option MemberState → Type 0
  IsNoted found = OwnHolds plan (n + 1) (hear (Member at) bytes s).state (given ++ given_by (Member at) (hear (Member at) bytes s).actions) (note_member found at w piece s after_all b)

  abbrev IsKept : Option MemberState → Type 0
  IsKept found = OwnHolds plan (n + 1) (HeardBy found).state (given ++ given_by (Member at) (HeardBy found).actions) (note_member found at w piece s after_all b)

  running_comes : (m : MemberState) (on : TurnOn m.running w.link) → slice_get s.ends.members at ≡ Some m → IsNoted (slice_get s.ends.members at)
  running_comes m on is =
      let now : MemberState = record { running = Some on.running } in
      let same : m ≡ now = ap (λ (r : Option Running). record { running = r }) on.runs in
      let there : slice_get s.ends.members at ≡ Some now = is ∙ ap (λ (x : MemberState). Some x) same in
      subst IsKept (sym there)
      (came_from plan n at w piece s after_all given b on.running on.said on.on there even
      (ap (λ (found : Option MemberState).
      (perform_all (Member at) (member_step found at bytes s.moment s.ends s.chances).actions (heard_by (member_step found at bytes s.moment s.ends s.chances) s).state).state.bag) there)
      came at_side side known)

  by_member : (found : Option MemberState) → slice_get s.ends.members at ≡ found → IsNoted (slice_get s.ends.members at)
  by_member None is =
      subst IsNoted (sym is)
      (own_hears plan n (Member at) bytes s given b
      (of_member (λ (k : ℕ). HearsIf (slice_get s.ends.members k) bytes) at (let none : HearsIf None bytes = tt in subst (λ (found : Option MemberState). HearsIf found bytes) (sym is) none)) known)
  by_member (Some m) is = elim (turn_case m.running w.link) [
    | inl other ↦ subst IsNoted (sym is) (other_comes plan n at w piece s after_all given b m is other known)
    | inr on ↦ running_comes m on is
  ]

-- what is known of the calls of turns is kept as bytes come at a member
pub own_comes : (plan : Plan) → MemberComes plan (TurnSide plan)
own_comes plan n at w piece s given b at_side came even side known =
    by_member plan n at w piece s given b at_side came even side known (slice_get s.ends.members at) refl
