-- What is known of the calls of members' turns is kept as bytes come at a member on another link than that of its turn.
-- It serves `Proved.sequences`.
use Rattle.std.proofs.Common.{◌≡◌, ℕ, ◌+◌, false, List, [], ◌++◌, drop, length, map, Option, Some, slice_get, refl, sym, ap, subst, ◌∙◌}
use Rattle.outside.specs.declared.event.Event.{Event}
use Rattle.outside.specs.declared.event.Event.TheVariants as event
use Rattle.end_links.specs.Serving.{ServedUnit}
use Rattle.channel_events.specs.Marks.{Mark, Calling}
use Rattle.wire_base.proofs.ListLaws.{got_append}
use Rattle.member_server.specs.Machine.{step_of}
use Rattle.member_server.specs.State.{State as MemberState}
use Rattle.member_server.specs.Turns.{AtTurn}
use Rattle.channel_turns.specs.declared.state.TurnTalk.{TurnTalk}
use Rattle.step_notes.specs.MemberNotes.{link_units, message_note, turn_units}
use Rattle.step_notes.specs.Records.{Book, MessageTaken, OfMember, unit_in}
use Rattle.step_notes.specs.Served.{units_if_taken}
use Rattle.std.specs.Prelude.{flat_map}
use Rattle.world_moves.specs.declared.links.EndId.TheVariants.{Member}
use Rattle.world_moves.specs.declared.plan.Plan.{Plan}
use Rattle.world_moves.specs.declared.state.State.{State}
use Rattle.world_moves.specs.Acting.{Given, given_by}
use Rattle.world_moves.specs.Alone.{hear_alone as hear}
use Rattle.world_moves.proofs.EndKindLaws.{of_member}
use Rattle.domain_world.specs.Past.{Delivery, at_member, marks_of, note_member, note_messages, sent_at, with_marks, with_taken}
use Rattle.domain_world.proofs.Acceptance.Turns.TurnFactLaws.{AreApart, apart_front}
use Rattle.domain_world.proofs.Messages.MessageApartLaws.{links_append, links_in}
use Rattle.domain_world.proofs.Calls.CallComesLaws.{if_none, no_requests_sent, other_none, units_in_none}
use Rattle.domain_world.proofs.Calls.CallHoldsLaws.{marks_append, marks_in}
use Rattle.domain_world.proofs.Calls.LooserLaws.{calls_before}
use Rattle.domain_world.proofs.Calls.OutStepLaws.{IsOther}
use Rattle.domain_world.proofs.Calls.WholeNotedLaws.{none_marked}
use Rattle.domain_world.proofs.Sequences.Own.OwnCarryLaws.{book_changed}
use Rattle.domain_world.proofs.Sequences.Own.OwnKeepLaws.{OwnHolds, own_hears}
use Rattle.domain_world.proofs.Sequences.Own.OwnStayLaws.{HearsIf}
use Rattle.domain_world.proofs.Frames.TurnFrameLaws.{asked_book, asked_notes, asked_marks}

module _ (plan : Plan) (n at : ℕ) (w : Delivery) (piece : List ℕ) (s t after : State) (given : Given) (b : Book) (m : MemberState) where
  abbrev NotedBy : List (ServedUnit AtTurn TurnTalk) → Type 0
  NotedBy units =
      OwnHolds plan n t given
      (with_marks w.at w.link false (drop (length s.bag) after.bag) (asked_marks (OfMember at) s units)
      (with_taken (OfMember at) w.at (unit_in w.source) (asked_notes (OfMember at) s units) (asked_book (OfMember at) w units s after (note_messages at m w piece s b))))

  other_noted : IsOther m.running w.link → OwnHolds plan n t given b → OwnHolds plan n t given (note_member (Some m) at w piece s after b)
  other_noted other holds =
      let none : turn_units m w.link piece s.moment s.chances.left ≡ [] =
      ap (λ (units : List (ServedUnit AtTurn TurnTalk)). units_if_taken (step_of m (event.Bytes w.link piece) s.moment s.chances.left).answer units)
      (units_in_none m.running w.link piece s.chances.left other)
      ∙ if_none (step_of m (event.Bytes w.link piece) s.moment s.chances.left).answer in
      let new : List Mark = marks_of w.link false (drop (length s.bag) after.bag) [] in
      let news : List MessageTaken = flat_map (message_note (at_member at w s)) (link_units m w.link piece s.moment s.chances.left) in
      subst NotedBy (sym none)
      (book_changed plan n t given b (with_marks w.at w.link false (drop (length s.bag) after.bag) [] (with_taken (OfMember at) w.at (unit_in w.source) [] (note_messages at m w piece s b)))
      (λ k one there. got_append b.sent (map (sent_at w.at) new) k one there) (λ unclashed. unclashed)
      (λ apart. apart_front (links_in b.messages) (links_in news) (subst AreApart (links_append b.messages news) apart)) refl
      (λ k number timestamp e there.
      calls_before (marks_in b.sent) (marks_in (map (sent_at w.at) new)) (no_requests_sent w.at new (none_marked w.link false (drop (length s.bag) after.bag))) k number timestamp e
      (subst (λ (all : List Mark). slice_get all k ≡ Some (Calling e number timestamp)) (marks_append b.sent (map (sent_at w.at) new)) there)) holds)

-- no unit comes on the link of its turn
pub other_comes : (plan : Plan) (n at : ℕ) (w : Delivery) (piece : List ℕ) (s after : State) (given : Given) (b : Book) (m : MemberState) →
    slice_get s.ends.members at ≡ Some m → IsOther m.running w.link → OwnHolds plan n s given b →
    OwnHolds plan (n + 1) (hear (Member at) (event.Bytes w.link piece) s).state (given ++ given_by (Member at) (hear (Member at) (event.Bytes w.link piece) s).actions)
    (note_member (Some m) at w piece s after b)
other_comes plan n at w piece s after given b m is other holds =
    let what : Event = event.Bytes w.link piece in
    other_noted plan (n + 1) at w piece s (hear (Member at) what s).state after (given ++ given_by (Member at) (hear (Member at) what s).actions) b m other
    (own_hears plan n (Member at) what s given b
    (of_member (λ (k : ℕ). HearsIf (slice_get s.ends.members k) what) at (subst (λ (found : Option MemberState). HearsIf found what) (sym is) (other_none m.running w.link piece other))) holds)
