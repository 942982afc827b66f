-- What is known of the calls of members' turns holds after a run, where it is kept as bytes come at a member.
-- It serves `Proved.sequences`.
use Rattle.std.proofs.Common.{◌≡◌, ℕ, ◌+◌, true, List, ◌++◌, drop, length, map, Some, slice_get, refl, subst, false}
use Rattle.std.specs.List.{AllByRecursion}
use Rattle.outside.specs.declared.event.Event.{Event}
use Rattle.outside.specs.declared.event.Event.TheVariants as event
use Rattle.channel_events.specs.Marks.{Mark, Calling}
use Rattle.channel_events.specs.Requests.{IsNoRequest}
use Rattle.wire_base.proofs.ListLaws.{all_weaker, got_append}
use Rattle.domain_controller.specs.State.{State as ControllerState}
use Rattle.logon_client.specs.State.{State as ClientState}
use Rattle.step_notes.specs.ControllerNotes.{units_of_controller}
use Rattle.step_notes.specs.Marking.{answered_marks}
use Rattle.step_notes.specs.Records.{Book, unit_in}
use Rattle.world_moves.specs.declared.links.EndId.{EndId}
use Rattle.world_moves.specs.declared.links.EndId.TheVariants.{Member}
use Rattle.world_moves.specs.declared.plan.Plan.{Plan}
use Rattle.world_moves.specs.declared.state.State.{State}
use Rattle.world_moves.specs.Acting.{Given, given_by, perform_quietly, shut_link, forget}
use Rattle.world_moves.specs.Links.{acceptor_of}
use Rattle.world_moves.specs.Moving.{answered_link, begun, settle, tick, with_link, without_first, changed as begun_change}
use Rattle.world_moves.specs.Alone.{hear_alone as hear}
use Rattle.world_moves.proofs.EndKindLaws.{by_member, is_member, no_member}
use Rattle.domain_world.specs.Past.{Delivery, any_clash, at_controller, marks_of, note_client, sent_at}
use Rattle.domain_world.proofs.Frames.AloneNoteLaws.{alone_answers as answers_of, note_alone as note_at, note_controller_alone as note_controller}
use Rattle.domain_world.proofs.Frames.AloneStepLaws.{act_alone as hear_and_act}
use Rattle.domain_world.proofs.Acceptance.Turns.TurnNotedLaws.{or_false}
use Rattle.domain_world.proofs.Acceptance.Turns.TurnQuietLaws.{action_still}
use Rattle.domain_world.proofs.Moves.ComingLaws.{CameFrom, kept_same, kept_settled}
use Rattle.domain_world.proofs.Moves.OpenMadeLaws.{IsAtSide}
use Rattle.domain_world.specs.Accepting.Answered.{IsItsWay}
use Rattle.domain_world.proofs.Calls.MarkWayLaws.{answers_way}
use Rattle.domain_world.proofs.Frames.BagFrameLaws.{IsServer}
use Rattle.domain_world.proofs.Frames.StepFrameLaws.{AnyAction, HasHeard, KeepsWith, RunFact, all_any}
use Rattle.domain_world.proofs.Calls.CallComesLaws.{no_requests_sent, reply_no_request}
use Rattle.domain_world.proofs.Calls.CallHoldsLaws.{marks_append, marks_in}
use Rattle.domain_world.proofs.Calls.LooserLaws.{calls_before}
use Rattle.domain_world.proofs.Calls.WholeNotedLaws.{no_requests_marked}
use Rattle.domain_world.proofs.Sequences.Own.OwnCarryLaws.{own_change, book_changed, changed, client_begins, none_if, own_anew}
use Rattle.domain_world.proofs.Sequences.Own.OwnKeepLaws.{HearsNoUnit, OwnHolds, own_hears}
use Rattle.domain_world.proofs.Sequences.Own.OwnStayLaws.{HearsIf}
use Rattle.domain_world.proofs.Frames.EndNoteLaws.{book_by}
use Rattle.domain_world.proofs.Frames.EventLaws.{calm_no_bytes}
use Rattle.domain_world.proofs.Moves.NoBytesLaws.{IsNoBytes}
use Rattle.world_moves.proofs.KeptLaws.{plans_alike}

no_unit : (end : EndId) (what : Event) (s : State) → IsNoBytes what → HearsNoUnit end what s
no_unit end what s none at is = none_if (slice_get s.ends.members at) what none

-- What is known is kept as bytes come at a member, by what the fact rests on.
abbrev pub MemberComes : Plan → RunFact → Type 0
MemberComes plan Side =
    (n at : ℕ) (w : Delivery) (piece : List ℕ) (s : State) (given : Given) (b : Book) → IsAtSide s.links w.link w.back (Member at) → CameFrom w.source s w piece → length b.sent ≡ length s.bag →
    Side n s given b → OwnHolds plan n s given b →
    OwnHolds plan (n + 1) (hear (Member at) (event.Bytes w.link piece) s).state (given ++ given_by (Member at) (hear (Member at) (event.Bytes w.link piece) s).actions)
    (note_at (Some (Member at)) w piece s (hear_and_act (Member at) (event.Bytes w.link piece) s).state b)

module _ (plan : Plan) where
  heard_so : (n : ℕ) (end : EndId) (what : Event) (s : State) (given : Given) (b : Book) → IsNoBytes what → OwnHolds plan n s given b →
      HasHeard (OwnHolds plan) AnyAction (n + 1) end (hear end what s) given b
  heard_so n end what s given b none holds =
      record { holds = own_hears plan n end what s given b (no_unit end what s none) holds; fine = all_any (hear end what s).actions }

  controller_noted : (c : ControllerState) (at n : ℕ) (w : Delivery) (piece : List ℕ) (s t after : State) (given : Given) (b : Book) → OwnHolds plan n t given b →
      OwnHolds plan n t given (note_controller (Some c) at w piece s after b)
  controller_noted c at n w piece s t after given b holds =
      let marks : List Mark = answered_marks (answers_of at c w piece s) in
      let new : List Mark = marks_of w.link true (drop (length s.bag) after.bag) marks in
      let none : AllByRecursion IsNoRequest marks =
      all_weaker (λ (mark : Mark). IsItsWay true mark) IsNoRequest marks reply_no_request
      (answers_way w.link (at_controller at c w s) (units_of_controller c w.link piece s.moment s.chances.left)) in
      book_changed plan n t given b (note_controller (Some c) at w piece s after b) (λ k one there. got_append b.sent (map (sent_at w.at) new) k one there)
      (λ unclashed. (or_false b.clash (any_clash (answers_of at c w piece s) (unit_in w.source) b.sent) unclashed).0) (λ apart. apart) refl
      (λ k number timestamp e there.
      calls_before (marks_in b.sent) (marks_in (map (sent_at w.at) new)) (no_requests_sent w.at new (no_requests_marked w.link true (drop (length s.bag) after.bag) marks none)) k number timestamp e
      (subst (λ (all : List Mark). slice_get all k ≡ Some (Calling e number timestamp)) (marks_append b.sent (map (sent_at w.at) new)) there)) holds

  client_noted : (c : ClientState) (at n : ℕ) (w : Delivery) (piece : List ℕ) (s t : State) (given : Given) (b : Book) → OwnHolds plan n t given b →
      OwnHolds plan n t given (note_client (Some c) at w piece s b)
  client_noted c at n w piece s t given b holds =
      book_changed plan n t given b (note_client (Some c) at w piece s b) (λ k one there. there) (λ unclashed. unclashed) (λ apart. apart) refl (λ k number timestamp e there. there) holds

  -- what is written down at an end that is no member
  others_noted : (end : EndId) → is_member end ≡ false → (n : ℕ) (w : Delivery) (piece : List ℕ) (s t after : State) (given : Given) (b : Book) → OwnHolds plan n t given b →
      OwnHolds plan n t given (note_at (Some end) w piece s after b)
  others_noted end other n w piece s t after given b holds =
      book_by (λ (one : EndId) (now : Book). is_member one ≡ false → OwnHolds plan n t given now) w piece s after b (λ one none. holds)
      (λ at c is none. controller_noted c at n w piece s t after given b holds) (λ at m is none. absurd (let never : true ≡ false = none in cc))
      (λ at c is none. client_noted c at n w piece s t given b holds) end other

  module _ (Side : RunFact) (member_comes : MemberComes plan Side) where
    end_comes : (n : ℕ) (end : EndId) (w : Delivery) (piece : List ℕ) (s : State) (given : Given) (b : Book) → IsAtSide s.links w.link w.back end → CameFrom w.source s w piece →
        (IsServer end → length b.sent ≡ length s.bag) → Side n s given b → OwnHolds plan n s given b →
        OwnHolds plan (n + 1) (hear end (event.Bytes w.link piece) s).state (given ++ given_by end (hear end (event.Bytes w.link piece) s).actions)
        (note_at (Some end) w piece s (hear_and_act end (event.Bytes w.link piece) s).state b)
    end_comes n end w piece s given b at_side came even side holds =
        let what : Event = event.Bytes w.link piece in
        by_member (λ (one : EndId).
        IsAtSide s.links w.link w.back one → (IsServer one → length b.sent ≡ length s.bag) →
        OwnHolds plan (n + 1) (hear one what s).state (given ++ given_by one (hear one what s).actions) (note_at (Some one) w piece s (hear_and_act one what s).state b))
        (λ at here all. member_comes n at w piece s given b here came (all refl) side holds)
        (λ one other here all.
        others_noted one other (n + 1) w piece s (hear one what s).state (hear_and_act one what s).state (given ++ given_by one (hear one what s).actions) b
        (own_hears plan n one what s given b (no_member (λ (at : ℕ). HearsIf (slice_get s.ends.members at) what) one other) holds)) end at_side even

    -- through each step and each single change
    pub own_keeps : KeepsWith (Unit {0}) Side (OwnHolds plan) AnyAction
    own_keeps = record {
      calm = λ n end what s given b calm side holds. heard_so n end what s given b (calm_no_bytes what calm) holds;
      dialled = λ n end link s given b at side holds. heard_so n end (event.Dialled link) s given b tt holds;
      opens = λ n route s given b side holds.
          heard_so n (acceptor_of route) (event.Opened (length s.links)) (with_link route s) given b tt
          (changed plan n s (with_link route s) given b refl (kept_same s.bag) refl refl holds);
      begins = λ n client own s given b is side holds. record { holds = client_begins plan n client own s given b holds; fine = all_any (begun client own s).actions };
      comes = λ n end w piece s given b at_side came bytes even side holds.
          record { holds = end_comes n end w piece s given b at_side came even side holds; fine = all_any (hear end (event.Bytes w.link piece) s).actions };
      acts = λ n end what s given b fine side holds.
          changed plan n s (perform_quietly end what s) given b (plans_alike end what s.member_plans) (action_still end what s) refl refl holds;
      shuts = λ n link s given b side holds. changed plan n s (shut_link link s) given b refl (kept_same s.bag) refl refl holds;
      answers = λ n link there s given b is side holds. changed plan n s (answered_link link there s) given b refl (kept_same s.bag) refl refl holds;
      forgets = λ n end s given b side holds. changed plan n s (forget end s) given b refl (kept_same s.bag) refl refl holds;
      settles = λ n number s given b side holds. changed plan n s (settle number s) given b refl (kept_settled number s.bag) refl refl holds;
      dials = λ n s given b side holds. changed plan n s (without_first s) given b refl (kept_same s.bag) refl refl holds;
      renews = λ n end s given b side holds. own_anew plan n end s given b holds;
      changes = λ n member secret s given b side holds.
          record { holds = own_change plan n member secret s given b holds; fine = all_any (begun_change member secret s).actions };
      ticks = λ n more s given b side holds. changed plan n s (tick more s) given b refl (kept_same s.bag) refl refl holds;
      over = tt;
    }
