-- In every schedule without a clash channels are accepted in the order in which their requester opens them.
-- It serves `members_open_in_order`.
use Rattle.std.proofs.Common.{◌≡◌, true, ℕ, ◌+◌, List, [], length, map, Option, Some, None, slice_get, refl, sym, ap, subst, ◌∙◌, arith}
use Rattle.std.specs.List.{AllByRecursion}
use Rattle.std.proofs.lemmas.List.{length-map}
use Rattle.wire_base.specs.Names.{SameName}
use Rattle.authenticators.specs.Channels.{ChannelIdentity}
use Rattle.outside.specs.declared.event.Event.TheVariants as event
use Rattle.channel_client.specs.Effects.{View}
use Rattle.wire_base.specs.Lists.{OneOf}
use Rattle.channel_events.specs.Marks.{Mark}
use Rattle.channel_events.specs.OrderSteps.{Asker, InOrder}
use Rattle.channel_events.proofs.AcceptedOrderLaws.{stay_in_order}
use Rattle.wire_base.proofs.ListLaws.{got_nothing, no_some, one_found, some_is}
use Rattle.logon_client.specs.Machine.{begin_of, fresh_client}
use Rattle.member_server.specs.declared.plan.MemberPlan.{MemberPlan}
use Rattle.member_server.specs.Machine.{fresh_member}
use Rattle.member_server.specs.State.{State as MemberState}
use Rattle.step_notes.specs.Records.{Book, ChannelAccepted, Sent, blank}
use Rattle.world_moves.specs.declared.bag.BagUnit.{BagUnit}
use Rattle.world_moves.specs.declared.moves.Move.{Move}
use Rattle.world_moves.specs.declared.plan.Plan.{Plan}
use Rattle.world_moves.specs.declared.state.State.{State}
use Rattle.world_moves.specs.Forms.{IsSchedule}
use Rattle.world_moves.specs.Acting.{Given, forget, plans_after}
use Rattle.world_moves.specs.Links.{acceptor_of}
use Rattle.world_moves.specs.Moving.{with_link}
use Rattle.world_moves.proofs.KeptLaws.{plans_alike}
use Rattle.domain_world.specs.Accepting.Answered.{IsItsWay}
use Rattle.domain_world.specs.Claims.OpeningReplies.{IsReplyOfOpening}
use Rattle.domain_world.specs.Claims.AcceptedOpenings.{AsksAlone, MembersOpenInOrder}
use Rattle.domain_world.specs.Past.{Delivery, past}
use Rattle.domain_world.specs.Schedules.{OfSchedules}
use Rattle.domain_world.proofs.Acceptance.Heard.JudgedRunLaws.{judged_first, judged_keeps}
use Rattle.domain_world.proofs.Acceptance.Heard.JudgedUnitLaws.{IsCarriedCall, IsJudgedWell, JudgedFact}
use Rattle.domain_world.proofs.Acceptance.LetInStepLaws.{calm_meets, last_accepted, side_meets}
use Rattle.domain_world.proofs.Quiet.QuietRunLaws.{has_bytes, is_quiet, quiet_first, quiet_keeps}
use Rattle.domain_world.proofs.Quiet.QuietStepLaws.{QuietAction, QuietFact}
use Rattle.domain_world.proofs.Apart.NamedPlanLaws.{NamesFact, NamesStand, first_names, names_keep}
use Rattle.domain_world.proofs.Apart.OrderFrameLaws.{OrderKept, changed_order, comes_order, hears_order, over_order, renewed_order}
use Rattle.domain_world.proofs.Apart.OrderStayLaws.{order_clients, order_plans}
use Rattle.domain_world.proofs.Apart.OrderSuitLaws.{SuitSide, all_suit}
use Rattle.domain_world.proofs.Apart.OrderToldLaws.{IsAnsweredIn, asked}
use Rattle.domain_world.proofs.Frames.BagFrameLaws.{IsOfUnit, MarkFact, MarksStay, UnitFact, first_marked, marked_keep, new_marked}
use Rattle.domain_world.proofs.Apart.ToldRunLaws.{schedules_tell}
use Rattle.domain_world.proofs.Moves.DrawnRunLaws.{draws_differ}
use Rattle.domain_world.proofs.Frames.EndNoteLaws.{acceptings_of}
use Rattle.domain_world.proofs.Frames.FrameLaws.{OfSide}
use Rattle.domain_world.proofs.Moves.MarkPlaceLaws.{got_beside, got_map}
use Rattle.domain_world.proofs.Frames.MoveFrameLaws.{HoldsAfterMoves}
use Rattle.domain_world.proofs.Frames.StepFrameLaws.{ActionFact, AnyAction, BothFacts, BothFine, StepKeeps, NoFact, OfSteps, RunFact, join, steps_keep, with_side}
use Rattle.domain_world.proofs.Judgements.Openings.OpeningReplyLaws.{NothingElse, nothing_else, opened_stay}
use Rattle.domain_world.proofs.Calls.CallFrameLaws.{CallsKept, QuietSide, calls_keep, first_calls}
use Rattle.domain_world.proofs.Calls.CallHoldsLaws.{link_more, mark_there, marks_in, requests_at}
use Rattle.domain_world.proofs.Calls.MarkWayLaws.{ways_stay}
use Rattle.domain_world.proofs.Calls.StepApartLaws.{seen_member}
use Rattle.domain_world.proofs.Frames.AloneFrameLaws.{moves_keep_alone}
use Rattle.domain_world.proofs.Frames.MoveKeepLaws.{Both, KeepsMoves, MoveFact, NoSide, coming, join_moves, started}
use Rattle.world_moves.specs.Alone.{IsPlainAlone}
use Rattle.world_moves.specs.Plain.{plain_world}
use Rattle.domain_world.proofs.Moves.OpenMadeLaws.{on_side}

-- ---- what units of the bag are

-- a unit that is marked as the reply to an opening is that of one that was accepted, and each goes the way of its mark
abbrev pub IsUnit : UnitFact (List ChannelAccepted)
IsUnit accepted number unit mark = IsReplyOfOpening accepted number mark × IsItsWay unit.back mark

units_stay : MarksStay acceptings_of NothingElse IsUnit
units_stay = record {
  plain = λ accepted number unit. (opened_stay.plain accepted number unit, ways_stay.plain tt number unit);
  settles = λ accepted number unit mark is. (opened_stay.settles accepted number unit mark is.0, ways_stay.settles tt number unit mark is.1);
  grows = λ end w piece s after b number unit one holds there sent is. (
    opened_stay.grows end w piece s after b number unit one holds there sent is.0,
    ways_stay.grows end w piece s after b number unit one tt there sent is.1,
  );
  controllers = λ c at w piece s after b number unit mark there holds even new. (
    opened_stay.controllers c at w piece s after b number unit mark there holds even new,
    ways_stay.controllers c at w piece s after b number unit mark there tt even new,
  );
  members = λ m at w piece s b there holds side even units is on place unit mark got marked. (
    opened_stay.members m at w piece s b there holds side even units is on place unit mark got marked,
    ways_stay.members m at w piece s b there tt side even units is on place unit mark got marked,
  );
}

abbrev pub UnitsFact : MoveFact
UnitsFact = Both (OfSide acceptings_of NothingElse nothing_else) (MarkFact acceptings_of IsUnit)

pub units_keep : KeepsMoves (Unit {0}) NoSide UnitsFact
units_keep = marked_keep acceptings_of NothingElse IsUnit nothing_else (new_marked acceptings_of NothingElse IsUnit units_stay) (Unit {0})

-- ---- what is known at each step of an end

abbrev pub StepSide : Plan → RunFact
StepSide plan = BothFacts (BothFacts (BothFacts QuietFact CallsKept) JudgedFact) (NamesFact plan)

abbrev StepFine : ActionFact
StepFine = BothFine (BothFine (BothFine QuietAction AnyAction) AnyAction) AnyAction

step_side : (plan : Plan) → StepKeeps NoFact (StepSide plan) StepFine
step_side plan =
    join (BothFacts (BothFacts QuietFact CallsKept) JudgedFact) (NamesFact plan) (BothFine (BothFine QuietAction AnyAction) AnyAction) AnyAction
    (join (BothFacts QuietFact CallsKept) JudgedFact (BothFine QuietAction AnyAction) AnyAction
    (join QuietFact CallsKept QuietAction AnyAction quiet_keeps (with_side QuietSide QuietFact CallsKept AnyAction (λ n s given b quiet. is_quiet s quiet) calls_keep))
    (with_side QuietFact (BothFacts QuietFact CallsKept) JudgedFact AnyAction (λ n s given b both. both.0) judged_keeps))
    (with_side NoFact (BothFacts (BothFacts QuietFact CallsKept) JudgedFact) (NamesFact plan) AnyAction (λ n s given b both. tt) (names_keep plan))

abbrev pub Known : Plan → MoveFact
Known plan = Both UnitsFact (OfSteps (StepSide plan) StepFine)

pub known_keep : (plan : Plan) → KeepsMoves (Unit {0}) NoSide (Known plan)
known_keep plan =
    join_moves (Unit {0}) UnitsFact (OfSteps (StepSide plan) StepFine) units_keep
    (steps_keep (StepSide plan) StepFine (step_side plan) UnitsFact (λ n w s given b side. side.1.all) (λ n at on s given b side. (step_side plan).over n at s given b tt))

-- ---- what a member takes suits the order

module _ (plan : Plan) (base : Asker) (alone : AsksAlone plan base.who base.computer) where
  judged_marked : (s : State) (b : Book) (n request : ℕ) → length b.sent ≡ length s.bag → AllByRecursion (IsJudgedWell s.bag) b.judged → OneOf (IsAnsweredIn request n) b.judged →
      (mark : Mark) × (slice_get (marks_in b.sent) request ≡ Some mark)
  judged_marked s b n request even well one =
      let found = one_found (IsAnsweredIn request n) (IsJudgedWell s.bag) b.judged well one in
      let call : IsCarriedCall s.bag found.0.number found.0.asked request = found.2.carried request found.1.0 in
      let sent : (x : Sent) × (slice_get b.sent request ≡ Some x) = got_beside s.bag b.sent request call.carrier (sym even) call.there in
      (sent.0.mark, mark_there b.sent request sent.0 sent.1)

  -- each member that runs has a plan
  pub has_plan : (s : State) → NamesStand plan s → (k : ℕ) (m : MemberState) → slice_get s.ends.members k ≡ Some m → (own : MemberPlan) × (slice_get plan.members k ≡ Some own)
  has_plan s names k m there = got_beside s.ends.members plan.members k m (sym names.ends.members ∙ length-map plan.members fresh_member) there

  pub suits_known : (n : ℕ) (w : Delivery) (s : State) (given : Given) (b : Book) → Known plan n (coming w) s given b → SuitSide base n s given b
  suits_known n w s given b known even = record {
    opened = λ k one there. (known.0.1.each k one there).holds.0;
    ways = λ k unit one there noted.
        let its : IsOfUnit IsUnit b.accepted s.bag k one.mark = known.0.1.each k one noted in
        subst (λ (u : BagUnit). IsItsWay u.back one.mark) (some_is its.unit unit (sym its.there ∙ there)) its.holds.1;
    requests = λ k request one. judged_marked s b k request even known.1.0.0.1.judged one;
    others = λ k running there differs same.
        let m : MemberState = record { running = Some running } in
        let own = has_plan s known.1.0.1 k m there in
        alone k own.0 own.1 differs (subst (λ (name : List ℕ). SameName name base.computer) (known.1.0.1.named k m own.0 there own.1) same);
  }

  -- ---- through the moves

  abbrev pub OrderMove : MoveFact
  OrderMove n p s given b = OrderKept base n s given b

  pub order_moves : KeepsMoves (Unit {0}) (Known plan) OrderMove
  order_moves = record {
    closes = λ n p end link s given b work side order. hears_order base n end (event.Closed link) s given b (calm_meets end s.links (event.Closed link) tt) side.1.0.0.0.1 order;
    opens = λ n at dial route s given b out side order.
        hears_order base n (acceptor_of route) (event.Opened (length s.links)) (with_link route s) given b (last_accepted (acceptor_of route) route s.links refl)
        (λ few differ. link_more n s.member_plans s.ends s.chances.drawn s.links route b.sent b.messages (side.1.0.0.0.1 few differ)) order;
    dialled = λ n at end link s given b here side order. hears_order base n end (event.Dialled link) s given b (side_meets end s.links link (on_side s.links link true end here)) side.1.0.0.0.1 order;
    fails = λ n at end s b side order. hears_order base n end event.DialFailed s [] b (calm_meets end s.links event.DialFailed tt) side.1.0.0.0.1 order;
    begins = λ n at client own s b is side order few differ told.
        order_clients n (n + 1) s.member_plans s.ends client (begin_of (fresh_client own)).state s.chances.drawn s.chances.drawn b.sent (asked base b.accepted)
        (order (omega (arith, few)) differ told);
    comes = λ n end w piece s given b here came bytes side order.
        comes_order base (SuitSide base) (all_suit base) n end w piece s given b here came (λ server. side.0.1.all end here server)
        (is_quiet s side.1.0.0.0.0, side.1.0.0.0.1, suits_known n w s given b side) order;
    reaches = λ n w s given b side order. order;
    acts = λ n p end what s given b work side order few differ told.
        order_plans n s.member_plans (plans_after end what s.member_plans) s.ends s.chances.drawn b.sent (asked base b.accepted) (plans_alike end what s.member_plans) (order few differ told);
    shuts = λ n p link s given b work side order. order;
    answers = λ n at dial link there s given b is side order. order;
    forgets = λ n at end s b side order. order;
    settles = λ n at on number s b side order. order;
    dials = λ n at dial s b is side order. order;
    renews = λ n at end s b side order. renewed_order base n end (forget end s) [] b order;
    changes = λ n at member secret s b formed side order. changed_order base n member secret s [] b order;
    ticks = λ n at more s b side order. order;
    over = λ n at on next s given b side order. over_order base n at s given b order;
  }

  -- at first nothing was accepted, and no channel stands
  none_stands : (i : ℕ) (found : Option MemberState) (controller : ℕ) (v : View) (c : ChannelIdentity) → slice_get (map fresh_member plan.members) i ≡ found →
      seen_member controller found ≡ Some v → v.stands ≡ Some c → ⊥
  none_stands i None controller v c is seen stands = absurd (no_some v seen)
  none_stands i (Some m) controller v c is seen stands =
      let made = got_map fresh_member plan.members i m is in
      let fresh : seen_member controller (Some (fresh_member made.0)) ≡ Some v = ap (λ (x : MemberState). seen_member controller (Some x)) made.2 ∙ seen in
      no_some c (ap (λ (x : View). x.stands) (some_is _ v fresh) ∙ stands)

  pub order_first : OrderKept base 0 (plain_world plan).state [] blank
  order_first few differ told =
      (stay_in_order ℕ).first (requests_at 0 plan.members (plain_world plan).state.ends (plain_world plan).state.chances.drawn []) base.who base.controller base.computer (λ unit number timestamp c there. got_nothing unit _ there)
      (λ i v c seen stands. none_stands i (slice_get (map fresh_member plan.members) i) _ v c refl seen stands)

  pub known_first : (moves : List Move) → IsSchedule plan moves → (on : Option Delivery) → Known plan 0 (started 0 on) (plain_world plan).state [] blank
  known_first moves schedule on = (
    first_marked acceptings_of NothingElse IsUnit nothing_else (new_marked acceptings_of NothingElse IsUnit units_stay) plan on tt,
    ((((quiet_first plan schedule.start schedule.forms, first_calls plan), judged_first), first_names plan), tt),
  )

  -- after a run
  pub order_run : (moves : List Move) → IsPlainAlone plan → IsSchedule plan moves → HoldsAfterMoves (Unit {0}) (Both (Known plan) OrderMove) plan moves
  order_run moves nobody schedule =
      moves_keep_alone (Unit {0}) (Both (Known plan) OrderMove) (join_moves (Unit {0}) (Known plan) OrderMove (known_keep plan) order_moves) plan moves nobody (λ known. has_bytes plan moves nobody schedule)
      (λ on. (known_first moves schedule on, order_first))

-- in every schedule without a clash
pub members_in_order : OfSchedules (λ plan moves. MembersOpenInOrder (past plan moves))
members_in_order plan moves nobody schedule clear member controller own is alone =
    let base : Asker = record { who = member; controller = controller; computer = own.computer; accepted = [] } in
    let after : HoldsAfterMoves (Unit {0}) (Both (Known plan) (OrderMove plan base alone)) plan moves = order_run plan base alone moves nobody schedule in
    let s : State = (past plan moves).world.state in
    let order : InOrder (requests_at after.steps s.member_plans s.ends s.chances.drawn (past plan moves).book.sent) (asked base (past plan moves).book.accepted) =
    after.holds.1 (omega (arith, after.few tt, schedule.few)) (draws_differ plan moves) (schedules_tell plan moves nobody schedule clear) in
    record { called = order.called; stands = order.stands; made = order.made; behind = order.behind }
