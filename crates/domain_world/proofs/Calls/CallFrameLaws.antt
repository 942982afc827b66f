-- What is known of calls is kept through all that happens in a run whose ends are quiet, and so in each schedule: each
-- unit that comes on the link of a turn is whole. It serves `runs_stand_so`.
use Rattle.std.proofs.Common.{◌≡◌, ◌⊎◌, ℕ, zero, suc, ◌+◌, ◌*◌, ◌≤◌, ◌==◌, Bool, true, false, List, [], ◌∷◌, length, inl, inr, Option, Some, None, slice_get, refl, sym, ap, ◌∙◌, subst, arith}
use Rattle.std.specs.Prelude.{◌&&◌, drop, map, not}
use Rattle.std.specs.List.{AllByRecursion}
use Rattle.std.proofs.lemmas.Bool.{eqb-true}
use Rattle.outside.specs.declared.action.Action.{Action}
use Rattle.outside.specs.declared.event.Event.{Event}
use Rattle.outside.specs.declared.event.Event.TheVariants as event
use Rattle.channel_client.specs.declared.state.Pending.{Pending}
use Rattle.channel_events.specs.Marks.{Mark}
use Rattle.channel_events.specs.Requests.{CallsAreApart, IsRequest, Requests}
use Rattle.wire_base.proofs.ListLaws.{got_nothing, one_weaker, some_is}
use Rattle.domain_controller.specs.Step.{first_state}
use Rattle.logon_client.specs.Machine.{begin_of, fresh_client}
use Rattle.member_server.specs.Machine.{fresh_member, step_of}
use Rattle.member_server.specs.State.{State as MemberState}
use Rattle.member_server.specs.declared.plan.MemberPlan.{MemberPlan}
use Rattle.channel_turns.specs.declared.state.Dialling.{Dialling}
use Rattle.channel_turns.specs.declared.state.Dialling.TheVariants as dialling
use Rattle.member_server.specs.declared.state.Logon.{Logon}
use Rattle.member_server.specs.declared.state.Running.{Running}
use Rattle.channel_turns.specs.declared.state.TurnTalk.{TurnTalk}
use Rattle.end_links.specs.Links.{LinkState}
use Rattle.step_notes.specs.ChannelNames.{standing_channel}
use Rattle.step_notes.specs.ControllerNotes.{reply_mark}
use Rattle.step_notes.specs.Judged.{passed_channel}
use Rattle.step_notes.specs.MemberNotes.{is_turn_link}
use Rattle.step_notes.specs.Records.{Book, Forward, MessageTaken, OfMember, RequesterId, Source, blank, unit_in}
use Rattle.world_moves.specs.declared.bag.BagUnit.{BagUnit}
use Rattle.step_notes.proofs.Members.CallKeptLaws.{fresh_asks}
use Rattle.step_notes.proofs.Members.KeptLogonLaws.{IfDialled, KeptIn as LogonsKept}
use Rattle.world_moves.specs.declared.links.EndId.{EndId}
use Rattle.world_moves.specs.declared.links.EndId.TheVariants.{Controller, Member, Client}
use Rattle.world_moves.specs.declared.links.Route.{Route}
use Rattle.world_moves.specs.declared.links.Route.TheVariants.{ToController}
use Rattle.world_moves.specs.declared.moves.Move.{Move}
use Rattle.world_moves.specs.declared.plan.Plan.{Plan}
use Rattle.world_moves.specs.declared.state.State.{State}
use Rattle.world_moves.specs.Acting.{Given, plans_after}
use Rattle.world_moves.specs.Draws.{DrawsDiffer}
use Rattle.world_moves.specs.Ends.{EndStates, EndStep}
use Rattle.world_moves.specs.Forms.{IsSchedule}
use Rattle.world_moves.specs.Links.{acceptor_of, kind_of}
use Rattle.world_moves.specs.Moving.{begun, with_link, changed}
use Rattle.world_moves.specs.Alone.{IsPlainAlone, alone_controller_step as controller_step, hear_alone as hear}
use Rattle.world_moves.proofs.EndKindLaws.{IfMember}
use Rattle.domain_world.specs.Accepting.SeenSteps.{NoRequests}
use Rattle.domain_world.specs.Accepting.Carried.{IsWholeUnit}
use Rattle.domain_world.specs.Accepting.Runs.{AskedIsOut, BagIsWhole, IsOut, NothingIsOpen, IsQuietTurn, RunsStandSo, Shows}
use Rattle.domain_world.specs.Past.{Delivery, Past, beside_mark, controller_asked, forward_mark, is_sent_on, mark_or, note_given, note_member, other_marks, past, sent_at, still_waits}
use Rattle.domain_world.specs.Schedules.{OfSchedules}
use Rattle.domain_world.proofs.Frames.AloneNoteLaws.{note_alone as note_at}
use Rattle.domain_world.proofs.Moves.OpenMadeLaws.{on_side}
use Rattle.domain_world.proofs.Frames.AloneStepLaws.{act_alone as hear_and_act, alone_by as step_by, renew_alone_by as renew_by, renewed_alone as renewed}
use Rattle.domain_world.proofs.Acceptance.LetInStepLaws.{IsDialledBy, Meets, MeetsMember, calm_meets, last_accepted, side_meets}
use Rattle.domain_world.proofs.Quiet.QuietRunLaws.{one_piece, has_bytes, is_quiet, quiet_first, quiet_keeps}
use Rattle.domain_world.proofs.Quiet.QuietStepLaws.{QuietAction, QuietFact}
use Rattle.domain_world.proofs.Acceptance.RunBeginLaws.{plain_apart}
use Rattle.domain_world.proofs.Frames.BagFrameLaws.{IsServer}
use Rattle.domain_world.proofs.Moves.ComingLaws.{CameFrom, CameInUnit, IsPieceOf, came_in_unit}
use Rattle.domain_world.proofs.Moves.MarkPlaceLaws.{got_map}
use Rattle.domain_world.proofs.Frames.StepFrameLaws.{AnyAction, ActionFact, BothFacts, BothFine, HoldsAfterRun, StepKeeps, NoFact, RunFact, join, run_keeps, with_side}
use Rattle.domain_world.proofs.Calls.CallComesLaws.{IsWhole, KeptAfter, KeptIn, controller_comes, other_comes, whole_comes}
use Rattle.domain_world.proofs.Calls.CallHoldsLaws.{CallsHold, differ_front, link_more, marks_in, plans_so, requests_at, sent_more}
use Rattle.domain_world.proofs.Calls.CallStepLaws.{KeptSo, member_changes, client_anew, client_hears, controller_anew, controller_hears, member_anew, member_hears, none_so}
use Rattle.domain_world.proofs.Calls.OutStepLaws.{IsOther, IsOutIn, MemberHolds, OutFor, none_out}
use Rattle.domain_world.proofs.Moves.PlacedLaws.{HasBytes}
use Rattle.domain_world.proofs.Frames.EndNoteLaws.{acted_by, stepped}
use Rattle.domain_world.proofs.Moves.NoTrustLaws.{NoneAsks, none_asked}
use Rattle.domain_world.proofs.Calls.ByRequesterLaws.{by_requester, by_requester_apart, seen_so}
use Rattle.authenticators.specs.Channels.{ChannelIdentity}
use Rattle.world_moves.proofs.ChangeLaws.{by_change}
use Rattle.world_moves.proofs.KeptLaws.{plans_alike}
use Rattle.world_moves.specs.Plain.{plain_member_step as member_step, plain_world}

-- ---- a unit that comes on the link of a turn is whole, and comes in one piece

pub came_whole : (source : Source) (s : State) (w : Delivery) (piece : List ℕ) (at : ℕ) → CameFrom source s w piece → IsDialledBy s.links at w.link → BagIsWhole s → IsWholeUnit piece
came_whole source s w piece at from dialled whole =
    let in_unit : CameInUnit source s w piece = came_in_unit source s w piece at dialled.controller from dialled.at in
    let came : IsPieceOf s in_unit.number w piece = in_unit.piece_of in
    let both : Some came.route ≡ Some (ToController at dialled.controller) = sym came.made ∙ dialled.at in
    let route : came.route ≡ ToController at dialled.controller = (let x = both in cc) in
    let is = whole in_unit.number came.unit came.there (sym came.same_kind ∙ ap kind_of route) in
    subst IsWholeUnit (one_piece came.unit.bytes piece is.1 came.part) is.0

-- ---- whether bytes come on the link of a turn

-- the member runs, and the link is that of its turn
pub record TurnOn (r : Option Running) (link : ℕ) : Type 0 where
  pub running : Running
  pub runs : r ≡ Some running
  pub said : LinkState TurnTalk
  pub on : running.dialling ≡ dialling.On link said

hit_case : (hit : Bool) (running : Running) (link other : ℕ) (said : LinkState TurnTalk) → (other == link) ≡ hit → running.dialling ≡ dialling.On other said → IsOther (Some running) link ⊎ TurnOn (Some running) link
hit_case false running link other said is on = inl (ap (λ (how : Dialling). is_turn_link how link) on ∙ is)
hit_case true running link other said is on =
    inr (record { running = running; runs = refl; said = said; on = on ∙ ap (λ (n : ℕ). dialling.On n said) (eqb-true other link is) })

how_case : (how : Dialling) (running : Running) (link : ℕ) → running.dialling ≡ how → IsOther (Some running) link ⊎ TurnOn (Some running) link
how_case dialling.Nothing running link on = inl (ap (λ (how : Dialling). is_turn_link how link) on)
how_case (dialling.Waits turn frames) running link on = inl (ap (λ (how : Dialling). is_turn_link how link) on)
how_case (dialling.On other said) running link on = hit_case (other == link) running link other said refl on

-- the link is another, or that of the turn
pub turn_case : (r : Option Running) (link : ℕ) → IsOther r link ⊎ TurnOn r link
turn_case None link = inl tt
turn_case (Some running) link = how_case running.dialling running link refl

-- what holds of the link of a turn
pub dialled_on : (Fits : ℕ → Logon → Type 0) (Own : ℕ → Type 0) (r : Option Running) (link : ℕ) (on : TurnOn r link) → LogonsKept Fits Own r → Own link
dialled_on Fits Own r link on kept =
    let own : LogonsKept Fits Own (Some on.running) = subst (λ (x : Option Running). LogonsKept Fits Own x) on.runs kept in
    subst (λ (how : Dialling). IfDialled Own how) on.on own.1

-- ---- the fact, what it rests on and what it asks of actions

-- the bag is whole, and nothing is open on the link of a turn: of the quiet parts `bag` and `members` are used
abbrev pub QuietSide : RunFact
QuietSide n s given b = NothingIsOpen s

-- what is known of calls, where few steps were taken and the draws so far differ
abbrev pub CallsKept : RunFact
CallsKept n s given b = KeptIn n s b

any_fine : (end : EndId) (links : List Route) (actions : List Action) → AllByRecursion (AnyAction end links) actions
any_fine end links [] = tt
any_fine end links (what ∷ actions) = (tt, any_fine end links actions)

-- units that go out beside the link on which an end hears something are no requests
reply_no_call : (unit : Option ℕ) (channel : ChannelIdentity) (call : ℕ) (c : ChannelIdentity) (number : ℕ) → IsRequest c number (reply_mark unit channel call) → ⊥
reply_no_call None channel call c number asks = asks
reply_no_call (Some unit) channel call c number asks = asks

forward_no_call : (channel : Option ChannelIdentity) (one : Forward) (c : ChannelIdentity) (number : ℕ) → IsRequest c number (forward_mark channel one) → ⊥
forward_no_call None one c number asks = asks
forward_no_call (Some channel) one c number asks = reply_no_call (unit_in one.judging.source) channel one.judging.number c number asks

mark_or_no_call : (is_its_reply : Bool) (one : Forward) (other : Mark) (c : ChannelIdentity) (number : ℕ) → (IsRequest c number other → ⊥) → IsRequest c number (mark_or is_its_reply one other) → ⊥
mark_or_no_call false one other c number none asks = none asks
mark_or_no_call true one other c number none asks = forward_no_call (passed_channel one.judging) one c number asks

beside_no_call : (forwards : List Forward) (after : State) (unit : BagUnit) (c : ChannelIdentity) (number : ℕ) → IsRequest c number (beside_mark forwards after unit) → ⊥
beside_no_call [] after unit c number asks = asks
beside_no_call (one ∷ forwards) after unit c number asks =
    mark_or_no_call (is_sent_on one.link true unit && not (still_waits after one)) one (beside_mark forwards after unit) c number (beside_no_call forwards after unit c number) asks

besides_no_calls : (at : ℕ) (forwards : List Forward) (after : State) (units : List BagUnit) → NoRequests (marks_in (map (sent_at at) (map (λ (unit : BagUnit). beside_mark forwards after unit) units)))
besides_no_calls at forwards after [] k number c mark asks there = got_nothing k mark there
besides_no_calls at forwards after (unit ∷ units) zero number c mark asks there =
    beside_no_call forwards after unit c number (subst (IsRequest c number) (sym (some_is (beside_mark forwards after unit) mark there)) asks)
besides_no_calls at forwards after (unit ∷ units) (suc k) number c mark asks there = besides_no_calls at forwards after units k number c mark asks there

pub other_calls : (at : ℕ) (forwards : List Forward) (after : State) (marked : ℕ) → NoRequests (marks_in (map (sent_at at) (other_marks forwards after marked)))
other_calls at forwards after marked = besides_no_calls at forwards after (drop marked after.bag)

hears_so : (n : ℕ) (end : EndId) (what : Event) (s : State) (b : Book) → Meets end s.links what → KeptIn n s b → KeptIn (n + 1) (hear end what s).state b
hears_so n end what s b meets kept =
    step_by (λ (one : EndId) (step : EndStep). IfMember (MeetsMember s.links what) one → KeptAfter (n + 1) s step b) what s.moment s.ends s.chances
    (λ one its. none_so n s.member_plans s.ends s.links b.sent b.messages s.chances.drawn kept)
    (λ at c is its. controller_hears n s.member_plans s.ends s.links b.sent b.messages c at what s.moment s.chances kept)
    (λ at m is its. member_hears n s.member_plans s.ends s.links b.sent b.messages m at what s.moment s.chances is (its at refl).0 (its at refl).1 kept)
    (λ at c is its. client_hears n s.member_plans s.ends s.links b.sent b.messages c at what s.moment s.chances kept) end meets

-- ---- bytes come

-- once a member acted
abbrev member_after : MemberState → ℕ → Delivery → List ℕ → State → State
member_after m at w piece s = stepped (Member at) (member_step (Some m) at (event.Bytes w.link piece) s.moment s.ends s.chances) s

member_comes : (n : ℕ) (m : MemberState) (at : ℕ) (w : Delivery) (piece : List ℕ) (s : State) (b : Book) → slice_get s.ends.members at ≡ Some m → NothingIsOpen s →
    CameFrom w.source s w piece → length b.sent ≡ length s.bag → KeptIn n s b →
    KeptAfter (n + 1) s (member_step (Some m) at (event.Bytes w.link piece) s.moment s.ends s.chances) (note_member (Some m) at w piece s (member_after m at w piece s) b)
member_comes n m at w piece s b is quiet came even kept = λ few differ.
    let after : State = member_after m at w piece s in
    let drawn : List (List ℕ) = (step_of m (event.Bytes w.link piece) s.moment s.chances.left).drawn in
    let holds : CallsHold n s.member_plans s.ends s.chances.drawn s.links b.sent b.messages = kept (omega (arith, few)) (differ_front s.chances.drawn drawn differ) in
    elim (turn_case m.running w.link) [
      | inl other ↦ other_comes n at w piece s after b m is other kept few differ
      | inr on ↦
          let now : MemberState = record { running = Some on.running } in
          let same : m ≡ now = ap (λ (r : Option Running). record { running = r }) on.runs in
          let dialled : IsDialledBy s.links at w.link = dialled_on _ (λ number. IsDialledBy s.links at number) m.running w.link on (holds.members at m is).kept in
          let unit : IsWholeUnit piece = came_whole w.source s w piece at came dialled quiet.bag in
          let turn : IsQuietTurn (dialling.On w.link on.said) = subst IsQuietTurn on.on (quiet.members at m on.running is on.runs) in
          let whole : IsWhole w.link piece on.running =
          record { said = on.said; on = on.on; rest = turn.0; none = turn.1; frames = unit.frames; unit = unit.unit; heard = unit.heard } in
          subst (λ (x : MemberState). KeptAfter (n + 1) s (member_step (Some x) at (event.Bytes w.link piece) s.moment s.ends s.chances) (note_member (Some x) at w piece s after b)) (sym same)
          (whole_comes n at w piece s after b on.running whole dialled even (ap (λ (x : MemberState). (member_after x at w piece s).bag) same) (is ∙ ap (λ (x : MemberState). Some x) same) kept)
          few differ
    ]

comes_so : (n : ℕ) (end : EndId) (w : Delivery) (piece : List ℕ) (s : State) (b : Book) → CameFrom w.source s w piece → (IsServer end → length b.sent ≡ length s.bag) → NothingIsOpen s → KeptIn n s b →
    KeptIn (n + 1) (hear end (event.Bytes w.link piece) s).state (note_at (Some end) w piece s (hear_and_act end (event.Bytes w.link piece) s).state b)
comes_so n end w piece s b came even quiet kept =
    acted_by (λ (one : EndId) (step : EndStep) (after : State) (now : Book). (IsServer one → length b.sent ≡ length s.bag) → KeptAfter (n + 1) s step now) w piece s b
    (λ one same. none_so n s.member_plans s.ends s.links b.sent b.messages s.chances.drawn kept)
    (λ at c is same. controller_comes n c at w piece s (stepped (Controller at) (controller_step (Some c) at (event.Bytes w.link piece) s.moment s.ends s.chances) s) b kept)
    (λ at m is same. member_comes n m at w piece s b is quiet came (same refl) kept)
    (λ at c is same. client_hears n s.member_plans s.ends s.links b.sent b.messages c at (event.Bytes w.link piece) s.moment s.chances kept) end even

-- ---- single changes

renewed_so : (n : ℕ) (end : EndId) (s : State) (b : Book) → KeptIn n s b → KeptIn n (renewed end s) b
renewed_so n end s b kept =
    renew_by (λ (one : EndId) (ends : EndStates). KeptSo n s.member_plans ends s.chances.drawn s.links b.sent b.messages) s (λ one. kept)
    (λ at c is. controller_anew n s.member_plans s.ends s.links b.sent b.messages at (first_state c.table c.name) s.chances.drawn kept)
    (λ at plan is. member_anew n s.member_plans s.ends s.links b.sent b.messages plan at s.chances.drawn kept)
    (λ at plan is. client_anew n s.member_plans s.ends s.links b.sent b.messages n at (fresh_client plan) s.chances.drawn (omega arith) kept) end

changed_so : (n at : ℕ) (secret : List ℕ) (s : State) (b : Book) → KeptIn n s b → KeptIn (n + 1) (changed at secret s).state b
changed_so n at secret s b kept =
    by_change (λ (ends : EndStates) (actions : List Action). KeptSo (n + 1) s.member_plans ends s.chances.drawn s.links b.sent b.messages) at secret s.ends
    (none_so n s.member_plans s.ends s.links b.sent b.messages s.chances.drawn kept)
    (λ running is none. member_changes n s.member_plans s.ends s.links b.sent b.messages secret running at s.chances.drawn is none kept)

over_so : (n at : ℕ) (given : Given) (s : State) (b : Book) → KeptIn n s b → KeptIn n s (note_given at given s b)
over_so n at given s b kept = λ few differ.
    let marked : ℕ = length b.sent in
    sent_more n s.member_plans s.ends s.chances.drawn s.links b.sent (map (sent_at at) (other_marks b.forwards s marked)) b.messages (other_calls at b.forwards s marked) (kept few differ)

-- through each step and each single change
pub calls_keep : StepKeeps QuietSide CallsKept AnyAction
calls_keep = record {
  calm = λ n end what s given b calm quiet kept. record {
    holds = hears_so n end what s b (calm_meets end s.links what calm) kept;
    fine = any_fine end s.links (hear end what s).actions;
  };
  dialled = λ n end link s given b side quiet kept. record {
    holds = hears_so n end (event.Dialled link) s b (side_meets end s.links link (on_side s.links link true end side)) kept;
    fine = any_fine end s.links (hear end (event.Dialled link) s).actions;
  };
  opens = λ n route s given b quiet kept. record {
    holds = hears_so n (acceptor_of route) (event.Opened (length s.links)) (with_link route s) b (last_accepted (acceptor_of route) route s.links refl)
        (λ few differ. link_more n s.member_plans s.ends s.chances.drawn s.links route b.sent b.messages (kept few differ));
    fine = any_fine (acceptor_of route) (with_link route s).links (hear (acceptor_of route) (event.Opened (length s.links)) (with_link route s)).actions;
  };
  begins = λ n client plan s given b there quiet kept. record {
    holds = client_anew n s.member_plans s.ends s.links b.sent b.messages (n + 1) client (begin_of (fresh_client plan)).state s.chances.drawn (omega arith) kept;
    fine = any_fine (Client client) s.links (begun client plan s).actions;
  };
  comes = λ n end w piece s given b side came bytes even quiet kept. record {
    holds = comes_so n end w piece s b came even quiet kept;
    fine = any_fine end s.links (hear end (event.Bytes w.link piece) s).actions;
  };
  acts = λ n end what s given b fine quiet kept few differ.
      plans_so n s.member_plans (plans_after end what s.member_plans) s.ends s.chances.drawn s.links b.sent b.messages (plans_alike end what s.member_plans) (kept few differ);
  shuts = λ n link s given b quiet kept. kept;
  answers = λ n link there s given b is quiet kept. kept;
  forgets = λ n end s given b quiet kept. kept;
  settles = λ n number s given b quiet kept. kept;
  dials = λ n s given b quiet kept. kept;
  renews = λ n end s given b quiet kept. renewed_so n end s b kept;
  changes = λ n member secret s given b quiet kept. record { holds = changed_so n member secret s b kept; fine = any_fine (Member member) s.links (changed member secret s).actions };
  ticks = λ n more s given b quiet kept. kept;
  over = λ n at s given b quiet kept. over_so n at given s b kept;
}

-- ---- at first

fresh_holds : (controller k : ℕ) (plan : MemberPlan) → MemberHolds [] [] [] controller k (fresh_member plan).running
fresh_holds controller k plan =
    record { asks = fresh_asks plan; kept = (tt, tt); accepts = tt; out = λ pending logon turn reply there. absurd (none_out pending turn) }

-- nothing was asked yet
pub first_calls : (plan : Plan) → CallsKept 0 (plain_world plan).state [] blank
first_calls plan = λ few differ. record {
  apart = plain_apart plan;
  members = λ k m there.
      let found = got_map fresh_member plan.members k m there in
      subst (λ (x : MemberState). MemberHolds [] [] [] (controller_asked (OfMember k) (plain_world plan).state) k x.running) found.2 (fresh_holds _ k found.0);
  accepted = tt;
}

-- ---- after a run

-- the four fields of `RunsStandSo` that speak of calls
pub record CallsStand (plan : Plan) (moves : List Move) : Type 0 where
  pub requests : Requests RequesterId
  pub shows : Shows requests (past plan moves) (length moves)
  pub apart : CallsAreApart requests
  pub out : AskedIsOut (past plan moves)

out_of : (p : Past) (member : ℕ) (pending : Pending) (logon : Logon) (standing : Option _) (message : MessageTaken) → IsOutIn p.book.sent member pending logon standing message →
    IsOut p member pending logon standing message
out_of p member pending logon standing message is = record {
  link = is.link;
  by = is.by;
  request = is.request;
  call = is.call;
  sent = is.unit;
  there = is.there;
  channel = is.channel;
  timestamp = is.timestamp;
  stands = is.stands;
  mark = is.mark;
}

-- a call that is out is that of its message
pub out_at : (p : Past) (n : ℕ) → CallsHold n p.world.state.member_plans p.world.state.ends p.world.state.chances.drawn p.world.state.links p.book.sent p.book.messages → AskedIsOut p
out_at p n holds k m running pending logon there runs turn reply kept =
    let standing : Option ChannelIdentity = standing_channel (controller_asked (OfMember k) p.world.state) running.logons.channel in
    let out : OutFor p.book.sent p.book.messages (controller_asked (OfMember k) p.world.state) k (Some running) =
    subst (OutFor p.book.sent p.book.messages (controller_asked (OfMember k) p.world.state) k) runs (holds.members k m there).out in
    one_weaker (IsOutIn p.book.sent k pending logon standing) (IsOut p k pending logon standing) p.book.messages (λ message is. out_of p k pending logon standing message is)
    (out pending logon turn reply kept)

-- calls stand, from what is known after `steps` steps
pub calls_stand : (plan : Plan) (moves : List Move) (steps : ℕ) → NoneAsks (past plan moves).world.state → CallsKept steps (past plan moves).world.state [] (past plan moves).book →
    steps + 2 * length (past plan moves).world.state.open_links ≤ 10 * length moves → IsSchedule plan moves → DrawsDiffer (past plan moves).world → CallsStand plan moves
calls_stand plan moves steps none kept few schedule differ =
    let p : Past = past plan moves in
    let holds : CallsHold steps p.world.state.member_plans p.world.state.ends p.world.state.chances.drawn p.world.state.links p.book.sent p.book.messages =
    kept (omega (arith, few, schedule.few)) differ in
    record {
      requests = by_requester (requests_at steps p.world.state.member_plans p.world.state.ends p.world.state.chances.drawn p.book.sent);
      shows = record { views = seen_so (requests_at steps p.world.state.member_plans p.world.state.ends p.world.state.chances.drawn p.book.sent) p.world.state none (λ k. refl); marks = refl; drawn = refl; few = omega (arith, few) };
      apart = by_requester_apart (requests_at steps p.world.state.member_plans p.world.state.ends p.world.state.chances.drawn p.book.sent) holds.apart;
      out = out_at p steps holds;
    }

-- ---- with what keeps the ends quiet

-- a schedule whose draws differ stands as it is to, where any fact is kept by which its ends are quiet
pub stand_so : (Quiet : RunFact) (Fine : ActionFact) → ((n : ℕ) (s : State) (given : Given) (b : Book) → Quiet n s given b → NothingIsOpen s) → StepKeeps NoFact Quiet Fine →
    (plan : Plan) (moves : List Move) → IsPlainAlone plan → Quiet 0 (plain_world plan).state [] blank → HasBytes plan moves → IsSchedule plan moves →
    DrawsDiffer (past plan moves).world → RunsStandSo plan moves
stand_so Quiet Fine so keeps plan moves nobody first bytes schedule differ =
    let both : StepKeeps NoFact (BothFacts Quiet CallsKept) (BothFine Fine AnyAction) =
    join Quiet CallsKept Fine AnyAction keeps (with_side QuietSide Quiet CallsKept AnyAction so calls_keep) in
    let after : HoldsAfterRun (BothFacts Quiet CallsKept) plan moves =
    run_keeps (BothFacts Quiet CallsKept) (BothFine Fine AnyAction) both plan moves nobody bytes (first, first_calls plan) in
    let stand : CallsStand plan moves = calls_stand plan moves after.steps (none_asked plan moves nobody) after.holds.1 after.few schedule differ in
    record {
      quiet = so after.steps (past plan moves).world.state [] (past plan moves).book after.holds.0;
      requests = stand.requests;
      shows = stand.shows;
      apart = stand.apart;
      out = stand.out;
    }

-- each schedule whose draws differ stands as it is to
pub schedules_stand : OfSchedules (λ plan moves. DrawsDiffer (past plan moves).world → RunsStandSo plan moves)
schedules_stand plan moves nobody schedule differ =
    stand_so QuietFact QuietAction (λ n s given b quiet. is_quiet s quiet) quiet_keeps plan moves nobody (quiet_first plan schedule.start schedule.forms) (has_bytes plan moves nobody schedule)
    schedule differ
