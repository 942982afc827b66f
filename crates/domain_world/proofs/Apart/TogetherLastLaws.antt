-- What the end of a clear run tells of each earlier state and book: a call whose answer was taken had passed before, so
-- each call on the channel of a member had, but for one that is out. It serves `Proved.never_apart`.
use Rattle.std.proofs.Common.{◌≡◌, ◌⊎◌, ℕ, ◌<◌, ◌≤◌, Bool, true, false, List, [], ◌∷◌, ◌++◌, length, inl, inr, Option, Some, None, slice_get, refl, sym, ap, subst, ◌∙◌, arith}
use Rattle.std.specs.List.{AllByRecursion}
use Rattle.authenticators.specs.Channels.{ChannelIdentity}
use Rattle.authenticators.specs.SecureChannels.{SecureChannelState}
use Rattle.wire_base.specs.Lists.{OneOf}
use Rattle.wire_base.proofs.ListLaws.{got_append, no_some, one_weaker}
use Rattle.channel_client.specs.Effects.{MatchesStep, number_in, stands_in, step_in}
use Rattle.channel_client.specs.State.{Requester}
use Rattle.channel_client.specs.declared.state.Pending.{Pending}
use Rattle.channel_client.specs.declared.state.SetStep.TheVariants as set_step
use Rattle.channel_client.specs.declared.state.Standing.{Standing}
use Rattle.channel_client.specs.declared.state.Standing.TheVariants as standing
use Rattle.channel_client.specs.declared.state.Step.{Step}
use Rattle.channel_client.specs.declared.state.Step.TheVariants as step
use Rattle.channel_events.specs.Marks.{Calling, Mark}
use Rattle.channel_events.specs.SecretOrder.{IsIn}
use Rattle.member_server.specs.State.{State as MemberState}
use Rattle.member_server.specs.declared.state.Running.{Running}
use Rattle.step_notes.specs.ControllerNotes.{has_passed}
use Rattle.step_notes.specs.MemberNotes.{timestamp_bound}
use Rattle.step_notes.specs.Records.{Book, CallTaken, ChannelTurn, InUnit, Judging, OfMember, Outside, Sent, Source}
use Rattle.step_notes.specs.ReplySends.{IsReplyOfCall}
use Rattle.world_moves.specs.declared.moves.Move.{Move}
use Rattle.world_moves.specs.declared.plan.Plan.{Plan}
use Rattle.world_moves.specs.declared.state.State.{State}
use Rattle.world_moves.specs.Acting.{Given}
use Rattle.world_moves.specs.Alone.{IsPlainAlone}
use Rattle.world_moves.specs.Forms.{IsSchedule}
use Rattle.world_moves.specs.World.{first_world}
use Rattle.domain_world.specs.Accepting.Carried.{IsTakenInTurn}
use Rattle.domain_world.specs.Accepting.SeenSteps.{Differ}
use Rattle.domain_world.specs.Accepting.Sequences.{IsPassedIn, IsTakenFor}
use Rattle.domain_world.specs.Accepting.Units.{UnitsAreHeard}
use Rattle.domain_world.specs.Claims.{IsClear}
use Rattle.domain_world.specs.Claims.Replies.{IsReplyOfOne}
use Rattle.domain_world.specs.Past.{Past, controller_asked, onto, past, plain_form, running_in}
use Rattle.domain_world.proofs.Acceptance.AnsweredLaws.{passed_of}
use Rattle.domain_world.proofs.Acceptance.CarriedLaws.{replies_to}
use Rattle.domain_world.proofs.Acceptance.ScheduleLaws.{units_heard}
use Rattle.domain_world.proofs.Acceptance.Turns.TurnFactLaws.{AreApart, GrowsTo, SameEnds, apart_from, apart_front, marks_before, past_at, taken_stays, world_in}
use Rattle.domain_world.proofs.Acceptance.Turns.TurnMarkLaws.{marks_known}
use Rattle.domain_world.proofs.Apart.HappeningLaws.{run_same}
use Rattle.domain_world.proofs.Apart.NamedPlanLaws.{NamesStand, plain_same}
use Rattle.domain_world.proofs.Apart.OrderToldLaws.{IsEarlier, RepliesFrom, within}
use Rattle.domain_world.proofs.Apart.TogetherBookLaws.{passed_units, units_if}
use Rattle.domain_world.proofs.Apart.TogetherTakeLaws.{IsSetReply, WaitsBy}
use Rattle.domain_world.proofs.Messages.MessageApartLaws.{links_in, messages_apart}
use Rattle.domain_world.proofs.Moves.ComingLaws.{StillHas}
use Rattle.domain_world.proofs.Judgements.ReplyLaws.{replies_carry}
use Rattle.domain_world.proofs.Judgements.UnclashedLaws.{passes_unclashed}
use Rattle.domain_world.proofs.Calls.CallHoldsLaws.{mark_there, marks_in}
use Rattle.domain_world.proofs.Calls.CallStepLaws.{most_steps}
use Rattle.domain_world.proofs.Calls.MarkWayLaws.{marks_have_their_way}
use Rattle.domain_world.proofs.Sequences.CallTurnLaws.{AllDone, AreFar, AreFarBy, CallsMade, KnowsCalls, LastIsOut}
use Rattle.domain_world.proofs.Sequences.Own.OwnKeepLaws.{OwnHolds}
use Rattle.domain_world.proofs.Sequences.Own.OwnStayLaws.{OwnFacts, OwnOf}
use Rattle.domain_world.proofs.Sequences.SeedTurnLaws.{stamps_on}

-- ---- lists of what was judged

-- one whose reply is in an earlier unit was judged before
pub one_older : (P : Judging → Type 0) (n count : ℕ) → ((j : Judging) → P j → j.reply ≡ Some n) → n < count → (items older : List Judging) → AllByRecursion (RepliesFrom count) items →
    OneOf P (onto items older) → OneOf P older
one_older P n count so below [] older fresh one = one
one_older P n count so below (j ∷ items) older fresh one = elim (one_older P n count so below items (j ∷ older) fresh.1 one) [
  | inl here ↦ absurd (omega (arith, below, fresh.0 n (so j here)))
  | inr rest ↦ rest
]

pub first_in : (hit : Bool) (source : Source) (n : ℕ) (units : List ℕ) → hit ≡ true → source ≡ InUnit n → IsIn n (units_if hit source units)
first_in false source n units hit came = absurd (let never = hit in cc)
first_in true (InUnit m) n units hit came = inl (let same : m ≡ n = (let is = came in cc) in same)
first_in true Outside n units hit came = absurd (let never = came in cc)

pub later_in : (hit : Bool) (source : Source) (n : ℕ) (units : List ℕ) → IsIn n units → IsIn n (units_if hit source units)
later_in false source n units is = is
later_in true (InUnit m) n units is = inr is
later_in true Outside n units is = is

passed_one : (n : ℕ) (judged : List Judging) → OneOf (IsPassedIn n) judged → IsIn n (passed_units judged)
passed_one n [] one = absurd one
passed_one n (j ∷ earlier) one = elim one [
  | inl here ↦ first_in (has_passed j.how) j.source n (passed_units earlier) here.0 here.1
  | inr later ↦ later_in (has_passed j.how) j.source n (passed_units earlier) (passed_one n earlier later)
]

-- ---- a call of a member that sets a secret, and is out

-- a call that sets a secret waits on a channel that is open
pub open_by : (how : Standing) (st : Option Step) → IsSetReply st → MatchesStep how st → (o : SecureChannelState) × (how ≡ standing.Open o)
open_by how None is matches = absurd is
open_by how (Some (step.Bind c)) is matches = absurd is
open_by how (Some (step.Reply q)) is matches = absurd is
open_by how (Some (step.Set (set_step.Bind c))) is matches = absurd is
open_by standing.Nothing (Some (step.Set set_step.Reply)) is matches = absurd matches
open_by (standing.Half client server) (Some (step.Set set_step.Reply)) is matches = absurd matches
open_by (standing.Open o) (Some (step.Set set_step.Reply)) is matches = (o, refl)

-- where one is out the turn waits for its reply
pub waits_set : (st : Option Step) (number : ℕ) (stands : Option ChannelIdentity) (marks : List Mark) (out : Option ℕ) (unit : ℕ) → WaitsBy st number stands marks out → out ≡ Some unit → IsSetReply st
waits_set None number stands marks out unit waits is = absurd (no_some unit (sym waits ∙ is))
waits_set (Some (step.Bind c)) number stands marks out unit waits is = absurd (no_some unit (sym waits ∙ is))
waits_set (Some (step.Reply q)) number stands marks out unit waits is = absurd (no_some unit (sym waits ∙ is))
waits_set (Some (step.Set (set_step.Bind c))) number stands marks out unit waits is = absurd (no_some unit (sym waits ∙ is))
waits_set (Some (step.Set set_step.Reply)) number stands marks out unit waits is = tt

module _ (Done : ℕ → Type 0) (marks : List Mark) (d : ChannelIdentity) where
  last_by : (number : ℕ) (st : Step) (bound : ℕ) (made : List (ℕ × ℕ)) (stamps : List ℕ) → IsSetReply (Some st) → AreFarBy Done marks d number st bound made stamps → LastIsOut Done marks d number made stamps
  last_by number (step.Bind c) bound made stamps is far = absurd is
  last_by number (step.Reply q) bound made stamps is far = absurd is
  last_by number (step.Set (set_step.Bind c)) bound made stamps is far = absurd is
  last_by number (step.Set set_step.Reply) bound made stamps is far = far

  last_out : (turn : Option Pending) (bound : ℕ) (made : List (ℕ × ℕ)) (stamps : List ℕ) → IsSetReply (step_in turn) → AreFar Done marks d turn bound made stamps →
      LastIsOut Done marks d (number_in turn) made stamps
  last_out None bound made stamps is far = absurd is
  last_out (Some p) bound made stamps is far = last_by p.number p.step bound made stamps is far

  last_or_done : (earlier : List (ℕ × ℕ)) (last : ℕ × ℕ) (n : ℕ) → OneOf (λ (one : ℕ × ℕ). one.0 ≡ n) (earlier ++ last ∷ []) → AllDone Done earlier → (n ≡ last.0) ⊎ Done n
  last_or_done [] last n one all = elim one [ inl here ↦ inl (sym here) | inr never ↦ absurd never ]
  last_or_done (first ∷ earlier) last n one all = elim one [
    | inl here ↦ inr (subst Done here all.0)
    | inr later ↦ last_or_done earlier last n later all.1
  ]

-- a call that sets a secret was written down, and each other call on its channel passed
pub record IsSetOut (b : Book) (c : Requester) (d : ChannelIdentity) : Type 0 where
  pub unit : ℕ
  pub timestamp : ℕ
  pub there : slice_get (marks_in b.sent) unit ≡ Some (Calling d (number_in c.turn) timestamp)
  pub others : (n number stamp : ℕ) (e : ChannelIdentity) → slice_get (marks_in b.sent) n ≡ Some (Calling e number stamp) → e.client ≡ d.client → (n ≡ unit) ⊎ IsIn n (passed_units b.judged)

-- ---- by the last book

module _ (plan : Plan) (moves : List Move) (nobody : IsPlainAlone plan) (schedule : IsSchedule plan moves) (clear : IsClear (past plan moves).book) where
  abbrev p : Past
  p = past plan moves

  abbrev last : Book
  last = p.book

  -- the call was judged, passed, and was answered by that unit
  pub record IsAnswering (taken : CallTaken) (turn : IsTakenInTurn p taken) (j : Judging) : Type 0 where
    pub reply : j.reply ≡ Some taken.reply
    pub channel : ChannelIdentity
    pub number : ℕ
    pub of : IsReplyOfCall channel number taken.call j (plain_form last.sent taken.reply turn.carrier)

  pub answered_last : (taken : CallTaken) (turn : IsTakenInTurn p taken) → OneOf (IsAnswering taken turn) last.judged
  answered_last taken turn =
      let heard : UnitsAreHeard p = units_heard plan moves nobody schedule in
      let replies = replies_carry plan moves nobody in
      let its = replies_to p heard.whole (marks_have_their_way plan moves nobody.plain) heard.judged (passes_unclashed plan moves) replies heard.numbers clear.apart heard.openings taken turn in
      let replied = subst (λ (m : Mark). IsReplyOfOne p.book.judged taken.reply (plain_form p.book.sent taken.reply turn.carrier) m) its.mark (replies taken.reply turn.carrier its.sent turn.there its.there) in
      one_weaker (λ (j : Judging). (j.reply ≡ Some taken.reply) × IsReplyOfCall its.channel its.number taken.call j (plain_form p.book.sent taken.reply turn.carrier)) (IsAnswering taken turn) p.book.judged
      (λ j of. record { reply = of.0; channel = its.channel; number = its.number; of = of.1 }) replied

  -- an earlier state and book
  pub record Leads (s : State) (b : Book) : Type 0 where
    pub still : StillHas s.bag p.world.state.bag
    pub earlier : IsEarlier b last
    pub ends : SameEnds s.ends p.world.state.ends

  pub ends_last : (s : State) → NamesStand plan s → SameEnds s.ends p.world.state.ends
  ends_last s names =
      let same = (run_same moves (first_world plan)).ends in
      record {
        controllers = sym names.ends.controllers ∙ (plain_same plan).controllers ∙ sym same.controllers;
        members = sym names.ends.members ∙ (plain_same plan).members ∙ sym same.members;
        clients = sym names.ends.clients ∙ sym same.clients;
        stations = sym names.ends.stations ∙ sym same.stations;
      }

  pub grows_last : (s : State) (b : Book) → Leads s b → GrowsTo s p.world.state b last
  grows_last s b leads = record {
    bag = leads.still;
    sent = λ k one there.
        subst (λ (sent : List Sent). slice_get sent k ≡ Some one) (sym leads.earlier.sent) (got_append b.sent leads.earlier.more k one there);
    ends = leads.ends;
  }

  -- a call whose answer was taken passed before
  taken_passed : (s : State) (b : Book) → Leads s b → (n : ℕ) → IsTakenFor (past_at plan s b) n → IsIn n (passed_units b.judged)
  taken_passed s b leads n is =
      let turn : IsTakenInTurn p is.taken = taken_stays plan (world_in s) p.world b last (grows_last s b leads) is.taken is.turn in
      let below : is.taken.reply < length b.sent = within b.sent is.taken.reply is.turn.sent.mark (mark_there b.sent is.taken.reply is.turn.sent is.turn.noted) in
      let one : OneOf (IsAnswering is.taken turn) b.judged =
      one_older (IsAnswering is.taken turn) is.taken.reply (length b.sent) (λ j answers. answers.reply) below leads.earlier.judgings b.judged leads.earlier.fresh
      (subst (λ (js : List Judging). OneOf (IsAnswering is.taken turn) js) leads.earlier.judged (answered_last is.taken turn)) in
      passed_one n b.judged
      (one_weaker (IsAnswering is.taken turn) (IsPassedIn n) b.judged
      (λ j answers. (passed_of (has_passed j.how) j answers.channel refl answers.of.passed, answers.of.came ∙ ap InUnit is.call)) one)

  pub apart_at : (s : State) (b : Book) → Leads s b → AreApart (links_in b.messages)
  apart_at s b leads =
      apart_front (links_in b.messages) leads.earlier.links (subst AreApart leads.earlier.messages (apart_from last.messages (messages_apart plan moves nobody.plain)))

  -- what is known of the calls of a member's turns
  calls_at : (n : ℕ) (s : State) (given : Given) (b : Book) → OwnHolds plan n s given b → Leads s b → n ≤ most_steps → Differ s.chances.drawn → (member controller : ℕ) (running : Running) →
      slice_get s.ends.members member ≡ Some (record { running = Some running }) → controller_asked (OfMember member) s ≡ controller →
      (own : List ChannelTurn) × KnowsCalls (IsTakenFor (past_at plan s b)) (marks_in b.sent) own controller running.logons.channel
  calls_at n s given b holds leads few differ member controller running is asks =
      let facts : OwnFacts plan s given b =
      holds few (leads.earlier.clash clear.apart) (apart_at s b leads) (marks_before s p.world.state b last (grows_last s b leads) (marks_known plan moves nobody)) differ in
      let it : OwnOf plan s given b (OfMember member) (Some running) =
      subst (λ (found : Option MemberState). OwnOf plan s given b (OfMember member) (running_in found)) is (facts.asks member) in
      (it.1.own, subst (λ (c : ℕ). KnowsCalls (IsTakenFor (past_at plan s b)) (marks_in b.sent) it.1.own c running.logons.channel) asks it.1.calls)

  pub set_out : (n : ℕ) (s : State) (given : Given) (b : Book) → OwnHolds plan n s given b → Leads s b → n ≤ most_steps → Differ s.chances.drawn → (member controller : ℕ) (running : Running) →
      slice_get s.ends.members member ≡ Some (record { running = Some running }) → controller_asked (OfMember member) s ≡ controller → IsSetReply (step_in running.logons.channel.turn) →
      (d : ChannelIdentity) → stands_in controller running.logons.channel.caller.computer running.logons.channel.standing ≡ Some d → IsSetOut b running.logons.channel d
  set_out n s given b holds leads few differ member controller running is asks waits d stands =
      let c : Requester = running.logons.channel in
      let Done : ℕ → Type 0 = IsTakenFor (past_at plan s b) in
      let own = calls_at n s given b holds leads few differ member controller running is asks in
      let calls : CallsMade Done (marks_in b.sent) own.0 d c.turn = own.1 d stands in
      let out : LastIsOut Done (marks_in b.sent) d (number_in c.turn) calls.made (stamps_on d own.0) =
      last_out Done (marks_in b.sent) d c.turn (timestamp_bound (step_in c.turn)) calls.made (stamps_on d own.0) waits calls.far in
      record {
        unit = out.last.0;
        timestamp = out.last.1;
        there = out.out;
        others = λ k number stamp e there client.
            elim (last_or_done Done (marks_in b.sent) d out.earlier out.last k
            (subst (λ (made : List (ℕ × ℕ)). OneOf (λ (one : ℕ × ℕ). one.0 ≡ k) made) out.split (calls.every k number stamp e there client)) out.answered) [
              | inl here ↦ inl here
              | inr done ↦ inr (taken_passed s b leads k done)
            ];
      }
