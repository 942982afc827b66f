-- The ranges of what a controller that asks others keeps, through its turns. It serves `what_trusts_send_is_whole`.
use Rattle.std.proofs.Common.{◌≡◌, ◌<◌, ◌^◌, ◌==◌, ◌++◌, ℕ, Bool, true, false, List, [], ◌∷◌, replicate, Option, Some, None, Result, Ok, Err, slice_get, inl, inr, refl, sym, subst, arith, if◌then◌else◌}
use Rattle.std.proofs.Math.Nat.{mod-lt}
use Rattle.std.specs.List.{AllByRecursion}
use Rattle.wire_base.specs.Maps.{has_key, lookup, take_out}
use Rattle.authenticators.proofs.BlockLaws.{zeros_block}
use Rattle.authenticators.specs.Timestamps.{timestamp_of}
use Rattle.outside.specs.Machine.{Part}
use Rattle.outside.specs.declared.action.Action.{Action}
use Rattle.outside.specs.declared.action.Action.TheVariants as action
use Rattle.outside.specs.declared.action.CloseCause.{CloseCause}
use Rattle.outside.specs.declared.action.Judged.TheVariants as judged
use Rattle.outside.specs.declared.action.StepRefused.{StepRefused}
use Rattle.rpc_units.specs.Calls.{bytes_of_call}
use Rattle.rpc_units.specs.Stream.{cut_stream}
use Rattle.logon_stubs.specs.Writing.{written_reply}
use Rattle.logon_stubs.specs.Ranges.{IsBlock}
use Rattle.logon_stubs.specs.Status.{no_logon_servers}
use Rattle.logon_stubs.specs.declared.info.Verdict.{Verdict}
use Rattle.logon_stubs.specs.declared.info.Verdict.TheVariants.{Granted, Status}
use Rattle.end_links.specs.Links.{LinkState}
use Rattle.end_links.specs.Sending.{response_of}
use Rattle.end_links.specs.Whole.{IsWholeIfSent}
use Rattle.channel_client.proofs.WholeLaws.{requesters_send_whole}
use Rattle.channel_client.specs.Machine.{can_start, needs_challenge, start_of}
use Rattle.channel_client.specs.State.{Requester}
use Rattle.channel_client.specs.Whole.{InRangeRequester, IsWholeStart}
use Rattle.channel_turns.proofs.WholeLaws.{turns_send_whole}
use Rattle.channel_turns.specs.Dials.{NextTurn, next_by, next_turn}
use Rattle.channel_turns.specs.Laws.{IsWholeOn}
use Rattle.channel_turns.specs.Turning.{Turned, answer_by, close_if, dial_for, fail_by, hear_by, hear_if, keep_link}
use Rattle.channel_turns.specs.Turns.{keep_turn, turn_served}
use Rattle.channel_turns.specs.declared.state.Dialling.{Dialling}
use Rattle.channel_turns.specs.declared.state.Dialling.TheVariants as dialling
use Rattle.channel_turns.specs.declared.state.TurnEnd.{TurnEnd}
use Rattle.channel_turns.specs.declared.state.TurnEnd.TheVariants as turn_end
use Rattle.channel_turns.specs.declared.state.TurnEnded.{TurnEnded}
use Rattle.channel_turns.specs.declared.state.TurnTalk.{TurnTalk}
use Rattle.channel_turns.specs.declared.state.TurnWork.{TurnWork}
use Rattle.channel_turns.specs.declared.state.Turning.{Turning}
use Rattle.controller_calls.specs.Desk.{IsLine, tell}
use Rattle.controller_calls.specs.Forwarded.{ForwardedState, IsLineIfThere, line_unless, line_without}
use Rattle.controller_calls.specs.Handing.{forwarded_reply, reply_if}
use Rattle.controller_calls.specs.Logons.{status_of}
use Rattle.controller_calls.specs.declared.line.Line.{Line}
use Rattle.controller_calls.specs.declared.state.Work.{Work}
use Rattle.domain_controller.specs.Forwarding.{after_ended, answer_found, calls_without, close_ended, end_turn}
use Rattle.domain_controller.specs.TrustStep.{after_turned, turn_at, turned_work, turning_of}
use Rattle.domain_controller.specs.TrustWhole.{AreForwardedInRange, InRangeForwarded, InRangeQueues, IsWholeBind, IsWholeOrGrant}
use Rattle.domain_controller.specs.Trusting.{ForwardedCalls, same_place}
use Rattle.domain_controller.specs.Whole.{AreChallenges}
use Rattle.domain_controller.specs.declared.trusting.Parts.{Parts}
use Rattle.domain_controller.specs.declared.trusting.TrustWork.{TrustWork}
use Rattle.domain_controller.proofs.TrustPlaceLaws.{got_all, set_all}
use Rattle.domain_controller.proofs.TrustWalkLaws.{AddsTo, adds_none, adds_one}
use Rattle.domain_controller.proofs.WholeLaws.{stub_whole}
use Rattle.domain_controller.proofs.WholeParts.{passed_few}

-- ---- actions

pub all_more : (Is : Action → Type 0) (one two : List Action) → AllByRecursion Is one → AllByRecursion Is two → AllByRecursion Is (one ++ two)
all_more Is [] two all also = also
all_more Is (what ∷ one) two all also = (all.0, all_more Is one two all.1 also)

abbrev pub AreWholeOrGrants : List Action → Type 0
AreWholeOrGrants actions = AllByRecursion IsWholeOrGrant actions

whole_too : (what : Action) → IsWholeIfSent what → IsWholeOrGrant what
whole_too (action.Send link bytes) is = inl is
whole_too (action.Keep bytes) is = tt
whole_too (action.Dial peer) is = tt
whole_too (action.Close link cause) is = tt
whole_too (action.Told link outcome) is = tt
whole_too (action.Judged how) is = tt

pub all_too : (actions : List Action) → AllByRecursion IsWholeIfSent actions → AreWholeOrGrants actions
all_too [] all = tt
all_too (what ∷ actions) all = (whole_too what all.0, all_too actions all.1)

-- ---- logons that were asked

line_stays : (b : Bool) (line : Line) → IsLine line → IsLineIfThere (line_unless b line)
line_stays true line is = tt
line_stays false line is = is

line_left : (number : ℕ) (line : Option Line) → IsLineIfThere line → IsLineIfThere (line_without number line)
line_left number None is = tt
line_left number (Some line) is = line_stays (line.link == number) line is

pub calls_left : (number : ℕ) (calls : ForwardedCalls) → AreForwardedInRange calls → AreForwardedInRange (calls_without number calls)
calls_left number [] all = tt
calls_left number (entry ∷ calls) all = (
  record { call = record { line = line_left number entry.1.line all.0.call.line; level = all.0.call.level }; credential = all.0.credential },
  calls_left number calls all.1,
)

taken_by : (b : Bool) (entry : (ℕ × ℕ) × ForwardedState) (calls taken : ForwardedCalls) → AreForwardedInRange (entry ∷ calls) → AreForwardedInRange taken →
    AreForwardedInRange (if b then calls else entry ∷ taken)
taken_by true entry calls taken all rest = all.1
taken_by false entry calls taken all rest = (all.0, rest)

calls_taken : (place : ℕ × ℕ) (calls : ForwardedCalls) → AreForwardedInRange calls → AreForwardedInRange (take_out same_place place calls)
calls_taken place [] all = tt
calls_taken place (entry ∷ calls) all = taken_by (has_key same_place place entry) entry calls (take_out same_place place calls) all (calls_taken place calls all.1)

pub calls_pushed : (calls : ForwardedCalls) (place : ℕ × ℕ) (f : ForwardedState) → AreForwardedInRange calls → InRangeForwarded f → AreForwardedInRange (calls ++ (place, f) ∷ [])
calls_pushed [] place f all is = (is, tt)
calls_pushed (entry ∷ calls) place f all is = (all.0, calls_pushed calls place f all.1 is)

found_by : (b : Bool) (entry : (ℕ × ℕ) × ForwardedState) (rest : Option ForwardedState) (f : ForwardedState) → (if b then Some entry.1 else rest) ≡ Some f → InRangeForwarded entry.1 →
    (rest ≡ Some f → InRangeForwarded f) → InRangeForwarded f
found_by true entry rest f is range later = let same : entry.1 ≡ f = (let x = is in cc) in subst InRangeForwarded same range
found_by false entry rest f is range later = later is

found_range : (place : ℕ × ℕ) (calls : ForwardedCalls) (f : ForwardedState) → AreForwardedInRange calls → lookup same_place place calls ≡ Some f → InRangeForwarded f
found_range place [] f all is = absurd (let x = is in cc)
found_range place (entry ∷ calls) f all is =
    found_by (has_key same_place place entry) entry (lookup same_place place calls) f is all.0 (λ later. found_range place calls f all.1 later)

-- ---- what follows of a turn that ended

record InRangeWork (w : TrustWork) : Type 0 where
  sends : AreWholeOrGrants w.work.actions
  queues : InRangeQueues w.queues

-- a reply is whole, or it is that to a grant
reply_is : (verdict : Verdict) (line : Line) (f : ForwardedState) → IsLine line → InRangeForwarded f →
    IsWholeOrGrant (action.Send line.link (bytes_of_call (response_of line.call line.context (written_reply (forwarded_reply f verdict))) line.limit))
reply_is (Granted info) line f is range = inr (record { line = line; limits = is; f = f; range = range; granted = info; is = refl })
reply_is (Status status) line f is range =
    inl (stub_whole line _ is (passed_few (Status status) f.validation f.key f.credential range.credential tt tt))

reply_range : (line : Option Line) (verdict : Verdict) (f : ForwardedState) (work : Work) → IsLineIfThere line → InRangeForwarded f → AreWholeOrGrants work.actions →
    AreWholeOrGrants (reply_if line (forwarded_reply f verdict) work).actions
reply_range None verdict f work is range all = all
reply_range (Some line) verdict f work is range all = all_more IsWholeOrGrant work.actions _ all (reply_is verdict line f is range, tt)

found_in_range : (found : Option ForwardedState) (place : ℕ × ℕ) (verdict : Verdict) (w : TrustWork) → lookup same_place place w.queues.forwarded ≡ found → InRangeWork w →
    InRangeWork (answer_found found place verdict w)
found_in_range None place verdict w is range = range
found_in_range (Some f) place verdict w is range =
    let what : Action = action.Judged (judged.Answered (status_of verdict)) in
    let of : InRangeForwarded f = found_range place w.queues.forwarded f range.queues.forwarded is in
    record {
      sends = reply_range f.line verdict f (tell w.work what) of.call.line of (all_more IsWholeOrGrant w.work.actions (what ∷ []) range.sends (tt, tt));
      queues = record { requesters = range.queues.requesters; forwarded = calls_taken place w.queues.forwarded range.queues.forwarded };
    }

end_in_range : (how : TurnEnd) (trust : ℕ) (w : TrustWork) → InRangeWork w → InRangeWork (end_turn how trust w)
end_in_range turn_end.Half trust w range = range
end_in_range turn_end.Opened trust w range = range
end_in_range turn_end.Set trust w range = range
end_in_range (turn_end.Answer place verdict) trust w range = found_in_range (lookup same_place (trust, place) w.queues.forwarded) (trust, place) verdict w refl range
end_in_range (turn_end.Dropped place cause) trust w range =
    found_in_range (lookup same_place (trust, place) w.queues.forwarded) (trust, place) (Status no_logon_servers) w refl range

closed_in_range : (closes : Option (ℕ × CloseCause)) (w : TrustWork) → InRangeWork w → InRangeWork (close_ended closes w)
closed_in_range None w range = range
closed_in_range (Some closes) w range =
    record { sends = all_more IsWholeOrGrant w.work.actions _ range.sends (tt, tt); queues = record { requesters = range.queues.requesters; forwarded = range.queues.forwarded } }

ended_in_range : (ended : Option TurnEnded) (trust : ℕ) (w : TrustWork) → InRangeWork w → InRangeWork (after_ended ended trust w)
ended_in_range None trust w range = range
ended_in_range (Some ended) trust w range = end_in_range ended.how trust (close_ended ended.closes w) (closed_in_range ended.closes w range)

-- ---- events on the link of the turn

pub record InRangeTurned (before : List Action) (turned : Turned) : Type 0 where
  pub adds : AddsTo IsWholeIfSent before turned.0.actions
  pub channel : InRangeRequester turned.0.channel
  pub bind : IsWholeBind turned.0.dialling

abbrev pub InRangeTurning : Turning → Type 0
InRangeTurning turning = InRangeRequester turning.channel × IsWholeBind turning.dialling

abbrev pub KeepsRange : (Turning → Turned) → Type 0
KeepsRange happens = (turning : Turning) → InRangeTurning turning → InRangeTurned turning.actions (happens turning)

keeps_all : (turning : Turning) → InRangeTurning turning → InRangeTurned turning.actions (turning, None)
keeps_all turning range = record { adds = adds_none IsWholeIfSent turning.actions; channel = range.0; bind = range.1 }

pub closes_range : (b : Bool) (turning : Turning) → InRangeTurning turning → InRangeTurned turning.actions (close_if b turning)
closes_range false turning range = keeps_all turning range
closes_range true turning range =
    record { adds = adds_none IsWholeIfSent turning.actions; channel = requesters_send_whole.lose turning.channel range.0; bind = tt }

pub fails_range : (how : Dialling) (turning : Turning) → InRangeTurning turning → InRangeTurned turning.actions (fail_by how turning)
fails_range dialling.Nothing turning range = keeps_all turning range
fails_range (dialling.Waits turn frames) turning range =
    record { adds = adds_none IsWholeIfSent turning.actions; channel = requesters_send_whole.lose turning.channel range.0; bind = tt }
fails_range (dialling.On number said) turning range = keeps_all turning range

pub answers_range : (how : Dialling) (link : ℕ) (turning : Turning) → turning.dialling ≡ how → InRangeTurning turning → InRangeTurned turning.actions (answer_by how link turning, None)
answers_range dialling.Nothing link turning is range = keeps_all turning range
answers_range (dialling.Waits turn frames) link turning is range =
    record { adds = adds_one IsWholeIfSent turning.actions _ (subst IsWholeBind is range.1); channel = range.0; bind = tt }
answers_range (dialling.On number said) link turning is range = keeps_all turning range

kept_bind : (number : ℕ) (talk : Option TurnTalk) (rest : List ℕ) → IsWholeBind (keep_link number (keep_turn talk rest))
kept_bind number None rest = tt
kept_bind number (Some talk) rest = tt

on_whole : (number : ℕ) (what : Action) → IsWholeOn number what → IsWholeIfSent what
on_whole number (action.Send link bytes) is = is.1
on_whole number (action.Keep bytes) is = absurd is
on_whole number (action.Dial peer) is = absurd is
on_whole number (action.Close link cause) is = absurd is
on_whole number (action.Told link outcome) is = absurd is
on_whole number (action.Judged how) is = absurd is

all_on : (number : ℕ) (actions : List Action) → AllByRecursion (IsWholeOn number) actions → AllByRecursion IsWholeIfSent actions
all_on number [] all = tt
all_on number (what ∷ actions) all = (on_whole number what all.0, all_on number actions all.1)

hears_if : (b : Bool) (number : ℕ) (said : LinkState TurnTalk) (piece : List ℕ) (turning : Turning) → InRangeTurning turning → InRangeTurned turning.actions (hear_if b number said piece turning)
hears_if false number said piece turning range = keeps_all turning range
hears_if true number said piece turning range =
    let at : TurnWork = record { link = number; channel = turning.channel; actions = turning.actions; ended = None } in
    let cut = cut_stream (said.rest ++ piece) in
    let sends = turns_send_whole.requests cut at said.talk range.0 in
    record {
      adds = (sends.more, sends.is, all_on number sends.more sends.all);
      channel = sends.range;
      bind = kept_bind number (turn_served cut at said.talk).1 cut.rest;
    }

pub hears_range : (how : Dialling) (link : ℕ) (piece : List ℕ) (turning : Turning) → InRangeTurning turning → InRangeTurned turning.actions (hear_by how link piece turning)
hears_range dialling.Nothing link piece turning range = keeps_all turning range
hears_range (dialling.Waits turn frames) link piece turning range = keeps_all turning range
hears_range (dialling.On number said) link piece turning range = hears_if (number == link) number said piece turning range

-- ---- the controller at work

pub record InRangeParts (parts : Parts) : Type 0 where
  pub sends : AreWholeOrGrants parts.work.work.actions
  pub queues : InRangeQueues parts.work.queues
  pub bind : IsWholeBind parts.dialling

pub turned_range : (trust : ℕ) (turned : Turned) (parts : Parts) → InRangeTurned parts.work.work.actions turned → InRangeParts parts → InRangeParts (after_turned trust turned parts)
turned_range trust turned parts is range =
    let middle : TrustWork = turned_work trust turned.0 parts.work in
    let work : InRangeWork middle = record {
      sends = subst AreWholeOrGrants (sym is.adds.1) (all_more IsWholeOrGrant parts.work.work.actions is.adds.0 range.sends (all_too is.adds.0 is.adds.2));
      queues = record {
        requesters = set_all InRangeRequester parts.work.queues.requesters trust turned.0.channel range.queues.requesters is.channel;
        forwarded = range.queues.forwarded;
      };
    } in
    let after = ended_in_range turned.1 trust middle work in
    record { sends = after.sends; queues = after.queues; bind = is.bind }

pub turn_range : (found : Option Requester) (happens : Turning → Turned) (parts : Parts) → slice_get parts.work.queues.requesters parts.turn_of ≡ found → KeepsRange happens → InRangeParts parts →
    InRangeParts (turn_at found happens parts)
turn_range None happens parts is keeps range = range
turn_range (Some channel) happens parts is keeps range =
    turned_range parts.turn_of (happens (turning_of channel parts)) parts
    (keeps (turning_of channel parts) (got_all InRangeRequester parts.work.queues.requesters parts.turn_of channel range.queues.requesters is, range.bind)) range

-- ---- the next turn

below : (now : ℕ) → timestamp_of now < 2 ^ 32
below now = mod-lt _ (omega arith)

pub record InRangeNext (next : NextTurn) : Type 0 where
  pub channel : InRangeRequester next.0
  pub start : IsWholeStart next.1

abbrev pub NextInRange : Result (Part NextTurn) StepRefused → Type 0
NextInRange (Err why) = Unit {0}
NextInRange (Ok part) = InRangeNext part.value

begun : (now : ℕ) (channel : Requester) (challenge : List ℕ) → InRangeRequester channel → IsBlock 8 challenge →
    InRangeNext ((start_of channel (timestamp_of now) challenge).state, (start_of channel (timestamp_of now) challenge).answer)
begun now channel challenge range block =
    let starts = requesters_send_whole.start channel (timestamp_of now) challenge range (below now) block in
    record { channel = starts.0; start = starts.1 }

next_is : (can needs : Bool) (now : ℕ) (channel : Requester) (left : List (List ℕ)) → InRangeRequester channel → AreChallenges left → NextInRange (next_by can needs now channel left)
next_is false needs now channel left range eight = record { channel = range; start = tt }
next_is true false now channel left range eight = begun now channel (replicate 8 0) range zeros_block
next_is true true now channel [] range eight = tt
next_is true true now channel (challenge ∷ left) range eight = begun now channel challenge range eight.0

pub next_in_range : (now : ℕ) (channel : Requester) (left : List (List ℕ)) → InRangeRequester channel → AreChallenges left → NextInRange (next_turn now channel left)
next_in_range now channel left range eight = next_is (can_start channel.turn channel.waiting) (needs_challenge channel.standing) now channel left range eight

pub dials_range : (start : Option (Unit {0} × List (List ℕ))) (peer : List ℕ) (turning : Turning) → IsWholeStart start → InRangeTurning turning →
    InRangeTurned turning.actions (dial_for start peer turning, None)
dials_range None peer turning whole range = keeps_all turning range
dials_range (Some start) peer turning whole range =
    record { adds = adds_one IsWholeIfSent turning.actions (action.Dial peer) tt; channel = range.0; bind = whole }
