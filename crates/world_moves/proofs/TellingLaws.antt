-- What a controller tells at a step: a judgement of each unit, at most. That a logon was answered which it asked of
-- another controller isn't counted.
-- It serves `State::put_answered`, `State::shut_link`, `World::new` and 3 more.
use Rattle.std.proofs.Common.{◌≡◌, ℕ, ◌+◌, ◌*◌, ◌≤◌, Bool, true, false, nat_le, List, [], ◌∷◌, ◌++◌, length, Option, Some, None, Result, Ok, Err, slice_get, if◌then◌else◌, refl, ap, ◌∙◌, arith, length-append}
use Rattle.std.specs.List.{AllByRecursion}
use Rattle.wire_base.specs.Maps.{has_key, lookup, put, take_out, same_number}
use Rattle.outside.specs.Machine.{Part, step_by, then_part}
use Rattle.outside.specs.declared.action.Action.{Action}
use Rattle.outside.specs.declared.action.Action.TheVariants as action
use Rattle.outside.specs.declared.action.CloseCause.{CloseCause}
use Rattle.outside.specs.declared.action.CloseCause.TheVariants as close
use Rattle.outside.specs.declared.action.Judged.{Judged}
use Rattle.outside.specs.declared.action.Judged.TheVariants as judged
use Rattle.outside.specs.declared.action.StepRefused.{StepRefused}
use Rattle.outside.specs.declared.event.Event.{Event}
use Rattle.outside.specs.declared.event.Event.TheVariants as event
use Rattle.rpc_units.specs.declared.refused.UnitRefused.{UnitRefused}
use Rattle.rpc_units.specs.Stream.{cut_stream}
use Rattle.rpc_units.proofs.CutStreamLaws.{units_counted}
use Rattle.logon_stubs.specs.Status.{no_logon_servers}
use Rattle.logon_stubs.specs.declared.calls.Reply.{Reply}
use Rattle.logon_stubs.specs.declared.info.Verdict.{Verdict}
use Rattle.logon_stubs.specs.declared.info.Verdict.TheVariants.{Status}
use Rattle.account_table.specs.AccountTable.{AccountTable}
use Rattle.account_table.specs.declared.account.Trust.{Trust}
use Rattle.end_links.specs.Links.{LinkState}
use Rattle.end_links.specs.Sending.{joined_frames}
use Rattle.end_links.specs.Serving.{ServedPart, Server, Service, served_by, served_cut, then_open, then_talk, with_close}
use Rattle.channel_client.specs.Machine.{take_of}
use Rattle.channel_client.specs.State.{Requester}
use Rattle.channel_turns.proofs.KeepLaws.{StaysOnTurns, taken_by, turn_stays}
use Rattle.channel_turns.specs.Dials.{NextTurn, next_turn as channel_turn}
use Rattle.channel_turns.specs.Turning.{Turned, answer_by, close_if, dial_for, dial_part, fail_by, hear_by, hear_if, is_on, is_waiting, link_answers, link_closes, link_hears, no_dial}
use Rattle.channel_turns.specs.Turns.{TurnServed}
use Rattle.channel_turns.specs.declared.state.Dialling.{Dialling}
use Rattle.channel_turns.specs.declared.state.Dialling.TheVariants as dialling
use Rattle.channel_turns.specs.declared.state.TurnEnd.{TurnEnd}
use Rattle.channel_turns.specs.declared.state.TurnEnd.TheVariants as turn_end
use Rattle.channel_turns.specs.declared.state.TurnEnded.{TurnEnded}
use Rattle.channel_turns.specs.declared.state.TurnTalk.{TurnTalk}
use Rattle.channel_turns.specs.declared.state.TurnWork.{TurnWork}
use Rattle.channel_turns.specs.declared.state.Turning.{Turning}
use Rattle.controller_calls.specs.Desk.{Desk, tell}
use Rattle.controller_calls.specs.Forwarded.{ForwardedState}
use Rattle.controller_calls.specs.Handing.{forwarded_reply, reply_if}
use Rattle.controller_calls.specs.Logons.{status_of}
use Rattle.controller_calls.specs.Passing.{IsKeep}
use Rattle.controller_calls.specs.declared.calls.ControllerCall.TheVariants as call
use Rattle.controller_calls.specs.declared.calls.JudgedCall.{JudgedCall}
use Rattle.controller_calls.specs.declared.line.Line.{Line}
use Rattle.controller_calls.specs.declared.state.Work.{Work}
use Rattle.controller_calls.proofs.ReplyLaws.{JudgesOne, judges_one}
use Rattle.domain_controller.specs.Forwarding.{TrustDesk, after_ended, answer_found, answer_trust_call, base_desk, beside, by_trust_heard, close_ended, end_turn, trust_desk, trust_server}
use Rattle.domain_controller.specs.Hearing.{first_talk, hear}
use Rattle.domain_controller.specs.Machine.{by_heard}
use Rattle.domain_controller.specs.State.{State as ControllerState}
use Rattle.domain_controller.specs.Step.{LinkMap}
use Rattle.domain_controller.specs.TrustStep.{TrustPart, TrustParts, after_turned, after_units, answer_dial, by_trust_event, close_by, close_number, event_and_turn, fail_dial, first_waiting, is_idle, link_with, next_if, next_part, next_turn, open_by, parts_of, put_open, serve_bytes, serve_on, start_at, start_on, trust_halted, trust_part, trust_state_after, trust_step_of, trust_step_on, turn_at, turned_work, turning_of, without_link}
use Rattle.domain_controller.specs.declared.hearing.Heard.{Heard}
use Rattle.domain_controller.specs.declared.hearing.Heard.TheVariants as heard
use Rattle.domain_controller.specs.declared.state.Running.{Running}
use Rattle.domain_controller.specs.declared.state.Talk.{Talk}
use Rattle.domain_controller.specs.declared.trusting.Parts.{Parts}
use Rattle.domain_controller.specs.declared.trusting.Queues.{Queues}
use Rattle.domain_controller.specs.declared.trusting.TrustWork.{TrustWork}
use Rattle.domain_controller.proofs.HandOnLaws.{AnsweredHere, CallComes, ForwardedOn, call_comes}
use Rattle.domain_controller.proofs.UnitLaws.{heard_comes}
use Rattle.world_moves.specs.Ends.{actions_by}
use Rattle.world_moves.specs.Telling.{adds_at, bytes_left, rests_on, tells_judged, tells_one, told_by}

-- ---- what is told by actions

pub told_append : (actions later : List Action) → told_by (actions ++ later) ≡ told_by actions + told_by later
told_append [] later = omega arith
told_append (what ∷ actions) later = omega (arith, told_append actions later)

-- one more action
pub told_more : (actions : List Action) (what : Action) → told_by (actions ++ what ∷ []) ≡ told_by actions + tells_one what
told_more actions what = omega (arith, told_append actions (what ∷ []))

-- an action that tells nothing
none_more : (actions : List Action) (what : Action) → tells_one what ≡ 0 → told_by (actions ++ what ∷ []) ≡ told_by actions
none_more actions what none = omega (arith, told_more actions what, none)

-- ---- a unit at a controller

-- at most so much was told, where the part is whole
abbrev pub Tells : ℕ → ServedPart Desk Talk → Type 0
Tells most (Err why) = Unit {0}
Tells most (Ok part) = told_by part.value.0.work.actions ≤ most

-- texts that are kept tell nothing
pub kept_tells : (kept : List Action) → AllByRecursion IsKeep kept → told_by kept ≡ 0
kept_tells [] are = refl
kept_tells (action.Keep text ∷ kept) are = omega (arith, kept_tells kept are.1)
kept_tells (action.Send at more ∷ kept) are = absurd are.0
kept_tells (action.Dial peer ∷ kept) are = absurd are.0
kept_tells (action.Close at cause ∷ kept) are = absurd are.0
kept_tells (action.Told at outcome ∷ kept) are = absurd are.0
kept_tells (action.Judged other ∷ kept) are = absurd are.0

-- a judgement is one at most
pub how_few : (how : Judged) → tells_judged how ≤ 1
how_few (judged.Passed status) = omega arith
how_few judged.Forwarded = omega arith
how_few (judged.Answered status) = omega arith
how_few judged.Barred = omega arith
how_few judged.NoChannel = omega arith

-- one judgement more, behind texts that are kept
judged_few : (line : Line) (before after : Desk) → JudgesOne line before after → told_by after.work.actions ≤ told_by before.work.actions + 1
judged_few line before after one =
    let last : List Action = action.Judged one.how ∷ action.Send line.link one.answer ∷ [] in
    omega (arith, ap told_by one.actions, told_append before.work.actions (one.kept ++ last), told_append one.kept last, kept_tells one.kept one.are_kept, how_few one.how)

-- a unit tells one judgement at most
heard_few : (what : Heard) (link : ℕ) (name : List ℕ) (now : ℕ) (d : Desk) (left : List (List ℕ)) → Tells (told_by d.work.actions + 1) (by_heard what link name now d left)
heard_few what link name now d left =
    let sends : (to : ℕ) (bytes : List ℕ) → told_by (d.work.actions ++ action.Send to bytes ∷ []) ≤ told_by d.work.actions + 1 =
    λ to bytes. omega (arith, told_more d.work.actions (action.Send to bytes)) in
    heard_comes (λ (one : Heard) (part : ServedPart Desk Talk). Tells (told_by d.work.actions + 1) part) link name now d left (record {
      close = λ cause. omega (arith, told_more d.work.actions (action.Close link cause));
      answer = λ bytes talk. sends link bytes;
      waits = λ talk. omega arith;
      spent = λ line c talk none. tt;
      unknown = λ line c talk server rest is none. sends line.link _;
      known = λ line c talk server rest is known. sends line.link _;
      denied = λ line c talk status fails none. sends line.link _;
      accepted = λ line c talk opens. sends line.link _;
      judged = λ line c talk after comes. judged_few line d after (judges_one c name now line d after comes);
    }) what

-- ---- a unit at a controller that may ask others

-- at most so much was told, where the part is whole; of what stands there `count` says how much that is
abbrev pub TellsBy : {D : Type 0} → (D → ℕ) → ℕ → ServedPart D Talk → Type 0
TellsBy count most (Err why) = Unit {0}
TellsBy count most (Ok part) = count part.value.0 ≤ most

abbrev pub TrustTells : ℕ → ServedPart TrustDesk Talk → Type 0
TrustTells most part = TellsBy (λ (d : TrustDesk). told_by d.work.work.actions) most part

beside_few : (most : ℕ) (queues : Queues) (part : ServedPart Desk Talk) → Tells most part → TrustTells most (beside queues part)
beside_few most queues (Err why) few = tt
beside_few most queues (Ok part) few = few

-- a call tells at most one thing more, whether it is handed on or answered here
pub call_few : (c : JudgedCall) (line : Line) (before after : TrustDesk) → CallComes c line before after →
    told_by after.work.work.actions ≤ told_by before.work.work.actions + 1
call_few c line before after (ForwardedOn is so) = omega (arith, ap told_by so.actions, told_more before.work.work.actions (action.Judged judged.Forwarded))
call_few c line before after (AnsweredHere so) =
    let last : List Action = action.Judged so.how ∷ action.Send line.link so.answer ∷ [] in
    omega (arith, ap told_by so.actions, told_append before.work.work.actions (so.kept ++ last), told_append so.kept last, kept_tells so.kept so.texts, how_few so.how)

pub unit_few : (h : Heard) (link : ℕ) (name : List ℕ) (now : ℕ) (d : TrustDesk) (left : List (List ℕ)) →
    TrustTells (told_by d.work.work.actions + 1) (by_trust_heard h link name now d left)
unit_few (heard.Close cause) link name now d left =
    beside_few _ d.work.queues (by_heard (heard.Close cause) link name now (base_desk d) left) (heard_few (heard.Close cause) link name now (base_desk d) left)
unit_few (heard.Answer bytes talk) link name now d left =
    beside_few _ d.work.queues (by_heard (heard.Answer bytes talk) link name now (base_desk d) left) (heard_few (heard.Answer bytes talk) link name now (base_desk d) left)
unit_few (heard.Waits talk) link name now d left = omega arith
unit_few (heard.Asked line (call.Challenge c) talk) link name now d left =
    let asked : Heard = heard.Asked line (call.Challenge c) talk in
    beside_few _ d.work.queues (by_heard asked link name now (base_desk d) left) (heard_few asked link name now (base_desk d) left)
unit_few (heard.Asked line (call.Authenticate c) talk) link name now d left =
    let asked : Heard = heard.Asked line (call.Authenticate c) talk in
    beside_few _ d.work.queues (by_heard asked link name now (base_desk d) left) (heard_few asked link name now (base_desk d) left)
unit_few (heard.Asked line (call.Judged c) talk) link name now d left = call_few c line d (answer_trust_call c name now line d) (call_comes c name now line d)

-- ---- the units of a stream, at whoever serves them

module _ {D : Type 0} (count : D → ℕ) where
  abbrev Tells_at : ℕ → ServedPart D Talk → Type 0
  Tells_at most part = TellsBy count most part

  tells_more : (most more : ℕ) (part : ServedPart D Talk) → most ≤ more → Tells_at most part → Tells_at more part
  tells_more most more (Err why) le few = tt
  tells_more most more (Ok part) le few = omega (arith, le, few)

  talk_few : (most units : ℕ) (talk : Option Talk) (d : D) (left : List (List ℕ)) (later : Service D Talk) → count d ≤ most + 1 →
      ((d : D) (talk : Talk) (left : List (List ℕ)) → Tells_at (count d + units) (later d talk left)) → Tells_at (most + (1 + units)) (then_talk d talk left later)
  talk_few most units None d left later few each = omega (arith, few)
  talk_few most units (Some talk) d left later few each =
      tells_more (count d + units) (most + (1 + units)) (later d talk left) (omega (arith, few)) (each d talk left)

  part_few : (most units : ℕ) (part : ServedPart D Talk) (later : Service D Talk) → Tells_at (most + 1) part →
      ((d : D) (talk : Talk) (left : List (List ℕ)) → Tells_at (count d + units) (later d talk left)) → Tells_at (most + (1 + units)) (then_open part later)
  part_few most units (Err why) later few each = tt
  part_few most units (Ok part) later few each = talk_few most units part.value.1 part.value.0 part.left later few each

  module _ (server : Server D Talk) (each_unit : (bytes : List ℕ) (d : D) (talk : Talk) (left : List (List ℕ)) → Tells_at (count d + 1) (server.unit bytes d talk left))
      (each_refusal : (why : UnitRefused) (d : D) (talk : Talk) (left : List (List ℕ)) → Tells_at (count d) (with_close (server.refusal why d talk left))) where
    pub stream_few : (units : List (List ℕ)) (why : Option UnitRefused) (d : D) (talk : Talk) (left : List (List ℕ)) → Tells_at (count d + length units) (served_by server units why d talk left)
    stream_few [] None d talk left = omega arith
    stream_few [] (Some why) d talk left = tells_more (count d) (count d + 0) (with_close (server.refusal why d talk left)) (omega arith) (each_refusal why d talk left)
    stream_few (bytes ∷ units) why d talk left =
        tells_more (count d + (1 + length units)) (count d + length (bytes ∷ units))
        (then_open (server.unit bytes d talk left) (λ later said rest. served_by server units why later said rest)) (omega arith)
        (part_few (count d) (length units) (server.unit bytes d talk left) (λ later said rest. served_by server units why later said rest)
        (each_unit bytes d talk left) (λ later said rest. stream_few units why later said rest))

abbrev pub told_at : TrustDesk → ℕ
told_at d = told_by d.work.work.actions

units_few : (name : List ℕ) (now link : ℕ) (units : List (List ℕ)) (why : Option UnitRefused) (d : TrustDesk) (talk : Talk) (left : List (List ℕ)) →
    TrustTells (told_at d + length units) (served_by (trust_server name now link) units why d talk left)
units_few name now link =
    stream_few told_at (trust_server name now link) (λ bytes d talk left. unit_few (hear link bytes talk) link name now d left)
    (λ why d talk left. omega (arith, told_more d.work.work.actions (action.Close link close.BadUnit)))

-- ---- the links of a controller

rest_if : (hit : Bool) (entry : ℕ × LinkState Talk) (links rest : LinkMap) (found : Option (LinkState Talk)) (link : LinkState Talk) →
    (if hit then Some entry.1 else found) ≡ Some link → (found ≡ Some link → rests_on rest + length link.rest ≤ rests_on links) →
    rests_on (if hit then links else entry ∷ rest) + length link.rest ≤ length entry.1.rest + rests_on links
rest_if true entry links rest found link there later =
    let here : entry.1 ≡ link = cc in omega (arith, ap (λ (l : LinkState Talk). length l.rest) here)
rest_if false entry links rest found link there later = omega (arith, later there)

-- a link that is taken out has its rest
pub rest_taken : (k : ℕ) (links : LinkMap) (link : LinkState Talk) → lookup same_number k links ≡ Some link → rests_on (take_out same_number k links) + length link.rest ≤ rests_on links
rest_taken k [] link there = absurd cc
rest_taken k (entry ∷ links) link there =
    rest_if (has_key same_number k entry) entry links (take_out same_number k links) (lookup same_number k links) link there (rest_taken k links link)

out_if : (hit : Bool) (entry : ℕ × LinkState Talk) (links rest : LinkMap) → rests_on rest ≤ rests_on links → rests_on (if hit then links else entry ∷ rest) ≤ length entry.1.rest + rests_on links
out_if true entry links rest few = omega arith
out_if false entry links rest few = omega (arith, few)

pub rest_out : (k : ℕ) (links : LinkMap) → rests_on (take_out same_number k links) ≤ rests_on links
rest_out k [] = omega arith
rest_out k (entry ∷ links) = out_if (has_key same_number k entry) entry links (take_out same_number k links) (rest_out k links)

put_if : (hit : Bool) (k : ℕ) (link : LinkState Talk) (entry : ℕ × LinkState Talk) (links more : LinkMap) → rests_on more ≤ rests_on links + length link.rest →
    rests_on (if hit then (k, link) ∷ links else entry ∷ more) ≤ (length entry.1.rest + rests_on links) + length link.rest
put_if true k link entry links more few = omega arith
put_if false k link entry links more few = omega (arith, few)

rest_put : (k : ℕ) (link : LinkState Talk) (links : LinkMap) → rests_on (put same_number k link links) ≤ rests_on links + length link.rest
rest_put k link [] = omega arith
rest_put k link (entry ∷ links) = put_if (has_key same_number k entry) k link entry links (put same_number k link links) (rest_put k link links)

-- ---- a turn that ended: that its logon was answered isn't counted

abbrev pub told_in : TrustWork → ℕ
told_in w = told_by w.work.actions

reply_tells : (line : Option Line) (answer : Reply) (work : Work) → told_by (reply_if line answer work).actions ≡ told_by work.actions
reply_tells None answer work = refl
reply_tells (Some line) answer work = none_more work.actions _ refl

found_tells : (found : Option ForwardedState) (place : ℕ × ℕ) (verdict : Verdict) (w : TrustWork) → told_in (answer_found found place verdict w) ≡ told_in w
found_tells None place verdict w = refl
found_tells (Some f) place verdict w =
    let answered : Action = action.Judged (judged.Answered (status_of verdict)) in
    omega (arith, reply_tells f.line (forwarded_reply f verdict) (tell w.work answered), told_more w.work.actions answered)

end_tells : (how : TurnEnd) (trust : ℕ) (w : TrustWork) → told_in (end_turn how trust w) ≡ told_in w
end_tells turn_end.Half trust w = refl
end_tells turn_end.Opened trust w = refl
end_tells turn_end.Set trust w = refl
end_tells (turn_end.Answer place verdict) trust w = found_tells _ (trust, place) verdict w
end_tells (turn_end.Dropped place cause) trust w = found_tells _ (trust, place) (Status no_logon_servers) w

closes_tell : (closes : Option (ℕ × CloseCause)) (w : TrustWork) → told_in (close_ended closes w) ≡ told_in w
closes_tell None w = refl
closes_tell (Some closes) w = omega (arith, told_more w.work.actions (action.Close closes.0 closes.1))

ended_tells : (ended : Option TurnEnded) (trust : ℕ) (w : TrustWork) → told_in (after_ended ended trust w) ≡ told_in w
ended_tells None trust w = refl
ended_tells (Some ended) trust w = end_tells ended.how trust (close_ended ended.closes w) ∙ closes_tell ended.closes w

-- ---- what happens on the link of the turn tells nothing

abbrev pub TellsNone : (Turning → Turned) → Type 0
TellsNone happens = (turning : Turning) → told_by (happens turning).0.actions ≡ told_by turning.actions

pub closes_if : (b : Bool) (turning : Turning) → told_by (close_if b turning).0.actions ≡ told_by turning.actions
closes_if false turning = refl
closes_if true turning = refl

pub fails_by : (how : Dialling) (turning : Turning) → told_by (fail_by how turning).0.actions ≡ told_by turning.actions
fails_by dialling.Nothing turning = refl
fails_by (dialling.Waits turn frames) turning = refl
fails_by (dialling.On number said) turning = refl

pub answers_by : (how : Dialling) (link : ℕ) (turning : Turning) → told_by (answer_by how link turning).actions ≡ told_by turning.actions
answers_by dialling.Nothing link turning = refl
answers_by (dialling.Waits turn frames) link turning = omega (arith, told_more turning.actions (action.Send link (joined_frames frames)))
answers_by (dialling.On number said) link turning = refl

abbrev ServedTells : TurnWork → TurnServed → Type 0
ServedTells first served = told_by served.0.actions ≡ told_by first.actions

turns_tell : (first : TurnWork) → StaysOnTurns (ServedTells first)
turns_tell first = record {
  waits = λ at talk other is. is;
  takes = λ unit joiner at talk is.
      taken_by (take_of at.channel unit).taken joiner (record at { channel = (take_of at.channel unit).state }) (ServedTells first) (record {
        skips = λ right taken. is;
        sends = λ right frames taken. omega (arith, is, told_more at.actions (action.Send at.link (joined_frames frames)));
        ends = λ how taken. is;
      });
  breaks = λ cause at talk is. is;
}

hears_if : (b : Bool) (number : ℕ) (said : LinkState TurnTalk) (piece : List ℕ) (turning : Turning) → told_by (hear_if b number said piece turning).0.actions ≡ told_by turning.actions
hears_if false number said piece turning = refl
hears_if true number said piece turning =
    let at : TurnWork = record { link = number; channel = turning.channel; actions = turning.actions; ended = None } in
    turn_stays (ServedTells at) (turns_tell at) (cut_stream (said.rest ++ piece)) at said.talk refl

pub hears_by : (how : Dialling) (link : ℕ) (piece : List ℕ) (turning : Turning) → told_by (hear_by how link piece turning).0.actions ≡ told_by turning.actions
hears_by dialling.Nothing link piece turning = refl
hears_by (dialling.Waits turn frames) link piece turning = refl
hears_by (dialling.On number said) link piece turning = hears_if _ number said piece turning

-- ---- a controller at work: what was told, for 16 bytes each, and the rests

abbrev pub level_in : Parts → ℕ
level_in parts = 16 * told_in parts.work + rests_on parts.links

abbrev AtMost : ℕ → TrustPart → Type 0
AtMost most (Err why) = Unit {0}
AtMost most (Ok part) = level_in part.value.parts ≤ most

pub turn_level : (found : Option Requester) (happens : Turning → Turned) (parts : Parts) → TellsNone happens → level_in (turn_at found happens parts) ≤ level_in parts
turn_level None happens parts none = omega arith
turn_level (Some channel) happens parts none =
    let done : Turned = happens (turning_of channel parts) in
    omega (arith, ended_tells done.1 parts.turn_of (turned_work parts.turn_of done.0 parts.work), none (turning_of channel parts))

-- ---- an event

pub closed_level : (b : Bool) (number : ℕ) (parts : Parts) → level_in (close_by b number parts) ≤ level_in parts
closed_level false number parts = omega (arith, rest_out number parts.links)
closed_level true number parts =
    turn_level (slice_get parts.work.queues.requesters parts.turn_of) (λ turning. link_closes number turning) parts (λ turning. closes_if (is_on number turning.dialling) turning)

pub opened_level : (full : Bool) (number : ℕ) (parts : Parts) → level_in (open_by full number parts) ≤ level_in parts
opened_level true number parts = omega (arith, told_more parts.work.work.actions (action.Close number close.TooManyLinks))
opened_level false number parts = omega (arith, rest_put number (record { rest = []; talk = first_talk }) parts.links)

pub dial_level : (waits : Bool) (number : ℕ) (parts : Parts) → level_in (answer_dial waits number parts) ≤ level_in parts
dial_level false number parts = omega arith
dial_level true number parts =
    omega (
      arith,
      rest_out number parts.links,
      turn_level (slice_get parts.work.queues.requesters parts.turn_of) (λ turning. (link_answers number turning, None)) (without_link number parts)
          (λ turning. answers_by turning.dialling number turning),
    )

pub failed_level : (waits : Bool) (parts : Parts) → level_in (fail_dial waits parts) ≤ level_in parts
failed_level false parts = omega arith
failed_level true parts = turn_level _ (λ turning. no_dial turning) parts (λ turning. fails_by turning.dialling turning)

pub put_level : (said : Option Talk) (rest : List ℕ) (number : ℕ) (parts : Parts) → level_in (put_open (link_with rest said) number parts) ≤ level_in parts + length rest
put_level None rest number parts = omega arith
put_level (Some talk) rest number parts = omega (arith, rest_put number (record { rest = rest; talk = talk }) parts.links)

units_level : (part : ServedPart TrustDesk Talk) (rest : List ℕ) (number count : ℕ) (others : LinkMap) (parts : Parts) → TrustTells count part →
    AtMost ((16 * count + length rest) + rests_on others) (after_units part rest number others parts)
units_level (Err why) rest number count others parts few = tt
units_level (Ok part) rest number count others parts few =
    omega (arith, few, put_level part.value.1 rest number (record parts { work = part.value.0.work; links = others }))

most_more : (most more : ℕ) (part : TrustPart) → most ≤ more → AtMost most part → AtMost more part
most_more most more (Err why) le few = tt
most_more most more (Ok part) le few = omega (arith, le, few)

serve_level : (found : Option (LinkState Talk)) (number : ℕ) (piece name : List ℕ) (now : ℕ) (table : AccountTable) (parts : Parts) (left : List (List ℕ)) →
    lookup same_number number parts.links ≡ found →
    AtMost (level_in parts + length piece) (serve_on found number piece name now (take_out same_number number parts.links) table parts left)
serve_level None number piece name now table parts left is = omega (arith, rest_out number parts.links)
serve_level (Some link) number piece name now table parts left is =
    let stream : List ℕ = link.rest ++ piece in
    let cut = cut_stream stream in
    let d : TrustDesk = trust_desk table parts.work in
    let part : ServedPart TrustDesk Talk = served_cut (trust_server name now number) cut d link.talk left in
    let count : ℕ = told_at d + length cut.units in
    let others : LinkMap = take_out same_number number parts.links in
    most_more ((16 * count + length cut.rest) + rests_on others) (level_in parts + length piece) (after_units part cut.rest number others parts)
    (omega (arith, units_counted stream, length-append link.rest piece, rest_taken number parts.links link is))
    (units_level part cut.rest number count others parts (units_few name now number cut.units cut.refused d link.talk left))

bytes_level : (b : Bool) (number : ℕ) (piece name : List ℕ) (now : ℕ) (table : AccountTable) (parts : Parts) (left : List (List ℕ)) →
    AtMost (level_in parts + length piece) (serve_bytes b number piece name now table parts left)
bytes_level true number piece name now table parts left =
    omega (
      arith,
      turn_level (slice_get parts.work.queues.requesters parts.turn_of) (λ turning. link_hears number piece turning) parts
          (λ turning. hears_by turning.dialling number piece turning),
    )
bytes_level false number piece name now table parts left = serve_level (lookup same_number number parts.links) number piece name now table parts left refl

event_level : (what : Event) (name : List ℕ) (now : ℕ) (table : AccountTable) (parts : Parts) (left : List (List ℕ)) →
    AtMost (level_in parts + adds_at what) (by_trust_event what name now table parts left)
event_level (event.Opened number) name now table parts left =
    let closed : Parts = close_number number parts in
    omega (arith, opened_level (nat_le 256 (length closed.links)) number closed, closed_level (is_on number parts.dialling) number parts)
event_level (event.Bytes number piece) name now table parts left = bytes_level (is_on number parts.dialling) number piece name now table parts left
event_level (event.Closed number) name now table parts left = omega (arith, closed_level (is_on number parts.dialling) number parts)
event_level (event.Dialled number) name now table parts left = omega (arith, dial_level (is_waiting parts.dialling) number parts)
event_level event.DialFailed name now table parts left = omega (arith, failed_level (is_waiting parts.dialling) parts)
event_level event.Stop name now table parts left = omega arith

-- ---- the next turn tells nothing

abbrev pub StartsNone : Parts → Result (Part Parts) StepRefused → Type 0
StartsNone before (Err why) = Unit {0}
StartsNone before (Ok part) = level_in part.value ≡ level_in before

dialled_tells : (start : Option (Unit {0} × List (List ℕ))) (peer : List ℕ) (turning : Turning) → told_by (dial_for start peer turning).actions ≡ told_by turning.actions
dialled_tells None peer turning = refl
dialled_tells (Some start) peer turning = omega (arith, told_more turning.actions (action.Dial peer))

begun_level : (next : Result (Part NextTurn) StepRefused) (peer : List ℕ) (channel : Requester) (trust : ℕ) (parts : Parts) →
    StartsNone parts (then_part (then_part next (dial_part peer (turning_of channel parts))) (λ turning rest. next_part (after_turned trust (turning, None) parts) rest))
begun_level (Err why) peer channel trust parts = tt
begun_level (Ok part) peer channel trust parts = omega (arith, dialled_tells part.value.1 peer (record (turning_of channel parts) { channel = part.value.0 }))

start_level : (found : Option Requester) (entry : Option Trust) (trust now : ℕ) (parts : Parts) (left : List (List ℕ)) → StartsNone parts (start_on found entry trust now parts left)
start_level None entry trust now parts left = refl
start_level (Some channel) None trust now parts left = refl
start_level (Some channel) (Some entry) trust now parts left = begun_level (channel_turn now channel left) entry.address channel trust parts

first_level : (first : Option ℕ) (trusts : List Trust) (now : ℕ) (parts : Parts) (left : List (List ℕ)) → StartsNone parts (start_at first trusts now parts left)
first_level None trusts now parts left = refl
first_level (Some trust) trusts now parts left = start_level _ _ trust now parts left

pub next_level : (idle : Bool) (trusts : List Trust) (now : ℕ) (parts : Parts) (left : List (List ℕ)) → StartsNone parts (next_if idle trusts now parts left)
next_level false trusts now parts left = refl
next_level true trusts now parts left = first_level (first_waiting parts.work.queues.requesters) trusts now parts left

-- ---- a step

with_table : (most : ℕ) (part : Result (Part Parts) StepRefused) (table : AccountTable) (before : Parts) → level_in before ≤ most → StartsNone before part →
    AtMost most (then_part part (λ later last. trust_part table later last))
with_table most (Err why) table before few same = tt
with_table most (Ok part) table before few same = omega (arith, few, same)

turn_behind : (most : ℕ) (part : TrustPart) (trusts : List Trust) (now : ℕ) → AtMost most part →
    AtMost most (then_part part (λ after rest. then_part (next_turn trusts now after.parts rest) (λ later last. trust_part after.table later last)))
turn_behind most (Err why) trusts now few = tt
turn_behind most (Ok part) trusts now few =
    with_table most (next_turn trusts now part.value.parts part.left) part.value.table part.value.parts few
    (next_level (is_idle part.value.parts.dialling) trusts now part.value.parts part.left)

taken_level : (most : ℕ) (part : TrustPart) (s : ControllerState) (left : List (List ℕ)) → AtMost most part →
    let stepped = step_by (λ (after : TrustParts). after.parts.work.work.actions) (λ after. trust_state_after s after) (trust_halted s) left part in
    16 * told_by (actions_by stepped.answer) + bytes_left stepped.state.running ≤ most
taken_level most (Err why) s left few = omega arith
taken_level most (Ok part) s left few = few

running_level : (running : Option Running) (s : ControllerState) (what : Event) (now : ℕ) (left : List (List ℕ)) → s.running ≡ running →
    16 * told_by (actions_by (trust_step_on running s what now left).answer) + bytes_left (trust_step_on running s what now left).state.running ≤ bytes_left running + adds_at what
running_level None s what now left is = omega (arith, ap bytes_left is)
running_level (Some running) s what now left is =
    let parts : Parts = parts_of running s.trusting in
    taken_level (rests_on running.links + adds_at what) (event_and_turn s.table.trusts what s.name now s.table parts left) s left
    (turn_behind (rests_on running.links + adds_at what) (by_trust_event what s.name now s.table parts left) s.table.trusts now
    (most_more (level_in parts + adds_at what) (rests_on running.links + adds_at what) (by_trust_event what s.name now s.table parts left) (omega arith)
    (event_level what s.name now s.table parts left)))

-- what a controller tells at a step, for 16 bytes each, comes of its rests and of the bytes that come
pub controller_tells : (c : ControllerState) (what : Event) (now : ℕ) (left : List (List ℕ)) →
    16 * told_by (actions_by (trust_step_of c what now left).answer) + bytes_left (trust_step_of c what now left).state.running ≤ bytes_left c.running + adds_at what
controller_tells c what now left = running_level c.running c what now left refl
