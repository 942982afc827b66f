-- Steps of a controller that trusts other domains in which no call comes for a trusted domain. It serves
-- `what_is_not_handed_on_is_answered_here`.
use Rattle.std.proofs.Common.{◌≡◌, ◌≤◌, ◌+◌, ◌⊎◌, ◌++◌, ℕ, suc, Bool, true, false, nat_le, List, [], ◌∷◌, length, option_map, Option, Some, None, Result, Ok, Err, inl, inr, if◌then◌else◌, refl, sym, ap, subst, ◌∙◌, arith}
use Rattle.wire_base.specs.Maps.{lookup, same_number, take_out}
use Rattle.account_table.specs.AccountTable.{AccountTable}
use Rattle.account_table.specs.declared.account.Trust.{Trust}
use Rattle.outside.specs.Machine.{Part, Stepped, spent_step, step_by, then_part, whole_step}
use Rattle.outside.specs.declared.action.Action.{Action}
use Rattle.outside.specs.declared.action.Action.TheVariants as action
use Rattle.outside.specs.declared.action.CloseCause.TheVariants as close
use Rattle.outside.specs.declared.action.Judged.TheVariants as judged
use Rattle.outside.specs.declared.action.StepRefused.{StepRefused}
use Rattle.outside.specs.declared.event.Event.{Event}
use Rattle.outside.specs.declared.event.Event.TheVariants as event
use Rattle.rpc_units.specs.declared.refused.UnitRefused.{UnitRefused}
use Rattle.rpc_units.specs.Stream.{cut_stream}
use Rattle.channel_client.specs.Machine.{can_start}
use Rattle.channel_client.specs.State.{Requester}
use Rattle.channel_client.specs.declared.state.Pending.{Pending}
use Rattle.channel_client.specs.declared.state.Waiting.{Waiting}
use Rattle.channel_turns.specs.Dials.{NextTurn, next_turn as channel_turn}
use Rattle.channel_turns.specs.Turning.{dial_for, dial_part}
use Rattle.channel_turns.specs.declared.state.Dialling.{Dialling}
use Rattle.channel_turns.specs.declared.state.Dialling.TheVariants as dialling
use Rattle.channel_turns.specs.declared.state.Turning.{Turning}
use Rattle.end_links.specs.Links.{LinkState}
use Rattle.end_links.specs.Serving.{ServedPart, served_by, then_open, then_talk}
use Rattle.end_links.proofs.KeepLaws.{StaysServing, served_stays}
use Rattle.end_loop.specs.Runs.{actions_of}
use Rattle.controller_calls.specs.Asking.{answer_judged}
use Rattle.controller_calls.specs.Desk.{Desk}
use Rattle.controller_calls.specs.declared.calls.ControllerCall.{ControllerCall}
use Rattle.controller_calls.specs.declared.calls.ControllerCall.TheVariants as call
use Rattle.controller_calls.specs.declared.calls.JudgedCall.{JudgedCall}
use Rattle.controller_calls.specs.declared.line.Line.{Line}
use Rattle.controller_calls.specs.declared.state.Work.{Work}
use Rattle.domain_controller.specs.Forwarding.{TrustDesk, answer_trust_call, base_desk, beside, by_trust_call, by_trust_heard, goes_on_trusting, trust_server, with_queues}
use Rattle.domain_controller.specs.Hearing.{hear}
use Rattle.domain_controller.specs.Machine.{by_call, by_heard, controller_server, goes_on}
use Rattle.domain_controller.specs.State.{State}
use Rattle.domain_controller.specs.Step as step
use Rattle.domain_controller.specs.Step.{LinkMap, StepPart, by_event, first_desk, halted, start_turn, state_after, step_of, step_on}
use Rattle.domain_controller.specs.TrustHere.{AnswersHere, NoneIsAsked, told_trusts}
use Rattle.domain_controller.specs.TrustOrder.{NobodyWaits}
use Rattle.domain_controller.specs.TrustStep as trust_step
use Rattle.domain_controller.specs.TrustStep.{TrustPart, TrustParts, after_turned, after_units, by_trust_event, event_and_turn, first_trust_state, first_waiting, is_idle, next_if, next_part, next_turn, parts_of, start_at, start_on, starts, trust_halted, trust_part, trust_state_after, trust_step_of, trust_step_on, turning_of}
use Rattle.domain_controller.specs.declared.hearing.Heard.{Heard}
use Rattle.domain_controller.specs.declared.hearing.Heard.TheVariants as heard
use Rattle.domain_controller.specs.declared.sealed.Sealing.{Sealing}
use Rattle.domain_controller.specs.declared.state.Running.{Running}
use Rattle.domain_controller.specs.declared.state.Talk.{Talk}
use Rattle.domain_controller.specs.declared.trusting.Parts.{Parts}
use Rattle.domain_controller.specs.declared.trusting.Queues.{Queues}
use Rattle.domain_controller.specs.declared.trusting.Trusting.{Trusting}
use Rattle.domain_controller.proofs.HandOnLaws.{AnsweredHere, CallComes, CallGoes, ForwardedOn, GoesOn, IsLeft, StaysHere, call_comes, call_goes}
use Rattle.domain_controller.proofs.OnceLaws.{UnlessJudged}
use Rattle.domain_controller.proofs.TrustOrderLaws.{stays_in_order}
use Rattle.domain_controller.proofs.TrustWalkLaws.{AddsTo, adds_none, adds_one, dials_go}
use Rattle.domain_controller.proofs.UnitLaws.{UnitCases, heard_comes}

-- ---- what is told stays told

pub more_trusts : (actions others : List Action) → told_trusts (actions ++ others) ≡ told_trusts actions + told_trusts others
more_trusts [] others = omega arith
more_trusts (what ∷ actions) others = omega (arith, more_trusts actions others)

abbrev Grows : List Action → List Action → Type 0
Grows old all = (new : List Action) × (all ≡ old ++ new)

grows_told : (old all : List Action) → Grows old all → 1 ≤ told_trusts old → 1 ≤ told_trusts all
grows_told old all grows told =
    let many : told_trusts all ≡ told_trusts old + told_trusts grows.0 = ap told_trusts grows.1 ∙ more_trusts old grows.0 in
    omega (arith, told, many)

abbrev pub Tells : ServedPart TrustDesk Talk → Type 0
Tells (Err why) = Unit {0}
Tells (Ok part) = 1 ≤ told_trusts part.value.0.work.work.actions

abbrev Any : Action → Type 0
Any what = Unit {0}

abbrev BaseAdds : Desk → ServedPart Desk Talk → Type 0
BaseAdds d (Err why) = Unit {0}
BaseAdds d (Ok part) = AddsTo Any d.work.actions part.value.0.work.actions

base_cases : (link : ℕ) (name : List ℕ) (now : ℕ) (d : Desk) (left : List (List ℕ)) → UnitCases (λ h part. UnlessJudged h (BaseAdds d part)) link name now d left
base_cases link name now d left = record {
  close = λ cause. adds_one Any d.work.actions (action.Close link cause) tt;
  answer = λ bytes talk. adds_one Any d.work.actions (action.Send link bytes) tt;
  waits = λ talk. adds_none Any d.work.actions;
  spent = λ line c talk none. tt;
  unknown = λ line c talk server rest is not. adds_one Any d.work.actions _ tt;
  known = λ line c talk server rest is knows. adds_one Any d.work.actions _ tt;
  denied = λ line c talk status fails none. adds_one Any d.work.actions _ tt;
  accepted = λ line c talk opens. adds_one Any d.work.actions _ tt;
  judged = λ line c talk after comes. tt;
}

beside_tells : (d : TrustDesk) (part : ServedPart Desk Talk) → 1 ≤ told_trusts d.work.work.actions → BaseAdds (base_desk d) part → Tells (beside d.work.queues part)
beside_tells d (Err why) told adds = tt
beside_tells d (Ok part) told adds = grows_told d.work.work.actions part.value.0.work.actions (adds.0, adds.1) told

call_tells : (c : JudgedCall) (line : Line) (before after : TrustDesk) → CallComes c line before after → 1 ≤ told_trusts before.work.work.actions → 1 ≤ told_trusts after.work.work.actions
call_tells c line before after (ForwardedOn is so) told = grows_told before.work.work.actions after.work.work.actions (_, so.actions) told
call_tells c line before after (AnsweredHere so) told = grows_told before.work.work.actions after.work.work.actions (_, so.actions) told

unit_tells : (h : Heard) (link : ℕ) (name : List ℕ) (now : ℕ) (d : TrustDesk) (left : List (List ℕ)) → 1 ≤ told_trusts d.work.work.actions → Tells (by_trust_heard h link name now d left)
unit_tells (heard.Close cause) link name now d left told =
    beside_tells d (by_heard (heard.Close cause) link name now (base_desk d) left) told
    (heard_comes (λ h part. UnlessJudged h (BaseAdds (base_desk d) part)) link name now (base_desk d) left (base_cases link name now (base_desk d) left) (heard.Close cause))
unit_tells (heard.Answer bytes talk) link name now d left told =
    beside_tells d (by_heard (heard.Answer bytes talk) link name now (base_desk d) left) told
    (heard_comes (λ h part. UnlessJudged h (BaseAdds (base_desk d) part)) link name now (base_desk d) left (base_cases link name now (base_desk d) left) (heard.Answer bytes talk))
unit_tells (heard.Waits talk) link name now d left told = told
unit_tells (heard.Asked line (call.Challenge c) talk) link name now d left told =
    beside_tells d (by_heard (heard.Asked line (call.Challenge c) talk) link name now (base_desk d) left) told
    (heard_comes (λ h part. UnlessJudged h (BaseAdds (base_desk d) part)) link name now (base_desk d) left (base_cases link name now (base_desk d) left)
    (heard.Asked line (call.Challenge c) talk))
unit_tells (heard.Asked line (call.Authenticate c) talk) link name now d left told =
    beside_tells d (by_heard (heard.Asked line (call.Authenticate c) talk) link name now (base_desk d) left) told
    (heard_comes (λ h part. UnlessJudged h (BaseAdds (base_desk d) part)) link name now (base_desk d) left (base_cases link name now (base_desk d) left)
    (heard.Asked line (call.Authenticate c) talk))
unit_tells (heard.Asked line (call.Judged c) talk) link name now d left told =
    call_tells c line d (answer_trust_call c name now line d) (call_comes c name now line d) told

units_tell : (name : List ℕ) (now link : ℕ) → StaysServing (trust_server name now link) Tells
units_tell name now link = record {
  spent = λ why. tt;
  unit = λ bytes d talk left told. unit_tells (hear link bytes talk) link name now d left told;
  refusal = λ why d talk left told. grows_told d.work.work.actions _ (action.Close link close.BadUnit ∷ [], refl) told;
}

-- ---- a unit

abbrev pub queues_of : List Requester → Queues
queues_of requesters = record { requesters = requesters; forwarded = [] }

abbrev pub beside_them : List Requester → Desk → TrustDesk
beside_them requesters d = with_queues (queues_of requesters) d

-- a call is served as where nobody is asked, or is told to be for a trusted domain
pub data ServesHere (requesters : List Requester) (part : ServedPart TrustDesk Talk) (alone : ServedPart Desk Talk) : Type 0 where
  Alone : part ≡ beside (queues_of requesters) alone → ServesHere requesters part alone
  ForTrust : Tells part → ServesHere requesters part alone

goes_here : (requesters : List Requester) (c : JudgedCall) (line : Line) (talk : Talk) (name : List ℕ) (now : ℕ) (d : Desk) (left : List (List ℕ)) (after : TrustDesk) →
    CallGoes c name now line (beside_them requesters d) after →
    ServesHere requesters (goes_on_trusting after talk left) (goes_on (answer_judged c name now line d) talk left)
goes_here requesters c line talk name now d left after (GoesOn is so) =
    ForTrust (let many = ap told_trusts so.actions ∙ more_trusts d.work.actions (action.Judged judged.Forwarded ∷ []) in omega (arith, many))
goes_here requesters c line talk name now d left after (IsLeft goes so) =
    ForTrust (let many = ap told_trusts so.actions ∙ more_trusts d.work.actions _ in omega (arith, many))
goes_here requesters c line talk name now d left after (StaysHere not is) = Alone (ap (λ (done : TrustDesk). goes_on_trusting done talk left) is)

call_here : (requesters : List Requester) (c : ControllerCall) (line : Line) (talk : Talk) (name : List ℕ) (now : ℕ) (d : Desk) (left : List (List ℕ)) →
    ServesHere requesters (by_trust_call c line talk name now (beside_them requesters d) left) (by_call c line talk name now d left)
call_here requesters (call.Challenge c) line talk name now d left = Alone refl
call_here requesters (call.Authenticate c) line talk name now d left = Alone refl
call_here requesters (call.Judged c) line talk name now d left =
    goes_here requesters c line talk name now d left (answer_trust_call c name now line (beside_them requesters d)) (call_goes c name now line (beside_them requesters d))

pub heard_here : (requesters : List Requester) (what : Heard) (link : ℕ) (name : List ℕ) (now : ℕ) (d : Desk) (left : List (List ℕ)) →
    ServesHere requesters (by_trust_heard what link name now (beside_them requesters d) left) (by_heard what link name now d left)
heard_here requesters (heard.Close cause) link name now d left = Alone refl
heard_here requesters (heard.Answer bytes talk) link name now d left = Alone refl
heard_here requesters (heard.Waits talk) link name now d left = Alone refl
heard_here requesters (heard.Asked line c talk) link name now d left = call_here requesters c line talk name now d left

-- ---- the units of a stream

module _ (requesters : List Requester) (name : List ℕ) (now link : ℕ) where
  abbrev Served : List (List ℕ) → Option UnitRefused → Type 0
  Served units why = (d : Desk) (talk : Talk) (left : List (List ℕ)) →
      ServesHere requesters (served_by (trust_server name now link) units why (beside_them requesters d) talk left)
      (served_by (controller_server name now link) units why d talk left)

  talked : (d : Desk) (talk : Option Talk) (left : List (List ℕ)) (units : List (List ℕ)) (why : Option UnitRefused) → Served units why →
      ServesHere requesters
      (then_talk (beside_them requesters d) talk left (λ later said rest. served_by (trust_server name now link) units why later said rest))
      (then_talk d talk left (λ later said rest. served_by (controller_server name now link) units why later said rest))
  talked d None left units why served = Alone refl
  talked d (Some talk) left units why served = served d talk left

  opened : (part : ServedPart Desk Talk) (units : List (List ℕ)) (why : Option UnitRefused) → Served units why →
      ServesHere requesters
      (then_open (beside (queues_of requesters) part) (λ later said rest. served_by (trust_server name now link) units why later said rest))
      (then_open part (λ later said rest. served_by (controller_server name now link) units why later said rest))
  opened (Err why) units refused served = Alone refl
  opened (Ok part) units refused served = talked part.value.0 part.value.1 part.left units refused served

  talk_tells : (d : TrustDesk) (talk : Option Talk) (left : List (List ℕ)) (units : List (List ℕ)) (why : Option UnitRefused) → 1 ≤ told_trusts d.work.work.actions →
      Tells (then_talk d talk left (λ later said rest. served_by (trust_server name now link) units why later said rest))
  talk_tells d None left units why told = told
  talk_tells d (Some talk) left units why told =
      served_stays (trust_server name now link) Tells (units_tell name now link) (record { units = units; rest = []; refused = why }) d talk left told

  pub open_tells : (part : ServedPart TrustDesk Talk) (units : List (List ℕ)) (why : Option UnitRefused) → Tells part →
      Tells (then_open part (λ later said rest. served_by (trust_server name now link) units why later said rest))
  open_tells (Err why) units refused told = tt
  open_tells (Ok part) units refused told = talk_tells part.value.0 part.value.1 part.left units refused told

  unit_then : (part : ServedPart TrustDesk Talk) (alone : ServedPart Desk Talk) (units : List (List ℕ)) (why : Option UnitRefused) → Served units why → ServesHere requesters part alone →
      ServesHere requesters
      (then_open part (λ later said rest. served_by (trust_server name now link) units why later said rest))
      (then_open alone (λ later said rest. served_by (controller_server name now link) units why later said rest))
  unit_then part alone units why served (ForTrust told) = ForTrust (open_tells part units why told)
  unit_then part alone units why served (Alone is) =
      subst (λ (p : ServedPart TrustDesk Talk). ServesHere requesters
      (then_open p (λ later said rest. served_by (trust_server name now link) units why later said rest))
      (then_open alone (λ later said rest. served_by (controller_server name now link) units why later said rest)))
      (sym is) (opened alone units why served)

  served_here : (units : List (List ℕ)) (why : Option UnitRefused) → Served units why
  served_here [] None d talk left = Alone refl
  served_here [] (Some why) d talk left = Alone refl
  served_here (bytes ∷ units) why d talk left =
      unit_then (by_trust_heard (hear link bytes talk) link name now (beside_them requesters d) left) (by_heard (hear link bytes talk) link name now d left) units why
      (served_here units why) (heard_here requesters (hear link bytes talk) link name now d left)

-- ---- an event

module _ (requesters : List Requester) (turn : ℕ) where
  abbrev pub parts_here : Work → LinkMap → Parts
  parts_here work links = record {
    work = record { work = work; queues = queues_of requesters };
    links = links;
    turn_of = turn;
    dialling = dialling.Nothing;
  }

  abbrev lifted : Desk × LinkMap → TrustParts
  lifted after = record { table = after.0.table; parts = parts_here after.0.work after.1 }

  abbrev lift : StepPart → TrustPart
  lift (Err why) = Err why
  lift (Ok part) = Ok (record { value = lifted part.value; left = part.left })

  abbrev pub PartTells : TrustPart → Type 0
  PartTells (Err why) = Unit {0}
  PartTells (Ok part) = 1 ≤ told_trusts part.value.parts.work.work.actions

  data ActsHere (part : TrustPart) (alone : StepPart) : Type 0 where
    ActsAlone : part ≡ lift alone → ActsHere part alone
    ActsForTrust : PartTells part → ActsHere part alone

  put_here : (talk : Option Talk) (rest : List ℕ) (number : ℕ) (others : LinkMap) (d : Desk) →
      trust_step.put_open (trust_step.link_with rest talk) number (parts_here d.work others)
      ≡ parts_here d.work (step.keep_link talk rest number others)
  put_here None rest number others d = refl
  put_here (Some talk) rest number others d = refl

  units_alone : (part : ServedPart Desk Talk) (rest : List ℕ) (number : ℕ) (others links : LinkMap) (work : Work) →
      after_units (beside (queues_of requesters) part) rest number others (parts_here work links) ≡ lift (step.after_units part rest number others)
  units_alone (Err why) rest number others links work = refl
  units_alone (Ok part) rest number others links work =
      ap (λ (parts : Parts). trust_part part.value.0.table parts part.left) (put_here part.value.1 rest number others part.value.0)

  put_told : (open_link : Option (LinkState Talk)) (number : ℕ) (parts : Parts) → 1 ≤ told_trusts parts.work.work.actions →
      1 ≤ told_trusts (trust_step.put_open open_link number parts).work.work.actions
  put_told None number parts told = told
  put_told (Some link) number parts told = told

  pub units_told : (part : ServedPart TrustDesk Talk) (rest : List ℕ) (number : ℕ) (others : LinkMap) (parts : Parts) → Tells part → PartTells (after_units part rest number others parts)
  units_told (Err why) rest number others parts told = tt
  units_told (Ok part) rest number others parts told =
      put_told (trust_step.link_with rest part.value.1) number (record parts { work = part.value.0.work; links = others }) told

  units_here : (part : ServedPart TrustDesk Talk) (alone : ServedPart Desk Talk) (rest : List ℕ) (number : ℕ) (others links : LinkMap) (work : Work) → ServesHere requesters part alone →
      ActsHere (after_units part rest number others (parts_here work links)) (step.after_units alone rest number others)
  units_here part alone rest number others links work (Alone is) =
      ActsAlone (ap (λ (p : ServedPart TrustDesk Talk). after_units p rest number others (parts_here work links)) is ∙ units_alone alone rest number others links work)
  units_here part alone rest number others links work (ForTrust told) = ActsForTrust (units_told part rest number others (parts_here work links) told)

  on_here : (found : Option (LinkState Talk)) (number : ℕ) (piece name : List ℕ) (now : ℕ) (others links : LinkMap) (d : Desk) (left : List (List ℕ)) →
      ActsHere (trust_step.serve_on found number piece name now others d.table (parts_here d.work links) left)
      (step.serve_on found number piece name now d others left)
  on_here None number piece name now others links d left = ActsAlone refl
  on_here (Some link) number piece name now others links d left =
      let cut = cut_stream (link.rest ++ piece) in
      units_here (served_by (trust_server name now number) cut.units cut.refused (beside_them requesters d) link.talk left)
      (served_by (controller_server name now number) cut.units cut.refused d link.talk left) cut.rest number others links d.work
      (served_here requesters name now number cut.units cut.refused d link.talk left)

  open_here : (full : Bool) (number : ℕ) (links : LinkMap) (d : Desk) (left : List (List ℕ)) →
      trust_part d.table (trust_step.open_by full number (parts_here d.work links)) left
      ≡ lift (step.with_open (step.open_by full number d.work links) d.table left)
  open_here true number links d left = refl
  open_here false number links d left = refl

  event_here : (what : Event) (name : List ℕ) (now : ℕ) (d : Desk) (links : LinkMap) (left : List (List ℕ)) →
      ActsHere (by_trust_event what name now d.table (parts_here d.work links) left) (by_event what name now d links left)
  event_here (event.Opened number) name now d links left =
      ActsAlone (open_here (nat_le 256 (length (take_out same_number number links))) number (take_out same_number number links) d left)
  event_here (event.Bytes number piece) name now d links left =
      on_here (lookup same_number number links) number piece name now (take_out same_number number links) links d left
  event_here (event.Closed number) name now d links left = ActsAlone refl
  event_here (event.Dialled number) name now d links left = ActsAlone refl
  event_here event.DialFailed name now d links left = ActsAlone refl
  event_here event.Stop name now d links left = ActsAlone refl

  -- ---- the next turn: nobody waits

  turn_alone : (part : StepPart) (trusts : List Trust) (now : ℕ) → first_waiting requesters ≡ None →
      then_part (lift part)
      (λ after rest. then_part (next_turn trusts now after.parts rest) (λ later last. trust_part after.table later last))
      ≡ lift (then_part part (λ after rest. start_turn after rest))
  turn_alone (Err why) trusts now none = refl
  turn_alone (Ok part) trusts now none =
      ap (λ (who : Option ℕ). then_part (start_at who trusts now (parts_here part.value.0.work part.value.1) part.left)
      (λ later last. trust_part part.value.0.table later last)) none

-- ---- a turn starts for a logon that was asked

abbrev NextTells : Result (Part Parts) StepRefused → Type 0
NextTells (Err why) = Unit {0}
NextTells (Ok part) = 1 ≤ told_trusts part.value.work.work.actions

begun_told : (next : Result (Part NextTurn) StepRefused) (peer : List ℕ) (channel : Requester) (trust : ℕ) (parts : Parts) → 1 ≤ told_trusts parts.work.work.actions →
    NextTells (then_part (then_part next (dial_part peer (turning_of channel parts))) (λ turning rest. next_part (after_turned trust (turning, None) parts) rest))
begun_told (Err why) peer channel trust parts told = tt
begun_told (Ok part) peer channel trust parts told =
    let turning : Turning = record (turning_of channel parts) { channel = part.value.0 } in
    let goes = dials_go part.value.1 peer turning in
    grows_told parts.work.work.actions (dial_for part.value.1 peer turning).actions (goes.0, goes.1) told

start_told : (found : Option Requester) (entry : Option Trust) (trust now : ℕ) (parts : Parts) (left : List (List ℕ)) → 1 ≤ told_trusts parts.work.work.actions →
    NextTells (start_on found entry trust now parts left)
start_told None entry trust now parts left told = told
start_told (Some channel) None trust now parts left told = told
start_told (Some channel) (Some entry) trust now parts left told = begun_told (channel_turn now channel left) entry.address channel trust parts told

at_told : (who : Option ℕ) (trusts : List Trust) (now : ℕ) (parts : Parts) (left : List (List ℕ)) → 1 ≤ told_trusts parts.work.work.actions → NextTells (start_at who trusts now parts left)
at_told None trusts now parts left told = told
at_told (Some trust) trusts now parts left told = start_told _ _ trust now parts left told

next_told : (idle : Bool) (trusts : List Trust) (now : ℕ) (parts : Parts) (left : List (List ℕ)) → 1 ≤ told_trusts parts.work.work.actions → NextTells (next_if idle trusts now parts left)
next_told false trusts now parts left told = told
next_told true trusts now parts left told = at_told (first_waiting parts.work.queues.requesters) trusts now parts left told

with_table : (part : Result (Part Parts) StepRefused) (requesters : List Requester) (turn : ℕ) (table : AccountTable) → NextTells part →
    PartTells requesters turn (then_part part (λ later last. trust_part table later last))
with_table (Err why) requesters turn table told = tt
with_table (Ok part) requesters turn table told = told

pub turn_told : (part : TrustPart) (requesters : List Requester) (turn : ℕ) (trusts : List Trust) (now : ℕ) → PartTells requesters turn part →
    PartTells requesters turn (then_part part (λ after rest. then_part (next_turn trusts now after.parts rest) (λ later last. trust_part after.table later last)))
turn_told (Err why) requesters turn trusts now told = tt
turn_told (Ok part) requesters turn trusts now told =
    with_table (next_turn trusts now part.value.parts part.left) requesters turn part.value.table (next_told (is_idle part.value.parts.dialling) trusts now part.value.parts part.left told)

-- ---- nobody waits, so no turn starts

never_starts : (turn : Option Pending) (waiting : List Waiting) → waiting ≡ [] → can_start turn waiting ≡ false
never_starts None [] none = refl
never_starts None (logon ∷ logons) none = absurd (let x = none in cc)
never_starts (Some pending) waiting none = refl

abbrev first_by : Bool → Option ℕ → Option ℕ
first_by hit later = if hit then Some 0 else option_map suc later

nobody_starts : (requesters : List Requester) → NobodyWaits requesters → first_waiting requesters ≡ None
nobody_starts [] none = refl
nobody_starts (s ∷ requesters) none =
    ap (λ (hit : Bool). first_by hit (first_waiting requesters)) (never_starts s.turn s.waiting none.0)
    ∙ ap (λ (later : Option ℕ). first_by false later) (nobody_starts requesters none.1)

-- ---- a step

abbrev pub quiet : List Requester → ℕ → Trusting
quiet requesters turn = record { queues = queues_of requesters; turn_of = turn; dialling = dialling.Nothing; sealing = None }

pub is_quiet : (t : Trusting) → NoneIsAsked t → t ≡ quiet t.queues.requesters t.turn_of
is_quiet t none =
    ap (λ (calls : _). record { queues = record { requesters = t.queues.requesters; forwarded = calls }; turn_of = t.turn_of; dialling = t.dialling; sealing = t.sealing }) none.none
    ∙ ap (λ (how : Dialling). record { queues = queues_of t.queues.requesters; turn_of = t.turn_of; dialling = how; sealing = t.sealing }) none.idle
    ∙ ap (λ (kept : Option Sealing). record { queues = queues_of t.queues.requesters; turn_of = t.turn_of; dialling = dialling.Nothing; sealing = kept }) none.unsealing

abbrev stepped_by : State → List (List ℕ) → TrustPart → Stepped State
stepped_by s left part =
    step_by (λ (after : TrustParts). after.parts.work.work.actions) (λ after. trust_state_after s after) (trust_halted s) left part

abbrev stepped_alone : State → List (List ℕ) → StepPart → Stepped State
stepped_alone s left part =
    step_by (λ (after : Desk × LinkMap). after.0.work.actions) (λ after. state_after s after) (halted s) left part

abbrev Comes : State → List (List ℕ) → Stepped State → Stepped State → Type 0
Comes s left stepped alone = (stepped ≡ alone) ⊎ ((1 ≤ told_trusts (actions_of stepped)) ⊎ (stepped ≡ spent_step left (trust_halted s)))

taken_alone : (part : StepPart) (s : State) (left : List (List ℕ)) (requesters : List Requester) (turn : ℕ) → s.trusting ≡ quiet requesters turn →
    Comes s left (stepped_by s left (lift requesters turn part)) (stepped_alone s left part)
taken_alone (Err why) s left requesters turn is = inr (inr refl)
taken_alone (Ok part) s left requesters turn is = inl (ap (λ t. whole_step left part.left part.value.0.work.actions (record s {
  table = part.value.0.table;
  running = Some (record { computers = part.value.0.work.computers; links = part.value.1 });
  trusting = t;
})) (sym is))

taken_told : (part : TrustPart) (s : State) (left : List (List ℕ)) (requesters : List Requester) (turn : ℕ) (alone : Stepped State) → PartTells requesters turn part →
    Comes s left (stepped_by s left part) alone
taken_told (Err why) s left requesters turn alone told = inr (inr refl)
taken_told (Ok part) s left requesters turn alone told = inr (inl told)

abbrev turn_then : List Trust → ℕ → TrustPart → TrustPart
turn_then trusts now part =
    then_part part (λ after rest. then_part (next_turn trusts now after.parts rest) (λ later last. trust_part after.table later last))

taken_here : (part : TrustPart) (alone : StepPart) (s : State) (left : List (List ℕ)) (requesters : List Requester) (turn : ℕ) (trusts : List Trust) (now : ℕ) →
    s.trusting ≡ quiet requesters turn → NobodyWaits requesters → ActsHere requesters turn part alone →
    Comes s left (stepped_by s left (turn_then trusts now part)) (stepped_alone s left (then_part alone (λ after rest. start_turn after rest)))
taken_here part alone s left requesters turn trusts now is nobody (ActsForTrust told) =
    taken_told (turn_then trusts now part) s left requesters turn _ (turn_told part requesters turn trusts now told)
taken_here part alone s left requesters turn trusts now is nobody (ActsAlone same) =
    let after : StepPart = then_part alone (λ after rest. start_turn after rest) in
    subst (λ (p : TrustPart). Comes s left (stepped_by s left p) (stepped_alone s left after))
    (sym (ap (turn_then trusts now) same ∙ turn_alone requesters turn alone trusts now (nobody_starts requesters nobody)))
    (taken_alone after s left requesters turn is)

step_here : (running : Option Running) (s : State) (what : Event) (now : ℕ) (left : List (List ℕ)) (requesters : List Requester) (turn : ℕ) →
    s.trusting ≡ quiet requesters turn → NobodyWaits requesters → Comes s left (trust_step_on running s what now left) (step_on running s what now left)
step_here None s what now left requesters turn is nobody = inl refl
step_here (Some running) s what now left requesters turn is nobody =
    subst (λ (t : Trusting). Comes s left (stepped_by s left (event_and_turn s.table.trusts what s.name now s.table (parts_of running t) left))
    (stepped_alone s left (step.step_part running s what now left))) (sym is)
    (taken_here (by_trust_event what s.name now s.table (parts_here requesters turn (first_desk s.table running).work running.links) left)
    (by_event what s.name now (first_desk s.table running) running.links left) s left requesters turn s.table.trusts now is nobody
    (event_here requesters turn what s.name now (first_desk s.table running) running.links left))

part_stays : (part : StepPart) (s : State) (left : List (List ℕ)) → (stepped_alone s left part).state.trusting ≡ s.trusting
part_stays (Err why) s left = refl
part_stays (Ok part) s left = refl

stays_on : (running : Option Running) (s : State) (what : Event) (now : ℕ) (left : List (List ℕ)) → (step_on running s what now left).state.trusting ≡ s.trusting
stays_on None s what now left = refl
stays_on (Some running) s what now left = part_stays (step.step_part running s what now left) s left

pub answers_here : AnswersHere
answers_here = record {
  first = λ table name. record { nobody = (stays_in_order.first table name).busy refl; none = refl; idle = refl; unsealing = refl };
  step = λ s what now left none.
      step_here s.running s what now left s.trusting.queues.requesters s.trusting.turn_of (is_quiet s.trusting none) none.nobody;
  stays = λ s what now left. stays_on s.running s what now left;
}
