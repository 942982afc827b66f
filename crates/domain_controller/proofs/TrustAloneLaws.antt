-- A controller that can ask nobody steps as one that trusts no domain. It serves `what_asks_nobody_steps_alone`.
use Rattle.std.proofs.Common.{◌≡◌, ◌++◌, ℕ, Bool, true, false, nat_le, List, [], ◌∷◌, length, map, Option, Some, None, Ok, Err, refl, sym, ap, ◌∙◌}
use Rattle.wire_base.specs.Maps.{lookup, same_number, take_out}
use Rattle.account_table.specs.AccountTable.{AccountTable}
use Rattle.account_table.specs.declared.account.Trust.{Trust}
use Rattle.outside.specs.declared.event.Event.{Event}
use Rattle.outside.specs.declared.event.Event.TheVariants as event
use Rattle.outside.specs.Machine.{Stepped, spent_step, step_by, then_part, whole_step}
use Rattle.rpc_units.specs.declared.refused.UnitRefused.{UnitRefused}
use Rattle.rpc_units.specs.Stream.{cut_stream}
use Rattle.channel_client.specs.Machine.{fresh_requester}
use Rattle.channel_turns.specs.declared.state.Dialling.TheVariants as dialling
use Rattle.end_links.specs.Links.{LinkState}
use Rattle.end_links.specs.Serving.{ServedPart, served_by, then_open, then_talk}
use Rattle.controller_calls.proofs.HandingLaws.{judges_here}
use Rattle.controller_calls.specs.Desk.{Desk}
use Rattle.controller_calls.specs.Handing.{Handing}
use Rattle.controller_calls.specs.declared.calls.ControllerCall.{ControllerCall}
use Rattle.controller_calls.specs.declared.calls.ControllerCall.TheVariants as call
use Rattle.controller_calls.specs.declared.line.Line.{Line}
use Rattle.controller_calls.specs.declared.state.Work.{Work}
use Rattle.domain_controller.specs.Forwarding.{TrustDesk, after_handing, beside, by_trust_call, by_trust_heard, goes_on_trusting, trust_server, with_queues}
use Rattle.domain_controller.specs.Hearing.{hear}
use Rattle.domain_controller.specs.Machine.{by_call, by_heard, controller_server}
use Rattle.domain_controller.specs.State.{State}
use Rattle.domain_controller.specs.Step as step
use Rattle.domain_controller.specs.Step.{LinkMap, StepPart, by_event, first_desk, first_state, halted, start_turn, state_after, step_of, step_on}
use Rattle.domain_controller.specs.TrustLaws.{StepsAlone}
use Rattle.domain_controller.specs.TrustStep as trust_step
use Rattle.domain_controller.specs.TrustStep.{TrustPart, TrustParts, after_units, by_trust_event, event_and_turn, first_trust_state, next_turn, parts_of, trust_halted, trust_part, trust_state_after, trust_step_of, trust_step_on}
use Rattle.domain_controller.specs.Trusting.{no_queues, no_trusting, trust_caller}
use Rattle.domain_controller.specs.declared.hearing.Heard.{Heard}
use Rattle.domain_controller.specs.declared.hearing.Heard.TheVariants as heard
use Rattle.domain_controller.specs.declared.state.Running.{Running}
use Rattle.domain_controller.specs.declared.state.Talk.{Talk}
use Rattle.domain_controller.specs.declared.trusting.Parts.{Parts}

-- ---- a unit

abbrev pub alone : Desk → TrustDesk
alone d = with_queues no_queues d

call_alone : (c : ControllerCall) (line : Line) (talk : Talk) (name : List ℕ) (now : ℕ) (d : Desk) (left : List (List ℕ)) →
    by_trust_call c line talk name now (alone d) left ≡ beside no_queues (by_call c line talk name now d left)
call_alone (call.Challenge c) line talk name now d left = refl
call_alone (call.Authenticate c) line talk name now d left = refl
call_alone (call.Judged c) line talk name now d left =
    ap (λ (handing : Handing). goes_on_trusting (after_handing handing line no_queues) talk left) (judges_here.alone c name now line d)

pub heard_alone : (what : Heard) (link : ℕ) (name : List ℕ) (now : ℕ) (d : Desk) (left : List (List ℕ)) →
    by_trust_heard what link name now (alone d) left ≡ beside no_queues (by_heard what link name now d left)
heard_alone (heard.Close cause) link name now d left = refl
heard_alone (heard.Answer bytes talk) link name now d left = refl
heard_alone (heard.Waits talk) link name now d left = refl
heard_alone (heard.Asked line c talk) link name now d left = call_alone c line talk name now d left

-- ---- the units of a stream

module _ (name : List ℕ) (now link : ℕ) where
  abbrev Served : List (List ℕ) → Option UnitRefused → Type 0
  Served units why = (d : Desk) (talk : Talk) (left : List (List ℕ)) →
      served_by (trust_server name now link) units why (alone d) talk left
      ≡ beside no_queues (served_by (controller_server name now link) units why d talk left)

  talked : (d : Desk) (talk : Option Talk) (left : List (List ℕ)) (units : List (List ℕ)) (why : Option UnitRefused) → Served units why →
      then_talk (alone d) talk left (λ later said rest. served_by (trust_server name now link) units why later said rest)
      ≡ beside no_queues (then_talk d talk left (λ later said rest. served_by (controller_server name now link) units why later said rest))
  talked d None left units why served = refl
  talked d (Some talk) left units why served = served d talk left

  opened : (part : ServedPart Desk Talk) (units : List (List ℕ)) (why : Option UnitRefused) → Served units why →
      then_open (beside no_queues part) (λ later said rest. served_by (trust_server name now link) units why later said rest)
      ≡ beside no_queues (then_open part (λ later said rest. served_by (controller_server name now link) units why later said rest))
  opened (Err why) units refused served = refl
  opened (Ok part) units refused served = talked part.value.0 part.value.1 part.left units refused served

  served_alone : (units : List (List ℕ)) (why : Option UnitRefused) → Served units why
  served_alone [] None d talk left = refl
  served_alone [] (Some why) d talk left = refl
  served_alone (bytes ∷ units) why d talk left =
      ap (λ part. then_open part (λ later said rest. served_by (trust_server name now link) units why later said rest))
      (heard_alone (hear link bytes talk) link name now d left)
      ∙ opened (by_heard (hear link bytes talk) link name now d left) units why (served_alone units why)

-- ---- an event

abbrev pub parts_alone : Work → LinkMap → Parts
parts_alone work links = record {
  work = record { work = work; queues = no_queues };
  links = links;
  turn_of = 0;
  dialling = dialling.Nothing;
}

abbrev pub lifted : Desk × LinkMap → TrustParts
lifted after = record { table = after.0.table; parts = parts_alone after.0.work after.1 }

abbrev pub lift : StepPart → TrustPart
lift (Err why) = Err why
lift (Ok part) = Ok (record { value = lifted part.value; left = part.left })

put_alone : (talk : Option Talk) (rest : List ℕ) (number : ℕ) (others : LinkMap) (d : Desk) →
    trust_step.put_open (trust_step.link_with rest talk) number (parts_alone d.work others)
    ≡ parts_alone d.work (step.keep_link talk rest number others)
put_alone None rest number others d = refl
put_alone (Some talk) rest number others d = refl

units_alone : (part : ServedPart Desk Talk) (rest : List ℕ) (number : ℕ) (others links : LinkMap) (work : Work) →
    after_units (beside no_queues part) rest number others (parts_alone work links) ≡ lift (step.after_units part rest number others)
units_alone (Err why) rest number others links work = refl
units_alone (Ok part) rest number others links work =
    ap (λ (parts : Parts). trust_part part.value.0.table parts part.left) (put_alone part.value.1 rest number others part.value.0)

on_alone : (found : Option (LinkState Talk)) (number : ℕ) (piece name : List ℕ) (now : ℕ) (others links : LinkMap) (d : Desk) (left : List (List ℕ)) →
    trust_step.serve_on found number piece name now others d.table (parts_alone d.work links) left
    ≡ lift (step.serve_on found number piece name now d others left)
on_alone None number piece name now others links d left = refl
on_alone (Some link) number piece name now others links d left =
    let cut = cut_stream (link.rest ++ piece) in
    ap (λ part. after_units part cut.rest number others (parts_alone d.work links)) (served_alone name now number cut.units cut.refused d link.talk left)
    ∙ units_alone (served_by (controller_server name now number) cut.units cut.refused d link.talk left) cut.rest number others links d.work

open_alone : (full : Bool) (number : ℕ) (links : LinkMap) (d : Desk) (left : List (List ℕ)) →
    trust_part d.table (trust_step.open_by full number (parts_alone d.work links)) left
    ≡ lift (step.with_open (step.open_by full number d.work links) d.table left)
open_alone true number links d left = refl
open_alone false number links d left = refl

pub event_alone : (what : Event) (name : List ℕ) (now : ℕ) (d : Desk) (links : LinkMap) (left : List (List ℕ)) →
    by_trust_event what name now d.table (parts_alone d.work links) left ≡ lift (by_event what name now d links left)
event_alone (event.Opened number) name now d links left =
    open_alone (nat_le 256 (length (take_out same_number number links))) number (take_out same_number number links) d left
event_alone (event.Bytes number piece) name now d links left =
    on_alone (lookup same_number number links) number piece name now (take_out same_number number links) links d left
event_alone (event.Closed number) name now d links left = refl
event_alone (event.Dialled number) name now d links left = refl
event_alone event.DialFailed name now d links left = refl
event_alone event.Stop name now d links left = refl

-- ---- the next turn: nobody waits

turn_alone : (part : StepPart) (trusts : List Trust) (now : ℕ) →
    then_part (lift part)
    (λ after rest. then_part (next_turn trusts now after.parts rest) (λ later last. trust_part after.table later last))
    ≡ lift (then_part part (λ after rest. start_turn after rest))
turn_alone (Err why) trusts now = refl
turn_alone (Ok part) trusts now = refl

-- ---- a step

taken_alone : (part : StepPart) (s : State) (left : List (List ℕ)) → s.trusting ≡ no_trusting →
    step_by (λ (after : TrustParts). after.parts.work.work.actions) (λ after. trust_state_after s after) (trust_halted s) left (lift part)
    ≡ step_by (λ (after : Desk × LinkMap). after.0.work.actions) (λ after. state_after s after) (halted s) left part
taken_alone (Err why) s left is = ap (λ t. spent_step left (record s { running = None; trusting = t })) (sym is)
taken_alone (Ok part) s left is = ap (λ t. whole_step left part.left part.value.0.work.actions (record s {
  table = part.value.0.table;
  running = Some (record { computers = part.value.0.work.computers; links = part.value.1 });
  trusting = t;
})) (sym is)

part_alone : (s : State) (running : Running) (what : Event) (now : ℕ) (left : List (List ℕ)) → s.trusting ≡ no_trusting →
    event_and_turn s.table.trusts what s.name now s.table (parts_of running s.trusting) left ≡ lift (step.step_part running s what now left)
part_alone s running what now left is =
    ap (λ t. event_and_turn s.table.trusts what s.name now s.table (parts_of running t) left) is
    ∙ ap (λ part. then_part part (λ after rest. then_part (next_turn s.table.trusts now after.parts rest) (λ later last. trust_part after.table later last)))
    (event_alone what s.name now (first_desk s.table running) running.links left)
    ∙ turn_alone (by_event what s.name now (first_desk s.table running) running.links left) s.table.trusts now

step_alone : (running : Option Running) (s : State) (what : Event) (now : ℕ) (left : List (List ℕ)) → s.trusting ≡ no_trusting →
    trust_step_on running s what now left ≡ step_on running s what now left
step_alone None s what now left is = refl
step_alone (Some running) s what now left is =
    ap (λ part. step_by (λ (after : TrustParts). after.parts.work.work.actions) (λ after. trust_state_after s after) (trust_halted s) left part)
    (part_alone s running what now left is)
    ∙ taken_alone (step.step_part running s what now left) s left is

state_stays : (part : StepPart) (s : State) (left : List (List ℕ)) → s.trusting ≡ no_trusting →
    (step_by (λ (after : Desk × LinkMap). after.0.work.actions) (λ after. state_after s after) (halted s) left part).state.trusting ≡ no_trusting
state_stays (Err why) s left is = is
state_stays (Ok part) s left is = is

stays_on : (running : Option Running) (s : State) (what : Event) (now : ℕ) (left : List (List ℕ)) → s.trusting ≡ no_trusting →
    (step_on running s what now left).state.trusting ≡ no_trusting
stays_on None s what now left is = is
stays_on (Some running) s what now left is = state_stays (step.step_part running s what now left) s left is

-- a table without trusted domains
none_there : (table : AccountTable) (name : List ℕ) (trusts : List Trust) → trusts ≡ [] →
    map (λ (trust : Trust). fresh_requester (trust_caller table name trust)) trusts ≡ []
none_there table name [] is = refl
none_there table name (trust ∷ trusts) is = absurd cc

pub steps_alone : StepsAlone
steps_alone = record {
  step = λ s what now left is. step_alone s.running s what now left is;
  stays = λ s what now left is.
      ap (λ (stepped : Stepped State). stepped.state.trusting) (step_alone s.running s what now left is) ∙ stays_on s.running s what now left is;
  halts = λ s is. ap (λ t. record s { running = None; trusting = t }) (sym is);
  first = λ table name. refl;
  without_trusts = λ table name none. ap (λ requesters. record (first_state table name) {
    trusting = record { queues = record { requesters = requesters; forwarded = [] }; turn_of = 0; dialling = dialling.Nothing; sealing = None };
  }) (none_there table name table.trusts none);
}
