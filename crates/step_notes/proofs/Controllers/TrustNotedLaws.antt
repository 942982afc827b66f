-- What holds of a step of a controller that may hand logons on, as bytes come, beside what is written down of it:
-- whatever holds through each thing that a unit comes to. It is an instance of `served_mapped`, as `NotedLaws` is for
-- one that asks nobody. It serves the claims on credentials, replays, grants and tables, which are of every run.
use Rattle.std.proofs.Common.{◌≡◌, ◌++◌, ℕ, Bool, true, false, List, [], ◌∷◌, map, Option, Some, None, Result, Ok, Err, slice_get, refl, sym, ap, subst, ◌∙◌}
use Rattle.std.specs.List.{AllByRecursion}
use Rattle.std.proofs.lemmas.List.{append-nil}
use Rattle.wire_base.specs.Maps.{lookup, same_number, take_out}
use Rattle.outside.specs.Drawing.{IsRest}
use Rattle.outside.specs.Machine.{Part, Stepped, left_by, spent_step, step_by, stopped_step, then_part, whole_step}
use Rattle.outside.specs.declared.action.Action.{Action}
use Rattle.outside.specs.declared.action.Action.TheVariants as action
use Rattle.outside.specs.declared.action.CloseCause.{CloseCause}
use Rattle.outside.specs.declared.action.StepRefused.{StepRefused}
use Rattle.outside.specs.declared.event.Event.TheVariants as event
use Rattle.account_table.specs.declared.account.Trust.{Trust}
use Rattle.rpc_units.specs.Stream.{Cut, cut_stream}
use Rattle.logon_stubs.specs.declared.calls.AuthCall.{AuthCall}
use Rattle.logon_stubs.specs.declared.calls.ChallengeCall.{ChallengeCall}
use Rattle.end_links.specs.Links.{LinkState}
use Rattle.end_links.specs.Serving.{ServedPart, ServedUnit, served_cut}
use Rattle.channel_client.specs.State.{Requester}
use Rattle.channel_turns.specs.Dials.{NextTurn, next_turn as channel_turn}
use Rattle.channel_turns.specs.Turning.{dial_for, dial_part, is_on, link_hears}
use Rattle.channel_turns.specs.declared.state.Turning.{Turning}
use Rattle.controller_calls.specs.declared.calls.ControllerCall.TheVariants as call
use Rattle.controller_calls.specs.declared.calls.JudgedCall.{JudgedCall}
use Rattle.controller_calls.specs.declared.line.Line.{Line}
use Rattle.controller_calls.specs.declared.state.Computers.{Computers}
use Rattle.controller_calls.specs.declared.state.Work.{Work}
use Rattle.domain_controller.specs.Forwarding.{TrustDesk, answer_trust_call, base_desk, beside, by_trust_heard, trust_server, with_queues}
use Rattle.domain_controller.specs.Hearing.{hear}
use Rattle.domain_controller.specs.Machine.{answer_authenticate, answer_challenge, desk, draw_challenge, tell}
use Rattle.domain_controller.specs.State.{State as ControllerState}
use Rattle.domain_controller.specs.Step.{LinkMap}
use Rattle.domain_controller.specs.TrustActions.{dial_of}
use Rattle.domain_controller.specs.TrustStep.{TrustPart, TrustParts, after_turned, after_units, first_waiting, is_idle, link_with, next_if, next_part, next_turn, on_turn, parts_of, put_open, serve_bytes, serve_on, start_at, start_on, trust_halted, trust_part, trust_state_after, trust_step_of, trust_step_on, trusting_after, turning_of}
use Rattle.domain_controller.specs.declared.hearing.Heard.{Heard}
use Rattle.domain_controller.specs.declared.hearing.Heard.TheVariants as heard
use Rattle.domain_controller.specs.declared.state.Running.{Running}
use Rattle.domain_controller.specs.declared.state.Talk.{Talk}
use Rattle.domain_controller.specs.declared.trusting.Parts.{Parts}
use Rattle.domain_controller.specs.declared.trusting.Trusting.{Trusting}
use Rattle.domain_controller.proofs.TrustStepLaws.{turn_rest}
use Rattle.domain_controller.proofs.TrustWalkLaws.{Acts, AddsTo, IsOfTurn, adds_both, adds_none, adds_one, hears_go, turn_acts}
use Rattle.step_notes.specs.ControllerNotes.{Answered, Where, judging_of, opened_by, opening, plain, silent}
use Rattle.step_notes.specs.Served.{units_if_taken, work_after}
use Rattle.step_notes.specs.TrustNotes.{base_after, first_trust_desk, trust_answer_on, trust_answers_of, trust_heard_answer, trust_judged_answer, trust_units_at, trust_units_by, units_beside_turn}
use Rattle.step_notes.proofs.Controllers.NotedLaws.{IsOn, heard_on}
use Rattle.step_notes.proofs.ServedLaws.{StaysNoted, served_mapped}

-- ---- what is to hold

-- of what is written down of the units so far, the controller at work, and the challenges that are left
abbrev pub TrustNotedFact : Type 1
TrustNotedFact = List Answered → TrustDesk → List (List ℕ) → Type 0

-- What a unit comes to: the link is closed, also by a rest that is refused; one unit is sent, or none; or a call is
-- answered on its link, or handed on.
pub record TrustStaysThrough (w : Where) (link : ℕ) (name : List ℕ) (now : ℕ) (Holds : TrustNotedFact) : Type 0 where
  pub closes : (answers : List Answered) (d : TrustDesk) (left : List (List ℕ)) (cause : CloseCause) → Holds answers d left →
      Holds answers (with_queues d.work.queues (desk d.table (tell d.work.work (action.Close link cause)))) left
  pub waits : (answers : List Answered) (d : TrustDesk) (left : List (List ℕ)) → Holds answers d left → Holds (answers ++ silent ∷ []) d left
  pub sends : (answers : List Answered) (d : TrustDesk) (left : List (List ℕ)) (bytes : List ℕ) → Holds answers d left →
      Holds (answers ++ plain ∷ []) (with_queues d.work.queues (desk d.table (tell d.work.work (action.Send link bytes)))) left
  pub challenge : (answers : List Answered) (d : TrustDesk) (left : List (List ℕ)) (line : Line) (c : ChallengeCall) (server : List ℕ) → line.link ≡ link →
      Holds answers d (server ∷ left) →
      Holds (answers ++ plain ∷ []) (with_queues d.work.queues (desk d.table (answer_challenge d.table line c server d.work.work))) left
  pub authenticate : (answers : List Answered) (d : TrustDesk) (left : List (List ℕ)) (line : Line) (c : AuthCall) → line.link ≡ link → Holds answers d left →
      Holds (answers ++ opening (opened_by w.controller c (base_desk d)) w line.call c.channel ∷ [])
      (with_queues d.work.queues (desk d.table (answer_authenticate d.table line c d.work.work))) left
  pub judged : (answers : List Answered) (d : TrustDesk) (left : List (List ℕ)) (line : Line) (c : JudgedCall) → line.link ≡ link → Holds answers d left →
      let after : TrustDesk = answer_trust_call c name now line d in
      Holds (answers ++ trust_judged_answer (judging_of w line c (base_desk d) (Some (base_desk after))) ∷ []) after left

-- What is said of a step by what holds of a controller that runs so: where it had stopped, where the challenges weren't
-- enough, where bytes come on the link of the turn, of which no call is told, and where units are served. Behind them a
-- turn may start, which dials, draws and moves what is kept of those that are asked.
pub record SaysOfTrustStep (w : Where) (link : ℕ) (c : ControllerState) (now : ℕ) (left : List (List ℕ)) (Holds : Running → TrustNotedFact)
    (Says : List Answered → Stepped ControllerState → Type 0) : Type 0 where
  pub stays : (running : Running) → TrustStaysThrough w link c.name now (Holds running)
  pub first : (running : Running) → c.running ≡ Some running → Holds running [] (first_trust_desk c running) left
  pub stopped : c.running ≡ None → Says [] (stopped_step left c)
  pub spent : Says [] (spent_step left (trust_halted c))
  pub turn : (running : Running) (actions : List Action) (last : List (List ℕ)) (links : LinkMap) (t : Trusting) → c.running ≡ Some running → is_on link c.trusting.dialling ≡ true →
      AllByRecursion IsOfTurn actions → IsRest last left →
      Says [] (whole_step left last actions
      (record c { table = c.table; running = Some (record { computers = running.computers; links = links }); trusting = t }))
  pub taken : (running : Running) (answers : List Answered) (d : TrustDesk) (rest last : List (List ℕ)) (links : LinkMap) (dial : Option (List ℕ)) (t : Trusting) →
      c.running ≡ Some running → Holds running answers d rest → IsRest last rest →
      Says answers (whole_step left last (d.work.work.actions ++ dial_of dial)
      (record c { table = d.table; running = Some (record { computers = d.work.work.computers; links = links }); trusting = t }))

-- ---- the units of a stream

-- where the challenges are enough
abbrev PartHolds : TrustNotedFact → List Answered → ServedPart TrustDesk Talk → Type 0
PartHolds Holds answers (Err why) = Unit {0}
PartHolds Holds answers (Ok part) = Holds answers part.value.0 part.left

module _ (w : Where) (link : ℕ) (name : List ℕ) (now : ℕ) (Holds : TrustNotedFact) (stays : TrustStaysThrough w link name now Holds) where
  drawn : (left : List (List ℕ)) (answers : List Answered) (d : TrustDesk) (line : Line) (c : ChallengeCall) (talk : Talk) → line.link ≡ link → Holds answers d left →
      PartHolds Holds (answers ++ plain ∷ []) (beside d.work.queues (draw_challenge left line c talk (base_desk d)))
  drawn [] answers d line c talk on holds = tt
  drawn (server ∷ left) answers d line c talk on holds = stays.challenge answers d left line c server on holds

  unit_holds : (what : Heard) (answers : List Answered) (d : TrustDesk) (left : List (List ℕ)) → IsOn link what → Holds answers d left →
      PartHolds Holds (answers ++ trust_heard_answer what w (base_desk d) (base_after (work_after (by_trust_heard what link name now d left))) ∷ []) (by_trust_heard what link name now d left)
  unit_holds (heard.Close cause) answers d left on holds =
      stays.waits answers (with_queues d.work.queues (desk d.table (tell d.work.work (action.Close link cause)))) left (stays.closes answers d left cause holds)
  unit_holds (heard.Answer bytes talk) answers d left on holds = stays.sends answers d left bytes holds
  unit_holds (heard.Waits talk) answers d left on holds = stays.waits answers d left holds
  unit_holds (heard.Asked line (call.Challenge c) talk) answers d left on holds = drawn left answers d line c talk on holds
  unit_holds (heard.Asked line (call.Authenticate c) talk) answers d left on holds = stays.authenticate answers d left line c on holds
  unit_holds (heard.Asked line (call.Judged c) talk) answers d left on holds = stays.judged answers d left line c on holds

  units_hold : StaysNoted (trust_server name now link) (λ (unit : ServedUnit TrustDesk Talk). trust_answer_on link w unit ∷ []) (PartHolds Holds)
  units_hold = record {
    unit = λ answers bytes d talk left holds. unit_holds (hear link bytes talk) answers d left (heard_on link bytes talk) holds;
    refusal = λ answers why d talk left holds. stays.closes answers d left _ holds;
  }

-- ---- the next turn leaves what is kept of computers

-- a dial comes behind the actions, where one starts
pub record LeavesOn (before after : Parts) : Type 0 where
  pub dial : Option (List ℕ)
  pub actions : after.work.work.actions ≡ before.work.work.actions ++ dial_of dial
  pub computers : after.work.work.computers ≡ before.work.work.computers

abbrev pub NextLeaves : Parts → Result (Part Parts) StepRefused → Type 0
NextLeaves before (Err why) = Unit {0}
NextLeaves before (Ok part) = LeavesOn before part.value

no_dial_more : (parts : Parts) → LeavesOn parts parts
no_dial_more parts = record { dial = None; actions = sym (append-nil parts.work.work.actions); computers = refl }

dials : (start : Option (Unit {0} × List (List ℕ))) (peer : List ℕ) (channel : Requester) (trust : ℕ) (turning : Turning) (parts : Parts) → turning.actions ≡ parts.work.work.actions →
    LeavesOn parts (after_turned trust (dial_for start peer turning, None) parts)
dials None peer channel trust turning parts is = record { dial = None; actions = is ∙ sym (append-nil parts.work.work.actions); computers = refl }
dials (Some start) peer channel trust turning parts is =
    record { dial = Some peer; actions = ap (λ (actions : List Action). actions ++ action.Dial peer ∷ []) is; computers = refl }

begun_leaves : (next : Result (Part NextTurn) StepRefused) (peer : List ℕ) (channel : Requester) (trust : ℕ) (parts : Parts) →
    NextLeaves parts (then_part (then_part next (dial_part peer (turning_of channel parts))) (λ turning rest. next_part (after_turned trust (turning, None) parts) rest))
begun_leaves (Err why) peer channel trust parts = tt
begun_leaves (Ok part) peer channel trust parts = dials part.value.1 peer channel trust (record (turning_of channel parts) { channel = part.value.0 }) parts refl

start_leaves : (found : Option Requester) (entry : Option Trust) (trust now : ℕ) (parts : Parts) (left : List (List ℕ)) → NextLeaves parts (start_on found entry trust now parts left)
start_leaves None entry trust now parts left = no_dial_more parts
start_leaves (Some channel) None trust now parts left = no_dial_more parts
start_leaves (Some channel) (Some entry) trust now parts left = begun_leaves (channel_turn now channel left) entry.address channel trust parts

at_leaves : (first : Option ℕ) (trusts : List Trust) (now : ℕ) (parts : Parts) (left : List (List ℕ)) → NextLeaves parts (start_at first trusts now parts left)
at_leaves None trusts now parts left = no_dial_more parts
at_leaves (Some trust) trusts now parts left = start_leaves _ _ trust now parts left

pub next_leaves : (idle : Bool) (trusts : List Trust) (now : ℕ) (parts : Parts) (left : List (List ℕ)) → NextLeaves parts (next_if idle trusts now parts left)
next_leaves false trusts now parts left = no_dial_more parts
next_leaves true trusts now parts left = at_leaves (first_waiting parts.work.queues.requesters) trusts now parts left

-- the dial that a turn asks for is an action of a turn
dial_adds : (dial : Option (List ℕ)) (old : List Action) → AddsTo IsOfTurn old (old ++ dial_of dial)
dial_adds None old = subst (λ (all : List Action). AddsTo IsOfTurn old all) (sym (append-nil old)) (adds_none IsOfTurn old)
dial_adds (Some peer) old = adds_one IsOfTurn old (action.Dial peer) (record { text = λ text. refl; told = refl })

-- all actions are, where those of the turn that was out are, from none on
all_of_turn : (middle all : List Action) (dial : Option (List ℕ)) → AddsTo IsOfTurn [] middle → all ≡ middle ++ dial_of dial → AllByRecursion IsOfTurn all
all_of_turn middle all dial adds is =
    let more : AddsTo IsOfTurn [] (middle ++ dial_of dial) = adds_both IsOfTurn [] middle (middle ++ dial_of dial) adds (dial_adds dial middle) in
    subst (λ (actions : List Action). AllByRecursion IsOfTurn actions) (sym (is ∙ more.1)) more.2

-- ---- a step

put_leaves : (open_link : Option (LinkState Talk)) (number : ℕ) (parts : Parts) → (put_open open_link number parts).work.work ≡ parts.work.work
put_leaves None number parts = refl
put_leaves (Some link) number parts = refl

module _ (w : Where) (link : ℕ) (c : ControllerState) (piece : List ℕ) (now : ℕ) (left : List (List ℕ)) (Holds : Running → TrustNotedFact)
    (Says : List Answered → Stepped ControllerState → Type 0) (all : SaysOfTrustStep w link c now left Holds Says) where
  abbrev stepped : TrustPart → Stepped ControllerState
  stepped part = step_by (λ (after : TrustParts). after.parts.work.work.actions) (λ after. trust_state_after c after) (trust_halted c) left part

  abbrev turn_then : TrustPart → TrustPart
  turn_then part =
      then_part part (λ after rest. then_part (next_turn c.table.trusts now after.parts rest) (λ later last. trust_part after.table later last))

  abbrev Noted : List (ServedUnit TrustDesk Talk) → TrustPart → Type 0
  Noted units part = Says (map (trust_answer_on link w) (units_if_taken (stepped part).answer units)) (stepped part)

  -- the next turn starts, or doesn't, behind units that were served
  turned_says : (next : Result (Part Parts) StepRefused) (parts : Parts) (units : List (ServedUnit TrustDesk Talk)) (running : Running) (d : TrustDesk) (rest : List (List ℕ)) → c.running ≡ Some running →
      parts.work.work ≡ d.work.work → NextLeaves parts next → IsRest (left_by next) rest → Holds running (map (trust_answer_on link w) units) d rest → Noted units (then_part next (λ later last. trust_part d.table later last))
  turned_says (Err why) parts units running d rest is same leaves fewer holds = all.spent
  turned_says (Ok next) parts units running d rest is same leaves fewer holds =
      let answers : List Answered = map (trust_answer_on link w) units in
      let later : Parts = next.value in
      let acts : later.work.work.actions ≡ d.work.work.actions ++ dial_of leaves.dial =
      leaves.actions ∙ ap (λ (work : Work). work.actions ++ dial_of leaves.dial) same in
      let kept : later.work.work.computers ≡ d.work.work.computers = leaves.computers ∙ ap (λ (work : Work). work.computers) same in
      subst (λ (actions : List Action). Says answers (whole_step left next.left actions (trust_state_after c (record { table = d.table; parts = later })))) (sym acts)
      (subst (λ (computers : Computers). Says answers (whole_step left next.left (d.work.work.actions ++ dial_of leaves.dial) (record c {
        table = d.table;
        running = Some (record { computers = computers; links = later.links });
        trusting = trusting_after later;
      }))) (sym kept) (all.taken running answers d rest next.left later.links leaves.dial (trusting_after later) is holds fewer))

  served_says : (part : ServedPart TrustDesk Talk) (units : List (ServedUnit TrustDesk Talk)) (running : Running) (rest : List ℕ) (others : LinkMap) (parts : Parts) → c.running ≡ Some running →
      PartHolds (Holds running) (map (trust_answer_on link w) units) part → Noted units (turn_then (after_units part rest link others parts))
  served_says (Err why) units running rest others parts is holds = all.spent
  served_says (Ok part) units running rest others parts is holds =
      let put : Parts = put_open (link_with rest part.value.1) link (record parts { work = part.value.0.work; links = others }) in
      turned_says (next_turn c.table.trusts now put part.left) put units running part.value.0 part.left is
      (put_leaves (link_with rest part.value.1) link (record parts { work = part.value.0.work; links = others }))
      (next_leaves (is_idle put.dialling) c.table.trusts now put part.left) (turn_rest c.table.trusts now put part.left) holds

  link_says : (found : Option (LinkState Talk)) (running : Running) → c.running ≡ Some running →
      Noted (trust_units_at found link piece c running now left)
      (turn_then (serve_on found link piece c.name now (take_out same_number link running.links) c.table (parts_of running c.trusting) left))
  link_says None running is =
      let parts : Parts = record (parts_of running c.trusting) { links = take_out same_number link running.links } in
      turned_says (next_turn c.table.trusts now parts left) parts [] running (first_trust_desk c running) left is refl
      (next_leaves (is_idle parts.dialling) c.table.trusts now parts left) (turn_rest c.table.trusts now parts left) (all.first running is)
  link_says (Some there) running is =
      let cut : Cut = cut_stream (there.rest ++ piece) in
      let d : TrustDesk = first_trust_desk c running in
      served_says (served_cut (trust_server c.name now link) cut d there.talk left) (trust_units_at (Some there) link piece c running now left) running cut.rest
      (take_out same_number link running.links) (parts_of running c.trusting) is
      (served_mapped (trust_server c.name now link) (trust_answer_on link w) (PartHolds (Holds running)) (units_hold w link c.name now (Holds running) (all.stays running)) cut d
      there.talk left (all.first running is))

  -- on the link of the turn nothing is served
  heard_says : (next : Result (Part Parts) StepRefused) (parts : Parts) (running : Running) → c.running ≡ Some running → is_on link c.trusting.dialling ≡ true →
      Acts (parts_of running c.trusting).work parts.work → NextLeaves parts next → IsRest (left_by next) left → Noted [] (then_part next (λ later last. trust_part c.table later last))
  heard_says (Err why) parts running is on acts leaves fewer = all.spent
  heard_says (Ok next) parts running is on acts leaves fewer =
      let later : Parts = next.value in
      subst (λ (computers : Computers). Says [] (whole_step left next.left later.work.work.actions (record c {
        table = c.table;
        running = Some (record { computers = computers; links = later.links });
        trusting = trusting_after later;
      }))) (sym (leaves.computers ∙ acts.computers))
      (all.turn running later.work.work.actions next.left later.links (trusting_after later) is on
      (all_of_turn parts.work.work.actions later.work.work.actions leaves.dial acts.adds leaves.actions) fewer)

  bytes_says : (on : Bool) (running : Running) → c.running ≡ Some running → is_on link c.trusting.dialling ≡ on →
      Noted (units_beside_turn on link piece c running now left) (turn_then (serve_bytes on link piece c.name now c.table (parts_of running c.trusting) left))
  bytes_says false running is on = link_says (lookup same_number link running.links) running is
  bytes_says true running is on =
      let parts : Parts = parts_of running c.trusting in
      let heard : Parts = on_turn (λ turning. link_hears link piece turning) parts in
      heard_says (next_turn c.table.trusts now heard left) heard running is on
      (turn_acts (slice_get parts.work.queues.requesters parts.turn_of) (λ turning. link_hears link piece turning) parts (λ turning. hears_go turning.dialling link piece turning))
      (next_leaves (is_idle heard.dialling) c.table.trusts now heard left) (turn_rest c.table.trusts now heard left)

  running_says : (running : Option Running) → c.running ≡ running →
      Says (map (trust_answer_on link w) (units_if_taken (trust_step_on running c (event.Bytes link piece) now left).answer (trust_units_by running link piece c now left)))
      (trust_step_on running c (event.Bytes link piece) now left)
  running_says None is = all.stopped is
  running_says (Some running) is = bytes_says (is_on link c.trusting.dialling) running is refl

  pub trust_step_says : Says (trust_answers_of link w c piece now left) (trust_step_of c (event.Bytes link piece) now left)
  trust_step_says = running_says c.running refl
