-- What holds of a controller's step as bytes come, beside what is written down of it: whatever holds through each thing
-- that a unit comes to. It is an instance of `served_mapped`. It serves `replies_are_sent_as_judged`,
-- `units_have_their_marks`, and what domain_world carries of controllers' notes.
use Rattle.std.proofs.Common.{◌≡◌, ℕ, List, [], ◌∷◌, ◌++◌, map, Option, Some, None, Ok, Err, refl, ap}
use Rattle.wire_base.specs.Maps.{lookup, same_number, take_out}
use Rattle.outside.specs.declared.action.Action.TheVariants as action
use Rattle.outside.specs.declared.action.CloseCause.{CloseCause}
use Rattle.outside.specs.declared.event.Event.TheVariants as event
use Rattle.outside.specs.Machine.{Stepped, spent_step, step_by, stopped_step, then_part, whole_step}
use Rattle.rpc_units.specs.declared.unit.Unit.{Unit as RpcUnit}
use Rattle.rpc_units.specs.Stream.{Cut, cut_stream}
use Rattle.logon_stubs.specs.declared.calls.AuthCall.{AuthCall}
use Rattle.logon_stubs.specs.declared.calls.ChallengeCall.{ChallengeCall}
use Rattle.end_links.specs.Links.{LinkState}
use Rattle.end_links.specs.Serving.{ServedPart, ServedUnit, served_cut}
use Rattle.controller_calls.specs.declared.calls.ControllerCall.TheVariants as call
use Rattle.controller_calls.specs.declared.calls.JudgedCall.{JudgedCall}
use Rattle.controller_calls.specs.declared.line.Line.{Line}
use Rattle.domain_controller.specs.Hearing.{hear}
use Rattle.domain_controller.specs.Machine.{Desk, answer_authenticate, answer_challenge, answer_judged, by_heard, controller_server, desk, draw_challenge, tell}
use Rattle.domain_controller.specs.State.{State as ControllerState}
use Rattle.domain_controller.specs.Step.{LinkMap, after_units, first_desk, halted, keep_link, serve_on, start_turn, state_after, step_of, step_on}
use Rattle.domain_controller.specs.declared.hearing.Heard.{Heard}
use Rattle.domain_controller.specs.declared.hearing.Heard.TheVariants as heard
use Rattle.domain_controller.specs.declared.state.Running.{Running}
use Rattle.domain_controller.specs.declared.state.Talk.{Talk}
use Rattle.domain_controller.proofs.UnitLaws.{IsHeardAs, bytes_heard}
use Rattle.step_notes.specs.ControllerNotes.{Answered, Where, answer_on, heard_answer, judged_answer, judging_of, opened_by, opening, plain, silent, units_at, units_by, units_of_controller}
use Rattle.step_notes.specs.Served.{units_if_taken, work_after}
use Rattle.step_notes.proofs.ServedLaws.{StaysNoted, served_mapped}

-- ---- a call is heard on the link of its unit

abbrev pub IsOn : ℕ → Heard → Type 0
IsOn link (heard.Close cause) = Unit {0}
IsOn link (heard.Answer bytes talk) = Unit {0}
IsOn link (heard.Waits talk) = Unit {0}
IsOn link (heard.Asked line c talk) = line.link ≡ link

on_line : (link : ℕ) (unit : RpcUnit) (talk : Talk) (what : Heard) → IsHeardAs link unit talk what → IsOn link what
on_line link unit talk (heard.Close cause) is = tt
on_line link unit talk (heard.Answer bytes later) is = tt
on_line link unit talk (heard.Waits later) is = tt
on_line link unit talk (heard.Asked line c later) is = ap Line.link is.0.line_is

pub heard_on : (link : ℕ) (bytes : List ℕ) (talk : Talk) → IsOn link (hear link bytes talk)
heard_on link bytes talk = bytes_heard (IsOn link) link bytes talk (λ cause. tt) (λ unit what read is. on_line link unit talk what is)

-- ---- the units of a stream

-- of what is written down of the units so far, the controller at work, and the challenges that are left
abbrev pub NotedFact : Type 1
NotedFact = List Answered → Desk → List (List ℕ) → Type 0

-- What a unit comes to: the link is closed, also by a rest that is refused; one unit is sent, or none; or a call is
-- answered on its link.
pub record StaysThrough (w : Where) (link : ℕ) (name : List ℕ) (now : ℕ) (Holds : NotedFact) : Type 0 where
  pub closes : (answers : List Answered) (d : Desk) (left : List (List ℕ)) (cause : CloseCause) → Holds answers d left →
      Holds answers (desk d.table (tell d.work (action.Close link cause))) left
  pub waits : (answers : List Answered) (d : Desk) (left : List (List ℕ)) → Holds answers d left → Holds (answers ++ silent ∷ []) d left
  pub sends : (answers : List Answered) (d : Desk) (left : List (List ℕ)) (bytes : List ℕ) → Holds answers d left →
      Holds (answers ++ plain ∷ []) (desk d.table (tell d.work (action.Send link bytes))) left
  pub challenge : (answers : List Answered) (d : Desk) (left : List (List ℕ)) (line : Line) (c : ChallengeCall) (server : List ℕ) → line.link ≡ link →
      Holds answers d (server ∷ left) → Holds (answers ++ plain ∷ []) (desk d.table (answer_challenge d.table line c server d.work)) left
  pub authenticate : (answers : List Answered) (d : Desk) (left : List (List ℕ)) (line : Line) (c : AuthCall) → line.link ≡ link → Holds answers d left →
      Holds (answers ++ opening (opened_by w.controller c d) w line.call c.channel ∷ []) (desk d.table (answer_authenticate d.table line c d.work)) left
  pub judged : (answers : List Answered) (d : Desk) (left : List (List ℕ)) (line : Line) (c : JudgedCall) → line.link ≡ link → Holds answers d left →
      Holds (answers ++ judged_answer (judging_of w line c d (Some (answer_judged c name now line d))) ∷ []) (answer_judged c name now line d) left

-- where the challenges are enough
abbrev pub PartHolds : NotedFact → List Answered → ServedPart Desk Talk → Type 0
PartHolds Holds answers (Err why) = Unit {0}
PartHolds Holds answers (Ok part) = Holds answers part.value.0 part.left

module _ (w : Where) (link : ℕ) (name : List ℕ) (now : ℕ) (Holds : NotedFact) (stays : StaysThrough w link name now Holds) where
  drawn : (left : List (List ℕ)) (answers : List Answered) (d : Desk) (line : Line) (c : ChallengeCall) (talk : Talk) → line.link ≡ link → Holds answers d left →
      PartHolds Holds (answers ++ plain ∷ []) (draw_challenge left line c talk d)
  drawn [] answers d line c talk on holds = tt
  drawn (server ∷ left) answers d line c talk on holds = stays.challenge answers d left line c server on holds

  unit_holds : (what : Heard) (answers : List Answered) (d : Desk) (left : List (List ℕ)) → IsOn link what → Holds answers d left →
      PartHolds Holds (answers ++ heard_answer what w d (work_after (by_heard what link name now d left)) ∷ []) (by_heard what link name now d left)
  unit_holds (heard.Close cause) answers d left on holds =
      stays.waits answers (desk d.table (tell d.work (action.Close link cause))) left (stays.closes answers d left cause holds)
  unit_holds (heard.Answer bytes talk) answers d left on holds = stays.sends answers d left bytes holds
  unit_holds (heard.Waits talk) answers d left on holds = stays.waits answers d left holds
  unit_holds (heard.Asked line (call.Challenge c) talk) answers d left on holds = drawn left answers d line c talk on holds
  unit_holds (heard.Asked line (call.Authenticate c) talk) answers d left on holds = stays.authenticate answers d left line c on holds
  unit_holds (heard.Asked line (call.Judged c) talk) answers d left on holds = stays.judged answers d left line c on holds

  units_hold : StaysNoted (controller_server name now link) (λ (unit : ServedUnit Desk Talk). answer_on link w unit ∷ []) (PartHolds Holds)
  units_hold = record {
    unit = λ answers bytes d talk left holds. unit_holds (hear link bytes talk) answers d left (heard_on link bytes talk) holds;
    refusal = λ answers why d talk left holds. stays.closes answers d left _ holds;
  }

-- ---- a step

-- What is said of a step by what holds of a controller that runs so: where it had stopped, where the challenges weren't
-- enough, and where it is taken.
pub record SaysOfStep (w : Where) (link : ℕ) (c : ControllerState) (now : ℕ) (left : List (List ℕ)) (Holds : Running → NotedFact)
    (Says : List Answered → Stepped ControllerState → Type 0) : Type 0 where
  pub stays : (running : Running) → StaysThrough w link c.name now (Holds running)
  pub first : (running : Running) → c.running ≡ Some running → Holds running [] (first_desk c.table running) left
  pub stopped : c.running ≡ None → Says [] (stopped_step left c)
  pub spent : Says [] (spent_step left (halted c))
  pub taken : (running : Running) (answers : List Answered) (d : Desk) (links : LinkMap) (rest : List (List ℕ)) → c.running ≡ Some running →
      Holds running answers d rest → Says answers (whole_step left rest d.work.actions (state_after c (d, links)))

module _ (w : Where) (link : ℕ) (c : ControllerState) (piece : List ℕ) (now : ℕ) (left : List (List ℕ)) (Holds : Running → NotedFact)
    (Says : List Answered → Stepped ControllerState → Type 0) (all : SaysOfStep w link c now left Holds Says) where
  -- the step, by what serving its units comes to
  abbrev step_after : ServedPart Desk Talk → List ℕ → LinkMap → Stepped ControllerState
  step_after part rest others =
      step_by (λ after. after.0.work.actions) (λ after. state_after c after) (halted c) left
      (then_part (after_units part rest link others) (λ after rest. start_turn after rest))

  served_says : (part : ServedPart Desk Talk) (units : List (ServedUnit Desk Talk)) (running : Running) (rest : List ℕ) (others : LinkMap) → c.running ≡ Some running →
      PartHolds (Holds running) (map (answer_on link w) units) part →
      Says (map (answer_on link w) (units_if_taken (step_after part rest others).answer units)) (step_after part rest others)
  served_says (Err why) units running rest others is holds = all.spent
  served_says (Ok part) units running rest others is holds =
      all.taken running (map (answer_on link w) units) part.value.0 (keep_link part.value.1 rest link others) part.left is holds

  link_says : (found : Option (LinkState Talk)) (running : Running) → c.running ≡ Some running →
      let stepped = step_by (λ (after : Desk × LinkMap). after.0.work.actions) (λ (after : Desk × LinkMap). state_after c after) (halted c) left
      (then_part (serve_on found link piece c.name now (first_desk c.table running) (take_out same_number link running.links) left) (λ (after : Desk × LinkMap) (rest : List (List ℕ)). start_turn after rest)) in
      Says (map (answer_on link w) (units_if_taken stepped.answer (units_at found link piece c running now left))) stepped
  link_says None running is = all.taken running [] (first_desk c.table running) (take_out same_number link running.links) left is (all.first running is)
  link_says (Some there) running is =
      let cut : Cut = cut_stream (there.rest ++ piece) in
      let d : Desk = first_desk c.table running in
      served_says (served_cut (controller_server c.name now link) cut d there.talk left) (units_at (Some there) link piece c running now left) running cut.rest
      (take_out same_number link running.links) is
      (served_mapped (controller_server c.name now link) (answer_on link w) (PartHolds (Holds running)) (units_hold w link c.name now (Holds running) (all.stays running)) cut d
      there.talk left (all.first running is))

  running_says : (running : Option Running) → c.running ≡ running →
      Says (map (answer_on link w) (units_if_taken (step_on running c (event.Bytes link piece) now left).answer (units_by running link piece c now left)))
      (step_on running c (event.Bytes link piece) now left)
  running_says None is = all.stopped is
  running_says (Some running) is = link_says (lookup same_number link running.links) running is

  pub step_says : Says (map (answer_on link w) (units_of_controller c link piece now left)) (step_of c (event.Bytes link piece) now left)
  step_says = running_says c.running refl
