-- Of a controller that waits for no other one's answer the notes of one that may hand logons on say what those of one
-- that asks nobody say, where it steps as that one does. It serves `notes_are_alike`.
use Rattle.std.proofs.Common.{◌≡◌, ◌++◌, ℕ, zero, suc, List, [], ◌∷◌, drop, length, map, Option, Some, None, Result, Ok, Err, refl, sym, ap, ap₂, subst, ◌∙◌, arith}
use Rattle.wire_base.specs.Maps.{lookup, same_number, take_out}
use Rattle.account_table.specs.declared.account.Trust.{Trust}
use Rattle.outside.specs.Machine.{Part, Stepped, step_by, then_part}
use Rattle.outside.specs.declared.action.Action.{Action}
use Rattle.outside.specs.declared.action.Judged.{Judged}
use Rattle.outside.specs.declared.action.Judged.TheVariants as judged
use Rattle.outside.specs.declared.action.StepRefused.{StepRefused}
use Rattle.outside.specs.declared.event.Event.TheVariants as event
use Rattle.rpc_units.specs.declared.refused.UnitRefused.{UnitRefused}
use Rattle.rpc_units.specs.Stream.{Cut, cut_stream}
use Rattle.channel_client.specs.State.{Requester}
use Rattle.end_links.specs.Links.{LinkState}
use Rattle.end_links.specs.Serving.{ServedPart, ServedUnit, served_by, served_cut, served_units, then_open, then_talk, units_on, units_then}
use Rattle.end_loop.specs.Runs.{actions_of}
use Rattle.controller_calls.specs.Passing.{is_passed}
use Rattle.controller_calls.specs.declared.calls.ControllerCall.TheVariants as call
use Rattle.controller_calls.specs.declared.calls.JudgedCall.{JudgedCall}
use Rattle.controller_calls.specs.declared.line.Line.{Line}
use Rattle.controller_calls.proofs.OutcomeLaws.{JudgedComes, judged_comes}
use Rattle.domain_controller.specs.Forwarding.{TrustDesk, beside, by_trust_heard, trust_server}
use Rattle.domain_controller.specs.Hearing.{hear}
use Rattle.domain_controller.specs.Machine.{Desk, answer_judged, by_heard, controller_server}
use Rattle.domain_controller.specs.State.{State as ControllerState}
use Rattle.domain_controller.specs.Step.{LinkMap, first_desk, step_of}
use Rattle.domain_controller.specs.TrustHere.{NoneIsAsked, told_trusts}
use Rattle.domain_controller.specs.TrustStep.{TrustPart, TrustParts, after_units, next_turn, serve_on, trust_halted, trust_part, trust_state_after, trust_step_of, trust_step_on}
use Rattle.domain_controller.specs.declared.hearing.Heard.{Heard}
use Rattle.domain_controller.specs.declared.hearing.Heard.TheVariants as heard
use Rattle.domain_controller.specs.declared.state.Running.{Running}
use Rattle.domain_controller.specs.declared.state.Talk.{Talk}
use Rattle.domain_controller.specs.declared.trusting.Parts.{Parts}
use Rattle.domain_controller.specs.declared.trusting.Trusting.{Trusting}
use Rattle.domain_controller.proofs.TrustHereLaws.{Alone, ForTrust, PartTells, ServesHere, Tells, beside_them, heard_here, is_quiet, open_tells, parts_here, queues_of, quiet, turn_told, units_told}
use Rattle.domain_controller.proofs.TrustNoneLaws.{alone_tells_none}
use Rattle.step_notes.specs.ControllerNotes.{Answered, Where, answer_on, has_passed, heard_answer, judged_answer, judged_in, judging_by, judging_of, units_at, units_by, units_of_controller}
use Rattle.step_notes.specs.Records.{Judging}
use Rattle.step_notes.specs.Served.{units_if_taken, work_after}
use Rattle.step_notes.specs.TrustNotes.{NotesAreAlike, base_after, trust_answer_on, trust_answers_of, trust_heard_answer, trust_judged_answer, trust_judging_by, trust_units_at, trust_units_by}
use Rattle.step_notes.proofs.Controllers.JudgedStepLaws.{NotForwarded, how_is, told_by, told_here}

-- ---- a call that is judged here isn't handed on

by_how : (how : Judged) (j : Judging) → NotForwarded how → trust_judging_by (Some how) j ≡ judging_by (is_passed how) j
by_how (judged.Passed status) j not = refl
by_how judged.Forwarded j not = absurd not
by_how (judged.Answered status) j not = refl
by_how judged.Barred j not = refl
by_how judged.NoChannel j not = refl

same_how : (how : Option Judged) (told : Judged) (j : Judging) → how ≡ Some told → NotForwarded told → trust_judging_by how j ≡ judging_by (has_passed how) j
same_how how told j is not =
    subst (λ (one : Option Judged). trust_judging_by one j ≡ judging_by (has_passed one) j) (sym is) (by_how told j not)

pub call_alike : (w : Where) (c : JudgedCall) (name : List ℕ) (now : ℕ) (line : Line) (d : Desk) →
    let j : Judging = judging_of w line c d (Some (answer_judged c name now line d)) in trust_judged_answer j ≡ judged_answer j
call_alike w c name now line d =
    let after : Desk = answer_judged c name now line d in
    let comes : JudgedComes c name now line d after = judged_comes c name now line d in
    let told = told_by c name now line d after comes in
    same_how (judged_in (drop (length d.work.actions) after.work.actions)) told.how (judging_of w line c d (Some after))
    (how_is d.work.actions after.work.actions _ _ line told) (told_here c name now line d after comes)

heard_alike : (what : Heard) (w : Where) (link : ℕ) (name : List ℕ) (now : ℕ) (d : Desk) (left : List (List ℕ)) →
    let after : Option Desk = work_after (by_heard what link name now d left) in trust_heard_answer what w d after ≡ heard_answer what w d after
heard_alike (heard.Close cause) w link name now d left = refl
heard_alike (heard.Answer bytes talk) w link name now d left = refl
heard_alike (heard.Waits talk) w link name now d left = refl
heard_alike (heard.Asked line (call.Challenge c) talk) w link name now d left = refl
heard_alike (heard.Asked line (call.Authenticate c) talk) w link name now d left = refl
heard_alike (heard.Asked line (call.Judged c) talk) w link name now d left = call_alike w c name now line d

-- ---- the units

base_same : (requesters : List Requester) (part : ServedPart Desk Talk) → base_after (work_after (beside (queues_of requesters) part)) ≡ work_after part
base_same requesters (Err why) = refl
base_same requesters (Ok part) = refl

-- nothing is told of a call for a trusted domain
abbrev Untold : ServedPart TrustDesk Talk → Type 0
Untold (Err why) = ⊥
Untold (Ok part) = told_trusts part.value.0.work.work.actions ≡ 0

untold_never : (part : ServedPart TrustDesk Talk) → Untold part → Tells part → ⊥
untold_never (Err why) none told = none
untold_never (Ok part) none told = absurd (omega (arith, none, told))

module _ (requesters : List Requester) (w : Where) (link : ℕ) (name : List ℕ) (now : ℕ) (why : Option UnitRefused) where
  abbrev trusting_notes : List (List ℕ) → TrustDesk → Talk → List (List ℕ) → List Answered
  trusting_notes units d talk left = map (trust_answer_on link w) (served_units (trust_server name now link) units d talk left)

  abbrev alone_notes : List (List ℕ) → Desk → Talk → List (List ℕ) → List Answered
  alone_notes units d talk left = map (answer_on link w) (served_units (controller_server name now link) units d talk left)

  abbrev Alike : List (List ℕ) → Type 0
  Alike units = (d : Desk) (talk : Talk) (left : List (List ℕ)) → Untold (served_by (trust_server name now link) units why (beside_them requesters d) talk left) →
      trusting_notes units (beside_them requesters d) talk left ≡ alone_notes units d talk left

  talk_alike : (units : List (List ℕ)) (d : Desk) (said : Option Talk) (left : List (List ℕ)) → Alike units →
      Untold (then_talk (beside_them requesters d) said left (λ later talk rest. served_by (trust_server name now link) units why later talk rest)) →
      map (trust_answer_on link w) (units_on (beside_them requesters d) said left (λ later talk rest. served_units (trust_server name now link) units later talk rest))
      ≡ map (answer_on link w) (units_on d said left (λ later talk rest. served_units (controller_server name now link) units later talk rest))
  talk_alike units d None left later none = refl
  talk_alike units d (Some talk) left later none = later d talk left none

  then_alike : (units : List (List ℕ)) (part : ServedPart Desk Talk) → Alike units →
      Untold (then_open (beside (queues_of requesters) part) (λ later talk rest. served_by (trust_server name now link) units why later talk rest)) →
      map (trust_answer_on link w) (units_then (beside (queues_of requesters) part) (λ later talk rest. served_units (trust_server name now link) units later talk rest))
      ≡ map (answer_on link w) (units_then part (λ later talk rest. served_units (controller_server name now link) units later talk rest))
  then_alike units (Err refused) later none = refl
  then_alike units (Ok part) later none = talk_alike units part.value.0 part.value.1 part.left later none

  -- a unit, and those behind it: it is served as where nobody is asked, or something is told of a trusted domain
  unit_alike : (what : Heard) (units : List (List ℕ)) (d : Desk) (left : List (List ℕ)) (part : ServedPart TrustDesk Talk) → Alike units →
      ServesHere requesters part (by_heard what link name now d left) →
      Untold (then_open part (λ later talk rest. served_by (trust_server name now link) units why later talk rest)) →
      trust_heard_answer what w d (base_after (work_after part))
      ∷ map (trust_answer_on link w) (units_then part (λ later talk rest. served_units (trust_server name now link) units later talk rest))
      ≡ heard_answer what w d (work_after (by_heard what link name now d left))
      ∷ map (answer_on link w) (units_then (by_heard what link name now d left) (λ later talk rest. served_units (controller_server name now link) units later talk rest))
  unit_alike what units d left part later (ForTrust told) none =
      absurd (untold_never (then_open part (λ after talk rest. served_by (trust_server name now link) units why after talk rest)) none
      (open_tells requesters name now link part units why told))
  unit_alike what units d left part later (Alone same) none =
      let alone : ServedPart Desk Talk = by_heard what link name now d left in
      ap₂ (λ (one : Answered) (rest : List Answered). one ∷ rest)
      (ap (λ (p : ServedPart TrustDesk Talk). trust_heard_answer what w d (base_after (work_after p))) same
      ∙ ap (λ (after : Option Desk). trust_heard_answer what w d after) (base_same requesters alone)
      ∙ heard_alike what w link name now d left)
      (ap (λ (p : ServedPart TrustDesk Talk).
      map (trust_answer_on link w) (units_then p (λ after said rest. served_units (trust_server name now link) units after said rest))) same
      ∙ then_alike units alone later
      (subst (λ (p : ServedPart TrustDesk Talk). Untold (then_open p (λ after talk rest. served_by (trust_server name now link) units why after talk rest))) same none))

  units_alike : (units : List (List ℕ)) → Alike units
  units_alike [] d talk left none = refl
  units_alike (bytes ∷ units) d talk left none =
      let what : Heard = hear link bytes talk in
      unit_alike what units d left (by_trust_heard what link name now (beside_them requesters d) left) (units_alike units) (heard_here requesters what link name now d left) none

-- ---- a step

abbrev stepped_by : ControllerState → List (List ℕ) → TrustPart → Stepped ControllerState
stepped_by c left part =
    step_by (λ (after : TrustParts). after.parts.work.work.actions) (λ after. trust_state_after c after) (trust_halted c) left part

abbrev turn_then : List Trust → ℕ → TrustPart → TrustPart
turn_then trusts now part =
    then_part part (λ after rest. then_part (next_turn trusts now after.parts rest) (λ later last. trust_part after.table later last))

-- a part of a step tells nothing
abbrev PartUntold : TrustPart → Type 0
PartUntold (Err why) = ⊥
PartUntold (Ok part) = told_trusts part.value.parts.work.work.actions ≡ 0

part_never : (part : TrustPart) (requesters : List Requester) (turn : ℕ) → PartUntold part → PartTells requesters turn part → ⊥
part_never (Err why) requesters turn none told = none
part_never (Ok part) requesters turn none told = absurd (omega (arith, none, told))

module _ (requesters : List Requester) (turn : ℕ) (trusts : List Trust) (now : ℕ) (rest : List ℕ) (number : ℕ) (others : LinkMap) (parts : Parts) where
  by_count : (count : ℕ) (part : Part (TrustDesk × Option Talk)) → told_trusts part.value.0.work.work.actions ≡ count → PartUntold (turn_then trusts now (after_units (Ok part) rest number others parts)) → count ≡ 0
  by_count zero part is none = refl
  by_count (suc more) part is none =
      absurd (part_never (turn_then trusts now (after_units (Ok part) rest number others parts)) requesters turn none
      (turn_told (after_units (Ok part) rest number others parts) requesters turn trusts now
      (units_told requesters turn (Ok part) rest number others parts (omega (arith, is)))))

  untold_units : (part : ServedPart TrustDesk Talk) → PartUntold (turn_then trusts now (after_units part rest number others parts)) → Untold part
  untold_units (Err why) none = none
  untold_units (Ok part) none = by_count (told_trusts part.value.0.work.work.actions) part refl none

module _ (c : ControllerState) (link : ℕ) (w : Where) (left : List (List ℕ)) where
  -- where the step isn't taken nothing is written down
  taken_alike : (part : TrustPart) (answer : Result (List Action) StepRefused) (trusting : List (ServedUnit TrustDesk Talk)) (units : List (ServedUnit Desk Talk)) →
      (stepped_by c left part).answer ≡ answer → told_trusts (actions_of (stepped_by c left part)) ≡ 0 →
      (PartUntold part → map (trust_answer_on link w) trusting ≡ map (answer_on link w) units) →
      map (trust_answer_on link w) (units_if_taken (stepped_by c left part).answer trusting) ≡ map (answer_on link w) (units_if_taken answer units)
  taken_alike (Err why) answer trusting units is none alike =
      subst (λ (a : Result (List Action) StepRefused). [] ≡ map (answer_on link w) (units_if_taken a units)) is refl
  taken_alike (Ok part) answer trusting units is none alike =
      subst (λ (a : Result (List Action) StepRefused). map (trust_answer_on link w) trusting ≡ map (answer_on link w) (units_if_taken a units)) is (alike none)

module _ (c : ControllerState) (link : ℕ) (w : Where) (piece : List ℕ) (now : ℕ) (left : List (List ℕ)) where
  module _ (requesters : List Requester) (turn : ℕ) where
    -- the controller, where it waits for nobody's answer
    abbrev one : ControllerState
    one = record c { trusting = quiet requesters turn }

    abbrev parts_at : Running → Parts
    parts_at running = parts_here requesters turn (first_desk c.table running).work running.links

    abbrev comes : Option (LinkState Talk) → Running → TrustPart
    comes found running = turn_then c.table.trusts now (serve_on found link piece c.name now (take_out same_number link running.links) c.table (parts_at running) left)

    link_alike : (found : Option (LinkState Talk)) (running : Running) (answer : Result (List Action) StepRefused) → (stepped_by one left (comes found running)).answer ≡ answer →
        told_trusts (actions_of (stepped_by one left (comes found running))) ≡ 0 →
        map (trust_answer_on link w) (units_if_taken (stepped_by one left (comes found running)).answer (trust_units_at found link piece one running now left))
        ≡ map (answer_on link w) (units_if_taken answer (units_at found link piece c running now left))
    link_alike None running answer is none = taken_alike one link w left (comes None running) answer [] [] is none (λ untold. refl)
    link_alike (Some there) running answer is none =
        let cut : Cut = cut_stream (there.rest ++ piece) in
        let d : Desk = first_desk c.table running in
        taken_alike one link w left (comes (Some there) running) answer (trust_units_at (Some there) link piece one running now left) (units_at (Some there) link piece c running now left) is none
        (λ untold.
        units_alike requesters w link c.name now cut.refused cut.units d there.talk left
        (untold_units requesters turn c.table.trusts now cut.rest link (take_out same_number link running.links) (parts_at running)
        (served_cut (trust_server c.name now link) cut (beside_them requesters d) there.talk left) untold))

    running_alike : (running : Option Running) (answer : Result (List Action) StepRefused) → (trust_step_on running one (event.Bytes link piece) now left).answer ≡ answer →
        told_trusts (actions_of (trust_step_on running one (event.Bytes link piece) now left)) ≡ 0 →
        map (trust_answer_on link w) (units_if_taken (trust_step_on running one (event.Bytes link piece) now left).answer (trust_units_by running link piece one now left))
        ≡ map (answer_on link w) (units_if_taken answer (units_by running link piece c now left))
    running_alike None answer is none = subst (λ (a : Result (List Action) StepRefused). [] ≡ map (answer_on link w) (units_if_taken a [])) is refl
    running_alike (Some running) answer is none = link_alike (lookup same_number link running.links) running answer is none

  step_alike : NoneIsAsked c.trusting → trust_step_of c (event.Bytes link piece) now left ≡ step_of c (event.Bytes link piece) now left →
      trust_answers_of link w c piece now left ≡ map (answer_on link w) (units_of_controller c link piece now left)
  step_alike asks same =
      let alone : Stepped ControllerState = step_of c (event.Bytes link piece) now left in
      let state : c ≡ one c.trusting.queues.requesters c.trusting.turn_of = ap (λ (t : Trusting). record c { trusting = t }) (is_quiet c.trusting asks) in
      subst (λ (other : ControllerState). (trust_step_of other (event.Bytes link piece) now left).answer ≡ alone.answer →
      told_trusts (actions_of (trust_step_of other (event.Bytes link piece) now left)) ≡ 0 →
      trust_answers_of link w other piece now left ≡ map (answer_on link w) (units_of_controller c link piece now left)) (sym state)
      (λ is none. running_alike c.trusting.queues.requesters c.trusting.turn_of c.running alone.answer is none)
      (ap (λ (step : Stepped ControllerState). step.answer) same)
      (ap (λ (step : Stepped ControllerState). told_trusts (actions_of step)) same ∙ alone_tells_none c (event.Bytes link piece) now left)

pub notes_alike : NotesAreAlike
notes_alike c link w piece now left asks same = step_alike c link w piece now left asks same
