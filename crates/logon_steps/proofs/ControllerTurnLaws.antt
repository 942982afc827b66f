-- One turn at a controller, step by step.
-- Of `controllers_step`.
use Rattle.std.proofs.Common.{◌≡◌, ℕ, ◌<◌, ◌^◌, Bool, List, [], ◌∷◌, Some, None, Ok, refl, ap, ap₂, ◌∙◌, if◌then◌else◌}
use Rattle.authenticators.specs.Sequences.{return_of}
use Rattle.authenticators.specs.SecureChannels.{key_of_channel}
use Rattle.outside.specs.declared.event.Event.TheVariants as event
use Rattle.outside.specs.Machine.{Stepped, step_by, then_part, whole_step}
use Rattle.rpc_units.specs.Calls.{bytes_of_call}
use Rattle.rpc_units.specs.Stream.{Cut, cut_stream}
use Rattle.rpc_units.specs.Writing.{written}
use Rattle.rpc_units.proofs.CuttingLaws.{call_heard}
use Rattle.logon_stubs.specs.declared.calls.Call.{Call}
use Rattle.logon_stubs.specs.declared.info.NetworkInfo.{NetworkInfo}
use Rattle.account_table.specs.AccountTable.{AccountTable}
use Rattle.sam_logon.specs.Verdict.{Judgement, judgement_of, table_after, verdict_of}
use Rattle.end_links.specs.Binding.{bind_of}
use Rattle.end_links.specs.Links.{LinkState}
use Rattle.end_links.specs.Serving.{ServedPart, served_cut}
use Rattle.logon_stubs.specs.Interface.{netlogon_syntax}
use Rattle.channel_client.specs.Machine.{auth_call, challenge_call, level_asked, logon_call}
use Rattle.domain_controller.specs.Hearing.{bound_talk, first_talk, served_call}
use Rattle.domain_controller.specs.Machine.{Desk, by_call, controller_server, judge_info, put_channel, take_channel, with_judgement}
use Rattle.domain_controller.specs.State.{State}
use Rattle.domain_controller.specs.Step.{LinkMap, StepPart, after_units, first_desk, halted, serve_on, start_turn, state_after, step_of}
use Rattle.controller_calls.specs.declared.state.Computers.{Computers}
use Rattle.domain_controller.specs.declared.state.Running.{Running}
use Rattle.domain_controller.specs.declared.state.Talk.{Talk}
use Rattle.controller_calls.specs.declared.state.Work.{Work}
use Rattle.controller_calls.specs.declared.line.Line.{Line}
use Rattle.logon_steps.specs.Answering.{moved}
use Rattle.logon_steps.specs.ControllerTurns.{ControllersStep, controller_at, one_link, turn_link}
use Rattle.logon_steps.specs.Turning.{IsTurnCall, turn_agreed, turn_request}
use Rattle.logon_steps.proofs.AnsweringLaws.{calls_are_answered}
use Rattle.logon_steps.proofs.StreamLaws.{one_unit, same}
use Rattle.logon_steps.proofs.TurningLaws.{request_joins, request_sends, turn_bind_sends, turns_go_through}

-- ---- the one link

abbrev pub running : Computers → LinkMap → Running
running computers links = record { computers = computers; links = links }

-- what an event's part makes of the controller
abbrev pub stepped : AccountTable → List ℕ → Computers → LinkMap → List (List ℕ) → StepPart → Stepped State
stepped table name computers links left part =
    step_by (λ (after : Desk × LinkMap). after.0.work.actions) (λ (after : Desk × LinkMap). state_after (controller_at table name computers links) after) (halted (controller_at table name computers links)) left
    (then_part part (λ after rest. start_turn after rest))

-- a piece is served on it, and no other is open
pub on_link : (table : AccountTable) (name : List ℕ) (computers : Computers) (link now : ℕ) (talk : Talk) (piece : List ℕ) (left : List (List ℕ)) (part : ServedPart Desk Talk) →
    served_cut (controller_server name now link) (cut_stream piece) (first_desk table (running computers (one_link link talk))) talk left ≡ part → (cut_stream piece).rest ≡ [] →
    step_of (controller_at table name computers (one_link link talk)) (event.Bytes link piece) now left
    ≡ stepped table name computers (one_link link talk) left (after_units part [] link [])
on_link table name computers link now talk piece left part served rest =
    let here : LinkState Talk = record { rest = []; talk = talk } in
    ap (λ (found : Bool). stepped table name computers (one_link link talk) left
    (serve_on (if found then Some here else None) link piece name now (first_desk table (running computers (one_link link talk))) (if found then [] else one_link link talk) left)) (same link)
    ∙ ap₂ (λ (p : ServedPart Desk Talk) (r : List ℕ). stepped table name computers (one_link link talk) left (after_units p r link [])) served rest

-- a call comes on it, and is answered
pub asked_steps : (table : AccountTable) (name : List ℕ) (computers : Computers) (link now number : ℕ) (c : Call) (left : List (List ℕ)) → number < 2 ^ 32 → IsTurnCall c →
    step_of (controller_at table name computers (turn_link link)) (event.Bytes link (bytes_of_call (turn_request number c) 5840)) now left
    ≡ stepped table name computers (turn_link link) left
    (after_units (by_call (served_call c) (record { link = link; call = number; context = 0; limit = 5840 }) (bound_talk None turn_agreed) name now (first_desk table (running computers (turn_link link))) left) [] link [])
asked_steps table name computers link now number c left below is =
    on_link table name computers link now (bound_talk None turn_agreed) (bytes_of_call (turn_request number c) 5840) left
    (by_call (served_call c) (record { link = link; call = number; context = 0; limit = 5840 }) (bound_talk None turn_agreed) name now (first_desk table (running computers (turn_link link))) left)
    (turns_go_through.hears.call name now link number c (first_desk table (running computers (turn_link link))) left below is)
    (ap Cut.rest (call_heard (turn_request number c) 5840 (request_sends number c below is) (request_joins number c is)).stream)

judged_so : (table : AccountTable) (name : List ℕ) (info : NetworkInfo) (now : ℕ) → judge_info table name now info level_asked ≡ record { verdict = verdict_of table name info now; table = table_after table info now }
unfolding judgement_of
judged_so table name info now = refl

pub controllers_step : ControllersStep
controllers_step = record {
  opened = λ table name computers link now left. refl;
  closed = λ table name computers link now talk left.
      ap (λ (found : Bool). whole_step left left [] (controller_at table name computers (if found then [] else one_link link talk))) (same link);
  bound = λ table name computers link now number left below.
      on_link table name computers link now first_talk (written (bind_of netlogon_syntax number)) left _
      (turns_go_through.hears.bind name now link number (first_desk table (running computers (one_link link first_talk))) left below)
      (ap Cut.rest (one_unit (bind_of netlogon_syntax number) (turn_bind_sends number below)));
  challenged = λ table name computers link now number caller client server left below is known.
      asked_steps table name computers link now number (challenge_call caller client) (server ∷ left) below is
      ∙ ap (λ (part : ServedPart Desk Talk). stepped table name computers (turn_link link) (server ∷ left) (after_units part [] link []))
      (calls_are_answered.challenge caller client server (record { link = link; call = number; context = 0; limit = 5840 }) (bound_talk None turn_agreed) name now
      (first_desk table (running computers (turn_link link))) left known);
  proved = λ table name computers link now number caller client server account left below is found hash waits.
      asked_steps table name computers link now number (auth_call caller client server) left below is
      ∙ ap (λ (part : ServedPart Desk Talk). stepped table name computers (turn_link link) left (after_units part [] link []))
      (calls_are_answered.opens caller client server account (record { link = link; call = number; context = 0; limit = 5840 }) (bound_talk None turn_agreed) name now
      (first_desk table (running computers (turn_link link))) left found hash waits);
  judged = λ table name computers link now number timestamp caller o c info left below is found step.
      let line : Line = record { link = link; call = number; context = 0; limit = 5840 } in
      let d : Desk = first_desk table (running computers (turn_link link)) in
      let work : Work = put_channel caller.computer (moved c timestamp) (take_channel caller.computer d.work) in
      asked_steps table name computers link now number (logon_call caller o timestamp info) left below is
      ∙ ap (λ (part : ServedPart Desk Talk). stepped table name computers (turn_link link) left (after_units part [] link []))
      (calls_are_answered.judges caller o c info timestamp line (bound_talk None turn_agreed) name now d left found step)
      ∙ ap (λ (j : Judgement). stepped table name computers (turn_link link) left
      (after_units (Ok (record { value = (with_judgement j line level_asked (key_of_channel o) (return_of (key_of_channel o) o.seed timestamp) work, Some (bound_talk None turn_agreed)); left = left })) [] link []))
      (judged_so table name info now);
}
