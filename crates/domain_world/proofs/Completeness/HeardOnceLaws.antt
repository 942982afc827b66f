-- What is written down of a call that a controller hears on the link of a turn, in one fragment or more: all but the
-- last come to nothing, and the last to the call.
-- It serves `Proved.complete`.
use Rattle.std.proofs.Common.{◌≡◌, ℕ, ◌≤◌, ◌<◌, ◌^◌, arith, Bool, false, List, [], ◌∷◌, length, map, Option, Some, None, Result, Ok, Err, refl, sym, ap, ap₂, subst, ◌∙◌, if◌then◌else◌}
use Rattle.std.specs.Prelude.{◌||◌}
use Rattle.std.specs.List.{AllByRecursion}
use Rattle.outside.specs.declared.action.Action.{Action}
use Rattle.outside.specs.declared.action.StepRefused.{StepRefused}
use Rattle.outside.specs.declared.event.Event.TheVariants as event
use Rattle.rpc_units.specs.Calls.{CanBeSent, bytes_of_call}
use Rattle.rpc_units.specs.Joining.{AddsTo, answer_of, cut_of, open_after, stub_of}
use Rattle.rpc_units.specs.Reading.{unit_of}
use Rattle.rpc_units.specs.Stream.{cut_stream}
use Rattle.rpc_units.specs.Writing.{IsSendable, written}
use Rattle.rpc_units.specs.declared.refused.JoinRefused.{JoinRefused}
use Rattle.rpc_units.specs.declared.refused.UnitRefused.{UnitRefused}
use Rattle.rpc_units.specs.declared.unit.Unit.{Unit as RpcUnit}
use Rattle.rpc_units.proofs.CuttingLaws.{call_heard, cut_each, cut_sendable}
use Rattle.rpc_units.proofs.WritingLaws.{unit_of-written}
use Rattle.logon_stubs.specs.Calls.{opnum_of_call}
use Rattle.logon_stubs.specs.Writing.{written_call}
use Rattle.logon_stubs.specs.declared.calls.Call.{Call}
use Rattle.logon_stubs.specs.declared.refused.StubRefused.{StubRefused}
use Rattle.logon_stubs.proofs.WrittenLaws.{call_of-written_call}
use Rattle.account_table.specs.AccountTable.{AccountTable}
use Rattle.end_links.specs.Binding.{bind_of}
use Rattle.end_links.specs.Links.{LinkState}
use Rattle.end_links.specs.Sending.{request_of}
use Rattle.end_links.specs.Serving.{IsFragmentOf, ServedPart, Server, ServedUnit, served_units, units_on, units_then}
use Rattle.logon_stubs.specs.Interface.{netlogon_syntax}
use Rattle.domain_controller.specs.Hearing.{bound_talk, first_talk, hear, hear_joined, hear_number, hear_opnum, hear_read, hear_set, hear_stub, served_call}
use Rattle.domain_controller.specs.Machine.{Desk, by_call, by_heard, controller_server}
use Rattle.domain_controller.specs.Step.{first_desk, step_of}
use Rattle.domain_controller.specs.declared.hearing.Heard.{Heard}
use Rattle.domain_controller.specs.declared.hearing.Heard.TheVariants as heard
use Rattle.secret_change.specs.Calls.{set_call, set_call_of, set_opnum, written_set_call}
use Rattle.secret_change.specs.declared.calls.SetCall.{SetCall}
use Rattle.secret_change.specs.declared.refused.SetRefused.{SetRefused}
use Rattle.secret_change.proofs.SetLaws.{call_stub, stub_again}
use Rattle.controller_calls.specs.declared.calls.ControllerCall.{ControllerCall}
use Rattle.controller_calls.specs.declared.calls.ControllerCall.TheVariants as controller_call
use Rattle.controller_calls.specs.declared.calls.JudgedCall.TheVariants as judged_call
use Rattle.controller_calls.specs.declared.line.Line.{Line}
use Rattle.controller_calls.specs.declared.state.Computers.{Computers}
use Rattle.domain_controller.specs.declared.state.Talk.{Talk}
use Rattle.step_notes.specs.ControllerNotes.{Answered, Where, answer_on, call_answer, heard_answer, plain, silent, units_at, units_of_controller}
use Rattle.step_notes.specs.Marking.{answered_marks, clashes}
use Rattle.step_notes.specs.Records.{Sent}
use Rattle.step_notes.specs.Served.{units_if_taken, work_after}
use Rattle.domain_world.specs.Past.{any_clash, judged_of}
use Rattle.logon_steps.specs.ControllerTurns.{controller_at, one_link, turn_link}
use Rattle.logon_steps.specs.SetTurns.{IsSetTurn, set_request}
use Rattle.logon_steps.specs.Turning.{IsTurnCall, turn_agreed, turn_request}
use Rattle.logon_steps.proofs.StreamLaws.{none_open, one_unit, read_again, same}
use Rattle.logon_steps.proofs.SetTurnLaws.{set_sends}
use Rattle.logon_steps.proofs.TurningLaws.{netlogon_heard, other_number, request_joins, request_sends, turn_bind_sends}

-- ---- what answers come to

-- several answers come to what one of them does
pub record ComeTo (answers : List Answered) (one : Answered) : Type 0 where
  pub clash : (unit : Option ℕ) (sent : List Sent) → any_clash answers unit sent ≡ (clashes one.checked unit sent || false)
  pub judged : (numbers : List ℕ) → judged_of answers numbers ≡ judged_of (one ∷ []) numbers
  pub marks : answered_marks answers ≡ answered_marks (one ∷ [])

alone : (one : Answered) → ComeTo (one ∷ []) one
alone one = record { clash = λ unit sent. refl; judged = λ numbers. refl; marks = refl }

behind_silent : (answers : List Answered) (one first : Answered) → first ≡ silent → ComeTo answers one → ComeTo (first ∷ answers) one
behind_silent answers one first is to =
    subst (λ (f : Answered). ComeTo (f ∷ answers) one) (sym is) (record { clash = to.clash; judged = to.judged; marks = to.marks })

-- ---- the units of the one link

units_here : (table : AccountTable) (name : List ℕ) (computers : Computers) (link now : ℕ) (talk : Talk) (piece : List ℕ) (left : List (List ℕ)) →
    units_of_controller (controller_at table name computers (one_link link talk)) link piece now left
    ≡ units_if_taken (step_of (controller_at table name computers (one_link link talk)) (event.Bytes link piece) now left).answer
    (served_units (controller_server name now link) (cut_stream piece).units (first_desk table (record { computers = computers; links = one_link link talk })) talk left)
units_here table name computers link now talk piece left =
    let here : LinkState Talk = record { rest = []; talk = talk } in
    ap (λ (found : Bool). units_if_taken (step_of (controller_at table name computers (one_link link talk)) (event.Bytes link piece) now left).answer
    (units_at (if found then Some here else None) link piece (controller_at table name computers (one_link link talk)) (record { computers = computers; links = one_link link talk }) now left)) (same link)

-- what holds of none and of all of the units holds of those of the step
pub either_way : {U : Type 0} (P : List U → Type 0) (answer : Result (List Action) StepRefused) (units : List U) → P [] → P units → P (units_if_taken answer units)
either_way P (Ok actions) units none all = all
either_way P (Err why) units none all = none

nothing_on : {W T : Type 0} (server : Server W T) (at : W) (said : Option T) (left : List (List ℕ)) → units_on at said left (λ later t rest. served_units server [] later t rest) ≡ []
nothing_on server at None left = refl
nothing_on server at (Some talk) left = refl

pub nothing_follows : {W T : Type 0} (server : Server W T) (part : ServedPart W T) → units_then part (λ later t rest. served_units server [] later t rest) ≡ []
nothing_follows server (Err why) = refl
nothing_follows server (Ok part) = nothing_on server part.value.0 part.value.1 part.left

-- ---- a call in fragments

abbrev pub turn_line : ℕ → ℕ → Line
turn_line link number = record { link = link; call = number; context = 0; limit = 5840 }

-- what the whole call comes to
abbrev pub answer_by : List ℕ → ℕ → ℕ → ℕ → ControllerCall → Where → Desk → List (List ℕ) → Answered
answer_by name now link number c w d left = call_answer c (turn_line link number) w d (work_after (by_call c (turn_line link number) (bound_talk None turn_agreed) name now d left))

abbrev pub turn_answer : List ℕ → ℕ → ℕ → ℕ → Call → Where → Desk → List (List ℕ) → Answered
turn_answer name now link number c w d left = answer_by name now link number (served_call c) w d left

-- each fragment of a request is heard by what was joined of it
abbrev pub HearsFragments : ℕ → RpcUnit → Type 0
HearsFragments link request =
    (bytes : List ℕ) (unit : RpcUnit) (so_far : Option RpcUnit) → unit_of bytes ≡ Ok unit → IsFragmentOf request unit →
    hear link bytes (bound_talk so_far turn_agreed) ≡ hear_joined (answer_of so_far unit) (open_after so_far unit) link turn_agreed

fragments_heard : (link number opnum : ℕ) (stub : List ℕ) → HearsFragments link (request_of number 0 opnum stub)
fragments_heard link number opnum stub bytes unit so_far read of =
    ap (λ (u : Result RpcUnit UnitRefused). hear_read u link (bound_talk so_far turn_agreed)) (read ∙ ap (λ (u : RpcUnit). Ok u) of.is)
    ∙ ap (λ (u : RpcUnit). hear_joined (answer_of so_far u) (open_after so_far u) link turn_agreed) (sym of.is)

-- a request that can be sent, and is heard as that call once it is whole
pub record IsHeardAs (link number : ℕ) (request : RpcUnit) (c : ControllerCall) : Type 0 where
  pub sends : CanBeSent request 5840
  pub joins : length (stub_of request.body) ≤ 65536
  pub parts : HearsFragments link request
  pub hears : hear_joined (Ok (Some request)) None link turn_agreed ≡ heard.Asked (turn_line link number) c (bound_talk None turn_agreed)

module _ (name : List ℕ) (now link number : ℕ) (request : RpcUnit) (c : ControllerCall) (w : Where) (is : IsHeardAs link number request c) where
  part_hears : (bytes : List ℕ) (unit : RpcUnit) (so_far : Option RpcUnit) → unit_of bytes ≡ Ok unit → IsFragmentOf request unit → answer_of so_far unit ≡ Ok None →
      hear link bytes (bound_talk so_far turn_agreed) ≡ heard.Waits (bound_talk (open_after so_far unit) turn_agreed)
  part_hears bytes unit so_far read of answer =
      is.parts bytes unit so_far read of ∙ ap (λ (a : Result (Option RpcUnit) JoinRefused). hear_joined a (open_after so_far unit) link turn_agreed) answer

  last_hears : (bytes : List ℕ) (unit : RpcUnit) (so_far : Option RpcUnit) → unit_of bytes ≡ Ok unit → IsFragmentOf request unit → answer_of so_far unit ≡ Ok (Some request) →
      hear link bytes (bound_talk so_far turn_agreed) ≡ heard.Asked (turn_line link number) c (bound_talk None turn_agreed)
  last_hears bytes unit so_far read of answer =
      is.parts bytes unit so_far read of
      ∙ ap₂ (λ (a : Result (Option RpcUnit) JoinRefused) (after : Option RpcUnit). hear_joined a after link turn_agreed) answer (none_open so_far unit request answer)
      ∙ is.hears

  frames_answer : (frames : List RpcUnit) (so_far : Option RpcUnit) (d : Desk) (left : List (List ℕ)) → AllByRecursion IsSendable frames → AllByRecursion (IsFragmentOf request) frames →
      AddsTo so_far frames request →
      ComeTo (map (answer_on link w) (served_units (controller_server name now link) (map written frames) d (bound_talk so_far turn_agreed) left)) (answer_by name now link number c w d left)
  frames_answer [] so_far d left sends of adds = absurd adds
  frames_answer (frame ∷ []) so_far d left sends of adds =
      let read : unit_of (written frame) ≡ Ok frame = unit_of-written frame sends.0.writable sends.0.range sends.0.short in
      let what : Heard = hear link (written frame) (bound_talk so_far turn_agreed) in
      let hears : what ≡ heard.Asked (turn_line link number) c (bound_talk None turn_agreed) = last_hears (written frame) frame so_far read of.0 adds in
      let answers : heard_answer what w d (work_after (by_heard what link name now d left)) ≡ answer_by name now link number c w d left =
      ap (λ (h : Heard). heard_answer h w d (work_after (by_heard h link name now d left))) hears in
      subst (λ (units : List (ServedUnit Desk Talk)). ComeTo (heard_answer what w d (work_after (by_heard what link name now d left)) ∷ map (answer_on link w) units) (answer_by name now link number c w d left))
      (sym (nothing_follows (controller_server name now link) (by_heard what link name now d left)))
      (subst (λ (one : Answered). ComeTo (one ∷ []) (answer_by name now link number c w d left)) (sym answers) (alone (answer_by name now link number c w d left)))
  frames_answer (frame ∷ next ∷ frames) so_far d left sends of adds =
      let read : unit_of (written frame) ≡ Ok frame = unit_of-written frame sends.0.writable sends.0.range sends.0.short in
      let what : Heard = hear link (written frame) (bound_talk so_far turn_agreed) in
      let hears : what ≡ heard.Waits (bound_talk (open_after so_far frame) turn_agreed) = part_hears (written frame) frame so_far read of.0 adds.0 in
      subst (λ (h : Heard). ComeTo (heard_answer h w d (work_after (by_heard h link name now d left))
      ∷ map (answer_on link w) (units_then (by_heard h link name now d left) (λ later t rest. served_units (controller_server name now link) (map written (next ∷ frames)) later t rest)))
      (answer_by name now link number c w d left)) (sym hears)
      (behind_silent _ (answer_by name now link number c w d left) _ refl (frames_answer (next ∷ frames) (open_after so_far frame) d left sends.1 of.1 adds.1))

  call_answers : (d : Desk) (left : List (List ℕ)) →
      ComeTo (map (answer_on link w) (served_units (controller_server name now link) (cut_stream (bytes_of_call request 5840)).units d (bound_talk None turn_agreed) left)) (answer_by name now link number c w d left)
  call_answers d left =
      let heard_so = call_heard request 5840 is.sends is.joins in
      subst (λ (cut : _). ComeTo (map (answer_on link w) (served_units (controller_server name now link) cut.units d (bound_talk None turn_agreed) left)) (answer_by name now link number c w d left)) (sym heard_so.stream)
      (frames_answer (cut_of request 5840) None d left (cut_sendable request 5840 is.sends)
      (cut_each (IsFragmentOf request) request 5840 (omega arith) (λ first last stub short. record { first = first; last = last; stub = stub; is = refl }))
      heard_so.joined)

  -- where the step is taken
  pub heard_answers : (table : AccountTable) (computers : Computers) (left : List (List ℕ)) (actions : List Action) →
      (step_of (controller_at table name computers (turn_link link)) (event.Bytes link (bytes_of_call request 5840)) now left).answer ≡ Ok actions →
      ComeTo (map (answer_on link w) (units_of_controller (controller_at table name computers (turn_link link)) link (bytes_of_call request 5840) now left))
      (answer_by name now link number c w (first_desk table (record { computers = computers; links = turn_link link })) left)
  heard_answers table computers left actions taken =
      subst (λ (units : List (ServedUnit Desk Talk)). ComeTo (map (answer_on link w) units) (answer_by name now link number c w (first_desk table (record { computers = computers; links = turn_link link })) left))
      (sym (units_here table name computers link now (bound_talk None turn_agreed) (bytes_of_call request 5840) left
      ∙ ap (λ (answer : Result (List Action) StepRefused). units_if_taken answer (served_units (controller_server name now link) (cut_stream (bytes_of_call request 5840)).units
      (first_desk table (record { computers = computers; links = turn_link link })) (bound_talk None turn_agreed) left)) taken))
      (call_answers (first_desk table (record { computers = computers; links = turn_link link })) left)

-- a call of the channel's own interface
pub turn_hears : (link number : ℕ) (c : Call) → number < 2 ^ 32 → IsTurnCall c → IsHeardAs link number (turn_request number c) (served_call c)
turn_hears link number c below is = record {
  sends = request_sends number c below is;
  joins = request_joins number c is;
  parts = fragments_heard link number (opnum_of_call c) (written_call c);
  hears = ap (λ (served : Bool). hear_opnum served (opnum_of_call c) (written_call c) (turn_line link number) (bound_talk None turn_agreed)) is.served
      ∙ ap (λ (sets : Bool). hear_number sets (opnum_of_call c) (written_call c) (turn_line link number) (bound_talk None turn_agreed)) (other_number c)
      ∙ ap (λ (read : Result Call StubRefused). hear_stub read (opnum_of_call c) (written_call c) (turn_line link number) (bound_talk None turn_agreed)) (call_of-written_call c is.writes is.range)
      ∙ netlogon_heard c (turn_line link number) (bound_talk None turn_agreed);
}

pub controller_answers : (name : List ℕ) (now link number : ℕ) (c : Call) (w : Where) → IsTurnCall c → (table : AccountTable) (computers : Computers) (left : List (List ℕ)) (actions : List Action) →
    number < 2 ^ 32 → (step_of (controller_at table name computers (turn_link link)) (event.Bytes link (bytes_of_call (turn_request number c) 5840)) now left).answer ≡ Ok actions →
    ComeTo (map (answer_on link w) (units_of_controller (controller_at table name computers (turn_link link)) link (bytes_of_call (turn_request number c) 5840) now left))
    (turn_answer name now link number c w (first_desk table (record { computers = computers; links = turn_link link })) left)
controller_answers name now link number c w is table computers left actions below taken =
    heard_answers name now link number (turn_request number c) (served_call c) w (turn_hears link number c below is) table computers left actions taken

set_read : (c : SetCall) → IsSetTurn c → set_call_of (written_set_call c) ≡ Ok c
unfolding set_call_of
set_read c is = stub_again set_call c _ (written_set_call c) (call_stub c is.sends.writes is.sends.range)

-- the one that sets a secret
pub set_hears : (link number : ℕ) (c : SetCall) → number < 2 ^ 32 → IsSetTurn c → IsHeardAs link number (set_request number c) (controller_call.Judged (judged_call.Set c))
set_hears link number c below is = record {
  sends = set_sends number c below is;
  joins = omega (arith, is.short);
  parts = fragments_heard link number set_opnum (written_set_call c);
  hears = ap (λ (read : Result SetCall SetRefused). hear_set read (turn_line link number) (bound_talk None turn_agreed)) (set_read c is);
}

-- ---- a bind

pub bind_answers : (table : AccountTable) (name : List ℕ) (computers : Computers) (link now number : ℕ) (w : Where) (left : List (List ℕ)) (actions : List Action) → number < 2 ^ 32 →
    (step_of (controller_at table name computers (one_link link first_talk)) (event.Bytes link (written (bind_of netlogon_syntax number))) now left).answer ≡ Ok actions →
    map (answer_on link w) (units_of_controller (controller_at table name computers (one_link link first_talk)) link (written (bind_of netlogon_syntax number)) now left) ≡ plain ∷ []
bind_answers table name computers link now number w left actions below taken =
    let sends : IsSendable (bind_of netlogon_syntax number) = turn_bind_sends number below in
    let d : Desk = first_desk table (record { computers = computers; links = one_link link first_talk }) in
    ap (λ (units : List (ServedUnit Desk Talk)). map (answer_on link w) units) (units_here table name computers link now first_talk (written (bind_of netlogon_syntax number)) left)
    ∙ ap₂ (λ (answer : Result (List Action) StepRefused) (cut : _). map (answer_on link w) (units_if_taken answer (served_units (controller_server name now link) cut d first_talk left))) taken
    (ap (λ (c : _). c.units) (one_unit (bind_of netlogon_syntax number) sends))
    ∙ ap (λ (r : Result RpcUnit UnitRefused). heard_answer (hear_read r link first_talk) w d (work_after (by_heard (hear_read r link first_talk) link name now d left))
    ∷ map (answer_on link w) (units_then (by_heard (hear_read r link first_talk) link name now d left) (λ later t rest. served_units (controller_server name now link) [] later t rest)))
    (read_again (bind_of netlogon_syntax number) sends)
