-- A client of a logon, step by step.
-- Of `clients_step`.
use Rattle.std.proofs.Common.{◌≡◌, ℕ, ◌≤◌, Bool, List, [], ◌∷◌, length, map, Option, None, Result, Ok, refl, sym, ap, subst, ◌∙◌, arith}
use Rattle.std.specs.Prelude.{◌%◌}
use Rattle.std.specs.List.{range_with_len}
use Rattle.std.proofs.lemmas.Slice.Eq.{bytes_eq-Decides}
use Rattle.memo_stubs.specs.declared.refused.MemoRefused.{MemoRefused}
use Rattle.memo_stubs.specs.Memo.{echo_reply, echo_reply_of, who_of, who_reply, written_echo_reply, written_echo_request, written_who_reply}
use Rattle.memo_stubs.proofs.MemoLaws.{reply_stub, stub_again, who_stub}
use Rattle.ntlm_seal.specs.Sessions.{SessionState}
use Rattle.outside.specs.declared.event.Event.TheVariants as event
use Rattle.outside.specs.Machine.{Stepped, step_by, then_part}
use Rattle.wire_base.specs.Numbers.{AreBytes}
use Rattle.wire_base.proofs.NumberLaws.{AreBytes-cons, AreBytes-nil}
use Rattle.std.proofs.lemmas.List.FromFn.{length-map-range_with_len}
use Rattle.wire_base.specs.Units.{AreUnits}
use Rattle.rpc_units.specs.declared.unit.Unit.{Unit as RpcUnit}
use Rattle.rpc_units.specs.Reading.{unit_of}
use Rattle.rpc_units.specs.Stream.{Cut}
use Rattle.rpc_units.specs.Writing.{written}
use Rattle.end_links.specs.Binding.{limit_of}
use Rattle.end_links.specs.Sending.{request_of}
use Rattle.end_links.specs.Serving.{ServedPart, served_cut}
use Rattle.logon_client.specs.declared.hearing.Heard.{Heard}
use Rattle.logon_client.specs.declared.plan.ClientPlan.{ClientPlan}
use Rattle.logon_client.specs.declared.securing.Sending.{Sending}
use Rattle.logon_client.specs.declared.state.Phase.{Phase}
use Rattle.logon_client.specs.declared.state.Phase.TheVariants as client_phase
use Rattle.logon_client.specs.declared.state.Question.{Question}
use Rattle.logon_client.specs.declared.state.Question.TheVariants as client_question
use Rattle.logon_client.specs.declared.state.Talk.{Talk}
use Rattle.logon_client.specs.declared.state.Terms.{Terms}
use Rattle.logon_client.specs.declared.state.Work.{Work}
use Rattle.logon_client.specs.Machine as client
use Rattle.logon_client.specs.Securing.{send_call}
use Rattle.logon_client.specs.State.{State}
use Rattle.logon_steps.specs.Answers.{drawn_of}
use Rattle.logon_steps.specs.ClientSteps.{ClientsStep, client_at, on_link}
use Rattle.logon_steps.specs.Meeting.{ack_for, offer_for}
use Rattle.logon_steps.specs.MemoCalls.{ReplyGoes, with_session}
use Rattle.logon_steps.proofs.AnswersLaws.{answers_are_asked}
use Rattle.logon_steps.proofs.MeetingLaws.{ack_sends, challenge_answered}
use Rattle.logon_steps.proofs.StreamLaws.{one_read, read_again, same, served_one, served_read}

-- ---- a unit on its link

abbrev pub stepped : ClientPlan → ℕ → Phase → List (List ℕ) → ServedPart Work Talk → Stepped State
stepped task link how left part =
    step_by client.actions_after client.state_after (client.halted (client_at task (on_link link how))) left (then_part part (client.after_stream []))

pub link_hears : (task : ClientPlan) (link now : ℕ) (how : Phase) (bytes : List ℕ) (unit : RpcUnit) (left : List (List ℕ)) (part : ServedPart Work Talk) →
    unit_of bytes ≡ Ok unit → client.serve_unit bytes (client.work_of task now) (client.talk_on link None how) left ≡ part →
    client.step_of (client_at task (on_link link how)) (event.Bytes link bytes) now left ≡ stepped task link how left part
link_hears task link now how bytes unit left part read served =
    let work : Work = client.work_of task now in
    let talk : Talk = client.talk_on link None how in
    ap (λ (own : Bool). step_by client.actions_after client.state_after (client.halted (client_at task (on_link link how))) left
    (client.by_piece own bytes (record { rest = []; talk = talk }) work left)) (same link)
    ∙ ap (λ (c : Cut). step_by client.actions_after client.state_after (client.halted (client_at task (on_link link how))) left
    (then_part (served_cut client.client_server c work talk left) (client.after_stream c.rest))) (one_read bytes unit read)
    ∙ ap (stepped task link how left) (served_read client.client_server bytes work talk left ∙ served)

-- a reply
reply_hears : (task : ClientPlan) (terms : Terms) (question : Question) (link now most number : ℕ) (stub : List ℕ) (other : Option SessionState) (left : List (List ℕ)) →
    (back : ReplyGoes most task.level number stub other terms.session) → client.awaited (client_phase.Asked terms question) ≡ number →
    client.step_of (client_at task (on_link link (client_phase.Asked terms question))) (event.Bytes link back.sent) now left
    ≡ stepped task link (client_phase.Asked terms question) left
    (client.serve_heard (client.hear_reply question stub (with_session terms back.next) link (client.work_of task now)) left)
reply_hears task terms question link now most number stub other left back waits =
    link_hears task link now (client_phase.Asked terms question) back.sent back.unit left _ back.read
    (ap (λ (what : Heard). client.serve_heard what left) (back.heard terms question link (client.work_of task now) refl refl waits))

who_read : (name : List ℕ) → length name ≤ 32767 → AreUnits name → who_of (written_who_reply name) ≡ Ok name
unfolding who_of
who_read name short are = stub_again who_reply name _ (written_who_reply name) (who_stub name short are)

remainders : (places : List ℕ) → AreBytes (map (λ (place : ℕ). place % 251) places)
remainders [] = AreBytes-nil
remainders (place ∷ places) = AreBytes-cons (place % 251) (map (λ (p : ℕ). p % 251) places) (omega arith) (remainders places)

pub echo_are : (count : ℕ) → AreBytes (client.echo_bytes count)
echo_are count = remainders (range_with_len 0 count)

pub echo_length : (count : ℕ) → length (client.echo_bytes count) ≡ count
echo_length count = length-map-range_with_len (λ (place : ℕ). place % 251) 0 count

echo_read : (count : ℕ) → count ≤ 4096 → echo_reply_of (written_echo_reply (client.echo_bytes count)) ≡ Ok (client.echo_bytes count)
unfolding echo_reply_of
echo_read count short =
    stub_again echo_reply (client.echo_bytes count) _ (written_echo_reply (client.echo_bytes count))
    (reply_stub (client.echo_bytes count) (subst (λ (n : ℕ). n ≤ 4096) (sym (echo_length count)) short) (echo_are count))

abbrev echo_call : ClientPlan → RpcUnit
echo_call task = request_of client.echo_number 0 client.echo_opnum (written_echo_request (client.echo_bytes task.echo))

pub clients_step : ClientsStep
clients_step = record {
  begins = λ task. refl;
  dialled = λ task link now left. refl;
  failed = λ task now left. refl;
  closed = λ task link now how left.
      ap (λ (own : Bool). step_by client.actions_after client.state_after (client.halted (client_at task (on_link link how))) left
      (client.by_close own (record { rest = []; talk = client.talk_on link None how }) (client.work_of task now) left)) (same link);
  challenged = λ plan task challenge one two three link now sending left can short eight are is.
      let draws : List (List ℕ) = one ∷ two ∷ three ∷ left in
      let work : Work = client.work_of task now in
      link_hears task link now client_phase.Bound (written (ack_for plan task challenge)) (ack_for plan task challenge) draws
      (client.answers_part (offer_for plan task challenge now) link work (drawn_of one two three) left)
      (read_again (ack_for plan task challenge) (ack_sends plan task challenge short eight))
      (sym (served_one client.client_server (ack_for plan task challenge) work (client.talk_on link None client_phase.Bound) draws (ack_sends plan task challenge short eight))
      ∙ challenge_answered plan work challenge one two three left link can short eight)
      ∙ ap (λ (done : Work × Option Talk). stepped task link client_phase.Bound draws (Ok (record { value = done; left = left })))
      (answers_are_asked.goes plan work challenge one two three link sending can short are is);
  named = λ task terms name link now most other left back short are none.
      let work : Work = client.work_of task now in
      reply_hears task terms client_question.Who link now most 2 (written_who_reply name) other left back refl
      ∙ ap (λ (read : Result (List ℕ) MemoRefused). stepped task link (client_phase.Asked terms client_question.Who) left (client.serve_heard (client.hear_name read (with_session terms back.next) link work) left))
      (who_read name short are)
      ∙ ap (λ (nothing : Bool). stepped task link (client_phase.Asked terms client_question.Who) left (client.serve_heard (client.hear_name_by nothing name (with_session terms back.next) link work) left)) none;
  asks_echo = λ task terms name link now most other sending left back short are some receive is.
      let work : Work = client.work_of task now in
      reply_hears task terms client_question.Who link now most 2 (written_who_reply name) other left back refl
      ∙ ap (λ (read : Result (List ℕ) MemoRefused). stepped task link (client_phase.Asked terms client_question.Who) left (client.serve_heard (client.hear_name read (with_session terms back.next) link work) left))
      (who_read name short are)
      ∙ ap (λ (nothing : Bool). stepped task link (client_phase.Asked terms client_question.Who) left (client.serve_heard (client.hear_name_by nothing name (with_session terms back.next) link work) left)) some
      ∙ ap (λ (size : ℕ). stepped task link (client_phase.Asked terms client_question.Who) left (client.serve_heard (client.done (client.asks
      (send_call back.next task.level (echo_call task) (limit_of size)) (with_session terms back.next) (client_question.Echo name) link work)) left)) receive
      ∙ ap (λ (s : Option Sending). stepped task link (client_phase.Asked terms client_question.Who) left (client.serve_heard (client.done (client.asks
      s (with_session terms back.next) (client_question.Echo name) link work)) left)) is;
  echoed = λ task terms name link now most other left back can.
      let work : Work = client.work_of task now in
      reply_hears task terms (client_question.Echo name) link now most 3 (written_echo_reply (client.echo_bytes task.echo)) other left back refl
      ∙ ap (λ (read : Result (List ℕ) MemoRefused). stepped task link (client_phase.Asked terms (client_question.Echo name)) left
      (client.serve_heard (client.hear_echo read name (with_session terms back.next) link work) left)) (echo_read task.echo can.echo)
      ∙ ap (λ (alike : Bool). stepped task link (client_phase.Asked terms (client_question.Echo name)) left (client.serve_heard (client.hear_echo_by alike name (with_session terms back.next) link work) left))
      ((bytes_eq-Decides (client.echo_bytes task.echo) (client.echo_bytes task.echo)).1 refl);
}
