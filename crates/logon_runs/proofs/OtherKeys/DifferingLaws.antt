-- A request that comes to a member, and a reply that comes to its client, whatever session each of both has.
-- Of `keys_may_differ`.
use Rattle.std.proofs.Common.{◌≡◌, ℕ, ◌≤◌, ◌<◌, ◌-◌, ◌^◌, ◌==◌, suc, Bool, true, false, List, length, Option, Some, None, Result, Ok, Err, refl, ap, subst, ◌∙◌, arith, inl, inr}
use Rattle.std.specs.Prelude.{◌⊎◌, nat_le, bytes_eq}
use Rattle.ntlm_seal.specs.Sessions.{SessionState}
use Rattle.outside.specs.declared.action.CloseCause.{CloseCause}
use Rattle.outside.specs.declared.action.CloseCause.TheVariants as close
use Rattle.rpc_units.specs.declared.refused.UnitRefused.{UnitRefused}
use Rattle.rpc_units.specs.declared.unit.Body.{Body}
use Rattle.rpc_units.specs.declared.unit.Body.TheVariants.{Auth3, Bind, BindAck, BindNak, Fault, Request, Response}
use Rattle.rpc_units.specs.declared.unit.Trailer.{Trailer}
use Rattle.rpc_units.specs.declared.unit.Unit.{Unit as RpcUnit}
use Rattle.rpc_units.specs.Calls.{CanBeSent, bytes_of_call}
use Rattle.rpc_units.specs.Joining.{answer_by, joined_by, joined_of}
use Rattle.rpc_units.specs.Reading.{unit_of}
use Rattle.rpc_units.specs.Writing.{IsSendable, written}
use Rattle.rpc_units.proofs.WritingLaws.{length_written}
use Rattle.end_links.specs.Agreed.{accepts}
use Rattle.end_links.specs.Binding.{limit_of as unit_limit}
use Rattle.end_links.specs.Sending.{fault_of, request_of}
use Rattle.memo_stubs.specs.declared.refused.MemoRefused.{MemoRefused}
use Rattle.memo_stubs.specs.Memo.{echo_reply_of, echo_request_of, who_of, written_echo_request}
use Rattle.memo_stubs.proofs.MemoLaws.{request_stub, who_stub}
use Rattle.wire_base.specs.Units.{AreUnits}
use Rattle.logon_client.specs.declared.hearing.Heard.{Heard}
use Rattle.logon_client.specs.declared.outcome.ClientOutcome.{ClientOutcome}
use Rattle.logon_client.specs.declared.outcome.ClientOutcome.TheVariants.{BadPeer, In}
use Rattle.logon_client.specs.declared.outcome.PeerFault.TheVariants as peer_fault
use Rattle.logon_client.specs.declared.plan.ClientPlan.{ClientPlan}
use Rattle.logon_client.specs.declared.securing.Sending.{Sending}
use Rattle.logon_client.specs.declared.state.Phase.TheVariants as client_phase
use Rattle.logon_client.specs.declared.state.Question.{Question}
use Rattle.logon_client.specs.declared.state.Question.TheVariants as client_question
use Rattle.logon_client.specs.declared.state.Terms.{Terms}
use Rattle.logon_client.specs.Machine as client
use Rattle.unit_security.specs.Levels.{is_plain, is_sealed}
use Rattle.logon_client.specs.Plans.{CanLogOn}
use Rattle.unit_security.specs.declared.securing.Secured.{Secured}
use Rattle.unit_security.specs.Opening.{HasRoom, Travels}
use Rattle.unit_security.specs.Securing.{open_unit, secure_all}
use Rattle.logon_client.specs.Securing.{has_level, send_call, sent_secured}
use Rattle.member_server.specs.declared.memo.Answer.{Answer}
use Rattle.member_server.specs.declared.memo.Answer.TheVariants as answer
use Rattle.member_server.specs.declared.state.AtLink.{AtLink}
use Rattle.member_server.specs.declared.state.Bound.{Bound}
use Rattle.member_server.specs.declared.state.LoggedOn.{LoggedOn}
use Rattle.member_server.specs.Memo.{call_answer, echo_answer, memo_answer, who_answer}
use Rattle.member_server.specs.Requests.{cause_by, is_due, join_by, join_opened, join_unit, open_request, reply, secure_reply, send_reply, signed_cause, signed_unit, talk_in, unit_in, with_session}
use Rattle.member_server.specs.Work.{Served, send, shut, stay}
use Rattle.logon_steps.specs.MemoCalls.{logged_on, one_unit_limit}
use Rattle.logon_steps.proofs.ClientStepLaws.{echo_length, echo_are, link_hears, stepped}
use Rattle.logon_steps.proofs.MemoCallLaws.{one_bytes, one_fragment, one_sends, reply_room, request_at, request_can, request_room, response_at, response_can, secured_one, signed_reply_at, signed_reply_sent, signed_request_at}
use Rattle.unit_security.proofs.OpeningLaws.{secured_is_opened}
use Rattle.logon_steps.proofs.StreamLaws.{read_again}
use Rattle.logon_runs.specs.OtherKeys.Differing.{AreTerms, AsksEcho, HasItsOutcome, HasSent, Hears, IsLetIn, IsReplied, IsRequest, IsShut, IsSingle, KeysMayDiffer, single_unit}
use Rattle.logon_runs.proofs.Failing.FailingStepLaws.{fault_sends}
use Rattle.logon_runs.proofs.OtherKeys.EchoSizeLaws.{echo_fits, echo_reply_size}
use Rattle.logon_runs.proofs.OtherKeys.OpeningLaws.{mirror, mirrored, what_opens}

-- ---- sessions

more_sent : (sent : ℕ) (session : Option SessionState) → HasSent sent session → HasSent (suc sent) session
more_sent sent None has = tt
more_sent sent (Some s) has = (has.0, omega (arith, has.1))

-- ---- what a member's answer comes to

-- the link is closed
record Shuts (served : AtLink → Served) : Type 0 where
  cause : CloseCause
  shuts : (at : AtLink) → served at ≡ shut cause at

-- a member that is asked sends one unit, and the user stays
record Replies (task : ClientPlan) (sent : ℕ) (served : AtLink → Served) : Type 0 where
  bytes : List ℕ
  later : LoggedOn
  fits : IsSingle bytes
  let_in : IsLetIn task (suc sent) later
  replies : (at : AtLink) → served at ≡ stay (send at bytes) (talk_in None later)

Serves : ClientPlan → ℕ → (AtLink → Served) → Type 0
Serves task sent served = Shuts served ⊎ Replies task sent served

carried : (task : ClientPlan) (sent : ℕ) (one other : AtLink → Served) → ((at : AtLink) → one at ≡ other at) → Serves task sent other → Serves task sent one
unfolding Serves
carried task sent one other same (inl is) = inl (record { cause = is.cause; shuts = λ at. same at ∙ is.shuts at })
carried task sent one other same (inr is) =
    inr (record { bytes = is.bytes; later = is.later; fits = is.fits; let_in = is.let_in; replies = λ at. same at ∙ is.replies at })

closes : (task : ClientPlan) (sent : ℕ) (cause : CloseCause) → Serves task sent (λ at. shut cause at)
unfolding Serves
closes task sent cause = inl (record { cause = cause; shuts = λ at. refl })

-- ---- a reply

-- what fits into one unit
AnswerFits : Answer → Type 0
AnswerFits (answer.Fault status) = status < 2 ^ 32
AnswerFits (answer.Stub stub) = length stub ≤ one_unit_limit

-- what is written of a unit that can be sent
written_single : (call : ℕ) (body : Body) (trailer : Option Trailer) → IsSendable (single_unit call body trailer) → IsSingle (written (single_unit call body trailer))
written_single call body trailer sends = record {
  call = call;
  body = body;
  trailer = trailer;
  read = read_again (single_unit call body trailer) sends;
  some = omega (arith, length_written (single_unit call body trailer));
  short = sends.short;
}

-- who is let in, with another session
let_in_still : (task : ClientPlan) (sent next : ℕ) (on : LoggedOn) (session : Option SessionState) → HasSent next session → IsLetIn task sent on → IsLetIn task next (logged_on on session)
let_in_still task sent next on session has is = record { bound = is.bound; name = is.name; units = is.units; session = has }

abbrev limit_of : Bound → ℕ
limit_of bound = bound.binding.limit

signed_by : (task : ClientPlan) (sent call : ℕ) (stub : List ℕ) (on : LoggedOn) (s : SessionState) → sent < 2 ^ 32 - 1 → call < 2 ^ 32 → length stub ≤ one_unit_limit → is_plain task.level ≡ false →
    on.session ≡ Some s → HasSent sent (Some s) → IsLetIn task sent on →
    Travels (is_sealed task.level) (signed_reply_at task.level call stub) s (mirror s) → Serves task sent (λ at. send_reply (is_plain task.level) call 0 stub on None at)
unfolding Serves
signed_by task sent call stub on s few below short plain is_session has is t =
    let room : HasRoom (signed_reply_at task.level call stub) = reply_room task.level call stub below short in
    inr (record {
      bytes = t.sent;
      later = logged_on on (Some t.later);
      fits = record {
        call = call;
        body = _;
        trailer = _;
        read = t.read;
        some = omega (arith, t.size, length_written (signed_reply_at task.level call stub));
        short = omega (arith, t.size, room.sends.short);
      };
      let_in = let_in_still task sent (suc sent) on (Some t.later) (t.paired.there.sends, omega (arith, t.count, has.1)) is;
      replies = λ at.
          signed_reply_sent task.level call stub (mirror s) s short plain t on at (ap Bound.level is.bound) (ap Bound.context is.bound) (ap limit_of is.bound) is_session;
    })

-- a reply is sent plain at the level without signatures, else under the session that is kept
stub_reply : (plain : Bool) (session : Option SessionState) (task : ClientPlan) (sent call : ℕ) (stub : List ℕ) (on : LoggedOn) → is_plain task.level ≡ plain → on.session ≡ session →
    sent < 2 ^ 32 - 1 → call < 2 ^ 32 → length stub ≤ one_unit_limit → IsLetIn task sent on → Serves task sent (λ at. send_reply (is_plain task.level) call 0 stub on None at)
unfolding Serves
stub_reply true session task sent call stub on plain is_session few below short is =
    let can : CanBeSent (response_at call stub None) 5840 = response_can call stub None below short tt in
    inr (record {
      bytes = written (response_at call stub None);
      later = on;
      fits = written_single call (Response (length stub) 0 stub) None (one_sends (response_at call stub None) can short);
      let_in = let_in_still task sent (suc sent) on on.session (more_sent sent on.session is.session) is;
      replies = λ at.
          ap (λ (p : Bool). send_reply p call 0 stub on None at) plain
          ∙ ap (λ (b : Bound). stay (send at (bytes_of_call (response_at call stub None) (limit_of b))) (talk_in None on)) is.bound
          ∙ ap (λ (bytes : List ℕ). stay (send at bytes) (talk_in None on)) (one_bytes (response_at call stub None) can short);
    })
stub_reply false None task sent call stub on plain is_session few below short is =
    carried task sent _ (λ at. shut close.BadAuthentication at)
    (λ at. ap (λ (p : Bool). send_reply p call 0 stub on None at) plain ∙ ap (λ (s : Option SessionState). secure_reply s call 0 stub on None at) is_session)
    (closes task sent close.BadAuthentication)
stub_reply false (Some s) task sent call stub on plain is_session few below short is =
    let has : HasSent sent (Some s) = subst (HasSent sent) is_session is.session in
    signed_by task sent call stub on s few below short plain is_session has is
    (secured_is_opened (is_sealed task.level) (signed_reply_at task.level call stub) s (mirror s) (reply_room task.level call stub below short) (mirrored s has.0) (omega (arith, has.1, few)))

replied : (task : ClientPlan) (sent call : ℕ) (what : Answer) (on : LoggedOn) → sent < 2 ^ 32 - 1 → call < 2 ^ 32 → AnswerFits what → IsLetIn task sent on →
    Serves task sent (λ at. reply what call 0 on None at)
unfolding Serves AnswerFits
replied task sent call (answer.Fault status) on few below fits is =
    inr (record {
      bytes = written (fault_of call 0 status);
      later = on;
      fits = written_single call (Fault 0 0 status) None (fault_sends call status below fits);
      let_in = let_in_still task sent (suc sent) on on.session (more_sent sent on.session is.session) is;
      replies = λ at. refl;
    })
replied task sent call (answer.Stub stub) on few below fits is =
    carried task sent _ (λ at. send_reply (is_plain task.level) call 0 stub on None at)
    (λ at. ap (λ (b : Bound). send_reply (is_plain b.level) call 0 stub on None at) is.bound)
    (stub_reply (is_plain task.level) on.session task sent call stub on refl refl few below fits is)

-- ---- the answer of each operation

who_answer_fits : (short : Bool) (name : List ℕ) → length name ≤ 129 → AreUnits name → AnswerFits (who_answer short name)
unfolding AnswerFits
who_answer_fits false name few are = omega arith
who_answer_fits true name few are = omega (arith, few, (who_stub name (omega (arith, few)) are).short)

echo_answer_fits : (read : Result (List ℕ) MemoRefused) (stub : List ℕ) → echo_request_of stub ≡ read → AnswerFits (echo_answer read)
unfolding AnswerFits
echo_answer_fits (Err why) stub is = omega arith
echo_answer_fits (Ok bytes) stub is = omega (arith, echo_fits stub bytes is, echo_reply_size bytes)

memo_answer_fits : (who echo : Bool) (name stub : List ℕ) → length name ≤ 129 → AreUnits name → AnswerFits (memo_answer who echo name stub)
unfolding AnswerFits
memo_answer_fits true echo name stub few are = who_answer_fits (nat_le (length name) 32767) name few are
memo_answer_fits false true name stub few are = echo_answer_fits (echo_request_of stub) stub refl
memo_answer_fits false false name stub few are = omega arith

answer_fits : (accepted : Bool) (opnum : ℕ) (name stub : List ℕ) → length name ≤ 129 → AreUnits name → AnswerFits (call_answer accepted opnum name stub)
unfolding AnswerFits
answer_fits false opnum name stub few are = omega arith
answer_fits true opnum name stub few are = memo_answer_fits (opnum == 0) (opnum == 1) name stub few are

-- ---- a request in plain form

-- a request whose stub is too long for a call is refused
joined_if : (fits : Bool) (task : ClientPlan) (sent call hint opnum : ℕ) (stub : List ℕ) (trailer : Option Trailer) (on : LoggedOn) (bytes : List ℕ) → nat_le (length stub) 65536 ≡ fits →
    unit_of bytes ≡ Ok (single_unit call (Request hint 0 opnum stub) trailer) → sent < 2 ^ 32 - 1 → call < 2 ^ 32 → IsLetIn task sent on → Serves task sent (λ at. join_unit (unit_of bytes) on None at)
unfolding joined_of
joined_if false task sent call hint opnum stub trailer on bytes fits read few below is =
    let unit : RpcUnit = single_unit call (Request hint 0 opnum stub) trailer in
    carried task sent _ (λ at. shut close.TooMuchHeld at)
    (λ at. ap (λ (u : Result RpcUnit UnitRefused). join_unit u on None at) read ∙ ap (λ (f : Bool). join_by (answer_by (joined_by true f unit) true) None on at) fits)
    (closes task sent close.TooMuchHeld)
joined_if true task sent call hint opnum stub trailer on bytes fits read few below is =
    let unit : RpcUnit = single_unit call (Request hint 0 opnum stub) trailer in
    let what : Answer = call_answer (accepts on.bound.binding 0) opnum on.name stub in
    carried task sent _ (λ at. reply what call 0 on None at)
    (λ at. ap (λ (u : Result RpcUnit UnitRefused). join_unit u on None at) read ∙ ap (λ (f : Bool). join_by (answer_by (joined_by true f unit) true) None on at) fits)
    (replied task sent call what on few below (answer_fits (accepts on.bound.binding 0) opnum on.name stub is.name is.units) is)

-- ---- a request that the session opens, where it takes it

opened_by : (opened : Option Secured) (task : ClientPlan) (sent call hint opnum : ℕ) (stub : List ℕ) (trailer : Option Trailer) (on : LoggedOn) (s : SessionState) (bytes : List ℕ) →
    open_unit (is_sealed on.bound.level) s bytes ≡ opened → unit_of bytes ≡ Ok (single_unit call (Request hint 0 opnum stub) trailer) → sent < 2 ^ 32 - 1 →
    call < 2 ^ 32 → HasSent sent (Some s) → IsLetIn task sent on → Serves task sent (λ at. join_opened (open_unit (is_sealed on.bound.level) s bytes) on None at)
opened_by None task sent call hint opnum stub trailer on s bytes opens read few below has is =
    carried task sent _ (λ at. shut close.BadAuthentication at)
    (λ at. ap (λ (o : Option Secured). join_opened o on None at) opens)
    (closes task sent close.BadAuthentication)
opened_by (Some secured) task sent call hint opnum stub trailer on s bytes opens read few below has is =
    let taken = what_opens (is_sealed on.bound.level) s bytes (single_unit call (Request hint 0 opnum stub) trailer) sent secured read has.1 opens in
    carried task sent _ (λ at. join_unit (unit_of secured.bytes) (with_session on secured.session) None at)
    (λ at. ap (λ (o : Option Secured). join_opened o on None at) opens)
    (joined_if (nat_le (length taken.0.0) 65536) task sent call hint opnum taken.0.0 trailer (with_session on secured.session) secured.bytes refl taken.0.1 few below
    (let_in_still task sent sent on (Some secured.session) taken.1 is))

opened : (session : Option SessionState) (task : ClientPlan) (sent call hint opnum : ℕ) (stub : List ℕ) (trailer : Option Trailer) (on : LoggedOn) (bytes : List ℕ) → on.session ≡ session →
    unit_of bytes ≡ Ok (single_unit call (Request hint 0 opnum stub) trailer) → sent < 2 ^ 32 - 1 → call < 2 ^ 32 → IsLetIn task sent on →
    Serves task sent (λ at. open_request on.session bytes on None at)
opened None task sent call hint opnum stub trailer on bytes is_session read few below is =
    carried task sent _ (λ at. shut close.BadAuthentication at) (λ at. ap (λ (s : Option SessionState). open_request s bytes on None at) is_session) (closes task sent close.BadAuthentication)
opened (Some s) task sent call hint opnum stub trailer on bytes is_session read few below is =
    carried task sent _ (λ at. join_opened (open_unit (is_sealed on.bound.level) s bytes) on None at)
    (λ at. ap (λ (other : Option SessionState). open_request other bytes on None at) is_session)
    (opened_by (open_unit (is_sealed on.bound.level) s bytes) task sent call hint opnum stub trailer on s bytes refl read few below (subst (HasSent sent) is_session is.session) is)

-- a request without the trailer that is due is refused
signed_if : (due : Bool) (task : ClientPlan) (sent call hint opnum : ℕ) (stub : List ℕ) (trailer : Option Trailer) (on : LoggedOn) (bytes : List ℕ) → is_due on.bound.level trailer ≡ due →
    unit_of bytes ≡ Ok (single_unit call (Request hint 0 opnum stub) trailer) → sent < 2 ^ 32 - 1 → call < 2 ^ 32 → IsLetIn task sent on → Serves task sent (λ at. unit_in false bytes on None at)
signed_if false task sent call hint opnum stub trailer on bytes due read few below is =
    carried task sent _ (λ at. shut close.BadAuthentication at)
    (λ at.
    ap (λ (u : Result RpcUnit UnitRefused). signed_unit (signed_cause u on.bound.level) bytes on None at) read
    ∙ ap (λ (d : Bool). signed_unit (cause_by (Request hint 0 opnum stub) d) bytes on None at) due)
    (closes task sent close.BadAuthentication)
signed_if true task sent call hint opnum stub trailer on bytes due read few below is =
    carried task sent _ (λ at. open_request on.session bytes on None at)
    (λ at.
    ap (λ (u : Result RpcUnit UnitRefused). signed_unit (signed_cause u on.bound.level) bytes on None at) read
    ∙ ap (λ (d : Bool). signed_unit (cause_by (Request hint 0 opnum stub) d) bytes on None at) due)
    (opened on.session task sent call hint opnum stub trailer on bytes refl read few below is)

-- at the level without signatures a request is taken as it is
served_if : (plain : Bool) (task : ClientPlan) (sent call opnum : ℕ) (on : LoggedOn) (bytes : List ℕ) → is_plain on.bound.level ≡ plain → IsRequest call opnum bytes → sent < 2 ^ 32 - 1 → call < 2 ^ 32 →
    IsLetIn task sent on → Serves task sent (λ at. unit_in (is_plain on.bound.level) bytes on None at)
served_if true task sent call opnum on bytes plain r few below is =
    carried task sent _ (λ at. join_unit (unit_of bytes) on None at) (λ at. ap (λ (p : Bool). unit_in p bytes on None at) plain)
    (joined_if (nat_le (length r.stub) 65536) task sent call r.hint opnum r.stub r.trailer on bytes refl r.read few below is)
served_if false task sent call opnum on bytes plain r few below is =
    carried task sent _ (λ at. unit_in false bytes on None at) (λ at. ap (λ (p : Bool). unit_in p bytes on None at) plain)
    (signed_if (is_due on.bound.level r.trailer) task sent call r.hint opnum r.stub r.trailer on bytes refl r.read few below is)

answered : (task : ClientPlan) (sent : ℕ) (on : LoggedOn) (bytes : List ℕ) → Serves task sent (λ at. unit_in (is_plain on.bound.level) bytes on None at) → IsShut on bytes ⊎ IsReplied task sent on bytes
unfolding Serves
answered task sent on bytes (inl is) = inl (record { cause = is.cause; shuts = is.shuts })
answered task sent on bytes (inr is) = inr (record { reply = is.bytes; later = is.later; fits = is.fits; let_in = is.let_in; replies = is.replies })

-- ---- a request that a client sends

pub record Asks (level call opnum : ℕ) (stub : List ℕ) (session : Option SessionState) (sent : ℕ) : Type 0 where
  pub sending : Sending
  pub goes : send_call session level (request_of call 0 opnum stub) 5840 ≡ Some sending
  pub request : IsRequest call opnum sending.bytes
  pub has : HasSent (suc sent) sending.session

signed_asks : (level call opnum : ℕ) (stub : List ℕ) (s : SessionState) (sent : ℕ) → call < 2 ^ 32 → opnum < 2 ^ 16 → length stub ≤ one_unit_limit → HasSent sent (Some s) →
    Travels (is_sealed level) (signed_request_at level call opnum stub) s (mirror s) → Asks level call opnum stub (Some s) sent
signed_asks level call opnum stub s sent below op short has t =
    let unit : RpcUnit = signed_request_at level call opnum stub in
    let room : HasRoom unit = request_room level call opnum stub below op short in
    record {
      sending = record { bytes = t.sent; session = Some t.later };
      goes = ap (λ (units : List RpcUnit). sent_secured (secure_all (is_sealed level) s units))
          (one_fragment unit (record { stub = tt; first = refl; last = refl }) short)
          ∙ ap sent_secured (secured_one (is_sealed level) s unit t.sent t.later t.secured);
      request = record {
        hint = length stub;
        stub = t.stub;
        trailer = _;
        read = t.read;
        some = omega (arith, t.size, length_written unit);
        short = omega (arith, t.size, room.sends.short);
      };
      has = (t.paired.there.sends, omega (arith, t.count, has.1));
    }

pub asks_by : (level call opnum : ℕ) (stub : List ℕ) (session : Option SessionState) (sent : ℕ) → sent < 2 ^ 32 - 1 → call < 2 ^ 32 → opnum < 2 ^ 16 → length stub ≤ one_unit_limit → HasSent sent session →
    Asks level call opnum stub session sent
asks_by level call opnum stub None sent few below op short has =
    let unit : RpcUnit = request_at call opnum stub None in
    let can : CanBeSent unit 5840 = request_can call opnum stub None below op short tt in
    let sends : IsSendable unit = one_sends unit can short in
    record {
      sending = record { bytes = written unit; session = None };
      goes = ap (λ (bytes : List ℕ). Some (record { bytes = bytes; session = None })) (one_bytes unit can short);
      request = record { hint = length stub; stub = stub; trailer = None; read = read_again unit sends; some = omega (arith, length_written unit); short = sends.short };
      has = tt;
    }
asks_by level call opnum stub (Some s) sent few below op short has =
    signed_asks level call opnum stub s sent below op short has
    (secured_is_opened (is_sealed level) (signed_request_at level call opnum stub) s (mirror s) (request_room level call opnum stub below op short) (mirrored s has.0) (omega (arith, has.1, few)))

-- ---- what a client makes of a reply, on whichever link and whenever

-- a client that hears a reply has an outcome
record Fails (task : ClientPlan) (heard : ℕ → ℕ → Heard) : Type 0 where
  outcome : ClientOutcome
  fails : (link now : ℕ) → heard link now ≡ client.fails outcome link (client.work_of task now)

-- a client that hears a reply asks for its echo
record Echoes (task : ClientPlan) (sent : ℕ) (heard : ℕ → ℕ → Heard) : Type 0 where
  name : List ℕ
  terms : Terms
  fits : AreTerms sent terms
  echoes : (link now : ℕ) → heard link now ≡ client.done (client.asks_echo name terms link (client.work_of task now))

HearsAs : ClientPlan → ℕ → Question → (ℕ → ℕ → Heard) → Type 0
HearsAs task sent client_question.Who heard = Fails task heard ⊎ Echoes task sent heard
HearsAs task sent (client_question.Echo name) heard = Fails task heard

as_heard : (task : ClientPlan) (sent : ℕ) (question : Question) (one other : ℕ → ℕ → Heard) → ((link now : ℕ) → one link now ≡ other link now) → HearsAs task sent question other → HearsAs task sent question one
unfolding HearsAs
as_heard task sent client_question.Who one other same (inl is) = inl (record { outcome = is.outcome; fails = λ link now. same link now ∙ is.fails link now })
as_heard task sent client_question.Who one other same (inr is) =
    inr (record { name = is.name; terms = is.terms; fits = is.fits; echoes = λ link now. same link now ∙ is.echoes link now })
as_heard task sent (client_question.Echo name) one other same is = record { outcome = is.outcome; fails = λ link now. same link now ∙ is.fails link now }

fails_so : (task : ClientPlan) (sent : ℕ) (question : Question) (outcome : ClientOutcome) → HearsAs task sent question (λ link now. client.fails outcome link (client.work_of task now))
unfolding HearsAs
fails_so task sent client_question.Who outcome = inl (record { outcome = outcome; fails = λ link now. refl })
fails_so task sent (client_question.Echo name) outcome = record { outcome = outcome; fails = λ link now. refl }

-- ---- the stub of a whole response

-- a client that echoes nothing ends where its name comes
name_if : (silent : Bool) (task : ClientPlan) (sent : ℕ) (terms : Terms) (name : List ℕ) → AreTerms sent terms →
    HearsAs task sent client_question.Who (λ link now. client.hear_name_by silent name terms link (client.work_of task now))
unfolding HearsAs
name_if true task sent terms name are = inl (record { outcome = In name terms.key 0; fails = λ link now. refl })
name_if false task sent terms name are = inr (record { name = name; terms = terms; fits = are; echoes = λ link now. refl })

name_heard : (read : Result (List ℕ) MemoRefused) (task : ClientPlan) (sent : ℕ) (terms : Terms) → AreTerms sent terms →
    HearsAs task sent client_question.Who (λ link now. client.hear_name read terms link (client.work_of task now))
name_heard (Err why) task sent terms are = fails_so task sent client_question.Who (BadPeer peer_fault.BadReply)
name_heard (Ok name) task sent terms are = name_if (task.echo == 0) task sent terms name are

-- other bytes than those that were sent are no echo
echo_if : (same : Bool) (task : ClientPlan) (sent : ℕ) (terms : Terms) (name : List ℕ) →
    HearsAs task sent (client_question.Echo name) (λ link now. client.hear_echo_by same name terms link (client.work_of task now))
echo_if true task sent terms name = fails_so task sent (client_question.Echo name) (In name terms.key task.echo)
echo_if false task sent terms name = fails_so task sent (client_question.Echo name) (BadPeer peer_fault.BadReply)

echo_heard : (read : Result (List ℕ) MemoRefused) (task : ClientPlan) (sent : ℕ) (terms : Terms) (name : List ℕ) →
    HearsAs task sent (client_question.Echo name) (λ link now. client.hear_echo read name terms link (client.work_of task now))
echo_heard (Err why) task sent terms name = fails_so task sent (client_question.Echo name) (BadPeer peer_fault.BadReply)
echo_heard (Ok bytes) task sent terms name = echo_if (bytes_eq bytes (client.echo_bytes task.echo)) task sent terms name

stub_heard : (question : Question) (task : ClientPlan) (sent : ℕ) (terms : Terms) (stub : List ℕ) → AreTerms sent terms →
    HearsAs task sent question (λ link now. client.hear_reply question stub terms link (client.work_of task now))
stub_heard client_question.Who task sent terms stub are = name_heard (who_of stub) task sent terms are
stub_heard (client_question.Echo name) task sent terms stub are = echo_heard (echo_reply_of stub) task sent terms name

-- ---- a response

-- a response whose stub is too long for a call is refused
fragment_if : (fits : Bool) (question : Question) (task : ClientPlan) (sent call hint context : ℕ) (stub : List ℕ) (trailer : Option Trailer) (terms : Terms) → nat_le (length stub) 65536 ≡ fits →
    AreTerms sent terms →
    HearsAs task sent question (λ link now. client.hear_fragment (single_unit call (Response hint context stub) trailer) None terms question link (client.work_of task now))
unfolding joined_of
fragment_if false question task sent call hint context stub trailer terms fits are =
    as_heard task sent question _ (λ link now. client.fails (BadPeer peer_fault.OutOfPlace) link (client.work_of task now))
    (λ link now. ap (λ (f : Bool). client.hear_joined (answer_by (joined_by true f (single_unit call (Response hint context stub) trailer)) true) None terms question link (client.work_of task now)) fits)
    (fails_so task sent question (BadPeer peer_fault.OutOfPlace))
fragment_if true question task sent call hint context stub trailer terms fits are =
    as_heard task sent question _ (λ link now. client.hear_reply question stub terms link (client.work_of task now))
    (λ link now. ap (λ (f : Bool). client.hear_joined (answer_by (joined_by true f (single_unit call (Response hint context stub) trailer)) true) None terms question link (client.work_of task now)) fits)
    (stub_heard question task sent terms stub are)

fragment_heard : (question : Question) (task : ClientPlan) (sent call hint context : ℕ) (stub : List ℕ) (trailer : Option Trailer) (terms : Terms) → AreTerms sent terms →
    HearsAs task sent question (λ link now. client.hear_fragment (single_unit call (Response hint context stub) trailer) None terms question link (client.work_of task now))
fragment_heard question task sent call hint context stub trailer terms are =
    fragment_if (nat_le (length stub) 65536) question task sent call hint context stub trailer terms refl are

opened_heard : (secured : Option Secured) (question : Question) (task : ClientPlan) (sent call hint context : ℕ) (stub : List ℕ) (trailer : Option Trailer) (terms : Terms) (s : SessionState) (bytes : List ℕ) →
    open_unit (is_sealed task.level) s bytes ≡ secured → unit_of bytes ≡ Ok (single_unit call (Response hint context stub) trailer) → HasSent sent (Some s) → AreTerms sent terms →
    HearsAs task sent question (λ link now. client.hear_opened secured None terms question link (client.work_of task now))
opened_heard None question task sent call hint context stub trailer terms s bytes opens read has are = fails_so task sent question (BadPeer peer_fault.BadSeal)
opened_heard (Some secured) question task sent call hint context stub trailer terms s bytes opens read has are =
    let taken = what_opens (is_sealed task.level) s bytes (single_unit call (Response hint context stub) trailer) sent secured read has.1 opens in
    let later : Terms = record terms { session = Some secured.session } in
    as_heard task sent question _ (λ link now. client.hear_fragment (single_unit call (Response hint context taken.0.0) trailer) None later question link (client.work_of task now))
    (λ link now. ap (λ (u : Result RpcUnit UnitRefused). client.hear_unit_opened u None later question link (client.work_of task now)) taken.0.1)
    (fragment_heard question task sent call hint context taken.0.0 trailer later (record { receive = are.receive; session = taken.1 }))

-- a response whose trailer is of another level is refused
secured_heard : (level : Bool) (question : Question) (task : ClientPlan) (sent call hint context : ℕ) (stub : List ℕ) (trailer : Option Trailer) (terms : Terms) (s : SessionState) (bytes : List ℕ) →
    unit_of bytes ≡ Ok (single_unit call (Response hint context stub) trailer) → HasSent sent (Some s) → AreTerms sent terms →
    HearsAs task sent question (λ link now. client.hear_secured level bytes s None terms question link (client.work_of task now))
secured_heard false question task sent call hint context stub trailer terms s bytes read has are = fails_so task sent question (BadPeer peer_fault.BadSeal)
secured_heard true question task sent call hint context stub trailer terms s bytes read has are =
    opened_heard (open_unit (is_sealed task.level) s bytes) question task sent call hint context stub trailer terms s bytes refl read has are

response_heard : (session : Option SessionState) (question : Question) (task : ClientPlan) (sent call hint context : ℕ) (stub : List ℕ) (trailer : Option Trailer) (terms : Terms) (bytes : List ℕ) →
    unit_of bytes ≡ Ok (single_unit call (Response hint context stub) trailer) → HasSent sent session → AreTerms sent terms →
    HearsAs task sent question (λ link now. client.hear_response session (single_unit call (Response hint context stub) trailer) bytes None terms question link (client.work_of task now))
response_heard None question task sent call hint context stub trailer terms bytes read has are = fragment_heard question task sent call hint context stub trailer terms are
response_heard (Some s) question task sent call hint context stub trailer terms bytes read has are =
    secured_heard (has_level task.level trailer) question task sent call hint context stub trailer terms s bytes read has are

-- ---- a unit, whichever it is

body_heard : (body : Body) (question : Question) (task : ClientPlan) (sent call : ℕ) (trailer : Option Trailer) (terms : Terms) (bytes : List ℕ) →
    unit_of bytes ≡ Ok (single_unit call body trailer) → AreTerms sent terms →
    HearsAs task sent question (λ link now. client.hear_body body (client_phase.Asked terms question) (single_unit call body trailer) bytes None link (client.work_of task now))
body_heard (Response hint context stub) question task sent call trailer terms bytes read are =
    response_heard terms.session question task sent call hint context stub trailer terms bytes read are.session are
body_heard (Bind send receive group contexts) question task sent call trailer terms bytes read are = fails_so task sent question _
body_heard (BindAck send receive group results) question task sent call trailer terms bytes read are = fails_so task sent question _
body_heard (BindNak reason) question task sent call trailer terms bytes read are = fails_so task sent question _
body_heard Auth3 question task sent call trailer terms bytes read are = fails_so task sent question _
body_heard (Request hint context opnum stub) question task sent call trailer terms bytes read are = fails_so task sent question _
body_heard (Fault hint context status) question task sent call trailer terms bytes read are = fails_so task sent question _

-- a unit of another number than the one that is waited for is refused
call_heard : (due : Bool) (body : Body) (question : Question) (task : ClientPlan) (sent call : ℕ) (trailer : Option Trailer) (terms : Terms) (bytes : List ℕ) →
    unit_of bytes ≡ Ok (single_unit call body trailer) → AreTerms sent terms →
    HearsAs task sent question (λ link now. client.hear_call due (single_unit call body trailer) bytes (client.talk_on link None (client_phase.Asked terms question)) (client.work_of task now))
call_heard false body question task sent call trailer terms bytes read are = fails_so task sent question (BadPeer peer_fault.OutOfPlace)
call_heard true body question task sent call trailer terms bytes read are = body_heard body question task sent call trailer terms bytes read are

unit_heard : (question : Question) (task : ClientPlan) (sent : ℕ) (terms : Terms) (bytes : List ℕ) → IsSingle bytes → AreTerms sent terms →
    HearsAs task sent question (λ link now. client.hear bytes (client.talk_on link None (client_phase.Asked terms question)) (client.work_of task now))
unit_heard question task sent terms bytes is are =
    let unit : RpcUnit = single_unit is.call is.body is.trailer in
    as_heard task sent question _
    (λ link now. client.hear_call (is.call == client.awaited (client_phase.Asked terms question)) unit bytes (client.talk_on link None (client_phase.Asked terms question)) (client.work_of task now))
    (λ link now. ap (λ (u : Result RpcUnit UnitRefused). client.hear_unit u bytes (client.talk_on link None (client_phase.Asked terms question)) (client.work_of task now)) is.read)
    (call_heard (is.call == client.awaited (client_phase.Asked terms question)) is.body question task sent is.call is.trailer terms bytes is.read are)

-- ---- the client's step

ends_so : (question : Question) (task : ClientPlan) (terms : Terms) (bytes : List ℕ) → IsSingle bytes →
    Fails task (λ link now. client.hear bytes (client.talk_on link None (client_phase.Asked terms question)) (client.work_of task now)) → HasItsOutcome task terms question bytes
ends_so question task terms bytes is heard = record {
  outcome = heard.outcome;
  ends = λ link now left.
      link_hears task link now (client_phase.Asked terms question) bytes (single_unit is.call is.body is.trailer) left _ is.read refl
      ∙ ap (λ (h : Heard). stepped task link (client_phase.Asked terms question) left (client.serve_heard h left)) (heard.fails link now);
}

echoes_so : (question : Question) (task : ClientPlan) (sent : ℕ) (terms : Terms) (bytes : List ℕ) → sent < 2 ^ 32 - 1 → CanLogOn task → IsSingle bytes →
    Echoes task sent (λ link now. client.hear bytes (client.talk_on link None (client_phase.Asked terms question)) (client.work_of task now)) → AsksEcho task sent terms question bytes
echoes_so question task sent terms bytes few can is heard =
    let echo : List ℕ = client.echo_bytes task.echo in
    let short : length echo ≤ 4096 = omega (arith, echo_length task.echo, can.echo) in
    let stub : List ℕ = written_echo_request echo in
    let asks : Asks task.level 3 1 stub heard.terms.session sent =
    asks_by task.level 3 1 stub heard.terms.session sent few (omega arith) (omega arith) (omega (arith, short, (request_stub echo short (echo_are task.echo)).short)) heard.fits.session in
    record {
      name = heard.name;
      later = record heard.terms { session = asks.sending.session };
      echo = asks.sending.bytes;
      request = asks.request;
      terms_fit = record { receive = heard.fits.receive; session = asks.has };
      asks = λ link now left.
          link_hears task link now (client_phase.Asked terms question) bytes (single_unit is.call is.body is.trailer) left _ is.read refl
          ∙ ap (λ (h : Heard). stepped task link (client_phase.Asked terms question) left (client.serve_heard h left)) (heard.echoes link now)
          ∙ ap (λ (size : ℕ). stepped task link (client_phase.Asked terms question) left (client.serve_heard (client.done (client.asks
          (send_call heard.terms.session task.level (request_of client.echo_number 0 client.echo_opnum stub) (unit_limit size)) heard.terms (client_question.Echo heard.name) link (client.work_of task now))) left))
          heard.fits.receive
          ∙ ap (λ (s : Option Sending). stepped task link (client_phase.Asked terms question) left (client.serve_heard (client.done (client.asks
          s heard.terms (client_question.Echo heard.name) link (client.work_of task now))) left)) asks.goes;
    }

hears_so : (question : Question) (task : ClientPlan) (sent : ℕ) (terms : Terms) (bytes : List ℕ) → sent < 2 ^ 32 - 1 → CanLogOn task → IsSingle bytes →
    HearsAs task sent question (λ link now. client.hear bytes (client.talk_on link None (client_phase.Asked terms question)) (client.work_of task now)) → Hears task sent terms question bytes
unfolding HearsAs
hears_so client_question.Who task sent terms bytes few can is (inl heard) = inl (ends_so client_question.Who task terms bytes is heard)
hears_so client_question.Who task sent terms bytes few can is (inr heard) = inr (echoes_so client_question.Who task sent terms bytes few can is heard)
hears_so (client_question.Echo name) task sent terms bytes few can is heard = ends_so (client_question.Echo name) task terms bytes is heard

pub keys_may_differ : KeysMayDiffer
keys_may_differ = record {
  answers = λ task sent call opnum on bytes few below request is.
      answered task sent on bytes (served_if (is_plain on.bound.level) task sent call opnum on bytes refl request few below is);
  hears = λ task sent terms question bytes few can is are. hears_so question task sent terms bytes few can is (unit_heard question task sent terms bytes is are);
}
