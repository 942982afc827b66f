-- A call of a client to its member under a logon, and the reply.
-- Of `memo_calls_go`.
use Rattle.std.proofs.Common.{◌≡◌, ℕ, ◌≤◌, ◌<◌, ◌+◌, ◌-◌, ◌^◌, Bool, true, false, List, [], ◌∷◌, length, Option, Some, None, Result, Ok, refl, sym, ap, ap₂, subst, ◌∙◌, arith, append-nil}
use Rattle.std.specs.Prelude.{◌&&◌, ◌==◌}
use Rattle.std.specs.List.{AllByRecursion, flat_map}
use Rattle.std.proofs.lemmas.Bool.{eq-eqb, le-leb}
use Rattle.ntlm_seal.specs.Directions.{Direction}
use Rattle.ntlm_seal.specs.Sessions.{SessionState}
use Rattle.rpc_units.specs.declared.refused.JoinRefused.{JoinRefused}
use Rattle.rpc_units.specs.declared.refused.UnitRefused.{UnitRefused}
use Rattle.rpc_units.specs.declared.unit.Body.{Body}
use Rattle.rpc_units.specs.declared.unit.Body.TheVariants.{Request, Response}
use Rattle.rpc_units.specs.declared.unit.Trailer.{Trailer}
use Rattle.rpc_units.specs.declared.unit.Unit.{Unit as RpcUnit}
use Rattle.rpc_units.specs.Calls.{CanBeSent, bytes_of_call}
use Rattle.rpc_units.specs.Joining.{IsWholeCall, answer_by, answer_of, cut_of, joined_by, joined_of, stub_of, stub_size}
use Rattle.rpc_units.specs.Reading.{unit_of}
use Rattle.rpc_units.specs.Sealed.{unit_with_stub, unit_with_value}
use Rattle.rpc_units.specs.Writing.{IsSendable, written}
use Rattle.rpc_units.proofs.CuttingLaws.{cut_sendable, fragments_end}
use Rattle.rpc_units.proofs.JoiningLaws.{with_stub-own}
use Rattle.rpc_units.proofs.SealedLaws.{unit_of-value_replaced, value_replaced-written}
use Rattle.rpc_units.proofs.WritingLaws.{length_written}
use Rattle.end_links.specs.Sending.{request_of, response_of}
use Rattle.logon_client.specs.declared.state.Phase.TheVariants as client_phase
use Rattle.logon_client.specs.declared.state.Question.{Question}
use Rattle.logon_client.specs.declared.state.Terms.{Terms}
use Rattle.logon_client.specs.declared.state.Work.{Work as ClientWork}
use Rattle.logon_client.specs.Machine as client
use Rattle.unit_security.specs.Levels.{is_plain, is_sealed}
use Rattle.unit_security.specs.declared.securing.Secured.{Secured}
use Rattle.unit_security.specs.Opening.{HasRoom, Travels}
use Rattle.unit_security.specs.Securing.{blank_trailer, open_unit, secure_all, secure_call, secure_unit, then_secured}
use Rattle.unit_security.proofs.OpeningLaws.{secured_is_opened}
use Rattle.logon_client.specs.Securing.{has_level, sent_secured}
use Rattle.member_server.specs.declared.state.AtLink.{AtLink}
use Rattle.member_server.specs.declared.state.LoggedOn.{LoggedOn}
use Rattle.member_server.specs.Requests.{answer_call, cause_by, is_due, join_by, join_opened, join_unit, open_request, secure_reply, send_reply, send_secured, signed_cause, signed_unit, talk_in, unit_in}
use Rattle.member_server.specs.Work.{send, stay}
use Rattle.logon_steps.specs.MemoCalls.{AreSessions, MemoCallsGo, ReplyGoes, RequestGoes, logged_on, with_session, one_unit_limit}
use Rattle.logon_steps.proofs.StreamLaws.{read_again}

-- ---- a call that fits into one unit

pub one_fragment : (call : RpcUnit) → IsWholeCall call → length (stub_of call.body) ≤ one_unit_limit → cut_of call 5840 ≡ call ∷ []
unfolding cut_of
one_fragment call whole short =
    fragments_end (length (stub_of call.body)) call (stub_size 5840) true (stub_of call.body) short
    ∙ ap (λ (body : Body). record { first = true; last = true; call = call.call; body = body; trailer = call.trailer } ∷ []) (with_stub-own call.body)
    ∙ ap₂ (λ (first last : Bool). record { first = first; last = last; call = call.call; body = call.body; trailer = call.trailer } ∷ []) (sym whole.first) (sym whole.last)

pub one_sends : (call : RpcUnit) → CanBeSent call 5840 → length (stub_of call.body) ≤ one_unit_limit → IsSendable call
one_sends call can short = (subst (λ (units : List RpcUnit). AllByRecursion IsSendable units) (one_fragment call can.whole short) (cut_sendable call 5840 can)).0

pub one_bytes : (call : RpcUnit) → CanBeSent call 5840 → length (stub_of call.body) ≤ one_unit_limit → bytes_of_call call 5840 ≡ written call
one_bytes call can short = ap (λ (units : List RpcUnit). flat_map written units) (one_fragment call can.whole short) ∙ append-nil (written call)

abbrev pub request_at : ℕ → ℕ → List ℕ → Option Trailer → RpcUnit
request_at number opnum stub trailer = record { first = true; last = true; call = number; body = Request (length stub) 0 opnum stub; trailer = trailer }

abbrev pub response_at : ℕ → List ℕ → Option Trailer → RpcUnit
response_at number stub trailer = record { first = true; last = true; call = number; body = Response (length stub) 0 stub; trailer = trailer }

-- an empty value of 16 bytes, or none
abbrev pub HasBlank : Option Trailer → Type 0
HasBlank None = Unit {0}
HasBlank (Some trailer) = (length trailer.value ≡ 16) × (trailer.context < 2 ^ 32)

pub request_can : (number opnum : ℕ) (stub : List ℕ) (trailer : Option Trailer) → number < 2 ^ 32 → opnum < 2 ^ 16 → length stub ≤ one_unit_limit → HasBlank trailer → CanBeSent (request_at number opnum stub trailer) 5840
request_can number opnum stub None below op short blank = record {
  whole = record { stub = tt; first = refl; last = refl };
  range = record { call = below; body = (omega arith, omega arith, op); trailer = tt };
  value = tt;
  least = omega arith;
  room = omega arith;
}
request_can number opnum stub (Some trailer) below op short blank = record {
  whole = record { stub = tt; first = refl; last = refl };
  range = record { call = below; body = (omega arith, omega arith, op); trailer = blank.1 };
  value = omega (arith, blank.0);
  least = omega arith;
  room = omega (arith, blank.0);
}

pub response_can : (number : ℕ) (stub : List ℕ) (trailer : Option Trailer) → number < 2 ^ 32 → length stub ≤ one_unit_limit → HasBlank trailer → CanBeSent (response_at number stub trailer) 5840
response_can number stub None below short blank = record {
  whole = record { stub = tt; first = refl; last = refl };
  range = record { call = below; body = (omega arith, omega arith); trailer = tt };
  value = tt;
  least = omega arith;
  room = omega arith;
}
response_can number stub (Some trailer) below short blank = record {
  whole = record { stub = tt; first = refl; last = refl };
  range = record { call = below; body = (omega arith, omega arith); trailer = blank.1 };
  value = omega (arith, blank.0);
  least = omega arith;
  room = omega (arith, blank.0);
}

-- ---- a request is one whole unit

request_whole : (number opnum : ℕ) (stub : List ℕ) (trailer : Option Trailer) → length stub ≤ one_unit_limit → answer_of None (request_at number opnum stub trailer) ≡ Ok (Some (request_at number opnum stub trailer))
unfolding joined_of
request_whole number opnum stub trailer short =
    ap (λ (fits : Bool). answer_by (joined_by true fits (request_at number opnum stub trailer)) true) (le-leb (length stub) 65536 (omega (arith, short)))

response_whole : (number : ℕ) (stub : List ℕ) (trailer : Option Trailer) → length stub ≤ one_unit_limit → answer_of None (response_at number stub trailer) ≡ Ok (Some (response_at number stub trailer))
unfolding joined_of
response_whole number stub trailer short =
    ap (λ (fits : Bool). answer_by (joined_by true fits (response_at number stub trailer)) true) (le-leb (length stub) 65536 (omega (arith, short)))

-- ---- with its signature it is read again

signed_read : (unit : RpcUnit) (value : List ℕ) → HasRoom unit → length value ≡ 16 → unit_of (written (unit_with_value unit value)) ≡ Ok (unit_with_value unit value)
signed_read unit value room sixteen =
    ap unit_of (sym (value_replaced-written unit room.trailer value room.has room.room sixteen))
    ∙ unit_of-value_replaced (written unit) unit room.trailer value (read_again unit room.sends) room.has room.room sixteen

-- ---- a request

joined_request : (number opnum : ℕ) (stub : List ℕ) (trailer : Option Trailer) (bytes : List ℕ) (on : LoggedOn) (at : AtLink) → length stub ≤ one_unit_limit →
    unit_of bytes ≡ Ok (request_at number opnum stub trailer) →
    join_unit (unit_of bytes) on None at ≡ answer_call (request_of number 0 opnum stub).body number on None at
joined_request number opnum stub trailer bytes on at short read =
    ap (λ (unit : Result RpcUnit UnitRefused). join_unit unit on None at) read
    ∙ ap (λ (a : Result (Option RpcUnit) JoinRefused). join_by a None on at) (request_whole number opnum stub trailer short)

plain_request : (most level number opnum : ℕ) (stub : List ℕ) (other : Option SessionState) → number < 2 ^ 32 → opnum < 2 ^ 16 → length stub ≤ one_unit_limit → is_plain level ≡ true →
    RequestGoes most level number opnum stub None other
plain_request most level number opnum stub other below op short plain =
    let call : RpcUnit = request_at number opnum stub None in
    let can : CanBeSent call 5840 = request_can number opnum stub None below op short tt in
    let sends : IsSendable call = one_sends call can short in
    record {
      sent = written call;
      later = None;
      next = other;
      sessions = plain;
      goes = ap (λ (bytes : List ℕ). Some (record { bytes = bytes; session = None })) (one_bytes call can short);
      some = omega (arith, length_written call);
      short = sends.short;
      unit = call;
      read = read_again call sends;
      call = refl;
      body = refl;
      heard = λ on at level_is session_is.
          ap (λ (p : Bool). unit_in p (written call) on None at) plain
          ∙ joined_request number opnum stub None (written call) on at short (read_again call sends)
          ∙ ap (λ (s : Option SessionState). answer_call call.body number (logged_on on s) None at) session_is;
    }

abbrev number_of : Direction → ℕ
number_of d = d.number

pub secured_one : (seals : Bool) (one : SessionState) (unit : RpcUnit) (sent : List ℕ) (later : SessionState) →
    secure_unit seals one (written unit) ≡ Some (record { bytes = sent; session = later }) →
    secure_all seals one (unit ∷ []) ≡ Some (record { bytes = sent; session = later })
unfolding secure_all
secured_one seals one unit sent later is =
    ap (λ (first : Option Secured). then_secured first (λ next. secure_all seals next [])) is
    ∙ ap (λ (bytes : List ℕ). Some (record { bytes = bytes; session = later })) (append-nil sent)

-- the request with room for a signature of the client
abbrev pub signed_request_at : ℕ → ℕ → ℕ → List ℕ → RpcUnit
signed_request_at level number opnum stub = request_at number opnum stub (Some (blank_trailer level 1))

pub request_room : (level number opnum : ℕ) (stub : List ℕ) → number < 2 ^ 32 → opnum < 2 ^ 16 → length stub ≤ one_unit_limit → HasRoom (signed_request_at level number opnum stub)
request_room level number opnum stub below op short = record {
  sends = one_sends (signed_request_at level number opnum stub) (request_can number opnum stub (Some (blank_trailer level 1)) below op short (refl, omega arith)) short;
  stub = tt;
  trailer = blank_trailer level 1;
  has = refl;
  room = refl;
}

-- the trailer is the one that is due
due : (level other : ℕ) (context : ℕ) (value : List ℕ) → other ≡ level → length value ≡ 16 → is_due other (Some (record { kind = 10; level = level; context = context; value = value })) ≡ true
due level other context value is sixteen =
    ap (λ (l : ℕ). (level == l) && (length value == 16)) is
    ∙ ap₂ (λ (a b : Bool). a && b) (eq-eqb level level refl) (eq-eqb (length value) 16 sixteen)

signed_request_heard : (level number opnum : ℕ) (stub : List ℕ) (one other : SessionState) → length stub ≤ one_unit_limit → is_plain level ≡ false →
    HasRoom (signed_request_at level number opnum stub) → (t : Travels (is_sealed level) (signed_request_at level number opnum stub) one other) →
    (on : LoggedOn) (at : AtLink) → on.bound.level ≡ level → on.session ≡ Some other →
    unit_in (is_plain level) t.sent on None at ≡ answer_call (request_of number 0 opnum stub).body number (logged_on on (Some t.next)) None at
signed_request_heard level number opnum stub one other short plain room t on at level_is session_is =
    let call : RpcUnit = signed_request_at level number opnum stub in
    ap (λ (p : Bool). unit_in p t.sent on None at) plain
    ∙ ap (λ (read : Result RpcUnit UnitRefused). signed_unit (signed_cause read on.bound.level) t.sent on None at) t.read
    ∙ ap (λ (d : Bool). signed_unit (cause_by (Request (length stub) 0 opnum t.stub) d) t.sent on None at) (due level on.bound.level 1 t.signature level_is t.sixteen)
    ∙ ap (λ (session : Option SessionState). open_request session t.sent on None at) session_is
    ∙ ap (λ (l : ℕ). join_opened (open_unit (is_sealed l) other t.sent) on None at) level_is
    ∙ ap (λ (opened : Option Secured). join_opened opened on None at) t.opened
    ∙ joined_request number opnum stub (Some (record { kind = 10; level = level; context = 1; value = t.signature })) (written (unit_with_value call t.signature)) (logged_on on (Some t.next)) at
    short (signed_read call t.signature room t.sixteen)

signed_request : (most level number opnum : ℕ) (stub : List ℕ) (one other : SessionState) → most < 2 ^ 32 - 1 → number < 2 ^ 32 → opnum < 2 ^ 16 → length stub ≤ one_unit_limit →
    AreSessions most level (Some one) (Some other) → RequestGoes most level number opnum stub (Some one) (Some other)
signed_request most level number opnum stub one other few below op short are =
    let call : RpcUnit = signed_request_at level number opnum stub in
    let room : HasRoom call = request_room level number opnum stub below op short in
    signed_goes most level number opnum stub one other short are room (secured_is_opened (is_sealed level) call one other room are.1 (omega (arith, few, are.2))) where
      signed_goes : (most level number opnum : ℕ) (stub : List ℕ) (one other : SessionState) → length stub ≤ one_unit_limit → AreSessions most level (Some one) (Some other) →
          HasRoom (signed_request_at level number opnum stub) → Travels (is_sealed level) (signed_request_at level number opnum stub) one other →
          RequestGoes most level number opnum stub (Some one) (Some other)
      signed_goes most level number opnum stub one other short are room t =
          let call : RpcUnit = signed_request_at level number opnum stub in
          record {
            sent = t.sent;
            later = Some t.later;
            next = Some t.next;
            sessions = (are.0, t.paired, omega (arith, t.count, are.2), subst (λ (n : ℕ). n < most + 1) (sym (ap number_of t.back)) (omega (arith, are.3)));
            goes = ap (λ (units : List RpcUnit). sent_secured (secure_all (is_sealed level) one units))
                (one_fragment call (record { stub = tt; first = refl; last = refl }) short)
                ∙ ap sent_secured (secured_one (is_sealed level) one call t.sent t.later t.secured);
            some = omega (arith, t.size, length_written call);
            short = omega (arith, t.size, room.sends.short);
            unit = unit_with_value (unit_with_stub call t.stub) t.signature;
            read = t.read;
            call = refl;
            body = refl;
            heard = signed_request_heard level number opnum stub one other short are.0 room t;
          }

-- ---- a reply

joined_response : (number : ℕ) (stub : List ℕ) (trailer : Option Trailer) (terms : Terms) (question : Question) (link : ℕ) (work : ClientWork) → length stub ≤ one_unit_limit →
    client.hear_fragment (response_at number stub trailer) None terms question link work ≡ client.hear_reply question stub terms link work
joined_response number stub trailer terms question link work short =
    ap (λ (a : Result (Option RpcUnit) JoinRefused). client.hear_joined a None terms question link work) (response_whole number stub trailer short)

-- a unit that has the number that is waited for is heard
awaited_heard : (unit : RpcUnit) (bytes : List ℕ) (number : ℕ) (terms : Terms) (question : Question) (link : ℕ) (work : ClientWork) → unit_of bytes ≡ Ok unit → unit.call ≡ number →
    client.awaited (client_phase.Asked terms question) ≡ number →
    client.hear bytes (client.talk_on link None (client_phase.Asked terms question)) work
    ≡ client.hear_body unit.body (client_phase.Asked terms question) unit bytes None link work
awaited_heard unit bytes number terms question link work read call waits =
    ap (λ (u : Result RpcUnit UnitRefused). client.hear_unit u bytes (client.talk_on link None (client_phase.Asked terms question)) work) read
    ∙ ap (λ (due : Bool). client.hear_call due unit bytes (client.talk_on link None (client_phase.Asked terms question)) work)
    (eq-eqb unit.call (client.awaited (client_phase.Asked terms question)) (call ∙ sym waits))

plain_reply : (most level number : ℕ) (stub : List ℕ) (other : Option SessionState) → number < 2 ^ 32 → length stub ≤ one_unit_limit → is_plain level ≡ true →
    ReplyGoes most level number stub other None
plain_reply most level number stub other below short plain =
    let call : RpcUnit = response_at number stub None in
    let can : CanBeSent call 5840 = response_can number stub None below short tt in
    let sends : IsSendable call = one_sends call can short in
    record {
      sent = written call;
      later = other;
      next = None;
      sessions = plain;
      goes = λ on at level_is context_is limit_is session_is.
          ap (λ (p : Bool). send_reply p number 0 stub on None at) plain
          ∙ ap (λ (limit : ℕ). stay (send at (bytes_of_call call limit)) (talk_in None on)) limit_is
          ∙ ap (λ (bytes : List ℕ). stay (send at bytes) (talk_in None on)) (one_bytes call can short)
          ∙ ap (λ (s : Option SessionState). stay (send at (written call)) (talk_in None (logged_on on s))) session_is;
      some = omega (arith, length_written call);
      short = sends.short;
      unit = call;
      read = read_again call sends;
      heard = λ terms question link work level_is session_is waits.
          awaited_heard call (written call) number terms question link work (read_again call sends) refl waits
          ∙ ap (λ (s : Option SessionState). client.hear_response s call (written call) None (with_session terms terms.session) question link work) session_is
          ∙ joined_response number stub None terms question link work short
          ∙ ap (λ (s : Option SessionState). client.hear_reply question stub (with_session terms s) link work) session_is;
    }

-- the reply with room for a signature of the member
abbrev pub signed_reply_at : ℕ → ℕ → List ℕ → RpcUnit
signed_reply_at level number stub = response_at number stub (Some (blank_trailer level 1))

pub reply_room : (level number : ℕ) (stub : List ℕ) → number < 2 ^ 32 → length stub ≤ one_unit_limit → HasRoom (signed_reply_at level number stub)
reply_room level number stub below short = record {
  sends = one_sends (signed_reply_at level number stub) (response_can number stub (Some (blank_trailer level 1)) below short (refl, omega arith)) short;
  stub = tt;
  trailer = blank_trailer level 1;
  has = refl;
  room = refl;
}

pub signed_reply_sent : (level number : ℕ) (stub : List ℕ) (one other : SessionState) → length stub ≤ one_unit_limit → is_plain level ≡ false →
    (t : Travels (is_sealed level) (signed_reply_at level number stub) other one) →
    (on : LoggedOn) (at : AtLink) → on.bound.level ≡ level → on.bound.context ≡ 1 → on.bound.binding.limit ≡ 5840 → on.session ≡ Some other →
    send_reply (is_plain level) number 0 stub on None at ≡ stay (send at t.sent) (talk_in None (logged_on on (Some t.later)))
signed_reply_sent level number stub one other short plain t on at level_is context_is limit_is session_is =
    ap (λ (p : Bool). send_reply p number 0 stub on None at) plain
    ∙ ap (λ (session : Option SessionState). secure_reply session number 0 stub on None at) session_is
    ∙ ap₂ (λ (l context : ℕ). send_secured (secure_call other l context (response_of number 0 stub) on.bound.binding.limit) on None at) level_is context_is
    ∙ ap (λ (limit : ℕ). send_secured (secure_call other level 1 (response_of number 0 stub) limit) on None at) limit_is
    ∙ ap (λ (units : List RpcUnit). send_secured (secure_all (is_sealed level) other units) on None at)
    (one_fragment (signed_reply_at level number stub) (record { stub = tt; first = refl; last = refl }) short)
    ∙ ap (λ (secured : Option Secured). send_secured secured on None at) (secured_one (is_sealed level) other (signed_reply_at level number stub) t.sent t.later t.secured)

signed_reply_heard : (level number : ℕ) (stub : List ℕ) (one other : SessionState) → length stub ≤ one_unit_limit → HasRoom (signed_reply_at level number stub) →
    (t : Travels (is_sealed level) (signed_reply_at level number stub) other one) →
    (terms : Terms) (question : Question) (link : ℕ) (work : ClientWork) → work.task.level ≡ level → terms.session ≡ Some one →
    client.awaited (client_phase.Asked terms question) ≡ number →
    client.hear t.sent (client.talk_on link None (client_phase.Asked terms question)) work
    ≡ client.hear_reply question stub (with_session terms (Some t.next)) link work
signed_reply_heard level number stub one other short room t terms question link work level_is session_is waits =
    let call : RpcUnit = signed_reply_at level number stub in
    let came : RpcUnit = unit_with_value (unit_with_stub call t.stub) t.signature in
    awaited_heard came t.sent number terms question link work t.read refl waits
    ∙ ap (λ (s : Option SessionState). client.hear_response s came t.sent None terms question link work) session_is
    ∙ ap (λ (l : ℕ). client.hear_secured (has_level l came.trailer) t.sent one None terms question link work) level_is
    ∙ ap (λ (same : Bool). client.hear_secured same t.sent one None terms question link work) (eq-eqb level level refl)
    ∙ ap (λ (l : ℕ). client.hear_opened (open_unit (is_sealed l) one t.sent) None terms question link work) level_is
    ∙ ap (λ (opened : Option Secured). client.hear_opened opened None terms question link work) t.opened
    ∙ ap (λ (read : Result RpcUnit UnitRefused). client.hear_unit_opened read None (with_session terms (Some t.next)) question link work) (signed_read call t.signature room t.sixteen)
    ∙ joined_response number stub (Some (record { kind = 10; level = level; context = 1; value = t.signature })) (with_session terms (Some t.next)) question link work short

pub memo_calls_go : MemoCallsGo
memo_calls_go = record {
  request = λ most level number opnum stub one other few below op short are. request_by most level number opnum stub one other few below op short are;
  reply = λ most level number stub one other few below short are. reply_by most level number stub one other few below short are;
} where
  request_by : (most level number opnum : ℕ) (stub : List ℕ) (one other : Option SessionState) → most < 2 ^ 32 - 1 → number < 2 ^ 32 → opnum < 2 ^ 16 →
      length stub ≤ one_unit_limit → AreSessions most level one other → RequestGoes most level number opnum stub one other
  request_by most level number opnum stub None other few below op short are = plain_request most level number opnum stub other below op short are
  request_by most level number opnum stub (Some one) None few below op short are = absurd are
  request_by most level number opnum stub (Some one) (Some other) few below op short are = signed_request most level number opnum stub one other few below op short are

  reply_goes : (most level number : ℕ) (stub : List ℕ) (one other : SessionState) → length stub ≤ one_unit_limit → AreSessions most level (Some one) (Some other) →
      HasRoom (signed_reply_at level number stub) → Travels (is_sealed level) (signed_reply_at level number stub) other one →
      ReplyGoes most level number stub (Some other) (Some one)
  reply_goes most level number stub one other short are room t =
      record {
        sent = t.sent;
        later = Some t.later;
        next = Some t.next;
        sessions = (are.0, record { there = t.paired.back; back = t.paired.there }, subst (λ (n : ℕ). n < most + 1) (sym (ap number_of t.back)) (omega (arith, are.2)), omega (arith, t.count, are.3));
        goes = signed_reply_sent level number stub one other short are.0 t;
        some = omega (arith, t.size, length_written (signed_reply_at level number stub));
        short = omega (arith, t.size, room.sends.short);
        unit = unit_with_value (unit_with_stub (signed_reply_at level number stub) t.stub) t.signature;
        read = t.read;
        heard = signed_reply_heard level number stub one other short room t;
      }

  reply_by : (most level number : ℕ) (stub : List ℕ) (one other : Option SessionState) → most < 2 ^ 32 - 1 → number < 2 ^ 32 → length stub ≤ one_unit_limit →
      AreSessions most level one other → ReplyGoes most level number stub other one
  reply_by most level number stub None other few below short are = plain_reply most level number stub other below short are
  reply_by most level number stub (Some one) None few below short are = absurd are
  reply_by most level number stub (Some one) (Some other) few below short are =
      reply_goes most level number stub one other short are (reply_room level number stub below short)
      (secured_is_opened (is_sealed level) (signed_reply_at level number stub) other one (reply_room level number stub below short)
      (record { there = are.1.back; back = are.1.there }) (omega (arith, few, are.3)))
