-- What a unit on an accepted link comes to, said once: each way that the machine takes, with what is known there. It
-- serves the laws of a member that speak of units on its links, here and in the crates above.
use Rattle.std.proofs.Common.{◌≡◌, ℕ, ◌+◌, ◌==◌, Bool, true, false, List, [], ◌∷◌, ◌++◌, Option, Some, None, Result, Ok, Err, refl, nat_le, length}
use Rattle.std.specs.List.{AllByRecursion}
use Rattle.ntlm_flags.specs.Flags.{agreed_flags}
use Rattle.ntlm_messages.specs.declared.messages.Authenticate.{Authenticate}
use Rattle.ntlm_messages.specs.declared.refused.MessageRefused.{MessageRefused}
use Rattle.ntlm_messages.specs.Authenticate.{authenticate_of}
use Rattle.ntlm_seal.specs.Sessions.{SessionState}
use Rattle.outside.specs.declared.action.Action.TheVariants as action
use Rattle.outside.specs.declared.action.CloseCause.{CloseCause}
use Rattle.outside.specs.declared.action.CloseCause.TheVariants as close
use Rattle.outside.specs.declared.action.DropCause.TheVariants as drop_cause
use Rattle.outside.specs.declared.action.Outcome.TheVariants as outcome
use Rattle.outside.specs.declared.action.StepRefused.TheVariants as refused
use Rattle.rpc_units.specs.declared.refused.JoinRefused.{JoinRefused}
use Rattle.rpc_units.specs.declared.refused.JoinRefused.TheVariants as join
use Rattle.rpc_units.specs.declared.refused.UnitRefused.{UnitRefused}
use Rattle.rpc_units.specs.declared.unit.Body.{Body}
use Rattle.rpc_units.specs.declared.unit.Body.TheVariants.{Bind, BindAck, BindNak, Auth3, Request, Response, Fault}
use Rattle.rpc_units.specs.declared.unit.Syntax.{Syntax}
use Rattle.rpc_units.specs.declared.unit.Trailer.{Trailer}
use Rattle.rpc_units.specs.declared.unit.Unit.{Unit as RpcUnit}
use Rattle.rpc_units.specs.Calls.{bytes_of_call}
use Rattle.rpc_units.specs.Joining.{answer_of, open_after}
use Rattle.rpc_units.specs.Numbers.{ntlm_provider, rpc_s_server_unavailable}
use Rattle.rpc_units.specs.Reading.{unit_of}
use Rattle.rpc_units.specs.Writing.{written}
use Rattle.unit_security.specs.declared.securing.Secured.{Secured}
use Rattle.unit_security.specs.Levels.{is_plain, is_sealed}
use Rattle.unit_security.specs.Securing.{open_unit, secure_call}
use Rattle.end_links.specs.Agreed.{accepts}
use Rattle.end_links.specs.Sending.{fault_of, response_of}
use Rattle.channel_client.specs.declared.answers.AskRefused.{AskRefused}
use Rattle.channel_client.specs.declared.answers.AskRefused.TheVariants as ask_refused
use Rattle.channel_client.specs.Machine.{Asking, ask_of}
use Rattle.member_server.specs.declared.binds.Offer.{Offer}
use Rattle.member_server.specs.declared.memo.Answer.{Answer}
use Rattle.member_server.specs.declared.memo.Answer.TheVariants as answer
use Rattle.member_server.specs.declared.plan.MemberPlan.{MemberPlan}
use Rattle.member_server.specs.declared.state.AtLink.{AtLink}
use Rattle.member_server.specs.declared.state.Bound.{Bound}
use Rattle.member_server.specs.declared.state.LoggedOn.{LoggedOn}
use Rattle.member_server.specs.declared.state.Logon.{Logon}
use Rattle.member_server.specs.declared.state.Phase.{Phase}
use Rattle.member_server.specs.declared.state.Phase.TheVariants as phase
use Rattle.member_server.specs.declared.state.Talk.{Talk}
use Rattle.member_server.specs.Binds.{ack_fits, answer_bind, answer_of_bind, bind_by, fresh_unit, offer_in, refusal_of_bind}
use Rattle.member_server.specs.Held.{held_limit, held_size}
use Rattle.member_server.specs.Laws.{IsRequestBody, IsRequestUnit}
use Rattle.member_server.specs.Memo.{call_answer}
use Rattle.member_server.specs.Messages.{ask_by, info_of, is_fit, take_auth3, take_message, take_trailer, wait_by, with_channel, with_logon}
use Rattle.member_server.specs.Requests.{answer_call, body_asked, body_out, hold_by, join_by, join_opened, join_request, join_unit, open_request, reply, secure_reply, send_reply, send_secured, signed_cause, signed_unit, talk_in, unit_asked, unit_in, unit_out}
use Rattle.member_server.specs.Units.{body_challenged, bound_unit, first_unit, is_fresh, serve_held, then_said, unit_by, unit_challenged}
use Rattle.member_server.specs.Work.{Served, ServedPart, drawless, send, send_unit, shut, stay, tell, with_logons}

-- ---- where a CHALLENGE was sent: the message of an auth3

-- the unit carries a message that is read, and it fits what was bound and offered
pub record IsFitMessage (bytes : List ℕ) (bound : Bound) (flags : ℕ) (message : Authenticate) : Type 0 where
  pub unit : RpcUnit
  pub trailer : Trailer
  pub unit_read : unit_of bytes ≡ Ok unit
  pub is_auth3 : unit.body ≡ Auth3
  pub carries : unit.trailer ≡ Some trailer
  pub is_ntlm : (trailer.kind == ntlm_provider) ≡ true
  pub message_read : authenticate_of trailer.value ≡ Ok message
  pub fit : is_fit bound.level (agreed_flags flags message.flags) message ≡ true

abbrev pub logon_at : AtLink → List ℕ → ℕ → Authenticate → Logon
logon_at at challenge flags message =
    record { link = at.link; challenge = challenge; message = message; agreed = agreed_flags flags message.flags }

abbrev pub asking_at : AtLink → List ℕ → ℕ → Authenticate → Asking
asking_at at challenge flags message = ask_of at.logons.channel (info_of message (agreed_flags flags message.flags) challenge)

-- ---- where a user is logged on: requests

abbrev pub with_state : LoggedOn → Option SessionState → LoggedOn
with_state on session = record on { session = session }

-- the bytes of a unit in plain form, and the session then
pub data Opens (bytes : List ℕ) (on : LoggedOn) : List ℕ → Option SessionState → Type 0 where
  Unsigned : is_plain on.bound.level ≡ true → Opens bytes on bytes on.session
  Signed : (session : SessionState) (opened : Secured) → is_plain on.bound.level ≡ false → signed_cause (unit_of bytes) on.bound.level ≡ None → on.session ≡ Some session →
      open_unit (is_sealed on.bound.level) session bytes ≡ Some opened → Opens bytes on opened.bytes (Some opened.session)

-- the unit is a request, in plain form
pub record IsRequest (bytes : List ℕ) (on : LoggedOn) (unit : RpcUnit) (session : Option SessionState) : Type 0 where
  pub plain : List ℕ
  pub opens : Opens bytes on plain session
  pub read : unit_of plain ≡ Ok unit
  pub is_request : IsRequestBody unit.body

-- the bytes that are sent for an answer, and the session then
pub data Replies (call context : ℕ) (on : LoggedOn) : Answer → List ℕ → Option SessionState → Type 0 where
  AsFault : (status : ℕ) → Replies call context on (answer.Fault status) (written (fault_of call context status)) on.session
  AsPlain : (stub : List ℕ) → Replies call context on (answer.Stub stub) (bytes_of_call (response_of call context stub) on.bound.binding.limit) on.session
  AsSecured : (stub : List ℕ) (session : SessionState) (secured : Secured) → on.session ≡ Some session →
      secure_call session on.bound.level on.bound.context (response_of call context stub) on.bound.binding.limit ≡ Some secured →
      Replies call context on (answer.Stub stub) secured.bytes (Some secured.session)

-- the request makes a call whole, with what is open on the link, and these bytes answer it
pub record IsAnswered (bytes : List ℕ) (joiner : Option RpcUnit) (on : LoggedOn) (unit : RpcUnit) (sent : List ℕ) (session : Option SessionState) : Type 0 where
  pub opened : Option SessionState
  pub request : IsRequest bytes on unit opened
  pub whole : RpcUnit
  pub joined : answer_of joiner unit ≡ Ok (Some whole)
  pub hint : ℕ
  pub context : ℕ
  pub opnum : ℕ
  pub stub : List ℕ
  pub body : whole.body ≡ Request hint context opnum stub
  pub replies : Replies whole.call context (with_state on opened) (call_answer (accepts on.bound.binding context) opnum on.name stub) sent session

-- ---- what a unit comes to on a link on which something is bound

-- where no user is logged on no request closes the link
abbrev pub MayClose : Phase → Result RpcUnit UnitRefused → Type 0
MayClose (phase.Out bound status) unit = IsRequestUnit unit → ⊥
MayClose _ unit = Unit {0}

pub data BoundView (bytes : List ℕ) (joiner : Option RpcUnit) (at : AtLink) : Phase → Served → Type 0 where
  -- the link is closed
  Closes : {p : Phase} (cause : CloseCause) → MayClose p (unit_of bytes) → BoundView bytes joiner at p (shut cause at)
  -- a logon is asked, and waits at its place
  Asks : {bound : Bound} {challenge : List ℕ} {flags : ℕ} (message : Authenticate) (place : ℕ) → IsFitMessage bytes bound flags message →
      (asking_at at challenge flags message).answer ≡ Ok place →
      BoundView bytes joiner at (phase.Challenged bound challenge flags)
      (stay (with_logons at (with_logon (with_channel at.logons (asking_at at challenge flags message).state) place (logon_at at challenge flags message)))
      (record { joiner = joiner; phase = phase.Asked bound place [] }))
  -- as many logons wait as may
  Overflows : {bound : Bound} {challenge : List ℕ} {flags : ℕ} (message : Authenticate) → IsFitMessage bytes bound flags message →
      (asking_at at challenge flags message).answer ≡ Err ask_refused.QueueFull →
      BoundView bytes joiner at (phase.Challenged bound challenge flags)
      (stay
      (tell (with_logons at (with_channel at.logons (asking_at at challenge flags message).state)) (action.Told at.link (outcome.NoController drop_cause.QueueFull)))
      (record { joiner = joiner; phase = phase.Out bound rpc_s_server_unavailable }))
  -- a request is held
  Keeps : {bound : Bound} {place : ℕ} {held : List (List ℕ)} → IsRequestUnit (unit_of bytes) → nat_le (held_size held + length bytes) held_limit ≡ true →
      BoundView bytes joiner at (phase.Asked bound place held) (stay at (record { joiner = joiner; phase = phase.Asked bound place (held ++ bytes ∷ []) }))
  -- a request is a part of a call
  Joins : {on : LoggedOn} (unit : RpcUnit) (session : Option SessionState) → IsRequest bytes on unit session → answer_of joiner unit ≡ Ok None →
      BoundView bytes joiner at (phase.In on) (stay at (talk_in (open_after joiner unit) (with_state on session)))
  -- a whole call is answered
  Answers : {on : LoggedOn} (unit : RpcUnit) (sent : List ℕ) (session : Option SessionState) → IsAnswered bytes joiner on unit sent session →
      BoundView bytes joiner at (phase.In on) (stay (send at sent) (talk_in (open_after joiner unit) (with_state on session)))
  -- a request is answered with a fault
  Faults : {bound : Bound} {status : ℕ} (call context : ℕ) →
      BoundView bytes joiner at (phase.Out bound status) (stay (send_unit at (fault_of call context status)) (record { joiner = joiner; phase = phase.Out bound status }))

module _ (bytes : List ℕ) (joiner : Option RpcUnit) (at : AtLink) where
  -- ---- where a CHALLENGE was sent

  module _ (bound : Bound) (challenge : List ℕ) (flags : ℕ) where
    abbrev ChallengedView : Served → Type 0
    ChallengedView served = BoundView bytes joiner at (phase.Challenged bound challenge flags) served

    wait_view : (asked : Result ℕ AskRefused) (message : Authenticate) → IsFitMessage bytes bound flags message → (asking_at at challenge flags message).answer ≡ asked →
        ChallengedView (wait_by asked (with_channel at.logons (asking_at at challenge flags message).state) (logon_at at challenge flags message) bound joiner at)
    wait_view (Ok place) message fit is = Asks message place fit is
    wait_view (Err ask_refused.QueueFull) message fit is = Overflows message fit is
    wait_view (Err ask_refused.Memory) message fit is = Closes close.OutOfPlace tt

    ask_view : (fit : Bool) (message : Authenticate) → (fit ≡ true → IsFitMessage bytes bound flags message) →
        ChallengedView (ask_by fit message (agreed_flags flags message.flags) challenge bound joiner at)
    ask_view false message so = Closes close.BadAuthentication tt
    ask_view true message so = wait_view (asking_at at challenge flags message).answer message (so refl) refl

    module _ (unit : RpcUnit) (read : unit_of bytes ≡ Ok unit) where
      message_view : (found : Result Authenticate MessageRefused) (trailer : Trailer) → unit.body ≡ Auth3 → unit.trailer ≡ Some trailer → (trailer.kind == ntlm_provider) ≡ true →
          authenticate_of trailer.value ≡ found → ChallengedView (take_message found bound challenge flags joiner at)
      message_view (Err why) trailer body carries ntlm is = Closes close.BadAuthentication tt
      message_view (Ok message) trailer body carries ntlm is =
          ask_view (is_fit bound.level (agreed_flags flags message.flags) message) message (λ fit. record {
            unit = unit;
            trailer = trailer;
            unit_read = read;
            is_auth3 = body;
            carries = carries;
            is_ntlm = ntlm;
            message_read = is;
            fit = fit;
          })

      trailer_view : (is_ntlm : Bool) (trailer : Trailer) → unit.body ≡ Auth3 → unit.trailer ≡ Some trailer → (trailer.kind == ntlm_provider) ≡ is_ntlm →
          ChallengedView (take_trailer is_ntlm trailer bound challenge flags joiner at)
      trailer_view false trailer body carries ntlm = Closes close.OutOfPlace tt
      trailer_view true trailer body carries ntlm = message_view (authenticate_of trailer.value) trailer body carries ntlm refl

      auth3_view : (trailer : Option Trailer) → unit.body ≡ Auth3 → unit.trailer ≡ trailer → ChallengedView (take_auth3 trailer bound challenge flags joiner at)
      auth3_view None body carries = Closes close.OutOfPlace tt
      auth3_view (Some trailer) body carries = trailer_view (trailer.kind == ntlm_provider) trailer body carries refl

      challenged_body : (body : Body) → unit.body ≡ body → ChallengedView (body_challenged body unit.trailer bound challenge flags joiner at)
      challenged_body Auth3 is = auth3_view unit.trailer is refl
      challenged_body (Bind send receive group contexts) is = Closes close.OutOfPlace tt
      challenged_body (BindAck send receive group results) is = Closes close.OutOfPlace tt
      challenged_body (BindNak reason) is = Closes close.OutOfPlace tt
      challenged_body (Request hint context opnum stub) is = Closes close.OutOfPlace tt
      challenged_body (Response hint context stub) is = Closes close.OutOfPlace tt
      challenged_body (Fault hint context status) is = Closes close.OutOfPlace tt

    challenged_view : (unit : Result RpcUnit UnitRefused) → unit_of bytes ≡ unit → ChallengedView (unit_challenged unit bound challenge flags joiner at)
    challenged_view (Err why) is = Closes close.BadUnit tt
    challenged_view (Ok unit) is = challenged_body unit is unit.body refl

  -- ---- where the logon is asked

  module _ (bound : Bound) (place : ℕ) (held : List (List ℕ)) where
    abbrev AskedView : Served → Type 0
    AskedView served = BoundView bytes joiner at (phase.Asked bound place held) served

    hold_view : (fits : Bool) → nat_le (held_size held + length bytes) held_limit ≡ fits → IsRequestUnit (unit_of bytes) → AskedView (hold_by fits bytes bound place held joiner at)
    hold_view false fits is = Closes close.TooMuchHeld tt
    hold_view true fits is = Keeps is fits

    asked_body : (body : Body) → (IsRequestBody body → IsRequestUnit (unit_of bytes)) → AskedView (body_asked body bytes bound place held joiner at)
    asked_body (Request hint context opnum stub) so = hold_view (nat_le (held_size held + length bytes) held_limit) refl (so tt)
    asked_body (Bind send receive group contexts) so = Closes close.OutOfPlace tt
    asked_body (BindAck send receive group results) so = Closes close.OutOfPlace tt
    asked_body (BindNak reason) so = Closes close.OutOfPlace tt
    asked_body Auth3 so = Closes close.OutOfPlace tt
    asked_body (Response hint context stub) so = Closes close.OutOfPlace tt
    asked_body (Fault hint context status) so = Closes close.OutOfPlace tt

    asked_view : (unit : Result RpcUnit UnitRefused) → (IsRequestUnit unit → IsRequestUnit (unit_of bytes)) → AskedView (unit_asked unit bytes bound place held joiner at)
    asked_view (Err why) so = Closes close.BadUnit tt
    asked_view (Ok unit) so = asked_body unit.body so

  -- ---- where a user is logged on

  module _ (on : LoggedOn) where
    abbrev InView : Served → Type 0
    InView served = BoundView bytes joiner at (phase.In on) served

    module _ (opened : Option SessionState) where
      abbrev opened_on : LoggedOn
      opened_on = with_state on opened

      -- what is sent for an answer
      abbrev pub Sends : RpcUnit → ℕ → ℕ → Answer → Type 0
      Sends unit call context a = (sent : List ℕ) (session : Option SessionState) → Replies call context opened_on a sent session → IsAnswered bytes joiner on unit sent session

      module _ (unit : RpcUnit) (call context : ℕ) where
        secured_view : (stub : List ℕ) (session : SessionState) (secured : Option Secured) → Sends unit call context (answer.Stub stub) → opened ≡ Some session →
            secure_call session on.bound.level on.bound.context (response_of call context stub) on.bound.binding.limit ≡ secured →
            InView (send_secured secured opened_on (open_after joiner unit) at)
        secured_view stub session None so has is = Closes close.BadAuthentication tt
        secured_view stub session (Some secured) so has is =
            Answers unit secured.bytes (Some secured.session) (so secured.bytes (Some secured.session) (AsSecured stub session secured has is))

        seal_view : (stub : List ℕ) (session : Option SessionState) → Sends unit call context (answer.Stub stub) → opened ≡ session →
            InView (secure_reply session call context stub opened_on (open_after joiner unit) at)
        seal_view stub None so has = Closes close.BadAuthentication tt
        seal_view stub (Some session) so has = secured_view stub session (secure_call session on.bound.level on.bound.context (response_of call context stub) on.bound.binding.limit) so has refl

        send_view : (plain : Bool) (stub : List ℕ) → Sends unit call context (answer.Stub stub) → InView (send_reply plain call context stub opened_on (open_after joiner unit) at)
        send_view true stub so =
            let sent : List ℕ = bytes_of_call (response_of call context stub) on.bound.binding.limit in Answers unit sent opened (so sent opened (AsPlain stub))
        send_view false stub so = seal_view stub opened so refl

        reply_view : (a : Answer) → Sends unit call context a → InView (reply a call context opened_on (open_after joiner unit) at)
        reply_view (answer.Fault status) so =
            let sent : List ℕ = written (fault_of call context status) in Answers unit sent opened (so sent opened (AsFault status))
        reply_view (answer.Stub stub) so = send_view (is_plain on.bound.level) stub so

      call_view : (body : Body) (unit whole : RpcUnit) → IsRequest bytes on unit opened → answer_of joiner unit ≡ Ok (Some whole) → whole.body ≡ body →
          InView (answer_call body whole.call opened_on (open_after joiner unit) at)
      call_view (Request hint context opnum stub) unit whole request joined is =
          reply_view unit whole.call context (call_answer (accepts on.bound.binding context) opnum on.name stub) (λ sent session replies. record {
            opened = opened;
            request = request;
            whole = whole;
            joined = joined;
            hint = hint;
            context = context;
            opnum = opnum;
            stub = stub;
            body = is;
            replies = replies;
          })
      call_view (Bind send receive group contexts) unit whole request joined is = Closes close.OutOfPlace tt
      call_view (BindAck send receive group results) unit whole request joined is = Closes close.OutOfPlace tt
      call_view (BindNak reason) unit whole request joined is = Closes close.OutOfPlace tt
      call_view Auth3 unit whole request joined is = Closes close.OutOfPlace tt
      call_view (Response hint context stub) unit whole request joined is = Closes close.OutOfPlace tt
      call_view (Fault hint context status) unit whole request joined is = Closes close.OutOfPlace tt

      join_view : (joined : Result (Option RpcUnit) JoinRefused) (unit : RpcUnit) → IsRequest bytes on unit opened → answer_of joiner unit ≡ joined →
          InView (join_by joined (open_after joiner unit) opened_on at)
      join_view (Err join.OutOfPlace) unit request is = Closes close.OutOfPlace tt
      join_view (Err join.CallTooLong) unit request is = Closes close.TooMuchHeld tt
      join_view (Err join.Memory) unit request is = Closes close.OutOfPlace tt
      join_view (Ok None) unit request is = Joins unit opened request is
      join_view (Ok (Some whole)) unit request is = call_view whole.body unit whole request is refl

      request_view : (body : Body) (unit : RpcUnit) → (IsRequestBody body → IsRequest bytes on unit opened) → InView (join_request body unit opened_on joiner at)
      request_view (Request hint context opnum stub) unit so = join_view (answer_of joiner unit) unit (so tt) refl
      request_view (Bind send receive group contexts) unit so = Closes close.OutOfPlace tt
      request_view (BindAck send receive group results) unit so = Closes close.OutOfPlace tt
      request_view (BindNak reason) unit so = Closes close.OutOfPlace tt
      request_view Auth3 unit so = Closes close.OutOfPlace tt
      request_view (Response hint context stub) unit so = Closes close.OutOfPlace tt
      request_view (Fault hint context status) unit so = Closes close.OutOfPlace tt

      plain_view : (unit : Result RpcUnit UnitRefused) (plain : List ℕ) → Opens bytes on plain opened → unit_of plain ≡ unit → InView (join_unit unit opened_on joiner at)
      plain_view (Err why) plain opens is = Closes close.BadUnit tt
      plain_view (Ok unit) plain opens is =
          request_view unit.body unit (λ request. record { plain = plain; opens = opens; read = is; is_request = request })

    opened_view : (session : SessionState) (opened : Option Secured) → is_plain on.bound.level ≡ false → signed_cause (unit_of bytes) on.bound.level ≡ None → on.session ≡ Some session →
        open_unit (is_sealed on.bound.level) session bytes ≡ opened → InView (join_opened opened on joiner at)
    opened_view session None level signed has is = Closes close.BadAuthentication tt
    opened_view session (Some opened) level signed has is =
        plain_view (Some opened.session) (unit_of opened.bytes) opened.bytes (Signed session opened level signed has is) refl

    session_view : (session : Option SessionState) → is_plain on.bound.level ≡ false → signed_cause (unit_of bytes) on.bound.level ≡ None → on.session ≡ session →
        InView (open_request session bytes on joiner at)
    session_view None level signed has = Closes close.BadAuthentication tt
    session_view (Some session) level signed has = opened_view session (open_unit (is_sealed on.bound.level) session bytes) level signed has refl

    signed_view : (cause : Option CloseCause) → is_plain on.bound.level ≡ false → signed_cause (unit_of bytes) on.bound.level ≡ cause → InView (signed_unit cause bytes on joiner at)
    signed_view (Some cause) level signed = Closes cause tt
    signed_view None level signed = session_view on.session level signed refl

    in_view : (plain : Bool) → is_plain on.bound.level ≡ plain → InView (unit_in plain bytes on joiner at)
    in_view true level = plain_view on.session (unit_of bytes) bytes (Unsigned level) refl
    in_view false level = signed_view (signed_cause (unit_of bytes) on.bound.level) level refl

  -- ---- where no user is logged on

  module _ (bound : Bound) (status : ℕ) where
    abbrev OutView : Served → Type 0
    OutView served = BoundView bytes joiner at (phase.Out bound status) served

    out_body : (body : Body) (call : ℕ) → (IsRequestUnit (unit_of bytes) → IsRequestBody body) → OutView (body_out body call bound status joiner at)
    out_body (Request hint context opnum stub) call so = Faults call context
    out_body (Bind send receive group contexts) call so = Closes close.OutOfPlace so
    out_body (BindAck send receive group results) call so = Closes close.OutOfPlace so
    out_body (BindNak reason) call so = Closes close.OutOfPlace so
    out_body Auth3 call so = Closes close.OutOfPlace so
    out_body (Response hint context stub) call so = Closes close.OutOfPlace so
    out_body (Fault hint context other) call so = Closes close.OutOfPlace so

    out_view : (unit : Result RpcUnit UnitRefused) → (IsRequestUnit (unit_of bytes) → IsRequestUnit unit) → OutView (unit_out unit bound status joiner at)
    out_view (Err why) so = Closes close.BadUnit so
    out_view (Ok unit) so = out_body unit.body unit.call so

  pub bound_view : (p : Phase) → BoundView bytes joiner at p (bound_unit p bytes joiner at)
  bound_view phase.Fresh = Closes close.OutOfPlace tt
  bound_view (phase.Challenged bound challenge flags) = challenged_view bound challenge flags (unit_of bytes) refl
  bound_view (phase.Asked bound place held) = asked_view bound place held (unit_of bytes) (λ is. is)
  bound_view (phase.In on) = in_view on (is_plain on.bound.level) refl
  bound_view (phase.Out bound status) = out_view bound status (unit_of bytes) (λ is. is)

-- ---- what a unit comes to on any accepted link, by the challenges that are left

-- the unit is a bind whose offer is taken up, and its answer fits
pub record IsTakenUp (bytes : List ℕ) (plan : MemberPlan) (offer : Offer) (call receive : ℕ) (contexts : List (ℕ × Syntax × List Syntax)) : Type 0 where
  pub unit : RpcUnit
  pub unit_read : unit_of bytes ≡ Ok unit
  pub offers : offer_in unit.trailer ≡ Some offer
  pub fits : ack_fits offer plan call receive contexts ≡ true

pub data UnitView (bytes : List ℕ) (joiner : Option RpcUnit) (at : AtLink) : Phase → List (List ℕ) → ServedPart → Type 0 where
  -- none is drawn
  Serves : {p : Phase} {left : List (List ℕ)} {served : Served} → BoundView bytes joiner at p served → UnitView bytes joiner at p left (drawless served left)
  -- a bind is refused
  Naks : {left : List (List ℕ)} (call : ℕ) → UnitView bytes joiner at phase.Fresh left (drawless (refusal_of_bind call joiner at) left)
  -- none is left for the answer to a bind
  Spends : UnitView bytes joiner at phase.Fresh [] (Err refused.Spent)
  -- a bind is answered with a CHALLENGE
  Challenges : {left : List (List ℕ)} (offer : Offer) (call receive : ℕ) (contexts : List (ℕ × Syntax × List Syntax)) (challenge : List ℕ) →
      IsTakenUp bytes at.logons.plan offer call receive contexts →
      UnitView bytes joiner at phase.Fresh (challenge ∷ left) (drawless (answer_of_bind offer call receive contexts challenge joiner at) left)

module _ (bytes : List ℕ) (joiner : Option RpcUnit) (at : AtLink) where
  abbrev FreshView : List (List ℕ) → ServedPart → Type 0
  FreshView left part = UnitView bytes joiner at phase.Fresh left part

  module _ (call receive : ℕ) (contexts : List (ℕ × Syntax × List Syntax)) where
    answer_view : (fits : Bool) (offer : Offer) (left : List (List ℕ)) → (fits ≡ true → IsTakenUp bytes at.logons.plan offer call receive contexts) →
        FreshView left (answer_bind fits offer call receive contexts joiner at left)
    answer_view false offer left so = Naks call
    answer_view true offer [] so = Spends
    answer_view true offer (challenge ∷ left) so = Challenges offer call receive contexts challenge (so refl)

    bind_view : (offer : Option Offer) (unit : RpcUnit) (left : List (List ℕ)) → unit_of bytes ≡ Ok unit → offer_in unit.trailer ≡ offer →
        FreshView left (bind_by offer call receive contexts joiner at left)
    bind_view None unit left read offers = Naks call
    bind_view (Some offer) unit left read offers =
        answer_view (ack_fits offer at.logons.plan call receive contexts) offer left (λ fits. record { unit = unit; unit_read = read; offers = offers; fits = fits })

  fresh_view : (body : Body) (unit : RpcUnit) (left : List (List ℕ)) → unit_of bytes ≡ Ok unit → FreshView left (fresh_unit body unit.trailer unit.call joiner at left)
  fresh_view (Bind send receive group contexts) unit left read = bind_view unit.call receive contexts (offer_in unit.trailer) unit left read refl
  fresh_view (BindAck send receive group results) unit left read = Serves (Closes close.OutOfPlace tt)
  fresh_view (BindNak reason) unit left read = Serves (Closes close.OutOfPlace tt)
  fresh_view Auth3 unit left read = Serves (Closes close.OutOfPlace tt)
  fresh_view (Request hint context opnum stub) unit left read = Serves (Closes close.OutOfPlace tt)
  fresh_view (Response hint context stub) unit left read = Serves (Closes close.OutOfPlace tt)
  fresh_view (Fault hint context status) unit left read = Serves (Closes close.OutOfPlace tt)

  first_view : (unit : Result RpcUnit UnitRefused) (left : List (List ℕ)) → unit_of bytes ≡ unit → FreshView left (first_unit unit joiner at left)
  first_view (Err why) left read = Serves (Closes close.BadUnit tt)
  first_view (Ok unit) left read = fresh_view unit.body unit left read

  pub unit_view : (p : Phase) (left : List (List ℕ)) → UnitView bytes joiner at p left (unit_by (is_fresh p) p bytes joiner at left)
  unit_view phase.Fresh left = first_view (unit_of bytes) left refl
  unit_view (phase.Challenged bound challenge flags) left = Serves (bound_view bytes joiner at (phase.Challenged bound challenge flags))
  unit_view (phase.Asked bound place held) left = Serves (bound_view bytes joiner at (phase.Asked bound place held))
  unit_view (phase.In on) left = Serves (bound_view bytes joiner at (phase.In on))
  unit_view (phase.Out bound status) left = Serves (bound_view bytes joiner at (phase.Out bound status))

-- ---- units that were held, one after the other

-- A fact of the member at work and of what is said stays through held units, where it stays through each unit whose
-- bytes are such. Where the link is closed nothing more is served.
module _ (AreSuch : List ℕ → Type 0) (Holds : Served → Type 0)
    (stays : (bytes : List ℕ) (at : AtLink) (talk : Talk) → AreSuch bytes → Holds (stay at talk) → Holds (bound_unit talk.phase bytes talk.joiner at)) where
  then_keeps : (units : List (List ℕ)) → ((at : AtLink) (talk : Talk) → Holds (stay at talk) → Holds (serve_held units at talk)) →
      (at : AtLink) (said : Option Talk) → Holds (at, said) → Holds (then_said at said (λ next talk. serve_held units next talk))
  then_keeps units later at None holds = holds
  then_keeps units later at (Some talk) holds = later at talk holds

  pub held_among : (units : List (List ℕ)) → AllByRecursion AreSuch units → (at : AtLink) (talk : Talk) → Holds (stay at talk) → Holds (serve_held units at talk)
  held_among [] all at talk holds = holds
  held_among (bytes ∷ units) all at talk holds =
      let served : Served = bound_unit talk.phase bytes talk.joiner at in
      then_keeps units (held_among units all.1) served.0 served.1 (stays bytes at talk all.0 holds)

any_bytes : (units : List (List ℕ)) → AllByRecursion (λ (bytes : List ℕ). Unit {0}) units
any_bytes [] = tt
any_bytes (bytes ∷ units) = (tt, any_bytes units)

-- what holds is held through any unit
pub held_keeps : (Holds : Served → Type 0) →
    ((bytes : List ℕ) (at : AtLink) (talk : Talk) → Holds (stay at talk) → Holds (bound_unit talk.phase bytes talk.joiner at)) →
    (units : List (List ℕ)) (at : AtLink) (talk : Talk) → Holds (stay at talk) → Holds (serve_held units at talk)
held_keeps Holds stays units at talk holds =
    held_among (λ (bytes : List ℕ). Unit {0}) Holds (λ bytes at talk such holds. stays bytes at talk holds) units (any_bytes units) at talk holds
