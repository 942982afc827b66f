-- Requests on links that are bound (C706 12.6.4.9, 12.6.4.10, 12.6.4.7): held while the logon is asked, served once a
-- user is logged on, and else answered with a fault.
use Rattle.std.specs.Prelude.{ℕ, ◌+◌, ◌==◌, ◌&&◌, Bool, true, false, nat_le, List, [], ◌∷◌, ◌++◌, length, Option, Some, None, Result, Ok, Err}
use Rattle.outside.specs.declared.action.CloseCause.{CloseCause}
use Rattle.outside.specs.declared.action.CloseCause.TheVariants as close
use Rattle.ntlm_seal.specs.Sessions.{SessionState}
use Rattle.rpc_units.specs.declared.refused.JoinRefused.{JoinRefused}
use Rattle.rpc_units.specs.declared.refused.JoinRefused.TheVariants as join
use Rattle.rpc_units.specs.declared.refused.UnitRefused.{UnitRefused}
use Rattle.rpc_units.specs.declared.unit.Body.{Body}
use Rattle.rpc_units.specs.declared.unit.Body.TheVariants.{Request}
use Rattle.rpc_units.specs.declared.unit.Trailer.{Trailer}
use Rattle.rpc_units.specs.declared.unit.Unit.{Unit as RpcUnit}
use Rattle.rpc_units.specs.Calls.{bytes_of_call}
use Rattle.rpc_units.specs.Joining.{answer_of, open_after}
use Rattle.rpc_units.specs.Reading.{unit_of}
use Rattle.unit_security.specs.declared.securing.Secured.{Secured}
use Rattle.unit_security.specs.Levels.{is_plain, is_sealed}
use Rattle.unit_security.specs.Securing.{open_unit, secure_call}
use Rattle.end_links.specs.Agreed.{accepts}
use Rattle.end_links.specs.Sending.{fault_of, response_of}
use Rattle.member_server.specs.declared.memo.Answer.{Answer}
use Rattle.member_server.specs.declared.memo.Answer.TheVariants as answer
use Rattle.member_server.specs.declared.state.AtLink.{AtLink}
use Rattle.member_server.specs.declared.state.Bound.{Bound}
use Rattle.member_server.specs.declared.state.LoggedOn.{LoggedOn}
use Rattle.member_server.specs.declared.state.Phase.TheVariants as phase
use Rattle.member_server.specs.declared.state.Talk.{Talk}
use Rattle.member_server.specs.Held.{held_size, held_limit}
use Rattle.member_server.specs.Memo.{call_answer}
use Rattle.member_server.specs.Work.{Served, send, send_unit, stay, shut}

-- ---- replies

abbrev pub talk_in : Option RpcUnit → LoggedOn → Talk
talk_in joiner on = record { joiner = joiner; phase = phase.In on }

abbrev pub with_session : LoggedOn → SessionState → LoggedOn
with_session on session = record on { session = Some session }

-- nothing of a reply that the session refuses is sent
abbrev pub send_secured : Option Secured → LoggedOn → Option RpcUnit → AtLink → Served
send_secured None on joiner at = shut close.BadAuthentication at
send_secured (Some secured) on joiner at = stay (send at secured.bytes) (talk_in joiner (with_session on secured.session))

-- the reply as it is signed: with trailers of the bind's level and context
abbrev pub secure_reply : Option SessionState → ℕ → ℕ → List ℕ → LoggedOn → Option RpcUnit → AtLink → Served
secure_reply None call context stub on joiner at = shut close.BadAuthentication at
secure_reply (Some session) call context stub on joiner at =
    send_secured (secure_call session on.bound.level on.bound.context (response_of call context stub) on.bound.binding.limit) on joiner at

-- a reply is sent plain at the level without signatures, else under the session
abbrev pub send_reply : (is_plain : Bool) (call context : ℕ) (stub : List ℕ) (on : LoggedOn) (joiner : Option RpcUnit) (at : AtLink) → Served
send_reply true call context stub on joiner at =
    stay (send at (bytes_of_call (response_of call context stub) on.bound.binding.limit)) (talk_in joiner on)
send_reply false call context stub on joiner at = secure_reply on.session call context stub on joiner at

-- a fault carries no trailer
abbrev pub reply : Answer → ℕ → ℕ → LoggedOn → Option RpcUnit → AtLink → Served
reply (answer.Fault status) call context on joiner at = stay (send_unit at (fault_of call context status)) (talk_in joiner on)
reply (answer.Stub stub) call context on joiner at = send_reply (is_plain on.bound.level) call context stub on joiner at

-- ---- a user is logged on: requests in plain form are joined, and a whole call is answered

abbrev pub answer_call : Body → ℕ → LoggedOn → Option RpcUnit → AtLink → Served
answer_call (Request hint context opnum stub) call on joiner at =
    reply (call_answer (accepts on.bound.binding context) opnum on.name stub) call context on joiner at
answer_call _ call on joiner at = shut close.OutOfPlace at

abbrev pub join_by : Result (Option RpcUnit) JoinRefused → Option RpcUnit → LoggedOn → AtLink → Served
join_by (Err join.OutOfPlace) after on at = shut close.OutOfPlace at
join_by (Err join.CallTooLong) after on at = shut close.TooMuchHeld at
join_by (Err join.Memory) after on at = shut close.OutOfPlace at
join_by (Ok None) after on at = stay at (talk_in after on)
join_by (Ok (Some unit)) after on at = answer_call unit.body unit.call on after at

-- a unit that is a request
abbrev pub join_request : Body → RpcUnit → LoggedOn → Option RpcUnit → AtLink → Served
join_request (Request hint context opnum stub) unit on joiner at = join_by (answer_of joiner unit) (open_after joiner unit) on at
join_request _ unit on joiner at = shut close.OutOfPlace at

abbrev pub join_unit : Result RpcUnit UnitRefused → LoggedOn → Option RpcUnit → AtLink → Served
join_unit (Err why) on joiner at = shut close.BadUnit at
join_unit (Ok unit) on joiner at = join_request unit.body unit on joiner at

-- ---- at a level that signs, a request is joined once its signature is taken

-- the trailer is there, of that level, and its value has 16 bytes
abbrev pub is_due : ℕ → Option Trailer → Bool
is_due level None = false
is_due level (Some trailer) = (trailer.level == level) && (length trailer.value == 16)

-- why a unit isn't a request with the trailer that is due, where it isn't
abbrev pub cause_by : (body : Body) (has_due_trailer : Bool) → Option CloseCause
cause_by (Request hint context opnum stub) false = Some close.BadAuthentication
cause_by (Request hint context opnum stub) true = None
cause_by _ due = Some close.OutOfPlace

abbrev pub signed_cause : Result RpcUnit UnitRefused → ℕ → Option CloseCause
signed_cause (Err why) level = Some close.BadUnit
signed_cause (Ok unit) level = cause_by unit.body (is_due level unit.trailer)

abbrev pub join_opened : Option Secured → LoggedOn → Option RpcUnit → AtLink → Served
join_opened None on joiner at = shut close.BadAuthentication at
join_opened (Some opened) on joiner at = join_unit (unit_of opened.bytes) (with_session on opened.session) joiner at

abbrev pub open_request : Option SessionState → List ℕ → LoggedOn → Option RpcUnit → AtLink → Served
open_request None bytes on joiner at = shut close.BadAuthentication at
open_request (Some session) bytes on joiner at = join_opened (open_unit (is_sealed on.bound.level) session bytes) on joiner at

abbrev pub signed_unit : Option CloseCause → List ℕ → LoggedOn → Option RpcUnit → AtLink → Served
signed_unit (Some cause) bytes on joiner at = shut cause at
signed_unit None bytes on joiner at = open_request on.session bytes on joiner at

-- a unit of who is logged on; at the level without signatures a trailer is passed over
abbrev pub unit_in : (is_plain : Bool) (bytes : List ℕ) (on : LoggedOn) (joiner : Option RpcUnit) (at : AtLink) → Served
unit_in true bytes on joiner at = join_unit (unit_of bytes) on joiner at
unit_in false bytes on joiner at = signed_unit (signed_cause (unit_of bytes) on.bound.level) bytes on joiner at

-- ---- no user is logged on: each request is answered with a fault

abbrev pub body_out : Body → ℕ → Bound → ℕ → Option RpcUnit → AtLink → Served
body_out (Request hint context opnum stub) call bound status joiner at =
    stay (send_unit at (fault_of call context status)) (record { joiner = joiner; phase = phase.Out bound status })
body_out _ call bound status joiner at = shut close.OutOfPlace at

abbrev pub unit_out : Result RpcUnit UnitRefused → Bound → ℕ → Option RpcUnit → AtLink → Served
unit_out (Err why) bound status joiner at = shut close.BadUnit at
unit_out (Ok unit) bound status joiner at = body_out unit.body unit.call bound status joiner at

-- ---- the logon is asked: requests are held

-- a request is held, where it fits beside those that are held
abbrev pub hold_by : (fits : Bool) (bytes : List ℕ) (bound : Bound) (place : ℕ) (held : List (List ℕ)) (joiner : Option RpcUnit) (at : AtLink) → Served
hold_by false bytes bound place held joiner at = shut close.TooMuchHeld at
hold_by true bytes bound place held joiner at =
    stay at (record { joiner = joiner; phase = phase.Asked bound place (held ++ bytes ∷ []) })

abbrev pub body_asked : Body → List ℕ → Bound → ℕ → List (List ℕ) → Option RpcUnit → AtLink → Served
body_asked (Request hint context opnum stub) bytes bound place held joiner at =
    hold_by (nat_le (held_size held + length bytes) held_limit) bytes bound place held joiner at
body_asked _ bytes bound place held joiner at = shut close.OutOfPlace at

abbrev pub unit_asked : Result RpcUnit UnitRefused → List ℕ → Bound → ℕ → List (List ℕ) → Option RpcUnit → AtLink → Served
unit_asked (Err why) bytes bound place held joiner at = shut close.BadUnit at
unit_asked (Ok unit) bytes bound place held joiner at = body_asked unit.body bytes bound place held joiner at
