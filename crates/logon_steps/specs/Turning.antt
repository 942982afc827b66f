-- A turn of a member on a link with its controller, unit by unit, whichever call it makes (C706
-- 12.6.3, 12.6.4; MS-NRPC 3.5.4).
use Rattle.std.specs.Prelude.{ℕ, ◌≡◌, ◌≤◌, ◌<◌, ◌^◌, true, List, [], ◌∷◌, length, Some, None, Ok}
use Rattle.outside.specs.declared.action.Action.TheVariants as action
use Rattle.rpc_units.specs.declared.unit.Unit.{Unit as RpcUnit}
use Rattle.rpc_units.specs.declared.unit.Body.TheVariants.{BindAck}
use Rattle.rpc_units.specs.Calls.{bytes_of_call}
use Rattle.rpc_units.specs.Numbers.{ndr_syntax}
use Rattle.rpc_units.specs.Stream.{cut_stream}
use Rattle.rpc_units.specs.Writing.{written}
use Rattle.logon_stubs.specs.declared.calls.Call.{Call}
use Rattle.logon_stubs.specs.declared.calls.Reply.{Reply}
use Rattle.logon_stubs.specs.Ranges.{call_content, InRangeCall, InRangeReply}
use Rattle.logon_stubs.specs.Writing.{CanWriteCall, CanWriteReply, written_call, written_reply}
use Rattle.logon_stubs.specs.Calls.{opnum_of_call, opnum_of_reply}
use Rattle.end_links.specs.Agreed.{Agreed}
use Rattle.end_links.specs.Binding.{bind_of}
use Rattle.end_links.specs.Sending.{frames_of, joined_frames, request_of, response_of}
use Rattle.end_links.specs.Serving.{served_cut}
use Rattle.end_links.specs.Whole.{content_limit}
use Rattle.logon_stubs.specs.Interface.{netlogon_syntax}
use Rattle.channel_client.specs.declared.answers.Taken.TheVariants as taken
use Rattle.channel_client.specs.declared.state.Question.{Question}
use Rattle.channel_client.specs.declared.state.Step.{Step}
use Rattle.channel_client.specs.declared.state.Step.TheVariants as step
use Rattle.channel_client.specs.Machine.{judge, opnum_asked, question_of, settle, take_of, wait_for}
use Rattle.channel_client.specs.State.{Requester}
use Rattle.domain_controller.specs.Hearing.{bound_talk, first_talk, is_served, served_call}
use Rattle.domain_controller.specs.Machine.{Desk, by_call, controller_server, desk, goes_on, tell}
use Rattle.member_server.specs.Turns.{AtTurn, take_by, turn_server, turn_talk}

-- ---- the units

-- the answer to a bind of that number, which accepts its one context
abbrev pub turn_ack : ℕ → RpcUnit
turn_ack number = record {
  first = true;
  last = true;
  call = number;
  body = BindAck 5840 5840 1 ((0, 0, ndr_syntax) ∷ []);
  trailer = None;
}

-- what is agreed on then
abbrev pub turn_agreed : Agreed
turn_agreed = record { contexts = 0 ∷ []; limit = 5840 }

-- the request, and the reply to it
abbrev pub turn_request : ℕ → Call → RpcUnit
turn_request number c = request_of number 0 (opnum_of_call c) (written_call c)

abbrev pub turn_response : ℕ → Reply → RpcUnit
turn_response number r = response_of number 0 (written_reply r)

-- a call that a controller serves, and that can be written and read
pub record IsTurnCall (c : Call) : Type 0 where
  pub served : is_served (opnum_of_call c) ≡ true
  pub writes : CanWriteCall c
  pub range : InRangeCall c
  pub short : call_content c ≤ content_limit

-- a reply to a question, which can be written, joined and read
pub record IsTurnReply (q : Question) (r : Reply) : Type 0 where
  pub opnum : opnum_of_reply r ≡ opnum_asked q
  pub writes : CanWriteReply r
  pub range : InRangeReply r
  pub short : length (written_reply r) ≤ content_limit

-- ---- a controller

pub record HearsTurns : Type 0 where
  -- the bind is answered
  pub bind : (name : List ℕ) (now link number : ℕ) (d : Desk) (left : List (List ℕ)) → number < 2 ^ 32 →
      served_cut (controller_server name now link) (cut_stream (written (bind_of netlogon_syntax number))) d first_talk left
      ≡ goes_on (desk d.table (tell d.work (action.Send link (written (turn_ack number))))) (bound_talk None turn_agreed) left
  -- the call is heard once, whatever its fragments
  pub call : (name : List ℕ) (now link number : ℕ) (c : Call) (d : Desk) (left : List (List ℕ)) → number < 2 ^ 32 → IsTurnCall c →
      served_cut (controller_server name now link) (cut_stream (bytes_of_call (turn_request number c) 5840)) d (bound_talk None turn_agreed) left
      ≡ by_call (served_call c) (record { link = link; call = number; context = 0; limit = 5840 }) (bound_talk None turn_agreed) name now d left

-- ---- a member's channel

-- a turn that waits for the answer to its bind or call of that number
abbrev pub turn_at : ℕ → ℕ → Step → Requester → Requester
turn_at number place how s = record s { turn = Some (record { number = number; place = place; step = how }) }

pub record TakesTurns : Type 0 where
  -- the call goes out
  pub ack : (s : Requester) (number place : ℕ) (c : Call) →
      take_of (turn_at number place (step.Bind c) s) (turn_ack number)
      ≡ record { taken = taken.Next tt (frames_of (turn_request s.next_call c) 5840); state = wait_for (turn_at number place (step.Bind c) s) place (step.Reply (question_of c)) }
  -- the reply is judged
  pub reply : (s : Requester) (number place : ℕ) (q : Question) (r : Reply) → IsTurnReply q r →
      take_of (turn_at number place (step.Reply q) s) (turn_response number r)
      ≡ settle (judge q r s.standing s.caller.secret) (turn_at number place (step.Reply q) s)
  -- on the link of the turn each is taken once, whatever its fragments
  pub ack_heard : (at : AtTurn) (number : ℕ) (left : List (List ℕ)) → number < 2 ^ 32 →
      served_cut turn_server (cut_stream (written (turn_ack number))) at (turn_talk None) left
      ≡ Ok (record { value = take_by (take_of at.work.logons.channel (turn_ack number)) None at; left = left })
  pub reply_heard : (at : AtTurn) (number : ℕ) (q : Question) (r : Reply) (left : List (List ℕ)) → number < 2 ^ 32 → IsTurnReply q r →
      served_cut turn_server (cut_stream (bytes_of_call (turn_response number r) 5840)) at (turn_talk None) left
      ≡ Ok (record { value = take_by (take_of at.work.logons.channel (turn_response number r)) None at; left = left })
  -- the frames of a call that are sent are its bytes
  pub frames : (number : ℕ) (c : Call) → joined_frames (frames_of (turn_request number c) 5840) ≡ bytes_of_call (turn_request number c) 5840

pub record TurnsGoThrough : Type 0 where
  pub hears : HearsTurns
  pub takes : TakesTurns
