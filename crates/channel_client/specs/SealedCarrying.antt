-- How a channel that seals and the end of its controller carry calls (MS-NRPC 3.3.4.2): both begin alike as the channel
-- opens, a call that goes out arrives as that call, and what the controller's end seals the channel opens. The
-- controller's end is told by the state of its seal alone.
use Rattle.std.specs.Prelude.{ℕ, ◌≡◌, ◌==◌, ◌+◌, ◌<◌, ◌^◌, true, false, List, length, Some, Ok}
use Rattle.authenticators.specs.SecureChannels.{SecureChannelState, key_of_channel}
use Rattle.rpc_units.specs.declared.unit.Syntax.{Syntax}
use Rattle.rpc_units.specs.declared.unit.Unit.{Unit as RpcUnit}
use Rattle.rpc_units.specs.declared.unit.Body.TheVariants.{BindAck}
use Rattle.logon_stubs.specs.Calls.{opnum_of_call}
use Rattle.logon_stubs.specs.Writing.{written_call}
use Rattle.logon_stubs.specs.declared.calls.Call.{Call}
use Rattle.secret_change.specs.Calls.{set_opnum, written_set_call}
use Rattle.secret_change.specs.declared.calls.SetCall.{SetCall}
use Rattle.end_links.specs.Sending.{request_of}
use Rattle.netlogon_seal.specs.Channels.{NlState, nl_state_of}
use Rattle.netlogon_seal.specs.Runs.{Follows, Paired}
use Rattle.channel_sealing.specs.Exchanges.{IsCarried, open_frame}
use Rattle.channel_sealing.specs.Frames.{SealedFrame, range_of}
use Rattle.channel_client.specs.Machine.{is_accepting, place_of, question_of, wait_for}
use Rattle.channel_client.specs.Sealed.{channel_take, room_frames_of, unseal_of}
use Rattle.channel_client.specs.State.{Requester}
use Rattle.channel_client.specs.Whole.{InRangeRequester}
use Rattle.channel_client.specs.declared.answers.Taken.TheVariants as taken
use Rattle.channel_client.specs.declared.state.Pending.{Pending}
use Rattle.channel_client.specs.declared.state.Sealing.{Sealing}
use Rattle.channel_client.specs.declared.state.SetStep.TheVariants as set_step
use Rattle.channel_client.specs.declared.state.Standing.TheVariants as standing
use Rattle.channel_client.specs.declared.state.Step.{Step}
use Rattle.channel_client.specs.declared.state.Step.TheVariants as step

-- the channel that opened, and its end: that of the requester, of the channel's key; it is in step with the
-- controller's
pub record OpensSealed (t : Requester) : Type 0 where
  pub channel : SecureChannelState
  pub stands : t.standing ≡ standing.Open channel
  pub kept : Sealing
  pub keeps : t.sealing ≡ Some kept
  pub begins : kept.seal ≡ nl_state_of (key_of_channel channel) true
  pub paired : Paired (nl_state_of (key_of_channel channel) true) (nl_state_of (key_of_channel channel) false)

-- a turn is out on the open channel, the unit accepts its bind, and the other end opens next what the channel seals
-- next
pub record LetsOut (g : Sealing) (s : Requester) (p : Pending) (unit : RpcUnit) (receive : ℕ) (other : NlState) : Type 0 where
  pub seals : s.sealing ≡ Some g
  pub channel : SecureChannelState
  pub stands : s.standing ≡ standing.Open channel
  pub out : s.turn ≡ Some p
  pub numbered : (unit.call == p.number) ≡ true
  pub send : ℕ
  pub group : ℕ
  pub results : List (ℕ × ℕ × Syntax)
  pub answers : unit.body ≡ BindAck send receive group results
  pub accepts : is_accepting results ≡ true
  pub follows : Follows g.seal other
  pub confounder : length g.confounder ≡ 8
  pub ranges : InRangeRequester s

-- the request goes out in sealed frames, arrives as that request, and the turn waits for its reply in that step
pub record GoesSealed (g : Sealing) (s : Requester) (unit : RpcUnit) (receive : ℕ) (other : NlState) (request : RpcUnit) (st : Step) : Type 0 where
  pub carried : IsCarried g.seal other g.confounder (room_frames_of request receive) request
  pub goes :
      channel_take s unit
      ≡ record {
        taken = taken.Next tt carried.sealed.frames;
        state = record (wait_for s (place_of s.turn) st) { sealing = Some (record g { seal = carried.sealed.seal }) };
      }

-- the channel opens the frame in its place, as its end does
pub record Unseals (g : Sealing) (s : Requester) (frame : List ℕ) (one : SealedFrame) : Type 0 where
  pub range : ℕ × ℕ
  pub is : range_of frame ≡ Some range
  pub opens :
      unseal_of s frame range.0 range.1
      ≡ record { answer = Ok tt; unit = one.frame; state = record s { sealing = Some (record g { seal = one.seal }) } }

pub record SealedChannelsCarry : Type 0 where
  pub opens : (g : Sealing) (s : Requester) (unit : RpcUnit) → s.sealing ≡ Some g → (channel_take s unit).taken ≡ taken.Opened → OpensSealed (channel_take s unit).state
  -- where the end has numbers left for the frames
  pub calls : (g : Sealing) (s : Requester) (p : Pending) (unit : RpcUnit) (receive : ℕ) (other : NlState) (c : Call) → LetsOut g s p unit receive other → p.step ≡ step.Bind c →
      g.seal.sent + length (room_frames_of (request_of s.next_call 0 (opnum_of_call c) (written_call c)) receive) < 2 ^ 32 →
      GoesSealed g s unit receive other (request_of s.next_call 0 (opnum_of_call c) (written_call c)) (step.Reply (question_of c))
  pub sets : (g : Sealing) (s : Requester) (p : Pending) (unit : RpcUnit) (receive : ℕ) (other : NlState) (c : SetCall) → LetsOut g s p unit receive other → p.step ≡ step.Set (set_step.Bind c) →
      g.seal.sent + length (room_frames_of (request_of s.next_call 0 set_opnum (written_set_call c)) receive) < 2 ^ 32 →
      GoesSealed g s unit receive other (request_of s.next_call 0 set_opnum (written_set_call c)) (step.Set set_step.Reply)
  -- frames that arrive are opened by the channel, one after the other, as `IsCarried` has it of its end
  pub unseals : (g : Sealing) (s : Requester) (frame : List ℕ) (one : SealedFrame) → s.sealing ≡ Some g → open_frame g.seal frame ≡ Some one → Unseals g s frame one
