-- A channel that seals carries calls to its controller, and opens what comes back. It serves
-- `sealed_channels_carry_calls`.
use Rattle.std.proofs.Common.{◌≡◌, ◌+◌, ◌<◌, ◌≤◌, ◌^◌, ℕ, Bool, true, List, length, Option, Some, None, Result, Ok, Err, refl, ap, subst, ◌∙◌, arith}
use Rattle.authenticators.specs.SecureChannels.{key_of_channel}
use Rattle.rpc_units.specs.declared.unit.Unit.{Unit as RpcUnit}
use Rattle.rpc_units.specs.declared.unit.Body.{Body}
use Rattle.logon_stubs.specs.Calls.{opnum_of_call}
use Rattle.logon_stubs.specs.Writing.{written_call}
use Rattle.logon_stubs.specs.declared.calls.Call.{Call}
use Rattle.logon_stubs.proofs.WrittenLaws.{written_call-content}
use Rattle.secret_change.specs.Calls.{set_opnum, written_set_call}
use Rattle.secret_change.specs.declared.calls.SetCall.{SetCall}
use Rattle.end_links.specs.Sending.{request_of}
use Rattle.netlogon_seal.specs.declared.refusal.NlRefused.{NlRefused}
use Rattle.netlogon_seal.specs.Channels.{NlState, Opening, nl_state_of, open_of}
use Rattle.netlogon_seal.proofs.CarryLaws.{paired_first}
use Rattle.channel_sealing.specs.Exchanges.{IsCarried, open_in, opened_with}
use Rattle.channel_sealing.specs.Frames.{SealedFrame, SealedFrames, frame_by, range_of}
use Rattle.channel_sealing.proofs.ExchangeLaws.{sealed_calls_arrive}
use Rattle.channel_sealing.specs.Trailers.{own_context}
use Rattle.channel_client.specs.Machine.{SetOutcome, judge_set, question_of, settle_set}
use Rattle.channel_client.specs.Sealed.{act_heard, act_sealed, hear_room_ack, hear_room_body, hear_room_by, heard_by, judge_sealed, room_frames_of, seal_heard, sealed_next, sealed_set, settle_sealed, take_with, unseal_with, unsealed_by}
use Rattle.channel_client.specs.SealedCarrying.{GoesSealed, LetsOut, OpensSealed, SealedChannelsCarry, Unseals}
use Rattle.channel_client.specs.Sealing.{opened_sealing}
use Rattle.channel_client.specs.State.{Requester}
use Rattle.channel_client.specs.Whole.{HasRoom, HasSetRoom, InRangeStep, InRangeTurn}
use Rattle.channel_client.proofs.WholeLaws.{opnum_small, set_few}
use Rattle.channel_client.specs.declared.answers.Taken.TheVariants as taken
use Rattle.channel_client.specs.declared.hearing.Hearing.{Hearing}
use Rattle.channel_client.specs.declared.hearing.Hearing.TheVariants as hearing
use Rattle.channel_client.specs.declared.hearing.SetHearing.TheVariants as set_hearing
use Rattle.channel_client.specs.declared.judging.Judgement.{Judgement}
use Rattle.channel_client.specs.declared.judging.Judgement.TheVariants as judgement
use Rattle.channel_client.specs.declared.state.Pending.{Pending}
use Rattle.channel_client.specs.declared.state.Sealing.{Sealing}
use Rattle.channel_client.specs.declared.state.SetStep.TheVariants as set_step
use Rattle.channel_client.specs.declared.state.Standing.{Standing}
use Rattle.channel_client.specs.declared.state.Standing.TheVariants as standing
use Rattle.channel_client.specs.declared.state.Step.{Step}
use Rattle.channel_client.specs.declared.state.Step.TheVariants as step

-- ---- as the channel opens

opened_settles : (j : Judgement) (s : Requester) (g : Sealing) → s.sealing ≡ Some g → (settle_sealed j s).taken ≡ taken.Opened → OpensSealed (settle_sealed j s).state
opened_settles (judgement.Half client server) s g seals is = absurd cc
opened_settles (judgement.Opened o) s g seals is = record {
  channel = o;
  stands = refl;
  kept = record g { seal = nl_state_of (key_of_channel o) true };
  keeps = ap (λ (kept : Option Sealing). opened_sealing kept o) seals;
  begins = refl;
  paired = paired_first (key_of_channel o) true;
}
opened_settles (judgement.Answer o v) s g seals is = absurd cc
opened_settles (judgement.Drop cause) s g seals is = absurd cc

set_opens_none : (judged : SetOutcome) (s : Requester) → (settle_set judged s).taken ≡ taken.Opened → ⊥
set_opens_none (Ok o) s is = absurd cc
set_opens_none (Err cause) s is = absurd cc

opened_acts : (h : Hearing) (s : Requester) (g : Sealing) → s.sealing ≡ Some g → (act_sealed h s).taken ≡ taken.Opened → OpensSealed (act_sealed h s).state
opened_acts hearing.Skip s g seals is = absurd cc
opened_acts (hearing.Next q frames) s g seals is = absurd cc
opened_acts (hearing.Reply q r) s g seals is = opened_settles (judge_sealed q r s.standing s.caller.secret) s g seals is
opened_acts (hearing.Drop cause) s g seals is = absurd cc
opened_acts (hearing.Set (set_hearing.Next frames)) s g seals is = absurd cc
opened_acts (hearing.Set (set_hearing.Reply r)) s g seals is = absurd (set_opens_none (judge_set r s.standing) s is)

opened_taken : (kept : Option Sealing) (g : Sealing) (s : Requester) (unit : RpcUnit) → kept ≡ Some g → (take_with kept s unit).taken ≡ taken.Opened → OpensSealed (take_with kept s unit).state
opened_taken None g s unit seals is = absurd (let x = seals in cc)
opened_taken (Some own) g s unit seals is =
    let heard : Hearing × Sealing = heard_by s.standing own s.turn unit s.next_call in opened_acts heard.0 (record s { sealing = Some heard.1 }) heard.1 refl is

-- ---- a call goes out

module _ (g : Sealing) (s : Requester) (p : Pending) (unit : RpcUnit) (receive : ℕ) (other : NlState) (l : LetsOut g s p unit receive other) where
  -- what the unit comes to, by what the turn waits for
  let_out : (st : Step) → p.step ≡ st → take_with s.sealing s unit ≡ act_heard (seal_heard (hear_room_ack true st receive s.next_call) g) s
  let_out st is =
      ap (λ (kept : Option Sealing). take_with kept s unit) l.seals
      ∙ ap (λ (how : Standing). act_heard (heard_by how g s.turn unit s.next_call) s) l.stands
      ∙ ap (λ (turn : Option Pending). act_heard (heard_by (standing.Open l.channel) g turn unit s.next_call) s) l.out
      ∙ ap (λ (same : Bool). act_heard (seal_heard (hear_room_by same p unit s.next_call) g) s) l.numbered
      ∙ ap (λ (body : Body). act_heard (seal_heard (hear_room_body body p.step s.next_call) g) s) l.answers
      ∙ ap (λ (accepting : Bool). act_heard (seal_heard (hear_room_ack accepting p.step receive s.next_call) g) s) l.accepts
      ∙ ap (λ (waits : Step). act_heard (seal_heard (hear_room_ack true waits receive s.next_call) g) s) is

  -- the call of the turn has its ranges
  step_range : (st : Step) → p.step ≡ st → InRangeStep st
  step_range st is = subst InRangeStep is (subst InRangeTurn l.out l.ranges.turn)

  arrives : (opnum : ℕ) (stub : List ℕ) → opnum < 2 ^ 16 → length stub ≤ 65536 → g.seal.sent + length (room_frames_of (request_of s.next_call 0 opnum stub) receive) < 2 ^ 32 →
      IsCarried g.seal other g.confounder (room_frames_of (request_of s.next_call 0 opnum stub) receive) (request_of s.next_call 0 opnum stub)
  arrives opnum stub small short below =
      sealed_calls_arrive.arrives g.seal other g.confounder own_context receive (request_of s.next_call 0 opnum stub) l.follows l.confounder (record { stub = tt; first = refl; last = refl })
      (record { call = l.ranges.next_call; body = (omega (arith, short), omega arith, small); trailer = tt }) (omega arith) short below

  call_goes : (c : Call) → p.step ≡ step.Bind c → g.seal.sent + length (room_frames_of (request_of s.next_call 0 (opnum_of_call c) (written_call c)) receive) < 2 ^ 32 →
      GoesSealed g s unit receive other (request_of s.next_call 0 (opnum_of_call c) (written_call c)) (step.Reply (question_of c))
  call_goes c is below =
      let room : HasRoom c = step_range (step.Bind c) is in
      let carried = arrives (opnum_of_call c) (written_call c) (opnum_small c) (omega (arith, written_call-content c room.writes room.range, room.few)) below in
      record {
        carried = carried;
        goes = let_out (step.Bind c) is ∙ ap (λ (sealed : Option SealedFrames). act_heard (sealed_next (question_of c) sealed g) s) carried.seals;
      }

  set_goes : (c : SetCall) → p.step ≡ step.Set (set_step.Bind c) → g.seal.sent + length (room_frames_of (request_of s.next_call 0 set_opnum (written_set_call c)) receive) < 2 ^ 32 →
      GoesSealed g s unit receive other (request_of s.next_call 0 set_opnum (written_set_call c)) (step.Set set_step.Reply)
  set_goes c is below =
      let room : HasSetRoom c = step_range (step.Set (set_step.Bind c)) is in
      let carried = arrives set_opnum (written_set_call c) (omega arith) (omega (arith, set_few c room)) below in
      record {
        carried = carried;
        goes = let_out (step.Set (set_step.Bind c)) is ∙ ap (λ (sealed : Option SealedFrames). act_heard (sealed_set sealed g) s) carried.seals;
      }

-- ---- what comes back is opened

abbrev frame_or : Option SealedFrame → SealedFrame → SealedFrame
frame_or None other = other
frame_or (Some one) other = one

opened_is : (answer : Result Unit NlRefused) (unit : List ℕ) (state : NlState) (one : SealedFrame) → frame_by answer unit state ≡ Some one →
    (answer ≡ Ok tt) × (unit ≡ one.frame) × (state ≡ one.seal)
opened_is (Ok done) unit state one is = (
  refl,
  ap (λ (x : Option SealedFrame). (frame_or x one).frame) is,
  ap (λ (x : Option SealedFrame). (frame_or x one).seal) is,
)
opened_is (Err why) unit state one is = absurd cc

unsealed_is : (opening : Opening) (one : SealedFrame) (g : Sealing) (s : Requester) → opened_with opening ≡ Some one →
    unsealed_by opening g s ≡ record { answer = Ok tt; unit = one.frame; state = record s { sealing = Some (record g { seal = one.seal }) } }
unsealed_is opening one g s is =
    let parts = opened_is opening.answer opening.unit opening.state one is in
    ap (λ (answer : Result Unit NlRefused). unsealed_by (record { answer = answer; unit = opening.unit; state = opening.state }) g s) parts.0
    ∙ ap (λ (unit : List ℕ). unsealed_by (record { answer = Ok tt; unit = unit; state = opening.state }) g s) parts.1
    ∙ ap (λ (state : NlState). unsealed_by (record { answer = Ok tt; unit = one.frame; state = state }) g s) parts.2

unseals_in : (range : Option (ℕ × ℕ)) (g : Sealing) (s : Requester) (frame : List ℕ) (one : SealedFrame) → range_of frame ≡ range → s.sealing ≡ Some g → open_in range g.seal frame ≡ Some one → Unseals g s frame one
unseals_in None g s frame one at seals is = absurd cc
unseals_in (Some range) g s frame one at seals is = record {
  range = range;
  is = at;
  opens = ap (λ (kept : Option Sealing). unseal_with kept s frame range.0 range.1) seals ∙ unsealed_is (open_of g.seal frame range.0 range.1) one g s is;
}

pub sealed_channels_carry : SealedChannelsCarry
sealed_channels_carry = record {
  opens = λ g s unit seals is. opened_taken s.sealing g s unit seals is;
  calls = λ g s p unit receive other c l is below. call_goes g s p unit receive other l c is below;
  sets = λ g s p unit receive other c l is below. set_goes g s p unit receive other l c is below;
  unseals = λ g s frame one seals is. unseals_in (range_of frame) g s frame one refl seals is;
}
