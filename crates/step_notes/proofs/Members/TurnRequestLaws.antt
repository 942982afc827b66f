-- The request that is heard to go out at a member is that of the call of its turn, and a Logon call of a turn is for
-- the first logon that the member keeps.
-- It serves `calls_carry_their_logon`, and laws of runs that speak of what goes out.
use Rattle.std.proofs.Common.{◌≡◌, ℕ, ◌==◌, Bool, true, false, List, [], ◌∷◌, map, Option, Some, None, Result, Ok, Err, refl, sym, ap, ◌∙◌, if◌then◌else◌, ◌≤◌}
use Rattle.wire_base.specs.Maps.{lookup, same_number}
use Rattle.wire_base.proofs.NameLaws.{IsSameness-same_number}
use Rattle.rpc_units.specs.declared.unit.Body.{Body}
use Rattle.rpc_units.specs.declared.unit.Body.TheVariants.{Bind, BindAck, BindNak, Auth3, Request, Response, Fault}
use Rattle.rpc_units.specs.declared.unit.Unit.{Unit as RpcUnit}
use Rattle.logon_stubs.specs.Calls.{reply_of, opnum_of_call}
use Rattle.logon_stubs.specs.declared.calls.Call.{Call}
use Rattle.logon_stubs.specs.declared.calls.Call.TheVariants as call
use Rattle.logon_stubs.specs.declared.calls.LogonCall.{LogonCall}
use Rattle.logon_stubs.specs.declared.calls.Reply.{Reply}
use Rattle.logon_stubs.specs.declared.refused.StubRefused.{StubRefused}
use Rattle.end_links.specs.Binding.{limit_of}
use Rattle.channel_client.specs.declared.answers.Taken.TheVariants as taken
use Rattle.channel_client.specs.declared.hearing.Hearing.{Hearing}
use Rattle.channel_client.specs.declared.hearing.Hearing.TheVariants as hearing
use Rattle.channel_client.specs.declared.state.Pending.{Pending}
use Rattle.channel_client.specs.declared.state.Question.{Question}
use Rattle.channel_client.specs.declared.state.Step.{Step}
use Rattle.channel_client.specs.declared.state.Step.TheVariants as step
use Rattle.channel_client.specs.declared.state.SetStep.TheVariants as set_step
use Rattle.channel_client.specs.declared.hearing.SetHearing.TheVariants as set_hearing
use Rattle.channel_client.specs.Effects.{IsForFirst}
use Rattle.channel_client.specs.Machine.{hear, hear_ack, hear_body, hear_by, hear_reply, hear_set_reply, hear_stub, is_accepting, opnum_asked, place_of, question_of, wait_for}
use Rattle.member_server.specs.declared.state.Logon.{Logon}
use Rattle.member_server.specs.Turns.{AtTurn, do_taken}
use Rattle.step_notes.specs.CallLogons.{info_at, waiting_for}
use Rattle.step_notes.proofs.Channels.ChannelNameLaws.{bound_at, set_bound_at}
use Rattle.step_notes.proofs.Members.CallKeptLaws.{at_channel}
use Rattle.logon_stubs.specs.Writing.{written_call}
use Rattle.secret_change.specs.Calls.{set_opnum, set_reply_of, written_set_call}
use Rattle.secret_change.specs.declared.calls.SetCall.{SetCall}
use Rattle.secret_change.specs.declared.calls.SetReply.{SetReply}
use Rattle.secret_change.specs.declared.refused.SetRefused.{SetRefused}
use Rattle.end_links.specs.Sending.{frames_of, request_of}
use Rattle.end_links.proofs.WholeLaws.{limit_bounds}

-- ---- the request that is heard to go out

-- the request is that of the call of the turn, in frames of a size that a bind agrees on
abbrev pub IsOfTurn : Option Pending → ℕ → Hearing → Type 0
IsOfTurn turn next hearing.Skip = Unit {0}
IsOfTurn turn next (hearing.Next q frames) =
    (number : ℕ) × (place : ℕ) × (c : Call) × (turn ≡ bound_at number place c) × (q ≡ question_of c) × (limit : ℕ) × (1432 ≤ limit) × (limit ≤ 5840)
    × (frames ≡ frames_of (request_of next 0 (opnum_of_call c) (written_call c)) limit)
IsOfTurn turn next (hearing.Reply q r) = Unit {0}
IsOfTurn turn next (hearing.Drop cause) = Unit {0}
IsOfTurn turn next (hearing.Set (set_hearing.Next frames)) =
    (number : ℕ) × (place : ℕ) × (c : SetCall) × (turn ≡ set_bound_at number place c) × (limit : ℕ) × (1432 ≤ limit) × (limit ≤ 5840)
    × (frames ≡ frames_of (request_of next 0 set_opnum (written_set_call c)) limit)
IsOfTurn turn next (hearing.Set (set_hearing.Reply r)) = Unit {0}

module _ (p : Pending) (next : ℕ) where
  ack_of : (accepts : Bool) (st : Step) (receive : ℕ) → p.step ≡ st → IsOfTurn (Some p) next (hear_ack accepts st receive next)
  ack_of false st receive is = tt
  ack_of true (step.Bind c) receive is = (
    p.number,
    p.place,
    c,
    ap (λ (st : Step). Some (record { number = p.number; place = p.place; step = st })) is,
    refl,
    limit_of receive,
    (limit_bounds receive).0,
    (limit_bounds receive).1,
    refl,
  )
  ack_of true (step.Reply q) receive is = tt
  ack_of true (step.Set (set_step.Bind c)) receive is = (
    p.number,
    p.place,
    c,
    ap (λ (st : Step). Some (record { number = p.number; place = p.place; step = st })) is,
    limit_of receive,
    (limit_bounds receive).0,
    (limit_bounds receive).1,
    refl,
  )
  ack_of true (step.Set set_step.Reply) receive is = tt

  reply_of_turn : (q : Question) (read : Result Reply StubRefused) → IsOfTurn (Some p) next (hear_reply q read)
  reply_of_turn q (Err why) = tt
  reply_of_turn q (Ok r) = tt

  set_reply_of_turn : (read : Result SetReply SetRefused) → IsOfTurn (Some p) next (hear_set_reply read)
  set_reply_of_turn (Err why) = tt
  set_reply_of_turn (Ok r) = tt

  stub_of_turn : (st : Step) (stub : List ℕ) → IsOfTurn (Some p) next (hear_stub st stub)
  stub_of_turn (step.Bind c) stub = tt
  stub_of_turn (step.Reply q) stub = reply_of_turn q (reply_of (opnum_asked q) stub)
  stub_of_turn (step.Set (set_step.Bind c)) stub = tt
  stub_of_turn (step.Set set_step.Reply) stub = set_reply_of_turn (set_reply_of stub)

  body_of_turn : (body : Body) → IsOfTurn (Some p) next (hear_body body p.step next)
  body_of_turn (Bind send receive group contexts) = tt
  body_of_turn (BindAck send receive group results) = ack_of (is_accepting results) p.step receive refl
  body_of_turn (BindNak reason) = tt
  body_of_turn Auth3 = tt
  body_of_turn (Request hint context opnum stub) = tt
  body_of_turn (Response hint context stub) = stub_of_turn p.step stub
  body_of_turn (Fault hint context status) = tt

  numbered_of_turn : (same : Bool) (unit : RpcUnit) → IsOfTurn (Some p) next (hear_by same p unit next)
  numbered_of_turn false unit = tt
  numbered_of_turn true unit = body_of_turn unit.body

pub of_turn : (turn : Option Pending) (unit : RpcUnit) (next : ℕ) → IsOfTurn turn next (hear turn unit next)
of_turn None unit next = tt
of_turn (Some p) unit next = numbered_of_turn p next (unit.call == p.number) unit

-- ---- the first logon that is kept

-- by whether it is the first
pub found_if : (hit : Bool) (logon : Logon) (found : Option Logon) → hit ≡ true → (if hit then Some logon else found) ≡ Some logon
found_if true logon found is = refl
found_if false logon found is = absurd (let x = is in cc)

abbrev pub HasLogon : ℕ → LogonCall → List (ℕ × Logon) → Type 0
HasLogon place c asked = (logon : Logon) × (lookup same_number place asked ≡ Some logon) × (c.info ≡ info_at place logon)

pub first_logon : (asked : List (ℕ × Logon)) (number place : ℕ) (c : LogonCall) → IsForFirst (bound_at number place (call.Logon c)) (map waiting_for asked) → HasLogon place c asked
first_logon [] number place c first = absurd first
first_logon (entry ∷ asked) number place c first = (
  entry.1,
  found_if (same_number place entry.0) entry.1 (lookup same_number place asked)
      (ap (λ (n : ℕ). same_number place n) (sym first.0) ∙ IsSameness-same_number.reflexive place),
  first.1 ∙ ap (λ (n : ℕ). info_at n entry.1) (sym first.0),
)

-- ---- what follows it

-- the member at work, behind the request
abbrev pub asked_after : AtTurn → Option RpcUnit → Question → List (List ℕ) → Option AtTurn
asked_after at joiner q frames =
    Some (do_taken (taken.Next tt frames) joiner (at_channel at (wait_for at.work.logons.channel (place_of at.work.logons.channel.turn) (step.Reply q)))).0

-- behind one that sets a secret
abbrev pub set_after : AtTurn → Option RpcUnit → List (List ℕ) → Option AtTurn
set_after at joiner frames =
    Some (do_taken (taken.Next tt frames) joiner (at_channel at (wait_for at.work.logons.channel (place_of at.work.logons.channel.turn) (step.Set set_step.Reply)))).0
