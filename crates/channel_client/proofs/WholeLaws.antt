-- The ranges of what the end that asks keeps, through each step, and that what it sends is whole. It serves
-- `requesters_send_whole`.
use Rattle.std.proofs.Common.{◌==◌, ◌<◌, ◌≤◌, ◌≡◌, ◌^◌, ◌+◌, ◌*◌, ap, ℕ, Bool, true, false, List, [], ◌∷◌, ◌++◌, length, nat_le, Option, Some, None, Result, Ok, Err, refl, sym, subst, arith, append-nil}
use Rattle.std.proofs.Math.Nat.{mod-lt}
use Rattle.authenticators.specs.SecureChannels.{SecureChannelState}
use Rattle.authenticators.proofs.BlockLaws.{cred_block, zeros_block}
use Rattle.rpc_units.specs.declared.unit.Unit.{Unit as RpcUnit}
use Rattle.rpc_units.specs.declared.unit.Body.{Body}
use Rattle.rpc_units.specs.declared.unit.Body.TheVariants.{Bind, BindAck, BindNak, Auth3, Request, Response, Fault}
use Rattle.rpc_units.specs.Writing.{written}
use Rattle.logon_stubs.specs.Calls.{opnum_of_call, reply_of}
use Rattle.logon_stubs.specs.Ranges.{IsBlock}
use Rattle.logon_stubs.specs.Writing.{written_call}
use Rattle.logon_stubs.specs.declared.refused.StubRefused.{StubRefused}
use Rattle.logon_stubs.specs.declared.info.NetworkInfo.{NetworkInfo}
use Rattle.logon_stubs.specs.declared.calls.Call.{Call}
use Rattle.logon_stubs.specs.declared.calls.Call.TheVariants as call
use Rattle.logon_stubs.specs.declared.calls.Reply.{Reply}
use Rattle.logon_stubs.proofs.WrittenLaws.{AreBytes-written_call, written_call-content}
use Rattle.end_links.specs.Binding.{bind_of, limit_of}
use Rattle.end_links.specs.Sending.{joined_frames}
use Rattle.end_links.specs.Whole.{IsWholeSend, whole_limit}
use Rattle.logon_stubs.specs.Parts.{size_if_there, text_size}
use Rattle.end_links.proofs.WholeLaws.{bind_whole, limit_bounds, request_whole, syntax_of_bytes}
use Rattle.logon_stubs.specs.Interface.{netlogon_syntax}
use Rattle.secret_change.specs.Calls.{set_reply_of, written_set_call}
use Rattle.secret_change.specs.declared.calls.SetCall.{SetCall}
use Rattle.secret_change.specs.declared.calls.SetReply.{SetReply}
use Rattle.secret_change.specs.declared.refused.SetRefused.{SetRefused}
use Rattle.secret_change.proofs.HideLaws.{hidden_is_secret}
use Rattle.secret_change.proofs.SetLaws.{call_stub}
use Rattle.channel_client.specs.Machine.{SetOutcome, Beginning, act, after, ask_by, auth_call, begin_with, challenge_call, change_call, hear, hear_ack, hear_body, hear_by, hear_reply, hear_set_reply, hear_stub, is_accepting, judge, judge_set, later_logons, logon_call, opnum_asked, remove_first, settle, settle_set, start_by, wait_for, waiting_limit, with_turn}
use Rattle.channel_client.specs.State.{Requester}
use Rattle.channel_client.specs.Whole.{HasRoom, HasSetRoom, InRangeCaller, InRangeLogon, InRangeRequester, InRangeStep, InRangeTurn, InRangeWaiting, IsWholeNext, IsWholeStart, RequestersSendWhole}
use Rattle.channel_client.specs.declared.caller.Caller.{Caller}
use Rattle.channel_client.specs.declared.hearing.Hearing.{Hearing}
use Rattle.channel_client.specs.declared.hearing.Hearing.TheVariants as hearing
use Rattle.channel_client.specs.declared.hearing.SetHearing.TheVariants as set_hearing
use Rattle.channel_client.specs.declared.judging.Judgement.{Judgement}
use Rattle.channel_client.specs.declared.judging.Judgement.TheVariants as judgement
use Rattle.channel_client.specs.declared.state.Pending.{Pending}
use Rattle.channel_client.specs.declared.state.Question.{Question}
use Rattle.channel_client.specs.declared.state.Standing.{Standing}
use Rattle.channel_client.specs.declared.state.Standing.TheVariants as standing
use Rattle.channel_client.specs.declared.state.Step.{Step}
use Rattle.channel_client.specs.declared.state.Step.TheVariants as step
use Rattle.channel_client.specs.declared.state.SetStep.TheVariants as set_step
use Rattle.channel_client.specs.declared.state.Waiting.{Waiting}

-- ---- numbers

pub after_below : (n : ℕ) → after n < 2 ^ 32
after_below n = mod-lt (n + 1) (omega arith)

-- ---- the logons that wait

waits_more : (logons : List Waiting) (logon : Waiting) → InRangeWaiting logons → InRangeLogon logon.info → InRangeWaiting (logons ++ logon ∷ [])
waits_more [] logon all is = (is, tt)
waits_more (first ∷ logons) logon all is = (all.0, waits_more logons logon all.1 is)

waits_later : (logons : List Waiting) → InRangeWaiting logons → InRangeWaiting (later_logons logons)
waits_later [] all = tt
waits_later (first ∷ logons) all = all.1

-- the logon's number is its place
placed : (info : NetworkInfo) (place : ℕ) → place < 2 ^ 32 → InRangeLogon info → InRangeLogon (record info { logon_id = place })
placed info place below is = record {
  writes = record {
    domain = is.writes.domain;
    user = is.writes.user;
    workstation = is.writes.workstation;
    nt = is.writes.nt;
    lm = is.writes.lm;
  };
  range = record {
    domain = is.range.domain;
    control = is.range.control;
    logon_id = omega (arith, below);
    user = is.range.user;
    workstation = is.range.workstation;
    challenge = is.range.challenge;
    nt = is.range.nt;
    lm = is.range.lm;
  };
  few = is.few;
}

asked : (full : Bool) (s : Requester) (info : NetworkInfo) → InRangeRequester s → InRangeLogon info → InRangeRequester (ask_by full s info).state
asked true s info range is = range
asked false s info range is = record {
  caller = range.caller;
  waiting = waits_more s.waiting (record { place = s.next_place; info = record info { logon_id = s.next_place } }) range.waiting
      (placed info s.next_place range.next_place is);
  next_place = after_below s.next_place;
  next_call = range.next_call;
  turn = range.turn;
}

-- ---- the calls

pub logon_room : (caller : Caller) (o : SecureChannelState) (timestamp : ℕ) (info : NetworkInfo) → InRangeCaller caller → timestamp < 2 ^ 32 → InRangeLogon info →
    HasRoom (logon_call caller o timestamp info)
logon_room caller o timestamp info has below is = record {
  writes = record { server = tt; computer = omega (arith, has.computer); info = is.writes };
  range = record {
    front = record {
      server = tt;
      computer = has.computer_units;
      authenticator = record { credential = cred_block _ _; timestamp = below };
      returned = record { credential = zeros_block; timestamp = omega arith };
      info = is.range;
    };
    validation = omega arith;
  };
  few = omega (arith, has.computer, is.few);
}

auth_room : (caller : Caller) (client server : List ℕ) → InRangeCaller caller → HasRoom (auth_call caller client server)
auth_room caller client server has = record {
  writes = (tt, omega (arith, has.account), omega (arith, has.computer));
  range = record {
    primary = tt;
    account = has.account_units;
    channel = has.kind;
    computer = has.computer_units;
    credential = cred_block _ _;
    flags = omega arith;
  };
  few = omega (arith, has.computer, has.account);
}

pub challenge_room : (caller : Caller) (client : List ℕ) → InRangeCaller caller → IsBlock 8 client → HasRoom (challenge_call caller client)
challenge_room caller client has eight = record {
  writes = (tt, omega (arith, has.computer));
  range = record { primary = tt; computer = has.computer_units; challenge = eight };
  few = omega (arith, has.computer);
}

pub change_room : (caller : Caller) (o : SecureChannelState) (timestamp : ℕ) (next : List ℕ) → InRangeCaller caller → timestamp < 2 ^ 32 →
    HasSetRoom (change_call caller o timestamp next)
change_room caller o timestamp next has below = record {
  sends = record {
    writes = record { primary = tt; account = omega (arith, has.account); computer = omega (arith, has.computer) };
    range = record {
      primary = tt;
      account = has.account_units;
      channel = has.kind;
      computer = has.computer_units;
      authenticator = record { credential = cred_block _ _; timestamp = below };
      hidden = hidden_is_secret _ next;
    };
  };
  primary = refl;
  few = omega (arith, has.account, has.computer);
}

pub begun_room : (how : Standing) (next : Option (List ℕ)) (caller : Caller) (info : NetworkInfo) (timestamp : ℕ) (challenge : List ℕ) → InRangeCaller caller → InRangeLogon info → timestamp < 2 ^ 32 →
    IsBlock 8 challenge → InRangeStep (begin_with how next caller info timestamp challenge).step
begun_room standing.Nothing next caller info timestamp challenge has is below eight = challenge_room caller challenge has eight
begun_room (standing.Half client server) next caller info timestamp challenge has is below eight = auth_room caller client server has
begun_room (standing.Open o) None caller info timestamp challenge has is below eight = logon_room caller o timestamp info has below is
begun_room (standing.Open o) (Some next) caller info timestamp challenge has is below eight = change_room caller o timestamp next has below

-- ---- a turn that starts

pub bind_goes : (number : ℕ) → number < 2 ^ 32 → IsWholeSend (joined_frames (written (bind_of netlogon_syntax number) ∷ []))
bind_goes number below =
    subst IsWholeSend (sym (append-nil (written (bind_of netlogon_syntax number)))) (bind_whole netlogon_syntax number refl (syntax_of_bytes netlogon_syntax refl) (omega arith) below)

pub turned : (s : Requester) (place : ℕ) (b : Beginning) → InRangeRequester s → InRangeStep b.step → InRangeRequester (with_turn s place b).state
turned s place b range room = record {
  caller = range.caller;
  waiting = range.waiting;
  next_place = range.next_place;
  next_call = after_below s.next_call;
  turn = room;
}

started : (turn : Option Pending) (logons : List Waiting) (s : Requester) (timestamp : ℕ) (challenge : List ℕ) → InRangeRequester s → InRangeWaiting logons → timestamp < 2 ^ 32 →
    IsBlock 8 challenge → InRangeRequester (start_by turn logons s timestamp challenge).state × IsWholeStart (start_by turn logons s timestamp challenge).answer
started (Some pending) logons s timestamp challenge range all below eight = (range, tt)
started None [] s timestamp challenge range all below eight = (range, tt)
started None (logon ∷ logons) s timestamp challenge range all below eight = (
  turned s logon.place (begin_with s.standing s.next s.caller logon.info timestamp challenge) range
      (begun_room s.standing s.next s.caller logon.info timestamp challenge range.caller all.0 below eight),
  bind_goes s.next_call range.next_call,
)

-- ---- what is heard

abbrev pub HeardWhole : Hearing → Type 0
HeardWhole hearing.Skip = Unit {0}
HeardWhole (hearing.Next q frames) = IsWholeSend (joined_frames frames)
HeardWhole (hearing.Reply q r) = Unit {0}
HeardWhole (hearing.Drop cause) = Unit {0}
HeardWhole (hearing.Set (set_hearing.Next frames)) = IsWholeSend (joined_frames frames)
HeardWhole (hearing.Set (set_hearing.Reply r)) = Unit {0}

pub opnum_small : (c : Call) → opnum_of_call c < 2 ^ 16
opnum_small (call.Logon value) = omega arith
opnum_small (call.Logoff value) = omega arith
opnum_small (call.Challenge value) = omega arith
opnum_small (call.Authenticate value) = omega arith

pub set_few : (c : SetCall) → HasSetRoom c → length (written_set_call c) ≤ whole_limit
set_few c room =
    let few : length (written_set_call c) ≤ 80 + size_if_there text_size c.primary + 2 * length c.account + 2 * length c.computer = (call_stub c room.sends.writes room.sends.range).short in
    let none : size_if_there text_size c.primary ≡ 0 = ap (λ (p : Option (List ℕ)). size_if_there text_size p) room.primary in
    omega (arith, few, none, room.few)

ack_heard : (accepting : Bool) (st : Step) (receive next : ℕ) → next < 2 ^ 32 → InRangeTurn (Some (record { number = 0; place = 0; step = st })) → HeardWhole (hear_ack accepting st receive next)
ack_heard false st receive next below range = tt
ack_heard true (step.Bind c) receive next below range =
    request_whole next 0 (opnum_of_call c) (limit_of receive) (written_call c) below (omega arith) (opnum_small c) (limit_bounds receive).0 (limit_bounds receive).1
    (omega (arith, written_call-content c range.writes range.range, range.few)) (AreBytes-written_call c range.writes range.range)
ack_heard true (step.Reply q) receive next below range = tt
ack_heard true (step.Set (set_step.Bind c)) receive next below range =
    request_whole next 0 6 (limit_of receive) (written_set_call c) below (omega arith) (omega arith) (limit_bounds receive).0 (limit_bounds receive).1 (set_few c range)
    (call_stub c range.sends.writes range.sends.range).are_bytes
ack_heard true (step.Set set_step.Reply) receive next below range = tt

reply_heard : (q : Question) (read : Result Reply StubRefused) → HeardWhole (hear_reply q read)
reply_heard q (Err why) = tt
reply_heard q (Ok r) = tt

set_reply_heard : (read : Result SetReply SetRefused) → HeardWhole (hear_set_reply read)
set_reply_heard (Err why) = tt
set_reply_heard (Ok r) = tt

stub_heard : (st : Step) (stub : List ℕ) → HeardWhole (hear_stub st stub)
stub_heard (step.Bind c) stub = tt
stub_heard (step.Reply q) stub = reply_heard q (reply_of (opnum_asked q) stub)
stub_heard (step.Set (set_step.Bind c)) stub = tt
stub_heard (step.Set set_step.Reply) stub = set_reply_heard (set_reply_of stub)

body_heard : (body : Body) (st : Step) (next : ℕ) → next < 2 ^ 32 → InRangeTurn (Some (record { number = 0; place = 0; step = st })) → HeardWhole (hear_body body st next)
body_heard (BindNak reason) st next below range = tt
body_heard (BindAck send receive group results) st next below range = ack_heard (is_accepting results) st receive next below range
body_heard (Fault hint context status) st next below range = tt
body_heard (Response hint context stub) st next below range = stub_heard st stub
body_heard (Bind send receive group contexts) st next below range = tt
body_heard (Request hint context opnum stub) st next below range = tt
body_heard Auth3 st next below range = tt

numbered_heard : (numbered : Bool) (p : Pending) (unit : RpcUnit) (next : ℕ) → next < 2 ^ 32 → InRangeTurn (Some p) → HeardWhole (hear_by numbered p unit next)
numbered_heard false p unit next below range = tt
numbered_heard true p unit next below range = body_heard unit.body p.step next below range

pub heard_whole : (turn : Option Pending) (unit : RpcUnit) (next : ℕ) → next < 2 ^ 32 → InRangeTurn turn → HeardWhole (hear turn unit next)
heard_whole None unit next below range = tt
heard_whole (Some p) unit next below range = numbered_heard (unit.call == p.number) p unit next below range

-- ---- a unit that is taken

pub ended : (how : Standing) (s : Requester) → InRangeRequester s → InRangeRequester (record s { standing = how; turn = None })
ended how s range = record {
  caller = range.caller;
  waiting = range.waiting;
  next_place = range.next_place;
  next_call = range.next_call;
  turn = tt;
}

pub removed : (how : Standing) (s : Requester) → InRangeRequester s → InRangeRequester (remove_first how s)
removed how s range = record {
  caller = range.caller;
  waiting = waits_later s.waiting range.waiting;
  next_place = range.next_place;
  next_call = range.next_call;
  turn = tt;
}

pub settled : (j : Judgement) (s : Requester) → InRangeRequester s → InRangeRequester (settle j s).state × IsWholeNext (settle j s).taken
settled (judgement.Half client server) s range = (ended (standing.Half client server) s range, tt)
settled (judgement.Opened o) s range = (ended (standing.Open o) s range, tt)
settled (judgement.Answer o v) s range = (removed (standing.Open o) s range, tt)
settled (judgement.Drop cause) s range = (removed standing.Nothing s range, tt)

pub settled_set : (judged : SetOutcome) (s : Requester) → InRangeRequester s → InRangeRequester (settle_set judged s).state × IsWholeNext (settle_set judged s).taken
settled_set (Ok o) s range = (
  record { caller = range.caller; waiting = range.waiting; next_place = range.next_place; next_call = range.next_call; turn = tt },
  tt,
)
settled_set (Err cause) s range = settled (judgement.Drop cause) s range

pub goes_on : (s : Requester) (place : ℕ) (st : Step) → InRangeRequester s → InRangeStep st → InRangeRequester (wait_for s place st)
goes_on s place st range room = record {
  caller = range.caller;
  waiting = range.waiting;
  next_place = range.next_place;
  next_call = after_below s.next_call;
  turn = room;
}

pub acted : (h : Hearing) (s : Requester) → InRangeRequester s → HeardWhole h → InRangeRequester (act h s).state × IsWholeNext (act h s).taken
acted hearing.Skip s range whole = (range, tt)
acted (hearing.Next q frames) s range whole = (goes_on s _ (step.Reply q) range tt, whole)
acted (hearing.Reply q r) s range whole = settled (judge q r s.standing s.caller.secret) s range
acted (hearing.Drop cause) s range whole = settled (judgement.Drop cause) s range
acted (hearing.Set (set_hearing.Next frames)) s range whole = (goes_on s _ (step.Set set_step.Reply) range tt, whole)
acted (hearing.Set (set_hearing.Reply r)) s range whole = settled_set (judge_set r s.standing) s range

pub requesters_send_whole : RequestersSendWhole
requesters_send_whole = record {
  fresh = λ caller has. record { caller = has; waiting = tt; next_place = omega arith; next_call = omega arith; turn = tt };
  ask = λ s info range is. asked (nat_le waiting_limit (length s.waiting)) s info range is;
  start = λ s timestamp challenge range below eight. started s.turn s.waiting s timestamp challenge range range.waiting below eight;
  take = λ s unit range. acted (hear s.turn unit s.next_call) s range (heard_whole s.turn unit s.next_call range.next_call range.turn);
  lose = λ s range. removed standing.Nothing s range;
  use_secret = λ s secret range. record {
    caller = record {
      computer = range.caller.computer;
      computer_units = range.caller.computer_units;
      account = range.caller.account;
      account_units = range.caller.account_units;
      kind = range.caller.kind;
    };
    waiting = range.waiting;
    next_place = range.next_place;
    next_call = range.next_call;
    turn = range.turn;
  };
  set_next = λ s next range. record {
    caller = range.caller;
    waiting = range.waiting;
    next_place = range.next_place;
    next_call = range.next_call;
    turn = range.turn;
  };
}
