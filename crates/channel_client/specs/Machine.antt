-- The end that asks on a secure channel, step by step (MS-NRPC 3.1.4.1 to 3.1.4.5, 3.5.4.4, 3.5.4.5; C706 12.6.3 for
-- binds and calls). The queue of logons, the turns, when a secret is changed, and the order of causes are this
-- project's own choice. Places and numbers of calls are counted modulo 2^32.
use Rattle.std.specs.Prelude.{ℕ, ◌≡◌, ◌+◌, ◌*◌, ◌%◌, ◌^◌, ◌==◌, ◌&&◌, Bool, true, false, List, [], ◌∷◌, ◌++◌, length, nat_le, replicate, Option, Some, None, Result, Ok, Err, bytes_eq}
use Rattle.std.specs.List.{AllByRecursion}
use Rattle.channel_keys.specs.Credentials.{cred_of}
use Rattle.ntlm_flags.specs.Flags.{has_flag}
use Rattle.channel_keys.specs.Flags.{rc4_flag, supported_flags}
use Rattle.channel_keys.specs.SessionKeys.{key_of}
use Rattle.authenticators.specs.Sequences.{authenticator_of}
use Rattle.wire_base.specs.declared.authenticator.Authenticator.{Authenticator}
use Rattle.outside.specs.declared.action.DropCause.{DropCause}
use Rattle.outside.specs.declared.action.DropCause.TheVariants as drop_cause
use Rattle.rpc_units.specs.declared.unit.Unit.{Unit as RpcUnit}
use Rattle.rpc_units.specs.declared.unit.Syntax.{Syntax}
use Rattle.rpc_units.specs.declared.unit.Body.{Body}
use Rattle.rpc_units.specs.declared.unit.Body.TheVariants.{Bind, BindAck, BindNak, Auth3, Request, Response, Fault}
use Rattle.rpc_units.specs.Writing.{written}
use Rattle.logon_stubs.specs.Calls.{reply_of, opnum_of_call}
use Rattle.logon_stubs.specs.Status.{access_denied}
use Rattle.logon_stubs.specs.Writing.{CanWriteCall, CanWriteNetworkInfo, written_call}
use Rattle.logon_stubs.specs.declared.refused.StubRefused.{StubRefused}
use Rattle.logon_stubs.specs.declared.info.NetworkInfo.{NetworkInfo}
use Rattle.logon_stubs.specs.declared.info.SamInfo.{SamInfo}
use Rattle.logon_stubs.specs.declared.info.Verdict.TheVariants as verdict
use Rattle.logon_stubs.specs.declared.calls.Call.{Call}
use Rattle.logon_stubs.specs.declared.calls.Call.TheVariants as call
use Rattle.logon_stubs.specs.declared.calls.Reply.{Reply}
use Rattle.logon_stubs.specs.declared.calls.Reply.TheVariants as reply
use Rattle.end_links.specs.Binding.{bind_of, limit_of}
use Rattle.end_links.specs.Sending.{frames_of, request_of}
use Rattle.channel_keys.specs.Hidden.{crypt_key}
use Rattle.authenticators.specs.SecureChannels.{SecureChannelState, key_of_channel, fresh_channel, after_call, is_awaited, after_return}
use Rattle.logon_stubs.specs.Interface.{netlogon_syntax}
use Rattle.secret_change.specs.Calls.{CanWriteSet, set_opnum, set_reply_of, written_set_call}
use Rattle.secret_change.specs.Hiding.{hide_of}
use Rattle.secret_change.specs.Ranges.{InRangeSetCall}
use Rattle.secret_change.specs.declared.calls.SetCall.{SetCall}
use Rattle.secret_change.specs.declared.calls.SetReply.{SetReply}
use Rattle.secret_change.specs.declared.refused.SetRefused.{SetRefused}
use Rattle.channel_client.specs.State.{Requester}
use Rattle.channel_client.specs.declared.caller.Caller.{Caller}
use Rattle.channel_client.specs.declared.state.Standing.{Standing}
use Rattle.channel_client.specs.declared.state.Standing.TheVariants as standing
use Rattle.channel_client.specs.declared.state.Question.{Question}
use Rattle.channel_client.specs.declared.state.Question.TheVariants as question
use Rattle.channel_client.specs.declared.state.Step.{Step}
use Rattle.channel_client.specs.declared.state.Step.TheVariants as step
use Rattle.channel_client.specs.declared.state.SetStep.TheVariants as set_step
use Rattle.channel_client.specs.declared.state.Pending.{Pending}
use Rattle.channel_client.specs.declared.state.Waiting.{Waiting}
use Rattle.channel_client.specs.declared.answers.Taken.{Taken}
use Rattle.channel_client.specs.declared.answers.Taken.TheVariants as taken
use Rattle.channel_client.specs.declared.answers.AskRefused.{AskRefused}
use Rattle.channel_client.specs.declared.answers.AskRefused.TheVariants as refused
use Rattle.channel_client.specs.declared.hearing.Hearing.{Hearing}
use Rattle.channel_client.specs.declared.hearing.Hearing.TheVariants as hearing
use Rattle.channel_client.specs.declared.hearing.SetHearing.{SetHearing}
use Rattle.channel_client.specs.declared.hearing.SetHearing.TheVariants as set_hearing
use Rattle.channel_client.specs.declared.judging.Judgement.{Judgement}
use Rattle.channel_client.specs.declared.judging.Judgement.TheVariants as judgement

-- ---- numbers

-- the next place, or the next number of a bind or request
abbrev pub after : ℕ → ℕ
after n = (n + 1) % 2 ^ 32

-- the most logons that wait
abbrev pub waiting_limit : ℕ
waiting_limit = 64

-- the flags that are offered, and the validation level that is asked for
abbrev pub offered_flags : ℕ
offered_flags = supported_flags

abbrev pub level_asked : ℕ
level_asked = 3

-- ---- at first

-- of a channel that seals nothing
abbrev pub fresh_requester : Caller → Requester
fresh_requester caller = record {
  caller = caller;
  standing = standing.Nothing;
  waiting = [];
  next_place = 0;
  next_call = 1;
  turn = None;
  next = None;
  sealing = None;
}

-- ---- the secrets

-- a requester whose channel is none, with another secret
abbrev pub use_secret_of : Requester → List ℕ → Requester
use_secret_of s secret = record s { caller = record s.caller { secret = secret } }

-- the next secret, which the account is to have, or none
abbrev pub set_next_of : Requester → Option (List ℕ) → Requester
set_next_of s next = record s { next = next }

-- ---- a logon that is let wait

pub record Asking : Type 0 where
  pub answer : Result ℕ AskRefused
  pub state : Requester

-- a logon is asked, unless as many wait as may
abbrev pub ask_by : (is_full : Bool) (requester : Requester) (info : NetworkInfo) → Asking
ask_by true s info = record { answer = Err refused.QueueFull; state = s }
ask_by false s info = record {
  answer = Ok s.next_place;
  state = record s {
    waiting = s.waiting ++ record { place = s.next_place; info = record info { logon_id = s.next_place } } ∷ [];
    next_place = after s.next_place;
  };
}

abbrev pub ask_of : Requester → NetworkInfo → Asking
ask_of s info = ask_by (nat_le waiting_limit (length s.waiting)) s info

-- how a call answers that lets a logon wait: as the step does, or it finds no memory and changes nothing
abbrev pub AsksBy : Result ℕ AskRefused → Asking → Requester → Requester → Type 0
AsksBy (Ok place) asking old new = (asking.answer ≡ Ok place) × (new ≡ asking.state)
AsksBy (Err refused.QueueFull) asking old new = (asking.answer ≡ Err refused.QueueFull) × (new ≡ asking.state)
AsksBy (Err refused.Memory) asking old new = new ≡ old

-- ---- a turn that starts

-- whether a turn that starts draws a challenge
abbrev pub needs_challenge : Standing → Bool
needs_challenge standing.Nothing = true
needs_challenge (standing.Half client server) = false
needs_challenge (standing.Open o) = false

-- somebody waits, and no turn is out
abbrev pub can_start : Option Pending → List Waiting → Bool
can_start None [] = false
can_start None (logon ∷ logons) = true
can_start (Some pending) logons = false

-- NetrServerReqChallenge (MS-NRPC 3.5.4.4.1)
abbrev pub challenge_call : Caller → List ℕ → Call
challenge_call caller challenge =
    call.Challenge (record { primary = None; computer = caller.computer; challenge = challenge })

-- NetrServerAuthenticate2 with the client's credential (MS-NRPC 3.5.4.4.3)
abbrev pub auth_call : Caller → List ℕ → List ℕ → Call
auth_call caller client server = call.Authenticate (record {
  primary = None;
  account = caller.account;
  channel = caller.kind;
  computer = caller.computer;
  credential = cred_of (key_of caller.secret client server offered_flags) client;
  flags = offered_flags;
})

-- NetrLogonSamLogon with the next authenticator, and a returned one of zeros (MS-NRPC 3.5.4.5.3)
abbrev pub logon_call : Caller → SecureChannelState → ℕ → NetworkInfo → Call
logon_call caller o timestamp info = call.Logon (record {
  server = None;
  computer = Some caller.computer;
  authenticator = Some (authenticator_of (key_of_channel o) o.seed timestamp);
  returned = Some (record { credential = replicate 8 0; timestamp = 0 });
  info = info;
  validation = level_asked;
})

-- NetrServerPasswordSet with the next authenticator, which hides the next secret under the channel's key (MS-NRPC
-- 3.5.4.4.6)
abbrev pub change_call : Caller → SecureChannelState → ℕ → List ℕ → SetCall
change_call caller o timestamp next = record {
  primary = None;
  account = caller.account;
  channel = caller.kind;
  computer = caller.computer;
  authenticator = authenticator_of (key_of_channel o) o.seed timestamp;
  hidden = hide_of (key_of_channel o) next;
}

-- the call of a turn, and how far the channel is then
pub record Beginning : Type 0 where
  pub standing : Standing
  pub step : Step

-- On an open channel. While there is a next secret, it is set before any logon is asked for.
abbrev pub begin_open : (next : Option (List ℕ)) (channel : SecureChannelState) (caller : Caller) (info : NetworkInfo) (timestamp : ℕ) → Beginning
begin_open None o caller info timestamp =
    record { standing = standing.Open (after_call o timestamp); step = step.Bind (logon_call caller o timestamp info) }
begin_open (Some next) o caller info timestamp =
    record { standing = standing.Open (after_call o timestamp); step = step.Set (set_step.Bind (change_call caller o timestamp next)) }

abbrev pub begin_with : Standing → Option (List ℕ) → Caller → NetworkInfo → ℕ → List ℕ → Beginning
begin_with standing.Nothing next caller info timestamp challenge =
    record { standing = standing.Nothing; step = step.Bind (challenge_call caller challenge) }
begin_with (standing.Half client server) next caller info timestamp challenge =
    record { standing = standing.Half client server; step = step.Bind (auth_call caller client server) }
begin_with (standing.Open o) next caller info timestamp challenge = begin_open next o caller info timestamp

pub record Starting : Type 0 where
  -- the right, and the frames of the bind
  pub answer : Option (Unit {0} × List (List ℕ))
  pub state : Requester

-- the turn of the logon of that place waits for the answer to the bind or request that takes the next number
abbrev pub wait_for : Requester → ℕ → Step → Requester
wait_for s place st = record s {
  next_call = after s.next_call;
  turn = Some (record { number = s.next_call; place = place; step = st });
}

-- the turn of the logon of that place: its bind goes out, and its call waits
abbrev pub with_turn : Requester → ℕ → Beginning → Starting
with_turn s place b = record {
  answer = Some (tt, written (bind_of netlogon_syntax s.next_call) ∷ []);
  state = record (wait_for s place b.step) { standing = b.standing };
}

-- the turn of the first logon that waits, where no turn is out
abbrev pub start_by : Option Pending → List Waiting → Requester → ℕ → List ℕ → Starting
start_by (Some pending) logons s timestamp challenge = record { answer = None; state = s }
start_by None [] s timestamp challenge = record { answer = None; state = s }
start_by None (logon ∷ logons) s timestamp challenge =
    with_turn s logon.place (begin_with s.standing s.next s.caller logon.info timestamp challenge)

abbrev pub start_of : Requester → ℕ → List ℕ → Starting
start_of s timestamp challenge = start_by s.turn s.waiting s timestamp challenge

-- ---- what a unit comes to for the turn: causes 1 to 3

-- by what the reply to a call is judged
abbrev pub question_of : Call → Question
question_of (call.Logon value) = question.Logon
question_of (call.Logoff value) = question.Logon
question_of (call.Challenge value) = question.Challenge value.challenge
question_of (call.Authenticate value) = question.Authenticate

-- the number of the call that asks it (MS-NRPC 3.5.4)
abbrev pub opnum_asked : Question → ℕ
opnum_asked (question.Challenge client) = 4
opnum_asked question.Authenticate = 15
opnum_asked question.Logon = 2

-- the first result is there, and is acceptance 0 (C706 12.6.3.1)
abbrev pub is_accepting : List (ℕ × ℕ × Syntax) → Bool
is_accepting [] = false
is_accepting (result ∷ results) = result.0 == 0

-- a bind_ack, by whether it accepts and by the size that the peer receives: the request goes out on context 0, in
-- fragments of at most that limit
abbrev pub hear_ack : Bool → Step → ℕ → ℕ → Hearing
hear_ack false s receive next = hearing.Drop drop_cause.Bind
hear_ack true (step.Bind c) receive next =
    hearing.Next (question_of c) (frames_of (request_of next 0 (opnum_of_call c) (written_call c)) (limit_of receive))
hear_ack true (step.Reply q) receive next = hearing.Drop drop_cause.BadReply
hear_ack true (step.Set (set_step.Bind c)) receive next =
    hearing.Set (set_hearing.Next (frames_of (request_of next 0 set_opnum (written_set_call c)) (limit_of receive)))
hear_ack true (step.Set set_step.Reply) receive next = hearing.Drop drop_cause.BadReply

abbrev pub hear_reply : Question → Result Reply StubRefused → Hearing
hear_reply q (Err why) = hearing.Drop drop_cause.BadReply
hear_reply q (Ok r) = hearing.Reply q r

abbrev pub hear_set_reply : Result SetReply SetRefused → Hearing
hear_set_reply (Err why) = hearing.Drop drop_cause.BadReply
hear_set_reply (Ok r) = hearing.Set (set_hearing.Reply r)

abbrev pub hear_stub : Step → List ℕ → Hearing
hear_stub (step.Bind c) stub = hearing.Drop drop_cause.BadReply
hear_stub (step.Reply q) stub = hear_reply q (reply_of (opnum_asked q) stub)
hear_stub (step.Set (set_step.Bind c)) stub = hearing.Drop drop_cause.BadReply
hear_stub (step.Set set_step.Reply) stub = hear_set_reply (set_reply_of stub)

abbrev pub hear_body : Body → Step → ℕ → Hearing
hear_body (BindNak reason) s next = hearing.Drop drop_cause.Bind
hear_body (BindAck send receive group results) s next = hear_ack (is_accepting results) s receive next
hear_body (Fault hint context status) s next = hearing.Drop (drop_cause.Fault status)
hear_body (Response hint context stub) s next = hear_stub s stub
hear_body (Bind send receive group contexts) s next = hearing.Drop drop_cause.BadReply
hear_body (Request hint context opnum stub) s next = hearing.Drop drop_cause.BadReply
hear_body Auth3 s next = hearing.Drop drop_cause.BadReply

-- a unit of another number than the turn waits for is passed over
abbrev pub hear_by : (is_awaited : Bool) (turn : Pending) (unit : RpcUnit) (next : ℕ) → Hearing
hear_by false p unit next = hearing.Skip
hear_by true p unit next = hear_body unit.body p.step next

abbrev pub hear : Option Pending → RpcUnit → ℕ → Hearing
hear None unit next = hearing.Skip
hear (Some p) unit next = hear_by (unit.call == p.number) p unit next

-- ---- how a reply is judged: causes 4 to 6

-- a NetrServerReqChallenge's reply: with the server's challenge half a channel is there
abbrev pub judge_challenge : (is_status_0 : Bool) (client server : List ℕ) → Judgement
judge_challenge false client server = judgement.Drop drop_cause.Denied
judge_challenge true client server = judgement.Half client server

-- the flags granted fit where all of them were offered, and RC4 is among them
abbrev pub judge_flags : (is_fit : Bool) (secret client server : List ℕ) → Judgement
judge_flags false secret client server = judgement.Drop drop_cause.BadReply
judge_flags true secret client server = judgement.Opened (fresh_channel secret client server offered_flags)

-- the credential that came has to be the server's
abbrev pub judge_credential : (is_servers : Bool) (secret client server : List ℕ) (flags : ℕ) → Judgement
judge_credential false secret client server flags = judgement.Drop drop_cause.NotNext
judge_credential true secret client server flags =
    judge_flags (has_flag offered_flags flags && has_flag flags rc4_flag) secret client server

-- the server's credential, by the key of the flags that were offered (MS-NRPC 3.1.4.4.2)
abbrev pub server_credential : List ℕ → List ℕ → List ℕ → List ℕ
server_credential secret client server = cred_of (key_of secret client server offered_flags) server

-- a NetrServerAuthenticate2's reply opens the channel, where half of it is there
abbrev pub judge_auth : (is_status_0 : Bool) (standing : Standing) (secret credential : List ℕ) (flags : ℕ) → Judgement
judge_auth false s secret credential flags = judgement.Drop drop_cause.Denied
judge_auth true standing.Nothing secret credential flags = judgement.Drop drop_cause.NotNext
judge_auth true (standing.Half client server) secret credential flags =
    judge_credential (bytes_eq credential (server_credential secret client server)) secret client server flags
judge_auth true (standing.Open o) secret credential flags = judgement.Drop drop_cause.NotNext

-- a Logon of status 0 has to have validation of the level that was asked. The verdict has the plain key.
abbrev pub judge_level : (is_asked_level : Bool) (info : Option SamInfo) (channel : SecureChannelState) → Judgement
judge_level false info o = judgement.Drop drop_cause.BadReply
judge_level true None o = judgement.Drop drop_cause.BadReply
judge_level true (Some info) o =
    judgement.Answer o (verdict.Granted (record info { key = crypt_key (key_of_channel o) info.key }))

-- with another status than 0 the validation is passed over
abbrev pub judge_status : (is_status_0 : Bool) (status level : ℕ) (info : Option SamInfo) (channel : SecureChannelState) → Judgement
judge_status false status level info o = judgement.Answer o (verdict.Status status)
judge_status true status level info o = judge_level (level == level_asked) info o

-- a Logon's reply counts where the credential that it returns is the one awaited
abbrev pub judge_awaited : (is_awaited_one : Bool) (status level : ℕ) (info : Option SamInfo) (channel : SecureChannelState) → Judgement
judge_awaited false status level info o = judgement.Drop drop_cause.NotNext
judge_awaited true status level info o = judge_status (status == 0) status level info (after_return true o)

abbrev pub judge_return : Option Authenticator → ℕ → ℕ → Option SamInfo → SecureChannelState → Judgement
judge_return None status level info o = judgement.Drop drop_cause.NotNext
judge_return (Some returned) status level info o =
    judge_awaited (is_awaited o.awaited returned.credential) status level info o

-- a Logon's reply of status ACCESS_DENIED drops the channel, whatever credential it returns
abbrev pub judge_logon : (is_denied : Bool) (standing : Standing) (returned : Option Authenticator) (status level : ℕ) (info : Option SamInfo) → Judgement
judge_logon true s returned status level info = judgement.Drop drop_cause.Denied
judge_logon false standing.Nothing returned status level info = judgement.Drop drop_cause.NotNext
judge_logon false (standing.Half client server) returned status level info = judgement.Drop drop_cause.NotNext
judge_logon false (standing.Open o) returned status level info = judge_return returned status level info o

-- a reply of another kind than the question's is judged as one that isn't of its layout: cause 3
abbrev pub judge : Question → Reply → Standing → List ℕ → Judgement
judge (question.Challenge client) (reply.Challenge r) s secret = judge_challenge (r.status == 0) client r.challenge
judge question.Authenticate (reply.Authenticate r) s secret = judge_auth (r.status == 0) s secret r.credential r.flags
judge question.Logon (reply.Logon r) s secret =
    judge_logon (r.status == access_denied) s r.returned r.status r.level r.info
judge _ _ s secret = judgement.Drop drop_cause.BadReply

-- what the reply to NetrServerPasswordSet comes to: the channel, on which the secret is set, or why it isn't
abbrev pub SetOutcome : Type 0
SetOutcome = Result SecureChannelState DropCause

-- the change is done where the credential that is returned is the one awaited
abbrev pub judge_set_awaited : (is_awaited_one : Bool) (channel : SecureChannelState) → SetOutcome
judge_set_awaited false o = Err drop_cause.NotNext
judge_set_awaited true o = Ok (after_return true o)

abbrev pub judge_set_return : Standing → Authenticator → SetOutcome
judge_set_return standing.Nothing returned = Err drop_cause.NotNext
judge_set_return (standing.Half client server) returned = Err drop_cause.NotNext
judge_set_return (standing.Open o) returned = judge_set_awaited (is_awaited o.awaited returned.credential) o

-- each status but 0 denies the change, whatever credential it comes with
abbrev pub judge_set_status : (is_status_0 : Bool) (standing : Standing) (returned : Authenticator) → SetOutcome
judge_set_status false s returned = Err drop_cause.Denied
judge_set_status true s returned = judge_set_return s returned

abbrev pub judge_set : SetReply → Standing → SetOutcome
judge_set r s = judge_set_status (r.status == 0) s r.returned

-- ---- a unit that is taken

pub record Taking : Type 0 where
  pub taken : Taken
  pub state : Requester

abbrev pub later_logons : List Waiting → List Waiting
later_logons [] = []
later_logons (logon ∷ logons) = logons

-- the place of the logon that the turn is for
abbrev pub place_of : Option Pending → ℕ
place_of None = 0
place_of (Some p) = p.place

-- a turn ends, and the channel stands as `how` says
abbrev pub end_turn : (how : Standing) → Requester → Requester
end_turn how s = record s { standing = how; turn = None }

-- a turn ends, the channel stands as `how` says, and the first logon waits no more
abbrev pub remove_first : (how : Standing) → Requester → Requester
remove_first how s = record s { standing = how; waiting = later_logons s.waiting; turn = None }

abbrev pub settle : Judgement → Requester → Taking
settle (judgement.Half client server) s =
    record { taken = taken.Half; state = end_turn (standing.Half client server) s }
settle (judgement.Opened o) s = record { taken = taken.Opened; state = end_turn (standing.Open o) s }
settle (judgement.Answer o v) s =
    record { taken = taken.Answer (place_of s.turn) v; state = remove_first (standing.Open o) s }
settle (judgement.Drop cause) s =
    record { taken = taken.Dropped (place_of s.turn) cause; state = remove_first standing.Nothing s }

-- the secret is set, and none is next; the logon that the turn was for waits on
abbrev pub settle_set : SetOutcome → Requester → Taking
settle_set (Ok o) s = record { taken = taken.Set; state = record (end_turn (standing.Open o) s) { next = None } }
settle_set (Err cause) s = settle (judgement.Drop cause) s

abbrev pub act_set : SetHearing → Requester → Taking
act_set (set_hearing.Next frames) s =
    record { taken = taken.Next tt frames; state = wait_for s (place_of s.turn) (step.Set set_step.Reply) }
act_set (set_hearing.Reply r) s = settle_set (judge_set r s.standing) s

abbrev pub act : Hearing → Requester → Taking
act hearing.Skip s = record { taken = taken.Skip tt; state = s }
act (hearing.Next q frames) s =
    record { taken = taken.Next tt frames; state = wait_for s (place_of s.turn) (step.Reply q) }
act (hearing.Reply q r) s = settle (judge q r s.standing s.caller.secret) s
act (hearing.Drop cause) s = settle (judgement.Drop cause) s
act (hearing.Set what) s = act_set what s

abbrev pub take_of : Requester → RpcUnit → Taking
take_of s unit = act (hear s.turn unit s.next_call) s

-- ---- a turn that is lost

pub record Losing : Type 0 where
  pub place : ℕ
  pub state : Requester

abbrev pub lose_of : Requester → Losing
lose_of s = record { place = place_of s.turn; state = remove_first standing.Nothing s }

-- ---- what is kept can be written

-- the texts of the call have their sizes, and its numbers their widths
pub record CanSendSet (c : SetCall) : Type 0 where
  pub writes : CanWriteSet c
  pub range : InRangeSetCall c

-- The most bytes of a call's stub: five names of 32,767 units, two responses of 65,535 bytes, and 400 bytes around
-- them. It is short enough for the hint of a request, and for one send.
abbrev pub stub_limit : ℕ
stub_limit = 5 * (2 * 32767) + 2 * 65535 + 400

abbrev pub CanWriteStep : Step → Type 0
CanWriteStep (step.Bind c) = CanWriteCall c
CanWriteStep (step.Reply q) = Unit {0}
CanWriteStep (step.Set (set_step.Bind c)) = CanSendSet c
CanWriteStep (step.Set set_step.Reply) = Unit {0}

abbrev pub CanWriteTurn : Option Pending → Type 0
CanWriteTurn None = Unit {0}
CanWriteTurn (Some p) = CanWriteStep p.step

abbrev pub CanWriteWaiting : List Waiting → Type 0
CanWriteWaiting logons = AllByRecursion (λ logon. CanWriteNetworkInfo logon.info) logons
