-- The steps of any channel of the end that asks, step by step: `Machine` has those of one that seals nothing, and here
-- is where a channel that seals goes another way (MS-NRPC 3.1.4.1, 3.3; MS-RPCE 2.2.2.11). It offers secure RPC and
-- needs it granted; on the open channel its binds tell who binds, and the frames of its calls are sealed.
use Rattle.std.specs.Prelude.{ℕ, ◌==◌, ◌&&◌, Bool, true, false, List, [], ◌∷◌, Option, Some, None, is_some, Result, Ok, bytes_eq}
use Rattle.channel_keys.specs.Credentials.{cred_of}
use Rattle.channel_keys.specs.SessionKeys.{key_of}
use Rattle.ntlm_flags.specs.Flags.{has_flag}
use Rattle.authenticators.specs.SecureChannels.{fresh_channel}
use Rattle.outside.specs.declared.action.DropCause.TheVariants as drop_cause
use Rattle.rpc_units.specs.declared.unit.Unit.{Unit as RpcUnit}
use Rattle.rpc_units.specs.declared.unit.Body.{Body}
use Rattle.rpc_units.specs.declared.unit.Body.TheVariants.{Bind, BindAck, BindNak, Auth3, Request, Response, Fault}
use Rattle.rpc_units.specs.Writing.{written}
use Rattle.logon_stubs.specs.Calls.{opnum_of_call}
use Rattle.logon_stubs.specs.Interface.{netlogon_syntax}
use Rattle.logon_stubs.specs.Writing.{written_call}
use Rattle.logon_stubs.specs.declared.info.NetworkInfo.{NetworkInfo}
use Rattle.logon_stubs.specs.declared.calls.Call.{Call}
use Rattle.logon_stubs.specs.declared.calls.Call.TheVariants as call
use Rattle.logon_stubs.specs.declared.calls.Reply.{Reply}
use Rattle.logon_stubs.specs.declared.calls.Reply.TheVariants as reply
use Rattle.secret_change.specs.Calls.{set_opnum, written_set_call}
use Rattle.end_links.specs.Binding.{bind_of}
use Rattle.end_links.specs.Sending.{frames_of, request_of}
use Rattle.netlogon_seal.specs.declared.refusal.NlRefused.{NlRefused}
use Rattle.netlogon_seal.specs.Channels.{Opening, open_of}
use Rattle.channel_sealing.specs.Frames.{SealedFrames, seal_all}
use Rattle.channel_sealing.specs.Trailers.{own_context, sealed_bind_of, sealed_limit, with_room}
use Rattle.channel_client.specs.Machine.{Beginning, Starting, Taking, act, begin_with, fresh_requester, hear, hear_body, is_accepting, judge, needs_challenge, question_of, settle, start_of, take_of, wait_for}
use Rattle.channel_client.specs.Sealing.{frames_left, is_opened, needed_secure_flags, opened_sealing, sealing_left, secure_flags, wire_of, with_confounder}
use Rattle.channel_client.specs.State.{Requester}
use Rattle.channel_client.specs.declared.caller.Caller.{Caller}
use Rattle.channel_client.specs.declared.hearing.Hearing.{Hearing}
use Rattle.channel_client.specs.declared.hearing.Hearing.TheVariants as hearing
use Rattle.channel_client.specs.declared.hearing.SetHearing.TheVariants as set_hearing
use Rattle.channel_client.specs.declared.judging.Judgement.{Judgement}
use Rattle.channel_client.specs.declared.judging.Judgement.TheVariants as judgement
use Rattle.channel_client.specs.declared.state.Pending.{Pending}
use Rattle.channel_client.specs.declared.state.Question.{Question}
use Rattle.channel_client.specs.declared.state.Question.TheVariants as question
use Rattle.channel_client.specs.declared.state.Sealing.{Sealing}
use Rattle.channel_client.specs.declared.state.SetStep.TheVariants as set_step
use Rattle.channel_client.specs.declared.state.Standing.{Standing}
use Rattle.channel_client.specs.declared.state.Standing.TheVariants as standing
use Rattle.channel_client.specs.declared.state.Step.{Step}
use Rattle.channel_client.specs.declared.state.Step.TheVariants as step
use Rattle.channel_client.specs.declared.state.Waiting.{Waiting}

-- ---- at first

abbrev pub fresh_channel_of : Option Sealing → Caller → Requester
fresh_channel_of sealing caller = record (fresh_requester caller) { sealing = sealing }

-- ---- a turn that starts

-- whether a turn that starts draws a challenge: where the channel seals, a turn on the open channel draws the
-- confounder of its call
abbrev pub draws_challenge : Option Sealing → Standing → Bool
draws_challenge None how = needs_challenge how
draws_challenge (Some g) standing.Nothing = true
draws_challenge (Some g) (standing.Half client server) = false
draws_challenge (Some g) (standing.Open o) = true

-- NetrServerAuthenticate2 with the client's credential, which offers secure RPC (MS-NRPC 3.5.4.4.3)
abbrev pub secure_auth_call : Caller → (client server : List ℕ) → Call
secure_auth_call caller client server = call.Authenticate (record {
  primary = None;
  account = caller.account;
  channel = caller.kind;
  computer = caller.computer;
  credential = cred_of (key_of caller.secret client server secure_flags) client;
  flags = secure_flags;
})

abbrev pub begin_sealed : Standing → Option (List ℕ) → Caller → NetworkInfo → ℕ → List ℕ → Beginning
begin_sealed standing.Nothing next caller info timestamp challenge = begin_with standing.Nothing next caller info timestamp challenge
begin_sealed (standing.Half client server) next caller info timestamp challenge =
    record { standing = standing.Half client server; step = step.Bind (secure_auth_call caller client server) }
begin_sealed (standing.Open o) next caller info timestamp challenge = begin_with (standing.Open o) next caller info timestamp challenge

-- the bind of that number: on the open channel it tells who binds
abbrev pub bind_by : Standing → (bind_value : List ℕ) (number : ℕ) → RpcUnit
bind_by standing.Nothing bind_value number = bind_of netlogon_syntax number
bind_by (standing.Half client server) bind_value number = bind_of netlogon_syntax number
bind_by (standing.Open o) bind_value number = sealed_bind_of netlogon_syntax number bind_value

-- the turn of the logon of that place: its bind goes out, and its call waits
abbrev pub sealed_turn : (bind_value : List ℕ) (requester : Requester) (place : ℕ) (beginning : Beginning) → Starting
sealed_turn bind_value s place b = record {
  answer = Some (tt, written (bind_by s.standing bind_value s.next_call) ∷ []);
  state = record (wait_for s place b.step) { standing = b.standing };
}

-- the turn of the first logon that waits, where no turn is out; what is kept to seal stays
abbrev pub sealed_start_by : Option Pending → List Waiting → (bind_value : List ℕ) (requester : Requester) (timestamp : ℕ) (challenge : List ℕ) → Starting
sealed_start_by (Some pending) logons bind_value s timestamp challenge = record { answer = None; state = s }
sealed_start_by None [] bind_value s timestamp challenge = record { answer = None; state = s }
sealed_start_by None (logon ∷ logons) bind_value s timestamp challenge =
    sealed_turn bind_value s logon.place (begin_sealed s.standing s.next s.caller logon.info timestamp challenge)

abbrev pub sealed_start_of : (bind_value : List ℕ) (requester : Requester) (timestamp : ℕ) (challenge : List ℕ) → Starting
sealed_start_of bind_value s timestamp challenge = sealed_start_by s.turn s.waiting bind_value s timestamp challenge

abbrev pub sealing_after : Option (Unit {0} × List (List ℕ)) → (is_channel_open : Bool) (challenge : List ℕ) (sealing : Sealing) → Sealing
sealing_after None opened challenge g = g
sealing_after (Some start) opened challenge g = with_confounder opened challenge g

-- what is kept to seal, once the turn starts
abbrev pub keep_confounder : Sealing → (is_channel_open : Bool) (challenge : List ℕ) (starting : Starting) → Starting
keep_confounder g opened challenge b = record {
  answer = b.answer;
  state = record b.state { sealing = Some (sealing_after b.answer opened challenge g) };
}

abbrev pub start_sealed : Sealing → Requester → ℕ → List ℕ → Starting
start_sealed g s timestamp challenge =
    keep_confounder g (is_opened s.standing) challenge (sealed_start_of g.bind_value s timestamp challenge)

abbrev pub start_with : Option Sealing → Requester → ℕ → List ℕ → Starting
start_with None s timestamp challenge = start_of s timestamp challenge
start_with (Some g) s timestamp challenge = start_sealed g s timestamp challenge

abbrev pub channel_start : Requester → ℕ → List ℕ → Starting
channel_start s timestamp challenge = start_with s.sealing s timestamp challenge

-- ---- what a unit comes to for a turn on the open channel: the request goes out with room for signatures

-- the frames of a request with room for signatures, for a peer that receives `receive` bytes
abbrev pub room_frames_of : (request : RpcUnit) (receive : ℕ) → List (List ℕ)
room_frames_of request receive = frames_of (with_room own_context request) (sealed_limit receive)

-- how an end that seals takes the answer to its bind: as `hear_ack` says, with room for signatures in the frames
abbrev pub hear_room_ack : Bool → Step → ℕ → ℕ → Hearing
hear_room_ack false s receive next = hearing.Drop drop_cause.Bind
hear_room_ack true (step.Bind c) receive next =
    hearing.Next (question_of c) (room_frames_of (request_of next 0 (opnum_of_call c) (written_call c)) receive)
hear_room_ack true (step.Reply q) receive next = hearing.Drop drop_cause.BadReply
hear_room_ack true (step.Set (set_step.Bind c)) receive next =
    hearing.Set (set_hearing.Next (room_frames_of (request_of next 0 set_opnum (written_set_call c)) receive))
hear_room_ack true (step.Set set_step.Reply) receive next = hearing.Drop drop_cause.BadReply

abbrev pub hear_room_body : Body → Step → ℕ → Hearing
hear_room_body (BindNak reason) s next = hear_body (BindNak reason) s next
hear_room_body (BindAck send receive group results) s next = hear_room_ack (is_accepting results) s receive next
hear_room_body (Fault hint context status) s next = hear_body (Fault hint context status) s next
hear_room_body (Response hint context stub) s next = hear_body (Response hint context stub) s next
hear_room_body (Bind send receive group contexts) s next = hear_body (Bind send receive group contexts) s next
hear_room_body (Request hint context opnum stub) s next = hear_body (Request hint context opnum stub) s next
hear_room_body Auth3 s next = hear_body Auth3 s next

abbrev pub hear_room_by : (is_awaited : Bool) (turn : Pending) (unit : RpcUnit) (next : ℕ) → Hearing
hear_room_by false p unit next = hearing.Skip
hear_room_by true p unit next = hear_room_body unit.body p.step next

abbrev pub hear_room : Option Pending → RpcUnit → ℕ → Hearing
hear_room None unit next = hearing.Skip
hear_room (Some p) unit next = hear_room_by (unit.call == p.number) p unit next

-- ---- the frames that go out are sealed, one after the other, and where one can't be, the turn ends

abbrev pub next_if : Question → Option (List (List ℕ)) → Hearing
next_if q None = hearing.Drop drop_cause.BadSeal
next_if q (Some frames) = hearing.Next q frames

abbrev pub set_next_if : Option (List (List ℕ)) → Hearing
set_next_if None = hearing.Drop drop_cause.BadSeal
set_next_if (Some frames) = hearing.Set (set_hearing.Next frames)

abbrev pub sealed_next : Question → Option SealedFrames → Sealing → Hearing × Sealing
sealed_next q sealed g = (next_if q (frames_left sealed), sealing_left sealed g)

abbrev pub sealed_set : Option SealedFrames → Sealing → Hearing × Sealing
sealed_set sealed g = (set_next_if (frames_left sealed), sealing_left sealed g)

abbrev pub seal_heard : Hearing → Sealing → Hearing × Sealing
seal_heard hearing.Skip g = (hearing.Skip, g)
seal_heard (hearing.Next q frames) g = sealed_next q (seal_all g.seal g.confounder frames) g
seal_heard (hearing.Reply q r) g = (hearing.Reply q r, g)
seal_heard (hearing.Drop cause) g = (hearing.Drop cause, g)
seal_heard (hearing.Set (set_hearing.Next frames)) g = sealed_set (seal_all g.seal g.confounder frames) g
seal_heard (hearing.Set (set_hearing.Reply r)) g = (hearing.Set (set_hearing.Reply r), g)

-- what a unit comes to, and what is kept to seal afterwards
abbrev pub heard_by : Standing → Sealing → Option Pending → RpcUnit → ℕ → Hearing × Sealing
heard_by standing.Nothing g turn unit next = (hear turn unit next, g)
heard_by (standing.Half client server) g turn unit next = (hear turn unit next, g)
heard_by (standing.Open o) g turn unit next = seal_heard (hear_room turn unit next) g

abbrev pub heard_of : Sealing → Requester → RpcUnit → Hearing × Sealing
heard_of g s unit = heard_by s.standing g s.turn unit s.next_call

-- ---- how a reply is judged: that to NetrServerAuthenticate2 by other flags

-- the flags granted fit where all of them were offered, and those needed are among them
abbrev pub judge_secure_flags : (is_fit : Bool) (secret client server : List ℕ) → Judgement
judge_secure_flags false secret client server = judgement.Drop drop_cause.BadReply
judge_secure_flags true secret client server = judgement.Opened (fresh_channel secret client server secure_flags)

abbrev pub judge_secure_credential : (is_servers : Bool) (secret client server : List ℕ) (flags : ℕ) → Judgement
judge_secure_credential false secret client server flags = judgement.Drop drop_cause.NotNext
judge_secure_credential true secret client server flags =
    judge_secure_flags (has_flag secure_flags flags && has_flag flags needed_secure_flags) secret client server

-- the server's credential, by the key of the flags that were offered (MS-NRPC 3.1.4.4.2)
abbrev pub secure_server_credential : (secret client server : List ℕ) → List ℕ
secure_server_credential secret client server = cred_of (key_of secret client server secure_flags) server

abbrev pub judge_secure_auth : (is_status_0 : Bool) (standing : Standing) (secret credential : List ℕ) (flags : ℕ) → Judgement
judge_secure_auth false s secret credential flags = judgement.Drop drop_cause.Denied
judge_secure_auth true standing.Nothing secret credential flags = judgement.Drop drop_cause.NotNext
judge_secure_auth true (standing.Half client server) secret credential flags =
    judge_secure_credential (bytes_eq credential (secure_server_credential secret client server)) secret client server flags
judge_secure_auth true (standing.Open o) secret credential flags = judgement.Drop drop_cause.NotNext

abbrev pub judge_opening : Reply → Standing → List ℕ → Judgement
judge_opening (reply.Challenge r) s secret = judgement.Drop drop_cause.BadReply
judge_opening (reply.Authenticate r) s secret = judge_secure_auth (r.status == 0) s secret r.credential r.flags
judge_opening (reply.Logon r) s secret = judgement.Drop drop_cause.BadReply
judge_opening (reply.Logoff r) s secret = judgement.Drop drop_cause.BadReply

abbrev pub judge_sealed : Question → Reply → Standing → List ℕ → Judgement
judge_sealed (question.Challenge client) r s secret = judge (question.Challenge client) r s secret
judge_sealed question.Authenticate r s secret = judge_opening r s secret
judge_sealed question.Logon r s secret = judge question.Logon r s secret

-- ---- a unit that is taken

-- how a judgement changes a channel that seals: as `settle` says, and as the channel opens, what seals it begins anew
abbrev pub settle_sealed : Judgement → Requester → Taking
settle_sealed (judgement.Half client server) s = settle (judgement.Half client server) s
settle_sealed (judgement.Opened o) s = record {
  taken = (settle (judgement.Opened o) s).taken;
  state = record (settle (judgement.Opened o) s).state { sealing = opened_sealing s.sealing o };
}
settle_sealed (judgement.Answer o v) s = settle (judgement.Answer o v) s
settle_sealed (judgement.Drop cause) s = settle (judgement.Drop cause) s

abbrev pub act_sealed : Hearing → Requester → Taking
act_sealed hearing.Skip s = act hearing.Skip s
act_sealed (hearing.Next q frames) s = act (hearing.Next q frames) s
act_sealed (hearing.Reply q r) s = settle_sealed (judge_sealed q r s.standing s.caller.secret) s
act_sealed (hearing.Drop cause) s = act (hearing.Drop cause) s
act_sealed (hearing.Set what) s = act (hearing.Set what) s

abbrev pub act_heard : Hearing × Sealing → Requester → Taking
act_heard heard s = act_sealed heard.0 (record s { sealing = Some heard.1 })

abbrev pub take_sealed : Sealing → Requester → RpcUnit → Taking
take_sealed g s unit = act_heard (heard_of g s unit) s

abbrev pub take_with : Option Sealing → Requester → RpcUnit → Taking
take_with None s unit = take_of s unit
take_with (Some g) s unit = take_sealed g s unit

abbrev pub channel_take : Requester → RpcUnit → Taking
channel_take s unit = take_with s.sealing s unit

-- ---- a sealed unit that is opened before it is read

-- a turn is out whose call is sealed: that of a logon or of a change, which are made on an open channel alone
abbrev pub is_sealed : Requester → Bool
is_sealed s = is_some s.turn && is_some (wire_of s.sealing s.standing)

pub record Unsealing : Type 0 where
  pub answer : Result Unit NlRefused
  pub unit : List ℕ
  pub state : Requester

abbrev pub unsealed_by : Opening → Sealing → Requester → Unsealing
unsealed_by opening g s =
    record { answer = opening.answer; unit = opening.unit; state = record s { sealing = Some (record g { seal = opening.state }) } }

-- where nothing is sealed the unit stays
abbrev pub unseal_with : Option Sealing → Requester → (unit : List ℕ) (from to : ℕ) → Unsealing
unseal_with None s unit from to = record { answer = Ok tt; unit = unit; state = s }
unseal_with (Some g) s unit from to = unsealed_by (open_of g.seal unit from to) g s

abbrev pub unseal_of : Requester → (unit : List ℕ) (from to : ℕ) → Unsealing
unseal_of s unit from to = unseal_with s.sealing s unit from to
