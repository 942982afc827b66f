-- What a verdict grants that a channel that seals takes can be written, and has its ranges: as on any channel, since
-- what is sealed grants nothing, and the reply to a logon is judged as there.
use Rattle.std.proofs.Common.{◌≡◌, ◌==◌, ◌&&◌, bytes_eq, ℕ, Bool, true, false, List, Option, Some, None}
use Rattle.logon_stubs.specs.Ranges.{InRangeSamInfo}
use Rattle.logon_stubs.specs.Writing.{CanWriteSamInfo}
use Rattle.logon_stubs.specs.declared.calls.Reply.{Reply}
use Rattle.logon_stubs.specs.declared.calls.Reply.TheVariants as reply
use Rattle.ntlm_flags.specs.Flags.{has_flag}
use Rattle.rpc_units.specs.declared.unit.Unit.{Unit as RpcUnit}
use Rattle.rpc_units.specs.declared.unit.Body.{Body}
use Rattle.rpc_units.specs.declared.unit.Body.TheVariants.{Bind, BindAck, BindNak, Auth3, Request, Response, Fault}
use Rattle.channel_sealing.specs.Frames.{seal_all}
use Rattle.channel_client.specs.Grants.{CanWriteHeard, HasBytes, IfTaken}
use Rattle.channel_client.specs.AnyChannel.{ChannelGrantsAreWritable}
use Rattle.channel_client.specs.Machine.{is_accepting}
use Rattle.channel_client.specs.Sealed.{act_sealed, heard_by, hear_room, hear_room_ack, hear_room_body, hear_room_by, judge_opening, judge_sealed, judge_secure_auth, judge_secure_credential, judge_secure_flags, next_if, seal_heard, secure_server_credential, set_next_if, settle_sealed, take_with}
use Rattle.channel_client.specs.Sealing.{frames_left, needed_secure_flags, secure_flags}
use Rattle.channel_client.specs.State.{Requester}
use Rattle.channel_client.proofs.GrantLaws.{IfJudged, ReplyFits, acted_writes, body_writes, grants_are_writable, heard_writes, judged_writes, settled_writes}
use Rattle.channel_client.specs.declared.answers.Taken.{Taken}
use Rattle.channel_client.specs.declared.hearing.Hearing.{Hearing}
use Rattle.channel_client.specs.declared.hearing.Hearing.TheVariants as hearing
use Rattle.channel_client.specs.declared.hearing.SetHearing.TheVariants as set_hearing
use Rattle.channel_client.specs.declared.judging.Judgement.{Judgement}
use Rattle.channel_client.specs.declared.judging.Judgement.TheVariants as judgement
use Rattle.channel_client.specs.declared.state.Pending.{Pending}
use Rattle.channel_client.specs.declared.state.Question.{Question}
use Rattle.channel_client.specs.declared.state.Question.TheVariants as question
use Rattle.channel_client.specs.declared.state.Sealing.{Sealing}
use Rattle.channel_client.specs.declared.state.Standing.{Standing}
use Rattle.channel_client.specs.declared.state.Standing.TheVariants as standing
use Rattle.channel_client.specs.declared.state.Step.{Step}
use Rattle.channel_client.specs.declared.state.Step.TheVariants as step
use Rattle.channel_client.specs.declared.state.SetStep.TheVariants as set_step

-- ---- what is heard

next_writes : (q : Question) (frames : Option (List (List ℕ))) → CanWriteHeard (next_if q frames)
next_writes q None = tt
next_writes q (Some frames) = tt

set_next_writes : (frames : Option (List (List ℕ))) → CanWriteHeard (set_next_if frames)
set_next_writes None = tt
set_next_writes (Some frames) = tt

sealed_writes : (h : Hearing) (g : Sealing) → CanWriteHeard h → CanWriteHeard (seal_heard h g).0
sealed_writes hearing.Skip g can = can
sealed_writes (hearing.Next q frames) g can = next_writes q (frames_left (seal_all g.seal g.confounder frames))
sealed_writes (hearing.Reply q r) g can = can
sealed_writes (hearing.Drop cause) g can = can
sealed_writes (hearing.Set (set_hearing.Next frames)) g can = set_next_writes (frames_left (seal_all g.seal g.confounder frames))
sealed_writes (hearing.Set (set_hearing.Reply r)) g can = can

pub sealed_writable : (h given : Hearing) (g : Sealing) → given ≡ (seal_heard h g).0 → CanWriteHeard h → CanWriteHeard given
sealed_writable h given g is can = rw is (sealed_writes h g can)

-- ---- how a reply is judged

flags_write : (fit : Bool) (secret client server : List ℕ) → IfJudged (judge_secure_flags fit secret client server)
flags_write false secret client server = tt
flags_write true secret client server = tt

credential_writes : (right : Bool) (secret client server : List ℕ) (flags : ℕ) → IfJudged (judge_secure_credential right secret client server flags)
credential_writes false secret client server flags = tt
credential_writes true secret client server flags = flags_write (has_flag secure_flags flags && has_flag flags needed_secure_flags) secret client server

auth_writes : (granted : Bool) (how : Standing) (secret credential : List ℕ) (flags : ℕ) → IfJudged (judge_secure_auth granted how secret credential flags)
auth_writes false how secret credential flags = tt
auth_writes true standing.Nothing secret credential flags = tt
auth_writes true (standing.Half client server) secret credential flags =
    credential_writes (bytes_eq credential (secure_server_credential secret client server)) secret client server flags
auth_writes true (standing.Open o) secret credential flags = tt

opening_writes : (r : Reply) (how : Standing) (secret : List ℕ) → IfJudged (judge_opening r how secret)
opening_writes (reply.Challenge r) how secret = tt
opening_writes (reply.Authenticate r) how secret = auth_writes (r.status == 0) how secret r.credential r.flags
opening_writes (reply.Logon r) how secret = tt
opening_writes (reply.Logoff r) how secret = tt

sealed_judged : (q : Question) (r : Reply) (how : Standing) (secret : List ℕ) → ReplyFits r → IfJudged (judge_sealed q r how secret)
sealed_judged (question.Challenge client) r how secret fits = judged_writes (question.Challenge client) r how secret fits
sealed_judged question.Authenticate r how secret fits = opening_writes r how secret
sealed_judged question.Logon r how secret fits = judged_writes question.Logon r how secret fits

-- ---- a unit that is taken

sealed_settled : (j : Judgement) (s : Requester) → IfJudged j → IfTaken (settle_sealed j s).taken CanWriteSamInfo × IfTaken (settle_sealed j s).taken InRangeSamInfo
sealed_settled (judgement.Half client server) s fits = settled_writes (judgement.Half client server) s fits
sealed_settled (judgement.Opened o) s fits = settled_writes (judgement.Opened o) s fits
sealed_settled (judgement.Answer o v) s fits = settled_writes (judgement.Answer o v) s fits
sealed_settled (judgement.Drop cause) s fits = settled_writes (judgement.Drop cause) s fits

-- what a reply comes to that was judged and settled
settled_both : (q : Question) (r : Reply) (how : Standing) (secret : List ℕ) (j : Judgement) (s : Requester) (given : Taken) → CanWriteHeard (hearing.Reply q r) →
    j ≡ judge_sealed q r how secret → given ≡ (settle_sealed j s).taken → IfTaken given CanWriteSamInfo × IfTaken given InRangeSamInfo
settled_both q r how secret j s given fits judged settled =
    rw settled (rw judged (sealed_settled (judge_sealed q r how secret) s (sealed_judged q r how secret fits)))

pub settled_writable : (q : Question) (r : Reply) (how : Standing) (secret : List ℕ) (j : Judgement) (s : Requester) (given : Taken) → CanWriteHeard (hearing.Reply q r) →
    j ≡ judge_sealed q r how secret → given ≡ (settle_sealed j s).taken → IfTaken given CanWriteSamInfo
settled_writable q r how secret j s given fits judged settled = (settled_both q r how secret j s given fits judged settled).0

pub settled_range : (q : Question) (r : Reply) (how : Standing) (secret : List ℕ) (j : Judgement) (s : Requester) (given : Taken) → CanWriteHeard (hearing.Reply q r) →
    j ≡ judge_sealed q r how secret → given ≡ (settle_sealed j s).taken → IfTaken given InRangeSamInfo
settled_range q r how secret j s given fits judged settled = (settled_both q r how secret j s given fits judged settled).1

-- ---- of every state

room_ack_writes : (accepting : Bool) (st : Step) (receive next : ℕ) → CanWriteHeard (hear_room_ack accepting st receive next)
room_ack_writes false st receive next = tt
room_ack_writes true (step.Bind c) receive next = tt
room_ack_writes true (step.Reply q) receive next = tt
room_ack_writes true (step.Set (set_step.Bind c)) receive next = tt
room_ack_writes true (step.Set set_step.Reply) receive next = tt

room_body_writes : (body : Body) (st : Step) (next : ℕ) → HasBytes body → CanWriteHeard (hear_room_body body st next)
room_body_writes (BindNak reason) st next bytes = body_writes (BindNak reason) st next bytes
room_body_writes (BindAck send receive group results) st next bytes = room_ack_writes (is_accepting results) st receive next
room_body_writes (Fault hint context status) st next bytes = body_writes (Fault hint context status) st next bytes
room_body_writes (Response hint context stub) st next bytes = body_writes (Response hint context stub) st next bytes
room_body_writes (Bind send receive group contexts) st next bytes = body_writes (Bind send receive group contexts) st next bytes
room_body_writes (Request hint context opnum stub) st next bytes = body_writes (Request hint context opnum stub) st next bytes
room_body_writes Auth3 st next bytes = body_writes Auth3 st next bytes

room_numbered_writes : (numbered : Bool) (p : Pending) (unit : RpcUnit) (next : ℕ) → HasBytes unit.body → CanWriteHeard (hear_room_by numbered p unit next)
room_numbered_writes false p unit next bytes = tt
room_numbered_writes true p unit next bytes = room_body_writes unit.body p.step next bytes

room_writes : (turn : Option Pending) (unit : RpcUnit) (next : ℕ) → HasBytes unit.body → CanWriteHeard (hear_room turn unit next)
room_writes None unit next bytes = tt
room_writes (Some p) unit next bytes = room_numbered_writes (unit.call == p.number) p unit next bytes

by_writes : (how : Standing) (g : Sealing) (turn : Option Pending) (unit : RpcUnit) (next : ℕ) → HasBytes unit.body → CanWriteHeard (heard_by how g turn unit next).0
by_writes standing.Nothing g turn unit next bytes = heard_writes turn unit next bytes
by_writes (standing.Half client server) g turn unit next bytes = heard_writes turn unit next bytes
by_writes (standing.Open o) g turn unit next bytes = sealed_writes (hear_room turn unit next) g (room_writes turn unit next bytes)

sealed_acted : (h : Hearing) (s : Requester) → CanWriteHeard h → IfTaken (act_sealed h s).taken CanWriteSamInfo × IfTaken (act_sealed h s).taken InRangeSamInfo
sealed_acted hearing.Skip s fits = acted_writes hearing.Skip s fits
sealed_acted (hearing.Next q frames) s fits = acted_writes (hearing.Next q frames) s fits
sealed_acted (hearing.Reply q r) s fits =
    sealed_settled (judge_sealed q r s.standing s.caller.secret) s (sealed_judged q r s.standing s.caller.secret fits)
sealed_acted (hearing.Drop cause) s fits = acted_writes (hearing.Drop cause) s fits
sealed_acted (hearing.Set what) s fits = acted_writes (hearing.Set what) s fits

taken_writes : (kept : Option Sealing) (s : Requester) (unit : RpcUnit) → HasBytes unit.body →
    IfTaken (take_with kept s unit).taken CanWriteSamInfo × IfTaken (take_with kept s unit).taken InRangeSamInfo
taken_writes None s unit bytes = (grants_are_writable.writes s unit bytes, grants_are_writable.range s unit bytes)
taken_writes (Some g) s unit bytes =
    let heard : Hearing × Sealing = heard_by s.standing g s.turn unit s.next_call in
    sealed_acted heard.0 (record s { sealing = Some heard.1 }) (by_writes s.standing g s.turn unit s.next_call bytes)

pub any_grant_is_writable : ChannelGrantsAreWritable
any_grant_is_writable = record {
  writes = λ s unit bytes. (taken_writes s.sealing s unit bytes).0;
  range = λ s unit bytes. (taken_writes s.sealing s unit bytes).1;
}
