-- What a verdict grants that is taken can be written again, and has its ranges. It serves `grants_are_writable`, and
-- the clauses of `Channel::take`.
use Rattle.std.proofs.Common.{◌≡◌, ◌==◌, ◌&&◌, ◌<◌, ℕ, Bool, true, false, List, Option, Some, None, Result, Ok, Err, refl, ◌∙◌, bytes_eq}
use Rattle.std.proofs.lemmas.List.Elements.{All-from_get_or}
use Rattle.authenticators.specs.SecureChannels.{SecureChannelState, after_return, is_awaited, key_of_channel}
use Rattle.channel_keys.specs.Flags.{rc4_flag}
use Rattle.channel_keys.specs.Hidden.{crypt_by, crypt_key, is_zero}
use Rattle.ntlm_flags.specs.Flags.{has_flag}
use Rattle.rc4_stream.proofs.Rc4Laws.{All-applied, length-applied}
use Rattle.wire_base.specs.Numbers.{AreBytes}
use Rattle.wire_base.specs.declared.authenticator.Authenticator.{Authenticator}
use Rattle.wire_base.proofs.NumberLaws.{bytes_from_all}
use Rattle.rpc_units.specs.declared.unit.Unit.{Unit as RpcUnit}
use Rattle.rpc_units.specs.declared.unit.Body.{Body}
use Rattle.rpc_units.specs.declared.unit.Body.TheVariants.{Bind, BindAck, BindNak, Auth3, Request, Response, Fault}
use Rattle.logon_stubs.specs.Calls.{reply_of}
use Rattle.logon_stubs.specs.Parts.{IfThere}
use Rattle.logon_stubs.specs.Ranges.{InRangeReply, InRangeSamInfo, IsBlock}
use Rattle.logon_stubs.specs.Status.{access_denied}
use Rattle.logon_stubs.specs.Verdicts.{IfGranted}
use Rattle.logon_stubs.specs.Writing.{CanWriteArm, CanWriteReply, CanWriteSamInfo}
use Rattle.logon_stubs.specs.declared.info.SamInfo.{SamInfo}
use Rattle.logon_stubs.specs.declared.info.Verdict.{Verdict}
use Rattle.logon_stubs.specs.declared.info.Verdict.TheVariants.{Granted, Status}
use Rattle.logon_stubs.specs.declared.calls.Reply.{Reply}
use Rattle.logon_stubs.specs.declared.calls.Reply.TheVariants as reply
use Rattle.logon_stubs.specs.declared.refused.StubRefused.{StubRefused}
use Rattle.logon_stubs.proofs.GivenLaws.{reply_of-InRange}
use Rattle.logon_stubs.proofs.WritableLaws.{reply_of-CanWrite}
use Rattle.secret_change.specs.Calls.{set_reply_of}
use Rattle.secret_change.specs.declared.calls.SetReply.{SetReply}
use Rattle.secret_change.specs.declared.refused.SetRefused.{SetRefused}
use Rattle.channel_client.specs.Grants.{CanWriteHeard, GrantsAreWritable, HasBytes, IfTaken}
use Rattle.channel_client.specs.Machine.{SetOutcome, act, act_set, hear, hear_ack, hear_body, hear_by, hear_reply, hear_set_reply, hear_stub, is_accepting, judge, judge_auth, judge_awaited, judge_challenge, judge_credential, judge_flags, judge_level, judge_logon, judge_return, judge_set, judge_status, level_asked, offered_flags, opnum_asked, server_credential, settle, settle_set}
use Rattle.channel_client.specs.State.{Requester}
use Rattle.channel_client.specs.declared.answers.Taken.{Taken}
use Rattle.channel_client.specs.declared.hearing.Hearing.{Hearing}
use Rattle.channel_client.specs.declared.hearing.Hearing.TheVariants as hearing
use Rattle.channel_client.specs.declared.hearing.SetHearing.{SetHearing}
use Rattle.channel_client.specs.declared.hearing.SetHearing.TheVariants as set_hearing
use Rattle.channel_client.specs.declared.judging.Judgement.{Judgement}
use Rattle.channel_client.specs.declared.judging.Judgement.TheVariants as judgement
use Rattle.channel_client.specs.declared.state.Pending.{Pending}
use Rattle.channel_client.specs.declared.state.Question.{Question}
use Rattle.channel_client.specs.declared.state.Question.TheVariants as question
use Rattle.channel_client.specs.declared.state.Standing.{Standing}
use Rattle.channel_client.specs.declared.state.Standing.TheVariants as standing
use Rattle.channel_client.specs.declared.state.Step.{Step}
use Rattle.channel_client.specs.declared.state.Step.TheVariants as step
use Rattle.channel_client.specs.declared.state.SetStep.TheVariants as set_step

-- ---- what is heard

ack_writes : (accepting : Bool) (st : Step) (receive next : ℕ) → CanWriteHeard (hear_ack accepting st receive next)
ack_writes false st receive next = tt
ack_writes true (step.Bind c) receive next = tt
ack_writes true (step.Reply q) receive next = tt
ack_writes true (step.Set (set_step.Bind c)) receive next = tt
ack_writes true (step.Set set_step.Reply) receive next = tt

reply_writes : (q : Question) (read : Result Reply StubRefused) → ((r : Reply) → read ≡ Ok r → CanWriteReply r × InRangeReply r) → CanWriteHeard (hear_reply q read)
reply_writes q (Err why) can = tt
reply_writes q (Ok r) can = can r refl

set_reply_writes : (read : Result SetReply SetRefused) → CanWriteHeard (hear_set_reply read)
set_reply_writes (Err why) = tt
set_reply_writes (Ok r) = tt

pub reply_fits : (opnum : ℕ) (stub : List ℕ) (r : Reply) → AreBytes stub → reply_of opnum stub ≡ Ok r → CanWriteReply r × InRangeReply r
reply_fits opnum stub r bytes read = (reply_of-CanWrite opnum stub r bytes read, reply_of-InRange opnum stub r bytes read)

stub_writes : (st : Step) (stub : List ℕ) → AreBytes stub → CanWriteHeard (hear_stub st stub)
stub_writes (step.Bind c) stub bytes = tt
stub_writes (step.Reply q) stub bytes =
    reply_writes q (reply_of (opnum_asked q) stub) (λ r read. reply_fits (opnum_asked q) stub r bytes read)
stub_writes (step.Set (set_step.Bind c)) stub bytes = tt
stub_writes (step.Set set_step.Reply) stub bytes = set_reply_writes (set_reply_of stub)

pub body_writes : (body : Body) (st : Step) (next : ℕ) → HasBytes body → CanWriteHeard (hear_body body st next)
body_writes (BindNak reason) st next bytes = tt
body_writes (BindAck send receive group results) st next bytes = ack_writes (is_accepting results) st receive next
body_writes (Fault hint context status) st next bytes = tt
body_writes (Response hint context stub) st next bytes = stub_writes st stub bytes
body_writes (Bind send receive group contexts) st next bytes = tt
body_writes (Request hint context opnum stub) st next bytes = tt
body_writes Auth3 st next bytes = tt

numbered_writes : (numbered : Bool) (p : Pending) (unit : RpcUnit) (next : ℕ) → HasBytes unit.body → CanWriteHeard (hear_by numbered p unit next)
numbered_writes false p unit next bytes = tt
numbered_writes true p unit next bytes = body_writes unit.body p.step next bytes

pub heard_writes : (turn : Option Pending) (unit : RpcUnit) (next : ℕ) → HasBytes unit.body → CanWriteHeard (hear turn unit next)
heard_writes None unit next bytes = tt
heard_writes (Some p) unit next bytes = numbered_writes (unit.call == p.number) p unit next bytes

-- ---- how a reply is judged

-- what is granted can be written, and has its ranges
abbrev pub Fits : SamInfo → Type 0
Fits info = CanWriteSamInfo info × InRangeSamInfo info

abbrev pub IfJudged : Judgement → Type 0
IfJudged (judgement.Half client server) = Unit {0}
IfJudged (judgement.Opened o) = Unit {0}
IfJudged (judgement.Answer o v) = IfGranted v Fits
IfJudged (judgement.Drop cause) = Unit {0}

-- the key stays a key under another one
crypt_block : (nothing_hidden : Bool) (session key : List ℕ) → IsBlock 16 key → IsBlock 16 (crypt_by nothing_hidden session key)
crypt_block true session key is = is
crypt_block false session key is = (
  length-applied session 0 key ∙ is.0,
  bytes_from_all _ (All-applied session 0 key (All-from_get_or (λ b. b < 256) key 0 (λ place within. is.1 place))),
)

-- with another key
keyed : (info : SamInfo) (key : List ℕ) → IsBlock 16 key → Fits info → Fits (record info { key = key })
keyed info key block fits = (
  record {
    effective_name = fits.0.effective_name;
    full_name = fits.0.full_name;
    script = fits.0.script;
    profile = fits.0.profile;
    home = fits.0.home;
    home_drive = fits.0.home_drive;
    groups = fits.0.groups;
    server = fits.0.server;
    domain = fits.0.domain;
    extra = fits.0.extra;
  },
  record {
    times = fits.1.times;
    texts = fits.1.texts;
    numbers = record {
      logon_count = fits.1.numbers.logon_count;
      bad_count = fits.1.numbers.bad_count;
      user_id = fits.1.numbers.user_id;
      group_id = fits.1.numbers.group_id;
    };
    groups = fits.1.groups;
    user_flags = fits.1.user_flags;
    key = block;
    server = fits.1.server;
    domain = fits.1.domain;
    sid = fits.1.sid;
    extra = fits.1.extra;
  },
)

-- an arm that can be written and has its ranges
abbrev pub ArmFits : ℕ → Option SamInfo → Type 0
ArmFits level info = CanWriteArm level info × IfThere InRangeSamInfo info

level_writes : (asked : Bool) (level : ℕ) (info : Option SamInfo) (o : SecureChannelState) → ArmFits level info → IfJudged (judge_level asked info o)
level_writes false level info o fits = tt
level_writes true level None o fits = tt
level_writes true level (Some info) o fits =
    keyed info (crypt_key (key_of_channel o) info.key) (crypt_block (is_zero info.key) (key_of_channel o) info.key fits.1.key) (fits.0.1, fits.1)

status_writes : (granted : Bool) (status level : ℕ) (info : Option SamInfo) (o : SecureChannelState) → ArmFits level info → IfJudged (judge_status granted status level info o)
status_writes false status level info o fits = tt
status_writes true status level info o fits = level_writes (level == level_asked) level info o fits

awaited_writes : (awaited : Bool) (status level : ℕ) (info : Option SamInfo) (o : SecureChannelState) → ArmFits level info → IfJudged (judge_awaited awaited status level info o)
awaited_writes false status level info o fits = tt
awaited_writes true status level info o fits = status_writes (status == 0) status level info (after_return true o) fits

return_writes : (returned : Option Authenticator) (status level : ℕ) (info : Option SamInfo) (o : SecureChannelState) → ArmFits level info → IfJudged (judge_return returned status level info o)
return_writes None status level info o fits = tt
return_writes (Some returned) status level info o fits = awaited_writes (is_awaited o.awaited returned.credential) status level info o fits

logon_writes : (denied : Bool) (how : Standing) (returned : Option Authenticator) (status level : ℕ) (info : Option SamInfo) → ArmFits level info →
    IfJudged (judge_logon denied how returned status level info)
logon_writes true how returned status level info fits = tt
logon_writes false standing.Nothing returned status level info fits = tt
logon_writes false (standing.Half client server) returned status level info fits = tt
logon_writes false (standing.Open o) returned status level info fits = return_writes returned status level info o fits

challenge_writes : (granted : Bool) (client server : List ℕ) → IfJudged (judge_challenge granted client server)
challenge_writes false client server = tt
challenge_writes true client server = tt

flags_write : (granted : Bool) (secret client server : List ℕ) → IfJudged (judge_flags granted secret client server)
flags_write false secret client server = tt
flags_write true secret client server = tt

credential_writes : (right : Bool) (secret client server : List ℕ) (flags : ℕ) → IfJudged (judge_credential right secret client server flags)
credential_writes false secret client server flags = tt
credential_writes true secret client server flags = flags_write (has_flag offered_flags flags && has_flag flags rc4_flag) secret client server

auth_writes : (granted : Bool) (how : Standing) (secret credential : List ℕ) (flags : ℕ) → IfJudged (judge_auth granted how secret credential flags)
auth_writes false how secret credential flags = tt
auth_writes true standing.Nothing secret credential flags = tt
auth_writes true (standing.Half client server) secret credential flags =
    credential_writes (bytes_eq credential (server_credential secret client server)) secret client server flags
auth_writes true (standing.Open o) secret credential flags = tt

-- a reply that can be written and has its ranges
abbrev pub ReplyFits : Reply → Type 0
ReplyFits r = CanWriteReply r × InRangeReply r

pub judged_writes : (q : Question) (r : Reply) (how : Standing) (secret : List ℕ) → ReplyFits r → IfJudged (judge q r how secret)
judged_writes (question.Challenge client) (reply.Challenge r) how secret fits = challenge_writes (r.status == 0) client r.challenge
judged_writes (question.Challenge client) (reply.Authenticate r) how secret fits = tt
judged_writes (question.Challenge client) (reply.Logon r) how secret fits = tt
judged_writes (question.Challenge client) (reply.Logoff r) how secret fits = tt
judged_writes question.Authenticate (reply.Challenge r) how secret fits = tt
judged_writes question.Authenticate (reply.Authenticate r) how secret fits = auth_writes (r.status == 0) how secret r.credential r.flags
judged_writes question.Authenticate (reply.Logon r) how secret fits = tt
judged_writes question.Authenticate (reply.Logoff r) how secret fits = tt
judged_writes question.Logon (reply.Challenge r) how secret fits = tt
judged_writes question.Logon (reply.Authenticate r) how secret fits = tt
judged_writes question.Logon (reply.Logon r) how secret fits = logon_writes (r.status == access_denied) how r.returned r.status r.level r.info (fits.0, fits.1.info)
judged_writes question.Logon (reply.Logoff r) how secret fits = tt

-- ---- a unit that is taken

granted_both : (v : Verdict) → IfGranted v Fits → IfGranted v CanWriteSamInfo × IfGranted v InRangeSamInfo
granted_both (Granted info) fits = fits
granted_both (Status status) fits = (tt, tt)

pub settled_writes : (j : Judgement) (s : Requester) → IfJudged j → IfTaken (settle j s).taken CanWriteSamInfo × IfTaken (settle j s).taken InRangeSamInfo
settled_writes (judgement.Half client server) s fits = (tt, tt)
settled_writes (judgement.Opened o) s fits = (tt, tt)
settled_writes (judgement.Answer o v) s fits = granted_both v fits
settled_writes (judgement.Drop cause) s fits = (tt, tt)

-- a turn that sets a secret grants nothing
set_settled_writes : (judged : SetOutcome) (s : Requester) → IfTaken (settle_set judged s).taken CanWriteSamInfo × IfTaken (settle_set judged s).taken InRangeSamInfo
set_settled_writes (Ok o) s = (tt, tt)
set_settled_writes (Err cause) s = (tt, tt)

set_acted_writes : (what : SetHearing) (s : Requester) → IfTaken (act_set what s).taken CanWriteSamInfo × IfTaken (act_set what s).taken InRangeSamInfo
set_acted_writes (set_hearing.Next frames) s = (tt, tt)
set_acted_writes (set_hearing.Reply r) s = set_settled_writes (judge_set r s.standing) s

pub set_writable : (what : SetHearing) (s : Requester) (given : Taken) → given ≡ (act_set what s).taken → IfTaken given CanWriteSamInfo
set_writable what s given is = rw is (set_acted_writes what s).0

pub set_range : (what : SetHearing) (s : Requester) (given : Taken) → given ≡ (act_set what s).taken → IfTaken given InRangeSamInfo
set_range what s given is = rw is (set_acted_writes what s).1

pub acted_writes : (heard : Hearing) (s : Requester) → CanWriteHeard heard → IfTaken (act heard s).taken CanWriteSamInfo × IfTaken (act heard s).taken InRangeSamInfo
acted_writes hearing.Skip s fits = (tt, tt)
acted_writes (hearing.Next q frames) s fits = (tt, tt)
acted_writes (hearing.Reply q r) s fits = settled_writes (judge q r s.standing s.caller.secret) s (judged_writes q r s.standing s.caller.secret fits)
acted_writes (hearing.Drop cause) s fits = (tt, tt)
acted_writes (hearing.Set what) s fits = set_acted_writes what s

-- what a reply comes to that was judged and settled
settled_both : (q : Question) (r : Reply) (how : Standing) (secret : List ℕ) (j : Judgement) (s : Requester) (given : Taken) → CanWriteHeard (hearing.Reply q r) →
    j ≡ judge q r how secret → given ≡ (settle j s).taken → IfTaken given CanWriteSamInfo × IfTaken given InRangeSamInfo
settled_both q r how secret j s given fits judged settled =
    rw settled (rw judged (settled_writes (judge q r how secret) s (judged_writes q r how secret fits)))

pub settled_writable : (q : Question) (r : Reply) (how : Standing) (secret : List ℕ) (j : Judgement) (s : Requester) (given : Taken) → CanWriteHeard (hearing.Reply q r) →
    j ≡ judge q r how secret → given ≡ (settle j s).taken → IfTaken given CanWriteSamInfo
settled_writable q r how secret j s given fits judged settled = (settled_both q r how secret j s given fits judged settled).0

pub settled_range : (q : Question) (r : Reply) (how : Standing) (secret : List ℕ) (j : Judgement) (s : Requester) (given : Taken) → CanWriteHeard (hearing.Reply q r) →
    j ≡ judge q r how secret → given ≡ (settle j s).taken → IfTaken given InRangeSamInfo
settled_range q r how secret j s given fits judged settled = (settled_both q r how secret j s given fits judged settled).1

pub grants_are_writable : GrantsAreWritable
grants_are_writable = record {
  writes = λ s unit bytes. (acted_writes (hear s.turn unit s.next_call) s (heard_writes s.turn unit s.next_call bytes)).0;
  range = λ s unit bytes. (acted_writes (hear s.turn unit s.next_call) s (heard_writes s.turn unit s.next_call bytes)).1;
}
