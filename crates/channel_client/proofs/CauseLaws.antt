-- A turn ends by the first cause that holds.
use Rattle.std.proofs.Common.{◌≡◌, ◌==◌, ◌&&◌, ℕ, Bool, true, false, not, List, Option, Some, None, is_some, Result, Ok, Err, refl, sym, subst, ◌∙◌, bytes_eq}
use Rattle.ntlm_flags.specs.Flags.{has_flag}
use Rattle.channel_keys.specs.Flags.{rc4_flag}
use Rattle.wire_base.specs.declared.authenticator.Authenticator.{Authenticator}
use Rattle.authenticators.specs.SecureChannels.{SecureChannelState, is_awaited, after_return}
use Rattle.outside.specs.declared.action.DropCause.{DropCause}
use Rattle.outside.specs.declared.action.DropCause.TheVariants as drop_cause
use Rattle.rpc_units.specs.declared.unit.Unit.{Unit as RpcUnit}
use Rattle.rpc_units.specs.declared.unit.Syntax.{Syntax}
use Rattle.rpc_units.specs.declared.unit.Body.{Body}
use Rattle.rpc_units.specs.declared.unit.Body.TheVariants.{Bind, BindAck, BindNak, Auth3, Request, Response, Fault}
use Rattle.logon_stubs.specs.Calls.{reply_of}
use Rattle.logon_stubs.specs.Status.{access_denied}
use Rattle.logon_stubs.specs.declared.refused.StubRefused.{StubRefused}
use Rattle.logon_stubs.specs.declared.info.SamInfo.{SamInfo}
use Rattle.logon_stubs.specs.declared.calls.Reply.{Reply}
use Rattle.logon_stubs.specs.declared.calls.Reply.TheVariants as reply
use Rattle.channel_client.specs.State.{Requester}
use Rattle.channel_client.specs.Machine.{SetOutcome, is_accepting, level_asked, offered_flags, opnum_asked, server_credential, hear_ack, hear_reply, hear_body, hear_by, hear, judge_challenge, judge_flags, judge_credential, judge_auth, judge_level, judge_status, judge_awaited, judge_return, judge_logon, judge, settle, judge_set_awaited, judge_set_return, judge_set_status, judge_set, settle_set, hear_set_reply, act, take_of}
use Rattle.secret_change.specs.Calls.{set_reply_of}
use Rattle.secret_change.specs.declared.calls.SetReply.{SetReply}
use Rattle.secret_change.specs.declared.refused.SetRefused.{SetRefused}
use Rattle.channel_client.specs.Causes.{reply_if_read, reply_in, set_reply_if_read, is_due, denies, denies_in, denies_set, is_of_server, is_return, is_next, is_next_in, is_set_next, is_lacking, cause_if, cause_of, cause_in, is_numbered, CausesInOrder}
use Rattle.channel_client.specs.declared.state.Standing.{Standing}
use Rattle.channel_client.specs.declared.state.Standing.TheVariants as standing
use Rattle.channel_client.specs.declared.state.Question.{Question}
use Rattle.channel_client.specs.declared.state.Question.TheVariants as question
use Rattle.channel_client.specs.declared.state.Step.{Step}
use Rattle.channel_client.specs.declared.state.Step.TheVariants as step
use Rattle.channel_client.specs.declared.state.SetStep.TheVariants as set_step
use Rattle.channel_client.specs.declared.state.Pending.{Pending}
use Rattle.channel_client.specs.declared.answers.Taken.TheVariants as taken
use Rattle.channel_client.specs.declared.hearing.Hearing.{Hearing}
use Rattle.channel_client.specs.declared.hearing.Hearing.TheVariants as hearing
use Rattle.channel_client.specs.declared.hearing.SetHearing.{SetHearing}
use Rattle.channel_client.specs.declared.hearing.SetHearing.TheVariants as set_hearing
use Rattle.channel_client.specs.declared.judging.Judgement.{Judgement}
use Rattle.channel_client.specs.declared.judging.Judgement.TheVariants as judgement

-- ---- the cause of a judgement

abbrev pub cause_judged : Judgement → Option DropCause
cause_judged (judgement.Half client server) = None
cause_judged (judgement.Opened o) = None
cause_judged (judgement.Answer o v) = None
cause_judged (judgement.Drop cause) = Some cause

-- causes 4 to 6
abbrev pub last_causes : Bool → Bool → Bool → Option DropCause
last_causes denied right lacking =
    cause_if denied drop_cause.Denied (cause_if (not right) drop_cause.NotNext (cause_if lacking drop_cause.BadReply None))

challenge_cause : (granted : Bool) (client server : List ℕ) → cause_judged (judge_challenge granted client server) ≡ last_causes (not granted) true false
challenge_cause true client server = refl
challenge_cause false client server = refl

flags_cause : (enough : Bool) (secret client server : List ℕ) → cause_judged (judge_flags enough secret client server) ≡ last_causes false true (not enough)
flags_cause true secret client server = refl
flags_cause false secret client server = refl

credential_cause : (right : Bool) (secret client server : List ℕ) (flags : ℕ) →
    cause_judged (judge_credential right secret client server flags) ≡ last_causes false right (not (has_flag offered_flags flags && has_flag flags rc4_flag))
credential_cause true secret client server flags = flags_cause (has_flag offered_flags flags && has_flag flags rc4_flag) secret client server
credential_cause false secret client server flags = refl

auth_cause : (granted : Bool) (how : Standing) (secret credential : List ℕ) (flags : ℕ) →
    cause_judged (judge_auth granted how secret credential flags)
    ≡ last_causes (not granted) (is_of_server how secret credential) (not (has_flag offered_flags flags && has_flag flags rc4_flag))
auth_cause false how secret credential flags = refl
auth_cause true standing.Nothing secret credential flags = refl
auth_cause true (standing.Half client server) secret credential flags =
    credential_cause (bytes_eq credential (server_credential secret client server)) secret client server flags
auth_cause true (standing.Open o) secret credential flags = refl

level_cause : (asked : Bool) (info : Option SamInfo) (o : SecureChannelState) → cause_judged (judge_level asked info o) ≡ last_causes false true (not (asked && is_some info))
level_cause false info o = refl
level_cause true None o = refl
level_cause true (Some info) o = refl

status_cause : (granted : Bool) (status level : ℕ) (info : Option SamInfo) (o : SecureChannelState) →
    cause_judged (judge_status granted status level info o) ≡ last_causes false true (granted && not ((level == level_asked) && is_some info))
status_cause false status level info o = refl
status_cause true status level info o = level_cause (level == level_asked) info o

awaited_cause : (right : Bool) (status level : ℕ) (info : Option SamInfo) (o : SecureChannelState) →
    cause_judged (judge_awaited right status level info o) ≡ last_causes false right ((status == 0) && not ((level == level_asked) && is_some info))
awaited_cause false status level info o = refl
awaited_cause true status level info o = status_cause (status == 0) status level info (after_return true o)

return_cause : (returned : Option Authenticator) (status level : ℕ) (info : Option SamInfo) (o : SecureChannelState) →
    cause_judged (judge_return returned status level info o)
    ≡ last_causes false (is_return (standing.Open o) returned) ((status == 0) && not ((level == level_asked) && is_some info))
return_cause None status level info o = refl
return_cause (Some returned) status level info o = awaited_cause (is_awaited o.awaited returned.credential) status level info o

logon_cause : (denied : Bool) (how : Standing) (returned : Option Authenticator) (status level : ℕ) (info : Option SamInfo) →
    cause_judged (judge_logon denied how returned status level info)
    ≡ last_causes denied (is_return how returned) ((status == 0) && not ((level == level_asked) && is_some info))
logon_cause true how returned status level info = refl
logon_cause false standing.Nothing returned status level info = refl
logon_cause false (standing.Half client server) returned status level info = refl
logon_cause false (standing.Open o) returned status level info = return_cause returned status level info o

-- causes 3 to 6 of a reply that was read
abbrev pub reply_causes : Option Reply → Standing → List ℕ → Option DropCause
reply_causes read how secret =
    cause_if (not (is_some read)) drop_cause.BadReply (last_causes (denies read) (is_next read how secret) (is_lacking read))

pub judged_cause : (q : Question) (r : Reply) (how : Standing) (secret : List ℕ) →
    cause_judged (judge q r how secret) ≡ reply_causes (reply_if_read q (Ok r)) how secret
judged_cause (question.Challenge client) (reply.Challenge r) how secret = challenge_cause (r.status == 0) client r.challenge
judged_cause (question.Challenge client) (reply.Authenticate r) how secret = refl
judged_cause (question.Challenge client) (reply.Logon r) how secret = refl
judged_cause (question.Challenge client) (reply.Logoff r) how secret = refl
judged_cause question.Authenticate (reply.Challenge r) how secret = refl
judged_cause question.Authenticate (reply.Authenticate r) how secret = auth_cause (r.status == 0) how secret r.credential r.flags
judged_cause question.Authenticate (reply.Logon r) how secret = refl
judged_cause question.Authenticate (reply.Logoff r) how secret = refl
judged_cause question.Logon (reply.Challenge r) how secret = refl
judged_cause question.Logon (reply.Authenticate r) how secret = refl
judged_cause question.Logon (reply.Logon r) how secret = logon_cause (r.status == access_denied) how r.returned r.status r.level r.info
judged_cause question.Logon (reply.Logoff r) how secret = refl

-- ---- the cause of what a change comes to

abbrev pub cause_judged_set : SetOutcome → Option DropCause
cause_judged_set (Ok o) = None
cause_judged_set (Err cause) = Some cause

set_awaited_cause : (right : Bool) (o : SecureChannelState) → cause_judged_set (judge_set_awaited right o) ≡ last_causes false right false
set_awaited_cause false o = refl
set_awaited_cause true o = refl

set_return_cause : (how : Standing) (returned : Authenticator) → cause_judged_set (judge_set_return how returned) ≡ last_causes false (is_return how (Some returned)) false
set_return_cause standing.Nothing returned = refl
set_return_cause (standing.Half client server) returned = refl
set_return_cause (standing.Open o) returned = set_awaited_cause (is_awaited o.awaited returned.credential) o

pub set_status_cause : (granted : Bool) (how : Standing) (returned : Authenticator) →
    cause_judged_set (judge_set_status granted how returned) ≡ last_causes (not granted) (is_return how (Some returned)) false
set_status_cause false how returned = refl
set_status_cause true how returned = set_return_cause how returned

-- causes 3 to 6 of the reply to a change that was read
abbrev pub set_causes : Option SetReply → Standing → Option DropCause
set_causes read how =
    cause_if (not (is_some read)) drop_cause.BadReply (last_causes (denies_set read) (is_set_next read how) false)

-- ---- the cause of what a unit comes to

abbrev pub cause_set : SetHearing → Standing → Option DropCause
cause_set (set_hearing.Next frames) how = None
cause_set (set_hearing.Reply r) how = cause_judged_set (judge_set r how)

abbrev pub cause_heard : Hearing → Standing → List ℕ → Option DropCause
cause_heard hearing.Skip how secret = None
cause_heard (hearing.Next q frames) how secret = None
cause_heard (hearing.Reply q r) how secret = cause_judged (judge q r how secret)
cause_heard (hearing.Drop cause) how secret = Some cause
cause_heard (hearing.Set what) how secret = cause_set what how

ack_cause : (accepting : Bool) (st : Step) (send receive group : ℕ) (results : List (ℕ × ℕ × Syntax)) (next : ℕ) (how : Standing) (secret : List ℕ) →
    cause_heard (hear_ack accepting st receive next) how secret
    ≡ cause_if (not accepting) drop_cause.Bind
    (cause_if (not (is_due st (BindAck send receive group results))) drop_cause.BadReply
    (last_causes (denies_in st (BindAck send receive group results)) (is_next_in st (BindAck send receive group results) how secret)
    (is_lacking (reply_in st (BindAck send receive group results)))))
ack_cause false st send receive group results next how secret = refl
ack_cause true (step.Bind c) send receive group results next how secret = refl
ack_cause true (step.Reply q) send receive group results next how secret = refl
ack_cause true (step.Set (set_step.Bind c)) send receive group results next how secret = refl
ack_cause true (step.Set set_step.Reply) send receive group results next how secret = refl

read_cause : (q : Question) (read : Result Reply StubRefused) (how : Standing) (secret : List ℕ) →
    cause_heard (hear_reply q read) how secret ≡ reply_causes (reply_if_read q read) how secret
read_cause q (Err why) how secret = refl
read_cause q (Ok r) how secret = judged_cause q r how secret

set_read_cause : (read : Result SetReply SetRefused) (how : Standing) (secret : List ℕ) →
    cause_heard (hear_set_reply read) how secret ≡ set_causes (set_reply_if_read read) how
set_read_cause (Err why) how secret = refl
set_read_cause (Ok r) how secret = set_status_cause (r.status == 0) how r.returned

body_cause : (s : Requester) (body : Body) (st : Step) (next : ℕ) → cause_heard (hear_body body st next) s.standing s.caller.secret ≡ cause_of s st body
body_cause s (BindNak reason) st next = refl
body_cause s (BindAck send receive group results) st next =
    ack_cause (is_accepting results) st send receive group results next s.standing s.caller.secret
body_cause s (Fault hint context status) st next = refl
body_cause s (Response hint context stub) (step.Bind c) next = refl
body_cause s (Response hint context stub) (step.Reply q) next = read_cause q (reply_of (opnum_asked q) stub) s.standing s.caller.secret
body_cause s (Response hint context stub) (step.Set (set_step.Bind c)) next = refl
body_cause s (Response hint context stub) (step.Set set_step.Reply) next = set_read_cause (set_reply_of stub) s.standing s.caller.secret
body_cause s (Bind send receive group contexts) (step.Bind c) next = refl
body_cause s (Bind send receive group contexts) (step.Reply q) next = refl
body_cause s (Bind send receive group contexts) (step.Set (set_step.Bind c)) next = refl
body_cause s (Bind send receive group contexts) (step.Set set_step.Reply) next = refl
body_cause s (Request hint context opnum stub) (step.Bind c) next = refl
body_cause s (Request hint context opnum stub) (step.Reply q) next = refl
body_cause s (Request hint context opnum stub) (step.Set (set_step.Bind c)) next = refl
body_cause s (Request hint context opnum stub) (step.Set set_step.Reply) next = refl
body_cause s Auth3 (step.Bind c) next = refl
body_cause s Auth3 (step.Reply q) next = refl
body_cause s Auth3 (step.Set (set_step.Bind c)) next = refl
body_cause s Auth3 (step.Set set_step.Reply) next = refl

-- ---- the cause of what is taken

settled_cause : (j : Judgement) (s : Requester) → cause_in (settle j s).taken ≡ cause_judged j
settled_cause (judgement.Half client server) s = refl
settled_cause (judgement.Opened o) s = refl
settled_cause (judgement.Answer o v) s = refl
settled_cause (judgement.Drop cause) s = refl

settled_set_cause : (judged : SetOutcome) (s : Requester) → cause_in (settle_set judged s).taken ≡ cause_judged_set judged
settled_set_cause (Ok o) s = refl
settled_set_cause (Err cause) s = refl

pub acted_cause : (heard : Hearing) (s : Requester) → cause_in (act heard s).taken ≡ cause_heard heard s.standing s.caller.secret
acted_cause hearing.Skip s = refl
acted_cause (hearing.Next q frames) s = refl
acted_cause (hearing.Reply q r) s = settled_cause (judge q r s.standing s.caller.secret) s
acted_cause (hearing.Drop cause) s = refl
acted_cause (hearing.Set (set_hearing.Next frames)) s = refl
acted_cause (hearing.Set (set_hearing.Reply r)) s = settled_set_cause (judge_set r s.standing) s

due_cause : (numbered : Bool) (s : Requester) (p : Pending) (unit : RpcUnit) → numbered ≡ true →
    cause_in (act (hear_by numbered p unit s.next_call) s).taken ≡ cause_of s p.step unit.body
due_cause true s p unit is = acted_cause (hear_body unit.body p.step s.next_call) s ∙ body_cause s unit.body p.step s.next_call
due_cause false s p unit is = absurd cc

taken_cause : (s : Requester) (p : Pending) (unit : RpcUnit) → s.turn ≡ Some p → (unit.call == p.number) ≡ true →
    cause_in (take_of s unit).taken ≡ cause_of s p.step unit.body
taken_cause s p unit out is =
    subst (λ turn. cause_in (act (hear turn unit s.next_call) s).taken ≡ cause_of s p.step unit.body) (sym out)
    (due_cause (unit.call == p.number) s p unit is)

skipped_by : (numbered : Bool) (s : Requester) (p : Pending) (unit : RpcUnit) → numbered ≡ false →
    act (hear_by numbered p unit s.next_call) s ≡ record { taken = taken.Skip tt; state = s }
skipped_by true s p unit is = absurd cc
skipped_by false s p unit is = refl

skipped : (s : Requester) (turn : Option Pending) (unit : RpcUnit) → is_numbered turn unit.call ≡ false →
    act (hear turn unit s.next_call) s ≡ record { taken = taken.Skip tt; state = s }
skipped s None unit is = refl
skipped s (Some p) unit is = skipped_by (unit.call == p.number) s p unit is

pub causes_in_order : CausesInOrder
causes_in_order = record {
  due = taken_cause;
  other = λ s unit is. skipped s s.turn unit is;
}
