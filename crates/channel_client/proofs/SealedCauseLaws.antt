-- The first cause that holds ends a turn, on a channel that seals. It serves `causes_come_in_order_where_sealed`.
use Rattle.std.proofs.Common.{◌≡◌, ◌==◌, ◌&&◌, ℕ, Bool, true, false, not, List, [], ◌∷◌, Option, Some, None, is_some, Result, Ok, Err, refl, sym, ap, ◌∙◌, bytes_eq}
use Rattle.ntlm_flags.specs.Flags.{has_flag}
use Rattle.outside.specs.declared.action.DropCause.{DropCause}
use Rattle.outside.specs.declared.action.DropCause.TheVariants as drop_cause
use Rattle.rpc_units.specs.declared.unit.Unit.{Unit as RpcUnit}
use Rattle.rpc_units.specs.declared.unit.Syntax.{Syntax}
use Rattle.rpc_units.specs.declared.unit.Body.{Body}
use Rattle.rpc_units.specs.declared.unit.Body.TheVariants.{Bind, BindAck, BindNak, Auth3, Request, Response, Fault}
use Rattle.logon_stubs.specs.Calls.{opnum_of_call, reply_of}
use Rattle.logon_stubs.specs.Writing.{written_call}
use Rattle.logon_stubs.specs.declared.refused.StubRefused.{StubRefused}
use Rattle.logon_stubs.specs.declared.calls.Reply.{Reply}
use Rattle.logon_stubs.specs.declared.calls.Reply.TheVariants as reply
use Rattle.secret_change.specs.Calls.{set_opnum, set_reply_of, written_set_call}
use Rattle.secret_change.specs.declared.calls.SetReply.{SetReply}
use Rattle.secret_change.specs.declared.refused.SetRefused.{SetRefused}
use Rattle.end_links.specs.Sending.{request_of}
use Rattle.channel_sealing.specs.Frames.{SealedFrames, seal_all}
use Rattle.channel_client.specs.Causes.{cause_if, cause_in, denies, denies_in, first_cause, is_due, is_fault, is_numbered, refuses_bind, reply_if_read, reply_in, set_reply_if_read, status_of_fault}
use Rattle.channel_client.specs.Machine.{hear_ack, hear_body, hear_by, hear_reply, hear_set_reply, is_accepting, opnum_asked, question_of}
use Rattle.channel_client.specs.Sealed.{act_heard, act_sealed, hear_room_ack, hear_room_body, hear_room_by, heard_by, judge_sealed, judge_secure_auth, judge_secure_credential, judge_secure_flags, next_if, room_frames_of, seal_heard, secure_server_credential, set_next_if, settle_sealed, take_with}
use Rattle.channel_client.specs.SealedCauses.{SealedCausesInOrder, can_seal, is_lacking_sealed, is_next_sealed, is_next_sealed_in, is_of_secure_server, room_request_in, sealed_cause_of}
use Rattle.channel_client.specs.Sealing.{frames_left, needed_secure_flags, secure_flags, wire_of}
use Rattle.channel_client.specs.State.{Requester}
use Rattle.channel_client.proofs.CauseLaws.{acted_cause, cause_judged, cause_set, causes_in_order, judged_cause, last_causes, set_causes, set_status_cause}
use Rattle.channel_client.specs.declared.answers.Taken.TheVariants as taken
use Rattle.channel_client.specs.declared.hearing.Hearing.{Hearing}
use Rattle.channel_client.specs.declared.hearing.Hearing.TheVariants as hearing
use Rattle.channel_client.specs.declared.judging.Judgement.{Judgement}
use Rattle.channel_client.specs.declared.judging.Judgement.TheVariants as judgement
use Rattle.channel_client.specs.declared.state.Pending.{Pending}
use Rattle.channel_client.specs.declared.state.Question.{Question}
use Rattle.channel_client.specs.declared.state.Question.TheVariants as question
use Rattle.channel_client.specs.declared.state.Sealing.{Sealing}
use Rattle.channel_client.specs.declared.state.SetStep.TheVariants as set_step
use Rattle.channel_client.specs.declared.state.Standing.{Standing}
use Rattle.channel_client.specs.declared.state.Standing.TheVariants as standing
use Rattle.channel_client.specs.declared.state.Step.{Step}
use Rattle.channel_client.specs.declared.state.Step.TheVariants as step

-- ---- the cause of a judgement

flags_cause : (fit : Bool) (secret client server : List ℕ) → cause_judged (judge_secure_flags fit secret client server) ≡ last_causes false true (not fit)
flags_cause true secret client server = refl
flags_cause false secret client server = refl

credential_cause : (right : Bool) (secret client server : List ℕ) (flags : ℕ) →
    cause_judged (judge_secure_credential right secret client server flags) ≡ last_causes false right (not (has_flag secure_flags flags && has_flag flags needed_secure_flags))
credential_cause true secret client server flags = flags_cause (has_flag secure_flags flags && has_flag flags needed_secure_flags) secret client server
credential_cause false secret client server flags = refl

auth_cause : (granted : Bool) (how : Standing) (secret credential : List ℕ) (flags : ℕ) →
    cause_judged (judge_secure_auth granted how secret credential flags)
    ≡ last_causes (not granted) (is_of_secure_server how secret credential) (not (has_flag secure_flags flags && has_flag flags needed_secure_flags))
auth_cause false how secret credential flags = refl
auth_cause true standing.Nothing secret credential flags = refl
auth_cause true (standing.Half client server) secret credential flags =
    credential_cause (bytes_eq credential (secure_server_credential secret client server)) secret client server flags
auth_cause true (standing.Open o) secret credential flags = refl

-- causes 3 to 6 of a reply that was read
abbrev sealed_reply_causes : Option Reply → Standing → List ℕ → Option DropCause
sealed_reply_causes read how secret =
    cause_if (not (is_some read)) drop_cause.BadReply (last_causes (denies read) (is_next_sealed read how secret) (is_lacking_sealed read))

sealed_judged_cause : (q : Question) (r : Reply) (how : Standing) (secret : List ℕ) →
    cause_judged (judge_sealed q r how secret) ≡ sealed_reply_causes (reply_if_read q (Ok r)) how secret
sealed_judged_cause (question.Challenge client) (reply.Challenge r) how secret = judged_cause (question.Challenge client) (reply.Challenge r) how secret
sealed_judged_cause (question.Challenge client) (reply.Authenticate r) how secret = refl
sealed_judged_cause (question.Challenge client) (reply.Logon r) how secret = refl
sealed_judged_cause (question.Challenge client) (reply.Logoff r) how secret = refl
sealed_judged_cause question.Authenticate (reply.Challenge r) how secret = refl
sealed_judged_cause question.Authenticate (reply.Authenticate r) how secret = auth_cause (r.status == 0) how secret r.credential r.flags
sealed_judged_cause question.Authenticate (reply.Logon r) how secret = refl
sealed_judged_cause question.Authenticate (reply.Logoff r) how secret = refl
sealed_judged_cause question.Logon (reply.Challenge r) how secret = refl
sealed_judged_cause question.Logon (reply.Authenticate r) how secret = refl
sealed_judged_cause question.Logon (reply.Logon r) how secret = judged_cause question.Logon (reply.Logon r) how secret
sealed_judged_cause question.Logon (reply.Logoff r) how secret = refl

-- ---- the cause of what a unit comes to

abbrev sealed_cause_heard : Hearing → Standing → List ℕ → Option DropCause
sealed_cause_heard hearing.Skip how secret = None
sealed_cause_heard (hearing.Next q frames) how secret = None
sealed_cause_heard (hearing.Reply q r) how secret = cause_judged (judge_sealed q r how secret)
sealed_cause_heard (hearing.Drop cause) how secret = Some cause
sealed_cause_heard (hearing.Set what) how secret = cause_set what how

read_cause : (q : Question) (read : Result Reply StubRefused) (how : Standing) (secret : List ℕ) →
    sealed_cause_heard (hear_reply q read) how secret ≡ sealed_reply_causes (reply_if_read q read) how secret
read_cause q (Err why) how secret = refl
read_cause q (Ok r) how secret = sealed_judged_cause q r how secret

set_read_cause : (read : Result SetReply SetRefused) (how : Standing) (secret : List ℕ) →
    sealed_cause_heard (hear_set_reply read) how secret ≡ set_causes (set_reply_if_read read) how
set_read_cause (Err why) how secret = refl
set_read_cause (Ok r) how secret = set_status_cause (r.status == 0) how r.returned

-- the first cause of a body for a step, by what seals the turn
abbrev first_by : (wire : Option Sealing) (how : Standing) (secret : List ℕ) (next : ℕ) (st : Step) (body : Body) → Option DropCause
first_by wire how secret next st body =
    first_cause (
    (refuses_bind body, drop_cause.Bind)
    ∷ (is_fault body, drop_cause.Fault (status_of_fault body))
    ∷ (not (is_due st body), drop_cause.BadReply)
    ∷ (denies_in st body, drop_cause.Denied)
    ∷ (not (is_next_sealed_in st body how secret), drop_cause.NotNext)
    ∷ (is_lacking_sealed (reply_in st body), drop_cause.BadReply)
    ∷ (not (can_seal (room_request_in st body next) wire), drop_cause.BadSeal)
    ∷ [])

-- of a bind_ack, by whether it accepts
abbrev ack_by : (wire : Option Sealing) (how : Standing) (secret : List ℕ) (next : ℕ) (st : Step) (body : Body) (accepting : Bool) → Option DropCause
ack_by wire how secret next st body accepting =
    cause_if (not accepting) drop_cause.Bind
    (cause_if (not (is_due st body)) drop_cause.BadReply
    (cause_if (denies_in st body) drop_cause.Denied
    (cause_if (not (is_next_sealed_in st body how secret)) drop_cause.NotNext
    (cause_if (is_lacking_sealed (reply_in st body)) drop_cause.BadReply
    (cause_if (not (can_seal (room_request_in st body next) wire)) drop_cause.BadSeal None)))))

-- ---- where nothing is sealed yet

closed_ack : (accepting : Bool) (st : Step) (send receive group : ℕ) (results : List (ℕ × ℕ × Syntax)) (next : ℕ) (how : Standing) (secret : List ℕ) →
    sealed_cause_heard (hear_ack accepting st receive next) how secret ≡ ack_by None how secret next st (BindAck send receive group results) accepting
closed_ack false st send receive group results next how secret = refl
closed_ack true (step.Bind c) send receive group results next how secret = refl
closed_ack true (step.Reply q) send receive group results next how secret = refl
closed_ack true (step.Set (set_step.Bind c)) send receive group results next how secret = refl
closed_ack true (step.Set set_step.Reply) send receive group results next how secret = refl

closed_cause : (how : Standing) (secret : List ℕ) (next : ℕ) (body : Body) (st : Step) → sealed_cause_heard (hear_body body st next) how secret ≡ first_by None how secret next st body
closed_cause how secret next (BindNak reason) st = refl
closed_cause how secret next (BindAck send receive group results) st = closed_ack (is_accepting results) st send receive group results next how secret
closed_cause how secret next (Fault hint context status) st = refl
closed_cause how secret next (Response hint context stub) (step.Bind c) = refl
closed_cause how secret next (Response hint context stub) (step.Reply q) = read_cause q (reply_of (opnum_asked q) stub) how secret
closed_cause how secret next (Response hint context stub) (step.Set (set_step.Bind c)) = refl
closed_cause how secret next (Response hint context stub) (step.Set set_step.Reply) = set_read_cause (set_reply_of stub) how secret
closed_cause how secret next (Bind send receive group contexts) (step.Bind c) = refl
closed_cause how secret next (Bind send receive group contexts) (step.Reply q) = refl
closed_cause how secret next (Bind send receive group contexts) (step.Set (set_step.Bind c)) = refl
closed_cause how secret next (Bind send receive group contexts) (step.Set set_step.Reply) = refl
closed_cause how secret next (Request hint context opnum stub) (step.Bind c) = refl
closed_cause how secret next (Request hint context opnum stub) (step.Reply q) = refl
closed_cause how secret next (Request hint context opnum stub) (step.Set (set_step.Bind c)) = refl
closed_cause how secret next (Request hint context opnum stub) (step.Set set_step.Reply) = refl
closed_cause how secret next Auth3 (step.Bind c) = refl
closed_cause how secret next Auth3 (step.Reply q) = refl
closed_cause how secret next Auth3 (step.Set (set_step.Bind c)) = refl
closed_cause how secret next Auth3 (step.Set set_step.Reply) = refl

-- ---- on the open channel

next_cause : (q : Question) (sealed : Option SealedFrames) (how : Standing) (secret : List ℕ) →
    sealed_cause_heard (next_if q (frames_left sealed)) how secret ≡ cause_if (not (is_some sealed)) drop_cause.BadSeal None
next_cause q None how secret = refl
next_cause q (Some sealed) how secret = refl

set_next_cause : (sealed : Option SealedFrames) (how : Standing) (secret : List ℕ) →
    sealed_cause_heard (set_next_if (frames_left sealed)) how secret ≡ cause_if (not (is_some sealed)) drop_cause.BadSeal None
set_next_cause None how secret = refl
set_next_cause (Some sealed) how secret = refl

open_ack : (g : Sealing) (accepting : Bool) (st : Step) (send receive group : ℕ) (results : List (ℕ × ℕ × Syntax)) (next : ℕ) (how : Standing) (secret : List ℕ) →
    sealed_cause_heard (seal_heard (hear_room_ack accepting st receive next) g).0 how secret ≡ ack_by (Some g) how secret next st (BindAck send receive group results) accepting
open_ack g false st send receive group results next how secret = refl
open_ack g true (step.Bind c) send receive group results next how secret =
    next_cause (question_of c) (seal_all g.seal g.confounder (room_frames_of (request_of next 0 (opnum_of_call c) (written_call c)) receive)) how secret
open_ack g true (step.Reply q) send receive group results next how secret = refl
open_ack g true (step.Set (set_step.Bind c)) send receive group results next how secret =
    set_next_cause (seal_all g.seal g.confounder (room_frames_of (request_of next 0 set_opnum (written_set_call c)) receive)) how secret
open_ack g true (step.Set set_step.Reply) send receive group results next how secret = refl

-- what is read of a reply isn't sealed
read_same : (g : Sealing) (q : Question) (read : Result Reply StubRefused) → (seal_heard (hear_reply q read) g).0 ≡ hear_reply q read
read_same g q (Err why) = refl
read_same g q (Ok r) = refl

set_read_same : (g : Sealing) (read : Result SetReply SetRefused) → (seal_heard (hear_set_reply read) g).0 ≡ hear_set_reply read
set_read_same g (Err why) = refl
set_read_same g (Ok r) = refl

open_cause : (g : Sealing) (how : Standing) (secret : List ℕ) (next : ℕ) (body : Body) (st : Step) →
    sealed_cause_heard (seal_heard (hear_room_body body st next) g).0 how secret ≡ first_by (Some g) how secret next st body
open_cause g how secret next (BindNak reason) st = refl
open_cause g how secret next (BindAck send receive group results) st = open_ack g (is_accepting results) st send receive group results next how secret
open_cause g how secret next (Fault hint context status) st = refl
open_cause g how secret next (Response hint context stub) (step.Bind c) = refl
open_cause g how secret next (Response hint context stub) (step.Reply q) =
    ap (λ (h : Hearing). sealed_cause_heard h how secret) (read_same g q (reply_of (opnum_asked q) stub)) ∙ read_cause q (reply_of (opnum_asked q) stub) how secret
open_cause g how secret next (Response hint context stub) (step.Set (set_step.Bind c)) = refl
open_cause g how secret next (Response hint context stub) (step.Set set_step.Reply) =
    ap (λ (h : Hearing). sealed_cause_heard h how secret) (set_read_same g (set_reply_of stub)) ∙ set_read_cause (set_reply_of stub) how secret
open_cause g how secret next (Bind send receive group contexts) (step.Bind c) = refl
open_cause g how secret next (Bind send receive group contexts) (step.Reply q) = refl
open_cause g how secret next (Bind send receive group contexts) (step.Set (set_step.Bind c)) = refl
open_cause g how secret next (Bind send receive group contexts) (step.Set set_step.Reply) = refl
open_cause g how secret next (Request hint context opnum stub) (step.Bind c) = refl
open_cause g how secret next (Request hint context opnum stub) (step.Reply q) = refl
open_cause g how secret next (Request hint context opnum stub) (step.Set (set_step.Bind c)) = refl
open_cause g how secret next (Request hint context opnum stub) (step.Set set_step.Reply) = refl
open_cause g how secret next Auth3 (step.Bind c) = refl
open_cause g how secret next Auth3 (step.Reply q) = refl
open_cause g how secret next Auth3 (step.Set (set_step.Bind c)) = refl
open_cause g how secret next Auth3 (step.Set set_step.Reply) = refl

-- ---- the cause of what is taken

how_cause : (g : Sealing) (how : Standing) (secret : List ℕ) (next : ℕ) (p : Pending) (unit : RpcUnit) → (unit.call == p.number) ≡ true →
    sealed_cause_heard (heard_by how g (Some p) unit next).0 how secret ≡ first_by (wire_of (Some g) how) how secret next p.step unit.body
how_cause g standing.Nothing secret next p unit is =
    ap (λ (same : Bool). sealed_cause_heard (hear_by same p unit next) standing.Nothing secret) is ∙ closed_cause standing.Nothing secret next unit.body p.step
how_cause g (standing.Half client server) secret next p unit is =
    ap (λ (same : Bool). sealed_cause_heard (hear_by same p unit next) (standing.Half client server) secret) is ∙ closed_cause (standing.Half client server) secret next unit.body p.step
how_cause g (standing.Open o) secret next p unit is =
    ap (λ (same : Bool). sealed_cause_heard (seal_heard (hear_room_by same p unit next) g).0 (standing.Open o) secret) is ∙ open_cause g (standing.Open o) secret next unit.body p.step

sealed_settled_cause : (j : Judgement) (s : Requester) → cause_in (settle_sealed j s).taken ≡ cause_judged j
sealed_settled_cause (judgement.Half client server) s = refl
sealed_settled_cause (judgement.Opened o) s = refl
sealed_settled_cause (judgement.Answer o v) s = refl
sealed_settled_cause (judgement.Drop cause) s = refl

sealed_acted_cause : (heard : Hearing) (s : Requester) → cause_in (act_sealed heard s).taken ≡ sealed_cause_heard heard s.standing s.caller.secret
sealed_acted_cause hearing.Skip s = acted_cause hearing.Skip s
sealed_acted_cause (hearing.Next q frames) s = acted_cause (hearing.Next q frames) s
sealed_acted_cause (hearing.Reply q r) s = sealed_settled_cause (judge_sealed q r s.standing s.caller.secret) s
sealed_acted_cause (hearing.Drop cause) s = acted_cause (hearing.Drop cause) s
sealed_acted_cause (hearing.Set what) s = acted_cause (hearing.Set what) s

due_cause : (g : Sealing) (s : Requester) (p : Pending) (unit : RpcUnit) (turn : Option Pending) → turn ≡ Some p → (unit.call == p.number) ≡ true →
    cause_in (act_heard (heard_by s.standing g turn unit s.next_call) s).taken ≡ sealed_cause_of g s p.step unit.body
due_cause g s p unit turn out is =
    sealed_acted_cause (heard_by s.standing g turn unit s.next_call).0 (record s { sealing = Some (heard_by s.standing g turn unit s.next_call).1 })
    ∙ ap (λ (t : Option Pending). sealed_cause_heard (heard_by s.standing g t unit s.next_call).0 s.standing s.caller.secret) out
    ∙ how_cause g s.standing s.caller.secret s.next_call p unit is

taken_cause : (g : Sealing) (s : Requester) (p : Pending) (unit : RpcUnit) → s.sealing ≡ Some g → s.turn ≡ Some p → (unit.call == p.number) ≡ true →
    cause_in (take_with s.sealing s unit).taken ≡ sealed_cause_of g s p.step unit.body
taken_cause g s p unit seals out is =
    ap (λ (kept : Option Sealing). cause_in (take_with kept s unit).taken) seals ∙ due_cause g s p unit s.turn out is

-- ---- a unit of another number

skipped_by : (g : Sealing) (how : Standing) (turn : Option Pending) (unit : RpcUnit) (next : ℕ) → is_numbered turn unit.call ≡ false → heard_by how g turn unit next ≡ (hearing.Skip, g)
skipped_by g standing.Nothing None unit next is = refl
skipped_by g (standing.Half client server) None unit next is = refl
skipped_by g (standing.Open o) None unit next is = refl
skipped_by g standing.Nothing (Some p) unit next is = ap (λ (same : Bool). (hear_by same p unit next, g)) is
skipped_by g (standing.Half client server) (Some p) unit next is = ap (λ (same : Bool). (hear_by same p unit next, g)) is
skipped_by g (standing.Open o) (Some p) unit next is = ap (λ (same : Bool). seal_heard (hear_room_by same p unit next) g) is

skipped : (kept : Option Sealing) (s : Requester) (unit : RpcUnit) → s.sealing ≡ kept → is_numbered s.turn unit.call ≡ false →
    take_with kept s unit ≡ record { taken = taken.Skip tt; state = s }
skipped None s unit seals is = causes_in_order.other s unit is
skipped (Some g) s unit seals is =
    ap (λ (heard : Hearing × Sealing). act_heard heard s) (skipped_by g s.standing s.turn unit s.next_call is)
    ∙ ap (λ (kept : Option Sealing). record { taken = taken.Skip tt; state = record s { sealing = kept } }) (sym seals)

pub sealed_causes_in_order : SealedCausesInOrder
sealed_causes_in_order = record {
  due = λ g s p unit seals out is. taken_cause g s p unit seals out is;
  other = λ s unit is. skipped s.sealing s unit refl is;
}
