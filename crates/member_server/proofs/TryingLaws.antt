-- A member opens its channel under the secret that is tried, and its call sets the next one.
-- It serves `what_is_tried_opens`.
use Rattle.std.proofs.Common.{◌≡◌, ℕ, Bool, true, false, List, [], ◌∷◌, ◌++◌, Option, Some, None, Result, Ok, Err, refl, sym, ap, subst, ◌∙◌, nat_le, length}
use Rattle.std.specs.Prelude.{◌==◌, ◌&&◌, bytes_eq, not}
use Rattle.outside.specs.declared.action.Action.TheVariants as action
use Rattle.outside.specs.declared.action.CloseCause.TheVariants as close
use Rattle.outside.specs.declared.action.DropCause.{DropCause}
use Rattle.outside.specs.declared.action.DropCause.TheVariants as drop_cause
use Rattle.outside.specs.declared.event.Event.{Event}
use Rattle.wire_base.specs.declared.authenticator.Authenticator.{Authenticator}
use Rattle.rpc_units.specs.declared.unit.Unit.{Unit as RpcUnit}
use Rattle.rpc_units.specs.declared.unit.Body.{Body}
use Rattle.rpc_units.specs.declared.unit.Body.TheVariants.{Bind, BindAck, BindNak, Auth3, Request, Response, Fault}
use Rattle.rpc_units.specs.Stream.{cut_stream}
use Rattle.authenticators.specs.SecureChannels.{SecureChannelState, after_return, is_awaited}
use Rattle.ntlm_flags.specs.Flags.{has_flag}
use Rattle.channel_keys.specs.Flags.{rc4_flag}
use Rattle.logon_stubs.specs.Calls.{reply_of}
use Rattle.logon_stubs.specs.Status.{access_denied}
use Rattle.logon_stubs.specs.declared.info.NetworkInfo.{NetworkInfo}
use Rattle.logon_stubs.specs.declared.info.SamInfo.{SamInfo}
use Rattle.logon_stubs.specs.declared.calls.Call.{Call}
use Rattle.logon_stubs.specs.declared.calls.Reply.{Reply}
use Rattle.logon_stubs.specs.declared.calls.Reply.TheVariants as reply
use Rattle.logon_stubs.specs.declared.refused.StubRefused.{StubRefused}
use Rattle.secret_change.specs.Calls.{set_reply_of}
use Rattle.secret_change.specs.declared.calls.SetReply.{SetReply}
use Rattle.secret_change.specs.declared.refused.SetRefused.{SetRefused}
use Rattle.secret_change.specs.declared.refused.Busy.{Busy}
use Rattle.secret_change.specs.declared.secrets.Next.{Next}
use Rattle.secret_change.specs.Secrets.{begin_by, untried_next}
use Rattle.channel_client.specs.declared.caller.Caller.{Caller}
use Rattle.channel_client.specs.declared.answers.Taken.{Taken}
use Rattle.channel_client.specs.declared.answers.Taken.TheVariants as taken
use Rattle.channel_client.specs.declared.hearing.Hearing.{Hearing}
use Rattle.channel_client.specs.declared.hearing.Hearing.TheVariants as hearing
use Rattle.channel_client.specs.declared.hearing.SetHearing.{SetHearing}
use Rattle.channel_client.specs.declared.hearing.SetHearing.TheVariants as set_hearing
use Rattle.channel_client.specs.declared.judging.Judgement.{Judgement}
use Rattle.channel_client.specs.declared.judging.Judgement.TheVariants as judgement
use Rattle.channel_client.specs.declared.state.Pending.{Pending}
use Rattle.channel_client.specs.declared.state.Question.{Question}
use Rattle.channel_client.specs.declared.state.Question.TheVariants as question
use Rattle.channel_client.specs.declared.state.SetStep.{SetStep}
use Rattle.channel_client.specs.declared.state.SetStep.TheVariants as set_step
use Rattle.channel_client.specs.declared.state.Standing.{Standing}
use Rattle.channel_client.specs.declared.state.Standing.TheVariants as standing
use Rattle.channel_client.specs.declared.state.Step.{Step}
use Rattle.channel_client.specs.declared.state.Step.TheVariants as step
use Rattle.channel_client.specs.declared.state.Waiting.{Waiting}
use Rattle.channel_client.specs.Effects.{IsCoherent, MatchesQuestion, MatchesStep, step_in}
use Rattle.channel_client.specs.Machine.{SetOutcome, act, ask_by, ask_of, begin_open, begin_with, can_start, hear, hear_ack, hear_body, hear_by, hear_reply, hear_set_reply, hear_stub, is_accepting, judge, judge_auth, judge_awaited, judge_credential, judge_flags, judge_level, judge_logon, judge_return, judge_set, judge_status, level_asked, lose_of, offered_flags, opnum_asked, server_credential, settle, settle_set, start_by, start_of, take_of, waiting_limit}
use Rattle.channel_client.specs.State.{Requester}
use Rattle.channel_client.proofs.EffectLaws.{steps_have_effects}
use Rattle.channel_turns.specs.declared.state.Dialling.{Dialling}
use Rattle.channel_turns.specs.declared.state.TurnEnd.{TurnEnd}
use Rattle.channel_turns.specs.declared.state.TurnEnd.TheVariants as turn_end
use Rattle.channel_turns.proofs.KeepLaws.{end_of}
use Rattle.member_server.specs.declared.outcomes.Ending.{Ending}
use Rattle.member_server.specs.declared.state.Logon.{Logon}
use Rattle.member_server.specs.declared.state.Logons.{Logons}
use Rattle.member_server.specs.declared.state.Running.{Running}
use Rattle.member_server.specs.declared.state.Work.{Work}
use Rattle.member_server.specs.Machine.{caller_of, change_begun, change_by, change_of, change_on, event_part, work_of}
use Rattle.member_server.specs.Messages.{info_of}
use Rattle.member_server.specs.Outcomes.{end_logon, tell_at, without_link}
use Rattle.member_server.specs.Secrets.{SecretsState, give_secrets, is_denied, next_of, secrets_after, secrets_dropped, tried_of}
use Rattle.member_server.specs.State.{State}
use Rattle.member_server.specs.Trying.{HasNext, IsOpenedBy, IsSetBy, IsSetIn, SetsNext, TriesItsSecrets, TriesSecrets, TriesUnlessStopped}
use Rattle.member_server.specs.Turns.{AtTurn, end_turn, keep_ended, lose_turn, timestamp_of, with_requester}
use Rattle.member_server.proofs.EventSteps.{WorkFine, end_fine}
use Rattle.member_server.proofs.LogonFrame.{KeepsLogons, logons_keep}
use Rattle.member_server.proofs.StepFrame.{KeepsEvent, KeepsNext, KeepsTurn, PartHolds, StepHolds, WorkFact, dialled_keeps, dialling_at, each_taken, given_channel, part_keeps, step_keeps, taken_at, turn_ended}
use Rattle.member_server.proofs.StepRules.{Ends, Holds, LinkRules}

-- ---- what a unit is heard as, by the turn that is out

abbrev IsSetStep : Step → Type 0
IsSetStep (step.Set st) = Unit {0}
IsSetStep _ = ⊥

-- a reply is judged by the question of the turn, and of a secret that is set hears a turn that sets one
abbrev FitsStep : Hearing → Step → Type 0
FitsStep hearing.Skip st = Unit {0}
FitsStep (hearing.Next q frames) st = Unit {0}
FitsStep (hearing.Reply q r) st = st ≡ step.Reply q
FitsStep (hearing.Drop cause) st = Unit {0}
FitsStep (hearing.Set what) st = IsSetStep st

abbrev Fits : Hearing → Option Pending → Type 0
Fits h None = h ≡ hearing.Skip
Fits h (Some p) = FitsStep h p.step

ack_fits : (accepts : Bool) (st : Step) (receive next : ℕ) → FitsStep (hear_ack accepts st receive next) st
ack_fits false st receive next = tt
ack_fits true (step.Bind c) receive next = tt
ack_fits true (step.Reply q) receive next = tt
ack_fits true (step.Set (set_step.Bind c)) receive next = tt
ack_fits true (step.Set set_step.Reply) receive next = tt

reply_fits : (q : Question) (r : Result Reply StubRefused) → FitsStep (hear_reply q r) (step.Reply q)
reply_fits q (Err why) = tt
reply_fits q (Ok r) = refl

set_fits : (r : Result SetReply SetRefused) → FitsStep (hear_set_reply r) (step.Set set_step.Reply)
set_fits (Err why) = tt
set_fits (Ok r) = tt

stub_fits : (st : Step) (stub : List ℕ) → FitsStep (hear_stub st stub) st
stub_fits (step.Bind c) stub = tt
stub_fits (step.Reply q) stub = reply_fits q (reply_of (opnum_asked q) stub)
stub_fits (step.Set (set_step.Bind c)) stub = tt
stub_fits (step.Set set_step.Reply) stub = set_fits (set_reply_of stub)

body_fits : (body : Body) (st : Step) (next : ℕ) → FitsStep (hear_body body st next) st
body_fits (BindNak reason) st next = tt
body_fits (BindAck send receive group results) st next = ack_fits (is_accepting results) st receive next
body_fits (Fault hint context status) st next = tt
body_fits (Response hint context stub) st next = stub_fits st stub
body_fits (Bind send receive group contexts) st next = tt
body_fits (Request hint context opnum stub) st next = tt
body_fits Auth3 st next = tt

by_fits : (awaited : Bool) (p : Pending) (unit : RpcUnit) (next : ℕ) → FitsStep (hear_by awaited p unit next) p.step
by_fits false p unit next = tt
by_fits true p unit next = body_fits unit.body p.step next

hear_fits : (turn : Option Pending) (unit : RpcUnit) (next : ℕ) → Fits (hear turn unit next) turn
hear_fits None unit next = refl
hear_fits (Some p) unit next = by_fits (unit.call == p.number) p unit next

-- ---- half a channel comes of the server's challenge alone

abbrev IsHalf : Judgement → Type 0
IsHalf (judgement.Half client server) = Unit {0}
IsHalf _ = ⊥

flags_half : (fit : Bool) (secret client server : List ℕ) → IsHalf (judge_flags fit secret client server) → ⊥
flags_half false secret client server half = half
flags_half true secret client server half = half

credential_half : (servers : Bool) (secret client server : List ℕ) (flags : ℕ) → IsHalf (judge_credential servers secret client server flags) → ⊥
credential_half false secret client server flags half = half
credential_half true secret client server flags half =
    flags_half (has_flag offered_flags flags && has_flag flags rc4_flag) secret client server half

auth_half : (ok : Bool) (how : Standing) (secret credential : List ℕ) (flags : ℕ) → IsHalf (judge_auth ok how secret credential flags) → ⊥
auth_half false how secret credential flags half = half
auth_half true standing.Nothing secret credential flags half = half
auth_half true (standing.Half client server) secret credential flags half =
    credential_half (bytes_eq credential (server_credential secret client server)) secret client server flags half
auth_half true (standing.Open o) secret credential flags half = half

level_half : (asked : Bool) (info : Option SamInfo) (o : SecureChannelState) → IsHalf (judge_level asked info o) → ⊥
level_half false info o half = half
level_half true None o half = half
level_half true (Some info) o half = half

status_half : (ok : Bool) (status level : ℕ) (info : Option SamInfo) (o : SecureChannelState) → IsHalf (judge_status ok status level info o) → ⊥
status_half false status level info o half = half
status_half true status level info o half = level_half (level == level_asked) info o half

awaited_half : (awaited : Bool) (status level : ℕ) (info : Option SamInfo) (o : SecureChannelState) → IsHalf (judge_awaited awaited status level info o) → ⊥
awaited_half false status level info o half = half
awaited_half true status level info o half = status_half (status == 0) status level info (after_return true o) half

return_half : (returned : Option Authenticator) (status level : ℕ) (info : Option SamInfo) (o : SecureChannelState) → IsHalf (judge_return returned status level info o) → ⊥
return_half None status level info o half = half
return_half (Some returned) status level info o half = awaited_half (is_awaited o.awaited returned.credential) status level info o half

logon_half : (denied : Bool) (how : Standing) (returned : Option Authenticator) (status level : ℕ) (info : Option SamInfo) →
    IsHalf (judge_logon denied how returned status level info) → ⊥
logon_half true how returned status level info half = half
logon_half false standing.Nothing returned status level info half = half
logon_half false (standing.Half client server) returned status level info half = half
logon_half false (standing.Open o) returned status level info half = return_half returned status level info o half

abbrev IsChallenge : Question → Type 0
IsChallenge (question.Challenge client) = Unit {0}
IsChallenge _ = ⊥

judged_half : (q : Question) (r : Reply) (how : Standing) (secret : List ℕ) → IsHalf (judge q r how secret) → IsChallenge q
judged_half (question.Challenge client) r how secret half = tt
judged_half question.Authenticate (reply.Authenticate r) how secret half = auth_half (r.status == 0) how secret r.credential r.flags half
judged_half question.Authenticate (reply.Challenge r) how secret half = half
judged_half question.Authenticate (reply.Logon r) how secret half = half
judged_half question.Authenticate (reply.Logoff r) how secret half = half
judged_half question.Logon (reply.Logon r) how secret half = logon_half (r.status == access_denied) how r.returned r.status r.level r.info half
judged_half question.Logon (reply.Challenge r) how secret half = half
judged_half question.Logon (reply.Authenticate r) how secret half = half
judged_half question.Logon (reply.Logoff r) how secret half = half

-- ---- a channel whose turn goes on

-- where a turn is out, a later step of it changes nothing of the opening
opens_on : (how : Standing) (p q : Pending) (secret tried : List ℕ) → IsOpenedBy how (Some p) secret tried → IsOpenedBy how (Some q) secret tried
opens_on standing.Nothing p q secret tried opens = opens
opens_on (standing.Half client server) p q secret tried opens = opens
opens_on (standing.Open o) p q secret tried opens = tt

has_next : (st : SetStep) (how : Standing) (caller : Caller) (next : Option (List ℕ)) → IsSetBy st how caller next → HasNext next
has_next (set_step.Bind c) standing.Nothing caller next sets = sets
has_next (set_step.Bind c) (standing.Half client server) caller next sets = sets
has_next (set_step.Bind c) (standing.Open o) caller next sets = (sets.secret, sets.is)
has_next set_step.Reply how caller next sets = sets

next_in : (st : Step) (how : Standing) (caller : Caller) (next : Option (List ℕ)) → IsSetStep st → IsSetIn (Some st) how caller next → HasNext next
next_in (step.Bind c) how caller next is sets = absurd is
next_in (step.Reply q) how caller next is sets = absurd is
next_in (step.Set st) how caller next is sets = has_next st how caller next sets

-- the secret that is tried, where the reply to the first request is awaited
asks_tried : (q : Question) (how : Standing) (p : Pending) (secret tried : List ℕ) → IsChallenge q → MatchesQuestion how q → IsOpenedBy how (Some p) secret tried → secret ≡ tried
asks_tried (question.Challenge client) standing.Nothing p secret tried is matches opens = opens
asks_tried (question.Challenge client) (standing.Half one two) p secret tried is matches opens = absurd matches
asks_tried (question.Challenge client) (standing.Open o) p secret tried is matches opens = absurd matches
asks_tried question.Authenticate how p secret tried is matches opens = absurd is
asks_tried question.Logon how p secret tried is matches opens = absurd is

-- ---- a unit that is taken

-- the secrets behind it, by how the turn ends, if it does
abbrev secrets_by : Option TurnEnd → SecretsState → SecretsState
secrets_by None s = s
secrets_by (Some how) s = secrets_after how s

abbrev Behind : (c : Requester) (taken : Taken) (s : SecretsState) → Type 0
Behind c taken s =
    IsOpenedBy c.standing c.turn c.caller.secret (tried_of (secrets_by (end_of taken) s)) × IsSetIn (step_in c.turn) c.standing c.caller (next_of (secrets_by (end_of taken) s))

settled : (j : Judgement) (c : Requester) (s : SecretsState) → (IsHalf j → c.caller.secret ≡ tried_of s) → Behind (settle j c).state (settle j c).taken s
settled (judgement.Half client server) c s half = (half tt, tt)
settled (judgement.Opened o) c s half = (tt, tt)
settled (judgement.Answer o v) c s half = (tt, tt)
settled (judgement.Drop cause) c s half = (tt, tt)

settled_set : (outcome : SetOutcome) (c : Requester) (s : SecretsState) → Behind (settle_set outcome c).state (settle_set outcome c).taken s
settled_set (Ok o) c s = (tt, tt)
settled_set (Err cause) c s = (tt, tt)

acted : (h : Hearing) (turn : Option Pending) (c : Requester) (s : SecretsState) → c.turn ≡ turn → Fits h turn → MatchesStep c.standing (step_in turn) →
    IsOpenedBy c.standing turn c.caller.secret (tried_of s) → IsSetIn (step_in turn) c.standing c.caller (next_of s) → Behind (act h c).state (act h c).taken s
acted h None c s is fits matches opens sets =
    subst (λ (x : Hearing). Behind (act x c).state (act x c).taken s) (sym fits)
    (subst (λ (turn : Option Pending). IsOpenedBy c.standing turn c.caller.secret (tried_of s) × IsSetIn (step_in turn) c.standing c.caller (next_of s)) (sym is) (opens, sets))
acted hearing.Skip (Some p) c s is fits matches opens sets =
    subst (λ (turn : Option Pending). IsOpenedBy c.standing turn c.caller.secret (tried_of s) × IsSetIn (step_in turn) c.standing c.caller (next_of s)) (sym is) (opens, sets)
acted (hearing.Next q frames) (Some p) c s is fits matches opens sets = (opens_on c.standing p _ c.caller.secret (tried_of s) opens, tt)
acted (hearing.Reply q r) (Some p) c s is fits matches opens sets =
    settled (judge q r c.standing c.caller.secret) c s
    (λ half. asks_tried q c.standing p c.caller.secret (tried_of s) (judged_half q r c.standing c.caller.secret half)
    (subst (λ (st : Step). MatchesStep c.standing (Some st)) fits matches) opens)
acted (hearing.Drop cause) (Some p) c s is fits matches opens sets = (tt, tt)
acted (hearing.Set (set_hearing.Next frames)) (Some p) c s is fits matches opens sets =
    (opens_on c.standing p _ c.caller.secret (tried_of s) opens, next_in p.step c.standing c.caller (next_of s) fits sets)
acted (hearing.Set (set_hearing.Reply r)) (Some p) c s is fits matches opens sets = settled_set (judge_set r c.standing) c s

taken_tries : (c : Requester) (unit : RpcUnit) (s : SecretsState) → TriesSecrets c s → TriesSecrets (take_of c unit).state (secrets_by (end_of (take_of c unit).taken) s)
taken_tries c unit s tries =
    let behind : Behind (take_of c unit).state (take_of c unit).taken s =
    acted (hear c.turn unit c.next_call) c.turn c s refl (hear_fits c.turn unit c.next_call) tries.coherent.matches tries.opens tries.sets in
    record { coherent = (steps_have_effects.take 0 c unit tries.coherent).1; opens = behind.0; sets = behind.1 }

-- by how it ends
ended_tries : (c : Requester) (unit : RpcUnit) (s : SecretsState) (how : Option TurnEnd) → end_of (take_of c unit).taken ≡ how → TriesSecrets c s →
    TriesSecrets (take_of c unit).state (secrets_by how s)
ended_tries c unit s how is tries =
    subst (λ (end : Option TurnEnd). TriesSecrets (take_of c unit).state (secrets_by end s)) is (taken_tries c unit s tries)

-- a turn that is lost leaves no channel
lost_tries : (c : Requester) (s later : SecretsState) → TriesSecrets c s → TriesSecrets (lose_of c).state later
lost_tries c s later tries = record { coherent = (steps_have_effects.lose 0 c tries.coherent).1; opens = tt; sets = tt }

-- ---- a logon that is asked

asked_by : (full : Bool) (c : Requester) (info : NetworkInfo) (s : SecretsState) → IsCoherent (ask_by full c info).state → TriesSecrets c s → TriesSecrets (ask_by full c info).state s
asked_by true c info s coherent tries = tries
asked_by false c info s coherent tries = record { coherent = coherent; opens = tries.opens; sets = tries.sets }

asked_tries : (c : Requester) (info : NetworkInfo) (s : SecretsState) → TriesSecrets c s → TriesSecrets (ask_of c info).state s
asked_tries c info s tries = asked_by (nat_le waiting_limit (length c.waiting)) c info s (steps_have_effects.ask 0 c info tries.coherent).1 tries

-- ---- the next turn

-- a channel with its secrets, whose turn begins
abbrev Begun : Standing → Requester → SecretsState → NetworkInfo → ℕ → List ℕ → Type 0
Begun how c s info timestamp challenge =
    let begun = begin_with how c.next c.caller info timestamp challenge in
    (p : Pending) → p.step ≡ begun.step → IsOpenedBy begun.standing (Some p) c.caller.secret (tried_of s) × IsSetIn (Some p.step) begun.standing c.caller (next_of s)

open_begun : (next : Option (List ℕ)) (o : SecureChannelState) (caller : Caller) (info : NetworkInfo) (timestamp : ℕ) (given : Option (List ℕ)) → given ≡ next →
    let begun = begin_open next o caller info timestamp in IsSetIn (Some begun.step) begun.standing caller given
open_begun None o caller info timestamp given is = tt
open_begun (Some secret) o caller info timestamp given is = record { secret = secret; is = is; hidden = refl; account = refl; channel = refl; computer = refl }

opened_none : (next : Option (List ℕ)) (o : SecureChannelState) (caller : Caller) (info : NetworkInfo) (timestamp : ℕ) (p : Pending) (secret tried : List ℕ) →
    IsOpenedBy (begin_open next o caller info timestamp).standing (Some p) secret tried
opened_none None o caller info timestamp p secret tried = tt
opened_none (Some next) o caller info timestamp p secret tried = tt

-- by how far the channel is
begun_by : (how : Standing) (c : Requester) (s : SecretsState) (info : NetworkInfo) (timestamp : ℕ) (challenge : List ℕ) (p : Pending) → c.standing ≡ how → c.turn ≡ None →
    IsOpenedBy how None c.caller.secret (tried_of s) →
    let given : Requester = give_secrets true s (record c { standing = how }) in
    let begun = begin_with how given.next given.caller info timestamp challenge in
    p.step ≡ begun.step → IsOpenedBy begun.standing (Some p) given.caller.secret (tried_of s) × IsSetIn (Some p.step) begun.standing given.caller (next_of s)
begun_by standing.Nothing c s info timestamp challenge p stands none opens is =
    let given : Requester = give_secrets true s (record c { standing = standing.Nothing }) in
    (refl, subst (λ (st : Step). IsSetIn (Some st) standing.Nothing given.caller (next_of s)) (sym is) tt)
begun_by (standing.Half client server) c s info timestamp challenge p stands none opens is =
    let given : Requester = give_secrets true s (record c { standing = standing.Half client server }) in
    (opens, subst (λ (st : Step). IsSetIn (Some st) (standing.Half client server) given.caller (next_of s)) (sym is) tt)
begun_by (standing.Open o) c s info timestamp challenge p stands none opens is =
    let given : Requester = give_secrets true s (record c { standing = standing.Open o }) in (
      opened_none (next_of s) o given.caller info timestamp p given.caller.secret (tried_of s),
      subst (λ (st : Step). IsSetIn (Some st) (begin_open (next_of s) o given.caller info timestamp).standing given.caller (next_of s)) (sym is)
          (open_begun (next_of s) o given.caller info timestamp (next_of s) refl),
    )

-- where one can start
start_tries : (turn : Option Pending) (waiting : List Waiting) (how : Standing) (c : Requester) (s : SecretsState) (timestamp : ℕ) (challenge : List ℕ) → c.turn ≡ turn → c.standing ≡ how →
    can_start turn waiting ≡ true → IsOpenedBy how turn c.caller.secret (tried_of s) →
    let given : Requester = give_secrets true s (record c { standing = how }) in
    let after : Requester = (start_by turn waiting given timestamp challenge).state in
    IsOpenedBy after.standing after.turn after.caller.secret (tried_of s) × IsSetIn (step_in after.turn) after.standing after.caller (next_of s)
start_tries (Some p) waiting how c s timestamp challenge is stands can opens = absurd (let never = can in cc)
start_tries None [] how c s timestamp challenge is stands can opens = absurd (let never = can in cc)
start_tries None (logon ∷ logons) how c s timestamp challenge is stands can opens =
    begun_by how c s logon.info timestamp challenge
    (record { number = c.next_call; place = logon.place; step = (begin_with how (next_of s) (give_secrets true s (record c { standing = how })).caller logon.info timestamp challenge).step }) stands is opens refl

started_tries : (w : Work) (timestamp : ℕ) (challenge : List ℕ) → can_start w.logons.channel.turn w.logons.channel.waiting ≡ true → TriesSecrets w.logons.channel w.logons.plan.secrets →
    TriesSecrets (start_of (given_channel w) timestamp challenge).state w.logons.plan.secrets
started_tries w timestamp challenge can tries =
    let c : Requester = w.logons.channel in
    let s : SecretsState = w.logons.plan.secrets in
    let coherent : IsCoherent (given_channel w) = record { matches = tries.coherent.matches; first = tries.coherent.first; places = tries.coherent.places; few = tries.coherent.few } in
    let after = start_tries c.turn c.waiting c.standing c s timestamp challenge refl refl can tries.opens in
    record { coherent = (steps_have_effects.start 0 (given_channel w) timestamp challenge coherent).1; opens = after.0; sets = after.1 }

-- ---- the rules

abbrev Tries : Holds
Tries l a = TriesSecrets l.channel l.plan.secrets

link_tries : LinkRules Tries
link_tries = record {
  tells = λ l a what plain tries. tries;
  waits = λ l a info place logon answers tries. asked_tries l.channel info l.plan.secrets tries;
  full = λ l a info answers tries. asked_tries l.channel info l.plan.secrets tries;
}

abbrev OfWork : Work → Type 0
OfWork w = TriesSecrets w.logons.channel w.logons.plan.secrets

logon_ends : (place : ℕ) (ends : Ending) (w : Work) → OfWork w → OfWork (end_logon place ends w)
logon_ends place ends w tries =
    (end_fine ⊥ Tries link_tries place ends w (record { silent = tries; told = λ logon kept. tries }) (λ never. absurd never)).good

turn_ends : (how : TurnEnd) (w : Work) → OfWork w → OfWork (end_turn how w)
turn_ends how w tries = turn_ended how w OfWork (λ none. tries) (λ place ends is. logon_ends place ends w tries)

turn_tries : KeepsTurn (λ units at. OfWork at.work) OfWork
turn_tries = record {
  skips = λ right unit units at is tries.
      ended_tries at.work.logons.channel unit at.work.logons.plan.secrets None (ap end_of is) tries;
  sends = λ right frames unit units at is tries.
      ended_tries at.work.logons.channel unit at.work.logons.plan.secrets None (ap end_of is) tries;
  ends = λ how unit units at is tries.
      turn_ends how (tell_at (keep_ended how (taken_at at unit).work) (action.Close at.link close.CallDone))
      (ended_tries at.work.logons.channel unit at.work.logons.plan.secrets (Some how) is tries);
  breaks = λ cause at tries.
      turn_ends (turn_end.Dropped (lose_of at.work.logons.channel).place drop_cause.BadReply)
      (tell_at (with_requester at.work (lose_of at.work.logons.channel).state) (action.Close at.link cause)) (lost_tries at.work.logons.channel at.work.logons.plan.secrets at.work.logons.plan.secrets tries);
}

logons_tried : KeepsLogons (λ l. TriesSecrets l.channel l.plan.secrets)
logons_tried = record {
  asks = λ l place logon answers tries. asked_tries l.channel (info_of logon.message logon.agreed logon.challenge) l.plan.secrets tries;
  full = λ l info answers tries. asked_tries l.channel info l.plan.secrets tries;
}

abbrev Fact : WorkFact
Fact how w left = OfWork w

lose_tries : (cause : DropCause) (w : Work) → OfWork w → OfWork (lose_turn cause w)
lose_tries cause w tries =
    turn_ends (turn_end.Dropped (lose_of w.logons.channel).place cause)
    (keep_ended (turn_end.Dropped (lose_of w.logons.channel).place cause) (with_requester w (lose_of w.logons.channel).state)) (lost_tries w.logons.channel w.logons.plan.secrets (secrets_dropped (is_denied cause) w.logons.plan.secrets) tries)

event_tries : (what : Event) → KeepsEvent what Fact Fact
event_tries what = record {
  still = λ how w left tries. tries;
  closes = λ link how w left tries. tries;
  loses = λ cause how w left lost none tries. lose_tries cause w tries;
  full = λ link how w left is tries. tries;
  opens = λ link how w left is tries. tries;
  answers = λ link turn frames w left is tries. tries;
  link = λ number piece link how w left is found tries.
      logons_keep (λ dial l. TriesSecrets l.channel l.plan.secrets) (cut_stream (link.rest ++ piece)) number link.talk how (without_link number w) left logons_tried tries;
  turn = λ number piece said w left is tries.
      dialled_keeps (λ units at. OfWork at.work) OfWork Fact (each_taken (λ units at. OfWork at.work) OfWork turn_tries) (cut_stream (said.rest ++ piece)) number said.talk w left
      (λ rest later at holds. holds) (λ later holds. holds) tries;
}

next_tries : (now : ℕ) → KeepsNext now Fact Fact
next_tries now = record {
  still = λ how w left can tries. tries;
  starts = λ turn frames challenge how w before after can drawn answer tries. started_tries w (timestamp_of now) challenge can tries;
}

-- ---- a change that begins

begun_step : (st : Option Step) (how : Standing) (caller : Caller) (next later : Option (List ℕ)) → next ≡ None → IsSetIn st how caller next → IsSetIn st how caller later
begun_step None how caller next later none sets = tt
begun_step (Some (step.Bind c)) how caller next later none sets = tt
begun_step (Some (step.Reply q)) how caller next later none sets = tt
begun_step (Some (step.Set st)) how caller next later none sets =
    let has : HasNext next = has_next st how caller next sets in
    absurd (let never : None ≡ Some has.0 = sym none ∙ has.1 in cc)

-- where none was next
pub begun_so : (c : Requester) (current : List ℕ) (next : Option Next) (new : List ℕ) → next ≡ None → TriesSecrets c (record { current = current; next = next }) →
    TriesSecrets c (record { current = current; next = Some (untried_next new) })
begun_so c current None new none tries = record {
  coherent = tries.coherent;
  opens = tries.opens;
  sets = begun_step (step_in c.turn) c.standing c.caller None (Some new) refl tries.sets;
}
begun_so c current (Some n) new none tries = absurd (let never = none in cc)

begun_tries : (next : Option Next) (current new : List ℕ) (running : Running) (s : State) → running.logons.plan.secrets ≡ record { current = current; next = next } → s.running ≡ Some running →
    TriesSecrets running.logons.channel (record { current = current; next = next }) →
    TriesUnlessStopped (change_begun (begin_by next (record { current = current; next = next }) new).answer (begin_by next (record { current = current; next = next }) new).secrets running s).state.running
begun_tries None current new running s is runs tries = begun_so running.logons.channel current None new refl tries
begun_tries (Some n) current new running s is runs tries =
    subst (λ (r : Option Running). TriesUnlessStopped r) (sym runs) (subst (λ (secrets : SecretsState). TriesSecrets running.logons.channel secrets) (sym is) tries)

changed_tries : (r : Option Running) (s : State) (new : List ℕ) → s.running ≡ r → TriesUnlessStopped r → TriesUnlessStopped (change_on r s new).state.running
changed_tries None s new is tries = subst (λ (r : Option Running). TriesUnlessStopped r) (sym is) tt
changed_tries (Some running) s new is tries =
    begun_tries running.logons.plan.secrets.next running.logons.plan.secrets.current new running s refl is tries

-- ---- a member tries its secrets

pub tries_its_secrets : TriesItsSecrets
tries_its_secrets = record {
  fresh = λ plan. record { coherent = steps_have_effects.fresh (caller_of plan); opens = tt; sets = tt };
  step = λ s what now left tries.
      step_keeps TriesUnlessStopped what now left s tt tries
      (λ running runs.
      part_keeps Fact Fact (StepHolds TriesUnlessStopped what now left) running what now left (event_tries what) (next_tries now)
      (subst (λ (r : Option Running). TriesUnlessStopped r) runs tries));
  change = λ s new tries. changed_tries s.running s new refl tries;
}
