-- What a piece on a station's link comes to, by the whole units that are joined there: the answer to the bind, the
-- reply to the call, and the first rule of that call that holds of the reply (MS-NRPC 3.1.4.1 to 3.1.4.5, 3.5.4.4,
-- 3.5.4.5; C706 12.6.3 for binds and calls). Which outcome each rule has is this project's own choice.
use Rattle.std.specs.Prelude.{ℕ, ◌≡◌, ◌≢◌, ◌↔◌, ◌==◌, ◌++◌, ◌&&◌, Bool, true, false, cond, not, List, [], ◌∷◌, Option, Some, None, Result, Ok, Err, bytes_eq}
use Rattle.std.specs.List.{find}
use Rattle.wire_base.specs.declared.authenticator.Authenticator.{Authenticator}
use Rattle.ntlm_flags.specs.Flags.{has_flag}
use Rattle.channel_keys.specs.Flags.{rc4_flag}
use Rattle.channel_keys.specs.Hidden.{crypt_key}
use Rattle.authenticators.specs.Sequences.{authenticator_of}
use Rattle.authenticators.specs.Timestamps.{timestamp_of}
use Rattle.authenticators.specs.SecureChannels.{SecureChannelState, after_call, after_return, fresh_channel, is_awaited, key_of_channel}
use Rattle.outside.specs.declared.action.Action.{Action}
use Rattle.outside.specs.declared.action.Action.TheVariants as action
use Rattle.outside.specs.declared.action.CloseCause.{CloseCause}
use Rattle.outside.specs.declared.action.CloseCause.TheVariants as close
use Rattle.outside.specs.declared.action.DropCause.{DropCause}
use Rattle.outside.specs.declared.action.DropCause.TheVariants as drop_cause
use Rattle.outside.specs.declared.action.Outcome.{Outcome}
use Rattle.outside.specs.declared.action.Outcome.TheVariants as told
use Rattle.outside.specs.declared.event.Event.{Event}
use Rattle.outside.specs.declared.event.Event.TheVariants as event
use Rattle.outside.specs.Machine.{Stepped}
use Rattle.rpc_units.specs.declared.refused.UnitRefused.{UnitRefused}
use Rattle.rpc_units.specs.declared.unit.Body.{Body}
use Rattle.rpc_units.specs.declared.unit.Body.TheVariants.{Bind, BindAck, BindNak, Auth3, Request, Response, Fault}
use Rattle.rpc_units.specs.declared.unit.Unit.{Unit as RpcUnit}
use Rattle.rpc_units.specs.Reading.{unit_of}
use Rattle.rpc_units.specs.Stream.{Cut, cut_stream}
use Rattle.logon_stubs.specs.declared.refused.StubRefused.{StubRefused}
use Rattle.logon_stubs.specs.declared.info.SamInfo.{SamInfo}
use Rattle.logon_stubs.specs.declared.calls.LogoffReply.{LogoffReply}
use Rattle.logon_stubs.specs.declared.calls.LogonReply.{LogonReply}
use Rattle.logon_stubs.specs.declared.calls.Reply.{Reply}
use Rattle.logon_stubs.specs.declared.calls.Reply.TheVariants as reply
use Rattle.logon_stubs.specs.Calls.{reply_of}
use Rattle.logon_stubs.specs.Status.{access_denied}
use Rattle.end_loop.specs.Runs.{taken_actions}
use Rattle.end_links.specs.Binding.{limit_of}
use Rattle.end_links.specs.Links.{LinkState}
use Rattle.channel_client.specs.Machine.{is_accepting, level_asked, offered_flags, server_credential}
use Rattle.channel_turns.specs.declared.hearing.Heard.{Heard}
use Rattle.channel_turns.specs.declared.hearing.Heard.TheVariants as heard
use Rattle.channel_turns.specs.Hearing.{heard_of}
use Rattle.channel_turns.specs.Laws.{whole_units}
use Rattle.interactive_station.specs.declared.outcome.StationOutcome.{StationOutcome}
use Rattle.interactive_station.specs.declared.outcome.StationOutcome.TheVariants.{Off, Refused, BadPeer}
use Rattle.interactive_station.specs.declared.plan.StationPlan.{StationPlan}
use Rattle.interactive_station.specs.declared.state.StationCall.{StationCall}
use Rattle.interactive_station.specs.declared.state.StationCall.TheVariants.{Challenge, Authenticate, Logon, Logoff}
use Rattle.interactive_station.specs.declared.state.StationLink.{StationLink}
use Rattle.interactive_station.specs.declared.state.StationLink.TheVariants.{Idle, Dialling, On}
use Rattle.interactive_station.specs.declared.state.StationRunning.{StationRunning}
use Rattle.interactive_station.specs.declared.state.StationStep.{StationStep}
use Rattle.interactive_station.specs.declared.state.StationStep.TheVariants.{Bound, Asked}
use Rattle.interactive_station.specs.declared.state.StationTalk.{StationTalk}
use Rattle.interactive_station.specs.Calls.{bind_number, opnum_of, request_number}
use Rattle.interactive_station.specs.Machine.{request_bytes, step_of}
use Rattle.interactive_station.specs.Moves.{call_in, told_in}
use Rattle.interactive_station.specs.State.{StationState}

-- ---- the units on a link. `whole_units` are those that their fragments join to

abbrev pub or_refusal : Heard → (Option RpcUnit → Option CloseCause) → Option CloseCause
or_refusal (heard.Waits joiner) later = later joiner
or_refusal (heard.Whole unit joiner) later = later joiner
or_refusal (heard.Broken cause) later = Some cause

-- for which cause a link is closed: that of the first unit or fragment on it that is refused, or of the rest of its
-- stream
abbrev pub refusal_among : List (List ℕ) → Option UnitRefused → Option RpcUnit → Option CloseCause
refusal_among [] None joiner = None
refusal_among [] (Some why) joiner = Some close.BadUnit
refusal_among (bytes ∷ units) why joiner = or_refusal (heard_of (unit_of bytes) joiner) (λ after. refusal_among units why after)

abbrev pub or_open : Heard → (Option RpcUnit → Option RpcUnit) → Option RpcUnit
or_open (heard.Waits joiner) later = later joiner
or_open (heard.Whole unit joiner) later = later joiner
or_open (heard.Broken cause) later = None

-- the fragments that are open behind the units on a link, where none of these is refused
abbrev pub open_behind : List (List ℕ) → Option RpcUnit → Option RpcUnit
open_behind [] joiner = joiner
open_behind (bytes ∷ units) joiner = or_open (heard_of (unit_of bytes) joiner) (λ after. open_behind units after)

-- the first whole unit of a number, and the units behind it
abbrev pub unit_numbered : ℕ → List RpcUnit → Option RpcUnit
unit_numbered number units = find (λ unit. unit.call == number) units

abbrev pub units_behind : ℕ → List RpcUnit → List RpcUnit
units_behind number [] = []
units_behind number (unit ∷ units) = cond (unit.call == number) units (units_behind number units)

-- ---- the reply to a call

-- What answers a call: nothing yet; a unit or a fragment was refused, which closes the link for that cause; no reply
-- comes, for that cause; or its reply.
pub data Answer : Type 0 where
  Awaited : Answer
  Broken : CloseCause → Answer
  Fails : DropCause → Answer
  Replied : Reply → Answer

-- what answers a call where no unit of its number came
abbrev pub no_answer : (refusal : Option CloseCause) → Answer
no_answer None = Awaited
no_answer (Some cause) = Broken cause

-- a response's stub, read as the reply
abbrev pub answer_of_stub : Result Reply StubRefused → Answer
answer_of_stub (Ok r) = Replied r
answer_of_stub (Err why) = Fails drop_cause.BadReply

-- what answers a call where a bind_ack has its number
abbrev pub answer_by_ack : (is_accepted : Bool) → Answer
answer_by_ack true = Fails drop_cause.BadReply
answer_by_ack false = Fails drop_cause.Bind

-- what answers a call, by the unit that has its number
abbrev pub answer_in : Body → StationCall → Answer
answer_in (Response hint context stub) c = answer_of_stub (reply_of (opnum_of c) stub)
answer_in (Fault hint context status) c = Fails (drop_cause.Fault status)
answer_in (BindNak reason) c = Fails drop_cause.Bind
answer_in (BindAck send receive group results) c = answer_by_ack (is_accepting results)
answer_in (Bind send receive group contexts) c = Fails drop_cause.BadReply
answer_in (Request hint context opnum stub) c = Fails drop_cause.BadReply
answer_in Auth3 c = Fails drop_cause.BadReply

abbrev pub answer_by : Option RpcUnit → (refusal : Option CloseCause) → StationCall → Answer
answer_by None refusal c = no_answer refusal
answer_by (Some unit) refusal c = answer_in unit.body c

-- What answers a call among whole units: the first that has the number of its request.
abbrev pub answer_among : List RpcUnit → (refusal : Option CloseCause) → StationCall → Answer
answer_among units refusal c = answer_by (unit_numbered (request_number c) units) refusal c

-- ---- the answer to a bind

-- what a bind_ack says: the most bytes of a fragment, where it accepts; else the cause for which no reply comes
abbrev pub limit_by : (is_accepted : Bool) (receive : ℕ) → Result ℕ DropCause
limit_by true receive = Ok (limit_of receive)
limit_by false receive = Err drop_cause.Bind

-- what a unit with the number of a bind says of it: the most bytes of a fragment, or the cause for which no reply comes
abbrev pub bind_answer : Body → Result ℕ DropCause
bind_answer (BindAck send receive group results) = limit_by (is_accepting results) receive
bind_answer (BindNak reason) = Err drop_cause.Bind
bind_answer (Fault hint context status) = Err (drop_cause.Fault status)
bind_answer (Response hint context stub) = Err drop_cause.BadReply
bind_answer (Bind send receive group contexts) = Err drop_cause.BadReply
bind_answer (Request hint context opnum stub) = Err drop_cause.BadReply
bind_answer Auth3 = Err drop_cause.BadReply

-- ---- what whole units bring

-- What whole units bring: at which limit the call's request goes out, where its bind is accepted among them; and what
-- answers the call.
pub record Bringing : Type 0 where
  pub limit : Option ℕ
  pub answer : Answer

abbrev pub brings_by : (bind_answer : Result ℕ DropCause) (behind : List RpcUnit) (refusal : Option CloseCause) → StationCall → Bringing
brings_by (Err cause) behind refusal c = record { limit = None; answer = Fails cause }
brings_by (Ok limit) behind refusal c = record { limit = Some limit; answer = answer_among behind refusal c }

abbrev pub brings_bound : Option RpcUnit → (behind : List RpcUnit) (refusal : Option CloseCause) → StationCall → Bringing
brings_bound None behind refusal c = record { limit = None; answer = no_answer refusal }
brings_bound (Some unit) behind refusal c = brings_by (bind_answer unit.body) behind refusal c

-- The first unit that has the number of the bind answers the bind. Where it accepts, the first behind it that has the
-- number of the request answers the call. All others are passed over.
abbrev pub brings : StationStep → List RpcUnit → (refusal : Option CloseCause) → Bringing
brings (Bound c) units refusal =
    brings_bound (unit_numbered (bind_number c) units) (units_behind (bind_number c) units) refusal c
brings (Asked c) units refusal = record { limit = None; answer = answer_among units refusal c }

-- what the bytes of a stream bring on a link
abbrev pub brings_in : Cut → StationTalk → Bringing
brings_in cut talk = brings talk.step (whole_units cut.units talk.joiner) (refusal_among cut.units cut.refused talk.joiner)

-- ---- what a reply comes to

-- What a station does, its outcome, and how it stands then.
pub record Course : Type 0 where
  pub actions : List Action
  pub outcome : Option StationOutcome
  pub standing : StationLink

-- the link is closed, and that is the outcome
abbrev pub end_course : CloseCause → ℕ → StationOutcome → Course
end_course cause link how = record { actions = action.Close link cause ∷ []; outcome = Some how; standing = Idle }

-- the link is closed, that is told, and the controller is dialled for the next call
abbrev pub next_course : ℕ → List Action → StationPlan → StationCall → Course
next_course link tolds plan next = record {
  actions = action.Close link close.CallDone ∷ tolds ++ action.Dial plan.controller ∷ [];
  outcome = None;
  standing = Dialling (Some next);
}

-- the outcome of the first rule that holds; and the course that is given, where none does
abbrev pub by_rules : List (Bool × StationOutcome) → ℕ → Course → Course
by_rules [] link course = course
by_rules (rule ∷ rules) link course = cond rule.0 (end_course close.CallDone link rule.1) (by_rules rules link course)

-- whether an authenticator is returned that has the credential which the channel awaits
abbrev pub returns_awaited : SecureChannelState → Option Authenticator → Bool
returns_awaited o None = false
returns_awaited o (Some returned) = is_awaited o.awaited returned.credential

-- the next authenticator of a channel, at that moment
abbrev pub next_on : SecureChannelState → (now : ℕ) → Authenticator
next_on o now = authenticator_of (key_of_channel o) o.seed (timestamp_of now)

-- the Logon on a channel, with its next authenticator
abbrev pub logs_on : SecureChannelState → (now : ℕ) → StationCall
logs_on o now = Logon (after_call o (timestamp_of now)) (next_on o now)

-- the Logoff on a channel, with its next authenticator, of the user with these names
abbrev pub logs_off : SecureChannelState → (now : ℕ) → (domain user : List ℕ) → StationCall
logs_off o now domain user = Logoff (after_call o (timestamp_of now)) (next_on o now) domain user

-- The user is logged on: that is told, with the domain and the name of the validation, and its key from under the
-- channel's. The Logoff follows on the channel, which has got what it awaited. Without validation it is no reply.
abbrev pub logon_course : SecureChannelState → Option SamInfo → ℕ → StationPlan → (now : ℕ) → Course
logon_course o None link plan now = end_course close.CallDone link (BadPeer drop_cause.BadReply)
logon_course o (Some info) link plan now =
    next_course link (action.Told link (told.In info.domain info.effective_name (crypt_key (key_of_channel o) info.key)) ∷ []) plan
    (logs_off (after_return true o) now info.domain info.effective_name)

-- What the reply to a call comes to at a moment. A reply to another call is none.
abbrev pub reply_course : StationCall → Reply → ℕ → StationPlan → (now : ℕ) → Course
reply_course (Challenge client) (reply.Challenge r) link plan now =
    by_rules ((not (r.status == 0), BadPeer drop_cause.Denied) ∷ []) link
    (next_course link [] plan (Authenticate client r.challenge))
reply_course (Authenticate client server) (reply.Authenticate r) link plan now =
    by_rules (
    (not (r.status == 0), BadPeer drop_cause.Denied)
    ∷ (not (bytes_eq r.credential (server_credential plan.secret client server)), BadPeer drop_cause.NotNext)
    ∷ (not (has_flag offered_flags r.flags && has_flag r.flags rc4_flag), BadPeer drop_cause.BadReply) ∷ []
    ) link
    (next_course link [] plan (logs_on (fresh_channel plan.secret client server offered_flags) now))
reply_course (Logon o authenticator) (reply.Logon r) link plan now =
    by_rules (
    (r.status == access_denied, BadPeer drop_cause.Denied)
    ∷ (not (returns_awaited o r.returned), BadPeer drop_cause.NotNext)
    ∷ (not (r.status == 0), Refused r.status)
    ∷ (not (r.level == level_asked), BadPeer drop_cause.BadReply) ∷ []
    ) link
    (logon_course o r.info link plan now)
reply_course (Logoff o authenticator domain user) (reply.Logoff r) link plan now =
    by_rules (
    (r.status == access_denied, BadPeer drop_cause.Denied)
    ∷ (not (returns_awaited o r.returned), BadPeer drop_cause.NotNext)
    ∷ (not (r.status == 0), Refused r.status) ∷ []
    ) link
    (end_course close.CallDone link (Off domain user))
reply_course _ _ link plan now = end_course close.CallDone link (BadPeer drop_cause.BadReply)

-- ---- what a piece comes to

-- what answers a call comes to; where nothing does yet, the link stays open as `stays`
abbrev pub answer_course : Answer → StationCall → ℕ → StationPlan → (now : ℕ) → (stays : StationLink) → Course
answer_course Awaited c link plan now stays = record { actions = []; outcome = None; standing = stays }
answer_course (Broken cause) c link plan now stays = end_course cause link (BadPeer drop_cause.BadReply)
answer_course (Fails cause) c link plan now stays = end_course close.CallDone link (BadPeer cause)
answer_course (Replied r) c link plan now stays = reply_course c r link plan now

-- the request of a call, where its bind is accepted
abbrev pub request_sends : (limit : Option ℕ) → StationCall → ℕ → StationPlan → List Action
request_sends None c link plan = []
request_sends (Some limit) c link plan = action.Send link (request_bytes c plan limit) ∷ []

-- what is waited for then
abbrev pub step_then : (limit : Option ℕ) → StationCall → StationStep → StationStep
step_then None c st = st
step_then (Some limit) c st = Asked c

abbrev pub after_sends : List Action → Course → Course
after_sends sent course = record course { actions = sent ++ course.actions }

-- how the station stands where its link stays open: with the rest of the stream and the fragments that are open
abbrev pub stays_on : Cut → StationTalk → (limit : Option ℕ) → StationLink
stays_on cut talk limit = On (record {
  rest = cut.rest;
  talk = record {
    link = talk.link;
    joiner = open_behind cut.units talk.joiner;
    step = step_then limit (call_in talk.step) talk.step;
  };
})

abbrev pub units_course : Bringing → Cut → StationTalk → StationPlan → (now : ℕ) → Course
units_course b cut talk plan now =
    after_sends (request_sends b.limit (call_in talk.step) talk.link plan)
    (answer_course b.answer (call_in talk.step) talk.link plan now (stays_on cut talk b.limit))

-- What a piece on the station's link comes to, by the units of the stream that it goes on with.
abbrev pub piece_course : LinkState StationTalk → (piece : List ℕ) → StationPlan → (now : ℕ) → Course
piece_course own piece plan now =
    units_course (brings_in (cut_stream (own.rest ++ piece)) own.talk) (cut_stream (own.rest ++ piece)) own.talk plan now

-- ---- the outcomes of replies, each exactly where

-- The piece brings that reply to that call of the link.
pub record HasReply (own : LinkState StationTalk) (piece : List ℕ) (c : StationCall) (r : Reply) : Type 0 where
  pub call : call_in own.talk.step ≡ c
  pub answer : (brings_in (cut_stream (own.rest ++ piece)) own.talk).answer ≡ Replied r

-- A reply to the Logon grants it on that channel, with that validation.
pub record Grants (o : SecureChannelState) (r : LogonReply) (info : SamInfo) : Type 0 where
  pub status : r.status ≡ 0
  pub returned : returns_awaited o r.returned ≡ true
  pub level : r.level ≡ level_asked
  pub info_is : r.info ≡ Some info

-- A reply grants the Logon, to the user of these names, with that key: the one that is under the channel's key.
pub record LogsOn (own : LinkState StationTalk) (piece : List ℕ) (domain user key : List ℕ) : Type 0 where
  pub channel : SecureChannelState
  pub authenticator : Authenticator
  pub given : LogonReply
  pub info : SamInfo
  pub takes : HasReply own piece (Logon channel authenticator) (reply.Logon given)
  pub grants : Grants channel given info
  pub domain_is : domain ≡ info.domain
  pub user_is : user ≡ info.effective_name
  pub key_is : key ≡ crypt_key (key_of_channel channel) info.key

-- the reply to a Logon or a Logoff on that channel, with that status and with what is returned
abbrev pub Judges : StationCall → Reply → SecureChannelState → Option Authenticator → (status : ℕ) → Type 0
Judges (Logon o authenticator) (reply.Logon r) channel returned status = (o ≡ channel) × (r.returned ≡ returned) × (r.status ≡ status)
Judges (Logoff o authenticator domain user) (reply.Logoff r) channel returned status = (o ≡ channel) × (r.returned ≡ returned) × (r.status ≡ status)
Judges _ _ channel returned status = ⊥

-- A reply refuses the Logon or the Logoff with that status. It counts by the credential that it returns.
pub record Refuses (own : LinkState StationTalk) (piece : List ℕ) (status : ℕ) : Type 0 where
  pub call : StationCall
  pub given : Reply
  pub channel : SecureChannelState
  pub returned : Option Authenticator
  pub takes : HasReply own piece call given
  pub judges : Judges call given channel returned status
  pub awaited : returns_awaited channel returned ≡ true
  pub not_0 : status ≢ 0
  pub not_denied : status ≢ access_denied

-- A reply logs the user of these names off.
pub record LogsOff (own : LinkState StationTalk) (piece : List ℕ) (domain user : List ℕ) : Type 0 where
  pub channel : SecureChannelState
  pub authenticator : Authenticator
  pub given : LogoffReply
  pub takes : HasReply own piece (Logoff channel authenticator domain user) (reply.Logoff given)
  pub status : given.status ≡ 0
  pub awaited : returns_awaited channel given.returned ≡ true

-- ---- the law

-- A step is taken by that course. The plan stays.
pub record StepsAs (stepped : Stepped StationState) (plan : StationPlan) (course : Course) : Type 0 where
  pub actions : stepped.answer ≡ Ok course.actions
  pub state : stepped.state ≡ record { running = Some (record { task = plan; standing = course.standing }); outcome = course.outcome }

-- the event brings bytes on the station's link
abbrev pub is_heard : Event → StationLink → Bool
is_heard (event.Bytes link piece) (On own) = link == own.talk.link
is_heard _ _ = false

-- the event answers the station's dial by a link
abbrev pub is_dialled : Event → StationLink → Bool
is_dialled (event.Dialled link) (Dialling c) = true
is_dialled _ _ = false

-- what a step tells
abbrev pub told_at : StationState → Event → (now : ℕ) → List (List ℕ) → List (ℕ × Outcome)
told_at s what now left = told_in (taken_actions (step_of s what now left).answer)

pub record EndsByReplies : Type 0 where
  -- bytes on the link come to what the units bring that are joined there
  pub units : (s : StationState) (running : StationRunning) (own : LinkState StationTalk) (piece : List ℕ) (now : ℕ) (left : List (List ℕ)) →
      s.running ≡ Some running → s.outcome ≡ None → running.standing ≡ On own →
      StepsAs (step_of s (event.Bytes own.talk.link piece) now left) running.task (piece_course own piece running.task now)
  -- at each other event nothing is done, but where a link opens that was dialled
  pub other : (s : StationState) (running : StationRunning) (what : Event) (now : ℕ) (left : List (List ℕ)) →
      s.running ≡ Some running → s.outcome ≡ None → is_heard what running.standing ≡ false → is_dialled what running.standing ≡ false →
      (step_of s what now left).answer ≡ Ok []
  -- `In` is told exactly where a reply grants the Logon, on its link, with the names and the key of its validation
  pub told_in_exactly : (s : StationState) (running : StationRunning) (own : LinkState StationTalk) (piece : List ℕ) (now : ℕ) (left : List (List ℕ))
      (domain user key : List ℕ) → s.running ≡ Some running → s.outcome ≡ None → running.standing ≡ On own →
      (told_at s (event.Bytes own.talk.link piece) now left ≡ (own.talk.link, told.In domain user key) ∷ []) ↔ LogsOn own piece domain user key
  -- `Refused` and `Off` are the outcome exactly where a reply refuses, or logs the user off
  pub refused_exactly : (s : StationState) (running : StationRunning) (own : LinkState StationTalk) (piece : List ℕ) (now : ℕ) (left : List (List ℕ))
      (status : ℕ) → s.running ≡ Some running → s.outcome ≡ None → running.standing ≡ On own →
      ((step_of s (event.Bytes own.talk.link piece) now left).state.outcome ≡ Some (Refused status)) ↔ Refuses own piece status
  pub off_exactly : (s : StationState) (running : StationRunning) (own : LinkState StationTalk) (piece : List ℕ) (now : ℕ) (left : List (List ℕ))
      (domain user : List ℕ) → s.running ≡ Some running → s.outcome ≡ None → running.standing ≡ On own →
      ((step_of s (event.Bytes own.talk.link piece) now left).state.outcome ≡ Some (Off domain user)) ↔ LogsOff own piece domain user
