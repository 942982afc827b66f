-- One logon that a controller hands on to the controller of a trusted domain, step by step: how it comes, its turns on
-- links to that controller, and how its answer goes back on the link on which it came (MS-NRPC 3.1.4, 3.5.4.5.3; that
-- it takes one hop, and one turn is out at a time, is this project's own choice).
use Rattle.std.specs.Prelude.{ℕ, ◌≡◌, ◌<◌, ◌^◌, true, List, [], ◌∷◌, None, Some, slice_get, slice_set}
use Rattle.wire_base.specs.Maps.{lookup, put, same_number, take_out}
use Rattle.wire_base.specs.Names.{same_name}
use Rattle.authenticators.specs.Sequences.{return_of}
use Rattle.authenticators.specs.SecureChannels.{SecureChannelState, after_call, key_of_channel}
use Rattle.outside.specs.declared.action.Action.TheVariants as action
use Rattle.outside.specs.declared.action.CloseCause.TheVariants as close
use Rattle.outside.specs.declared.action.DropCause.{DropCause}
use Rattle.outside.specs.declared.action.Judged.TheVariants as judged
use Rattle.outside.specs.declared.event.Event.TheVariants as event
use Rattle.outside.specs.Machine.{whole_step}
use Rattle.rpc_units.specs.Calls.{bytes_of_call}
use Rattle.rpc_units.specs.Writing.{written}
use Rattle.end_links.specs.Binding.{bind_of}
use Rattle.logon_stubs.specs.Interface.{netlogon_syntax}
use Rattle.logon_stubs.specs.Status.{no_logon_servers}
use Rattle.logon_stubs.specs.declared.calls.Call.{Call}
use Rattle.logon_stubs.specs.declared.calls.Reply.{Reply}
use Rattle.logon_stubs.specs.declared.info.NetworkInfo.{NetworkInfo}
use Rattle.logon_stubs.specs.declared.info.Verdict.{Verdict}
use Rattle.logon_stubs.specs.declared.info.Verdict.TheVariants.{Status}
use Rattle.account_table.specs.AccountTable.{AccountTable}
use Rattle.account_table.specs.LookUps.{route_in}
use Rattle.account_table.specs.declared.account.Trust.{Trust}
use Rattle.account_table.specs.declared.table.Route.TheVariants as route
use Rattle.channel_client.specs.State.{Requester}
use Rattle.channel_client.specs.declared.caller.Caller.{Caller}
use Rattle.channel_client.specs.declared.judging.Judgement.TheVariants as judgement
use Rattle.channel_client.specs.declared.state.Question.{Question}
use Rattle.channel_client.specs.declared.state.Standing.{Standing}
use Rattle.channel_client.specs.declared.state.Standing.TheVariants as standing
use Rattle.channel_client.specs.declared.state.Step.{Step}
use Rattle.channel_client.specs.declared.state.Step.TheVariants as step
use Rattle.channel_client.specs.Machine.{after, auth_call, challenge_call, judge, level_asked, logon_call, question_of}
use Rattle.authenticators.specs.Timestamps.{timestamp_of}
use Rattle.channel_turns.specs.declared.state.Dialling.{Dialling}
use Rattle.controller_calls.specs.Forwarded.{ForwardedState, forwarded_call}
use Rattle.controller_calls.specs.Handing.{hands_on}
use Rattle.controller_calls.specs.declared.line.Line.{Line}
use Rattle.controller_calls.specs.declared.state.Computers.{Computers}
use Rattle.domain_controller.specs.Forwarding.{fits_on}
use Rattle.domain_controller.specs.State.{State}
use Rattle.domain_controller.specs.Step.{LinkMap}
use Rattle.domain_controller.specs.TrustActions.{answer_of}
use Rattle.domain_controller.specs.TrustLaws.{IsNotOn}
use Rattle.domain_controller.specs.TrustOrder.{NobodyWaits}
use Rattle.domain_controller.specs.TrustStep.{trust_step_of}
use Rattle.logon_steps.specs.Answering.{IsInStep, moved}
use Rattle.logon_steps.specs.Asking.{asking, at_rest, info_at}
use Rattle.logon_steps.specs.BesideTrusts.{Keeping, keeping_at, none_asked, trusting_at}
use Rattle.logon_steps.specs.ControllerTurns.{reply_bytes, turn_link}
use Rattle.logon_steps.specs.MemberTurns.{bind_waits, on_turn}
use Rattle.logon_steps.specs.Turning.{IsTurnCall, IsTurnReply, turn_ack, turn_request}

-- ---- a logon that was handed on

-- What the controller keeps meanwhile: its accounts, its name, what it keeps of computers, and the accepted links;
-- those who ask, as they were before; and of the trust that is asked, its number, who asks there, what is asked for,
-- the place that it has there, and what its answer needs.
pub record HandedOn : Type 0 where
  pub table : AccountTable
  pub name : List ℕ
  pub computers : Computers
  pub links : LinkMap
  pub requesters : List Requester
  pub trust : ℕ
  pub caller : Caller
  pub info : NetworkInfo
  pub place : ℕ
  pub call : ForwardedState

-- the controller while the logon's turn waits for the answer to its bind or call of that number; `next` is the number
-- of its next bind or call
abbrev pub handing_at : HandedOn → (how : Standing) (next number : ℕ) → Step → (said : Dialling) → State
handing_at h how next number what said = trusting_at h.table h.name h.computers h.links (record {
  queues = record {
    requesters = slice_set h.requesters h.trust
        (asking h.caller how h.info h.place next (Some (record { number = number; place = h.place; step = what })));
    forwarded = ((h.trust, h.place), h.call) ∷ [];
  };
  turn_of = h.trust;
  dialling = said;
  sealing = None;
})

-- the controller once the logon was answered: nobody waits
abbrev pub handed_back : HandedOn → Standing → (next : ℕ) → State
handed_back h how next = trusting_at h.table h.name h.computers h.links
    (none_asked (slice_set h.requesters h.trust (at_rest h.caller how (after h.place) next)) h.trust)

-- The trust is one of the table's, somebody asks there, and nobody waited before.
pub record IsTrusted (h : HandedOn) : Type 0 where
  pub entry : Trust
  pub is_entry : slice_get h.table.trusts h.trust ≡ Some entry
  pub requester : Requester
  pub there : slice_get h.requesters h.trust ≡ Some requester
  pub nobody : NobodyWaits h.requesters

-- a new link has the number of no accepted one, nor of the one on which the logon came
pub record IsNewLink (link : ℕ) (h : HandedOn) : Type 0 where
  pub apart : take_out same_number link h.links ≡ h.links
  pub elsewhere : IsNotOn link h.call.line

-- ---- a logon that comes for a trusted domain

-- What the controller keeps before; the link, the number of the call, and the timestamp of its authenticator; who asks
-- on the link, and its channel at both ends; what it asks for; and of the trust of that domain, its number, who asks
-- there, the place of its next logon, and the number of its next bind.
pub record Coming : Type 0 where
  pub kept : Keeping
  pub link : ℕ
  pub number : ℕ
  pub timestamp : ℕ
  pub caller : Caller
  pub asked_on : SecureChannelState
  pub heard_on : SecureChannelState
  pub info : NetworkInfo
  pub trust : ℕ
  pub asks : Caller
  pub place : ℕ
  pub next : ℕ

-- the line on which the logon is answered
abbrev pub line_of : Coming → Line
line_of g = record { link = g.link; call = g.number; context = 0; limit = 5840 }

-- what the logon's answer needs: its line, the channel's key, and the credential that is awaited
abbrev pub call_of : Coming → ForwardedState
call_of g = forwarded_call (line_of g) level_asked (key_of_channel g.asked_on) (return_of (key_of_channel g.asked_on) g.asked_on.seed g.timestamp)

-- what is kept of computers once the channel on which the logon came has moved on
abbrev pub computers_after : Coming → Computers
computers_after g = record g.kept.computers {
  channels = put same_name g.caller.computer (moved g.heard_on g.timestamp) (take_out same_name g.caller.computer g.kept.computers.channels);
}

abbrev pub handed_of : Coming → HandedOn
handed_of g = record {
  table = g.kept.table;
  name = g.kept.name;
  computers = computers_after g;
  links = turn_link g.link;
  requesters = g.kept.requesters;
  trust = g.trust;
  caller = g.asks;
  info = g.info;
  place = g.place;
  call = call_of g;
}

-- The call can go, its channel is in step and of a type on which logons are handed on, its domain is that of the trust,
-- and nobody waits there, where the channel to its controller stands so.
pub record ComesForTrust (g : Coming) (how : Standing) : Type 0 where
  pub below : g.number < 2 ^ 32
  pub goes : IsTurnCall (logon_call g.caller g.asked_on g.timestamp g.info)
  pub stands : lookup same_name g.caller.computer g.kept.computers.channels ≡ Some g.heard_on
  pub in_step : IsInStep g.asked_on g.heard_on
  pub hands : hands_on g.heard_on.kind ≡ true
  pub routed : route_in g.kept.table g.info.domain ≡ route.Trust g.trust
  pub fits : fits_on g.info ≡ true
  pub trusted : IsTrusted (handed_of g)
  pub rests : slice_get g.kept.requesters g.trust ≡ Some (at_rest g.asks how g.place g.next)

-- the bytes of the call
abbrev pub coming_bytes : Coming → List ℕ
coming_bytes g = bytes_of_call (turn_request g.number (logon_call g.caller g.asked_on g.timestamp g.info)) 5840

-- The logon is told to be handed on, nothing is sent, and the trust's controller is dialled for what its channel needs.
pub record LogonsAreHandedOn : Type 0 where
  pub opens : (g : Coming) (now : ℕ) (challenge : List ℕ) (left : List (List ℕ)) (comes : ComesForTrust g standing.Nothing) →
      trust_step_of (keeping_at g.kept (turn_link g.link)) (event.Bytes g.link (coming_bytes g)) now (challenge ∷ left)
      ≡ whole_step (challenge ∷ left) left (action.Judged judged.Forwarded ∷ action.Dial comes.trusted.entry.address ∷ [])
      (handing_at (handed_of g) standing.Nothing (after g.next) g.next (step.Bind (challenge_call g.asks challenge)) (bind_waits g.next))
  pub proves : (g : Coming) (now : ℕ) (client server : List ℕ) (left : List (List ℕ)) (comes : ComesForTrust g (standing.Half client server)) →
      trust_step_of (keeping_at g.kept (turn_link g.link)) (event.Bytes g.link (coming_bytes g)) now left
      ≡ whole_step left left (action.Judged judged.Forwarded ∷ action.Dial comes.trusted.entry.address ∷ [])
      (handing_at (handed_of g) (standing.Half client server) (after g.next) g.next (step.Bind (auth_call g.asks client server)) (bind_waits g.next))
  pub asks : (g : Coming) (now : ℕ) (o : SecureChannelState) (left : List (List ℕ)) (comes : ComesForTrust g (standing.Open o)) →
      trust_step_of (keeping_at g.kept (turn_link g.link)) (event.Bytes g.link (coming_bytes g)) now left
      ≡ whole_step left left (action.Judged judged.Forwarded ∷ action.Dial comes.trusted.entry.address ∷ [])
      (handing_at (handed_of g) (standing.Open (after_call o (timestamp_of now))) (after g.next) g.next
      (step.Bind (logon_call g.asks o (timestamp_of now) (info_at g.place g.info))) (bind_waits g.next))

-- ---- the turns of a logon that is handed on

pub record HandedTurnsStep : Type 0 where
  -- the dial is answered, and the bind goes out
  pub dialled : (h : HandedOn) (how : Standing) (next number link now : ℕ) (what : Step) (left : List (List ℕ)) → IsTrusted h → IsNewLink link h →
      trust_step_of (handing_at h how next number what (bind_waits number)) (event.Dialled link) now left
      ≡ whole_step left left (action.Send link (written (bind_of netlogon_syntax number)) ∷ []) (handing_at h how next number what (on_turn link))
  -- the bind is answered, and the call goes out
  pub bound : (h : HandedOn) (how : Standing) (next number link now : ℕ) (c : Call) (left : List (List ℕ)) → IsTrusted h → number < 2 ^ 32 →
      trust_step_of (handing_at h how next number (step.Bind c) (on_turn link)) (event.Bytes link (written (turn_ack number))) now left
      ≡ whole_step left left (action.Send link (bytes_of_call (turn_request next c) 5840) ∷ [])
      (handing_at h how (after next) next (step.Reply (question_of c)) (on_turn link))
  -- the reply comes: both challenges are known then, and the turn that proves the secret is dialled
  pub half : (h : HandedOn) (how : Standing) (next number link now : ℕ) (q : Question) (r : Reply) (client server : List ℕ) (left : List (List ℕ)) (is : IsTrusted h) →
      number < 2 ^ 32 → IsTurnReply q r → judge q r how h.caller.secret ≡ judgement.Half client server →
      trust_step_of (handing_at h how next number (step.Reply q) (on_turn link)) (event.Bytes link (reply_bytes number r)) now left
      ≡ whole_step left left (action.Close link close.CallDone ∷ action.Dial is.entry.address ∷ [])
      (handing_at h (standing.Half client server) (after next) next (step.Bind (auth_call h.caller client server)) (bind_waits next))
  -- the reply comes: the channel stands, and the logon's own turn is dialled
  pub opened : (h : HandedOn) (how : Standing) (next number link now : ℕ) (q : Question) (r : Reply) (o : SecureChannelState) (left : List (List ℕ)) (is : IsTrusted h) →
      number < 2 ^ 32 → IsTurnReply q r → judge q r how h.caller.secret ≡ judgement.Opened o →
      trust_step_of (handing_at h how next number (step.Reply q) (on_turn link)) (event.Bytes link (reply_bytes number r)) now left
      ≡ whole_step left left (action.Close link close.CallDone ∷ action.Dial is.entry.address ∷ [])
      (handing_at h (standing.Open (after_call o (timestamp_of now))) (after next) next
      (step.Bind (logon_call h.caller o (timestamp_of now) (info_at h.place h.info))) (bind_waits next))
  -- the reply comes: the verdict is there, which goes back, and nobody waits then
  pub answered : (h : HandedOn) (how : Standing) (next number link now : ℕ) (q : Question) (r : Reply) (o : SecureChannelState) (verdict : Verdict) (left : List (List ℕ)) →
      IsTrusted h → number < 2 ^ 32 → IsTurnReply q r → judge q r how h.caller.secret ≡ judgement.Answer o verdict →
      trust_step_of (handing_at h how next number (step.Reply q) (on_turn link)) (event.Bytes link (reply_bytes number r)) now left
      ≡ whole_step left left (action.Close link close.CallDone ∷ answer_of (Some (verdict, h.call))) (handed_back h (standing.Open o) next)
  -- a reply comes that doesn't count: the logon comes to NO_LOGON_SERVERS, and no channel stands
  pub dropped : (h : HandedOn) (how : Standing) (next number link now : ℕ) (q : Question) (r : Reply) (cause : DropCause) (left : List (List ℕ)) →
      IsTrusted h → number < 2 ^ 32 → IsTurnReply q r → judge q r how h.caller.secret ≡ judgement.Drop cause →
      trust_step_of (handing_at h how next number (step.Reply q) (on_turn link)) (event.Bytes link (reply_bytes number r)) now left
      ≡ whole_step left left (action.Close link close.CallDone ∷ answer_of (Some (Status no_logon_servers, h.call))) (handed_back h standing.Nothing next)
  -- the logon comes to NO_LOGON_SERVERS, too, where nobody answers the dial, or the link closes; no channel stands
  pub failed : (h : HandedOn) (how : Standing) (next number now : ℕ) (what : Step) (left : List (List ℕ)) → IsTrusted h →
      trust_step_of (handing_at h how next number what (bind_waits number)) event.DialFailed now left
      ≡ whole_step left left (answer_of (Some (Status no_logon_servers, h.call))) (handed_back h standing.Nothing next)
  pub lost : (h : HandedOn) (how : Standing) (next number link now : ℕ) (what : Step) (left : List (List ℕ)) → IsTrusted h →
      trust_step_of (handing_at h how next number what (on_turn link)) (event.Closed link) now left
      ≡ whole_step left left (answer_of (Some (Status no_logon_servers, h.call))) (handed_back h standing.Nothing next)
