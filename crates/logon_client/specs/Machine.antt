-- The client of a logon, step by step (MS-NLMP 3.1.5.1; C706 12.6.3 for binds and calls). Which outcome an answer has,
-- the numbers of calls and the memo interface are this project's own choice. A moment is in units of 100 ns since
-- 1601-01-01, and a challenge is a list of 8 bytes.
use Rattle.std.specs.Prelude.{ℕ, ◌==◌, ◌%◌, ◌++◌, Bool, true, false, List, [], ◌∷◌, length, map, Option, Some, None, Result, Ok, Err, bytes_eq}
use Rattle.std.specs.List.{range_with_len}
use Rattle.ntlm_flags.specs.Flags.{has_flag, agreed_flags, negotiate_key_exch}
use Rattle.ntlm_messages.specs.Challenge.{challenge_of}
use Rattle.ntlm_messages.specs.declared.messages.Challenge.{Challenge}
use Rattle.ntlm_messages.specs.declared.pairs.PairsRefused.{PairsRefused}
use Rattle.ntlm_messages.specs.declared.refused.MessageRefused.{MessageRefused}
use Rattle.ntlm_seal.specs.Sessions.{SessionState}
use Rattle.outside.specs.declared.action.Action.{Action}
use Rattle.outside.specs.declared.action.Action.TheVariants as action
use Rattle.outside.specs.declared.action.CloseCause.TheVariants as close_cause
use Rattle.outside.specs.declared.action.StepRefused.{StepRefused}
use Rattle.outside.specs.declared.event.Event.{Event}
use Rattle.outside.specs.declared.event.Event.TheVariants as event
use Rattle.outside.specs.Machine.{Machine, Part, Stepped, stopped_step, whole_step, step_by, then_part}
use Rattle.rpc_units.specs.declared.refused.JoinRefused.{JoinRefused}
use Rattle.rpc_units.specs.declared.refused.UnitRefused.{UnitRefused}
use Rattle.rpc_units.specs.declared.unit.Body.{Body}
use Rattle.rpc_units.specs.declared.unit.Body.TheVariants.{BindAck, BindNak, Response, Fault}
use Rattle.rpc_units.specs.declared.unit.Syntax.{Syntax}
use Rattle.rpc_units.specs.declared.unit.Trailer.{Trailer}
use Rattle.rpc_units.specs.declared.unit.Unit.{Unit as RpcUnit}
use Rattle.rpc_units.specs.Joining.{answer_of, open_after, stub_of}
use Rattle.rpc_units.specs.Numbers.{rpc_s_server_unavailable}
use Rattle.rpc_units.specs.Reading.{unit_of}
use Rattle.rpc_units.specs.Stream.{cut_stream}
use Rattle.rpc_units.specs.Writing.{written}
use Rattle.memo_stubs.specs.declared.refused.MemoRefused.{MemoRefused}
use Rattle.memo_stubs.specs.Memo.{who_of, echo_reply_of, written_echo_request}
use Rattle.end_links.specs.Binding.{limit_of}
use Rattle.end_links.specs.Links.{LinkState}
use Rattle.end_links.specs.Sending.{request_of}
use Rattle.end_links.specs.Serving.{Server, Service, ServedPart, served_cut}
use Rattle.logon_client.specs.declared.answering.Answer.{Answer}
use Rattle.logon_client.specs.declared.answering.Drawn.{Drawn}
use Rattle.logon_client.specs.declared.answering.ServerOffer.{ServerOffer}
use Rattle.logon_client.specs.declared.hearing.Heard.{Heard}
use Rattle.logon_client.specs.declared.hearing.Heard.TheVariants as heard
use Rattle.logon_client.specs.declared.outcome.ClientOutcome.{ClientOutcome}
use Rattle.logon_client.specs.declared.outcome.ClientOutcome.TheVariants.{In, Refused, NoAnswer, BadPeer}
use Rattle.logon_client.specs.declared.outcome.RefusedCause.TheVariants as refused_cause
use Rattle.logon_client.specs.declared.outcome.NoAnswerCause.TheVariants as no_answer
use Rattle.logon_client.specs.declared.outcome.PeerFault.TheVariants as peer_fault
use Rattle.logon_client.specs.declared.plan.ClientPlan.{ClientPlan}
use Rattle.logon_client.specs.declared.securing.Sending.{Sending}
use Rattle.logon_client.specs.declared.state.After.{After}
use Rattle.logon_client.specs.declared.state.Phase.{Phase}
use Rattle.logon_client.specs.declared.state.Phase.TheVariants.{Bound, Asked}
use Rattle.logon_client.specs.declared.state.Question.{Question}
use Rattle.logon_client.specs.declared.state.Question.TheVariants.{Who, Echo}
use Rattle.logon_client.specs.declared.state.Running.{Running}
use Rattle.logon_client.specs.declared.state.ClientLink.{ClientLink}
use Rattle.logon_client.specs.declared.state.ClientLink.TheVariants.{Idle, Dialling, On}
use Rattle.logon_client.specs.declared.state.Talk.{Talk}
use Rattle.logon_client.specs.declared.state.Terms.{Terms}
use Rattle.logon_client.specs.declared.state.Work.{Work}
use Rattle.logon_client.specs.Answering.{bind_for, pairs_by, is_enough, time_by, drawn_for, answer_of as answer_to, auth3_of}
use Rattle.unit_security.specs.Levels.{is_sealed}
use Rattle.logon_client.specs.Plans.{offer_of}
use Rattle.unit_security.specs.declared.securing.Secured.{Secured}
use Rattle.unit_security.specs.Securing.{open_unit}
use Rattle.logon_client.specs.Securing.{has_level, session_for, send_call}
use Rattle.logon_client.specs.State.{State}

-- ---- numbers of the calls

abbrev pub bind_number : ℕ
bind_number = 1

abbrev pub who_number : ℕ
who_number = 2

abbrev pub echo_number : ℕ
echo_number = 3

-- operations of the memo interface
abbrev pub who_opnum : ℕ
who_opnum = 0

abbrev pub echo_opnum : ℕ
echo_opnum = 1

-- the number of the call whose answer is waited for
abbrev pub awaited : Phase → ℕ
awaited Bound = bind_number
awaited (Asked terms Who) = who_number
awaited (Asked terms (Echo name)) = echo_number

-- the bytes that are echoed
abbrev pub echo_bytes : ℕ → List ℕ
echo_bytes count = map (λ place. place % 251) (range_with_len 0 count)

-- ---- what is done

abbrev pub told : Work → Action → Work
told work what = record work { actions = work.actions ++ what ∷ [] }

abbrev pub concluded : ClientOutcome → Work → Work
concluded outcome work = record work { outcome = Some outcome }

-- an outcome that comes while the link is open closes it
abbrev pub closed_with : ClientOutcome → ℕ → Work → Work
closed_with outcome link work = concluded outcome (told work (action.Close link close_cause.CallDone))

abbrev pub ends : ClientOutcome → ℕ → Work → Work × Option Talk
ends outcome link work = (closed_with outcome link work, None)

-- ---- calls that are sent

-- a call was sent, whose response is waited for; or the session refuses it, which happens in no run
abbrev pub asks : Option Sending → Terms → Question → ℕ → Work → Work × Option Talk
asks None terms question link work = ends (BadPeer peer_fault.BadSeal) link work
asks (Some sending) terms question link work = (
  told work (action.Send link sending.bytes),
  Some (record { link = link; joiner = None; phase = Asked (record terms { session = sending.session }) question }),
)

-- a call, in units that the member receives
abbrev pub asks_call : RpcUnit → Terms → Question → ℕ → Work → Work × Option Talk
asks_call call terms question link work =
    asks (send_call terms.session work.task.level call (limit_of terms.receive)) terms question link work

-- WhoAmI, whose stub is empty
abbrev pub asks_who : Terms → ℕ → Work → Work × Option Talk
asks_who terms link work = asks_call (request_of who_number 0 who_opnum []) terms Who link work

abbrev pub asks_echo : List ℕ → Terms → ℕ → Work → Work × Option Talk
asks_echo name terms link work =
    asks_call (request_of echo_number 0 echo_opnum (written_echo_request (echo_bytes work.task.echo))) terms (Echo name)
    link work

-- ---- the answer to a CHALLENGE

abbrev pub terms_of : ℕ → ServerOffer → List ℕ → Terms
terms_of level offer key =
    record { key = key; receive = offer.receive; session = session_for level key offer.flags }

abbrev pub answers_by : Option (List ℕ) → Terms → ℕ → Work → Work × Option Talk
answers_by None terms link work = ends (BadPeer peer_fault.BadMessage) link work
answers_by (Some auth3) terms link work = asks_who terms link (told work (action.Send link auth3))

-- auth3 and WhoAmI
abbrev pub answers_with : Answer → ServerOffer → ℕ → Work → Work × Option Talk
answers_with answer offer link work =
    answers_by (auth3_of work.task.level answer.message) (terms_of work.task.level offer answer.key) link work

abbrev pub answers : ServerOffer → Drawn → ℕ → Work → Work × Option Talk
answers offer drawn link work = answers_with (answer_to work.task offer drawn) offer link work

-- ---- the answer to the bind

abbrev pub done : Work × Option Talk → Heard
done end = heard.Done end.0 end.1

abbrev pub fails : ClientOutcome → ℕ → Work → Heard
fails outcome link work = done (ends outcome link work)

abbrev pub hear_flags : (agrees_enough : Bool) → ServerOffer → ℕ → Work → Heard
hear_flags false offer link work = fails (Refused refused_cause.WeakOffer) link work
hear_flags true offer link work = heard.Challenged work link offer

abbrev pub offer_by : ℕ → Challenge → List (ℕ × List ℕ) → ℕ → ℕ → ServerOffer
offer_by flags challenge pairs now receive = record {
  flags = flags;
  challenge = challenge.challenge;
  info = challenge.info;
  time = time_by pairs now;
  receive = receive;
}

abbrev pub hear_agreed : ℕ → Challenge → List (ℕ × List ℕ) → ℕ → ℕ → Work → Heard
hear_agreed flags challenge pairs receive link work =
    hear_flags (is_enough work.task.level work.task.auth flags) (offer_by flags challenge pairs work.now receive) link work

abbrev pub hear_pairs : Result (List (ℕ × List ℕ)) PairsRefused → Challenge → ℕ → ℕ → Work → Heard
hear_pairs (Err why) challenge receive link work = fails (BadPeer peer_fault.BadMessage) link work
hear_pairs (Ok pairs) challenge receive link work =
    hear_agreed (agreed_flags (offer_of work.task.auth) challenge.flags) challenge pairs receive link work

abbrev pub hear_challenge : Result Challenge MessageRefused → ℕ → ℕ → Work → Heard
hear_challenge (Err why) receive link work = fails (BadPeer peer_fault.BadMessage) link work
hear_challenge (Ok challenge) receive link work =
    hear_pairs (pairs_by (length challenge.info == 0) challenge.info) challenge receive link work

abbrev pub hear_trailer : Option Trailer → ℕ → ℕ → Work → Heard
hear_trailer None receive link work = fails (BadPeer peer_fault.BadMessage) link work
hear_trailer (Some trailer) receive link work = hear_challenge (challenge_of trailer.value) receive link work

abbrev pub hear_result : (is_accepted : Bool) (reason : ℕ) → Option Trailer → ℕ → ℕ → Work → Heard
hear_result false reason trailer receive link work = fails (Refused (refused_cause.Rejected reason)) link work
hear_result true reason trailer receive link work = hear_trailer trailer receive link work

-- a bind_ack: its results, its trailer, and the bytes that the member receives
abbrev pub hear_ack : List (ℕ × ℕ × Syntax) → Option Trailer → ℕ → ℕ → Work → Heard
hear_ack [] trailer receive link work = fails (BadPeer peer_fault.BadMessage) link work
hear_ack (first ∷ results) trailer receive link work = hear_result (first.0 == 0) first.1 trailer receive link work

-- ---- a response that is whole

abbrev pub hear_name_by : (echoes_nothing : Bool) → List ℕ → Terms → ℕ → Work → Heard
hear_name_by true name terms link work = fails (In name terms.key 0) link work
hear_name_by false name terms link work = done (asks_echo name terms link work)

abbrev pub hear_name : Result (List ℕ) MemoRefused → Terms → ℕ → Work → Heard
hear_name (Err why) terms link work = fails (BadPeer peer_fault.BadReply) link work
hear_name (Ok name) terms link work = hear_name_by (work.task.echo == 0) name terms link work

abbrev pub hear_echo_by : (is_same : Bool) → List ℕ → Terms → ℕ → Work → Heard
hear_echo_by true name terms link work = fails (In name terms.key work.task.echo) link work
hear_echo_by false name terms link work = fails (BadPeer peer_fault.BadReply) link work

abbrev pub hear_echo : Result (List ℕ) MemoRefused → List ℕ → Terms → ℕ → Work → Heard
hear_echo (Err why) name terms link work = fails (BadPeer peer_fault.BadReply) link work
hear_echo (Ok bytes) name terms link work =
    hear_echo_by (bytes_eq bytes (echo_bytes work.task.echo)) name terms link work

abbrev pub hear_reply : Question → List ℕ → Terms → ℕ → Work → Heard
hear_reply Who stub terms link work = hear_name (who_of stub) terms link work
hear_reply (Echo name) stub terms link work = hear_echo (echo_reply_of stub) name terms link work

-- ---- a fragment of a response: what it comes to for those that are joined, and what is joined then

abbrev pub hear_joined : Result (Option RpcUnit) JoinRefused → Option RpcUnit → Terms → Question → ℕ → Work → Heard
hear_joined (Err why) joiner terms question link work = fails (BadPeer peer_fault.OutOfPlace) link work
hear_joined (Ok None) joiner terms question link work =
    heard.Done work (Some (record { link = link; joiner = joiner; phase = Asked terms question }))
hear_joined (Ok (Some whole)) joiner terms question link work = hear_reply question (stub_of whole.body) terms link work

abbrev pub hear_fragment : RpcUnit → Option RpcUnit → Terms → Question → ℕ → Work → Heard
hear_fragment unit joiner terms question link work =
    hear_joined (answer_of joiner unit) (open_after joiner unit) terms question link work

-- a unit that was opened, which is a response as it was before
abbrev pub hear_body_opened : Body → RpcUnit → Option RpcUnit → Terms → Question → ℕ → Work → Heard
hear_body_opened (Response hint context stub) unit joiner terms question link work =
    hear_fragment unit joiner terms question link work
hear_body_opened _ unit joiner terms question link work = fails (BadPeer peer_fault.OutOfPlace) link work

abbrev pub hear_unit_opened : Result RpcUnit UnitRefused → Option RpcUnit → Terms → Question → ℕ → Work → Heard
hear_unit_opened (Err why) joiner terms question link work = fails (BadPeer peer_fault.BadUnit) link work
hear_unit_opened (Ok unit) joiner terms question link work =
    hear_body_opened unit.body unit joiner terms question link work

abbrev pub hear_opened : Option Secured → Option RpcUnit → Terms → Question → ℕ → Work → Heard
hear_opened None joiner terms question link work = fails (BadPeer peer_fault.BadSeal) link work
hear_opened (Some opened) joiner terms question link work =
    hear_unit_opened (unit_of opened.bytes) joiner (record terms { session = Some opened.session }) question link work

abbrev pub hear_secured : (has_trailer_of_level : Bool) → List ℕ → SessionState → Option RpcUnit → Terms → Question → ℕ → Work → Heard
hear_secured false bytes session joiner terms question link work = fails (BadPeer peer_fault.BadSeal) link work
hear_secured true bytes session joiner terms question link work =
    hear_opened (open_unit (is_sealed work.task.level) session bytes) joiner terms question link work

-- a response, and its bytes: at the level connect a trailer is passed over
abbrev pub hear_response : Option SessionState → RpcUnit → List ℕ → Option RpcUnit → Terms → Question → ℕ → Work → Heard
hear_response None unit bytes joiner terms question link work = hear_fragment unit joiner terms question link work
hear_response (Some session) unit bytes joiner terms question link work =
    hear_secured (has_level work.task.level unit.trailer) bytes session joiner terms question link work

-- ---- a unit

abbrev pub fault_outcome : (is_no_controller : Bool) → ℕ → ClientOutcome
fault_outcome true status = NoAnswer no_answer.NoController
fault_outcome false status = Refused (refused_cause.Fault status)

-- the outcome of a unit that isn't what is waited for
abbrev pub outcome_of : Body → ClientOutcome
outcome_of (BindNak reason) = Refused (refused_cause.Nak reason)
outcome_of (Fault hint context status) = fault_outcome (status == rpc_s_server_unavailable) status
outcome_of _ = BadPeer peer_fault.OutOfPlace

-- a unit of the number that is waited for, by its body and what is waited for
abbrev pub hear_body : Body → Phase → RpcUnit → List ℕ → Option RpcUnit → ℕ → Work → Heard
hear_body (BindAck send receive group results) Bound unit bytes joiner link work =
    hear_ack results unit.trailer receive link work
hear_body (Response hint context stub) (Asked terms question) unit bytes joiner link work =
    hear_response terms.session unit bytes joiner terms question link work
hear_body body _ unit bytes joiner link work = fails (outcome_of body) link work

abbrev pub is_response : Body → Bool
is_response (Response hint context stub) = true
is_response _ = false

abbrev pub hear_call : (is_awaited_call : Bool) → RpcUnit → List ℕ → Talk → Work → Heard
hear_call false unit bytes talk work = fails (BadPeer peer_fault.OutOfPlace) talk.link work
hear_call true unit bytes talk work = hear_body unit.body talk.phase unit bytes talk.joiner talk.link work

abbrev pub hear_unit : Result RpcUnit UnitRefused → List ℕ → Talk → Work → Heard
hear_unit (Err why) bytes talk work = fails (BadPeer peer_fault.BadUnit) talk.link work
hear_unit (Ok unit) bytes talk work = hear_call (unit.call == awaited talk.phase) unit bytes talk work

abbrev pub talk_on : ℕ → Option RpcUnit → Phase → Talk
talk_on link joiner phase = record { link = link; joiner = joiner; phase = phase }

-- the bytes of a unit, before anything is drawn for it
abbrev pub hear : List ℕ → Talk → Work → Heard
hear bytes talk work = hear_unit (unit_of bytes) bytes talk work

-- ---- units of the link

abbrev pub answers_part : ServerOffer → ℕ → Work → Drawn → List (List ℕ) → ServedPart Work Talk
answers_part offer link work drawn left = Ok (record { value = answers offer drawn link work; left = left })

-- what is heard, with the challenges that are drawn for it
abbrev pub serve_heard : Heard → List (List ℕ) → ServedPart Work Talk
serve_heard (heard.Done work talk) left = Ok (record { value = (work, talk); left = left })
serve_heard (heard.Challenged work link offer) left =
    then_part (drawn_for (has_flag offer.flags negotiate_key_exch) left) (answers_part offer link work)

abbrev pub serve_unit : List ℕ → Service Work Talk
serve_unit bytes work talk left = serve_heard (hear bytes talk work) left

abbrev pub serve_refusal : UnitRefused → Work → Talk → List (List ℕ) → Result (Part Work) StepRefused
serve_refusal why work talk left =
    Ok (record { value = closed_with (BadPeer peer_fault.BadUnit) talk.link work; left = left })

abbrev pub client_server : Server Work Talk
client_server = record { unit = serve_unit; refusal = serve_refusal }

-- ---- events

abbrev pub stays : ClientLink → Work → List (List ℕ) → Result (Part After) StepRefused
stays standing work left = Ok (record { value = record { standing = standing; work = work }; left = left })

-- the link on which the bind is sent
abbrev pub fresh_link : ℕ → LinkState Talk
fresh_link link = record { rest = []; talk = record { link = link; joiner = None; phase = Bound } }

abbrev pub binds : ℕ → Work → Work
binds link work = told work (action.Send link (written (bind_for work.task.level work.task.auth)))

abbrev pub standing_by : Option Talk → List ℕ → ClientLink
standing_by None rest = Idle
standing_by (Some talk) rest = On (record { rest = rest; talk = talk })

abbrev pub after_stream : List ℕ → Work × Option Talk → List (List ℕ) → Result (Part After) StepRefused
after_stream rest served left = stays (standing_by served.1 rest) served.0 left

abbrev pub by_piece : (is_own_link : Bool) → List ℕ → LinkState Talk → Work → List (List ℕ) → Result (Part After) StepRefused
by_piece false piece link work left = stays (On link) work left
by_piece true piece link work left =
    then_part (served_cut client_server (cut_stream (link.rest ++ piece)) work link.talk left)
    (after_stream (cut_stream (link.rest ++ piece)).rest)

abbrev pub by_close : (is_own_link : Bool) → LinkState Talk → Work → List (List ℕ) → Result (Part After) StepRefused
by_close false link work left = stays (On link) work left
by_close true link work left = stays Idle (concluded (NoAnswer no_answer.LinkClosed) work) left

-- A link that is opened under the number of the client's own shows that the client's was closed. The client accepts no
-- links.
abbrev pub by_event : Event → ClientLink → Work → List (List ℕ) → Result (Part After) StepRefused
by_event (event.Dialled link) Dialling work left = stays (On (fresh_link link)) (binds link work) left
by_event event.DialFailed Dialling work left = stays Idle (concluded (NoAnswer no_answer.DialFailed) work) left
by_event (event.Bytes link piece) (On own) work left = by_piece (link == own.talk.link) piece own work left
by_event (event.Closed link) (On own) work left = by_close (link == own.talk.link) own work left
by_event (event.Opened link) (On own) work left = by_close (link == own.talk.link) own work left
by_event _ standing work left = stays standing work left

-- ---- the client

abbrev pub fresh_client : ClientPlan → State
fresh_client plan = record { running = Some (record { task = plan; standing = Idle }); outcome = None }

-- a client that gave a step up
abbrev pub halted : State → State
halted s = record s { running = None }

-- what the client begins with
pub record Beginning : Type 0 where
  pub actions : List Action
  pub state : State

abbrev pub begin_by : Option Running → State → Beginning
begin_by None s = record { actions = []; state = s }
begin_by (Some running) s = record {
  actions = action.Dial running.task.server ∷ [];
  state = record s { running = Some (record running { standing = Dialling }) };
}

abbrev pub begin_of : State → Beginning
begin_of s = begin_by s.running s

abbrev pub work_of : ClientPlan → ℕ → Work
work_of plan now = record { task = plan; now = now; outcome = None; actions = [] }

abbrev pub actions_after : After → List Action
actions_after after = after.work.actions

abbrev pub state_after : After → State
state_after after = record {
  running = Some (record { task = after.work.task; standing = after.standing });
  outcome = after.work.outcome;
}

-- after its outcome a client does nothing
abbrev pub step_by_outcome : Option ClientOutcome → Running → State → Event → ℕ → List (List ℕ) → Stepped State
step_by_outcome (Some outcome) running s what now left = whole_step left left [] s
step_by_outcome None running s what now left =
    step_by actions_after state_after (halted s) left (by_event what running.standing (work_of running.task now) left)

abbrev pub step_by_running : Option Running → State → Event → ℕ → List (List ℕ) → Stepped State
step_by_running None s what now left = stopped_step left s
step_by_running (Some running) s what now left = step_by_outcome s.outcome running s what now left

-- the step for an event at a moment, with the challenges that are left
abbrev pub step_of : State → Event → ℕ → List (List ℕ) → Stepped State
step_of s what now left = step_by_running s.running s what now left

-- ---- the machine

-- the link that is waited for: the client's own, while it is open
abbrev pub link_of : ClientLink → Option ℕ
link_of Idle = None
link_of Dialling = None
link_of (On link) = Some link.talk.link

abbrev pub want_by : Option Running → Option ℕ
want_by None = None
want_by (Some running) = link_of running.standing

abbrev pub has_outcome : Option ClientOutcome → Bool
has_outcome None = false
has_outcome (Some outcome) = true

abbrev pub is_running : Option Running → Bool
is_running None = false
is_running (Some running) = true

-- no line is put for an action
abbrev pub client_machine : Machine State
client_machine = record {
  step = step_of;
  want = λ s. want_by s.running;
  is_over = λ s. has_outcome s.outcome;
  line = λ what. [];
}

-- how many more events the client's steps for links closed and dialled may make: its bind may fail to be sent, while
-- its dial waits
abbrev pub pending_on : ClientLink → ℕ
pending_on Idle = 0
pending_on Dialling = 1
pending_on (On link) = 0

abbrev pub pending_by : Option Running → ℕ
pending_by None = 0
pending_by (Some running) = pending_on running.standing

abbrev pub pending_of : State → ℕ
pending_of s = pending_by s.running
