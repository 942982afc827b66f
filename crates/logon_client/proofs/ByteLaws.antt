-- What a client sends is bytes, and no more than an end sends at once.
use Rattle.std.proofs.Common.{◌≡◌, ℕ, ◌==◌, Bool, true, false, List, [], ◌∷◌, ◌++◌, length, Option, Some, None, Result, Ok, Err, refl, arith}
use Rattle.std.specs.List.{AllByRecursion}
use Rattle.wire_base.specs.Numbers.{AreBytes}
use Rattle.wire_base.proofs.NumberLaws.{AreBytes-append, AreBytes-nil}
use Rattle.ntlm_flags.specs.Flags.{agreed_flags, has_flag, negotiate_key_exch}
use Rattle.ntlm_messages.specs.Challenge.{challenge_of}
use Rattle.ntlm_messages.specs.declared.messages.Challenge.{Challenge}
use Rattle.ntlm_messages.specs.declared.pairs.PairsRefused.{PairsRefused}
use Rattle.ntlm_messages.specs.declared.refused.MessageRefused.{MessageRefused}
use Rattle.outside.specs.declared.action.Action.{Action}
use Rattle.outside.specs.declared.action.Action.TheVariants as action
use Rattle.outside.specs.declared.action.CloseCause.TheVariants.{CallDone}
use Rattle.outside.specs.declared.action.StepRefused.{StepRefused}
use Rattle.outside.specs.declared.event.Event.{Event}
use Rattle.outside.specs.declared.event.Event.TheVariants as event
use Rattle.outside.specs.Machine.{Part, Stepped, step_by, then_part}
use Rattle.rpc_units.specs.declared.refused.UnitRefused.{UnitRefused}
use Rattle.rpc_units.specs.declared.unit.Body.{Body}
use Rattle.rpc_units.specs.declared.unit.Body.TheVariants.{Bind, BindAck, BindNak, Auth3, Request, Response, Fault}
use Rattle.rpc_units.specs.declared.unit.Syntax.{Syntax}
use Rattle.rpc_units.specs.declared.unit.Trailer.{Trailer}
use Rattle.rpc_units.specs.declared.unit.Unit.{Unit as RpcUnit}
use Rattle.rpc_units.specs.Reading.{unit_of}
use Rattle.rpc_units.specs.Stream.{Cut, cut_stream}
use Rattle.memo_stubs.specs.Memo.{written_echo_request}
use Rattle.end_links.specs.Binding.{limit_of}
use Rattle.end_links.specs.Links.{LinkState}
use Rattle.end_links.specs.Serving.{ServedPart, served_by}
use Rattle.end_links.proofs.KeepLaws.{StaysAmong, served_among}
use Rattle.end_links.proofs.WholeLaws.{cut_bytes, limit_bounds}
use Rattle.end_loop.specs.Runs.{actions_of}
use Rattle.logon_client.specs.declared.answering.Drawn.{Drawn}
use Rattle.logon_client.specs.declared.answering.ServerOffer.{ServerOffer}
use Rattle.logon_client.specs.declared.hearing.Heard.{Heard}
use Rattle.logon_client.specs.declared.hearing.Heard.TheVariants as heard
use Rattle.logon_client.specs.declared.outcome.ClientOutcome.{ClientOutcome}
use Rattle.logon_client.specs.declared.outcome.ClientOutcome.TheVariants.{BadPeer}
use Rattle.logon_client.specs.declared.outcome.PeerFault.TheVariants as peer_fault
use Rattle.logon_client.specs.declared.securing.Sending.{Sending}
use Rattle.logon_client.specs.declared.state.After.{After}
use Rattle.logon_client.specs.declared.state.ClientLink.{ClientLink}
use Rattle.logon_client.specs.declared.state.ClientLink.TheVariants.{Idle, Dialling, On}
use Rattle.logon_client.specs.declared.state.Phase.{Phase}
use Rattle.logon_client.specs.declared.state.Phase.TheVariants.{Bound, Asked}
use Rattle.logon_client.specs.declared.state.Question.{Question}
use Rattle.logon_client.specs.declared.state.Question.TheVariants.{Who, Echo}
use Rattle.logon_client.specs.declared.state.Running.{Running}
use Rattle.logon_client.specs.declared.state.Talk.{Talk}
use Rattle.logon_client.specs.declared.state.Terms.{Terms}
use Rattle.logon_client.specs.declared.state.Work.{Work}
use Rattle.logon_client.specs.Answering.{answer_of as answer_to, auth3_of, drawn_for, is_enough, pairs_by}
use Rattle.logon_client.specs.Asked.{HoldsOf, body_holds}
use Rattle.logon_client.specs.Machine.{actions_after, after_stream, answers, answers_by, answers_part, asks, asks_echo, asks_who, by_close, by_event, by_piece, client_server, closed_with, echo_bytes, echo_number, echo_opnum, ends, halted, hear, hear_ack, hear_body, hear_call, hear_challenge, hear_flags, hear_pairs, hear_result, hear_trailer, hear_unit, serve_heard, standing_by, state_after, step_by_outcome, step_by_running, step_of, terms_of, told, who_number, who_opnum, work_of}
use Rattle.logon_client.specs.Plans.{CanLogOn, offer_of}
use Rattle.logon_client.specs.SendsBytes.{ClientsSendBytes, InRangeEvent, InRangeLink, InRangeRunning, InRangeUnlessStopped, IsByteIfSent}
use Rattle.logon_client.specs.State.{State}
use Rattle.logon_client.proofs.ByteParts.{IfBytes, IfSending, IsDrawn, auth3_sends, bind_sends, call_sends, echo_fits, info_are, level_small, trailer_are}

-- ---- work

-- the plan is one that a client can follow, and what was sent is bytes
pub record WorkFits (work : Work) : Type 0 where
  pub task : CanLogOn work.task
  pub sends : AllByRecursion IsByteIfSent work.actions

with_one : (actions : List Action) (what : Action) → AllByRecursion IsByteIfSent actions → IsByteIfSent what → AllByRecursion IsByteIfSent (actions ++ what ∷ [])
with_one [] what all is = (is, tt)
with_one (first ∷ actions) what all is = (all.0, with_one actions what all.1 is)

told_fits : (what : Action) (work : Work) → WorkFits work → IsByteIfSent what → WorkFits (told work what)
told_fits what work fits is = record { task = fits.task; sends = with_one work.actions what fits.sends is }

closed_fits : (outcome : ClientOutcome) (link : ℕ) (work : Work) → WorkFits work → WorkFits (closed_with outcome link work)
closed_fits outcome link work fits = record { task = fits.task; sends = with_one work.actions (action.Close link CallDone) fits.sends tt }

-- ---- calls

asks_fits : (sending : Option Sending) (terms : Terms) (question : Question) (link : ℕ) (work : Work) → WorkFits work → IfSending sending → WorkFits (asks sending terms question link work).0
asks_fits None terms question link work fits is = closed_fits (BadPeer peer_fault.BadSeal) link work fits
asks_fits (Some sending) terms question link work fits is = told_fits (action.Send link sending.bytes) work fits is

who_fits : (terms : Terms) (link : ℕ) (work : Work) → WorkFits work → WorkFits (asks_who terms link work).0
who_fits terms link work fits =
    asks_fits _ terms Who link work fits
    (call_sends terms.session work.task.level who_number 0 who_opnum (limit_of terms.receive) [] (level_small work.task.level fits.task.level) (limit_bounds terms.receive).0 AreBytes-nil (omega arith))

echoes_fit : (name : List ℕ) (terms : Terms) (link : ℕ) (work : Work) → WorkFits work → WorkFits (asks_echo name terms link work).0
echoes_fit name terms link work fits =
    let stub = echo_fits work.task.echo fits.task.echo in
    asks_fits _ terms (Echo name) link work fits
    (call_sends terms.session work.task.level echo_number 0 echo_opnum (limit_of terms.receive) (written_echo_request (echo_bytes work.task.echo))
    (level_small work.task.level fits.task.level) (limit_bounds terms.receive).0 stub.0 stub.1)

-- ---- the answer to a CHALLENGE

answers_by_fits : (auth3 : Option (List ℕ)) (terms : Terms) (link : ℕ) (work : Work) → WorkFits work → IfBytes auth3 → WorkFits (answers_by auth3 terms link work).0
answers_by_fits None terms link work fits is = closed_fits (BadPeer peer_fault.BadMessage) link work fits
answers_by_fits (Some auth3) terms link work fits is = who_fits terms link (told work (action.Send link auth3)) (told_fits (action.Send link auth3) work fits is)

answers_fit : (offer : ServerOffer) (drawn : Drawn) (link : ℕ) (work : Work) → WorkFits work → IsDrawn drawn → AreBytes offer.info → WorkFits (answers offer drawn link work).0
answers_fit offer drawn link work fits is info =
    answers_by_fits (auth3_of work.task.level (answer_to work.task offer drawn).message) (terms_of work.task.level offer (answer_to work.task offer drawn).key) link work fits
    (auth3_sends work.task.level work.task offer drawn (level_small work.task.level fits.task.level) is info)

-- ---- what is heard

abbrev HeardFits : Heard → Type 0
HeardFits (heard.Done work talk) = WorkFits work
HeardFits (heard.Challenged work link offer) = WorkFits work × AreBytes offer.info

flags_fit : (enough : Bool) (offer : ServerOffer) (link : ℕ) (work : Work) → WorkFits work → AreBytes offer.info → HeardFits (hear_flags enough offer link work)
flags_fit false offer link work fits info = closed_fits _ link work fits
flags_fit true offer link work fits info = (fits, info)

pairs_fit : (pairs : Result (List (ℕ × List ℕ)) PairsRefused) (challenge : Challenge) (receive link : ℕ) (work : Work) → WorkFits work → AreBytes challenge.info →
    HeardFits (hear_pairs pairs challenge receive link work)
pairs_fit (Err why) challenge receive link work fits info = closed_fits _ link work fits
pairs_fit (Ok pairs) challenge receive link work fits info =
    flags_fit (is_enough work.task.level work.task.auth (agreed_flags (offer_of work.task.auth) challenge.flags)) _ link work fits info

challenge_fits : (challenge : Result Challenge MessageRefused) (bytes : List ℕ) (receive link : ℕ) (work : Work) → challenge_of bytes ≡ challenge → AreBytes bytes → WorkFits work →
    HeardFits (hear_challenge challenge receive link work)
challenge_fits (Err why) bytes receive link work is are fits = closed_fits _ link work fits
challenge_fits (Ok challenge) bytes receive link work is are fits =
    pairs_fit (pairs_by (length challenge.info == 0) challenge.info) challenge receive link work fits (info_are bytes challenge are is)

trailer_fits : (trailer : Option Trailer) (receive link : ℕ) (work : Work) → ((t : Trailer) → trailer ≡ Some t → AreBytes t.value) → WorkFits work →
    HeardFits (hear_trailer trailer receive link work)
trailer_fits None receive link work are fits = closed_fits _ link work fits
trailer_fits (Some trailer) receive link work are fits = challenge_fits (challenge_of trailer.value) trailer.value receive link work refl (are trailer refl) fits

result_fits : (accepted : Bool) (reason : ℕ) (trailer : Option Trailer) (receive link : ℕ) (work : Work) → ((t : Trailer) → trailer ≡ Some t → AreBytes t.value) → WorkFits work →
    HeardFits (hear_result accepted reason trailer receive link work)
result_fits false reason trailer receive link work are fits = closed_fits _ link work fits
result_fits true reason trailer receive link work are fits = trailer_fits trailer receive link work are fits

ack_fits : (results : List (ℕ × ℕ × Syntax)) (trailer : Option Trailer) (receive link : ℕ) (work : Work) → ((t : Trailer) → trailer ≡ Some t → AreBytes t.value) → WorkFits work →
    HeardFits (hear_ack results trailer receive link work)
ack_fits [] trailer receive link work are fits = closed_fits _ link work fits
ack_fits (first ∷ results) trailer receive link work are fits = result_fits (first.0 == 0) first.1 trailer receive link work are fits

asked_fits : (link : ℕ) (work : Work) → WorkFits work → HoldsOf HeardFits link work
asked_fits link work fits = record {
  ends = λ outcome. closed_fits outcome link work fits;
  echoes = λ name terms. echoes_fit name terms link work fits;
  goes_on = λ joiner terms question. fits;
}

body_fits : (body : Body) (phase : Phase) (unit : RpcUnit) (bytes : List ℕ) (joiner : Option RpcUnit) (link : ℕ) (work : Work) →
    ((t : Trailer) → unit.trailer ≡ Some t → AreBytes t.value) → WorkFits work → HeardFits (hear_body body phase unit bytes joiner link work)
body_fits body (Asked terms question) unit bytes joiner link work are fits = body_holds HeardFits body terms question unit bytes joiner link work (asked_fits link work fits)
body_fits (Bind send receive group contexts) Bound unit bytes joiner link work are fits = closed_fits _ link work fits
body_fits (BindAck send receive group results) Bound unit bytes joiner link work are fits = ack_fits results unit.trailer receive link work are fits
body_fits (BindNak reason) Bound unit bytes joiner link work are fits = closed_fits _ link work fits
body_fits Auth3 Bound unit bytes joiner link work are fits = closed_fits _ link work fits
body_fits (Request hint context opnum stub) Bound unit bytes joiner link work are fits = closed_fits _ link work fits
body_fits (Response hint context stub) Bound unit bytes joiner link work are fits = closed_fits _ link work fits
body_fits (Fault hint context status) Bound unit bytes joiner link work are fits = closed_fits _ link work fits

call_fits : (same : Bool) (unit : RpcUnit) (bytes : List ℕ) (talk : Talk) (work : Work) → ((t : Trailer) → unit.trailer ≡ Some t → AreBytes t.value) → WorkFits work →
    HeardFits (hear_call same unit bytes talk work)
call_fits false unit bytes talk work are fits = closed_fits _ talk.link work fits
call_fits true unit bytes talk work are fits = body_fits unit.body talk.phase unit bytes talk.joiner talk.link work are fits

unit_fits : (unit : Result RpcUnit UnitRefused) (bytes : List ℕ) (talk : Talk) (work : Work) → unit_of bytes ≡ unit → AreBytes bytes → WorkFits work → HeardFits (hear_unit unit bytes talk work)
unit_fits (Err why) bytes talk work is are fits = closed_fits _ talk.link work fits
unit_fits (Ok unit) bytes talk work is are fits = call_fits _ unit bytes talk work (λ trailer there. trailer_are bytes unit trailer are is there) fits

-- ---- the units of the link

abbrev PartFits : ServedPart Work Talk → Type 0
PartFits (Err why) = Unit {0}
PartFits (Ok part) = WorkFits part.value.0 × AllByRecursion AreBytes part.left

abbrev DrawnFits : Result (Part Drawn) StepRefused → Type 0
DrawnFits (Err why) = Unit {0}
DrawnFits (Ok part) = IsDrawn part.value × AllByRecursion AreBytes part.left

drawn_fits : (chooses : Bool) (left : List (List ℕ)) → AllByRecursion AreBytes left → DrawnFits (drawn_for chooses left)
drawn_fits false [] all = tt
drawn_fits false (client ∷ left) all = (record { client = all.0; chosen = tt }, all.1)
drawn_fits true [] all = tt
drawn_fits true (client ∷ []) all = tt
drawn_fits true (client ∷ first ∷ []) all = tt
drawn_fits true (client ∷ first ∷ second ∷ left) all = (record { client = all.0; chosen = AreBytes-append first second all.1.0 all.1.1.0 }, all.1.1.1)

drawn_part : (part : Result (Part Drawn) StepRefused) (offer : ServerOffer) (link : ℕ) (work : Work) → DrawnFits part → WorkFits work → AreBytes offer.info →
    PartFits (then_part part (answers_part offer link work))
drawn_part (Err why) offer link work is fits info = tt
drawn_part (Ok part) offer link work is fits info = (answers_fit offer part.value link work fits is.0 info, is.1)

heard_part : (what : Heard) (left : List (List ℕ)) → HeardFits what → AllByRecursion AreBytes left → PartFits (serve_heard what left)
heard_part (heard.Done work talk) left fits all = (fits, all)
heard_part (heard.Challenged work link offer) left fits all =
    drawn_part (drawn_for (has_flag offer.flags negotiate_key_exch) left) offer link work (drawn_fits (has_flag offer.flags negotiate_key_exch) left all) fits.0 fits.1

fits_stay : StaysAmong client_server AreBytes PartFits
fits_stay = record {
  spent = λ why. tt;
  unit = λ bytes work talk left are fits. heard_part (hear bytes talk work) left (unit_fits (unit_of bytes) bytes talk work refl are fits.0) fits.1;
  refusal = λ why work talk left fits. (closed_fits (BadPeer peer_fault.BadUnit) talk.link work fits.0, fits.1);
}

-- ---- events

abbrev AfterFits : Result (Part After) StepRefused → Type 0
AfterFits (Err why) = Unit {0}
AfterFits (Ok part) = WorkFits part.value.work × InRangeLink part.value.standing

stands_by : (talk : Option Talk) (rest : List ℕ) → AreBytes rest → InRangeLink (standing_by talk rest)
stands_by None rest are = tt
stands_by (Some talk) rest are = are

stream_fits : (rest : List ℕ) (part : ServedPart Work Talk) → AreBytes rest → PartFits part → AfterFits (then_part part (after_stream rest))
stream_fits rest (Err why) are fits = tt
stream_fits rest (Ok part) are fits = (fits.0, stands_by part.value.1 rest are)

cut_fits : (cut : Cut) (link : LinkState Talk) (work : Work) (left : List (List ℕ)) → AllByRecursion AreBytes cut.units × AreBytes cut.rest → WorkFits work → AllByRecursion AreBytes left →
    AfterFits (then_part (served_by client_server cut.units cut.refused work link.talk left) (after_stream cut.rest))
cut_fits cut link work left bytes fits all =
    stream_fits cut.rest (served_by client_server cut.units cut.refused work link.talk left) bytes.1
    (served_among client_server AreBytes PartFits fits_stay cut work link.talk left bytes.0 (fits, all))

piece_fits : (own : Bool) (piece : List ℕ) (link : LinkState Talk) (work : Work) (left : List (List ℕ)) → AreBytes link.rest → AreBytes piece → WorkFits work → AllByRecursion AreBytes left →
    AfterFits (by_piece own piece link work left)
piece_fits false piece link work left rest are fits all = (fits, rest)
piece_fits true piece link work left rest are fits all =
    cut_fits (cut_stream (link.rest ++ piece)) link work left (cut_bytes (link.rest ++ piece) (AreBytes-append link.rest piece rest are)) fits all

close_fits : (own : Bool) (link : LinkState Talk) (work : Work) (left : List (List ℕ)) → AreBytes link.rest → WorkFits work → AfterFits (by_close own link work left)
close_fits false link work left rest fits = (fits, rest)
close_fits true link work left rest fits = (record { task = fits.task; sends = fits.sends }, tt)

event_fits : (what : Event) (standing : ClientLink) (work : Work) (left : List (List ℕ)) → InRangeEvent what left → InRangeLink standing → WorkFits work → AfterFits (by_event what standing work left)
event_fits (event.Opened link) Idle work left comes stands fits = (fits, tt)
event_fits (event.Opened link) Dialling work left comes stands fits = (fits, tt)
event_fits (event.Opened link) (On own) work left comes stands fits = close_fits (link == own.talk.link) own work left stands fits
event_fits (event.Bytes link piece) Idle work left comes stands fits = (fits, tt)
event_fits (event.Bytes link piece) Dialling work left comes stands fits = (fits, tt)
event_fits (event.Bytes link piece) (On own) work left comes stands fits = piece_fits (link == own.talk.link) piece own work left stands comes.bytes fits comes.challenges
event_fits (event.Closed link) Idle work left comes stands fits = (fits, tt)
event_fits (event.Closed link) Dialling work left comes stands fits = (fits, tt)
event_fits (event.Closed link) (On own) work left comes stands fits = close_fits (link == own.talk.link) own work left stands fits
event_fits (event.Dialled link) Idle work left comes stands fits = (fits, tt)
event_fits (event.Dialled link) Dialling work left comes stands fits =
    (told_fits (action.Send link _) work fits (bind_sends work.task.level work.task.auth (level_small work.task.level fits.task.level)), AreBytes-nil)
event_fits (event.Dialled link) (On own) work left comes stands fits = (fits, stands)
event_fits event.DialFailed Idle work left comes stands fits = (fits, tt)
event_fits event.DialFailed Dialling work left comes stands fits = (record { task = fits.task; sends = fits.sends }, tt)
event_fits event.DialFailed (On own) work left comes stands fits = (fits, stands)
event_fits event.Stop Idle work left comes stands fits = (fits, tt)
event_fits event.Stop Dialling work left comes stands fits = (fits, tt)
event_fits event.Stop (On own) work left comes stands fits = (fits, stands)

-- ---- steps

pub record StepFits (step : Stepped State) : Type 0 where
  pub sends : AllByRecursion IsByteIfSent (actions_of step)
  pub range : InRangeUnlessStopped step.state.running

after_fits : (s : State) (left : List (List ℕ)) (part : Result (Part After) StepRefused) → AfterFits part → StepFits (step_by actions_after state_after (halted s) left part)
after_fits s left (Err why) fits = record { sends = tt; range = tt }
after_fits s left (Ok part) fits = record { sends = fits.0.sends; range = record { task = fits.0.task; standing = fits.1 } }

outcome_fits : (outcome : Option ClientOutcome) (running : Running) (s : State) (what : Event) (now : ℕ) (left : List (List ℕ)) → InRangeEvent what left →
    InRangeUnlessStopped s.running → InRangeRunning running → StepFits (step_by_outcome outcome running s what now left)
outcome_fits (Some outcome) running s what now left comes was range = record { sends = tt; range = was }
outcome_fits None running s what now left comes was range =
    after_fits s left (by_event what running.standing (work_of running.task now) left)
    (event_fits what running.standing (work_of running.task now) left comes range.standing (record { task = range.task; sends = tt }))

running_fits : (r : Option Running) (s : State) (what : Event) (now : ℕ) (left : List (List ℕ)) → InRangeEvent what left → InRangeUnlessStopped s.running →
    InRangeUnlessStopped r → StepFits (step_by_running r s what now left)
running_fits None s what now left comes was range = record { sends = tt; range = was }
running_fits (Some running) s what now left comes was range = outcome_fits s.outcome running s what now left comes was range

step_fits : (s : State) (what : Event) (now : ℕ) (left : List (List ℕ)) → InRangeUnlessStopped s.running → InRangeEvent what left → StepFits (step_of s what now left)
step_fits s what now left range comes = running_fits s.running s what now left comes range range

pub clients_send_bytes : ClientsSendBytes
clients_send_bytes = record {
  first = λ plan can. record { task = can; standing = tt };
  sends = λ s what now left range comes. (step_fits s what now left range comes).sends;
  keeps = λ s what now left range comes. (step_fits s what now left range comes).range;
}
