-- A client tells nothing.
-- It serves `State::put_answered`, `State::shut_link`, `World::new` and 3 more.
use Rattle.std.proofs.Common.{ℕ, ◌≡◌, ◌==◌, Bool, true, false, List, [], ◌∷◌, ◌++◌, Option, Some, None, Result, Ok, Err, refl, arith}
use Rattle.ntlm_flags.specs.Flags.{has_flag, agreed_flags, negotiate_key_exch}
use Rattle.ntlm_messages.specs.Challenge.{challenge_of}
use Rattle.ntlm_messages.specs.declared.messages.Challenge.{Challenge}
use Rattle.ntlm_messages.specs.declared.pairs.PairsRefused.{PairsRefused}
use Rattle.ntlm_messages.specs.declared.refused.MessageRefused.{MessageRefused}
use Rattle.outside.specs.declared.action.Action.TheVariants as action
use Rattle.outside.specs.declared.action.CloseCause.TheVariants.{CallDone}
use Rattle.outside.specs.declared.action.StepRefused.{StepRefused}
use Rattle.outside.specs.declared.event.Event.{Event}
use Rattle.outside.specs.declared.event.Event.TheVariants as event
use Rattle.outside.specs.Machine.{Part, step_by, then_part}
use Rattle.rpc_units.specs.declared.refused.UnitRefused.{UnitRefused}
use Rattle.rpc_units.specs.declared.unit.Body.{Body}
use Rattle.rpc_units.specs.declared.unit.Body.TheVariants.{Bind, BindAck, BindNak, Auth3, Request, Response, Fault}
use Rattle.rpc_units.specs.declared.unit.Syntax.{Syntax}
use Rattle.rpc_units.specs.declared.unit.Trailer.{Trailer}
use Rattle.rpc_units.specs.declared.unit.Unit.{Unit as RpcUnit}
use Rattle.rpc_units.specs.Reading.{unit_of}
use Rattle.rpc_units.specs.Stream.{cut_stream}
use Rattle.end_links.specs.Links.{LinkState}
use Rattle.end_links.specs.Serving.{ServedPart, served_cut}
use Rattle.end_links.proofs.KeepLaws.{StaysServing, served_stays}
use Rattle.logon_client.specs.declared.answering.Drawn.{Drawn}
use Rattle.logon_client.specs.declared.answering.ServerOffer.{ServerOffer}
use Rattle.logon_client.specs.declared.hearing.Heard.{Heard}
use Rattle.logon_client.specs.declared.hearing.Heard.TheVariants as heard
use Rattle.logon_client.specs.declared.outcome.ClientOutcome.{ClientOutcome}
use Rattle.logon_client.specs.declared.securing.Sending.{Sending}
use Rattle.logon_client.specs.declared.state.After.{After}
use Rattle.logon_client.specs.declared.state.Phase.{Phase}
use Rattle.logon_client.specs.declared.state.Phase.TheVariants.{Bound, Asked}
use Rattle.logon_client.specs.declared.state.Question.{Question}
use Rattle.logon_client.specs.declared.state.Question.TheVariants.{Who, Echo}
use Rattle.logon_client.specs.declared.state.Running.{Running}
use Rattle.logon_client.specs.declared.state.ClientLink.{ClientLink}
use Rattle.logon_client.specs.declared.state.ClientLink.TheVariants.{Idle, Dialling, On}
use Rattle.logon_client.specs.declared.state.Talk.{Talk}
use Rattle.logon_client.specs.declared.state.Terms.{Terms}
use Rattle.logon_client.specs.declared.state.Work.{Work}
use Rattle.logon_client.specs.Answering.{is_enough, drawn_for, answer_of as answer_to, auth3_of}
use Rattle.logon_client.specs.Asked.{HoldsOf, response_holds}
use Rattle.logon_client.specs.Machine.{actions_after, after_stream, answers, answers_by, answers_part, asks, by_close, by_event, by_piece, client_server, halted, hear, hear_ack, hear_body, hear_call, hear_challenge, hear_flags, hear_pairs, hear_result, hear_trailer, hear_unit, serve_heard, state_after, step_by_outcome, step_by_running, step_of, told, work_of}
use Rattle.logon_client.specs.Plans.{offer_of}
use Rattle.logon_client.specs.State.{State}
use Rattle.world_moves.specs.Ends.{actions_by}
use Rattle.world_moves.specs.Telling.{told_by}
use Rattle.world_moves.proofs.TellingLaws.{told_more}

-- nothing was told
abbrev pub IsMute : Work → Type 0
IsMute work = told_by work.actions ≡ 0

sent_mute : (link : ℕ) (bytes : List ℕ) (work : Work) → IsMute work → IsMute (told work (action.Send link bytes))
sent_mute link bytes work mute = omega (arith, mute, told_more work.actions (action.Send link bytes))

shut_mute : (link : ℕ) (work : Work) → IsMute work → told_by (work.actions ++ action.Close link CallDone ∷ []) ≡ 0
shut_mute link work mute = omega (arith, mute, told_more work.actions (action.Close link CallDone))

asks_mute : (sending : Option Sending) (terms : Terms) (question : Question) (link : ℕ) (work : Work) → IsMute work → IsMute (asks sending terms question link work).0
asks_mute None terms question link work mute = shut_mute link work mute
asks_mute (Some sending) terms question link work mute = sent_mute link sending.bytes work mute

answers_by_mute : (auth3 : Option (List ℕ)) (terms : Terms) (link : ℕ) (work : Work) → IsMute work → IsMute (answers_by auth3 terms link work).0
answers_by_mute None terms link work mute = shut_mute link work mute
answers_by_mute (Some auth3) terms link work mute = asks_mute _ terms Who link (told work (action.Send link auth3)) (sent_mute link auth3 work mute)

answers_mute : (offer : ServerOffer) (drawn : Drawn) (link : ℕ) (work : Work) → IsMute work → IsMute (answers offer drawn link work).0
answers_mute offer drawn link work mute = answers_by_mute (auth3_of work.task.level (answer_to work.task offer drawn).message) _ link work mute

-- ---- what is heard

abbrev pub HearsMute : Heard → Type 0
HearsMute (heard.Done work talk) = IsMute work
HearsMute (heard.Challenged work number offer) = IsMute work

flags_mute : (enough : Bool) (offer : ServerOffer) (link : ℕ) (work : Work) → IsMute work → HearsMute (hear_flags enough offer link work)
flags_mute false offer link work mute = shut_mute link work mute
flags_mute true offer link work mute = mute

pairs_mute : (pairs : Result (List (ℕ × List ℕ)) PairsRefused) (challenge : Challenge) (receive link : ℕ) (work : Work) → IsMute work →
    HearsMute (hear_pairs pairs challenge receive link work)
pairs_mute (Err why) challenge receive link work mute = shut_mute link work mute
pairs_mute (Ok pairs) challenge receive link work mute = flags_mute (is_enough work.task.level work.task.auth (agreed_flags (offer_of work.task.auth) challenge.flags)) _ link work mute

challenge_mute : (challenge : Result Challenge MessageRefused) (receive link : ℕ) (work : Work) → IsMute work → HearsMute (hear_challenge challenge receive link work)
challenge_mute (Err why) receive link work mute = shut_mute link work mute
challenge_mute (Ok challenge) receive link work mute = pairs_mute _ challenge receive link work mute

trailer_mute : (trailer : Option Trailer) (receive link : ℕ) (work : Work) → IsMute work → HearsMute (hear_trailer trailer receive link work)
trailer_mute None receive link work mute = shut_mute link work mute
trailer_mute (Some trailer) receive link work mute = challenge_mute (challenge_of trailer.value) receive link work mute

result_mute : (accepted : Bool) (reason : ℕ) (trailer : Option Trailer) (receive link : ℕ) (work : Work) → IsMute work → HearsMute (hear_result accepted reason trailer receive link work)
result_mute false reason trailer receive link work mute = shut_mute link work mute
result_mute true reason trailer receive link work mute = trailer_mute trailer receive link work mute

ack_mute : (results : List (ℕ × ℕ × Syntax)) (trailer : Option Trailer) (receive link : ℕ) (work : Work) → IsMute work → HearsMute (hear_ack results trailer receive link work)
ack_mute [] trailer receive link work mute = shut_mute link work mute
ack_mute (first ∷ results) trailer receive link work mute = result_mute (first.0 == 0) first.1 trailer receive link work mute

asked_mute : (link : ℕ) (work : Work) → IsMute work → HoldsOf HearsMute link work
asked_mute link work mute = record {
  ends = λ outcome. shut_mute link work mute;
  echoes = λ name terms. asks_mute _ terms (Echo name) link work mute;
  goes_on = λ joiner terms question. mute;
}

body_mute : (body : Body) (phase : Phase) (unit : RpcUnit) (bytes : List ℕ) (joiner : Option RpcUnit) (link : ℕ) (work : Work) → IsMute work →
    HearsMute (hear_body body phase unit bytes joiner link work)
body_mute (Bind send receive group contexts) phase unit bytes joiner link work mute = shut_mute link work mute
body_mute (BindAck send receive group results) Bound unit bytes joiner link work mute = ack_mute results unit.trailer receive link work mute
body_mute (BindAck send receive group results) (Asked terms question) unit bytes joiner link work mute = shut_mute link work mute
body_mute (BindNak reason) phase unit bytes joiner link work mute = shut_mute link work mute
body_mute Auth3 phase unit bytes joiner link work mute = shut_mute link work mute
body_mute (Request hint context opnum stub) phase unit bytes joiner link work mute = shut_mute link work mute
body_mute (Response hint context stub) Bound unit bytes joiner link work mute = shut_mute link work mute
body_mute (Response hint context stub) (Asked terms question) unit bytes joiner link work mute =
    response_holds HearsMute terms.session unit bytes joiner terms question link work (asked_mute link work mute)
body_mute (Fault hint context status) phase unit bytes joiner link work mute = shut_mute link work mute

call_mute : (same : Bool) (unit : RpcUnit) (bytes : List ℕ) (talk : Talk) (work : Work) → IsMute work → HearsMute (hear_call same unit bytes talk work)
call_mute false unit bytes talk work mute = shut_mute talk.link work mute
call_mute true unit bytes talk work mute = body_mute unit.body talk.phase unit bytes talk.joiner talk.link work mute

unit_mute : (unit : Result RpcUnit UnitRefused) (bytes : List ℕ) (talk : Talk) (work : Work) → IsMute work → HearsMute (hear_unit unit bytes talk work)
unit_mute (Err why) bytes talk work mute = shut_mute talk.link work mute
unit_mute (Ok unit) bytes talk work mute = call_mute _ unit bytes talk work mute

-- ---- the units of the link

abbrev pub PartMute : ServedPart Work Talk → Type 0
PartMute (Err why) = Unit {0}
PartMute (Ok part) = IsMute part.value.0

drawn_mute : (part : Result (Part Drawn) StepRefused) (offer : ServerOffer) (link : ℕ) (work : Work) → IsMute work → PartMute (then_part part (answers_part offer link work))
drawn_mute (Err why) offer link work mute = tt
drawn_mute (Ok part) offer link work mute = answers_mute offer part.value link work mute

heard_mute : (what : Heard) (left : List (List ℕ)) → HearsMute what → PartMute (serve_heard what left)
heard_mute (heard.Done work talk) left mute = mute
heard_mute (heard.Challenged work link offer) left mute = drawn_mute (drawn_for (has_flag offer.flags negotiate_key_exch) left) offer link work mute

mute_stays : StaysServing client_server PartMute
mute_stays = record {
  spent = λ why. tt;
  unit = λ bytes work talk left mute. heard_mute (hear bytes talk work) left (unit_mute (unit_of bytes) bytes talk work mute);
  refusal = λ why work talk left mute. shut_mute talk.link work mute;
}

-- ---- events

abbrev pub AfterMute : Result (Part After) StepRefused → Type 0
AfterMute (Err why) = Unit {0}
AfterMute (Ok part) = IsMute part.value.work

stream_mute : (rest : List ℕ) (part : ServedPart Work Talk) → PartMute part → AfterMute (then_part part (after_stream rest))
stream_mute rest (Err why) mute = tt
stream_mute rest (Ok part) mute = mute

piece_mute : (own : Bool) (piece : List ℕ) (link : LinkState Talk) (work : Work) (left : List (List ℕ)) → IsMute work → AfterMute (by_piece own piece link work left)
piece_mute false piece link work left mute = mute
piece_mute true piece link work left mute =
    let cut = cut_stream (link.rest ++ piece) in
    stream_mute cut.rest (served_cut client_server cut work link.talk left) (served_stays client_server PartMute mute_stays cut work link.talk left mute)

closed_mute : (own : Bool) (link : LinkState Talk) (work : Work) (left : List (List ℕ)) → IsMute work → AfterMute (by_close own link work left)
closed_mute false link work left mute = mute
closed_mute true link work left mute = mute

event_mute : (what : Event) (standing : ClientLink) (work : Work) (left : List (List ℕ)) → IsMute work → AfterMute (by_event what standing work left)
event_mute (event.Opened link) Idle work left mute = mute
event_mute (event.Opened link) Dialling work left mute = mute
event_mute (event.Opened link) (On own) work left mute = closed_mute (link == own.talk.link) own work left mute
event_mute (event.Bytes link piece) Idle work left mute = mute
event_mute (event.Bytes link piece) Dialling work left mute = mute
event_mute (event.Bytes link piece) (On own) work left mute = piece_mute (link == own.talk.link) piece own work left mute
event_mute (event.Closed link) Idle work left mute = mute
event_mute (event.Closed link) Dialling work left mute = mute
event_mute (event.Closed link) (On own) work left mute = closed_mute (link == own.talk.link) own work left mute
event_mute (event.Dialled link) Idle work left mute = mute
event_mute (event.Dialled link) Dialling work left mute = sent_mute link _ work mute
event_mute (event.Dialled link) (On own) work left mute = mute
event_mute event.DialFailed Idle work left mute = mute
event_mute event.DialFailed Dialling work left mute = mute
event_mute event.DialFailed (On own) work left mute = mute
event_mute event.Stop standing work left mute = mute

-- ---- steps

part_mute : (s : State) (left : List (List ℕ)) (part : Result (Part After) StepRefused) → AfterMute part →
    told_by (actions_by (step_by actions_after state_after (halted s) left part).answer) ≡ 0
part_mute s left (Err why) mute = refl
part_mute s left (Ok part) mute = mute

outcome_mute : (outcome : Option ClientOutcome) (running : Running) (s : State) (what : Event) (now : ℕ) (left : List (List ℕ)) →
    told_by (actions_by (step_by_outcome outcome running s what now left).answer) ≡ 0
outcome_mute (Some outcome) running s what now left = refl
outcome_mute None running s what now left =
    part_mute s left (by_event what running.standing (work_of running.task now) left) (event_mute what running.standing (work_of running.task now) left refl)

running_mute : (running : Option Running) (s : State) (what : Event) (now : ℕ) (left : List (List ℕ)) → told_by (actions_by (step_by_running running s what now left).answer) ≡ 0
running_mute None s what now left = refl
running_mute (Some running) s what now left = outcome_mute s.outcome running s what now left

pub client_tells : (s : State) (what : Event) (now : ℕ) (left : List (List ℕ)) → told_by (actions_by (step_of s what now left).answer) ≡ 0
client_tells s what now left = running_mute s.running s what now left
