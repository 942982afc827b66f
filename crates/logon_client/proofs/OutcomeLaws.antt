-- When a client closes its link, and that its outcome stays.
use Rattle.std.proofs.Common.{ℕ, ◌≡◌, ◌==◌, Bool, true, false, List, [], ◌∷◌, ◌++◌, Option, Some, None, Result, Ok, Err, refl, sym, ap, subst, ◌∙◌, append-nil}
use Rattle.std.proofs.lemmas.Bool.{eqb-true}
use Rattle.ntlm_flags.specs.Flags.{has_flag, agreed_flags, negotiate_key_exch}
use Rattle.ntlm_messages.specs.Challenge.{challenge_of}
use Rattle.ntlm_messages.specs.declared.messages.Challenge.{Challenge}
use Rattle.ntlm_messages.specs.declared.pairs.PairsRefused.{PairsRefused}
use Rattle.ntlm_messages.specs.declared.refused.MessageRefused.{MessageRefused}
use Rattle.outside.specs.declared.action.Action.{Action}
use Rattle.outside.specs.declared.action.Action.TheVariants as action
use Rattle.outside.specs.declared.action.CloseCause.TheVariants.{CallDone}
use Rattle.outside.specs.declared.action.StepRefused.{StepRefused}
use Rattle.outside.specs.declared.event.Event.{Event}
use Rattle.outside.specs.declared.event.Event.TheVariants as event
use Rattle.outside.specs.Machine.{Part, then_part, step_by}
use Rattle.rpc_units.specs.declared.refused.UnitRefused.{UnitRefused}
use Rattle.rpc_units.specs.declared.unit.Body.{Body}
use Rattle.rpc_units.specs.declared.unit.Body.TheVariants.{Bind, BindAck, BindNak, Auth3, Request, Response, Fault}
use Rattle.rpc_units.specs.declared.unit.Syntax.{Syntax}
use Rattle.rpc_units.specs.declared.unit.Trailer.{Trailer}
use Rattle.rpc_units.specs.declared.unit.Unit.{Unit as RpcUnit}
use Rattle.rpc_units.specs.Reading.{unit_of}
use Rattle.rpc_units.specs.Stream.{cut_stream}
use Rattle.end_links.specs.Links.{LinkState}
use Rattle.end_links.specs.Serving.{ServedPart, served_cut}
use Rattle.end_links.proofs.KeepLaws.{StaysServing, served_stays}
use Rattle.logon_client.specs.declared.answering.Drawn.{Drawn}
use Rattle.logon_client.specs.declared.answering.ServerOffer.{ServerOffer}
use Rattle.logon_client.specs.declared.hearing.Heard.{Heard}
use Rattle.logon_client.specs.declared.hearing.Heard.TheVariants as heard
use Rattle.logon_client.specs.declared.outcome.ClientOutcome.{ClientOutcome}
use Rattle.logon_client.specs.declared.outcome.ClientOutcome.TheVariants.{NoAnswer, BadPeer}
use Rattle.logon_client.specs.declared.outcome.NoAnswerCause.TheVariants.{LinkClosed}
use Rattle.logon_client.specs.declared.outcome.PeerFault.TheVariants as peer_fault
use Rattle.logon_client.specs.declared.securing.Sending.{Sending}
use Rattle.logon_client.specs.declared.state.After.{After}
use Rattle.logon_client.specs.declared.state.Phase.{Phase}
use Rattle.logon_client.specs.declared.state.Phase.TheVariants.{Bound, Asked}
use Rattle.logon_client.specs.declared.state.Question.{Question}
use Rattle.logon_client.specs.declared.state.Question.TheVariants.{Who, Echo}
use Rattle.logon_client.specs.declared.state.Running.{Running}
use Rattle.logon_client.specs.declared.state.ClientLink.{ClientLink}
use Rattle.logon_client.specs.declared.state.ClientLink.TheVariants.{Idle, Dialling, On}
use Rattle.logon_client.specs.declared.state.Talk.{Talk}
use Rattle.logon_client.specs.declared.state.Terms.{Terms}
use Rattle.logon_client.specs.declared.state.Work.{Work}
use Rattle.logon_client.specs.Answering.{is_enough, drawn_for, answer_of as answer_to, auth3_of}
use Rattle.logon_client.specs.Asked.{HoldsOf, response_holds}
use Rattle.logon_client.specs.Laws.{closes_in, closes_by, close_due, ClosesOnce, OutcomeStays}
use Rattle.logon_client.specs.Machine.{told, closed_with, asks, answers_by, answers, answers_part, hear_flags, hear_pairs, hear_challenge, hear_trailer, hear_result, hear_ack, hear_body, hear_call, hear_unit, hear, serve_heard, client_server, by_piece, by_close, after_stream, by_event, halted, actions_after, state_after, work_of, step_by_outcome, step_by_running}
use Rattle.logon_client.specs.Plans.{offer_of}
use Rattle.logon_client.specs.State.{State}

-- ---- actions

closes-append : (actions : List Action) (what : Action) → closes_in (actions ++ what ∷ []) ≡ closes_in actions ++ closes_in (what ∷ [])
closes-append [] what = refl
closes-append (action.Keep bytes ∷ actions) what = closes-append actions what
closes-append (action.Send link bytes ∷ actions) what = closes-append actions what
closes-append (action.Dial peer ∷ actions) what = closes-append actions what
closes-append (action.Close link cause ∷ actions) what = ap (λ (more : List Action). action.Close link cause ∷ more) (closes-append actions what)
closes-append (action.Told link outcome ∷ actions) what = closes-append actions what
closes-append (action.Judged judged ∷ actions) what = closes-append actions what

-- ---- the work and the link after a unit: the link is open and nothing was closed, or it was closed once, with the
-- outcome

record IsOpen (work : Work) : Type 0 where
  closes : closes_in work.actions ≡ []
  none : work.outcome ≡ None

record IsShut (link : ℕ) (work : Work) : Type 0 where
  closes : closes_in work.actions ≡ action.Close link CallDone ∷ []
  outcome : ClientOutcome
  is : work.outcome ≡ Some outcome

abbrev Kept : ℕ → Work → Option Talk → Type 0
Kept link work None = IsShut link work
Kept link work (Some talk) = IsOpen work × (talk.link ≡ link)

sent_open : (link : ℕ) (bytes : List ℕ) (work : Work) → IsOpen work → IsOpen (told work (action.Send link bytes))
sent_open link bytes work open_ = record {
  closes = closes-append work.actions (action.Send link bytes) ∙ append-nil (closes_in work.actions) ∙ open_.closes;
  none = open_.none;
}

shut_kept : (outcome : ClientOutcome) (link : ℕ) (work : Work) → IsOpen work → IsShut link (closed_with outcome link work)
shut_kept outcome link work open_ = record {
  closes = closes-append work.actions (action.Close link CallDone) ∙ ap (λ closes. closes ++ action.Close link CallDone ∷ []) open_.closes;
  outcome = outcome;
  is = refl;
}

asks_kept : (sending : Option Sending) (terms : Terms) (question : Question) (link : ℕ) (work : Work) → IsOpen work →
    Kept link (asks sending terms question link work).0 (asks sending terms question link work).1
asks_kept None terms question link work open_ = shut_kept _ link work open_
asks_kept (Some sending) terms question link work open_ = (sent_open link sending.bytes work open_, refl)

answers_by_kept : (auth3 : Option (List ℕ)) (terms : Terms) (link : ℕ) (work : Work) → IsOpen work →
    Kept link (answers_by auth3 terms link work).0 (answers_by auth3 terms link work).1
answers_by_kept None terms link work open_ = shut_kept _ link work open_
answers_by_kept (Some auth3) terms link work open_ =
    asks_kept _ terms Who link (told work (action.Send link auth3)) (sent_open link auth3 work open_)

answers_kept : (offer : ServerOffer) (drawn : Drawn) (link : ℕ) (work : Work) → IsOpen work →
    Kept link (answers offer drawn link work).0 (answers offer drawn link work).1
answers_kept offer drawn link work open_ =
    answers_by_kept (auth3_of work.task.level (answer_to work.task offer drawn).message) _ link work open_

-- ---- what is heard

abbrev HeardKept : ℕ → Heard → Type 0
HeardKept link (heard.Done work talk) = Kept link work talk
HeardKept link (heard.Challenged work number offer) = IsOpen work × (number ≡ link)

flags_kept : (enough : Bool) (offer : ServerOffer) (link : ℕ) (work : Work) → IsOpen work → HeardKept link (hear_flags enough offer link work)
flags_kept false offer link work open_ = shut_kept _ link work open_
flags_kept true offer link work open_ = (open_, refl)

pairs_kept : (pairs : Result (List (ℕ × List ℕ)) PairsRefused) (challenge : Challenge) (receive link : ℕ) (work : Work) → IsOpen work →
    HeardKept link (hear_pairs pairs challenge receive link work)
pairs_kept (Err why) challenge receive link work open_ = shut_kept _ link work open_
pairs_kept (Ok pairs) challenge receive link work open_ = flags_kept (is_enough work.task.level work.task.auth (agreed_flags (offer_of work.task.auth) challenge.flags)) _ link work open_

challenge_kept : (challenge : Result Challenge MessageRefused) (receive link : ℕ) (work : Work) → IsOpen work → HeardKept link (hear_challenge challenge receive link work)
challenge_kept (Err why) receive link work open_ = shut_kept _ link work open_
challenge_kept (Ok challenge) receive link work open_ = pairs_kept _ challenge receive link work open_

trailer_kept : (trailer : Option Trailer) (receive link : ℕ) (work : Work) → IsOpen work → HeardKept link (hear_trailer trailer receive link work)
trailer_kept None receive link work open_ = shut_kept _ link work open_
trailer_kept (Some trailer) receive link work open_ = challenge_kept (challenge_of trailer.value) receive link work open_

result_kept : (accepted : Bool) (reason : ℕ) (trailer : Option Trailer) (receive link : ℕ) (work : Work) → IsOpen work → HeardKept link (hear_result accepted reason trailer receive link work)
result_kept false reason trailer receive link work open_ = shut_kept _ link work open_
result_kept true reason trailer receive link work open_ = trailer_kept trailer receive link work open_

ack_kept : (results : List (ℕ × ℕ × Syntax)) (trailer : Option Trailer) (receive link : ℕ) (work : Work) → IsOpen work → HeardKept link (hear_ack results trailer receive link work)
ack_kept [] trailer receive link work open_ = shut_kept _ link work open_
ack_kept (first ∷ results) trailer receive link work open_ = result_kept (first.0 == 0) first.1 trailer receive link work open_

asked_kept : (link : ℕ) (work : Work) → IsOpen work → HoldsOf (HeardKept link) link work
asked_kept link work open_ = record {
  ends = λ outcome. shut_kept outcome link work open_;
  echoes = λ name terms. asks_kept _ terms (Echo name) link work open_;
  goes_on = λ joiner terms question. (open_, refl);
}

body_kept : (body : Body) (phase : Phase) (unit : RpcUnit) (bytes : List ℕ) (joiner : Option RpcUnit) (link : ℕ) (work : Work) → IsOpen work →
    HeardKept link (hear_body body phase unit bytes joiner link work)
body_kept (Bind send receive group contexts) phase unit bytes joiner link work open_ = shut_kept _ link work open_
body_kept (BindAck send receive group results) Bound unit bytes joiner link work open_ = ack_kept results unit.trailer receive link work open_
body_kept (BindAck send receive group results) (Asked terms question) unit bytes joiner link work open_ = shut_kept _ link work open_
body_kept (BindNak reason) phase unit bytes joiner link work open_ = shut_kept _ link work open_
body_kept Auth3 phase unit bytes joiner link work open_ = shut_kept _ link work open_
body_kept (Request hint context opnum stub) phase unit bytes joiner link work open_ = shut_kept _ link work open_
body_kept (Response hint context stub) Bound unit bytes joiner link work open_ = shut_kept _ link work open_
body_kept (Response hint context stub) (Asked terms question) unit bytes joiner link work open_ =
    response_holds (HeardKept link) terms.session unit bytes joiner terms question link work (asked_kept link work open_)
body_kept (Fault hint context status) phase unit bytes joiner link work open_ = shut_kept _ link work open_

call_kept : (same : Bool) (unit : RpcUnit) (bytes : List ℕ) (talk : Talk) (work : Work) → IsOpen work → HeardKept talk.link (hear_call same unit bytes talk work)
call_kept false unit bytes talk work open_ = shut_kept _ talk.link work open_
call_kept true unit bytes talk work open_ = body_kept unit.body talk.phase unit bytes talk.joiner talk.link work open_

unit_kept : (unit : Result RpcUnit UnitRefused) (bytes : List ℕ) (talk : Talk) (work : Work) → IsOpen work → HeardKept talk.link (hear_unit unit bytes talk work)
unit_kept (Err why) bytes talk work open_ = shut_kept _ talk.link work open_
unit_kept (Ok unit) bytes talk work open_ = call_kept _ unit bytes talk work open_

-- ---- the units of the link

abbrev PartKept : ℕ → ServedPart Work Talk → Type 0
PartKept link (Err why) = Unit {0}
PartKept link (Ok part) = Kept link part.value.0 part.value.1

drawn_kept : (part : Result (Part Drawn) StepRefused) (offer : ServerOffer) (link : ℕ) (work : Work) → IsOpen work → PartKept link (then_part part (answers_part offer link work))
drawn_kept (Err why) offer link work open_ = tt
drawn_kept (Ok part) offer link work open_ = answers_kept offer part.value link work open_

heard_kept : (link : ℕ) (what : Heard) (left : List (List ℕ)) → HeardKept link what → PartKept link (serve_heard what left)
heard_kept link (heard.Done work talk) left kept = kept
heard_kept link (heard.Challenged work number offer) left kept =
    subst (λ n. PartKept n (serve_heard (heard.Challenged work number offer) left)) kept.1
    (drawn_kept (drawn_for (has_flag offer.flags negotiate_key_exch) left) offer number work kept.0)

kept_stays : (link : ℕ) → StaysServing client_server (PartKept link)
kept_stays link = record {
  spent = λ why. tt;
  unit = λ bytes work talk left kept.
      heard_kept link (hear bytes talk work) left (subst (λ n. HeardKept n (hear bytes talk work)) kept.1 (unit_kept (unit_of bytes) bytes talk work kept.0));
  refusal = λ why work talk left kept. subst (λ n. IsShut n (closed_with (BadPeer peer_fault.BadUnit) talk.link work)) kept.1 (shut_kept _ talk.link work kept.0);
}

-- ---- events

abbrev AfterKept : Event → Result (Part After) StepRefused → Type 0
AfterKept what (Err why) = Unit {0}
AfterKept what (Ok part) = closes_in part.value.work.actions ≡ close_due part.value.work.outcome what

due_none : (what : Event) (work : Work) → IsOpen work → closes_in work.actions ≡ close_due work.outcome what
due_none what work open_ = open_.closes ∙ ap (λ o. close_due o what) (sym open_.none)

ended_kept : (link : ℕ) (piece : List ℕ) (work : Work) (talk : Option Talk) → Kept link work talk → closes_in work.actions ≡ close_due work.outcome (event.Bytes link piece)
ended_kept link piece work None kept = kept.closes ∙ ap (λ o. close_due o (event.Bytes link piece)) (sym kept.is)
ended_kept link piece work (Some talk) kept = due_none (event.Bytes link piece) work kept.0

stream_kept : (link : ℕ) (piece rest : List ℕ) (part : ServedPart Work Talk) → PartKept link part → AfterKept (event.Bytes link piece) (then_part part (after_stream rest))
stream_kept link piece rest (Err why) kept = tt
stream_kept link piece rest (Ok part) kept = ended_kept link piece part.value.0 part.value.1 kept

piece_kept : (own : Bool) (link : ℕ) (piece : List ℕ) (state : LinkState Talk) (work : Work) (left : List (List ℕ)) → (link == state.talk.link) ≡ own → IsOpen work →
    AfterKept (event.Bytes link piece) (by_piece own piece state work left)
piece_kept false link piece state work left is open_ = due_none (event.Bytes link piece) work open_
piece_kept true link piece state work left is open_ =
    subst (λ n. AfterKept (event.Bytes n piece) (by_piece true piece state work left)) (sym (eqb-true link state.talk.link is))
    (stream_kept state.talk.link piece _ (served_cut client_server (cut_stream (state.rest ++ piece)) work state.talk left)
    (served_stays client_server (PartKept state.talk.link) (kept_stays state.talk.link) (cut_stream (state.rest ++ piece)) work state.talk left (open_, refl)))

closed_kept : (own : Bool) (what : Event) (state : LinkState Talk) (work : Work) (left : List (List ℕ)) → ((o : ClientOutcome) → close_due (Some o) what ≡ []) → IsOpen work →
    AfterKept what (by_close own state work left)
closed_kept false what state work left none open_ = due_none what work open_
closed_kept true what state work left none open_ = open_.closes ∙ sym (none (NoAnswer LinkClosed))

event_kept : (what : Event) (standing : ClientLink) (work : Work) (left : List (List ℕ)) → IsOpen work → AfterKept what (by_event what standing work left)
event_kept (event.Opened link) Idle work left open_ = due_none _ work open_
event_kept (event.Opened link) Dialling work left open_ = due_none _ work open_
event_kept (event.Opened link) (On own) work left open_ = closed_kept (link == own.talk.link) (event.Opened link) own work left (λ o. refl) open_
event_kept (event.Bytes link piece) Idle work left open_ = due_none _ work open_
event_kept (event.Bytes link piece) Dialling work left open_ = due_none _ work open_
event_kept (event.Bytes link piece) (On own) work left open_ = piece_kept (link == own.talk.link) link piece own work left refl open_
event_kept (event.Closed link) Idle work left open_ = due_none _ work open_
event_kept (event.Closed link) Dialling work left open_ = due_none _ work open_
event_kept (event.Closed link) (On own) work left open_ = closed_kept (link == own.talk.link) (event.Closed link) own work left (λ o. refl) open_
event_kept (event.Dialled link) Idle work left open_ = due_none _ work open_
event_kept (event.Dialled link) Dialling work left open_ = due_none (event.Dialled link) _ (sent_open link _ work open_)
event_kept (event.Dialled link) (On own) work left open_ = due_none _ work open_
event_kept event.DialFailed Idle work left open_ = due_none _ work open_
event_kept event.DialFailed Dialling work left open_ = open_.closes
event_kept event.DialFailed (On own) work left open_ = due_none _ work open_
event_kept event.Stop standing work left open_ = due_none _ work open_

-- ---- steps

part_kept : (what : Event) (s : State) (left : List (List ℕ)) (part : Result (Part After) StepRefused) → s.outcome ≡ None → AfterKept what part →
    closes_by (step_by actions_after state_after (halted s) left part).answer ≡ close_due (step_by actions_after state_after (halted s) left part).state.outcome what
part_kept what s left (Err why) none kept = ap (λ o. close_due o what) (sym none)
part_kept what s left (Ok part) none kept = kept

outcome_kept : (outcome : Option ClientOutcome) (running : Running) (s : State) (what : Event) (now : ℕ) (left : List (List ℕ)) → outcome ≡ None → s.outcome ≡ None →
    closes_by (step_by_outcome outcome running s what now left).answer ≡ close_due (step_by_outcome outcome running s what now left).state.outcome what
outcome_kept (Some outcome) running s what now left over none = absurd cc
outcome_kept None running s what now left over none =
    part_kept what s left (by_event what running.standing (work_of running.task now) left) none
    (event_kept what running.standing (work_of running.task now) left (record { closes = refl; none = refl }))

running_kept : (running : Option Running) (s : State) (what : Event) (now : ℕ) (left : List (List ℕ)) → s.outcome ≡ None →
    closes_by (step_by_running running s what now left).answer ≡ close_due (step_by_running running s what now left).state.outcome what
running_kept None s what now left none = ap (λ o. close_due o what) (sym none)
running_kept (Some running) s what now left none = outcome_kept s.outcome running s what now left none none

pub closes_once : ClosesOnce
closes_once s what now left none = running_kept s.running s what now left none

over_stays : (running : Option Running) (s : State) (what : Event) (now : ℕ) (left : List (List ℕ)) (outcome : ClientOutcome) → s.outcome ≡ Some outcome →
    (closes_by (step_by_running running s what now left).answer ≡ []) × ((step_by_running running s what now left).state ≡ s)
over_stays None s what now left outcome some = (refl, refl)
over_stays (Some running) s what now left outcome some =
    subst (λ o. (closes_by (step_by_outcome o running s what now left).answer ≡ []) × ((step_by_outcome o running s what now left).state ≡ s)) (sym some) (refl, refl)

pub outcome_stays : OutcomeStays
outcome_stays s what now left outcome some = over_stays s.running s what now left outcome some
