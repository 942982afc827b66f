-- When a client finds its dial failed or its link closed.
use Rattle.std.proofs.Common.{ℕ, ◌≡◌, ◌==◌, ◌||◌, Bool, true, false, List, [], ◌∷◌, ◌++◌, Option, Some, None, Result, Ok, Err, refl, sym, ap, subst, ◌∙◌}
use Rattle.std.proofs.lemmas.Bool.{eqb-true}
use Rattle.ntlm_flags.specs.Flags.{has_flag, agreed_flags, negotiate_key_exch}
use Rattle.ntlm_messages.specs.Challenge.{challenge_of}
use Rattle.ntlm_messages.specs.declared.messages.Challenge.{Challenge}
use Rattle.ntlm_messages.specs.declared.pairs.PairsRefused.{PairsRefused}
use Rattle.ntlm_messages.specs.declared.refused.MessageRefused.{MessageRefused}
use Rattle.ntlm_seal.specs.Sessions.{SessionState}
use Rattle.outside.specs.declared.action.Action.TheVariants as action
use Rattle.outside.specs.declared.action.StepRefused.{StepRefused}
use Rattle.outside.specs.declared.event.Event.{Event}
use Rattle.outside.specs.declared.event.Event.TheVariants as event
use Rattle.outside.specs.Machine.{Part, then_part, step_by}
use Rattle.rpc_units.specs.declared.refused.JoinRefused.{JoinRefused}
use Rattle.rpc_units.specs.declared.refused.UnitRefused.{UnitRefused}
use Rattle.rpc_units.specs.declared.unit.Body.{Body}
use Rattle.rpc_units.specs.declared.unit.Body.TheVariants.{Bind, BindAck, BindNak, Auth3, Request, Response, Fault}
use Rattle.rpc_units.specs.declared.unit.Syntax.{Syntax}
use Rattle.rpc_units.specs.declared.unit.Trailer.{Trailer}
use Rattle.rpc_units.specs.declared.unit.Unit.{Unit as RpcUnit}
use Rattle.rpc_units.specs.Joining.{answer_of, open_after, stub_of}
use Rattle.rpc_units.specs.Reading.{unit_of}
use Rattle.rpc_units.specs.Stream.{cut_stream}
use Rattle.memo_stubs.specs.declared.refused.MemoRefused.{MemoRefused}
use Rattle.memo_stubs.specs.Memo.{who_of, echo_reply_of}
use Rattle.end_links.specs.Links.{LinkState}
use Rattle.end_links.specs.Serving.{ServedPart, served_cut}
use Rattle.end_links.proofs.KeepLaws.{StaysServing, served_stays}
use Rattle.logon_client.specs.declared.answering.Drawn.{Drawn}
use Rattle.logon_client.specs.declared.answering.ServerOffer.{ServerOffer}
use Rattle.logon_client.specs.declared.hearing.Heard.{Heard}
use Rattle.logon_client.specs.declared.hearing.Heard.TheVariants as heard
use Rattle.logon_client.specs.declared.outcome.ClientOutcome.{ClientOutcome}
use Rattle.logon_client.specs.declared.outcome.ClientOutcome.TheVariants.{In, Refused, NoAnswer, BadPeer}
use Rattle.logon_client.specs.declared.outcome.NoAnswerCause.TheVariants.{DialFailed, LinkClosed, NoController}
use Rattle.logon_client.specs.declared.securing.Sending.{Sending}
use Rattle.logon_client.specs.declared.state.After.{After}
use Rattle.logon_client.specs.declared.state.Phase.{Phase}
use Rattle.logon_client.specs.declared.state.Phase.TheVariants.{Bound, Asked}
use Rattle.logon_client.specs.declared.state.Question.{Question}
use Rattle.logon_client.specs.declared.state.Question.TheVariants.{Who, Echo}
use Rattle.logon_client.specs.declared.state.Running.{Running}
use Rattle.logon_client.specs.declared.state.ClientLink.{ClientLink}
use Rattle.logon_client.specs.declared.state.ClientLink.TheVariants.{Idle, Dialling, On}
use Rattle.logon_client.specs.declared.state.Talk.{Talk}
use Rattle.logon_client.specs.declared.state.Terms.{Terms}
use Rattle.logon_client.specs.declared.state.Work.{Work}
use Rattle.logon_client.specs.Answering.{is_enough, drawn_for, answer_of as answer_to, auth3_of}
use Rattle.logon_client.specs.Machine.{told, asks, answers_by, answers, answers_part, hear_flags, hear_pairs, hear_challenge, hear_trailer, hear_result, hear_ack, hear_name_by, hear_name, hear_echo_by, hear_echo, hear_reply, hear_joined, hear_fragment, hear_body_opened, hear_unit_opened, hear_opened, hear_secured, hear_response, hear_body, fault_outcome, hear_call, hear_unit, hear, serve_heard, client_server, by_piece, by_close, after_stream, by_event, fresh_link, link_of, want_by, standing_by, step_of, halted, actions_after, state_after, work_of, step_by_outcome, step_by_running}
use Rattle.logon_client.specs.Losses.{is_dialling, is_waiting, is_dial_failed, is_link_closed, LinkGoes, LossesComeOfEvents}
use Rattle.unit_security.specs.Levels.{is_sealed}
use Rattle.logon_client.specs.Plans.{offer_of}
use Rattle.unit_security.specs.declared.securing.Secured.{Secured}
use Rattle.unit_security.specs.Securing.{open_unit}
use Rattle.logon_client.specs.Securing.{has_level}
use Rattle.logon_client.specs.State.{State}
use Rattle.rpc_units.specs.Numbers.{rpc_s_server_unavailable}

-- the one or the other
abbrev is_lost : Option ClientOutcome → Bool
is_lost outcome = is_dial_failed outcome || is_link_closed outcome

-- ---- what comes on the link gives another outcome

abbrev Fine : Work → Type 0
Fine work = is_lost work.outcome ≡ false

fault_fine : (none : Bool) (status : ℕ) → is_lost (Some (fault_outcome none status)) ≡ false
fault_fine true status = refl
fault_fine false status = refl

asks_fine : (sending : Option Sending) (terms : Terms) (question : Question) (link : ℕ) (work : Work) → Fine work →
    Fine (asks sending terms question link work).0
asks_fine None terms question link work fine = refl
asks_fine (Some sending) terms question link work fine = fine

answers_by_fine : (auth3 : Option (List ℕ)) (terms : Terms) (link : ℕ) (work : Work) → Fine work →
    Fine (answers_by auth3 terms link work).0
answers_by_fine None terms link work fine = refl
answers_by_fine (Some auth3) terms link work fine =
    asks_fine _ terms Who link (told work (action.Send link auth3)) fine

answers_fine : (offer : ServerOffer) (drawn : Drawn) (link : ℕ) (work : Work) → Fine work →
    Fine (answers offer drawn link work).0
answers_fine offer drawn link work fine =
    answers_by_fine (auth3_of work.task.level (answer_to work.task offer drawn).message) _ link work fine

-- ---- what is heard

abbrev HeardFine : Heard → Type 0
HeardFine (heard.Done work talk) = Fine work
HeardFine (heard.Challenged work link offer) = Fine work

flags_fine : (enough : Bool) (offer : ServerOffer) (link : ℕ) (work : Work) → Fine work → HeardFine (hear_flags enough offer link work)
flags_fine false offer link work fine = refl
flags_fine true offer link work fine = fine

pairs_fine : (pairs : Result (List (ℕ × List ℕ)) PairsRefused) (challenge : Challenge) (receive link : ℕ) (work : Work) → Fine work →
    HeardFine (hear_pairs pairs challenge receive link work)
pairs_fine (Err why) challenge receive link work fine = refl
pairs_fine (Ok pairs) challenge receive link work fine = flags_fine (is_enough work.task.level work.task.auth (agreed_flags (offer_of work.task.auth) challenge.flags)) _ link work fine

challenge_fine : (challenge : Result Challenge MessageRefused) (receive link : ℕ) (work : Work) → Fine work → HeardFine (hear_challenge challenge receive link work)
challenge_fine (Err why) receive link work fine = refl
challenge_fine (Ok challenge) receive link work fine = pairs_fine _ challenge receive link work fine

trailer_fine : (trailer : Option Trailer) (receive link : ℕ) (work : Work) → Fine work → HeardFine (hear_trailer trailer receive link work)
trailer_fine None receive link work fine = refl
trailer_fine (Some trailer) receive link work fine = challenge_fine (challenge_of trailer.value) receive link work fine

result_fine : (accepted : Bool) (reason : ℕ) (trailer : Option Trailer) (receive link : ℕ) (work : Work) → Fine work → HeardFine (hear_result accepted reason trailer receive link work)
result_fine false reason trailer receive link work fine = refl
result_fine true reason trailer receive link work fine = trailer_fine trailer receive link work fine

ack_fine : (results : List (ℕ × ℕ × Syntax)) (trailer : Option Trailer) (receive link : ℕ) (work : Work) → Fine work → HeardFine (hear_ack results trailer receive link work)
ack_fine [] trailer receive link work fine = refl
ack_fine (first ∷ results) trailer receive link work fine = result_fine (first.0 == 0) first.1 trailer receive link work fine

name_by_fine : (none : Bool) (name : List ℕ) (terms : Terms) (link : ℕ) (work : Work) → Fine work → HeardFine (hear_name_by none name terms link work)
name_by_fine true name terms link work fine = refl
name_by_fine false name terms link work fine = asks_fine _ terms (Echo name) link work fine

name_fine : (name : Result (List ℕ) MemoRefused) (terms : Terms) (link : ℕ) (work : Work) → Fine work → HeardFine (hear_name name terms link work)
name_fine (Err why) terms link work fine = refl
name_fine (Ok name) terms link work fine = name_by_fine (work.task.echo == 0) name terms link work fine

echo_by_fine : (same : Bool) (name : List ℕ) (terms : Terms) (link : ℕ) (work : Work) → Fine work → HeardFine (hear_echo_by same name terms link work)
echo_by_fine true name terms link work fine = refl
echo_by_fine false name terms link work fine = refl

echo_fine : (bytes : Result (List ℕ) MemoRefused) (name : List ℕ) (terms : Terms) (link : ℕ) (work : Work) → Fine work → HeardFine (hear_echo bytes name terms link work)
echo_fine (Err why) name terms link work fine = refl
echo_fine (Ok bytes) name terms link work fine = echo_by_fine _ name terms link work fine

reply_fine : (question : Question) (stub : List ℕ) (terms : Terms) (link : ℕ) (work : Work) → Fine work → HeardFine (hear_reply question stub terms link work)
reply_fine Who stub terms link work fine = name_fine (who_of stub) terms link work fine
reply_fine (Echo name) stub terms link work fine = echo_fine (echo_reply_of stub) name terms link work fine

joined_fine : (joined : Result (Option RpcUnit) JoinRefused) (joiner : Option RpcUnit) (terms : Terms) (question : Question) (link : ℕ) (work : Work) → Fine work →
    HeardFine (hear_joined joined joiner terms question link work)
joined_fine (Err why) joiner terms question link work fine = refl
joined_fine (Ok None) joiner terms question link work fine = fine
joined_fine (Ok (Some whole)) joiner terms question link work fine = reply_fine question (stub_of whole.body) terms link work fine

fragment_fine : (unit : RpcUnit) (joiner : Option RpcUnit) (terms : Terms) (question : Question) (link : ℕ) (work : Work) → Fine work →
    HeardFine (hear_fragment unit joiner terms question link work)
fragment_fine unit joiner terms question link work fine = joined_fine (answer_of joiner unit) (open_after joiner unit) terms question link work fine

body_opened_fine : (body : Body) (unit : RpcUnit) (joiner : Option RpcUnit) (terms : Terms) (question : Question) (link : ℕ) (work : Work) → Fine work →
    HeardFine (hear_body_opened body unit joiner terms question link work)
body_opened_fine (Bind send receive group contexts) unit joiner terms question link work fine = refl
body_opened_fine (BindAck send receive group results) unit joiner terms question link work fine = refl
body_opened_fine (BindNak reason) unit joiner terms question link work fine = refl
body_opened_fine Auth3 unit joiner terms question link work fine = refl
body_opened_fine (Request hint context opnum stub) unit joiner terms question link work fine = refl
body_opened_fine (Response hint context stub) unit joiner terms question link work fine = fragment_fine unit joiner terms question link work fine
body_opened_fine (Fault hint context status) unit joiner terms question link work fine = refl

unit_opened_fine : (unit : Result RpcUnit UnitRefused) (joiner : Option RpcUnit) (terms : Terms) (question : Question) (link : ℕ) (work : Work) → Fine work →
    HeardFine (hear_unit_opened unit joiner terms question link work)
unit_opened_fine (Err why) joiner terms question link work fine = refl
unit_opened_fine (Ok unit) joiner terms question link work fine = body_opened_fine unit.body unit joiner terms question link work fine

opened_fine : (opened : Option Secured) (joiner : Option RpcUnit) (terms : Terms) (question : Question) (link : ℕ) (work : Work) → Fine work →
    HeardFine (hear_opened opened joiner terms question link work)
opened_fine None joiner terms question link work fine = refl
opened_fine (Some opened) joiner terms question link work fine = unit_opened_fine (unit_of opened.bytes) joiner _ question link work fine

secured_fine : (level : Bool) (bytes : List ℕ) (session : SessionState) (joiner : Option RpcUnit) (terms : Terms) (question : Question) (link : ℕ) (work : Work) → Fine work →
    HeardFine (hear_secured level bytes session joiner terms question link work)
secured_fine false bytes session joiner terms question link work fine = refl
secured_fine true bytes session joiner terms question link work fine =
    opened_fine (open_unit (is_sealed work.task.level) session bytes) joiner terms question link work fine

response_fine : (session : Option SessionState) (unit : RpcUnit) (bytes : List ℕ) (joiner : Option RpcUnit) (terms : Terms) (question : Question) (link : ℕ) (work : Work) → Fine work →
    HeardFine (hear_response session unit bytes joiner terms question link work)
response_fine None unit bytes joiner terms question link work fine = fragment_fine unit joiner terms question link work fine
response_fine (Some session) unit bytes joiner terms question link work fine =
    secured_fine (has_level work.task.level unit.trailer) bytes session joiner terms question link work fine

body_fine : (body : Body) (phase : Phase) (unit : RpcUnit) (bytes : List ℕ) (joiner : Option RpcUnit) (link : ℕ) (work : Work) → Fine work →
    HeardFine (hear_body body phase unit bytes joiner link work)
body_fine (Bind send receive group contexts) phase unit bytes joiner link work fine = refl
body_fine (BindAck send receive group results) Bound unit bytes joiner link work fine = ack_fine results unit.trailer receive link work fine
body_fine (BindAck send receive group results) (Asked terms question) unit bytes joiner link work fine = refl
body_fine (BindNak reason) phase unit bytes joiner link work fine = refl
body_fine Auth3 phase unit bytes joiner link work fine = refl
body_fine (Request hint context opnum stub) phase unit bytes joiner link work fine = refl
body_fine (Response hint context stub) Bound unit bytes joiner link work fine = refl
body_fine (Response hint context stub) (Asked terms question) unit bytes joiner link work fine = response_fine terms.session unit bytes joiner terms question link work fine
body_fine (Fault hint context status) phase unit bytes joiner link work fine = fault_fine (status == rpc_s_server_unavailable) status

call_fine : (same : Bool) (unit : RpcUnit) (bytes : List ℕ) (talk : Talk) (work : Work) → Fine work → HeardFine (hear_call same unit bytes talk work)
call_fine false unit bytes talk work fine = refl
call_fine true unit bytes talk work fine = body_fine unit.body talk.phase unit bytes talk.joiner talk.link work fine

unit_fine : (unit : Result RpcUnit UnitRefused) (bytes : List ℕ) (talk : Talk) (work : Work) → Fine work → HeardFine (hear_unit unit bytes talk work)
unit_fine (Err why) bytes talk work fine = refl
unit_fine (Ok unit) bytes talk work fine = call_fine _ unit bytes talk work fine

-- ---- the units of the link

abbrev PartFine : ServedPart Work Talk → Type 0
PartFine (Err why) = Unit {0}
PartFine (Ok part) = Fine part.value.0

drawn_fine : (part : Result (Part Drawn) StepRefused) (offer : ServerOffer) (link : ℕ) (work : Work) → Fine work → PartFine (then_part part (answers_part offer link work))
drawn_fine (Err why) offer link work fine = tt
drawn_fine (Ok part) offer link work fine = answers_fine offer part.value link work fine

heard_fine : (what : Heard) (left : List (List ℕ)) → HeardFine what → PartFine (serve_heard what left)
heard_fine (heard.Done work talk) left fine = fine
heard_fine (heard.Challenged work link offer) left fine =
    drawn_fine (drawn_for (has_flag offer.flags negotiate_key_exch) left) offer link work fine

fine_stays : StaysServing client_server PartFine
fine_stays = record {
  spent = λ why. tt;
  unit = λ bytes work talk left fine. heard_fine (hear bytes talk work) left (unit_fine (unit_of bytes) bytes talk work fine);
  refusal = λ why work talk left fine. refl;
}

-- ---- events

not_failed : (outcome : Option ClientOutcome) → is_lost outcome ≡ false → is_dial_failed outcome ≡ false
not_failed None e = refl
not_failed (Some (In name key echoed)) e = refl
not_failed (Some (Refused cause)) e = refl
not_failed (Some (NoAnswer DialFailed)) e = absurd cc
not_failed (Some (NoAnswer LinkClosed)) e = refl
not_failed (Some (NoAnswer NoController)) e = refl
not_failed (Some (BadPeer fault)) e = refl

not_closed : (outcome : Option ClientOutcome) → is_lost outcome ≡ false → is_link_closed outcome ≡ false
not_closed None e = refl
not_closed (Some (In name key echoed)) e = refl
not_closed (Some (Refused cause)) e = refl
not_closed (Some (NoAnswer DialFailed)) e = refl
not_closed (Some (NoAnswer LinkClosed)) e = absurd cc
not_closed (Some (NoAnswer NoController)) e = refl
not_closed (Some (BadPeer fault)) e = refl

-- what an event brings, where the client stood so
record Brings (what : Event) (standing later : ClientLink) (outcome : Option ClientOutcome) : Type 0 where
  failed : is_dial_failed outcome ≡ true → (what ≡ event.DialFailed) × (is_waiting standing ≡ true)
  closed : is_link_closed outcome ≡ true → LinkGoes what (link_of standing)
  still : is_waiting standing ≡ false → is_waiting later ≡ false

abbrev PartBrings : Event → ClientLink → Result (Part After) StepRefused → Type 0
PartBrings what standing (Err why) = Unit {0}
PartBrings what standing (Ok part) = Brings what standing part.value.standing part.value.work.outcome

never_failed : (outcome : Option ClientOutcome) (P : Type 0) → is_dial_failed outcome ≡ false → is_dial_failed outcome ≡ true → P
never_failed outcome P was comes = absurd (let e : false ≡ true = sym was ∙ comes in cc)

never_closed : (outcome : Option ClientOutcome) (P : Type 0) → is_link_closed outcome ≡ false → is_link_closed outcome ≡ true → P
never_closed outcome P was comes = absurd (let e : false ≡ true = sym was ∙ comes in cc)

keeps : (what : Event) (standing later : ClientLink) (outcome : Option ClientOutcome) → is_lost outcome ≡ false → (is_waiting standing ≡ false → is_waiting later ≡ false) → Brings what standing later outcome
keeps what standing later outcome fine still = record {
  failed = never_failed outcome _ (not_failed outcome fine);
  closed = never_closed outcome _ (not_closed outcome fine);
  still = still;
}

talk_waits : (talk : Option Talk) (rest : List ℕ) → is_waiting (standing_by talk rest) ≡ false
talk_waits None rest = refl
talk_waits (Some talk) rest = refl

stream_brings : (what : Event) (standing : ClientLink) (rest : List ℕ) (part : ServedPart Work Talk) → PartFine part → PartBrings what standing (then_part part (after_stream rest))
stream_brings what standing rest (Err why) fine = tt
stream_brings what standing rest (Ok part) fine = keeps what standing (standing_by part.value.1 rest) part.value.0.outcome fine (λ still. talk_waits part.value.1 rest)

piece_brings : (what : Event) (own : Bool) (piece : List ℕ) (state : LinkState Talk) (work : Work) (left : List (List ℕ)) → Fine work → PartBrings what (On state) (by_piece own piece state work left)
piece_brings what false piece state work left fine = keeps what (On state) (On state) work.outcome fine (λ still. refl)
piece_brings what true piece state work left fine =
    stream_brings what (On state) _ (served_cut client_server (cut_stream (state.rest ++ piece)) work state.talk left)
    (served_stays client_server PartFine fine_stays (cut_stream (state.rest ++ piece)) work state.talk left fine)

shut_brings : (what : Event) (own : Bool) (state : LinkState Talk) (work : Work) (left : List (List ℕ)) → (own ≡ true → LinkGoes what (Some state.talk.link)) → Fine work → PartBrings what (On state) (by_close own state work left)
shut_brings what false state work left goes fine = keeps what (On state) (On state) work.outcome fine (λ still. refl)
shut_brings what true state work left goes fine = record { failed = λ e. absurd cc; closed = λ e. goes refl; still = λ still. refl }

same_link : (link own : ℕ) → (link == own) ≡ true → Some own ≡ Some link
same_link link own is = ap (λ (n : ℕ). Some n) (sym (eqb-true link own is))

event_brings : (what : Event) (standing : ClientLink) (work : Work) (left : List (List ℕ)) → Fine work → PartBrings what standing (by_event what standing work left)
event_brings (event.Opened link) Idle work left fine = keeps _ Idle Idle work.outcome fine (λ still. still)
event_brings (event.Opened link) Dialling work left fine = keeps _ Dialling Dialling work.outcome fine (λ still. still)
event_brings (event.Opened link) (On own) work left fine = shut_brings (event.Opened link) (link == own.talk.link) own work left (same_link link own.talk.link) fine
event_brings (event.Bytes link piece) Idle work left fine = keeps _ Idle Idle work.outcome fine (λ still. still)
event_brings (event.Bytes link piece) Dialling work left fine = keeps _ Dialling Dialling work.outcome fine (λ still. still)
event_brings (event.Bytes link piece) (On own) work left fine = piece_brings (event.Bytes link piece) (link == own.talk.link) piece own work left fine
event_brings (event.Closed link) Idle work left fine = keeps _ Idle Idle work.outcome fine (λ still. still)
event_brings (event.Closed link) Dialling work left fine = keeps _ Dialling Dialling work.outcome fine (λ still. still)
event_brings (event.Closed link) (On own) work left fine = shut_brings (event.Closed link) (link == own.talk.link) own work left (same_link link own.talk.link) fine
event_brings (event.Dialled link) Idle work left fine = keeps _ Idle Idle work.outcome fine (λ still. still)
event_brings (event.Dialled link) Dialling work left fine = keeps _ Dialling (On (fresh_link link)) work.outcome fine (λ still. refl)
event_brings (event.Dialled link) (On own) work left fine = keeps _ (On own) (On own) work.outcome fine (λ still. still)
event_brings event.DialFailed Idle work left fine = keeps _ Idle Idle work.outcome fine (λ still. still)
event_brings event.DialFailed Dialling work left fine = record { failed = λ e. (refl, refl); closed = λ e. absurd cc; still = λ still. refl }
event_brings event.DialFailed (On own) work left fine = keeps _ (On own) (On own) work.outcome fine (λ still. still)
event_brings event.Stop Idle work left fine = keeps _ Idle Idle work.outcome fine (λ still. still)
event_brings event.Stop Dialling work left fine = keeps _ Dialling Dialling work.outcome fine (λ still. still)
event_brings event.Stop (On own) work left fine = keeps _ (On own) (On own) work.outcome fine (λ still. still)

-- ---- steps

record StepBrings (s new : State) (what : Event) : Type 0 where
  failed : is_dial_failed s.outcome ≡ false → is_dial_failed new.outcome ≡ true → (what ≡ event.DialFailed) × (is_dialling s.running ≡ true)
  closed : is_link_closed s.outcome ≡ false → is_link_closed new.outcome ≡ true → LinkGoes what (want_by s.running)
  still : is_dialling s.running ≡ false → is_dialling new.running ≡ false

stays_brings : (s : State) (what : Event) → StepBrings s s what
stays_brings s what = record { failed = λ was comes. never_failed s.outcome _ was comes; closed = λ was comes. never_closed s.outcome _ was comes; still = λ still. still }

part_brings : (s : State) (running : Running) (what : Event) (left : List (List ℕ)) (part : Result (Part After) StepRefused) → s.running ≡ Some running → PartBrings what running.standing part →
    StepBrings s (step_by actions_after state_after (halted s) left part).state what
part_brings s running what left (Err why) is brings = record { failed = λ was comes. never_failed s.outcome _ was comes; closed = λ was comes. never_closed s.outcome _ was comes; still = λ still. refl }
part_brings s running what left (Ok part) is brings =
    let before : is_dialling s.running ≡ is_waiting running.standing = ap is_dialling is in
    let after : is_dialling (state_after part.value).running ≡ is_waiting part.value.standing = refl in
    record {
      failed = λ was comes. ((brings.failed comes).0, before ∙ (brings.failed comes).1);
      closed = λ was comes. subst (λ (r : Option Running). LinkGoes what (want_by r)) (sym is) (brings.closed comes);
      still = λ still. after ∙ brings.still (sym before ∙ still);
    }

outcome_brings : (outcome : Option ClientOutcome) (running : Running) (s : State) (what : Event) (now : ℕ) (left : List (List ℕ)) → s.running ≡ Some running →
    StepBrings s (step_by_outcome outcome running s what now left).state what
outcome_brings (Some outcome) running s what now left is = stays_brings s what
outcome_brings None running s what now left is =
    part_brings s running what left (by_event what running.standing (work_of running.task now) left) is (event_brings what running.standing (work_of running.task now) left refl)

running_brings : (running : Option Running) (s : State) (what : Event) (now : ℕ) (left : List (List ℕ)) → s.running ≡ running → StepBrings s (step_by_running running s what now left).state what
running_brings None s what now left is = stays_brings s what
running_brings (Some running) s what now left is = outcome_brings s.outcome running s what now left is

step_brings : (s : State) (what : Event) (now : ℕ) (left : List (List ℕ)) → StepBrings s (step_of s what now left).state what
step_brings s what now left = running_brings s.running s what now left refl

pub losses_come_of_events : LossesComeOfEvents
losses_come_of_events = record {
  failed = λ s what now left was comes. (step_brings s what now left).failed was comes;
  closed = λ s what now left was comes. (step_brings s what now left).closed was comes;
  still = λ s what now left still. (step_brings s what now left).still still;
}
