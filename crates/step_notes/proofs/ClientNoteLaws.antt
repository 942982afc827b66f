-- What a client sends for a CHALLENGE is written down.
-- It serves `clients_write_down_what_they_send`.
use Rattle.std.proofs.Common.{◌≡◌, ◌==◌, ℕ, Bool, true, false, List, [], ◌∷◌, ◌++◌, length, nat_le, Option, Some, None, Result, Ok, Err, refl, sym, ap, ◌∙◌, subst, bytes_eq}
use Rattle.std.specs.Prelude.{flat_map}
use Rattle.std.specs.List.{AllByRecursion}
use Rattle.std.proofs.lemmas.List.{append-nil}
use Rattle.std.proofs.lemmas.List.Concat.{flat_map-append}
use Rattle.ntlm_flags.specs.Flags.{agreed_flags, has_flag, negotiate_key_exch}
use Rattle.ntlm_messages.specs.Authenticate.{authenticate_fields, written_authenticate}
use Rattle.ntlm_messages.specs.Challenge.{challenge_of}
use Rattle.ntlm_messages.specs.Fields.{form_of}
use Rattle.ntlm_messages.specs.declared.messages.Challenge.{Challenge}
use Rattle.ntlm_messages.specs.declared.pairs.PairsRefused.{PairsRefused}
use Rattle.ntlm_messages.specs.declared.refused.MessageRefused.{MessageRefused}
use Rattle.ntlm_messages.specs.declared.refused.WriteRefused.{WriteRefused}
use Rattle.outside.specs.declared.action.Action.{Action}
use Rattle.outside.specs.declared.action.Action.TheVariants as action
use Rattle.outside.specs.declared.action.CloseCause.TheVariants as close_cause
use Rattle.outside.specs.declared.action.StepRefused.{StepRefused}
use Rattle.outside.specs.declared.event.Event.TheVariants as event
use Rattle.outside.specs.Machine.{Part, step_by, then_part}
use Rattle.rpc_units.specs.declared.refused.JoinRefused.{JoinRefused}
use Rattle.rpc_units.specs.declared.refused.UnitRefused.{UnitRefused}
use Rattle.rpc_units.specs.declared.unit.Body.{Body}
use Rattle.rpc_units.specs.declared.unit.Body.TheVariants.{Bind, BindAck, BindNak, Auth3, Request, Response, Fault}
use Rattle.rpc_units.specs.declared.unit.Syntax.{Syntax}
use Rattle.rpc_units.specs.declared.unit.Trailer.{Trailer}
use Rattle.rpc_units.specs.declared.unit.Unit.{Unit as RpcUnit}
use Rattle.rpc_units.specs.Joining.{answer_of as joined_of, open_after, stub_of}
use Rattle.rpc_units.specs.Numbers.{rpc_s_server_unavailable}
use Rattle.rpc_units.specs.Reading.{unit_of}
use Rattle.rpc_units.specs.Stream.{cut_stream}
use Rattle.rpc_units.specs.Writing.{written}
use Rattle.end_links.specs.Binding.{limit_of}
use Rattle.end_links.specs.Links.{LinkState}
use Rattle.end_links.specs.Sending.{request_of}
use Rattle.end_links.specs.Serving.{ServedPart, served_by, then_open, then_talk, ServedUnit, served_units, units_then}
use Rattle.end_links.specs.Serving as served
use Rattle.logon_client.specs.Answering.{answer_of, auth3_by, auth3_unit, bytes_if, drawn_for, is_enough}
use Rattle.logon_client.specs.Machine.{actions_after, after_stream, answers_by, answers_part, asks, by_piece, client_server, closed_with, done, echo_bytes, echo_number, echo_opnum, fails, halted, hear, hear_ack, hear_body, hear_body_opened, hear_call, hear_challenge, hear_echo, hear_echo_by, hear_flags, hear_fragment, hear_joined, hear_name, hear_name_by, hear_opened, hear_pairs, hear_reply, hear_response, hear_result, hear_secured, hear_trailer, hear_unit, hear_unit_opened, fault_outcome, asks_echo, serve_heard, standing_by, state_after, step_of, terms_of, told, who_number, who_opnum, work_of}
use Rattle.unit_security.specs.Levels.{is_sealed}
use Rattle.logon_client.specs.Plans.{offer_of}
use Rattle.unit_security.specs.declared.securing.Secured.{Secured}
use Rattle.unit_security.specs.Securing.{open_unit}
use Rattle.logon_client.specs.Securing.{has_level, send_call}
use Rattle.logon_client.specs.State.{State as ClientState}
use Rattle.logon_client.specs.declared.answering.Answer.{Answer}
use Rattle.logon_client.specs.declared.answering.Drawn.{Drawn}
use Rattle.logon_client.specs.declared.answering.ServerOffer.{ServerOffer}
use Rattle.logon_client.specs.declared.hearing.Heard.{Heard}
use Rattle.logon_client.specs.declared.hearing.Heard.TheVariants as heard
use Rattle.logon_client.specs.declared.outcome.ClientOutcome.{ClientOutcome}
use Rattle.logon_client.specs.declared.plan.ClientPlan.{ClientPlan}
use Rattle.logon_client.specs.declared.securing.Sending.{Sending}
use Rattle.logon_client.specs.declared.state.After.{After}
use Rattle.logon_client.specs.declared.state.Phase.{Phase}
use Rattle.logon_client.specs.declared.state.Phase.TheVariants.{Bound, Asked}
use Rattle.logon_client.specs.declared.state.Question.{Question}
use Rattle.logon_client.specs.declared.state.Question.TheVariants.{Who, Echo}
use Rattle.logon_client.specs.declared.state.Running.{Running}
use Rattle.logon_client.specs.declared.state.ClientLink.{ClientLink}
use Rattle.logon_client.specs.declared.state.ClientLink.TheVariants.{On}
use Rattle.logon_client.specs.declared.state.Talk.{Talk}
use Rattle.logon_client.specs.declared.state.Terms.{Terms}
use Rattle.logon_client.specs.declared.state.Work.{Work}
use Rattle.step_notes.specs.ChannelNames.{ClientsWriteDownWhatTheySend, IsKeptOf, IsOn, IsRequestSent, IsSameKey, IsStepWrittenDown, IsWrittenDown, key_in_outcome, key_in_phase, key_in_running, key_on, sends_in, sent_by}
use Rattle.step_notes.specs.ClientNotes.{ClientAt, made_by, made_heard, made_note, made_of, units_if, units_of_client}
use Rattle.step_notes.specs.MemberNotes.{message_in}
use Rattle.step_notes.specs.Records.{MessageMade}
use Rattle.step_notes.specs.Served.{units_if_taken}

-- ---- what is sent

sends_more : (work : Work) (what : Action) → sends_in (told work what).actions ≡ sends_in work.actions ++ sends_in (what ∷ [])
sends_more work what = flat_map-append sent_by work.actions (what ∷ [])

closing_sends : (work : Work) (link : ℕ) → sends_in (told work (action.Close link close_cause.CallDone)).actions ≡ sends_in work.actions
closing_sends work link = sends_more work (action.Close link close_cause.CallDone) ∙ append-nil (sends_in work.actions)

-- What holds of the bytes that are sent goes on to hold where a request is sent besides.
pub record Lasts (level : ℕ) (Holds : List (List ℕ) → Type 0) : Type 0 where
  pub more : (sends : List (List ℕ)) (bytes : List ℕ) → Holds sends → IsRequestSent level bytes → Holds (sends ++ bytes ∷ [])

all_more : (level : ℕ) (sends : List (List ℕ)) (bytes : List ℕ) → AllByRecursion (IsRequestSent level) sends → IsRequestSent level bytes → AllByRecursion (IsRequestSent level) (sends ++ bytes ∷ [])
all_more level [] bytes all is = (is, tt)
all_more level (first ∷ sends) bytes all is = (all.0, all_more level sends bytes all.1 is)

requests_last : (level : ℕ) → Lasts level (AllByRecursion (IsRequestSent level))
requests_last level = record { more = λ sends bytes all is. all_more level sends bytes all is }

-- first these bytes, and then requests
abbrev pub IsFirst : ℕ → List ℕ → List (List ℕ) → Type 0
IsFirst level bytes [] = ⊥
IsFirst level bytes (first ∷ later) = (first ≡ bytes) × AllByRecursion (IsRequestSent level) later

first_more : (level : ℕ) (first : List ℕ) (sends : List (List ℕ)) (bytes : List ℕ) → IsFirst level first sends → IsRequestSent level bytes → IsFirst level first (sends ++ bytes ∷ [])
first_more level first [] bytes is request = absurd is
first_more level first (one ∷ sends) bytes is request = (is.0, all_more level sends bytes is.1 request)

first_lasts : (level : ℕ) (first : List ℕ) → Lasts level (IsFirst level first)
first_lasts level first = record { more = λ sends bytes is request. first_more level first sends bytes is request }

-- ---- a client that is past the CHALLENGE: what holds of its sends, and which key it keeps

abbrev pub IsKeyIn : List ℕ → Option Talk → Type 0
IsKeyIn key None = Unit {0}
IsKeyIn key (Some talk) = key_in_phase talk.phase ≡ Some key

pub record IsPast (level : ℕ) (Holds : List (List ℕ) → Type 0) (key : List ℕ) (work : Work) : Type 0 where
  pub level_is : work.task.level ≡ level
  pub sends : Holds (sends_in work.actions)
  pub out : IsSameKey key (key_in_outcome work.outcome)

abbrev pub Past : ℕ → (List (List ℕ) → Type 0) → List ℕ → Work → Option Talk → Type 0
Past level Holds key work talk = IsPast level Holds key work × IsKeyIn key talk

abbrev pub HeardPast : ℕ → (List (List ℕ) → Type 0) → List ℕ → Heard → Type 0
HeardPast level Holds key (heard.Done work talk) = Past level Holds key work talk
HeardPast level Holds key (heard.Challenged work link offer) = ⊥

ends_past : (level : ℕ) (Holds : List (List ℕ) → Type 0) (key : List ℕ) (outcome : ClientOutcome) (link : ℕ) (work : Work) → IsPast level Holds key work → IsSameKey key (key_in_outcome (Some outcome)) →
    HeardPast level Holds key (fails outcome link work)
ends_past level Holds key outcome link work past same =
    (record { level_is = past.level_is; sends = subst Holds (sym (closing_sends work link)) past.sends; out = same }, tt)

-- a request that was sent
request_sent : (level other : ℕ) (terms : Terms) (number opnum : ℕ) (stub : List ℕ) (limit : ℕ) (sending : Sending) → other ≡ level →
    send_call terms.session other (request_of number 0 opnum stub) limit ≡ Some sending → IsRequestSent level sending.bytes
request_sent level other terms number opnum stub limit sending same is = record {
  number = number;
  opnum = opnum;
  stub = stub;
  limit = limit;
  terms = terms;
  sending = sending;
  sends = ap (λ (n : ℕ). send_call terms.session n (request_of number 0 opnum stub) limit) (sym same) ∙ is;
  is = refl;
}

asks_past : (sending : Option Sending) (level : ℕ) (Holds : List (List ℕ) → Type 0) (key : List ℕ) (terms : Terms) (question : Question) (link : ℕ) (work : Work) → Lasts level Holds → terms.key ≡ key →
    IsPast level Holds key work → ((one : Sending) → sending ≡ Some one → IsRequestSent level one.bytes) → HeardPast level Holds key (done (asks sending terms question link work))
asks_past None level Holds key terms question link work lasts same past request = ends_past level Holds key _ link work past tt
asks_past (Some sending) level Holds key terms question link work lasts same past request = (
  record {
    level_is = past.level_is;
    sends = subst Holds (sym (sends_more work (action.Send link sending.bytes))) (lasts.more (sends_in work.actions) sending.bytes past.sends (request sending refl));
    out = past.out;
  },
  ap Some same,
)

echoes_past : (level : ℕ) (Holds : List (List ℕ) → Type 0) (key name : List ℕ) (terms : Terms) (link : ℕ) (work : Work) → Lasts level Holds → terms.key ≡ key → IsPast level Holds key work →
    HeardPast level Holds key (done (asks_echo name terms link work))
echoes_past level Holds key name terms link work lasts same past =
    asks_past _ level Holds key terms (Echo name) link work lasts same past
    (λ one is. request_sent level work.task.level terms echo_number echo_opnum _ (limit_of terms.receive) one past.level_is is)

-- by cases of what isn't named here
by_result : {T E : Type 0} (P : Result T E → Type 0) (found : Result T E) → ((why : E) → P (Err why)) → ((value : T) → P (Ok value)) → P found
by_result P (Err why) refused right = refused why
by_result P (Ok value) refused right = right value

by_option : {T : Type 0} (P : Option T → Type 0) (found : Option T) → P None → ((value : T) → P (Some value)) → P found
by_option P None missing there = missing
by_option P (Some value) missing there = there value

by_test : (P : Bool → Type 0) (test : Bool) → P false → P true → P test
by_test P false fails passes = fails
by_test P true fails passes = passes

-- ---- a response, of which the terms have that key

name_by_past : (none : Bool) (level : ℕ) (Holds : List (List ℕ) → Type 0) (key name : List ℕ) (terms : Terms) (link : ℕ) (work : Work) → Lasts level Holds → terms.key ≡ key → IsPast level Holds key work →
    HeardPast level Holds key (hear_name_by none name terms link work)
name_by_past true level Holds key name terms link work lasts same past = ends_past level Holds key _ link work past same
name_by_past false level Holds key name terms link work lasts same past = echoes_past level Holds key name terms link work lasts same past

echo_by_past : (back : Bool) (level : ℕ) (Holds : List (List ℕ) → Type 0) (key name : List ℕ) (terms : Terms) (link : ℕ) (work : Work) → terms.key ≡ key → IsPast level Holds key work →
    HeardPast level Holds key (hear_echo_by back name terms link work)
echo_by_past true level Holds key name terms link work same past = ends_past level Holds key _ link work past same
echo_by_past false level Holds key name terms link work same past = ends_past level Holds key _ link work past tt

reply_past : (question : Question) (level : ℕ) (Holds : List (List ℕ) → Type 0) (key stub : List ℕ) (terms : Terms) (link : ℕ) (work : Work) → Lasts level Holds → terms.key ≡ key → IsPast level Holds key work →
    HeardPast level Holds key (hear_reply question stub terms link work)
reply_past Who level Holds key stub terms link work lasts same past =
    by_result (λ name. HeardPast level Holds key (hear_name name terms link work)) _ (λ why. ends_past level Holds key _ link work past tt)
    (λ name. name_by_past (work.task.echo == 0) level Holds key name terms link work lasts same past)
reply_past (Echo name) level Holds key stub terms link work lasts same past =
    by_result (λ bytes. HeardPast level Holds key (hear_echo bytes name terms link work)) _ (λ why. ends_past level Holds key _ link work past tt)
    (λ bytes. echo_by_past (bytes_eq bytes (echo_bytes work.task.echo)) level Holds key name terms link work same past)

joined_past : (joined : Result (Option RpcUnit) JoinRefused) (joiner : Option RpcUnit) (level : ℕ) (Holds : List (List ℕ) → Type 0) (key : List ℕ) (terms : Terms) (question : Question) (link : ℕ) (work : Work) →
    Lasts level Holds → terms.key ≡ key → IsPast level Holds key work → HeardPast level Holds key (hear_joined joined joiner terms question link work)
joined_past (Err why) joiner level Holds key terms question link work lasts same past = ends_past level Holds key _ link work past tt
joined_past (Ok None) joiner level Holds key terms question link work lasts same past = (past, ap Some same)
joined_past (Ok (Some whole)) joiner level Holds key terms question link work lasts same past = reply_past question level Holds key (stub_of whole.body) terms link work lasts same past

fragment_past : (unit : RpcUnit) (joiner : Option RpcUnit) (level : ℕ) (Holds : List (List ℕ) → Type 0) (key : List ℕ) (terms : Terms) (question : Question) (link : ℕ) (work : Work) →
    Lasts level Holds → terms.key ≡ key → IsPast level Holds key work → HeardPast level Holds key (hear_fragment unit joiner terms question link work)
fragment_past unit joiner level Holds key terms question link work lasts same past = joined_past (joined_of joiner unit) (open_after joiner unit) level Holds key terms question link work lasts same past

body_opened_past : (body : Body) (unit : RpcUnit) (joiner : Option RpcUnit) (level : ℕ) (Holds : List (List ℕ) → Type 0) (key : List ℕ) (terms : Terms) (question : Question) (link : ℕ) (work : Work) →
    Lasts level Holds → terms.key ≡ key → IsPast level Holds key work → HeardPast level Holds key (hear_body_opened body unit joiner terms question link work)
body_opened_past (Bind send receive group contexts) unit joiner level Holds key terms question link work lasts same past = ends_past level Holds key _ link work past tt
body_opened_past (BindAck send receive group results) unit joiner level Holds key terms question link work lasts same past = ends_past level Holds key _ link work past tt
body_opened_past (BindNak reason) unit joiner level Holds key terms question link work lasts same past = ends_past level Holds key _ link work past tt
body_opened_past Auth3 unit joiner level Holds key terms question link work lasts same past = ends_past level Holds key _ link work past tt
body_opened_past (Request hint context opnum stub) unit joiner level Holds key terms question link work lasts same past = ends_past level Holds key _ link work past tt
body_opened_past (Response hint context stub) unit joiner level Holds key terms question link work lasts same past = fragment_past unit joiner level Holds key terms question link work lasts same past
body_opened_past (Fault hint context status) unit joiner level Holds key terms question link work lasts same past = ends_past level Holds key _ link work past tt

unit_opened_past : (unit : Result RpcUnit UnitRefused) (joiner : Option RpcUnit) (level : ℕ) (Holds : List (List ℕ) → Type 0) (key : List ℕ) (terms : Terms) (question : Question) (link : ℕ) (work : Work) →
    Lasts level Holds → terms.key ≡ key → IsPast level Holds key work → HeardPast level Holds key (hear_unit_opened unit joiner terms question link work)
unit_opened_past (Err why) joiner level Holds key terms question link work lasts same past = ends_past level Holds key _ link work past tt
unit_opened_past (Ok unit) joiner level Holds key terms question link work lasts same past = body_opened_past unit.body unit joiner level Holds key terms question link work lasts same past

opened_past : (opened : Option Secured) (joiner : Option RpcUnit) (level : ℕ) (Holds : List (List ℕ) → Type 0) (key : List ℕ) (terms : Terms) (question : Question) (link : ℕ) (work : Work) →
    Lasts level Holds → terms.key ≡ key → IsPast level Holds key work → HeardPast level Holds key (hear_opened opened joiner terms question link work)
opened_past None joiner level Holds key terms question link work lasts same past = ends_past level Holds key _ link work past tt
opened_past (Some opened) joiner level Holds key terms question link work lasts same past =
    unit_opened_past (unit_of opened.bytes) joiner level Holds key (record terms { session = Some opened.session }) question link work lasts same past

response_past : (unit : RpcUnit) (bytes : List ℕ) (joiner : Option RpcUnit) (level : ℕ) (Holds : List (List ℕ) → Type 0) (key : List ℕ) (terms : Terms) (question : Question) (link : ℕ) (work : Work) →
    Lasts level Holds → terms.key ≡ key → IsPast level Holds key work → HeardPast level Holds key (hear_response terms.session unit bytes joiner terms question link work)
response_past unit bytes joiner level Holds key terms question link work lasts same past =
    by_option (λ session. HeardPast level Holds key (hear_response session unit bytes joiner terms question link work)) terms.session
    (fragment_past unit joiner level Holds key terms question link work lasts same past)
    (λ session. by_test (λ right. HeardPast level Holds key (hear_secured right bytes session joiner terms question link work)) (has_level work.task.level unit.trailer)
    (ends_past level Holds key _ link work past tt)
    (opened_past (open_unit (is_sealed work.task.level) session bytes) joiner level Holds key terms question link work lasts same past))

-- ---- an outcome that has no key

no_key_in_fault : (none : Bool) (status : ℕ) → key_in_outcome (Some (fault_outcome none status)) ≡ None
no_key_in_fault true status = refl
no_key_in_fault false status = refl

no_key_same : (key : List ℕ) (found : Option (List ℕ)) → found ≡ None → IsSameKey key found
no_key_same key found none = subst (IsSameKey key) (sym none) tt

body_past : (body : Body) (unit : RpcUnit) (bytes : List ℕ) (joiner : Option RpcUnit) (level : ℕ) (Holds : List (List ℕ) → Type 0) (key : List ℕ) (terms : Terms) (question : Question) (link : ℕ) (work : Work) →
    Lasts level Holds → terms.key ≡ key → IsPast level Holds key work → HeardPast level Holds key (hear_body body (Asked terms question) unit bytes joiner link work)
body_past (Bind send receive group contexts) unit bytes joiner level Holds key terms question link work lasts same past = ends_past level Holds key _ link work past tt
body_past (BindAck send receive group results) unit bytes joiner level Holds key terms question link work lasts same past = ends_past level Holds key _ link work past tt
body_past (BindNak reason) unit bytes joiner level Holds key terms question link work lasts same past = ends_past level Holds key _ link work past tt
body_past Auth3 unit bytes joiner level Holds key terms question link work lasts same past = ends_past level Holds key _ link work past tt
body_past (Request hint context opnum stub) unit bytes joiner level Holds key terms question link work lasts same past = ends_past level Holds key _ link work past tt
body_past (Response hint context stub) unit bytes joiner level Holds key terms question link work lasts same past = response_past unit bytes joiner level Holds key terms question link work lasts same past
body_past (Fault hint context status) unit bytes joiner level Holds key terms question link work lasts same past =
    ends_past level Holds key _ link work past (no_key_same key _ (no_key_in_fault (status == rpc_s_server_unavailable) status))

call_past : (number : Bool) (unit : RpcUnit) (bytes : List ℕ) (phase : Phase) (joiner : Option RpcUnit) (link : ℕ) (level : ℕ) (Holds : List (List ℕ) → Type 0) (key : List ℕ) (work : Work) →
    Lasts level Holds → key_in_phase phase ≡ Some key → IsPast level Holds key work →
    HeardPast level Holds key (hear_call number unit bytes (record { link = link; joiner = joiner; phase = phase }) work)
call_past false unit bytes phase joiner link level Holds key work lasts is past = ends_past level Holds key _ link work past tt
call_past true unit bytes Bound joiner link level Holds key work lasts is past = absurd cc
call_past true unit bytes (Asked terms question) joiner link level Holds key work lasts is past =
    let same : terms.key ≡ key = cc in
    body_past unit.body unit bytes joiner level Holds key terms question link work lasts same past

unit_past : (unit : Result RpcUnit UnitRefused) (bytes : List ℕ) (talk : Talk) (level : ℕ) (Holds : List (List ℕ) → Type 0) (key : List ℕ) (work : Work) → Lasts level Holds → key_in_phase talk.phase ≡ Some key →
    IsPast level Holds key work → HeardPast level Holds key (hear_unit unit bytes talk work)
unit_past (Err why) bytes talk level Holds key work lasts is past = ends_past level Holds key _ talk.link work past tt
unit_past (Ok unit) bytes talk level Holds key work lasts is past = call_past _ unit bytes talk.phase talk.joiner talk.link level Holds key work lasts is past

-- ---- all units that come then: no message is made

abbrev pub PartPast : ℕ → (List (List ℕ) → Type 0) → List ℕ → ServedPart Work Talk → Type 0
PartPast level Holds key (Err why) = Unit {0}
PartPast level Holds key (Ok part) = Past level Holds key part.value.0 part.value.1

abbrev pub GoesOn : ℕ → (List (List ℕ) → Type 0) → List ℕ → ClientAt → List (List ℕ) → Option UnitRefused → Work → Talk → List (List ℕ) → Type 0
GoesOn level Holds key w units why work talk left =
    PartPast level Holds key (served_by client_server units why work talk left)
    × (flat_map (made_note w) (served_units client_server units work talk left) ≡ [])

talk_past : (units : List (List ℕ)) (why : Option UnitRefused) (level : ℕ) (Holds : List (List ℕ) → Type 0) (key : List ℕ) (w : ClientAt) (work : Work) (talk : Option Talk) (left : List (List ℕ)) →
    ((later : Work) (said : Talk) (rest : List (List ℕ)) → Past level Holds key later (Some said) → GoesOn level Holds key w units why later said rest) → Past level Holds key work talk →
    PartPast level Holds key (then_talk work talk left (λ later said rest. served_by client_server units why later said rest))
    × (flat_map (made_note w) (served.units_on work talk left (λ later said rest. served_units client_server units later said rest)) ≡ [])
talk_past units why level Holds key w work None left each past = (past, refl)
talk_past units why level Holds key w work (Some talk) left each past = each work talk left past

heard_past : (what : Heard) (units : List (List ℕ)) (why : Option UnitRefused) (level : ℕ) (Holds : List (List ℕ) → Type 0) (key : List ℕ) (w : ClientAt) (left : List (List ℕ)) (challenge : List ℕ) →
    ((later : Work) (said : Talk) (rest : List (List ℕ)) → Past level Holds key later (Some said) → GoesOn level Holds key w units why later said rest) → HeardPast level Holds key what →
    PartPast level Holds key (then_open (serve_heard what left) (λ later said rest. served_by client_server units why later said rest))
    × (made_heard what left w challenge ++ flat_map (made_note w) (units_then (serve_heard what left) (λ later said rest. served_units client_server units later said rest)) ≡ [])
heard_past (heard.Done work talk) units why level Holds key w left challenge each past = talk_past units why level Holds key w work talk left each past
heard_past (heard.Challenged work link offer) units why level Holds key w left challenge each past = absurd past

refused_past : (level : ℕ) (Holds : List (List ℕ) → Type 0) (key : List ℕ) (link : ℕ) (work : Work) (outcome : ClientOutcome) → IsPast level Holds key work → IsSameKey key (key_in_outcome (Some outcome)) →
    HeardPast level Holds key (fails outcome link work)
refused_past level Holds key link work outcome past same = ends_past level Holds key outcome link work past same

units_past : (units : List (List ℕ)) (why : Option UnitRefused) (level : ℕ) (Holds : List (List ℕ) → Type 0) (key : List ℕ) (w : ClientAt) → Lasts level Holds → (work : Work) (talk : Talk) (left : List (List ℕ)) →
    Past level Holds key work (Some talk) → GoesOn level Holds key w units why work talk left
units_past [] None level Holds key w lasts = λ work talk left past. (past, refl)
units_past [] (Some why) level Holds key w lasts = λ work talk left past. (refused_past level Holds key talk.link work _ past.0 tt, refl)
units_past (bytes ∷ units) why level Holds key w lasts = λ work talk left past.
    heard_past (hear bytes talk work) units why level Holds key w left (message_in bytes) (units_past units why level Holds key w lasts)
    (unit_past (unit_of bytes) bytes talk level Holds key work lasts past.1 past.0)

-- ---- a client that waits for the CHALLENGE: nothing was sent yet

pub record IsFresh (level : ℕ) (work : Work) : Type 0 where
  pub level_is : work.task.level ≡ level
  pub sends : sends_in work.actions ≡ []
  pub none : work.outcome ≡ None

-- what was sent, and the outcome, where messages were written down
pub record IsDown (level : ℕ) (made : List MessageMade) (work : Work) : Type 0 where
  pub sends : IsWrittenDown level (sends_in work.actions) made
  pub ends : IsKeptOf (key_in_outcome work.outcome) made

abbrev pub key_said : Option Talk → Option (List ℕ)
key_said None = None
key_said (Some talk) = key_in_phase talk.phase

abbrev pub Down : ℕ → List MessageMade → Work → Option Talk → Type 0
Down level made work talk = IsDown level made work × IsKeptOf (key_said talk) made

none_written : (level : ℕ) (sends : List (List ℕ)) (made : List MessageMade) → sends ≡ [] → IsWrittenDown level sends made
none_written level sends made none = subst (λ (s : List (List ℕ)). IsWrittenDown level s made) (sym none) tt

none_kept : (found : Option (List ℕ)) (made : List MessageMade) → found ≡ None → IsKeptOf found made
none_kept found made none = subst (λ (f : Option (List ℕ)). IsKeptOf f made) (sym none) tt

-- a logon that fails before a message is sent
fresh_fails : (level : ℕ) (made : List MessageMade) (outcome : ClientOutcome) (link : ℕ) (work : Work) → IsFresh level work → key_in_outcome (Some outcome) ≡ None →
    IsDown level made (closed_with outcome link work)
fresh_fails level made outcome link work fresh none = record {
  sends = none_written level _ made (closing_sends work link ∙ fresh.sends);
  ends = none_kept (key_in_outcome (Some outcome)) made none;
}

-- what is heard: the logon fails, or the message is due
abbrev pub HeardFresh : ℕ → Heard → Type 0
HeardFresh level (heard.Done work None) = (made : List MessageMade) → IsDown level made work
HeardFresh level (heard.Done work (Some talk)) = ⊥
HeardFresh level (heard.Challenged work link offer) = IsFresh level work

fails_fresh : (level : ℕ) (outcome : ClientOutcome) (link : ℕ) (work : Work) → IsFresh level work → key_in_outcome (Some outcome) ≡ None → HeardFresh level (fails outcome link work)
fails_fresh level outcome link work fresh none = λ made. fresh_fails level made outcome link work fresh none

flags_fresh : (enough : Bool) (level : ℕ) (offer : ServerOffer) (link : ℕ) (work : Work) → IsFresh level work → HeardFresh level (hear_flags enough offer link work)
flags_fresh false level offer link work fresh = fails_fresh level _ link work fresh refl
flags_fresh true level offer link work fresh = fresh

pairs_fresh : (pairs : Result (List (ℕ × List ℕ)) PairsRefused) (level : ℕ) (challenge : Challenge) (receive link : ℕ) (work : Work) → IsFresh level work → HeardFresh level (hear_pairs pairs challenge receive link work)
pairs_fresh (Err why) level challenge receive link work fresh = fails_fresh level _ link work fresh refl
pairs_fresh (Ok pairs) level challenge receive link work fresh =
    flags_fresh (is_enough work.task.level work.task.auth (agreed_flags (offer_of work.task.auth) challenge.flags)) level _ link work fresh

challenge_fresh : (challenge : Result Challenge MessageRefused) (level receive link : ℕ) (work : Work) → IsFresh level work → HeardFresh level (hear_challenge challenge receive link work)
challenge_fresh (Err why) level receive link work fresh = fails_fresh level _ link work fresh refl
challenge_fresh (Ok challenge) level receive link work fresh = pairs_fresh _ level challenge receive link work fresh

trailer_fresh : (trailer : Option Trailer) (level receive link : ℕ) (work : Work) → IsFresh level work → HeardFresh level (hear_trailer trailer receive link work)
trailer_fresh None level receive link work fresh = fails_fresh level _ link work fresh refl
trailer_fresh (Some trailer) level receive link work fresh = challenge_fresh (challenge_of trailer.value) level receive link work fresh

result_fresh : (accepts : Bool) (reason : ℕ) (trailer : Option Trailer) (level receive link : ℕ) (work : Work) → IsFresh level work → HeardFresh level (hear_result accepts reason trailer receive link work)
result_fresh false reason trailer level receive link work fresh = fails_fresh level _ link work fresh refl
result_fresh true reason trailer level receive link work fresh = trailer_fresh trailer level receive link work fresh

ack_fresh : (results : List (ℕ × ℕ × Syntax)) (trailer : Option Trailer) (level receive link : ℕ) (work : Work) → IsFresh level work → HeardFresh level (hear_ack results trailer receive link work)
ack_fresh [] trailer level receive link work fresh = fails_fresh level _ link work fresh refl
ack_fresh (first ∷ results) trailer level receive link work fresh = result_fresh (first.0 == 0) first.1 trailer level receive link work fresh

body_fresh : (body : Body) (unit : RpcUnit) (bytes : List ℕ) (joiner : Option RpcUnit) (level link : ℕ) (work : Work) → IsFresh level work → HeardFresh level (hear_body body Bound unit bytes joiner link work)
body_fresh (Bind send receive group contexts) unit bytes joiner level link work fresh = fails_fresh level _ link work fresh refl
body_fresh (BindAck send receive group results) unit bytes joiner level link work fresh = ack_fresh results unit.trailer level receive link work fresh
body_fresh (BindNak reason) unit bytes joiner level link work fresh = fails_fresh level _ link work fresh refl
body_fresh Auth3 unit bytes joiner level link work fresh = fails_fresh level _ link work fresh refl
body_fresh (Request hint context opnum stub) unit bytes joiner level link work fresh = fails_fresh level _ link work fresh refl
body_fresh (Response hint context stub) unit bytes joiner level link work fresh = fails_fresh level _ link work fresh refl
body_fresh (Fault hint context status) unit bytes joiner level link work fresh = fails_fresh level _ link work fresh (no_key_in_fault (status == rpc_s_server_unavailable) status)

call_fresh : (number : Bool) (unit : RpcUnit) (bytes : List ℕ) (joiner : Option RpcUnit) (level link : ℕ) (work : Work) → IsFresh level work →
    HeardFresh level (hear_call number unit bytes (record { link = link; joiner = joiner; phase = Bound }) work)
call_fresh false unit bytes joiner level link work fresh = fails_fresh level _ link work fresh refl
call_fresh true unit bytes joiner level link work fresh = body_fresh unit.body unit bytes joiner level link work fresh

unit_fresh : (unit : Result RpcUnit UnitRefused) (bytes : List ℕ) (joiner : Option RpcUnit) (level link : ℕ) (work : Work) → IsFresh level work →
    HeardFresh level (hear_unit unit bytes (record { link = link; joiner = joiner; phase = Bound }) work)
unit_fresh (Err why) bytes joiner level link work fresh = fails_fresh level _ link work fresh refl
unit_fresh (Ok unit) bytes joiner level link work fresh = call_fresh _ unit bytes joiner level link work fresh

-- ---- the message goes out, and what comes behind it

abbrev pub PartDown : ℕ → List MessageMade → ServedPart Work Talk → Type 0
PartDown level made (Err why) = Unit {0}
PartDown level made (Ok part) = Down level made part.value.0 part.value.1

-- the bytes of the message that was made come first, and its key is kept
abbrev pub PastOf : ℕ → MessageMade → Work → Option Talk → Type 0
PastOf level one work talk = Past level (IsFirst level (written (auth3_unit level one.bytes))) one.key work talk

first_down : (level : ℕ) (one : MessageMade) (sends : List (List ℕ)) → IsFirst level (written (auth3_unit level one.bytes)) sends → IsWrittenDown level sends (one ∷ [])
first_down level one [] first = absurd first
first_down level one (bytes ∷ sends) first = first

key_down : (one : MessageMade) (found : Option (List ℕ)) → IsSameKey one.key found → IsKeptOf found (one ∷ [])
key_down one None same = tt
key_down one (Some key) same = sym same

talk_down : (one : MessageMade) (talk : Option Talk) → IsKeyIn one.key talk → IsKeptOf (key_said talk) (one ∷ [])
talk_down one None is = tt
talk_down one (Some talk) is = subst (λ (f : Option (List ℕ)). IsKeptOf f (one ∷ [])) (sym is) refl

past_down : (level : ℕ) (one : MessageMade) (work : Work) (talk : Option Talk) → PastOf level one work talk → Down level (one ∷ []) work talk
past_down level one work talk past =
    (record { sends = first_down level one (sends_in work.actions) past.0.sends; ends = key_down one (key_in_outcome work.outcome) past.0.out }, talk_down one talk past.1)

part_down : (level : ℕ) (one : MessageMade) (part : ServedPart Work Talk) → PartPast level (IsFirst level (written (auth3_unit level one.bytes))) one.key part → PartDown level (one ∷ []) part
part_down level one (Err why) past = tt
part_down level one (Ok part) past = past_down level one part.value.0 part.value.1 past

-- what the units behind it come to
abbrev pub LaterOf : List (List ℕ) → Option UnitRefused → Work → Option Talk → List (List ℕ) → ServedPart Work Talk
LaterOf units why work talk left = then_talk work talk left (λ later said rest. served_by client_server units why later said rest)

abbrev pub later_notes : List (List ℕ) → ClientAt → Work → Option Talk → List (List ℕ) → List MessageMade
later_notes units w work talk left = flat_map (made_note w) (served.units_on work talk left (λ later said rest. served_units client_server units later said rest))

sent_down : (units : List (List ℕ)) (why : Option UnitRefused) (level : ℕ) (one : MessageMade) (w : ClientAt) (work : Work) (talk : Option Talk) (left : List (List ℕ)) → PastOf level one work talk →
    PartDown level (one ∷ later_notes units w work talk left) (LaterOf units why work talk left)
sent_down units why level one w work talk left past =
    let later = talk_past units why level (IsFirst level (written (auth3_unit level one.bytes))) one.key w work talk left
    (units_past units why level (IsFirst level (written (auth3_unit level one.bytes))) one.key w (first_lasts level (written (auth3_unit level one.bytes)))) past in
    subst (λ (made : List MessageMade). PartDown level (one ∷ made) (LaterOf units why work talk left)) (sym later.1) (part_down level one (LaterOf units why work talk left) later.0)

-- WhoAmI goes out behind the message
who_past : (sending : Option Sending) (level : ℕ) (one : MessageMade) (terms : Terms) (link : ℕ) (work : Work) → terms.key ≡ one.key → IsFresh level work → ((request : Sending) → sending ≡ Some request → IsRequestSent level request.bytes) →
    HeardPast level (IsFirst level (written (auth3_unit level one.bytes))) one.key (done (asks sending terms Who link (told work (action.Send link (written (auth3_unit level one.bytes))))))
who_past sending level one terms link work same fresh request =
    asks_past sending level (IsFirst level (written (auth3_unit level one.bytes))) one.key terms Who link (told work (action.Send link (written (auth3_unit level one.bytes))))
    (first_lasts level (written (auth3_unit level one.bytes))) same
    (record {
      level_is = fresh.level_is;
      sends = subst (IsFirst level (written (auth3_unit level one.bytes)))
          (sym (sends_more work (action.Send link (written (auth3_unit level one.bytes)))
          ∙ ap (λ (s : List (List ℕ)). s ++ written (auth3_unit level one.bytes) ∷ []) fresh.sends)) (refl, tt);
      out = no_key_same one.key (key_in_outcome work.outcome) (ap key_in_outcome fresh.none);
    })
    request

-- ---- the answer to a CHALLENGE, by the form of its message

-- the message that is written down
abbrev pub message_of : ClientAt → ClientPlan → List ℕ → List ℕ → List ℕ → MessageMade
message_of w plan challenge key bytes =
    record { at = w.at; client = w.client; link = w.link; plan = plan; challenge = challenge; bytes = bytes; key = key }

-- what is written down of a message, whether or not it fits into a unit
fit_down : (fits : Bool) (units : List (List ℕ)) (why : Option UnitRefused) (w : ClientAt) (challenge key bytes : List ℕ) (offer : ServerOffer) (link : ℕ) (work : Work) (left : List (List ℕ)) → IsFresh work.task.level work →
    let answer : Work × Option Talk = answers_by (bytes_if fits (auth3_unit work.task.level bytes)) (terms_of work.task.level offer key) link work in
    PartDown work.task.level (message_of w work.task challenge key bytes ∷ later_notes units w answer.0 answer.1 left) (LaterOf units why answer.0 answer.1 left)
fit_down false units why w challenge key bytes offer link work left fresh =
    (fresh_fails work.task.level (message_of w work.task challenge key bytes ∷ []) _ link work fresh refl, tt)
fit_down true units why w challenge key bytes offer link work left fresh =
    let one : MessageMade = message_of w work.task challenge key bytes in
    let terms : Terms = terms_of work.task.level offer key in
    let sending : Option Sending = send_call terms.session work.task.level (request_of who_number 0 who_opnum []) (limit_of terms.receive) in
    sent_down units why work.task.level one w _ _ left
    (who_past sending work.task.level one terms link work refl fresh
    (λ request is. request_sent work.task.level work.task.level terms who_number who_opnum [] (limit_of terms.receive) request refl is))

form_down : (form : Result (List ℕ) WriteRefused) (units : List (List ℕ)) (why : Option UnitRefused) (w : ClientAt) (challenge key : List ℕ) (offer : ServerOffer) (link : ℕ) (work : Work) (left : List (List ℕ)) → IsFresh work.task.level work →
    let answer : Work × Option Talk = answers_by (auth3_by work.task.level form) (terms_of work.task.level offer key) link work in
    PartDown work.task.level (made_of form w work.task challenge key ++ later_notes units w answer.0 answer.1 left) (LaterOf units why answer.0 answer.1 left)
form_down (Err refused) units why w challenge key offer link work left fresh = (fresh_fails work.task.level [] _ link work fresh refl, tt)
form_down (Ok bytes) units why w challenge key offer link work left fresh =
    fit_down (nat_le (length (written (auth3_unit work.task.level bytes))) 5840) units why w challenge key bytes offer link work left fresh

drawn_down : (part : Result (Part Drawn) StepRefused) (units : List (List ℕ)) (why : Option UnitRefused) (w : ClientAt) (challenge : List ℕ) (offer : ServerOffer) (link : ℕ) (work : Work) → IsFresh work.task.level work →
    PartDown work.task.level
    (made_by part offer work.task w challenge ++ flat_map (made_note w) (units_then (then_part part (answers_part offer link work)) (λ later said rest. served_units client_server units later said rest)))
    (then_open (then_part part (answers_part offer link work)) (λ later said rest. served_by client_server units why later said rest))
drawn_down (Err refused) units why w challenge offer link work fresh = tt
drawn_down (Ok part) units why w challenge offer link work fresh =
    let answer : Answer = answer_of work.task offer part.value in
    form_down (form_of (authenticate_fields answer.message) (written_authenticate answer.message)) units why w challenge answer.key offer link work part.left fresh

heard_down : (what : Heard) (units : List (List ℕ)) (why : Option UnitRefused) (level : ℕ) (w : ClientAt) (left : List (List ℕ)) (challenge : List ℕ) → HeardFresh level what →
    PartDown level
    (made_heard what left w challenge ++ flat_map (made_note w) (units_then (serve_heard what left) (λ later said rest. served_units client_server units later said rest)))
    (then_open (serve_heard what left) (λ later said rest. served_by client_server units why later said rest))
heard_down (heard.Done work None) units why level w left challenge fresh = (fresh [], tt)
heard_down (heard.Done work (Some talk)) units why level w left challenge fresh = absurd fresh
heard_down (heard.Challenged work link offer) units why level w left challenge fresh =
    subst (λ (n : ℕ). PartDown n
    (made_heard (heard.Challenged work link offer) left w challenge ++ flat_map (made_note w) (units_then (serve_heard (heard.Challenged work link offer) left) (λ later said rest. served_units client_server units later said rest)))
    (then_open (serve_heard (heard.Challenged work link offer) left) (λ later said rest. served_by client_server units why later said rest)))
    fresh.level_is
    (drawn_down (drawn_for (has_flag offer.flags negotiate_key_exch) left) units why w challenge offer link work
    (record { level_is = refl; sends = fresh.sends; none = fresh.none }))

fresh_down : (level : ℕ) (work : Work) → IsFresh level work → IsDown level [] work
fresh_down level work fresh = record {
  sends = none_written level (sends_in work.actions) [] fresh.sends;
  ends = none_kept (key_in_outcome work.outcome) [] (ap key_in_outcome fresh.none);
}

abbrev pub bound_talk : ℕ → Option RpcUnit → Talk
bound_talk link joiner = record { link = link; joiner = joiner; phase = Bound }

units_down : (units : List (List ℕ)) (why : Option UnitRefused) (level : ℕ) (w : ClientAt) (link : ℕ) (joiner : Option RpcUnit) (work : Work) (left : List (List ℕ)) → IsFresh level work →
    PartDown level (flat_map (made_note w) (served_units client_server units work (bound_talk link joiner) left)) (served_by client_server units why work (bound_talk link joiner) left)
units_down [] None level w link joiner work left fresh = (fresh_down level work fresh, tt)
units_down [] (Some why) level w link joiner work left fresh = (fresh_fails level [] _ link work fresh refl, tt)
units_down (bytes ∷ units) why level w link joiner work left fresh =
    heard_down (hear bytes (bound_talk link joiner) work) units why level w left (message_in bytes) (unit_fresh (unit_of bytes) bytes joiner level link work fresh)

-- ---- a step

abbrev pub AfterDown : ℕ → List MessageMade → Result (Part After) StepRefused → Type 0
AfterDown level made (Err why) = Unit {0}
AfterDown level made (Ok part) = IsDown level made part.value.work × IsKeptOf (key_on part.value.standing) made

said_on : (talk : Option Talk) (rest : List ℕ) → key_on (standing_by talk rest) ≡ key_said talk
said_on None rest = refl
said_on (Some talk) rest = refl

stream_down : (level : ℕ) (made : List MessageMade) (rest : List ℕ) (part : ServedPart Work Talk) → PartDown level made part → AfterDown level made (then_part part (after_stream rest))
stream_down level made rest (Err why) down = tt
stream_down level made rest (Ok part) down = (down.0, subst (λ (f : Option (List ℕ)). IsKeptOf f made) (sym (said_on part.value.1 rest)) down.1)

abbrev pub link_at : List ℕ → ℕ → Option RpcUnit → Phase → LinkState Talk
link_at rest link joiner phase = record { rest = rest; talk = record { link = link; joiner = joiner; phase = phase } }

first_work : (plan : ClientPlan) (now : ℕ) → IsFresh plan.level (work_of plan now)
first_work plan now = record { level_is = refl; sends = refl; none = refl }

piece_down : (own : Bool) (piece rest : List ℕ) (link : ℕ) (joiner : Option RpcUnit) (plan : ClientPlan) (now : ℕ) (left : List (List ℕ)) (w : ClientAt) →
    AfterDown plan.level (flat_map (made_note w) (units_if own (link_at rest link joiner Bound) piece plan now left)) (by_piece own piece (link_at rest link joiner Bound) (work_of plan now) left)
piece_down false piece rest link joiner plan now left w = (fresh_down plan.level (work_of plan now) (first_work plan now), tt)
piece_down true piece rest link joiner plan now left w =
    stream_down plan.level _ (cut_stream (rest ++ piece)).rest _
    (units_down (cut_stream (rest ++ piece)).units (cut_stream (rest ++ piece)).refused plan.level w link joiner (work_of plan now) left (first_work plan now))

step_down : (part : Result (Part After) StepRefused) (s : ClientState) (left : List (List ℕ)) (level : ℕ) (w : ClientAt) (units : List (ServedUnit Work Talk)) (actions : List Action) → AfterDown level (flat_map (made_note w) units) part →
    (step_by actions_after state_after s left part).answer ≡ Ok actions →
    IsStepWrittenDown level actions (step_by actions_after state_after s left part).state (flat_map (made_note w) (units_if_taken (step_by actions_after state_after s left part).answer units))
step_down (Err why) s left level w units actions down is = absurd cc
step_down (Ok part) s left level w units actions down is =
    let same : part.value.work.actions ≡ actions = cc in
    record {
      sends = subst (λ (a : List Action). IsWrittenDown level (sends_in a) (flat_map (made_note w) units)) same down.0.sends;
      keeps = down.1;
      ends = down.0.ends;
    }

-- a client that has no outcome, with its link open
abbrev pub state_of : Option Running → Option ClientOutcome → ClientState
state_of running outcome = record { running = running; outcome = outcome }

abbrev pub running_at : ClientPlan → ClientLink → Running
running_at plan standing = record { task = plan; standing = standing }

lifted : (P : ClientState → Type 0) (s : ClientState) (running : Running) (link : LinkState Talk) → IsOn s running link → P (state_of (Some (running_at running.task (On link))) None) → P s
lifted P s running link on base =
    subst (λ (o : Option ClientOutcome). P (state_of s.running o)) (sym on.none)
    (subst (λ (r : Option Running). P (state_of r None)) (sym on.runs)
    (subst (λ (h : ClientLink). P (state_of (Some (running_at running.task h)) None)) (sym on.stands) base))

abbrev pub WrittenAt : ℕ → ClientAt → ℕ → List ℕ → ℕ → List (List ℕ) → ClientState → Type 0
WrittenAt level w number piece now left s =
    (actions : List Action) → (step_of s (event.Bytes number piece) now left).answer ≡ Ok actions →
    IsStepWrittenDown level actions (step_of s (event.Bytes number piece) now left).state (flat_map (made_note w) (units_of_client s number piece now left))

bound_down : (plan : ClientPlan) (rest : List ℕ) (link : ℕ) (joiner : Option RpcUnit) (w : ClientAt) (number : ℕ) (piece : List ℕ) (now : ℕ) (left : List (List ℕ)) →
    WrittenAt plan.level w number piece now left (state_of (Some (running_at plan (On (link_at rest link joiner Bound)))) None)
bound_down plan rest link joiner w number piece now left = λ actions is.
    step_down (by_piece (number == link) piece (link_at rest link joiner Bound) (work_of plan now) left)
    (halted (state_of (Some (running_at plan (On (link_at rest link joiner Bound)))) None)) left plan.level w
    (units_if (number == link) (link_at rest link joiner Bound) piece plan now left) actions (piece_down (number == link) piece rest link joiner plan now left w) is

phase_down : (s : ClientState) (running : Running) (link : LinkState Talk) (w : ClientAt) (number : ℕ) (piece : List ℕ) (now : ℕ) (left : List (List ℕ)) → IsOn s running link → link.talk.phase ≡ Bound →
    WrittenAt running.task.level w number piece now left s
phase_down s running link w number piece now left on bound =
    lifted (λ (c : ClientState). WrittenAt running.task.level w number piece now left c) s running link on
    (subst (λ (p : Phase). WrittenAt running.task.level w number piece now left (state_of (Some (running_at running.task (On (link_at link.rest link.talk.link link.talk.joiner p)))) None))
    (sym bound) (bound_down running.task link.rest link.talk.link link.talk.joiner w number piece now left))

-- ---- a later step

abbrev pub AfterPast : ℕ → List ℕ → Result (Part After) StepRefused → Type 0
AfterPast level key (Err why) = Unit {0}
AfterPast level key (Ok part) = IsPast level (AllByRecursion (IsRequestSent level)) key part.value.work × IsSameKey key (key_on part.value.standing)

key_same : (key : List ℕ) (talk : Option Talk) (rest : List ℕ) → IsKeyIn key talk → IsSameKey key (key_on (standing_by talk rest))
key_same key None rest is = tt
key_same key (Some talk) rest is = subst (IsSameKey key) (sym is) refl

stream_past : (level : ℕ) (key rest : List ℕ) (part : ServedPart Work Talk) → PartPast level (AllByRecursion (IsRequestSent level)) key part → AfterPast level key (then_part part (after_stream rest))
stream_past level key rest (Err why) past = tt
stream_past level key rest (Ok part) past = (past.0, key_same key part.value.1 rest past.1)

first_past : (plan : ClientPlan) (now : ℕ) (key : List ℕ) → IsPast plan.level (AllByRecursion (IsRequestSent plan.level)) key (work_of plan now)
first_past plan now key = record { level_is = refl; sends = tt; out = tt }

piece_past : (own : Bool) (piece rest : List ℕ) (link : ℕ) (joiner : Option RpcUnit) (terms : Terms) (question : Question) (plan : ClientPlan) (now : ℕ) (left : List (List ℕ)) (w : ClientAt) →
    AfterPast plan.level terms.key (by_piece own piece (link_at rest link joiner (Asked terms question)) (work_of plan now) left)
    × (flat_map (made_note w) (units_if own (link_at rest link joiner (Asked terms question)) piece plan now left) ≡ [])
piece_past false piece rest link joiner terms question plan now left w = ((first_past plan now terms.key, refl), refl)
piece_past true piece rest link joiner terms question plan now left w =
    let cut = cut_stream (rest ++ piece) in
    let goes = units_past cut.units cut.refused plan.level (AllByRecursion (IsRequestSent plan.level)) terms.key w (requests_last plan.level) (work_of plan now)
    (link_at rest link joiner (Asked terms question)).talk left (first_past plan now terms.key, refl) in
    (stream_past plan.level terms.key cut.rest _ goes.0, goes.1)

abbrev pub LaterAt : ℕ → List ℕ → ClientAt → ℕ → List ℕ → ℕ → List (List ℕ) → ClientState → Type 0
LaterAt level key w number piece now left s =
    (actions : List Action) → (step_of s (event.Bytes number piece) now left).answer ≡ Ok actions →
    (flat_map (made_note w) (units_of_client s number piece now left) ≡ [])
    × AllByRecursion (IsRequestSent level) (sends_in actions)
    × IsSameKey key (key_in_running (step_of s (event.Bytes number piece) now left).state.running)
    × IsSameKey key (key_in_outcome (step_of s (event.Bytes number piece) now left).state.outcome)

step_past : (part : Result (Part After) StepRefused) (s : ClientState) (left : List (List ℕ)) (level : ℕ) (key : List ℕ) (w : ClientAt) (units : List (ServedUnit Work Talk)) (actions : List Action) → AfterPast level key part →
    flat_map (made_note w) units ≡ [] → (step_by actions_after state_after s left part).answer ≡ Ok actions →
    (flat_map (made_note w) (units_if_taken (step_by actions_after state_after s left part).answer units) ≡ [])
    × AllByRecursion (IsRequestSent level) (sends_in actions)
    × IsSameKey key (key_in_running (step_by actions_after state_after s left part).state.running)
    × IsSameKey key (key_in_outcome (step_by actions_after state_after s left part).state.outcome)
step_past (Err why) s left level key w units actions past none is = absurd cc
step_past (Ok part) s left level key w units actions past none is =
    let same : part.value.work.actions ≡ actions = cc in
    (none, subst (λ (a : List Action). AllByRecursion (IsRequestSent level) (sends_in a)) same past.0.sends, past.1, past.0.out)

asked_past : (plan : ClientPlan) (rest : List ℕ) (link : ℕ) (joiner : Option RpcUnit) (terms : Terms) (question : Question) (w : ClientAt) (number : ℕ) (piece : List ℕ) (now : ℕ) (left : List (List ℕ)) →
    LaterAt plan.level terms.key w number piece now left (state_of (Some (running_at plan (On (link_at rest link joiner (Asked terms question))))) None)
asked_past plan rest link joiner terms question w number piece now left = λ actions is.
    let past = piece_past (number == link) piece rest link joiner terms question plan now left w in
    step_past (by_piece (number == link) piece (link_at rest link joiner (Asked terms question)) (work_of plan now) left)
    (halted (state_of (Some (running_at plan (On (link_at rest link joiner (Asked terms question))))) None)) left plan.level terms.key w
    (units_if (number == link) (link_at rest link joiner (Asked terms question)) piece plan now left) actions past.0 past.1 is

phase_past : (s : ClientState) (running : Running) (link : LinkState Talk) (terms : Terms) (question : Question) (w : ClientAt) (number : ℕ) (piece : List ℕ) (now : ℕ) (left : List (List ℕ)) → IsOn s running link →
    link.talk.phase ≡ Asked terms question → LaterAt running.task.level terms.key w number piece now left s
phase_past s running link terms question w number piece now left on asked =
    lifted (λ (c : ClientState). LaterAt running.task.level terms.key w number piece now left c) s running link on
    (subst (λ (p : Phase). LaterAt running.task.level terms.key w number piece now left (state_of (Some (running_at running.task (On (link_at link.rest link.talk.link link.talk.joiner p)))) None))
    (sym asked) (asked_past running.task link.rest link.talk.link link.talk.joiner terms question w number piece now left))

-- each message that a client sends is written down, with its key
pub clients_write_down : ClientsWriteDownWhatTheySend
clients_write_down = record {
  answers = λ s running link number piece now left actions w on bound is. phase_down s running link w number piece now left on bound actions is;
  later = λ s running link number piece now left actions w terms question on asked is. phase_past s running link terms question w number piece now left on asked actions is;
}
