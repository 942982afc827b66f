-- A client answers the CHALLENGE that it read, by the plan that it began with.
-- It serves `messages_are_made`.
use Rattle.std.proofs.Common.{◌≡◌, ◌==◌, ◌<◌, ◌^◌, ℕ, Bool, true, false, List, [], ◌∷◌, length, Option, Some, None, Result, Ok, Err, refl, sym, ap, subst, ◌∙◌, arith}
use Rattle.std.specs.List.{AllByRecursion}
use Rattle.std.proofs.lemmas.Bool.{and_parts}
use Rattle.std.proofs.lemmas.Nat.{and_le_l}
use Rattle.wire_base.specs.Units.{AreUnits}
use Rattle.outside.specs.Machine.{Part}
use Rattle.outside.specs.declared.action.StepRefused.{StepRefused}
use Rattle.ntlm_flags.specs.Flags.{agreed_flags, has_flag, negotiate_key_exch, negotiate_unicode}
use Rattle.ntlm_messages.specs.Authenticate.{CanWriteAuthenticate, authenticate_fields, authenticate_of, written_authenticate}
use Rattle.ntlm_messages.specs.Challenge.{challenge_of}
use Rattle.ntlm_messages.specs.Fields.{FieldsFit, form_of, lengths_of, ◌>>=◌}
use Rattle.ntlm_messages.specs.declared.messages.Authenticate.{Authenticate}
use Rattle.ntlm_messages.specs.declared.messages.Challenge.{Challenge}
use Rattle.ntlm_messages.specs.declared.pairs.PairsRefused.{PairsRefused}
use Rattle.ntlm_messages.specs.declared.refused.Field.{Field}
use Rattle.ntlm_messages.specs.declared.refused.MessageRefused.{MessageRefused}
use Rattle.ntlm_messages.specs.declared.refused.WriteRefused.{WriteRefused}
use Rattle.ntlm_messages.proofs.AuthenticateWritten.{authenticate_back}
use Rattle.ntlm_messages.proofs.FieldLaws.{fields_fit}
use Rattle.ntlm_messages.proofs.TextLaws.{units_of_text-written}
use Rattle.rpc_units.specs.declared.refused.UnitRefused.{UnitRefused}
use Rattle.rpc_units.specs.declared.unit.Body.{Body}
use Rattle.rpc_units.specs.declared.unit.Body.TheVariants.{Bind, BindAck, BindNak, Auth3, Request, Response, Fault}
use Rattle.rpc_units.specs.declared.unit.Syntax.{Syntax}
use Rattle.rpc_units.specs.declared.unit.Trailer.{Trailer}
use Rattle.rpc_units.specs.declared.unit.Unit.{Unit as RpcUnit}
use Rattle.rpc_units.specs.Reading.{unit_of}
use Rattle.logon_client.specs.Answering.{answer_of, drawn_for, is_enough, keys_of, pairs_by, responses_of}
use Rattle.logon_client.specs.Answers.{HasChosen}
use Rattle.logon_client.specs.Asked.{HoldsOf, response_holds}
use Rattle.logon_client.specs.Machine.{asks, hear, hear_ack, hear_body, hear_call, hear_challenge, hear_flags, hear_pairs, hear_result, hear_trailer, hear_unit, offer_by}
use Rattle.logon_client.specs.Plans.{offer_of}
use Rattle.logon_client.specs.declared.answering.Drawn.{Drawn}
use Rattle.logon_client.specs.declared.answering.ServerOffer.{ServerOffer}
use Rattle.logon_client.specs.declared.hearing.Heard.{Heard}
use Rattle.logon_client.specs.declared.hearing.Heard.TheVariants as heard
use Rattle.logon_client.specs.declared.plan.AuthKind.{AuthKind}
use Rattle.logon_client.specs.declared.plan.AuthKind.TheVariants.{V1, V1Ess, V2}
use Rattle.logon_client.specs.declared.plan.ClientPlan.{ClientPlan}
use Rattle.logon_client.specs.declared.securing.Sending.{Sending}
use Rattle.logon_client.specs.declared.state.Phase.{Phase}
use Rattle.logon_client.specs.declared.state.Phase.TheVariants.{Bound, Asked}
use Rattle.logon_client.specs.declared.state.Question.{Question}
use Rattle.logon_client.specs.declared.state.Talk.{Talk}
use Rattle.logon_client.specs.declared.state.Terms.{Terms}
use Rattle.logon_client.specs.declared.state.Work.{Work}
use Rattle.logon_client.proofs.AnswerLaws.{draws_keys}
use Rattle.logon_client.proofs.AnsweringLaws.{message_writable}
use Rattle.step_notes.specs.ClientNotes.{ClientAt, made_by, made_heard, made_of}
use Rattle.step_notes.specs.MemberNotes.{message_in, message_read, trailer_value}
use Rattle.step_notes.specs.Records.{MessageMade}
use Rattle.domain_world.specs.Accepting.KeysMade.{IsMadeFrom}
use Rattle.domain_world.proofs.Moves.LeftLaws.{AreEights}

-- ---- what is heard

-- the offer is what was read of the bytes of that CHALLENGE, and enough is agreed
pub record IsOfferOf (plan : ClientPlan) (bytes : List ℕ) (offer : ServerOffer) : Type 0 where
  pub came : Challenge
  pub read : challenge_of bytes ≡ Ok came
  pub flags : offer.flags ≡ agreed_flags (offer_of plan.auth) came.flags
  pub challenge : offer.challenge ≡ came.challenge
  pub enough : is_enough plan.level plan.auth offer.flags ≡ true

-- the client keeps its plan
abbrev pub HeardOf : ClientPlan → List ℕ → Heard → Type 0
HeardOf plan bytes (heard.Done work talk) = work.task ≡ plan
HeardOf plan bytes (heard.Challenged work link offer) = (work.task ≡ plan) × IsOfferOf plan bytes offer

pub asks_of : (sending : Option Sending) (terms : Terms) (question : Question) (link : ℕ) (work : Work) → (asks sending terms question link work).0.task ≡ work.task
asks_of None terms question link work = refl
asks_of (Some sending) terms question link work = refl

flags_of : (enough : Bool) (bytes : List ℕ) (came : Challenge) (offer : ServerOffer) (link : ℕ) (work : Work) → challenge_of bytes ≡ Ok came →
    offer.flags ≡ agreed_flags (offer_of work.task.auth) came.flags → offer.challenge ≡ came.challenge → is_enough work.task.level work.task.auth offer.flags ≡ enough →
    HeardOf work.task bytes (hear_flags enough offer link work)
flags_of false bytes came offer link work read flags same is = refl
flags_of true bytes came offer link work read flags same is = (refl, record { came = came; read = read; flags = flags; challenge = same; enough = is })

pairs_of : (pairs : Result (List (ℕ × List ℕ)) PairsRefused) (bytes : List ℕ) (came : Challenge) (receive link : ℕ) (work : Work) → challenge_of bytes ≡ Ok came →
    HeardOf work.task bytes (hear_pairs pairs came receive link work)
pairs_of (Err why) bytes came receive link work read = refl
pairs_of (Ok pairs) bytes came receive link work read =
    flags_of _ bytes came (offer_by (agreed_flags (offer_of work.task.auth) came.flags) came pairs work.now receive) link work read refl refl refl

challenge_heard : (found : Result Challenge MessageRefused) (bytes : List ℕ) (receive link : ℕ) (work : Work) → challenge_of bytes ≡ found →
    HeardOf work.task bytes (hear_challenge found receive link work)
challenge_heard (Err why) bytes receive link work read = refl
challenge_heard (Ok came) bytes receive link work read = pairs_of (pairs_by (length came.info == 0) came.info) bytes came receive link work read

trailer_heard : (trailer : Option Trailer) (receive link : ℕ) (work : Work) → HeardOf work.task (trailer_value trailer) (hear_trailer trailer receive link work)
trailer_heard None receive link work = refl
trailer_heard (Some trailer) receive link work = challenge_heard (challenge_of trailer.value) trailer.value receive link work refl

result_heard : (accepted : Bool) (reason : ℕ) (trailer : Option Trailer) (receive link : ℕ) (work : Work) →
    HeardOf work.task (trailer_value trailer) (hear_result accepted reason trailer receive link work)
result_heard false reason trailer receive link work = refl
result_heard true reason trailer receive link work = trailer_heard trailer receive link work

ack_heard : (results : List (ℕ × ℕ × Syntax)) (trailer : Option Trailer) (receive link : ℕ) (work : Work) → HeardOf work.task (trailer_value trailer) (hear_ack results trailer receive link work)
ack_heard [] trailer receive link work = refl
ack_heard (first ∷ results) trailer receive link work = result_heard (first.0 == 0) first.1 trailer receive link work

-- no CHALLENGE is answered while a response is waited for
asked_heard : (bytes : List ℕ) (link : ℕ) (work : Work) → HoldsOf (HeardOf work.task bytes) link work
asked_heard bytes link work = record { ends = λ outcome. refl; echoes = λ name terms. asks_of _ terms _ link work; goes_on = λ joiner terms question. refl }

body_heard : (body : Body) (phase : Phase) (unit : RpcUnit) (bytes : List ℕ) (joiner : Option RpcUnit) (link : ℕ) (work : Work) →
    HeardOf work.task (trailer_value unit.trailer) (hear_body body phase unit bytes joiner link work)
body_heard (Bind send receive group contexts) phase unit bytes joiner link work = refl
body_heard (BindAck send receive group results) Bound unit bytes joiner link work = ack_heard results unit.trailer receive link work
body_heard (BindAck send receive group results) (Asked terms question) unit bytes joiner link work = refl
body_heard (BindNak reason) phase unit bytes joiner link work = refl
body_heard Auth3 phase unit bytes joiner link work = refl
body_heard (Request hint context opnum stub) phase unit bytes joiner link work = refl
body_heard (Response hint context stub) Bound unit bytes joiner link work = refl
body_heard (Response hint context stub) (Asked terms question) unit bytes joiner link work =
    response_holds (HeardOf work.task (trailer_value unit.trailer)) terms.session unit bytes joiner terms question link work (asked_heard (trailer_value unit.trailer) link work)
body_heard (Fault hint context status) phase unit bytes joiner link work = refl

call_heard : (same : Bool) (unit : RpcUnit) (bytes : List ℕ) (talk : Talk) (work : Work) → HeardOf work.task (trailer_value unit.trailer) (hear_call same unit bytes talk work)
call_heard false unit bytes talk work = refl
call_heard true unit bytes talk work = body_heard unit.body talk.phase unit bytes talk.joiner talk.link work

unit_heard : (unit : Result RpcUnit UnitRefused) (bytes : List ℕ) (talk : Talk) (work : Work) → HeardOf work.task (message_read unit) (hear_unit unit bytes talk work)
unit_heard (Err why) bytes talk work = refl
unit_heard (Ok unit) bytes talk work = call_heard _ unit bytes talk work

pub heard_of : (bytes : List ℕ) (talk : Talk) (work : Work) → HeardOf work.task (message_in bytes) (hear bytes talk work)
heard_of bytes talk work = unit_heard (unit_of bytes) bytes talk work

-- ---- the message that is made for it

-- the names of a plan are texts
abbrev pub HasNames : ClientPlan → Type 0
HasNames plan = AreUnits plan.user × AreUnits plan.domain

abbrev pub AreMadeFrom : List MessageMade → Type 0
AreMadeFrom made = AllByRecursion (λ (one : MessageMade). IsMadeFrom one) made

has_unicode : (plan : ClientPlan) (bytes : List ℕ) (offer : ServerOffer) → IsOfferOf plan bytes offer → has_flag offer.flags negotiate_unicode ≡ true
has_unicode plan bytes offer its = (and_parts _ _ (and_parts _ _ its.enough).0).0

offered_below : (auth : AuthKind) → offer_of auth < 2 ^ 32
offered_below V1 = omega arith
offered_below V1Ess = omega arith
offered_below V2 = omega arith

flags_below : (plan : ClientPlan) (bytes : List ℕ) (offer : ServerOffer) → IsOfferOf plan bytes offer → offer.flags < 2 ^ 32
flags_below plan bytes offer its = omega (arith, its.flags, and_le_l (offer_of plan.auth) its.came.flags, offered_below plan.auth)

-- the form of fields that fit is what is written
form_fits : (fields : List (Field × List ℕ)) (lengths : Result (Unit {0}) WriteRefused) (written bytes : List ℕ) → lengths_of fields ≡ lengths →
    ◌≡◌ {A = Result (List ℕ) WriteRefused} (lengths >>= λ fits. Ok written) (Ok bytes) → FieldsFit fields × (written ≡ bytes)
form_fits fields (Err why) written bytes is form = absurd cc
form_fits fields (Ok fits) written bytes is form = (fields_fit fields fits is, cc)

read_back : (message : Authenticate) (bytes : List ℕ) → CanWriteAuthenticate message → message.flags < 2 ^ 32 → message.version ≡ None → message.mic ≡ None →
    form_of (authenticate_fields message) (written_authenticate message) ≡ Ok bytes → authenticate_of bytes ≡ Ok message
read_back message bytes can below version mic form =
    let fits = form_fits (authenticate_fields message) (lengths_of (authenticate_fields message)) (written_authenticate message) bytes refl form in
    ap authenticate_of (sym fits.1)
    ∙ authenticate_back message can fits.0 (record { flags = below; version = rw version tt; mic = rw mic tt })

form_made : (form : Result (List ℕ) WriteRefused) (plan : ClientPlan) (bytes : List ℕ) (offer : ServerOffer) (drawn : Drawn) (w : ClientAt) → IsOfferOf plan bytes offer → HasNames plan →
    HasChosen (has_flag offer.flags negotiate_key_exch) drawn.chosen →
    form_of (authenticate_fields (answer_of plan offer drawn).message) (written_authenticate (answer_of plan offer drawn).message) ≡ form →
    AreMadeFrom (made_of form w plan bytes (answer_of plan offer drawn).key)
form_made (Err why) plan bytes offer drawn w its names chosen form = tt
form_made (Ok written) plan bytes offer drawn w its names chosen form = (
  record {
    offer = offer;
    drawn = drawn;
    came = its.came;
    read = its.read;
    flags = its.flags;
    challenge = its.challenge;
    again = read_back (answer_of plan offer drawn).message written (message_writable plan offer (responses_of plan offer drawn.client) (keys_of offer (responses_of plan offer drawn.client) drawn.chosen)) (flags_below plan bytes offer its) refl refl form;
    key = refl;
    chosen = chosen;
    user = units_of_text-written offer.flags plan.user (has_unicode plan bytes offer its) names.0;
    domain = units_of_text-written offer.flags plan.domain (has_unicode plan bytes offer its) names.1;
  },
  tt,
)

drawn_made : (found : Result (Part Drawn) StepRefused) (plan : ClientPlan) (bytes : List ℕ) (offer : ServerOffer) (left : List (List ℕ)) (w : ClientAt) → IsOfferOf plan bytes offer → HasNames plan →
    AreEights left → drawn_for (has_flag offer.flags negotiate_key_exch) left ≡ found → AreMadeFrom (made_by found offer plan w bytes)
drawn_made (Err why) plan bytes offer left w its names eights is = tt
drawn_made (Ok part) plan bytes offer left w its names eights is =
    form_made _ plan bytes offer part.value w its names (draws_keys (has_flag offer.flags negotiate_key_exch) left part eights is).chosen refl

pub made_from : (what : Heard) (plan : ClientPlan) (bytes : List ℕ) (left : List (List ℕ)) (w : ClientAt) → HeardOf plan bytes what → HasNames plan → AreEights left →
    AreMadeFrom (made_heard what left w bytes)
made_from (heard.Done work talk) plan bytes left w known names eights = tt
made_from (heard.Challenged work link offer) plan bytes left w known names eights =
    drawn_made (drawn_for (has_flag offer.flags negotiate_key_exch) left) work.task bytes offer left w
    (subst (λ (p : ClientPlan). IsOfferOf p bytes offer) (sym known.0) known.1) (subst (λ (p : ClientPlan). HasNames p) (sym known.0) names) eights refl
