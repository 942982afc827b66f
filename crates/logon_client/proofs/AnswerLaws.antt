-- What a client answers: it verifies, and its key is found.
use Rattle.std.proofs.Common.{ℕ, ◌≡◌, ◌==◌, ◌&&◌, ◌||◌, not, Bool, true, false, List, [], ◌∷◌, ◌++◌, length, Option, Some, None, Result, Ok, Err, refl, sym, ap, subst, ◌∙◌, arith}
use Rattle.std.specs.List.{AllByRecursion}
use Rattle.std.proofs.lemmas.List.{length-append}
use Rattle.rc4_stream.specs.Rc4.{applied}
use Rattle.rc4_stream.proofs.Rc4Laws.{length-applied, applied-applied}
use Rattle.ntlm_flags.specs.Flags.{has_flag, agreed_flags, negotiate_unicode, negotiate_extended_sessionsecurity, negotiate_key_exch, offered_flags_v1}
use Rattle.ntlm_flags.proofs.FlagLaws.{has_flag-and}
use Rattle.ntlm_messages.specs.Challenge.{challenge_of}
use Rattle.ntlm_messages.specs.declared.messages.Challenge.{Challenge}
use Rattle.ntlm_messages.specs.declared.pairs.PairsRefused.{PairsRefused}
use Rattle.ntlm_messages.specs.declared.refused.MessageRefused.{MessageRefused}
use Rattle.ntlm_responses.specs.Keys.{exported_key_by}
use Rattle.ntlm_responses.specs.Verification.{PairVerifies}
use Rattle.ntlm_responses.proofs.ResponseLaws.{pair_v1, pair_ess, pair_v2, message_names}
use Rattle.outside.specs.declared.action.StepRefused.{StepRefused}
use Rattle.outside.specs.Machine.{Part}
use Rattle.rpc_units.specs.declared.refused.UnitRefused.{UnitRefused}
use Rattle.rpc_units.specs.declared.unit.Body.{Body}
use Rattle.rpc_units.specs.declared.unit.Body.TheVariants.{Bind, BindAck, BindNak, Auth3, Request, Response, Fault}
use Rattle.rpc_units.specs.declared.unit.Syntax.{Syntax}
use Rattle.rpc_units.specs.declared.unit.Trailer.{Trailer}
use Rattle.rpc_units.specs.declared.unit.Unit.{Unit as RpcUnit}
use Rattle.rpc_units.specs.Reading.{unit_of}
use Rattle.logon_client.specs.declared.answering.Drawn.{Drawn}
use Rattle.logon_client.specs.declared.answering.ServerOffer.{ServerOffer}
use Rattle.logon_client.specs.declared.hearing.Heard.{Heard}
use Rattle.logon_client.specs.declared.hearing.Heard.TheVariants.{Done, Challenged}
use Rattle.logon_client.specs.declared.plan.AuthKind.{AuthKind}
use Rattle.logon_client.specs.declared.plan.AuthKind.TheVariants.{V1, V1Ess, V2}
use Rattle.logon_client.specs.declared.plan.ClientPlan.{ClientPlan}
use Rattle.logon_client.specs.declared.state.Phase.{Phase}
use Rattle.logon_client.specs.declared.state.Phase.TheVariants.{Bound, Asked}
use Rattle.logon_client.specs.declared.state.Talk.{Talk}
use Rattle.logon_client.specs.declared.state.Work.{Work}
use Rattle.logon_client.specs.Answering.{pairs_by, is_enough, drawn_for, nt_by, lm_by, keys_by, answer_of}
use Rattle.logon_client.specs.Asked.{HoldsOf, response_holds}
use Rattle.logon_client.specs.Answers.{IsAgreed, HasChosen, IsDrawn, OffersAgreed, DrawsKeys, AnswersVerify, KeysFound}
use Rattle.logon_client.specs.Machine.{hear_flags, hear_pairs, hear_challenge, hear_trailer, hear_result, hear_ack, hear_body, hear_call, hear_unit, offer_by}
use Rattle.unit_security.specs.Levels.{is_signed}
use Rattle.logon_client.specs.Plans.{offer_of}

-- ---- what is agreed

abbrev AgreedBy : ClientPlan → Heard → Type 0
AgreedBy plan (Done work talk) = Unit {0}
AgreedBy plan (Challenged work link offer) = IsAgreed plan offer

flags_agreed : (enough : Bool) (plan : ClientPlan) (offer : ServerOffer) (server link : ℕ) (work : Work) → offer.flags ≡ agreed_flags (offer_of plan.auth) server →
    is_enough plan.level plan.auth offer.flags ≡ enough → AgreedBy plan (hear_flags enough offer link work)
flags_agreed false plan offer server link work flags is = tt
flags_agreed true plan offer server link work flags is = record { server = server; flags = flags; enough = is }

pairs_agreed : (pairs : Result (List (ℕ × List ℕ)) PairsRefused) (challenge : Challenge) (receive link : ℕ) (work : Work) → AgreedBy work.task (hear_pairs pairs challenge receive link work)
pairs_agreed (Err why) challenge receive link work = tt
pairs_agreed (Ok pairs) challenge receive link work =
    flags_agreed _ work.task (offer_by (agreed_flags (offer_of work.task.auth) challenge.flags) challenge pairs work.now receive) challenge.flags link work refl refl

challenge_agreed : (challenge : Result Challenge MessageRefused) (receive link : ℕ) (work : Work) → AgreedBy work.task (hear_challenge challenge receive link work)
challenge_agreed (Err why) receive link work = tt
challenge_agreed (Ok challenge) receive link work = pairs_agreed (pairs_by (length challenge.info == 0) challenge.info) challenge receive link work

trailer_agreed : (trailer : Option Trailer) (receive link : ℕ) (work : Work) → AgreedBy work.task (hear_trailer trailer receive link work)
trailer_agreed None receive link work = tt
trailer_agreed (Some trailer) receive link work = challenge_agreed (challenge_of trailer.value) receive link work

result_agreed : (accepted : Bool) (reason : ℕ) (trailer : Option Trailer) (receive link : ℕ) (work : Work) → AgreedBy work.task (hear_result accepted reason trailer receive link work)
result_agreed false reason trailer receive link work = tt
result_agreed true reason trailer receive link work = trailer_agreed trailer receive link work

ack_agreed : (results : List (ℕ × ℕ × Syntax)) (trailer : Option Trailer) (receive link : ℕ) (work : Work) → AgreedBy work.task (hear_ack results trailer receive link work)
ack_agreed [] trailer receive link work = tt
ack_agreed (first ∷ results) trailer receive link work = result_agreed (first.0 == 0) first.1 trailer receive link work

-- no offer is answered while a response is waited for
asked_agreed : (link : ℕ) (work : Work) → HoldsOf (AgreedBy work.task) link work
asked_agreed link work = record { ends = λ outcome. tt; echoes = λ name terms. tt; goes_on = λ joiner terms question. tt }

body_agreed : (body : Body) (phase : Phase) (unit : RpcUnit) (bytes : List ℕ) (joiner : Option RpcUnit) (link : ℕ) (work : Work) → AgreedBy work.task (hear_body body phase unit bytes joiner link work)
body_agreed (Bind send receive group contexts) phase unit bytes joiner link work = tt
body_agreed (BindAck send receive group results) Bound unit bytes joiner link work = ack_agreed results unit.trailer receive link work
body_agreed (BindAck send receive group results) (Asked terms question) unit bytes joiner link work = tt
body_agreed (BindNak reason) phase unit bytes joiner link work = tt
body_agreed Auth3 phase unit bytes joiner link work = tt
body_agreed (Request hint context opnum stub) phase unit bytes joiner link work = tt
body_agreed (Response hint context stub) Bound unit bytes joiner link work = tt
body_agreed (Response hint context stub) (Asked terms question) unit bytes joiner link work =
    response_holds (AgreedBy work.task) terms.session unit bytes joiner terms question link work (asked_agreed link work)
body_agreed (Fault hint context status) phase unit bytes joiner link work = tt

call_agreed : (same : Bool) (unit : RpcUnit) (bytes : List ℕ) (talk : Talk) (work : Work) → AgreedBy work.task (hear_call same unit bytes talk work)
call_agreed false unit bytes talk work = tt
call_agreed true unit bytes talk work = body_agreed unit.body talk.phase unit bytes talk.joiner talk.link work

unit_agreed : (unit : Result RpcUnit UnitRefused) (bytes : List ℕ) (talk : Talk) (work : Work) → AgreedBy work.task (hear_unit unit bytes talk work)
unit_agreed (Err why) bytes talk work = tt
unit_agreed (Ok unit) bytes talk work = call_agreed _ unit bytes talk work

pub offers_agreed : OffersAgreed
offers_agreed bytes talk work after link offer is = subst (AgreedBy work.task) is (unit_agreed (unit_of bytes) bytes talk work)

-- ---- what is drawn

ok_same : (one other : Part Drawn) → ◌≡◌ {A = Result (Part Drawn) StepRefused} (Ok one) (Ok other) → one ≡ other
ok_same one other is = cc

drawn_by : (exchanges : Bool) (left : List (List ℕ)) → AllByRecursion (λ challenge. length challenge ≡ 8) left → (part : Part Drawn) → drawn_for exchanges left ≡ Ok part → IsDrawn exchanges part.value
drawn_by false [] each part is = absurd cc
drawn_by false (client ∷ left) each part is =
    let value : record { client = client; chosen = None } ≡ part.value = ap Part.value (ok_same _ part is) in
    subst (λ d. IsDrawn false d) value (record { client = each.0; chosen = refl })
drawn_by true [] each part is = absurd cc
drawn_by true (client ∷ []) each part is = absurd cc
drawn_by true (client ∷ first ∷ []) each part is = absurd cc
drawn_by true (client ∷ first ∷ second ∷ left) each part is =
    let value : record { client = client; chosen = Some (first ++ second) } ≡ part.value = ap Part.value (ok_same _ part is) in
    subst (λ d. IsDrawn true d) value (record { client = each.0; chosen = omega (arith, length-append first second, each.1.0, each.1.1.0) })

pub draws_keys : DrawsKeys
draws_keys exchanges left part each is = drawn_by exchanges left each part is

-- ---- the message verifies

and_left : (one other : Bool) → (one && other) ≡ true → one ≡ true
and_left true other is = refl
and_left false other is = absurd cc

and_right : (one other : Bool) → (one && other) ≡ true → other ≡ true
and_right true other is = is
and_right false other is = absurd cc

has_unicode : (plan : ClientPlan) (offer : ServerOffer) → IsAgreed plan offer → has_flag offer.flags negotiate_unicode ≡ true
has_unicode plan offer agreed = and_left _ _ (and_left _ _ agreed.enough)

-- extended session security isn't offered
without_ess : (server : ℕ) → has_flag (agreed_flags offered_flags_v1 server) negotiate_extended_sessionsecurity ≡ false
without_ess server = has_flag-and offered_flags_v1 server negotiate_extended_sessionsecurity

with_ess : (signed has : Bool) → (not (signed || true) || has) ≡ true → has ≡ true
with_ess true has is = is
with_ess false has is = is

verifies_by : (auth : AuthKind) (plan : ClientPlan) (offer : ServerOffer) (client : List ℕ) (server : ℕ) → offer.flags ≡ agreed_flags (offer_of auth) server →
    is_enough plan.level auth offer.flags ≡ true → length client ≡ 8 →
    PairVerifies plan.hash offer.flags plan.user plan.domain offer.challenge (lm_by auth plan offer client) (nt_by auth plan offer client)
verifies_by V1 plan offer client server flags enough eight =
    pair_v1 plan.hash plan.user plan.domain offer.challenge _ offer.flags
    (ap (λ f. has_flag f negotiate_extended_sessionsecurity) flags ∙ without_ess server)
verifies_by V1Ess plan offer client server flags enough eight =
    pair_ess plan.hash plan.user plan.domain offer.challenge client offer.flags
    (with_ess (is_signed plan.level) (has_flag offer.flags negotiate_extended_sessionsecurity) (and_right _ _ enough)) eight
verifies_by V2 plan offer client server flags enough eight =
    pair_v2 plan.hash plan.user plan.domain offer.challenge _ client _ offer.flags offer.time eight

pub answers_verify : AnswersVerify
answers_verify plan offer drawn agreed eight user domain =
    message_names plan.hash plan.user plan.domain offer.challenge offer.flags (answer_of plan offer drawn).message (has_unicode plan offer agreed) user domain refl refl
    (verifies_by plan.auth plan offer drawn.client agreed.server agreed.flags agreed.enough eight)

-- ---- the key is found

key_by : (exchanges : Bool) (chosen : Option (List ℕ)) (exchange : List ℕ) → HasChosen exchanges chosen →
    exported_key_by exchanges (length (keys_by chosen exchange).field == 16) exchange (keys_by chosen exchange).field ≡ Some (keys_by chosen exchange).exported
key_by false chosen exchange none = ap (λ c. exported_key_by false (length (keys_by c exchange).field == 16) exchange (keys_by c exchange).field) none ∙ ap (λ c. Some (keys_by c exchange).exported) (sym none)
key_by true None exchange none = absurd none
key_by true (Some chosen) exchange long =
    ap (λ n. exported_key_by true (n == 16) exchange (applied exchange 0 chosen)) (length-applied exchange 0 chosen ∙ long)
    ∙ ap (λ (k : List ℕ). Some k) (applied-applied exchange 0 chosen)

pub keys_found : KeysFound
keys_found plan offer drawn chosen = key_by (has_flag offer.flags negotiate_key_exch) drawn.chosen _ chosen
