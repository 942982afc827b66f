-- The NEGOTIATE of a client and its answer to a CHALLENGE (MS-NLMP 3.1.5.1.1, 3.1.5.1.2). Which LM response stands
-- beside an NT response, and that each trailer is of context 1, is this project's own choice.
use Rattle.std.specs.Prelude.{ℕ, ◌==◌, ◌&&◌, ◌||◌, not, Bool, true, false, List, [], ◌∷◌, ◌++◌, length, replicate, nat_le, Option, Some, None, unwrap_or, Result, Ok, Err}
use Rattle.wire_base.specs.Units.{utf16_of}
use Rattle.rc4_stream.specs.Rc4.{applied}
use Rattle.ntlm_flags.specs.Flags.{has_flag, negotiate_unicode, negotiate_ntlm, negotiate_extended_sessionsecurity}
use Rattle.ntlm_messages.specs.Authenticate.{authenticate_fields, written_authenticate}
use Rattle.ntlm_messages.specs.Fields.{form_of}
use Rattle.ntlm_messages.specs.Negotiate.{written_negotiate}
use Rattle.ntlm_messages.specs.Pairs.{pair_bytes, pairs_of, timestamp_pair_of}
use Rattle.ntlm_messages.specs.declared.messages.Authenticate.{Authenticate}
use Rattle.ntlm_messages.specs.declared.messages.Negotiate.{Negotiate}
use Rattle.ntlm_messages.specs.declared.pairs.PairsRefused.{PairsRefused}
use Rattle.ntlm_messages.specs.declared.refused.WriteRefused.{WriteRefused}
use Rattle.ntlm_responses.specs.Keys.{exchange_key_of}
use Rattle.ntlm_responses.specs.Responses.{response_v1_of, response_ess_of, response_v2_of}
use Rattle.ntlm_responses.specs.Verification.{base_key_of}
use Rattle.outside.specs.declared.action.StepRefused.{StepRefused}
use Rattle.outside.specs.declared.action.StepRefused.TheVariants as refused
use Rattle.outside.specs.Machine.{Part}
use Rattle.rpc_units.specs.declared.unit.Unit.{Unit as RpcUnit}
use Rattle.rpc_units.specs.declared.unit.Body.TheVariants.{Auth3}
use Rattle.rpc_units.specs.Writing.{written}
use Rattle.memo_stubs.specs.Interface.{memo_syntax}
use Rattle.end_links.specs.Binding.{bind_of}
use Rattle.logon_client.specs.declared.plan.AuthKind.{AuthKind}
use Rattle.logon_client.specs.declared.plan.AuthKind.TheVariants.{V1, V1Ess, V2}
use Rattle.logon_client.specs.declared.plan.ClientPlan.{ClientPlan}
use Rattle.logon_client.specs.declared.answering.Answer.{Answer}
use Rattle.logon_client.specs.declared.answering.Drawn.{Drawn}
use Rattle.logon_client.specs.declared.answering.Keys.{Keys}
use Rattle.logon_client.specs.declared.answering.Responses.{Responses}
use Rattle.logon_client.specs.declared.answering.ServerOffer.{ServerOffer}
use Rattle.logon_client.specs.Plans.{offer_of, needs_ess}
use Rattle.unit_security.specs.Securing.{trailer_of}
use Rattle.logon_client.specs.Securing.{trailer_context}

-- ---- the bind

-- a NEGOTIATE without names
abbrev pub negotiate_for : AuthKind → Negotiate
negotiate_for auth = record { flags = offer_of auth; domain = []; workstation = []; version = None }

-- the bind, which is call 1
abbrev pub bind_for : ℕ → AuthKind → RpcUnit
bind_for level auth = record (bind_of memo_syntax 1) { trailer = Some (trailer_of level trailer_context (written_negotiate (negotiate_for auth))) }

-- ---- the CHALLENGE

-- the pairs of its target information, of which it may have none
abbrev pub pairs_by : (has_none : Bool) → List ℕ → Result (List (ℕ × List ℕ)) PairsRefused
pairs_by true info = Ok []
pairs_by false info = pairs_of info

-- Enough is agreed: texts in UTF-16LE, NTLM, and extended session security where it is needed.
abbrev pub is_enough : ℕ → AuthKind → ℕ → Bool
is_enough level auth flags =
    has_flag flags negotiate_unicode && has_flag flags negotiate_ntlm
    && (not (needs_ess level auth) || has_flag flags negotiate_extended_sessionsecurity)

-- the time of an NTLMv2 response: the server's where it tells it, else this moment
abbrev pub time_by : List (ℕ × List ℕ) → ℕ → ℕ
time_by pairs now = unwrap_or (timestamp_pair_of pairs) now

-- ---- the challenges that are drawn: the client's, and where keys are exchanged two more, which joined are the
-- exported key

abbrev pub drawn_for : Bool → List (List ℕ) → Result (Part Drawn) StepRefused
drawn_for false [] = Err refused.Spent
drawn_for false (client ∷ left) = Ok (record { value = record { client = client; chosen = None }; left = left })
drawn_for true [] = Err refused.Spent
drawn_for true (client ∷ []) = Err refused.Spent
drawn_for true (client ∷ first ∷ []) = Err refused.Spent
drawn_for true (client ∷ first ∷ second ∷ left) =
    Ok (record { value = record { client = client; chosen = Some (first ++ second) }; left = left })

-- ---- the responses

-- the pairs that an NTLMv2 response carries: the target information as it came, or the end pair where there is none
abbrev pub pairs_sent : Bool → List ℕ → List ℕ
pairs_sent true info = pair_bytes (0, [])
pairs_sent false info = info

abbrev pub nt_by : AuthKind → ClientPlan → ServerOffer → List ℕ → List ℕ
nt_by V1 plan offer client = response_v1_of plan.hash offer.challenge
nt_by V1Ess plan offer client = response_ess_of plan.hash offer.challenge client
nt_by V2 plan offer client =
    response_v2_of plan.hash plan.user plan.domain offer.challenge offer.time client
    (pairs_sent (length offer.info == 0) offer.info)

abbrev pub lm_by : AuthKind → ClientPlan → ServerOffer → List ℕ → List ℕ
lm_by V1 plan offer client = response_v1_of plan.hash offer.challenge
lm_by V1Ess plan offer client = client ++ replicate 16 0
lm_by V2 plan offer client = replicate 24 0

abbrev pub with_base : ClientPlan → List ℕ → List ℕ → Responses
with_base plan lm nt = record { lm = lm; nt = nt; base = base_key_of plan.hash plan.user plan.domain nt }

-- both responses to an offer, and the session base key
abbrev pub responses_of : ClientPlan → ServerOffer → List ℕ → Responses
responses_of plan offer client =
    with_base plan (lm_by plan.auth plan offer client) (nt_by plan.auth plan offer client)

-- ---- the keys: the exported key, and the key field of the message, which is that key under RC4 with the exchange key

abbrev pub keys_by : Option (List ℕ) → List ℕ → Keys
keys_by None exchange = record { exported = exchange; field = [] }
keys_by (Some chosen) exchange = record { exported = chosen; field = applied exchange 0 chosen }

abbrev pub keys_of : ServerOffer → Responses → Option (List ℕ) → Keys
keys_of offer responses chosen =
    keys_by chosen (exchange_key_of responses.base offer.flags offer.challenge responses.lm responses.nt)

-- ---- the message, whose flags are those agreed

abbrev pub message_of : ClientPlan → ServerOffer → Responses → List ℕ → Authenticate
message_of plan offer responses field = record {
  flags = offer.flags;
  lm = responses.lm;
  nt = responses.nt;
  domain = utf16_of plan.domain;
  user = utf16_of plan.user;
  workstation = utf16_of plan.workstation;
  key = field;
  version = None;
  mic = None;
}

abbrev pub answer_by : ClientPlan → ServerOffer → Responses → Keys → Answer
answer_by plan offer responses keys =
    record { message = message_of plan offer responses keys.field; key = keys.exported }

abbrev pub answer_with : ClientPlan → ServerOffer → Drawn → Responses → Answer
answer_with plan offer drawn responses =
    answer_by plan offer responses (keys_of offer responses drawn.chosen)

-- the AUTHENTICATE and the exported key
abbrev pub answer_of : ClientPlan → ServerOffer → Drawn → Answer
answer_of plan offer drawn = answer_with plan offer drawn (responses_of plan offer drawn.client)

-- ---- auth3, which has the number of the bind

abbrev pub auth3_unit : ℕ → List ℕ → RpcUnit
auth3_unit level message =
    record { first = true; last = true; call = 1; body = Auth3; trailer = Some (trailer_of level trailer_context message) }

-- the bytes of a unit, where they are no more than a unit may have
abbrev pub bytes_if : Bool → RpcUnit → Option (List ℕ)
bytes_if true unit = Some (written unit)
bytes_if false unit = None

abbrev pub bytes_within : RpcUnit → Option (List ℕ)
bytes_within unit = bytes_if (nat_le (length (written unit)) 5840) unit

abbrev pub auth3_by : ℕ → Result (List ℕ) WriteRefused → Option (List ℕ)
auth3_by level (Err why) = None
auth3_by level (Ok message) = bytes_within (auth3_unit level message)

-- the bytes of the unit that carries a message; none where the message doesn't fit into a unit
abbrev pub auth3_of : ℕ → Authenticate → Option (List ℕ)
auth3_of level message = auth3_by level (form_of (authenticate_fields message) (written_authenticate message))
