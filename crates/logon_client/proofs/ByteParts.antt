-- What a client sends is bytes, and no more than an end sends at once: the bind, the auth3 and the calls.
use Rattle.std.proofs.Common.{◌≡◌, ℕ, ◌+◌, ◌%◌, ◌≤◌, ◌<◌, ◌==◌, ◌||◌, Bool, true, false, List, [], ◌∷◌, length, drop, map, Option, Some, None, Result, Ok, Err, nat_le, refl, sym, subst, arith, inl, inr}
use Rattle.std.specs.Prelude.{IsTrue}
use Rattle.std.specs.List.{range_with_len}
use Rattle.std.specs.Int.{w16, w32}
use Rattle.std.proofs.lemmas.Bool.{leb-true}
use Rattle.std.proofs.lemmas.Bool.Decides.{Decides-eqb}
use Rattle.std.proofs.lemmas.List.FromFn.{length-map-range_with_len}
use Rattle.wire_base.specs.Numbers.{AreBytes}
use Rattle.wire_base.proofs.NumberLaws.{AreBytes-drop, AreBytes-nil, AreBytes-take, all_from_bytes, bytes_from_all}
use Rattle.wire_base.proofs.UnitLaws.{AreBytes-utf16_of}
use Rattle.rc4_stream.specs.Rc4.{applied}
use Rattle.rc4_stream.proofs.Rc4Laws.{All-applied}
use Rattle.ntlm_messages.specs.Authenticate.{authenticate_fields, authenticate_payload, authenticate_table, written_authenticate}
use Rattle.ntlm_messages.specs.Challenge.{challenge_of}
use Rattle.ntlm_messages.specs.Fields.{◌>>=◌, IsField, field_bytes, form_of, offset_at, signature}
use Rattle.ntlm_messages.specs.Negotiate.{written_negotiate}
use Rattle.ntlm_messages.specs.declared.messages.Authenticate.{Authenticate}
use Rattle.ntlm_messages.specs.declared.messages.Challenge.{Challenge}
use Rattle.ntlm_messages.specs.declared.refused.WriteRefused.{WriteRefused}
use Rattle.ntlm_messages.proofs.ChallengeLaws.{challenge_found}
use Rattle.ntlm_responses.specs.Responses.{response_ess_of, response_v1_of, response_v2_of}
use Rattle.ntlm_responses.proofs.ResponseLaws.{All-response_ess_of, All-response_v1_of, All-response_v2_of}
use Rattle.ntlm_seal.specs.Sessions.{SessionState}
use Rattle.rpc_units.specs.declared.kind.Kind.{Kind}
use Rattle.rpc_units.specs.declared.unit.Trailer.{Trailer}
use Rattle.rpc_units.specs.declared.unit.Unit.{Unit as RpcUnit}
use Rattle.rpc_units.specs.Grammar.{IsEnd, IsUnit}
use Rattle.rpc_units.specs.Numbers.{ndr_syntax}
use Rattle.rpc_units.specs.Reading.{unit_of}
use Rattle.rpc_units.specs.Writing.{written}
use Rattle.rpc_units.proofs.CuttingLaws.{call_short}
use Rattle.rpc_units.proofs.GrammarLaws.{IsUnit-unit_of}
use Rattle.memo_stubs.specs.Interface.{memo_syntax}
use Rattle.memo_stubs.specs.Memo.{written_echo_request}
use Rattle.memo_stubs.proofs.MemoLaws.{request_stub}
use Rattle.end_links.specs.Sending.{request_of}
use Rattle.end_links.specs.Whole.{IsByteSend}
use Rattle.end_links.proofs.ByteLaws.{IsBytes, both, call_bytes, is_bytes, more, none, number, written_bytes, zero_bytes}
use Rattle.end_links.proofs.WholeLaws.{syntax_of_bytes}
use Rattle.unit_security.specs.Levels.{is_level}
use Rattle.unit_security.specs.Securing.{secure_call}
use Rattle.unit_security.specs.declared.securing.Secured.{Secured}
use Rattle.unit_security.proofs.ByteLaws.{IfSecured, IsSecured, call_secured}
use Rattle.logon_client.specs.declared.answering.Drawn.{Drawn}
use Rattle.logon_client.specs.declared.answering.ServerOffer.{ServerOffer}
use Rattle.logon_client.specs.declared.plan.AuthKind.{AuthKind}
use Rattle.logon_client.specs.declared.plan.AuthKind.TheVariants.{V1, V1Ess, V2}
use Rattle.logon_client.specs.declared.plan.ClientPlan.{ClientPlan}
use Rattle.logon_client.specs.declared.securing.Sending.{Sending}
use Rattle.logon_client.specs.Answering.{answer_of, auth3_by, auth3_of, auth3_unit, bind_for, bytes_if, keys_by, lm_by, nt_by, pairs_sent}
use Rattle.logon_client.specs.Machine.{echo_bytes}
use Rattle.logon_client.specs.Plans.{offer_of}
use Rattle.logon_client.specs.Securing.{send_call, sent_secured, trailer_context}
use Rattle.logon_client.proofs.AnsweringLaws.{bind_short}

-- ---- levels

level_by : (plain integrity privacy : Bool) (level : ℕ) → (level == 2) ≡ plain → (level == 5) ≡ integrity → (level == 6) ≡ privacy → (plain || (integrity || privacy)) ≡ true → level < 256
level_by true integrity privacy level two five six is = omega (arith, (Decides-eqb level 2).0 two)
level_by false true privacy level two five six is = omega (arith, (Decides-eqb level 5).0 five)
level_by false false true level two five six is = omega (arith, (Decides-eqb level 6).0 six)
level_by false false false level two five six is = absurd (let z = is in cc)

-- a level that is spoken is a byte
pub level_small : (level : ℕ) → IsTrue (is_level level) → level < 256
level_small level is = level_by (level == 2) (level == 5) (level == 6) level refl refl refl is

-- ---- fields of messages

field_are : (part : List ℕ) (offset : ℕ) → IsBytes (field_bytes part offset)
field_are part offset = both (both (number w16 (length part)) (number w16 (length part))) (number w32 offset)

signature_are : IsBytes signature
signature_are =
    more 0x4E (omega arith) (more 0x54 (omega arith) (more 0x4C (omega arith) (more 0x4D (omega arith) (more 0x53 (omega arith) (more 0x53 (omega arith)
    (more 0x50 (omega arith) (more 0 (omega arith) none)))))))

-- ---- the bind

negotiate_are : (flags : ℕ) → IsBytes (written_negotiate (record { flags = flags; domain = []; workstation = []; version = None }))
unfolding written_negotiate
negotiate_are flags =
    both (both (both (both (both (both (both signature_are (number w32 1)) (number w32 flags)) (field_are [] 32)) (field_are [] 32)) none) none) none

pub bind_sends : (level : ℕ) (auth : AuthKind) → level < 256 → IsByteSend (written (bind_for level auth))
bind_sends level auth small = record {
  are = written_bytes (bind_for level auth) (
    ((syntax_of_bytes memo_syntax refl, (syntax_of_bytes ndr_syntax refl, tt)), tt),
    record { kind = omega arith; level = small; value = (negotiate_are (offer_of auth)).are },
  );
  short = omega (arith, bind_short level auth);
}

-- ---- the responses

pairs_are : (lacks : Bool) (info : List ℕ) → AreBytes info → AreBytes (pairs_sent lacks info)
pairs_are true info are = (both (both (number w16 0) (number w16 0)) none).are
pairs_are false info are = are

nt_are : (kind : AuthKind) (plan : ClientPlan) (offer : ServerOffer) (client : List ℕ) → AreBytes client → AreBytes offer.info → AreBytes (nt_by kind plan offer client)
nt_are V1 plan offer client are info = bytes_from_all (response_v1_of plan.hash offer.challenge) (All-response_v1_of plan.hash offer.challenge)
nt_are V1Ess plan offer client are info = bytes_from_all (response_ess_of plan.hash offer.challenge client) (All-response_ess_of plan.hash offer.challenge client)
nt_are V2 plan offer client are info =
    let pairs : List ℕ = pairs_sent (length offer.info == 0) offer.info in
    bytes_from_all (response_v2_of plan.hash plan.user plan.domain offer.challenge offer.time client pairs)
    (All-response_v2_of plan.hash plan.user plan.domain offer.challenge offer.time client pairs (all_from_bytes client are)
    (all_from_bytes pairs (pairs_are (length offer.info == 0) offer.info info)))

lm_are : (kind : AuthKind) (plan : ClientPlan) (offer : ServerOffer) (client : List ℕ) → AreBytes client → AreBytes (lm_by kind plan offer client)
lm_are V1 plan offer client are = bytes_from_all (response_v1_of plan.hash offer.challenge) (All-response_v1_of plan.hash offer.challenge)
lm_are V1Ess plan offer client are = (both (is_bytes client are) (zero_bytes 16)).are
lm_are V2 plan offer client are = (zero_bytes 24).are

-- ---- the AUTHENTICATE

-- what a client draws are bytes
abbrev pub IsChosen : Option (List ℕ) → Type 0
IsChosen None = Unit {0}
IsChosen (Some chosen) = AreBytes chosen

pub record IsDrawn (drawn : Drawn) : Type 0 where
  pub client : AreBytes drawn.client
  pub chosen : IsChosen drawn.chosen

key_are : (chosen : Option (List ℕ)) (exchange : List ℕ) → IsChosen chosen → AreBytes (keys_by chosen exchange).field
key_are None exchange is = AreBytes-nil
key_are (Some chosen) exchange is = bytes_from_all (applied exchange 0 chosen) (All-applied exchange 0 chosen (all_from_bytes chosen is))

table_are : (m : Authenticate) → IsBytes (authenticate_table m)
unfolding authenticate_table
table_are m = both (both (both (both (both (field_are m.lm _) (field_are m.nt _)) (field_are m.domain _)) (field_are m.user _)) (field_are m.workstation _)) (field_are m.key _)

-- the fields of a message are bytes
pub record IsOfParts (m : Authenticate) : Type 0 where
  pub domain : AreBytes m.domain
  pub user : AreBytes m.user
  pub workstation : AreBytes m.workstation
  pub lm : AreBytes m.lm
  pub nt : AreBytes m.nt
  pub key : AreBytes m.key

payload_are : (m : Authenticate) → IsOfParts m → IsBytes (authenticate_payload m)
unfolding authenticate_payload
payload_are m are =
    both (both (both (both (both (is_bytes m.domain are.domain) (is_bytes m.user are.user)) (is_bytes m.workstation are.workstation)) (is_bytes m.lm are.lm))
    (is_bytes m.nt are.nt)) (is_bytes m.key are.key)

message_are : (m : Authenticate) → IsOfParts m → IsBytes (written_authenticate (record m { version = None; mic = None }))
unfolding written_authenticate
message_are m are =
    let plain : Authenticate = record m { version = None; mic = None } in
    both (both (both (both (both (both signature_are (number w32 3)) (table_are plain)) (number w32 m.flags)) none) none)
    (payload_are plain (record { domain = are.domain; user = are.user; workstation = are.workstation; lm = are.lm; nt = are.nt; key = are.key }))

parts_are : (plan : ClientPlan) (offer : ServerOffer) (drawn : Drawn) → IsDrawn drawn → AreBytes offer.info → IsOfParts (answer_of plan offer drawn).message
parts_are plan offer drawn is info = record {
  domain = AreBytes-utf16_of plan.domain;
  user = AreBytes-utf16_of plan.user;
  workstation = AreBytes-utf16_of plan.workstation;
  lm = lm_are plan.auth plan offer drawn.client is.client;
  nt = nt_are plan.auth plan offer drawn.client is.client info;
  key = key_are drawn.chosen _ is.chosen;
}

-- ---- auth3

abbrev pub IfBytes : Option (List ℕ) → Type 0
IfBytes None = Unit {0}
IfBytes (Some bytes) = IsByteSend bytes

auth3_if : (fits : Bool) (level : ℕ) (message : List ℕ) → nat_le (length (written (auth3_unit level message))) 5840 ≡ fits → level < 256 → AreBytes message → IfBytes (bytes_if fits (auth3_unit level message))
auth3_if false level message is small are = tt
auth3_if true level message is small are = record {
  are = written_bytes (auth3_unit level message) (tt, record { kind = omega arith; level = small; value = are });
  short = omega (arith, leb-true (length (written (auth3_unit level message))) 5840 is);
}

auth3_with : (form : Result (List ℕ) WriteRefused) (level : ℕ) → level < 256 → ((message : List ℕ) → form ≡ Ok message → AreBytes message) → IfBytes (auth3_by level form)
auth3_with (Err why) level small are = tt
auth3_with (Ok message) level small are = auth3_if (nat_le (length (written (auth3_unit level message))) 5840) level message refl small (are message refl)

-- the form of a message is what is written of it
form_is : {T : Type 0} (fits : Result T WriteRefused) (written message : List ℕ) → (fits >>= λ fit. Ok written) ≡ Ok message → written ≡ message
form_is (Err why) written message is = absurd (let z = is in cc)
form_is (Ok fit) written message is = let z = is in cc

pub auth3_sends : (level : ℕ) (plan : ClientPlan) (offer : ServerOffer) (drawn : Drawn) → level < 256 → IsDrawn drawn → AreBytes offer.info →
    IfBytes (auth3_of level (answer_of plan offer drawn).message)
auth3_sends level plan offer drawn small is info =
    let m : Authenticate = (answer_of plan offer drawn).message in
    auth3_with (form_of (authenticate_fields m) (written_authenticate m)) level small
    (λ message form. subst AreBytes (form_is _ (written_authenticate m) message form) (message_are m (parts_are plan offer drawn is info)).are)

-- ---- calls

abbrev pub IfSending : Option Sending → Type 0
IfSending None = Unit {0}
IfSending (Some sending) = IsByteSend sending.bytes

secured_sends : (stub : List ℕ) (secured : Option Secured) → length stub ≤ 65536 → IfSecured (IsSecured stub) secured → IfSending (sent_secured secured)
secured_sends stub None few is = tt
secured_sends stub (Some secured) few is = record { are = is.are; short = omega (arith, few, is.few) }

pub call_sends : (session : Option SessionState) (level call context opnum limit : ℕ) (stub : List ℕ) → level < 256 → 1432 ≤ limit → AreBytes stub → length stub ≤ 65536 →
    IfSending (send_call session level (request_of call context opnum stub) limit)
call_sends None level call context opnum limit stub small least are few = record {
  are = call_bytes (request_of call context opnum stub) limit (are, tt);
  short = omega (arith, call_short (request_of call context opnum stub) limit tt least (omega arith), few);
}
call_sends (Some session) level call context opnum limit stub small least are few =
    secured_sends stub (secure_call session level trailer_context (request_of call context opnum stub) limit) few
    (call_secured session level trailer_context (request_of call context opnum stub) limit small tt are least)

-- the bytes that are echoed
places_are : (places : List ℕ) → IsBytes (map (λ (place : ℕ). place % 251) places)
places_are [] = none
places_are (place ∷ places) = more (place % 251) (omega arith) (places_are places)

pub echo_fits : (count : ℕ) → count ≤ 4096 → AreBytes (written_echo_request (echo_bytes count)) × (length (written_echo_request (echo_bytes count)) ≤ 65536)
echo_fits count few =
    let size : length (echo_bytes count) ≡ count = length-map-range_with_len (λ (place : ℕ). place % 251) 0 count in
    let stub = request_stub (echo_bytes count) (omega (arith, size, few)) (places_are (range_with_len 0 count)).are in
    (stub.are_bytes, omega (arith, stub.short, size, few))

-- ---- the target information of a CHALLENGE that came in a unit

end_are : (trailer : Trailer) (bytes : List ℕ) (k : Kind) (end : ℕ) → AreBytes bytes → IsEnd (Some trailer) bytes k end → AreBytes trailer.value
end_are trailer bytes k end are is = let place : ℕ = is.1.0 in subst AreBytes (sym is.1.1.value_from) (AreBytes-drop (place + 8) bytes are)

pub trailer_are : (bytes : List ℕ) (unit : RpcUnit) (trailer : Trailer) → AreBytes bytes → unit_of bytes ≡ Ok unit → unit.trailer ≡ Some trailer → AreBytes trailer.value
trailer_are bytes unit trailer are read is =
    let found : IsUnit bytes unit = IsUnit-unit_of bytes unit read in
    end_are trailer bytes found.k found.end are (subst (λ (t : Option Trailer). IsEnd t bytes found.k found.end) is found.trailer)

field_part : (place size : ℕ) (bytes part : List ℕ) → AreBytes bytes → IsField place size bytes part → AreBytes part
field_part place size bytes part are is =
    elim is.stands [
      | inl none ↦ subst AreBytes (sym none) AreBytes-nil
      | inr stands ↦ subst AreBytes stands.bytes_are (AreBytes-take (length part) (drop (offset_at bytes place) bytes) (AreBytes-drop (offset_at bytes place) bytes are))
    ]

pub info_are : (bytes : List ℕ) (challenge : Challenge) → AreBytes bytes → challenge_of bytes ≡ Ok challenge → AreBytes challenge.info
info_are bytes challenge are read = field_part _ _ bytes challenge.info are (challenge_found bytes challenge read).info
