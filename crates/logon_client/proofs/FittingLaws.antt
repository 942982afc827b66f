-- An AUTHENTICATE fits into a unit where the peer's target information isn't long.
use Rattle.std.proofs.Common.{ℕ, ◌≡◌, ◌≤◌, ◌+◌, ◌==◌, Bool, true, false, List, [], ◌∷◌, ◌++◌, length, Option, Some, None, Ok, Err, if◌then◌else◌, refl, ap, ◌∙◌, arith}
use Rattle.std.specs.Int.{w32, to_le_bytes}
use Rattle.std.proofs.lemmas.Bool.{le-leb, le-ltb}
use Rattle.std.proofs.lemmas.List.{length-append}
use Rattle.wire_base.proofs.UnitLaws.{length-utf16_of}
use Rattle.rc4_stream.proofs.Rc4Laws.{length-applied}
use Rattle.ntlm_flags.specs.Flags.{has_flag, negotiate_key_exch}
use Rattle.ntlm_messages.specs.Authenticate.{authenticate_fields, authenticate_table, authenticate_payload, written_authenticate}
use Rattle.ntlm_messages.specs.Fields.{◌>>=◌, signature, bytes_of, FieldsFit, form_of, lengths_of}
use Rattle.ntlm_messages.specs.declared.messages.Authenticate.{Authenticate}
use Rattle.ntlm_messages.specs.declared.refused.Field.{Field}
use Rattle.ntlm_messages.specs.declared.refused.WriteRefused.TheVariants.{TooLong}
use Rattle.ntlm_responses.proofs.ResponseLaws.{length-response_v1_of, length-response_ess_of, length-response_v2_of}
use Rattle.rpc_units.specs.Writing.{written, zeros}
use Rattle.rpc_units.proofs.WritingLaws.{length_written}
use Rattle.logon_client.specs.declared.answering.ServerOffer.{ServerOffer}
use Rattle.logon_client.specs.declared.plan.AuthKind.{AuthKind}
use Rattle.logon_client.specs.declared.plan.AuthKind.TheVariants.{V1, V1Ess, V2}
use Rattle.logon_client.specs.declared.plan.ClientPlan.{ClientPlan}
use Rattle.logon_client.specs.Answering.{pairs_sent, lm_by, nt_by, keys_by, answer_of, auth3_unit, auth3_by, auth3_of, bytes_if}
use Rattle.logon_client.specs.Answers.{HasChosen, AnswersFit}

-- ---- lengths

pairs_short : (none : Bool) (info : List ℕ) → length info ≤ 4096 → length (pairs_sent none info) ≤ 4096
pairs_short true info short = omega arith
pairs_short false info short = short

nt_short : (auth : AuthKind) (plan : ClientPlan) (offer : ServerOffer) (client : List ℕ) → length offer.info ≤ 4096 → length client ≡ 8 → length (nt_by auth plan offer client) ≤ 4200
nt_short V1 plan offer client short eight = omega (arith, length-response_v1_of plan.hash offer.challenge)
nt_short V1Ess plan offer client short eight = omega (arith, length-response_ess_of plan.hash offer.challenge client)
nt_short V2 plan offer client short eight =
    let pairs = pairs_sent (length offer.info == 0) offer.info in
    omega (arith, length-response_v2_of plan.hash plan.user plan.domain offer.challenge offer.time client pairs, pairs_short (length offer.info == 0) offer.info short, eight)

lm_short : (auth : AuthKind) (plan : ClientPlan) (offer : ServerOffer) (client : List ℕ) → length client ≡ 8 → length (lm_by auth plan offer client) ≤ 24
lm_short V1 plan offer client eight = omega (arith, length-response_v1_of plan.hash offer.challenge)
lm_short V1Ess plan offer client eight = omega (arith, length-append client (0 ∷ 0 ∷ 0 ∷ 0 ∷ 0 ∷ 0 ∷ 0 ∷ 0 ∷ 0 ∷ 0 ∷ 0 ∷ 0 ∷ 0 ∷ 0 ∷ 0 ∷ 0 ∷ []), eight)
lm_short V2 plan offer client eight = omega arith

field_short : (exchanges : Bool) (chosen : Option (List ℕ)) (exchange : List ℕ) → HasChosen exchanges chosen → length (keys_by chosen exchange).field ≤ 16
field_short exchanges None exchange fits = omega arith
field_short false (Some chosen) exchange fits = absurd cc
field_short true (Some chosen) exchange fits = omega (arith, length-applied exchange 0 chosen, fits)

-- ---- the message

lengths_fit : (fields : List (Field × List ℕ)) → FieldsFit fields → lengths_of fields ≡ Ok tt
lengths_fit [] fit = refl
lengths_fit (field ∷ fields) fit =
    ap (λ long. (if long then Err (TooLong field.0) else Ok tt) >>= λ fits. lengths_of fields) (le-ltb 65535 (length field.1) fit.0)
    ∙ lengths_fit fields fit.1

form_fits : (fields : List (Field × List ℕ)) (bytes : List ℕ) → FieldsFit fields → form_of fields bytes ≡ Ok bytes
form_fits fields bytes fit = ap (λ lengths. lengths >>= λ fits. Ok bytes) (lengths_fit fields fit)

payload_length : (m : Authenticate) → length (authenticate_payload m) ≡ length m.domain + length m.user + length m.workstation + length m.lm + length m.nt + length m.key
unfolding authenticate_payload
payload_length m =
    omega (
      arith,
      length-append m.domain m.user,
      length-append (m.domain ++ m.user) m.workstation,
      length-append (m.domain ++ m.user ++ m.workstation) m.lm,
      length-append (m.domain ++ m.user ++ m.workstation ++ m.lm) m.nt,
      length-append (m.domain ++ m.user ++ m.workstation ++ m.lm ++ m.nt) m.key,
    )

table_length : (m : Authenticate) → length (authenticate_table m) ≡ 48
unfolding authenticate_table
table_length m = refl

message_length : (m : Authenticate) → m.version ≡ None → m.mic ≡ None → length (written_authenticate m) ≡ 64 + length (authenticate_payload m)
unfolding written_authenticate
message_length m version mic =
    let a = signature ++ to_le_bytes w32 3 in
    let b = a ++ authenticate_table m in
    let d = b ++ to_le_bytes w32 m.flags in
    let e = d ++ bytes_of m.version in
    let f = e ++ bytes_of m.mic in
    omega (
      arith,
      length-append a (authenticate_table m),
      length-append b (to_le_bytes w32 m.flags),
      length-append d (bytes_of m.version),
      length-append e (bytes_of m.mic),
      length-append f (authenticate_payload m),
      table_length m,
      ap (λ v. length (bytes_of v)) version,
      ap (λ v. length (bytes_of v)) mic,
    )

auth3_length : (level : ℕ) (message : List ℕ) → length (written (auth3_unit level message)) ≡ 28 + length message
unfolding zeros
auth3_length level message = omega (arith, length_written (auth3_unit level message))

auth3_fits : (level : ℕ) (message : List ℕ) → length message ≤ 5812 → auth3_by level (Ok message) ≡ Some (written (auth3_unit level message))
auth3_fits level message short =
    ap (λ fits. bytes_if fits (auth3_unit level message)) (le-leb (length (written (auth3_unit level message))) 5840 (omega (arith, auth3_length level message, short)))

fits_by : (level : ℕ) (m : Authenticate) → m.version ≡ None → m.mic ≡ None → FieldsFit (authenticate_fields m) → length (authenticate_payload m) ≤ 5748 →
    (bytes : List ℕ) × (auth3_of level m ≡ Some bytes)
fits_by level m version mic fit short = (
  written (auth3_unit level (written_authenticate m)),
  ap (auth3_by level) (form_fits (authenticate_fields m) (written_authenticate m) fit)
      ∙ auth3_fits level (written_authenticate m) (omega (arith, message_length m version mic, short)),
)

pub answers_fit : AnswersFit
answers_fit plan offer drawn can short drawn_is =
    let m = (answer_of plan offer drawn).message in
    let nt = nt_short plan.auth plan offer drawn.client short drawn_is.client in
    let lm = lm_short plan.auth plan offer drawn.client drawn_is.client in
    let key : length m.key ≤ 16 = field_short (has_flag offer.flags negotiate_key_exch) drawn.chosen _ drawn_is.chosen in
    let domain = length-utf16_of plan.domain in
    let user = length-utf16_of plan.user in
    let workstation = length-utf16_of plan.workstation in
    fits_by plan.level m refl refl
    (omega (arith, lm), (omega (arith, nt), (omega (arith, domain, can.domain), (omega (arith, user, can.user), (omega (arith, workstation, can.workstation), (omega (arith, key), tt))))))
    (omega (arith, payload_length m, nt, lm, key, domain, user, workstation, can.domain, can.user, can.workstation))
