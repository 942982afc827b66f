-- What is told of a logon, read from an AUTHENTICATE in one unit, is in its ranges: for the law
-- `what_turns_send_is_whole`.
use Rattle.std.proofs.Common.{◌≡◌, ℕ, ◌+◌, ◌≤◌, Bool, true, false, List, [], ◌∷◌, length, drop, Option, Some, None, Result, Ok, Err, refl, sym, ap, subst, arith, inl, inr, if◌then◌else◌}
use Rattle.std.specs.Result.{result_unwrap_or}
use Rattle.std.proofs.lemmas.List.{length-drop}
use Rattle.wire_base.specs.Numbers.{AreBytes}
use Rattle.wire_base.specs.Units.{AreUnits, units_of, whole_units}
use Rattle.wire_base.specs.declared.units.UnitsRefused.{UnitsRefused}
use Rattle.wire_base.proofs.NumberLaws.{AreBytes-drop, AreBytes-nil, AreBytes-take, bytes_from_all}
use Rattle.wire_base.proofs.UnitLaws.{AreUnits-units_of, whole_units_from-units_of}
use Rattle.ntlm_flags.specs.Flags.{has_flag, negotiate_unicode}
use Rattle.ntlm_messages.specs.Authenticate.{IsAuthenticate, authenticate_of}
use Rattle.ntlm_messages.specs.Fields.{IsField, offset_at}
use Rattle.ntlm_messages.specs.Text.{units_of_text}
use Rattle.ntlm_messages.specs.declared.messages.Authenticate.{Authenticate}
use Rattle.ntlm_messages.proofs.AuthenticateLaws.{authenticate_found}
use Rattle.ntlm_responses.specs.Responses.{challenge_by, client_challenge_of, hashed_challenge_of}
use Rattle.ntlm_responses.proofs.ResponseLaws.{All-hashed_challenge_of, length-hashed_challenge_of}
use Rattle.rpc_units.specs.declared.kind.Kind.{Kind}
use Rattle.rpc_units.specs.declared.unit.Trailer.{Trailer}
use Rattle.rpc_units.specs.declared.unit.Unit.{Unit as RpcUnit}
use Rattle.rpc_units.specs.Grammar.{IsEnd, IsUnit}
use Rattle.rpc_units.specs.Reading.{unit_of}
use Rattle.rpc_units.proofs.GrammarLaws.{IsUnit-unit_of}
use Rattle.logon_stubs.specs.Ranges.{IsBlock}
use Rattle.channel_client.specs.Whole.{InRangeLogon}
use Rattle.member_server.specs.Messages.{info_of}

-- ---- the value of a unit's trailer

-- bytes, at most those of a unit
abbrev pub FitsTrailer : Option Trailer → Type 0
FitsTrailer None = Unit {0}
FitsTrailer (Some trailer) = AreBytes trailer.value × (length trailer.value ≤ 5840)

end_fits : (trailer : Option Trailer) (bytes : List ℕ) (k : Kind) (end : ℕ) → AreBytes bytes → length bytes ≤ 5840 → IsEnd trailer bytes k end → FitsTrailer trailer
end_fits None bytes k end are most is = tt
end_fits (Some trailer) bytes k end are most is =
    let place : ℕ = is.1.0 in
    let from : trailer.value ≡ drop (place + 8) bytes = is.1.1.value_from in (
      subst AreBytes (sym from) (AreBytes-drop (place + 8) bytes are),
      omega (arith, ap length from, length-drop (place + 8) bytes, most),
    )

pub trailer_fits : (bytes : List ℕ) (unit : RpcUnit) → AreBytes bytes → unit_of bytes ≡ Ok unit → FitsTrailer unit.trailer
trailer_fits bytes unit are read =
    let is : IsUnit bytes unit = IsUnit-unit_of bytes unit read in
    end_fits unit.trailer bytes is.k is.end are is.most is.trailer

-- ---- the fields of a message

field_fits : (place size : ℕ) (bytes part : List ℕ) → AreBytes bytes → IsField place size bytes part → AreBytes part × (length part ≤ length bytes)
field_fits place size bytes part are is =
    elim is.stands [
      | inl none ↦ (subst AreBytes (sym none) AreBytes-nil, omega (arith, ap length none))
      | inr stands ↦ (
        subst AreBytes stands.bytes_are (AreBytes-take (length part) (drop (offset_at bytes place) bytes) (AreBytes-drop (offset_at bytes place) bytes are)),
        omega (arith, stands.ends),
      )
    ]

-- two bytes a unit
whole_few : (bytes : List ℕ) → length (whole_units bytes) ≤ length bytes
whole_few [] = omega arith
whole_few (low ∷ []) = omega arith
whole_few (low ∷ high ∷ rest) = omega (arith, whole_few rest)

read_fits : (read : Result (List ℕ) UnitsRefused) (text : List ℕ) → units_of text ≡ read → AreBytes text →
    AreUnits (result_unwrap_or read []) × (length (result_unwrap_or read []) ≤ length text)
read_fits (Err why) text is are = (λ place. omega arith, omega arith)
read_fits (Ok units) text is are = (
  AreUnits-units_of text units are is,
  omega (arith, ap length (whole_units_from-units_of text units is), whole_few text),
)

text_by : (unicode : Bool) (text : List ℕ) → AreBytes text →
    AreUnits (result_unwrap_or (if unicode then units_of text else Ok text) []) × (length (result_unwrap_or (if unicode then units_of text else Ok text) []) ≤ length text)
text_by true text are = read_fits (units_of text) text refl are
text_by false text are = (λ place. omega (arith, are place), omega arith)

text_fits : (flags : ℕ) (text : List ℕ) → AreBytes text → AreUnits (units_of_text flags text) × (length (units_of_text flags text) ≤ length text)
text_fits flags text are = text_by (has_flag flags negotiate_unicode) text are

challenge_fits : (client : Option (List ℕ)) (challenge : List ℕ) → IsBlock 8 challenge → IsBlock 8 (challenge_by client challenge)
challenge_fits None challenge block = block
challenge_fits (Some client) challenge block =
    (length-hashed_challenge_of challenge client, bytes_from_all (hashed_challenge_of challenge client) (All-hashed_challenge_of challenge client))

-- ---- what is told of a logon

-- texts of at most 5,840 units each, and responses of at most 5,840 bytes each
pub info_fits : (bytes : List ℕ) (message : Authenticate) (agreed : ℕ) (challenge : List ℕ) → AreBytes bytes → length bytes ≤ 5840 → authenticate_of bytes ≡ Ok message →
    IsBlock 8 challenge → InRangeLogon (info_of message agreed challenge)
info_fits bytes message agreed challenge are most read block =
    let is : IsAuthenticate bytes message = authenticate_found bytes message read in
    let lm = field_fits _ _ bytes message.lm are is.lm in
    let nt = field_fits _ _ bytes message.nt are is.nt in
    let domain = field_fits _ _ bytes message.domain are is.domain in
    let user = field_fits _ _ bytes message.user are is.user in
    let workstation = field_fits _ _ bytes message.workstation are is.workstation in
    let domain_units = text_fits message.flags message.domain domain.0 in
    let user_units = text_fits message.flags message.user user.0 in
    let workstation_units = text_fits message.flags message.workstation workstation.0 in
    record {
      writes = record {
        domain = omega (arith, domain_units.1, domain.1, most);
        user = omega (arith, user_units.1, user.1, most);
        workstation = omega (arith, workstation_units.1, workstation.1, most);
        nt = omega (arith, nt.1, most);
        lm = omega (arith, lm.1, most);
      };
      range = record {
        domain = domain_units.0;
        control = omega arith;
        logon_id = omega arith;
        user = user_units.0;
        workstation = workstation_units.0;
        challenge = challenge_fits (client_challenge_of agreed message.lm message.nt) challenge block;
        nt = nt.0;
        lm = lm.0;
      };
      few = omega (arith, domain_units.1, domain.1, user_units.1, user.1, workstation_units.1, workstation.1, nt.1, lm.1, most);
    }
