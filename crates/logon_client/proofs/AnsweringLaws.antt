-- What a client writes can be written, and its bind fits into a unit.
use Rattle.std.proofs.Common.{◌≡◌, ◌≤◌, ◌<◌, ℕ, true, List, [], ◌∷◌, length, Some, Ok, refl, arith, rules}
use Rattle.ntlm_messages.specs.Authenticate.{CanWriteAuthenticate, authenticate_of}
use Rattle.ntlm_messages.specs.Fields.{header_of}
use Rattle.ntlm_messages.specs.Negotiate.{written_negotiate}
use Rattle.ntlm_messages.specs.declared.messages.Authenticate.{Authenticate}
use Rattle.ntlm_messages.proofs.TextLaws.{IsText-written}
use Rattle.rpc_units.specs.declared.unit.Body.TheVariants.{Auth3}
use Rattle.rpc_units.specs.declared.unit.Trailer.{Trailer}
use Rattle.rpc_units.specs.declared.unit.Unit.{Unit as RpcUnit}
use Rattle.rpc_units.specs.Writing.{written, written_start, zeros, IsWritable}
use Rattle.memo_stubs.specs.Interface.{memo_syntax}
use Rattle.end_links.specs.Binding.{bind_of}
use Rattle.logon_client.specs.declared.answering.Keys.{Keys}
use Rattle.logon_client.specs.declared.answering.Responses.{Responses}
use Rattle.logon_client.specs.declared.answering.ServerOffer.{ServerOffer}
use Rattle.logon_client.specs.declared.plan.AuthKind.{AuthKind}
use Rattle.logon_client.specs.declared.plan.AuthKind.TheVariants.{V1, V1Ess, V2}
use Rattle.logon_client.specs.declared.plan.ClientPlan.{ClientPlan}
use Rattle.logon_client.specs.Answering.{negotiate_for, bind_for, answer_by}
use Rattle.unit_security.specs.Securing.{trailer_of}
use Rattle.logon_client.specs.Securing.{trailer_context}

-- ---- the bind

negotiate_some : (auth : AuthKind) → 0 < length (written_negotiate (negotiate_for auth))
unfolding written_negotiate
negotiate_some V1 = omega arith
negotiate_some V1Ess = omega arith
negotiate_some V2 = omega arith

pub bind_writable : (level : ℕ) (auth : AuthKind) → IsWritable (bind_for level auth)
bind_writable level auth = record { pieces = (refl, refl); counts = (omega arith, tt); value = negotiate_some auth }

bind_length : (level : ℕ) (auth : AuthKind) → length (written (bind_for level auth)) ≡ 112
unfolding written written_start zeros written_negotiate
bind_length level V1 = refl
bind_length level V1Ess = refl
bind_length level V2 = refl

pub bind_short : (level : ℕ) (auth : AuthKind) → length (written (bind_for level auth)) ≤ 5840
bind_short level auth = omega (arith, bind_length level auth)

-- a bind with the trailer put to it
pub bind_with : (unit : RpcUnit) (trailer : Trailer) (value : List ℕ) (level : ℕ) (auth : AuthKind) → unit ≡ bind_of memo_syntax 1 → trailer ≡ trailer_of level trailer_context value →
    value ≡ written_negotiate (negotiate_for auth) →
    record { first = unit.first; last = unit.last; call = unit.call; body = unit.body; trailer = Some trailer } ≡ bind_for level auth
bind_with unit trailer value level auth unit_is trailer_is value_is = cc

-- ---- the AUTHENTICATE

message_some : (bytes : List ℕ) (message : Authenticate) → authenticate_of bytes ≡ Ok message → 0 < length bytes
unfolding authenticate_of header_of
message_some [] message read = absurd cc
message_some (byte ∷ bytes) message read = omega arith

pub auth3_writable : (bytes : List ℕ) (message : Authenticate) (trailer : Trailer) (level : ℕ) → authenticate_of bytes ≡ Ok message → trailer ≡ trailer_of level trailer_context bytes →
    IsWritable (record { first = true; last = true; call = 1; body = Auth3; trailer = Some trailer })
auth3_writable bytes message trailer level read is =
    record { pieces = (refl, refl); counts = tt; value = rw is (message_some bytes message read) }

pub message_writable : (plan : ClientPlan) (offer : ServerOffer) (responses : Responses) (keys : Keys) → CanWriteAuthenticate (answer_by plan offer responses keys).message
message_writable plan offer responses keys = record {
  version = λ some. absurd (search rules);
  mic = λ some. absurd (search rules);
  domain = IsText-written offer.flags plan.domain;
  user = IsText-written offer.flags plan.user;
  workstation = IsText-written offer.flags plan.workstation;
}
