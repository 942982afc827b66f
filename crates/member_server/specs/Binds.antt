-- A bind on a link on which nothing is bound (C706 12.6.4.3 to 12.6.4.5, MS-RPCE 3.3.1.5.2, MS-NLMP 3.2.5.1.1).
use Rattle.std.specs.Prelude.{ℕ, ◌≡◌, ◌==◌, ◌&&◌, ◌||◌, Bool, true, false, nat_le, List, [], ◌∷◌, length, replicate, Option, Some, None, Result, Ok, Err}
use Rattle.outside.specs.declared.action.CloseCause.{CloseCause}
use Rattle.outside.specs.declared.action.CloseCause.TheVariants as close
use Rattle.outside.specs.declared.action.StepRefused.{StepRefused}
use Rattle.outside.specs.declared.action.StepRefused.TheVariants as refused
use Rattle.wire_base.specs.Units.{utf16_of}
use Rattle.ntlm_flags.specs.Flags.{has_flag, negotiate_unicode, negotiate_ntlm, negotiate_extended_sessionsecurity, challenge_flags}
use Rattle.ntlm_messages.specs.declared.messages.Challenge.{Challenge}
use Rattle.ntlm_messages.specs.declared.messages.Negotiate.{Negotiate}
use Rattle.ntlm_messages.specs.declared.refused.MessageRefused.{MessageRefused}
use Rattle.ntlm_messages.specs.Challenge.{written_challenge}
use Rattle.ntlm_messages.specs.Negotiate.{negotiate_of}
use Rattle.ntlm_messages.specs.Pairs.{written_pairs}
use Rattle.memo_stubs.specs.Interface.{memo_syntax}
use Rattle.rpc_units.specs.declared.unit.Body.{Body}
use Rattle.rpc_units.specs.declared.unit.Body.TheVariants.{Bind}
use Rattle.rpc_units.specs.declared.unit.Syntax.{Syntax}
use Rattle.rpc_units.specs.declared.unit.Trailer.{Trailer}
use Rattle.rpc_units.specs.declared.unit.Unit.{Unit as RpcUnit}
use Rattle.rpc_units.specs.Writing.{written}
use Rattle.end_links.specs.Binding.{binding_of, ack_of, nak_of}
use Rattle.member_server.specs.declared.binds.Offer.{Offer}
use Rattle.member_server.specs.declared.plan.MemberPlan.{MemberPlan}
use Rattle.member_server.specs.declared.state.AtLink.{AtLink}
use Rattle.member_server.specs.declared.state.Bound.{Bound}
use Rattle.member_server.specs.declared.state.Phase.TheVariants as phase
use Rattle.unit_security.specs.Levels.{is_level, is_plain}
use Rattle.rpc_units.specs.Numbers.{ntlm_provider}
use Rattle.member_server.specs.Work.{Served, ServedPart, send_unit, stay, shut, drawless}

-- ---- what a bind offers

-- texts are UTF-16LE, the protocol is NTLM, and a level that signs has extended session security
abbrev pub is_enough : ℕ → ℕ → Bool
is_enough level flags =
    has_flag flags negotiate_unicode && has_flag flags negotiate_ntlm
    && (is_plain level || has_flag flags negotiate_extended_sessionsecurity)

-- the level and the security context of the trailer, and the flags of the CHALLENGE that answers the NEGOTIATE; none
-- where the flags offered aren't enough
abbrev pub offer_if : (enough : Bool) → Trailer → (flags : ℕ) → Option Offer
offer_if false trailer flags = None
offer_if true trailer flags = Some (record { level = trailer.level; context = trailer.context; flags = challenge_flags flags })

abbrev pub offer_by : Result Negotiate MessageRefused → Trailer → Option Offer
offer_by (Err why) trailer = None
offer_by (Ok message) trailer = offer_if (is_enough trailer.level message.flags) trailer message.flags

-- what a bind's trailer offers, where its provider is NTLM and its level is one that is served
abbrev pub offer_at : (is_served : Bool) (trailer : Trailer) → Option Offer
offer_at false trailer = None
offer_at true trailer = offer_by (negotiate_of trailer.value) trailer

abbrev pub offer_in : Option Trailer → Option Offer
offer_in None = None
offer_in (Some trailer) = offer_at ((trailer.kind == ntlm_provider) && is_level trailer.level) trailer

-- ---- the CHALLENGE (MS-NLMP 2.2.1.2): its target is the domain, and its pairs are the domain (2) and the computer (1)

abbrev pub challenge_message : ℕ → MemberPlan → List ℕ → Challenge
challenge_message flags plan challenge = record {
  flags = flags;
  target = utf16_of plan.domain;
  challenge = challenge;
  info = written_pairs ((2, utf16_of plan.domain) ∷ (1, utf16_of plan.computer) ∷ []);
  version = None;
}

-- ---- the answer

abbrev pub challenge_trailer : Offer → MemberPlan → List ℕ → Trailer
challenge_trailer offer plan challenge = record {
  kind = ntlm_provider;
  level = offer.level;
  context = offer.context;
  value = written_challenge (challenge_message offer.flags plan challenge);
}

-- the bind_ack that carries it
abbrev pub challenge_ack : Offer → MemberPlan → ℕ → ℕ → List (ℕ × Syntax × List Syntax) → List ℕ → RpcUnit
challenge_ack offer plan call receive contexts challenge =
    let ack : RpcUnit = ack_of memo_syntax call receive contexts in
    record ack { trailer = Some (challenge_trailer offer plan challenge) }

-- the answer to a bind has at most 5,840 bytes, whichever challenge of 8 bytes it carries
abbrev pub ack_fits : Offer → MemberPlan → ℕ → ℕ → List (ℕ × Syntax × List Syntax) → Bool
ack_fits offer plan call receive contexts =
    nat_le (length (written (challenge_ack offer plan call receive contexts (replicate 8 0)))) 5840

-- whether the answer to a bind fits, whatever is offered, and whichever the number of the bind and the size that its
-- sender receives
abbrev pub FitsEach : Bool → MemberPlan → List (ℕ × Syntax × List Syntax) → Type 0
FitsEach fits plan contexts = (offer : Offer) (call receive : ℕ) → fits ≡ ack_fits offer plan call receive contexts

abbrev pub bound_by : Offer → ℕ → List (ℕ × Syntax × List Syntax) → Bound
bound_by offer receive contexts =
    record { binding = binding_of memo_syntax receive contexts; level = offer.level; context = offer.context }

-- ---- a bind

-- a bind is refused, and the link stays as it is
abbrev pub refusal_of_bind : ℕ → Option RpcUnit → AtLink → Served
refusal_of_bind call joiner at = stay (send_unit at (nak_of call)) (record { joiner = joiner; phase = phase.Fresh })

-- a bind is answered with this challenge
abbrev pub answer_of_bind : Offer → ℕ → ℕ → List (ℕ × Syntax × List Syntax) → List ℕ → Option RpcUnit → AtLink → Served
answer_of_bind offer call receive contexts challenge joiner at =
    stay (send_unit at (challenge_ack offer at.logons.plan call receive contexts challenge))
    (record { joiner = joiner; phase = phase.Challenged (bound_by offer receive contexts) challenge offer.flags })

-- a challenge is drawn where the bind is answered, which it is where the answer fits a unit
abbrev pub answer_bind : (fits : Bool) (offer : Offer) (call receive : ℕ) (contexts : List (ℕ × Syntax × List Syntax)) (joiner : Option RpcUnit) (at : AtLink) (left : List (List ℕ)) → ServedPart
answer_bind false offer call receive contexts joiner at left = drawless (refusal_of_bind call joiner at) left
answer_bind true offer call receive contexts joiner at [] = Err refused.Spent
answer_bind true offer call receive contexts joiner at (challenge ∷ left) =
    drawless (answer_of_bind offer call receive contexts challenge joiner at) left

abbrev pub bind_by : Option Offer → ℕ → ℕ → List (ℕ × Syntax × List Syntax) → Option RpcUnit → AtLink → List (List ℕ) → ServedPart
bind_by None call receive contexts joiner at left = drawless (refusal_of_bind call joiner at) left
bind_by (Some offer) call receive contexts joiner at left =
    answer_bind (ack_fits offer at.logons.plan call receive contexts) offer call receive contexts joiner at left

-- a unit where nothing is bound
abbrev pub fresh_unit : Body → Option Trailer → ℕ → Option RpcUnit → AtLink → List (List ℕ) → ServedPart
fresh_unit (Bind send receive group contexts) trailer call joiner at left =
    bind_by (offer_in trailer) call receive contexts joiner at left
fresh_unit _ trailer call joiner at left = drawless (shut close.OutOfPlace at) left

-- how a call answers that closes a link: as that, or with want of memory
abbrev pub ClosesBy : Result Served StepRefused → CloseCause → AtLink → Type 0
ClosesBy (Ok served) cause at = served ≡ shut cause at
ClosesBy (Err why) cause at = why ≡ refused.Memory
