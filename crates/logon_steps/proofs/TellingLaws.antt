-- That what a member tells its controller of a client's answer fits into a call.
-- Of `logons_are_short`.
use Rattle.std.proofs.Common.{◌≡◌, ℕ, ◌≤◌, ◌<◌, ◌==◌, Bool, true, false, List, [], ◌∷◌, ◌++◌, length, replicate, Option, Some, None, sym, ap, subst, arith, length-append}
use Rattle.std.proofs.lemmas.List.Elements.{All-replicate}
use Rattle.wire_base.specs.Numbers.{AreBytes}
use Rattle.wire_base.specs.Units.{AreUnits, utf16_of}
use Rattle.wire_base.proofs.NumberLaws.{AreBytes-append, AreBytes-nil, AreBytes-to_le_bytes, all_from_bytes, bytes_from_all}
use Rattle.wire_base.proofs.UnitLaws.{AreBytes-utf16_of}
use Rattle.std.specs.Int.{to_le_bytes, w16}
use Rattle.ntlm_messages.specs.declared.messages.Authenticate.{Authenticate}
use Rattle.ntlm_messages.specs.Pairs.{pair_bytes, written_pairs}
use Rattle.ntlm_responses.specs.Responses.{challenge_by, client_challenge_of, hashed_challenge_of, response_ess_of, response_v1_of, response_v2_of}
use Rattle.ntlm_responses.proofs.ResponseLaws.{All-hashed_challenge_of, All-response_ess_of, All-response_v1_of, All-response_v2_of, length-hashed_challenge_of, length-response_ess_of, length-response_v1_of, length-response_v2_of}
use Rattle.logon_stubs.specs.Ranges.{IsBlock}
use Rattle.logon_client.specs.declared.answering.ServerOffer.{ServerOffer}
use Rattle.logon_client.specs.declared.plan.AuthKind.{AuthKind}
use Rattle.logon_client.specs.declared.plan.AuthKind.TheVariants.{V1, V1Ess, V2}
use Rattle.logon_client.specs.declared.plan.ClientPlan.{ClientPlan}
use Rattle.logon_client.specs.Answering.{lm_by, nt_by, pairs_sent}
use Rattle.member_server.specs.declared.plan.MemberPlan.{MemberPlan}
use Rattle.logon_steps.specs.Answers.{answer_for, drawn_of}
use Rattle.logon_steps.specs.Meeting.{flags_agreed, info_for, offer_for}
use Rattle.logon_steps.specs.Telling.{LogonsAreShort}
use Rattle.logon_steps.proofs.AnswersLaws.{answers_are_asked}
use Rattle.logon_steps.proofs.MeetingLaws.{info_length, name_short}

-- ---- the target information

pair_are : (id : ℕ) (value : List ℕ) → AreBytes value → AreBytes (pair_bytes (id, value))
pair_are id value are =
    AreBytes-append (to_le_bytes w16 id) (to_le_bytes w16 (length value) ++ value) (AreBytes-to_le_bytes w16 id)
    (AreBytes-append (to_le_bytes w16 (length value)) value (AreBytes-to_le_bytes w16 (length value)) are)

info_are : (plan : MemberPlan) → AreBytes (info_for plan)
unfolding written_pairs
info_are plan =
    AreBytes-append (pair_bytes (2, utf16_of plan.domain) ++ (pair_bytes (1, utf16_of plan.computer) ++ [])) (pair_bytes (0, []))
    (AreBytes-append (pair_bytes (2, utf16_of plan.domain)) (pair_bytes (1, utf16_of plan.computer) ++ []) (pair_are 2 (utf16_of plan.domain) (AreBytes-utf16_of plan.domain))
    (AreBytes-append (pair_bytes (1, utf16_of plan.computer)) [] (pair_are 1 (utf16_of plan.computer) (AreBytes-utf16_of plan.computer)) AreBytes-nil))
    (pair_are 0 [] AreBytes-nil)

sent_are : (none : Bool) (info : List ℕ) → AreBytes info → AreBytes (pairs_sent none info)
sent_are true info are = pair_are 0 [] AreBytes-nil
sent_are false info are = are

sent_short : (none : Bool) (info : List ℕ) → length info ≤ 4096 → length (pairs_sent none info) ≤ 4096
sent_short true info short = omega arith
sent_short false info short = short

-- ---- the responses

nt_are : (auth : AuthKind) (task : ClientPlan) (offer : ServerOffer) (client : List ℕ) → AreBytes client → AreBytes offer.info → AreBytes (nt_by auth task offer client)
nt_are V1 task offer client are info = bytes_from_all (response_v1_of task.hash offer.challenge) (All-response_v1_of task.hash offer.challenge)
nt_are V1Ess task offer client are info = bytes_from_all (response_ess_of task.hash offer.challenge client) (All-response_ess_of task.hash offer.challenge client)
nt_are V2 task offer client are info =
    let pairs : List ℕ = pairs_sent (length offer.info == 0) offer.info in
    bytes_from_all (response_v2_of task.hash task.user task.domain offer.challenge offer.time client pairs) (All-response_v2_of task.hash task.user task.domain offer.challenge offer.time client pairs (all_from_bytes client are)
    (all_from_bytes pairs (sent_are (length offer.info == 0) offer.info info)))

nt_short : (auth : AuthKind) (task : ClientPlan) (offer : ServerOffer) (client : List ℕ) → length client ≡ 8 → length offer.info ≤ 4096 → length (nt_by auth task offer client) ≤ 8192
nt_short V1 task offer client eight short = omega (arith, length-response_v1_of task.hash offer.challenge)
nt_short V1Ess task offer client eight short = omega (arith, length-response_ess_of task.hash offer.challenge client)
nt_short V2 task offer client eight short =
    let pairs : List ℕ = pairs_sent (length offer.info == 0) offer.info in
    omega (arith, length-response_v2_of task.hash task.user task.domain offer.challenge offer.time client pairs, sent_short (length offer.info == 0) offer.info short, eight)

lm_are : (auth : AuthKind) (task : ClientPlan) (offer : ServerOffer) (client : List ℕ) → AreBytes client → AreBytes (lm_by auth task offer client)
lm_are V1 task offer client are = bytes_from_all (response_v1_of task.hash offer.challenge) (All-response_v1_of task.hash offer.challenge)
lm_are V1Ess task offer client are = AreBytes-append client (replicate 16 0) are (bytes_from_all (replicate 16 0) (All-replicate (λ b. b < 256) 16 0 (omega arith)))
lm_are V2 task offer client are = bytes_from_all (replicate 24 0) (All-replicate (λ b. b < 256) 24 0 (omega arith))

lm_short : (auth : AuthKind) (task : ClientPlan) (offer : ServerOffer) (client : List ℕ) → length client ≡ 8 → length (lm_by auth task offer client) ≤ 8192
lm_short V1 task offer client eight = omega (arith, length-response_v1_of task.hash offer.challenge)
lm_short V1Ess task offer client eight = omega (arith, length-append client (0 ∷ 0 ∷ 0 ∷ 0 ∷ 0 ∷ 0 ∷ 0 ∷ 0 ∷ 0 ∷ 0 ∷ 0 ∷ 0 ∷ 0 ∷ 0 ∷ 0 ∷ 0 ∷ []), eight)
lm_short V2 task offer client eight = omega arith

asked_block : (client : Option (List ℕ)) (challenge : List ℕ) → length challenge ≡ 8 → AreBytes challenge → IsBlock 8 (challenge_by client challenge)
asked_block None challenge eight are = (eight, are)
asked_block (Some client) challenge eight are = (length-hashed_challenge_of challenge client, bytes_from_all (hashed_challenge_of challenge client) (All-hashed_challenge_of challenge client))

pub logons_are_short : LogonsAreShort
logons_are_short = record {
  info = λ plan task challenge one two three then_now place can units short are eight bytes drawn below.
      let offer : ServerOffer = offer_for plan task challenge then_now in
      let message : Authenticate = (answer_for plan task challenge then_now (drawn_of one two three)).message in
      let names = answers_are_asked.names plan task challenge one two three then_now can units in
      record {
        range = record {
          domain = subst AreUnits (sym names.0) units.domain;
          control = omega arith;
          logon_id = omega (arith, below);
          user = subst AreUnits (sym names.1) units.user;
          workstation = subst AreUnits (sym names.2) units.workstation;
          challenge = asked_block (client_challenge_of (flags_agreed task) message.lm message.nt) challenge eight bytes;
          nt = nt_are task.auth task offer one drawn (info_are plan);
          lm = lm_are task.auth task offer one drawn;
        };
        domain = omega (arith, ap length names.0, can.domain);
        user = omega (arith, ap length names.1, can.user);
        workstation = omega (arith, ap length names.2, can.workstation);
        nt = nt_short task.auth task offer one are.client (omega (arith, info_length plan, name_short plan.domain short.domain, name_short plan.computer short.computer));
        lm = lm_short task.auth task offer one are.client;
      };
}
