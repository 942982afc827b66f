-- Whoever has the session base key of a message finds the key that the client kept.
-- It serves `keys_are_found_as_made`.
use Rattle.std.proofs.Common.{◌≡◌, ℕ, List, Option, Result, Ok, sym, ap, ◌∙◌}
use Rattle.std.specs.Prelude.{bit_and}
use Rattle.std.specs.List.{AllByRecursion}
use Rattle.std.specs.Int.Bits.{and_self}
use Rattle.std.proofs.lemmas.Nat.{and_assoc, and_comm}
use Rattle.wire_base.specs.Units.{utf16_of}
use Rattle.ntlm_flags.specs.Flags.{agreed_flags}
use Rattle.ntlm_messages.specs.Authenticate.{authenticate_of}
use Rattle.ntlm_messages.specs.Challenge.{challenge_of}
use Rattle.ntlm_messages.specs.Text.{units_of_text}
use Rattle.ntlm_messages.specs.declared.messages.Authenticate.{Authenticate}
use Rattle.ntlm_messages.specs.declared.messages.Challenge.{Challenge}
use Rattle.ntlm_messages.specs.declared.refused.MessageRefused.{MessageRefused}
use Rattle.ntlm_responses.specs.Keys.{exchange_key_of, exported_key_of}
use Rattle.ntlm_responses.specs.Verification.{base_key_of}
use Rattle.logon_stubs.specs.declared.info.SamInfo.{SamInfo}
use Rattle.logon_client.specs.Answering.{answer_of}
use Rattle.logon_client.specs.Plans.{offer_of}
use Rattle.logon_client.proofs.AnswerLaws.{keys_found}
use Rattle.member_server.specs.Outcomes.{key_in, key_or}
use Rattle.step_notes.specs.Records.{ChallengeSent, MessageMade, MessageTaken}
use Rattle.domain_world.specs.Accepting.KeysMade.{IsMadeFrom, IsTakenAsSent, KeysAreFoundAsMade}
use Rattle.domain_world.specs.Claims.{info_asked}
use Rattle.wire_base.proofs.ListPlaceLaws.{all_by_place}
use Rattle.domain_controller.proofs.TrustPlaceLaws.{got_all}

challenge_is : (found : Result Challenge MessageRefused) (one other : Challenge) → found ≡ Ok one → found ≡ Ok other → one ≡ other
challenge_is found one other is also = cc

message_is : (found : Result Authenticate MessageRefused) (one other : Authenticate) → found ≡ Ok one → found ≡ Ok other → one ≡ other
message_is found one other is also = cc

-- flags of both are those of both, whoever joins them again
absorbed : (own other : ℕ) → bit_and other (bit_and own other) ≡ bit_and own other
absorbed own other =
    ap (bit_and other) (and_comm own other) ∙ sym (and_assoc own other other) ∙ ap (λ (n : ℕ). bit_and n own) (and_self other) ∙ and_comm other own

-- the key that is found in a message
abbrev key_of_parts : List ℕ → ℕ → List ℕ → Authenticate → List ℕ
key_of_parts base agreed challenge message =
    key_or (exchange_key_of base agreed challenge message.lm message.nt)
    (exported_key_of (exchange_key_of base agreed challenge message.lm message.nt) agreed message.key)

made_key : (made : MessageMade) (from : IsMadeFrom made) →
    key_of_parts (base_key_of made.plan.hash made.plan.user made.plan.domain (answer_of made.plan from.offer from.drawn).message.nt) from.offer.flags from.offer.challenge
    (answer_of made.plan from.offer from.drawn).message ≡ made.key
made_key made from =
    ap (λ (key : Option (List ℕ)). key_or (exchange_key_of
    (base_key_of made.plan.hash made.plan.user made.plan.domain (answer_of made.plan from.offer from.drawn).message.nt)
    from.offer.flags from.offer.challenge (answer_of made.plan from.offer from.drawn).message.lm (answer_of made.plan from.offer from.drawn).message.nt) key) (keys_found made.plan from.offer from.drawn from.chosen) ∙ sym from.key

-- of a message that was made for the CHALLENGE that the member sent on its link
found_key : (message : MessageTaken) (sent : ChallengeSent) (made : MessageMade) → IsTakenAsSent message sent → IsMadeFrom made → made.challenge ≡ sent.bytes → made.bytes ≡ message.bytes →
    (info : SamInfo) → info.key ≡ base_key_of made.plan.hash (info_asked message).user (info_asked message).domain (info_asked message).nt → key_in info message.logon ≡ made.key
found_key message sent made taken from same_challenge same_bytes info base =
    let its : Authenticate = (answer_of made.plan from.offer from.drawn).message in
    let came : taken.came ≡ from.came = challenge_is (challenge_of sent.bytes) taken.came from.came taken.read (sym (ap challenge_of same_challenge) ∙ from.read) in
    let is : message.logon.message ≡ its =
    message_is (authenticate_of message.bytes) message.logon.message its taken.taken (sym (ap authenticate_of same_bytes) ∙ from.again) in
    let agreed : message.logon.agreed ≡ from.offer.flags =
    taken.agreed ∙ ap (λ (c : Challenge). agreed_flags c.flags message.logon.message.flags) came ∙ ap (λ (m : Authenticate). agreed_flags from.came.flags m.flags) is
    ∙ ap (agreed_flags from.came.flags) from.flags ∙ absorbed (offer_of made.plan.auth) from.came.flags ∙ sym from.flags in
    let challenge : message.logon.challenge ≡ from.offer.challenge = taken.challenge ∙ ap (λ (c : Challenge). c.challenge) came ∙ sym from.challenge in
    let key : info.key ≡ base_key_of made.plan.hash made.plan.user made.plan.domain its.nt =
    base ∙ ap (λ (m : Authenticate). base_key_of made.plan.hash (units_of_text m.flags m.user) (units_of_text m.flags m.domain) m.nt) is
    ∙ ap (λ (user : List ℕ). base_key_of made.plan.hash user (units_of_text from.offer.flags (utf16_of made.plan.domain)) its.nt) from.user
    ∙ ap (λ (domain : List ℕ). base_key_of made.plan.hash made.plan.user domain its.nt) from.domain in
    ap (λ (k : List ℕ). key_of_parts k message.logon.agreed message.logon.challenge message.logon.message) key
    ∙ ap (λ (a : ℕ). key_of_parts (base_key_of made.plan.hash made.plan.user made.plan.domain its.nt) a message.logon.challenge message.logon.message) agreed
    ∙ ap (λ (c : List ℕ). key_of_parts (base_key_of made.plan.hash made.plan.user made.plan.domain its.nt) from.offer.flags c message.logon.message) challenge
    ∙ ap (λ (m : Authenticate). key_of_parts (base_key_of made.plan.hash made.plan.user made.plan.domain its.nt) from.offer.flags from.offer.challenge m) is
    ∙ made_key made from

pub keys_made : KeysAreFoundAsMade
keys_made past all_made all_taken =
    all_by_place (λ (message : MessageTaken). AllByRecursion (λ (sent : ChallengeSent). AllByRecursion (λ (made : MessageMade).
    sent.link ≡ message.link → made.challenge ≡ sent.bytes → made.bytes ≡ message.bytes → (info : SamInfo) →
    info.key ≡ base_key_of made.plan.hash (info_asked message).user (info_asked message).domain (info_asked message).nt →
    key_in info message.logon ≡ made.key) past.book.made) past.book.challenges) past.book.messages
    (λ k message at. all_by_place (λ (sent : ChallengeSent). AllByRecursion (λ (made : MessageMade).
    sent.link ≡ message.link → made.challenge ≡ sent.bytes → made.bytes ≡ message.bytes → (info : SamInfo) →
    info.key ≡ base_key_of made.plan.hash (info_asked message).user (info_asked message).domain (info_asked message).nt →
    key_in info message.logon ≡ made.key) past.book.made) past.book.challenges
    (λ l sent there. all_by_place (λ (made : MessageMade).
    sent.link ≡ message.link → made.challenge ≡ sent.bytes → made.bytes ≡ message.bytes → (info : SamInfo) →
    info.key ≡ base_key_of made.plan.hash (info_asked message).user (info_asked message).domain (info_asked message).nt →
    key_in info message.logon ≡ made.key) past.book.made
    (λ m made here link challenge bytes.
    found_key message sent made
    (got_all (λ (s : ChallengeSent). s.link ≡ message.link → IsTakenAsSent message s) past.book.challenges l sent
    (got_all (λ (one : MessageTaken). AllByRecursion (λ (s : ChallengeSent). s.link ≡ one.link → IsTakenAsSent one s) past.book.challenges) past.book.messages k message all_taken at) there link)
    (got_all (λ (one : MessageMade). IsMadeFrom one) past.book.made m made all_made here) challenge bytes)))
