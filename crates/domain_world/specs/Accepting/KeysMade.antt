-- What a client made for a CHALLENGE and what a member took (MS-NLMP 3.1.5.1.2, 3.2.5.1.2): below `KeysAreFound` of
-- `Answered`, which follows from it (`KeysAreFoundAsMade`).
use Rattle.std.specs.Prelude.{◌≡◌, Ok}
use Rattle.std.specs.List.{AllByRecursion}
use Rattle.wire_base.specs.Units.{utf16_of}
use Rattle.ntlm_flags.specs.Flags.{agreed_flags, has_flag, negotiate_key_exch}
use Rattle.ntlm_messages.specs.Authenticate.{authenticate_of}
use Rattle.ntlm_messages.specs.Challenge.{challenge_of}
use Rattle.ntlm_messages.specs.Text.{units_of_text}
use Rattle.ntlm_messages.specs.declared.messages.Challenge.{Challenge}
use Rattle.logon_client.specs.Answering.{answer_of}
use Rattle.logon_client.specs.Answers.{HasChosen}
use Rattle.logon_client.specs.Plans.{offer_of}
use Rattle.logon_client.specs.declared.answering.Drawn.{Drawn}
use Rattle.logon_client.specs.declared.answering.ServerOffer.{ServerOffer}
use Rattle.step_notes.specs.Records.{ChallengeSent, MessageMade, MessageTaken}
use Rattle.domain_world.specs.Accepting.Answered.{KeysAreFound}
use Rattle.domain_world.specs.Past.{Past}

-- the client's answer to the CHALLENGE that it read, which is read again as it was made; the names of its plan are
-- texts
pub record IsMadeFrom (made : MessageMade) : Type 0 where
  pub offer : ServerOffer
  pub drawn : Drawn
  pub came : Challenge
  pub read : challenge_of made.challenge ≡ Ok came
  pub flags : offer.flags ≡ agreed_flags (offer_of made.plan.auth) came.flags
  pub challenge : offer.challenge ≡ came.challenge
  pub again : authenticate_of made.bytes ≡ Ok (answer_of made.plan offer drawn).message
  pub key : made.key ≡ (answer_of made.plan offer drawn).key
  pub chosen : HasChosen (has_flag offer.flags negotiate_key_exch) drawn.chosen
  pub user : units_of_text offer.flags (utf16_of made.plan.user) ≡ made.plan.user
  pub domain : units_of_text offer.flags (utf16_of made.plan.domain) ≡ made.plan.domain

abbrev pub MessagesAreMade : Past → Type 0
MessagesAreMade past = AllByRecursion (λ (made : MessageMade). IsMadeFrom made) past.book.made

-- the member keeps the message that it read, the challenge that it sent, and the flags that both have
pub record IsTakenAsSent (message : MessageTaken) (sent : ChallengeSent) : Type 0 where
  pub taken : authenticate_of message.bytes ≡ Ok message.logon.message
  pub came : Challenge
  pub read : challenge_of sent.bytes ≡ Ok came
  pub challenge : message.logon.challenge ≡ came.challenge
  pub agreed : message.logon.agreed ≡ agreed_flags came.flags message.logon.message.flags

abbrev pub MessagesAreTakenAsSent : Past → Type 0
MessagesAreTakenAsSent past =
    AllByRecursion (λ (message : MessageTaken). AllByRecursion (λ (sent : ChallengeSent). sent.link ≡ message.link → IsTakenAsSent message sent) past.book.challenges)
    past.book.messages

abbrev pub KeysAreFoundAsMade : Type 0
KeysAreFoundAsMade = (past : Past) → MessagesAreMade past → MessagesAreTakenAsSent past → KeysAreFound past
