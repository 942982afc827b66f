-- The command `check`: whether the response of an AUTHENTICATE message is that of a hash to a challenge (this project's
-- own choice).
use Rattle.std.specs.Prelude.{◌≡◌, ℕ, Bool, true, false, List, [], ◌∷◌, Option, Some, None, Result, Ok, Err, codes}
use Rattle.hex.specs.Hex.{decode_of, decode_sized}
use Rattle.ntlm_messages.specs.Authenticate.{authenticate_of, IsAuthenticate}
use Rattle.ntlm_messages.specs.declared.messages.Authenticate.{Authenticate}
use Rattle.ntlm_responses.specs.Verification.{MessageVerifies, message_verifies}
use Rattle.nt_top.specs.declared.answer.Answer.{Answer}
use Rattle.nt_top.specs.declared.exit.Exit.{Exit}
use Rattle.nt_top.specs.declared.exit.Exit.TheVariants.{BadInput}
use Rattle.logon_client.specs.declared.outcome.RefusedCause.TheVariants.{Response}
use Rattle.nt_words.specs.declared.job.Role.{Role}
use Rattle.nt_words.specs.declared.job.Role.TheVariants.{Member}
use Rattle.nt_top.specs.Needs.{needs}

-- whether the NT response is the one of the hash, under the message's names, to the challenge that its flags and
-- responses make of this one (MS-NLMP 3.3.1, 3.3.2)
abbrev pub accepts_of : List ℕ → List ℕ → Authenticate → Bool
accepts_of hash challenge message = message_verifies hash message.flags challenge message

-- the NT response is the one of the hash, in the field's own words (MS-NLMP 3.3.1, 3.3.2)
abbrev pub Accepts : List ℕ → List ℕ → Authenticate → Type 0
Accepts hash challenge message = MessageVerifies hash message.flags challenge message

-- what is put, and the exit, for an accepted response and for another one
abbrev pub verdict_answer : Bool → Answer
verdict_answer true = record { refused = None; lines = codes "accepted\n" }
verdict_answer false = record { refused = Some Response; lines = codes "refused\n" }

-- word 3 holds these bytes
unfoldable pub judged : List ℕ → List ℕ → List ℕ → Result Answer Exit
judged hash challenge bytes = needs 3 (authenticate_of bytes) (λ message. Ok (verdict_answer (accepts_of hash challenge message)))

-- The words in hex: 1 a hash of 16 bytes, 2 a challenge of 8 bytes, 3 an AUTHENTICATE message.
unfoldable pub check_answer : List ℕ → List ℕ → List ℕ → Result Answer Exit
check_answer hash_text challenge_text message_text =
    needs 1 (decode_sized hash_text 16) (λ hash. needs 2 (decode_sized challenge_text 8) (λ challenge.
    needs 3 (decode_of message_text) (λ bytes. judged hash challenge bytes)))

-- the exit where a text isn't hex of its length, else the later one
abbrev pub unless_read : {X E : Type 0} → ℕ → Result X E → Option Exit → Option Exit
unless_read number (Ok x) later = later
unless_read number (Err refused) later = Some (BadInput number)

-- The exit that is seen without memory: that of the hash, and then of the challenge.
abbrev pub texts_at_once : List ℕ → List ℕ → Option Exit
texts_at_once hash challenge = unless_read 1 (decode_sized hash 16) (unless_read 2 (decode_sized challenge 8) None)

-- The words ask this program, a member server, to check these: a hash, a challenge and a message that the third word
-- holds.
pub record AsksCheck (role : Role) (words : List (List ℕ)) (hash challenge : List ℕ) (message : Authenticate) : Type 0 where
  pub member : role ≡ Member
  pub hash_text : List ℕ
  pub challenge_text : List ℕ
  pub message_text : List ℕ
  pub words_are : words ≡ codes "check" ∷ hash_text ∷ challenge_text ∷ message_text ∷ []
  pub hash_is : decode_sized hash_text 16 ≡ Ok hash
  pub challenge_is : decode_sized challenge_text 8 ≡ Ok challenge
  pub bytes : List ℕ
  pub bytes_are : decode_of message_text ≡ Ok bytes
  pub message_is : IsAuthenticate bytes message

-- Some hash, challenge and message were asked to be checked, and the response verifies.
pub record AskedAccepted (role : Role) (words : List (List ℕ)) : Type 0 where
  pub hash : List ℕ
  pub challenge : List ℕ
  pub message : Authenticate
  pub asks : AsksCheck role words hash challenge message
  pub accepts : Accepts hash challenge message

-- Some hash, challenge and message were asked to be checked, and the response doesn't verify.
pub record AskedRefused (role : Role) (words : List (List ℕ)) : Type 0 where
  pub hash : List ℕ
  pub challenge : List ℕ
  pub message : Authenticate
  pub asks : AsksCheck role words hash challenge message
  pub refuses : ¬ Accepts hash challenge message
