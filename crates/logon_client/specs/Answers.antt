-- Laws of a client's answer to a CHALLENGE: that it verifies under the hash, and that whoever has the session base key
-- finds the client's key in it (this project's own choice).
use Rattle.std.specs.Prelude.{ℕ, ◌≡◌, ◌≤◌, Bool, true, false, List, length, Option, Some, None, Ok}
use Rattle.std.specs.List.{AllByRecursion}
use Rattle.wire_base.specs.Units.{AreUnits}
use Rattle.ntlm_flags.specs.Flags.{has_flag, agreed_flags, negotiate_key_exch}
use Rattle.ntlm_messages.specs.declared.messages.Authenticate.{Authenticate}
use Rattle.ntlm_responses.specs.Keys.{exchange_key_of, exported_key_of}
use Rattle.ntlm_responses.specs.Verification.{MessageVerifies, base_key_of}
use Rattle.outside.specs.Machine.{Part}
use Rattle.logon_client.specs.declared.answering.Answer.{Answer}
use Rattle.logon_client.specs.declared.answering.Drawn.{Drawn}
use Rattle.logon_client.specs.declared.answering.ServerOffer.{ServerOffer}
use Rattle.logon_client.specs.declared.hearing.Heard.TheVariants.{Challenged}
use Rattle.logon_client.specs.declared.plan.ClientPlan.{ClientPlan}
use Rattle.logon_client.specs.declared.state.Talk.{Talk}
use Rattle.logon_client.specs.declared.state.Work.{Work}
use Rattle.logon_client.specs.Answering.{is_enough, drawn_for, answer_of, auth3_of}
use Rattle.logon_client.specs.Machine.{hear}
use Rattle.logon_client.specs.Plans.{CanLogOn, offer_of}

-- the flags of an offer are those of the client's own and the server's, and they are enough
pub record IsAgreed (plan : ClientPlan) (offer : ServerOffer) : Type 0 where
  pub server : ℕ
  pub flags : offer.flags ≡ agreed_flags (offer_of plan.auth) server
  pub enough : is_enough plan.level plan.auth offer.flags ≡ true

-- a key was chosen exactly where keys are exchanged, of 16 bytes
abbrev pub HasChosen : Bool → Option (List ℕ) → Type 0
HasChosen false chosen = chosen ≡ None
HasChosen true None = ⊥
HasChosen true (Some chosen) = length chosen ≡ 16

-- what is drawn for an answer, where each challenge has 8 bytes
pub record IsDrawn (exchanges : Bool) (drawn : Drawn) : Type 0 where
  pub client : length drawn.client ≡ 8
  pub chosen : HasChosen exchanges drawn.chosen

-- An offer that is answered is agreed.
abbrev pub OffersAgreed : Type 0
OffersAgreed = (bytes : List ℕ) (talk : Talk) (work after : Work) (link : ℕ) (offer : ServerOffer) →
    hear bytes talk work ≡ Challenged after link offer → IsAgreed work.task offer

-- What is drawn for an answer is the client's challenge, and a key where keys are exchanged.
abbrev pub DrawsKeys : Type 0
DrawsKeys = (exchanges : Bool) (left : List (List ℕ)) (part : Part Drawn) → AllByRecursion (λ challenge. length challenge ≡ 8) left →
    drawn_for exchanges left ≡ Ok part → IsDrawn exchanges part.value

-- The message verifies under the plan's hash against the server's challenge.
abbrev pub AnswersVerify : Type 0
AnswersVerify = (plan : ClientPlan) (offer : ServerOffer) (drawn : Drawn) → IsAgreed plan offer → length drawn.client ≡ 8 →
    AreUnits plan.user → AreUnits plan.domain → MessageVerifies plan.hash offer.flags offer.challenge (answer_of plan offer drawn).message

-- the key that a message exports to who has the session base key of its NT response
abbrev pub key_in : ClientPlan → ServerOffer → Authenticate → Option (List ℕ)
key_in plan offer message =
    exported_key_of
    (exchange_key_of (base_key_of plan.hash plan.user plan.domain message.nt) offer.flags offer.challenge message.lm message.nt)
    offer.flags message.key

-- The key that is found in the message of the answer is the one that the client keeps.
abbrev pub KeyFound : ClientPlan → ServerOffer → Answer → Type 0
KeyFound plan offer answer = key_in plan offer answer.message ≡ Some answer.key

abbrev pub KeysFound : Type 0
KeysFound = (plan : ClientPlan) (offer : ServerOffer) (drawn : Drawn) → HasChosen (has_flag offer.flags negotiate_key_exch) drawn.chosen →
    KeyFound plan offer (answer_of plan offer drawn)

-- The answer fits into a unit, where the server's target information has at most 4,096 bytes.
abbrev pub AnswersFit : Type 0
AnswersFit = (plan : ClientPlan) (offer : ServerOffer) (drawn : Drawn) → CanLogOn plan → length offer.info ≤ 4096 →
    IsDrawn (has_flag offer.flags negotiate_key_exch) drawn →
    (bytes : List ℕ) × (auth3_of plan.level (answer_of plan offer drawn).message ≡ Some bytes)
