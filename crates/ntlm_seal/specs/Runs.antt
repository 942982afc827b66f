-- What one side seals, and what the other makes of it: this project's own way to say that a session carries units.
use Rattle.std.specs.Prelude.{◌≡◌, ℕ, ◌≤◌, false, List, [], ◌∷◌, length, Result, Ok, Err}
use Rattle.ntlm_seal.specs.declared.refusal.SealRefused.{SealRefused}
use Rattle.ntlm_seal.specs.Directions.{combine}
use Rattle.ntlm_seal.specs.Sessions.{SessionState, seal_of, open_of, unit_left}

-- a plain unit and the range of it that is sealed
pub record PlainUnit : Type 0 where
  pub unit : List ℕ
  pub from : ℕ
  pub to : ℕ

-- the range lies in the unit
abbrev pub HasRange : PlainUnit → Type 0
HasRange p = (p.from ≤ p.to) × (p.to ≤ length p.unit)

-- a unit as it is sent: with its range sealed, and its signature
pub record SentUnit : Type 0 where
  pub unit : List ℕ
  pub from : ℕ
  pub to : ℕ
  pub signature : List ℕ

-- what opening a sent unit answers, and the unit that it leaves
pub record OpenedUnit : Type 0 where
  pub answer : Result Unit SealRefused
  pub unit : List ℕ

-- what the sender seals next is what the receiver opens next: neither refused before, and the one sends in the
-- direction in which the other receives
pub record Follows (sender receiver : SessionState) : Type 0 where
  pub sends : sender.broken ≡ false
  pub receives : receiver.broken ≡ false
  pub direction : sender.sending ≡ receiver.receiving

-- a unit that is opened to what it was
abbrev pub whole_opening : PlainUnit → OpenedUnit
whole_opening p = record { answer = Ok tt; unit = p.unit }

-- a unit is sent where sealing answers its signature
abbrev pub send_with : Result (List ℕ) SealRefused → List ℕ → PlainUnit → List SentUnit → List SentUnit
send_with (Ok signature) sealed p rest =
    record { unit = sealed; from = p.from; to = p.to; signature = signature } ∷ rest
send_with (Err _) sealed p rest = rest

-- the units that a session sends where it is called to seal these, one after another
unfoldable pub send_all : SessionState → List PlainUnit → List SentUnit
send_all s [] = []
send_all s (p ∷ ps) =
    let sealing = seal_of s p.unit p.from p.to in
    send_with sealing.answer sealing.unit p (send_all sealing.session ps)

-- what a session makes of sent units, one after another
unfoldable pub open_all : SessionState → List SentUnit → List OpenedUnit
open_all s [] = []
open_all s (x ∷ xs) =
    let opening = open_of s x.unit x.from x.to x.signature in
    record {
      answer = opening.answer;
      unit = unit_left opening.answer x.unit (combine s.receiving x.unit x.from x.to) x.from x.to;
    } ∷ open_all opening.session xs
