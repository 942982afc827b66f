-- What one end seals, and what the other makes of it: this project's own way to say that a channel carries units.
use Rattle.std.specs.Prelude.{◌≡◌, ℕ, ◌+◌, ◌≤◌, not, List, [], ◌∷◌, ◌++◌, length, Result, Ok, Err}
use Rattle.netlogon_seal.specs.declared.refusal.NlRefused.{NlRefused}
use Rattle.netlogon_seal.specs.Signatures.{signature_length, before_signature, signature_in, signature_of, sealed_unit, confounder_in}
use Rattle.netlogon_seal.specs.Channels.{NlState, Sealing, Opening, awaited_sequence, plain_of, seal_of, open_of}

-- A unit as it is given to be sealed, with any 32 bytes at its end; its range; and the confounder, of 8 bytes.
pub record PlainUnit : Type 0 where
  pub unit : List ℕ
  pub from : ℕ
  pub to : ℕ
  pub confounder : List ℕ

-- the range lies before the last 32 bytes
abbrev pub HasRange : PlainUnit → Type 0
HasRange p = (p.from ≤ p.to) × (p.to + signature_length ≤ length p.unit) × (length p.confounder ≡ 8)

-- a unit as it is sent, and its range
pub record SentUnit : Type 0 where
  pub unit : List ℕ
  pub from : ℕ
  pub to : ℕ

-- what opening a sent unit answers, and the bytes before the signature that it leaves
pub record OpenedUnit : Type 0 where
  pub answer : Result Unit NlRefused
  pub plain : List ℕ

-- a unit that is opened to what it was
abbrev pub whole_opening : PlainUnit → OpenedUnit
whole_opening p = record { answer = Ok tt; plain = before_signature p.unit }

-- What the sender seals next is what the receiver opens next. They are the two ends of one channel, and the receiver
-- has opened as many units as the sender sent.
pub record Follows (sender receiver : NlState) : Type 0 where
  pub key : sender.key ≡ receiver.key
  pub sides : sender.requester ≡ not receiver.requester
  pub numbers : sender.sent ≡ receiver.received

-- two ends in step in both directions
pub record Paired (one other : NlState) : Type 0 where
  pub there : Follows one other
  pub back : Follows other one

-- ---- one unit

-- the end that sealed its next unit, and the one that opened it: the other direction is as it was
abbrev pub after_sending : NlState → NlState
after_sending s = record s { sent = s.sent + 1 }

abbrev pub after_taking : NlState → NlState
after_taking s = record s { received = s.received + 1 }

-- the unit that an end seals next: its plain form before the signature, its range and the confounder
abbrev pub next_sealed : NlState → List ℕ → ℕ → ℕ → List ℕ → List ℕ
next_sealed s plain from to confounder =
    sealed_unit s.key s.sent s.requester plain from to confounder

-- the unit that is opened next, for the same
abbrev pub next_opened : NlState → List ℕ → ℕ → ℕ → List ℕ → List ℕ
next_opened s plain from to confounder =
    sealed_unit s.key s.received (not s.requester) plain from to confounder

-- what sealing answers and leaves where it doesn't refuse
abbrev pub sealing_done : NlState → PlainUnit → Sealing
sealing_done s p = record {
  answer = Ok tt;
  unit = next_sealed s (before_signature p.unit) p.from p.to p.confounder;
  state = after_sending s;
}

-- what opening answers and leaves where it takes the unit of that plain form
abbrev pub taking_done : NlState → List ℕ → List ℕ → Opening
taking_done s plain confounder = record {
  answer = Ok tt;
  unit = plain ++ signature_of s.key s.received (not s.requester) plain confounder;
  state = after_taking s;
}

-- the unit of that plain form is opened
pub record Opens (s : NlState) (plain confounder : List ℕ) (from to : ℕ) : Type 0 where
  pub done :
      open_of s (next_opened s plain from to confounder) from to
      ≡ taking_done s plain confounder
  pub plain_again : before_signature (taking_done s plain confounder).unit ≡ plain

-- what one end seals, the other opens to the same bytes, and both are in step again
pub record OpensAgain (one other : NlState) (p : PlainUnit) : Type 0 where
  pub sealed : seal_of one p.unit p.from p.to p.confounder ≡ sealing_done one p
  pub opened :
      open_of other (sealing_done one p).unit p.from p.to
      ≡ taking_done other (before_signature p.unit) p.confounder
  pub same :
      before_signature (taking_done other (before_signature p.unit) p.confounder).unit
      ≡ before_signature p.unit
  pub paired : Paired (after_sending one) (after_taking other)

-- the sealed unit of what an end finds in a unit: the plain bytes before the signature, and the confounder
abbrev pub sealed_again : NlState → List ℕ → ℕ → ℕ → List ℕ
sealed_again s unit from to =
    next_opened s (plain_of s (before_signature unit) from to) from to
    (confounder_in s.key (awaited_sequence s) (signature_in unit))

-- ---- units one after another

-- a unit is sent where sealing answers Ok
abbrev pub send_with : Result Unit NlRefused → List ℕ → PlainUnit → List SentUnit → List SentUnit
send_with (Ok _) sealed p rest = record { unit = sealed; from = p.from; to = p.to } ∷ rest
send_with (Err _) sealed p rest = rest

-- the units that an end sends where it is called to seal these, one after another
unfoldable pub send_all : NlState → List PlainUnit → List SentUnit
send_all s [] = []
send_all s (p ∷ ps) =
    let sealing = seal_of s p.unit p.from p.to p.confounder in
    send_with sealing.answer sealing.unit p (send_all sealing.state ps)

-- what an end makes of sent units, one after another
unfoldable pub open_all : NlState → List SentUnit → List OpenedUnit
open_all s [] = []
open_all s (x ∷ xs) =
    let opening = open_of s x.unit x.from x.to in
    record { answer = opening.answer; plain = before_signature opening.unit }
    ∷ open_all opening.state xs
