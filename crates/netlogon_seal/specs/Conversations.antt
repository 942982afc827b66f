-- Both directions of a channel at once: this project's own way to say that it carries units in order, whichever end
-- seals or opens next.
use Rattle.std.specs.Prelude.{◌≡◌, ℕ, Bool, true, false, List, [], ◌∷◌, ◌++◌, length, map, Result, Ok, Err}
use Rattle.netlogon_seal.specs.declared.refusal.NlRefused.{NlRefused}
use Rattle.netlogon_seal.specs.Signatures.{before_signature}
use Rattle.netlogon_seal.specs.Channels.{NlState, nl_state_of, Opening, seal_of, open_of}
use Rattle.netlogon_seal.specs.Runs.{PlainUnit, HasRange, SentUnit, OpenedUnit, whole_opening}

-- one direction: the sealed units under way, the plain ones that were sealed, and what opening made of those that came,
-- each in order
pub record Way : Type 0 where
  pub under_way : List SentUnit
  pub sealed : List PlainUnit
  pub opened : List OpenedUnit

-- the two ends, and the direction from each
pub record Ends : Type 0 where
  pub requester : NlState
  pub responder : NlState
  pub from_requester : Way
  pub from_responder : Way

abbrev pub empty_way : Way
empty_way = record { under_way = []; sealed = []; opened = [] }

-- the two ends of a channel of a session key, before the first unit
abbrev pub first_ends : List ℕ → Ends
first_ends key = record {
  requester = nl_state_of key true;
  responder = nl_state_of key false;
  from_requester = empty_way;
  from_responder = empty_way;
}

-- What happens next: an end seals a unit, or opens the first one that is under way to it. The end is told by whether it
-- is the requester.
pub data Turn : Type 0 where
  seals : Bool → PlainUnit → Turn
  opens : Bool → Turn

-- a unit that isn't sealed isn't sent
abbrev pub sent_with : Result Unit NlRefused → List ℕ → PlainUnit → Way → Way
sent_with (Ok _) sealed p way = record way {
  under_way = way.under_way ++ record { unit = sealed; from = p.from; to = p.to } ∷ [];
  sealed = way.sealed ++ p ∷ [];
}
sent_with (Err _) sealed p way = way

abbrev pub opened_with : Opening → List SentUnit → Way → Way
opened_with o rest way = record way {
  under_way = rest;
  opened = way.opened ++ record { answer = o.answer; plain = before_signature o.unit } ∷ [];
}

-- the end that opened, and the direction to it
pub record Taking : Type 0 where
  pub state : NlState
  pub way : Way

-- an end takes the first of the units that are under way on its way
abbrev pub take_by : (under_way : List SentUnit) (end : NlState) (way : Way) → Taking
take_by [] s way = record { state = s; way = way }
take_by (x ∷ rest) s way =
    let o = open_of s x.unit x.from x.to in
    record { state = o.state; way = opened_with o rest way }

abbrev pub take_first : NlState → Way → Taking
take_first s way = take_by way.under_way s way

abbrev pub turn : Ends → Turn → Ends
turn e (seals true p) =
    let x = seal_of e.requester p.unit p.from p.to p.confounder in
    record e { requester = x.state; from_requester = sent_with x.answer x.unit p e.from_requester }
turn e (seals false p) =
    let x = seal_of e.responder p.unit p.from p.to p.confounder in
    record e { responder = x.state; from_responder = sent_with x.answer x.unit p e.from_responder }
turn e (opens true) =
    let t = take_first e.requester e.from_responder in
    record e { requester = t.state; from_responder = t.way }
turn e (opens false) =
    let t = take_first e.responder e.from_requester in
    record e { responder = t.state; from_requester = t.way }

-- one after the other
abbrev pub all_turns : Ends → List Turn → Ends
all_turns e [] = e
all_turns e (t ∷ ts) = all_turns (turn e t) ts

-- each unit that is to be sealed has its range
abbrev pub HasTurnRange : Turn → Type 0
HasTurnRange (seals requester p) = HasRange p
HasTurnRange (opens requester) = Unit {0}

-- What was opened in a direction is a front of what was sealed in it, and each unit was opened to what it was. The
-- others are under way.
pub record Carries (way : Way) : Type 0 where
  pub pending : List PlainUnit
  pub in_order : way.opened ++ map whole_opening pending ≡ map whole_opening way.sealed
  pub as_many : length pending ≡ length way.under_way
