-- How each step of a station moves it, whatever comes (this project's own choice): in which order its calls come, and
-- what it tells on the way.
use Rattle.std.specs.Prelude.{ℕ, ◌≡◌, Bool, true, false, List, [], ◌∷◌, Option, Some, None, IsTrue}
use Rattle.std.specs.List.{flat_map}
use Rattle.outside.specs.declared.action.Action.{Action}
use Rattle.outside.specs.declared.action.Action.TheVariants as action
use Rattle.outside.specs.declared.action.Outcome.{Outcome}
use Rattle.outside.specs.declared.action.Outcome.TheVariants as told
use Rattle.interactive_station.specs.declared.outcome.StationOutcome.{StationOutcome}
use Rattle.interactive_station.specs.declared.outcome.StationOutcome.TheVariants.{Off, Refused, NoAnswer, BadPeer}
use Rattle.interactive_station.specs.declared.state.StationCall.{StationCall}
use Rattle.interactive_station.specs.declared.state.StationCall.TheVariants.{Challenge, Authenticate, Logon, Logoff}
use Rattle.interactive_station.specs.declared.state.StationLink.{StationLink}
use Rattle.interactive_station.specs.declared.state.StationLink.TheVariants.{Idle, Dialling, On}
use Rattle.interactive_station.specs.declared.state.StationStep.{StationStep}
use Rattle.interactive_station.specs.declared.state.StationStep.TheVariants.{Bound, Asked}
use Rattle.interactive_station.specs.Machine.{link_of}

-- ---- the call that a station is at

abbrev pub call_in : StationStep → StationCall
call_in (Bound c) = c
call_in (Asked c) = c

-- none where it has no link, and before its first challenge is drawn
abbrev pub call_at : StationLink → Option StationCall
call_at Idle = None
call_at (Dialling c) = c
call_at (On link) = Some (call_in link.talk.step)

-- the order of the calls
abbrev pub follows : StationCall → StationCall → Bool
follows (Challenge client) (Authenticate one other) = true
follows (Authenticate client server) (Logon o authenticator) = true
follows (Logon o authenticator) (Logoff other more domain user) = true
follows _ _ = false

-- ---- what is told

abbrev pub told_by : Action → List (ℕ × Outcome)
told_by (action.Told link how) = (link, how) ∷ []
told_by (action.Keep bytes) = []
told_by (action.Send link bytes) = []
told_by (action.Dial peer) = []
told_by (action.Close link cause) = []
told_by (action.Judged judged) = []

abbrev pub told_in : List Action → List (ℕ × Outcome)
told_in actions = flat_map told_by actions

-- Where the next call is dialled for, `In` is told on the link of the Logon that it follows, with the names of the
-- Logoff, and nothing before another call.
abbrev pub IsToldBefore : (next : StationCall) (link : Option ℕ) → List (ℕ × Outcome) → Type 0
IsToldBefore (Logoff o authenticator domain user) (Some link) tolds =
    (key : List ℕ) × (tolds ≡ (link, told.In domain user key) ∷ [])
IsToldBefore (Logoff o authenticator domain user) None tolds = ⊥
IsToldBefore _ link tolds = tolds ≡ []

-- ---- the outcome

-- the user who is logged off is the one whom the Logoff names
abbrev pub IsOffAt : Option StationCall → (domain user : List ℕ) → Type 0
IsOffAt (Some (Logoff o authenticator domain user)) off_domain off_user = (off_domain ≡ domain) × (off_user ≡ user)
IsOffAt _ off_domain off_user = ⊥

-- `Off` comes at the answer to the Logoff alone, and no other outcome is bound to a call
abbrev pub IsOutcomeAt : StationOutcome → Option StationCall → Type 0
IsOutcomeAt (Off domain user) c = IsOffAt c domain user
IsOutcomeAt (Refused status) c = Unit {0}
IsOutcomeAt (NoAnswer cause) c = Unit {0}
IsOutcomeAt (BadPeer cause) c = Unit {0}

-- ---- how it moves

-- How a station stood before, how it stands then, with its outcome, and what was told.
pub data Moves (before after : StationLink) (outcome : Option StationOutcome) (tolds : List (ℕ × Outcome)) : Type 0 where
  -- the station is at the call at which it was
  Stays : call_at after ≡ call_at before → outcome ≡ None → tolds ≡ [] → Moves before after outcome tolds
  -- the station's first link opens, and the client's challenge is drawn
  Begins : (client : List ℕ) → before ≡ Dialling None → call_at after ≡ Some (Challenge client) → outcome ≡ None →
      tolds ≡ [] → Moves before after outcome tolds
  -- the call that the station is at is answered, and the next one is dialled for
  GoesOn : (now next : StationCall) → call_at before ≡ Some now → after ≡ Dialling (Some next) →
      IsTrue (follows now next) → outcome ≡ None → IsToldBefore next (link_of before) tolds →
      Moves before after outcome tolds
  -- the station has its outcome, and no link
  Ends : (how : StationOutcome) → after ≡ Idle → outcome ≡ Some how → IsOutcomeAt how (call_at before) →
      tolds ≡ [] → Moves before after outcome tolds
