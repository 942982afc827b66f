-- What stays of the clients' and the stations' outcomes where a move isn't made (this project's own choice).
use Rattle.std.specs.Prelude.{ℕ, ◌≡◌, Bool, true, false, List, Option, Some, None, slice_get}
use Rattle.interactive_station.specs.declared.outcome.StationOutcome.{StationOutcome}
use Rattle.logon_client.specs.State.{State as ClientState}
use Rattle.logon_client.specs.Machine.{has_outcome}
use Rattle.logon_client.specs.declared.outcome.ClientOutcome.{ClientOutcome}
use Rattle.world_moves.specs.declared.state.State.{State}
use Rattle.world_moves.specs.World.{World, outcome_by, outcome_of, station_outcome_of}

-- each client's outcome is as it was
abbrev pub HasOutcomesOf : World → World → Type 0
HasOutcomesOf old new = (client : ℕ) → outcome_of new client ≡ outcome_of old client

-- each station's outcome is as it was, or lost
abbrev pub HasNoOtherOutcomes : World → World → Type 0
HasNoOtherOutcomes old new =
    (station : ℕ) (outcome : StationOutcome) → station_outcome_of new station ≡ Some outcome →
    station_outcome_of old station ≡ Some outcome

-- ---- within a move

-- the outcome of the client at that place
abbrev pub outcome_at : List ClientState → ℕ → Option ClientOutcome
outcome_at clients at = outcome_by (slice_get clients at)

-- a client that has its outcome keeps it
pub record OutcomesStay (old new : List ClientState) : Type 0 where
  pub each : (at : ℕ) (outcome : ClientOutcome) → outcome_at old at ≡ Some outcome → outcome_at new at ≡ Some outcome

abbrev pub KeepsOutcomes : State → State → Type 0
KeepsOutcomes old new = OutcomesStay old.ends.clients new.ends.clients

-- ---- where a move isn't made, a client that had no outcome before it has none

abbrev pub has_its_outcome : ClientState → Bool
has_its_outcome client = has_outcome client.outcome

abbrev pub is_told : Option Bool → Bool
is_told None = false
is_told (Some told) = told

abbrev pub kept_if : (had_outcome : Bool) → Option ClientOutcome → Option ClientOutcome
kept_if true outcome = outcome
kept_if false outcome = None

-- the outcomes of those that had one, where that is told for each
pub record OutcomesFall (had : List Bool) (old new : List ClientState) : Type 0 where
  pub each : (at : ℕ) → outcome_at new at ≡ kept_if (is_told (slice_get had at)) (outcome_at old at)
