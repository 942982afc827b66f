-- A client's start where no link is open, and moves that find nothing to do, as they are seen of a
-- scene (this project's own choice).
use Rattle.std.specs.Prelude.{ℕ, ◌≡◌, List, [], ◌∷◌, Some, slice_get}
use Rattle.logon_client.specs.State.{State as ClientState}
use Rattle.logon_client.specs.declared.state.ClientLink.TheVariants as client_standing
use Rattle.world_moves.specs.declared.links.EndId.TheVariants.{Client}
use Rattle.world_moves.specs.declared.links.Route.{Route}
use Rattle.world_moves.specs.declared.state.State.{State}
use Rattle.world_moves.specs.Choosing.{chosen_place}
use Rattle.world_moves.specs.Ends.{starters_in}
use Rattle.world_moves.specs.Moving.{connect, onward, start}
use Rattle.logon_steps.specs.ClientSteps.{client_at}
use Rattle.logon_runs.specs.Scenes.LinkScenes.{Meeting, rest_scene}
use Rattle.logon_runs.specs.Scenes.Scene.{Scene, Shows}

pub record StartsAreSeen : Type 0 where
  -- the client dials its member
  pub starts : (s : State) (g : Meeting) (number : ℕ) (before : ClientState) (links : List Route) (left : List (List ℕ)) (moment : ℕ) →
      chosen_place number (starters_in s.ends) ≡ Some g.at_client → slice_get s.client_plans g.at_client ≡ Some g.task →
      Shows s (rest_scene g before links left moment []) →
      Shows (start number s).state
      (rest_scene g (client_at g.task client_standing.Dialling) links left moment (record { end = Client g.at_client; peer = g.task.server } ∷ []))
  -- no dial waits, or no unit
  pub no_dial : (s : State) (v : Scene) → v.dials ≡ [] → Shows s v → Shows (connect s).state v
  pub no_unit : (s : State) (v : Scene) → v.units ≡ [] → Shows s v → Shows (onward s).state v
