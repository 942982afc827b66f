-- Which ends there are, and the plans of clients, and those of members but for their secrets: none of it changes at any
-- move, so that an address is the same end's in each state of a run (this project's own choice).
use Rattle.std.specs.Prelude.{ℕ, ◌≡◌, List, length}
use Rattle.world_moves.specs.declared.moves.Move.{Move}
use Rattle.world_moves.specs.declared.state.State.{State}
use Rattle.world_moves.specs.Ends.{EndStates}
use Rattle.world_moves.specs.MemberPlans.{AreAlikeButSecrets}
use Rattle.world_moves.specs.Moving.{act, end_of_peer}

-- there are as many ends of each kind afterwards as before
pub record AreAsMany (ends after : EndStates) : Type 0 where
  pub controllers : length after.controllers ≡ length ends.controllers
  pub members : length after.members ≡ length ends.members
  pub clients : length after.clients ≡ length ends.clients
  pub stations : length after.stations ≡ length ends.stations

-- both states have as many ends of each kind, and the same plans, those of members but for their secrets
pub record HasSameEnds (s after : State) : Type 0 where
  pub ends : AreAsMany s.ends after.ends
  pub members : AreAlikeButSecrets s.member_plans after.member_plans
  pub clients : after.client_plans ≡ s.client_plans

pub record EndsStay : Type 0 where
  pub acts : (s : State) (what : Move) → HasSameEnds s (act s what).state
  -- of several moves
  pub none : (s : State) → HasSameEnds s s
  pub both : (s between after : State) → HasSameEnds s between → HasSameEnds between after → HasSameEnds s after
  -- an address is the same end's
  pub reach : (peer : List ℕ) (ends after : EndStates) → AreAsMany ends after → end_of_peer peer after ≡ end_of_peer peer ends
