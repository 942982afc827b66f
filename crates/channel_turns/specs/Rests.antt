-- That no challenge is drawn for a unit on the link of a turn.
use Rattle.std.specs.Prelude.{ℕ, ◌+◌, ◌≤◌, List, [], length, Option, Some, None, refl}
use Rattle.rpc_units.specs.Reading.{unit_of}
use Rattle.end_links.specs.Bounds.{ServerDrawsFew, extra_on}
use Rattle.end_links.specs.Serving.{ServerLeavesRest}
use Rattle.end_links.proofs.BoundLaws.{nothing_drawn, none_fewer}
use Rattle.channel_turns.specs.declared.state.TurnTalk.{TurnTalk}
use Rattle.channel_turns.specs.SealedTurns.{sealed_turn_server, sealed_unit}
use Rattle.channel_turns.specs.Turns.{turn_server, turn_unit}

-- all that were left are left
pub turn_leaves : ServerLeavesRest turn_server
turn_leaves = record {
  unit = λ bytes at talk left. record { front = []; is = refl };
  refusal = λ why at talk left. record { front = []; is = refl };
}

none_drawn : (said : Option TurnTalk) (left : List (List ℕ)) → length left + extra_on (λ (talk : TurnTalk). 0) said ≤ length left + 1 + 0
none_drawn None left = nothing_drawn (length left) 0
none_drawn (Some talk) left = nothing_drawn (length left) 0

pub turn_few : ServerDrawsFew turn_server (λ talk. 0)
turn_few = record {
  unit = λ bytes at talk left. none_drawn (turn_unit (unit_of bytes) talk.joiner at).1 left;
  refusal = λ why at talk left. none_fewer (length left);
}

-- a turn on a channel that seals leaves a rest of the challenges
pub sealed_turn_leaves : ServerLeavesRest sealed_turn_server
sealed_turn_leaves = record {
  unit = λ bytes at talk left. record { front = []; is = refl };
  refusal = λ why at talk left. record { front = []; is = refl };
}

pub sealed_turn_few : ServerDrawsFew sealed_turn_server (λ talk. 0)
sealed_turn_few = record {
  unit = λ bytes at talk left. none_drawn (sealed_unit bytes talk.joiner at).1 left;
  refusal = λ why at talk left. none_fewer (length left);
}
