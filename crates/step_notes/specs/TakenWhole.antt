-- What the end that asks takes of bytes that are those of one whole unit, on the link of its turn, on which nothing is
-- open.
use Rattle.std.specs.Prelude.{ℕ, ◌≡◌, ◌++◌, List, [], ◌∷◌, Some, None, Ok}
use Rattle.std.specs.List.{AllByRecursion}
use Rattle.channel_client.specs.Machine.{take_of}
use Rattle.rpc_units.specs.Calls.{IsHeard}
use Rattle.rpc_units.specs.Stream.{cut_stream}
use Rattle.rpc_units.specs.declared.unit.Unit.{Unit as RpcUnit}
use Rattle.end_links.specs.Serving.{served_cut, ServedUnit, served_units}
use Rattle.member_server.specs.Turns.{AtTurn, take_by, turn_server}
use Rattle.channel_turns.specs.declared.state.TurnTalk.{TurnTalk}
use Rattle.step_notes.specs.MemberNotes.{taking_at}

-- the units that are served: all but the last let nothing happen, and with the last the channel takes the whole unit,
-- as the member stood before all of them
pub record TakesWhole (at : AtTurn) (unit : RpcUnit) (left : List (List ℕ)) (units : List (ServedUnit AtTurn TurnTalk)) : Type 0 where
  pub before : List (ServedUnit AtTurn TurnTalk)
  pub last : ServedUnit AtTurn TurnTalk
  pub all : units ≡ before ++ last ∷ []
  pub none : AllByRecursion (λ (served : ServedUnit AtTurn TurnTalk). (taking_at served ≡ None) × (served.work ≡ at)) before
  pub work : last.work ≡ at
  pub takes : taking_at last ≡ Some (take_of at.work.logons.channel unit)
  pub comes : last.part ≡ Ok (record { value = take_by (take_of at.work.logons.channel unit) None at; left = left })

-- Bytes that are those of one whole unit on the link of a turn: of the units that a member serves none but the last is
-- taken by its channel, and what they come to is what taking the whole unit comes to.
pub record MembersTakeWhole : Type 0 where
  pub units : (bytes : List ℕ) (frames : List RpcUnit) (unit : RpcUnit) (at : AtTurn) (talk : TurnTalk) (left : List (List ℕ)) →
      IsHeard bytes frames unit → talk.joiner ≡ None → TakesWhole at unit left (served_units turn_server (cut_stream bytes).units at talk left)
  pub comes : (bytes : List ℕ) (frames : List RpcUnit) (unit : RpcUnit) (at : AtTurn) (talk : TurnTalk) (left : List (List ℕ)) →
      IsHeard bytes frames unit → talk.joiner ≡ None →
      served_cut turn_server (cut_stream bytes) at talk left ≡ Ok (record { value = take_by (take_of at.work.logons.channel unit) None at; left = left })
