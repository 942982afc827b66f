-- What a step does to the shared channel, part by part: what the event does, and then the next turn (how turns follow
-- one another is this project's own choice).
use Rattle.std.specs.Prelude.{ℕ, ◌≡◌, Bool, true, false, List, [], ◌∷◌, replicate, None, Result, Ok, Err}
use Rattle.std.specs.List.{AllByRecursion}
use Rattle.outside.specs.Machine.{Part}
use Rattle.outside.specs.declared.action.StepRefused.{StepRefused}
use Rattle.outside.specs.declared.event.Event.{Event}
use Rattle.outside.specs.declared.event.Event.TheVariants as event
use Rattle.rpc_units.specs.Calls.{IsHeard}
use Rattle.rpc_units.specs.declared.unit.Unit.{Unit as RpcUnit}
use Rattle.end_links.specs.Links.{LinkState}
use Rattle.channel_client.specs.Machine.{can_start, needs_challenge, start_of, take_of}
use Rattle.channel_client.specs.State.{Requester}
use Rattle.member_server.specs.Laws.{Asks, Doing, Loses, Starts, Takes, heard_in, state_after}
use Rattle.member_server.specs.Machine.{by_event, event_part, work_of}
use Rattle.member_server.specs.Turns.{DialWork, ready_channel, timestamp_of}
use Rattle.channel_turns.specs.declared.state.Dialling.TheVariants as dialling
use Rattle.member_server.specs.declared.state.Running.{Running}
use Rattle.channel_turns.specs.declared.state.TurnTalk.{TurnTalk}

-- a logon is asked, or the turn is lost
abbrev pub IsCalm : Doing → Type 0
IsCalm (Asks info) = Unit {0}
IsCalm (Starts timestamp challenge) = ⊥
IsCalm (Takes unit) = ⊥
IsCalm Loses = Unit {0}

pub record ComesCalmly (old new : Requester) : Type 0 where
  pub doings : List Doing
  pub calm : AllByRecursion IsCalm doings
  pub is : new ≡ state_after doings old

-- the next turn, where one can start, with the next challenge that is left where it needs one
abbrev pub IsNextTurn : (starts needs : Bool) (now : ℕ) (mid : Requester) (before : List (List ℕ)) (new : Requester) (after : List (List ℕ)) → Type 0
IsNextTurn false needs now mid before new after = (new ≡ mid) × (after ≡ before)
IsNextTurn true false now mid before new after = (new ≡ (start_of mid (timestamp_of now) (replicate 8 0)).state) × (after ≡ before)
IsNextTurn true true now mid before new after =
    (challenge : List ℕ) × (before ≡ challenge ∷ after) × (new ≡ (start_of mid (timestamp_of now) challenge).state)

-- what the event comes to, whose channel is such, and then the next turn of the channel that was given its secrets
pub record ChannelSteps
    (first : Result (Part DialWork) StepRefused) (Mid : Requester → Type 0) (now : ℕ) (new : Requester) (after : List (List ℕ)) : Type 0 where
  pub part : Part DialWork
  pub is : first ≡ Ok part
  pub mid : Mid part.value.0.logons.channel
  pub next : IsNextTurn
      (can_start part.value.0.logons.channel.turn part.value.0.logons.channel.waiting)
      (needs_challenge part.value.0.logons.channel.standing) now (ready_channel part.value.0) part.left new after

abbrev pub StepsIfTaken : Result (Part DialWork) StepRefused → (Requester → Type 0) → ℕ → Result (Part DialWork) StepRefused → Type 0
StepsIfTaken first Mid now (Err why) = Unit {0}
StepsIfTaken first Mid now (Ok part) = ChannelSteps first Mid now part.value.0.logons.channel part.left

pub record ChannelStepsKnown : Type 0 where
  -- where no whole unit comes on the link of the turn, logons are asked and the turn is lost, if anything
  pub other : (running : Running) (what : Event) (now : ℕ) (left : List (List ℕ)) → heard_in what running.dialling ≡ [] →
      StepsIfTaken (by_event what running.dialling (work_of running) left) (ComesCalmly running.logons.channel) now (event_part running what now left)
  -- where the bytes of one whole unit come on it, and nothing is open there, the unit is taken, and then the same
  pub whole : (running : Running) (number : ℕ) (said : LinkState TurnTalk) (bytes : List ℕ) (frames : List RpcUnit) (unit : RpcUnit) (now : ℕ)
      (left : List (List ℕ)) → running.dialling ≡ dialling.On number said → said.rest ≡ [] → said.talk.joiner ≡ None → IsHeard bytes frames unit →
      StepsIfTaken (by_event (event.Bytes number bytes) running.dialling (work_of running) left)
      (ComesCalmly (take_of running.logons.channel unit).state) now (event_part running (event.Bytes number bytes) now left)
