-- What a unit on the link of a turn can come to, and what holds through all of them: whatever stays where a unit is
-- passed over, taken or refused, stays through all of them. It serves the laws of turns.
use Rattle.std.proofs.Common.{◌≡◌, ℕ, List, [], ◌∷◌, Option, Some, None, refl}
use Rattle.outside.specs.declared.action.Action.TheVariants as action
use Rattle.outside.specs.declared.action.CloseCause.{CloseCause}
use Rattle.outside.specs.declared.action.CloseCause.TheVariants as close
use Rattle.rpc_units.specs.declared.refused.UnitRefused.{UnitRefused}
use Rattle.rpc_units.specs.declared.unit.Unit.{Unit as RpcUnit}
use Rattle.rpc_units.specs.Reading.{unit_of}
use Rattle.rpc_units.specs.Stream.{Cut}
use Rattle.end_links.specs.Sending.{joined_frames}
use Rattle.channel_client.specs.declared.answers.Taken.{Taken}
use Rattle.channel_client.specs.declared.answers.Taken.TheVariants as taken
use Rattle.channel_client.specs.Machine.{take_of}
use Rattle.channel_turns.specs.declared.hearing.Heard.{Heard}
use Rattle.channel_turns.specs.declared.hearing.Heard.TheVariants as heard
use Rattle.channel_turns.specs.declared.state.TurnEnd.{TurnEnd}
use Rattle.channel_turns.specs.declared.state.TurnEnd.TheVariants as turn_end
use Rattle.channel_turns.specs.declared.state.TurnTalk.{TurnTalk}
use Rattle.channel_turns.specs.declared.state.TurnWork.{TurnWork}
use Rattle.channel_turns.specs.Hearing.{heard_of}
use Rattle.channel_turns.specs.Turns.{TurnServed, break_turn, do_heard, do_taken, end_by, served_by, take_by, tell, then_said, turn_served, turn_talk, turn_unit}

-- ---- a unit that was taken

-- how the turn ends, where it does
abbrev pub end_of : Taken → Option TurnEnd
end_of (taken.Skip right) = None
end_of (taken.Next right frames) = None
end_of taken.Half = Some turn_end.Half
end_of taken.Opened = Some turn_end.Opened
end_of (taken.Answer place verdict) = Some (turn_end.Answer place verdict)
end_of (taken.Dropped place cause) = Some (turn_end.Dropped place cause)
end_of taken.Set = Some turn_end.Set

-- a unit is passed over, sends the next request, or ends the turn
pub record ByTaken (what : Taken) (joiner : Option RpcUnit) (at : TurnWork) (Holds : TurnServed → Type 0) : Type 0 where
  pub skips : (right : Unit {0}) → what ≡ taken.Skip right → Holds (at, Some (turn_talk joiner))
  pub sends : (right : Unit {0}) (frames : List (List ℕ)) → what ≡ taken.Next right frames →
      Holds (tell (action.Send at.link (joined_frames frames)) at, Some (turn_talk joiner))
  pub ends : (how : TurnEnd) → end_of what ≡ Some how → Holds (end_by close.CallDone how at)

pub taken_by : (what : Taken) (joiner : Option RpcUnit) (at : TurnWork) (Holds : TurnServed → Type 0) → ByTaken what joiner at Holds →
    Holds (do_taken what joiner at)
taken_by (taken.Skip right) joiner at Holds by = by.skips right refl
taken_by (taken.Next right frames) joiner at Holds by = by.sends right frames refl
taken_by taken.Half joiner at Holds by = by.ends turn_end.Half refl
taken_by taken.Opened joiner at Holds by = by.ends turn_end.Opened refl
taken_by (taken.Answer place verdict) joiner at Holds by = by.ends (turn_end.Answer place verdict) refl
taken_by (taken.Dropped place cause) joiner at Holds by = by.ends (turn_end.Dropped place cause) refl
taken_by taken.Set joiner at Holds by = by.ends turn_end.Set refl

-- ---- the units of a stream

pub record StaysOnTurns (Holds : TurnServed → Type 0) : Type 0 where
  pub waits : (at : TurnWork) (talk other : TurnTalk) → Holds (at, Some talk) → Holds (at, Some other)
  pub takes : (unit : RpcUnit) (joiner : Option RpcUnit) (at : TurnWork) (talk : TurnTalk) → Holds (at, Some talk) →
      Holds (take_by (take_of at.channel unit) joiner at)
  pub breaks : (cause : CloseCause) (at : TurnWork) (talk : TurnTalk) → Holds (at, Some talk) → Holds (break_turn cause at)

module _ (Holds : TurnServed → Type 0) (stays : StaysOnTurns Holds) where
  heard_stays : (what : Heard) (at : TurnWork) (talk : TurnTalk) → Holds (at, Some talk) → Holds (do_heard what at)
  heard_stays (heard.Waits joiner) at talk holds = stays.waits at talk (turn_talk joiner) holds
  heard_stays (heard.Whole unit joiner) at talk holds = stays.takes unit joiner at talk holds
  heard_stays (heard.Broken cause) at talk holds = stays.breaks cause at talk holds

  said_stays : (served : TurnServed) (units : List (List ℕ)) (why : Option UnitRefused) → Holds served →
      ((at : TurnWork) (talk : TurnTalk) → Holds (at, Some talk) → Holds (served_by units why at talk)) →
      Holds (then_said served (λ later said. served_by units why later said))
  said_stays (at, None) units why holds each = holds
  said_stays (at, Some talk) units why holds each = each at talk holds

  by_stays : (units : List (List ℕ)) (why : Option UnitRefused) (at : TurnWork) (talk : TurnTalk) → Holds (at, Some talk) →
      Holds (served_by units why at talk)
  by_stays [] None at talk holds = holds
  by_stays [] (Some why) at talk holds = stays.breaks close.BadUnit at talk holds
  by_stays (bytes ∷ units) why at talk holds =
      said_stays (turn_unit (unit_of bytes) talk.joiner at) units why
      (heard_stays (heard_of (unit_of bytes) talk.joiner) at talk holds) (λ later said fits. by_stays units why later said fits)

  pub turn_stays : (cut : Cut) (at : TurnWork) (talk : TurnTalk) → Holds (at, Some talk) → Holds (turn_served cut at talk)
  turn_stays cut at talk holds = by_stays cut.units cut.refused at talk holds
