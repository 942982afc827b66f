-- What a unit on the link of a member's turn comes to, beside what is taken of it; and what holds of each unit that is
-- served there: there is one only where that link is open and the bytes come on it.
-- It serves `calls_carry_their_logon`, `requests_come_first`.
use Rattle.std.proofs.Common.{◌≡◌, ◌==◌, ◌++◌, ℕ, Bool, true, false, List, Option, Some, None, Result, Ok, Err, refl}
use Rattle.std.specs.List.{AllByRecursion}
use Rattle.outside.specs.declared.action.Action.{Action}
use Rattle.outside.specs.declared.action.StepRefused.{StepRefused}
use Rattle.outside.specs.declared.event.Event.TheVariants as event
use Rattle.outside.specs.declared.action.CloseCause.{CloseCause}
use Rattle.outside.specs.declared.action.CloseCause.TheVariants as close
use Rattle.rpc_units.specs.declared.refused.JoinRefused.{JoinRefused}
use Rattle.rpc_units.specs.declared.refused.JoinRefused.TheVariants as join
use Rattle.rpc_units.specs.declared.refused.UnitRefused.{UnitRefused}
use Rattle.rpc_units.specs.declared.unit.Unit.{Unit as RpcUnit}
use Rattle.rpc_units.specs.Joining.{answer_of, open_after}
use Rattle.rpc_units.specs.Stream.{cut_stream}
use Rattle.channel_client.specs.Machine.{Taking, take_of}
use Rattle.end_links.specs.Links.{LinkState}
use Rattle.end_links.specs.Serving.{ServedUnit, served_units}
use Rattle.member_server.specs.Machine.{at_turn, step_of, work_of}
use Rattle.member_server.specs.State.{State as MemberState}
use Rattle.member_server.specs.Turns.{AtTurn, TurnServed, break_turn, do_taken, turn_by_join, turn_server, turn_talk, turn_unit}
use Rattle.member_server.proofs.StepFrame.{taken_at}
use Rattle.channel_turns.specs.declared.state.Dialling.{Dialling}
use Rattle.channel_turns.specs.declared.state.Dialling.TheVariants as dialling
use Rattle.member_server.specs.declared.state.Running.{Running}
use Rattle.channel_turns.specs.declared.state.TurnTalk.{TurnTalk}
use Rattle.step_notes.specs.MemberNotes.{taking_joined, taking_read, turn_units, turn_units_by, turn_units_in, turn_units_on}
use Rattle.step_notes.specs.Served.{units_if_taken}

-- ---- a unit

-- bytes are no whole unit yet; or their unit is taken; or they are refused
pub record ByTaking (at : AtTurn) (Holds : Option Taking → TurnServed → Type 0) : Type 0 where
  pub waits : (joiner : Option RpcUnit) → Holds None (at, Some (turn_talk joiner))
  pub takes : (unit : RpcUnit) (after : Option RpcUnit) →
      Holds (Some (take_of at.work.logons.channel unit)) (do_taken (take_of at.work.logons.channel unit).taken after (taken_at at unit))
  pub breaks : (cause : CloseCause) → Holds None (break_turn cause at)

module _ (at : AtTurn) (Holds : Option Taking → TurnServed → Type 0) (by : ByTaking at Holds) where
  joined_by : (whole : Result (Option RpcUnit) JoinRefused) (after : Option RpcUnit) → Holds (taking_joined whole at.work.logons.channel) (turn_by_join whole after at)
  joined_by (Err join.OutOfPlace) after = by.breaks close.OutOfPlace
  joined_by (Err join.CallTooLong) after = by.breaks close.TooMuchHeld
  joined_by (Err join.Memory) after = by.breaks close.OutOfPlace
  joined_by (Ok None) after = by.waits after
  joined_by (Ok (Some unit)) after = by.takes unit after

  pub taking_by : (read : Result RpcUnit UnitRefused) (joiner : Option RpcUnit) → Holds (taking_read read joiner at.work.logons.channel) (turn_unit read joiner at)
  taking_by (Err why) joiner = by.breaks close.BadUnit
  taking_by (Ok unit) joiner = joined_by (answer_of joiner unit) (open_after joiner unit)

-- ---- the units of a piece

-- what is known of a member by its dial gives it of the units of a piece, where that is the link
module _ (P : ServedUnit AtTurn TurnTalk → Type 0) (Known : Dialling → Running → Type 0) (number : ℕ) (piece : List ℕ) (left : List (List ℕ))
    (each : (other : ℕ) (said : LinkState TurnTalk) (running : Running) → Known (dialling.On other said) running →
    AllByRecursion P (served_units turn_server (cut_stream (said.rest ++ piece)).units (at_turn number (work_of running)) said.talk left)) where
  by_such : (hit : Bool) (other : ℕ) (said : LinkState TurnTalk) (running : Running) → Known (dialling.On other said) running →
      AllByRecursion P (turn_units_by hit said number piece running left)
  by_such false other said running known = tt
  by_such true other said running known = each other said running known

  on_such : (how : Dialling) (running : Running) → Known how running → AllByRecursion P (turn_units_on how number piece running left)
  on_such dialling.Nothing running known = tt
  on_such (dialling.Waits turn frames) running known = tt
  on_such (dialling.On other said) running known = by_such (other == number) other said running known

  in_such : (r : Option Running) → ((running : Running) → r ≡ Some running → Known running.dialling running) → AllByRecursion P (turn_units_in r number piece left)
  in_such None known = tt
  in_such (Some running) known = on_such running.dialling running (known running refl)

  if_such : (answer : Result (List Action) StepRefused) (units : List (ServedUnit AtTurn TurnTalk)) → AllByRecursion P units → AllByRecursion P (units_if_taken answer units)
  if_such (Ok actions) units all = all
  if_such (Err why) units all = tt

  pub turn_units_such : (m : MemberState) (now : ℕ) → ((running : Running) → m.running ≡ Some running → Known running.dialling running) →
      AllByRecursion P (turn_units m number piece now left)
  turn_units_such m now known =
      if_such (step_of m (event.Bytes number piece) now left).answer (turn_units_in m.running number piece left) (in_such m.running known)
