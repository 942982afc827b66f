-- The units on the link of a turn, whatever end it is of (MS-NRPC 3.1.4, 3.5.4; how turns follow one another is this
-- project's own choice). What they come to is a channel, actions, and how the turn ended, where it did; the end closes
-- the link then, and does what follows.
use Rattle.std.specs.Prelude.{ℕ, List, [], ◌∷◌, ◌++◌, Option, Some, None, Result, Ok}
use Rattle.outside.specs.declared.action.Action.{Action}
use Rattle.outside.specs.declared.action.Action.TheVariants as action
use Rattle.outside.specs.declared.action.CloseCause.{CloseCause}
use Rattle.outside.specs.declared.action.CloseCause.TheVariants as close
use Rattle.outside.specs.declared.action.DropCause.TheVariants as drop_cause
use Rattle.outside.specs.declared.action.StepRefused.{StepRefused}
use Rattle.outside.specs.Machine.{Part}
use Rattle.rpc_units.specs.declared.refused.UnitRefused.{UnitRefused}
use Rattle.rpc_units.specs.declared.unit.Unit.{Unit as RpcUnit}
use Rattle.rpc_units.specs.Reading.{unit_of}
use Rattle.rpc_units.specs.Stream.{Cut, cut_stream}
use Rattle.end_links.specs.Links.{LinkState}
use Rattle.end_links.specs.Sending.{joined_frames}
use Rattle.end_links.specs.Serving.{Server, ServedPart}
use Rattle.channel_client.specs.declared.answers.Taken.{Taken}
use Rattle.channel_client.specs.declared.answers.Taken.TheVariants as taken
use Rattle.channel_client.specs.Machine.{Losing, Taking, lose_of, take_of}
use Rattle.channel_client.specs.State.{Requester}
use Rattle.channel_turns.specs.declared.hearing.Heard.{Heard}
use Rattle.channel_turns.specs.declared.hearing.Heard.TheVariants as heard
use Rattle.channel_turns.specs.declared.state.TurnEnd.{TurnEnd}
use Rattle.channel_turns.specs.declared.state.TurnEnd.TheVariants as turn_end
use Rattle.channel_turns.specs.declared.state.TurnTalk.{TurnTalk}
use Rattle.channel_turns.specs.declared.state.TurnWork.{TurnWork}
use Rattle.channel_turns.specs.Hearing.{heard_of}

-- ---- a unit: the channel at work afterwards, and what is said on the link, or None where the turn ended

abbrev pub TurnServed : Type 0
TurnServed = TurnWork × Option TurnTalk

abbrev pub turn_talk : Option RpcUnit → TurnTalk
turn_talk joiner = record { joiner = joiner; turn = tt }

abbrev pub with_channel : Requester → TurnWork → TurnWork
with_channel channel at = record at { channel = channel }

abbrev pub tell : Action → TurnWork → TurnWork
tell what at = record at { actions = at.actions ++ what ∷ [] }

-- the turn ended so, and its link is to be closed for this cause
abbrev pub end_by : CloseCause → TurnEnd → TurnWork → TurnServed
end_by cause how at = (record at { ended = Some (record { closes = Some (at.link, cause); how = how }) }, None)

-- what the channel made of a whole unit
abbrev pub do_taken : Taken → Option RpcUnit → TurnWork → TurnServed
do_taken (taken.Skip turn) joiner at = (at, Some (turn_talk joiner))
do_taken (taken.Next turn frames) joiner at = (tell (action.Send at.link (joined_frames frames)) at, Some (turn_talk joiner))
do_taken taken.Half joiner at = end_by close.CallDone turn_end.Half at
do_taken taken.Opened joiner at = end_by close.CallDone turn_end.Opened at
do_taken (taken.Answer place verdict) joiner at = end_by close.CallDone (turn_end.Answer place verdict) at
do_taken (taken.Dropped place cause) joiner at = end_by close.CallDone (turn_end.Dropped place cause) at
do_taken taken.Set joiner at = end_by close.CallDone turn_end.Set at

abbrev pub take_by : Taking → Option RpcUnit → TurnWork → TurnServed
take_by taking joiner at = do_taken taking.taken joiner (with_channel taking.state at)

-- a unit that is refused loses the turn
abbrev pub break_by : Losing → CloseCause → TurnWork → TurnServed
break_by losing cause at =
    end_by cause (turn_end.Dropped losing.place drop_cause.BadReply) (with_channel losing.state at)

abbrev pub break_turn : CloseCause → TurnWork → TurnServed
break_turn cause at = break_by (lose_of at.channel) cause at

abbrev pub do_heard : Heard → TurnWork → TurnServed
do_heard (heard.Waits joiner) at = (at, Some (turn_talk joiner))
do_heard (heard.Whole unit joiner) at = take_by (take_of at.channel unit) joiner at
do_heard (heard.Broken cause) at = break_turn cause at

-- a turn hears a unit, by how it is read and by the fragments before it
abbrev pub turn_unit : (unit : Result RpcUnit UnitRefused) (joiner : Option RpcUnit) → TurnWork → TurnServed
turn_unit unit joiner at = do_heard (heard_of unit joiner) at

-- ---- the units of a stream, which draw no challenge

abbrev pub then_said : TurnServed → (TurnWork → TurnTalk → TurnServed) → TurnServed
then_said (at, None) later = (at, None)
then_said (at, Some talk) later = later at talk

-- the units in order, and then the refusal of the rest, where it is refused. After the turn ended nothing more is
-- served
abbrev pub served_by : List (List ℕ) → Option UnitRefused → TurnWork → TurnTalk → TurnServed
served_by [] None at talk = (at, Some talk)
served_by [] (Some why) at talk = break_turn close.BadUnit at
served_by (bytes ∷ units) why at talk =
    then_said (turn_unit (unit_of bytes) talk.joiner at) (λ later said. served_by units why later said)

abbrev pub turn_served : Cut → TurnWork → TurnTalk → TurnServed
turn_served cut at talk = served_by cut.units cut.refused at talk

-- the link of the turn, with that rest of its stream, where the turn is still out
abbrev pub keep_turn : Option TurnTalk → List ℕ → Option (LinkState TurnTalk)
keep_turn None rest = None
keep_turn (Some talk) rest = Some (record { rest = rest; talk = talk })

abbrev pub after_turn : TurnServed → List ℕ → TurnWork × Option (LinkState TurnTalk)
after_turn served rest = (served.0, keep_turn served.1 rest)

-- a piece that comes on the link
abbrev pub serve_turn : TurnWork → LinkState TurnTalk → List ℕ → TurnWork × Option (LinkState TurnTalk)
serve_turn at said piece =
    after_turn (turn_served (cut_stream (said.rest ++ piece)) at said.talk) (cut_stream (said.rest ++ piece)).rest

-- ---- units on the link of a turn, by the words for any end's units

abbrev pub unit_part : List ℕ → TurnWork → TurnTalk → List (List ℕ) → ServedPart TurnWork TurnTalk
unit_part bytes at talk left = Ok (record { value = turn_unit (unit_of bytes) talk.joiner at; left = left })

abbrev pub refusal_part : UnitRefused → TurnWork → TurnTalk → List (List ℕ) → Result (Part TurnWork) StepRefused
refusal_part why at talk left = Ok (record { value = (break_turn close.BadUnit at).0; left = left })

abbrev pub turn_server : Server TurnWork TurnTalk
turn_server = record { unit = unit_part; refusal = refusal_part }
