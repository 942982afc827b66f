-- The turn that is out, and its link (MS-NRPC 3.1.4, 3.5.4; how turns follow one another is this project's own choice).
-- What comes of it for the channel is as at every end that asks. Where a turn ended, the member keeps a new text of its
-- secrets, closes the link, and ends the logon that the turn was for.
use Rattle.std.specs.Prelude.{ℕ, Bool, true, false, List, [], ◌∷◌, ◌++◌, Option, Some, None, Result, Ok}
use Rattle.outside.specs.declared.action.Action.{Action}
use Rattle.outside.specs.declared.action.Action.TheVariants as action
use Rattle.outside.specs.declared.action.CloseCause.{CloseCause}
use Rattle.outside.specs.declared.action.CloseCause.TheVariants as close
use Rattle.outside.specs.declared.action.DropCause.{DropCause}
use Rattle.outside.specs.declared.action.StepRefused.{StepRefused}
use Rattle.outside.specs.Machine.{Part, then_part}
use Rattle.logon_stubs.specs.declared.info.Verdict.{Verdict}
use Rattle.logon_stubs.specs.declared.info.Verdict.TheVariants as verdict
use Rattle.rpc_units.specs.declared.refused.JoinRefused.{JoinRefused}
use Rattle.rpc_units.specs.declared.refused.UnitRefused.{UnitRefused}
use Rattle.rpc_units.specs.declared.unit.Unit.{Unit as RpcUnit}
use Rattle.rpc_units.specs.Reading.{unit_of}
use Rattle.end_links.specs.Serving.{Server, ServedPart}
pub use Rattle.authenticators.specs.Timestamps.{timestamp_of}
use Rattle.channel_client.specs.declared.answers.Taken.{Taken}
use Rattle.channel_client.specs.Machine.{Starting, Taking, can_start, needs_challenge}
use Rattle.channel_client.specs.State.{Requester}
use Rattle.channel_turns.specs.declared.state.Dialling.{Dialling}
use Rattle.channel_turns.specs.declared.state.TurnEnd.{TurnEnd}
use Rattle.channel_turns.specs.declared.state.TurnEnd.TheVariants as turn_end
use Rattle.channel_turns.specs.declared.state.TurnEnded.{TurnEnded}
use Rattle.channel_turns.specs.declared.state.Turning.{Turning}
use Rattle.channel_turns.specs.declared.state.TurnTalk.{TurnTalk}
use Rattle.channel_turns.specs.declared.state.TurnWork.{TurnWork}
use Rattle.channel_turns.specs.Dials.{NextTurn, next_by}
use Rattle.channel_turns.specs.Hearing.{heard_by}
use Rattle.channel_turns.specs.Turning as turning
pub use Rattle.channel_turns.specs.Turns.{turn_talk}
use Rattle.channel_turns.specs.Turns as turns
use Rattle.member_server.specs.declared.outcomes.Ending.{Ending}
use Rattle.member_server.specs.declared.outcomes.Ending.TheVariants as ending
use Rattle.member_server.specs.declared.state.Logons.{Logons}
use Rattle.member_server.specs.declared.state.Work.{Work}
use Rattle.member_server.specs.Outcomes.{tell_at, end_logon}
use Rattle.member_server.specs.Secrets.{SecretsState, changes_text, give_secrets, secrets_after, written_secrets}

-- ---- what follows of a turn that ended

abbrev pub ending_of : Verdict → Ending
ending_of (verdict.Granted info) = ending.Granted info
ending_of (verdict.Status status) = ending.Refused status

-- the logon that it was for ends, where it was for one
abbrev pub end_turn : TurnEnd → Work → Work
end_turn turn_end.Half work = work
end_turn turn_end.Opened work = work
end_turn (turn_end.Answer place verdict) work = end_logon place (ending_of verdict) work
end_turn (turn_end.Dropped place cause) work = end_logon place (ending.NoController cause) work
end_turn turn_end.Set work = work

-- ---- the secrets after it

abbrev pub with_secrets : SecretsState → Logons → Logons
with_secrets secrets logons = record logons { plan = record logons.plan { secrets = secrets } }

-- the secrets' text is kept where it is another than before
abbrev pub keep_if : (is_changed : Bool) (secrets : SecretsState) (actions : List Action) → List Action
keep_if false secrets actions = actions
keep_if true secrets actions = actions ++ action.Keep (written_secrets secrets) ∷ []

abbrev pub keep_ended : TurnEnd → Work → Work
keep_ended how work = record work {
  logons = with_secrets (secrets_after how work.logons.plan.secrets) work.logons;
  actions = keep_if (changes_text how work.logons.plan.secrets) (secrets_after how work.logons.plan.secrets) work.actions;
}

-- ---- all that follows of it

-- the link of a turn that ended is closed, where it is open
abbrev pub close_ended : Option (ℕ × CloseCause) → Work → Work
close_ended None work = work
close_ended (Some closes) work = tell_at work (action.Close closes.0 closes.1)

-- a new text of the secrets stands first, and before the logon's outcome the link is closed
abbrev pub after_ended : Option TurnEnded → Work → Work
after_ended None work = work
after_ended (Some ended) work = end_turn ended.how (close_ended ended.closes (keep_ended ended.how work))

-- ---- the turn of a member at work, and the member after it

-- a member at work, with its dial
abbrev pub DialWork : Type 0
DialWork = Work × Dialling

abbrev pub with_requester : Work → Requester → Work
with_requester work channel = record work { logons = record work.logons { channel = channel } }

-- a member with another channel, and these actions
abbrev pub with_channel : Requester → List Action → Work → Work
with_channel channel actions work =
    record work { logons = record work.logons { channel = channel }; actions = actions }

abbrev pub turning_of : Work → Dialling → Turning
turning_of work how = record { channel = work.logons.channel; dialling = how; actions = work.actions }

abbrev pub after_turned : turning.Turned → Work → DialWork
after_turned turned work =
    (after_ended turned.1 (with_channel turned.0.channel turned.0.actions work), turned.0.dialling)

-- a turn that is lost
abbrev pub lose_turn : DropCause → Work → Work
lose_turn cause work = (after_turned (turning.drop_turn cause work.logons.channel work.actions) work).0

-- ---- units on the link of the turn: the member afterwards, and what is said on the link, or None where it is closed

-- a member at work on the link of the turn, by the number of that link
pub record AtTurn : Type 0 where
  pub link : ℕ
  pub work : Work

abbrev pub TurnServed : Type 0
TurnServed = AtTurn × Option TurnTalk

abbrev pub with_work : AtTurn → Work → AtTurn
with_work at work = record at { work = work }

-- what a turn works on, at the link of a turn
abbrev pub turn_work : AtTurn → TurnWork
turn_work at = record { link = at.link; channel = at.work.logons.channel; actions = at.work.actions; ended = None }

abbrev pub after_turn_served : turns.TurnServed → AtTurn → TurnServed
after_turn_served served at =
    (with_work at (after_ended served.0.ended (with_channel served.0.channel served.0.actions at.work)), served.1)

abbrev pub tell_turn_closed : CloseCause → AtTurn → Work
tell_turn_closed cause at = close_ended (Some (at.link, cause)) at.work

-- what the channel made of a whole unit
abbrev pub do_taken : Taken → Option RpcUnit → AtTurn → TurnServed
do_taken taken joiner at = after_turn_served (turns.do_taken taken joiner (turn_work at)) at

abbrev pub take_by : Taking → Option RpcUnit → AtTurn → TurnServed
take_by taking joiner at = after_turn_served (turns.take_by taking joiner (turn_work at)) at

-- a unit that is refused closes the link and loses the turn
abbrev pub break_turn : CloseCause → AtTurn → TurnServed
break_turn cause at = after_turn_served (turns.break_turn cause (turn_work at)) at

-- a fragment that was joined: what joining answers, and what is open then
abbrev pub turn_by_join : Result (Option RpcUnit) JoinRefused → Option RpcUnit → AtTurn → TurnServed
turn_by_join joined after at = after_turn_served (turns.do_heard (heard_by joined after) (turn_work at)) at

abbrev pub turn_unit : Result RpcUnit UnitRefused → Option RpcUnit → AtTurn → TurnServed
turn_unit unit joiner at = after_turn_served (turns.turn_unit unit joiner (turn_work at)) at

abbrev pub serve_turn : List ℕ → AtTurn → TurnTalk → List (List ℕ) → ServedPart AtTurn TurnTalk
serve_turn bytes at talk left = Ok (record { value = turn_unit (unit_of bytes) talk.joiner at; left = left })

abbrev pub refuse_turn : UnitRefused → AtTurn → TurnTalk → List (List ℕ) → Result (Part AtTurn) StepRefused
refuse_turn why at talk left = Ok (record { value = (break_turn close.BadUnit at).0; left = left })

abbrev pub turn_server : Server AtTurn TurnTalk
turn_server = record { unit = serve_turn; refusal = refuse_turn }

-- ---- the next turn, which starts after each event where one can

abbrev pub dial_work_part : Work → Dialling → List (List ℕ) → Result (Part DialWork) StepRefused
dial_work_part work how left = Ok (record { value = (work, how); left = left })

-- the controller is dialled where a turn starts
abbrev pub dial_for : Option (Unit {0} × List (List ℕ)) → Work → Dialling → DialWork
dial_for start work how =
    after_turned (turning.dial_for start work.logons.plan.controller (turning_of work how), None) work

abbrev pub dial_by : Starting → Work → Dialling → DialWork
dial_by starting work how = dial_for starting.answer (with_requester work starting.state) how

abbrev pub dial_part : Work → Dialling → NextTurn → List (List ℕ) → Result (Part DialWork) StepRefused
dial_part work how next left = Ok (record { value = dial_for next.1 (with_requester work next.0) how; left = left })

-- the next turn starts, where one can; one that opens a channel draws a challenge
abbrev pub turn_by : (starts draws : Bool) (now : ℕ) (work : Work) (how : Dialling) (left : List (List ℕ)) → Result (Part DialWork) StepRefused
turn_by starts needs now work how left = then_part (next_by starts needs now work.logons.channel left) (dial_part work how)

-- the channel with the secrets that it is given before a turn, where one can start
abbrev pub ready_channel : Work → Requester
ready_channel work =
    give_secrets (can_start work.logons.channel.turn work.logons.channel.waiting) work.logons.plan.secrets work.logons.channel

abbrev pub next_turn : ℕ → DialWork → List (List ℕ) → Result (Part DialWork) StepRefused
next_turn now dial_work left =
    turn_by (can_start dial_work.0.logons.channel.turn dial_work.0.logons.channel.waiting) (needs_challenge dial_work.0.logons.channel.standing)
    now (with_requester dial_work.0 (ready_channel dial_work.0)) dial_work.1 left
