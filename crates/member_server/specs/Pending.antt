-- How many more events the steps for closed and dialled links may make (this project's own choice): a failed send and a
-- dial make one each.
use Rattle.std.specs.Prelude.{ℕ, ◌≡◌, ◌≤◌, ◌+◌, ◌*◌, Bool, true, false, List, [], ◌∷◌, length, Option, Some, None, Result, Ok, Err}
use Rattle.outside.specs.declared.event.Event.{Event}
use Rattle.outside.specs.declared.action.StepRefused.{StepRefused}
use Rattle.outside.specs.Machine.{Part}
use Rattle.end_links.specs.Links.{LinkState}
use Rattle.end_loop.specs.Acts.{is_made, most_made_by}
use Rattle.channel_client.specs.State.{Requester}
use Rattle.channel_client.specs.Machine.{can_start}
use Rattle.channel_turns.specs.declared.state.Dialling.{Dialling}
use Rattle.channel_turns.specs.declared.state.Dialling.TheVariants as dialling
use Rattle.member_server.specs.declared.state.Phase.{Phase}
use Rattle.member_server.specs.declared.state.Phase.TheVariants as phase
use Rattle.member_server.specs.declared.state.Running.{Running}
use Rattle.member_server.specs.declared.state.Talk.{Talk}
use Rattle.member_server.specs.declared.state.Work.{Work}
use Rattle.member_server.specs.Machine.{event_part, work_of}
use Rattle.member_server.specs.State.{State}
use Rattle.member_server.specs.Turns.{DialWork}

-- the requests that are held: each makes a send once its link is out
abbrev pub held_in : Phase → ℕ
held_in phase.Fresh = 0
held_in (phase.Challenged bound challenge flags) = 0
held_in (phase.Asked bound place held) = length held
held_in (phase.In on) = 0
held_in (phase.Out bound status) = 0

abbrev pub held_on : List (ℕ × LinkState Talk) → ℕ
held_on [] = 0
held_on (entry ∷ links) = held_in entry.1.talk.phase + held_on links

abbrev pub start_weight : Bool → ℕ
start_weight true = 2
start_weight false = 0

abbrev pub dial_weight : Dialling → ℕ
dial_weight dialling.Nothing = 0
dial_weight (dialling.Waits turn frames) = 1
dial_weight (dialling.On number said) = 0

-- two for each logon that waits, and two more where a turn could start
abbrev pub channel_weight : Requester → ℕ
channel_weight c = 2 * length c.waiting + start_weight (can_start c.turn c.waiting)

-- what is to come of a member's work: one for each request that is held, and what is to come of its channel
abbrev pub work_weight : Work → ℕ
work_weight work = held_on work.links + channel_weight work.logons.channel

-- one more for a dial that waits than of the work
abbrev pub dial_work_weight : DialWork → ℕ
dial_work_weight dial_work = work_weight dial_work.0 + dial_weight dial_work.1

abbrev pub pending_of : Running → ℕ
pending_of running = dial_work_weight (work_of running, running.dialling)

abbrev pub pending_by : Option Running → ℕ
pending_by None = 0
pending_by (Some running) = pending_of running

abbrev pub pending_in : State → ℕ
pending_in s = pending_by s.running

-- with what the actions so far make
abbrev pub total : DialWork → ℕ
total dial_work = most_made_by dial_work.0.actions + dial_work_weight dial_work

abbrev pub Within : Result (Part DialWork) StepRefused → ℕ → Type 0
Within (Err why) most = Unit {0}
Within (Ok part) most = total part.value ≤ most

-- An event that a failed send or a dial makes leaves no more to be made than before, with what its own step makes.
abbrev pub Settles : Type 0
Settles = (running : Running) (what : Event) (now : ℕ) (left : List (List ℕ)) → is_made what ≡ true →
    Within (event_part running what now left) (pending_of running)
