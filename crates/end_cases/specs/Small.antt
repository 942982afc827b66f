-- A small end, to try the loop with (this project's own choice). It sends a challenge on each link that is opened,
-- keeps what comes, sends it twice and dials it as a peer, waits for the link that it dialled last, and is over when
-- that link is closed.
use Rattle.std.specs.Prelude.{ℕ, ◌+◌, ◌-◌, ◌^◌, ◌%◌, ◌==◌, min, Bool, true, false, List, [], ◌∷◌, Option, Some, None, Ok, codes}
use Rattle.outside.specs.declared.event.Event.{Event}
use Rattle.outside.specs.declared.event.Event.TheVariants as event
use Rattle.outside.specs.declared.action.Action.{Action}
use Rattle.outside.specs.declared.action.Action.TheVariants.{Keep, Send, Dial, Judged}
use Rattle.outside.specs.declared.action.Judged.TheVariants as judged
use Rattle.outside.specs.Machine.{Machine, Stepped, spent_step}
use Rattle.end_cases.specs.declared.small.Small.{Small}

-- a step that draws nothing
abbrev pub drawless_step : Small → List Action → List (List ℕ) → Stepped Small
drawless_step state actions left = record { answer = Ok actions; state = state; drawn = []; left = left }

-- a link that was opened: it gets the next challenge
abbrev pub open_step : Small → ℕ → ℕ → List (List ℕ) → Stepped Small
open_step s link now [] = spent_step [] (record s { stopped = true })
open_step s link now (challenge ∷ left) =
    record { answer = Ok (Judged (judged.Passed (now % 2 ^ 32)) ∷ Send link challenge ∷ []); state = s; drawn = challenge ∷ []; left = left }

-- an answer to a dial, where one waits
abbrev pub dial_step : Small → ℕ → Bool → List (List ℕ) → Stepped Small
dial_step s link true left = drawless_step s [] left
dial_step s link false left = drawless_step (record s { waiting = s.waiting - 1; link = Some link }) (Send link (codes "on") ∷ []) left

-- a dial that failed, where one waits
abbrev pub dial_failure_step : Small → Bool → List (List ℕ) → Stepped Small
dial_failure_step s true left = drawless_step s [] left
dial_failure_step s false left = drawless_step (record s { waiting = s.waiting - 1 }) (Judged judged.Barred ∷ []) left

-- whether a link is the end's own
abbrev pub is_own : Option ℕ → ℕ → Bool
is_own None link = false
is_own (Some own) link = own == link

-- a link that was closed, the end's own or another
abbrev pub close_step : Small → Bool → List (List ℕ) → Stepped Small
close_step s false left = drawless_step s [] left
close_step s true left = drawless_step (record s { link = None; over = true }) (Judged judged.NoChannel ∷ []) left

-- the step for an event at a moment, with the challenges that are left
abbrev pub small_step : Small → Event → ℕ → List (List ℕ) → Stepped Small
small_step s (event.Opened link) now left = open_step s link now left
small_step s (event.Bytes link bytes) now left =
    drawless_step (record s { waiting = min (s.waiting + 1) (2 ^ 32 - 1) }) (Keep bytes ∷ Send link bytes ∷ Send link bytes ∷ Dial bytes ∷ []) left
small_step s (event.Closed link) now left = close_step s (is_own s.link link) left
small_step s (event.Dialled link) now left = dial_step s link (s.waiting == 0) left
small_step s event.DialFailed now left = dial_failure_step s (s.waiting == 0) left
small_step s event.Stop now left = drawless_step s [] left

-- the line of an action
abbrev pub small_line : Action → List ℕ
small_line (Judged (judged.Passed moment)) = codes "opened\n"
small_line (Judged judged.Barred) = codes "barred\n"
small_line (Judged judged.NoChannel) = codes "over\n"
small_line _ = []

-- the machine of the small end
abbrev pub small_machine : Machine Small
small_machine = record { step = small_step; want = λ s. s.link; is_over = λ s. s.over; line = small_line }
