-- The order in which the actions of a step stand at a controller that asks others (this project's own choice): the
-- close of the link of the turn, how a logon that was asked is told to be answered, its reply, and last the dial for
-- the next turn.
use Rattle.std.specs.Prelude.{ℕ, ◌≡◌, ◌⊎◌, Bool, true, false, nat_le, List, [], ◌∷◌, ◌++◌, length, Option, Some, None}
use Rattle.std.specs.List.{AllByRecursion}
use Rattle.wire_base.specs.Maps.{lookup, same_number, take_out}
use Rattle.outside.specs.Machine.{spent_step}
use Rattle.outside.specs.declared.action.Action.{Action}
use Rattle.outside.specs.declared.action.Action.TheVariants as action
use Rattle.outside.specs.declared.action.CloseCause.{CloseCause}
use Rattle.outside.specs.declared.action.CloseCause.TheVariants as close
use Rattle.outside.specs.declared.action.Judged.TheVariants as judged
use Rattle.outside.specs.declared.event.Event.{Event}
use Rattle.outside.specs.declared.event.Event.TheVariants as event
use Rattle.rpc_units.specs.Calls.{bytes_of_call}
use Rattle.rpc_units.specs.Stream.{cut_stream}
use Rattle.logon_stubs.specs.Writing.{written_reply}
use Rattle.logon_stubs.specs.declared.calls.Reply.{Reply}
use Rattle.logon_stubs.specs.declared.info.Verdict.{Verdict}
use Rattle.end_links.specs.Links.{LinkState}
use Rattle.end_links.specs.Sending.{joined_frames, response_of}
use Rattle.end_loop.specs.Runs.{actions_of}
use Rattle.channel_turns.specs.Turning.{is_on}
use Rattle.channel_turns.specs.declared.state.Dialling.TheVariants as dialling
use Rattle.controller_calls.specs.Forwarded.{ForwardedState}
use Rattle.controller_calls.specs.Handing.{forwarded_reply}
use Rattle.controller_calls.specs.Logons.{status_of}
use Rattle.controller_calls.specs.Passing.{judges_call}
use Rattle.controller_calls.specs.declared.line.Line.{Line}
use Rattle.domain_controller.specs.Laws.{AnswersOne}
use Rattle.domain_controller.specs.State.{State}
use Rattle.domain_controller.specs.Step.{LinkMap}
use Rattle.domain_controller.specs.TrustLaws.{OneIsOut}
use Rattle.domain_controller.specs.TrustStep.{trust_halted, trust_step_of}
use Rattle.domain_controller.specs.Trusting.{ForwardedCalls, same_place}
use Rattle.domain_controller.specs.declared.state.Running.{Running}
use Rattle.domain_controller.specs.declared.state.Talk.{Talk}
use Rattle.domain_controller.specs.declared.trusting.Trusting.{Trusting}

-- ---- the dial for the next turn

abbrev pub dial_of : Option (List ℕ) → List Action
dial_of None = []
dial_of (Some peer) = action.Dial peer ∷ []

-- the first actions are such, and behind them stands the dial for the next turn, where one starts
pub record ThenDials (Are : List Action → Type 0) (actions : List Action) : Type 0 where
  pub front : List Action
  pub are : Are front
  pub dial : Option (List ℕ)
  pub is : actions ≡ front ++ dial_of dial

-- ---- the answer to a logon that was asked

-- a reply goes out where the logon has a line
abbrev pub reply_on : Option Line → Reply → List Action
reply_on None answer = []
reply_on (Some line) answer =
    action.Send line.link (bytes_of_call (response_of line.call line.context (written_reply answer)) line.limit) ∷ []

-- how a logon was answered is told, and its reply stands right behind that
abbrev pub answer_of : Option (Verdict × ForwardedState) → List Action
answer_of None = []
answer_of (Some of) =
    action.Judged (judged.Answered (status_of of.0)) ∷ reply_on of.1.line (forwarded_reply of.1 of.0)

-- the logon is one of these, for which that trust's controller is asked
abbrev pub IsAskedOf : (trust : ℕ) → ForwardedCalls → Option (Verdict × ForwardedState) → Type 0
IsAskedOf trust calls None = Unit {0}
IsAskedOf trust calls (Some of) = (place : ℕ) × (lookup same_place (trust, place) calls ≡ Some of.1)

-- ---- the actions of an event

-- a turn that is lost: one logon is answered at most, one of those that the trust of the turn was asked for
pub record AreAnswer (t : Trusting) (actions : List Action) : Type 0 where
  pub answer : Option (Verdict × ForwardedState)
  pub of : IsAskedOf t.turn_of t.queues.forwarded answer
  pub is : actions ≡ answer_of answer

-- where a link opens, and another one of its number was that of the turn, that turn is lost first; where 256 others are
-- open, the link is closed
abbrev pub close_full : (is_full : Bool) (link : ℕ) → List Action
close_full false link = []
close_full true link = action.Close link close.TooManyLinks ∷ []

pub record AreOpening (t : Trusting) (is_full : Bool) (link : ℕ) (actions : List Action) : Type 0 where
  pub answer : Option (Verdict × ForwardedState)
  pub of : IsAskedOf t.turn_of t.queues.forwarded answer
  pub is : actions ≡ answer_of answer ++ close_full is_full link

-- the accepted links that are open beside one that opens: one of its number is closed, unless that is the turn's link
abbrev pub others_open : (is_turn_link : Bool) → ℕ → LinkMap → LinkMap
others_open true link links = links
others_open false link links = take_out same_number link links

-- whether 256 others are open where a link of that number opens
abbrev pub are_full : Trusting → ℕ → LinkMap → Bool
are_full t link links = nat_le 256 (length (others_open (is_on link t.dialling) link links))

-- a send on that link
abbrev pub IsSendOn : ℕ → Action → Type 0
IsSendOn link (action.Send to bytes) = to ≡ link
IsSendOn link (action.Keep bytes) = ⊥
IsSendOn link (action.Dial peer) = ⊥
IsSendOn link (action.Close to cause) = ⊥
IsSendOn link (action.Told to outcome) = ⊥
IsSendOn link (action.Judged how) = ⊥

abbrev pub close_on : ℕ → Option CloseCause → List Action
close_on link None = []
close_on link (Some cause) = action.Close link cause ∷ []

-- bytes on the link of the turn: requests there, the close of that link, and then the answer to the logon
pub record AreOfTurn (t : Trusting) (link : ℕ) (actions : List Action) : Type 0 where
  pub requests : List Action
  pub are : AllByRecursion (IsSendOn link) requests
  pub closes : Option CloseCause
  pub answer : Option (Verdict × ForwardedState)
  pub of : IsAskedOf t.turn_of t.queues.forwarded answer
  pub is : actions ≡ requests ++ (close_on link closes ++ answer_of answer)

-- what is done on an accepted link on which these units were read: no logon that was asked is told to be answered
abbrev pub IsServedOn : ℕ → List (List ℕ) → Action → Type 0
IsServedOn link units (action.Send to bytes) = (to ≡ link) × AnswersOne units bytes
IsServedOn link units (action.Close to cause) = to ≡ link
IsServedOn link units (action.Judged how) = judges_call how ≡ true
IsServedOn link units (action.Keep bytes) = Unit {0}
IsServedOn link units (action.Dial peer) = ⊥
IsServedOn link units (action.Told to outcome) = ⊥

-- whatever the controller's state
pub record ActsInOrder : Type 0 where
  pub turn : (s : State) (number : ℕ) (piece : List ℕ) (now : ℕ) (left : List (List ℕ)) → is_on number s.trusting.dialling ≡ true →
      ThenDials (AreOfTurn s.trusting number) (actions_of (trust_step_of s (event.Bytes number piece) now left))
  -- bytes on an accepted link, where each send answers a unit that was read there
  pub accepted : (s : State) (running : Running) (number : ℕ) (link : LinkState Talk) (piece : List ℕ) (now : ℕ) (left : List (List ℕ)) →
      is_on number s.trusting.dialling ≡ false → s.running ≡ Some running → lookup same_number number running.links ≡ Some link →
      ThenDials (λ actions. AllByRecursion (IsServedOn number (cut_stream (link.rest ++ piece)).units) actions)
      (actions_of (trust_step_of s (event.Bytes number piece) now left))
  -- bytes on a link that isn't open
  pub other : (s : State) (running : Running) (number : ℕ) (piece : List ℕ) (now : ℕ) (left : List (List ℕ)) →
      is_on number s.trusting.dialling ≡ false → s.running ≡ Some running → lookup same_number number running.links ≡ None →
      ThenDials (λ actions. actions ≡ []) (actions_of (trust_step_of s (event.Bytes number piece) now left))
  -- a link that opens is closed exactly where 256 others are open, unless the challenges aren't enough for the step
  pub opened : (s : State) (running : Running) (number now : ℕ) (left : List (List ℕ)) → s.running ≡ Some running →
      (trust_step_of s (event.Opened number) now left ≡ spent_step left (trust_halted s))
      ⊎ ThenDials (AreOpening s.trusting (are_full s.trusting number running.links) number)
      (actions_of (trust_step_of s (event.Opened number) now left))
  pub closed : (s : State) (number now : ℕ) (left : List (List ℕ)) →
      ThenDials (AreAnswer s.trusting) (actions_of (trust_step_of s (event.Closed number) now left))
  -- the bind goes out on the link that a dial gave
  pub dialled : (s : State) (number now : ℕ) (left : List (List ℕ)) →
      ThenDials (λ actions. AllByRecursion (IsSendOn number) actions) (actions_of (trust_step_of s (event.Dialled number) now left))
  -- exactly the bind that waited for it, where one turn is out at a time
  pub binds : (s : State) (running : Running) (number : ℕ) (turn : Unit {0}) (frames : List (List ℕ)) (now : ℕ) (left : List (List ℕ)) →
      s.running ≡ Some running → s.trusting.dialling ≡ dialling.Waits turn frames → OneIsOut s.trusting →
      actions_of (trust_step_of s (event.Dialled number) now left) ≡ action.Send number (joined_frames frames) ∷ []
  pub failed : (s : State) (now : ℕ) (left : List (List ℕ)) →
      ThenDials (AreAnswer s.trusting) (actions_of (trust_step_of s event.DialFailed now left))
  pub stop : (s : State) (now : ℕ) (left : List (List ℕ)) →
      ThenDials (λ actions. actions ≡ []) (actions_of (trust_step_of s event.Stop now left))
  -- nothing is done by one that has stopped
  pub stopped : (s : State) (what : Event) (now : ℕ) (left : List (List ℕ)) → s.running ≡ None →
      actions_of (trust_step_of s what now left) ≡ []
