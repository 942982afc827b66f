-- What the steps of a controller leave of its sessions, and when they leave the hashes of its accounts, by the calls
-- that are heard (this project's own choice).
use Rattle.std.specs.Prelude.{ℕ, ◌≡◌, ◌==◌, Bool, true, false, List, [], ◌∷◌, length, Option, Some, None}
use Rattle.std.specs.List.{AllByRecursion, flat_map}
use Rattle.outside.specs.declared.action.Action.{Action}
use Rattle.outside.specs.declared.action.Action.TheVariants as action
use Rattle.outside.specs.declared.action.Judged.{Judged}
use Rattle.outside.specs.declared.action.Judged.TheVariants as judged
use Rattle.outside.specs.declared.event.Event.{Event}
use Rattle.interactive_logon.specs.declared.sessions.Session.{Session}
use Rattle.interactive_logon.specs.Sessions.{added_to, taken_from}
use Rattle.account_table.specs.AccountTable.{AccountTable}
use Rattle.account_table.specs.Changes.{DifferInCounts}
use Rattle.end_loop.specs.Runs.{actions_of}
use Rattle.controller_calls.specs.Calls.{is_set}
use Rattle.controller_calls.specs.Passing.{judges_call}
use Rattle.controller_calls.specs.declared.calls.JudgedCall.{JudgedCall}
use Rattle.controller_calls.specs.declared.calls.JudgedCall.TheVariants.{Interactive, Logoff, Network, NetworkLogoff, Set}
use Rattle.controller_calls.specs.Doing.{computer_or_none}
use Rattle.controller_calls.specs.declared.calls.ControllerCall.{ControllerCall}
use Rattle.controller_calls.specs.declared.calls.ControllerCall.TheVariants as call
use Rattle.domain_controller.specs.Laws.{calls_of, trust_calls_of}
use Rattle.domain_controller.specs.State.{State}
use Rattle.domain_controller.specs.Step.{first_state, step_of}
use Rattle.domain_controller.specs.TrustStep.{trust_step_of}
use Rattle.domain_controller.specs.declared.state.Running.{Running}

-- ---- the sessions behind a call

-- whether a call passed, with status 0
abbrev pub is_done : Judged → Bool
is_done (judged.Passed status) = status == 0
is_done judged.Forwarded = false
is_done (judged.Answered status) = false
is_done judged.Barred = false
is_done judged.NoChannel = false

-- by whether it passed with status 0: an interactive logon adds its session, and its logoff takes out the first one of
-- that computer, user and logon
abbrev pub sessions_if : (done : Bool) → JudgedCall → List Session → List Session
sessions_if false c sessions = sessions
sessions_if true (Network c) sessions = sessions
sessions_if true (Interactive c) sessions = added_to sessions (computer_or_none c.computer) c.info.user c.info.logon_id
sessions_if true (Logoff c) sessions = taken_from sessions (computer_or_none c.computer) c.info.user c.info.logon_id
sessions_if true (NetworkLogoff c) sessions = sessions
sessions_if true (Set c) sessions = sessions

abbrev pub sessions_by : JudgedCall → Judged → List Session → List Session
sessions_by c how sessions = sessions_if (is_done how) c sessions

-- ---- behind the calls of a step

-- a call on a secure channel, of which it is told how it was judged; no other call is judged
abbrev pub judged_in : ControllerCall → List JudgedCall
judged_in (call.Challenge c) = []
judged_in (call.Authenticate c) = []
judged_in (call.Judged c) = c ∷ []

abbrev pub judged_among : List ControllerCall → List JudgedCall
judged_among calls = flat_map judged_in calls

abbrev pub told_in : Action → List Judged
told_in (action.Judged how) = how ∷ []
told_in (action.Keep bytes) = []
told_in (action.Send link bytes) = []
told_in (action.Dial peer) = []
told_in (action.Close link cause) = []
told_in (action.Told link outcome) = []

abbrev pub told_among : List Action → List Judged
told_among actions = flat_map told_in actions

-- a judgement, where it is of a call that was heard: that a logon was answered which another controller was asked for
-- is of none
abbrev pub judgement_if : (of_call : Bool) → Judged → List Judged
judgement_if false how = []
judgement_if true how = how ∷ []

abbrev pub call_told_in : Action → List Judged
call_told_in (action.Judged how) = judgement_if (judges_call how) how
call_told_in (action.Keep bytes) = []
call_told_in (action.Send link bytes) = []
call_told_in (action.Dial peer) = []
call_told_in (action.Close link cause) = []
call_told_in (action.Told link outcome) = []

abbrev pub calls_told : List Action → List Judged
calls_told actions = flat_map call_told_in actions

-- the calls in order, each with how it was judged
abbrev pub sessions_from : List JudgedCall → List Judged → List Session → List Session
sessions_from [] told sessions = sessions
sessions_from (c ∷ calls) [] sessions = sessions
sessions_from (c ∷ calls) (how ∷ told) sessions = sessions_from calls told (sessions_by c how sessions)

-- unless the controller has stopped then
abbrev pub HasSessions : List Session → Option Running → Type 0
HasSessions sessions None = Unit {0}
HasSessions sessions (Some running) = running.computers.sessions ≡ sessions

-- as many calls were judged as were heard, unless the controller has stopped then
abbrev pub AreJudgedOnce : List JudgedCall → List Judged → Option Running → Type 0
AreJudgedOnce calls told None = Unit {0}
AreJudgedOnce calls told (Some running) = length told ≡ length calls

-- A controller has no sessions at first. A step that is taken tells once of each call on a channel that it heard, and
-- leaves what these calls, as they were judged, make of the sessions.
pub record SessionsFollowCalls : Type 0 where
  pub first : (table : AccountTable) (name : List ℕ) → HasSessions [] (first_state table name).running
  pub step : (s : State) (running : Running) (what : Event) (now : ℕ) (left : List (List ℕ)) → s.running ≡ Some running →
      HasSessions
      (sessions_from (judged_among (calls_of what running.links)) (told_among (actions_of (step_of s what now left))) running.computers.sessions)
      (step_of s what now left).state.running
  pub once : (s : State) (running : Running) (what : Event) (now : ℕ) (left : List (List ℕ)) → s.running ≡ Some running →
      AreJudgedOnce (judged_among (calls_of what running.links)) (told_among (actions_of (step_of s what now left))) (step_of s what now left).state.running
  -- the sessions of a controller that asks others follow how calls were judged that were heard in the step
  pub trusting_step : (s : State) (running : Running) (what : Event) (now : ℕ) (left : List (List ℕ)) → s.running ≡ Some running →
      HasSessions
      (sessions_from (judged_among (trust_calls_of what running.links s.trusting.dialling)) (calls_told (actions_of (trust_step_of s what now left)))
      running.computers.sessions)
      (trust_step_of s what now left).state.running
  pub trusting_once : (s : State) (running : Running) (what : Event) (now : ℕ) (left : List (List ℕ)) → s.running ≡ Some running →
      AreJudgedOnce (judged_among (trust_calls_of what running.links s.trusting.dialling)) (calls_told (actions_of (trust_step_of s what now left)))
      (trust_step_of s what now left).state.running

-- ---- the accounts

-- a call asks for another secret
abbrev pub asks_set : ControllerCall → Bool
asks_set (call.Challenge c) = false
asks_set (call.Authenticate c) = false
asks_set (call.Judged c) = is_set c

-- A step in which no NetrServerPasswordSet is heard changes counts of bad passwords alone.
pub record HashesStayUnset : Type 0 where
  pub unset : (s : State) (running : Running) (what : Event) (now : ℕ) (left : List (List ℕ)) → s.running ≡ Some running →
      AllByRecursion (λ (c : ControllerCall). asks_set c ≡ false) (calls_of what running.links) →
      DifferInCounts s.table (step_of s what now left).state.table
  -- a controller that asks others changes counts alone, where no call is heard on the link of the turn
  pub trusting : (s : State) (running : Running) (what : Event) (now : ℕ) (left : List (List ℕ)) → s.running ≡ Some running →
      AllByRecursion (λ (c : ControllerCall). asks_set c ≡ false) (trust_calls_of what running.links s.trusting.dialling) →
      DifferInCounts s.table (trust_step_of s what now left).state.table
