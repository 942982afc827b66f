-- What stands in the file of a member's secrets after what it does (this project's own choice): the text that was kept
-- last.
use Rattle.std.specs.Prelude.{ℕ, ◌≡◌, List, [], ◌∷◌, Option, Some, None, Result, Ok, Err}
use Rattle.std.specs.List.{AllByRecursion}
use Rattle.outside.specs.declared.action.Action.{Action}
use Rattle.outside.specs.declared.action.Action.TheVariants as action
use Rattle.outside.specs.declared.event.Event.{Event}
use Rattle.outside.specs.declared.event.Event.TheVariants as event
use Rattle.end_loop.specs.Runs.{actions_of}
use Rattle.member_server.specs.declared.change.ChangeRefused.{ChangeRefused}
use Rattle.member_server.specs.declared.state.Running.{Running}
use Rattle.member_server.specs.Machine.{change_of, step_of}
use Rattle.member_server.specs.Secrets.{AreSecrets, SecretsState, written_secrets}
use Rattle.member_server.specs.State.{State}

-- the text after an action, behind the one that stood there
abbrev pub kept_by : Action → (text : List ℕ) → List ℕ
kept_by (action.Keep new) text = new
kept_by (action.Send link bytes) text = text
kept_by (action.Dial peer) text = text
kept_by (action.Close link cause) text = text
kept_by (action.Told link outcome) text = text
kept_by (action.Judged how) text = text

abbrev pub kept_after : List Action → (text : List ℕ) → List ℕ
kept_after [] text = text
kept_after (what ∷ actions) text = kept_after actions (kept_by what text)

abbrev pub held_text : Running → List ℕ
held_text running = written_secrets running.logons.plan.secrets

-- what is kept then is the text of the secrets that the member holds
abbrev pub IsKeptUnlessStopped : List ℕ → Option Running → Type 0
IsKeptUnlessStopped text None = Unit {0}
IsKeptUnlessStopped text (Some running) = text ≡ held_text running

-- the actions of a change that begins
abbrev pub actions_begun : Result (List Action) ChangeRefused → List Action
actions_begun (Ok actions) = actions
actions_begun (Err why) = []

-- Where the text of the secrets stood in the file, it stands there after each step, and after each change that begins.
pub record KeepsWhatIsHeld : Type 0 where
  pub step : (s : State) (running : Running) (what : Event) (now : ℕ) (left : List (List ℕ)) → s.running ≡ Some running →
      IsKeptUnlessStopped (kept_after (actions_of (step_of s what now left)) (held_text running)) (step_of s what now left).state.running
  pub change : (s : State) (running : Running) (new : List ℕ) → s.running ≡ Some running →
      IsKeptUnlessStopped (kept_after (actions_begun (change_of s new).answer) (held_text running)) (change_of s new).state.running

-- ---- which texts these are

-- a text that is kept is that of secrets of 16 bytes
abbrev pub IsSecretsText : Action → Type 0
IsSecretsText (action.Keep text) = (s : SecretsState) × AreSecrets s × (text ≡ written_secrets s)
IsSecretsText (action.Send link bytes) = Unit {0}
IsSecretsText (action.Dial peer) = Unit {0}
IsSecretsText (action.Close link cause) = Unit {0}
IsSecretsText (action.Told link outcome) = Unit {0}
IsSecretsText (action.Judged how) = Unit {0}

abbrev pub HasSecretsUnlessStopped : Option Running → Type 0
HasSecretsUnlessStopped None = Unit {0}
HasSecretsUnlessStopped (Some running) = AreSecrets running.logons.plan.secrets

-- no text is kept
abbrev pub KeepsNoText : Action → Type 0
KeepsNoText (action.Keep text) = ⊥
KeepsNoText (action.Send link bytes) = Unit {0}
KeepsNoText (action.Dial peer) = Unit {0}
KeepsNoText (action.Close link cause) = Unit {0}
KeepsNoText (action.Told link outcome) = Unit {0}
KeepsNoText (action.Judged how) = Unit {0}

abbrev pub BringsNoBytes : Event → Type 0
BringsNoBytes (event.Opened link) = Unit {0}
BringsNoBytes (event.Bytes link piece) = ⊥
BringsNoBytes (event.Closed link) = Unit {0}
BringsNoBytes (event.Dialled link) = Unit {0}
BringsNoBytes event.DialFailed = Unit {0}
BringsNoBytes event.Stop = Unit {0}

-- Secrets of 16 bytes are of 16 bytes after each step, and each text that is kept is that of secrets of 16 bytes. Where
-- no bytes come, no text is kept, and the text of the secrets stays as it was.
pub record KeepsTextsOfSecrets : Type 0 where
  pub secrets : (s : State) (running : Running) (what : Event) (now : ℕ) (left : List (List ℕ)) → s.running ≡ Some running → AreSecrets running.logons.plan.secrets →
      HasSecretsUnlessStopped (step_of s what now left).state.running
  pub texts : (s : State) (running : Running) (what : Event) (now : ℕ) (left : List (List ℕ)) → s.running ≡ Some running → AreSecrets running.logons.plan.secrets →
      AllByRecursion IsSecretsText (actions_of (step_of s what now left))
  pub quiet : (s : State) (running : Running) (what : Event) (now : ℕ) (left : List (List ℕ)) → s.running ≡ Some running → BringsNoBytes what →
      AllByRecursion KeepsNoText (actions_of (step_of s what now left)) × IsKeptUnlessStopped (held_text running) (step_of s what now left).state.running
