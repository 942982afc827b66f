-- Which authenticator passes, of a call that asks for something on a secure channel (MS-NRPC 3.1.4.5).
use Rattle.std.specs.Prelude.{ℕ, ◌≡◌, ◌↔◌, Bool, true, false, List, [], ◌∷◌, ◌++◌, Option, Some}
use Rattle.std.specs.List.{AllByRecursion}
use Rattle.wire_base.specs.Maps.{lookup}
use Rattle.wire_base.specs.Names.{same_name}
use Rattle.wire_base.specs.declared.authenticator.Authenticator.{Authenticator}
use Rattle.authenticators.specs.Sequences.{Passes}
use Rattle.authenticators.specs.SecureChannels.{SecureChannelState, key_of_channel}
use Rattle.outside.specs.declared.action.Action.{Action}
use Rattle.outside.specs.declared.action.Action.TheVariants as action
use Rattle.outside.specs.declared.action.Judged.{Judged}
use Rattle.outside.specs.declared.action.Judged.TheVariants as judged
use Rattle.logon_stubs.specs.declared.calls.LogonCall.{LogonCall}
use Rattle.controller_calls.specs.Asking.{answer_judged}
use Rattle.controller_calls.specs.Calls.{computer_named, given_in}
use Rattle.controller_calls.specs.Desk.{Desk}
use Rattle.controller_calls.specs.Logons.{answer_logon}
use Rattle.controller_calls.specs.declared.calls.JudgedCall.{JudgedCall}
use Rattle.controller_calls.specs.declared.line.Line.{Line}
use Rattle.controller_calls.specs.declared.state.Computers.{Computers}

-- a call names a computer and has an authenticator, as these are in it; the computer has a channel, and the
-- authenticator is the next one of its sequence
pub record IsNext (computers : Computers) (name : Option (List ℕ)) (shown : Option Authenticator) : Type 0 where
  pub computer : List ℕ
  pub given : Authenticator
  pub channel : SecureChannelState
  pub named : name ≡ Some computer
  pub there : shown ≡ Some given
  pub stands : lookup same_name computer computers.channels ≡ Some channel
  pub passes : Passes (key_of_channel channel) channel.seed given

-- whether what is told judges a call that was heard: what a logon that was asked of another controller came to doesn't
abbrev pub judges_call : Judged → Bool
judges_call (judged.Passed status) = true
judges_call judged.Forwarded = true
judges_call (judged.Answered status) = false
judges_call judged.Barred = true
judges_call judged.NoChannel = true

-- whether an authenticator passed, also where the logon is then asked of another controller
abbrev pub is_passed : Judged → Bool
is_passed (judged.Passed status) = true
is_passed judged.Forwarded = true
is_passed (judged.Answered status) = false
is_passed judged.Barred = false
is_passed judged.NoChannel = false

-- a text that is kept
abbrev pub IsKeep : Action → Type 0
IsKeep (action.Keep bytes) = Unit {0}
IsKeep (action.Send link bytes) = ⊥
IsKeep (action.Dial peer) = ⊥
IsKeep (action.Close link cause) = ⊥
IsKeep (action.Told link outcome) = ⊥
IsKeep (action.Judged how) = ⊥

-- A call on a secure channel is judged once, and answered once. It passes exactly where its authenticator is the next
-- one of the channel of the computer that it names.
pub record PassesTheNext : Type 0 where
  pub logon : (c : LogonCall) (name : List ℕ) (now : ℕ) (line : Line) (d : Desk) →
      (how : Judged) × (answer : List ℕ)
      × ((answer_logon c.computer c.authenticator name now line c.info c.validation d).work.actions
      ≡ d.work.actions ++ action.Judged how ∷ action.Send line.link answer ∷ [])
      × ((is_passed how ≡ true) ↔ IsNext d.work.computers c.computer c.authenticator)
  -- whatever it asks; texts are kept before it is told how it was judged
  pub judged : (c : JudgedCall) (name : List ℕ) (now : ℕ) (line : Line) (d : Desk) →
      (kept : List Action) × (how : Judged) × (answer : List ℕ) × AllByRecursion IsKeep kept
      × ((answer_judged c name now line d).work.actions
      ≡ d.work.actions ++ (kept ++ action.Judged how ∷ action.Send line.link answer ∷ []))
      × ((is_passed how ≡ true) ↔ IsNext d.work.computers (computer_named c) (given_in c))
