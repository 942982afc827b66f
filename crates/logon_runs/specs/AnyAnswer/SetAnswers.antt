-- What a controller answers to a call that sets a secret, whatever it keeps of that computer: one reply, and what it
-- keeps of other computers stays (MS-NRPC 3.5.4.4.6).
use Rattle.std.specs.Prelude.{ℕ, ◌≡◌, ◌<◌, ◌^◌, ◌⊎◌, ◌++◌, List, [], ◌∷◌, Some}
use Rattle.wire_base.specs.Maps.{lookup}
use Rattle.wire_base.specs.Names.{same_name}
use Rattle.authenticators.specs.SecureChannels.{SecureChannelState}
use Rattle.outside.specs.declared.action.Action.{Action}
use Rattle.outside.specs.declared.action.Action.TheVariants as action
use Rattle.outside.specs.declared.action.Judged.{Judged}
use Rattle.outside.specs.declared.event.Event.TheVariants as event
use Rattle.outside.specs.Machine.{whole_step}
use Rattle.rpc_units.specs.Calls.{bytes_of_call}
use Rattle.secret_change.specs.Ranges.{InRangeSetReply}
use Rattle.secret_change.specs.declared.calls.SetReply.{SetReply}
use Rattle.account_table.specs.AccountTable.{AccountTable}
use Rattle.channel_client.specs.declared.caller.Caller.{Caller}
use Rattle.channel_client.specs.Machine.{change_call}
use Rattle.controller_calls.specs.declared.state.Computers.{Computers}
use Rattle.domain_controller.specs.Step.{step_of}
use Rattle.domain_controller.specs.Whole.{InRangeTable}
use Rattle.logon_steps.specs.Answering.{IsInStep}
use Rattle.logon_steps.specs.ControllerTurns.{controller_at, turn_link}
use Rattle.logon_steps.specs.SetTurns.{IsSetTurn, set_reply_bytes, set_request, set_taken}
use Rattle.logon_runs.specs.AnyAnswer.ControllerAnswers.{KeepsBut}
use Rattle.logon_runs.specs.Phases.{IsSetAt}

-- The secret is set, or not. Where it is, the text of all that were changed is kept first.
pub record ToldSet (table : AccountTable) (name : List ℕ) (computers : Computers) (link now number timestamp : ℕ) (caller : Caller) (o : SecureChannelState) (new : List ℕ) (left : List (List ℕ)) : Type 0 where
  pub later : Computers
  pub others : KeepsBut caller.computer later computers
  pub accounts : AccountTable
  pub sets : (accounts ≡ table) ⊎ IsSetAt caller table accounts
  pub ranged : InRangeTable accounts
  pub how : Judged
  pub answer : SetReply
  pub is : InRangeSetReply answer
  pub first : List Action
  pub keeps : (first ≡ []) ⊎ ((text : List ℕ) × (first ≡ action.Keep text ∷ []))
  -- where a text was kept, and both ends were in step, it is the reply that takes the secret
  pub taken : (c : SecureChannelState) → lookup same_name caller.computer computers.channels ≡ Some c → IsInStep o c → (first ≡ [] → ⊥) → answer ≡ set_taken o timestamp
  pub steps : step_of (controller_at table name computers (turn_link link)) (event.Bytes link (bytes_of_call (set_request number (change_call caller o timestamp new)) 5840)) now left
      ≡ whole_step left left (first ++ action.Judged how ∷ action.Send link (set_reply_bytes number answer) ∷ []) (controller_at accounts name later (turn_link link))

pub record ControllersAnswerSets : Type 0 where
  pub set : (table : AccountTable) (name : List ℕ) (computers : Computers) (link now number timestamp : ℕ) (caller : Caller) (o : SecureChannelState) (new : List ℕ) (left : List (List ℕ)) →
      number < 2 ^ 32 → IsSetTurn (change_call caller o timestamp new) → InRangeTable table → ToldSet table name computers link now number timestamp caller o new left
