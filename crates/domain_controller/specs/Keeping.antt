-- What a controller keeps of its accounts' secrets: the text of those that were changed (this project's own choice).
use Rattle.std.specs.Prelude.{ℕ, ◌≡◌, Bool, true, false, List, [], ◌∷◌, map, Option, Some, None, IsTrue, Ok}
use Rattle.std.specs.List.{AllByRecursion}
use Rattle.outside.specs.declared.action.Action.{Action}
use Rattle.outside.specs.declared.action.Action.TheVariants as action
use Rattle.outside.specs.declared.event.Event.{Event}
use Rattle.account_table.specs.AccountTable.{AccountTable, has_distinct_names}
use Rattle.account_table.specs.Changes.{DifferInCounts, DifferInStates, is_user}
use Rattle.account_table.specs.Secrets.{IsFresh, IsSettingOf, Setting, apply_secrets, secrets_of, with_settings}
use Rattle.account_table.specs.declared.account.Account.{Account}
use Rattle.end_loop.specs.Runs.{actions_of}
use Rattle.domain_controller.specs.State.{State}
use Rattle.domain_controller.specs.Step.{step_of}
use Rattle.domain_controller.specs.TrustStep.{trust_step_of}

-- the text that is kept after an action, where that text was kept before it
abbrev pub text_by : Action → List ℕ → List ℕ
text_by (action.Keep bytes) text = bytes
text_by (action.Send link bytes) text = text
text_by (action.Dial peer) text = text
text_by (action.Close link cause) text = text
text_by (action.Told link outcome) text = text
text_by (action.Judged how) text = text

-- after all of them: the last one
abbrev pub text_after : List ℕ → List Action → List ℕ
text_after text [] = text
text_after text (what ∷ actions) = text_after (text_by what text) actions

-- Where the text that is kept is that of the changed accounts, a step leaves it so, whether it is taken or not. So a
-- step that sets a hash keeps the text of all accounts whose hash was set, and one that sets none may keep nothing.
pub record KeepsSecrets : Type 0 where
  pub text : (s : State) (what : Event) (now : ℕ) (left : List (List ℕ)) →
      text_after (secrets_of s.table.accounts) (actions_of (step_of s what now left))
      ≡ secrets_of (step_of s what now left).state.table.accounts
  -- a controller that asks others keeps its secrets so
  pub trusting : (s : State) (what : Event) (now : ℕ) (left : List (List ℕ)) →
      text_after (secrets_of s.table.accounts) (actions_of (trust_step_of s what now left))
      ≡ secrets_of (trust_step_of s what now left).state.table.accounts

-- ---- which hashes are set

-- Hashes of computers' and trusts' accounts were set, those accounts are changed ones, and of the rest counts of bad
-- passwords differ alone.
pub record SetsHashes (old new : AccountTable) : Type 0 where
  pub settings : List Setting
  pub computers : AllByRecursion (IsSettingOf old.accounts) settings
  pub states : DifferInStates old new
  pub differ : DifferInCounts (record old { accounts = with_settings settings old.accounts }) new

-- a user's hash, and whether it was set; none of other accounts
abbrev pub secret_if : (of_user : Bool) → List ℕ → Bool → Option (List ℕ × Bool)
secret_if true hash changed = Some (hash, changed)
secret_if false hash changed = None

abbrev pub user_secret : Account → Option (List ℕ × Bool)
user_secret account = secret_if (is_user account.kind) account.hash account.changed

-- A step sets hashes of computers' and trusts' accounts alone, and so do steps one after the other: those of users
-- stay. So the text that is kept, applied to the accounts as they were read, gives the hashes that stand, where no name
-- is there twice.
pub record HashesAreSet : Type 0 where
  pub step : (s : State) (what : Event) (now : ℕ) (left : List (List ℕ)) → SetsHashes s.table (step_of s what now left).state.table
  pub trusting : (s : State) (what : Event) (now : ℕ) (left : List (List ℕ)) →
      SetsHashes s.table (trust_step_of s what now left).state.table
  pub joined : (one two three : AccountTable) → SetsHashes one two → SetsHashes two three → SetsHashes one three
  pub users : (old new : AccountTable) → SetsHashes old new → map user_secret new.accounts ≡ map user_secret old.accounts
  pub again : (table new : AccountTable) → IsTrue (has_distinct_names table.accounts) → AllByRecursion IsFresh table.accounts → SetsHashes table new →
      (read : AccountTable) × (apply_secrets table (secrets_of new.accounts) ≡ Ok read) × DifferInCounts read new
