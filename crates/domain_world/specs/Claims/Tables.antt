-- How the accounts of a controller change in a run: by what the calls come to that passed there, one after another, and
-- by nothing else (MS-NRPC 3.5.4.4.6, 3.5.4.5.3; that counts of bad passwords are kept is this project's own choice).
-- A logon may change a count, and a NetrServerPasswordSet the hash of a machine's account or a trust's.
-- Nobody is locked out but by calls that passed, and a restart of a controller leaves its accounts as they are.
use Rattle.std.specs.Prelude.{ℕ, ◌≡◌, ◌==◌, Bool, true, false, List, [], ◌∷◌, Option, Some, None, slice_get}
use Rattle.authenticators.specs.SecureChannels.{SecureChannelState}
use Rattle.account_table.specs.AccountTable.{AccountTable}
use Rattle.domain_controller.specs.State.{State as ControllerState}
use Rattle.step_notes.specs.ControllerNotes.{has_passed}
use Rattle.step_notes.specs.Records.{Judging}
use Rattle.step_notes.specs.ReplySends.{done_on}
use Rattle.world_moves.specs.declared.plan.Plan.{Plan}
use Rattle.domain_world.specs.Past.{Past}

-- the accounts behind a call that passed, by the channel that it is checked on: those that are left of it
abbrev pub left_on : Option SecureChannelState → Judging → AccountTable
left_on None j = j.table
left_on (Some channel) j = (done_on j channel).table

abbrev pub left_if : (has_passed : Bool) → Judging → AccountTable
left_if false j = j.table
left_if true j = left_on j.checks j

-- the accounts behind a call that passed, and else those before it
abbrev pub left_by : Judging → AccountTable
left_by j = left_if (has_passed j.how) j

abbrev pub accounts_if : Bool → Judging → AccountTable → AccountTable
accounts_if false j before = before
accounts_if true j before = left_by j

-- the accounts of that controller behind these judged calls, the newest first, from those that the plan gives it
abbrev pub accounts_after : AccountTable → ℕ → List Judging → AccountTable
accounts_after planned controller [] = planned
accounts_after planned controller (j ∷ earlier) = accounts_if (j.controller == controller) j (accounts_after planned controller earlier)

-- a controller's accounts are those that these calls left, from the plan's on
abbrev pub IsLeft : Plan → ℕ → List Judging → AccountTable → Type 0
IsLeft plan controller judgings table = (planned : AccountTable) → slice_get plan.tables controller ≡ Some planned → table ≡ accounts_after planned controller judgings

-- each call was judged by the accounts as the earlier calls left them
abbrev pub AreByEarlier : Plan → List Judging → Type 0
AreByEarlier plan [] = Unit {0}
AreByEarlier plan (j ∷ earlier) = IsLeft plan j.controller earlier j.table × AreByEarlier plan earlier

-- Each call that is written down as judged was judged by the accounts as the earlier calls left them, and each
-- controller's accounts after the run are as all calls left them.
pub record TablesFollowVerdicts (run : Past) : Type 0 where
  pub judged : AreByEarlier run.plan run.book.judged
  pub stands : (controller : ℕ) (c : ControllerState) → slice_get run.world.state.ends.controllers controller ≡ Some c → IsLeft run.plan controller run.book.judged c.table
