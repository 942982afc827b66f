-- Which Logon calls controllers grant in a run, network logons and interactive ones, and by which accounts (MS-NRPC
-- 3.5.4.5.3; what is claimed is this project's own choice, in the standard's terms).
use Rattle.std.specs.Prelude.{ℕ, ◌≡◌, ◌<◌, ◌↔◌, Bool, true, false, List, length, map, Option, Some, None, slice_get}
use Rattle.std.specs.List.{AllByRecursion}
use Rattle.authenticators.specs.SecureChannels.{key_of_channel}
use Rattle.outside.specs.declared.action.Judged.TheVariants as judged
use Rattle.logon_stubs.specs.declared.calls.LogonCall.{LogonCall}
use Rattle.account_table.specs.AccountTable.{AccountTable}
use Rattle.account_table.specs.Changes.{DifferInStates, is_user}
use Rattle.account_table.specs.declared.account.Account.{Account}
use Rattle.sam_logon.specs.MayLogOn.{HashIsStored, MayLogOn, MayLogOnAt, ResponseVerifies}
use Rattle.interactive_logon.specs.declared.calls.InteractiveCall.{InteractiveCall}
use Rattle.interactive_logon.specs.Sessions.{session_limit}
use Rattle.controller_calls.specs.Calls.{IfInteractive}
use Rattle.controller_calls.specs.Interactive.{shown_hash}
use Rattle.domain_controller.specs.Machine.{IsServedLevel}
use Rattle.step_notes.specs.Judged.{IsNextOn}
use Rattle.step_notes.specs.Records.{IfNetwork, Judging, given_in}
use Rattle.world_moves.specs.declared.plan.Plan.{Plan}
use Rattle.domain_world.specs.Past.{Past}

-- ---- which calls are granted

-- What a Logon call has to meet, by the accounts of its controller, the channel that it is checked on, and the moment
-- of that step: its authenticator is the next one of the channel, it asks for validation level 2 or 3, the account may
-- log on, and the response is the written function of the stored hash and of the challenge that the call names.
pub record IsToBeGranted (j : Judging) (c : LogonCall) : Type 0 where
  pub next : IsNextOn j.checks (given_in j.asked)
  pub level : IsServedLevel c.validation
  pub may : MayLogOn j.table c.info j.moment
  pub verifies : ResponseVerifies j.table c.info

-- the hash of a user's account; of another, which a NetrServerPasswordSet may set, none
abbrev pub hash_if : (user : Bool) → List ℕ → Option (List ℕ)
hash_if false hash = None
hash_if true hash = Some hash

abbrev pub hash_of_user : Account → Option (List ℕ)
hash_of_user account = hash_if (is_user account.kind) account.hash

abbrev pub users_of : List Account → List (Option (List ℕ))
users_of accounts = map hash_of_user accounts

-- a controller's accounts are those that the plan gives it, but for their counts of bad passwords, and the hashes of
-- machines and trusts, since a stranger may send a NetrServerPasswordSet on a channel that it opened
pub record IsPlannedTable (plan : Plan) (controller : ℕ) (table : AccountTable) : Type 0 where
  pub planned : AccountTable
  pub is : slice_get plan.tables controller ≡ Some planned
  pub states : DifferInStates planned table
  pub users : users_of table.accounts ≡ users_of planned.accounts

-- The controller told that a Logon call passed with status 0, STATUS_SUCCESS (MS-ERREF 2.3.1), exactly where it was to
-- be granted. It judged by the accounts as they stood then, which are those of the plan but for their counts of bad
-- passwords and the hashes of machines and trusts, and under its name there.
pub record IsGrantedRightly (plan : Plan) (j : Judging) : Type 0 where
  pub granted : IfNetwork (λ (c : LogonCall). (j.how ≡ Some (judged.Passed 0)) ↔ IsToBeGranted j c) j.asked
  pub table : IsPlannedTable plan j.controller j.table
  pub name : slice_get plan.controllers j.controller ≡ Some j.name

-- Each call that is written down as judged is granted rightly, whoever sent it; that those are the ones which
-- controllers tell of is said by `PassesTheNextCredential`.
abbrev pub GrantsWhoMayLogOn : Past → Type 0
GrantsWhoMayLogOn past = AllByRecursion (λ (j : Judging). IsGrantedRightly past.plan j) past.book.judged

-- ---- which interactive logons are granted

-- An interactive logon that is to be granted: its authenticator is the next one of the channel, it asks for validation
-- level 2 or 3, the account may log on, the hash that it carries under the channel's key is the stored one, and its
-- controller keeps fewer than 10,000 sessions.
pub record IsToBeLetOn (j : Judging) (c : InteractiveCall) : Type 0 where
  pub next : IsNextOn j.checks (given_in j.asked)
  pub level : IsServedLevel c.validation
  pub may : MayLogOnAt j.table c.info.domain c.info.user c.info.workstation j.moment
  pub stored : HashIsStored j.table c.info.user (shown_hash (key_of_channel next.channel) c.info)
  pub room : length j.sessions < session_limit

-- The controller told that an interactive logon passed with status 0 exactly where it was to be granted.
abbrev pub IsLetOnRightly : Judging → Type 0
IsLetOnRightly j = IfInteractive (λ (c : InteractiveCall). (j.how ≡ Some (judged.Passed 0)) ↔ IsToBeLetOn j c) j.asked

-- Grants by hash: each interactive logon that is written down as judged, whoever sent it, is granted exactly where it
-- was to be. The accounts by which it was judged are those of `GrantsWhoMayLogOn`, and the sessions those of
-- `SessionsFollow`.
abbrev pub GrantsWhoseHashIsStored : Past → Type 0
GrantsWhoseHashIsStored past = AllByRecursion (λ (j : Judging). IsLetOnRightly j) past.book.judged
