-- A member and its controller are never apart: whatever is lost, and whichever of them begins anew, what the member
-- holds and what it kept have the secret of its account (MS-NRPC 3.5.4.4.6; what is claimed is this project's own
-- choice).
use Rattle.std.specs.Prelude.{ℕ, ◌≡◌, ◌≢◌, ◌&&◌, Bool, true, false, List, Option, Some, None, slice_get}
use Rattle.std.specs.List.{AllByRecursion, list_any}
use Rattle.std.specs.Option.{option_map}
use Rattle.wire_base.specs.Names.{SameName}
use Rattle.account_table.specs.AccountTable.{AccountTable}
use Rattle.account_table.specs.LookUps.{account_in, machine_name}
use Rattle.account_table.specs.declared.account.Account.{Account}
use Rattle.secret_change.specs.Agreement.{Happening, Holds, MayHappenAll, after_all, first_pair}
use Rattle.secret_change.specs.Secrets.{AreSecrets, SecretsState, alone, reread}
use Rattle.controller_calls.specs.Calls.{is_set}
use Rattle.domain_controller.specs.State.{State as ControllerState}
use Rattle.member_server.specs.State.{State as MemberState}
use Rattle.member_server.specs.Trying.{TriesUnlessStopped}
use Rattle.member_server.specs.declared.plan.MemberPlan.{MemberPlan}
use Rattle.member_server.specs.declared.state.Running.{Running as MemberRunning}
use Rattle.step_notes.specs.ControllerNotes.{has_passed}
use Rattle.step_notes.specs.Records.{InUnit, Judging, OfMember, OfTrust, Outside, RequesterId, Source}
use Rattle.world_moves.specs.declared.links.EndId.TheVariants.{Controller}
use Rattle.world_moves.specs.declared.moves.Move.{Move}
use Rattle.world_moves.specs.declared.plan.Plan.{Plan}
use Rattle.world_moves.specs.Moving.{end_of_peer}
use Rattle.world_moves.specs.World.{first_ends, kept_of}
use Rattle.domain_world.specs.Past.{Past, past}
use Rattle.world_moves.specs.Alone.{IsPlainAlone}

-- ---- a stranger's call that sets a secret

-- Bytes from outside come at a controller on a stranger's link alone. The other links that lead to it were dialled by
-- members, or by controllers that ask it, and units of the bag come on those.
abbrev pub is_from_outside : Source → Bool
is_from_outside (InUnit number) = false
is_from_outside Outside = true

-- a NetrServerPasswordSet from outside passed, with whatever status
abbrev pub is_foreign_set : Judging → Bool
is_foreign_set j = has_passed j.how && is_set j.asked && is_from_outside j.source

-- one did in the run
abbrev pub has_foreign_set : List Judging → Bool
has_foreign_set judged = list_any is_foreign_set judged

-- ---- at the start

-- The computer as which a member asks. Of a controller that asks another one none is said: in a run of which this is
-- claimed no controller does.
abbrev pub computer_of : Plan → RequesterId → Option (List ℕ)
computer_of plan (OfMember member) = option_map (λ (own : MemberPlan). own.computer) (slice_get plan.members member)
computer_of plan (OfTrust controller trust) = None

-- The member has one secret, which is the hash of its computer's account at its controller, and nobody else asks under
-- the name of its computer. That the account isn't changed otherwise needs no word: in a world calls that set a secret
-- change hashes, and nothing else does.
pub record BeginsAlike (plan : Plan) (member : ℕ) : Type 0 where
  pub own : MemberPlan
  pub is_plan : slice_get plan.members member ≡ Some own
  pub secret : List ℕ
  pub one : own.secrets ≡ alone secret
  pub controller : ℕ
  pub reaches : end_of_peer own.controller (first_ends plan) ≡ Some (Controller controller)
  pub table : AccountTable
  pub is_table : slice_get plan.tables controller ≡ Some table
  pub account : Account
  pub found : account_in table.accounts (machine_name own.computer) ≡ Some account
  pub hash : account.hash ≡ secret
  pub only : (who : RequesterId) (name : List ℕ) → who ≢ OfMember member → computer_of plan who ≡ Some name → SameName name own.computer → ⊥

-- ---- the claim

-- the hash is the current or the next one of these secrets; where none is next it is the current one
pub record IsAmong (hash : List ℕ) (secrets : SecretsState) : Type 0 where
  pub among : Holds hash secrets
  pub when_alone : secrets.next ≡ None → hash ≡ secrets.current

-- The account is there. Its hash is among the secrets that the member holds, if it hasn't stopped, and among those that
-- it kept, with which it begins anew.
pub record IsNeverApart (past : Past) (member : ℕ) (begins : BeginsAlike past.plan member) : Type 0 where
  pub state : ControllerState
  pub at : slice_get past.world.state.ends.controllers begins.controller ≡ Some state
  pub account : Account
  pub found : account_in state.table.accounts (machine_name begins.own.computer) ≡ Some account
  pub held : (m : MemberState) (running : MemberRunning) → slice_get past.world.state.ends.members member ≡ Some m → m.running ≡ Some running →
      IsAmong account.hash running.logons.plan.secrets
  pub kept : (secrets : SecretsState) → kept_of past.world member ≡ Some secrets → IsAmong account.hash secrets

-- Where no call from outside set a secret, no loss and no restart leaves a member that begins alike and its controller
-- apart. A run is any list of moves, so this holds at every state between two moves.
abbrev pub MembersAreNeverApart : Past → Type 0
MembersAreNeverApart past =
    has_foreign_set past.book.judged ≡ false → (member : ℕ) (begins : BeginsAlike past.plan member) → IsNeverApart past member begins

-- ---- what is kept is what is held

-- What the member kept has secrets of 16 bytes, and is what it holds, if it hasn't stopped, but for which one is tried.
pub record KeepsWhatItHolds (past : Past) (member : ℕ) : Type 0 where
  pub kept : (secrets : SecretsState) → kept_of past.world member ≡ Some secrets → AreSecrets secrets
  pub held : (secrets : SecretsState) (m : MemberState) (running : MemberRunning) → kept_of past.world member ≡ Some secrets →
      slice_get past.world.state.ends.members member ≡ Some m → m.running ≡ Some running →
      AreSecrets running.logons.plan.secrets × (reread secrets ≡ reread running.logons.plan.secrets)

-- Each member that begins with secrets of 16 bytes keeps what it holds: no loss and no restart parts the two.
abbrev pub MembersKeepWhatTheyHold : Past → Type 0
MembersKeepWhatTheyHold past =
    (member : ℕ) (own : MemberPlan) → slice_get past.plan.members member ≡ Some own → AreSecrets own.secrets → KeepsWhatItHolds past member

-- ---- what is tried opens

-- Each member opens its channel under the secret that it tries, and its call sets its next one.
abbrev pub MembersTryTheirSecrets : Past → Type 0
MembersTryTheirSecrets past = AllByRecursion (λ (m : MemberState). TriesUnlessStopped m.running) past.world.state.ends.members

-- ---- by what happened to the two

-- the controller has an account of the member's computer
pub record HasItsAccount (past : Past) (member : ℕ) (begins : BeginsAlike past.plan member) : Type 0 where
  pub state : ControllerState
  pub at : slice_get past.world.state.ends.controllers begins.controller ≡ Some state
  pub account : Account
  pub found : account_in state.table.accounts (machine_name begins.own.computer) ≡ Some account

-- The run came to these happenings for the member and its controller, each of which might happen, and behind them both
-- stand as in its last state.
pub record ComesTo (past : Past) (member : ℕ) (begins : BeginsAlike past.plan member) (account : Account) : Type 0 where
  pub happenings : List Happening
  pub may : MayHappenAll (first_pair begins.secret) happenings
  pub hash : (after_all (first_pair begins.secret) happenings).controllers ≡ account.hash
  pub held : (m : MemberState) (running : MemberRunning) → slice_get past.world.state.ends.members member ≡ Some m → m.running ≡ Some running →
      (after_all (first_pair begins.secret) happenings).held ≡ running.logons.plan.secrets
  pub kept : (secrets : SecretsState) → kept_of past.world member ≡ Some secrets → reread (after_all (first_pair begins.secret) happenings).kept ≡ secrets

-- A member's controller has the member's account at every state, and where a run came to such happenings the two are
-- not apart.
pub record NeverApartByHappenings : Type 0 where
  pub there : (plan : Plan) (moves : List Move) → IsPlainAlone plan → (member : ℕ) (begins : BeginsAlike plan member) → HasItsAccount (past plan moves) member begins
  pub follows : (past : Past) (member : ℕ) (begins : BeginsAlike past.plan member) (has : HasItsAccount past member begins) → ComesTo past member begins has.account →
      IsNeverApart past member begins
