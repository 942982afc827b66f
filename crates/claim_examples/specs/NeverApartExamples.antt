-- A member that replaces its secret, at states that were written down by hand: which of them meet the claim that it and
-- its controller are never apart, and which don't (this project's own choice).
use Rattle.std.specs.Prelude.{ℕ, ◌≡◌, Bool, true, false, List, [], ◌∷◌, ◌++◌, replicate, Some, None, codes, slice_get}
use Rattle.outside.specs.declared.action.Judged.TheVariants as judged
use Rattle.account_table.specs.AccountTable.{AccountTable}
use Rattle.account_table.specs.declared.account.Account.{Account}
use Rattle.account_table.specs.declared.account.Kind.TheVariants.{Backup}
use Rattle.account_table.specs.declared.account.Trust.{Trust}
use Rattle.secret_change.specs.Secrets.{SecretsState, alone, untried_next}
use Rattle.channel_client.specs.State.{Requester}
use Rattle.channel_client.specs.declared.state.Standing.TheVariants as standing
use Rattle.domain_controller.specs.State.{State as ControllerState}
use Rattle.member_server.specs.State.{State as MemberState}
use Rattle.member_server.specs.declared.plan.MemberPlan.{MemberPlan}
use Rattle.member_server.specs.declared.state.Running.{Running as MemberRunning}
use Rattle.controller_calls.specs.declared.calls.JudgedCall.TheVariants.{NetworkLogoff}
use Rattle.step_notes.specs.Records.{Book, Judging, Outside, blank}
use Rattle.world_moves.specs.declared.links.EndId.TheVariants.{Member}
use Rattle.world_moves.specs.declared.links.LinkKind.TheVariants as kind
use Rattle.world_moves.specs.declared.moves.Move.{Move}
use Rattle.world_moves.specs.declared.moves.Move.TheVariants as move
use Rattle.world_moves.specs.declared.plan.Plan.{Plan}
use Rattle.world_moves.specs.Forms.{IsSchedule}
use Rattle.world_moves.specs.World.{World, first_world, kept_of}
use Rattle.domain_world.specs.Claims.{IsClear, info_asked}
use Rattle.domain_world.specs.Claims.NeverApart.{BeginsAlike, IsNeverApart, MembersAreNeverApart, MembersKeepWhatTheyHold, MembersTryTheirSecrets, has_foreign_set}
use Rattle.domain_world.specs.Headline.{Proved}
use Rattle.domain_world.specs.Past.{Past, past}
use Rattle.claim_examples.specs.ClaimExamples.{judged_as, keeping_controller, message, on_channel, open_running, small_account, small_hash, small_plan}
use Rattle.claim_examples.specs.CompletenessExamples.{able_member, able_table, machine_account}
use Rattle.claim_examples.specs.SessionExamples.{ann_session, hash_call, logoff_call, set_call}

-- ---- FILE1 begins with 16 bytes 0x41 and changes to 16 bytes 0x61

abbrev pub old_secret : List ℕ
old_secret = replicate 16 0x41

abbrev pub new_secret : List ℕ
new_secret = replicate 16 0x61

-- both secrets, of which the old one is tried
abbrev pub both_secrets : SecretsState
both_secrets = record { current = old_secret; next = Some (untried_next new_secret) }

-- both secrets, of which the new one is tried
abbrev pub tried_secrets : SecretsState
tried_secrets = record { current = old_secret; next = Some (record { secret = new_secret; is_tried = true }) }

-- a third secret, which differs from the new one in its last byte
abbrev pub other_secret : List ℕ
other_secret = replicate 15 0x61 ++ 0x62 ∷ []

-- PDC's accounts, with this hash of FILE1's
abbrev pub table_with : List ℕ → AccountTable
table_with hash = able_table (record machine_account { hash = hash } ∷ [])

-- a plan of these members, with that hash
abbrev pub plan_of : List MemberPlan → List ℕ → Plan
plan_of members hash = record small_plan { tables = table_with hash ∷ []; members = members }

abbrev pub change_plan : Plan
change_plan = plan_of (able_member old_secret ∷ []) old_secret

-- the plan of a change, with that account for FILE1's
abbrev pub plan_by : Account → Plan
plan_by account = record change_plan { tables = able_table (account ∷ []) ∷ [] }

-- FILE1's account as a backup controller's (MS-NRPC 2.2.1.3.13), and as one that is disabled
abbrev pub backup_account : Account
backup_account = record machine_account { hash = old_secret; kind = Backup }

abbrev pub disabled_account : Account
disabled_account = record machine_account { hash = old_secret; disabled = true }

-- FILE1's account with that hash, whatever else stands in it
abbrev pub any_account : Account → Account
any_account account = record account { name = codes "FILE1$"; hash = old_secret }

-- with such an account, in a table that trusts these domains, and a member whose channel may seal
abbrev pub any_plan : Account → List Trust → (sealed : Bool) → Plan
any_plan account trusts sealed = record change_plan {
  tables = record (able_table (any_account account ∷ [])) { trusts = trusts } ∷ [];
  members = record (able_member old_secret) { sealed = sealed } ∷ [];
}

-- the account is FILE1's, and the member has the name "file1"
abbrev pub letters_plan : Plan
letters_plan = plan_of (record (able_member old_secret) { computer = codes "file1" } ∷ []) old_secret

-- ---- a state behind its first moves

abbrev pub controller_having : List ℕ → ControllerState
controller_having hash = record (keeping_controller []) { table = table_with hash }

abbrev pub member_with : SecretsState → MemberPlan
member_with secrets = record (able_member old_secret) { secrets = secrets }

abbrev pub running_with : SecretsState → MemberRunning
running_with secrets =
    let running : MemberRunning = open_running None [] in
    record running { logons = record running.logons { plan = member_with secrets } }

abbrev pub member_holding : SecretsState → MemberState
member_holding secrets = record { running = Some (running_with secrets) }

abbrev pub stopped_member : MemberState
stopped_member = record { running = None }

-- The member is `member`, what it kept has the secrets `kept`, FILE1's account has the hash `hash`, and `calls` were
-- judged. A unit of the bag waits, and a dial of the member.
abbrev pub state_of : (member : MemberState) (kept : SecretsState) (hash : List ℕ) (calls : List Judging) → Past
state_of member kept hash calls =
    let w : World = first_world change_plan in
    record {
      plan = change_plan;
      world = record w {
        state = record w.state {
          ends = record w.state.ends { controllers = controller_having hash ∷ []; members = member ∷ [] };
          member_plans = member_with kept ∷ [];
          bag = record { bytes = []; link = 0; kind = kind.ToController; back = false; is_settled = false } ∷ [];
          dials = record { end = Member 0; peer = 0 ∷ [] } ∷ [];
        };
      };
      book = record blank { judged = calls };
    }

-- a state in which FILE1 runs, and holds and kept these secrets
abbrev pub holds_and_kept : SecretsState → SecretsState → List ℕ → List Judging → Past
holds_and_kept held kept hash calls = state_of (member_holding held) kept hash calls

-- the controller has these accounts instead
abbrev pub with_accounts : List Account → Past
with_accounts accounts =
    let w : World = (holds_and_kept both_secrets both_secrets old_secret []).world in
    record {
      plan = change_plan;
      world = record w { state = record w.state { ends = record w.state.ends { controllers = record (keeping_controller []) { table = able_table accounts } ∷ [] } } };
      book = blank;
    }

-- FILE1's account is gone
abbrev pub without_account : Past
without_account = with_accounts (small_account ∷ [])

-- FILE1's account has a third secret, and FILE2's, in front of it, has the old one of FILE1
abbrev pub beside_another : Past
beside_another =
    with_accounts (record machine_account { name = codes "FILE2$"; hash = old_secret } ∷ record machine_account { hash = other_secret } ∷ [])

-- A world and a book of which nothing else is asked: FILE1's account has a third secret, and no stranger set one.
pub record HasThird (w : World) (b : Book) : Type 0 where
  pub controller : ControllerState
  pub at : slice_get w.state.ends.controllers 0 ≡ Some controller
  pub table : controller.table ≡ table_with other_secret
  pub own : has_foreign_set b.judged ≡ false

-- a run of the plan that led there
abbrev pub run_to : World → Book → Past
run_to w b = record { plan = change_plan; world = w; book = b }

-- its call by which the new secret was set, in a unit of the bag; and a call that came from outside
abbrev pub set_passed : Judging
set_passed = set_call (table_with old_secret)

abbrev pub from_outside : Judging → Judging
from_outside j = record j { source = Outside }

abbrev pub set_outside : Judging
set_outside = from_outside set_passed

-- a logoff of a network logon that passed (MS-NRPC 3.5.4.5.4)
abbrev pub network_logoff : Judging
network_logoff = record (on_channel 0) {
  asked = NetworkLogoff (record {
    server = None;
    computer = Some (codes "FILE1");
    authenticator = Some (record { credential = []; timestamp = 0 });
    returned = None;
    info = info_asked message;
  });
}

-- ---- two controllers and two members

abbrev pub second_secret : List ℕ
second_secret = replicate 16 0x33

-- FILE2 asks PDC, which has no account of it. FILE1 asks BDC; PDC has an account of FILE1 too, with FILE2's secret. The
-- seed has the form that worlds are made from.
abbrev pub two_plan : Plan
two_plan = record change_plan {
  tables = table_with second_secret ∷ table_with old_secret ∷ [];
  controllers = codes "PDC" ∷ codes "BDC" ∷ [];
  members = record (able_member second_secret) { computer = codes "FILE2" } ∷ record (able_member old_secret) { controller = 1 ∷ [] } ∷ [];
  seed = replicate 32 0;
}

-- the other way: FILE1, the second member, asks the first controller, and BDC has FILE2's secret as FILE1's
abbrev pub crossed_plan : Plan
crossed_plan = record two_plan {
  tables = table_with old_secret ∷ table_with second_secret ∷ [];
  members = record (able_member second_secret) { computer = codes "FILE2"; controller = 1 ∷ [] } ∷ able_member old_secret ∷ [];
}

-- FILE1 keeps both secrets, and BDC has this hash; FILE2 has another secret
abbrev pub two_with : List ℕ → Past
two_with hash =
    let w : World = first_world two_plan in
    record {
      plan = two_plan;
      world = record w {
        state = record w.state {
          ends = record w.state.ends {
            controllers = controller_having second_secret ∷ controller_having hash ∷ [];
            members = member_holding (alone second_secret) ∷ member_holding both_secrets ∷ [];
          };
          member_plans = member_with (alone second_secret) ∷ member_with both_secrets ∷ [];
        };
      };
      book = record blank { judged = set_passed ∷ [] };
    }

-- ---- the premise

-- FILE1 begins with the hash of its account alone, whatever else the account has, such as its kind, also where it is
-- disabled, the table trusts domains, FILE1's channel seals, or the member has the name in small letters. Not where the
-- hash is another, where it has a next secret from the start, where there is no account of it, or where another member
-- has its name in small letters.
pub record OfBeginnings : Type 0 where
  pub meets : BeginsAlike change_plan 0
  -- the second member begins so too, of the second controller or of the first
  pub meets_second : BeginsAlike two_plan 1
  pub meets_crossed : BeginsAlike crossed_plan 1
  pub meets_backup : BeginsAlike (plan_by backup_account) 0
  pub meets_disabled : BeginsAlike (plan_by disabled_account) 0
  pub meets_any : (account : Account) (trusts : List Trust) (sealed : Bool) → BeginsAlike (any_plan account trusts sealed) 0
  pub meets_letters : BeginsAlike letters_plan 0
  pub fails_hash : BeginsAlike (plan_of (able_member old_secret ∷ []) (replicate 16 0x40)) 0 → ⊥
  pub fails_two : BeginsAlike (plan_of (member_with both_secrets ∷ []) old_secret) 0 → ⊥
  pub fails_unknown : BeginsAlike (record change_plan { tables = able_table (small_account ∷ []) ∷ [] }) 0 → ⊥
  pub fails_named : BeginsAlike (plan_of (able_member old_secret ∷ record (able_member old_secret) { computer = codes "file1" } ∷ []) old_secret) 0 → ⊥
  -- what a stranger did: his call that passed and sets a secret counts, with whatever status, before another call or
  -- behind it; his logon or logoff that passed, of either kind, his call that was barred, that had no channel, or of
  -- which nothing was told, and the member's own call don't
  pub stranger : has_foreign_set (set_outside ∷ []) ≡ true
  pub stranger_earlier : has_foreign_set (set_passed ∷ set_outside ∷ []) ≡ true
  pub stranger_later : has_foreign_set (set_outside ∷ set_passed ∷ []) ≡ true
  pub stranger_status : has_foreign_set (judged_as (judged.Passed 1) set_outside ∷ []) ≡ true
  pub own : has_foreign_set (set_passed ∷ []) ≡ false
  pub barred : has_foreign_set (judged_as judged.Barred set_outside ∷ []) ≡ false
  pub no_channel : has_foreign_set (judged_as judged.NoChannel set_outside ∷ []) ≡ false
  pub untold : has_foreign_set (record set_outside { how = None } ∷ []) ≡ false
  pub logon : has_foreign_set (from_outside (on_channel 0) ∷ []) ≡ false
  pub interactive : has_foreign_set (from_outside (hash_call small_hash) ∷ []) ≡ false
  pub logoff : has_foreign_set (from_outside (logoff_call ann_session) ∷ []) ≡ false
  pub network_logoff : has_foreign_set (from_outside network_logoff ∷ []) ≡ false

-- ---- the claim

-- The claim is met where both secrets are kept before the call passes, where it passes and its reply is lost, and where
-- one is kept once the member learned of it; also where the next secret is tried, where the member begins anew
-- or has stopped, and behind a first move of a world itself.
pub record OfNeverApart : Type 0 where
  pub both : MembersAreNeverApart (holds_and_kept both_secrets both_secrets old_secret [])
  pub set : MembersAreNeverApart (holds_and_kept both_secrets both_secrets new_secret (set_passed ∷ []))
  -- the claim is met where the next secret is tried, before the controller has it or after
  pub tried_early : MembersAreNeverApart (holds_and_kept tried_secrets both_secrets old_secret [])
  pub tried : MembersAreNeverApart (holds_and_kept tried_secrets both_secrets new_secret (set_passed ∷ []))
  pub learned : MembersAreNeverApart (holds_and_kept (alone new_secret) (alone new_secret) new_secret (set_passed ∷ []))
  pub stopped : MembersAreNeverApart (state_of stopped_member both_secrets new_secret (set_passed ∷ []))
  pub changed : MembersAreNeverApart (past change_plan (move.Change 0 new_secret ∷ []))
  -- of each member its own controller and secrets are asked
  pub two : MembersAreNeverApart (two_with new_secret)
  -- nothing is said where a stranger set a secret
  pub stranger : MembersAreNeverApart (holds_and_kept both_secrets both_secrets other_secret (set_outside ∷ []))
  -- not where a third secret is set, or the old one though only the new one is held
  pub fails_other : MembersAreNeverApart (holds_and_kept both_secrets both_secrets other_secret (set_passed ∷ [])) → ⊥
  pub fails_held : MembersAreNeverApart (holds_and_kept (alone new_secret) both_secrets old_secret []) → ⊥
  -- the claim isn't met where a third secret is set and kept, and both others are held, the new one tried or not
  pub fails_holding : MembersAreNeverApart (holds_and_kept both_secrets (alone other_secret) other_secret (set_passed ∷ [])) → ⊥
  pub fails_trying : MembersAreNeverApart (holds_and_kept tried_secrets (alone other_secret) other_secret (set_passed ∷ [])) → ⊥
  -- the claim isn't met where one secret was kept before the controller had it, or the old one is kept though the new
  -- one was set
  pub fails_confirmed : MembersAreNeverApart (holds_and_kept both_secrets (alone new_secret) old_secret []) → ⊥
  pub fails_kept : MembersAreNeverApart (holds_and_kept both_secrets (alone old_secret) new_secret (set_passed ∷ [])) → ⊥
  -- the claim isn't met where both were exchanged: the new one is held and kept alone, and the account has the old one
  pub fails_exchanged : MembersAreNeverApart (holds_and_kept (alone new_secret) (alone new_secret) old_secret (set_passed ∷ [])) → ⊥
  -- nor where the second member's controller has a third one, where the account is gone, or where another account has
  -- one of its secrets and its own has a third one
  pub fails_second : MembersAreNeverApart (two_with other_secret) → ⊥
  pub fails_gone : MembersAreNeverApart without_account → ⊥
  pub fails_another : MembersAreNeverApart beside_another → ⊥
  -- a member that has stopped is asked for what it kept, one secret or both
  pub fails_stopped : MembersAreNeverApart (state_of stopped_member (alone old_secret) new_secret (set_passed ∷ [])) → ⊥
  pub fails_keeping : MembersAreNeverApart (state_of stopped_member both_secrets other_secret (set_passed ∷ [])) → ⊥
  -- Whatever else a world has, as links, a turn that is out or moves made, it isn't met where both are held and a third
  -- one is set, nor where both are kept and a third one is.
  pub fails_held_anywhere : (w : World) (b : Book) (m : MemberState) (running : MemberRunning) → HasThird w b → slice_get w.state.ends.members 0 ≡ Some m → m.running ≡ Some running →
      running.logons.plan.secrets ≡ both_secrets → MembersAreNeverApart (run_to w b) → ⊥
  pub fails_kept_anywhere : (w : World) (b : Book) → HasThird w b → kept_of w 0 ≡ Some both_secrets → MembersAreNeverApart (run_to w b) → ⊥

-- ---- what is kept is what is held, and what is tried opens

-- a byte too few
abbrev pub short_secret : List ℕ
short_secret = replicate 15 0x61

-- What FILE1 kept is what it holds, whichever of both is tried, and has its form where FILE1 has stopped. Not where it
-- holds a next one that it didn't keep, where it learned of it and didn't keep that, or where a byte is missing.
pub record OfKeeping : Type 0 where
  pub meets : MembersKeepWhatTheyHold (holds_and_kept both_secrets both_secrets old_secret [])
  pub meets_tried : MembersKeepWhatTheyHold (holds_and_kept tried_secrets both_secrets old_secret [])
  pub meets_stopped : MembersKeepWhatTheyHold (state_of stopped_member (alone new_secret) new_secret [])
  pub fails_begun : MembersKeepWhatTheyHold (holds_and_kept both_secrets (alone old_secret) old_secret []) → ⊥
  pub fails_learned : MembersKeepWhatTheyHold (holds_and_kept (alone new_secret) both_secrets new_secret []) → ⊥
  pub fails_short : MembersKeepWhatTheyHold (state_of stopped_member (alone short_secret) new_secret []) → ⊥

-- FILE1 opens its channel under this secret, and holds these
abbrev pub opening_under : List ℕ → SecretsState → Past
opening_under secret secrets =
    let running : MemberRunning = running_with secrets in
    let channel : Requester = running.logons.channel in
    let opening : Requester = record channel { caller = record channel.caller { secret = secret }; standing = standing.Half [] [] } in
    state_of (record { running = Some (record running { logons = record running.logons { channel = opening } }) }) secrets old_secret []

-- It does so under the one that it tries, and not under the other one.
pub record OfTrying : Type 0 where
  pub meets : MembersTryTheirSecrets (opening_under old_secret both_secrets)
  pub meets_next : MembersTryTheirSecrets (opening_under new_secret tried_secrets)
  pub fails_untried : MembersTryTheirSecrets (opening_under new_secret both_secrets) → ⊥
  pub fails_current : MembersTryTheirSecrets (opening_under old_secret tried_secrets) → ⊥

-- ---- a run

-- the move at which FILE1's change begins, at the second member
abbrev pub change_moves : List Move
change_moves = move.Change 1 new_secret ∷ []

-- That is a clear schedule in which no stranger set a secret, and FILE1 begins alike. So what is proved of all runs
-- says of it, with no premise left, that FILE1 and its controller are not apart.
pub record OfProvedRun : Type 0 where
  pub schedule : IsSchedule two_plan change_moves
  pub clear : IsClear (past two_plan change_moves).book
  pub own : has_foreign_set (past two_plan change_moves).book.judged ≡ false
  pub begins : BeginsAlike two_plan 1
  pub claimed : Proved two_plan change_moves → IsNeverApart (past two_plan change_moves) 1 begins
