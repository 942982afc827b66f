-- In every run users keep the hashes that the plan gives them: a NetrServerPasswordSet sets those of machines and
-- trusts alone.
-- It serves `Proved.grants`.
use Rattle.std.proofs.Common.{◌≡◌, ◌==◌, ◌&&◌, ℕ, zero, suc, Bool, true, false, List, [], ◌∷◌, map, Option, Some, None, if◌then◌else◌, option_map, refl, sym, ap, ◌∙◌, slice_get}
use Rattle.std.specs.List.{AllByRecursion}
use Rattle.std.proofs.lemmas.Bool.Decides.{Decides-eqb}
use Rattle.wire_base.specs.Maps.{place_of}
use Rattle.wire_base.specs.Names.{same_name}
use Rattle.authenticators.specs.SecureChannels.{SecureChannelState, key_of_channel}
use Rattle.logon_stubs.specs.declared.info.NetworkInfo.{NetworkInfo}
use Rattle.interactive_logon.specs.declared.calls.InteractiveInfo.{InteractiveInfo}
use Rattle.interactive_logon.specs.declared.sessions.Session.{Session}
use Rattle.secret_change.specs.Hiding.{show_of}
use Rattle.account_table.specs.AccountTable.{AccountTable}
use Rattle.account_table.specs.Changes.{DifferInCounts, at_place, is_user, with_count, with_hash, with_new_hash}
use Rattle.account_table.specs.LookUps.{is_machine_for, lists_controller, machine_in, machine_name, opens}
use Rattle.account_table.specs.declared.account.Account.{Account}
use Rattle.account_table.specs.declared.account.Kind.{Kind}
use Rattle.account_table.specs.declared.account.Kind.TheVariants.{User, Workstation, Backup, Trust}
use Rattle.sam_logon.proofs.CountLaws.{interactive_judgement-differs, judgement-differs}
use Rattle.controller_calls.specs.declared.calls.JudgedCall.{JudgedCall}
use Rattle.controller_calls.specs.declared.calls.JudgedCall.TheVariants.{Interactive, Logoff, Network, NetworkLogoff, Set}
use Rattle.controller_calls.specs.Doing.{done_by, set_so}
use Rattle.controller_calls.specs.Interactive.{judge_interactive_level, shown_hash}
use Rattle.controller_calls.specs.Logons.{judge_level, serves_level}
use Rattle.step_notes.specs.ControllerNotes.{has_passed}
use Rattle.step_notes.specs.Records.{Judging}
use Rattle.world_moves.specs.declared.moves.Move.{Move}
use Rattle.world_moves.specs.declared.plan.Plan.{Plan}
use Rattle.world_moves.specs.Plain.{IsPlainPlan}
use Rattle.domain_world.specs.Claims.Grants.{hash_of_user, users_of}
use Rattle.domain_world.specs.Claims.Tables.{AreByEarlier, accounts_after, accounts_if, left_if, left_on}
use Rattle.domain_world.specs.Past.{past}
use Rattle.wire_base.proofs.ListLaws.{no_some}
use Rattle.domain_world.proofs.Judgements.TrustGrantLaws.{HasUsers}
use Rattle.domain_world.proofs.Judgements.TableLaws.{tables_follow}

-- ---- counts

users_counted : (accounts : List Account) → users_of accounts ≡ map hash_of_user (map (with_count 0) accounts)
users_counted [] = refl
users_counted (account ∷ accounts) = ap (λ (more : List (Option (List ℕ))). hash_of_user account ∷ more) (users_counted accounts)

counts_leave : (old new : AccountTable) → DifferInCounts old new → users_of new.accounts ≡ users_of old.accounts
counts_leave old new differ = users_counted new.accounts ∙ ap (map hash_of_user) differ.accounts ∙ sym (users_counted old.accounts)

-- ---- a hash that is set

and_second : (one other : Bool) → (one && other) ≡ true → other ≡ true
and_second true other is = is
and_second false other is = absurd (let never : false ≡ true = is in cc)

no_user : (kind : Kind) (channel : ℕ) (named listed : Bool) → opens kind channel named listed ≡ true → is_user kind ≡ false
no_user User channel named listed is = absurd (let never : false ≡ true = is in cc)
no_user Workstation channel named listed is = refl
no_user Backup channel named listed is = refl
no_user Trust channel named listed is = refl

hash_left : (hash : List ℕ) (account : Account) (kind : Bool) → is_user account.kind ≡ kind → kind ≡ false → hash_of_user (with_new_hash hash account) ≡ hash_of_user account
hash_left hash account true is other = absurd (let never : true ≡ false = other in cc)
hash_left hash account false is other = rw is refl

module _ (test : Account → Bool) (users : (account : Account) → test account ≡ true → is_user account.kind ≡ false) (hash : List ℕ) where
  -- where the account at the place isn't a user's
  abbrev Leaves : List Account → ℕ → Type 0
  Leaves accounts place = users_of (at_place place (with_new_hash hash) accounts) ≡ users_of accounts

  later_leaves : (account : Account) (accounts : List Account) (place : ℕ) (found : Option ℕ) → ((at : ℕ) → place_of test accounts ≡ Some at → Leaves accounts at) →
      place_of test accounts ≡ found → option_map suc found ≡ Some place →
      users_of (at_place place (with_new_hash hash) (account ∷ accounts)) ≡ users_of (account ∷ accounts)
  later_leaves account accounts place None each is there = absurd (no_some place there)
  later_leaves account accounts zero (Some at) each is there = absurd cc
  later_leaves account accounts (suc place) (Some at) each is there =
      ap (λ (more : List (Option (List ℕ))). hash_of_user account ∷ more) (each place (is ∙ (let same : at ≡ place = cc in ap Some same)))

  hit_leaves : (hit : Bool) (account : Account) (accounts : List Account) (place : ℕ) → ((at : ℕ) → place_of test accounts ≡ Some at → Leaves accounts at) → test account ≡ hit →
      (if hit then Some 0 else option_map suc (place_of test accounts)) ≡ Some place →
      users_of (at_place place (with_new_hash hash) (account ∷ accounts)) ≡ users_of (account ∷ accounts)
  hit_leaves true account accounts zero each is there =
      ap (λ (first : Option (List ℕ)). first ∷ users_of accounts) (hash_left hash account (is_user account.kind) refl (users account is))
  hit_leaves true account accounts (suc place) each is there = absurd cc
  hit_leaves false account accounts place each is there = later_leaves account accounts place (place_of test accounts) each refl there

  place_leaves : (accounts : List Account) (place : ℕ) → place_of test accounts ≡ Some place → Leaves accounts place
  place_leaves [] place is = absurd (no_some place is)
  place_leaves (account ∷ accounts) place is = hit_leaves (test account) account accounts place (λ at there. place_leaves accounts at there) refl is

-- users are left as they are, where the place of another account is known first
found_leaves : (test : Account → Bool) (hash : List ℕ) (accounts : List Account) (place : ℕ) → place_of test accounts ≡ Some place →
    ((account : Account) → test account ≡ true → is_user account.kind ≡ false) → users_of (at_place place (with_new_hash hash) accounts) ≡ users_of accounts
found_leaves test hash accounts place is users = place_leaves test users hash accounts place is

set_leaves : (found : Option ℕ) (name : List ℕ) (kind : ℕ) (computer hash : List ℕ) (table : AccountTable) (sessions : List Session) → machine_in table.accounts name kind computer ≡ found →
    users_of (set_so found hash table sessions).table.accounts ≡ users_of table.accounts
unfolding machine_in with_hash
set_leaves None name kind computer hash table sessions is = refl
set_leaves (Some place) name kind computer hash table sessions is =
    found_leaves _ hash table.accounts place is
    (λ account passes. no_user account.kind kind (same_name account.name (machine_name computer)) (lists_controller account computer)
    (and_second _ _ (and_second _ (is_machine_for kind computer account) passes)))

-- ---- a call

level_leaves : (served : Bool) (table : AccountTable) (name : List ℕ) (info : NetworkInfo) (now : ℕ) → users_of (judge_level served table name info now).table.accounts ≡ users_of table.accounts
level_leaves false table name info now = refl
level_leaves true table name info now = counts_leave table _ (judgement-differs table name info now)

interactive_leaves : (served : Bool) (table : AccountTable) (name : List ℕ) (now : ℕ) (info : InteractiveInfo) (key : List ℕ) →
    users_of (judge_interactive_level served table name now info key).table.accounts ≡ users_of table.accounts
interactive_leaves false table name now info key = refl
interactive_leaves true table name now info key =
    counts_leave table _ (interactive_judgement-differs table name info.domain info.user info.workstation (shown_hash key info) now)

done_leaves : (c : JudgedCall) (channel : SecureChannelState) (name : List ℕ) (table : AccountTable) (now : ℕ) (sessions : List Session) →
    users_of (done_by c channel name table now sessions).table.accounts ≡ users_of table.accounts
done_leaves (Network c) channel name table now sessions = level_leaves (serves_level c.validation) table name c.info now
done_leaves (Interactive c) channel name table now sessions = interactive_leaves (serves_level c.validation) table name now c.info (key_of_channel channel)
done_leaves (Logoff c) channel name table now sessions = refl
done_leaves (NetworkLogoff c) channel name table now sessions = refl
done_leaves (Set c) channel name table now sessions =
    set_leaves (machine_in table.accounts c.account c.channel c.computer) c.account c.channel c.computer (show_of (key_of_channel channel) c.hidden) table sessions refl

on_leaves : (checks : Option SecureChannelState) (j : Judging) → users_of (left_on checks j).accounts ≡ users_of j.table.accounts
on_leaves None j = refl
on_leaves (Some channel) j = done_leaves j.asked channel j.name j.table j.moment j.sessions

if_leaves : (passed : Bool) (j : Judging) → users_of (left_if passed j).accounts ≡ users_of j.table.accounts
if_leaves false j = refl
if_leaves true j = on_leaves j.checks j

-- ---- all calls

module _ (plan : Plan) (planned : AccountTable) where
  -- behind these calls, at each controller with these accounts in the plan
  abbrev AreLeft : List Judging → Type 0
  AreLeft judgings =
      (controller : ℕ) → slice_get plan.tables controller ≡ Some planned → users_of (accounts_after planned controller judgings).accounts ≡ users_of planned.accounts

  own_leaves : (own : Bool) (j : Judging) (earlier : List Judging) (controller : ℕ) → AreLeft earlier → (j.controller == controller) ≡ own → AreByEarlier plan (j ∷ earlier) →
      slice_get plan.tables controller ≡ Some planned → users_of (accounts_if own j (accounts_after planned controller earlier)).accounts ≡ users_of planned.accounts
  own_leaves false j earlier controller more is by there = more controller there
  own_leaves true j earlier controller more is by there =
      let same : j.controller ≡ controller = (Decides-eqb j.controller controller).0 is in
      let here : slice_get plan.tables j.controller ≡ Some planned = ap (slice_get plan.tables) same ∙ there in
      if_leaves (has_passed j.how) j ∙ ap (λ (table : AccountTable). users_of table.accounts) (by.0 planned here) ∙ more j.controller here

  after_leaves : (judgings : List Judging) → AreByEarlier plan judgings → AreLeft judgings
  after_leaves [] by controller there = refl
  after_leaves (j ∷ earlier) by controller there = own_leaves (j.controller == controller) j earlier controller (after_leaves earlier by.1) refl by there

each_leaves : (plan : Plan) (judgings : List Judging) → AreByEarlier plan judgings → AllByRecursion (HasUsers plan) judgings
each_leaves plan [] by = tt
each_leaves plan (j ∷ earlier) by = (
  λ planned there. ap (λ (table : AccountTable). users_of table.accounts) (by.0 planned there) ∙ after_leaves plan planned earlier by.1 j.controller there,
  each_leaves plan earlier by.1,
)

-- in every run each call was judged by the hashes that users have in the plan
pub users_stay : (plan : Plan) (moves : List Move) → IsPlainPlan plan → AllByRecursion (HasUsers plan) (past plan moves).book.judged
users_stay plan moves nothing = each_leaves plan (past plan moves).book.judged (tables_follow plan moves nothing).judged
