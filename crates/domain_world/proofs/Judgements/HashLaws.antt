-- In every run the hash of an account is the one that a call set last which passed at its controller, or that of the
-- plan. It serves `hashes_follow_sets`.
use Rattle.std.proofs.Common.{◌≡◌, ◌==◌, ℕ, zero, suc, Bool, true, false, List, [], ◌∷◌, map, Option, Some, None, if◌then◌else◌, option_map, refl, sym, ap, subst, ◌∙◌, slice_get}
use Rattle.std.proofs.lemmas.Bool.Decides.{Decides-eqb}
use Rattle.authenticators.specs.SecureChannels.{SecureChannelState, key_of_channel}
use Rattle.logon_stubs.specs.declared.info.NetworkInfo.{NetworkInfo}
use Rattle.interactive_logon.specs.declared.calls.InteractiveInfo.{InteractiveInfo}
use Rattle.interactive_logon.specs.declared.sessions.Session.{Session}
use Rattle.secret_change.specs.Hiding.{show_of}
use Rattle.account_table.specs.AccountTable.{AccountTable}
use Rattle.account_table.specs.Changes.{DifferInCounts, state_of, with_count, with_hash}
use Rattle.account_table.specs.LookUps.{machine_in}
use Rattle.account_table.specs.declared.account.Account.{Account}
use Rattle.account_table.specs.declared.changes.AccountState.{AccountState}
use Rattle.account_table.specs.declared.changes.Change.TheVariants.{Hash}
use Rattle.account_table.specs.declared.changes.TableChange.{TableChange}
use Rattle.account_table.proofs.ChangeLaws.{with_changes-states}
use Rattle.sam_logon.proofs.CountLaws.{interactive_judgement-differs, judgement-differs}
use Rattle.controller_calls.specs.declared.calls.JudgedCall.{JudgedCall}
use Rattle.controller_calls.specs.declared.calls.JudgedCall.TheVariants.{Interactive, Logoff, Network, NetworkLogoff, Set}
use Rattle.controller_calls.specs.Doing.{done_by, set_so}
use Rattle.controller_calls.specs.Interactive.{judge_interactive_level, shown_hash}
use Rattle.controller_calls.specs.Logons.{judge_level, serves_level}
use Rattle.step_notes.specs.ControllerNotes.{has_passed}
use Rattle.step_notes.specs.Records.{Judging}
use Rattle.world_moves.specs.declared.moves.Move.{Move}
use Rattle.world_moves.specs.declared.plan.Plan.{Plan}
use Rattle.world_moves.specs.Plain.{IsPlainPlan}
use Rattle.domain_world.specs.Claims.Hashes.{HashesFollowSets, hash_after, hash_at, hash_by, hash_if, hash_on, hash_own, hash_passed, hash_set}
use Rattle.domain_world.specs.Claims.Tables.{AreByEarlier, accounts_after, accounts_if, left_if, left_on}
use Rattle.domain_world.specs.Past.{past}
use Rattle.domain_world.proofs.Judgements.TableLaws.{tables_follow}

-- ---- a table

-- the hash in what an account has
hash_stated : (found : Option Account) → option_map (λ (account : Account). account.hash) found ≡ option_map (λ (state : AccountState). state.hash) (option_map state_of found)
hash_stated None = refl
hash_stated (Some account) = refl

set_found : (hit : Bool) (hash : List ℕ) (found : Option Account) →
    option_map (λ (state : AccountState). state.hash) (option_map (λ (account : Account). if hit then record (state_of account) { hash = hash; changed = true } else state_of account) found)
    ≡ hash_if hit hash (option_map (λ (account : Account). account.hash) found)
set_found false hash None = refl
set_found true hash None = refl
set_found false hash (Some account) = refl
set_found true hash (Some account) = refl

-- where one is set
hash_put : (at place : ℕ) (hash : List ℕ) (table : AccountTable) → hash_at (with_hash at hash table) place ≡ hash_if (at == place) hash (hash_at table place)
hash_put at place hash table =
    let change : TableChange = record { place = at; change = Hash hash } in
    hash_stated (slice_get (with_hash at hash table).accounts place)
    ∙ ap (option_map (λ (state : AccountState). state.hash)) (with_changes-states (change ∷ []) table place)
    ∙ set_found (at == place) hash (slice_get table.accounts place)

counted : (accounts : List Account) (place : ℕ) →
    option_map (λ (account : Account). account.hash) (slice_get accounts place) ≡ option_map (λ (account : Account). account.hash) (slice_get (map (with_count 0) accounts) place)
counted [] place = refl
counted (account ∷ accounts) zero = refl
counted (account ∷ accounts) (suc place) = counted accounts place

-- counts leave it
counts_leave : (old new : AccountTable) (place : ℕ) → DifferInCounts old new → hash_at new place ≡ hash_at old place
counts_leave old new place differ =
    counted new.accounts place
    ∙ ap (λ (accounts : List Account). option_map (λ (account : Account). account.hash) (slice_get accounts place)) differ.accounts
    ∙ sym (counted old.accounts place)

-- ---- a call

level_hash : (served : Bool) (table : AccountTable) (name : List ℕ) (info : NetworkInfo) (now place : ℕ) → hash_at (judge_level served table name info now).table place ≡ hash_at table place
level_hash false table name info now place = refl
level_hash true table name info now place = counts_leave table _ place (judgement-differs table name info now)

interactive_hash : (served : Bool) (table : AccountTable) (name : List ℕ) (now : ℕ) (info : InteractiveInfo) (key : List ℕ) (place : ℕ) →
    hash_at (judge_interactive_level served table name now info key).table place ≡ hash_at table place
interactive_hash false table name now info key place = refl
interactive_hash true table name now info key place =
    counts_leave table _ place (interactive_judgement-differs table name info.domain info.user info.workstation (shown_hash key info) now)

set_hash : (found : Option ℕ) (hash : List ℕ) (table : AccountTable) (sessions : List Session) (place : ℕ) →
    hash_at (set_so found hash table sessions).table place ≡ hash_set found hash place (hash_at table place)
set_hash None hash table sessions place = refl
set_hash (Some at) hash table sessions place = hash_put at place hash table

done_hash : (c : JudgedCall) (channel : SecureChannelState) (name : List ℕ) (table : AccountTable) (now : ℕ) (sessions : List Session) (place : ℕ) →
    hash_at (done_by c channel name table now sessions).table place ≡ hash_by c channel table place (hash_at table place)
done_hash (Network c) channel name table now sessions place = level_hash (serves_level c.validation) table name c.info now place
done_hash (Interactive c) channel name table now sessions place = interactive_hash (serves_level c.validation) table name now c.info (key_of_channel channel) place
done_hash (Logoff c) channel name table now sessions place = refl
done_hash (NetworkLogoff c) channel name table now sessions place = refl
done_hash (Set c) channel name table now sessions place =
    set_hash (machine_in table.accounts c.account c.channel c.computer) (show_of (key_of_channel channel) c.hidden) table sessions place

on_hash : (checks : Option SecureChannelState) (j : Judging) (place : ℕ) → hash_at (left_on checks j) place ≡ hash_on checks j place (hash_at j.table place)
on_hash None j place = refl
on_hash (Some channel) j place = done_hash j.asked channel j.name j.table j.moment j.sessions place

if_hash : (passed : Bool) (j : Judging) (place : ℕ) → hash_at (left_if passed j) place ≡ hash_passed passed j place (hash_at j.table place)
if_hash false j place = refl
if_hash true j place = on_hash j.checks j place

-- ---- all calls

module _ (plan : Plan) (planned : AccountTable) (place : ℕ) where
  -- behind these calls, at each controller with these accounts in the plan
  abbrev pub AreHashed : List Judging → Type 0
  AreHashed judgings =
      (controller : ℕ) → slice_get plan.tables controller ≡ Some planned →
      hash_at (accounts_after planned controller judgings) place ≡ hash_after (hash_at planned place) controller place judgings

  own_hash : (own : Bool) (j : Judging) (earlier : List Judging) (controller : ℕ) → AreHashed earlier → (j.controller == controller) ≡ own → AreByEarlier plan (j ∷ earlier) →
      slice_get plan.tables controller ≡ Some planned →
      hash_at (accounts_if own j (accounts_after planned controller earlier)) place ≡ hash_own own j place (hash_after (hash_at planned place) controller place earlier)
  own_hash false j earlier controller more is by there = more controller there
  own_hash true j earlier controller more is by there =
      let same : j.controller ≡ controller = (Decides-eqb j.controller controller).0 is in
      let here : slice_get plan.tables j.controller ≡ Some planned = ap (slice_get plan.tables) same ∙ there in
      let before : hash_at j.table place ≡ hash_after (hash_at planned place) controller place earlier =
      ap (λ (table : AccountTable). hash_at table place) (by.0 planned here)
      ∙ subst (λ (k : ℕ). hash_at (accounts_after planned k earlier) place ≡ hash_after (hash_at planned place) controller place earlier) (sym same) (more controller there) in
      if_hash (has_passed j.how) j place ∙ ap (hash_passed (has_passed j.how) j place) before

  pub after_hash : (judgings : List Judging) → AreByEarlier plan judgings → AreHashed judgings
  after_hash [] by controller there = refl
  after_hash (j ∷ earlier) by controller there = own_hash (j.controller == controller) j earlier controller (after_hash earlier by.1) refl by there

pub hashes_follow : (plan : Plan) (moves : List Move) → IsPlainPlan plan → HashesFollowSets (past plan moves)
hashes_follow plan moves nothing controller c planned is there place =
    let follow = tables_follow plan moves nothing in
    ap (λ (table : AccountTable). hash_at table place) (follow.stands controller c there planned is)
    ∙ after_hash plan planned place (past plan moves).book.judged follow.judged controller is
