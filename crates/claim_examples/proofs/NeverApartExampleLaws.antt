-- A member that replaces its secret, at states that were written down by hand: which meet the claim that it and its
-- controller are never apart, and which don't. It serves `members_tell_apart`.
use Rattle.std.proofs.Common.{◌≡◌, ◌<◌, ℕ, zero, suc, Bool, false, List, [], ◌∷◌, ◌++◌, replicate, get_or, Option, Some, None, inl, inr, refl, sym, ap, subst, ◌∙◌, arith, slice_get}
use Rattle.std.specs.Prelude.{◌≢◌, codes}
use Rattle.std.specs.Option.{option_map}
use Rattle.std.proofs.lemmas.List.Elements.{All-from_recursion, All-nil, All-replicate}
use Rattle.wire_base.specs.Names as names
use Rattle.wire_base.specs.Names.{IsName, SameName, same_name}
use Rattle.wire_base.proofs.NumberLaws.{bytes_from_all}
use Rattle.account_table.specs.AccountTable.{AccountTable}
use Rattle.account_table.specs.LookUps.{account_in, machine_name, place_in}
use Rattle.account_table.specs.declared.account.Account.{Account}
use Rattle.account_table.specs.declared.account.Trust.{Trust}
use Rattle.secret_change.specs.Secrets.{AreSecrets, IsSecret, SecretsState, alone, next_of, reread, secrets_of, written_secrets}
use Rattle.secret_change.specs.declared.secrets.Next.{Next}
use Rattle.secret_change.proofs.FormLaws.{written_is_read}
use Rattle.channel_client.specs.Machine.{fresh_requester}
use Rattle.channel_turns.specs.declared.state.Dialling.TheVariants as dialling
use Rattle.domain_controller.specs.State.{State as ControllerState}
use Rattle.domain_controller.specs.Step.{first_state}
use Rattle.member_server.specs.Machine.{caller_of}
use Rattle.member_server.specs.State.{State as MemberState}
use Rattle.member_server.specs.declared.plan.MemberPlan.{MemberPlan}
use Rattle.member_server.specs.declared.state.Running.{Running as MemberRunning}
use Rattle.step_notes.specs.Records.{Book, Judging, OfMember, OfTrust, RequesterId}
use Rattle.logon_client.specs.Plans.{CanLogOn}
use Rattle.logon_runs.specs.FirstLogon.ExampleLogon.{ann_plan, corp, file1, file1_plan}
use Rattle.world_moves.specs.declared.links.EndId.TheVariants.{Controller}
use Rattle.world_moves.specs.declared.moves.Move.TheVariants as move
use Rattle.world_moves.specs.declared.plan.Plan.{Plan}
use Rattle.world_moves.specs.Acting.{keep_by}
use Rattle.world_moves.specs.Forms.{HasMoveForm, IsAccount, IsByte, IsClientPlan, IsMemberPlan, IsSchedule, IsStationPlan, IsTable}
use Rattle.world_moves.specs.Moving.{end_of_peer}
use Rattle.world_moves.specs.World.{IsMove, World, first_ends, kept_by, kept_of}
use Rattle.world_moves.proofs.AloneLaws.{plain_plan}
use Rattle.domain_world.specs.Claims.{IsClear}
use Rattle.domain_world.specs.Claims.NeverApart.{BeginsAlike, IsAmong, IsNeverApart, KeepsWhatItHolds, MembersAreNeverApart, MembersKeepWhatTheyHold, computer_of, has_foreign_set}
use Rattle.domain_world.specs.Past.{Past, past}
use Rattle.wire_base.proofs.ListLaws.{got_nothing, no_some, some_is}
use Rattle.claim_examples.specs.CompletenessExamples.{able_member, able_table, machine_account}
use Rattle.claim_examples.specs.NeverApartExamples.{HasThird, OfBeginnings, OfKeeping, OfNeverApart, OfProvedRun, OfTrying, any_account, any_plan, backup_account, beside_another, both_secrets, change_moves, change_plan, controller_having, crossed_plan, disabled_account, holds_and_kept, letters_plan, member_holding, member_with, new_secret, old_secret, other_secret, plan_by, plan_of, run_to, running_with, second_secret, set_passed, short_secret, state_of, stopped_member, table_with, tried_secrets, two_plan, two_with, without_account}
use Rattle.claim_examples.specs.ClaimExamples.{keeping_controller, small_account}
use Rattle.claim_examples.proofs.CompletenessLaws.{a_name, account_form, table_form}
use Rattle.interactive_station.specs.Plans.{CanStation}

-- ---- the account

found_with : (hash : List ℕ) → account_in (table_with hash).accounts (machine_name (codes "FILE1")) ≡ Some (record machine_account { hash = hash })
unfolding place_in same_name names.upper_of
found_with hash = refl

found_backup : account_in (able_table (backup_account ∷ [])).accounts (machine_name (codes "FILE1")) ≡ Some backup_account
unfolding place_in same_name names.upper_of
found_backup = refl

found_disabled : account_in (able_table (disabled_account ∷ [])).accounts (machine_name (codes "FILE1")) ≡ Some disabled_account
unfolding place_in same_name names.upper_of
found_disabled = refl

found_any : (account : Account) → account_in (any_account account ∷ []) (machine_name (codes "FILE1")) ≡ Some (any_account account)
unfolding place_in same_name names.upper_of
found_any account = refl

found_beside : account_in (record machine_account { name = codes "FILE2$"; hash = old_secret } ∷ record machine_account { hash = other_secret } ∷ []) (machine_name (codes "FILE1"))
    ≡ Some (record machine_account { hash = other_secret })
unfolding place_in same_name names.upper_of
found_beside = refl

found_letters : account_in (table_with old_secret).accounts (machine_name (codes "file1")) ≡ Some (record machine_account { hash = old_secret })
unfolding place_in same_name names.upper_of
found_letters = refl

found_none : account_in (able_table (small_account ∷ [])).accounts (machine_name (codes "FILE1")) ≡ None
unfolding place_in same_name names.upper_of
found_none = refl

found_no_second : account_in (table_with second_secret).accounts (machine_name (codes "FILE2")) ≡ None
unfolding place_in same_name names.upper_of
found_no_second = refl

names_apart : SameName (codes "FILE2") (codes "FILE1") → ⊥
unfolding names.upper_of
names_apart same = let never : 0x32 ≡ 0x31 = ap (λ (name : List ℕ). get_or name 4 0) same in omega (arith, never)

names_alike : SameName (codes "file1") (codes "FILE1")
unfolding names.upper_of
names_alike = refl

-- ---- secrets

old_is_new : old_secret ≡ new_secret → ⊥
old_is_new same = let never : 0x41 ≡ 0x61 = ap (λ (secret : List ℕ). get_or secret 0 0) same in omega (arith, never)

other_is_old : other_secret ≡ old_secret → ⊥
other_is_old same = let never : 0x61 ≡ 0x41 = ap (λ (secret : List ℕ). get_or secret 0 0) same in omega (arith, never)

other_is_new : other_secret ≡ new_secret → ⊥
other_is_new same = let never : 0x62 ≡ 0x61 = ap (λ (secret : List ℕ). get_or secret 15 0) same in omega (arith, never)

-- one secret
among_alone : (secret : List ℕ) → IsAmong secret (alone secret)
among_alone secret = record { among = inl refl; when_alone = λ none. refl }

among_old : IsAmong old_secret both_secrets
among_old = record { among = inl refl; when_alone = λ none. absurd (let never = none in cc) }

among_new : IsAmong new_secret both_secrets
among_new = record { among = inr refl; when_alone = λ none. absurd (let never = none in cc) }

among_old_tried : IsAmong old_secret tried_secrets
among_old_tried = record { among = inl refl; when_alone = λ none. absurd (let never = none in cc) }

among_new_tried : IsAmong new_secret tried_secrets
among_new_tried = record { among = inr refl; when_alone = λ none. absurd (let never = none in cc) }

-- ---- the premise

same_member : (one other : ℕ) → OfMember one ≡ OfMember other → one ≡ other
same_member one other is = cc

none_else : (who : RequesterId) (name : List ℕ) → who ≢ OfMember 0 → computer_of change_plan who ≡ Some name → SameName name (codes "FILE1") → ⊥
none_else (OfMember zero) name other is same = other refl
none_else (OfMember (suc k)) name other is same = no_some name is
none_else (OfTrust controller trust) name other is same = no_some name is

abbrev begins_alike : BeginsAlike change_plan 0
begins_alike = record {
  own = able_member old_secret;
  is_plan = refl;
  secret = old_secret;
  one = refl;
  controller = 0;
  reaches = refl;
  table = table_with old_secret;
  is_table = refl;
  account = record machine_account { hash = old_secret };
  found = found_with old_secret;
  hash = refl;
  only = none_else;
}

-- a plan by which a member begins alike, with any account whose hash is the old secret
begins_by : (account : Account) → account.hash ≡ old_secret → account_in (able_table (account ∷ [])).accounts (machine_name (codes "FILE1")) ≡ Some account → BeginsAlike (plan_by account) 0
begins_by account hash found = record {
  own = able_member old_secret;
  is_plan = refl;
  secret = old_secret;
  one = refl;
  controller = 0;
  reaches = refl;
  table = able_table (account ∷ []);
  is_table = refl;
  account = account;
  found = found;
  hash = hash;
  only = none_else;
}

none_in_any : (account : Account) (trusts : List Trust) (sealed : Bool) (who : RequesterId) (name : List ℕ) → who ≢ OfMember 0 → computer_of (any_plan account trusts sealed) who ≡ Some name →
    SameName name (codes "FILE1") → ⊥
none_in_any account trusts sealed (OfMember zero) name other is same = other refl
none_in_any account trusts sealed (OfMember (suc k)) name other is same = no_some name is
none_in_any account trusts sealed (OfTrust controller trust) name other is same = no_some name is

-- whatever else stands in the account, the table and the member
any_begins : (account : Account) (trusts : List Trust) (sealed : Bool) → BeginsAlike (any_plan account trusts sealed) 0
any_begins account trusts sealed = record {
  own = record (able_member old_secret) { sealed = sealed };
  is_plan = refl;
  secret = old_secret;
  one = refl;
  controller = 0;
  reaches = refl;
  table = record (able_table (any_account account ∷ [])) { trusts = trusts };
  is_table = refl;
  account = any_account account;
  found = found_any account;
  hash = refl;
  only = none_in_any account trusts sealed;
}

none_with_letters : (who : RequesterId) (name : List ℕ) → who ≢ OfMember 0 → computer_of letters_plan who ≡ Some name → SameName name (codes "file1") → ⊥
none_with_letters (OfMember zero) name other is same = other refl
none_with_letters (OfMember (suc k)) name other is same = no_some name is
none_with_letters (OfTrust controller trust) name other is same = no_some name is

letters_begin : BeginsAlike letters_plan 0
letters_begin = record {
  own = record (able_member old_secret) { computer = codes "file1" };
  is_plan = refl;
  secret = old_secret;
  one = refl;
  controller = 0;
  reaches = refl;
  table = table_with old_secret;
  is_table = refl;
  account = record machine_account { hash = old_secret };
  found = found_letters;
  hash = refl;
  only = none_with_letters;
}

none_second : (who : RequesterId) (name : List ℕ) → who ≢ OfMember 1 → computer_of two_plan who ≡ Some name → SameName name (codes "FILE1") → ⊥
none_second (OfMember zero) name other is same = names_apart (subst (λ (one : List ℕ). SameName one (codes "FILE1")) (sym (some_is (codes "FILE2") name is)) same)
none_second (OfMember (suc zero)) name other is same = other refl
none_second (OfMember (suc (suc k))) name other is same = no_some name is
none_second (OfTrust controller trust) name other is same = no_some name is

abbrev second_begins : BeginsAlike two_plan 1
second_begins = record {
  own = record (able_member old_secret) { controller = 1 ∷ [] };
  is_plan = refl;
  secret = old_secret;
  one = refl;
  controller = 1;
  reaches = refl;
  table = table_with old_secret;
  is_table = refl;
  account = record machine_account { hash = old_secret };
  found = found_with old_secret;
  hash = refl;
  only = none_second;
}

none_crossed : (who : RequesterId) (name : List ℕ) → who ≢ OfMember 1 → computer_of crossed_plan who ≡ Some name → SameName name (codes "FILE1") → ⊥
none_crossed (OfMember zero) name other is same = names_apart (subst (λ (one : List ℕ). SameName one (codes "FILE1")) (sym (some_is (codes "FILE2") name is)) same)
none_crossed (OfMember (suc zero)) name other is same = other refl
none_crossed (OfMember (suc (suc k))) name other is same = no_some name is
none_crossed (OfTrust controller trust) name other is same = no_some name is

crossed_begins : BeginsAlike crossed_plan 1
crossed_begins = record {
  own = able_member old_secret;
  is_plan = refl;
  secret = old_secret;
  one = refl;
  controller = 0;
  reaches = refl;
  table = table_with old_secret;
  is_table = refl;
  account = record machine_account { hash = old_secret };
  found = found_with old_secret;
  hash = refl;
  only = none_crossed;
}

-- ---- what it says of a state

-- of a plan whose first end is its controller
the_controller : (plan : Plan) (own : MemberPlan) (controller : ℕ) → end_of_peer (0 ∷ []) (first_ends plan) ≡ Some (Controller 0) → able_member old_secret ≡ own →
    end_of_peer own.controller (first_ends plan) ≡ Some (Controller controller) → 0 ≡ controller
the_controller plan own controller first same reaches =
    let is : Some (Controller 0) ≡ Some (Controller controller) = sym first ∙ ap (λ (one : MemberPlan). end_of_peer one.controller (first_ends plan)) same ∙ reaches in cc

-- of a world in which the account has this hash, whatever stands at the member
apart_in : (w : World) (b : Book) (c : ControllerState) (hash : List ℕ) → slice_get w.state.ends.controllers 0 ≡ Some c → c.table ≡ table_with hash →
    ((m : MemberState) (running : MemberRunning) → slice_get w.state.ends.members 0 ≡ Some m → m.running ≡ Some running → IsAmong hash running.logons.plan.secrets) →
    ((secrets : SecretsState) → kept_of w 0 ≡ Some secrets → IsAmong hash secrets) → MembersAreNeverApart (record { plan = change_plan; world = w; book = b })
apart_in w b c hash there table held kept foreign zero begins =
    let own : able_member old_secret ≡ begins.own = some_is (able_member old_secret) begins.own begins.is_plan in
    let controller : 0 ≡ begins.controller = the_controller change_plan begins.own begins.controller refl own begins.reaches in
    record {
      state = c;
      at = subst (λ (k : ℕ). slice_get w.state.ends.controllers k ≡ Some c) controller there;
      account = record machine_account { hash = hash };
      found = subst (λ (plan : MemberPlan). account_in c.table.accounts (machine_name plan.computer) ≡ Some (record machine_account { hash = hash })) own
          (subst (λ (t : AccountTable). account_in t.accounts (machine_name (codes "FILE1")) ≡ Some (record machine_account { hash = hash })) (sym table) (found_with hash));
      held = held;
      kept = kept;
    }
apart_in w b c hash there table held kept foreign (suc k) begins = absurd (got_nothing k begins.own begins.is_plan)

-- of a state that was written down
apart_by : (member : MemberState) (kept : SecretsState) (hash : List ℕ) (calls : List Judging) →
    ((running : MemberRunning) → member.running ≡ Some running → IsAmong hash running.logons.plan.secrets) → IsAmong hash kept → MembersAreNeverApart (state_of member kept hash calls)
apart_by member kept hash calls held among =
    let run : Past = state_of member kept hash calls in
    apart_in run.world run.book (controller_having hash) hash refl refl
    (λ m running there runs. held running (ap MemberState.running (some_is member m there) ∙ runs))
    (λ secrets is. subst (λ (s : SecretsState). IsAmong hash s) (some_is kept secrets is) among)

holding : (held : SecretsState) (hash : List ℕ) → IsAmong hash held → (running : MemberRunning) → (member_holding held).running ≡ Some running → IsAmong hash running.logons.plan.secrets
holding held hash among running runs =
    subst (λ (r : MemberRunning). IsAmong hash r.logons.plan.secrets) (some_is (running_with held) running runs) among

runs_not : (hash : List ℕ) (running : MemberRunning) → stopped_member.running ≡ Some running → IsAmong hash running.logons.plan.secrets
runs_not hash running runs = absurd (no_some running runs)

-- the hash of the account that the claim finds, in any world
hash_in_world : (w : World) (b : Book) (c : ControllerState) (hash : List ℕ) → slice_get w.state.ends.controllers 0 ≡ Some c → c.table ≡ table_with hash →
    (its : IsNeverApart (run_to w b) 0 begins_alike) → its.account.hash ≡ hash
hash_in_world w b c hash there table its =
    let state : c ≡ its.state = some_is c its.state (sym there ∙ its.at) in
    let its_table : table_with hash ≡ its.state.table = sym table ∙ ap (λ (one : ControllerState). one.table) state in
    let found : Some (record machine_account { hash = hash }) ≡ Some its.account =
    sym (found_with hash) ∙ ap (λ (t : AccountTable). account_in t.accounts (machine_name (codes "FILE1"))) its_table ∙ its.found in
    ap (λ (account : Account). account.hash) (sym (some_is (record machine_account { hash = hash }) its.account found))

hash_is : (member : MemberState) (kept : SecretsState) (hash : List ℕ) (calls : List Judging) (its : IsNeverApart (state_of member kept hash calls) 0 begins_alike) → its.account.hash ≡ hash
hash_is member kept hash calls its =
    let run : Past = state_of member kept hash calls in
    hash_in_world run.world run.book (controller_having hash) hash refl refl its

held_so : (held kept : SecretsState) (hash : List ℕ) (calls : List Judging) → has_foreign_set calls ≡ false → MembersAreNeverApart (holds_and_kept held kept hash calls) → IsAmong hash held
held_so held kept hash calls own claim =
    let its : IsNeverApart (holds_and_kept held kept hash calls) 0 begins_alike = claim own 0 begins_alike in
    subst (λ (h : List ℕ). IsAmong h held) (hash_is (member_holding held) kept hash calls its) (its.held (member_holding held) (running_with held) refl refl)

kept_so : (member : MemberState) (kept : SecretsState) (hash : List ℕ) (calls : List Judging) → has_foreign_set calls ≡ false → MembersAreNeverApart (state_of member kept hash calls) → IsAmong hash kept
kept_so member kept hash calls own claim =
    let its : IsNeverApart (state_of member kept hash calls) 0 begins_alike = claim own 0 begins_alike in
    subst (λ (h : List ℕ). IsAmong h kept) (hash_is member kept hash calls its) (its.kept kept refl)

-- a hash that is neither the current nor the next secret isn't among them
pub not_among : (hash current : List ℕ) (next : Option Next) → (hash ≡ current → ⊥) → (next_of (record { current = current; next = next }) ≡ Some hash → ⊥) →
    IsAmong hash (record { current = current; next = next }) → ⊥
not_among hash current next apart else among = elim among.among [ inl is ↦ apart is | inr is ↦ else is ]

-- a third one is neither of both
not_third : IsAmong other_secret both_secrets → ⊥
not_third = not_among other_secret old_secret both_secrets.next other_is_old (λ is. other_is_new (sym (some_is new_secret other_secret is)))

held_third : (w : World) (b : Book) (m : MemberState) (running : MemberRunning) → HasThird w b → slice_get w.state.ends.members 0 ≡ Some m → m.running ≡ Some running →
    running.logons.plan.secrets ≡ both_secrets → MembersAreNeverApart (run_to w b) → ⊥
held_third w b m running third there runs both claim =
    let its : IsNeverApart (run_to w b) 0 begins_alike = claim third.own 0 begins_alike in
    let hash : its.account.hash ≡ other_secret = hash_in_world w b third.controller other_secret third.at third.table its in
    not_third (subst (λ (s : SecretsState). IsAmong other_secret s) both (subst (λ (h : List ℕ). IsAmong h running.logons.plan.secrets) hash (its.held m running there runs)))

kept_third : (w : World) (b : Book) → HasThird w b → kept_of w 0 ≡ Some both_secrets → MembersAreNeverApart (run_to w b) → ⊥
kept_third w b third both claim =
    let its : IsNeverApart (run_to w b) 0 begins_alike = claim third.own 0 begins_alike in
    let hash : its.account.hash ≡ other_secret = hash_in_world w b third.controller other_secret third.at third.table its in
    not_third (subst (λ (h : List ℕ). IsAmong h both_secrets) hash (its.kept both_secrets both))

none_next : (hash current : List ℕ) → next_of (alone current) ≡ Some hash → ⊥
none_next hash current is = no_some hash is

-- ---- a first move

is_secret : (byte : ℕ) → byte < 256 → IsSecret (replicate 16 byte)
is_secret byte small = (refl, bytes_from_all (replicate 16 byte) (All-replicate (λ (one : ℕ). one < 256) 16 byte small))

are_both : AreSecrets both_secrets
are_both = (is_secret 0x41 (omega arith), is_secret 0x61 (omega arith))

text_read : secrets_of (written_secrets both_secrets) ≡ Some both_secrets
text_read = written_is_read both_secrets are_both

abbrev begun_running : MemberRunning
begun_running = record {
  logons = record { plan = member_with both_secrets; channel = fresh_requester (caller_of (able_member old_secret)); asked = [] };
  links = [];
  dialling = dialling.Nothing;
  sealing = None;
}

abbrev begun_member : MemberState
begun_member = record { running = Some begun_running }

-- what was kept, once the change began
kept_begun : kept_of (past change_plan (move.Change 0 new_secret ∷ [])).world 0 ≡ Some both_secrets
kept_begun = ap (λ (found : Option SecretsState). kept_by (slice_get (keep_by found 0 (able_member old_secret ∷ [])) 0)) text_read

begun_apart : MembersAreNeverApart (past change_plan (move.Change 0 new_secret ∷ []))
begun_apart =
    let run : Past = past change_plan (move.Change 0 new_secret ∷ []) in
    apart_in run.world run.book (first_state (table_with old_secret) (codes "PDC")) old_secret refl refl
    (λ m running there runs.
    subst (λ (r : MemberRunning). IsAmong old_secret r.logons.plan.secrets) (some_is begun_running running (ap MemberState.running (some_is begun_member m there) ∙ runs)) among_old)
    (λ secrets is. subst (λ (s : SecretsState). IsAmong old_secret s) (some_is both_secrets secrets (sym kept_begun ∙ is)) among_old)

-- ---- two controllers and two members

two_apart : MembersAreNeverApart (two_with new_secret)
two_apart foreign zero begins =
    let own : record (able_member second_secret) { computer = codes "FILE2" } ≡ begins.own =
    some_is (record (able_member second_secret) { computer = codes "FILE2" }) begins.own begins.is_plan in
    let reaches : Some (Controller 0) ≡ Some (Controller begins.controller) = ap (λ (one : MemberPlan). end_of_peer one.controller (first_ends two_plan)) own ∙ begins.reaches in
    let controller : 0 ≡ begins.controller = cc in
    let table : table_with second_secret ≡ begins.table =
    some_is (table_with second_secret) begins.table (ap (λ (k : ℕ). slice_get two_plan.tables k) controller ∙ begins.is_table) in
    absurd (no_some begins.account (sym found_no_second ∙ ap (λ (t : AccountTable). account_in t.accounts (machine_name (codes "FILE2"))) table
    ∙ ap (λ (plan : MemberPlan). account_in begins.table.accounts (machine_name plan.computer)) own ∙ begins.found))
two_apart foreign (suc zero) begins =
    let own : record (able_member old_secret) { controller = 1 ∷ [] } ≡ begins.own =
    some_is (record (able_member old_secret) { controller = 1 ∷ [] }) begins.own begins.is_plan in
    let reaches : Some (Controller 1) ≡ Some (Controller begins.controller) = ap (λ (one : MemberPlan). end_of_peer one.controller (first_ends two_plan)) own ∙ begins.reaches in
    let controller : 1 ≡ begins.controller = cc in
    record {
      state = controller_having new_secret;
      at = subst (λ (k : ℕ). slice_get (two_with new_secret).world.state.ends.controllers k ≡ Some (controller_having new_secret)) controller refl;
      account = record machine_account { hash = new_secret };
      found = subst (λ (plan : MemberPlan). account_in (table_with new_secret).accounts (machine_name plan.computer) ≡ Some (record machine_account { hash = new_secret })) own (found_with new_secret);
      held = λ m running there runs.
          holding both_secrets new_secret among_new running (ap MemberState.running (some_is (member_holding both_secrets) m there) ∙ runs);
      kept = λ secrets is. subst (λ (s : SecretsState). IsAmong new_secret s) (some_is both_secrets secrets is) among_new;
    }
two_apart foreign (suc (suc k)) begins = absurd (got_nothing k begins.own begins.is_plan)

two_not_apart : MembersAreNeverApart (two_with other_secret) → ⊥
two_not_apart claim =
    let its : IsNeverApart (two_with other_secret) 1 second_begins = claim refl 1 second_begins in
    let state : controller_having other_secret ≡ its.state = some_is (controller_having other_secret) its.state its.at in
    let found : Some (record machine_account { hash = other_secret }) ≡ Some its.account =
    sym (found_with other_secret) ∙ ap (λ (c : ControllerState). account_in c.table.accounts (machine_name (codes "FILE1"))) state ∙ its.found in
    let hash : its.account.hash ≡ other_secret = ap (λ (account : Account). account.hash) (sym (some_is (record machine_account { hash = other_secret }) its.account found)) in
    not_third (subst (λ (h : List ℕ). IsAmong h both_secrets) hash (its.kept both_secrets refl))

-- ---- no account

gone_apart : MembersAreNeverApart without_account → ⊥
gone_apart claim =
    let its : IsNeverApart without_account 0 begins_alike = claim refl 0 begins_alike in
    let bare : ControllerState = record (keeping_controller []) { table = able_table (small_account ∷ []) } in
    let state : bare ≡ its.state = some_is bare its.state its.at in
    no_some its.account (sym found_none ∙ ap (λ (c : ControllerState). account_in c.table.accounts (machine_name (codes "FILE1"))) state ∙ its.found)

-- ---- another account has one of its secrets

another_apart : MembersAreNeverApart beside_another → ⊥
another_apart claim =
    let its : IsNeverApart beside_another 0 begins_alike = claim refl 0 begins_alike in
    let accounts : List Account = record machine_account { name = codes "FILE2$"; hash = old_secret } ∷ record machine_account { hash = other_secret } ∷ [] in
    let bare : ControllerState = record (keeping_controller []) { table = able_table accounts } in
    let state : bare ≡ its.state = some_is bare its.state its.at in
    let found : Some (record machine_account { hash = other_secret }) ≡ Some its.account =
    sym found_beside ∙ ap (λ (c : ControllerState). account_in c.table.accounts (machine_name (codes "FILE1"))) state ∙ its.found in
    let hash : its.account.hash ≡ other_secret = ap (λ (account : Account). account.hash) (sym (some_is (record machine_account { hash = other_secret }) its.account found)) in
    not_third (subst (λ (h : List ℕ). IsAmong h both_secrets) hash (its.kept both_secrets refl))

pub of_beginnings : OfBeginnings
of_beginnings = record {
  meets = begins_alike;
  meets_second = second_begins;
  meets_crossed = crossed_begins;
  meets_backup = begins_by backup_account refl found_backup;
  meets_disabled = begins_by disabled_account refl found_disabled;
  meets_any = any_begins;
  meets_letters = letters_begin;
  fails_hash = λ begins.
      let own : able_member old_secret ≡ begins.own = some_is (able_member old_secret) begins.own begins.is_plan in
      let controller : 0 ≡ begins.controller =
      the_controller (plan_of (able_member old_secret ∷ []) (replicate 16 0x40)) begins.own begins.controller refl own begins.reaches in
      let table : table_with (replicate 16 0x40) ≡ begins.table =
      some_is (table_with (replicate 16 0x40)) begins.table (ap (λ (k : ℕ). slice_get (table_with (replicate 16 0x40) ∷ []) k) controller ∙ begins.is_table) in
      let found : Some (record machine_account { hash = replicate 16 0x40 }) ≡ Some begins.account =
      sym (found_with (replicate 16 0x40)) ∙ ap (λ (t : AccountTable). account_in t.accounts (machine_name (codes "FILE1"))) table
      ∙ ap (λ (plan : MemberPlan). account_in begins.table.accounts (machine_name plan.computer)) own ∙ begins.found in
      let hash : replicate 16 0x40 ≡ begins.secret = ap (λ (account : Account). account.hash) (some_is (record machine_account { hash = replicate 16 0x40 }) begins.account found) ∙ begins.hash in
      let secret : old_secret ≡ begins.secret = ap (λ (s : SecretsState). s.current) (ap (λ (plan : MemberPlan). plan.secrets) own ∙ begins.one) in
      let never : 0x40 ≡ 0x41 = ap (λ (one : List ℕ). get_or one 0 0) (hash ∙ sym secret) in
      omega (arith, never);
  fails_two = λ begins.
      let own : member_with both_secrets ≡ begins.own = some_is (member_with both_secrets) begins.own begins.is_plan in
      absurd (let none : both_secrets.next ≡ None = ap (λ (s : SecretsState). s.next) (ap (λ (plan : MemberPlan). plan.secrets) own ∙ begins.one) in cc);
  fails_unknown = λ begins.
      let own : able_member old_secret ≡ begins.own = some_is (able_member old_secret) begins.own begins.is_plan in
      let controller : 0 ≡ begins.controller =
      the_controller (record change_plan { tables = able_table (small_account ∷ []) ∷ [] }) begins.own begins.controller refl own begins.reaches in
      let table : able_table (small_account ∷ []) ≡ begins.table =
      some_is (able_table (small_account ∷ [])) begins.table (ap (λ (k : ℕ). slice_get (able_table (small_account ∷ []) ∷ []) k) controller ∙ begins.is_table) in
      no_some begins.account (sym found_none ∙ ap (λ (t : AccountTable). account_in t.accounts (machine_name (codes "FILE1"))) table
      ∙ ap (λ (plan : MemberPlan). account_in begins.table.accounts (machine_name plan.computer)) own ∙ begins.found);
  fails_named = λ begins.
      let own : able_member old_secret ≡ begins.own = some_is (able_member old_secret) begins.own begins.is_plan in
      begins.only (OfMember 1) (codes "file1") (λ same. absurd (omega (arith, same_member 1 0 same))) refl
      (subst (λ (plan : MemberPlan). SameName (codes "file1") plan.computer) own names_alike);
  stranger = refl;
  stranger_earlier = refl;
  stranger_later = refl;
  stranger_status = refl;
  own = refl;
  barred = refl;
  no_channel = refl;
  untold = refl;
  logon = refl;
  interactive = refl;
  logoff = refl;
  network_logoff = refl;
}

pub of_never_apart : OfNeverApart
of_never_apart = record {
  both = apart_by (member_holding both_secrets) both_secrets old_secret [] (holding both_secrets old_secret among_old) among_old;
  set = apart_by (member_holding both_secrets) both_secrets new_secret (set_passed ∷ []) (holding both_secrets new_secret among_new) among_new;
  tried_early = apart_by (member_holding tried_secrets) both_secrets old_secret [] (holding tried_secrets old_secret among_old_tried) among_old;
  tried = apart_by (member_holding tried_secrets) both_secrets new_secret (set_passed ∷ []) (holding tried_secrets new_secret among_new_tried) among_new;
  learned = apart_by (member_holding (alone new_secret)) (alone new_secret) new_secret (set_passed ∷ []) (holding (alone new_secret) new_secret (among_alone new_secret)) (among_alone new_secret);
  stopped = apart_by stopped_member both_secrets new_secret (set_passed ∷ []) (runs_not new_secret) among_new;
  changed = begun_apart;
  two = two_apart;
  stranger = λ own member begins. absurd (let never = own in cc);
  fails_other = λ claim. not_third (held_so both_secrets both_secrets other_secret (set_passed ∷ []) refl claim);
  fails_held = λ claim. not_among old_secret new_secret None old_is_new (none_next old_secret new_secret) (held_so (alone new_secret) both_secrets old_secret [] refl claim);
  fails_holding = λ claim. not_third (held_so both_secrets (alone other_secret) other_secret (set_passed ∷ []) refl claim);
  fails_trying = λ claim.
      not_among other_secret old_secret tried_secrets.next other_is_old (λ is. other_is_new (sym (some_is new_secret other_secret is)))
      (held_so tried_secrets (alone other_secret) other_secret (set_passed ∷ []) refl claim);
  fails_confirmed = λ claim.
      not_among old_secret new_secret None old_is_new (none_next old_secret new_secret) (kept_so (member_holding both_secrets) (alone new_secret) old_secret [] refl claim);
  fails_kept = λ claim.
      not_among new_secret old_secret None (λ is. old_is_new (sym is)) (none_next new_secret old_secret) (kept_so (member_holding both_secrets) (alone old_secret) new_secret (set_passed ∷ []) refl claim);
  fails_exchanged = λ claim.
      not_among old_secret new_secret None old_is_new (none_next old_secret new_secret) (held_so (alone new_secret) (alone new_secret) old_secret (set_passed ∷ []) refl claim);
  fails_second = two_not_apart;
  fails_gone = gone_apart;
  fails_another = another_apart;
  fails_stopped = λ claim.
      not_among new_secret old_secret None (λ is. old_is_new (sym is)) (none_next new_secret old_secret) (kept_so stopped_member (alone old_secret) new_secret (set_passed ∷ []) refl claim);
  fails_keeping = λ claim. not_third (kept_so stopped_member both_secrets other_secret (set_passed ∷ []) refl claim);
  fails_held_anywhere = held_third;
  fails_kept_anywhere = kept_third;
}

-- ---- what is kept and what is tried

-- of a state that was written down, where both have their form
keeps_by : (member : MemberState) (kept : SecretsState) (hash : List ℕ) → AreSecrets kept →
    ((running : MemberRunning) → member.running ≡ Some running → AreSecrets running.logons.plan.secrets × (reread kept ≡ reread running.logons.plan.secrets)) →
    MembersKeepWhatTheyHold (state_of member kept hash [])
keeps_by member kept hash are held zero own is form = record {
  kept = λ secrets its. subst AreSecrets (some_is kept secrets its) are;
  held = λ secrets m running its there runs.
      let both = held running (ap MemberState.running (some_is member m there) ∙ runs) in
      (both.0, ap reread (sym (some_is kept secrets its)) ∙ both.1);
}
keeps_by member kept hash are held (suc k) own is form = absurd (got_nothing k own is)

-- of one that holds these
keeps_these : (secrets kept : SecretsState) → AreSecrets kept → AreSecrets secrets → reread kept ≡ reread secrets → MembersKeepWhatTheyHold (holds_and_kept secrets kept old_secret [])
keeps_these secrets kept are form same =
    keeps_by (member_holding secrets) kept old_secret are (λ running runs.
    subst (λ (r : MemberRunning). AreSecrets r.logons.plan.secrets × (reread kept ≡ reread r.logons.plan.secrets)) (some_is (running_with secrets) running runs) (form, same))

its_keeping : (member : MemberState) (kept : SecretsState) (hash : List ℕ) → MembersKeepWhatTheyHold (state_of member kept hash []) → KeepsWhatItHolds (state_of member kept hash []) 0
its_keeping member kept hash claim = claim 0 (able_member old_secret) refl (is_secret 0x41 (omega arith), tt)

pub of_keeping : OfKeeping
of_keeping = record {
  meets = keeps_these both_secrets both_secrets are_both are_both refl;
  meets_tried = keeps_these tried_secrets both_secrets are_both are_both refl;
  meets_stopped = keeps_by stopped_member (alone new_secret) new_secret (is_secret 0x61 (omega arith), tt) (λ running runs. absurd (no_some running runs));
  fails_begun = λ claim.
      let same = ((its_keeping (member_holding both_secrets) (alone old_secret) old_secret claim).held (alone old_secret) (member_holding both_secrets) (running_with both_secrets) refl refl refl).1 in
      absurd (let never : None ≡ both_secrets.next = ap (λ (s : SecretsState). s.next) same in cc);
  fails_learned = λ claim.
      let same = ((its_keeping (member_holding (alone new_secret)) both_secrets new_secret claim).held both_secrets (member_holding (alone new_secret)) (running_with (alone new_secret)) refl refl refl).1 in
      absurd (let never : both_secrets.next ≡ None = ap (λ (s : SecretsState). s.next) same in cc);
  fails_short = λ claim.
      let short : 15 ≡ 16 = ((its_keeping stopped_member (alone short_secret) new_secret claim).kept (alone short_secret) refl).0.0 in omega (arith, short);
}

pub of_trying : OfTrying
of_trying = record {
  meets = (record { coherent = record { matches = tt; first = tt; places = tt; few = omega arith }; opens = refl; sets = tt }, tt);
  meets_next = (record { coherent = record { matches = tt; first = tt; places = tt; few = omega arith }; opens = refl; sets = tt }, tt);
  fails_untried = λ claim. old_is_new (sym claim.0.opens);
  fails_current = λ claim. old_is_new claim.0.opens;
}

-- ---- a run, of which the claim is proved

-- FILE1's account
pub machine_form : (byte : ℕ) → byte < 256 → IsAccount (record machine_account { hash = replicate 16 byte })
machine_form byte small = record {
  name = a_name (codes "FILE1$") (omega arith)
      ((omega arith, omega arith), ((omega arith, omega arith), ((omega arith, omega arith), ((omega arith, omega arith), ((omega arith, omega arith), ((omega arith, omega arith), tt))))));
  rid = account_form.rid;
  hash = (refl, All-replicate IsByte 16 byte small);
  full_name = account_form.full_name;
  group = account_form.group;
  few_groups = account_form.few_groups;
  groups = account_form.groups;
  expires = account_form.expires;
  password_set = account_form.password_set;
  password_expires = account_form.password_expires;
  few_workstations = account_form.few_workstations;
  workstations = account_form.workstations;
  few_extra_sids = account_form.few_extra_sids;
  extra_sids = account_form.extra_sids;
  bad_count = account_form.bad_count;
  few_controllers = account_form.few_controllers;
  controllers = account_form.controllers;
}

change_table_form : (byte : ℕ) → byte < 256 → IsTable (table_with (replicate 16 byte))
change_table_form byte small = record {
  domain = table_form.domain;
  sid = table_form.sid;
  numbers = table_form.numbers;
  lockout = table_form.lockout;
  few = omega arith;
  accounts = All-from_recursion IsAccount (table_with (replicate 16 byte)).accounts (machine_form byte small, tt);
  distinct = refl;
  trusts = table_form.trusts;
  distinct_domains = refl;
}

pub member_form : (name : List ℕ) (byte number : ℕ) → IsName name → byte < 256 → number < 256 →
    IsMemberPlan (record (able_member (replicate 16 byte)) { computer = name; controller = number ∷ [] })
member_form name byte number named small short = record {
  computer = named;
  domain = table_form.domain;
  secret = (refl, All-replicate IsByte 16 byte small);
  next = tt;
  controller = All-from_recursion IsByte (number ∷ []) (short, tt);
}

pub file1_named : IsName (codes "FILE1")
file1_named = a_name (codes "FILE1") (omega arith)
    ((omega arith, omega arith), ((omega arith, omega arith), ((omega arith, omega arith), ((omega arith, omega arith), ((omega arith, omega arith), tt)))))

file2_named : IsName (codes "FILE2")
file2_named = a_name (codes "FILE2") (omega arith)
    ((omega arith, omega arith), ((omega arith, omega arith), ((omega arith, omega arith), ((omega arith, omega arith), ((omega arith, omega arith), tt)))))

change_schedule : IsSchedule two_plan change_moves
change_schedule = record {
  start = record { tables = refl; clients = All-nil CanLogOn; stations = All-nil CanStation };
  forms = record {
    tables = All-from_recursion IsTable two_plan.tables (change_table_form 0x33 (omega arith), (change_table_form 0x41 (omega arith), tt));
    controllers = All-from_recursion IsName two_plan.controllers (
      a_name (codes "PDC") (omega arith) ((omega arith, omega arith), ((omega arith, omega arith), ((omega arith, omega arith), tt))),
      (a_name (codes "BDC") (omega arith) ((omega arith, omega arith), ((omega arith, omega arith), ((omega arith, omega arith), tt))), tt),
    );
    members = All-from_recursion IsMemberPlan two_plan.members (
      member_form (codes "FILE2") 0x33 0 file2_named (omega arith) (omega arith),
      (member_form (codes "FILE1") 0x41 1 file1_named (omega arith) (omega arith), tt),
    );
    clients = All-nil IsClientPlan;
    stations = All-nil IsStationPlan;
    now = omega arith;
    seed = (refl, All-replicate IsByte 32 0 (omega arith));
  };
  few = omega arith;
  each = All-from_recursion IsMove change_moves (tt, tt);
  move_forms = All-from_recursion HasMoveForm change_moves ((omega arith, (refl, All-replicate IsByte 16 0x61 (omega arith))), tt);
}

-- no seed comes round where nothing was judged
none_wraps : (later rest : List Judging) (second : Judging) → [] ≡ later ++ second ∷ rest → ⊥
none_wraps [] rest second is = let never = is in cc
none_wraps (j ∷ later) rest second is = let never = is in cc

change_clear : IsClear (past two_plan change_moves).book
change_clear = record { apart = refl; onward = λ wraps. none_wraps wraps.later (wraps.between ++ wraps.first ∷ wraps.earlier) wraps.second wraps.all }

alone_named : (plan : Plan) (own : MemberPlan) → plan.members ≡ own ∷ [] → (who : RequesterId) (name : List ℕ) → who ≢ OfMember 0 → computer_of plan who ≡ Some name → ⊥
alone_named plan own is (OfMember zero) name other named = other refl
alone_named plan own is (OfMember (suc k)) name other named =
    no_some name (sym (ap (λ (members : List MemberPlan). option_map (λ (one : MemberPlan). one.computer) (slice_get members (suc k))) is) ∙ named)
alone_named plan own is (OfTrust controller trust) name other named = no_some name named

pub of_proved_run : OfProvedRun
of_proved_run = record {
  schedule = change_schedule;
  clear = change_clear;
  own = refl;
  begins = second_begins;
  claimed = λ proved. proved.never_apart (record { controllers = refl; members = (refl, (refl, tt)); stations = refl }) (inl (plain_plan two_plan refl refl)) change_schedule change_clear refl 1 second_begins;
}

-- ---- the member of the run in which ann logs on

ann_found : account_in corp.accounts (machine_name (codes "FILE1")) ≡ Some file1
unfolding place_in same_name names.upper_of
ann_found = refl

pub ann_begins : BeginsAlike ann_plan 0
ann_begins = record {
  own = file1_plan;
  is_plan = refl;
  secret = replicate 16 3;
  one = refl;
  controller = 0;
  reaches = refl;
  table = corp;
  is_table = refl;
  account = file1;
  found = ann_found;
  hash = refl;
  only = λ who name other named same. alone_named ann_plan file1_plan refl who name other named;
}
