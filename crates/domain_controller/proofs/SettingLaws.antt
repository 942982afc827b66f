-- Which hashes a step sets: of computers' and trusts' accounts alone, and counts of bad passwords change beside them.
-- It serves `what_is_kept_is_read_again`.
use Rattle.std.proofs.Common.{◌≡◌, ℕ, zero, suc, ◌&&◌, Bool, true, false, not, List, [], ◌∷◌, ◌++◌, map, Option, Some, None, refl, sym, ap, ◌∙◌, subst, arith, if◌then◌else◌}
use Rattle.std.specs.List.{AllByRecursion, slice_get}
use Rattle.std.specs.Option.{IsSomeAnd, option_map}
use Rattle.wire_base.specs.Maps.{place_of}
use Rattle.account_table.specs.AccountTable.{AccountTable}
use Rattle.account_table.specs.Changes.{DifferInCounts, at_place, is_user, without_state, with_count, with_hash, with_new_hash}
use Rattle.account_table.specs.Document.{has_name}
use Rattle.account_table.specs.LookUps.{is_machine_for, machine_in, opens}
use Rattle.account_table.specs.Secrets.{IsHash, IsSettingOf, Setting, with_settings}
use Rattle.account_table.specs.declared.account.Account.{Account}
use Rattle.account_table.specs.declared.account.Kind.{Kind}
use Rattle.account_table.specs.declared.account.Kind.TheVariants.{User, Workstation, Backup, Trust}
use Rattle.account_table.proofs.ChangeLaws.{counts-states, differs-again, differs-none, states-again, with_hash-differs}
use Rattle.account_table.proofs.KeptLaws.{secrets_kept}
use Rattle.secret_change.specs.Hiding.{show_of}
use Rattle.secret_change.proofs.HideLaws.{shown_is_secret}
use Rattle.controller_calls.specs.Calls.{asked_of}
use Rattle.controller_calls.specs.Logons.{serves_level}
use Rattle.controller_calls.specs.Doing.{done_asked, set_so}
use Rattle.controller_calls.specs.declared.calls.JudgedCall.{JudgedCall}
use Rattle.controller_calls.specs.declared.calls.JudgedCall.TheVariants.{Interactive, Logoff, Network, NetworkLogoff, Set}
use Rattle.domain_controller.specs.Keeping.{HashesAreSet, SetsHashes, secret_if, user_secret}
use Rattle.domain_controller.proofs.UnsetLaws.{interactive_levels, levels}
use Rattle.domain_controller.proofs.TrustWalkLaws.{trust_leads, trust_table_walks}
use Rattle.domain_controller.proofs.WalkLaws.{OfTables, TableTrail, TableWalks, desk_leads, table_walks}
use Rattle.interactive_logon.specs.declared.sessions.Session.{Session}

-- ---- an account that opens a channel isn't a user's

abbrev IsComputer : Account → Type 0
IsComputer account = is_user account.kind ≡ false

kind_opens : (named on : Bool) (kind : Kind) (channel : ℕ) (same listed : Bool) → (named && (on && opens kind channel same listed)) ≡ true → is_user kind ≡ false
kind_opens true true User channel same listed is = absurd cc
kind_opens true false User channel same listed is = absurd cc
kind_opens false on User channel same listed is = absurd cc
kind_opens named on Workstation channel same listed is = refl
kind_opens named on Backup channel same listed is = refl
kind_opens named on Trust channel same listed is = refl

at_first : (here : Bool) (rest : Option ℕ) (account : Account) (accounts : List Account) (place : ℕ) → (if here then Some 0 else option_map suc rest) ≡ Some place →
    (here ≡ true → IsComputer account) → ((later : ℕ) → rest ≡ Some later → IsSomeAnd (slice_get accounts later) IsComputer) → IsSomeAnd (slice_get (account ∷ accounts) place) IsComputer
at_first true rest account accounts zero is first later = first refl
at_first true rest account accounts (suc place) is first later = absurd cc
at_first false None account accounts place is first later = absurd cc
at_first false (Some at) account accounts zero is first later = absurd cc
at_first false (Some at) account accounts (suc place) is first later = later place (ap (λ (n : ℕ). Some n) (let same : suc at ≡ suc place = cc in omega (arith, same)))

first_computer : (test : Account → Bool) → ((account : Account) → test account ≡ true → IsComputer account) → (accounts : List Account) (place : ℕ) → place_of test accounts ≡ Some place →
    IsSomeAnd (slice_get accounts place) IsComputer
first_computer test means [] place found = absurd cc
first_computer test means (account ∷ accounts) place found =
    at_first (test account) (place_of test accounts) account accounts place found (means account) (λ later is. first_computer test means accounts later is)

machine_is : (accounts : List Account) (name : List ℕ) (channel : ℕ) (computer : List ℕ) (place : ℕ) → machine_in accounts name channel computer ≡ Some place → IsSomeAnd (slice_get accounts place) IsComputer
unfolding machine_in
machine_is accounts name channel computer place found =
    first_computer (λ account. has_name name account && is_machine_for channel computer account)
    (λ account is. kind_opens (has_name name account) (not account.disabled) account.kind channel _ _ is) accounts place found

-- ---- what was set before, and what is set then

same_kind : (old new : Account) → without_state new ≡ without_state old → IsComputer new → IsComputer old
same_kind old new same is = ap (λ (account : Account). is_user account.kind) (sym same) ∙ is

computer_left : (olds news : List Account) (place : ℕ) → map without_state news ≡ map without_state olds → IsSomeAnd (slice_get news place) IsComputer → IsSomeAnd (slice_get olds place) IsComputer
computer_left [] [] place same there = there
computer_left [] (new ∷ news) place same there = absurd cc
computer_left (old ∷ olds) [] place same there = absurd there
computer_left (old ∷ olds) (new ∷ news) zero same there = same_kind old new (let whole : without_state new ∷ map without_state news ≡ without_state old ∷ map without_state olds = same in cc) there
computer_left (old ∷ olds) (new ∷ news) (suc place) same there =
    computer_left olds news place (let whole : without_state new ∷ map without_state news ≡ without_state old ∷ map without_state olds = same in cc) there

settings_left : (olds news : List Account) (settings : List Setting) → map without_state news ≡ map without_state olds → AllByRecursion (IsSettingOf news) settings → AllByRecursion (IsSettingOf olds) settings
settings_left olds news [] same all = tt
settings_left olds news (setting ∷ settings) same all =
    (record { computer = computer_left olds news setting.0 same all.0.computer; hash = all.0.hash }, settings_left olds news settings same all.1)

both_settings : (accounts : List Account) (one two : List Setting) → AllByRecursion (IsSettingOf accounts) one → AllByRecursion (IsSettingOf accounts) two → AllByRecursion (IsSettingOf accounts) (one ++ two)
both_settings accounts [] two first second = second
both_settings accounts (setting ∷ one) two first second = (first.0, both_settings accounts one two first.1 second)

settings_join : (one two : List Setting) (accounts : List Account) → with_settings (one ++ two) accounts ≡ with_settings two (with_settings one accounts)
settings_join [] two accounts = refl
settings_join (setting ∷ one) two accounts = settings_join one two (at_place setting.0 (with_new_hash setting.1) accounts)

hash_uncounted : (place : ℕ) (hash : List ℕ) (accounts : List Account) → map (with_count 0) (at_place place (with_new_hash hash) accounts) ≡ at_place place (with_new_hash hash) (map (with_count 0) accounts)
hash_uncounted place hash [] = refl
hash_uncounted zero hash (account ∷ accounts) = refl
hash_uncounted (suc place) hash (account ∷ accounts) = ap (λ (more : List Account). with_count 0 account ∷ more) (hash_uncounted place hash accounts)

settings_uncounted : (settings : List Setting) (accounts : List Account) → map (with_count 0) (with_settings settings accounts) ≡ with_settings settings (map (with_count 0) accounts)
settings_uncounted [] accounts = refl
settings_uncounted (setting ∷ settings) accounts =
    settings_uncounted settings (at_place setting.0 (with_new_hash setting.1) accounts)
    ∙ ap (with_settings settings) (hash_uncounted setting.0 setting.1 accounts)

abbrev set_by : List Setting → AccountTable → AccountTable
set_by settings table = record table { accounts = with_settings settings table.accounts }

differ_set : (settings : List Setting) (old new : AccountTable) → DifferInCounts old new → DifferInCounts (set_by settings old) (set_by settings new)
differ_set settings old new differ = record {
  domain = differ.domain;
  sid = differ.sid;
  policy = differ.policy;
  accounts = settings_uncounted settings new.accounts ∙ ap (with_settings settings) differ.accounts ∙ sym (settings_uncounted settings old.accounts);
  trusts = differ.trusts;
}

sets_none : (old new : AccountTable) → DifferInCounts old new → SetsHashes old new
sets_none old new differ = record { settings = []; computers = tt; states = counts-states old new differ; differ = differ }

sets_joined : (one two three : AccountTable) → SetsHashes one two → SetsHashes two three → SetsHashes one three
sets_joined one two three first second = record {
  settings = first.settings ++ second.settings;
  computers = both_settings one.accounts first.settings second.settings first.computers
      (settings_left one.accounts two.accounts second.settings first.states.accounts second.computers);
  states = states-again one two three first.states second.states;
  differ = differs-again (set_by (first.settings ++ second.settings) one) (set_by second.settings two) three
      (subst (λ (accounts : List Account). DifferInCounts (record one { accounts = accounts }) (set_by second.settings two))
      (sym (settings_join first.settings second.settings one.accounts)) (differ_set second.settings (set_by first.settings one) two first.differ))
      second.differ;
}

-- ---- hashes of users stay

settled_at : (place : ℕ) (hash : List ℕ) (accounts : List Account) → map without_state accounts ≡ map without_state (at_place place (with_new_hash hash) accounts)
settled_at place hash [] = refl
settled_at zero hash (account ∷ accounts) = refl
settled_at (suc place) hash (account ∷ accounts) = ap (λ (more : List Account). without_state account ∷ more) (settled_at place hash accounts)

computer_secret : (of_user : Bool) (hash other : List ℕ) (changed : Bool) → of_user ≡ false → secret_if of_user hash true ≡ secret_if of_user other changed
computer_secret true hash other changed not = absurd cc
computer_secret false hash other changed not = refl

users_at : (place : ℕ) (hash : List ℕ) (accounts : List Account) → IsSomeAnd (slice_get accounts place) IsComputer → map user_secret (at_place place (with_new_hash hash) accounts) ≡ map user_secret accounts
users_at place hash [] there = refl
users_at zero hash (account ∷ accounts) there =
    ap (λ (first : Option (List ℕ × Bool)). first ∷ map user_secret accounts) (computer_secret (is_user account.kind) hash account.hash account.changed there)
users_at (suc place) hash (account ∷ accounts) there = ap (λ (more : List (Option (List ℕ × Bool))). user_secret account ∷ more) (users_at place hash accounts there)

users_set : (settings : List Setting) (accounts : List Account) → AllByRecursion (IsSettingOf accounts) settings → map user_secret (with_settings settings accounts) ≡ map user_secret accounts
users_set [] accounts all = refl
users_set (setting ∷ settings) accounts all =
    let set : List Account = at_place setting.0 (with_new_hash setting.1) accounts in
    users_set settings set (settings_left set accounts settings (settled_at setting.0 setting.1 accounts) all.1)
    ∙ users_at setting.0 setting.1 accounts all.0.computer

users_uncounted : (accounts : List Account) → map user_secret (map (with_count 0) accounts) ≡ map user_secret accounts
users_uncounted [] = refl
users_uncounted (account ∷ accounts) = ap (λ (more : List (Option (List ℕ × Bool))). user_secret account ∷ more) (users_uncounted accounts)

users_stay : (old new : AccountTable) → SetsHashes old new → map user_secret new.accounts ≡ map user_secret old.accounts
users_stay old new sets =
    sym (users_uncounted new.accounts)
    ∙ ap (map user_secret) sets.differ.accounts
    ∙ users_uncounted (with_settings sets.settings old.accounts)
    ∙ users_set sets.settings old.accounts sets.computers

-- ---- a call

sets_at : (found : Option ℕ) (hash : List ℕ) (table : AccountTable) (sessions : List Session) → IsHash hash → ((place : ℕ) → found ≡ Some place → IsSomeAnd (slice_get table.accounts place) IsComputer) →
    SetsHashes table (set_so found hash table sessions).table
unfolding with_hash
sets_at None hash table sessions is computer = sets_none table table (differs-none table)
sets_at (Some place) hash table sessions is computer = record {
  settings = (place, hash) ∷ [];
  computers = (record { computer = computer place refl; hash = is }, tt);
  states = with_hash-differs place hash table;
  differ = differs-none (with_hash place hash table);
}

done_sets : (c : JudgedCall) (computer key name : List ℕ) (now : ℕ) (table : AccountTable) (sessions : List Session) →
    SetsHashes table (done_asked (asked_of c) computer key name table now sessions).table
done_sets (Network c) computer key name now table sessions = sets_none table _ (levels (serves_level c.validation) table name c.info now)
done_sets (Interactive c) computer key name now table sessions = sets_none table _ (interactive_levels (serves_level c.validation) table name now c.info key)
done_sets (Logoff c) computer key name now table sessions = sets_none table table (differs-none table)
done_sets (NetworkLogoff c) computer key name now table sessions = sets_none table table (differs-none table)
done_sets (Set c) computer key name now table sessions =
    sets_at (machine_in table.accounts c.account c.channel computer) (show_of key c.hidden) table sessions (shown_is_secret key c.hidden)
    (λ place found. machine_is table.accounts c.account c.channel computer place found)

-- ---- a step

abbrev pub SetTrail : TableTrail
SetTrail calls before after = SetsHashes before after

pub set_walks : (name : List ℕ) (now : ℕ) → TableWalks name now SetTrail
set_walks name now = record {
  same = λ calls table. sets_none table table (differs-none table);
  join = λ one two a b c first second. sets_joined a b c first second;
  done = λ c computer key table sessions. done_sets c computer key name now table sessions;
}

pub hashes_are_set : HashesAreSet
hashes_are_set = record {
  step = λ s what now left.
      desk_leads (λ stepped. SetsHashes s.table stepped.state.table) (OfTables SetTrail) s what now left (table_walks s.name now SetTrail (set_walks s.name now)) (record {
        stopped = λ none. sets_none s.table s.table (differs-none s.table);
        spent = λ running is. sets_none s.table s.table (differs-none s.table);
        taken = λ running after links rest is leads. leads;
      });
  trusting = λ s what now left.
      trust_leads (λ stepped. SetsHashes s.table stepped.state.table) (OfTables SetTrail) s what now left (trust_table_walks s.name now SetTrail (set_walks s.name now)) (record {
        stopped = λ none. sets_none s.table s.table (differs-none s.table);
        spent = λ running is. sets_none s.table s.table (differs-none s.table);
        taken = λ running after rest is leads. leads;
      });
  joined = sets_joined;
  users = users_stay;
  again = λ table new different fresh sets. (set_by sets.settings table, secrets_kept table new sets.settings different fresh sets.computers sets.differ, sets.differ);
}
