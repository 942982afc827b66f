-- The laws `what_secrets_keep`: the text of the secrets that were set in a table sets them again in the table that was
-- read, and in what is read nothing was set.
use Rattle.std.proofs.Common.{◌≡◌, ◌⊎◌, ℕ, zero, suc, ◌+◌, ◌-◌, ◌<◌, ◌≤◌, ◌==◌, if◌then◌else◌, Bool, true, false, List, [], ◌∷◌, ◌++◌, length, drop, map, Some, option_map, Ok, All, IsTrue, refl, sym, ap, subst, ◌∙◌, inl, inr, arith, append_assoc}
use Rattle.std.specs.List.{AllByRecursion, AllZip, AllPass, list_any, slice_get, slice_split}
use Rattle.std.specs.Option.{IsSomeAnd}
use Rattle.std.proofs.lemmas.Bool.{cases_Bool, and_parts, or_parts, not-true, ne_eqb, eqb-true, le-leb}
use Rattle.std.proofs.lemmas.List.{append-nil, length-append}
use Rattle.std.proofs.lemmas.List.Elements.{All-append, All-weaker}
use Rattle.std.proofs.lemmas.List.Splits.{slice_split_at}
use Rattle.std.proofs.Math.Seq.{take-append_seam, drop-append-add, get_or-append_seam}
use Rattle.toml.specs.Data.{Members}
use Rattle.hex.specs.Hex.{encode_lower, lower_digits, is_hex_digit}
use Rattle.hex.proofs.HexLemmas.{length-encode_with, decode_sized-encode_lower, IsOk-decode_sized}
use Rattle.wire_base.specs.Names.{IsName, IsNameByte, same_name}
use Rattle.wire_base.proofs.NameLaws.{same_name-Decides}
use Rattle.account_table.specs.AccountTable.{AccountTable, has_distinct_names}
use Rattle.account_table.specs.Changes.{at_place, with_count, with_new_hash, is_user, DifferInCounts}
use Rattle.account_table.specs.IsTable.{IsMachine, IsTableText, IsUser}
use Rattle.account_table.specs.LookUps.{place_in}
use Rattle.account_table.specs.Secrets.{IsFresh, IsHash, IsSettingOf, Setting, apply_secrets, computer_in, is_end, is_line, is_newline, is_set, line_of, secrets_of, setting_of, settings_after, settings_of, with_settings}
use Rattle.account_table.specs.declared.account.Account.{Account}
use Rattle.account_table.proofs.IndexLaws.{same_name-sym}
use Rattle.account_table.proofs.SecretLaws.{settings_more}

-- ---- an account's own name finds it

any_at : (test : Account → Bool) (accounts : List Account) (i : ℕ) (account : Account) → list_any test accounts ≡ false → slice_get accounts i ≡ Some account → test account ≡ false
any_at test [] i account none found = absurd (cc)
any_at test (first ∷ accounts) zero account none found =
    let is : first ≡ account = cc in
    rw (← is) (or_parts (test first) (list_any test accounts) none).0
any_at test (first ∷ accounts) (suc i) account none found =
    any_at test accounts i account (or_parts (test first) (list_any test accounts) none).1 found

own_place : (accounts : List Account) (i : ℕ) (account : Account) → has_distinct_names accounts ≡ true → slice_get accounts i ≡ Some account → place_in accounts account.name ≡ Some i
unfolding place_in
own_place [] i account different found = absurd (cc)
own_place (first ∷ accounts) zero account different found =
    let is : first ≡ account = cc in
    let same : same_name account.name first.name ≡ true = (same_name-Decides account.name first.name).1 (rw is refl) in
    rw same refl
own_place (first ∷ accounts) (suc i) account different found =
    let parts = and_parts _ _ different in
    let apart : same_name first.name account.name ≡ false = any_at (λ (other : Account). same_name first.name other.name) accounts i account (not-true _ parts.0) found in
    let other : same_name account.name first.name ≡ false = same_name-sym account.name first.name apart in
    rw other (ap (option_map suc) (own_place accounts i account parts.1 found))

own_computer : (accounts : List Account) (i : ℕ) (account : Account) → has_distinct_names accounts ≡ true → slice_get accounts i ≡ Some account → is_user account.kind ≡ false → computer_in accounts account.name ≡ Some i
unfolding computer_in
own_computer accounts i account different found computer =
    rw (own_place accounts i account different found, found, computer) refl

-- ---- a line is read back

newline_of_name : (byte : ℕ) → IsNameByte byte → is_newline byte ≡ false
newline_of_name byte is = ne_eqb byte 10 (λ e. omega (arith, is.0, e))

digits_of : (hash : List ℕ) → IsHash hash → AllPass is_hex_digit (encode_lower hash)
digits_of hash is =
    ((IsOk-decode_sized (encode_lower hash) 16).0 (rw (decode_sized-encode_lower hash 16 is.0 is.1) refl)).1

newline_of_digit : (byte : ℕ) → is_hex_digit byte ≡ true → is_newline byte ≡ false
newline_of_digit byte digit =
    elim (cases_Bool (byte == 10)) [
      | inl newline ↦
          absurd (let is : byte ≡ 10 = eqb-true byte 10 newline in
          let ten : is_hex_digit 10 ≡ true = rw is at digit in
          cc)
      | inr other ↦ other
    ]

-- the line without its newline
abbrev front_of : List ℕ → List ℕ → List ℕ
front_of name hash = name ++ 32 ∷ encode_lower hash

no_newline : (name hash : List ℕ) → IsName name → IsHash hash → All (λ byte. is_newline byte ≡ false) (front_of name hash)
no_newline name hash is hash_is =
    All-append (λ byte. is_newline byte ≡ false) name (32 ∷ encode_lower hash) (All-weaker _ _ newline_of_name name is.1)
    (All-append (λ byte. is_newline byte ≡ false) (32 ∷ []) (encode_lower hash) one (All-weaker _ _ newline_of_digit (encode_lower hash) (digits_of hash hash_is))) where
      one : All (λ byte. is_newline byte ≡ false) (32 ∷ [])
      one zero d within = refl
      one (suc k) d within = absurd (omega (arith, within))

length-digits : (hash : List ℕ) → IsHash hash → length (encode_lower hash) ≡ 32
length-digits hash is = omega (arith, length-encode_with lower_digits hash, is.0)

length-front : (name hash : List ℕ) → IsHash hash → length (front_of name hash) ≡ length name + 33
length-front name hash is = omega (arith, length-append name (32 ∷ encode_lower hash), length-digits hash is)

line_is : (name hash : List ℕ) → IsHash hash → is_line (front_of name hash) ≡ true
line_is name hash is =
    let count = length-front name hash is in
    let place : length (front_of name hash) - 33 ≡ length name = omega (arith, count) in
    let long : 33 ≤ length (front_of name hash) = omega (arith, count) in
    rw (le-leb _ _ long, place, get_or-append_seam name 32 (encode_lower hash) 0) refl

setting_line : (accounts : List Account) (name hash : List ℕ) (place : ℕ) → computer_in accounts name ≡ Some place → IsHash hash → setting_of accounts (front_of name hash) ≡ Some (place, hash)
unfolding setting_of
setting_line accounts name hash place found is =
    let count = length-front name hash is in
    let at : length (front_of name hash) - 33 ≡ length name = omega (arith, count) in
    let behind : length (front_of name hash) - 32 ≡ length name + 1 = omega (arith, count) in
    let digits : drop (length name + 1) (front_of name hash) ≡ encode_lower hash = drop-append-add name (32 ∷ encode_lower hash) 1 in
    rw (line_is name hash is, at, behind, take-append_seam name (32 ∷ encode_lower hash), digits, found, decode_sized-encode_lower hash 16 is.0 is.1) refl

no_end : (name hash : List ℕ) (lines : List (List ℕ)) → is_end (front_of name hash) lines ≡ false
no_end name hash lines =
    let some : (length (front_of name hash) == 0) ≡ false = ne_eqb _ 0 (λ e. omega (arith, e, length-append name (32 ∷ encode_lower hash))) in
    rw some refl

-- ---- what is set is what was set

-- the account now, by the one that was read: the same with no mark, or a computer's with another hash
abbrev IsSetBy : Account → Account → Type 0
IsSetBy old new = ((new ≡ old) × (old.changed ≡ false)) ⊎ ((new ≡ with_new_hash new.hash old) × ((is_user old.kind ≡ false) × IsHash new.hash))

abbrev AreSetBy : List Account → List Account → Type 0
AreSetBy [] [] = Unit {0}
AreSetBy [] (new ∷ news) = ⊥
AreSetBy (old ∷ olds) [] = ⊥
AreSetBy (old ∷ olds) (new ∷ news) = IsSetBy old new × AreSetBy olds news

set_none : (olds : List Account) → AllByRecursion IsFresh olds → AreSetBy olds olds
set_none [] fresh = tt
set_none (old ∷ olds) fresh = (inl (refl, fresh.0.1), set_none olds fresh.1)

set_again : (old new : Account) (hash : List ℕ) → IsSetBy old new → is_user old.kind ≡ false → IsHash hash → IsSetBy old (with_new_hash hash new)
set_again old new hash (inl same) computer is = inr (ap (with_new_hash hash) same.0, (computer, is))
set_again old new hash (inr set) computer is = inr (ap (with_new_hash hash) set.0, (computer, is))

set_at : (olds news : List Account) (place : ℕ) (hash : List ℕ) → AreSetBy olds news → IsSomeAnd (slice_get olds place) (λ account. is_user account.kind ≡ false) → IsHash hash → AreSetBy olds (at_place place (with_new_hash hash) news)
set_at [] [] place hash set there is = tt
set_at [] (new ∷ news) place hash set there is = absurd set
set_at (old ∷ olds) [] place hash set there is = absurd set
set_at (old ∷ olds) (new ∷ news) zero hash set there is = (set_again old new hash set.0 there is, set.1)
set_at (old ∷ olds) (new ∷ news) (suc place) hash set there is = (set.0, set_at olds news place hash set.1 there is)

set_all : (olds news : List Account) (settings : List Setting) → AreSetBy olds news → AllByRecursion (IsSettingOf olds) settings → AreSetBy olds (with_settings settings news)
set_all olds news [] set all = set
set_all olds news (setting ∷ settings) set all = set_all olds _ settings (set_at olds news setting.0 setting.1 set all.0.computer all.0.hash) all.1

-- ---- what the text sets

abbrev settings_in : ℕ → List Account → List Setting
settings_in place [] = []
settings_in place (account ∷ accounts) = if account.changed then (place, account.hash) ∷ settings_in (suc place) accounts else settings_in (suc place) accounts

in_marked : (place : ℕ) (account : Account) (accounts : List Account) → account.changed ≡ true → settings_in place (account ∷ accounts) ≡ (place, account.hash) ∷ settings_in (suc place) accounts
in_marked place account accounts marked = rw marked refl

in_unmarked : (place : ℕ) (account : Account) (accounts : List Account) → account.changed ≡ false → settings_in place (account ∷ accounts) ≡ settings_in (suc place) accounts
in_unmarked place account accounts unmarked = rw unmarked refl

-- of a computer's account its name finds it, that many places on
abbrev Finds : List Account → ℕ → List Account → Type 0
Finds accounts place olds = (i : ℕ) (old : Account) → slice_get olds i ≡ Some old → is_user old.kind ≡ false → computer_in accounts old.name ≡ Some (place + i)

finds_later : (accounts : List Account) (place : ℕ) (old : Account) (olds : List Account) → Finds accounts place (old ∷ olds) → Finds accounts (suc place) olds
finds_later accounts place old olds finds i account found computer =
    finds (suc i) account found computer ∙ ap (λ (n : ℕ). Some n) (omega arith)

-- all that is set stands before the place
abbrev AreBefore : ℕ → List Setting → Type 0
AreBefore place done = AllByRecursion (λ setting. setting.0 < place) done

before_more : (place : ℕ) (done : List Setting) → AreBefore place done → AreBefore (suc place) done
before_more place [] before = tt
before_more place (setting ∷ done) before = (omega (arith, before.0), before_more place done before.1)

before_also : (place : ℕ) (hash : List ℕ) (done : List Setting) → AreBefore place done → AreBefore (suc place) (done ++ (place, hash) ∷ [])
before_also place hash [] before = (omega arith, tt)
before_also place hash (setting ∷ done) before = (omega (arith, before.0), before_also place hash done before.1)

not_set : (place : ℕ) (done : List Setting) → AreBefore place done → is_set place done ≡ false
not_set place [] before = refl
not_set place (setting ∷ done) before =
    let other : (setting.0 == place) ≡ false = ne_eqb setting.0 place (λ e. omega (arith, e, before.0)) in
    rw (other, not_set place done before.1) refl

line_first : (account : Account) (accounts : List Account) → account.changed ≡ true → secrets_of (account ∷ accounts) ≡ front_of account.name account.hash ++ 10 ∷ secrets_of accounts
unfolding line_of
line_first account accounts marked = rw marked (simp append_assoc)

line_none : (account : Account) (accounts : List Account) → account.changed ≡ false → secrets_of (account ∷ accounts) ≡ secrets_of accounts
line_none account accounts unmarked = rw unmarked refl

read_back : (accounts : List Account) (place : ℕ) (done : List Setting) (olds news : List Account) → AreSetBy olds news → AllByRecursion IsFresh olds → Finds accounts place olds → AreBefore place done → settings_after accounts done (slice_split is_newline (secrets_of news)) ≡ Some (done ++ settings_in place news)
read_back accounts place done [] [] set fresh finds before = ap (λ (settings : List Setting). Some settings) (sym (append-nil done))
read_back accounts place done [] (new ∷ news) set fresh finds before = absurd set
read_back accounts place done (old ∷ olds) [] set fresh finds before = absurd set
read_back accounts place done (old ∷ olds) (new ∷ news) ((inl same), later) fresh finds before =
    let unmarked : new.changed ≡ false = ap (λ (account : Account). account.changed) same.0 ∙ same.1 in
    rw (line_none new news unmarked, in_unmarked place new news unmarked)
    (read_back accounts (suc place) done olds news later fresh.1 (finds_later accounts place old olds finds) (before_more place done before))
read_back accounts place done (old ∷ olds) (new ∷ news) ((inr set), later) fresh finds before =
    let marked : new.changed ≡ true = ap (λ (account : Account). account.changed) set.0 in
    let named : new.name ≡ old.name = ap (λ (account : Account). account.name) set.0 in
    let name_is : IsName new.name = subst IsName (sym named) fresh.0.0 in
    let found : computer_in accounts new.name ≡ Some place = ap (computer_in accounts) named ∙ finds 0 old refl set.1.0 ∙ ap (λ (n : ℕ). Some n) (omega arith) in
    let hash : List ℕ = new.hash in
    let cut : slice_split is_newline (secrets_of (new ∷ news)) ≡ front_of new.name hash ∷ slice_split is_newline (secrets_of news) =
    ap (slice_split is_newline) (line_first new news marked) ∙ slice_split_at is_newline (front_of new.name hash) 10 (secrets_of news) (no_newline new.name hash name_is set.1.1) refl in
    let more : settings_after accounts done (front_of new.name hash ∷ slice_split is_newline (secrets_of news)) ≡ settings_after accounts (done ++ (place, hash) ∷ []) (slice_split is_newline (secrets_of news)) =
    settings_more accounts done (front_of new.name hash) (slice_split is_newline (secrets_of news)) (place, hash) (no_end new.name hash (slice_split is_newline (secrets_of news))) (setting_line accounts new.name hash place found set.1.1) (not_set place done before) in
    let rest = read_back accounts (suc place) (done ++ (place, hash) ∷ []) olds news later fresh.1 (finds_later accounts place old olds finds) (before_also place hash done before) in
    rw (cut, in_marked place new news marked) (more ∙ rest ∙ ap (λ (settings : List Setting). Some settings) (append_assoc done ((place, hash) ∷ []) (settings_in (suc place) news)))

-- ---- what it makes of the accounts

abbrev shifted : List Setting → List Setting
shifted settings = map (λ (setting : Setting). (suc setting.0, setting.1)) settings

shifted_in : (place : ℕ) (accounts : List Account) → settings_in (suc place) accounts ≡ shifted (settings_in place accounts)
shifted_in place [] = refl
shifted_in place (account ∷ accounts) =
    elim (cases_Bool account.changed) [
      | inl marked ↦ rw marked (ap (λ (settings : List Setting). (suc place, account.hash) ∷ settings) (shifted_in (suc place) accounts))
      | inr unmarked ↦ rw unmarked (shifted_in (suc place) accounts)
    ]

with_shifted : (settings : List Setting) (account : Account) (accounts : List Account) → with_settings (shifted settings) (account ∷ accounts) ≡ account ∷ with_settings settings accounts
with_shifted [] account accounts = refl
with_shifted (setting ∷ settings) account accounts = with_shifted settings account (at_place setting.0 (with_new_hash setting.1) accounts)

set_back : (olds news : List Account) → AreSetBy olds news → with_settings (settings_in 0 news) olds ≡ news
set_back [] [] set = refl
set_back [] (new ∷ news) set = absurd set
set_back (old ∷ olds) [] set = absurd set
set_back (old ∷ olds) (new ∷ news) ((inl same), later) =
    let unmarked : new.changed ≡ false = ap (λ (account : Account). account.changed) same.0 ∙ same.1 in
    ap (λ (settings : List Setting). with_settings settings (old ∷ olds)) (in_unmarked 0 new news unmarked ∙ shifted_in 0 news)
    ∙ (with_shifted (settings_in 0 news) old olds ∙ ap (λ (accounts : List Account). old ∷ accounts) (set_back olds news later) ∙ ap (λ (account : Account). account ∷ news) (sym same.0))
set_back (old ∷ olds) (new ∷ news) ((inr set), later) =
    let marked : new.changed ≡ true = ap (λ (account : Account). account.changed) set.0 in
    ap (λ (settings : List Setting). with_settings settings (old ∷ olds)) (in_marked 0 new news marked)
    ∙ ap (λ (settings : List Setting). with_settings settings (with_new_hash new.hash old ∷ olds)) (shifted_in 0 news)
    ∙ (with_shifted (settings_in 0 news) (with_new_hash new.hash old) olds ∙ ap (λ (accounts : List Account). with_new_hash new.hash old ∷ accounts) (set_back olds news later) ∙ ap (λ (account : Account). account ∷ news) (sym set.0))

-- ---- counts of bad passwords stand in no text

pub uncounted : (accounts : List Account) → secrets_of (map (with_count 0) accounts) ≡ secrets_of accounts
unfolding line_of
uncounted [] = refl
uncounted (account ∷ accounts) =
    elim (cases_Bool account.changed) [
      | inl marked ↦ rw (marked, uncounted accounts) refl
      | inr unmarked ↦ rw (unmarked, uncounted accounts) refl
    ]

pub secrets_kept : (table new : AccountTable) (settings : List Setting) → IsTrue (has_distinct_names table.accounts) → AllByRecursion IsFresh table.accounts → AllByRecursion (IsSettingOf table.accounts) settings → DifferInCounts (record table { accounts = with_settings settings table.accounts }) new → apply_secrets table (secrets_of new.accounts) ≡ Ok (record table { accounts = with_settings settings table.accounts })
unfolding apply_secrets settings_of
secrets_kept table new settings different fresh all differ =
    let news : List Account = with_settings settings table.accounts in
    let text : secrets_of new.accounts ≡ secrets_of news = sym (uncounted new.accounts) ∙ ap secrets_of differ.accounts ∙ uncounted news in
    let set : AreSetBy table.accounts news = set_all table.accounts table.accounts settings (set_none table.accounts fresh) all in
    let finds : Finds table.accounts 0 table.accounts = λ i old found computer. own_computer table.accounts i old different found computer ∙ ap (λ (n : ℕ). Some n) (omega arith) in
    let read : settings_after table.accounts [] (slice_split is_newline (secrets_of news)) ≡ Some (settings_in 0 news) = read_back table.accounts 0 [] table.accounts news set fresh finds tt in
    rw (text, read, set_back table.accounts news set) refl

-- ---- in a table that is read nothing was set

abbrev IsUnset : Account → Type 0
IsUnset account = account.changed ≡ false

unset_each : (Is : Members → Account → Type 0) → ((entry : Members) (account : Account) → Is entry account → IsUnset account) → (entries : List Members) (accounts : List Account) → AllZip Is entries accounts → AllByRecursion IsUnset accounts
unset_each Is unset [] [] each = tt
unset_each Is unset [] (account ∷ accounts) each = absurd each
unset_each Is unset (entry ∷ entries) [] each = tt
unset_each Is unset (entry ∷ entries) (account ∷ accounts) each = (unset entry account each.0, unset_each Is unset entries accounts each.1)

unset_both : (one other : List Account) → AllByRecursion IsUnset one → AllByRecursion IsUnset other → AllByRecursion IsUnset (one ++ other)
unset_both [] other all also = also
unset_both (account ∷ one) other all also = (all.0, unset_both one other all.1 also)

pub none_set : (text : List ℕ) (table : AccountTable) → IsTableText text table → AllByRecursion (λ account. account.changed ≡ false) table.accounts
none_set text table is =
    rw is.is.accounts
    (unset_both is.is.user_accounts is.is.machine_accounts
    (unset_each IsUser (λ entry account user. user.changed) is.is.users is.is.user_accounts is.is.each_user)
    (unset_each IsMachine (λ entry account machine. machine.changed) is.is.machines is.is.machine_accounts is.is.each_machine))
