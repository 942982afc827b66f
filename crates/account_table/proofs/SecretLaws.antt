-- Laws of the text of secrets, line by line.
use Rattle.std.proofs.Common.{◌≡◌, ℕ, zero, suc, ◌+◌, ◌-◌, ◌<◌, ◌==◌, ◌&&◌, cond, Bool, true, false, List, [], ◌∷◌, ◌++◌, length, take, drop, get_or, Some, None, All, refl, sym, ap, ◌∙◌, arith, inl, inr, add-one}
use Rattle.std.specs.List.{position, position_or_len, slice_split, onto_first}
use Rattle.std.proofs.lemmas.Bool.{ne_eqb, lt-ltb, le-ltb, cases_lt}
use Rattle.std.proofs.lemmas.List.{take_rest, at_drop_more}
use Rattle.std.proofs.lemmas.List.Splits.{slice_split_none, slice_split_first}
use Rattle.account_table.specs.Changes.{at_place, with_new_hash}
use Rattle.account_table.specs.Secrets.{Setting, is_end, is_newline, is_set, setting_of, settings_after, with_settings}
use Rattle.account_table.specs.declared.account.Account.{Account}

-- ---- cutting at the first newline

split_at : (p : ℕ → Bool) (text : List ℕ) (at : ℕ) → position p text ≡ Some at → slice_split p text ≡ take at text ∷ slice_split p (drop (at + 1) text)
split_at p text at found =
    elim (cases_lt (position_or_len p text) (length text)) [
      | inl inside ↦
          let here : position p text ≡ Some (position_or_len p text) = rw (lt-ltb _ _ inside) refl in
          let at-is : position_or_len p text ≡ at = cc in
          slice_split_first p text 0 inside ∙ rw (at-is, add-one) refl
      | inr past ↦ absurd (let none : position p text ≡ None = rw (le-ltb _ _ past) refl in cc)
    ]

pub split_at_newline : (text : List ℕ) (at : ℕ) → position is_newline text ≡ Some at → slice_split is_newline text ≡ take at text ∷ slice_split is_newline (take (length text - (at + 1)) (drop (at + 1) text))
split_at_newline text at found = rw take_rest (split_at is_newline text at found)

pub split_none : (text : List ℕ) → All (λ byte. is_newline byte ≡ false) text → slice_split is_newline text ≡ text ∷ []
split_none text none = slice_split_none is_newline text none

pub ruleset splitting = (split_at_newline, split_none)

-- ---- a text has a line

some_by : (b : Bool) (x : ℕ) (parts : List (List ℕ)) → (length (cond b ([] ∷ parts) (onto_first x parts)) == 0) ≡ false
some_by true x parts = ne_eqb _ _ (λ e. omega (arith, e))
some_by false x [] = refl
some_by false x (part ∷ parts) = ne_eqb _ _ (λ e. omega (arith, e))

pub some_line : (text : List ℕ) → (length (slice_split is_newline text) == 0) ≡ false
some_line [] = refl
some_line (x ∷ xs) = some_by (is_newline x) x (slice_split is_newline xs)

and_false : (b : Bool) → (b && false) ≡ false
and_false true = refl
and_false false = refl

pub not_end : (line text : List ℕ) → is_end line (slice_split is_newline text) ≡ false
not_end line text = rw (some_line text) (and_false (length line == 0))

pub ruleset ending = (not_end)

-- ---- line by line

module _ (accounts : List Account) (done : List Setting) (line : List ℕ) (lines : List (List ℕ)) where
  pub settings_end : is_end line lines ≡ true → settings_after accounts done (line ∷ lines) ≡ Some done
  settings_end ends = rw ends refl

  pub settings_more : (setting : Setting) → is_end line lines ≡ false → setting_of accounts line ≡ Some setting → is_set setting.0 done ≡ false → settings_after accounts done (line ∷ lines) ≡ settings_after accounts (done ++ setting ∷ []) lines
  settings_more setting on is new = rw (on, is, new) refl

  pub settings_bad : is_end line lines ≡ false → setting_of accounts line ≡ None → settings_after accounts done (line ∷ lines) ≡ None
  settings_bad on is = rw (on, is) refl

  pub settings_again : (setting : Setting) → is_end line lines ≡ false → setting_of accounts line ≡ Some setting → is_set setting.0 done ≡ true → settings_after accounts done (line ∷ lines) ≡ None
  settings_again setting on is old = rw (on, is, old) refl

pub ruleset lining = (settings_end, settings_more, settings_bad, settings_again)

-- ---- setting

pub length-at_place : (place : ℕ) (change : Account → Account) (accounts : List Account) → length (at_place place change accounts) ≡ length accounts
length-at_place place change [] = refl
length-at_place zero change (account ∷ accounts) = refl
length-at_place (suc place) change (account ∷ accounts) = ap suc (length-at_place place change accounts)

pub with_settings_step : (settings : List Setting) (i : ℕ) (none : Setting) (accounts : List Account) → i < length settings → with_settings (drop (i + 1) settings) (at_place (get_or settings i none).0 (with_new_hash (get_or settings i none).1) accounts) ≡ with_settings (drop i settings) accounts
with_settings_step settings i none accounts lt = sym (at_drop_more (λ (rest : List Setting). with_settings rest accounts) settings i none lt)

pub ruleset setting = (length-at_place, with_settings_step)
