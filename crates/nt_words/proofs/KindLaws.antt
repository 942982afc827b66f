-- What the values of options are where none is a misfit.
use Rattle.std.proofs.Common.{◌≡◌, ◌&&◌, ◌≤◌, ℕ, zero, suc, if◌then◌else◌, Bool, true, false, List, [], ◌∷◌, length, Option, Some, None, Ok, nat_le, codes, refl, sym, subst, ◌∙◌, arith}
use Rattle.std.specs.Int.{is_in_range}
use Rattle.std.specs.List.{list_all, All}
use Rattle.std.specs.Str.{bytes_eq}
use Rattle.std.proofs.lemmas.Bool.{leb-true}
use Rattle.clap.specs.Words.{Row, Text, first_of, fault_of, matches_of}
use Rattle.wire_base.specs.Names.{is_name, is_name_byte, IsName, IsNameByte}
use Rattle.unit_security.specs.Levels.{is_level}
use Rattle.logon_client.specs.declared.plan.AuthKind.TheVariants.{V1, V1Ess, V2}
use Rattle.nt_words.specs.Forms.{IsAddress, IsControllerForm, IsMemberForm, IsLogonForm, IsStationForm, IsDrillForm}
use Rattle.nt_words.specs.Jobs.{Form, form, rows_by, rows_of_values, named_rows, fault_rows, misfit_rows, is_led_by, or_else, number_in, level_in, auth_in, controller_form, member_form, logon_form, station_form, drill_form, controller_of, member_of, logon_of, station_of, drill_of}
use Rattle.nt_words.specs.Options.{Choice, choice, suits, suits_in, first_misfit, number_of, is_at_most, is_text}
use Rattle.nt_words.specs.Words.{app_with}
use Rattle.nt_words.specs.declared.options.Kind.TheVariants.{Address, Name, Number, Auth}
use Rattle.nt_words.proofs.MisfitLaws.{none}

both : (b c : Bool) → (b && c) ≡ true → (b ≡ true) × (c ≡ true)
both true true e = (refl, refl)
both true false e = cc
both false c e = cc

-- ---- rows that were read suit their options

misfits_none : (found : Option ℕ) (rows read : List Row) → misfit_rows found rows ≡ Ok read → (found ≡ None) × (rows ≡ read)
misfits_none None rows read is = (refl, cc)
misfits_none (Some number) rows read is = absurd cc

values_suit : (choices : List Choice) (rows read : List Row) → rows_of_values choices rows ≡ Ok read → list_all (suits_in read) choices ≡ true
values_suit choices rows read is =
    let found = misfits_none (first_misfit 1 choices rows) rows read is in
    subst (λ (r : List Row). list_all (suits_in r) choices ≡ true) found.1 (none 1 choices rows found.0)

faults_suit : {F : Type 0} (faults : List F) (choices : List Choice) (rows read : List Row) → fault_rows faults choices rows ≡ Ok read → list_all (suits_in read) choices ≡ true
faults_suit [] choices rows read is = values_suit choices rows read is
faults_suit (fault ∷ faults) choices rows read is = absurd cc

named_suit : (led : Bool) (form : Form) (words : List Text) (read : List Row) → named_rows led form words ≡ Ok read → list_all (suits_in read) form.choices ≡ true
named_suit true form words read is = faults_suit (fault_of (app_with form.name form.choices) words) form.choices (matches_of (app_with form.name form.choices) words) read is
named_suit false form words read is = absurd cc

rows_suit : (form : Form) (words : List Text) (read : List Row) → rows_by form words ≡ Ok read → list_all (suits_in read) form.choices ≡ true
rows_suit form words read is = named_suit (is_led_by form.name words) form words read is

-- ---- each kind

in_range : (low high n : ℕ) → is_in_range low high n ≡ true → (low ≤ n) × (n ≤ high)
in_range low high n is = let parts = both (nat_le low n) (nat_le n high) is in (leb-true low n parts.0, leb-true n high parts.1)

each_byte : (text : List ℕ) → list_all is_name_byte text ≡ true → All IsNameByte text
each_byte [] e k d lt = absurd (omega arith)
each_byte (x ∷ xs) e zero d lt = in_range 0x20 0x7E x (both (is_name_byte x) (list_all is_name_byte xs) e).0
each_byte (x ∷ xs) e (suc k) d lt = each_byte xs (both (is_name_byte x) (list_all is_name_byte xs) e).1 k d (omega arith)

pub named : (text : List ℕ) → is_name text ≡ true → IsName text
named text is = let parts = both (nat_le (length text) 64) (list_all is_name_byte text) is in (leb-true (length text) 64 parts.0, each_byte text parts.1)

name_suits : (rows : List Row) (name : Text) (found : Option Text) → suits rows (choice name Name true) found ≡ true → IsName (or_else found [])
name_suits rows name None is = absurd cc
name_suits rows name (Some text) is = named text (both (is_in_range 1 64 (length text)) (is_name text) is).1

address_suits : (rows : List Row) (name : Text) (found : Option Text) → suits rows (choice name Address true) found ≡ true → IsAddress (or_else found [])
address_suits rows name None is = absurd cc
address_suits rows name (Some text) is = in_range 1 255 (length text) is

at_most : (most : ℕ) (number : Option ℕ) → is_at_most most number ≡ true → or_else number 0 ≤ most
at_most most None is = absurd cc
at_most most (Some n) is = leb-true n most is

number_suits : (rows : List Row) (name : Text) (most : ℕ) (needed : Bool) (found : Option Text) → suits rows (choice name (Number most) needed) found ≡ true → number_in found 0 ≤ most
number_suits rows name most needed None is = omega arith
number_suits rows name most needed (Some text) is = at_most most (number_of text) is

level_one : (connect integrity : Bool) → is_level (if connect then 2 else if integrity then 5 else 6) ≡ true
level_one true integrity = refl
level_one false true = refl
level_one false false = refl

level_is : (found : Option Text) → is_level (level_in found) ≡ true
level_is None = refl
level_is (Some word) = level_one (bytes_eq word (codes "connect")) (bytes_eq word (codes "integrity"))

connects : (found : Option Text) → is_text (codes "connect") found ≡ true → level_in found ≡ 2
connects None is = absurd cc
connects (Some word) is = rw is refl

auth_one : (plain ess : Bool) → (if plain then V1 else if ess then V1Ess else V2) ≡ V1 → plain ≡ true
auth_one true ess is = refl
auth_one false true is = absurd cc
auth_one false false is = absurd cc

auth_suits : (rows : List Row) (found : Option Text) → suits rows (choice (codes "auth") Auth false) found ≡ true → auth_in found ≡ V1 → level_in (first_of (codes "level") rows) ≡ 2
auth_suits rows None is plain = absurd cc
auth_suits rows (Some word) is plain =
    let v1 = auth_one (bytes_eq word (codes "v1")) (bytes_eq word (codes "v1ess")) plain in
    connects (first_of (codes "level") rows) (sym (rw v1 refl) ∙ is)

-- ---- the rows of each command

abbrev pub EachSuits : List Row → List Choice → Type 0
EachSuits rows [] = Unit {0}
EachSuits rows (one ∷ more) = (suits rows one (first_of one.name rows) ≡ true) × EachSuits rows more

each : (rows : List Row) (choices : List Choice) → list_all (suits_in rows) choices ≡ true → EachSuits rows choices
each rows [] is = _
each rows (one ∷ more) is = let parts = both (suits_in rows one) (list_all (suits_in rows) more) is in (parts.0, each rows more parts.1)

pub controller_formed : (rows : List Row) → EachSuits rows controller_form.choices → IsControllerForm (controller_of rows)
controller_formed rows all = record {
  listen = address_suits rows (codes "listen") (first_of (codes "listen") rows) all.0;
  name = name_suits rows (codes "name") (first_of (codes "name") rows) all.1.0;
}

pub member_formed : (rows : List Row) → EachSuits rows member_form.choices → IsMemberForm (member_of rows)
member_formed rows all = record {
  listen = address_suits rows (codes "listen") (first_of (codes "listen") rows) all.0;
  computer = name_suits rows (codes "computer") (first_of (codes "computer") rows) all.1.0;
  domain = name_suits rows (codes "domain") (first_of (codes "domain") rows) all.1.1.0;
  controller = address_suits rows (codes "controller") (first_of (codes "controller") rows) all.1.1.1.1.0;
}

pub logon_formed : (rows : List Row) → EachSuits rows logon_form.choices → IsLogonForm (logon_of rows)
logon_formed rows all = record {
  server = address_suits rows (codes "server") (first_of (codes "server") rows) all.0;
  domain = name_suits rows (codes "domain") (first_of (codes "domain") rows) all.1.0;
  user = name_suits rows (codes "user") (first_of (codes "user") rows) all.1.1.0;
  workstation = name_suits rows (codes "workstation") (first_of (codes "workstation") rows) all.1.1.1.0;
  level = level_is (first_of (codes "level") rows);
  plain = auth_suits rows (first_of (codes "auth") rows) all.1.1.1.1.1.1.0;
  echo = number_suits rows (codes "echo") 4096 false (first_of (codes "echo") rows) all.1.1.1.1.1.1.1.0;
}

pub station_formed : (rows : List Row) → EachSuits rows station_form.choices → IsStationForm (station_of rows)
station_formed rows all = record {
  controller = address_suits rows (codes "controller") (first_of (codes "controller") rows) all.0;
  computer = name_suits rows (codes "computer") (first_of (codes "computer") rows) all.1.0;
  domain = name_suits rows (codes "domain") (first_of (codes "domain") rows) all.1.1.1.0;
  user = name_suits rows (codes "user") (first_of (codes "user") rows) all.1.1.1.1.0;
}

pub drill_formed : (rows : List Row) → EachSuits rows drill_form.choices → IsDrillForm (drill_of rows)
drill_formed rows all = record { moves = number_suits rows (codes "moves") 100000 true (first_of (codes "moves") rows) all.1.0 }

-- A job whose values are those of the rows has the form that each job of such rows has.
pub built : {J : Type 0} (IsForm : J → Type 0) (asked : Form) (of : List Row → J) → ((rows : List Row) → EachSuits rows asked.choices → IsForm (of rows)) →
    (words : List Text) (options : List Choice) (rows : List Row) (job : J) → options ≡ asked.choices → rows_by (form asked.name options) words ≡ Ok rows → job ≡ of rows → IsForm job
built IsForm asked of formed words options rows job choices read is =
    let whole = subst (λ (c : List Choice). rows_by (form asked.name c) words ≡ Ok rows) choices read in
    subst IsForm (sym is) (formed rows (each rows asked.choices (rows_suit asked words rows whole)))
