-- Words that name no command of a program.
use Rattle.std.proofs.Common.{◌≡◌, ◌<◌, ◌≤◌, inl, inr, Bool, false, List, [], ◌∷◌, map, length, Option, Some, None, IfSome, Result, Err, codes, refl, sym, ap, ◌∙◌, arith}
use Rattle.std.specs.Str.{bytes_eq}
use Rattle.std.proofs.lemmas.Bool.{cases_Bool}
use Rattle.std.proofs.lemmas.Slice.Eq.{bytes_eq-Decides}
use lib.ListN.{get_or}
use Rattle.clap.specs.Words.{Text}
use Rattle.nt_words.specs.Jobs.{Form, rows_by, named_rows, is_led_by, job_by, controller_form, controller_job, controller_of, member_form, member_job, member_of, logon_form, logon_job, logon_of}
use Rattle.nt_words.specs.Roles.{job_of, job_at_once, logon_by, member_by, drill_by, station_by, service_from}
use Rattle.nt_words.specs.declared.job.Job.{Job}
use Rattle.nt_words.specs.declared.job.Role.{Role}
use Rattle.nt_words.specs.declared.job.Role.TheVariants.{Controller, Member, Logon}
use Rattle.nt_words.specs.declared.job.Service.TheVariants as services
use Rattle.nt_words.specs.declared.options.WordsRefused.{WordsRefused}
use Rattle.nt_words.specs.declared.options.WordsRefused.TheVariants.{BadWords}

not_led : (form : Form) (words : List Text) → is_led_by form.name words ≡ false → rows_by form words ≡ Err (BadWords 0)
not_led form words other = ap (λ (b : Bool). named_rows b form words) other

pub no_controller : (words : List Text) → is_led_by (codes "serve") words ≡ false → controller_job words ≡ Err (BadWords 0)
unfolding controller_job
no_controller words other = ap (job_by controller_of) (not_led controller_form words other)

pub no_member : (words : List Text) → is_led_by (codes "serve") words ≡ false → member_job words ≡ Err (BadWords 0)
unfolding member_job
no_member words other = ap (job_by member_of) (not_led member_form words other)

pub no_logon : (words : List Text) → is_led_by (codes "logon") words ≡ false → logon_job words ≡ Err (BadWords 0)
unfolding logon_job
no_logon words other = ap (job_by logon_of) (not_led logon_form words other)

-- ---- words that name none of a program's commands are refused, and no memory is looked for

abbrev pub IsOther : Role → List Text → Type 0
IsOther role words = (job_of role words ≡ Err (BadWords 0)) × IfSome (job_at_once role words) (λ due. due ≡ Err (BadWords 0))

of_controller : (words : List Text) → is_led_by (codes "serve") words ≡ false → IsOther Controller words
of_controller words serve = (ap (service_from services.Controller) (no_controller words serve), rw serve refl)

of_member : (words : List Text) → is_led_by (codes "check") words ≡ false → is_led_by (codes "serve") words ≡ false → IsOther Member words
of_member words check serve =
    (ap (λ (b : Bool). member_by b words) check ∙ ap (service_from services.Member) (no_member words serve), rw (check, serve) refl)

of_logon : (words : List Text) → is_led_by (codes "show") words ≡ false → is_led_by (codes "drill") words ≡ false → is_led_by (codes "station") words ≡ false →
    is_led_by (codes "logon") words ≡ false → IsOther Logon words
of_logon words show drill station logon = (
  ap (λ (b : Bool). logon_by b words) show ∙ (ap (λ (b : Bool). drill_by b words) drill
      ∙ (ap (λ (b : Bool). station_by b words) station ∙ ap (service_from services.Logon) (no_logon words logon))),
  rw (show, drill, station, logon) refl,
)

none : (role : Role) → IsOther role []
none Controller = of_controller [] refl
none Member = of_member [] refl refl
none Logon = of_logon [] refl refl refl refl

pub none_asked : {A : Type 0} (role : Role) (text : A → Text) (words : List A) → length words < 1 → IsOther role (map text words)
none_asked role text [] few = none role
none_asked role text (word ∷ words) few = absurd (omega (arith, few))

-- the first of these words, by its text
pub record IsFirst {A : Type 0} (text : A → Text) (words : List A) (command : Text) : Type 0 where
  pub word : A
  pub some : 1 ≤ length words
  pub word_is : word ≡ get_or words 0 word
  pub command_is : command ≡ text word

unled : {A : Type 0} (text : A → Text) (words : List A) (command : Text) → IsFirst text words command → (name : Text) → (command ≡ name → ⊥) →
    is_led_by name (map text words) ≡ false
unled text [] command first name other = absurd (omega (arith, first.some))
unled text (word ∷ words) command first name other =
    elim (cases_Bool (bytes_eq (text word) name)) [
      | inl same ↦ absurd (other (first.command_is ∙ (ap text first.word_is ∙ (bytes_eq-Decides (text word) name).0 same)))
      | inr differs ↦ differs
    ]

pub other_of_controller : {A : Type 0} (text : A → Text) (words : List A) (command : Text) → IsFirst text words command →
    (command ≡ codes "serve" → ⊥) → IsOther Controller (map text words)
other_of_controller text words command first serve = of_controller (map text words) (unled text words command first (codes "serve") serve)

pub other_of_member : {A : Type 0} (text : A → Text) (words : List A) (command : Text) → IsFirst text words command →
    (command ≡ codes "check" → ⊥) → (command ≡ codes "serve" → ⊥) → IsOther Member (map text words)
other_of_member text words command first check serve =
    of_member (map text words) (unled text words command first (codes "check") check) (unled text words command first (codes "serve") serve)

pub other_of_logon : {A : Type 0} (text : A → Text) (words : List A) (command : Text) → IsFirst text words command →
    (command ≡ codes "show" → ⊥) → (command ≡ codes "drill" → ⊥) → (command ≡ codes "station" → ⊥) → (command ≡ codes "logon" → ⊥) → IsOther Logon (map text words)
other_of_logon text words command first show drill station logon =
    of_logon (map text words) (unled text words command first (codes "show") show) (unled text words command first (codes "drill") drill)
    (unled text words command first (codes "station") station) (unled text words command first (codes "logon") logon)

at_once : (seen : Option (Result Job WordsRefused)) (came : Result Job WordsRefused) → IfSome seen (λ due. due ≡ Err (BadWords 0)) → came ≡ Err (BadWords 0) →
    IfSome seen (λ due. came ≡ due)
at_once None came other is = _
at_once (Some due) came other is = is ∙ sym other

pub other_at_once : (role : Role) (words : List Text) (came : Result Job WordsRefused) → IsOther role words → came ≡ Err (BadWords 0) →
    IfSome (job_at_once role words) (λ due. came ≡ due)
other_at_once role words came other is = at_once (job_at_once role words) came other.1 is
