-- Which words ask for a service, for a check, a show or a drill, and what the words come to.
use Rattle.std.proofs.Common.{◌≡◌, ◌⊎◌, ◌||◌, inl, inr, ℕ, Bool, true, false, List, [], ◌∷◌, Result, Ok, Err, refl, sym, ap, subst, ◌∙◌, codes}
use Rattle.std.proofs.lemmas.Bool.{cases_Bool, or_right}
use Rattle.std.proofs.lemmas.Slice.Eq.{bytes_eq-Decides}
use Rattle.nt_words.specs.Jobs.{CheckJob, ShowJob, DrillJob, controller_job, member_job, logon_job, station_job, drill_job, is_led_by}
use Rattle.nt_words.specs.Roles.{check, show, command_from, service_from, job_of, member_by, logon_by, drill_by, station_by}
use Rattle.nt_words.specs.declared.job.Command.{Command}
use Rattle.nt_words.specs.declared.job.Command.TheVariants as commands
use Rattle.nt_words.specs.declared.job.Job.{Job}
use Rattle.nt_words.specs.declared.job.Job.TheVariants as jobs
use Rattle.nt_words.specs.declared.job.Role.{Role}
use Rattle.nt_words.specs.declared.job.Role.TheVariants.{Controller, Member, Logon}
use Rattle.nt_words.specs.declared.job.Service.{Service}
use Rattle.nt_words.specs.declared.job.Service.TheVariants as services
use Rattle.nt_words.specs.declared.options.WordsRefused.{WordsRefused}
use Rattle.nt_words.specs.declared.options.WordsRefused.TheVariants as refusals
use Rattle.nt_top.specs.declared.answer.Answer.{Answer}
use Rattle.nt_top.specs.declared.exit.Exit.{Exit}
use Rattle.nt_top.specs.declared.exit.Exit.TheVariants.{BadWords, BadInput, NoMemory}
use Rattle.nt_top.specs.Answers.{answer_from}
use Rattle.nt_top.specs.Causes.{IsBadOfCheck, ShowsNothing}
use Rattle.nt_top.specs.Check.{check_answer}
use Rattle.nt_top.specs.Drill.{drill_text}
use Rattle.nt_top.specs.Service.{ActsByWords, uses_port}
use Rattle.nt_top.specs.Show.{show_answer, shown}
use Rattle.nt_words.proofs.RoleLaws.{no_member, no_logon}
use Rattle.nt_top.proofs.NeedsLaws.{ok_injective, err_injective, ok_no_err}
use Rattle.nt_top.proofs.CheckLaws.{check_err}
use Rattle.nt_top.proofs.ShownLaws.{show_err}

-- ---- the words of a job

-- the words of `check`
abbrev pub check_words : CheckJob → List (List ℕ)
check_words job = codes "check" ∷ job.hash ∷ job.challenge ∷ job.message ∷ []

-- the words of `show`
abbrev pub show_words : ShowJob → List (List ℕ)
show_words job = codes "show" ∷ job.message ∷ []

check_injective : {a b : CheckJob} → ◌≡◌ {A = Result Job WordsRefused} (Ok (jobs.Command (commands.Check a))) (Ok (jobs.Command (commands.Check b))) → a ≡ b
check_injective e = cc

show_injective : {a b : ShowJob} → ◌≡◌ {A = Result Job WordsRefused} (Ok (jobs.Command (commands.Show a))) (Ok (jobs.Command (commands.Show b))) → a ≡ b
show_injective e = cc

no_service : {X : Type 0} (wrap : X → Command) (r : Result X WordsRefused) (service : Service) → command_from wrap r ≡ Ok (jobs.Service service) → ⊥
no_service wrap (Ok x) service e = absurd (let wrong = e in cc)
no_service wrap (Err refused) service e = absurd (let wrong = e in cc)

no_command : {X : Type 0} (wrap : X → Service) (r : Result X WordsRefused) (command : Command) → service_from wrap r ≡ Ok (jobs.Command command) → ⊥
no_command wrap (Ok x) command e = absurd (let wrong = e in cc)
no_command wrap (Err refused) command e = absurd (let wrong = e in cc)

of_check : (words : List (List ℕ)) (job : CheckJob) → is_led_by (codes "check") words ≡ true → check words ≡ Ok (jobs.Command (commands.Check job)) → words ≡ check_words job
of_check (command ∷ h ∷ c ∷ m ∷ []) job led e =
    let command-is : command ≡ codes "check" = (bytes_eq-Decides command (codes "check")).0 led in
    let job-is : record { hash = h; challenge = c; message = m } ≡ job = check_injective e in
    subst (λ (j : CheckJob). (command ∷ h ∷ c ∷ m ∷ []) ≡ check_words j) job-is (ap (λ (first : List ℕ). first ∷ h ∷ c ∷ m ∷ []) command-is)
of_check [] job led e = cc
of_check (command ∷ []) job led e = cc
of_check (command ∷ h ∷ []) job led e = cc
of_check (command ∷ h ∷ c ∷ []) job led e = cc
of_check (command ∷ h ∷ c ∷ m ∷ more ∷ words) job led e = cc

of_show : (words : List (List ℕ)) (job : ShowJob) → is_led_by (codes "show") words ≡ true → show words ≡ Ok (jobs.Command (commands.Show job)) → words ≡ show_words job
of_show (command ∷ m ∷ []) job led e =
    let command-is : command ≡ codes "show" = (bytes_eq-Decides command (codes "show")).0 led in
    let job-is : record { message = m } ≡ job = show_injective e in
    subst (λ (j : ShowJob). (command ∷ m ∷ []) ≡ show_words j) job-is (ap (λ (first : List ℕ). first ∷ m ∷ []) command-is)
of_show [] job led e = cc
of_show (command ∷ []) job led e = cc
of_show (command ∷ m ∷ more ∷ words) job led e = cc

-- `check`, `show` and `drill` make no other job
abbrev IsCheck : Job → Type 0
IsCheck (jobs.Command (commands.Check job)) = Unit {0}
IsCheck _ = ⊥

abbrev IsShow : Job → Type 0
IsShow (jobs.Command (commands.Show job)) = Unit {0}
IsShow _ = ⊥

abbrev IsDrill : Job → Type 0
IsDrill (jobs.Command (commands.Drill job)) = Unit {0}
IsDrill _ = ⊥

checks : (words : List (List ℕ)) (job : Job) → check words ≡ Ok job → IsCheck job
checks (command ∷ h ∷ c ∷ m ∷ []) job e = subst IsCheck (ok_injective e) tt
checks [] job e = absurd (let wrong = e in cc)
checks (command ∷ []) job e = absurd (let wrong = e in cc)
checks (command ∷ h ∷ []) job e = absurd (let wrong = e in cc)
checks (command ∷ h ∷ c ∷ []) job e = absurd (let wrong = e in cc)
checks (command ∷ h ∷ c ∷ m ∷ more ∷ words) job e = absurd (let wrong = e in cc)

shows : (words : List (List ℕ)) (job : Job) → show words ≡ Ok job → IsShow job
shows (command ∷ m ∷ []) job e = subst IsShow (ok_injective e) tt
shows [] job e = absurd (let wrong = e in cc)
shows (command ∷ []) job e = absurd (let wrong = e in cc)
shows (command ∷ m ∷ more ∷ words) job e = absurd (let wrong = e in cc)

drills : (r : Result DrillJob WordsRefused) (job : Job) → command_from commands.Drill r ≡ Ok job → IsDrill job
drills (Ok x) job e = subst IsDrill (ok_injective e) tt
drills (Err refused) job e = absurd (let wrong = e in cc)

member_show : (led : Bool) (words : List (List ℕ)) (job : ShowJob) → member_by led words ≡ Ok (jobs.Command (commands.Show job)) → ⊥
member_show true words job e = checks words (jobs.Command (commands.Show job)) e
member_show false words job e = no_command services.Member (member_job words) (commands.Show job) e

station_none : (led : Bool) (words : List (List ℕ)) (command : Command) → station_by led words ≡ Ok (jobs.Command command) → ⊥
station_none true words command e = no_command services.Station (station_job words) command e
station_none false words command e = no_command services.Logon (logon_job words) command e

drill_check : (led : Bool) (words : List (List ℕ)) (job : CheckJob) → drill_by led words ≡ Ok (jobs.Command (commands.Check job)) → ⊥
drill_check true words job e = drills (drill_job words) (jobs.Command (commands.Check job)) e
drill_check false words job e = station_none (is_led_by (codes "station") words) words (commands.Check job) e

drill_show : (led : Bool) (words : List (List ℕ)) (job : ShowJob) → drill_by led words ≡ Ok (jobs.Command (commands.Show job)) → ⊥
drill_show true words job e = drills (drill_job words) (jobs.Command (commands.Show job)) e
drill_show false words job e = station_none (is_led_by (codes "station") words) words (commands.Show job) e

logon_check : (led : Bool) (words : List (List ℕ)) (job : CheckJob) → logon_by led words ≡ Ok (jobs.Command (commands.Check job)) → ⊥
logon_check true words job e = shows words (jobs.Command (commands.Check job)) e
logon_check false words job e = drill_check (is_led_by (codes "drill") words) words job e

pub job_of_check : (role : Role) (words : List (List ℕ)) (job : CheckJob) → job_of role words ≡ Ok (jobs.Command (commands.Check job)) → (role ≡ Member) × (words ≡ check_words job)
job_of_check Controller words job e = absurd (no_command services.Controller (controller_job words) (commands.Check job) e)
job_of_check Member words job e =
    elim (cases_Bool (is_led_by (codes "check") words)) [
      | inl led ↦ (refl, of_check words job led (sym (ap (λ (b : Bool). member_by b words) led) ∙ e))
      | inr other ↦ absurd (no_command services.Member (member_job words) (commands.Check job) (sym (ap (λ (b : Bool). member_by b words) other) ∙ e))
    ]
job_of_check Logon words job e = absurd (logon_check (is_led_by (codes "show") words) words job e)

pub job_of_show : (role : Role) (words : List (List ℕ)) (job : ShowJob) → job_of role words ≡ Ok (jobs.Command (commands.Show job)) → (role ≡ Logon) × (words ≡ show_words job)
job_of_show Controller words job e = absurd (no_command services.Controller (controller_job words) (commands.Show job) e)
job_of_show Member words job e = absurd (member_show (is_led_by (codes "check") words) words job e)
job_of_show Logon words job e =
    elim (cases_Bool (is_led_by (codes "show") words)) [
      | inl led ↦ (refl, of_show words job led (sym (ap (λ (b : Bool). logon_by b words) led) ∙ e))
      | inr other ↦ absurd (drill_show (is_led_by (codes "drill") words) words job (sym (ap (λ (b : Bool). logon_by b words) other) ∙ e))
    ]

member_drill : (led : Bool) (words : List (List ℕ)) (job : DrillJob) → member_by led words ≡ Ok (jobs.Command (commands.Drill job)) → ⊥
member_drill true words job e = checks words (jobs.Command (commands.Drill job)) e
member_drill false words job e = no_command services.Member (member_job words) (commands.Drill job) e

drill_led : (led : Bool) (words : List (List ℕ)) (job : DrillJob) → drill_by led words ≡ Ok (jobs.Command (commands.Drill job)) → led ≡ true
drill_led true words job e = refl
drill_led false words job e = absurd (station_none (is_led_by (codes "station") words) words (commands.Drill job) e)

logon_led : (led : Bool) (words : List (List ℕ)) (job : DrillJob) → logon_by led words ≡ Ok (jobs.Command (commands.Drill job)) → is_led_by (codes "drill") words ≡ true
logon_led true words job e = absurd (shows words (jobs.Command (commands.Drill job)) e)
logon_led false words job e = drill_led (is_led_by (codes "drill") words) words job e

pub job_of_drill : (role : Role) (words : List (List ℕ)) (job : DrillJob) → job_of role words ≡ Ok (jobs.Command (commands.Drill job)) → (role ≡ Logon) × (is_led_by (codes "drill") words ≡ true)
job_of_drill Controller words job e = absurd (no_command services.Controller (controller_job words) (commands.Drill job) e)
job_of_drill Member words job e = absurd (member_drill (is_led_by (codes "check") words) words job e)
job_of_drill Logon words job e = (refl, logon_led (is_led_by (codes "show") words) words job e)

-- ---- a command's program and words don't use the port, and a service's do

led_once : (words : List (List ℕ)) → is_led_by (codes "drill") words ≡ true → uses_port Logon words ≡ false
led_once [] led = absurd (let wrong = led in cc)
led_once (command ∷ words) led = subst (λ (c : List ℕ). uses_port Logon (c ∷ words) ≡ false) (sym ((bytes_eq-Decides command (codes "drill")).0 led)) refl

pub acts_by_words : (role : Role) (words : List (List ℕ)) (command : Command) → job_of role words ≡ Ok (jobs.Command command) → ActsByWords role words
acts_by_words role words (commands.Check job) e =
    let found = job_of_check role words job e in
    subst (λ (r : Role). ActsByWords r words) (sym found.0) (subst (λ (w : List (List ℕ)). ActsByWords Member w) (sym found.1) refl)
acts_by_words role words (commands.Show job) e =
    let found = job_of_show role words job e in
    subst (λ (r : Role). ActsByWords r words) (sym found.0) (subst (λ (w : List (List ℕ)). ActsByWords Logon w) (sym found.1) refl)
acts_by_words role words (commands.Drill job) e =
    let found = job_of_drill role words job e in
    subst (λ (r : Role). ActsByWords r words) (sym found.0) (led_once words found.1)

unserved : {X : Type 0} (wrap : X → Service) (r : Result X WordsRefused) (refused : WordsRefused) (service : Service) → r ≡ Err refused → service_from wrap r ≡ Ok (jobs.Service service) → ⊥
unserved wrap (Ok x) refused service is e = absurd (let wrong = is in cc)
unserved wrap (Err other) refused service is e = absurd (let wrong = e in cc)

member_uses : (led serve : Bool) (words : List (List ℕ)) (service : Service) → is_led_by (codes "serve") words ≡ serve → member_by led words ≡ Ok (jobs.Service service) → serve ≡ true
member_uses led true words service is e = refl
member_uses true false words service is e = absurd (checks words (jobs.Service service) e)
member_uses false false words service is e = absurd (unserved services.Member (member_job words) _ service (no_member words is) e)

station_uses : (station logon : Bool) (words : List (List ℕ)) (service : Service) → is_led_by (codes "logon") words ≡ logon → station_by station words ≡ Ok (jobs.Service service) → (logon || station) ≡ true
station_uses true logon words service is e = or_right logon true refl
station_uses false true words service is e = refl
station_uses false false words service is e = absurd (unserved services.Logon (logon_job words) _ service (no_logon words is) e)

drill_uses : (led : Bool) (words : List (List ℕ)) (service : Service) → drill_by led words ≡ Ok (jobs.Service service) → uses_port Logon words ≡ true
drill_uses true words service e = absurd (no_service commands.Drill (drill_job words) service e)
drill_uses false words service e = station_uses (is_led_by (codes "station") words) (is_led_by (codes "logon") words) words service refl e

logon_uses : (led : Bool) (words : List (List ℕ)) (service : Service) → logon_by led words ≡ Ok (jobs.Service service) → uses_port Logon words ≡ true
logon_uses true words service e = absurd (shows words (jobs.Service service) e)
logon_uses false words service e = drill_uses (is_led_by (codes "drill") words) words service e

pub service_uses_port : (role : Role) (words : List (List ℕ)) (service : Service) → job_of role words ≡ Ok (jobs.Service service) → uses_port role words ≡ true
service_uses_port Controller words service e = refl
service_uses_port Member words service e = member_uses (is_led_by (codes "check") words) (is_led_by (codes "serve") words) words service refl e
service_uses_port Logon words service e = logon_uses (is_led_by (codes "show") words) words service e

-- ---- what a job comes to

-- a check, a show or a drill whose words are of their form
pub answer_ok : (came : Result Job WordsRefused) (answer : Answer) → answer_from came ≡ Ok answer →
    ((job : CheckJob) × (came ≡ Ok (jobs.Command (commands.Check job))) × (check_answer job.hash job.challenge job.message ≡ Ok answer))
    ⊎ (((job : ShowJob) × (came ≡ Ok (jobs.Command (commands.Show job))) × (show_answer job.message ≡ Ok answer))
    ⊎ ((job : DrillJob) × (came ≡ Ok (jobs.Command (commands.Drill job))) × (answer ≡ shown (drill_text job.number job.moves))))
answer_ok (Ok (jobs.Command (commands.Check job))) answer e = inl (job, refl, e)
answer_ok (Ok (jobs.Command (commands.Show job))) answer e = inr (inl (job, refl, e))
answer_ok (Ok (jobs.Service service)) answer e = cc
answer_ok (Ok (jobs.Command (commands.Drill job))) answer e = inr (inr (job, refl, ok_injective (sym e)))
answer_ok (Err refused) answer e = cc

-- Why the words came to an exit alone: they aren't of the form, ask for a service, or a word isn't of its form.
pub data Refusal (came : Result Job WordsRefused) (exit : Exit) : Type 0 where
  OfWords : (number : ℕ) → came ≡ Err (refusals.BadWords number) → exit ≡ BadWords number → Refusal came exit
  Elsewhere : (service : Service) → came ≡ Ok (jobs.Service service) → exit ≡ BadWords 0 → Refusal came exit
  OfCheck : (job : CheckJob) (number : ℕ) → came ≡ Ok (jobs.Command (commands.Check job)) → IsBadOfCheck job.hash job.challenge job.message number → exit ≡ BadInput number → Refusal came exit
  OfShow : (job : ShowJob) → came ≡ Ok (jobs.Command (commands.Show job)) → ShowsNothing job.message → exit ≡ BadInput 1 → Refusal came exit
  OfMemory : exit ≡ NoMemory → Refusal came exit

pub answer_err : (came : Result Job WordsRefused) (exit : Exit) → answer_from came ≡ Err exit → Refusal came exit
answer_err (Ok (jobs.Command (commands.Check job))) exit e =
    let why = check_err job.hash job.challenge job.message exit e in OfCheck job why.0 refl why.2 why.1
answer_err (Ok (jobs.Command (commands.Show job))) exit e = let why = show_err job.message exit e in OfShow job refl why.1 why.0
answer_err (Ok (jobs.Service service)) exit e = Elsewhere service refl (err_injective (sym e))
answer_err (Ok (jobs.Command (commands.Drill job))) exit e = absurd (ok_no_err _ _ exit refl e)
answer_err (Err (refusals.BadWords number)) exit e = OfWords number refl (err_injective (sym e))
answer_err (Err refusals.Memory) exit e = OfMemory (err_injective (sym e))
