-- What the top call does and comes to (`Runs`), where the words ask for a service or a command.
use Rattle.std.proofs.Common.{◌≡◌, ◌≢◌, ◌≤◌, ℕ, Bool, true, false, List, [], Option, Some, None, IfSome, Result, Ok, Err, refl, sym, ap, subst, ◌∙◌, arith}
use Rattle.outside.specs.Causes.{Rose}
use Rattle.outside.proofs.TellingLaws.{Appends-nothing}
use Rattle.wire_base.specs.Memory.{UpToMemory}
use Rattle.logon_client.specs.declared.outcome.NoAnswerCause.{NoAnswerCause}
use Rattle.logon_client.specs.declared.outcome.NoAnswerCause.TheVariants.{DialFailed, LinkClosed}
use Rattle.nt_words.specs.Roles.{job_at_once, job_of}
use Rattle.nt_words.specs.declared.job.Command.{Command}
use Rattle.nt_words.specs.declared.job.Command.TheVariants as commands
use Rattle.nt_words.specs.declared.job.Job.{Job}
use Rattle.nt_words.specs.declared.job.Job.TheVariants as jobs
use Rattle.nt_words.specs.declared.job.Role.{Role}
use Rattle.nt_words.specs.declared.job.Service.{Service}
use Rattle.nt_words.specs.declared.options.WordsRefused.{WordsRefused}
use Rattle.nt_words.specs.declared.options.WordsRefused.TheVariants as refusals
use Rattle.nt_top.specs.declared.answer.Answer.{Answer}
use Rattle.nt_top.specs.declared.exit.Exit.{Exit}
use Rattle.nt_top.specs.declared.exit.Exit.TheVariants.{BadWords, FileFault, PortFault, SinkFault, NoMemory, NoAnswer}
use Rattle.nt_top.specs.Answers.{IsProvedOf, answer_from, answer_of, command_answer, command_exit_at_once, from_at_once}
use Rattle.nt_top.specs.Causes.{Comes, IsBadWords, IsOfTheCommands}
use Rattle.nt_top.specs.Drill.{AskedDrill, IsProvedDrill}
use Rattle.nt_top.specs.Ends.{Ends}
use Rattle.nt_top.specs.Runs.{Acts, Meanings, Outside, Runs, outside_of, put_in, shelf_in, sight_in}
use Rattle.nt_top.specs.Service.{ActsByWords, ServiceReads, ServiceRuns, uses_port}
use Rattle.nt_top.specs.Writes.{WritesInto, file_of_job, file_of_service}
use Rattle.nt_top.proofs.EndLaws.{accepted_ends, refused_ends, shown_ends, drilled_ends, done_is, refused_is, bad_words_come, words_only, bad_input_comes, input_only, others, fault_rose, work_done}
use Rattle.nt_top.proofs.JobLaws.{acts_by_words, service_uses_port}
use Rattle.nt_top.proofs.ServeLaws.{dial_fault, files_come, files_only, link_lost, not_accepted, not_drilled, not_input, not_of_form, not_rejected, not_shown, serve_done, words_come, words_only_by}

not_both : (b : Bool) → b ≡ true → b ≡ false → ⊥
not_both b is isnt = absurd (let wrong : true ≡ false = sym is ∙ isnt in cc)

-- ---- what is seen in the words without memory

service_seen : (seen : Option (Result Job WordsRefused)) (service : Service) (exit : Exit) → IfSome seen (λ due. ◌≡◌ {A = Result Job WordsRefused} (Ok (jobs.Service service)) due) →
    IfSome (from_at_once seen) (λ due. exit ≡ due)
service_seen None service exit is = tt
service_seen (Some (Ok (jobs.Service other))) service exit is = tt
service_seen (Some (Ok (jobs.Command command))) service exit is = absurd (let wrong = is in cc)
service_seen (Some (Err refused)) service exit is = absurd (let wrong = is in cc)

command_seen : (seen : Option (Result Job WordsRefused)) (command : Command) (exit : Exit) → IfSome seen (λ due. ◌≡◌ {A = Result Job WordsRefused} (Ok (jobs.Command command)) due) →
    IfSome (command_exit_at_once command) (λ due. exit ≡ due) → IfSome (from_at_once seen) (λ due. exit ≡ due)
command_seen None command exit is due = tt
command_seen (Some (Ok (jobs.Service service))) command exit is due = absurd (let wrong = is in cc)
command_seen (Some (Ok (jobs.Command other))) command exit is due =
    let same : command ≡ other = cc in subst (λ (c : Command). IfSome (command_exit_at_once c) (λ due. exit ≡ due)) same due
command_seen (Some (Err refused)) command exit is due = absurd (let wrong = is in cc)

-- ---- a service

pub service_acts : {P F S C Q : Type 0} (m : Meanings P F S C Q) (role : Role) (words : List (List ℕ)) (came : Result Job WordsRefused) (service : Service) (old new : Outside P F S C Q) (exit : Exit) →
    came ≡ Ok (jobs.Service service) → UpToMemory refusals.Memory came (job_of role words) → IfSome (job_at_once role words) (λ due. came ≡ due) →
    ServiceReads service (shelf_in m old) (shelf_in m new) (sight_in m old) (sight_in m new) exit →
    (exit ≡ FileFault → Rose (m.file_faults old.files) (m.file_faults new.files)) → (exit ≡ PortFault → Rose (m.port_faults old.port) (m.port_faults new.port)) →
    (exit ≡ SinkFault → Rose (m.sink_faults old.out) (m.sink_faults new.out)) → WritesInto (file_of_service service) (m.writes old.files) (m.writes new.files) →
    m.sink_faults old.out ≤ m.sink_faults new.out → m.file_faults old.files ≤ m.file_faults new.files → m.port_faults old.port ≤ m.port_faults new.port →
    m.link_faults old.port ≤ m.link_faults new.port → Acts m role words old new exit
service_acts m role words came service old new exit is up seen reads file_cause port_cause sink_cause writes sink files port links =
    let asked : job_of role words ≡ Ok (jobs.Service service) = subst (λ (r : Result Job WordsRefused). UpToMemory refusals.Memory r (job_of role words)) is up in
    let sees = subst (λ (r : Result Job WordsRefused). IfSome (job_at_once role words) (λ due. r ≡ due)) is seen in
    let uses = service_uses_port role words service asked in record {
      service = λ used. record { job = Ok (jobs.Service service); is = asked; runs = reads };
      ends = λ other. absurd (not_both (uses_port role words) uses other);
      at_once = service_seen (job_at_once role words) service exit sees;
      idle = λ refusal. absurd (let wrong = sym asked ∙ refusal.1 in cc);
      file_cause = file_cause;
      port_cause = port_cause;
      sink_cause = sink_cause;
      untouched = λ other due e. absurd (not_both (uses_port role words) uses other);
      memory = λ other e. absurd (not_both (uses_port role words) uses other);
      port = λ other. absurd (not_both (uses_port role words) uses other);
      files = λ other. absurd (not_both (uses_port role words) uses other);
      clock = λ other. absurd (not_both (uses_port role words) uses other);
      chances = λ other. absurd (not_both (uses_port role words) uses other);
      writes = subst (λ (j : Result Job WordsRefused). WritesInto (file_of_job j) (m.writes old.files) (m.writes new.files)) (sym asked) writes;
      faults = sink;
      file_faults = files;
      port_faults = port;
      link_faults = links;
    }

-- ---- a command

same_count : (n : ℕ) → n ≤ n
same_count n = omega arith

pub command_acts : {P F S C Q : Type 0} (m : Meanings P F S C Q) (role : Role) (words : List (List ℕ)) (came : Result Job WordsRefused) (command : Command)
    (port : P) (files : F) (out after : S) (clock : C) (chances : Q) (exit : Exit) →
    came ≡ Ok (jobs.Command command) → UpToMemory refusals.Memory came (job_of role words) → IfSome (job_at_once role words) (λ due. came ≡ due) →
    Ends (command_answer command) (put_in m (outside_of port files out clock chances) (outside_of port files after clock chances)) exit →
    IfSome (command_exit_at_once command) (λ due. exit ≡ due) → ((due : Exit) → command_answer command ≡ Err due → after ≡ out) → (exit ≡ NoMemory → after ≡ out) →
    m.sink_faults out ≤ m.sink_faults after → Acts m role words (outside_of port files out clock chances) (outside_of port files after clock chances) exit
command_acts m role words came command port files out after clock chances exit is up seen ends due untouched memory sink =
    let asked : job_of role words ≡ Ok (jobs.Command command) = subst (λ (r : Result Job WordsRefused). UpToMemory refusals.Memory r (job_of role words)) is up in
    let sees = subst (λ (r : Result Job WordsRefused). IfSome (job_at_once role words) (λ due. r ≡ due)) is seen in
    let other = acts_by_words role words command asked in
    let answers : answer_of role words ≡ command_answer command = ap answer_from asked in
    let ended : Ends (answer_of role words) (put_in m (outside_of port files out clock chances) (outside_of port files after clock chances)) exit =
    subst (λ (a : Result Answer Exit). Ends a (put_in m (outside_of port files out clock chances) (outside_of port files after clock chances)) exit) (sym answers) ends in
    let of = others role words _ exit ended in record {
      service = λ used. absurd (not_both (uses_port role words) used other);
      ends = λ by. ended;
      at_once = command_seen (job_at_once role words) command exit sees due;
      idle = λ refusal. absurd (let wrong = sym asked ∙ refusal.1 in cc);
      file_cause = λ e. absurd (subst IsOfTheCommands e of);
      port_cause = λ e. absurd (subst IsOfTheCommands e of);
      sink_cause = λ e. fault_rose role words _ exit ended e;
      untouched = λ by refusal e. untouched refusal (sym answers ∙ e);
      memory = λ by e. memory e;
      port = λ by. refl;
      files = λ by. refl;
      clock = λ by. refl;
      chances = λ by. refl;
      writes = record { writes = []; told = Appends-nothing (m.writes files); into = tt };
      faults = sink;
      file_faults = same_count (m.file_faults files);
      port_faults = same_count (m.port_faults port);
      link_faults = same_count (m.link_faults port);
    }

-- what is proved of a command's run holds of the run of the drill that the words ask for
pub command_proved : (role : Role) (words : List (List ℕ)) (came : Result Job WordsRefused) (command : Command) (exit : Exit) → came ≡ Ok (jobs.Command command) →
    UpToMemory refusals.Memory came (job_of role words) → (exit ≢ NoMemory → IsProvedOf command) → (drills : AskedDrill role words) → exit ≢ NoMemory →
    IsProvedDrill drills.number drills.count
command_proved role words came command exit is up proved drills memory =
    let asked : job_of role words ≡ Ok (jobs.Command command) = subst (λ (r : Result Job WordsRefused). UpToMemory refusals.Memory r (job_of role words)) is up in
    let same : command ≡ commands.Drill (record { number = drills.number; moves = drills.count }) = (let both = sym asked ∙ drills.asks in cc) in
    subst IsProvedOf same (proved memory)

-- a drill isn't asked for by words that ask for a service, or are refused
pub service_proved : (role : Role) (words : List (List ℕ)) (came : Result Job WordsRefused) (service : Service) (exit : Exit) → came ≡ Ok (jobs.Service service) →
    UpToMemory refusals.Memory came (job_of role words) → (drills : AskedDrill role words) → exit ≢ NoMemory → IsProvedDrill drills.number drills.count
service_proved role words came service exit is up drills memory =
    let asked : job_of role words ≡ Ok (jobs.Service service) = subst (λ (r : Result Job WordsRefused). UpToMemory refusals.Memory r (job_of role words)) is up in
    absurd (let both = sym asked ∙ drills.asks in cc)

-- ---- when each exit comes, of whatever acts so

-- words whose program and command don't use the port
unless_used : (b : Bool) → (b ≡ true → ⊥) → b ≡ false
unless_used true used = absurd (used refl)
unless_used false used = refl

words_come_so : {P F S C Q : Type 0} (m : Meanings P F S C Q) (role : Role) (words : List (List ℕ)) (old new : Outside P F S C Q) (exit : Exit) (uses : Bool) → uses_port role words ≡ uses →
    Acts m role words old new exit → (number : ℕ) → IsBadWords role words number → Comes (BadWords number) exit
words_come_so m role words old new exit true is acts number bad = words_come role words number _ _ _ _ exit is (acts.service is) bad
words_come_so m role words old new exit false is acts number bad = bad_words_come role words _ exit number (acts.ends is) bad

words_only_so : {P F S C Q : Type 0} (m : Meanings P F S C Q) (role : Role) (words : List (List ℕ)) (old new : Outside P F S C Q) (exit : Exit) (uses : Bool) → uses_port role words ≡ uses →
    Acts m role words old new exit → (number : ℕ) → exit ≡ BadWords number → IsBadWords role words number
words_only_so m role words old new exit true is acts number e = words_only_by role words number _ _ _ _ exit (acts.service is) e
words_only_so m role words old new exit false is acts number e = words_only role words is _ exit number (acts.ends is) e

no_answer_so : {P F S C Q : Type 0} (m : Meanings P F S C Q) (role : Role) (words : List (List ℕ)) (old new : Outside P F S C Q) (exit : Exit) (uses : Bool) → uses_port role words ≡ uses →
    Acts m role words old new exit → (cause : NoAnswerCause) → exit ≡ NoAnswer cause → ServiceRuns role words (shelf_in m old) (shelf_in m new) (sight_in m old) (sight_in m new) exit
no_answer_so m role words old new exit true is acts cause e = acts.service is
no_answer_so m role words old new exit false is acts cause e = absurd (subst IsOfTheCommands e (others role words _ exit (acts.ends is)))

pub runs : {P F S C Q : Type 0} (m : Meanings P F S C Q) (role : Role) (words : List (List ℕ)) (old new : Outside P F S C Q) (exit : Exit) → Acts m role words old new exit →
    ((drills : AskedDrill role words) → exit ≢ NoMemory → IsProvedDrill drills.number drills.count) → Runs m role words old new exit
runs m role words old new exit acts proved =
    let put = put_in m old new in
    let unless : ((uses_port role words ≡ true → ⊥) → ActsByWords role words) = unless_used (uses_port role words) in record {
      acts = acts;
      accepted = λ asked. accepted_ends role words put exit (acts.ends (unless (λ used. not_accepted role words used asked))) asked;
      refused = λ asked. refused_ends role words put exit (acts.ends (unless (λ used. not_rejected role words used asked))) asked;
      shown = λ asked. shown_ends role words put exit (acts.ends (unless (λ used. not_shown role words used asked))) asked;
      drilled = λ asked. drilled_ends role words put exit (acts.ends (unless (λ used. not_drilled role words used asked))) asked;
      proved = proved;
      done = λ by e. done_is role words put exit (acts.ends by) e;
      refused_only = λ by cause e. refused_is role words put exit cause (acts.ends by) e;
      words = words_come_so m role words old new exit (uses_port role words) refl acts;
      words_only = words_only_so m role words old new exit (uses_port role words) refl acts;
      input = λ number bad. bad_input_comes role words put exit number (acts.ends (unless (λ used. not_input role words number used bad))) bad;
      input_only = λ by number e. input_only role words put exit number (acts.ends by) e;
      contents = λ refused bad still. files_come role words refused _ _ _ _ exit (acts.service bad.uses) bad (λ e. still (acts.file_cause e));
      contents_only = λ used told refused tells of e. files_only role words told refused (shelf_in m old) _ _ _ exit used (acts.service used) tells of e;
      others = λ by. others role words put exit (acts.ends by);
      dial_failed = λ e. dial_fault role words _ _ (sight_in m old) (sight_in m new) exit (no_answer_so m role words old new exit (uses_port role words) refl acts DialFailed e) e;
      link_lost = λ e. link_lost role words _ _ (sight_in m old) (sight_in m new) exit (no_answer_so m role words old new exit (uses_port role words) refl acts LinkClosed e) e;
      complete = λ form still. work_done role words put exit (acts.ends (unless (λ used. not_of_form role words used form))) form still;
      served = λ form files port sink. serve_done role words _ _ _ _ exit (acts.service form.uses) form (λ e. files (acts.file_cause e))
          (λ e. port (acts.port_cause e)) (λ e. sink (acts.sink_cause e));
    }
