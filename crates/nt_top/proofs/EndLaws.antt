-- When each exit comes, in the words' own terms.
use Rattle.std.proofs.Common.{◌≡◌, ◌⊎◌, inl, inr, ℕ, Bool, true, false, List, Option, Some, None, Result, Ok, Err, refl, sym, ap, subst, ◌∙◌}
use Rattle.outside.specs.Causes.{Rose}
use Rattle.outside.specs.Telling.{Appends}
use Rattle.ntlm_messages.specs.declared.messages.Authenticate.{Authenticate}
use Rattle.ntlm_messages.proofs.AuthenticateLaws.{authenticate_only}
use Rattle.nt_words.specs.Jobs.{CheckJob, DrillJob, ShowJob}
use Rattle.nt_words.specs.Roles.{job_of}
use Rattle.nt_words.specs.declared.job.Command.TheVariants as commands
use Rattle.nt_words.specs.declared.job.Job.{Job}
use Rattle.nt_words.specs.declared.job.Job.TheVariants as jobs
use Rattle.nt_words.specs.declared.job.Role.{Role}
use Rattle.nt_words.specs.declared.job.Role.TheVariants.{Member, Logon}
use Rattle.nt_words.specs.declared.options.WordsRefused.{WordsRefused}
use Rattle.nt_words.specs.declared.options.WordsRefused.TheVariants as refusals
use Rattle.nt_top.specs.declared.answer.Answer.{Answer}
use Rattle.nt_top.specs.declared.exit.Exit.{Exit}
use Rattle.nt_top.specs.declared.exit.Exit.TheVariants.{Done, Refused, BadWords, FileFault, BadTable, BadInput, PortFault, SinkFault, NoMemory, NoAnswer, BadPeer, Spent}
use Rattle.logon_client.specs.declared.outcome.RefusedCause.{RefusedCause}
use Rattle.logon_client.specs.declared.outcome.RefusedCause.TheVariants.{Response}
use Rattle.nt_top.specs.Answers.{answer_of, answer_from}
use Rattle.nt_top.specs.Causes.{Comes, IsBadInput, IsBadWords, IsDone, IsOfForm, IsOfTheCommands, IsRefused, IsWorkDone}
use Rattle.nt_top.specs.Check.{check_answer, verdict_answer, accepts_of, AsksCheck, AskedAccepted, AskedRefused}
use Rattle.nt_top.specs.Drill.{AskedDrill, drill_text}
use Rattle.nt_top.specs.Ends.{Ends, SinkChange}
use Rattle.nt_top.specs.Service.{ActsByWords}
use Rattle.nt_top.specs.Show.{show_answer, shown, AskedShown}
use Rattle.nt_top.proofs.CheckLaws.{accepts_is, check_answer-is, check_is_bad, check_ok, decided, refuses_is}
use Rattle.nt_top.proofs.JobLaws.{Refusal, OfWords, Elsewhere, OfCheck, OfShow, OfMemory, answer_err, answer_ok, job_of_check, job_of_drill, job_of_show, service_uses_port}
use Rattle.nt_top.proofs.ShownLaws.{show_is_bad, show_ok, shown_answer}

-- ---- what is asked is answered

check_asked : (role : Role) (words : List (List ℕ)) (hash challenge : List ℕ) (message : Authenticate) →
    AsksCheck role words hash challenge message → answer_of role words ≡ Ok (verdict_answer (accepts_of hash challenge message))
check_asked role words hash challenge message asks =
    let is = check_answer-is asks.hash_text asks.challenge_text asks.message_text asks.bytes hash challenge message asks.hash_is asks.challenge_is asks.bytes_are
    (authenticate_only asks.bytes message asks.message_is) in
    rw (asks.member, asks.words_are) is

pub accepted_ends : (role : Role) (words : List (List ℕ)) (s : SinkChange) (exit : Exit) → Ends (answer_of role words) s exit → AskedAccepted role words → Ends (Ok (verdict_answer true)) s exit
accepted_ends role words s exit ends asked =
    let verdict = accepts_is asked.hash asked.challenge asked.message asked.accepts in
    let answer = check_asked role words asked.hash asked.challenge asked.message asked.asks ∙ ap (λ (b : Bool). Ok (verdict_answer b)) verdict in
    subst (λ (a : Result Answer Exit). Ends a s exit) answer ends

pub refused_ends : (role : Role) (words : List (List ℕ)) (s : SinkChange) (exit : Exit) → Ends (answer_of role words) s exit → AskedRefused role words → Ends (Ok (verdict_answer false)) s exit
refused_ends role words s exit ends asked =
    let verdict = refuses_is asked.hash asked.challenge asked.message asked.refuses in
    let answer = check_asked role words asked.hash asked.challenge asked.message asked.asks ∙ ap (λ (b : Bool). Ok (verdict_answer b)) verdict in
    subst (λ (a : Result Answer Exit). Ends a s exit) answer ends

show_asked : (role : Role) (words : List (List ℕ)) (asked : AskedShown role words) → answer_of role words ≡ Ok (shown asked.lines)
show_asked role words asked =
    let is = shown_answer asked.asks.text asked.bytes asked.lines asked.asks.bytes_are asked.shows in
    rw (asked.asks.logon, asked.asks.words_are) is

pub shown_ends : (role : Role) (words : List (List ℕ)) (s : SinkChange) (exit : Exit) → Ends (answer_of role words) s exit → (asked : AskedShown role words) → Ends (Ok (shown asked.lines)) s exit
shown_ends role words s exit ends asked = subst (λ (a : Result Answer Exit). Ends a s exit) (show_asked role words asked) ends

pub drilled_ends : (role : Role) (words : List (List ℕ)) (s : SinkChange) (exit : Exit) → Ends (answer_of role words) s exit → (asked : AskedDrill role words) →
    Ends (Ok (shown (drill_text asked.number asked.count))) s exit
drilled_ends role words s exit ends asked = subst (λ (a : Result Answer Exit). Ends a s exit) (ap answer_from asked.asks) ends

-- ---- an answer says what was asked

-- a hash, a challenge and a message were asked to be checked, and that is their answer
pub record CheckedBy (role : Role) (words : List (List ℕ)) (answer : Answer) : Type 0 where
  pub hash : List ℕ
  pub challenge : List ℕ
  pub message : Authenticate
  pub asks : AsksCheck role words hash challenge message
  pub is : answer ≡ verdict_answer (accepts_of hash challenge message)

-- a message was asked to be shown, and these are its lines
pub record ShownBy (role : Role) (words : List (List ℕ)) (answer : Answer) : Type 0 where
  pub asked : AskedShown role words
  pub is : answer ≡ shown asked.lines

-- a drill was asked for, and these are its lines
pub record DrilledBy (role : Role) (words : List (List ℕ)) (answer : Answer) : Type 0 where
  pub asked : AskedDrill role words
  pub is : answer ≡ shown (drill_text asked.number asked.count)

checked_by : (role : Role) (words : List (List ℕ)) (answer : Answer) (job : CheckJob) → job_of role words ≡ Ok (jobs.Command (commands.Check job)) → check_answer job.hash job.challenge job.message ≡ Ok answer → CheckedBy role words answer
checked_by role words answer job came e =
    let words-are = job_of_check role words job came in
    let found = check_ok job.hash job.challenge job.message answer e in record {
      hash = found.hash;
      challenge = found.challenge;
      message = found.message;
      asks = record {
        member = words-are.0;
        hash_text = job.hash;
        challenge_text = job.challenge;
        message_text = job.message;
        words_are = words-are.1;
        hash_is = found.hash_is;
        challenge_is = found.challenge_is;
        bytes = found.bytes;
        bytes_are = found.bytes_are;
        message_is = found.message_is;
      };
      is = found.answer_is;
    }

shown_by : (role : Role) (words : List (List ℕ)) (answer : Answer) (job : ShowJob) → job_of role words ≡ Ok (jobs.Command (commands.Show job)) → show_answer job.message ≡ Ok answer → ShownBy role words answer
shown_by role words answer job came e =
    let words-are = job_of_show role words job came in
    let found = show_ok job.message answer e in record {
      asked = record {
        bytes = found.0;
        lines = found.1;
        asks = record { logon = words-are.0; text = job.message; words_are = words-are.1; bytes_are = found.2 };
        shows = found.3;
      };
      is = found.4;
    }

drilled_by : (role : Role) (words : List (List ℕ)) (answer : Answer) (job : DrillJob) → job_of role words ≡ Ok (jobs.Command (commands.Drill job)) → answer ≡ shown (drill_text job.number job.moves) → DrilledBy role words answer
drilled_by role words answer job came is = record { asked = record { number = job.number; count = job.moves; asks = came }; is = is }

-- an answer of a check is a verdict, and every other one is of lines that are shown
asked_by : (role : Role) (words : List (List ℕ)) (answer : Answer) → answer_of role words ≡ Ok answer → CheckedBy role words answer ⊎ (ShownBy role words answer ⊎ DrilledBy role words answer)
asked_by role words answer e =
    elim (answer_ok (job_of role words) answer e) [
      | inl check ↦ inl (checked_by role words answer check.0 check.1 check.2)
      | inr others ↦ elim others [
        | inl show ↦ inr (inl (shown_by role words answer show.0 show.1 show.2))
        | inr drill ↦ inr (inr (drilled_by role words answer drill.0 drill.1 drill.2))
      ]
    ]

-- ---- an exit that only a refusal has

-- an exit that some words come to alone
abbrev pub IsAlone : Exit → Type 0
IsAlone (BadWords number) = Unit {0}
IsAlone (BadInput number) = Unit {0}
IsAlone NoMemory = Unit {0}
IsAlone _ = ⊥

alone : (came : Result Job WordsRefused) (exit : Exit) → Refusal came exit → IsAlone exit
alone came exit (OfWords number e is) = subst IsAlone (sym is) tt
alone came exit (Elsewhere service e is) = subst IsAlone (sym is) tt
alone came exit (OfCheck job number e bad is) = subst IsAlone (sym is) tt
alone came exit (OfShow job e none is) = subst IsAlone (sym is) tt
alone came exit (OfMemory is) = subst IsAlone (sym is) tt

-- where the words came to an exit alone, that is the exit, or want of memory
alone_by : (role : Role) (words : List (List ℕ)) (refusal exit : Exit) → answer_of role words ≡ Err refusal → (exit ≡ NoMemory) ⊎ (exit ≡ refusal) → IsAlone exit
alone_by role words refusal exit e (inl memory) = subst IsAlone (sym memory) tt
alone_by role words refusal exit e (inr is) = subst IsAlone (sym is) (alone (job_of role words) refusal (answer_err (job_of role words) refusal e))

-- ---- `Done` and `Refused`

verdict_none : (accepted : Bool) → (verdict_answer accepted).refused ≡ None → accepted ≡ true
verdict_none true e = refl
verdict_none false e = cc

verdict_some : (accepted : Bool) (cause : RefusedCause) → (verdict_answer accepted).refused ≡ Some cause → (accepted ≡ false) × (cause ≡ Response)
verdict_some true cause e = cc
verdict_some false cause e = (refl, cc)

true_not_false : true ≡ false → ⊥
true_not_false e = cc

-- what was put is the line of the verdict
put_verdict : (accepted verdict : Bool) (answer : Answer) (before now : Option (List ℕ)) → answer ≡ verdict_answer accepted → accepted ≡ verdict → Appends before now answer.lines → Appends before now (verdict_answer verdict).lines
put_verdict accepted verdict answer before now is same put =
    subst (λ (a : Answer). Appends before now a.lines) (is ∙ ap verdict_answer same) put

done_checked : (role : Role) (words : List (List ℕ)) (answer : Answer) (s : SinkChange) → CheckedBy role words answer → Ends (Ok answer) s Done → IsDone role words s
done_checked role words answer s asked ends =
    let accepts = verdict_none _ (ap (λ (a : Answer). a.refused) (sym asked.is) ∙ ends.0) in
    inl (
      record { hash = asked.hash; challenge = asked.challenge; message = asked.message; asks = asked.asks; accepts = (decided asked.hash asked.challenge asked.message).0 accepts },
      put_verdict _ true answer s.before s.now asked.is accepts ends.1,
    )

done_shown : (role : Role) (words : List (List ℕ)) (answer : Answer) (s : SinkChange) → ShownBy role words answer → Ends (Ok answer) s Done → IsDone role words s
done_shown role words answer s asked ends = inr (inl (asked.asked, subst (λ (a : Answer). Appends s.before s.now a.lines) asked.is ends.1))

done_drilled : (role : Role) (words : List (List ℕ)) (answer : Answer) (s : SinkChange) → DrilledBy role words answer → Ends (Ok answer) s Done → IsDone role words s
done_drilled role words answer s asked ends = inr (inr (asked.asked, subst (λ (a : Answer). Appends s.before s.now a.lines) asked.is ends.1))

done_by : (role : Role) (words : List (List ℕ)) (s : SinkChange) (came : Result Answer Exit) → answer_of role words ≡ came → Ends came s Done → IsDone role words s
done_by role words s (Ok answer) e ends =
    elim (asked_by role words answer e) [
      | inl check ↦ done_checked role words answer s check ends
      | inr others ↦ elim others [
        | inl show ↦ done_shown role words answer s show ends
        | inr drill ↦ done_drilled role words answer s drill ends
      ]
    ]
done_by role words s (Err refusal) e ends = absurd (alone_by role words refusal Done e ends.0)

pub done_is : (role : Role) (words : List (List ℕ)) (s : SinkChange) (exit : Exit) → Ends (answer_of role words) s exit → exit ≡ Done → IsDone role words s
done_is role words s exit ends is = done_by role words s (answer_of role words) refl (subst (λ (x : Exit). Ends (answer_of role words) s x) is ends)

refused_checked : (role : Role) (words : List (List ℕ)) (answer : Answer) (s : SinkChange) (cause : RefusedCause) → CheckedBy role words answer → Ends (Ok answer) s (Refused cause) → IsRefused role words cause s
refused_checked role words answer s cause asked ends =
    let verdict = verdict_some _ cause (ap (λ (a : Answer). a.refused) (sym asked.is) ∙ ends.0) in (
      verdict.1,
      record {
        hash = asked.hash;
        challenge = asked.challenge;
        message = asked.message;
        asks = asked.asks;
        refuses = λ accepts. true_not_false (sym ((decided asked.hash asked.challenge asked.message).1 accepts) ∙ verdict.0);
      },
      put_verdict _ false answer s.before s.now asked.is verdict.0 ends.1,
    )

shown_not_refused : (lines : List ℕ) (cause : RefusedCause) → (shown lines).refused ≡ Some cause → ⊥
shown_not_refused lines cause e = absurd (let wrong = e in cc)

refused_by : (role : Role) (words : List (List ℕ)) (s : SinkChange) (cause : RefusedCause) (came : Result Answer Exit) → answer_of role words ≡ came → Ends came s (Refused cause) → IsRefused role words cause s
refused_by role words s cause (Ok answer) e ends =
    elim (asked_by role words answer e) [
      | inl check ↦ refused_checked role words answer s cause check ends
      | inr others ↦ elim others [
        | inl show ↦ absurd (shown_not_refused show.asked.lines cause (ap (λ (a : Answer). a.refused) (sym show.is) ∙ ends.0))
        | inr drill ↦ absurd (shown_not_refused (drill_text drill.asked.number drill.asked.count) cause (ap (λ (a : Answer). a.refused) (sym drill.is) ∙ ends.0))
      ]
    ]
refused_by role words s cause (Err refusal) e ends = absurd (alone_by role words refusal (Refused cause) e ends.0)

pub refused_is : (role : Role) (words : List (List ℕ)) (s : SinkChange) (exit : Exit) (cause : RefusedCause) → Ends (answer_of role words) s exit → exit ≡ Refused cause → IsRefused role words cause s
refused_is role words s exit cause ends is = refused_by role words s cause (answer_of role words) refl (subst (λ (x : Exit). Ends (answer_of role words) s x) is ends)

-- ---- `BadWords` and `BadInput`

same_exit : (a b : Exit) → ◌≡◌ {A = Result Answer Exit} (Err a) (Err b) → a ≡ b
same_exit a b e = cc

same_words : (a b : ℕ) → BadWords a ≡ BadWords b → a ≡ b
same_words a b e = cc

same_input : (a b : ℕ) → BadInput a ≡ BadInput b → a ≡ b
same_input a b e = cc

comes_by : (came : Result Answer Exit) (s : SinkChange) (exit due : Exit) → came ≡ Err due → Ends came s exit → Comes due exit
comes_by (Ok answer) s exit due e ends = absurd (let wrong = e in cc)
comes_by (Err refusal) s exit due e ends =
    elim ends.0 [
      | inl memory ↦ inr memory
      | inr is ↦ inl (is ∙ same_exit refusal due e)
    ]

pub bad_words_come : (role : Role) (words : List (List ℕ)) (s : SinkChange) (exit : Exit) (number : ℕ) → Ends (answer_of role words) s exit → IsBadWords role words number → Comes (BadWords number) exit
bad_words_come role words s exit number ends bad = comes_by (answer_of role words) s exit (BadWords number) (ap answer_from bad) ends

bad_input_answer : (role : Role) (words : List (List ℕ)) (number : ℕ) → IsBadInput role words number → answer_of role words ≡ Err (BadInput number)
bad_input_answer role words number (inl asked) =
    let is = check_is_bad asked.hash asked.challenge asked.message number asked.bad in
    rw (asked.member, asked.words_are) is
bad_input_answer role words number (inr asked) =
    let is = show_is_bad asked.message (asked.bad).1 ∙ ap (λ (n : ℕ). Err (BadInput n)) (sym (asked.bad).0) in
    rw (asked.logon, asked.words_are) is

pub bad_input_comes : (role : Role) (words : List (List ℕ)) (s : SinkChange) (exit : Exit) (number : ℕ) → Ends (answer_of role words) s exit → IsBadInput role words number → Comes (BadInput number) exit
bad_input_comes role words s exit number ends bad = comes_by (answer_of role words) s exit (BadInput number) (bad_input_answer role words number bad) ends

-- the words of an exit that no answer has
words_of : (came : Result Answer Exit) (s : SinkChange) (number : ℕ) → Ends came s (BadWords number) → came ≡ Err (BadWords number)
words_of (Ok answer) s number ends = absurd ends
words_of (Err refusal) s number ends =
    elim ends.0 [
      | inl memory ↦ cc
      | inr is ↦ ap (λ (x : Exit). Err x) (sym is)
    ]

input_of : (came : Result Answer Exit) (s : SinkChange) (number : ℕ) → Ends came s (BadInput number) → came ≡ Err (BadInput number)
input_of (Ok answer) s number ends = absurd ends
input_of (Err refusal) s number ends =
    elim ends.0 [
      | inl memory ↦ cc
      | inr is ↦ ap (λ (x : Exit). Err x) (sym is)
    ]

words_why : (role : Role) (words : List (List ℕ)) (number : ℕ) → ActsByWords role words → Refusal (job_of role words) (BadWords number) → IsBadWords role words number
words_why role words number other (OfWords n e is) = e ∙ ap (λ (m : ℕ). Err (refusals.BadWords m)) (sym (same_words number n is))
words_why role words number other (Elsewhere service e is) = absurd (true_not_false (sym (service_uses_port role words service e) ∙ other))
words_why role words number other (OfCheck job n e bad is) = absurd (let wrong = is in cc)
words_why role words number other (OfShow job e none is) = absurd (let wrong = is in cc)
words_why role words number other (OfMemory is) = absurd (let wrong = is in cc)

input_why : (role : Role) (words : List (List ℕ)) (number : ℕ) → Refusal (job_of role words) (BadInput number) → IsBadInput role words number
input_why role words number (OfWords n e is) = absurd (let wrong = is in cc)
input_why role words number (Elsewhere service e is) = absurd (let wrong = is in cc)
input_why role words number (OfCheck job n e bad is) =
    let words-are = job_of_check role words job e in
    let same = same_input number n is in
    inl record { member = words-are.0; hash = job.hash; challenge = job.challenge; message = job.message; words_are = words-are.1; bad = rw same bad }
input_why role words number (OfShow job e none is) =
    let words-are = job_of_show role words job e in
    inr record { logon = words-are.0; message = job.message; words_are = words-are.1; bad = (same_input number 1 is, none) }
input_why role words number (OfMemory is) = absurd (let wrong = is in cc)

pub words_only : (role : Role) (words : List (List ℕ)) → ActsByWords role words → (s : SinkChange) (exit : Exit) (number : ℕ) → Ends (answer_of role words) s exit → exit ≡ BadWords number → IsBadWords role words number
words_only role words other s exit number ends is =
    let came = words_of (answer_of role words) s number (subst (λ (x : Exit). Ends (answer_of role words) s x) is ends) in
    words_why role words number other (answer_err (job_of role words) (BadWords number) came)

pub input_only : (role : Role) (words : List (List ℕ)) (s : SinkChange) (exit : Exit) (number : ℕ) → Ends (answer_of role words) s exit → exit ≡ BadInput number → IsBadInput role words number
input_only role words s exit number ends is =
    let came = input_of (answer_of role words) s number (subst (λ (x : Exit). Ends (answer_of role words) s x) is ends) in
    input_why role words number (answer_err (job_of role words) (BadInput number) came)

-- ---- other exits

of_the_commands : (exit : Exit) → IsAlone exit → IsOfTheCommands exit
of_the_commands (BadWords number) is = tt
of_the_commands (BadInput number) is = tt
of_the_commands NoMemory is = tt
of_the_commands Done is = tt
of_the_commands (Refused cause) is = tt
of_the_commands SinkFault is = tt
of_the_commands FileFault is = absurd is
of_the_commands (BadTable cause) is = absurd is
of_the_commands PortFault is = absurd is
of_the_commands (NoAnswer cause) is = absurd is
of_the_commands (BadPeer fault) is = absurd is
of_the_commands Spent is = absurd is

answer_exit : (answer : Answer) (s : SinkChange) (exit : Exit) → Ends (Ok answer) s exit → IsOfTheCommands exit
answer_exit answer s (BadWords number) is = tt
answer_exit answer s (BadInput number) is = tt
answer_exit answer s NoMemory is = tt
answer_exit answer s Done is = tt
answer_exit answer s (Refused cause) is = tt
answer_exit answer s SinkFault is = tt
answer_exit answer s FileFault is = absurd is
answer_exit answer s (BadTable cause) is = absurd is
answer_exit answer s PortFault is = absurd is
answer_exit answer s (NoAnswer cause) is = absurd is
answer_exit answer s (BadPeer fault) is = absurd is
answer_exit answer s Spent is = absurd is

others_by : (role : Role) (words : List (List ℕ)) (s : SinkChange) (exit : Exit) (came : Result Answer Exit) → answer_of role words ≡ came → Ends came s exit → IsOfTheCommands exit
others_by role words s exit (Ok answer) e ends = answer_exit answer s exit ends
others_by role words s exit (Err refusal) e ends = of_the_commands exit (alone_by role words refusal exit e ends.0)

pub others : (role : Role) (words : List (List ℕ)) (s : SinkChange) (exit : Exit) → Ends (answer_of role words) s exit → IsOfTheCommands exit
others role words s exit ends = others_by role words s exit (answer_of role words) refl ends

fault_by : (role : Role) (words : List (List ℕ)) (s : SinkChange) (came : Result Answer Exit) → answer_of role words ≡ came → Ends came s SinkFault → Rose s.faults_before s.faults
fault_by role words s (Ok answer) e ends = ends.0
fault_by role words s (Err refusal) e ends = absurd (alone_by role words refusal SinkFault e ends.0)

pub fault_rose : (role : Role) (words : List (List ℕ)) (s : SinkChange) (exit : Exit) → Ends (answer_of role words) s exit → exit ≡ SinkFault → Rose s.faults_before s.faults
fault_rose role words s exit ends is = fault_by role words s (answer_of role words) refl (subst (λ (x : Exit). Ends (answer_of role words) s x) is ends)

-- ---- work that is done

check_done : (accepted : Bool) (s : SinkChange) (exit : Exit) → ¬ Rose s.faults_before s.faults → Ends (Ok (verdict_answer accepted)) s exit → IsWorkDone Member exit
check_done accepted s Done still ends = tt
check_done accepted s (Refused cause) still ends = (verdict_some accepted cause ends.0).1
check_done accepted s NoMemory still ends = tt
check_done accepted s SinkFault still ends = absurd (still ends.0)
check_done accepted s (BadWords number) still ends = absurd ends
check_done accepted s (BadInput number) still ends = absurd ends
check_done accepted s FileFault still ends = absurd ends
check_done accepted s (BadTable cause) still ends = absurd ends
check_done accepted s PortFault still ends = absurd ends
check_done accepted s (NoAnswer cause) still ends = absurd ends
check_done accepted s (BadPeer fault) still ends = absurd ends
check_done accepted s Spent still ends = absurd ends

show_done : (lines : List ℕ) (s : SinkChange) (exit : Exit) → ¬ Rose s.faults_before s.faults → Ends (Ok (shown lines)) s exit → IsWorkDone Logon exit
show_done lines s Done still ends = tt
show_done lines s (Refused cause) still ends = absurd (shown_not_refused lines cause ends.0)
show_done lines s NoMemory still ends = tt
show_done lines s SinkFault still ends = absurd (still ends.0)
show_done lines s (BadWords number) still ends = absurd ends
show_done lines s (BadInput number) still ends = absurd ends
show_done lines s FileFault still ends = absurd ends
show_done lines s (BadTable cause) still ends = absurd ends
show_done lines s PortFault still ends = absurd ends
show_done lines s (NoAnswer cause) still ends = absurd ends
show_done lines s (BadPeer fault) still ends = absurd ends
show_done lines s Spent still ends = absurd ends

pub work_done : (role : Role) (words : List (List ℕ)) (s : SinkChange) (exit : Exit) → Ends (answer_of role words) s exit → IsOfForm role words → ¬ Rose s.faults_before s.faults → IsWorkDone role exit
work_done role words s exit ends (inl (inl asked)) still =
    subst (λ (r : Role). IsWorkDone r exit) (sym asked.asks.member) (check_done true s exit still (accepted_ends role words s exit ends asked))
work_done role words s exit ends (inl (inr asked)) still =
    subst (λ (r : Role). IsWorkDone r exit) (sym asked.asks.member) (check_done false s exit still (refused_ends role words s exit ends asked))
work_done role words s exit ends (inr (inr asked)) still =
    subst (λ (r : Role). IsWorkDone r exit) (sym (job_of_drill role words _ asked.asks).0)
    (show_done (drill_text asked.number asked.count) s exit still (drilled_ends role words s exit ends asked))
work_done role words s exit ends (inr (inl asked)) still =
    subst (λ (r : Role). IsWorkDone r exit) (sym asked.asks.logon) (show_done asked.lines s exit still (shown_ends role words s exit ends asked))
