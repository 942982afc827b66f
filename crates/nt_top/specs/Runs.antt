-- What the top call does, and when each exit comes (this project's own choice). Words are lists of bytes, those behind
-- the program's name.
use Rattle.std.specs.Prelude.{◌≡◌, ◌≢◌, ◌≤◌, ◌⊎◌, ℕ, Bool, true, false, List, Option, Some, None, IfSome, IfErr, Result, Ok, Err}
use Rattle.outside.specs.Causes.{Rose}
use Rattle.outside.specs.Drawing.{Drawing}
use Rattle.outside.specs.declared.event.Happening.{Happening}
use Rattle.end_loop.specs.Seen.{Sight, sight_of}
use Rattle.end_loop.specs.Writing.{files_told}
use Rattle.logon_client.specs.declared.outcome.NoAnswerCause.TheVariants.{DialFailed, LinkClosed}
use Rattle.logon_client.specs.declared.outcome.RefusedCause.{RefusedCause}
use Rattle.nt_words.specs.Files.{Shelf, shelf_of}
use Rattle.nt_words.specs.Roles.{job_of}
use Rattle.nt_words.specs.declared.files.FilesRefused.{FilesRefused}
use Rattle.nt_words.specs.declared.job.Role.{Role}
use Rattle.nt_top.specs.Answers.{answer_of, exit_at_once}
use Rattle.nt_top.specs.Causes.{Comes, IsBadInput, IsBadWords, IsDone, IsOfForm, IsOfTheCommands, IsRefused, IsWorkDone}
use Rattle.nt_top.specs.Check.{AskedAccepted, AskedRefused, verdict_answer}
use Rattle.nt_top.specs.Drill.{AskedDrill, IsProvedDrill, drill_answer}
use Rattle.nt_top.specs.Ends.{Ends, IsSaid, SinkChange, change_of}
use Rattle.nt_top.specs.Exits.{said_of, status_of}
use Rattle.nt_top.specs.LogonExits.{LosesLink}
use Rattle.nt_top.specs.Refusals.{files_exit}
use Rattle.nt_top.specs.Service.{ActsByWords, IsBadOfFiles, IsOfContents, IsRefusal, IsServedBy, IsServiceOfForm, ServiceRuns, uses_port}
use Rattle.nt_top.specs.Show.{AskedShown, shown}
use Rattle.nt_top.specs.Writes.{WritesInto, kept_file}
use Rattle.nt_top.specs.declared.exit.Exit.{Exit}
use Rattle.nt_top.specs.declared.exit.Exit.TheVariants.{Done, Refused, BadWords, FileFault, BadInput, PortFault, SinkFault, NoMemory, NoAnswer}

-- ---- the outside

-- what port, files, sink, clock and maker of challenges tell and count, by the meanings of their traits
pub record Meanings (P F S C Q : Type 0) : Type 0 where
  pub story : P → Option (List Happening)
  pub port_faults : P → ℕ
  pub link_faults : P → ℕ
  pub file_faults : F → ℕ
  pub contents : F → Option (List (List ℕ × List ℕ))
  pub reads : F → Option (List (List ℕ × Bool))
  pub writes : F → Option (List (List ℕ × List ℕ × Bool))
  pub taken : S → Option (List ℕ)
  pub sink_faults : S → ℕ
  pub moments : C → Option (List ℕ)
  pub drawing : Q → Drawing

abbrev pub meanings_of : {P F S C Q : Type 0} → (P → Option (List Happening)) → (P → ℕ) → (P → ℕ) → (F → ℕ) → (F → Option (List (List ℕ × List ℕ))) →
    (F → Option (List (List ℕ × Bool))) → (F → Option (List (List ℕ × List ℕ × Bool))) → (S → Option (List ℕ)) → (S → ℕ) → (C → Option (List ℕ)) → (Q → Drawing) →
    Meanings P F S C Q
meanings_of story port_faults link_faults file_faults contents reads writes taken sink_faults moments drawing = record {
  story = story;
  port_faults = port_faults;
  link_faults = link_faults;
  file_faults = file_faults;
  contents = contents;
  reads = reads;
  writes = writes;
  taken = taken;
  sink_faults = sink_faults;
  moments = moments;
  drawing = drawing;
}

-- the outside at one moment
pub record Outside (P F S C Q : Type 0) : Type 0 where
  pub port : P
  pub files : F
  pub out : S
  pub clock : C
  pub chances : Q

abbrev pub outside_of : {P F S C Q : Type 0} → P → F → S → C → Q → Outside P F S C Q
outside_of port files out clock chances = record { port = port; files = files; out = out; clock = clock; chances = chances }

-- what port, clock, challenges, sink and files tell
abbrev pub sight_in : {P F S C Q : Type 0} → Meanings P F S C Q → Outside P F S C Q → Sight
sight_in m o = sight_of m.story m.link_faults m.moments m.drawing m.taken (files_told m.contents m.reads m.writes) o.port o.clock o.chances o.out o.files

-- what the files tell
abbrev pub shelf_in : {P F S C Q : Type 0} → Meanings P F S C Q → Outside P F S C Q → Shelf
shelf_in m o = shelf_of m.file_faults m.contents m.reads m.writes o.files

-- the change of the sink
abbrev pub put_in : {P F S C Q : Type 0} → Meanings P F S C Q → Outside P F S C Q → Outside P F S C Q → SinkChange
put_in m old new = change_of m.taken m.sink_faults old.out new.out

-- ---- what is done

-- What the program does with its outside, and what stays as it stood.
pub record Acts {P F S C Q : Type 0} (m : Meanings P F S C Q) (role : Role) (asked : List (List ℕ)) (old new : Outside P F S C Q) (exit : Exit) : Type 0 where
  -- A domain controller or a member server is served, and a logon client logs on, or on and off at a workstation, by
  -- what the words and the files say, or the words are refused.
  pub service : uses_port role asked ≡ true → ServiceRuns role asked (shelf_in m old) (shelf_in m new) (sight_in m old) (sight_in m new) exit
  -- What `check`, `show` and `drill` do, and a line of no command, is told by the words: the exit is that of what the
  -- words come to, and what is put is told by it.
  pub ends : ActsByWords role asked → Ends (answer_of role asked) (put_in m old new) exit
  -- What is seen in the words without memory comes whether there is memory or not.
  pub at_once : IfSome (exit_at_once role asked) (λ due. exit ≡ due)
  -- Words that are refused leave the whole outside as it was.
  pub idle : IsRefusal (job_of role asked) →
      (new.port ≡ old.port) × (new.files ≡ old.files) × (new.out ≡ old.out) × (new.clock ≡ old.clock) × (new.chances ≡ old.chances)
  -- A failure of the outside is told only where a count of it rose.
  pub file_cause : exit ≡ FileFault → Rose (m.file_faults old.files) (m.file_faults new.files)
  pub port_cause : exit ≡ PortFault → Rose (m.port_faults old.port) (m.port_faults new.port)
  pub sink_cause : exit ≡ SinkFault → Rose (m.sink_faults old.out) (m.sink_faults new.out)
  -- Of `check`, `show` and `drill` words that come to an exit alone leave the sink as it was, and so does want of
  -- memory.
  pub untouched : ActsByWords role asked → (due : Exit) → answer_of role asked ≡ Err due → new.out ≡ old.out
  pub memory : ActsByWords role asked → exit ≡ NoMemory → new.out ≡ old.out
  -- `check`, `show` and `drill` leave port, files, clock and challenges as they were.
  pub port : ActsByWords role asked → new.port ≡ old.port
  pub files : ActsByWords role asked → new.files ≡ old.files
  pub clock : ActsByWords role asked → new.clock ≡ old.clock
  pub chances : ActsByWords role asked → new.chances ≡ old.chances
  -- The file is written alone that the words name for what is kept, and none where they name none.
  pub writes : WritesInto (kept_file role asked) (m.writes old.files) (m.writes new.files)
  -- No count of faults falls.
  pub faults : m.sink_faults old.out ≤ m.sink_faults new.out
  pub file_faults : m.file_faults old.files ≤ m.file_faults new.files
  pub port_faults : m.port_faults old.port ≤ m.port_faults new.port
  pub link_faults : m.link_faults old.port ≤ m.link_faults new.port

-- ---- when each exit comes

-- The program acts so, and its exit comes exactly, or only, so.
pub record Runs {P F S C Q : Type 0} (m : Meanings P F S C Q) (role : Role) (asked : List (List ℕ)) (old new : Outside P F S C Q) (exit : Exit) : Type 0 where
  pub acts : Acts m role asked old new exit
  -- A check is answered `accepted` where the response verifies, and `refused` where it doesn't.
  pub accepted : AskedAccepted role asked → Ends (Ok (verdict_answer true)) (put_in m old new) exit
  pub refused : AskedRefused role asked → Ends (Ok (verdict_answer false)) (put_in m old new) exit
  -- A logon client asked to show a message puts its lines.
  pub shown : (shows : AskedShown role asked) → Ends (Ok (shown shows.lines)) (put_in m old new) exit
  -- A logon client asked for a drill puts the six lines of its run.
  pub drilled : (drills : AskedDrill role asked) → Ends (drill_answer drills.number drills.count) (put_in m old new) exit
  -- What is claimed of every run is proved of that drill's, all of which was made unless memory ran out.
  pub proved : (drills : AskedDrill role asked) → exit ≢ NoMemory → IsProvedDrill drills.number drills.count
  -- Only there does another command end so.
  pub done : ActsByWords role asked → exit ≡ Done → IsDone role asked (put_in m old new)
  pub refused_only : ActsByWords role asked → (cause : RefusedCause) → exit ≡ Refused cause → IsRefused role asked cause (put_in m old new)
  -- The command line isn't of its form exactly there, but for want of memory.
  pub words : (number : ℕ) → IsBadWords role asked number → Comes (BadWords number) exit
  pub words_only : (number : ℕ) → exit ≡ BadWords number → IsBadWords role asked number
  -- A word isn't of its form exactly there, but for want of memory.
  pub input : (number : ℕ) → IsBadInput role asked number → Comes (BadInput number) exit
  pub input_only : ActsByWords role asked → (number : ℕ) → exit ≡ BadInput number → IsBadInput role asked number
  -- A file that the words name is refused exactly there, where what files hold is told and no read fails, but for want
  -- of memory.
  pub contents : (refused : FilesRefused) → IsBadOfFiles role asked (m.contents old.files) refused →
      ¬ Rose (m.file_faults old.files) (m.file_faults new.files) → Comes (files_exit refused) exit
  pub contents_only : uses_port role asked ≡ true → (told : List (List ℕ × List ℕ)) (refused : FilesRefused) → m.contents old.files ≡ Some told →
      IsOfContents refused → exit ≡ files_exit refused → IsBadOfFiles role asked (m.contents old.files) refused
  -- No other command comes to an exit that tells of a file, a table, the port, a peer or spent challenges.
  pub others : ActsByWords role asked → IsOfTheCommands exit
  -- A logon, or a station, finds its dial failed only where one did, its link closed only where that was shown.
  pub dial_failed : exit ≡ NoAnswer DialFailed → Rose (m.link_faults old.port) (m.link_faults new.port)
  pub link_lost : exit ≡ NoAnswer LinkClosed → LosesLink (sight_in m old) (sight_in m new)
  -- Words and inputs of their forms come to their work, where the sink doesn't fail.
  pub complete : IsOfForm role asked → ¬ Rose (m.sink_faults old.out) (m.sink_faults new.out) → IsWorkDone role exit
  -- A command whose words and files are of their forms serves its end, or comes to an outcome or to none, where no
  -- count rises.
  pub served : (form : IsServiceOfForm role asked (m.contents old.files)) → ¬ Rose (m.file_faults old.files) (m.file_faults new.files) →
      ¬ Rose (m.port_faults old.port) (m.port_faults new.port) → ¬ Rose (m.sink_faults old.out) (m.sink_faults new.out) → IsServedBy form.setup exit

-- ---- a program

-- the words of the process's arguments, or the exit where there are none
abbrev pub asked_in : {V : Type 0} → Result V Exit → (V → List (List ℕ)) → Result (List (List ℕ)) Exit
asked_in (Ok arguments) text = Ok (text arguments)
asked_in (Err exit) text = Err exit

-- The words are run, or nothing is done.
abbrev pub RunsAsked : {P F S C Q : Type 0} → Meanings P F S C Q → Role → Result (List (List ℕ)) Exit → Outside P F S C Q → Outside P F S C Q → Exit → Type 0
RunsAsked m role (Ok words) old new exit = Runs m role words old new exit
RunsAsked m role (Err refusal) old new exit = (exit ≡ refusal) × (new ≡ old)

-- The text of an exit was put into the sink of errors: all of it, or a front of it where that sink failed. Or there was
-- no memory for it, and nothing was put.
abbrev pub SaysExit : {E : Type 0} → Exit → (E → Option (List ℕ)) → (E → ℕ) → E → E → Type 0
SaysExit exit taken faults errors errors_after = IsSaid (said_of exit) (change_of taken faults errors errors_after) ⊎ (errors_after ≡ errors)

-- A program came to an exit: this is its status, and its text was said.
pub record Reports {P F S C Q E : Type 0} (m : Meanings P F S C Q) (role : Role) (asked : Result (List (List ℕ)) Exit) (old new : Outside P F S C Q)
    (taken : E → Option (List ℕ)) (faults : E → ℕ) (errors errors_after : E) (status : ℕ) : Type 0 where
  pub exit : Exit
  pub runs : RunsAsked m role asked old new exit
  pub status_is : status ≡ status_of exit
  pub said : SaysExit exit taken faults errors errors_after

-- Of standard output and standard error, seen as their counts of failures, nothing is told of what was taken.
abbrev pub untold : ℕ → Option (List ℕ)
untold count = None

abbrev pub count_of : ℕ → ℕ
count_of count = count

-- There are words, or arguments that are no words, of which a program's run and status are those of `Reports`, over a
-- standard output and a standard error that hadn't failed yet.
pub record Starts {P F C Q : Type 0} (m : Meanings P F ℕ C Q) (role : Role) (old new : ℕ → Outside P F ℕ C Q) (status : ℕ) : Type 0 where
  pub asked : Result (List (List ℕ)) Exit
  -- no words are there only where the program's arguments are none, or for want of memory
  pub none : IfErr asked (λ exit. Comes (BadWords 0) exit)
  pub out_faults : ℕ
  pub error_faults : ℕ
  pub reports : Reports m role asked (old 0) (new out_faults) untold count_of 0 error_faults status
