-- How a command ends (this project's own choice).
use Rattle.std.specs.Prelude.{◌≡◌, ◌⊎◌, ℕ, List, Option, Some, None, Result, Ok, Err}
use Rattle.outside.specs.Causes.{Rose}
use Rattle.outside.specs.Telling.{Tells, Appends, AppendsFront}
use Rattle.nt_top.specs.declared.answer.Answer.{Answer}
use Rattle.nt_top.specs.declared.exit.Exit.{Exit}
use Rattle.nt_top.specs.declared.exit.Exit.TheVariants.{Done, Refused, BadWords, FileFault, BadTable, BadInput, PortFault, SinkFault, NoMemory, NoAnswer, BadPeer, Spent}

-- What the sink tells of the bytes taken, and its count of faults, before and after.
pub record SinkChange : Type 0 where
  pub before : Option (List ℕ)
  pub now : Option (List ℕ)
  pub faults_before : ℕ
  pub faults : ℕ

-- the change of a sink of any type, by what it tells and counts
abbrev pub change_of : {X : Type 0} → (X → Option (List ℕ)) → (X → ℕ) → X → X → SinkChange
change_of taken faults old new = record { before = taken old; now = taken new; faults_before = faults old; faults = faults new }

-- All of a text was put, or the sink failed, and then a front of it was.
abbrev pub IsSaid : List ℕ → SinkChange → Type 0
IsSaid text s = Appends s.before s.now text ⊎ (Rose s.faults_before s.faults × AppendsFront s.before s.now text)

-- Where the words come to an exit alone, that is the exit, and nothing is put. Where they come to an answer, all of its
-- lines are put, and the exit is `Done`, or `Refused` with its cause; in place of that may come `SinkFault`, only where
-- the sink's count of faults rose, and then a front of the lines is put. Want of memory may come in place of each, and
-- then nothing is put: the lines are made before the first of them is put. What is put is said where the sink tells
-- what it took.
abbrev pub Ends : Result Answer Exit → SinkChange → Exit → Type 0
Ends (Err refusal) s exit = ((exit ≡ NoMemory) ⊎ (exit ≡ refusal)) × Tells s.before s.now (λ before now. now ≡ before)
Ends (Ok answer) s Done = (answer.refused ≡ None) × Appends s.before s.now answer.lines
Ends (Ok answer) s (Refused cause) = (answer.refused ≡ Some cause) × Appends s.before s.now answer.lines
Ends (Ok answer) s SinkFault = Rose s.faults_before s.faults × AppendsFront s.before s.now answer.lines
Ends (Ok answer) s NoMemory = Tells s.before s.now (λ before now. now ≡ before)
Ends (Ok answer) s (BadWords number) = ⊥
Ends (Ok answer) s FileFault = ⊥
Ends (Ok answer) s (BadTable cause) = ⊥
Ends (Ok answer) s (BadInput number) = ⊥
Ends (Ok answer) s PortFault = ⊥
Ends (Ok answer) s (NoAnswer cause) = ⊥
Ends (Ok answer) s (BadPeer fault) = ⊥
Ends (Ok answer) s Spent = ⊥
