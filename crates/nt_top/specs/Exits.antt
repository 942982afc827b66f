-- Exit statuses and what is said of an exit (this project's own choice).
use Rattle.std.specs.Prelude.{ℕ, List, [], ◌∷◌, ◌++◌, codes}
use Rattle.std.specs.Fmt.{decimal}
use Rattle.nt_top.specs.declared.exit.Exit.{Exit}
use Rattle.nt_top.specs.declared.exit.Exit.TheVariants.{Done, Refused, BadWords, FileFault, BadTable, BadInput, PortFault, SinkFault, NoMemory, NoAnswer, BadPeer, Spent}

-- the exit status of the process, and the line on standard error without its newline
abbrev pub row_of : Exit → ℕ × List ℕ
row_of Done = (0, [])
row_of (Refused cause) = (1, codes "refused")
row_of (BadWords number) = (2, codes "bad words: " ++ decimal number)
row_of FileFault = (3, codes "file not read")
row_of (BadTable cause) = (4, codes "bad table")
row_of (BadInput number) = (4, codes "bad input: " ++ decimal number)
row_of PortFault = (5, codes "port failed")
row_of SinkFault = (6, codes "output failed")
row_of NoMemory = (7, codes "no memory")
row_of (NoAnswer cause) = (8, codes "no answer")
row_of (BadPeer fault) = (9, codes "bad peer")
row_of Spent = (10, codes "challenges spent")

abbrev pub status_of : Exit → ℕ
status_of exit = (row_of exit).0

abbrev pub line_of : Exit → List ℕ
line_of exit = (row_of exit).1

-- what is put on standard error: nothing where the line is empty, else the line and a newline
abbrev pub with_newline : List ℕ → List ℕ
with_newline [] = []
with_newline (byte ∷ bytes) = byte ∷ bytes ++ codes "\n"

abbrev pub said_of : Exit → List ℕ
said_of exit = with_newline (line_of exit)
