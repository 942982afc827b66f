-- Words that must be of a form (this project's own choice). Words are lists of bytes, numbered from 1 after the
-- command.
use Rattle.std.specs.Prelude.{ℕ, Result, Ok, Err}
use Rattle.nt_top.specs.declared.exit.Exit.{Exit}
use Rattle.nt_top.specs.declared.exit.Exit.TheVariants.{BadInput}

-- What follows where the word of that number was of its form; else that it isn't.
abbrev pub needs : {X E Y : Type 0} → ℕ → Result X E → (X → Result Y Exit) → Result Y Exit
needs number (Ok x) rest = rest x
needs number (Err refused) rest = Err (BadInput number)
