-- The lines that are put for what a station tells (this project's own choice). Units of texts are printed as ASCII.
use Rattle.std.specs.Prelude.{ℕ, List, [], ◌++◌, codes}
use Rattle.wire_base.specs.Names.{printable_text}
use Rattle.outside.specs.declared.action.Action.{Action}
use Rattle.outside.specs.declared.action.Action.TheVariants as action
use Rattle.outside.specs.declared.action.Outcome.{Outcome}
use Rattle.outside.specs.declared.action.Outcome.TheVariants as outcome

-- the user is in: `in` with the domain and the user
unfoldable pub in_line : (domain user : List ℕ) → List ℕ
in_line domain user = codes "in " ++ printable_text domain ++ codes "\\" ++ printable_text user ++ codes "\n"

-- a station tells nothing but that
abbrev pub told_line : Outcome → List ℕ
told_line (outcome.In domain user key) = in_line domain user
told_line (outcome.Out status) = []
told_line (outcome.NoController cause) = []

-- nothing is put for what is done at the port
abbrev pub line_of : Action → List ℕ
line_of (action.Told link how) = told_line how
line_of (action.Judged judged) = []
line_of (action.Keep bytes) = []
line_of (action.Send link bytes) = []
line_of (action.Dial peer) = []
line_of (action.Close link cause) = []
