-- The lines that are put for what a member tells (this project's own choice). Units and bytes of texts are printed as
-- ASCII.
use Rattle.std.specs.Prelude.{ℕ, List, [], ◌++◌, codes}
use Rattle.std.specs.Fmt.{decimal}
use Rattle.std.specs.Int.{w32, to_be_bytes}
use Rattle.hex.specs.Hex.{encode_lower}
use Rattle.wire_base.specs.Names.{printable_text}
use Rattle.outside.specs.declared.action.Action.{Action}
use Rattle.outside.specs.declared.action.Action.TheVariants as action
use Rattle.outside.specs.declared.action.Outcome.{Outcome}
use Rattle.outside.specs.declared.action.Outcome.TheVariants as outcome

-- how the logon of a link ended: `in` with the domain and the user, `out` with the NTSTATUS as 8 hex digits, or `no
-- controller`
abbrev pub outcome_text : Outcome → List ℕ
outcome_text (outcome.In domain user key) = codes "in " ++ printable_text domain ++ codes "\\" ++ printable_text user
outcome_text (outcome.Out status) = codes "out " ++ encode_lower (to_be_bytes w32 status)
outcome_text (outcome.NoController cause) = codes "no controller"

unfoldable pub told_line : ℕ → Outcome → List ℕ
told_line link how = codes "link " ++ decimal link ++ codes " " ++ outcome_text how ++ codes "\n"

-- nothing is put for what is kept, and for what is done at the port
abbrev pub line_of : Action → List ℕ
line_of (action.Told link how) = told_line link how
line_of (action.Judged judged) = []
line_of (action.Keep bytes) = []
line_of (action.Send link bytes) = []
line_of (action.Dial peer) = []
line_of (action.Close link cause) = []
