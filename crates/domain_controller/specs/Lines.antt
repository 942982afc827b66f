-- The lines that a controller puts (this project's own choice): how each authenticator was judged, with the NTSTATUS of
-- the reply as 8 hex digits.
use Rattle.std.specs.Prelude.{ℕ, List, [], ◌++◌, codes}
use Rattle.std.specs.Int.{w32, to_be_bytes}
use Rattle.hex.specs.Hex.{encode_lower}
use Rattle.outside.specs.declared.action.Action.{Action}
use Rattle.outside.specs.declared.action.Action.TheVariants as action
use Rattle.outside.specs.declared.action.Judged.{Judged}
use Rattle.outside.specs.declared.action.Judged.TheVariants as judged

unfoldable pub judged_line : Judged → List ℕ
judged_line (judged.Passed status) = codes "passed " ++ encode_lower (to_be_bytes w32 status) ++ codes "\n"
judged_line judged.Forwarded = codes "forwarded\n"
judged_line (judged.Answered status) = codes "answered " ++ encode_lower (to_be_bytes w32 status) ++ codes "\n"
judged_line judged.Barred = codes "barred\n"
judged_line judged.NoChannel = codes "no channel\n"

-- other actions put none
abbrev pub line_of : Action → List ℕ
line_of (action.Judged how) = judged_line how
line_of (action.Keep bytes) = []
line_of (action.Send link bytes) = []
line_of (action.Dial peer) = []
line_of (action.Close link cause) = []
line_of (action.Told link outcome) = []
