-- A logon that was asked of another controller, and what its answer needs (this project's own choice). A credential has
-- 8 bytes, a key 16.
use Rattle.std.specs.Prelude.{ℕ, ◌==◌, Bool, true, false, List, Option, Some, None}
use Rattle.controller_calls.specs.Desk.{IsLine}
use Rattle.controller_calls.specs.Logons.{IsServedLevel}
use Rattle.controller_calls.specs.declared.line.Line.{Line}

-- Where its answer goes, or None once that link has closed; and what the answer needs: the validation level that was
-- asked for, and the session key and the return credential of the channel on which the logon came.
pub record ForwardedState : Type 0 where
  pub line : Option Line
  pub validation : ℕ
  pub key : List ℕ
  pub credential : List ℕ

-- where there is a line, `IsLine` holds of it
abbrev pub IsLineIfThere : Option Line → Type 0
IsLineIfThere None = Unit {0}
IsLineIfThere (Some line) = IsLine line

pub record IsForwardedCall (f : ForwardedState) : Type 0 where
  pub line : IsLineIfThere f.line
  pub level : IsServedLevel f.validation

-- once a link has closed
abbrev pub line_unless : (is_link : Bool) → Line → Option Line
line_unless false line = Some line
line_unless true line = None

abbrev pub line_without : ℕ → Option Line → Option Line
line_without number None = None
line_without number (Some line) = line_unless (line.link == number) line

abbrev pub call_without : ℕ → ForwardedState → ForwardedState
call_without number f = record f { line = line_without number f.line }

-- what is kept of a logon as it is handed on
abbrev pub forwarded_call : Line → ℕ → List ℕ → List ℕ → ForwardedState
forwarded_call line validation key credential =
    record { line = Some line; validation = validation; key = key; credential = credential }
