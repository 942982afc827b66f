-- What the bind of a channel that seals tells, read (MS-NRPC 2.2.1.3.1): `Trailers.bind_value_of` has what is written.
use Rattle.std.specs.Prelude.{ℕ, ◌≡◌, ◌≢◌, ◌==◌, ◌&&◌, ◌++◌, Bool, true, false, List, [], ◌∷◌, take, drop, length, nat_le, bytes_eq, Option, Some, None}
use Rattle.std.specs.List.{AllByRecursion}
use Rattle.channel_sealing.specs.Trailers.{bind_value_of}

-- two texts, each a list of bytes
abbrev pub Texts : Type 0
Texts = List ℕ × List ℕ

-- the bytes before the first zero, and those behind it; none where there is none
abbrev pub text_by : (is_zero : Bool) (byte : ℕ) (bytes : List ℕ) (later : Option Texts) → Option Texts
text_by true byte bytes later = Some ([], bytes)
text_by false byte bytes None = None
text_by false byte bytes (Some text) = Some (byte ∷ text.0, text.1)

unfoldable pub text_of : List ℕ → Option Texts
text_of [] = None
text_of (byte ∷ bytes) = text_by (byte == 0) byte bytes (text_of bytes)

-- the domain's name and the computer's
abbrev pub names_with : (domain : List ℕ) (computer : Option Texts) → Option Texts
names_with domain None = None
names_with domain (Some text) = Some (domain, text.0)

abbrev pub names_by : Option Texts → Option Texts
names_by None = None
names_by (Some text) = names_with text.0 (text_of text.1)

abbrev pub names_in : List ℕ → Option Texts
names_in bytes = names_by (text_of bytes)

abbrev pub names_if : (is_request : Bool) (bytes : List ℕ) → Option Texts
names_if false bytes = None
names_if true bytes = names_in bytes

-- the first 8 bytes are those of a request with both names
abbrev pub is_names_request : List ℕ → Bool
is_names_request value = nat_le 8 (length value) && bytes_eq (take 8 value) (0 ∷ 0 ∷ 0 ∷ 0 ∷ 3 ∷ 0 ∷ 0 ∷ 0 ∷ [])

abbrev pub bind_names_of : List ℕ → Option Texts
bind_names_of value = names_if (is_names_request value) (drop 8 value)

-- What is written is read: of names without zeros, whatever bytes stand behind them.
pub record BindNamesAreRead : Type 0 where
  pub read : (domain computer more : List ℕ) → AllByRecursion (λ (byte : ℕ). byte ≢ 0) domain → AllByRecursion (λ (byte : ℕ). byte ≢ 0) computer →
      bind_names_of (bind_value_of domain computer ++ more) ≡ Some (domain, computer)
