-- The secrets that a machine keeps while it replaces its secret, the shared secret of MS-NRPC 3.1.1: this project's own
-- choice. They are the current one and, where a change is under way, the next one. One of the two is tried when a
-- channel is opened. A secret has 16 bytes.
use Rattle.std.specs.Prelude.{ℕ, ◌≡◌, ◌⊎◌, ◌==◌, Bool, true, false, not, List, [], ◌∷◌, ◌++◌, length, take, drop, nat_le, Option, Some, None, Result, Ok, Err}
use Rattle.std.specs.Option.{option_map}
use Rattle.hex.specs.Hex.{encode_lower, decode_sized}
use Rattle.hex.specs.declared.error.FromHexError.{FromHexError}
use Rattle.wire_base.specs.Numbers.{AreBytes}
use Rattle.secret_change.specs.declared.refused.Busy.{Busy}
use Rattle.secret_change.specs.declared.secrets.Next.{Next}

-- the current secret, and the next one with whether it is the one tried
pub record SecretsState : Type 0 where
  pub current : List ℕ
  pub next : Option Next

-- one secret alone
abbrev pub alone : List ℕ → SecretsState
alone secret = record { current = secret; next = None }

-- the next secret, where one is kept
abbrev pub next_of : SecretsState → Option (List ℕ)
next_of s = option_map (λ n. n.secret) s.next

-- a next secret that isn't tried yet
abbrev pub untried_next : List ℕ → Next
untried_next secret = record { secret = secret; is_tried = false }

-- the secret that is tried
abbrev pub tried_by : (is_next_tried : Bool) (next current : List ℕ) → List ℕ
tried_by true next current = next
tried_by false next current = current

abbrev pub tried_of_next : Option Next → List ℕ → List ℕ
tried_of_next None current = current
tried_of_next (Some n) current = tried_by n.is_tried n.secret current

abbrev pub tried_of : SecretsState → List ℕ
tried_of s = tried_of_next s.next s.current

-- ---- a change begins

pub record Beginning : Type 0 where
  pub answer : Result Unit Busy
  pub secrets : SecretsState

abbrev pub begin_by : Option Next → SecretsState → List ℕ → Beginning
begin_by None s new = record { answer = Ok tt; secrets = record s { next = Some (untried_next new) } }
begin_by (Some n) s new = record { answer = Err (record { next = n.secret }); secrets = s }

abbrev pub begin_of : SecretsState → List ℕ → Beginning
begin_of s new = begin_by s.next s new

-- ---- what the controller answers

-- a channel was denied under the secret that was tried: the other one is tried where there are two
abbrev pub denied_by : Option Next → SecretsState → SecretsState
denied_by None s = s
denied_by (Some n) s = record s { next = Some (record n { is_tried = not n.is_tried }) }

abbrev pub denied_of : SecretsState → SecretsState
denied_of s = denied_by s.next s

-- a channel is open under the secret that was tried: the next one, where it is that, has become the current one
abbrev pub opened_by_test : Bool → List ℕ → SecretsState → SecretsState
opened_by_test true next s = alone next
opened_by_test false next s = s

abbrev pub opened_by : Option Next → SecretsState → SecretsState
opened_by None s = s
opened_by (Some n) s = opened_by_test n.is_tried n.secret s

abbrev pub opened_of : SecretsState → SecretsState
opened_of s = opened_by s.next s

-- the controller has taken the next secret: it has become the current one, whichever was tried
abbrev pub confirmed_by : Option Next → SecretsState → SecretsState
confirmed_by None s = s
confirmed_by (Some n) s = alone n.secret

abbrev pub confirmed_of : SecretsState → SecretsState
confirmed_of s = confirmed_by s.next s

-- ---- the text that a machine keeps: a line of 32 hex digits for each secret, the current one first

abbrev pub newline : ℕ
newline = 10

-- in lower case, with a newline behind each
abbrev pub line_of : List ℕ → List ℕ
line_of secret = encode_lower secret ++ newline ∷ []

abbrev pub next_line : Option Next → List ℕ
next_line None = []
next_line (Some n) = line_of n.secret

unfoldable pub written_secrets : SecretsState → List ℕ
written_secrets s = line_of s.current ++ next_line s.next

-- a first line: its secret, and what follows its newline
pub record Line : Type 0 where
  pub secret : List ℕ
  pub rest : List ℕ

-- what follows a newline, which may be missing where the text ends; none where something else stands there
abbrev pub behind_by : Bool → List ℕ → Option (List ℕ)
behind_by true rest = Some rest
behind_by false rest = None

abbrev pub behind_newline : List ℕ → Option (List ℕ)
behind_newline [] = Some []
behind_newline (byte ∷ rest) = behind_by (byte == newline) rest

abbrev pub line_with : List ℕ → Option (List ℕ) → Option Line
line_with secret None = None
line_with secret (Some rest) = Some (record { secret = secret; rest = rest })

abbrev pub line_by : Result (List ℕ) FromHexError → List ℕ → Option Line
line_by (Err refused) behind = None
line_by (Ok secret) behind = line_with secret (behind_newline behind)

-- none where the text is shorter than the digits
abbrev pub line_if : Bool → Result (List ℕ) FromHexError → List ℕ → Option Line
line_if true digits behind = line_by digits behind
line_if false digits behind = None

-- the first line of a text: 32 hex digits in either case, and a newline or the end of the text
unfoldable pub first_line : List ℕ → Option Line
first_line text = line_if (nat_le 32 (length text)) (decode_sized (take 32 text) 16) (drop 32 text)

-- two secrets, of which the current one is tried, where nothing is left of the text
abbrev pub two_at_end : (is_at_end : Bool) → List ℕ → List ℕ → Option SecretsState
two_at_end true current next = Some (record { current = current; next = Some (untried_next next) })
two_at_end false current next = None

abbrev pub two_by : List ℕ → Option Line → Option SecretsState
two_by current None = None
two_by current (Some line) = two_at_end (length line.rest == 0) current line.secret

-- one secret, where nothing is left of the text, else two
abbrev pub one_or_two : Bool → List ℕ → List ℕ → Option SecretsState
one_or_two true current rest = Some (alone current)
one_or_two false current rest = two_by current (first_line rest)

abbrev pub secrets_by : Option Line → Option SecretsState
secrets_by None = None
secrets_by (Some line) = one_or_two (length line.rest == 0) line.secret line.rest

-- the secrets of a text; none where it has another form
unfoldable pub secrets_of : List ℕ → Option SecretsState
secrets_of text = secrets_by (first_line text)

-- what is read again of the text that is kept: which secret was tried isn't kept
abbrev pub untry : Option Next → Option Next
untry None = None
untry (Some n) = Some (untried_next n.secret)

abbrev pub reread : SecretsState → SecretsState
reread s = record s { next = untry s.next }

-- ---- the form of the text in its own terms

-- a line of a secret: 32 hex digits in either case, and what may end it
pub record IsLine (line : List ℕ) (secret : List ℕ) (end : List ℕ) : Type 0 where
  pub digits : List ℕ
  pub whole : line ≡ digits ++ end
  pub count : length digits ≡ 32
  pub written : decode_sized digits 16 ≡ Ok secret

-- a newline, or nothing
abbrev pub IsLineEnd : List ℕ → Type 0
IsLineEnd end = (end ≡ []) ⊎ (end ≡ newline ∷ [])

-- one line
pub record IsOneLine (text current : List ℕ) : Type 0 where
  pub end : List ℕ
  pub is_end : IsLineEnd end
  pub line : IsLine text current end

-- two lines: the newline of the first may not be missing
pub record AreTwoLines (text current next : List ℕ) : Type 0 where
  pub end : List ℕ
  pub is_end : IsLineEnd end
  pub second : List ℕ
  pub first : IsLine text current (newline ∷ second)
  pub second_line : IsLine second next end

-- the text of these secrets, of which the current one is tried
abbrev pub HasFormBy : List ℕ → List ℕ → Option Next → Type 0
HasFormBy text current None = IsOneLine text current
HasFormBy text current (Some n) = AreTwoLines text current n.secret × (n.is_tried ≡ false)

abbrev pub HasForm : List ℕ → SecretsState → Type 0
HasForm text s = HasFormBy text s.current s.next

-- secrets of 16 bytes each
abbrev pub IsSecret : List ℕ → Type 0
IsSecret secret = (length secret ≡ 16) × AreBytes secret

abbrev pub IsNextSecret : Option Next → Type 0
IsNextSecret None = Unit {0}
IsNextSecret (Some n) = IsSecret n.secret

abbrev pub AreSecrets : SecretsState → Type 0
AreSecrets s = IsSecret s.current × IsNextSecret s.next
