-- The options of a command: their names, and of what kind their values are (this project's own choice). Texts are lists
-- of bytes.
use Rattle.std.specs.Prelude.{ℕ, ◌≡◌, ◌&&◌, ◌||◌, ◌+◌, ◌++◌, Bool, true, false, not, List, [], ◌∷◌, Option, Some, None, length, nat_le, codes, if◌then◌else◌}
use Rattle.std.specs.Char.{is_ascii_digit}
use Rattle.std.specs.Int.{is_in_range}
use Rattle.std.specs.List.{list_all}
use Rattle.std.specs.Str.{bytes_eq}
use Rattle.std.specs.Str.Parse.{digits_value}
use Rattle.clap.specs.Words.{Row, Text, first_of}
use Rattle.wire_base.specs.Decimal.{number_of_bits}
use Rattle.wire_base.specs.Names.{is_name}
use Rattle.nt_words.specs.declared.options.Kind.{Kind}
use Rattle.nt_words.specs.declared.options.Kind.TheVariants.{Address, Name, File, Number, Level, Auth, Switch}

-- 1 to 10 decimal digits
abbrev pub has_digits : Text → Bool
has_digits text = is_in_range 1 10 (length text) && list_all is_ascii_digit text

-- the number of 32 bits that 1 to 10 digits write; leading zeros are allowed
abbrev pub number_by : Bool → Text → Option ℕ
number_by true text = number_of_bits 32 (digits_value 10 text)
number_by false text = None

unfoldable pub number_of : Text → Option ℕ
number_of text = number_by (has_digits text) text

abbrev pub is_at_most : ℕ → Option ℕ → Bool
is_at_most most None = false
is_at_most most (Some n) = nat_le n most

-- whether a text is one of these
abbrev pub is_one_of : List Text → Text → Bool
is_one_of [] text = false
is_one_of (one ∷ more) text = bytes_eq text one || is_one_of more text

-- whether an option has this value
abbrev pub is_text : Text → Option Text → Bool
is_text text None = false
is_text text (Some other) = bytes_eq other text

-- Whether a text is a value of the kind, beside the values of the other options: `v1` goes with the level `connect`
-- alone.
abbrev pub fits : List Row → Kind → Text → Bool
fits rows Address text = is_in_range 1 255 (length text)
fits rows Name text = is_in_range 1 64 (length text) && is_name text
fits rows File text = is_in_range 1 4096 (length text)
fits rows (Number most) text = is_at_most most (number_of text)
fits rows Level text = is_one_of (codes "connect" ∷ codes "integrity" ∷ codes "privacy" ∷ []) text
fits rows Auth text =
    if bytes_eq text (codes "v1") then is_text (codes "connect") (first_of (codes "level") rows)
    else is_one_of (codes "v1ess" ∷ codes "v2" ∷ []) text
fits rows Switch text = is_one_of (codes "on" ∷ codes "off" ∷ []) text

-- an option: its name after the two minus signs, the kind of its value, and whether it must be given
pub record Choice : Type 0 where
  pub name : Text
  pub kind : Kind
  pub needed : Bool

abbrev pub choice : Text → Kind → Bool → Choice
choice name kind needed = record { name = name; kind = kind; needed = needed }

-- whether the option's value, or that it has none, is right
abbrev pub suits : List Row → Choice → Option Text → Bool
suits rows choice None = not choice.needed
suits rows choice (Some text) = fits rows choice.kind text

-- the number of the first option whose value isn't right, where the first has this number
abbrev pub misfit_by : Bool → ℕ → Option ℕ → Option ℕ
misfit_by true number later = later
misfit_by false number later = Some number

abbrev pub first_misfit : ℕ → List Choice → List Row → Option ℕ
first_misfit number [] rows = None
first_misfit number (choice ∷ more) rows = misfit_by (suits rows choice (first_of choice.name rows)) number (first_misfit (number + 1) more rows)

-- ---- in the words' own terms

-- whether the option's value is right in these rows
abbrev pub suits_in : List Row → Choice → Bool
suits_in rows choice = suits rows choice (first_of choice.name rows)

-- The number is that of the first option whose value isn't right, where the first option has the number `first`.
pub record IsFirstMisfit (first : ℕ) (choices : List Choice) (rows : List Row) (number : ℕ) : Type 0 where
  pub front : List Choice
  pub bad : Choice
  pub behind : List Choice
  pub all_are : choices ≡ front ++ bad ∷ behind
  pub right : list_all (suits_in rows) front ≡ true
  pub wrong : suits_in rows bad ≡ false
  pub place : number ≡ first + length front

abbrev pub NumbersTheFirstMisfit : Type 0
NumbersTheFirstMisfit = (first number : ℕ) (choices : List Choice) (rows : List Row) → first_misfit first choices rows ≡ Some number →
    IsFirstMisfit first choices rows number

-- where no value is a misfit, each value is right
abbrev pub MissesNone : Type 0
MissesNone = (first : ℕ) (choices : List Choice) (rows : List Row) → first_misfit first choices rows ≡ None → list_all (suits_in rows) choices ≡ true

-- ---- options whose values are files

abbrev pub is_file : Kind → Bool
is_file Address = false
is_file Name = false
is_file File = true
is_file (Number most) = false
is_file Level = false
is_file Auth = false
is_file Switch = false

abbrev pub add_file : Bool → ℕ → Choice → List (ℕ × Choice) → List (ℕ × Choice)
add_file true number choice later = (number, choice) ∷ later
add_file false number choice later = later

-- the options whose values are files, each with its number, where the first option has the number `first`
abbrev pub file_options : ℕ → List Choice → List (ℕ × Choice)
file_options first [] = []
file_options first (choice ∷ more) = add_file (is_file choice.kind) first choice (file_options (first + 1) more)

-- the file of an option that may be missing, by the option's number, in front of others
abbrev pub file_of : ℕ → Option Text → List (ℕ × List ℕ) → List (ℕ × List ℕ)
file_of number None later = later
file_of number (Some name) later = (number, name) ∷ later
