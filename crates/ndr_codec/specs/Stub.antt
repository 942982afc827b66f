-- A layout of parameters in a stub, described once for both of its meanings: the bytes that have it, and how they are
-- read. The parts stand one after the other, and a refusal, of a type E, is told where a test of what was read fails
-- (C706 14.4).
use Rattle.std.specs.Prelude.{ℕ, ◌≡◌, ◌+◌, ◌⊎◌, Bool, List, [], ◌∷◌, ◌++◌, Option, Some, None, Result, Ok, Err, replicate}
use Rattle.std.specs.Option.{option_map, unwrap_or}
use Rattle.ndr_codec.specs.declared.refused.NdrRefused.{NdrRefused}
use Rattle.ndr_codec.specs.declared.refused.NdrRefused.TheVariants.{Ends, BadCount, NoFinalZero, BadPart, Memory}
use Rattle.ndr_codec.specs.Cursor.{Cursor}
use Rattle.ndr_codec.specs.Layout.{Grammar, Shape, ValueOf, IsNdr, Then, Done, When}
use Rattle.ndr_codec.specs.Reading.{Reading, read, guarded, lifted, read_on}
use Rattle.ndr_codec.specs.Writing.{Written, Writes}

-- where the item begins that is refused; none of want of memory
abbrev pub place_of : NdrRefused → Option ℕ
place_of (Ends place) = Some place
place_of (BadCount place) = Some place
place_of (NoFinalZero place) = Some place
place_of (BadPart place) = Some place
place_of Memory = None

-- a refusal of an item as one of E, which tells its place alone
abbrev pub told_by_place : {E : Type 0} → (ℕ → E) → E → NdrRefused → E
told_by_place bad memory refused = unwrap_or (option_map bad (place_of refused)) memory

-- a layout of values of T, whose refusals are of E: LayoutOf E T
pub data LayoutOf : Type 0 → Type 0 → Type 1 where
  -- an item in NDR
  item : {E : Type 0} (s : Shape) → LayoutOf E (ValueOf s)
  -- a layout whose refusals are those of items
  part : {E T : Type 0} → LayoutOf NdrRefused T → LayoutOf E T
  -- a part, and then what its value calls for
  after : {E A B : Type 0} → LayoutOf E A → (A → LayoutOf E B) → LayoutOf E B
  -- nothing more: the value is made of what came before
  done : {E T : Type 0} → T → LayoutOf E T
  -- only where a test of what came before holds; else it is refused so
  only : {E T : Type 0} → Bool → E → LayoutOf E T → LayoutOf E T
  -- with the place where it begins
  placed : {E T : Type 0} → (ℕ → LayoutOf E T) → LayoutOf E T

infixl 10 ◌>>=◌
abbrev pub ◌>>=◌ : {E A B : Type 0} → LayoutOf E A → (A → LayoutOf E B) → LayoutOf E B
first >>= rest = after first rest

-- the bytes from a place on that have the layout with a value
abbrev pub HasLayout : {E T : Type 0} → LayoutOf E T → Grammar T
HasLayout (item s) place value bytes = IsNdr s place value bytes
HasLayout (part layout) place value bytes = HasLayout layout place value bytes
HasLayout (after first rest) place value bytes = Then (HasLayout first) (λ x. HasLayout (rest x)) place value bytes
HasLayout (done made) place value bytes = Done made place value bytes
HasLayout (only test refused layout) place value bytes = When test (HasLayout layout) place value bytes
HasLayout (placed layout) place value bytes = HasLayout (layout place) place value bytes

-- what is read where a cursor stands: the value and the cursor behind it, or the first refusal; an item's refusal is
-- told as one of E
abbrev pub reading_by : {E T : Type 0} → (NdrRefused → E) → LayoutOf E T → Reading T E
reading_by told (item s) cursor = lifted told (read s) cursor
reading_by told (part layout) cursor = lifted told (reading_by (λ refused. refused) layout) cursor
reading_by told (after first rest) cursor = read_on (reading_by told first cursor) (λ x. reading_by told (rest x))
reading_by told (done made) cursor = Ok (made, cursor)
reading_by told (only test refused layout) cursor = guarded test refused (reading_by told layout) cursor
reading_by told (placed layout) cursor = reading_by told (layout cursor.place) cursor

-- What a reading function promises: its answer is what is read where the reader stood, or want of memory, and at Ok the
-- reader stands behind it.
abbrev pub ReadsBy : {E T : Type 0} → E → (NdrRefused → E) → LayoutOf E T → Result T E → Cursor → Cursor → Type 0
ReadsBy memory told layout (Ok value) old new = reading_by told layout old ≡ Ok (value, new)
ReadsBy memory told layout (Err refused) old new = (refused ≡ memory) ⊎ (reading_by told layout old ≡ Err refused)

-- What a function promises that reads a part, with the refusals of items: its answer is what is read where the reader
-- stood, and at Ok the reader stands behind it.
abbrev pub ReadsPart : {T : Type 0} → LayoutOf NdrRefused T → Result T NdrRefused → Cursor → Cursor → Type 0
ReadsPart layout (Ok value) old new = reading_by (λ refused. refused) layout old ≡ Ok (value, new)
ReadsPart layout (Err refused) old new = reading_by (λ refused. refused) layout old ≡ Err refused

-- what `ReadsPart` says, or want of memory
abbrev pub ReadsPartUpToMemory : {T : Type 0} → LayoutOf NdrRefused T → Result T NdrRefused → Cursor → Cursor → Type 0
ReadsPartUpToMemory = ReadsBy Memory (λ refused. refused)

-- the new bytes are the old ones and then bytes that have the layout with that value, at most so many
pub record WritesBy {E T : Type 0} (layout : LayoutOf E T) (value : T) (size : ℕ) (old new : Written) : Type 0 where
  pub writes : Writes (HasLayout layout) value size old new

-- a layout for each of some values, one after the other
abbrev pub each : {E A T : Type 0} → (A → LayoutOf E T) → List A → LayoutOf E (List T)
each layout [] = done []
each layout (one ∷ others) = after (layout one) (λ first. after (each layout others) (λ more. done (first ∷ more)))

-- that many of the same
abbrev pub times : {E T : Type 0} → ℕ → LayoutOf E T → LayoutOf E (List T)
times count layout = each {A = Unit {0}} (λ _. layout) (replicate count tt)

-- one after the other
abbrev pub put_all : {T : Type 0} → (T → Written → Written) → List T → Written → Written
put_all putting [] written = written
put_all putting (first ∷ more) written = put_all putting more (putting first written)

abbrev pub size_of_all : {T : Type 0} → (T → ℕ) → List T → ℕ
size_of_all size [] = 0
size_of_all size (first ∷ more) = size first + size_of_all size more

-- what was read, behind what was read before
abbrev pub behind : {E T : Type 0} → List T → Result (List T × Cursor) E → Result (List T × Cursor) E
behind front (Ok step) = Ok (front ++ step.0, step.1)
behind front (Err refused) = Err refused

-- ---- whole stubs

-- the stub is the bytes of the layout with that value, and then any bytes
pub record Begins {E T : Type 0} (layout : LayoutOf E T) (value : T) (stub : List ℕ) : Type 0 where
  pub bytes : List ℕ
  pub rest : List ℕ
  pub whole : stub ≡ bytes ++ rest
  pub has_layout : HasLayout layout 0 value bytes

abbrev pub made_of : {E T P : Type 0} → (T → P) → Result (T × Cursor) E → Result P E
made_of make (Ok step) = Ok (make step.0)
made_of make (Err refused) = Err refused

-- what the layout gives from the stub's first byte on, made into something, or the first refusal
abbrev pub parsed_by : {E T P : Type 0} → (NdrRefused → E) → (T → P) → LayoutOf E T → List ℕ → Result P E
parsed_by told make layout stub = made_of make (reading_by told layout (record { stub = stub; place = 0 }))
