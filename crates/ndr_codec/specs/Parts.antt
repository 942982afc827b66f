-- The parts that stand in many stubs, each as a layout, and how they are put. Padding, nonzero referents and maximum
-- lengths are free; of these a part is put with a maximum that is its length, and an empty counted string with a null
-- pointer (this project's own choice).
use Rattle.std.specs.Prelude.{ℕ, ◌+◌, ◌*◌, ◌/◌, ◌%◌, ◌^◌, ◌≤◌, ◌==◌, ◌&&◌, ◌||◌, Bool, true, false, not, List, [], ◌∷◌, length, Option, Some, None, nat_le, replicate}
use Rattle.ndr_codec.specs.declared.refused.NdrRefused.{NdrRefused}
use Rattle.ndr_codec.specs.declared.refused.NdrRefused.TheVariants.{BadPart}
use Rattle.ndr_codec.specs.declared.parts.Head.{Head}
use Rattle.ndr_codec.specs.Layout.{start_of, short, long, pointer, text, counted, counted_bytes}
use Rattle.ndr_codec.specs.Stub.{LayoutOf, item, done, only, placed, times, put_all, ◌>>=◌}
use Rattle.ndr_codec.specs.Writing.{Written, put}

-- a layout that is refused as items are
abbrev pub Part : Type 0 → Type 1
Part T = LayoutOf NdrRefused T

-- ---- pointers (C706 14.3.10)

-- the target of a pointer that is a parameter, where it points to something
abbrev pub pointed : {E T : Type 0} → LayoutOf E T → Bool → LayoutOf E (Option T)
pointed target false = done None
pointed target true = do
  value ← target
  done (Some value)

-- a unique pointer that is a parameter: its target follows it (C706 14.3.11)
unfoldable pub unique : {E T : Type 0} → LayoutOf E T → LayoutOf E (Option T)
unique target = do
  there ← item pointer
  pointed target there

-- a unique pointer to a `string`
abbrev pub unique_text : Part (Option (List ℕ))
unique_text = unique (item text)

-- a pointer that may not be null, refused where its referent begins
unfoldable pub some_pointer : Part (Unit {0})
some_pointer = placed (λ place. do
  there ← item pointer
  only there (BadPart (start_of 4 place)) (done tt))

-- ---- numbers of 64 bits as two of 32, the low half first (OLD_LARGE_INTEGER, MS-SAMR 2.2.2.2)

unfoldable pub halves : Part ℕ
halves = do
  low ← item long
  high ← item long
  done (low + high * 2 ^ 32)

-- ---- reserved numbers of 32 bits: any may stand there

unfoldable pub reserved : ℕ → Part (Unit {0})
reserved count = do
  passed ← times count (item long)
  done tt

-- ---- counted strings in a structure (RPC_UNICODE_STRING, MS-DTYP 2.3.10; STRING, MS-NRPC 2.2.1.1.2): a head in the
-- structure, and a target behind it (C706 14.3.12)

-- the length, in bytes, is that of whole items of `size` bytes each, at most the maximum, and 0 where nothing is
-- pointed to
abbrev pub is_head : ℕ → ℕ → ℕ → Bool → Bool
is_head size len maximum there = nat_le len maximum && len % size == 0 && (there || len == 0)

-- a head that breaks a rule is refused where it begins
unfoldable pub head : ℕ → Part Head
head size = placed (λ place. do
  len ← item short
  maximum ← item short
  there ← item pointer
  only (is_head size len maximum there) (BadPart (start_of 2 place)) (done (record { len = len; there = there })))

-- the target of a pointer in a structure; nothing where nothing is pointed to
abbrev pub target : {E T : Type 0} → LayoutOf E (List T) → Bool → LayoutOf E (List T)
target layout false = done []
target layout true = layout

unfoldable pub units : Head → Part (List ℕ)
units head = target (item (counted head.len)) head.there

unfoldable pub bytes : Head → Part (List ℕ)
bytes head = target (item (counted_bytes head.len)) head.there

-- ---- what can be put

abbrev pub FitsText : List ℕ → Type 0
FitsText units = length units ≤ 32767

abbrev pub FitsBytes : List ℕ → Type 0
FitsBytes bytes = length bytes ≤ 65535

abbrev pub IfThere : {T : Type 0} → (T → Type 0) → Option T → Type 0
IfThere Is None = Unit {0}
IfThere Is (Some value) = Is value

-- ---- at most so many bytes are put

-- a text, its head and its final zero
abbrev pub text_size : List ℕ → ℕ
text_size units = 17 + 2 * length units

abbrev pub size_if_there : {T : Type 0} → (T → ℕ) → Option T → ℕ
size_if_there size None = 0
size_if_there size (Some value) = size value

-- ---- how parts are put

abbrev pub Putting : Type 0
Putting = Written → Written

-- one after the other
infixl 10 ◌>>◌
abbrev pub ◌>>◌ : Putting → Putting → Putting
(first >> next) written = next (first written)

-- nothing
abbrev pub keep : Putting
keep written = written

-- a unique pointer that is a parameter, and its target
abbrev pub put_unique : {T : Type 0} → (T → Putting) → Option T → Putting
put_unique put_target None = put pointer false
put_unique put_target (Some value) = put pointer true >> put_target value

-- the low half, and then the high one
unfoldable pub put_halves : ℕ → Putting
put_halves n = put long (n % 2 ^ 32) >> put long (n / 2 ^ 32)

-- zeros
unfoldable pub put_reserved : ℕ → Putting
put_reserved count = put_all (put long) (replicate count 0)

-- the head of a counted string of that many bytes: what is empty has no target
abbrev pub head_of : ℕ → Head
head_of len = record { len = len; there = not (len == 0) }

unfoldable pub put_head : ℕ → Putting
put_head len = put short len >> put short len >> put pointer (not (len == 0))

-- the heads of a counted string and of counted bytes

abbrev pub units_head : List ℕ → Head
units_head units = head_of (2 * length units)

abbrev pub bytes_head : List ℕ → Head
bytes_head bytes = head_of (length bytes)

-- the target of a counted string
abbrev pub put_units : List ℕ → Putting
put_units [] = keep
put_units (unit ∷ units) = put (counted (2 * length (unit ∷ units))) (unit ∷ units)

-- the target of counted bytes
abbrev pub put_bytes : List ℕ → Putting
put_bytes [] = keep
put_bytes (first ∷ rest) = put (counted_bytes (length (first ∷ rest))) (first ∷ rest)
