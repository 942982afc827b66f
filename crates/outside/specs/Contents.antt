-- The contents of named files, where they are told: an association list, of which the first entry of a name counts.
use Rattle.std.specs.Prelude.{◌≡◌, ◌⊎◌, ℕ, Bool, true, false, ◌<◌, ◌≤◌, length, List, [], ◌∷◌, Option, Some, Result, Ok, Err, IsSomeAnd}
use Rattle.std.specs.Str.{bytes_eq}
use Rattle.wire_base.specs.Maps.{lookup}
use Rattle.outside.specs.declared.files.FileRefused.{FileRefused}
use Rattle.outside.specs.declared.port.Failed.{Failed as failure}
use Rattle.outside.specs.declared.files.FileRefused.TheVariants.{Failed, TooLong, Memory}

-- the most bytes of a file: 16 MiB
abbrev pub most_file_bytes : ℕ
most_file_bytes = 16777216

-- the content of a name: two names are the same where their bytes are
abbrev pub content_of : List (List ℕ × List ℕ) → List ℕ → Option (List ℕ)
content_of files name = lookup bytes_eq name files

-- What a read of a name answers, but for its failure and for want of memory: the content where it is within the limit,
-- `TooLong` exactly where it is longer.
abbrev pub AnswersFrom : List (List ℕ × List ℕ) → List ℕ → Result (List ℕ) FileRefused → Type 0
AnswersFrom files name (Ok content) = (content_of files name ≡ Some content) × (length content ≤ most_file_bytes)
AnswersFrom files name (Err TooLong) = IsSomeAnd (content_of files name) (λ content. most_file_bytes < length content)
AnswersFrom files name (Err _) = Unit {0}

-- whether the read failed
abbrev pub is_failed : {T : Type 0} → Result T FileRefused → Bool
is_failed (Err Failed) = true
is_failed _ = false

-- what a read adds to the list of reads: nothing where memory ran out
abbrev pub reading : List ℕ → Result (List ℕ) FileRefused → List (List ℕ × Bool)
reading name (Ok content) = (name, false) ∷ []
reading name (Err TooLong) = (name, false) ∷ []
reading name (Err Failed) = (name, true) ∷ []
reading name (Err Memory) = []

-- ---- writes

-- the file of that name has these bytes, and every other file is as it was
pub record Writes (files now : List (List ℕ × List ℕ)) (name bytes : List ℕ) : Type 0 where
  pub written : content_of now name ≡ Some bytes
  pub others : (other : List ℕ) → bytes_eq name other ≡ false → content_of now other ≡ content_of files other

-- every file is as it was
abbrev pub Stay : List (List ℕ × List ℕ) → List (List ℕ × List ℕ) → Type 0
Stay files now = (name : List ℕ) → content_of now name ≡ content_of files name

-- what a write leaves: after a failure the file has the old bytes or the new ones
abbrev pub LeavesFiles : Result Unit failure → List ℕ → List ℕ → List (List ℕ × List ℕ) → List (List ℕ × List ℕ) → Type 0
LeavesFiles (Ok _) name bytes files now = Writes files now name bytes
LeavesFiles (Err _) name bytes files now = Stay files now ⊎ Writes files now name bytes
