-- The scripted implementations in memory, as their callers see them (this project's own choice). `calls` counts the
-- calls made.
use Rattle.std.specs.Prelude.{◌≡◌, ℕ, Bool, false, ◌==◌, nat_lt, List, [], ◌∷◌, length, Option, Some, None, Result, Ok, Err, if◌then◌else◌}
use Rattle.std.specs.List.{list_any}
use Rattle.std.specs.Str.{bytes_eq}
use Rattle.wire_base.specs.Maps.{put}
use Rattle.outside.specs.Causes.{next_count}
use Rattle.outside.specs.Contents.{content_of, most_file_bytes}
use Rattle.outside.specs.declared.files.FileRefused.{FileRefused}
use Rattle.outside.specs.declared.port.Failed.{Failed as failure}
use Rattle.outside.specs.declared.files.FileRefused.TheVariants.{Failed, TooLong, Memory}

-- whether the call of that number is among those that are to fail
abbrev pub call_fails : List ℕ → ℕ → Bool
call_fails failing call = list_any (λ listed. listed == call) failing

-- a scripted sink
pub record SinkScript : Type 0 where
  -- the bytes kept
  pub bytes : List ℕ
  pub failing : List ℕ
  pub calls : ℕ
  pub faults : ℕ
  -- whether the sink still tells: all bytes that it took are kept
  pub tells : Bool

-- the bytes that a sink tells
abbrev pub sink_taken : SinkScript → Option (List ℕ)
sink_taken sink = if sink.tells then Some sink.bytes else None

-- a sink that never fails
pub record SureScript : Type 0 where
  pub bytes : List ℕ
  pub tells : Bool

-- the bytes that a sink that never fails tells
abbrev pub sure_taken : SureScript → Option (List ℕ)
sure_taken sink = if sink.tells then Some sink.bytes else None

-- a listed clock
pub record ClockScript : Type 0 where
  -- the moment that comes next, and those after it, of which the last repeats
  pub next : ℕ
  pub later : List ℕ
  -- the moments given
  pub given : List ℕ
  pub tells : Bool

-- the moments that a listed clock tells
abbrev pub clock_moments : ClockScript → Option (List ℕ)
clock_moments clock = if clock.tells then Some clock.given else None

-- the moments that come once the first was given
abbrev pub moments_after : ℕ → List ℕ → List ℕ
moments_after moment [] = moment ∷ []
moments_after moment (next ∷ later) = next ∷ later

-- scripted files
pub record FilesScript : Type 0 where
  -- contents by name, of which the first of a name counts
  pub files : List (List ℕ × List ℕ)
  pub failing : List ℕ
  pub calls : ℕ
  pub faults : ℕ
  -- the names read, each with whether that failed
  pub reads : List (List ℕ × Bool)
  -- the names and bytes written, each with whether that failed
  pub writes : List (List ℕ × List ℕ × Bool)
  pub tells : Bool

-- the reads that it tells
abbrev pub file_reads : FilesScript → Option (List (List ℕ × Bool))
file_reads script = if script.tells then Some script.reads else None

-- the writes that it tells
abbrev pub file_writes : FilesScript → Option (List (List ℕ × List ℕ × Bool))
file_writes script = if script.tells then Some script.writes else None

-- what is answered for a content, or where there is none
abbrev pub copy_answer : Option (List ℕ) → Result (List ℕ) FileRefused
copy_answer None = Err Failed
copy_answer (Some content) = if nat_lt most_file_bytes (length content) then Err TooLong else Ok content

-- what a read of the name answers, unless memory runs out
abbrev pub read_answer : FilesScript → List ℕ → Result (List ℕ) FileRefused
read_answer script name =
    if call_fails script.failing script.calls then Err Failed else copy_answer (content_of script.files name)

-- what a read leaves: its call is counted, and its fault; but one that found no memory changes nothing
abbrev pub ReadsFile : FilesScript → FilesScript → Result (List ℕ) FileRefused → Type 0
ReadsFile old new (Err Memory) = new ≡ old
ReadsFile old new (Err Failed) = new ≡ record old { calls = next_count old.calls; faults = next_count old.faults; reads = new.reads; tells = new.tells }
ReadsFile old new _ = new ≡ record old { calls = next_count old.calls; reads = new.reads; tells = new.tells }

-- What a write leaves: its call is counted. At Ok its call isn't a listed one, and the entry stands in place of the
-- first of its name, or at the end; a failure is counted, and no file has changed.
abbrev pub WritesFile : List ℕ → List ℕ → FilesScript → FilesScript → Result Unit failure → Type 0
WritesFile name bytes old new (Ok _) =
    (call_fails old.failing old.calls ≡ false)
    × (new ≡ record old { files = put bytes_eq name bytes old.files; calls = next_count old.calls; writes = new.writes; tells = new.tells })
WritesFile name bytes old new (Err _) =
    new ≡ record old { calls = next_count old.calls; faults = next_count old.faults; writes = new.writes; tells = new.tells }
