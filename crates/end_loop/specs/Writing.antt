-- What files tell, and which are written (this project's own choice). Names and contents are lists of bytes.
use Rattle.std.specs.Prelude.{◌≡◌, ◌⊎◌, ℕ, Bool, true, false, List, [], ◌∷◌, Option}
use Rattle.outside.specs.Contents.{Stay, Writes}
use Rattle.outside.specs.Telling.{Appends, Tells}

-- a write: the name of the file, its bytes, and whether the write failed
abbrev pub Write : Type 0
Write = List ℕ × List ℕ × Bool

-- What files tell at one moment: what they hold, the names read, each with whether that failed, and the writes.
pub record FilesTold : Type 0 where
  pub contents : Option (List (List ℕ × List ℕ))
  pub reads : Option (List (List ℕ × Bool))
  pub writes : Option (List Write)

-- what they tell, by the meanings of their trait
abbrev pub files_told : {F : Type 0} → (F → Option (List (List ℕ × List ℕ))) → (F → Option (List (List ℕ × Bool))) → (F → Option (List Write)) → F → FilesTold
files_told contents reads writes files = record { contents = contents files; reads = reads files; writes = writes files }

-- What one write leaves, by whether it failed: after a failure the file has the old bytes or the new ones.
abbrev pub LeavesBy : Bool → List ℕ → List ℕ → List (List ℕ × List ℕ) → List (List ℕ × List ℕ) → Type 0
LeavesBy false name bytes files now = Writes files now name bytes
LeavesBy true name bytes files now = Stay files now ⊎ Writes files now name bytes

-- What writes leave, one after the other.
abbrev pub Leaves : List Write → List (List ℕ × List ℕ) → List (List ℕ × List ℕ) → Type 0
Leaves [] files now = now ≡ files
Leaves (write ∷ writes) files now =
    (middle : List (List ℕ × List ℕ)) × LeavesBy write.2 write.0 write.1 files middle × Leaves writes middle now

-- Between two moments these writes were made, in order, and no file was read.
pub record WritesFiles (before after : FilesTold) (writes : List Write) : Type 0 where
  pub contents : Tells before.contents after.contents (Leaves writes)
  pub reads : Appends before.reads after.reads []
  pub told : Appends before.writes after.writes writes
