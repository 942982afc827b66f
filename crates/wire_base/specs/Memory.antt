-- What every call that allocates promises (this project's own choice): its answer is determined, and want of memory may
-- come in its place.
use Rattle.std.specs.Prelude.{◌≡◌, ◌⊎◌, Result, Ok, Err}

-- The result is that value, or the error `memory`, by which this type of error tells want of memory.
abbrev pub UpToMemory : {T E : Type 0} → E → Result T E → Result T E → Type 0
UpToMemory memory (Ok x) value = value ≡ Ok x
UpToMemory memory (Err e) value = (e ≡ memory) ⊎ (value ≡ Err e)
