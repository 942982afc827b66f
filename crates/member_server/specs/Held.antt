-- Requests that wait on a link for the outcome of its logon, each as the bytes of its unit (this project's own choice).
use Rattle.std.specs.Prelude.{ℕ, List, length}
use Rattle.std.specs.List.{sum_by}

-- the most bytes of them on one link
abbrev pub held_limit : ℕ
held_limit = 65536

-- the bytes of the requests that are held, in all
abbrev pub held_size : List (List ℕ) → ℕ
held_size held = sum_by (λ (bytes : List ℕ). length bytes) held
