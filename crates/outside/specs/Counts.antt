-- What a port over the system's sockets is seen as (this project's own choice): its two counts, of 64 bits each.
use Rattle.std.specs.Prelude.{ℕ}

pub record PortCounts : Type 0 where
  -- the failures of `listen` and `next`
  pub faults : ℕ
  -- the failures of `dial` and `send`
  pub link_faults : ℕ
