-- Links of an end.
use Rattle.std.specs.Prelude.{ℕ, ◌≤◌, ◌+◌, ◌*◌, List, length}
use Rattle.std.specs.List.{sum_by}
use Rattle.wire_base.specs.Maps.{IsMap, same_number}
use Rattle.rpc_units.specs.Stream.{rest_limit}

-- the bytes that came and are no whole unit yet, and what is said on the link so far
pub record LinkState (T : Type 0) : Type 0 where
  pub rest : List ℕ
  pub talk : T

-- accepted links by their numbers: at most 256, each number once
pub record AreLinks {T : Type 0} (links : List (ℕ × T)) : Type 0 where
  pub few : length links ≤ 256
  pub distinct : IsMap same_number links

-- the bytes that links hold: the rests of their streams, and what is held by what is said on each
abbrev pub held_on : {T : Type 0} → (T → ℕ) → ℕ × LinkState T → ℕ
held_on said link = length link.1.rest + said link.1.talk

abbrev pub held_by : {T : Type 0} → (T → ℕ) → List (ℕ × LinkState T) → ℕ
held_by said links = sum_by (held_on said) links

-- ---- the most of it

-- the stub bytes of an open call or reply
abbrev pub open_limit : ℕ
open_limit = 65536

-- what is said on a link holds those of an open call, and requests that wait, at most as many bytes
abbrev pub talk_limit : ℕ
talk_limit = open_limit + open_limit

-- what a link holds at most, whatever end it is of
abbrev pub link_limit : ℕ
link_limit = rest_limit + talk_limit

-- what 256 links hold at most
abbrev pub links_limit : ℕ
links_limit = 256 * link_limit
