-- The most bytes that a controller holds between its steps (this project's own choice).
use Rattle.std.specs.Prelude.{ℕ, ◌+◌, ◌*◌}
use Rattle.end_links.specs.Links.{open_limit}
use Rattle.rpc_units.specs.Stream.{rest_limit}

-- A link holds the rest of its stream, and the stub bytes of its open call or reply.
abbrev pub link_limit : ℕ
link_limit = rest_limit + open_limit

-- A controller holds what 256 accepted links hold, and the link of its turn.
abbrev pub held_limit : ℕ
held_limit = 256 * link_limit + link_limit
