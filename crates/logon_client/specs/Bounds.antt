-- How many challenges a client draws (this project's own choice).
use Rattle.std.specs.Prelude.{ℕ}
use Rattle.logon_client.specs.declared.state.Phase.{Phase}
use Rattle.logon_client.specs.declared.state.Phase.TheVariants.{Bound, Asked}
use Rattle.logon_client.specs.declared.state.Talk.{Talk}

-- What may still be drawn besides one for a unit, by what is waited for: at the CHALLENGE, with which the bind is
-- answered, three are drawn, and none later.
abbrev pub more_at : Phase → ℕ
more_at Bound = 2
more_at (Asked terms question) = 0

-- what may still be drawn besides one for a unit, by what is said on the link
abbrev pub more_on : Talk → ℕ
more_on talk = more_at talk.phase
