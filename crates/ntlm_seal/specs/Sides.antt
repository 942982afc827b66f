-- The two ends of a session.
use Rattle.ntlm_seal.specs.declared.side.Side.{Side}
use Rattle.ntlm_seal.specs.declared.side.Side.TheVariants.{Client, Server}

-- the other side of a session
abbrev pub other_side : Side → Side
other_side Client = Server
other_side Server = Client
