-- The channel that is given its secrets before a turn: nothing that calls and numbers go by changes.
-- It serves `Proved.apart`, `Proved.called`, `Proved.own`.
use Rattle.channel_client.specs.Effects.{IsCoherent}
use Rattle.member_server.specs.Turns.{ready_channel}
use Rattle.member_server.specs.declared.state.Work.{Work}

pub ready_coherent : (w : Work) → IsCoherent w.logons.channel → IsCoherent (ready_channel w)
ready_coherent w c = record { matches = c.matches; first = c.first; places = c.places; few = c.few }
