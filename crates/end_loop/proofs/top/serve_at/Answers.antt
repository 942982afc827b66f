use Rattle.std.proofs.Common.{refl}
use Rattle.end_loop.proofs.ServedLaws.{served_ok, served_err}
use Rattle.end_loop.proofs.top.serve_at.Goals as goal

pub returns-clause-ends : goal.returns-clause-ends
returns-clause-ends g c =
    served_ok _ _ _ _ _ _ _ _ _ _ _ _ c.begin_with.result
    (record { seed_is = c.start.ensures.seed; boot_is = c.start.ensures.boot; none_drawn = c.start.ensures.drawn; story = c.in-Ok.ensures.told; link_faults = c.in-Ok.ensures.link_faults; moments = refl; taken = refl; files = refl })
    c.begin_with.ensures.ends

pub returns-clause-halts : goal.returns-clause-halts
returns-clause-halts g c =
    served_err _ _ _ _ _ _ _ _ _ _ _ c.begin_with.result
    (record { seed_is = c.start.ensures.seed; boot_is = c.start.ensures.boot; none_drawn = c.start.ensures.drawn; story = c.in-Ok.ensures.told; link_faults = c.in-Ok.ensures.link_faults; moments = refl; taken = refl; files = refl })
    c.begin_with.ensures.halts
