use Rattle.outside.proofs.Links.{HasLinksBelow-stored}
use Rattle.outside.proofs.script_port.ScriptPort.keep.Goals as goal

pub invariant_of-self-else-not-store : goal.invariant_of-self-else-not-store
invariant_of-self-else-not-store c =
    let below = rw (← c.self.view_is) at c.requires in
    (c.self.invariant.0, c.self.invariant.1, HasLinksBelow-stored _ _ _ _ _ below c.self.invariant.2 c.store.ensures)
