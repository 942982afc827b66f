-- The links so far hold that many bytes.
use Rattle.std.proofs.Common.{◌≡◌, ◌≤◌, ◌+◌, ◌*◌, take}
use Rattle.end_links.specs.Links.{held_by, link_limit}
use Rattle.end_links.proofs.links.held_by_all.Given as goal
use Rattle.rpc_units.specs.Stream.{rest_limit}

abbrev pub invariant-loop-link : goal.invariant-loop-link
invariant-loop-link g l = record {
  so_far : l.held ≡ held_by g.T.SaysHeld.bytes_held (take l.link-index l.links);
  most : l.held ≤ l.link-index * (rest_limit + g.T.SaysHeld.most_held);
  few : l.held ≤ l.link-index * link_limit;
}
