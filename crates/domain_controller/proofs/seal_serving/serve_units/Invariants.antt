-- What was served and what is left to serve are all; challenges were drawn from the front.
use Rattle.std.proofs.Common.{◌≡◌, ◌++◌, length, false}
use Rattle.outside.specs.Drawing.{DrawsSome}
use Rattle.rpc_units.specs.Stream.{cut_stream}
use Rattle.end_links.specs.Serving.{served_cut}
use Rattle.account_table.specs.Changes.{with_changes}
use Rattle.domain_controller.specs.Forwarding.{trust_desk}
use Rattle.domain_controller.specs.SealServing.{seal_desk, seal_server}
use Rattle.domain_controller.proofs.seal_serving.serve_units.Given as goal

abbrev pub invariant-units : goal.invariant-units
invariant-units g l = record {
  runs : l.coming.flow.broken ≡ false;
  draws : DrawsSome (g.Q.Chances.drawing l.fn.chances) (g.Q.Chances.drawing l.chances);
  so_far : served_cut (seal_server l.name l.now l.number) (cut_stream (l.coming.flow.held ++ l.coming.left)) (seal_desk (trust_desk (with_changes l.changes l.table) l.work) l.sealing) l.talk (g.Q.Chances.drawing l.chances).left
      ≡ served_cut (seal_server l.fn.name l.fn.now l.fn.number) (cut_stream (l.fn.link.rest ++ l.fn.piece)) (seal_desk (trust_desk (with_changes l.fn.changes l.fn.table) l.fn.work) l.fn.sealing) l.fn.link.talk (g.Q.Chances.drawing l.fn.chances).left;
  rest : (cut_stream (l.coming.flow.held ++ l.coming.left)).rest ≡ (cut_stream (l.fn.link.rest ++ l.fn.piece)).rest;
}

abbrev pub decreases-units : goal.decreases-units
decreases-units g l = length (cut_stream (l.coming.flow.held ++ l.coming.left)).units
