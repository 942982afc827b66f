use Rattle.std.proofs.Common.{arith}
use Rattle.end_links.proofs.BoundLaws.{piece_few}
use Rattle.account_table.specs.Changes.{with_changes}
use Rattle.domain_controller.specs.Forwarding.{trust_desk}
use Rattle.domain_controller.specs.SealServing.{at_seal_desk, seal_desk, seal_server}
use Rattle.domain_controller.proofs.SealRestLaws.{seal_server_few}
use Rattle.domain_controller.proofs.seal_serving.serve_seal_piece.Goals as goal

pub returns-clause-few : goal.returns-clause-few
returns-clause-few g c =
    let server = seal_server c.args.name.now c.args.now c.args.number in
    omega (
      arith,
      piece_few server (λ talk. 0) (seal_server_few c.args.name.now c.args.now c.args.number) (at_seal_desk (with_changes c.serve_units.new.changes c.args.table.now) c.serve_units.result) c.args.link.rest c.args.piece.now
          (seal_desk (trust_desk (with_changes c.args.changes.now c.args.table.now) c.args.work) c.args.sealing) c.args.link.talk (g.Q.Chances.drawing c.args.chances.now).left (g.Q.Chances.drawing c.serve_units.new.chances).left
          (omega (arith, c.rest_len-held.ensures)) c.serve_units.ensures.answer,
    )
