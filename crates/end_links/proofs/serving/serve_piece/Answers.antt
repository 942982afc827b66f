use Rattle.std.proofs.Common.{arith}
use Rattle.end_links.proofs.BoundLaws.{piece_few}
use Rattle.end_links.proofs.serving.serve_piece.Goals as goal

pub returns-clause-few : goal.returns-clause-few
returns-clause-few g c =
    piece_few g.W.ServesUnits.server g.W.ServesUnits.extra g.met.W.ServesUnits.few c.serve_units.result c.args.link.rest c.args.piece.now c.args.work c.args.link.talk
    (g.Q.Chances.drawing c.args.chances.now).left (g.Q.Chances.drawing c.serve_units.new.chances).left (omega (arith, c.rest_len-held.ensures)) c.serve_units.ensures.answer
