use Rattle.std.proofs.Common.{◌≡◌, ◌++◌, Some, Ok, sym, ap, ◌∙◌, rules}
use Rattle.std.proofs.lemmas.Result.{err_from_is_err_and}
use Rattle.outside.proofs.DrawLaws.{DrawsSome-trans}
use Rattle.rpc_units.specs.Stream.{Cut, cut_stream}
use Rattle.end_links.proofs.ServingLaws.{serve_more, unit_done, unit_failed}
use Rattle.account_table.specs.Changes.{with_changes}
use Rattle.domain_controller.specs.Forwarding.{trust_desk}
use Rattle.domain_controller.specs.SealServing.{seal_desk, seal_server}
use Rattle.domain_controller.proofs.SealRestLaws.{seal_server_leaves}
use Rattle.domain_controller.proofs.seal_serving.serve_units.Goals as goal

pub returns-in_err-after-in-Unit-clause-answer : goal.returns-in_err-after-in-Unit-clause-answer
returns-in_err-after-in-Unit-clause-answer g c =
    let p = err_from_is_err_and c.from_residual.result c.from_residual.ensures.1 in
    rw (p.1, p.2) (unit_failed (seal_server c.args.name.now c.args.now c.args.number) c.in-Unit.field-0 (cut_stream (c.units.coming.flow.held ++ c.units.coming.left)) (cut_stream (c.args.link.rest ++ c.args.piece.now)) c.next.new.self.flow c.next.new.self.left c.unit.result.now
    (seal_desk (trust_desk (with_changes c.units.changes c.args.table.now) c.units.work) c.units.sealing) (seal_desk (trust_desk (with_changes c.args.changes.now c.args.table.now) c.args.work) c.args.sealing) c.units.talk c.args.link.talk (g.Q.Chances.drawing c.units.chances).left (g.Q.Chances.drawing c.args.chances.now).left (g.Q.Chances.drawing c.serve_unit.new.chances).left c.in_err-after-in-Unit.field-0.0
    (seal_server_leaves c.args.name.now c.args.now c.args.number) c.in-Unit.ensures.cut c.unit.ensures.value c.units.invariant.so_far c.in_err-after-in-Unit.ensures.answer)

pub units-preserved : goal.units-preserved
units-preserved g c =
    let server = seal_server c.args.name.now c.args.now c.args.number in
    let before = (g.Q.Chances.drawing c.units.chances).left in
    let after = (g.Q.Chances.drawing c.serve_unit.new.chances).left in
    let old = cut_stream (c.units.coming.flow.held ++ c.units.coming.left) in
    let next = cut_stream (c.done.new.self.flow.held ++ c.done.new.self.left) in
    let front = unit_done c.in-Unit.field-0 old c.next.new.self c.done.new.self c.unit.result.now c.serve_unit.new.bytes c.in-Unit.ensures.cut c.unit.ensures.value c.unit.ensures.len c.serve_unit.ensures.len c.done.ensures in
    let served : server.unit c.unit.result.now (seal_desk (trust_desk (with_changes c.units.changes c.args.table.now) c.units.work) c.units.sealing) c.units.talk before ≡ Ok (record { value = (seal_desk (trust_desk (with_changes c.serve_unit.new.changes c.args.table.now) c.in_ok-after-in-Unit.after.0) c.in_ok-after-in-Unit.after.1, Some c.in-Some.still); left = after }) = search rules in
    record {
      runs = front.1;
      draws = DrawsSome-trans (g.Q.Chances.drawing c.args.chances.now) (g.Q.Chances.drawing c.units.chances) (g.Q.Chances.drawing c.serve_unit.new.chances) c.units.invariant.draws c.serve_unit.ensures.draws;
      so_far = sym (serve_more server old next c.unit.result.now (seal_desk (trust_desk (with_changes c.units.changes c.args.table.now) c.units.work) c.units.sealing) (seal_desk (trust_desk (with_changes c.serve_unit.new.changes c.args.table.now) c.in_ok-after-in-Unit.after.0) c.in_ok-after-in-Unit.after.1) c.units.talk c.in-Some.still before after front.0 served) ∙ c.units.invariant.so_far;
      rest = sym (ap Cut.rest front.0) ∙ c.units.invariant.rest;
    }
