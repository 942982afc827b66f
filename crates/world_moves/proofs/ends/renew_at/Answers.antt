use Rattle.std.proofs.Common.{arith}
use Rattle.world_moves.proofs.EndLaws.{renews_at}
use Rattle.world_moves.proofs.ends.renew_at.Goals as goal

pub returns : goal.returns
returns c =
    renews_at c.args.hands_on c.args.seals c.args.controllers.items c.remove.new.self.items c.insert.new.self.items c.args.at c.remove.result c.in_ok-fresh_controller.field-0 c.into_parts-table.result.0
    c.into_parts-table.result.1 (omega arith) c.remove.ensures.value c.remove.ensures.items c.into_parts-table.ensures.table c.into_parts-table.ensures.name
    c.in_ok-fresh_controller.ensures c.in_ok-insert.ensures.items
