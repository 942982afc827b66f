use Rattle.std.proofs.Common.{◌≡◌, rules}
use Rattle.domain_world.specs.Generator.{moves_of}
use Rattle.nt_top.proofs.DrillLaws.{drill_proved, lines_of_run}
use Rattle.nt_top.proofs.drill.drill_lines.Goals as goal

pub returns-clause-lines : goal.returns-clause-lines
returns-clause-lines c =
    let made : c.in_ok-moves.moves ≡ moves_of c.args.moves c.args.number = search rules in
    lines_of_run c.args.number c.args.moves c.in_ok-moves.moves _ _ c.report_lines.result made c.in_ok-drill_plan.ensures
    (c.report.ensures.counted _ _ c.in_ok-world.ensures.world) c.report_lines.ensures

pub returns-clause-proved : goal.returns-clause-proved
returns-clause-proved c =
    let made : c.in_ok-moves.moves ≡ moves_of c.args.moves c.args.number = search rules in
    drill_proved c.args.number c.args.moves c.in_ok-moves.moves _ c.report_lines.result made c.in_ok-drill_plan.ensures c.in_ok-world.ensures.schedule c.in_ok-world.ensures.proved
