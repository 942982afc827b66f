use Rattle.std.proofs.Common.{◌≡◌, ◌+◌, ◌≤◌, ◌++◌, ◌∙◌, ℕ, false, suc, drop, take, length, refl, ap, sym, arith, rules}
use Rattle.std.proofs.lemmas.Grind.{common_steps}
use Rattle.std.proofs.lemmas.Option.{slice_get_read}
use Rattle.world_moves.specs.World.{happens, move_limit, report_of, run}
use Rattle.world_moves.proofs.RunLaws.{counted_on, run_on}
use Rattle.domain_world.proofs.DrivingLaws.{run_next}
use Rattle.domain_world.proofs.HeadlineLaws.{all_proved}
use Rattle.domain_world.proofs.driving.drive.Goals as goal

pub loop-what-preserved : goal.loop-what-preserved
loop-what-preserved c =
    let items = c.items-what-items.result.now in
    let place : ℕ = c.loop-what.what-index in
    let rest : run (drop (place + 1) items) c.step.new.self ≡ run c.args.moves.now c.args.world.now = grind (arith, common_steps) in
    let few : c.step.new.self.moves + length (drop (place + 1) items) ≤ move_limit = grind (arith, common_steps) in
    let goes_on : c.step.new.self.stopped ≡ false = search rules in
    let next : place + 1 ≡ suc place = omega arith in
    let made : c.step.new.self ≡ run (take (place + 1) items) c.args.world.now =
    c.in-Ok.ensures.world
    ∙ ap (λ w. happens w c.what-item.result) c.loop-what.invariant.1
    ∙ sym (run_next items place c.what-item.result c.args.world.now (slice_get_read items _ place c.what-item.result refl c.loop-what-test.true c.what-item.is))
    ∙ ap (λ (n : ℕ). run (take n items) c.args.world.now) (sym next) in
    (rest, made, few, goes_on)

pub returns-clause-from_plan : goal.returns-clause-from_plan
returns-clause-from_plan c =
    let made : c.loop-what.world ≡ run c.args.moves.now c.args.world.now = grind (arith, common_steps) in
    λ plan earlier was. run_on plan earlier c.args.moves.now c.args.world.now c.loop-what.world made was

pub returns-clause-counted : goal.returns-clause-counted
returns-clause-counted c =
    let made : c.loop-what.world ≡ run c.args.moves.now c.args.world.now = grind (arith, common_steps) in
    λ plan earlier was. c.report.ensures.value ∙ ap report_of made ∙ counted_on plan earlier c.args.moves.now c.args.world.now was

pub returns-clause-fits : goal.returns-clause-fits
returns-clause-fits c =
    let made : c.loop-what.world ≡ run c.args.moves.now c.args.world.now = grind (arith, common_steps) in
    λ plan earlier was. c.report.ensures.fits plan (earlier ++ c.args.moves.now) (run_on plan earlier c.args.moves.now c.args.world.now c.loop-what.world made was)

pub returns-clause-proved : goal.returns-clause-proved
returns-clause-proved c = λ plan earlier was. all_proved plan (earlier ++ c.args.moves.now)
