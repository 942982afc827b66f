use Rattle.std.proofs.Common.{◌≡◌, true, false, ap, ◌∙◌, rules, arith}
use Rattle.world_moves.specs.World.{World, outcome_of}
use Rattle.world_moves.proofs.BoundLaws.{act_bounded}
use Rattle.world_moves.proofs.LevelLaws.{told_kept}
use Rattle.world_moves.proofs.OpenLaws.{draws_kept}
use Rattle.world_moves.proofs.OutcomeLaws.{fallen}
use Rattle.world_moves.proofs.RunLaws.{move_on}
use Rattle.world_moves.proofs.world.World.step.Goals as goal

pub invariant_of-self-in-Ok-act : goal.invariant_of-self-in-Ok-act
invariant_of-self-in-Ok-act c =
    record {
      few = omega (arith, c.requires.few, ap (λ (w : World). w.moves) c.self.view_is);
      links = λ runs. act_bounded c.self.inside.state c.act.new.self c.args.what.now c.self.inside.moves (c.self.invariant.links c.if-self.false) c.in-Ok-act.ensures.state;
      draws = λ runs. draws_kept c.self.inside.state c.act.new.self c.self.inside.moves (c.self.invariant.draws c.if-self.false) c.act.ensures.few;
      told = λ runs. told_kept c.self.inside.state c.act.new.self c.args.what.now c.self.inside.moves (c.self.invariant.told c.if-self.false) c.requires.given c.units_are_short.ensures c.in-Ok-act.ensures.state;
    }

pub invariant_of-self-in-Err-act : goal.invariant_of-self-in-Err-act
invariant_of-self-in-Err-act c = record {
  few = c.self.invariant.few;
  links = λ runs. absurd (let halted : true ≡ false = runs in cc);
  draws = λ runs. absurd (let halted : true ≡ false = runs in cc);
  told = λ runs. absurd (let halted : true ≡ false = runs in cc);
}

pub invariant_of-self : goal.invariant_of-self
invariant_of-self c = record {
  few = c.self.invariant.few;
  links = λ runs. absurd (let halted : true ≡ false = runs in cc);
  draws = λ runs. absurd (let halted : true ≡ false = runs in cc);
  told = λ runs. absurd (let halted : true ≡ false = runs in cc);
}

pub returns-in-Ok-act-clause-from_plan : goal.returns-in-Ok-act-clause-from_plan
returns-in-Ok-act-clause-from_plan c = λ plan earlier was. move_on plan earlier c.args.what.now c.args.self.now _ (search rules) was

pub returns-clause-outcomes : goal.returns-clause-outcomes
returns-clause-outcomes c = λ client.
    fallen c.self.inside.state.ends.clients c.act.new.self.ends.clients c.give_up.new.self.clients c.as_slice.result.now (c.as_slice.ensures.value ∙ c.in-Ok.ensures)
    c.in-Err-act.ensures.outcomes c.give_up.ensures.clients client
    ∙ ap (λ (w : World). outcome_of w client) c.self.view_is
