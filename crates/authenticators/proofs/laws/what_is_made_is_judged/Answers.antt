use Rattle.std.proofs.Common.{◌≡◌, ap, ap₂, sym, ◌∙◌}
use Rattle.authenticators.specs.Sequences.{next_seed, return_of}
use Rattle.authenticators.proofs.ReplayLaws.{judge_of-made}
use Rattle.authenticators.proofs.laws.what_is_made_is_judged.Goals as goal

pub returns-clause-answer : goal.returns-clause-answer
returns-clause-answer c maker judge timestamp awaited in_step is =
    let returned : return_of judge.key judge.seed timestamp ≡ awaited =
    sym (ap₂ (λ k z. return_of k z timestamp) in_step.key in_step.seed) ∙ cc in
    ap (λ j. j.answer) (judge_of-made maker.key maker.seed judge timestamp in_step.key in_step.seed) ∙ cc

pub returns-clause-seeds : goal.returns-clause-seeds
returns-clause-seeds c maker judge timestamp in_step =
    let passed = judge_of-made maker.key maker.seed judge timestamp in_step.key in_step.seed in
    record {
      key = in_step.key ∙ sym (ap (λ j. j.sequence.key) passed);
      seed = ap (λ z. next_seed z timestamp) in_step.seed ∙ sym (ap (λ j. j.sequence.seed) passed);
    }
