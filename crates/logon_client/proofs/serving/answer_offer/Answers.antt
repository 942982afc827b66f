use Rattle.std.proofs.Common.{◌≡◌, IfOk, ap, subst, ◌∙◌}
use Rattle.logon_client.specs.Answering.{answer_of}
use Rattle.logon_client.specs.Machine.{answers_with}
use Rattle.logon_client.proofs.serving.answer_offer.Goals as goal

pub returns : goal.returns
returns c =
    subst (λ answer. IfOk c.send_answer.result (λ end. end ≡ answers_with answer c.args.offer.now c.args.link c.args.work))
    (c.in_ok-made.ensures.value ∙ ap (λ plan. answer_of plan c.args.offer.now c.args.drawn) c.plan.ensures.value)
    c.send_answer.ensures
