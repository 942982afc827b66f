use Rattle.std.proofs.Common.{ℕ, ◌∙◌}
use Rattle.domain_controller.proofs.ForwardLaws.{answered_nowhere, answered_there}
use Rattle.domain_controller.proofs.forwarding.answer_place.Goals as goal
use Rattle.domain_controller.proofs.forwarding.answer_place.Goals.{in-Some+in_ok-work-in-Some, in-None+in-Granted-1, in-None+in-Status-1}

pub returns : goal.returns
returns c =
    let at : ℕ × ℕ = (c.args.trust, c.args.place) in
    let rest = c.take_call-forwarded.ensures.rest in
    elim c.match-found.branch [
      | in-Some+in_ok-work-in-Some w ↦
          answered_there at c.args.verdict w.in-Some.call c.args.work c.match-found.work c.take_call-forwarded.result.0 (cc)
          (w.work-is ∙ w.in_ok-work-in-Some.ensures) rest
      | in-None+in-Granted-1 w ↦
          answered_nowhere at c.args.verdict c.args.work c.match-found.work c.take_call-forwarded.result.0 (cc) w.work-is rest
      | in-None+in-Status-1 w ↦
          answered_nowhere at c.args.verdict c.args.work c.match-found.work c.take_call-forwarded.result.0 (cc) w.work-is rest
    ]
