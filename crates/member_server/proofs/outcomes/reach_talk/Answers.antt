use Rattle.std.proofs.Common.{◌≡◌, IfOk, rules, subst, arith}
use Rattle.std.proofs.lemmas.Grind.{common_steps}
use Rattle.member_server.specs.declared.state.Phase.TheVariants as phase
use Rattle.member_server.specs.declared.state.Work.{Work}
use Rattle.member_server.proofs.OutcomeLaws.{asked_turned}
use Rattle.member_server.proofs.outcomes.reach_talk.Goals as goal

pub returns-else-other-place : goal.returns-else-other-place
returns-else-other-place c =
    let asked : c.args.talk.phase ≡ phase.Asked c.in-Asked.bound c.in-Asked.other c.in-Asked.held = search rules in
    let same : c.in-Asked.other ≡ c.args.place = first_of (search rules, grind (arith, common_steps)) in
    subst (λ (w : Work). IfOk c.reach_waiting.result (λ turned. turned ≡ w))
    (asked_turned c.args.place c.in-Asked.other c.in-Asked.bound c.in-Asked.held c.args.talk.phase c.args.talk.joiner c.args.flow.held c.args.how.now c.args.logon.now c.args.work asked same)
    c.reach_waiting.ensures
