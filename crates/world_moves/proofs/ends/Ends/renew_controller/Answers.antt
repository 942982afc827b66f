use Rattle.std.proofs.Common.{◌≡◌, List, slice_get, ap, subst, ◌∙◌, arith, rules}
use Rattle.domain_controller.specs.State.{State as ControllerState}
use Rattle.world_moves.specs.Ends.{EndStates, renew_controller}
use Rattle.world_moves.proofs.EndLaws.{Renews, renewed_is, renewed_run}
use Rattle.world_moves.proofs.ends.Ends.renew_controller.Goals as goal

pub invariant_of-self-2 : goal.invariant_of-self-2
invariant_of-self-2 c =
    let taken : c.replace-controllers.result.items ≡ c.self.inside.controllers.items = search rules in
    let after : List ControllerState = c.in_ok-self-inside.field-0.items in
    let renews : Renews c.args.hands_on c.args.seals c.self.inside.controllers.items c.args.at after = subst (λ (all : List ControllerState). Renews c.args.hands_on c.args.seals all c.args.at after) taken c.in_ok-self-inside.ensures in
    renewed_run c.args.hands_on c.args.seals c.self.inside.gave_up c.self.inside.controllers.items after c.self.inside.members.items c.self.inside.clients.items c.self.inside.stations.items c.args.at (omega arith) renews
    c.self.invariant

pub returns-clause-ends : goal.returns-clause-ends
returns-clause-ends c =
    let taken : c.replace-controllers.result.items ≡ c.self.inside.controllers.items = search rules in
    let after : List ControllerState = c.in_ok-self-inside.field-0.items in
    let ends : EndStates = record { controllers = c.self.inside.controllers.items; members = c.self.inside.members.items; clients = c.self.inside.clients.items; stations = c.self.inside.stations.items } in
    let renews : Renews c.args.hands_on c.args.seals ends.controllers c.args.at after = subst (λ (all : List ControllerState). Renews c.args.hands_on c.args.seals all c.args.at after) taken c.in_ok-self-inside.ensures in
    renewed_is c.args.hands_on c.args.seals ends after c.args.at (omega arith) renews
    ∙ ap (λ (e : EndStates). renew_controller c.args.hands_on c.args.seals (slice_get e.controllers c.args.at) c.args.at e) c.self.view_is
