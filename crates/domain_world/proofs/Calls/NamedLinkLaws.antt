-- A link that a member dials reaches the controller with whose number its channels are named.
-- It serves `links_reach_the_named`.
use Rattle.std.proofs.Common.{◌≡◌, ℕ, length, Option, Some, None, sym, ap, ◌∙◌}
use Rattle.member_server.specs.declared.plan.MemberPlan.{MemberPlan}
use Rattle.world_moves.specs.declared.links.EndId.{EndId}
use Rattle.world_moves.specs.declared.links.EndId.TheVariants.{Client, Controller, Member, Station}
use Rattle.world_moves.specs.declared.links.Route.{Route}
use Rattle.world_moves.specs.declared.links.Route.TheVariants.{ToController}
use Rattle.world_moves.specs.Links.{acceptor_of}
use Rattle.world_moves.specs.Moving.{end_of_peer, route_to}
use Rattle.domain_world.specs.Claims.NamedLinks.{LinksReachTheNamed}
use Rattle.domain_world.specs.Past.{controller_number, controller_of_plan}

-- ---- the way to a controller

route_named : (found : Option EndId) (member none : ℕ) (route : Route) → route_to (Member member) found ≡ Some route → acceptor_of route ≡ Controller (controller_number found none)
route_named None member none route is = absurd cc
route_named (Some (Controller controller)) member none route is =
    let same : ToController member controller ≡ route = cc in
    ap acceptor_of (sym same)
route_named (Some (Member other)) member none route is = absurd cc
route_named (Some (Client client)) member none route is = absurd cc
route_named (Some (Station station)) member none route is = absurd cc

pub links_reach : LinksReachTheNamed
links_reach s member plan route at is =
    route_named (end_of_peer plan.controller s.ends) member (length s.ends.controllers) route is
    ∙ ap (λ (p : Option MemberPlan). Controller (controller_of_plan p s.ends)) (sym at)
