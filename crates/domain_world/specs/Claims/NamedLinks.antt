-- Which controller a link that a member dials reaches: the one with whose number the member's channels are named (this
-- project's own choice).
use Rattle.std.specs.Prelude.{ℕ, ◌≡◌, Some, slice_get}
use Rattle.member_server.specs.declared.plan.MemberPlan.{MemberPlan}
use Rattle.world_moves.specs.declared.links.EndId.TheVariants.{Controller, Member}
use Rattle.world_moves.specs.declared.links.Route.{Route}
use Rattle.world_moves.specs.declared.state.State.{State}
use Rattle.world_moves.specs.Links.{acceptor_of}
use Rattle.world_moves.specs.Moving.{end_of_peer, route_to}
use Rattle.domain_world.specs.Past.{controller_of}

-- ---- laws of names

-- A link that a member dials to the address of its plan is accepted by the controller with whose number the member's
-- channels are named.
abbrev pub LinksReachTheNamed : Type 0
LinksReachTheNamed =
    (s : State) (member : ℕ) (plan : MemberPlan) (route : Route) → slice_get s.member_plans member ≡ Some plan →
    route_to (Member member) (end_of_peer plan.controller s.ends) ≡ Some route → acceptor_of route ≡ Controller (controller_of member s)
