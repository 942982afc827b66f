-- The numbers of links that a world keeps beside them, so that none is sought.
use Rattle.std.specs.Prelude.{ℕ, ◌≡◌, List}
use Rattle.world_moves.specs.declared.links.LinkKind.TheVariants as kind
use Rattle.world_moves.specs.declared.links.Route.{Route}
use Rattle.world_moves.specs.Links.{links_of, handed_links}

pub record AreIndexes (routes : List Route) (to_members to_controllers between from_stations strangers handed : List ℕ) : Type 0 where
  pub members : to_members ≡ links_of kind.ToMember routes
  pub controllers : to_controllers ≡ links_of kind.ToController routes
  pub between_them : between ≡ links_of kind.Between routes
  pub stations : from_stations ≡ links_of kind.FromStation routes
  pub others : strangers ≡ links_of kind.Stranger routes
  pub hands : handed ≡ handed_links routes
