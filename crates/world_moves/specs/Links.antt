-- The links of a world (this project's own choice). They are numbered from 0, in the order in which they were made.
use Rattle.std.specs.Prelude.{ℕ, ◌==◌, ◌&&◌, ◌||◌, Bool, true, false, not, List, [], ◌∷◌, Option, Some, None}
use Rattle.world_moves.specs.declared.links.EndId.{EndId}
use Rattle.world_moves.specs.declared.links.EndId.TheVariants.{Controller, Member, Client, Station}
use Rattle.world_moves.specs.declared.links.LinkKind.{LinkKind}
use Rattle.world_moves.specs.declared.links.LinkKind.TheVariants as kind
use Rattle.world_moves.specs.declared.links.OpenLink.{OpenLink}
use Rattle.world_moves.specs.declared.links.Route.{Route}
use Rattle.world_moves.specs.declared.links.Route.TheVariants.{ToMember, ToController, Between, FromStation, Stranger}
use Rattle.world_moves.specs.Choosing.{places}

-- ---- ends and kinds

abbrev pub same_end : EndId → EndId → Bool
same_end (Controller one) (Controller other) = one == other
same_end (Member one) (Member other) = one == other
same_end (Client one) (Client other) = one == other
same_end (Station one) (Station other) = one == other
same_end _ _ = false

abbrev pub same_kind : LinkKind → LinkKind → Bool
same_kind kind.ToMember kind.ToMember = true
same_kind kind.ToController kind.ToController = true
same_kind kind.Between kind.Between = true
same_kind kind.FromStation kind.FromStation = true
same_kind kind.Stranger kind.Stranger = true
same_kind _ _ = false

-- Whether a unit that is sent on a link of the kind goes into the bag: what goes between a stranger and an end doesn't.
abbrev pub is_own : LinkKind → Bool
is_own kind.Stranger = false
is_own _ = true

-- Whether bytes from outside come on a link of the kind: on those of clients and strangers alone.
abbrev pub is_handed_kind : LinkKind → Bool
is_handed_kind kind.ToMember = true
is_handed_kind kind.Stranger = true
is_handed_kind _ = false

-- ---- whom a link is between

abbrev pub kind_of : Route → LinkKind
kind_of (ToMember client member) = kind.ToMember
kind_of (ToController member controller) = kind.ToController
kind_of (Between from to) = kind.Between
kind_of (FromStation station controller) = kind.FromStation
kind_of (Stranger to) = kind.Stranger

-- the end that dialled it; none of this world where it is a stranger's
abbrev pub dialler_of : Route → Option EndId
dialler_of (ToMember client member) = Some (Client client)
dialler_of (ToController member controller) = Some (Member member)
dialler_of (Between from to) = Some (Controller from)
dialler_of (FromStation station controller) = Some (Station station)
dialler_of (Stranger to) = None

-- the end that accepted it
abbrev pub acceptor_of : Route → EndId
acceptor_of (ToMember client member) = Member member
acceptor_of (ToController member controller) = Controller controller
acceptor_of (Between from to) = Controller to
acceptor_of (FromStation station controller) = Controller controller
acceptor_of (Stranger to) = to

abbrev pub is_end : Option EndId → EndId → Bool
is_end None end = false
is_end (Some other) end = same_end other end

abbrev pub is_dialled_by : EndId → Route → Bool
is_dialled_by end route = is_end (dialler_of route) end

abbrev pub is_accepted_by : EndId → Route → Bool
is_accepted_by end route = same_end (acceptor_of route) end

-- ---- links among others

abbrev pub is_of : LinkKind → Route → Bool
is_of k route = same_kind (kind_of route) k

-- the numbers of the links of a kind, and of those of clients and strangers, in order
abbrev pub links_of : LinkKind → List Route → List ℕ
links_of k links = places (is_of k) links

abbrev pub is_handed : Route → Bool
is_handed route = is_handed_kind (kind_of route)

abbrev pub handed_links : List Route → List ℕ
handed_links links = places is_handed links

-- ---- links that are open

-- links that are open at a side, by their numbers, in the order in which they were made
abbrev pub OpenMap : Type 0
OpenMap = List (ℕ × OpenLink)

-- a link that an end accepts, and whose other side isn't open yet
abbrev pub accepted : Route → OpenLink
accepted route = record { route = route; dialler = false; acceptor = true }

-- the end that dialled has its answer
abbrev pub answered : OpenLink → OpenLink
answered link = record link { dialler = true }

abbrev pub end_if : (is_open : Bool) → Option EndId → Option EndId
end_if false end = None
end_if true end = end

-- the end that hears what goes on the link in that direction, `back` to the end that dialled: none where that side
-- isn't open
abbrev pub hearer_on : Bool → OpenLink → Option EndId
hearer_on false link = end_if link.acceptor (Some (acceptor_of link.route))
hearer_on true link = end_if link.dialler (dialler_of link.route)

abbrev pub hearer_of : Bool → Option OpenLink → Option EndId
hearer_of back None = None
hearer_of back (Some link) = hearer_on back link

-- the end that is at the other side than this one
abbrev pub other_hearer : EndId → OpenLink → Option EndId
other_hearer end link = hearer_on (is_accepted_by end link.route) link

-- the link without the sides of that end
abbrev pub forgotten_by : EndId → OpenLink → OpenLink
forgotten_by end link = record link {
  dialler = link.dialler && not (is_dialled_by end link.route);
  acceptor = link.acceptor && not (is_accepted_by end link.route);
}

abbrev pub open_if : (is_open : Bool) → ℕ → OpenLink → OpenMap → OpenMap
open_if false number link links = links
open_if true number link links = (number, link) ∷ links

abbrev pub kept_open : ℕ → OpenLink → OpenMap → OpenMap
kept_open number link links = open_if (link.dialler || link.acceptor) number link links

-- the links without the sides of that end
abbrev pub forget_end : EndId → OpenMap → OpenMap
forget_end end [] = []
forget_end end (entry ∷ entries) = kept_open entry.0 (forgotten_by end entry.1) (forget_end end entries)
