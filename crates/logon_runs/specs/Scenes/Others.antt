-- That the moves of one logon change its client, its member and its controller alone (this project's own choice).
use Rattle.std.specs.Prelude.{ℕ, ◌≡◌, ◌≢◌, Bool, true, false, [], Option, Some, None, slice_get}
use Rattle.std.specs.List.{AllByRecursion}
use Rattle.world_moves.specs.declared.links.EndId.{EndId}
use Rattle.world_moves.specs.declared.links.EndId.TheVariants.{Controller, Member, Client, Station}
use Rattle.world_moves.specs.declared.links.OpenLink.{OpenLink}
use Rattle.world_moves.specs.declared.links.Route.{Route}
use Rattle.world_moves.specs.declared.links.Route.TheVariants.{ToMember, ToController, Between, FromStation, Stranger}
use Rattle.world_moves.specs.declared.moves.Move.{Move}
use Rattle.world_moves.specs.declared.moves.Move.TheVariants as move
use Rattle.world_moves.specs.declared.state.State.{State}
use Rattle.world_moves.specs.declared.state.WaitingDial.{WaitingDial}
use Rattle.world_moves.specs.Choosing.{chosen_place}
use Rattle.world_moves.specs.Ends.{starters_in}
use Rattle.world_moves.specs.Links.{OpenMap}
use Rattle.world_moves.specs.Moving.{act, end_of_peer, route_to, start}

-- a client, a member and a controller
pub record Three : Type 0 where
  pub client : ℕ
  pub member : ℕ
  pub controller : ℕ

-- the end is one of them
abbrev pub IsOneOf : Three → EndId → Type 0
IsOneOf t (Client at) = at ≡ t.client
IsOneOf t (Member at) = at ≡ t.member
IsOneOf t (Controller at) = at ≡ t.controller
IsOneOf t (Station at) = ⊥

-- the route is between them
abbrev pub IsAmong : Three → Route → Type 0
IsAmong t (ToMember client member) = (client ≡ t.client) × (member ≡ t.member)
IsAmong t (ToController member controller) = (member ≡ t.member) × (controller ≡ t.controller)
IsAmong t (Between from to) = ⊥
IsAmong t (FromStation station controller) = ⊥
IsAmong t (Stranger to) = ⊥

-- each link that is open is
abbrev pub AreAmong : Three → OpenMap → Type 0
AreAmong t links = AllByRecursion (λ (entry : ℕ × OpenLink). IsAmong t entry.1.route) links

abbrev pub IsRoutedAmong : Three → Option Route → Type 0
IsRoutedAmong t None = Unit {0}
IsRoutedAmong t (Some route) = IsAmong t route

-- the dial that is answered first is one of theirs, to one of them or to none
abbrev pub IsDialAmong : Three → State → Option WaitingDial → Type 0
IsDialAmong t s None = Unit {0}
IsDialAmong t s (Some first) = IsOneOf t first.end × IsRoutedAmong t (route_to first.end (end_of_peer first.peer s.ends))

-- a move between starts: a dial is answered, a unit comes, or time passes
abbrev pub IsStepOn : Move → Type 0
IsStepOn move.Connect = Unit {0}
IsStepOn move.Onward = Unit {0}
IsStepOn (move.Tick more) = Unit {0}
IsStepOn _ = ⊥

-- a unit comes at it, the oldest one
abbrev pub is_onward : Move → Bool
is_onward move.Onward = true
is_onward _ = false

-- What is said where a test passes: else nothing is.
abbrev pub IfSo : Bool → Type 0 → Type 0
IfSo false Fact = Unit {0}
IfSo true Fact = Fact

-- all ends but the three are as they were, and the links that are open are between the three
pub record OthersStay (t : Three) (s after : State) : Type 0 where
  pub controllers : (at : ℕ) → at ≢ t.controller → slice_get after.ends.controllers at ≡ slice_get s.ends.controllers at
  pub members : (at : ℕ) → at ≢ t.member → slice_get after.ends.members at ≡ slice_get s.ends.members at
  pub clients : (at : ℕ) → at ≢ t.client → slice_get after.ends.clients at ≡ slice_get s.ends.clients at
  pub links : AreAmong t after.open_links

pub record OthersAreLeft : Type 0 where
  pub steps : (t : Three) (s : State) (what : Move) → IsStepOn what → AreAmong t s.open_links → IsDialAmong t s (slice_get s.dials 0) → OthersStay t s (act s what).state
  -- a client starts where no link is open
  pub starts : (t : Three) (s : State) (number : ℕ) → chosen_place number (starters_in s.ends) ≡ Some t.client → s.open_links ≡ [] → OthersStay t s (start number s).state
  pub none : (t : Three) (s : State) → AreAmong t s.open_links → OthersStay t s s
  pub both : (t : Three) (s between after : State) → OthersStay t s between → OthersStay t between after → OthersStay t s after
