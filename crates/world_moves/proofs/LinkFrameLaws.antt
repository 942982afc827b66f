-- What holds through the moves of a world, of its links, those that are open and its bag: whatever holds through each
-- change of one of them. It serves `Proved.marked`, `Proved.ways`, `Proved.replies` and 4 more.
use Rattle.std.proofs.Common.{◌≡◌, ℕ, true, List, [], ◌∷◌, ◌++◌, length, Option, Some, slice_get, refl, sym, subst, append-nil}
use Rattle.wire_base.specs.Maps.{lookup, put, same_number, take_out}
use Rattle.outside.specs.declared.action.Action.{Action}
use Rattle.outside.specs.declared.event.Event.{Event}
use Rattle.world_moves.specs.declared.bag.BagUnit.{BagUnit}
use Rattle.world_moves.specs.declared.links.EndId.{EndId}
use Rattle.world_moves.specs.declared.links.OpenLink.{OpenLink}
use Rattle.world_moves.specs.declared.links.Route.{Route}
use Rattle.world_moves.specs.declared.moves.Move.{Move}
use Rattle.world_moves.specs.declared.state.State.{State}
use Rattle.world_moves.specs.Acting.{closed_at, hear_and_act, hear_and_act_if, perform_all, perform_quietly, unit_on}
use Rattle.world_moves.specs.Bag.{settle_at}
use Rattle.world_moves.specs.Links.{OpenMap, accepted, answered, forget_end, is_own, kind_of}
use Rattle.world_moves.specs.Moving.{act}
use Rattle.world_moves.proofs.QuietLaws.{units_by}
use Rattle.world_moves.proofs.StateFrameLaws.{HoldsActing, StateFact, actions_so, closed_so, hears_if_so, hears_so, move_so}

-- ---- what is to hold

-- something of the links, those that are open and the bag
abbrev pub LinkFact : Type 1
LinkFact = List Route → OpenMap → List BagUnit → Type 0

abbrev pub FitsIn : LinkFact → State → Type 0
FitsIn Fits s = Fits s.links s.open_links s.bag

-- the unit is on one of the links, which is of its kind, and whose units go into the bag
pub record IsOnLink (links : List Route) (unit : BagUnit) : Type 0 where
  pub route : Route
  pub made : slice_get links unit.link ≡ Some route
  pub own : is_own (kind_of route) ≡ true
  pub same_kind : kind_of route ≡ unit.kind

-- A fact of links holds on where a unit goes into the bag, and where a link is open no more.
pub record StaysOnLinks (Fits : LinkFact) : Type 0 where
  pub sends : (unit : BagUnit) (links : List Route) (map : OpenMap) (bag : List BagUnit) → IsOnLink links unit → Fits links map bag → Fits links map (bag ++ unit ∷ [])
  pub shuts : (link : ℕ) (links : List Route) (map : OpenMap) (bag : List BagUnit) → Fits links map bag → Fits links (take_out same_number link map) bag

-- A fact of links holds on where a link is made, where its other side is open too, where an end is forgotten, and where
-- a unit is delivered or lost.
pub record StaysAlways (Fits : LinkFact) : Type 0 where
  pub steps : StaysOnLinks Fits
  pub opens : (route : Route) (links : List Route) (map : OpenMap) (bag : List BagUnit) → Fits links map bag →
      Fits (links ++ route ∷ []) (map ++ (length links, accepted route) ∷ []) bag
  pub answers : (link : ℕ) (there : OpenLink) (links : List Route) (map : OpenMap) (bag : List BagUnit) → lookup same_number link map ≡ Some there → Fits links map bag →
      Fits links (put same_number link (answered there) map) bag
  pub forgets : (end : EndId) (links : List Route) (map : OpenMap) (bag : List BagUnit) → Fits links map bag → Fits links (forget_end end map) bag
  pub settles : (number : ℕ) (links : List Route) (map : OpenMap) (bag : List BagUnit) → Fits links map bag → Fits links map (settle_at number bag)

-- ---- a fact of links holds through actions, and through moves

-- a fact of links holds later where it holds before
abbrev Holds : LinkFact → StateFact
Holds Fits s after = FitsIn Fits s → FitsIn Fits after

module _ (Fits : LinkFact) (stays : StaysOnLinks Fits) where
  pub quiet_stays : (end : EndId) (what : Action) (s : State) → FitsIn Fits s → FitsIn Fits (perform_quietly end what s)
  quiet_stays end what s holds =
      units_by (λ (units : List BagUnit). Fits s.links s.open_links (s.bag ++ units)) s.links end what
      (subst (λ (bag : List BagUnit). Fits s.links s.open_links bag) (sym (append-nil s.bag)) holds)
      (λ link bytes route sends made own.
      stays.sends (unit_on route end link bytes) s.links s.open_links s.bag (record { route = route; made = made; own = own; same_kind = refl }) holds)

  acting : HoldsActing (Holds Fits)
  acting = record {
    none = λ s holds. holds;
    both = λ s between after first later holds. later (first holds);
    hears = λ end what s holds. holds;
    acts = quiet_stays;
    shuts = λ link s holds. stays.shuts link s.links s.open_links s.bag holds;
  }

  pub closed_stays : (end : Option EndId) (link : ℕ) (s : State) → FitsIn Fits s → FitsIn Fits (closed_at end link s).state
  closed_stays = closed_so (Holds Fits) acting

  pub actions_stay : (end : EndId) (actions : List Action) (s : State) → FitsIn Fits s → FitsIn Fits (perform_all end actions s).state
  actions_stay = actions_so (Holds Fits) acting

  pub heard_stays : (end : EndId) (what : Event) (s : State) → FitsIn Fits s → FitsIn Fits (hear_and_act end what s).state
  heard_stays = hears_so (Holds Fits) acting

  pub heard_if_stays : (end : Option EndId) (what : Event) (s : State) → FitsIn Fits s → FitsIn Fits (hear_and_act_if end what s).state
  heard_if_stays = hears_if_so (Holds Fits) acting

pub move_stays : (Fits : LinkFact) → StaysAlways Fits → (what : Move) (s : State) → FitsIn Fits s → FitsIn Fits (act s what).state
move_stays Fits stays = move_so (Holds Fits) (record {
  acting = acting Fits stays.steps;
  begins = λ client plan s holds. holds;
  starts = λ station plan s holds. holds;
  opens = λ route s holds. stays.opens route s.links s.open_links s.bag holds;
  answers = λ link there s is holds. stays.answers link there s.links s.open_links s.bag is holds;
  forgets = λ end s holds. stays.forgets end s.links s.open_links s.bag holds;
  settles = λ number s holds. stays.settles number s.links s.open_links s.bag holds;
  dials = λ s holds. holds;
  renews = λ end s holds. holds;
  changes = λ at secret s holds. holds;
  ticks = λ more s holds. holds;
})
