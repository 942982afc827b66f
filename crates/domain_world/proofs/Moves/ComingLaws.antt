-- Where bytes come from that an end hears: a unit of the bag, on a link of its kind, or from outside, on no link
-- between a member and a controller; and what stays of a unit of the bag. It serves `drive`, `schedules_are_heard` and
-- `Proved.let_in`.
use Rattle.std.proofs.Common.{◌≡◌, ℕ, zero, suc, ◌+◌, ◌==◌, Bool, true, false, List, [], ◌∷◌, ◌++◌, inl, inr, Option, Some, None, slice_get, if◌then◌else◌, refl, sym, ap, subst, ◌∙◌, arith, drop, length}
use Rattle.wire_base.specs.Numbers.{AreBytes}
use Rattle.wire_base.proofs.NumberLaws.{AreBytes-drop, AreBytes-take}
use Rattle.wire_base.specs.Lists.{OneOf}
use Rattle.world_moves.specs.declared.bag.BagUnit.{BagUnit}
use Rattle.world_moves.specs.declared.links.EndId.{EndId}
use Rattle.world_moves.specs.declared.links.EndId.TheVariants.{Controller, Member, Client, Station}
use Rattle.world_moves.specs.declared.links.LinkKind.{LinkKind}
use Rattle.world_moves.specs.declared.links.LinkKind.TheVariants as kind
use Rattle.world_moves.specs.declared.links.Route.{Route}
use Rattle.world_moves.specs.declared.links.Route.TheVariants.{ToMember, ToController, Between, FromStation}
use Rattle.world_moves.specs.declared.moves.Move.{Move}
use Rattle.world_moves.specs.declared.state.State.{State}
use Rattle.world_moves.specs.Bag.{piece_limit, pieces_in, pieces_of, settle_at, settled}
use Rattle.world_moves.specs.Choosing.{places_from}
use Rattle.world_moves.specs.Links.{OpenMap, dialler_of, handed_links, is_handed, is_of, kind_of, links_of, same_kind}
use Rattle.world_moves.specs.Moving.{act, between_if, route_to}
use Rattle.world_moves.specs.World.{World, happens, run}
use Rattle.domain_world.specs.Past.{Delivery}
use Rattle.step_notes.specs.Records.{InUnit, Outside, Source}
use Rattle.wire_base.proofs.ListLaws.{got_append, got_nothing}
use Rattle.world_moves.proofs.LinkFrameLaws.{IsOnLink, LinkFact, StaysAlways, StaysOnLinks, move_stays}
use Rattle.domain_world.proofs.Moves.MarkPlaceLaws.{SettledOr, got_beside, got_settled, later_or, settled_length}

-- ---- where bytes come from

-- a piece of that unit of the bag, on a link of its kind
pub record IsPieceOf (s : State) (number : ℕ) (w : Delivery) (piece : List ℕ) : Type 0 where
  pub unit : BagUnit
  pub there : slice_get s.bag number ≡ Some unit
  pub back : unit.back ≡ w.back
  pub route : Route
  pub made : slice_get s.links w.link ≡ Some route
  pub same_kind : kind_of route ≡ unit.kind
  pub part : OneOf (λ (one : List ℕ). one ≡ piece) (pieces_of unit.bytes)

abbrev pub IsFromOutside : List Route → ℕ → Type 0
IsFromOutside links link = (member controller : ℕ) → slice_get links link ≡ Some (ToController member controller) → ⊥

abbrev pub CameFrom : Source → State → Delivery → List ℕ → Type 0
CameFrom Outside s w piece = IsFromOutside s.links w.link
CameFrom (InUnit number) s w piece = IsPieceOf s number w piece

-- bytes that come are a piece of a unit of the bag
pub record CameInUnit (source : Source) (s : State) (w : Delivery) (piece : List ℕ) : Type 0 where
  pub number : ℕ
  pub is : source ≡ InUnit number
  pub piece_of : IsPieceOf s number w piece

-- whatever comes on a link of a member and a controller came in a unit
pub came_in_unit : (source : Source) (s : State) (w : Delivery) (piece : List ℕ) (member controller : ℕ) → CameFrom source s w piece →
    slice_get s.links w.link ≡ Some (ToController member controller) → CameInUnit source s w piece
came_in_unit (InUnit number) s w piece member controller came made = record { number = number; is = refl; piece_of = came }
came_in_unit Outside s w piece member controller came made = absurd (came member controller made)

-- ---- places of the items that pass

pub record IsPlace {T : Type 0} (test : T → Bool) (items : List T) (start number : ℕ) : Type 0 where
  pub place : ℕ
  pub item : T
  pub is : number ≡ start + place
  pub there : slice_get items place ≡ Some item
  pub passes : test item ≡ true

place_later : {T : Type 0} (test : T → Bool) (first : T) (items : List T) (start number : ℕ) → IsPlace test items (start + 1) number → IsPlace test (first ∷ items) start number
place_later test first items start number later = record {
  place = suc later.place;
  item = later.item;
  is = omega (arith, later.is);
  there = later.there;
  passes = later.passes;
}

place_by : {T : Type 0} (passes : Bool) (test : T → Bool) (first : T) (items : List T) (start i number : ℕ) → test first ≡ passes →
    slice_get (if passes then start ∷ places_from test (start + 1) items else places_from test (start + 1) items) i ≡ Some number →
    ((j : ℕ) → slice_get (places_from test (start + 1) items) j ≡ Some number → IsPlace test items (start + 1) number) → IsPlace test (first ∷ items) start number
place_by false test first items start i number fits there later = place_later test first items start number (later i there)
place_by true test first items start zero number fits there later =
    let same : start ≡ number = cc in record { place = 0; item = first; is = omega (arith, same); there = refl; passes = fits }
place_by true test first items start (suc i) number fits there later = place_later test first items start number (later i there)

pub place_in : {T : Type 0} (test : T → Bool) (items : List T) (start i number : ℕ) → slice_get (places_from test start items) i ≡ Some number → IsPlace test items start number
place_in test [] start i number there = absurd cc
place_in test (first ∷ items) start i number there =
    place_by (test first) test first items start i number refl there (λ j more. place_in test items (start + 1) j number more)

-- an item whose number is in `places_from` passes the test
pub place_passes : {T : Type 0} (test : T → Bool) (items : List T) (i number : ℕ) → slice_get (places_from test 0 items) i ≡ Some number →
    (item : T) × (slice_get items number ≡ Some item) × (test item ≡ true)
place_passes test items i number there =
    let place : IsPlace test items 0 number = place_in test items 0 i number there in
    let same : place.place ≡ number = omega (arith, place.is) in (place.item, subst (λ (n : ℕ). slice_get items n ≡ Some place.item) same place.there, place.passes)

-- ---- links to which bytes come

-- bytes from outside come on no link of a member and a controller
pub handed_outside : (links : List Route) (i link : ℕ) → slice_get (handed_links links) i ≡ Some link → IsFromOutside links link
handed_outside links i link is member controller at =
    let found : (route : Route) × (slice_get links link ≡ Some route) × (is_handed route ≡ true) = place_passes is_handed links i link is in
    let route : found.0 ≡ ToController member controller = (let both : Some found.0 ≡ Some (ToController member controller) = sym found.1 ∙ at in cc) in
    absurd (let never : true ≡ false = sym found.2 ∙ ap is_handed route in cc)

same_kinds : (one other : LinkKind) → same_kind one other ≡ true → one ≡ other
same_kinds kind.ToMember kind.ToMember is = refl
same_kinds kind.ToController kind.ToController is = refl
same_kinds kind.Between kind.Between is = refl
same_kinds kind.Stranger kind.Stranger is = refl
same_kinds kind.ToMember kind.ToController is = absurd cc
same_kinds kind.ToMember kind.Between is = absurd cc
same_kinds kind.ToMember kind.Stranger is = absurd cc
same_kinds kind.ToController kind.ToMember is = absurd cc
same_kinds kind.ToController kind.Between is = absurd cc
same_kinds kind.ToController kind.Stranger is = absurd cc
same_kinds kind.Between kind.ToMember is = absurd cc
same_kinds kind.Between kind.ToController is = absurd cc
same_kinds kind.Between kind.Stranger is = absurd cc
same_kinds kind.Stranger kind.ToMember is = absurd cc
same_kinds kind.Stranger kind.ToController is = absurd cc
same_kinds kind.Stranger kind.Between is = absurd cc
same_kinds kind.FromStation kind.FromStation is = refl
same_kinds kind.FromStation kind.ToMember is = absurd cc
same_kinds kind.ToMember kind.FromStation is = absurd cc
same_kinds kind.FromStation kind.ToController is = absurd cc
same_kinds kind.ToController kind.FromStation is = absurd cc
same_kinds kind.FromStation kind.Between is = absurd cc
same_kinds kind.Between kind.FromStation is = absurd cc
same_kinds kind.FromStation kind.Stranger is = absurd cc
same_kinds kind.Stranger kind.FromStation is = absurd cc

-- a link with a route of that kind
abbrev pub IsLinkOf : List Route → ℕ → LinkKind → Type 0
IsLinkOf links link k = (route : Route) × (slice_get links link ≡ Some route) × (kind_of route ≡ k)

-- a unit that is delivered where one chooses goes on a link of its kind
pub chosen_of : (k : LinkKind) (links : List Route) (i link : ℕ) → slice_get (links_of k links) i ≡ Some link → IsLinkOf links link k
chosen_of k links i link is =
    let found : (route : Route) × (slice_get links link ≡ Some route) × (is_of k route ≡ true) = place_passes (is_of k) links i link is in
    (found.0, found.1, same_kinds (kind_of found.0) k found.2)

-- ---- pieces

pieces_bytes : (most : ℕ) (bytes : List ℕ) → AreBytes bytes → (piece : List ℕ) → OneOf (λ (one : List ℕ). one ≡ piece) (pieces_in most bytes) → AreBytes piece
pieces_bytes most [] are piece one = absurd one
pieces_bytes zero (byte ∷ bytes) are piece one = absurd one
pieces_bytes (suc most) (byte ∷ bytes) are piece one =
    elim one [
      | inl here ↦ subst AreBytes here (AreBytes-take piece_limit (byte ∷ bytes) are)
      | inr later ↦ pieces_bytes most (drop piece_limit (byte ∷ bytes)) (AreBytes-drop piece_limit (byte ∷ bytes) are) piece later
    ]

-- a piece of bytes has bytes
pub piece_bytes : (bytes : List ℕ) → AreBytes bytes → (piece : List ℕ) → OneOf (λ (one : List ℕ). one ≡ piece) (pieces_of bytes) → AreBytes piece
unfolding pieces_of
piece_bytes bytes are piece one = pieces_bytes (length bytes) bytes are piece one

-- ---- a dial that is connected goes out from the end that dialled

between_dials : (is_itself : Bool) (from to : ℕ) (route : Route) → between_if is_itself from to ≡ Some route → dialler_of route ≡ Some (Controller from)
between_dials true from to route is = absurd cc
between_dials false from to route is = let same : Between from to ≡ route = cc in sym (ap dialler_of same)

pub route_dials : (end : EndId) (to : Option EndId) (route : Route) → route_to end to ≡ Some route → dialler_of route ≡ Some end
route_dials (Client client) (Some (Member member)) route is = let same : ToMember client member ≡ route = cc in sym (ap dialler_of same)
route_dials (Member member) (Some (Controller controller)) route is = let same : ToController member controller ≡ route = cc in sym (ap dialler_of same)
route_dials (Client client) None route is = absurd cc
route_dials (Client client) (Some (Controller at)) route is = absurd cc
route_dials (Client client) (Some (Client at)) route is = absurd cc
route_dials (Client client) (Some (Station at)) route is = absurd cc
route_dials (Member member) None route is = absurd cc
route_dials (Member member) (Some (Member at)) route is = absurd cc
route_dials (Member member) (Some (Client at)) route is = absurd cc
route_dials (Member member) (Some (Station at)) route is = absurd cc
route_dials (Controller controller) None route is = absurd cc
route_dials (Controller controller) (Some (Controller at)) route is = between_dials (controller == at) controller at route is
route_dials (Controller controller) (Some (Member at)) route is = absurd cc
route_dials (Controller controller) (Some (Client at)) route is = absurd cc
route_dials (Controller controller) (Some (Station at)) route is = absurd cc
route_dials (Station station) (Some (Controller controller)) route is = let same : FromStation station controller ≡ route = cc in sym (ap dialler_of same)
route_dials (Station station) None route is = absurd cc
route_dials (Station station) (Some (Member at)) route is = absurd cc
route_dials (Station station) (Some (Client at)) route is = absurd cc
route_dials (Station station) (Some (Station at)) route is = absurd cc

-- ---- the units of the bag

-- each is on a link of its kind
abbrev pub HaveKinds : LinkFact
HaveKinds links map bag = (k : ℕ) (unit : BagUnit) → slice_get bag k ≡ Some unit → IsLinkOf links unit.link unit.kind

settled_kind : (unit now : BagUnit) (links : List Route) (found : Option BagUnit) → SettledOr unit found → found ≡ Some now → IsLinkOf links unit.link unit.kind → IsLinkOf links now.link now.kind
settled_kind unit now links found to is had =
    elim to [
      | inl same ↦ (let here : unit ≡ now = (let both : Some unit ≡ Some now = sym same ∙ is in cc) in subst (λ (u : BagUnit). IsLinkOf links u.link u.kind) here had)
      | inr done ↦ (let here : settled unit ≡ now = (let both : Some (settled unit) ≡ Some now = sym done ∙ is in cc) in subst (λ (u : BagUnit). IsLinkOf links u.link u.kind) here had)
    ]

kinds_settled : (number : ℕ) (links : List Route) (map : OpenMap) (bag : List BagUnit) → HaveKinds links map bag → HaveKinds links map (settle_at number bag)
kinds_settled number links map bag each k unit there =
    let before : (old : BagUnit) × (slice_get bag k ≡ Some old) = got_beside (settle_at number bag) bag k unit (settled_length number bag) there in
    settled_kind before.0 unit links (slice_get (settle_at number bag) k) (got_settled bag number k before.0 before.1) there (each k before.0 before.1)

last_kind : (links : List Route) (unit one : BagUnit) (place : ℕ) → IsOnLink links unit → slice_get (unit ∷ []) place ≡ Some one → IsLinkOf links one.link one.kind
last_kind links unit one zero on there =
    let same : unit ≡ one = cc in subst (λ (u : BagUnit). IsLinkOf links u.link u.kind) same (on.route, on.made, on.same_kind)
last_kind links unit one (suc place) on there = absurd (got_nothing place one there)

pub kinds_sent : StaysOnLinks HaveKinds
kinds_sent = record {
  sends = λ unit links map bag on each k one there.
      elim (later_or bag (unit ∷ []) k one there) [
        | inl old ↦ each k one old
        | inr new ↦ last_kind links unit one new.place on new.there
      ];
  shuts = λ link links map bag each. each;
}

pub kinds_stay : StaysAlways HaveKinds
kinds_stay = record {
  steps = kinds_sent;
  opens = λ route links map bag each k unit there.
      let had : IsLinkOf links unit.link unit.kind = each k unit there in (had.0, got_append links (route ∷ []) unit.link had.0 had.1, had.2);
  answers = λ link there links map bag is each. each;
  forgets = λ end links map bag each. each;
  settles = λ number links map bag each. kinds_settled number links map bag each;
}

-- a unit of the bag stays there, whether it is delivered or lost or not
pub record IsStill (unit : BagUnit) (bag : List BagUnit) (number : ℕ) : Type 0 where
  pub now : BagUnit
  pub there : slice_get bag number ≡ Some now
  pub bytes : now.bytes ≡ unit.bytes
  pub link : now.link ≡ unit.link
  pub kind : now.kind ≡ unit.kind
  pub back : now.back ≡ unit.back

abbrev pub StillHas : List BagUnit → List BagUnit → Type 0
StillHas old bag = (number : ℕ) (unit : BagUnit) → slice_get old number ≡ Some unit → IsStill unit bag number

pub kept_same : (bag : List BagUnit) → StillHas bag bag
kept_same bag number unit there = record { now = unit; there = there; bytes = refl; link = refl; kind = refl; back = refl }

pub kept_on : (first middle last : List BagUnit) → StillHas first middle → StillHas middle last → StillHas first last
kept_on first middle last one other number unit there =
    let here : IsStill unit middle number = one number unit there in
    let later : IsStill here.now last number = other number here.now here.there in
    record {
      now = later.now;
      there = later.there;
      bytes = later.bytes ∙ here.bytes;
      link = later.link ∙ here.link;
      kind = later.kind ∙ here.kind;
      back = later.back ∙ here.back;
    }

pub kept_settled : (number : ℕ) (bag : List BagUnit) → StillHas bag (settle_at number bag)
kept_settled number bag k unit there =
    elim (got_settled bag number k unit there) [
      | inl same ↦ record { now = unit; there = same; bytes = refl; link = refl; kind = refl; back = refl }
      | inr done ↦ record { now = settled unit; there = done; bytes = refl; link = refl; kind = refl; back = refl }
    ]

abbrev pub StillIn : List BagUnit → LinkFact
StillIn old links map bag = StillHas old bag

kept_more : (old bag : List BagUnit) (unit : BagUnit) → StillHas old bag → StillHas old (bag ++ unit ∷ [])
kept_more old bag unit kept =
    kept_on old bag (bag ++ unit ∷ []) kept
    (λ number one there. record { now = one; there = got_append bag (unit ∷ []) number one there; bytes = refl; link = refl; kind = refl; back = refl })

pub kept_sent : (old : List BagUnit) → StaysOnLinks (StillIn old)
kept_sent old = record {
  sends = λ unit links map bag on kept. kept_more old bag unit kept;
  shuts = λ link links map bag kept. kept;
}

pub kept_stay : (old : List BagUnit) → StaysAlways (StillIn old)
kept_stay old = record {
  steps = kept_sent old;
  opens = λ route links map bag kept. kept;
  answers = λ link there links map bag is kept. kept;
  forgets = λ end links map bag kept. kept;
  settles = λ number links map bag kept. kept_on old bag (settle_at number bag) kept (kept_settled number bag);
}

-- ---- the units of the bag stay through a move

pub act_still : (what : Move) (s : State) → StillHas s.bag (act s what).state.bag
act_still what s = move_stays (StillIn s.bag) (kept_stay s.bag) what s (kept_same s.bag)

pub run_still : (moves : List Move) (w : World) → StillHas w.state.bag (run moves w).state.bag
run_still [] w = kept_same w.state.bag
run_still (what ∷ moves) w = kept_on w.state.bag (happens w what).state.bag (run moves (happens w what)).state.bag (act_still what w.state) (run_still moves (happens w what))
