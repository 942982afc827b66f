-- Where links and units are as bytes come: each open link is one that was made, each unit is on a link of its kind, and
-- the units of the bag stay there with their bytes. It serves the induction over moves (`MoveFrameLaws`), `drive` and
-- `schedules_are_heard`.
use Rattle.std.proofs.Common.{◌≡◌, ℕ, zero, suc, ◌≤◌, List, [], ◌∷◌, length, Some, slice_get, refl, sym, ap, subst, ◌∙◌}
use Rattle.std.specs.List.{AllByRecursion}
use Rattle.std.proofs.lemmas.List.Elements.{All-from_recursion, All-head, All-tail}
use Rattle.wire_base.specs.Numbers.{AreBytes}
use Rattle.secret_change.specs.Secrets.{IsSecret}
use Rattle.end_links.specs.Bounds.{send_limit}
use Rattle.wire_base.specs.Lists.{OneOf}
use Rattle.world_moves.specs.declared.bag.BagUnit.{BagUnit}
use Rattle.world_moves.specs.declared.links.Route.{Route}
use Rattle.world_moves.specs.declared.moves.Move.{Move}
use Rattle.world_moves.specs.declared.moves.Move.TheVariants as move
use Rattle.world_moves.specs.declared.plan.Plan.{Plan}
use Rattle.world_moves.specs.declared.state.State.{State}
use Rattle.world_moves.specs.Bag.{AreShortUnits, HaveBytes, pieces_of, settle_at}
use Rattle.world_moves.specs.Links.{OpenMap}
use Rattle.world_moves.specs.World.{first_world}
use Rattle.domain_world.specs.Past.{past}
use Rattle.step_notes.specs.Records.{InUnit}
use Rattle.wire_base.proofs.ListLaws.{got_nothing, some_is}
use Rattle.world_moves.proofs.LinkFrameLaws.{StaysAlways, StaysOnLinks}
use Rattle.domain_world.proofs.Moves.ComingLaws.{HaveKinds, IsLinkOf, IsPieceOf, IsStill, StillHas, kept_sent, kept_settled, kinds_sent, kinds_stay}
use Rattle.domain_world.proofs.Moves.MarkPlaceLaws.{got_beside, settled_length}
use Rattle.domain_world.proofs.Moves.OpenMadeLaws.{OpenAsMade, as_made}

-- ---- the places of links and units

-- each link that is open is one that was made, and each unit is on a link of its kind
pub record Placed (links : List Route) (map : OpenMap) (bag : List BagUnit) : Type 0 where
  pub made : OpenAsMade links map bag
  pub kinds : HaveKinds links [] bag

abbrev pub IsPlaced : State → Type 0
IsPlaced s = Placed s.links s.open_links s.bag

pub placed_stay : StaysAlways Placed
placed_stay = record {
  steps = record {
    sends = λ unit links map bag on placed. record { made = placed.made; kinds = kinds_sent.sends unit links [] bag on placed.kinds };
    shuts = λ link links map bag placed. record { made = as_made.steps.shuts link links map bag placed.made; kinds = placed.kinds };
  };
  opens = λ route links map bag placed. record { made = as_made.opens route links map bag placed.made; kinds = kinds_stay.opens route links [] bag placed.kinds };
  answers = λ link there links map bag is placed. record { made = as_made.answers link there links map bag is placed.made; kinds = placed.kinds };
  forgets = λ end links map bag placed. record { made = as_made.forgets end links map bag placed.made; kinds = placed.kinds };
  settles = λ number links map bag placed. record { made = placed.made; kinds = kinds_stay.settles number links [] bag placed.kinds };
}

-- the links are as they were when bytes began to come, and the units of the bag are still there
pub record Since (links : List Route) (old : List BagUnit) (now : List Route) (map : OpenMap) (bag : List BagUnit) : Type 0 where
  pub same : now ≡ links
  pub still : StillHas old bag
  pub placed : Placed now map bag

pub since_sent : (links : List Route) (old : List BagUnit) → StaysOnLinks (Since links old)
since_sent links old = record {
  sends = λ unit now map bag on since. record {
    same = since.same;
    still = (kept_sent old).sends unit now map bag on since.still;
    placed = placed_stay.steps.sends unit now map bag on since.placed;
  };
  shuts = λ link now map bag since. record { same = since.same; still = since.still; placed = placed_stay.steps.shuts link now map bag since.placed };
}

-- ---- what may be known of a run

-- the bytes of each unit are such
abbrev pub EachHas : (List ℕ → Type 0) → List BagUnit → Type 0
EachHas Fits bag = (k : ℕ) (unit : BagUnit) → slice_get bag k ≡ Some unit → Fits unit.bytes

each_before : (Fits : List ℕ → Type 0) (old bag : List BagUnit) → StillHas old bag → EachHas Fits bag → EachHas Fits old
each_before Fits old bag still have k unit there = let now : IsStill unit bag k = still k unit there in subst Fits now.bytes (have k now.now now.there)

each_settled : (Fits : List ℕ → Type 0) (number : ℕ) (bag : List BagUnit) → EachHas Fits bag → EachHas Fits (settle_at number bag)
each_settled Fits number bag have k unit there =
    let before : (old : BagUnit) × (slice_get bag k ≡ Some old) = got_beside (settle_at number bag) bag k unit (settled_length number bag) there in
    let now : IsStill before.0 (settle_at number bag) k = kept_settled number bag k before.0 before.1 in
    let same : now.now ≡ unit = some_is now.now unit (sym now.there ∙ there) in
    subst (λ (u : BagUnit). Fits u.bytes) same (subst Fits (sym now.bytes) (have k before.0 before.1))

-- no unit is longer than an end sends at once
abbrev pub ShortBag : List BagUnit → Type 0
ShortBag bag = EachHas (λ (bytes : List ℕ). length bytes ≤ send_limit) bag

-- each unit has bytes
abbrev pub BytesIn : List BagUnit → Type 0
BytesIn bag = EachHas AreBytes bag

-- what is handed in are bytes, and a new secret has 16
abbrev pub HandsBytes : Move → Type 0
HandsBytes (move.Hand link back piece) = AreBytes piece
HandsBytes (move.Change member secret) = IsSecret secret
HandsBytes _ = Unit {0}

-- the units of a bag are short, and have bytes
pub record IsBytesBag (bag : List BagUnit) : Type 0 where
  pub short : ShortBag bag
  pub bytes : BytesIn bag

pub bag_before : (old bag : List BagUnit) → StillHas old bag → IsBytesBag bag → IsBytesBag old
bag_before old bag still have = record {
  short = each_before (λ (bytes : List ℕ). length bytes ≤ send_limit) old bag still have.short;
  bytes = each_before AreBytes old bag still have.bytes;
}

pub settled_bag : (number : ℕ) (bag : List BagUnit) → IsBytesBag bag → IsBytesBag (settle_at number bag)
settled_bag number bag have = record {
  short = each_settled (λ (bytes : List ℕ). length bytes ≤ send_limit) number bag have.short;
  bytes = each_settled AreBytes number bag have.bytes;
}

-- ---- a unit that comes

-- the kind and the link of a unit stay as a unit is settled
pub settled_link : (number link : ℕ) (unit found : BagUnit) (s : State) → slice_get s.bag number ≡ Some unit → IsLinkOf s.links link unit.kind →
    slice_get (settle_at number s.bag) number ≡ Some found → IsLinkOf s.links link found.kind
settled_link number link unit found s there of is =
    let now : IsStill unit (settle_at number s.bag) number = kept_settled number s.bag number unit there in
    let same : now.now ≡ found = (let both : Some now.now ≡ Some found = sym now.there ∙ is in cc) in (of.0, of.1, of.2 ∙ sym now.kind ∙ ap (λ (u : BagUnit). u.kind) same)

-- a piece of the unit as the bag was when it began to come is one of it now
pub same_piece : (number : ℕ) (unit : BagUnit) (link at : ℕ) (s later : State) (piece : List ℕ) → slice_get s.bag number ≡ Some unit → IsLinkOf s.links link unit.kind →
    Since s.links s.bag later.links later.open_links later.bag → OneOf (λ (one : List ℕ). one ≡ piece) (pieces_of unit.bytes) →
    IsPieceOf later number (record { at = at; source = InUnit number; link = link; back = unit.back }) piece
same_piece number unit link at s later piece there of since one =
    let now : IsStill unit later.bag number = since.still number unit there in
    record {
      unit = now.now;
      there = now.there;
      back = now.back;
      route = of.0;
      made = ap (λ (l : List Route). slice_get l link) since.same ∙ of.1;
      same_kind = of.2 ∙ sym now.kind;
      part = subst (λ (bytes : List ℕ). OneOf (λ (one : List ℕ). one ≡ piece) (pieces_of bytes)) (sym now.bytes) one;
    }

-- ---- of a run

-- what is known of the units of a world, and of the bytes that are handed in
pub record HasBytes (plan : Plan) (moves : List Move) : Type 0 where
  pub short : AreShortUnits (past plan moves).world.state.bag
  pub bytes : HaveBytes (past plan moves).world.state.bag
  pub handed : AllByRecursion HandsBytes moves

pub bytes_in : (bag : List BagUnit) → HaveBytes bag → BytesIn bag
bytes_in [] have number unit there = absurd (got_nothing number unit there)
bytes_in (first ∷ bag) have zero unit there =
    let here : first ≡ unit = cc in subst (λ (u : BagUnit). AreBytes u.bytes) here (All-head (λ (u : BagUnit). AreBytes u.bytes) first bag have)
bytes_in (first ∷ bag) have (suc number) unit there = bytes_in bag (All-tail (λ (u : BagUnit). AreBytes u.bytes) first bag have) number unit there

-- what each unit of a bag has, as the bag has it
all_each : (Fits : List ℕ → Type 0) (bag : List BagUnit) → EachHas Fits bag → AllByRecursion (λ (unit : BagUnit). Fits unit.bytes) bag
all_each Fits [] each = tt
all_each Fits (first ∷ bag) each = (each 0 first refl, all_each Fits bag (λ number unit there. each (suc number) unit there))

pub short_units : (bag : List BagUnit) → ShortBag bag → AreShortUnits bag
short_units bag short = All-from_recursion (λ (unit : BagUnit). length unit.bytes ≤ send_limit) bag (all_each (λ (bytes : List ℕ). length bytes ≤ send_limit) bag short)

pub units_have_bytes : (bag : List BagUnit) → BytesIn bag → HaveBytes bag
units_have_bytes bag are = All-from_recursion (λ (unit : BagUnit). AreBytes unit.bytes) bag (all_each AreBytes bag are)

-- units have their places in the first world
pub placed_first : (plan : Plan) → IsPlaced (first_world plan).state
placed_first plan = record { made = tt; kinds = λ k unit there. absurd (got_nothing k unit there) }
