-- Through all moves each link that is open at a side is between the ends that it was made for, and what an end does
-- adds units to the bag. It serves `Proved.marked`, `Proved.ways`, `Proved.replies` and 3 more.
use Rattle.std.proofs.Common.{◌≡◌, ℕ, Bool, true, false, List, [], ◌∷◌, ◌++◌, length, Option, Some, None, slice_get, if◌then◌else◌, refl, ap, sym, subst, ◌∙◌}
use Rattle.std.specs.Prelude.{◌||◌}
use Rattle.std.specs.List.{AllByRecursion}
use Rattle.std.proofs.lemmas.Bool.Decides.{Decides-eqb}
use Rattle.std.proofs.lemmas.List.{append_assoc, append-nil}
use Rattle.wire_base.specs.Maps.{has_key, lookup, put, same_number, take_out}
use Rattle.world_moves.specs.declared.bag.BagUnit.{BagUnit}
use Rattle.world_moves.specs.declared.links.EndId.{EndId}
use Rattle.world_moves.specs.declared.links.OpenLink.{OpenLink}
use Rattle.world_moves.specs.declared.links.Route.{Route}
use Rattle.world_moves.specs.declared.links.Route.TheVariants.{ToMember, ToController, Between, Stranger, FromStation}
use Rattle.world_moves.specs.Links.{OpenMap, accepted, acceptor_of, answered, dialler_of, end_if, forget_end, forgotten_by, hearer_of, hearer_on, open_if}
use Rattle.wire_base.proofs.ListLaws.{all_weaker, got_append, got_last}
use Rattle.world_moves.proofs.LinkFrameLaws.{IsOnLink, LinkFact, StaysAlways, StaysOnLinks}
use Rattle.domain_world.proofs.Moves.MarkPlaceLaws.{all_push}

-- ---- links that are open

abbrev pub IsAsMade : List Route → ℕ × OpenLink → Type 0
IsAsMade links entry = slice_get links entry.0 ≡ Some entry.1.route

abbrev pub OpenAsMade : LinkFact
OpenAsMade links map bag = AllByRecursion (IsAsMade links) map

out_if : (hit : Bool) (links : List Route) (entry : ℕ × OpenLink) (map rest : OpenMap) → IsAsMade links entry → AllByRecursion (IsAsMade links) map → AllByRecursion (IsAsMade links) rest →
    AllByRecursion (IsAsMade links) (if hit then map else entry ∷ rest)
out_if true links entry map rest first later out = later
out_if false links entry map rest first later out = (first, out)

out_made : (link : ℕ) (links : List Route) (map : OpenMap) → AllByRecursion (IsAsMade links) map → AllByRecursion (IsAsMade links) (take_out same_number link map)
out_made link links [] all = tt
out_made link links (entry ∷ map) all =
    out_if (has_key same_number link entry) links entry map (take_out same_number link map) all.0 all.1 (out_made link links map all.1)

found_if : (hit : Bool) (link : ℕ) (there : OpenLink) (links : List Route) (entry : ℕ × OpenLink) (found : Option OpenLink) → has_key same_number link entry ≡ hit →
    (if hit then Some entry.1 else found) ≡ Some there → IsAsMade links entry → (found ≡ Some there → slice_get links link ≡ Some there.route) → slice_get links link ≡ Some there.route
found_if true link there links entry found hit is first later =
    let key : link ≡ entry.0 = (Decides-eqb link entry.0).0 hit in
    let same : entry.1 ≡ there = cc in
    ap (λ (n : ℕ). slice_get links n) key ∙ first ∙ ap (λ (o : OpenLink). Some o.route) same
found_if false link there links entry found hit is first later = later is

pub found_made : (link : ℕ) (there : OpenLink) (links : List Route) (map : OpenMap) → AllByRecursion (IsAsMade links) map → lookup same_number link map ≡ Some there →
    slice_get links link ≡ Some there.route
found_made link there links [] all is = absurd cc
found_made link there links (entry ∷ map) all is =
    found_if (has_key same_number link entry) link there links entry (lookup same_number link map) refl is all.0 (λ later. found_made link there links map all.1 later)

put_if : (hit : Bool) (links : List Route) (here entry : ℕ × OpenLink) (map rest : OpenMap) → IsAsMade links here → IsAsMade links entry → AllByRecursion (IsAsMade links) map → AllByRecursion (IsAsMade links) rest →
    AllByRecursion (IsAsMade links) (if hit then here ∷ map else entry ∷ rest)
put_if true links here entry map rest new first later out = (new, later)
put_if false links here entry map rest new first later out = (first, out)

put_made : (link : ℕ) (there : OpenLink) (links : List Route) (map : OpenMap) → slice_get links link ≡ Some there.route → AllByRecursion (IsAsMade links) map →
    AllByRecursion (IsAsMade links) (put same_number link there map)
put_made link there links [] new all = (new, tt)
put_made link there links (entry ∷ map) new all =
    put_if (has_key same_number link entry) links (link, there) entry map (put same_number link there map) new all.0 all.1 (put_made link there links map new all.1)

kept_if : (is_open : Bool) (links : List Route) (number : ℕ) (there : OpenLink) (rest : OpenMap) → slice_get links number ≡ Some there.route → AllByRecursion (IsAsMade links) rest →
    AllByRecursion (IsAsMade links) (open_if is_open number there rest)
kept_if false links number there rest first later = later
kept_if true links number there rest first later = (first, later)

forgotten_made : (end : EndId) (links : List Route) (map : OpenMap) → AllByRecursion (IsAsMade links) map → AllByRecursion (IsAsMade links) (forget_end end map)
forgotten_made end links [] all = tt
forgotten_made end links (entry ∷ map) all =
    kept_if ((forgotten_by end entry.1).dialler || (forgotten_by end entry.1).acceptor) links entry.0 (forgotten_by end entry.1) (forget_end end map) all.0 (forgotten_made end links map all.1)

pub as_made : StaysAlways OpenAsMade
as_made = record {
  steps = record {
    sends = λ unit links map bag on all. all;
    shuts = λ link links map bag all. out_made link links map all;
  };
  opens = λ route links map bag all.
      all_push (IsAsMade (links ++ route ∷ [])) map (length links, accepted route)
      (all_weaker (IsAsMade links) (IsAsMade (links ++ route ∷ [])) map (λ entry made. got_append links (route ∷ []) entry.0 entry.1.route made) all)
      (got_last links route);
  answers = λ link there links map bag is all. put_made link (answered there) links map (found_made link there links map all is) all;
  forgets = λ end links map bag all. forgotten_made end links map all;
  settles = λ number links map bag all. all;
}

-- ---- the end at a side of a link

-- what goes in that direction, `back` to the end that dialled, is for it
abbrev pub side_of : Bool → Route → Option EndId
side_of false route = Some (acceptor_of route)
side_of true route = dialler_of route

side_if : (is_open : Bool) (there : Option EndId) (end : EndId) → end_if is_open there ≡ Some end → there ≡ Some end
side_if true there end is = is
side_if false there end is = absurd cc

heard_side : (back : Bool) (there : OpenLink) (end : EndId) → hearer_on back there ≡ Some end → side_of back there.route ≡ Some end
heard_side false there end is = side_if there.acceptor (Some (acceptor_of there.route)) end is
heard_side true there end is = side_if there.dialler (dialler_of there.route) end is

-- a link, with the end at one of its sides
pub record IsOnSide (links : List Route) (link : ℕ) (back : Bool) (end : EndId) : Type 0 where
  pub route : Route
  pub made : slice_get links link ≡ Some route
  pub side : side_of back route ≡ Some end

-- a link that isn't between controllers
abbrev pub IsApart : Route → Type 0
IsApart (ToMember client member) = Unit {0}
IsApart (ToController member controller) = Unit {0}
IsApart (Between from to) = ⊥
IsApart (FromStation station controller) = ⊥
IsApart (Stranger to) = Unit {0}

-- a link that isn't between controllers, with the end at one of its sides
pub record IsAtSide (links : List Route) (link : ℕ) (back : Bool) (end : EndId) : Type 0 where
  pub route : Route
  pub made : slice_get links link ≡ Some route
  pub side : side_of back route ≡ Some end
  pub apart : IsApart route

pub on_side : (links : List Route) (link : ℕ) (back : Bool) (end : EndId) → IsAtSide links link back end → IsOnSide links link back end
on_side links link back end at = record { route = at.route; made = at.made; side = at.side }

pub same_on_side : (one other : EndId) (links : List Route) (link : ℕ) (back : Bool) → IsOnSide links link back one → IsOnSide links link back other → one ≡ other
same_on_side one other links link back first second =
    let found : Some first.route ≡ Some second.route = sym first.made ∙ second.made in
    let route : first.route ≡ second.route = cc in
    let both : Some one ≡ Some other = sym first.side ∙ ap (λ (r : Route). side_of back r) route ∙ second.side in cc

pub same_side : (one other : EndId) (links : List Route) (link : ℕ) (back : Bool) → IsAtSide links link back one → IsAtSide links link back other → one ≡ other
same_side one other links link back first second =
    same_on_side one other links link back (on_side links link back one first) (on_side links link back other second)

hears_at : (back : Bool) (found : Option OpenLink) (links : List Route) (link : ℕ) (end : EndId) → ((there : OpenLink) → found ≡ Some there → slice_get links link ≡ Some there.route) →
    hearer_of back found ≡ Some end → IsOnSide links link back end
hears_at back None links link end made is = absurd cc
hears_at back (Some there) links link end made is = record { route = there.route; made = made there refl; side = heard_side back there end is }

-- the end that hears what goes on a link is at that side of it
pub hears_side : (back : Bool) (link : ℕ) (links : List Route) (map : OpenMap) (end : EndId) → AllByRecursion (IsAsMade links) map → hearer_of back (lookup same_number link map) ≡ Some end →
    IsOnSide links link back end
hears_side back link links map end all is = hears_at back (lookup same_number link map) links link end (λ there found. found_made link there links map all found) is

-- ---- what an end does adds units to the bag

pub record IsMore (before : List Route) (old : List BagUnit) (links : List Route) (bag : List BagUnit) : Type 0 where
  pub links_same : links ≡ before
  pub units : List BagUnit
  pub is : bag ≡ old ++ units
  pub on : AllByRecursion (IsOnLink before) units

abbrev pub MoreOf : List Route → List BagUnit → LinkFact
MoreOf before old links map bag = IsMore before old links bag

pub no_more : (links : List Route) (bag : List BagUnit) → IsMore links bag links bag
no_more links bag = record { links_same = refl; units = []; is = sym (append-nil bag); on = tt }

one_more : (before : List Route) (old : List BagUnit) (links : List Route) (bag : List BagUnit) (unit : BagUnit) → IsOnLink links unit → IsMore before old links bag → IsMore before old links (bag ++ unit ∷ [])
one_more before old links bag unit on more = record {
  links_same = more.links_same;
  units = more.units ++ unit ∷ [];
  is = ap (λ (all : List BagUnit). all ++ unit ∷ []) more.is ∙ append_assoc old more.units (unit ∷ []);
  on = all_push (IsOnLink before) more.units unit more.on (subst (λ (all : List Route). IsOnLink all unit) more.links_same on);
}

pub goes_on : (before : List Route) (old : List BagUnit) → StaysOnLinks (MoreOf before old)
goes_on before old = record {
  sends = λ unit links map bag on more. one_more before old links bag unit on more;
  shuts = λ link links map bag more. more;
}
