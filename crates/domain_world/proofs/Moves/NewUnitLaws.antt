-- A unit that an end sends on the link on which bytes came to it, with its mark: its bytes are those of the Send that
-- stands at the place of the mark, and its number is that at this place among the numbers of the units that went into
-- the bag on the link. It serves `Proved.marked`, `Proved.ways`, `Proved.replies` and 3 more.
use Rattle.std.proofs.Common.{◌≡◌, ◌⊎◌, ℕ, ◌+◌, Bool, true, false, List, ◌++◌, drop, length, inl, inr, Some, slice_get, refl, ap, sym, ◌∙◌}
use Rattle.std.specs.List.{AllByRecursion}
use Rattle.std.proofs.lemmas.List.{append_assoc, drop_at}
use Rattle.std.proofs.lemmas.List.Concat.{flat_map-append}
use Rattle.outside.specs.declared.action.Action.{Action}
use Rattle.channel_events.specs.Marks.{Mark, Plain}
use Rattle.step_notes.specs.ChannelNames.{sends_in, sent_by}
use Rattle.world_moves.specs.declared.bag.BagUnit.{BagUnit}
use Rattle.world_moves.specs.declared.links.EndId.{EndId}
use Rattle.world_moves.specs.declared.links.Route.{Route}
use Rattle.world_moves.specs.declared.state.State.{State}
use Rattle.world_moves.specs.Acting.{perform_all}
use Rattle.world_moves.specs.Choosing.{places_from}
use Rattle.world_moves.specs.Links.{is_accepted_by, is_own, kind_of}
use Rattle.domain_world.specs.Past.{is_sent_on, marks_of, numbers_on}
use Rattle.wire_base.proofs.ListLaws.{got_append}
use Rattle.world_moves.proofs.LinkFrameLaws.{IsOnLink, actions_stay}
use Rattle.domain_world.proofs.Moves.MarkPlaceLaws.{IsHere, IsMarkedAt, all_append, front_goes, front_marked, front_units, strangers_plain}
use Rattle.domain_world.proofs.Moves.OpenMadeLaws.{IsMore, MoreOf, goes_on, no_more}

pub record IsNewUnit (link : ℕ) (back : Bool) (actions : List Action) (marks : List Mark) (numbers : List ℕ) (number : ℕ) (unit : BagUnit) (mark : Mark) : Type 0 where
  pub place : ℕ
  pub marked : slice_get marks place ≡ Some mark
  pub sends : slice_get (sends_in actions) place ≡ Some unit.bytes
  pub numbered : slice_get numbers place ≡ Some number
  pub on : unit.link ≡ link
  pub way : unit.back ≡ back

-- The first actions close nothing and send on that link alone, once for each mark.
pub record IsFront (link : ℕ) (marks : List Mark) (actions : List Action) : Type 0 where
  pub front : List Action
  pub rest : List Action
  pub is : actions ≡ front ++ rest
  pub here : AllByRecursion (IsHere link) front
  pub size : length (sends_in front) ≡ length marks

-- where more was done after the first actions, and these units went into the bag after theirs
marked_new : (link : ℕ) (back : Bool) (actions : List Action) (marks : List Mark) (before after units : List BagUnit) (f : IsFront link marks actions) (place : ℕ) (unit : BagUnit) (mark : Mark) →
    after ≡ before ++ units → IsMarkedAt link back (sends_in f.front) marks units (length before) place unit mark →
    IsNewUnit link back actions marks (numbers_on link back before after) (length before + place) unit mark
marked_new link back actions marks before after units f place unit mark is at = record {
  place = place;
  marked = at.marked;
  sends = ap (λ (sends : List (List ℕ)). slice_get sends place) (ap sends_in f.is ∙ flat_map-append sent_by f.front f.rest)
      ∙ got_append (sends_in f.front) (sends_in f.rest) place unit.bytes at.sent;
  numbered = ap (λ (new : List BagUnit). slice_get (places_from (is_sent_on link back) (length before) new) place)
      (ap (λ (bag : List BagUnit). drop (length before) bag) is ∙ drop_at before units (length before) refl)
      ∙ at.numbered;
  on = at.on;
  way = at.way;
}

same_units : (bag units others after : List BagUnit) → after ≡ bag ++ units → after ≡ bag ++ others → units ≡ others
same_units bag units others after one other =
    sym (drop_at bag units (length bag) refl) ∙ ap (λ (all : List BagUnit). drop (length bag) all) (sym one ∙ other) ∙ drop_at bag others (length bag) refl

-- more units may go into the bag after those of the first actions
pub record MoreAfter (route : Route) (end : EndId) (link : ℕ) (actions : List Action) (marks : List Mark) (s : State) (f : IsFront link marks actions) : Type 0 where
  pub units : List BagUnit
  pub is : (perform_all end actions s).state.bag ≡ s.bag ++ (front_units route end link f.front ++ units)

pub front_bag : (route : Route) (end : EndId) (link : ℕ) (actions : List Action) (marks : List Mark) (s : State) (f : IsFront link marks actions) → slice_get s.links link ≡ Some route →
    is_own (kind_of route) ≡ true → MoreAfter route end link actions marks s f
front_bag route end link actions marks s f made own =
    let t : State = (perform_all end f.front s).state in
    let first : List BagUnit = front_units route end link f.front in
    let later : IsMore t.links t.bag (perform_all end f.rest t).state.links (perform_all end f.rest t).state.bag =
    actions_stay (MoreOf t.links t.bag) (goes_on t.links t.bag) end f.rest t (no_more t.links t.bag) in
    record {
      units = later.units;
      is = ap (λ (all : List Action). (perform_all end all s).state.bag) f.is
          ∙ ap (λ (u : State). u.bag) (all_append end f.front f.rest s)
          ∙ later.is
          ∙ ap (λ (bag : List BagUnit). bag ++ later.units) (front_goes route end link f.front s made own f.here)
          ∙ append_assoc s.bag first later.units;
    }

new_by : (own : Bool) (route : Route) (end : EndId) (link : ℕ) (back : Bool) (actions : List Action) (marks : List Mark) (s : State) (units : List BagUnit) (place : ℕ) (unit : BagUnit) (mark : Mark) →
    is_own (kind_of route) ≡ own → slice_get s.links link ≡ Some route → is_accepted_by end route ≡ back → IsFront link marks actions →
    (perform_all end actions s).state.bag ≡ s.bag ++ units → AllByRecursion (IsOnLink s.links) units →
    slice_get units place ≡ Some unit → slice_get (marks_of link back units marks) place ≡ Some mark →
    (mark ≡ Plain) ⊎ IsNewUnit link back actions marks (numbers_on link back s.bag (perform_all end actions s).state.bag) (length s.bag + place) unit mark
new_by false route end link back actions marks s units place unit mark between made way f is on there marked =
    inl (strangers_plain s.links route link back units marks made between on place mark marked)
new_by true route end link back actions marks s units place unit mark between made way f is on there marked =
    let first : List BagUnit = front_units route end link f.front in
    let more : MoreAfter route end link actions marks s f = front_bag route end link actions marks s f made between in
    let same : units ≡ first ++ more.units = same_units s.bag units (first ++ more.units) (perform_all end actions s).state.bag is more.is in
    elim (front_marked route end link back f.front more.units marks (length s.bag) place unit mark way f.here f.size
    (ap (λ (all : List BagUnit). slice_get all place) (sym same) ∙ there)
    (ap (λ (all : List BagUnit). slice_get (marks_of link back all marks) place) (sym same) ∙ marked)) [
      | inl plain ↦ inl plain
      | inr new ↦ inr (marked_new link back actions marks s.bag (perform_all end actions s).state.bag (first ++ more.units) f place unit mark more.is new)
    ]

-- of the units that go into the bag where an end does these actions, each is made for no channel, or is one that the
-- end sends on that link for its mark
pub new_or_plain : (route : Route) (end : EndId) (link : ℕ) (back : Bool) (actions : List Action) (marks : List Mark) (s : State) (units : List BagUnit) (place : ℕ) (unit : BagUnit) (mark : Mark) →
    slice_get s.links link ≡ Some route → is_accepted_by end route ≡ back → IsFront link marks actions →
    (perform_all end actions s).state.bag ≡ s.bag ++ units → AllByRecursion (IsOnLink s.links) units →
    slice_get units place ≡ Some unit → slice_get (marks_of link back units marks) place ≡ Some mark →
    (mark ≡ Plain) ⊎ IsNewUnit link back actions marks (numbers_on link back s.bag (perform_all end actions s).state.bag) (length s.bag + place) unit mark
new_or_plain route end link back actions marks s units place unit mark made way f is on there marked =
    new_by (is_own (kind_of route)) route end link back actions marks s units place unit mark refl made way f is on there marked
