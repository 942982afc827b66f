-- What is written down of one move at which a unit comes on its own link in one piece.
-- It serves `Proved.complete`.
use Rattle.std.proofs.Common.{◌≡◌, ℕ, ◌≤◌, ◌<◌, List, length, Option, Some, ap, ◌∙◌, slice_get}
use Rattle.wire_base.specs.Maps.{lookup, same_number}
use Rattle.outside.specs.declared.event.Event.TheVariants as event
use Rattle.step_notes.specs.Records.{Book, InUnit}
use Rattle.world_moves.specs.declared.bag.BagUnit.{BagUnit}
use Rattle.world_moves.specs.declared.links.EndId.{EndId}
use Rattle.world_moves.specs.declared.links.OpenLink.{OpenLink}
use Rattle.world_moves.specs.declared.moves.Move.TheVariants as move
use Rattle.world_moves.specs.declared.state.State.{State}
use Rattle.world_moves.specs.Acting.{hear_and_act, hear_and_act_if}
use Rattle.world_moves.specs.Bag.{first_waiting, settle_at, settled}
use Rattle.world_moves.specs.Links.{hearer_of, hearer_on}
use Rattle.world_moves.specs.Moving.{onward, settle}
use Rattle.logon_runs.specs.Scenes.Scene.{HasFirst, Scene, Shows}
use Rattle.logon_runs.specs.Scenes.WaitingUnits.{IsOldest, waiting}
use Rattle.logon_runs.proofs.Scenes.WaitingLaws.{comes_by, one_piece, set_there, settled_by, waiting_comes}
use Rattle.domain_world.specs.Past.{Delivery, note_at, note_coming, note_onward, note_own, note_pieces, note_unit}

abbrev pub coming : ℕ → ℕ → BagUnit → Delivery
coming k number unit = record { at = k; source = InUnit number; link = unit.link; back = unit.back }

abbrev pub state_then : EndId → BagUnit → ℕ → State → State
state_then end unit number s = (hear_and_act end (event.Bytes unit.link unit.bytes) (settle number s)).state

-- the oldest unit comes at that end, and this is written down
pub record Came (s : State) (unit : BagUnit) (later : List BagUnit) (end : EndId) : Type 0 where
  pub number : ℕ
  pub first : first_waiting s.bag ≡ Some number
  pub there : slice_get s.bag number ≡ Some unit
  pub behind : waiting (settle_at number s.bag) ≡ later
  pub state : (onward s).state ≡ state_then end unit number s
  pub noted : (k : ℕ) (b : Book) → note_coming move.Onward k s b ≡ note_at (Some end) (coming k number unit) unit.bytes (settle number s) (state_then end unit number s) b

noted_by : (s : State) (unit : BagUnit) (end : EndId) (there : OpenLink) (number k : ℕ) (b : Book) → 0 < length unit.bytes → length unit.bytes ≤ 65536 → first_waiting s.bag ≡ Some number →
    slice_get s.bag number ≡ Some unit → lookup same_number unit.link s.open_links ≡ Some there → hearer_on unit.back there ≡ Some end →
    note_coming move.Onward k s b ≡ note_at (Some end) (coming k number unit) unit.bytes (settle number s) (state_then end unit number s) b
noted_by s unit end there number k b some short first found opened hearer =
    let s1 : State = settle number s in
    let w : Delivery = coming k number unit in
    ap (λ (f : Option ℕ). note_onward f k s b) first
    ∙ ap (λ (u : Option BagUnit). note_own u number k s b) found
    ∙ ap (λ (u : Option BagUnit). note_unit u number unit.link k s1 b)
    (ap (λ (bag : List BagUnit). slice_get bag number) (settled_by s.bag number unit found) ∙ set_there s.bag number unit (settled unit) found)
    ∙ ap (λ (pieces : List (List ℕ)). note_pieces w pieces s1 b) (one_piece unit.bytes some short)
    ∙ ap (λ (o : Option OpenLink). note_at (hearer_of unit.back o) w unit.bytes s1 (hear_and_act_if (hearer_of unit.back o) (event.Bytes unit.link unit.bytes) s1).state b) opened
    ∙ ap (λ (h : Option EndId). note_at h w unit.bytes s1 (hear_and_act_if h (event.Bytes unit.link unit.bytes) s1).state b) hearer

pub comes_so : (s : State) (v : Scene) (unit : BagUnit) (later : List BagUnit) (end : EndId) → Shows s v → HasFirst v unit later end → Came s unit later end
comes_so s v unit later end shows first =
    let oldest : IsOldest s.bag unit later = waiting_comes.oldest s.bag unit later (shows.units ∙ first.units) in
    let opened : lookup same_number unit.link s.open_links ≡ Some first.there = ap (λ o. lookup same_number unit.link o) shows.opened ∙ first.found in
    record {
      number = oldest.number;
      first = oldest.first;
      there = oldest.there;
      behind = oldest.behind;
      state = ap (λ (a : _). a.state) (comes_by s unit end first.there oldest.number first.some first.short oldest.first oldest.there opened first.hearer);
      noted = λ k b. noted_by s unit end first.there oldest.number k b first.some first.short oldest.first oldest.there opened first.hearer;
    }
