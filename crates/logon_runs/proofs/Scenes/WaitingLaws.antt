-- What waits in a world, and what comes of it.
-- Of `what_waits_comes`.
use Rattle.std.proofs.Common.{◌≡◌, ℕ, suc, zero, ◌≤◌, ◌<◌, Bool, true, false, List, [], ◌∷◌, ◌++◌, length, take, Option, Some, None, refl, sym, ap, ap₂, ◌∙◌, arith, append-nil, inl, inr, if◌then◌else◌, slice_get, slice_set}
use Rattle.std.specs.Prelude.{not}
use Rattle.std.specs.Option.{option_map}
use Rattle.std.proofs.lemmas.Bool.{cases_Bool}
use Rattle.std.proofs.Math.ListN.{drop_of_length-le}
use Rattle.std.proofs.lemmas.List.{take-append-drop}
use Rattle.wire_base.specs.Maps.{lookup, same_number}
use Rattle.outside.specs.declared.action.Action.{Action}
use Rattle.outside.specs.declared.event.Event.{Event}
use Rattle.outside.specs.declared.event.Event.TheVariants as event
use Rattle.outside.specs.Machine.{Stepped, whole_step}
use Rattle.domain_controller.specs.State.{State as ControllerState}
use Rattle.domain_controller.specs.TrustStep.{trust_step_of}
use Rattle.domain_controller.proofs.PlainLaws.{plain_controllers_stay}
use Rattle.logon_client.specs.State.{State as ClientState}
use Rattle.member_server.specs.Machine.{step_of as member_step_of}
use Rattle.member_server.specs.SealStep.{SealsNothing, sealing_in}
use Rattle.member_server.specs.State.{State as MemberState}
use Rattle.member_server.proofs.SealLaws.{plain_members_stay}
use Rattle.world_moves.specs.declared.bag.BagUnit.{BagUnit}
use Rattle.world_moves.specs.declared.links.EndId.{EndId}
use Rattle.world_moves.specs.declared.links.OpenLink.{OpenLink}
use Rattle.world_moves.specs.declared.state.State.{State}
use Rattle.world_moves.specs.Acting.{Acted, hear_and_act, hear_and_act_if, heard_by, nothing_done, pieces_come, then_act}
use Rattle.world_moves.specs.Bag.{first_waiting, is_waiting, pieces_in, pieces_of, settle_at, settle_by, settled}
use Rattle.world_moves.specs.Ends.{client_done, client_step, controller_done, controller_step, member_done, member_step}
use Rattle.world_moves.specs.Links.{hearer_of, hearer_on}
use Rattle.world_moves.specs.Moving.{come_by, come_on_own, onward, onward_by, settle}
use Rattle.world_moves.proofs.QuietLaws.{sent_goes}
use Rattle.logon_runs.specs.Scenes.WaitingUnits.{Comes, IsOldest, WaitingComes, waiting}

-- ---- the bag

pub later_place : (unit : BagUnit) (bag : List BagUnit) → is_waiting unit ≡ false → first_waiting (unit ∷ bag) ≡ option_map suc (first_waiting bag)
later_place unit bag not_waiting = ap (λ (w : Bool). if w then Some 0 else option_map suc (first_waiting bag)) not_waiting

pub first_place : (unit : BagUnit) (bag : List BagUnit) → is_waiting unit ≡ true → first_waiting (unit ∷ bag) ≡ Some 0
first_place unit bag waits = ap (λ (w : Bool). if w then Some 0 else option_map suc (first_waiting bag)) waits

pub waits_later : (unit : BagUnit) (bag : List BagUnit) → is_waiting unit ≡ false → waiting (unit ∷ bag) ≡ waiting bag
waits_later unit bag not_waiting = rw not_waiting refl

pub waits_first : (unit : BagUnit) (bag : List BagUnit) → is_waiting unit ≡ true → waiting (unit ∷ bag) ≡ unit ∷ waiting bag
waits_first unit bag waits = rw waits refl

none_waits : (bag : List BagUnit) → waiting bag ≡ [] → first_waiting bag ≡ None
none_waits [] is = refl
none_waits (unit ∷ bag) is =
    elim (cases_Bool (is_waiting unit)) [
      | inl waits ↦ absurd (let never : unit ∷ waiting bag ≡ [] = sym (waits_first unit bag waits) ∙ is in cc)
      | inr not_waiting ↦ later_place unit bag not_waiting ∙ ap (option_map suc) (none_waits bag (sym (waits_later unit bag not_waiting) ∙ is))
    ]

map_none : (place : Option ℕ) → option_map suc place ≡ None → place ≡ None
map_none None is = refl
map_none (Some n) is = absurd cc

nothing_waits : (bag : List BagUnit) → first_waiting bag ≡ None → waiting bag ≡ []
nothing_waits [] is = refl
nothing_waits (unit ∷ bag) is =
    elim (cases_Bool (is_waiting unit)) [
      | inl waits ↦ absurd (let never : Some 0 ≡ None = sym (first_place unit bag waits) ∙ is in cc)
      | inr not_waiting ↦ waits_later unit bag not_waiting ∙ nothing_waits bag (map_none (first_waiting bag) (sym (later_place unit bag not_waiting) ∙ is))
    ]

added_waits : (bag : List BagUnit) (unit : BagUnit) → unit.is_settled ≡ false → waiting (bag ++ unit ∷ []) ≡ waiting bag ++ unit ∷ []
added_waits [] unit opened = waits_first unit [] (ap not opened)
added_waits (first ∷ bag) unit opened =
    elim (cases_Bool (is_waiting first)) [
      | inl waits ↦ waits_first first (bag ++ unit ∷ []) waits ∙ ap (λ (more : List BagUnit). first ∷ more) (added_waits bag unit opened)
          ∙ ap (λ (units : List BagUnit). units ++ unit ∷ []) (sym (waits_first first bag waits))
      | inr not_waiting ↦ waits_later first (bag ++ unit ∷ []) not_waiting ∙ added_waits bag unit opened
          ∙ ap (λ (units : List BagUnit). units ++ unit ∷ []) (sym (waits_later first bag not_waiting))
    ]

-- ---- the oldest

pub settled_by : (bag : List BagUnit) (number : ℕ) (unit : BagUnit) → slice_get bag number ≡ Some unit → settle_at number bag ≡ slice_set bag number (settled unit)
settled_by bag number unit there = ap (λ (found : Option BagUnit). settle_by found number bag) there

pub set_there : (bag : List BagUnit) (number : ℕ) (unit other : BagUnit) → slice_get bag number ≡ Some unit → slice_get (slice_set bag number other) number ≡ Some other
set_there [] number unit other there = absurd cc
set_there (first ∷ bag) zero unit other there = refl
set_there (first ∷ bag) (suc number) unit other there = set_there bag number unit other there

head_of : BagUnit → List BagUnit → BagUnit
head_of d [] = d
head_of d (unit ∷ units) = unit

tail_of : List BagUnit → List BagUnit
tail_of [] = []
tail_of (unit ∷ units) = units

first_oldest : (first : BagUnit) (bag : List BagUnit) (unit : BagUnit) (later : List BagUnit) → is_waiting first ≡ true → first ∷ waiting bag ≡ unit ∷ later →
    IsOldest (first ∷ bag) unit later
unfolding head_of tail_of
first_oldest first bag unit later waits is = record {
  number = 0;
  first = first_place first bag waits;
  there = ap (λ (units : List BagUnit). Some (head_of first units)) is;
  behind = waits_later (settled first) bag refl ∙ ap tail_of is;
}

later_oldest : (first : BagUnit) (bag : List BagUnit) (unit : BagUnit) (later : List BagUnit) → is_waiting first ≡ false → IsOldest bag unit later →
    IsOldest (first ∷ bag) unit later
later_oldest first bag unit later not_waiting oldest = record {
  number = suc oldest.number;
  first = later_place first bag not_waiting ∙ ap (option_map suc) oldest.first;
  there = oldest.there;
  behind = ap waiting (settled_by (first ∷ bag) (suc oldest.number) unit oldest.there)
      ∙ waits_later first (slice_set bag oldest.number (settled unit)) not_waiting
      ∙ sym (ap waiting (settled_by bag oldest.number unit oldest.there)) ∙ oldest.behind;
}

oldest_waits : (bag : List BagUnit) (unit : BagUnit) (later : List BagUnit) → waiting bag ≡ unit ∷ later → IsOldest bag unit later
oldest_waits [] unit later is = absurd cc
oldest_waits (first ∷ bag) unit later is =
    elim (cases_Bool (is_waiting first)) [
      | inl waits ↦ first_oldest first bag unit later waits (sym (waits_first first bag waits) ∙ is)
      | inr not_waiting ↦ later_oldest first bag unit later not_waiting (oldest_waits bag unit later (sym (waits_later first bag not_waiting) ∙ is))
    ]

-- ---- a unit comes in one piece

taken_whole : (bytes : List ℕ) (most : ℕ) → length bytes ≤ most → take most bytes ≡ bytes
taken_whole bytes most short =
    sym (append-nil (take most bytes)) ∙ ap (λ (rest : List ℕ). take most bytes ++ rest) (sym (drop_of_length-le bytes short)) ∙ take-append-drop most bytes

no_pieces : (most : ℕ) → pieces_in most [] ≡ []
no_pieces most = refl

pub one_piece : (bytes : List ℕ) → 0 < length bytes → length bytes ≤ 65536 → pieces_of bytes ≡ bytes ∷ []
unfolding pieces_of
one_piece [] some short = absurd (omega (arith, some))
one_piece (byte ∷ bytes) some short =
    ap₂ (λ (first rest : List ℕ). first ∷ pieces_in (length bytes) rest) (taken_whole (byte ∷ bytes) 65536 short) (drop_of_length-le (byte ∷ bytes) short)
    ∙ ap (λ (pieces : List (List ℕ)). (byte ∷ bytes) ∷ pieces) (no_pieces (length bytes))

-- what it comes to, once it counts as delivered
pub comes_by : (s : State) (unit : BagUnit) (end : EndId) (there : OpenLink) (number : ℕ) → 0 < length unit.bytes → length unit.bytes ≤ 65536 → first_waiting s.bag ≡ Some number →
    slice_get s.bag number ≡ Some unit → lookup same_number unit.link s.open_links ≡ Some there → hearer_on unit.back there ≡ Some end →
    onward s ≡ then_act (hear_and_act end (event.Bytes unit.link unit.bytes) (settle number s)) nothing_done
comes_by s unit end there number some short first found opened hearer =
    ap (λ (f : Option ℕ). onward_by f s) first
    ∙ ap (λ (u : Option BagUnit). come_on_own u number s) found
    ∙ ap (λ (u : Option BagUnit). come_by u unit.link (settle number s))
    (ap (λ (bag : List BagUnit). slice_get bag number) (settled_by s.bag number unit found) ∙ set_there s.bag number unit (settled unit) found)
    ∙ ap (λ (pieces : List (List ℕ)). pieces_come unit.back unit.link pieces (settle number s)) (one_piece unit.bytes some short)
    ∙ ap (λ (o : Option OpenLink). then_act (hear_and_act_if (hearer_of unit.back o) (event.Bytes unit.link unit.bytes) (settle number s)) nothing_done) opened
    ∙ ap (λ (h : Option EndId). then_act (hear_and_act_if h (event.Bytes unit.link unit.bytes) (settle number s)) nothing_done) hearer

oldest_comes : (s : State) (unit : BagUnit) (later : List BagUnit) (there : OpenLink) (end : EndId) → IsOldest s.bag unit later → 0 < length unit.bytes →
    length unit.bytes ≤ 65536 → lookup same_number unit.link s.open_links ≡ Some there → hearer_on unit.back there ≡ Some end → Comes s unit later end
oldest_comes s unit later there end oldest some short opened hearer =
    let is = comes_by s unit end there oldest.number some short oldest.first oldest.there opened hearer in
    record {
      number = oldest.number;
      state = ap Acted.state is;
      given = ap Acted.given is ∙ append-nil (hear_and_act end (event.Bytes unit.link unit.bytes) (settle oldest.number s)).given;
      behind = oldest.behind;
    }

-- a controller that can't seal can't after a step
pub unsealed_after : (c after : ControllerState) (what : Event) (now : ℕ) (left rest : List (List ℕ)) (actions : List Action) → c.trusting.sealing ≡ None →
    trust_step_of c what now left ≡ whole_step left rest actions after → after.trusting.sealing ≡ None
unsealed_after c after what now left rest actions unsealed step =
    sym (ap (λ (stepped : Stepped ControllerState). stepped.state.trusting.sealing) (plain_controllers_stay.step c what now left unsealed ∙ step))
    ∙ plain_controllers_stay.stays c what now left unsealed

-- a member whose channel seals nothing seals nothing after a step
pub plain_after : (m after : MemberState) (what : Event) (now : ℕ) (left rest : List (List ℕ)) (actions : List Action) → SealsNothing m →
    member_step_of m what now left ≡ whole_step left rest actions after → SealsNothing after
plain_after m after what now left rest actions plain step =
    sym (ap (λ (stepped : Stepped MemberState). sealing_in stepped.state) step) ∙ plain_members_stay.stepped m what now left plain

pub waiting_comes : WaitingComes
waiting_comes = record {
  none = none_waits;
  nothing = nothing_waits;
  oldest = oldest_waits;
  added = added_waits;
  comes = λ s unit later there end waits some short opened hearer. oldest_comes s unit later there end (oldest_waits s.bag unit later waits) some short opened hearer;
  idle = λ s none. ap (λ (f : Option ℕ). onward_by f s) (none_waits s.bag none);
  controller = λ s at controller after what left actions found unsealed step.
      ap (λ (c : Option ControllerState). heard_by (controller_step c at what s.moment s.ends s.chances) s) found
      ∙ ap (λ (stepped : Stepped ControllerState). heard_by (controller_done stepped at s.ends s.chances) s)
      (plain_controllers_stay.step controller what s.moment s.chances.left unsealed ∙ step);
  member = λ s at member after what left actions found plain step.
      ap (λ (m : Option MemberState). heard_by (member_step m at what s.moment s.ends s.chances) s) found
      ∙ ap (λ (stepped : Stepped MemberState). heard_by (member_done stepped at s.ends s.chances) s)
      (plain_members_stay.step member what s.moment s.chances.left plain ∙ step);
  client = λ s at client after what left actions found step.
      ap (λ (c : Option ClientState). heard_by (client_step c at what s.moment s.ends s.chances) s) found
      ∙ ap (λ (stepped : Stepped ClientState). heard_by (client_done stepped at s.ends s.chances) s) step;
  sent = λ s end link route bytes found own. ap nothing_done (sent_goes route end link bytes s found own);
}
