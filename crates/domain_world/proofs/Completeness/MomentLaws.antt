-- The moment is one of 64 bits in each state, and a client that starts draws no challenge and sends no unit.
-- It serves `Proved.complete`.
use Rattle.std.proofs.Common.{◌≡◌, ℕ, ◌+◌, ◌-◌, ◌≤◌, ◌<◌, ◌^◌, Bool, true, false, refl, ap, length, Option, Some, None, slice_get, arith, if◌then◌else◌, append-nil, ◌∙◌}
use Rattle.std.specs.Prelude.{min, nat_le}
use Rattle.logon_client.specs.Machine.{Beginning}
use Rattle.logon_client.specs.declared.plan.ClientPlan.{ClientPlan}
use Rattle.world_moves.specs.declared.links.EndId.TheVariants.{Client}
use Rattle.world_moves.specs.declared.moves.Move.{Move}
use Rattle.world_moves.specs.declared.state.State.{State}
use Rattle.world_moves.specs.Acting.{done, forget}
use Rattle.world_moves.specs.Choosing.{chosen_place}
use Rattle.world_moves.specs.Ends.{starters_in}
use Rattle.world_moves.specs.Moving.{act, start, start_at, start_by, start_station_by}
use Rattle.world_moves.proofs.StateFrameLaws.{HoldsMoving, StateFact, move_so}
use Rattle.logon_steps.proofs.ClientStepLaws.{clients_step}
use Rattle.logon_runs.proofs.Scenes.StartLaws.{begun_so}
use Rattle.interactive_station.specs.declared.plan.StationPlan.{StationPlan}

-- ---- the moment stays below 2^64

abbrev StaysBelow : StateFact
StaysBelow s after = s.moment < 2 ^ 64 → after.moment < 2 ^ 64

least_below : (now most : ℕ) → most ≤ 2 ^ 63 → min now most < 2 ^ 64
least_below now most few = omega arith

later_below : (early : Bool) (more now : ℕ) → now < 2 ^ 64 → (if early then min (now + more) (2 ^ 63) else now) < 2 ^ 64
later_below true more now below = least_below (now + more) (2 ^ 63) (omega arith)
later_below false more now below = below

-- time passes at one kind of move alone
stays_below : HoldsMoving StaysBelow
stays_below = record {
  acting = record {
    none = λ s below. below;
    both = λ s between after first later below. later (first below);
    hears = λ end what s below. below;
    acts = λ end what s below. below;
    shuts = λ link s below. below;
  };
  begins = λ client plan s below. below;
  starts = λ station plan s below. below;
  opens = λ route s below. below;
  answers = λ link there s is below. below;
  forgets = λ end s below. below;
  settles = λ number s below. below;
  dials = λ s below. below;
  renews = λ end s below. below;
  changes = λ at secret s below. below;
  ticks = λ more s below. later_below (nat_le s.moment (2 ^ 63)) more s.moment below;
}

pub moment_below : (s : State) (what : Move) → s.moment < 2 ^ 64 → (act s what).state.moment < 2 ^ 64
moment_below s what below = move_so StaysBelow stays_below what s below

-- ---- challenges

station_by_chances : (plan : Option StationPlan) (at : ℕ) (s : State) → (start_station_by plan at s).state.chances ≡ s.chances
station_by_chances None at s = refl
station_by_chances (Some plan) at s = refl

start_by_chances : (plan : Option ClientPlan) (at : ℕ) (s : State) → (start_by plan at s).state.chances ≡ s.chances
start_by_chances None at s = station_by_chances (slice_get s.station_plans (at - length s.client_plans)) (at - length s.client_plans) s
start_by_chances (Some plan) at s = ap (λ (beginning : Beginning). (done (Client at) (begun_so at beginning (forget (Client at) s))).state.chances) (clients_step.begins plan)

start_at_chances : (at : Option ℕ) (s : State) → (start_at at s).state.chances ≡ s.chances
start_at_chances None s = refl
start_at_chances (Some at) s = start_by_chances (slice_get s.client_plans at) at s

pub start_chances : (number : ℕ) (s : State) → (start number s).state.chances ≡ s.chances
start_chances number s = start_at_chances (chosen_place number (starters_in s.ends)) s

-- ---- units

station_by_bag : (plan : Option StationPlan) (at : ℕ) (s : State) → (start_station_by plan at s).state.bag ≡ s.bag
station_by_bag None at s = refl
station_by_bag (Some plan) at s = append-nil s.bag

start_by_bag : (plan : Option ClientPlan) (at : ℕ) (s : State) → (start_by plan at s).state.bag ≡ s.bag
start_by_bag None at s = station_by_bag (slice_get s.station_plans (at - length s.client_plans)) (at - length s.client_plans) s
start_by_bag (Some plan) at s = ap (λ (beginning : Beginning). (done (Client at) (begun_so at beginning (forget (Client at) s))).state.bag) (clients_step.begins plan)
    ∙ append-nil s.bag

start_at_bag : (at : Option ℕ) (s : State) → (start_at at s).state.bag ≡ s.bag
start_at_bag None s = refl
start_at_bag (Some at) s = start_by_bag (slice_get s.client_plans at) at s

pub start_bag : (number : ℕ) (s : State) → (start number s).state.bag ≡ s.bag
start_bag number s = start_at_bag (chosen_place number (starters_in s.ends)) s
