-- A member and its controller that are never apart where nobody can be asked are so in a run in which no call comes for
-- a trusted domain. It serves `claims_hold_of_runs`.
use Rattle.std.proofs.Common.{◌≡◌, ℕ, List, option_map, Option, Some, None, slice_get, refl, sym, ap, subst, ◌∙◌}
use Rattle.wire_base.proofs.ListLaws.{no_some, some_is}
use Rattle.account_table.specs.AccountTable.{AccountTable}
use Rattle.account_table.specs.LookUps.{account_in, machine_name}
use Rattle.domain_controller.specs.State.{State as ControllerState}
use Rattle.step_notes.specs.Records.{OfMember, OfTrust, RequesterId}
use Rattle.world_moves.specs.declared.plan.Plan.{Plan}
use Rattle.world_moves.specs.Unforwarded.{alone_plan, erased_controller}
use Rattle.domain_world.specs.Claims.NeverApart.{BeginsAlike, IsNeverApart, MembersAreNeverApart, computer_of}
use Rattle.domain_world.specs.Past.{Past}
use Rattle.domain_world.proofs.Unforwarded.ErasedLaws.{get_mapped}
use Rattle.domain_world.proofs.Unforwarded.RunSeenLaws.{peer_seen}
use Rattle.domain_world.proofs.Unforwarded.SeenLaws.{seen}

computer_same : (plan : Plan) (who : RequesterId) → computer_of (alone_plan plan) who ≡ computer_of plan who
computer_same plan (OfMember member) = refl
computer_same plan (OfTrust controller trust) = refl

abbrev begins_seen : (plan : Plan) (member : ℕ) → BeginsAlike plan member → BeginsAlike (alone_plan plan) member
begins_seen plan member b = record {
  own = b.own;
  is_plan = b.is_plan;
  secret = b.secret;
  one = b.one;
  controller = b.controller;
  reaches = peer_seen b.own.controller plan ∙ b.reaches;
  table = b.table;
  is_table = b.is_table;
  account = b.account;
  found = b.found;
  hash = b.hash;
  only = λ who name other named. b.only who name other (sym (computer_same plan who) ∙ named);
}

-- the controller that is seen there, as it is
record IsThere (controllers : List ControllerState) (at : ℕ) (table : AccountTable) : Type 0 where
  state : ControllerState
  at_place : slice_get controllers at ≡ Some state
  same : table ≡ state.table

is_there : (controllers : List ControllerState) (at : ℕ) (found : Option ControllerState) (seen_there : ControllerState) → slice_get controllers at ≡ found →
    option_map erased_controller found ≡ Some seen_there → IsThere controllers at seen_there.table
is_there controllers at None seen_there is none = absurd (no_some seen_there none)
is_there controllers at (Some c) seen_there is some =
    record { state = c; at_place = is; same = ap (λ (one : ControllerState). one.table) (sym (some_is (erased_controller c) seen_there some)) }

never_apart_by : (p : Past) (member : ℕ) (begins : BeginsAlike p.plan member) → IsNeverApart (seen p) member (begins_seen p.plan member begins) → IsNeverApart p member begins
never_apart_by p member begins n =
    let controllers : List ControllerState = p.world.state.ends.controllers in
    let here : IsThere controllers begins.controller n.state.table =
    is_there controllers begins.controller (slice_get controllers begins.controller) n.state refl (sym (get_mapped erased_controller controllers begins.controller) ∙ n.at) in
    record {
      state = here.state;
      at = here.at_place;
      account = n.account;
      found = subst (λ (table : AccountTable). account_in table.accounts (machine_name begins.own.computer) ≡ Some n.account) here.same n.found;
      held = n.held;
      kept = n.kept;
    }

pub never_apart_so : (p : Past) → MembersAreNeverApart (seen p) → MembersAreNeverApart p
never_apart_so p claim = λ own member begins. never_apart_by p member begins (claim own member (begins_seen p.plan member begins))
