-- A logon of any client, from rest to rest.
-- Of `logons_rest`, and `claims_hold_of_runs` of domain_world.
use Rattle.std.proofs.Common.{◌≡◌, ℕ, suc, ◌+◌, ◌-◌, ◌<◌, ◌≤◌, Bool, true, false, refl, ap, subst, List, [], ◌∷◌, length, Option, None, Some, arith, inl, inr, slice_get, if◌then◌else◌}
use Rattle.std.specs.Prelude.{map, nat_lt}
use Rattle.std.proofs.lemmas.Bool.{ltb-false, ltb-true}
use Rattle.account_table.specs.AccountTable.{AccountTable}
use Rattle.logon_client.specs.declared.plan.ClientPlan.{ClientPlan}
use Rattle.member_server.specs.SealStep.{sealing_member}
use Rattle.member_server.specs.declared.plan.MemberPlan.{MemberPlan}
use Rattle.world_moves.specs.declared.links.EndId.{EndId}
use Rattle.world_moves.specs.declared.links.EndId.TheVariants.{Client, Controller, Member, Station}
use Rattle.world_moves.specs.declared.plan.Plan.{Plan}
use Rattle.world_moves.specs.Ends.{EndStates}
use Rattle.world_moves.specs.Moving.{end_of_peer, route_to, start}
use Rattle.world_moves.specs.World.{first_controllers, first_ends}
use Rattle.logon_runs.specs.AnyAnswer.AnyLogons.{HasServers, LogonRests, LogonsRest}
use Rattle.logon_runs.specs.FirstLogon.ExampleLogon.{ann}
use Rattle.logon_runs.specs.Rests.{moved_by}
use Rattle.logon_runs.specs.AnyAnswer.AnyStarts.{IsReachedOrNot}
use Rattle.logon_runs.proofs.AnyAnswer.AnyRunLaws.{reached_rests}
use Rattle.logon_runs.proofs.AnyAnswer.RestAgainLaws.{HasItem, item_at}
use Rattle.logon_runs.proofs.AnyAnswer.UnreachedLaws.{unreached_rests}

-- ---- an end that an address reaches is there

-- the end is one of as many controllers, members and clients as are said
IsWithin : (controllers members clients : ℕ) → Option EndId → Type 0
IsWithin controllers members clients None = Unit {0}
IsWithin controllers members clients (Some (Controller at)) = at < controllers
IsWithin controllers members clients (Some (Member at)) = at < members
IsWithin controllers members clients (Some (Client at)) = at < clients
IsWithin controllers members clients (Some (Station at)) = Unit {0}

within_by : (low mid high last : Bool) (number controllers members clients : ℕ) → nat_lt number controllers ≡ low → nat_lt number (controllers + members) ≡ mid →
    nat_lt number (controllers + members + clients) ≡ high → IsWithin controllers members clients
    (if low then Some (Controller number) else if mid then Some (Member (number - controllers)) else if high then Some (Client (number - (controllers + members)))
    else if last then Some (Station (number - (controllers + members + clients))) else None)
unfolding IsWithin
within_by true mid high last number controllers members clients is_low is_mid is_high = ltb-true number controllers is_low
within_by false true high last number controllers members clients is_low is_mid is_high =
    omega (arith, ltb-false number controllers is_low, ltb-true number (controllers + members) is_mid)
within_by false false true last number controllers members clients is_low is_mid is_high =
    omega (arith, ltb-false number (controllers + members) is_mid, ltb-true number (controllers + members + clients) is_high)
within_by false false false true number controllers members clients is_low is_mid is_high = tt
within_by false false false false number controllers members clients is_low is_mid is_high = tt

within_ends : (peer : List ℕ) (ends : EndStates) → IsWithin (length ends.controllers) (length ends.members) (length ends.clients) (end_of_peer peer ends)
unfolding IsWithin
within_ends [] ends = tt
within_ends (number ∷ []) ends =
    within_by (nat_lt number (length ends.controllers)) (nat_lt number (length ends.controllers + length ends.members))
    (nat_lt number (length ends.controllers + length ends.members + length ends.clients))
    (nat_lt number (length ends.controllers + length ends.members + length ends.clients + length ends.stations)) number (length ends.controllers) (length ends.members) (length ends.clients) refl refl refl
within_ends (number ∷ other ∷ more) ends = tt

pub member_within : (peer : List ℕ) (ends : EndStates) (at : ℕ) → end_of_peer peer ends ≡ Some (Member at) → at < length ends.members
unfolding IsWithin
member_within peer ends at is = subst (IsWithin (length ends.controllers) (length ends.members) (length ends.clients)) is (within_ends peer ends)

pub controller_within : (peer : List ℕ) (ends : EndStates) (at : ℕ) → end_of_peer peer ends ≡ Some (Controller at) → at < length ends.controllers
unfolding IsWithin
controller_within peer ends at is = subst (IsWithin (length ends.controllers) (length ends.members) (length ends.clients)) is (within_ends peer ends)

pub many_controllers : (hands_on seals : Bool) (tables : List AccountTable) (names : List (List ℕ)) → length (first_controllers hands_on seals tables names) ≤ length tables
many_controllers hands_on seals [] names = omega arith
many_controllers hands_on seals (table ∷ tables) [] = omega arith
many_controllers hands_on seals (table ∷ tables) (name ∷ names) = omega (arith, many_controllers hands_on seals tables names)

pub many_members : (members : List MemberPlan) → length (map sealing_member members) ≡ length members
many_members [] = refl
many_members (member ∷ members) = ap suc (many_members members)

-- ---- whom the client's dial reaches, and whom its member's

-- a goal that follows where a member is reached, and a controller by it or nobody, and where no member is
module _ (plan : Plan) (client : ℕ) (task : ClientPlan) (servers : HasServers plan) (Goal : Type 0)
    (reached : (member controller : ℕ) (work : MemberPlan) (table : AccountTable) → slice_get plan.members member ≡ Some work → slice_get plan.tables controller ≡ Some table →
    end_of_peer task.server (first_ends plan) ≡ Some (Member member) → IsReachedOrNot plan member work controller → Goal)
    (unreached : route_to (Client client) (end_of_peer task.server (first_ends plan)) ≡ None → Goal) where
  -- nobody is reached by the member's dial
  by_any : (member : ℕ) (work : MemberPlan) → slice_get plan.members member ≡ Some work → end_of_peer task.server (first_ends plan) ≡ Some (Member member) →
      route_to (Member member) (end_of_peer work.controller (first_ends plan)) ≡ None → Goal
  by_any member work is_work to_member nobody = reached member servers.controller work servers.table is_work servers.is_table to_member (inr nobody)

  by_controller : (member : ℕ) (work : MemberPlan) (found : Option EndId) → slice_get plan.members member ≡ Some work → end_of_peer task.server (first_ends plan) ≡ Some (Member member) →
      end_of_peer work.controller (first_ends plan) ≡ found → Goal
  by_controller member work (Some (Controller at)) is_work to_member is_end =
      let table : HasItem plan.tables at = item_at plan.tables at (omega (arith, controller_within work.controller (first_ends plan) at is_end, many_controllers plan.hands_on plan.seals plan.tables plan.controllers)) in
      reached member at work table.item is_work table.is to_member (inl is_end)
  by_controller member work (Some (Member at)) is_work to_member is_end = by_any member work is_work to_member (ap (λ (end : Option EndId). route_to (Member member) end) is_end)
  by_controller member work (Some (Client at)) is_work to_member is_end = by_any member work is_work to_member (ap (λ (end : Option EndId). route_to (Member member) end) is_end)
  by_controller member work (Some (Station at)) is_work to_member is_end = by_any member work is_work to_member (ap (λ (end : Option EndId). route_to (Member member) end) is_end)
  by_controller member work None is_work to_member is_end = by_any member work is_work to_member (ap (λ (end : Option EndId). route_to (Member member) end) is_end)

  by_member : (found : Option EndId) → end_of_peer task.server (first_ends plan) ≡ found → Goal
  by_member (Some (Member at)) is_end =
      let work : HasItem plan.members at = item_at plan.members at (omega (arith, member_within task.server (first_ends plan) at is_end, many_members plan.members)) in
      by_controller at work.item (end_of_peer work.item.controller (first_ends plan)) work.is is_end refl
  by_member (Some (Controller at)) is_end = unreached (ap (λ (end : Option EndId). route_to (Client client) end) is_end)
  by_member (Some (Client at)) is_end = unreached (ap (λ (end : Option EndId). route_to (Client client) end) is_end)
  by_member (Some (Station at)) is_end = unreached (ap (λ (end : Option EndId). route_to (Client client) end) is_end)
  by_member None is_end = unreached (ap (λ (end : Option EndId). route_to (Client client) end) is_end)

  pub by_reach : Goal
  by_reach = by_member (end_of_peer task.server (first_ends plan)) refl

pub logons_rest : LogonsRest
logons_rest = record {
  rests = λ plan s rest client task number is forms servers is_task same chosen moves steps below enough dials units.
      by_reach plan client task servers (LogonRests plan s client task (length moves) (start number s).state (moved_by moves (start number s).state))
      (λ member controller work table is_work is_table to_member reaches.
      reached_rests plan s rest client member controller
      (record { task = task; is_task = is_task; member_plan = work; is_member_plan = is_work; table = table; is_table = is_table }) ann number is forms same chosen to_member reaches moves steps below enough
      dials units)
      (λ nobody.
      unreached_rests plan s rest client servers.member servers.controller
      (record { task = task; is_task = is_task; member_plan = servers.member_plan; is_member_plan = servers.is_member_plan; table = servers.table; is_table = servers.is_table }) ann number same chosen
      nobody moves steps dials);
}
