-- Ends that were just made have not stopped.
-- It serves `first_ends`.
use Rattle.std.proofs.Common.{◌≡◌, ℕ, ◌+◌, ◌<◌, ◌^◌, Bool, false, List, [], ◌∷◌, map, length, All, IsSome, refl, rules}
use Rattle.std.proofs.lemmas.List.Elements.{All-nil, All-cons, All-map}
use Rattle.account_table.specs.AccountTable.{AccountTable}
use Rattle.domain_controller.specs.State.{State as ControllerState}
use Rattle.domain_controller.specs.Step.{is_stopped as controller_is_stopped}
use Rattle.interactive_station.specs.Machine.{fresh_station}
use Rattle.interactive_station.specs.State.{StationState}
use Rattle.interactive_station.specs.declared.plan.StationPlan.{StationPlan}
use Rattle.logon_client.specs.State.{State as ClientState}
use Rattle.logon_client.specs.Machine.{fresh_client}
use Rattle.logon_client.specs.declared.plan.ClientPlan.{ClientPlan}
use Rattle.member_server.specs.State.{State as MemberState}
use Rattle.member_server.specs.Machine.{is_stopped as member_is_stopped}
use Rattle.member_server.specs.declared.plan.MemberPlan.{MemberPlan}
use Rattle.member_server.specs.SealStep.{sealing_member}
use Rattle.world_moves.specs.Ends.{fresh_controller}
use Rattle.world_moves.specs.Running.{AreRunning}
use Rattle.world_moves.specs.World.{first_controllers}
use Rattle.world_moves.proofs.EndLaws.{fresh_runs}

abbrev Runs : ControllerState → Type 0
Runs c = controller_is_stopped c ≡ false

controllers_run : (hands_on seals : Bool) (tables : List AccountTable) (names : List (List ℕ)) → All Runs (first_controllers hands_on seals tables names)
controllers_run hands_on seals [] names = All-nil Runs
controllers_run hands_on seals (table ∷ tables) [] = All-nil Runs
controllers_run hands_on seals (table ∷ tables) (name ∷ names) =
    All-cons Runs (fresh_controller hands_on seals table name) (first_controllers hands_on seals tables names) (fresh_runs hands_on seals table name) (controllers_run hands_on seals tables names)

members_run : (plans : List MemberPlan) → All (λ (m : MemberState). member_is_stopped m ≡ false) (map sealing_member plans)
members_run plans = All-map (λ (m : MemberState). member_is_stopped m ≡ false) sealing_member plans (λ k d lt. refl)

clients_run : (plans : List ClientPlan) → All (λ (c : ClientState). IsSome c.running) (map fresh_client plans)
clients_run plans = All-map (λ (c : ClientState). IsSome c.running) fresh_client plans (λ k d lt. search rules)

stations_run : (plans : List StationPlan) → All (λ (t : StationState). IsSome t.running) (map fresh_station plans)
stations_run plans = All-map (λ (t : StationState). IsSome t.running) fresh_station plans (λ k d lt. search rules)

pub fresh_running : (hands_on seals : Bool) (tables : List AccountTable) (names : List (List ℕ)) (members : List MemberPlan) (clients : List ClientPlan) (stations : List StationPlan) →
    length (first_controllers hands_on seals tables names) + length (map sealing_member members) + length (map fresh_client clients) + length (map fresh_station stations) < 2 ^ 64 →
    AreRunning (first_controllers hands_on seals tables names) (map sealing_member members) (map fresh_client clients) (map fresh_station stations)
fresh_running hands_on seals tables names members clients stations few = record {
  each_controller = controllers_run hands_on seals tables names;
  each_member = members_run members;
  each_client = clients_run clients;
  each_station = stations_run stations;
  few = few;
}
