-- The ends of a world, none of which has stopped.
use Rattle.std.specs.Prelude.{◌≡◌, ◌+◌, ◌<◌, ◌^◌, Bool, false, List, length, All, IsSome}
use Rattle.domain_controller.specs.State.{State as ControllerState}
use Rattle.domain_controller.specs.Step.{is_stopped as controller_is_stopped}
use Rattle.interactive_station.specs.State.{StationState}
use Rattle.logon_client.specs.State.{State as ClientState}
use Rattle.member_server.specs.State.{State as MemberState}
use Rattle.member_server.specs.Machine.{is_stopped as member_is_stopped}

pub record AreRunning (controllers : List ControllerState) (members : List MemberState) (clients : List ClientState)
    (stations : List StationState) : Type 0 where
  pub each_controller : All (λ controller. controller_is_stopped controller ≡ false) controllers
  pub each_member : All (λ member. member_is_stopped member ≡ false) members
  pub each_client : All (λ client. IsSome client.running) clients
  pub each_station : All (λ station. IsSome station.running) stations
  -- the ends can be numbered
  pub few : length controllers + length members + length clients + length stations < 2 ^ 64

-- the ends can be numbered, and none of them has stopped while no step was given up
pub record CanStep (gave_up : Bool) (controllers : List ControllerState) (members : List MemberState) (clients : List ClientState)
    (stations : List StationState) : Type 0 where
  pub few : length controllers + length members + length clients + length stations < 2 ^ 64
  pub running : gave_up ≡ false → AreRunning controllers members clients stations
