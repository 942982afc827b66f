-- What is seen of a world at each move: its ends, its links and what waits.
pub mod AskSceneLaws
pub mod HopSceneLaws
pub mod LinkSceneLaws
pub mod OtherLaws
pub mod SceneLaws
pub mod SetSceneLaws
pub mod StartLaws
pub mod StayingLaws
pub mod StepOnLaws
pub mod TrafficLaws
pub mod TurnSceneLaws
pub mod TurningSceneLaws
pub mod TwoLinkLaws
pub mod WaitingLaws
