-- A scene, and what is seen of it at each move, by what an end hears and does.
pub mod AskScenes
pub mod HopScenes
pub mod LinkScenes
pub mod Others
pub mod Scene
pub mod SetScenes
pub mod Starts
pub mod Staying
pub mod Traffic
pub mod TurnScenes
pub mod Turnings
pub mod TwoLinks
pub mod WaitingUnits
