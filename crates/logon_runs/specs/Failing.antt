-- Logons that fail, and those that a controller refuses.
pub mod FailingSteps
pub mod Failings
pub mod TurnedAway
