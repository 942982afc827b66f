-- Logons that fail, and those that a controller refuses.
pub mod FailingLaws
pub mod FailingStepLaws
pub mod TurnedAwayLaws
