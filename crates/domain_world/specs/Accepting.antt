-- What a run's answers rest on: what is left to show of a run, and what follows from it.
pub mod Answered
pub mod Carried
pub mod KeysMade
pub mod Listening
pub mod ReadBack
pub mod Runs
pub mod SeenSteps
pub mod Sequences
pub mod Units
