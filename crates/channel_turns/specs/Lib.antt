pub mod Dials
pub mod Hearing
pub mod Laws
pub mod Rests
pub mod SealedTurns
pub mod Turning
pub mod Turns
pub use Rattle.authenticators.specs.Timestamps
