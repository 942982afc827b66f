pub mod Levels
pub mod Opening
pub mod Securing
pub use Rattle.ntlm_seal.specs.Sessions
pub use Rattle.ntlm_seal.specs.Turns
pub use Rattle.rpc_units.specs.Joining
pub use Rattle.rpc_units.specs.Sealed
pub use Rattle.rpc_units.specs.Writing
