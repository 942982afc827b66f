pub mod Channels
pub mod SecureChannels
pub mod Sequences
pub mod Timestamps
pub use Rattle.channel_keys.specs.Credentials
pub use Rattle.channel_keys.specs.Des
pub use Rattle.channel_keys.specs.SessionKeys
