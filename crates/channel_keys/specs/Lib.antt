pub mod ChannelTypes
pub mod Credentials
pub mod Flags
pub mod Hidden
pub mod SessionKeys
pub use Rattle.des_cipher.specs.Des
