pub mod Hashes
pub mod Keys
pub mod Responses
pub mod Verification
pub use Rattle.ntlm_flags.specs.Flags
pub use Rattle.des_cipher.specs.Des
pub use Rattle.ntlm_messages.specs.Text
