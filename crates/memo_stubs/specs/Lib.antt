pub mod Interface
pub mod Memo
pub use Rattle.ndr_codec.specs.Stub
pub use Rattle.wire_base.specs.Memory
