pub mod BlockLaws
pub mod ChannelLaws
pub mod ReplayLaws
pub mod SeedLaws
