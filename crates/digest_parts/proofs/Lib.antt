pub mod Blocks
pub mod Laws
pub mod Majority
pub mod Words
