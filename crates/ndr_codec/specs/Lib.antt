pub mod Cursor
pub mod Layout
pub mod Parts
pub mod Reading
pub mod Stub
pub mod Writing
