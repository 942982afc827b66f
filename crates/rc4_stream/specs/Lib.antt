pub mod CellStates
pub mod Rc4
pub mod Steps
