pub mod Agreed
pub mod Binding
pub mod Bounds
pub mod Links
pub mod Sending
pub mod Serving
pub mod Whole
