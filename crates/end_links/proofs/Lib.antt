pub mod BindingLaws
pub mod BoundLaws
pub mod ByteLaws
pub mod KeepLaws
pub mod LinkLaws
pub mod ServingLaws
pub mod WholeLaws
