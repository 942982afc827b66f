-- The first logon in a world, by a channel that is opened for it.
pub mod ExampleLogonLaws
pub mod FirstLogonRunLaws
pub mod FirstLogonTraceLaws
pub mod FirstRunLaws
pub mod FirstTraceLaws
pub mod FirstWorldLaws
