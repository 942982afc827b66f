-- The first logon in a world, by a channel that is opened for it.
pub mod ExampleLogon
pub mod FirstLogonRuns
pub mod FirstRuns
pub mod FirstTraces
pub mod FirstWorlds
