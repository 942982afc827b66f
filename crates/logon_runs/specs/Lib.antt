-- `Scenes` are what one move shows of a client, its member and its controller. `Runs` and `FirstLogon` put moves in a
-- row, `Phases` take them in any order, where the logon is granted; `Failing`, `AnyAnswer` and `OtherKeys` where it
-- needn't be. `Rests` are of the world between two logons.
pub mod AnyAnswer
pub mod Failing
pub mod FirstLogon
pub mod Grants
pub mod GrantsTold
pub mod OtherKeys
pub mod Phases
pub mod Rests
pub mod Runs
pub mod Scenes
pub mod SecretRests
