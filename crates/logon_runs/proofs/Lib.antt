-- `Scenes` are of single moves. `RunLaws` and `FirstLogon` put them in a row, `Phases` take them in any order, where
-- the logon is granted; `Failing`, `AnyAnswer` and `OtherKeys` where it needn't be. `RestLaws`, `RestStayLaws` and
-- `SecretRestLaws` are of the world between two logons.
pub mod AmongLaws
pub mod AnyAnswer
pub mod EnoughLaws
pub mod Failing
pub mod FirstLogon
pub mod GrantLaws
pub mod GrantsToldLaws
pub mod OtherKeys
pub mod Phases
pub mod RestLaws
pub mod RestStayLaws
pub mod RunLaws
pub mod Scenes
pub mod SecretRestLaws
