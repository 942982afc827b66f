-- The turns of members: what is kept of them, and when an answer is taken in one.
pub mod CallUnitLaws
pub mod TurnChangedLaws
pub mod TurnFactLaws
pub mod TurnKeepLaws
pub mod TurnMarkLaws
pub mod TurnNotedLaws
pub mod TurnQuietLaws
pub mod TurnRunLaws
pub mod TurnSideLaws
pub mod TurnWholeLaws
