pub mod DialLaws
pub mod DrawLaws
pub mod KeepLaws
pub mod NextLaws
pub mod SealedLaws
pub mod ServedLaws
pub mod TurnLaws
pub mod WholeLaws
