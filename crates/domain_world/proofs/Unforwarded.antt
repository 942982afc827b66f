-- Runs in which no call comes for a trusted domain.
pub mod ApartSeenLaws
pub mod CarryLaws
pub mod ErasedBookLaws
pub mod ErasedLaws
pub mod RunSeenLaws
pub mod SeenLaws
