-- The sequences of both ends of a secure channel.
pub mod CallTakenLaws
pub mod CallTurnLaws
pub mod CalledLaws
pub mod CalledStepLaws
pub mod DialCountLaws
pub mod DialWalkLaws
pub mod OneTurnLaws
pub mod Own
pub mod ReplyCallLaws
pub mod SeedTurnLaws
pub mod SharedLaws
pub mod SharedRunLaws
pub mod StampLaws
pub mod SumLaws
pub mod TrustDialLaws
pub mod TrustTurnLaws
pub mod WaitStepLaws
