pub mod HashLaws
pub mod ResponseLaws
pub mod VerificationLaws
