-- That nothing stays open on the links between members and controllers.
pub mod QuietListenLaws
pub mod QuietRunLaws
pub mod QuietStepLaws
pub mod QuietTurnLaws
pub mod TrustHearLaws
pub mod TrustSendLaws
pub mod TrustTurnByteLaws
