pub mod AcceptedOrderLaws
pub mod ChannelSeedLaws
pub mod OrderStepLaws
pub mod RequestLaws
pub mod RequestStepLaws
pub mod SameLaws
pub mod SecretOrderLaws
pub mod TimestampLaws
