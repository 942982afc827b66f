pub mod AcceptLaws
pub mod RangeLaws
pub mod RunLaws
pub mod SignatureParts
pub mod TurnLaws
