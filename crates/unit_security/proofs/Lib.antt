pub mod ByteLaws
pub mod FragmentLaws
pub mod OpeningLaws
