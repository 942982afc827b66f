pub mod BindLaws
pub mod ExchangeLaws
pub mod FrameLaws
pub mod NameLaws
pub mod LastLaws
