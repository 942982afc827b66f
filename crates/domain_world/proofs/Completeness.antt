-- That logons which come one at a time succeed: the moves from one start to the next, and what is written down of them.
pub mod ApartLaws
pub mod BookStayLaws
pub mod HeardOnceLaws
pub mod JudgedNoteLaws
pub mod LogonWalkLaws
pub mod MomentLaws
pub mod OwnLogonLaws
pub mod PlainLaws
pub mod RestingLaws
pub mod SuccessLaws
pub mod UnitNotedLaws
