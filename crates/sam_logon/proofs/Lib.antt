pub mod CountLaws
pub mod GrantedLaws
pub mod VerdictLaws
