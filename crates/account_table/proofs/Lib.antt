pub mod ChangeLaws
pub mod DocumentLaws
pub mod IndexLaws
pub mod KeptLaws
pub mod ListLaws
pub mod SecretLaws
pub mod TableFormLaws
pub mod TableLaws
