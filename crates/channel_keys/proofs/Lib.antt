pub mod CredLaws
