pub mod Rc4Laws
pub mod StepLemmas
