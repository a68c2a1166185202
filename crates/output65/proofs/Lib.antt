pub mod ExactEffects
pub mod Texts
pub mod WriteFailureLemmas
