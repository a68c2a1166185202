pub mod Laws
pub mod RunEffects
pub mod CountedEffects
pub mod Outputs
pub mod WriteFailures
pub mod Stream
