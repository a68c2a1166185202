pub mod Assembly
pub mod Failing
pub mod Internal
