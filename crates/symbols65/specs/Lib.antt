pub mod Evaluations
pub mod Internal
pub mod Measuring
pub mod Plains
pub mod Resolving
pub mod Tables
pub mod Views
