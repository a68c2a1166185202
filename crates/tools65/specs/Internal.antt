-- Definitions in terms of the code, for contracts within the crate alone.
pub mod ComputedOutcomes
