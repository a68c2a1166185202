-- Definitions in terms of the code, for contracts within the crate alone.
pub mod Reading
pub mod SumContexts
pub mod Tables
