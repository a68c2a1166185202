-- Definitions for contracts within the crate only.
pub mod BindingFaults
pub mod Cursors
