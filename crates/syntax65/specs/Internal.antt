-- Definitions that only contracts within the crate cite, in the terms of its code.
pub mod Positions
