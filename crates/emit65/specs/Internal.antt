-- Definitions in terms of the code's types, for contracts within the crate only.
pub mod Drafts
