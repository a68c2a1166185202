pub mod Contents
pub mod Layout
pub mod Module
pub mod Norms
pub mod Numbering
pub mod Symbols
pub mod Types
pub mod Views
