pub mod Faults
pub mod Items
pub mod Laws
pub mod Parsing
