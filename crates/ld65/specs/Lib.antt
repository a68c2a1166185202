pub mod Internal
pub mod Laws
pub mod Linkage
pub mod Naming
pub mod Faults
