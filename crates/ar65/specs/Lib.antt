pub mod Librarian
pub mod Faults
pub mod Naming
pub mod Laws
