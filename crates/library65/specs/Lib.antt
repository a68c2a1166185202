pub mod FailedRequests
pub mod Fault
pub mod Internal
pub mod Laws
pub mod Libraries
pub mod Reading
pub mod Selection
pub mod Spelling
