pub mod LoopSteps
pub mod Rows
pub mod LineExistence
pub mod ClapClauses
pub mod AddedArguments
