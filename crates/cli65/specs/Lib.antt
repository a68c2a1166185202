pub mod CommandLine
pub mod Defining
pub mod Laws
pub mod Line
pub mod LineFaults
pub mod Messages
