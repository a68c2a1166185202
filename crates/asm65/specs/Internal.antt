-- What only the contracts within the crate cite: definitions in the terms of its code.
pub mod AssemblerState
pub mod RunState
pub mod StoreFailures
