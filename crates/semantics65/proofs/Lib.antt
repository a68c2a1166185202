pub mod SlotResolution
pub mod Segments
