pub mod Points
pub mod Turns
pub mod Frames
