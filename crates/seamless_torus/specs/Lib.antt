pub mod Polyloop3
pub mod Frames
