pub mod Segments
pub mod Checks
pub mod Framex
