pub mod Additions
pub mod Lengths
pub mod Progress
pub mod Built
pub mod File
