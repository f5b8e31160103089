pub mod Parts
pub mod Overwrite
pub mod Blocks
pub mod Sums
pub mod Every
