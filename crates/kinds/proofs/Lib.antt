pub mod Bounds
pub mod Shift
pub mod AsSurface
pub mod Claims
