pub mod Axes
pub mod Vertices
pub mod Rings
