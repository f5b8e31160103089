pub mod Limits
pub mod Triangles
pub mod Quads
pub mod Grid
pub mod Raise
pub mod Caps
pub mod Whole
