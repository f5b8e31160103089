pub mod Asks
pub mod Drawable
mod Untwisted
pub mod Lengths
pub mod Drawn
pub mod Best
pub mod Corners
