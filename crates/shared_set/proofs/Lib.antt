pub mod Counts
mod Additions
mod Drawn
