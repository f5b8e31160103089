pub mod Tables
pub mod Axes
pub mod Parts
pub mod Lengths
pub mod Later
