pub mod Bodies
pub mod Sizes
pub mod ReadBack
pub mod Packing
pub mod Demand3
pub mod File
