pub mod WholeRoot
pub mod Root
pub mod Near
pub mod Scan
pub mod Zeros
pub mod Lanes
