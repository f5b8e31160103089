pub mod Bodies
pub mod Additions
pub mod Set
