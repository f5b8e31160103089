pub mod Entries
pub mod Room
pub mod Buffers
pub mod Table
