pub mod Records
pub mod Built
pub mod File
