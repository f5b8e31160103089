mod AfterRecords
mod Behind
pub mod Filled
pub mod Whole
