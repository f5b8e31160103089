pub mod Ledger
pub mod Calls
pub mod Shapes
pub mod Holds
pub mod Demand3
pub mod File
