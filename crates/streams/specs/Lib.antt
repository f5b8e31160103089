pub mod Again
pub mod Filled
pub mod Record
