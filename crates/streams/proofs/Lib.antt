mod Again
mod Kept
mod Records
pub mod Words
