pub mod Limits
pub mod Lists
pub mod Kinds
pub mod Claims
