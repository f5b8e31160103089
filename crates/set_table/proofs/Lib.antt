pub mod Words
pub mod Tables
pub mod Fitting
