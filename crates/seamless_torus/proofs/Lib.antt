pub mod Tables
pub mod Lengths
pub mod Marked
