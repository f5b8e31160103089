pub mod Tables
pub mod Caps
pub mod ClosedCylinder
