pub mod Tables
pub mod Walks
pub mod Polyline3
pub mod Polyloop3
pub mod Capsule
pub mod Swept
