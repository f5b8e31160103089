pub mod Carry
pub mod Table
pub mod Every
pub mod Points
