pub mod Descriptions
pub mod Refusals
pub mod KindNumbers
pub mod Shapes
