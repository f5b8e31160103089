pub mod Shapes
pub mod Checked
pub mod KindNumbers
