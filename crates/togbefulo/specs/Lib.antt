pub mod Face
pub mod SetFace
