pub mod Vectors
pub mod Arrays
pub mod DelGeoCore
pub mod Trimesh3Primitive
pub mod Polyline3
pub mod Polyloop3
pub mod Adapted
