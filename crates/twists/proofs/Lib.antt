pub mod Leaders
pub mod Chosen
pub mod Tables
pub mod Octants
pub mod Places
pub mod Finites
