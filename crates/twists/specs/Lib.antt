pub mod Twists
pub mod Eighth
pub mod Scores
pub mod Leaders
pub mod Chosen
