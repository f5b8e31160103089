pub mod Bodies
pub mod Tables
