pub mod Fencing
pub mod Stamped
pub mod Guards
