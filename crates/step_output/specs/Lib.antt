pub mod Names
pub mod Outputs
pub mod Steps
pub mod Calm
