pub mod Facts
pub mod Merges
pub mod Outcomes
pub mod Apart
