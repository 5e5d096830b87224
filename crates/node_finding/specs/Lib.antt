pub mod Lineages
pub mod Ranks
pub mod Finding
