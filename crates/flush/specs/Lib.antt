pub mod Cuts
pub mod Flushes
pub mod Covers
