pub mod Items
pub mod Runs
pub mod Merged
pub mod Known
pub mod Systems
pub mod Plays
pub mod KnownOfChannels
pub mod Sealed
