pub mod Offers
pub mod Peers
pub mod Detectors
pub mod RunnerNotes
pub mod Turns
pub mod Rounds
pub mod Seeking
pub mod Lends
