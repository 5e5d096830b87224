pub mod Ledger
pub mod Laws
pub mod Reaching
pub mod Story
pub mod Wrong
