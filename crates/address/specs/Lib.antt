pub mod Ids
pub mod Refusals
pub mod HeldBytes
