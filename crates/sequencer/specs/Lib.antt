pub mod Forwards
pub mod Queues
pub mod Slots
