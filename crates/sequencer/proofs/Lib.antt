pub mod FirstThatPasses
pub mod Queues
pub mod Slots
