pub mod Errors
pub mod Queues
pub mod Channels
pub mod Calls
pub mod Stages
