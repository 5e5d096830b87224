pub mod Ordered
pub mod Refusals
pub mod Heard
pub mod Messages
pub mod Firsts
pub mod Views
pub mod Ignoring
pub mod Doing
