pub mod Places
pub mod Waits
pub mod Services
pub mod Followed
