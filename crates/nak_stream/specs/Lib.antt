pub mod Windows
pub mod Orders
pub mod Rings
