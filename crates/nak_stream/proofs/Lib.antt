pub mod Lists
pub mod Orders
pub mod Rings
pub mod Windows
