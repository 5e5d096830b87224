pub mod Spelled
pub mod Reading
pub mod NumberLaws
