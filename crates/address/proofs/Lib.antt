pub mod SameIds
pub mod Plain
