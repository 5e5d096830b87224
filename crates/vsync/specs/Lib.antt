pub mod Ends
pub mod Grammar
pub mod Kept
pub mod Plans
pub mod Settings
pub mod Topics
pub mod Words
