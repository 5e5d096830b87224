pub mod Sizes
pub mod Chat
pub mod Encoding
pub mod Meanings
pub mod ChatText
pub mod LineLaws
pub mod ChatLaws
