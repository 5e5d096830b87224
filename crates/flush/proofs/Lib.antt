pub mod Covers
pub mod Groups
pub mod ReportsKept
pub mod Reports
pub mod CutItems
pub mod FewItems
