pub mod ReportLaws
pub mod FlagLaws
pub mod ChunkLaws
pub mod InstallLaws
pub mod BodyLaws
pub mod PacketLaws
pub mod Sizes
pub mod OneSpelling
