pub mod RunsPrint
pub mod SettledRuns
pub mod StateLinesFollow
pub mod ChecksEnd
pub mod DrawingsEnd
pub mod ProcessesWrite
pub mod AsidesGrow
pub mod LawOfAsides
