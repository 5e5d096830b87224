pub mod EntriesChange
pub mod ReplacementsChange
pub mod OutcomesSay
pub mod VersionsOnlyRise
pub mod StampsSpellViews
pub mod AnswersSayWhat
pub mod TicketsAreKept
