pub mod KeepStandings
pub mod KeepInViews
pub mod KeepInstalls
pub mod TestsOfOneView
pub mod TestsOfViewChanges
pub mod KeepStates
pub mod EntryStatesKept
pub mod KeepLasts
