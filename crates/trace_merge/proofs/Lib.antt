pub mod ProcessesShown
pub mod KeepCome
pub mod KeepShown
pub mod LawOfCircles
pub mod LawOfMerges
mod ElementsStand
mod MembersOwnTraces
mod EntryStatesKnown
mod MergesKeepMembers
mod EventsShow
mod KeepPlaces
mod KeepMessages
mod KeepEntries
mod LawOfOrders
