mod WindowsReported
mod SlotsPutOut
mod QueuesServe
mod OffersToOrder
mod Windows
mod AcksKnown
mod ActsInTurn
mod ActsOfCoordinator
mod ActsOfTurns
mod ActsOfFollowers
mod OwnSends
mod TurnsFollow
mod FewAreOrdered
mod KeepSettled
mod KeepBetweenSteps
mod OthersDeliver
mod RangesHeld
pub mod ActsOfAnswers
pub mod NewViewTraffic
pub mod Covered
pub mod GoesFurther
