pub mod DeadEnds
