pub mod FirstWaits
pub mod OwnEvents
pub mod EventsFollowed
