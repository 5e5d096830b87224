pub mod InViews
pub mod ViewStates
pub mod Coordinators
pub mod Goings
pub mod Turns
pub mod Followers
pub mod Takes
