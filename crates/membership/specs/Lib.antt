pub mod HeldChunks
pub mod MemberStates
pub mod InSteps
pub mod Installs
pub mod Changes
pub mod Doing
