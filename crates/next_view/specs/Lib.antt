pub mod ViewNotes
pub mod Candidates
pub mod Noting
pub mod Law
