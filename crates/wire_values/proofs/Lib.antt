pub mod Names
pub mod FieldLaws
pub mod ListLaws
pub mod MemberLaws
pub mod Lengths
pub mod Loops
