pub mod MembersListed
