pub mod AddressesOnce
pub mod LeadersStandFirst
