pub mod KeepOrder
pub mod WhyMembersRefuse
pub mod KeepConnected
pub mod StepsPromise
pub mod DatagramsStep
