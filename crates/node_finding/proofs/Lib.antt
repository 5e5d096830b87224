pub mod RanksAreOrdered
pub mod StepsMayBeDone
