mod QueuesGiveFirst
pub mod StepsOfChannels
mod ConnectsStart
