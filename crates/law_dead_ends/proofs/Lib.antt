mod CandidatesAlone
mod CountersGo
mod KeepFlushes
mod ComesAlone
mod LawOfDeadEnds
