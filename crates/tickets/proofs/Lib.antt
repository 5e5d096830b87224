mod OneChange
mod FirstEnd
mod EndsGrow
mod AllChanges
mod AnsweredOnce
mod AnsweredInTime
mod AnsweredTruly
