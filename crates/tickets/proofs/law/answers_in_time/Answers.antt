use Rattle.tickets.proofs.AnsweredInTime.{none-is-late, times-stay}
use Rattle.tickets.proofs.law.answers_in_time.Goals as goal

pub returns-clause-none_is_late : goal.returns-clause-none_is_late
returns-clause-none_is_late c = none-is-late

pub returns-clause-times_stay : goal.returns-clause-times_stay
returns-clause-times_stay c = times-stay
