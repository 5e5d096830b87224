use Rattle.std.proofs.Common.{rules}
use Rattle.trace_checker.proofs.checker.judge.Goals as goal

pub returns-in_err-advance-in-None : goal.returns-in_err-advance-in-None
returns-in_err-advance-in-None g c = search rules

pub returns-in-Some : goal.returns-in-Some
returns-in-Some g c = search rules

pub returns-in_err-note-in-None : goal.returns-in_err-note-in-None
returns-in_err-note-in-None g c = search rules

pub returns-in_ok-note-in-None : goal.returns-in_ok-note-in-None
returns-in_ok-note-in-None g c = search rules

pub returns-else-branch : goal.returns-else-branch
returns-else-branch g c = search rules
