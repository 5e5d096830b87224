use Rattle.std.proofs.Common.{rules}
use Rattle.view_install.proofs.promise.Promise.offer.Goals as goal

pub returns-then-eq-clause-answer : goal.returns-then-eq-clause-answer
returns-then-eq-clause-answer c = let h = c.if-eq.ensures in search rules

pub returns-then-eq-clause-promise : goal.returns-then-eq-clause-promise
returns-then-eq-clause-promise c = let h = c.if-eq.ensures in search rules

pub returns-else-eq-clause-answer : goal.returns-else-eq-clause-answer
returns-else-eq-clause-answer c = let h = c.if-eq.ensures in search rules

pub returns-else-eq-clause-promise : goal.returns-else-eq-clause-promise
returns-else-eq-clause-promise c = let h = c.if-eq.ensures in search rules
