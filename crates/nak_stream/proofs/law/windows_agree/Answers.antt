use Rattle.nak_stream.proofs.Orders.{agrees-empty, agrees-taken, agrees-delivering, agrees-collected, agrees-longer, next-of-order, same-entry}
use Rattle.nak_stream.proofs.law.windows_agree.Goals as goal

pub returns-clause-empty : goal.returns-clause-empty
returns-clause-empty c = agrees-empty

pub returns-clause-kept : goal.returns-clause-kept
returns-clause-kept c = λ order w a. record {
  taken = λ k e at. agrees-taken order w k e at a;
  delivering = agrees-delivering order w a;
  collected = λ t. agrees-collected order w t a;
  longer = λ more kept. agrees-longer order more w kept a;
}

pub returns-clause-next : goal.returns-clause-next
returns-clause-next c = next-of-order

pub returns-clause-same : goal.returns-clause-same
returns-clause-same c = same-entry
