use Rattle.std.proofs.Common.{rules}
use Rattle.tickets.proofs.tickets.moved.Goals as goal

pub returns-in-Sent-stage : goal.returns-in-Sent-stage
returns-in-Sent-stage c = search rules
