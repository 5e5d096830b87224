use Rattle.std.proofs.Common.{rules}
use Rattle.tickets.proofs.tickets.Pending.given_up.Goals as goal

pub returns-in-Sent : goal.returns-in-Sent
returns-in-Sent c = search rules
